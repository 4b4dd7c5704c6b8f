-- A walk through sets on its way: what is left of it leads to the same end, and its lines stand one behind the other.
-- Assumes nothing.
use Rattle.std.proofs.Common.{◌≡◌, ℕ, ◌+◌, ◌-◌, ◌*◌, ◌<◌, ◌≤◌, min, Bool, true, false, cond, ltb, List, [], ◌++◌, length, take, drop, sym, refl, ap, arith, length-append, length-drop, ltb-false, ltb-true, take_at, drop_at, drop-drop, ◌/◌, ◌∙◌}
use Rattle.paper.specs.Sizes.{SETS_MAX}
use Rattle.lines.specs.declared.Pen.{Pen}
use Rattle.lines.specs.Pen.{PLACE_MAX, Writes, Lays}
use Rattle.lines.proofs.Pens.{then, nothing}
use Rattle.lines.proofs.Lays as stops
use Rattle.reading.specs.declared.Charges.{Charges}
use Rattle.records.specs.Walks.{front_of, records_of, size_of}
use Rattle.records.proofs.Items as items
use Rattle.planning.specs.declared.Course.{Course}
use Rattle.planning.specs.Sets.{SET, set_extent, charges_in}
use Rattle.planning.specs.Lines.{FOUR_MAX}
use Rattle.planning.specs.Course.{course_after, line_for, Run, run_of, run_after, turned_to}
use Rattle.planning.proofs.Pieces.{size_sets, left_over}
use Rattle.planning.proofs.Sets.{short, long, set_framing}

-- the lines so far have room: there are at most as many as sets, and behind the limit there are none
roomy : (c : Course) (set : Charges) (used n : ℕ) → n ≡ length (line_for c set) → n ≤ FOUR_MAX
    → used ≤ FOUR_MAX * min c.sets (SETS_MAX + 1) → used + n ≤ FOUR_MAX * min (course_after c set).sets (SETS_MAX + 1)
unfolding course_after line_for
roomy c set used n e h room = go (ltb c.sets SETS_MAX) refl _ _ _ refl refl e
  where
    go : (t : Bool) → ltb c.sets SETS_MAX ≡ t → (line : List ℕ) (in-limit over : Course) → in-limit.sets ≡ c.sets + 1 → over.sets ≡ SETS_MAX + 1
        → n ≡ length (cond t line []) → used + n ≤ FOUR_MAX * min (cond t in-limit over).sets (SETS_MAX + 1)
    go true is line in-limit over f g e = omega (arith, ltb-true c.sets SETS_MAX is, f)
    go false is line in-limit over f g e = omega (arith, ltb-false c.sets SETS_MAX is, g, e)

-- what is asked of a way that a pen goes on: a text stands behind a text, and its bound is one
record Way (way : Pen → Pen → List ℕ → ℕ → Type 0) : Type 0 where
  behind : {a b c : Pen} {s t : List ℕ} {m n : ℕ} → way a b s m → way b c t n → way a c (s ++ t) (m + n)
  within : {a b : Pen} {s : List ℕ} {m : ℕ} → way a b s m → length s ≤ m
  bound : {a b : Pen} {s : List ℕ} {m : ℕ} (n : ℕ) → way a b s m → length s ≤ n → way a b s n

-- a walk that has taken `at` bytes, with its course now, and what the pen did, in such a way
pub record LeftBy (way : Pen → Pen → List ℕ → ℕ → Type 0) (c : Course) (input : List ℕ) (first pen : Pen) (next : Course) (at : ℕ) : Type 0 where
  -- the lines laid so far
  pub text : List ℕ
  pub leads : items.Left set_framing charges_in run_after (run_of c []) input (run_of next text) at
  pub wrote : way first pen text (FOUR_MAX * min next.sets (SETS_MAX + 1))
  pub by_input : SET * length text ≤ FOUR_MAX * at

-- the same by what is left of the input
pub record GoesBy (way : Pen → Pen → List ℕ → ℕ → Type 0) (c : Course) (input : List ℕ) (first pen : Pen) (next : Course) (rest : List ℕ) : Type 0 where
  pub at : ℕ
  pub rest_is : rest ≡ drop at input
  pub left : LeftBy way c input first pen next at

-- the set in front is taken, and its line is laid behind the others
abbrev pub GoesOn : (way : Pen → Pen → List ℕ → ℕ → Type 0) → Type 0
GoesOn way =
    (c : Course) (input : List ℕ) (first pen pen' : Pen) (next next' : Course) (at : ℕ) → LeftBy way c input first pen next at → SET ≤ length input - at
    → next' ≡ course_after next (charges_in (take SET (drop at input))) → way pen pen' (line_for next (charges_in (take SET (drop at input)))) FOUR_MAX
    → LeftBy way c input first pen' next' (at + SET)

-- it ends where fewer bytes than a set are left
abbrev pub EndsSo : (way : Pen → Pen → List ℕ → ℕ → Type 0) → Type 0
EndsSo way =
    (c : Course) (input : List ℕ) (first pen : Pen) (next : Course) (at : ℕ) → LeftBy way c input first pen next at → length input - at < SET
    → (next ≡ (turned_to c input).kept.course) × ((at ≡ size_of (records_of set_extent input)) × (at ≤ length input))
    × (way first pen (turned_to c input).kept.text (FOUR_MAX * (SETS_MAX + 1)) × (SET * length (turned_to c input).kept.text ≤ FOUR_MAX * length input))

-- both by what is left of the input
abbrev pub TakesOn : (way : Pen → Pen → List ℕ → ℕ → Type 0) → Type 0
TakesOn way =
    (c : Course) (input : List ℕ) (first pen pen' : Pen) (next next' : Course) (rest set rest' : List ℕ) → GoesBy way c input first pen next rest
    → rest ≡ set ++ rest' → length set ≡ SET → next' ≡ course_after next (charges_in set) → way pen pen' (line_for next (charges_in set)) FOUR_MAX
    → GoesBy way c input first pen' next' rest'

abbrev pub TakesTo : (way : Pen → Pen → List ℕ → ℕ → Type 0) → Type 0
TakesTo way =
    (c : Course) (input : List ℕ) (first pen : Pen) (next : Course) (rest : List ℕ) → GoesBy way c input first pen next rest → length rest < SET
    → (next ≡ (turned_to c input).kept.course) × ((length input / SET * SET ≡ size_of (records_of set_extent input)) × (length input / SET * SET ≤ length input))
    × (way first pen (turned_to c input).kept.text (FOUR_MAX * (SETS_MAX + 1)) × (SET * length (turned_to c input).kept.text ≤ FOUR_MAX * length input))

module _ (way : Pen → Pen → List ℕ → ℕ → Type 0) (law : Way way) where
  begins_by : (c : Course) (input : List ℕ) (first : Pen) → way first first [] 0 → LeftBy way c input first first c 0
  begins_by c input first none =
      record { text = []; leads = (omega arith, (refl, omega arith)); wrote = law.bound _ none (omega arith); by_input = omega arith }

  goes_on_by : GoesOn way
  unfolding run_after front_of
  goes_on_by c input first pen pen' next next' at left there e writes =
      let whole : set_extent (drop at input) ≡ SET = long (drop at input) (omega (arith, length-drop at input)) in
      let set = charges_in (take SET (drop at input)) in
      let on = items.goes_on_law set_framing charges_in run_after (run_of c []) input (run_of next left.text) at SET left.leads (sym whole) (omega arith)
      (omega (arith, left.leads.0)) in
      let few = law.within writes in
      let room = roomy next set (length left.text) _ refl few (law.within left.wrote) in
      record {
        text = left.text ++ line_for next set;
        leads = rw e (rw whole at on);
        wrote = law.bound _ (law.behind left.wrote writes) (rw e (simp length-append room));
        by_input = simp length-append (omega (arith, left.by_input, few));
      }

  ends_by : EndsSo way
  ends_by c input first pen next at left few =
      let none = short (drop at input) (omega (arith, length-drop at input)) in
      let end = items.ends set_framing charges_in run_after (run_of c []) input (run_of next left.text) at left.leads none in
      let course = ap (λ (r : Run). r.course) end.0 in
      let text = ap (λ (r : Run). r.text) end.0 in
      let few_bytes : SET * length left.text ≤ FOUR_MAX * length input = omega (arith, left.by_input, end.1.1) in
      let all = law.bound (FOUR_MAX * (SETS_MAX + 1)) left.wrote (omega (arith, law.within left.wrote)) in (
        course,
        end.1,
        (rw text at all, rw text at few_bytes),
      )

  takes_on_by : TakesOn way
  takes_on_by c input first pen pen' next next' rest set rest' g e long' is writes =
      let here : drop g.at input ≡ set ++ rest' = sym g.rest_is ∙ e in
      let front : set ≡ take SET (drop g.at input) = sym (ap (take SET) here ∙ take_at set rest' SET long') in
      let back : drop SET (drop g.at input) ≡ rest' = ap (drop SET) here ∙ drop_at set rest' SET long' in
      let there : SET ≤ length input - g.at = omega (arith, length-drop g.at input, ap length here, length-append set rest', long') in
      record {
        at = g.at + SET;
        rest_is = sym back ∙ drop-drop SET g.at input;
        left = goes_on_by c input first pen pen' next next' g.at g.left there (is ∙ ap (λ s. course_after next (charges_in s)) front) (rw front at writes);
      }

  takes_to_by : TakesTo way
  takes_to_by c input first pen next rest g few =
      let short_rest : length input - g.at < SET = omega (arith, length-drop g.at input, ap length g.rest_is) in
      let end = ends_by c input first pen next g.at g.left short_rest in
      (end.0, (omega (arith, size_sets input, left_over input), omega arith), end.2)

-- ---- a place that is behind each text

writes : Way Writes
writes = record { behind = then; within = λ p. p.within; bound = λ n p h. record { same = p.same; out = p.out; at = p.at; within = h } }

abbrev pub Left : Course → List ℕ → Pen → Pen → Course → ℕ → Type 0
Left = LeftBy Writes

-- it begins with nothing taken and nothing laid
pub begins : (c : Course) (input : List ℕ) (first : Pen) → Left c input first first c 0
begins c input first = begins_by Writes writes c input first (nothing first)

pub goes_on_law : GoesOn Writes
goes_on_law = goes_on_by Writes writes

pub ends_so : EndsSo Writes
ends_so = ends_by Writes writes

abbrev pub Goes : Course → List ℕ → Pen → Pen → Course → List ℕ → Type 0
Goes = GoesBy Writes

pub goes : (c : Course) (input : List ℕ) (first : Pen) → Goes c input first first c input
goes c input first = record { at = 0; rest_is = refl; left = begins c input first }

pub goes_on : {c next next' : Course} {input rest : List ℕ} {first pen pen' : Pen} (set rest' : List ℕ) → Goes c input first pen next rest → rest ≡ set ++ rest'
    → length set ≡ SET → next' ≡ course_after next (charges_in set) → Writes pen pen' (line_for next (charges_in set)) FOUR_MAX → Goes c input first pen' next' rest'
goes_on {c} {next} {next'} {input} {rest} {first} {pen} {pen'} set = takes_on_by Writes writes c input first pen pen' next next' rest set

pub goes_to : {c next : Course} {input rest : List ℕ} {first pen : Pen} → Goes c input first pen next rest → length rest < SET
    → (next ≡ (turned_to c input).kept.course) × ((length input / SET * SET ≡ size_of (records_of set_extent input)) × (length input / SET * SET ≤ length input))
    × (Writes first pen (turned_to c input).kept.text (FOUR_MAX * (SETS_MAX + 1)) × (SET * length (turned_to c input).kept.text ≤ FOUR_MAX * length input))
goes_to {c} {next} {input} {rest} {first} {pen} = takes_to_by Writes writes c input first pen next rest

-- ---- a place that may stop

lays : Way Lays
lays =
    record { behind = stops.then; within = λ p. p.within; bound = λ n p h. record { same = p.same; small = p.small; out = p.out; at = p.at; within = h } }

abbrev pub LeftAny : Course → List ℕ → Pen → Pen → Course → ℕ → Type 0
LeftAny = LeftBy Lays

pub begins_any : (c : Course) (input : List ℕ) (first : Pen) → length first.out.now ≤ PLACE_MAX → first.at ≤ PLACE_MAX → LeftAny c input first first c 0
begins_any c input first small there = begins_by Lays lays c input first (stops.nothing first small there)

pub goes_on_law_any : GoesOn Lays
goes_on_law_any = goes_on_by Lays lays

pub ends_so_any : EndsSo Lays
ends_so_any = ends_by Lays lays

abbrev pub GoesAny : Course → List ℕ → Pen → Pen → Course → List ℕ → Type 0
GoesAny = GoesBy Lays

pub goes_any : (c : Course) (input : List ℕ) (first : Pen) → length first.out.now ≤ PLACE_MAX → first.at ≤ PLACE_MAX → GoesAny c input first first c input
goes_any c input first small there = record { at = 0; rest_is = refl; left = begins_any c input first small there }

pub goes_on_any : {c next next' : Course} {input rest : List ℕ} {first pen pen' : Pen} (set rest' : List ℕ) → GoesAny c input first pen next rest
    → rest ≡ set ++ rest' → length set ≡ SET → next' ≡ course_after next (charges_in set) → Lays pen pen' (line_for next (charges_in set)) FOUR_MAX
    → GoesAny c input first pen' next' rest'
goes_on_any {c} {next} {next'} {input} {rest} {first} {pen} {pen'} set = takes_on_by Lays lays c input first pen pen' next next' rest set

pub goes_to_any : {c next : Course} {input rest : List ℕ} {first pen : Pen} → GoesAny c input first pen next rest → length rest < SET
    → (next ≡ (turned_to c input).kept.course) × ((length input / SET * SET ≡ size_of (records_of set_extent input)) × (length input / SET * SET ≤ length input))
    × (Lays first pen (turned_to c input).kept.text (FOUR_MAX * (SETS_MAX + 1)) × (SET * length (turned_to c input).kept.text ≤ FOUR_MAX * length input))
goes_to_any {c} {next} {input} {rest} {first} {pen} = takes_to_by Lays lays c input first pen next rest
