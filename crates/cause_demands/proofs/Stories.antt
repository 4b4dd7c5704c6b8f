-- The notes in a run: where a record holds a channel that is spoiled, its note is the one event that spoiled it; where it isn't,
-- nothing has since its opening. By what each step makes of each record.
-- Assumes nothing.
use Rattle.std.specs.Prelude.{Option}
use mathlib.Core.Path.{◌≡◌, refl, sym, ap, subst, ◌∙◌}
use mathlib.Core.Bool.{Bool, true, false, not, ◌&&◌, ◌||◌}
use mathlib.Core.Logic.{⊎_elim}
use mathlib.Core.List.{List}
use Prim.Native.Nat.{ℕ, zero, suc, ◌≤◌, ◌<◌}
use native.Mathlib.Omega.{arith}
use lib.ListN.{length, length-replicate}
use Rattle.paper.specs.Sizes.{PARTS}
use Rattle.paper.specs.Rows.{Verdict, fine, refused_with}
use Rattle.paper.specs.declared.Refusal.{Refusal}
use Rattle.lists.proofs.Cases.{true_not_false, lt_or_le}
use Rattle.channel.specs.declared.Record.{Record}
use Rattle.channel.specs.declared.Answer.{Answer}
use Rattle.channel.specs.declared.Answer.TheVariants.{Opened, Refused}
use Rattle.table.specs.declared.Table.{Table}
use Rattle.table.specs.Table.{empty_table, record_at}
use Rattle.client.specs.Events.{is_of}
use Rattle.steps.specs.Rows.{verdict_of, is_spoiled}
use Rattle.steps.specs.Refused.{is_of_three, is_of_reading}
use Rattle.steps.proofs.Blank.{blank_start}
use Rattle.cause.specs.declared.Note.{Note}
use Rattle.cause.specs.Notes.{blank_note, no_notes, note_at, turned, notes_after}
use Rattle.cause.proofs.Notes.{length_noted, noted_at}
use Rattle.cause_demands.specs.Why.{before, event_at, answer_at, open_before, spoiled_before, OpenedLast, TheOneEvent}
use Rattle.cause_demands.proofs.Moves.{Spoiling, Keeps, Moves, free, opens, goes}
use Rattle.cause_demands.proofs.Runs.{moves, is_open_law, is_spoiled_law, not_opened}

-- ---- the notes by the verdict

length_after : (i : ℕ) (v : Verdict) (t u : Table) (notes : List Note) → length (notes_after i v t u notes) ≡ length notes
unfolding notes_after
length_after i fine t u notes = refl
length_after i (refused_with why) t u notes = length_noted _ t u 0 notes

-- a record that didn't turn keeps its note
note_stays :
    (i : ℕ) (v : Verdict) (t u : Table) (notes : List Note) (k : ℕ) → k < length notes → turned (record_at t k) (record_at u k) ≡ false
    → note_at (notes_after i v t u notes) k ≡ note_at notes k
unfolding notes_after
note_stays i fine t u notes k h e = refl
note_stays i (refused_with why) t u notes k h e = noted_at _ t u notes k h ∙ rw e refl

-- one that turned is noted
note_set :
    (i : ℕ) (v : Verdict) (why : Refusal) (t u : Table) (notes : List Note) (k : ℕ) → k < length notes → v ≡ refused_with why
    → turned (record_at t k) (record_at u k) ≡ true → note_at (notes_after i v t u notes) k ≡ record { place = i; why = why }
unfolding notes_after
note_set i v why t u notes k h f e = rw f (noted_at _ t u notes k h ∙ rw e refl)

pub verdict_is : (answer : Answer) (why : Refusal) (concern : Option ℕ) → answer ≡ Refused why concern → verdict_of answer ≡ refused_with why
unfolding verdict_of
verdict_is answer why concern e = rw e

module _ (list : List ℕ) (pdus : List (List ℕ)) where
  -- the notes before the PDU at a place
  unfoldable pub notes_at : ℕ → List Note
  notes_at zero = no_notes
  notes_at (suc i) = notes_after i (verdict_of (answer_at list pdus i)) (before list pdus i).table (before list pdus (suc i)).table (notes_at i)

  pub length_notes : (i : ℕ) → length (notes_at i) ≡ PARTS
  unfolding notes_at no_notes PARTS
  length_notes zero = length-replicate PARTS blank_note
  length_notes (suc i) = length_after i _ _ _ (notes_at i) ∙ length_notes i

  -- ---- a channel's story

  abbrev OpenAnd : Bool → ℕ → ℕ → Type 0
  OpenAnd spoiled n i = (open_before list pdus n i ≡ true) × (spoiled_before list pdus n i ≡ spoiled)

  record Sound (n i : ℕ) : Type 0 where
    pub opening : OpenedLast list pdus n i
    pub calm : (j : ℕ) → opening.at < j → j ≤ i → OpenAnd false n j

  record Spoilt (n i q : ℕ) (why : Refusal) : Type 0 where
    pub opening : OpenedLast list pdus n i
    pub since : opening.at < q
    pub earlier : q < i
    pub calm : (j : ℕ) → opening.at < j → j ≤ q → OpenAnd false n j
    pub dead : (j : ℕ) → q < j → j ≤ i → OpenAnd true n j
    pub own : is_of n (event_at list pdus q) ≡ true
    pub concern : Option ℕ
    pub refused : answer_at list pdus q ≡ Refused why concern
    pub which : (is_of_reading why || is_of_three why) ≡ true

  abbrev Story : ℕ → ℕ → Note → Bool → Type 0
  Story n i note false = Sound n i
  Story n i note true = Spoilt n i note.place note.why

  -- ---- one step more

  module _ (n i : ℕ) where
    longer : (o : OpenedLast list pdus n i) → (answer_at list pdus i ≡ Opened n → ⊥) → OpenedLast list pdus n (suc i)
    longer o none =
        record {
          at = o.at;
          earlier = omega (arith, o.earlier);
          opened = o.opened;
          none_behind = λ j l m.
              ⊎_elim (λ (lt : j < i). o.none_behind j l lt)
              (λ (le : i ≤ j). let e : j ≡ i = omega arith in λ h. none (subst (λ (x : ℕ). answer_at list pdus x ≡ Opened n) e h))
              (lt_or_le j i);
        }

    -- a law of places up to i, and at the one behind
    one_more : (P : ℕ → Type 0) (from : ℕ) → ((j : ℕ) → from < j → j ≤ i → P j) → P (suc i) → (j : ℕ) → from < j → j ≤ suc i → P j
    one_more P from before-it at-it j l m =
        ⊎_elim (λ (lt : j < suc i). before-it j l (omega arith))
        (λ (le : suc i ≤ j). let e : suc i ≡ j = omega arith in subst P e at-it)
        (lt_or_le j (suc i))

    just_opened : answer_at list pdus i ≡ Opened n → OpenAnd false n (suc i) → Sound n (suc i)
    just_opened h then =
        record {
          opening = record { at = i; earlier = omega arith; opened = h; none_behind = λ j l m. absurd (omega arith) };
          calm = λ j l m. let e : suc i ≡ j = omega arith in subst (OpenAnd false n) e then;
        }

    sound_on : Sound n i → (answer_at list pdus i ≡ Opened n → ⊥) → OpenAnd false n (suc i) → Sound n (suc i)
    unfolding longer
    sound_on s none then = record { opening = longer s.opening none; calm = one_more (OpenAnd false n) s.opening.at s.calm then }

    spoilt_on : (q : ℕ) (why : Refusal) → Spoilt n i q why → (answer_at list pdus i ≡ Opened n → ⊥) → OpenAnd true n (suc i) → Spoilt n (suc i) q why
    unfolding longer
    spoilt_on q why s none then =
        record {
          opening = longer s.opening none;
          since = s.since;
          earlier = omega (arith, s.earlier);
          calm = s.calm;
          dead = one_more (OpenAnd true n) q s.dead then;
          own = s.own;
          concern = s.concern;
          refused = s.refused;
          which = s.which;
        }

    just_spoilt :
        Sound n i → (answer_at list pdus i ≡ Opened n → ⊥) → OpenAnd true n (suc i) → is_of n (event_at list pdus i) ≡ true
        → (s : Spoiling (answer_at list pdus i)) → Spoilt n (suc i) i s.why
    unfolding longer
    just_spoilt f none then own s =
        record {
          opening = longer f.opening none;
          since = f.opening.earlier;
          earlier = omega arith;
          calm = f.calm;
          dead = λ j l m. let e : suc i ≡ j = omega arith in subst (OpenAnd true n) e then;
          own = own;
          concern = s.concern;
          refused = s.refused;
          which = s.which;
        }

  -- ---- the notes tell the stories

  abbrev Tells : ℕ → ℕ → Type 0
  Tells i k =
      (record_at (before list pdus i).table k).taken ≡ true
      → Story (record_at (before list pdus i).table k).number i (note_at (notes_at i) k) (is_spoiled (record_at (before list pdus i).table k).stage)

  module _ (i k : ℕ) (inside : k < PARTS) where
    abbrev was : Record
    was = record_at (before list pdus i).table k

    abbrev is : Record
    is = record_at (before list pdus (suc i)).table k

    -- the channel afterwards, as its record has it
    then : (b : Bool) → is.taken ≡ true → is_spoiled is.stage ≡ b → OpenAnd b is.number (suc i)
    then b t e = (is_open_law list pdus is.number (suc i) k inside t refl, is_spoiled_law list pdus is.number (suc i) k inside t refl ∙ e)

    turned_is : (b c : Bool) → is_spoiled was.stage ≡ b → is_spoiled is.stage ≡ c → turned was is ≡ (not b && c)
    unfolding turned
    turned_is b c e f = rw (e, f)

    note_kept : turned was is ≡ false → note_at (notes_at (suc i)) k ≡ note_at (notes_at i) k
    unfolding notes_at
    note_kept e = note_stays i _ _ _ (notes_at i) k (rw (length_notes i) inside) e

    note_new : (s : Spoiling (answer_at list pdus i)) → turned was is ≡ true → note_at (notes_at (suc i)) k ≡ record { place = i; why = s.why }
    unfolding notes_at
    note_new s e = note_set i _ s.why _ _ (notes_at i) k (rw (length_notes i) inside) (verdict_is _ s.why s.concern s.refused) e

    -- a record that goes on with its number
    goes_on_law :
        was.taken ≡ true → Keeps (answer_at list pdus i) was is
        → (is_spoiled was.stage ≡ false → is_spoiled is.stage ≡ true → is_of was.number (event_at list pdus i) ≡ true)
        → Tells i k → (t : is.taken ≡ true) (b c : Bool) → is_spoiled was.stage ≡ b → is_spoiled is.stage ≡ c
        → Story is.number (suc i) (note_at (notes_at (suc i)) k) c
    goes_on_law w keeps own tells t b c e f =
        let same : was.number ≡ is.number = sym keeps.number in
        let none = not_opened list pdus is.number i k inside w same in
        let told : Story is.number i (note_at (notes_at i) k) b =
        subst (λ (x : Bool). Story is.number i (note_at (notes_at i) k) x) e
        (subst (λ (x : ℕ). Story x i (note_at (notes_at i) k) (is_spoiled was.stage)) same (tells w)) in
        by b c e f none told
      where
        by :
            (b c : Bool) → is_spoiled was.stage ≡ b → is_spoiled is.stage ≡ c → (answer_at list pdus i ≡ Opened is.number → ⊥)
            → Story is.number i (note_at (notes_at i) k) b → Story is.number (suc i) (note_at (notes_at (suc i)) k) c
        by true true e f none told =
            rw (note_kept (turned_is true true e f)) (spoilt_on is.number i _ _ told none (then true t f))
        by true false e f none told = absurd (true_not_false (sym (keeps.still e) ∙ f))
        by false false e f none told = sound_on is.number i told none (then false t f)
        by false true e f none told =
            let s = keeps.turns e f in
            rw (note_new s (turned_is false true e f))
            (just_spoilt is.number i told none (then true t f)
            (subst (λ (x : ℕ). is_of x (event_at list pdus i) ≡ true) (sym keeps.number) (own e f)) s)

    tells_next : Moves (event_at list pdus i) (answer_at list pdus i) was is → Tells i k → Tells (suc i) k
    tells_next (free f) tells t = absurd (true_not_false (sym t ∙ f))
    tells_next (opens w t' c a) tells t = rw c (just_opened is.number i a (then false t c))
    tells_next (goes w keeps own) tells t = goes_on_law w keeps own tells t (is_spoiled was.stage) (is_spoiled is.stage) refl refl

  none_taken : (k : ℕ) → k < PARTS → (record_at empty_table k).taken ≡ true → ⊥
  none_taken k h e = true_not_false (sym e ∙ ap (λ (r : Record). r.taken) (blank_start k h))

  tells : (i k : ℕ) → k < PARTS → Tells i k
  unfolding before
  tells zero k h t = absurd (none_taken k h t)
  tells (suc i) k h t = tells_next i k h (moves list pdus i k) (tells i k h) t

  -- ---- so the note of a spoiled channel's record is the one event

  pub the_event :
      (n i k : ℕ) → k < PARTS → (record_at (before list pdus i).table k).taken ≡ true
      → (record_at (before list pdus i).table k).number ≡ n → is_spoiled (record_at (before list pdus i).table k).stage ≡ true
      → TheOneEvent list pdus n i (note_at (notes_at i) k).place (note_at (notes_at i) k).why
  the_event n i k h t e d =
      let s : Spoilt n i (note_at (notes_at i) k).place (note_at (notes_at i) k).why =
      subst (λ (x : Bool). Story n i (note_at (notes_at i) k) x) d
      (subst (λ (x : ℕ). Story x i (note_at (notes_at i) k) (is_spoiled (record_at (before list pdus i).table k).stage)) e (tells i k h t)) in
      let q = (note_at (notes_at i) k).place in
      record {
        opening = s.opening;
        since = s.since;
        earlier = s.earlier;
        own = s.own;
        open_before_law = (s.calm q s.since (omega arith)).0;
        not_yet = (s.calm q s.since (omega arith)).1;
        open_behind = (s.dead (suc q) (omega arith) s.earlier).0;
        turned = (s.dead (suc q) (omega arith) s.earlier).1;
        only = λ j l m was-not is-then.
            ⊎_elim
            (λ (lt : q < j). absurd (true_not_false (sym (s.dead j lt (omega arith)).1 ∙ was-not)))
            (λ (le : j ≤ q).
            ⊎_elim (λ (lt : j < q). absurd (true_not_false (sym is-then ∙ (s.calm (suc j) (omega arith) lt).1)))
            (λ (ge : q ≤ j). omega arith) (lt_or_le j q))
            (lt_or_le q j);
        concern = s.concern;
        refused = s.refused;
        which = s.which;
      }
