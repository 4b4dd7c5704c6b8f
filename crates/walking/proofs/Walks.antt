-- The laws of a walk: what is left of it at each turn of its loop, and where it ends. They hold for any program on the manager.
-- Assumes nothing.
use Rattle.std.proofs.Common.{◌≡◌, ℕ, ◌+◌, ◌-◌, ◌<◌, ◌≤◌, List, [], length, drop, refl, ap, ◌∙◌, arith, length-append, length-drop, drop-drop}
use Rattle.lists.specs.Bytes.{laid}
use Rattle.lists.proofs.Laid.{laid_behind, length_laid}
use Rattle.records.specs.Walks.{Program, Went, stay, onward, walk_through}
use Rattle.records.proofs.Pieces.{Framed, front, first_taken}
use Rattle.walking.specs.declared.Kept.{Kept}
use Rattle.walking.specs.declared.Stepped.{Stepped}
use Rattle.walking.specs.Walking.{Walk, walk_of, kept_of, Steps, Walks}

-- the walk through the records from a place of the input on, with what is used of the room gone
abbrev pub from : Program Walk → List ℕ → ℕ → Walk → ℕ → ℕ → Went Walk
from p input room w at used = walk_through p (room - used) w (drop at input)

-- a walk has come to a place of the input and of the output: what is left of it leads to the same end
pub record Left (input out₀ : List ℕ) (went : Went Walk) (out : List ℕ) (at used : ℕ) (left : Went Walk) : Type 0 where
  pub at_in : at ≤ length input
  pub used_in_law : used ≤ length out
  pub same_room : length out ≡ length out₀
  pub end : left.kept ≡ went.kept
  pub taken : at + left.taken ≡ went.taken
  pub many : used + length left.text ≡ length went.text
  pub lines : laid out used left.text ≡ laid out₀ 0 went.text

at_first_law : (input out : List ℕ) (went : Went Walk) → Left input out went out 0 0 went
at_first_law input out went =
    record {
      at_in = omega arith;
      used_in_law = omega arith;
      same_room = refl;
      end = refl;
      taken = omega arith;
      many = omega arith;
      lines = refl;
    }

-- before the first record all is left
pub begins : (p : Program Walk) (input out : List ℕ) (w : Walk) → Left input out (walk_through p (length out) w input) out 0 0 (from p input (length out) w 0 0)
begins p input out w =
    let e : length out - 0 ≡ length out = omega arith in
    rw e (at_first_law input out (walk_through p (length out) w input))

-- one record on
one_on : (input out₀ : List ℕ) (went : Went Walk) (out : List ℕ) (at used n : ℕ) (text : List ℕ) (left : Went Walk)
    → Left input out₀ went out at used (onward n text left) → at + n ≤ length input → used + length text ≤ length out
    → Left input out₀ went (laid out used text) (at + n) (used + length text) left
one_on input out₀ went out at used n text left h there roomy =
    record {
      at_in = there;
      used_in_law = rw (length_laid out used text) roomy;
      same_room = length_laid out used text ∙ h.same_room;
      end = h.end;
      taken = omega (arith, h.taken);
      many = omega (arith, h.many, length-append text left.text);
      lines = laid_behind out used text left.text ∙ h.lines;
    }

-- a walk with room takes the record in front
walk_one : (p : Program Walk) → Framed p → (input : List ℕ) (room : ℕ) (w : Walk) (at used : ℕ) → p.room ≤ room - used → 0 < p.extent (drop at input)
    → from p input room w at used ≡ onward (p.extent (drop at input)) (p.text w (front p (drop at input))) (from p input room (p.after w (front p (drop at input))) (at + p.extent (drop at input)) (used + length (p.text w (front p (drop at input)))))
walk_one p f input room w at used roomy some =
    let rest = drop at input in
    let text = p.text w (front p rest) in
    let e : room - used - length text ≡ room - (used + length text) = omega arith in
    rw (first_taken p f (room - used) w rest roomy some, e, drop-drop (p.extent rest) at input)

-- a turn: the record in front is taken, and its text laid
pub turn : (p : Program Walk) → Framed p → (input out₀ : List ℕ) (went : Went Walk) (store out : List ℕ) (next : Kept) (at used n : ℕ) {bytes lent store' lent' out' : List ℕ} {r : Stepped}
    → Left input out₀ went out at used (from p input (length out₀) (walk_of next store) at used)
    → p.room ≤ length out - used → n ≡ p.extent (drop at input) → 0 < n → bytes ≡ front p (drop at input)
    → Steps p (walk_of next store) bytes lent r store' lent' → out' ≡ laid out used (p.text (walk_of next store) bytes)
    → Left input out₀ went out' (at + n) (used + r.laid) (from p input (length out₀) (walk_of r.kept store') (at + n) (used + r.laid))
turn p f input out₀ went store out next at used n {bytes} h roomy whole some lent did lines =
    let rest = drop at input in
    let text = p.text (walk_of next store) (front p rest) in
    let there : at + p.extent rest ≤ length input = omega (arith, f.fits rest, length-drop at input) in
    let room : p.room ≤ length out₀ - used = omega arith in
    let long = rw lent at did.length_laid in
    let fits : used + length text ≤ length out = omega (arith, did.fits, long) in
    let first = rw (walk_one p f input (length out₀) (walk_of next store) at used room (rw whole at some)) at h in
    rw (lines, did.kept, did.stored, did.length_laid, lent, whole) (one_on input out₀ went out at used (p.extent rest) text _ first there fits)

nothing_laid : (l : List ℕ) (at : ℕ) → l ≡ laid l at []
unfolding laid
nothing_laid l at = refl

stopped : (input out₀ : List ℕ) (went : Went Walk) (store out : List ℕ) (next : Kept) (at used : ℕ)
    → Left input out₀ went out at used (stay (walk_of next store)) → Walks went out₀ (record { kept = next; taken = at; laid = used }) store out
stopped input out₀ went store out next at used h =
    record {
      kept = ap kept_of h.end;
      taken = omega (arith, h.taken);
      length_laid = omega (arith, h.many);
      stored = ap (λ (x : Walk). x.store) h.end;
      lines = nothing_laid out used ∙ h.lines;
    }

-- where nothing is left to go the walk has ended
pub ends : (input out₀ : List ℕ) (went : Went Walk) (store out : List ℕ) (next : Kept) (at used : ℕ) {left : Went Walk}
    → Left input out₀ went out at used left → left ≡ stay (walk_of next store)
    → Walks went out₀ (record { kept = next; taken = at; laid = used }) store out
ends input out₀ went store out next at used h e = stopped input out₀ went store out next at used (rw e at h)
