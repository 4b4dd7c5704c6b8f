-- A good block's payload, laid in the reader's room.
use mathlib.Core.Path.{◌≡◌, refl, sym, ◌∙◌}
use mathlib.Core.Bool.{true}
use mathlib.Core.Logic.{⊎_elim}
use mathlib.Core.List.{List, ◌++◌}
use Prim.Native.Nat.{ℕ, ◌+◌, ◌-◌, ◌≤◌, ◌<◌}
use native.Mathlib.Omega.{arith}
use borrow.Author.Tests.{le-ltb, eq-eqb, ne_eqb}
use lib.ListN.{length, take, drop, length-append, length-drop}
use lib.Seq.{drop-drop, length-take-le}
use Rattle.lists.specs.Bytes.{laid}
use Rattle.lists.proofs.Laid.{front, from_to, laid_next}
use Rattle.lists.proofs.Cases.{true_not_false, lt_or_le}
use Rattle.blocks.specs.Block.{BLOCK, HEAD, PAYLOAD, NONE, used_in, place_in, payload_in, may_begin}
use Rattle.linklog.specs.Reading.{Seeking, Within, nothing, through, entered}
use Rattle.linklog.specs.Turns.{brought_by}
use Rattle.linklog.proofs.Parts.{drop_front}

-- ---- within a record

module _ (room block : List ℕ) (whole behind u : ℕ) (e : u ≡ used_in block) (long : length block ≡ BLOCK) (few : used_in block ≤ PAYLOAD)
    (fits : whole + behind ≤ length room) (room_for : behind + PAYLOAD ≤ length room) where
  abbrev left : List ℕ
  left = take behind (drop whole room)

  held : length left ≡ behind
  held = length-take-le behind (drop whole room) (rw (length-drop whole room) (omega (arith, fits)))

  payload : length (payload_in block) ≡ u
  unfolding payload_in
  payload = length-take-le (used_in block) (drop HEAD block) (rw (length-drop HEAD block) (omega (arith, long, few))) ∙ sym e

  -- the payload as it is lent
  lent : take (HEAD + u - HEAD) (drop HEAD block) ≡ payload_in block
  unfolding payload_in
  lent = from_to block HEAD u ∙ rw e refl

  -- it comes behind what the record has
  pub joins : (mid after : List ℕ) → mid ≡ laid room 0 left → after ≡ laid mid behind (take (HEAD + u - HEAD) (drop HEAD block))
      → (after ≡ laid room 0 (brought_by (Within left) block)) × (take (behind + u) after ≡ brought_by (Within left) block)
  unfolding brought_by
  joins mid after f g =
      let is : after ≡ laid room 0 (left ++ payload_in block) = laid_next room mid after left (payload_in block) behind (sym held) f (rw lent at g) in
      let size : length (left ++ payload_in block) ≡ behind + u = length-append left (payload_in block) ∙ rw (held, payload) refl in
      (is, rw (is, ← size) (front room (left ++ payload_in block) (rw size (omega (arith, room_for, e, few)))))

-- ---- from the place where the first record begins

module _ (room block : List ℕ) (p u : ℕ) (e : u ≡ used_in block) (f : p ≡ place_in block) (some : p ≡ NONE → ⊥) (below : p < u)
    (long : length block ≡ BLOCK) (few : used_in block ≤ PAYLOAD) (room_for : PAYLOAD ≤ length room) where
  -- the payload from there on, as it is lent
  lent_from : take (HEAD + p + (u - p) - (HEAD + p)) (drop (HEAD + p) block) ≡ drop p (payload_in block)
  unfolding payload_in
  lent_from =
      let all : p + (u - p) ≡ u = omega (arith, below) in
      from_to block (HEAD + p) (u - p)
      ∙ rw (← (drop-drop p HEAD block), ← e) (sym (drop_front p (u - p) (drop HEAD block)) ∙ rw all refl)

  size_from : length (drop p (payload_in block)) ≡ u - p
  unfolding payload_in
  size_from =
      length-drop p (take (used_in block) (drop HEAD block))
      ∙ rw (length-take-le (used_in block) (drop HEAD block) (rw (length-drop HEAD block) (omega (arith, long, few))), ← e) refl

  brings : brought_by Seeking block ≡ drop p (payload_in block)
  unfolding brought_by
  brings = rw (← f, ne_eqb p NONE some) refl

  pub enters : (after : List ℕ) → after ≡ laid room 0 (take (HEAD + p + (u - p) - (HEAD + p)) (drop (HEAD + p) block))
      → (after ≡ laid room 0 (brought_by Seeking block)) × (take (u - p) after ≡ brought_by Seeking block)
  enters after g =
      let is : after ≡ laid room 0 (drop p (payload_in block)) = rw lent_from at g in
      rw brings (is, rw (is, ← size_from) (front room (drop p (payload_in block)) (rw size_from (omega (arith, room_for, e, few)))))

  pub enters_so : entered Seeking block ≡ through (brought_by Seeking block)
  unfolding entered
  enters_so = rw (brings, ← f, ne_eqb p NONE some) refl

-- a place that is none of these is below the used count
pub place_below : (used place : ℕ) → may_begin used place ≡ true → (place ≡ NONE → ⊥) → place < used
unfolding may_begin
place_below used place may some =
    ⊎_elim
    (λ (h : place < used). h)
    (λ (h : used ≤ place). absurd (true_not_false (sym (rw (le-ltb place used h, ne_eqb place NONE some) at may))))
    (lt_or_le place used)

-- no record begins there
pub none_begins : (room block : List ℕ) → place_in block ≡ NONE → (entered Seeking block ≡ nothing) × (room ≡ laid room 0 (brought_by Seeking block))
unfolding entered brought_by laid
none_begins room block e = rw (eq-eqb (place_in block) NONE e) (refl, refl)
