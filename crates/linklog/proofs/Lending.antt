-- What the room that an append is lent must have, test by test; and the first block that an append touches.
use mathlib.Core.Path.{◌≡◌, refl, sym, ap, ◌∙◌}
use mathlib.Core.Bool.{true, false, ◌&&◌}
use mathlib.Core.List.{List, [], ◌++◌}
use Prim.Native.Nat.{ℕ, ◌+◌, ◌-◌, ◌≤◌, ◌<◌}
use native.Mathlib.Omega.{arith}
use borrow.Author.Tests.{eq-eqb, ne_eqb, le-leb, lt-leb, leb-true}
use lib.Dec.{leb, eqb}
use lib.ListN.{length, take, drop}
use lib.Seq.{drop-drop, take-take}
use Rattle.lists.proofs.Cases.{both}
use Rattle.blocks.specs.Block.{BLOCK, HEAD, PAYLOAD, NONE, number_in, used_in, place_in, payload_in}
use Rattle.paper.specs.declared.Refusal.TheVariants.{BadCall}
use Rattle.linklog.specs.declared.Log.{Log}
use Rattle.linklog.specs.Appending.{ROOM, HELD_MAX, begun, first_touched, payload_so_far, place_then, last_in, may_be_last, is_lent}
use Rattle.linklog.proofs.Parts.{drop_front}
use Rattle.linklog.specs.Appending.{filled_to, filled_with, payload_then, answer_for, room_then}
use Rattle.std.specs.Prelude.{Err}

-- ---- a block that may be the last

pub right_number : (blocks n u : ℕ) (block : List ℕ) → n ≡ number_in block → u ≡ used_in block → n + 1 ≡ blocks → leb u PAYLOAD ≡ may_be_last blocks block
unfolding may_be_last
right_number blocks n u block e f h = rw (← e, ← f, eq-eqb (n + 1) blocks h) refl

-- ---- the room

module _ (log : Log) (room : List ℕ) where
  pub short_room : length room < ROOM → false ≡ is_lent log room
  unfolding is_lent
  short_room h = rw (lt-leb ROOM (length room) h) refl

  module _ (fits : ROOM ≤ length room) where
    pub lent_empty : log.blocks ≡ 0 → true ≡ is_lent log room
    unfolding is_lent
    lent_empty e = rw (le-leb ROOM (length room) fits, eq-eqb log.blocks 0 e) refl

    module _ (some : log.blocks ≡ 0 → ⊥) where
      pub none_held : log.held < 1 → false ≡ is_lent log room
      unfolding is_lent
      none_held h = rw (le-leb ROOM (length room) fits, ne_eqb log.blocks 0 some, lt-leb 1 log.held h) refl

      pub over_held : 1 ≤ log.held → HELD_MAX < log.held → false ≡ is_lent log room
      unfolding is_lent
      over_held g h =
          rw (le-leb ROOM (length room) fits, ne_eqb log.blocks 0 some, le-leb 1 log.held g, lt-leb log.held HELD_MAX h) refl

      pub held : 1 ≤ log.held → log.held ≤ HELD_MAX → may_be_last log.blocks (last_in log room) ≡ is_lent log room
      unfolding is_lent
      held g h =
          rw (le-leb ROOM (length room) fits, ne_eqb log.blocks 0 some, le-leb 1 log.held g, le-leb log.held HELD_MAX h) refl

-- ---- what a room that is lent has

module _ (log : Log) (room : List ℕ) (lent : is_lent log room ≡ true) where
  pub lent_size : ROOM ≤ length room
  unfolding is_lent
  lent_size = leb-true ROOM (length room) (both (leb ROOM (length room)) _ lent).0

  pub lent_last : (log.blocks ≡ 0 → ⊥) → (1 ≤ log.held) × ((log.held ≤ HELD_MAX) × (used_in (last_in log room) ≤ PAYLOAD))
  unfolding is_lent may_be_last
  lent_last some =
      let fits = both (leb 1 log.held && leb log.held HELD_MAX) _ (rw (ne_eqb log.blocks 0 some) at (both (leb ROOM (length room)) _ lent).1) in
      let held = both (leb 1 log.held) (leb log.held HELD_MAX) fits.0 in
      let last = both (eqb (number_in (last_in log room) + 1) log.blocks) (leb (used_in (last_in log room)) PAYLOAD) fits.1 in
      (leb-true 1 log.held held.0, (leb-true log.held HELD_MAX held.1, leb-true (used_in (last_in log room)) PAYLOAD last.1))

-- ---- the first block that an append touches

pub begun_empty : (blocks : ℕ) (last : List ℕ) → blocks ≡ 0
    → (first_touched blocks last ≡ 0) × ((payload_so_far blocks last ≡ []) × (place_then blocks last ≡ 0))
unfolding first_touched payload_so_far place_then begun
begun_empty blocks last e = rw (eq-eqb blocks 0 e) (e, (refl, refl))

module _ (blocks : ℕ) (last : List ℕ) (some : blocks ≡ 0 → ⊥) (u : ℕ) (e : u ≡ used_in last) where
  pub touches_new : u ≡ PAYLOAD → (blocks ≡ first_touched blocks last) × (([] ≡ payload_so_far blocks last) × (0 ≡ place_then blocks last))
  unfolding first_touched payload_so_far place_then begun
  touches_new full = rw (ne_eqb blocks 0 some, eq-eqb (used_in last) PAYLOAD (sym e ∙ full)) (refl, (refl, refl))

  module _ (n : u ≡ PAYLOAD → ⊥) (p : ℕ) (f : p ≡ place_in last) where
    goes_on_law : begun blocks last ≡ false
    unfolding begun
    goes_on_law = rw (ne_eqb blocks 0 some, ne_eqb (used_in last) PAYLOAD (λ full. n (e ∙ full))) refl

    pub touches_first : p ≡ NONE
        → (blocks - 1 ≡ first_touched blocks last) × ((take u (drop HEAD last) ≡ payload_so_far blocks last) × (u ≡ place_then blocks last))
    unfolding first_touched payload_so_far place_then payload_in
    touches_first none = rw (goes_on_law, eq-eqb (place_in last) NONE (sym f ∙ none), e) (refl, (refl, refl))

    pub touches_later : (p ≡ NONE → ⊥)
        → (blocks - 1 ≡ first_touched blocks last) × ((take u (drop HEAD last) ≡ payload_so_far blocks last) × (p ≡ place_then blocks last))
    unfolding first_touched payload_so_far place_then payload_in
    touches_later m = rw (goes_on_law, ne_eqb (place_in last) NONE (λ none. m (f ∙ none)), e) (refl, (refl, f))

-- a front of the payload of a block that stands at a place
pub front_in : (u at : ℕ) (room : List ℕ) → u < PAYLOAD → take u (drop HEAD (take BLOCK (drop at room))) ≡ take u (drop (at + HEAD) room)
front_in u at room h =
    ap (take u) (drop_front HEAD PAYLOAD (drop at room)) ∙ take-take u PAYLOAD (drop HEAD (drop at room)) (omega arith) ∙ ap (take u) (drop-drop HEAD at room)

-- ---- what an append answers

module _ (log : Log) (room bytes : List ℕ) where
  pub not_lent : is_lent log room ≡ false → (Err BadCall ≡ answer_for log room bytes) × (room ≡ room_then log room bytes)
  unfolding answer_for room_then
  not_lent e = rw e (refl, refl)

  -- where the room is lent, all hangs on the first block that is touched
  pub is_filled : (number place : ℕ) (so_far : List ℕ) → is_lent log room ≡ true → number ≡ first_touched log.blocks (last_in log room)
      → so_far ≡ payload_so_far log.blocks (last_in log room) → place ≡ place_then log.blocks (last_in log room)
      → (filled_to number (so_far ++ bytes) ≡ answer_for log room bytes) × (filled_with number place (so_far ++ bytes) room ≡ room_then log room bytes)
  unfolding answer_for room_then payload_then
  is_filled number place so_far lent e f g = rw (lent, e, f, g) (refl, refl)
