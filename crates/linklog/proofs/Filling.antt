-- The payload that an append has in hand, and whether its blocks are too many.
use mathlib.Core.Path.{◌≡◌, refl, ◌∙◌}
use mathlib.Core.List.{List, ◌++◌}
use Prim.Native.Nat.{ℕ, ◌+◌, ◌-◌, ◌≤◌, ◌<◌}
use native.Mathlib.Omega.{arith}
use borrow.Author.Tests.{lt-ltb, le-ltb}
use lib.ListN.{length, take, drop, length-append, length-drop}
use lib.Seq.{length-take-le}
use Rattle.lists.specs.Bytes.{laid}
use Rattle.lists.proofs.Laid.{front, from_to}
use Rattle.paper.specs.declared.Refusal.TheVariants.{LogFull}
use Rattle.blocks.specs.Block.{PAYLOAD}
use Rattle.linklog.specs.Records.{RECORD_MAX}
use Rattle.linklog.specs.Written.{blocks_for}
use Rattle.linklog.specs.Reading.{BLOCKS_MAX}
use Rattle.linklog.specs.Appending.{HELD_MAX, chained, filled_to, filled_with}
use Rattle.std.specs.Prelude.{Ok, Err}

-- no record touches more blocks than the room has
pub few_blocks : (used n : ℕ) → used < PAYLOAD → n ≤ RECORD_MAX → blocks_for (used + n) ≤ HELD_MAX
unfolding blocks_for
few_blocks used n h k = omega arith

-- what the first block has, and the record behind it
abbrev pub in_hand : List ℕ → ℕ → ℕ → List ℕ → List ℕ → List ℕ
in_hand room from used head body = take used (drop from room) ++ (head ++ body)

module _ (room : List ℕ) (from used : ℕ) (head body : List ℕ) (there : from + PAYLOAD ≤ length room) (fits : used < PAYLOAD) where
  pub size_in_hand : length (in_hand room from used head body) ≡ used + (length head + length body)
  size_in_hand =
      let one = length-take-le used (drop from room) (rw (length-drop from room) (omega (arith, there, fits))) in
      length-append (take used (drop from room)) (head ++ body) ∙ rw (one, length-append head body) refl

  -- what was gathered at the front of a list of zeros, or of anything
  pub gathered : (list payload : List ℕ) → used + (length head + length body) ≤ length list
      → payload ≡ laid list 0 (take (from + used - from) (drop from room) ++ (head ++ body))
      → take (used + (length head + length body)) payload ≡ (in_hand room from used head body)
  gathered list payload room_for e =
      let is : payload ≡ laid list 0 (in_hand room from used head body) = rw (from_to room from used) at e in
      rw (is, ← size_in_hand) (front list (in_hand room from used head body) (rw size_in_hand room_for))

  module _ (number place count : ℕ) (e : count ≡ blocks_for (used + (length head + length body))) where
    -- too many
    pub log_full : BLOCKS_MAX < number + count
        → (Err LogFull ≡ filled_to number (in_hand room from used head body)) × (room ≡ filled_with number place (in_hand room from used head body) room)
    unfolding filled_to filled_with
    log_full h = rw (size_in_hand, ← e, lt-ltb BLOCKS_MAX (number + count) h) (refl, refl)

    -- they fit
    pub log_holds : (after : List ℕ) → number + count ≤ BLOCKS_MAX
        → after ≡ laid room 0 (chained (blocks_for (used + (length head + length body))) number place (in_hand room from used head body))
        → (Ok (record { blocks = number + count; held = count }) ≡ filled_to number (in_hand room from used head body))
        × (after ≡ filled_with number place (in_hand room from used head body) room)
    unfolding filled_to filled_with
    log_holds after h did = rw (size_in_hand, ← e, le-ltb BLOCKS_MAX (number + count) h) (refl, rw (← e) at did)
