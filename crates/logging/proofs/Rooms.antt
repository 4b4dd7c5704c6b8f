-- The log's last block in the room, and the full ones before it.
-- Assumes nothing.
use mathlib.Core.Path.{◌≡◌, refl, sym, ◌∙◌}
use mathlib.Core.Bool.{true, false}
use mathlib.Core.List.{List, []}
use Prim.Native.Nat.{ℕ, ◌+◌, ◌-◌, ◌*◌, ◌≤◌, min}
use native.Mathlib.Omega.{arith}
use borrow.Author.Tests.{eq-eqb, ne_eqb}
use lib.Dec.{eqb}
use lib.ListN.{length, take, drop, length-take}
use Rattle.lists.proofs.Laid.{take_least}
use Rattle.lists.proofs.Lent.{part_lent}
use Rattle.blocks.specs.Block.{BLOCK, PAYLOAD, used_in}
use Rattle.linklog.specs.declared.Log.{Log}
use Rattle.linklog.specs.Appending.{begun, last_at, last_in}
use Rattle.logging.specs.Writing.{is_even, full_blocks, full_text, last_text}

pub at_none : (log : Log) → log.held ≡ 0 → 0 ≡ last_at log
unfolding last_at
at_none log e = rw e refl

pub at_some : (log : Log) → BLOCK * (log.held - 1) ≡ last_at log
unfolding last_at
at_some log = refl

-- the part that is lent of it
pub last_lent : (log : Log) (room : List ℕ) (at start end : ℕ) → at ≡ last_at log → start ≡ min at (length room) → end ≡ min (at + BLOCK) (length room)
    → take (end - start) (drop start room) ≡ last_in log room
unfolding last_in
last_lent log room at start end e f g = rw (← e) (part_lent room at BLOCK start end f g)

-- ---- no block, or a full one

pub even_none : (log : Log) (room : List ℕ) → log.blocks ≡ 0 → true ≡ is_even log room
unfolding is_even begun
even_none log room e = rw (eq-eqb log.blocks 0 e) refl

pub even_some : (log : Log) (room : List ℕ) (u : ℕ) → (log.blocks ≡ 0 → ⊥) → u ≡ used_in (last_in log room) → eqb u PAYLOAD ≡ is_even log room
unfolding is_even begun
even_some log room u some e = rw (ne_eqb log.blocks 0 some, ← e) refl

-- ---- what goes out

module _ (log : Log) (room : List ℕ) where
  -- so many blocks of the room
  abbrev Full : ℕ → Type 0
  Full n = (n ≤ length room) × ((n ≡ length (full_text log room)) × (take n room ≡ full_text log room))

  goes_out : (n k : ℕ) → n ≡ min k (length room) → BLOCK * full_blocks log room ≡ k → Full n
  unfolding full_text
  goes_out n k e f =
      let is : take n room ≡ take k room = rw e (take_least k room) in
      rw f (omega (arith, e), (e ∙ sym (length-take k room), is))

  pub full_even : (n k : ℕ) → is_even log room ≡ true → n ≡ min k (length room) → k ≡ BLOCK * log.held → Full n
  unfolding full_blocks
  full_even n k is e f = goes_out n k e (rw (is, f) refl)

  pub full_odd : (n k : ℕ) → is_even log room ≡ false → n ≡ min k (length room) → k ≡ last_at log → Full n
  unfolding full_blocks last_at
  full_odd n k is e f = goes_out n k e (rw (is, f) refl)

  pub last_even : is_even log room ≡ true → last_text log room ≡ []
  unfolding last_text
  last_even is = rw is refl

  pub last_odd : is_even log room ≡ false → last_text log room ≡ last_in log room
  unfolding last_text
  last_odd is = rw is refl

-- the last block is no longer than a block
pub last_long : (log : Log) (room : List ℕ) → length (last_in log room) ≤ BLOCK
unfolding last_in
last_long log room = rw (length-take BLOCK (drop (last_at log) room)) (omega arith)
