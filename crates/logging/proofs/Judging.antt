-- A file that is a log has no more blocks than a log may have.
-- Assumes nothing.
use mathlib.Core.Path.{◌≡◌, refl, ap}
use mathlib.Core.Bool.{Bool, true, false, cond, ◌&&◌}
use Prim.Native.Nat.{ℕ, ◌/◌, ◌%◌, ◌≤◌}
use native.Mathlib.Omega.{arith}
use borrow.Author.Tests.{leb-true}
use lib.Dec.{leb, eqb}
use Rattle.lists.proofs.Cases.{both}
use Rattle.paper.specs.declared.Refusal.TheVariants.{NotBlocks}
use Rattle.blocks.specs.Block.{BLOCK}
use Rattle.linklog.specs.Reading.{BLOCKS_MAX, is_log}
use Rattle.std.specs.Prelude.{Result, Ok, Err}
use Rattle.paper.specs.declared.Refusal.{Refusal}
use Rattle.logging.specs.Reading.{judged_by}

-- the blocks that are told
abbrev told : Result ℕ Refusal → ℕ
told (Ok n) = n
told (Err why) = 0

pub judged_few : (size n : ℕ) → Ok n ≡ judged_by size → n ≤ BLOCKS_MAX
unfolding judged_by is_log
judged_few size n e = go (eqb (size % BLOCK) 0 && leb (size / BLOCK) BLOCKS_MAX) refl (ap told e)
  where
    go : (b : Bool) → (eqb (size % BLOCK) 0 && leb (size / BLOCK) BLOCKS_MAX) ≡ b → n ≡ told (cond b (Ok (size / BLOCK)) (Err NotBlocks)) → n ≤ BLOCKS_MAX
    go true is f = omega (arith, f, leb-true (size / BLOCK) BLOCKS_MAX (both (eqb (size % BLOCK) 0) (leb (size / BLOCK) BLOCKS_MAX) is).1)
    go false not f = omega (arith, f)
