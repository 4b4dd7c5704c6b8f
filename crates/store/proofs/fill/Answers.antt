-- `store::fill` meets its contract: what comes to the array is the block as far as the part has room, and that comes to the part.
use mathlib.Core.Path.{◌≡◌, sym, ◌∙◌}
use native.Mathlib.Omega.{arith}
use lib.ListN.{length, take, length-take}
use lib.Seq.{take_at}
use Rattle.paper.specs.Sizes.{PART, MESSAGE_MAX}
use Rattle.lists.proofs.Laid.{laid_past}
use Rattle.store.proofs.Parts.{filled}
use Rattle.store.proofs.fill.Goals as goal

pub returns-then-at-ge-PART : goal.returns-then-at-ge-PART
unfolding PART MESSAGE_MAX
returns-then-at-ge-PART c =
    let a = c.args in
    sym (laid_past a.part.now a.at a.block.now (omega (arith, c.requires)))

pub returns : goal.returns
unfolding PART MESSAGE_MAX
returns c =
    let a = c.args in
    let n = c.min-n.result in
    let size : length (take n a.block.now) ≡ n = simp length-take (omega arith) in
    let all : c.copy_from_slice-2.new.self ≡ take n a.block.now =
    c.copy_from_slice-2.ensures.after ∙ rw c.copy_from_slice.ensures.after (take_at (take n a.block.now) _ n size) in
    rw all (filled a.part.now a.block.now a.at n (omega arith) (omega (arith, c.requires)))
