-- `logging::finish` meets its contract: the part that is lent is the last block.
use mathlib.Core.Path.{refl, sym, ◌∙◌}
use Rattle.lists.specs.Bytes.{laid}
use Rattle.logging.proofs.Rooms.{last_even, last_odd}
use native.Mathlib.Omega.{arith}
use Rattle.logging.proofs.finish.Goals as goal

pub returns-then-is_even : goal.returns-then-is_even
unfolding laid
returns-then-is_even c = rw (last_even _ _ (sym c.is_even.ensures ∙ c.if-is_even.true)) (record { value = (refl, omega arith); out_after = refl })

pub returns : goal.returns
returns c =
    let last = c.last_block.ensures in
    let did = rw last.0 at c.text.ensures in
    rw (last_odd _ _ (sym c.is_even.ensures ∙ c.if-is_even.false))
    (record { value = (did.value, omega (arith, did.value, rw last.0 at last.1)); out_after = did.out_after })
