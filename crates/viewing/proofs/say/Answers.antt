-- `viewing::say` meets its contract: each part is laid behind the one before.
use Rattle.std.proofs.Common.{refl, arith, rules}
use Rattle.lists.specs.Bytes.{laid}
use Rattle.lines.proofs.Lays.{then}
use Rattle.viewing.specs.Texts.{left_out_line}
use Rattle.viewing.proofs.say.Goals as goal

pub returns-in_default : goal.returns-in_default
unfolding left_out_line laid
returns-in_default c = rw c.in_default.is (record { value = (refl, omega arith); out_after = refl })

pub returns : goal.returns
unfolding left_out_line
returns c =
    let w = then (then (then c.text.ensures c.field.ensures) c.text-2.ensures) c.reason.ensures in
    rw c.in-Err.is (record { value = omega (arith, w.at, w.within); out_after = search (rules, w) })
