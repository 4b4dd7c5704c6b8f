-- `published::difference` meets its contract: nothing where the entries agree, and else each part behind the one before.
use Rattle.std.proofs.Common.{refl, sym, ◌∙◌, arith, rules}
use Rattle.lists.specs.Bytes.{laid}
use Rattle.lines.specs.Hex.{hex_byte}
use Rattle.lines.proofs.Lays.{then}
use Rattle.published.specs.Comparing.{difference_of}
use Rattle.published.proofs.difference.Goals as goal

pub returns-then-agree : goal.returns-then-agree
unfolding difference_of laid
returns-then-agree c = rw (sym c.agree.ensures ∙ c.if-agree.true) (record { value = (refl, omega arith); out_after = refl })

pub returns : goal.returns
unfolding difference_of hex_byte
returns c =
    let hex = rw c.hex_byte.ensures at c.text.ensures in
    let our = rw c.point_of.ensures at c.ours.ensures in
    let w = then (then (then (then (then hex c.text-2.ensures) our) c.text-3.ensures) c.theirs.ensures) c.text-4.ensures in
    rw (sym c.agree.ensures ∙ c.if-agree.false) (record { value = omega (arith, w.at, w.within); out_after = search (rules, w) })
