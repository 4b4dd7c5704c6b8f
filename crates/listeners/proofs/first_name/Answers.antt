-- `listeners::first_name` meets its contract: the list falls apart at its first zero byte.
use Rattle.listeners.proofs.Walk.{name_cut}
use Rattle.lists.proofs.Places.{place_le}
use lib.ListN.{length-take}
use Rattle.lists.specs.Bytes.{is_zero}
use native.Mathlib.Omega.{arith}
use Rattle.listeners.proofs.first_name.Goals as goal

pub slice_bounds-result-end : goal.slice_bounds-result-end
slice_bounds-result-end c = simp length-take (omega (arith, place_le is_zero c.args.list.now))

pub returns : goal.returns
returns c = name_cut c.args.list.now c.first_zero-n.result c.first_zero-n.ensures (omega (arith, place_le is_zero c.args.list.now))
