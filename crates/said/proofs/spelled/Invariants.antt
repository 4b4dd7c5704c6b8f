-- `said::spelled` meets its contract: after each turn one number more is laid behind those before.
use mathlib.Core.Path.{◌≡◌}
use Prim.Native.Nat.{◌*◌, ◌≤◌}
use lib.ListN.{length, take}
use Rattle.lists.specs.Bytes.{laid}
use Rattle.lines.specs.Decimal.{FIELD_MAX}
use Rattle.said.specs.Saying.{spelled_out}
use Rattle.said.proofs.spelled.Given as goal

abbrev pub invariant-loop-number : goal.invariant-loop-number
invariant-loop-number l = record {
  few : l.end ≤ FIELD_MAX * l.number-index;
  end : l.end ≡ length (spelled_out (take l.number-index l.numbers));
  out : l.out ≡ laid l.initial.out 0 (spelled_out (take l.number-index l.numbers));
}
