-- The number that a local open gets: "the smallest number from 1 up that no open or awaited channel has".
use Rattle.std.specs.Prelude.{ℕ, zero, suc, ◌+◌, cond, ltb}
use Rattle.table.specs.declared.Table.{Table}
use Rattle.table.specs.Table.{number_place}
use Rattle.paper.specs.Sizes.{PARTS}

-- the first of that many numbers from k up that no record has, or the one behind them
unfoldable pub least_from : ℕ → ℕ → Table → ℕ
least_from zero k t = k
least_from (suc left) k t = cond (ltb (number_place k t) PARTS) (least_from left (k + 1) t) k

-- sixteen records have sixteen numbers at most, so the smallest is one of 1 to 17
unfoldable pub least_number : Table → ℕ
least_number t = least_from PARTS 1 t
