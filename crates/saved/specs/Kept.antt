-- The tables that a host can keep in bytes.
use Rattle.std.specs.Prelude.{ℕ, ◌<◌, ◌≡◌, true, false, length}
use Rattle.paper.specs.Sizes.{PARTS}
use Rattle.numbers.specs.Numbers.{NUMBERS}
use Rattle.table.specs.declared.Table.{Table}
use Rattle.table.specs.Table.{record_at}
use Rattle.table.specs.Sound.{sound_table}

-- sixteen records, a sound table, no level while not ready (Start leaves none, and only Capabilities sets one), and numbers and
-- counts of 32 bits
pub record Kept (t : Table) : Type 0 where
  pub rows : length t.records ≡ PARTS
  pub sound : sound_table t ≡ true
  pub unready : t.ready ≡ false → t.level ≡ 0
  pub numbers : (i : ℕ) → (record_at t i).number < NUMBERS
  pub counts : (i : ℕ) → (record_at t i).count < NUMBERS
