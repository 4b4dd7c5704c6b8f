-- What a pen writes.
use Rattle.std.specs.Prelude.{◌≡◌, ℕ, ◌+◌, ◌-◌, ◌^◌, ◌≤◌, min, List, length}
use Rattle.lists.specs.Bytes.{laid}
use Rattle.lines.specs.declared.Pen.{Pen}

-- a text of at most so many bytes is laid at the pen's place, which is behind it then; the pen still writes into the same buffer
pub record Writes (old new : Pen) (text : List ℕ) (most : ℕ) : Type 0 where
  pub same : new.out.ghost_name ≡ old.out.ghost_name
  pub out : new.out.now ≡ laid old.out.now old.at text
  pub at : new.at ≡ old.at + length text
  pub within : length text ≤ most

-- the greatest place. A slice has fewer bytes
abbrev pub PLACE_MAX : ℕ
PLACE_MAX = 2 ^ 64 - 1

-- the same wherever the pen stands: its place is behind the text, or the greatest, and the buffer ends before that
pub record Lays (old new : Pen) (text : List ℕ) (most : ℕ) : Type 0 where
  pub same : new.out.ghost_name ≡ old.out.ghost_name
  pub small : length old.out.now ≤ PLACE_MAX
  pub out : new.out.now ≡ laid old.out.now old.at text
  pub at : new.at ≡ min (old.at + length text) PLACE_MAX
  pub within : length text ≤ most
