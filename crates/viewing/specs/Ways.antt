-- "`viewer utf8` [..] prints each name of a listener list [..] as a line of UTF-8; `viewer 1252` [..] goes back. [..] Anything but one of the two
-- words is bad use."
use Rattle.std.specs.Prelude.{ℕ, cond, List, [], ◌∷◌, Option, None, Some}
use Rattle.listeners.specs.Listeners.{same_bytes}
use Rattle.viewing.specs.declared.Way.{Way}
use Rattle.viewing.specs.declared.Way.TheVariants.{ToUtf8, ToList}

-- "utf8"
abbrev pub UTF8 : List ℕ
UTF8 = 117 ∷ 116 ∷ 102 ∷ 56 ∷ []

-- "1252"
abbrev pub CP1252 : List ℕ
CP1252 = 49 ∷ 50 ∷ 53 ∷ 50 ∷ []

unfoldable pub way_by : List ℕ → Option Way
way_by word = cond (same_bytes word UTF8) (Some ToUtf8) (cond (same_bytes word CP1252) (Some ToList) None)
