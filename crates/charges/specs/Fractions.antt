-- Fractions of numbers, exact: a top over a bottom.
use Rattle.std.specs.Prelude.{◌≡◌, List, [], ◌∷◌, ℕ, ◌+◌, ◌*◌, ◌/◌}

pub record Fraction : Type 0 where
  pub top : ℕ
  pub bottom : ℕ

abbrev pub over : ℕ → ℕ → Fraction
over top bottom = record { top = top; bottom = bottom }

-- a fraction over a number
abbrev pub divided_by : Fraction → ℕ → Fraction
divided_by f n = over f.top (f.bottom * n)

-- so many times a fraction
abbrev pub times : ℕ → Fraction → Fraction
times n f = over (n * f.top) f.bottom

abbrev pub plus : Fraction → Fraction → Fraction
plus f g = over (f.top * g.bottom + g.top * f.bottom) (f.bottom * g.bottom)

unfoldable pub sum : List Fraction → Fraction
sum [] = over 0 1
sum (f ∷ fs) = plus f (sum fs)

-- rounded down
abbrev pub floor : Fraction → ℕ
floor f = f.top / f.bottom

-- two fractions of one value
abbrev pub Same : Fraction → Fraction → Type 0
Same f g = f.top * g.bottom ≡ g.top * f.bottom
