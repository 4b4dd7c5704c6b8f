-- How the first row that holds is found: a row that holds is it, and one that doesn't is passed.
-- Assumes nothing.
use mathlib.Core.Path.{◌≡◌, refl}
use mathlib.Core.Bool.{Bool, true, false, cond}
use mathlib.Core.List.{List, [], ◌∷◌, ◌++◌}
use Rattle.paper.specs.declared.Refusal.{Refusal}
use Rattle.paper.specs.Rows.{Verdict, fine, refused_with, Row, row, first_held}

pub held : (why : Refusal) (u : Bool) (rows : List Row) → u ≡ true → refused_with why ≡ first_held (row why u ∷ rows)
unfolding first_held
held why u rows e = rw e

pub passed :
    (why : Refusal) (u : Bool) (rows : List Row) (v : Verdict) → u ≡ false → v ≡ first_held rows → v ≡ first_held (row why u ∷ rows)
unfolding first_held
passed why u rows v e f = rw e f

pub none_held : fine ≡ first_held []
unfolding first_held
none_held = refl

-- rows and further rows: one that holds decides, and where none does the further rows do
pub held_before : (rows more : List Row) (why : Refusal) → first_held rows ≡ refused_with why → first_held (rows ++ more) ≡ refused_with why
unfolding first_held
held_before [] more why e = cc
held_before (r ∷ rows) more why e = go r.holds e (held_before rows more why)
  where
    go :
        (t : Bool) → cond t (refused_with r.refusal) (first_held rows) ≡ refused_with why
        → (first_held rows ≡ refused_with why → first_held (rows ++ more) ≡ refused_with why)
        → cond t (refused_with r.refusal) (first_held (rows ++ more)) ≡ refused_with why
    go true e later = e
    go false e later = later e

pub held_behind : (rows more : List Row) → first_held rows ≡ fine → first_held (rows ++ more) ≡ first_held more
unfolding first_held
held_behind [] more e = refl
held_behind (r ∷ rows) more e = go r.holds e (held_behind rows more)
  where
    go :
        (t : Bool) → cond t (refused_with r.refusal) (first_held rows) ≡ fine
        → (first_held rows ≡ fine → first_held (rows ++ more) ≡ first_held more)
        → cond t (refused_with r.refusal) (first_held (rows ++ more)) ≡ first_held more
    go true e later = cc
    go false e later = later e
