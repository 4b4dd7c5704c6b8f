-- What a verdict says of a line.
-- Assumes nothing.
use Rattle.std.specs.Prelude.{None, is_some, Ok, Err, is_ok}
use mathlib.Core.Path.{◌≡◌, refl, sym, ap, ◌∙◌}
use mathlib.Core.Bool.{Bool, true, false, cond, not}
use mathlib.Core.List.{List}
use Prim.Native.Nat.{ℕ}
use native.Mathlib.Omega.{arith}
use borrow.Author.Tests.{eqb-false, ltb-false, ne_eqb, le-ltb}
use lib.Dec.{eqb, ltb}
use lib.ListN.{length}
use Rattle.lists.specs.Bytes.{is_zero}
use Rattle.lists.specs.Places.{place}
use Rattle.lists.proofs.Cases.{true_not_false}
use Rattle.lists.proofs.Places.{place_le}
use Rattle.codepage.specs.Names.{name_of}
use Rattle.viewing.specs.declared.LeftOut.TheVariants.{Empty, HasZero, Unnamed}
use Rattle.viewing.specs.Texts.{verdict_on}

-- a line is kept exactly if it has bytes, None of them zero, and a name
pub record Keeps (line : List ℕ) : Type 0 where
  pub filled : length line ≡ 0 → ⊥
  pub clean : place is_zero line ≡ length line
  pub named : is_some (name_of line) ≡ true

pub kept_so : (line : List ℕ) → is_ok (verdict_on line) ≡ true → Keeps line
unfolding verdict_on
kept_so line is = go (eqb (length line) 0) (ltb (place is_zero line) (length line)) (is_some (name_of line)) refl refl refl is
  where
    go : (a b t : Bool) → eqb (length line) 0 ≡ a → ltb (place is_zero line) (length line) ≡ b → is_some (name_of line) ≡ t
        → is_ok (cond a (Err Empty) (cond b (Err HasZero) (cond (not t) (Err Unnamed) (Ok (tt {0}))))) ≡ true → Keeps line
    go true b t e f g is = absurd (true_not_false (sym is))
    go false true t e f g is = absurd (true_not_false (sym is))
    go false false false e f g is = absurd (true_not_false (sym is))
    go false false true e f g is =
        record {
          filled = eqb-false (length line) 0 e;
          clean = omega (arith, ltb-false (place is_zero line) (length line) f, place_le is_zero line);
          named = g;
        }

pub so_kept : (line : List ℕ) → Keeps line → verdict_on line ≡ Ok (tt {0})
unfolding verdict_on
so_kept line k = rw (ne_eqb (length line) 0 k.filled, le-ltb (place is_zero line) (length line) (omega (arith, k.clean)), k.named)

pub kept_keeps : (line : List ℕ) → verdict_on line ≡ Ok (tt {0}) → Keeps line
kept_keeps line is = kept_so line (ap is_ok is)

pub kept_named : (line : List ℕ) → is_ok (verdict_on line) ≡ true → name_of line ≡ None → ⊥
kept_named line is e = true_not_false (sym (kept_so line is).named ∙ ap is_some e)
