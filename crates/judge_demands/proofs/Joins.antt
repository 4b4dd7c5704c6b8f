-- The comparison of a message block by block is the comparison of the whole.
-- Assumes nothing.
use Prim.Native.Nat.{ℕ}
use mathlib.Core.Path.{◌≡◌, refl, sym, ap, ◌∙◌}
use mathlib.Core.Bool.{Bool, true, false, ◌&&◌}
use mathlib.Core.List.{List, [], ◌∷◌, ◌++◌}
use borrow.Author.Tests.{eq-eqb, eqb-true}
use lib.Dec.{eqb}
use lib.ListN.{length, take}
use lib.Seq.{take-length}
use Rattle.lists.proofs.Cases.{both}
use Rattle.listeners.specs.Listeners.{same_bytes}
use Rattle.listeners.proofs.Matches.{same_self, same_equal, compared}
use Rattle.judge.specs.Judge.{agrees}

-- three tests, in either grouping
three : (a b c : Bool) → (a && (b && c)) ≡ ((a && b) && c)
three true b c = refl
three false b c = refl

-- what was held agreed, and the block behind it does
pub same_more :
    (m got block : List ℕ)
    → same_bytes (take (length (got ++ block)) m) (got ++ block) ≡ (same_bytes (take (length got) m) got && agrees m (length got) block)
unfolding same_bytes agrees
same_more m [] block = refl
same_more [] (x ∷ got) block = refl
same_more (y ∷ m) (x ∷ got) block = ap (λ (b : Bool). eqb y x && b) (same_more m got block) ∙ three (eqb y x) _ _

-- a front of the message that has its length is the message
pub same_whole : (m got : List ℕ) → (same_bytes (take (length got) m) got && eqb (length got) (length m)) ≡ same_bytes m got
same_whole m got = compared m got _ to from
  where
    to : (same_bytes (take (length got) m) got && eqb (length got) (length m)) ≡ true → m ≡ got
    to e =
        let h = both (same_bytes (take (length got) m) got) (eqb (length got) (length m)) e in
        sym (take-length m) ∙ ap (λ (k : ℕ). take k m) (sym (eqb-true (length got) (length m) h.1)) ∙ same_equal _ got h.0

    from : m ≡ got → (same_bytes (take (length got) m) got && eqb (length got) (length m)) ≡ true
    from e = rw (e, take-length got, same_self got) (eq-eqb (length got) (length got) refl)
