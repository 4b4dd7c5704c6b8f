-- `256 agree` is printed exactly for our table.
-- Assumes nothing.
use Rattle.std.specs.Prelude.{Option, None, Some, is_some}
use mathlib.Core.Path.{◌≡◌, refl, sym, ap, ◌∙◌}
use mathlib.Core.Bool.{Bool, true, false, cond, not, ◌&&◌}
use mathlib.Core.List.{List, [], ◌∷◌, ◌++◌}
use Prim.Native.Nat.{ℕ, zero, suc, ◌+◌}
use native.Mathlib.Omega.{arith}
use borrow.Author.Tests.{eq-eqb, eqb-true}
use lib.Dec.{eqb}
use lib.ListN.{length, get_or, length-append}
use Rattle.lists.specs.Lines.{LF}
use Rattle.lists.proofs.Cases.{true_not_false}
use Rattle.lines.specs.Hex.{hex_byte}
use Rattle.lines.specs.Lines.{SPACE}
use Rattle.codepage.specs.Points.{NONE, BYTES, point_of, point_for}
use Rattle.published.specs.Claims.{claim_in, agrees}
use Rattle.published.specs.Comparing.{wrong_from, OURS, PUBLISHED, our_text, their_text, difference_of, differences_from, AGREE, text_of}
use Rattle.published.specs.Promises.{told, table_in, our_table}
use Rattle.published.proofs.Files.{none_missing, none_wrong, all_agree, some_differ}

-- ---- a line

-- a claim agrees exactly if it tells what our table has
agree_told : (claim : Option (Option ℕ)) (byte : ℕ) → is_some claim ≡ true → agrees claim byte ≡ true → told claim ≡ point_for byte
unfolding point_for
agree_told (Some (Some p)) byte such is = go (eqb p NONE) refl is
  where
    go : (t : Bool) → eqb p NONE ≡ t → (not t && eqb p (point_of byte)) ≡ true → Some p ≡ cond (eqb (point_of byte) NONE) None (Some (point_of byte))
    go true e is = absurd (true_not_false (sym is))
    go false e is = let same = eqb-true p (point_of byte) is in rw (← same, e)
agree_told (Some None) byte such is = rw is
agree_told None byte such is = absurd (true_not_false (sym such))

told_agree : (claim : Option (Option ℕ)) (byte : ℕ) → is_some claim ≡ true → told claim ≡ point_for byte → agrees claim byte ≡ true
unfolding point_for
told_agree (Some (Some p)) byte such is = go (eqb (point_of byte) NONE) refl is
  where
    go : (t : Bool) → eqb (point_of byte) NONE ≡ t → Some p ≡ cond t None (Some (point_of byte)) → (not (eqb p NONE) && eqb p (point_of byte)) ≡ true
    go true e is = cc
    go false e is = let same : p ≡ point_of byte = cc in rw (same, e, eq-eqb (point_of byte) (point_of byte) refl)
told_agree (Some None) byte such is = go (eqb (point_of byte) NONE) refl is
  where
    go : (t : Bool) → eqb (point_of byte) NONE ≡ t → None ≡ cond t None (Some (point_of byte)) → eqb (point_of byte) NONE ≡ true
    go true e is = e
    go false e is = cc
told_agree None byte such is = absurd (true_not_false (sym such))

-- it has no line exactly if it agrees
module _ (byte : ℕ) (claim : Option (Option ℕ)) where
  no_line : agrees claim byte ≡ true → difference_of byte claim ≡ []
  unfolding difference_of
  no_line is = rw is

  its_line : agrees claim byte ≡ false
      → difference_of byte claim ≡ ((((hex_byte byte ++ OURS) ++ our_text (point_of byte)) ++ PUBLISHED) ++ their_text claim) ++ (LF ∷ [])
  unfolding difference_of
  its_line off = rw off

  none_agrees : length (difference_of byte claim) ≡ 0 → agrees claim byte ≡ true
  none_agrees e = go (agrees claim byte) refl
    where
      go : (t : Bool) → agrees claim byte ≡ t → agrees claim byte ≡ true
      go true is = is
      go false off =
          let long = length-append ((((hex_byte byte ++ OURS) ++ our_text (point_of byte)) ++ PUBLISHED) ++ their_text claim) (LF ∷ []) in
          absurd (omega (arith, e, ap length (its_line off), long))

-- ---- the lines

agree_all : (n k : ℕ) (lines : List (List ℕ)) → k + n ≡ BYTES → wrong_from k lines ≡ None → length (differences_from k lines) ≡ 0
    → table_in k lines ≡ our_table k n
unfolding wrong_from differences_from table_in our_table
agree_all zero k [] e good same = refl
agree_all (suc n) k [] e good same = absurd (omega (arith, none_missing k good))
agree_all zero k (line ∷ lines) e good same = absurd (omega (arith, (none_wrong k line lines good).0))
agree_all (suc n) k (line ∷ lines) e good same =
    let h = none_wrong k line lines good in
    let two = length-append (difference_of k (claim_in k line)) (differences_from (suc k) lines) in
    let is = none_agrees k (claim_in k line) (omega (arith, same, two)) in
    rw (agree_told (claim_in k line) k h.1.0 is, agree_all n (suc k) lines (omega arith) h.1.1 (omega (arith, same, two)))

all_told : (n k : ℕ) (lines : List (List ℕ)) → wrong_from k lines ≡ None → table_in k lines ≡ our_table k n → length (differences_from k lines) ≡ 0
unfolding differences_from table_in our_table
all_told n k [] good e = refl
all_told zero k (line ∷ lines) good e = cc
all_told (suc n) k (line ∷ lines) good e =
    let h = none_wrong k line lines good in
    let first : told (claim_in k line) ≡ point_for k = cc in
    let rest : table_in (suc k) lines ≡ our_table (suc k) n = cc in
    rw (no_line k (claim_in k line) (told_agree (claim_in k line) k h.1.0 first)) (all_told n (suc k) lines h.1.1 rest)

-- the lines of bytes that differ aren't `256 agree`: behind a byte's two digits stands a space
third : (byte : ℕ) (claim : Option (Option ℕ)) (rest : List ℕ) → agrees claim byte ≡ false → get_or (difference_of byte claim ++ rest) 2 0 ≡ SPACE
unfolding hex_byte
third byte claim rest off = rw (its_line byte claim off)

unlike : (k : ℕ) (lines : List (List ℕ)) → differences_from k lines ≡ AGREE → ⊥
unfolding differences_from
unlike k [] e = omega (arith, ap length e)
unlike k (line ∷ lines) e = go (agrees (claim_in k line) k) refl e (unlike (suc k) lines)
  where
    go : (t : Bool) → agrees (claim_in k line) k ≡ t → difference_of k (claim_in k line) ++ differences_from (suc k) lines ≡ AGREE
        → (differences_from (suc k) lines ≡ AGREE → ⊥) → ⊥
    go true is e ih = ih (rw (no_line k (claim_in k line) is) at e)
    go false off e ih =
        let space = third k (claim_in k line) (differences_from (suc k) lines) off in
        let six : get_or (difference_of k (claim_in k line) ++ differences_from (suc k) lines) 2 0 ≡ 54 = ap (λ (l : List ℕ). get_or l 2 0) e in
        omega (arith, space, six)

module _ (lines : List (List ℕ)) (good : wrong_from 0 lines ≡ None) where
  pub only_ours : text_of lines ≡ AGREE → table_in 0 lines ≡ our_table 0 BYTES
  only_ours e = agree_all BYTES 0 lines refl good (go (eqb (length (differences_from 0 lines)) 0) refl)
    where
      go : (t : Bool) → eqb (length (differences_from 0 lines)) 0 ≡ t → length (differences_from 0 lines) ≡ 0
      go true is = eqb-true (length (differences_from 0 lines)) 0 is
      go false off =
          let Some = some_differ lines (λ z. true_not_false (sym (eq-eqb (length (differences_from 0 lines)) 0 z) ∙ off)) in
          absurd (unlike 0 lines (sym Some ∙ e))

  pub for_ours : table_in 0 lines ≡ our_table 0 BYTES → text_of lines ≡ AGREE
  for_ours e = all_agree lines (all_told BYTES 0 lines good e)
