-- A total over the records is the same in any two tables that have the same channels, wherever they stand.
-- Assumes nothing.
use mathlib.Core.Path.{◌≡◌, refl, sym, ap, ◌∙◌}
use mathlib.Core.Bool.{Bool, true, false}
use mathlib.Core.List.{List, [], ◌∷◌}
use mathlib.Core.Logic.{⊎_elim}
use Prim.Native.Nat.{ℕ, suc, ◌≤◌, ◌<◌}
use native.Mathlib.Omega.{arith}
use native.Mathlib.Nat.{suc_inj, suc-ne-zero}
use native.Mathlib.Decide.{ℕ_discrete}
use lib.ListN.{length, get_or, set, get_or-eq_default}
use lib.Seq.{get_or-set_same, get_or-set_other}
use Rattle.lists.specs.Places.{place}
use Rattle.lists.proofs.Cases.{true_not_false, lt_or_le}
use Rattle.lists.proofs.Places.{place_passes, place_none, place_all, place_set}
use Rattle.channel.specs.declared.Record.{Record}
use Rattle.channel.specs.Channel.{blank}
use Rattle.table.specs.Table.{holds}
use Rattle.table.specs.Totals.{total}
use Rattle.table.proofs.Twice.{Once, holds_own, holds_other, holds_none}
use Rattle.table.proofs.Recount.{total_set}

-- the record that holds a number, or a blank one
unfoldable pub record_of : ℕ → List Record → Record
record_of n rs = get_or rs (place (holds n) rs) blank

blank_holds : (n : ℕ) → holds n blank ≡ false
blank_holds n = holds_none n blank refl

-- a number that no record holds
none_of : (n : ℕ) (rs : List Record) → ((i : ℕ) → holds n (get_or rs i blank) ≡ false) → record_of n rs ≡ blank
unfolding record_of
none_of n rs h = rw (place_all (holds n) rs blank h) (get_or-eq_default rs blank (omega arith))

-- a number that a record holds is found
found : (n : ℕ) (rs : List Record) (i : ℕ) → holds n (get_or rs i blank) ≡ true → place (holds n) rs < length rs
found n rs i h =
    ⊎_elim (λ l. l)
    (λ (l : length rs ≤ place (holds n) rs). absurd (true_not_false (sym h ∙ place_none (holds n) rs blank (blank_holds n) l i)))
    (lt_or_le (place (holds n) rs) (length rs))

taken_found : (n : ℕ) (rs : List Record) → (record_of n rs).taken ≡ true → place (holds n) rs < length rs
unfolding record_of
taken_found n rs t =
    ⊎_elim (λ l. l)
    (λ (l : length rs ≤ place (holds n) rs). absurd (true_not_false (sym t ∙ ap (λ (r : Record). r.taken) (get_or-eq_default rs blank l))))
    (lt_or_le (place (holds n) rs) (length rs))

-- where no number has a record, none is taken
all_free : (rs : List Record) → ((n : ℕ) → record_of n rs ≡ blank) → (i : ℕ) → (get_or rs i blank).taken ≡ false
unfolding record_of
all_free rs h i = go (get_or rs i blank).taken refl
  where
    go : (b : Bool) → (get_or rs i blank).taken ≡ b → b ≡ false
    go true t =
        let n = (get_or rs i blank).number in
        let l : place (holds n) rs < length rs = found n rs i (holds_own n (get_or rs i blank) t refl) in
        let held = place_passes (holds n) rs blank l in
        absurd (true_not_false (sym held ∙ ap (holds n) (h n) ∙ blank_holds n))
    go false t = refl

-- ---- one record taken out

module _ (rs : List Record) (k : ℕ) (l : k < length rs) where
  abbrev out : List Record
  out = set rs k blank

  still : (n i : ℕ) → holds n (get_or out i blank) ≡ true → holds n (get_or rs i blank) ≡ true
  still n i h = go (ℕ_discrete i k)
    where
      go : Dec (i ≡ k) → holds n (get_or rs i blank) ≡ true
      go (yes e) = absurd (true_not_false (sym h ∙ rw (e, get_or-set_same rs k blank blank l) (blank_holds n)))
      go (no d) = rw (get_or-set_other rs k i blank blank d) at h

  out_once : Once rs → Once out
  out_once o i j n a b = o i j n (still n i a) (still n j b)

  -- another number's record stays
  out_other : (n : ℕ) → holds n (get_or rs k blank) ≡ false → record_of n out ≡ record_of n rs
  unfolding record_of
  out_other n h = rw (place_set (holds n) rs k blank blank (blank_holds n ∙ sym h)) (get_or-set_other rs k (place (holds n) rs) blank blank apart)
    where
      apart : place (holds n) rs ≡ k → ⊥
      apart e = true_not_false (sym (place_passes (holds n) rs blank (rw e l)) ∙ ap (λ (i : ℕ). holds n (get_or rs i blank)) e ∙ h)

  -- its own number has none then
  out_own : (n : ℕ) → Once rs → holds n (get_or rs k blank) ≡ true → record_of n out ≡ blank
  out_own n o h = none_of n out (λ i. go i (holds n (get_or out i blank)) refl)
    where
      go : (i : ℕ) (b : Bool) → holds n (get_or out i blank) ≡ b → b ≡ false
      go i true e =
          let same : i ≡ k = o i k n (still n i e) h in
          absurd (true_not_false (sym e ∙ rw (same, get_or-set_same rs k blank blank l) (blank_holds n)))
      go i false e = refl

-- ---- the sums, of what a free record adds nothing to

module _ (of : Record → ℕ) (light : (r : Record) → r.taken ≡ false → of r ≡ 0) where
  total_none : (rs : List Record) → ((i : ℕ) → (get_or rs i blank).taken ≡ false) → total of rs ≡ 0
  unfolding total
  total_none [] h = refl
  total_none (r ∷ rs) h = rw (light r (h 0), total_none rs (λ i. h (suc i)))

  pub same_sums :
      (rs qs : List Record) → Once rs → Once qs → ((n : ℕ) → record_of n rs ≡ record_of n qs) → total of rs ≡ total of qs
  unfolding total record_of place
  same_sums [] qs o p h = sym (total_none qs (all_free qs (λ n. sym (h n))))
  same_sums (r ∷ rs) qs o p h = go r.taken refl (same_sums rs)
    where
      behind : Once rs
      behind i j n a b = suc_inj (o (suc i) (suc j) n a b)

      past : (n : ℕ) → holds n r ≡ false → record_of n (r ∷ rs) ≡ record_of n rs
      past n e = rw e

      -- the first record stands in the other table
      there : r.taken ≡ true → record_of r.number qs ≡ r
      there t = sym (h r.number) ∙ rw (holds_own r.number r t refl)

      inside : r.taken ≡ true → place (holds r.number) qs < length qs
      inside t = taken_found r.number qs (ap (λ (x : Record). x.taken) (there t) ∙ t)

      -- and without it both have the same channels
      rest : (t : r.taken ≡ true) (n : ℕ) → Dec (n ≡ r.number) → record_of n rs ≡ record_of n (set qs (place (holds r.number) qs) blank)
      rest t n (yes e) =
          none_of n rs (λ i. none i (holds n (get_or rs i blank)) refl)
          ∙ sym (out_own qs _ (inside t) n p (ap (holds n) (there t) ∙ holds_own n r t (sym e)))
        where
          none : (i : ℕ) (b : Bool) → holds n (get_or rs i blank) ≡ b → b ≡ false
          none i true d = absurd (suc-ne-zero i (o (suc i) 0 n d (holds_own n r t (sym e))))
          none i false d = refl
      rest t n (no d) =
          let other : holds n r ≡ false = holds_other n r (λ e. d (sym e)) in
          sym (past n other) ∙ h n ∙ sym (out_other qs (place (holds r.number) qs) (inside t) n (ap (holds n) (there t) ∙ other))

      go :
          (t : Bool) → r.taken ≡ t
          → ((ws : List Record) → Once rs → Once ws → ((n : ℕ) → record_of n rs ≡ record_of n ws) → total of rs ≡ total of ws)
          → total of (r ∷ rs) ≡ total of qs
      go false t ih = omega (arith, light r t, ih qs behind p (λ n. sym (past n (holds_none n r t)) ∙ h n))
      go true t ih =
          let k = place (holds r.number) qs in
          let without = ih (set qs k blank) behind (out_once qs k (inside t) p) (λ n. rest t n (ℕ_discrete n r.number)) in
          omega (arith, light blank refl, ap of (there t), total_set of qs k blank (inside t), without)
