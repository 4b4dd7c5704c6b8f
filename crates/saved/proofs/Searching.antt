-- The laws of a search in a state's bytes: what two words say of the record at a place.
-- Assumes nothing.
use mathlib.Core.Path.{◌≡◌}
use mathlib.Core.Bool.{true, false}
use mathlib.Core.List.{List}
use Prim.Native.Nat.{ℕ, ◌+◌, ◌*◌, ◌%◌, ◌≤◌, ◌<◌}
use native.Mathlib.Omega.{arith}
use borrow.Author.Tests.{eq-eqb, ne_eqb, lt-ltb, le-ltb}
use lib.Dec.{eqb}
use lib.ListN.{length, get_or}
use Rattle.paper.specs.Sizes.{PARTS}
use Rattle.lists.proofs.Cases.{and_false}
use Rattle.channel.specs.declared.Record.{Record}
use Rattle.channel.specs.Channel.{blank}
use Rattle.table.specs.declared.Found.{Found}
use Rattle.table.specs.Table.{holds, is_free, record_at, number_place, free_place, home_place, home_in}
use Rattle.table.proofs.Records.{at_past}
use Rattle.saved.specs.Saved.{STATE, ROW, word_at, record_of, table_in, home_over}
use Rattle.saved.proofs.Words.{row_at, length_records}

-- a table told by bytes has its sixteen records
pub length_told : (l : List ℕ) → length (table_in l).records ≡ PARTS
unfolding table_in
length_told l = length_records PARTS l

module _ (l : List ℕ) (i : ℕ) (h : i < PARTS) where
  -- the record there holds the number,
  pub held_at :
      (n : ℕ) → word_at l (ROW * i + 4) ≡ n → word_at l (ROW * i) % 2 ≡ 1 → holds n (get_or (table_in l).records i blank) ≡ true
  unfolding record_at record_of holds
  held_at n e t = rw (row_at l i h, eq-eqb (word_at l (ROW * i) % 2) 1 t, eq-eqb (word_at l (ROW * i + 4)) n e)

  -- or it has another,
  pub other_at : (n : ℕ) → (word_at l (ROW * i + 4) ≡ n → ⊥) → holds n (get_or (table_in l).records i blank) ≡ false
  unfolding record_at record_of holds
  other_at n d = rw (row_at l i h, ne_eqb (word_at l (ROW * i + 4)) n d) (and_false (eqb (word_at l (ROW * i) % 2) 1))

  -- or it isn't taken
  pub unheld_at : (n : ℕ) → (word_at l (ROW * i) % 2 ≡ 1 → ⊥) → holds n (get_or (table_in l).records i blank) ≡ false
  unfolding record_at record_of holds
  unheld_at n d = rw (row_at l i h, ne_eqb (word_at l (ROW * i) % 2) 1 d)

  -- the record there is free,
  pub free_at : word_at l (ROW * i) % 2 ≡ 0 → is_free (get_or (table_in l).records i blank) ≡ true
  unfolding record_at record_of is_free
  free_at e = rw (row_at l i h, ne_eqb (word_at l (ROW * i) % 2) 1 (λ q. omega arith))

  -- or it is taken
  pub taken_at : (word_at l (ROW * i) % 2 ≡ 0 → ⊥) → is_free (get_or (table_in l).records i blank) ≡ false
  unfolding record_at record_of is_free
  taken_at d = rw (row_at l i h, eq-eqb (word_at l (ROW * i) % 2) 1 (odd (word_at l (ROW * i)) d))
    where
      odd : (w : ℕ) → (w % 2 ≡ 0 → ⊥) → w % 2 ≡ 1
      odd w q = omega arith

-- ---- a number's home

module _ (n : ℕ) (l : List ℕ) (k : ℕ) (size : length l ≡ STATE) (e : k ≡ number_place n (table_in l)) where
  pub home_there : (r : Record) → k < PARTS → r ≡ record_at (table_in l) k → ◌≡◌ {A = Found} (record { place = k; row = r }) (home_over n l)
  unfolding home_over home_in home_place
  home_there r h f = rw (eq-eqb (length l) STATE size, ← e, lt-ltb k PARTS h, f)

  pub home_free :
      (j : ℕ) (r : Record) → PARTS ≤ k → j ≡ free_place (table_in l) → r ≡ blank
      → ◌≡◌ {A = Found} (record { place = j; row = r }) (home_over n l)
  unfolding home_over home_in home_place record_at
  home_free j r h f b = rw (
    eq-eqb (length l) STATE size,
    ← e,
    le-ltb k PARTS h,
    f,
    b,
    at_past (table_in l).records k (rw (length_told l) h),
  )
