-- Rows of a table of sequences whose first bytes rise from row to row: at most one of them begins a text, and its first byte says which.
-- Assumes nothing.
use mathlib.Core.Path.{◌≡◌, refl, sym, ◌∙◌}
use mathlib.Core.Bool.{Bool, true, false, cond, ◌&&◌}
use mathlib.Core.List.{List, [], ◌∷◌, ◌++◌, Memᴰ}
use Prim.Native.Nat.{ℕ, suc, ◌≤◌, ◌<◌}
use native.Mathlib.Omega.{arith}
use borrow.Author.Tests.{leb-true, le-leb, lt-leb}
use lib.Dec.{leb}
use lib.ListN.{length, take}
use Rattle.lists.proofs.Cases.{choice, both, true_not_false}
use Rattle.codepage.specs.Utf8.{Range, Within, is_in, begins, width_by}

-- the first bytes of each row are n or more, and more than those of the row before
unfoldable pub rising : ℕ → List (List Range) → Bool
rising n [] = true
rising n ([] ∷ rows) = false
rising n ((r ∷ row) ∷ rows) = leb n r.from && (leb r.from r.to && rising (suc r.to) rows)

-- ---- a byte and a range

pub in_range : (r : Range) (b : ℕ) → r.from ≤ b → b ≤ r.to → is_in r b ≡ true
in_range r b h g = rw (le-leb r.from b h, le-leb b r.to g)

pub below_range : (r : Range) (b : ℕ) → b < r.from → is_in r b ≡ false
below_range r b h = rw (lt-leb r.from b h)

pub above_range : (r : Range) (b : ℕ) → r.to < b → is_in r b ≡ false
above_range r b h = rw (lt-leb b r.to h) (neither (leb r.from b))
  where
    neither : (t : Bool) → (t && false) ≡ false
    neither true = refl
    neither false = refl

pub bounds : (r : Range) (b : ℕ) → is_in r b ≡ true → (r.from ≤ b) × (b ≤ r.to)
bounds r b h =
    let t = both (leb r.from b) (leb b r.to) h in
    (leb-true r.from b t.0, leb-true b r.to t.1)

-- ---- one row

-- a sequence of a row, whatever stands behind it
pub within_begins : (row : List Range) (sequence text : List ℕ) → Within row sequence → begins row (sequence ++ text) ≡ true
unfolding begins
within_begins [] [] text w = refl
within_begins [] (b ∷ sequence) text w = absurd w
within_begins (r ∷ row) [] text w = absurd w
within_begins (r ∷ row) (b ∷ sequence) text w = rw (in_range r b w.0.0 w.0.1, within_begins row sequence text w.1)

pub within_length : (row : List Range) (sequence : List ℕ) → Within row sequence → length sequence ≡ length row
within_length [] [] w = refl
within_length [] (b ∷ sequence) w = absurd w
within_length (r ∷ row) [] w = absurd w
within_length (r ∷ row) (b ∷ sequence) w = rw (within_length row sequence w.1)

-- more bytes change nothing
begins_more : (row : List Range) (text more : List ℕ) → begins row text ≡ true → begins row (text ++ more) ≡ true
unfolding begins
begins_more [] text more h = refl
begins_more (r ∷ row) [] more h = absurd (true_not_false (sym h))
begins_more (r ∷ row) (b ∷ text) more h =
    let t = both (is_in r b) (begins row text) h in
    rw (t.0, begins_more row text more t.1)

-- the bytes are there
begins_fits : (row : List Range) (text : List ℕ) → begins row text ≡ true → length row ≤ length text
unfolding begins
begins_fits [] text h = omega arith
begins_fits (r ∷ row) [] h = absurd (true_not_false (sym h))
begins_fits (r ∷ row) (b ∷ text) h = omega (arith, begins_fits row text (both (is_in r b) (begins row text) h).1)

-- and they are a sequence of the row
pub begins_within : (row : List Range) (text : List ℕ) → begins row text ≡ true → Within row (take (length row) text)
unfolding begins
begins_within [] text h = tt
begins_within (r ∷ row) [] h = absurd (true_not_false (sym h))
begins_within (r ∷ row) (b ∷ text) h =
    let t = both (is_in r b) (begins row text) h in
    (bounds r b t.0, begins_within row text t.1)

-- ---- all rows

-- what rising rows are made of
record Risen (n : ℕ) (r : Range) (rows : List (List Range)) : Type 0 where
  pub low : n ≤ r.from
  pub not_empty : r.from ≤ r.to
  pub others : rising (suc r.to) rows ≡ true

risen : (n : ℕ) (r : Range) (row : List Range) (rows : List (List Range)) → rising n ((r ∷ row) ∷ rows) ≡ true → Risen n r rows
unfolding rising
risen n r row rows h =
    let t = both (leb n r.from) (leb r.from r.to && rising (suc r.to) rows) h in
    let u = both (leb r.from r.to) (rising (suc r.to) rows) t.1 in
    record { low = leb-true n r.from t.0; not_empty = leb-true r.from r.to u.0; others = u.1 }

-- a first byte below them all
pub below_all : (n : ℕ) (rows : List (List Range)) (b : ℕ) (text : List ℕ) → rising n rows ≡ true → b < n → width_by rows (b ∷ text) ≡ 0
unfolding width_by begins rising
below_all n [] b text h low = refl
below_all n ([] ∷ rows) b text h low = absurd (true_not_false (sym h))
below_all n ((r ∷ row) ∷ rows) b text h low =
    let up = risen n r row rows h in
    rw (below_range r b (omega (arith, up.low)), below_all (suc r.to) rows b text up.others (omega (arith, up.low, up.not_empty)))

-- the first bytes of a row among them
above_first : (n : ℕ) (rows : List (List Range)) (r : Range) (row : List Range) → rising n rows ≡ true → Memᴰ (r ∷ row) rows → n ≤ r.from
unfolding rising
above_first n [] r row h m = elim m [ ]
above_first n ([] ∷ rows) r row h m = absurd (true_not_false (sym h))
above_first n ((q ∷ first) ∷ rows) r row h (Memᴰ.head e) =
    let up = risen n q first rows h in
    let same : r ≡ q = cc in
    rw same up.low
above_first n ((q ∷ first) ∷ rows) r row h (Memᴰ.tail m) =
    let up = risen n q first rows h in
    omega (arith, up.low, up.not_empty, above_first (suc q.to) rows r row up.others m)

-- the row that has the first byte decides
pub by_first :
    (n : ℕ) (rows : List (List Range)) (r : Range) (row : List Range) (b : ℕ) (text : List ℕ) → rising n rows ≡ true → Memᴰ (r ∷ row) rows
    → r.from ≤ b → b ≤ r.to → width_by rows (b ∷ text) ≡ cond (begins row text) (suc (length row)) 0
unfolding width_by begins rising
by_first n [] r row b text h m low high = elim m [ ]
by_first n ([] ∷ rows) r row b text h m low high = absurd (true_not_false (sym h))
by_first n ((q ∷ first) ∷ rows) r row b text h (Memᴰ.head e) low high =
    let up = risen n q first rows h in
    let same : r ≡ q = cc in
    let rest : row ≡ first = cc in
    let here = in_range q b (rw same at low) (rw same at high) in
    let none = below_all (suc q.to) rows b text up.others (omega (arith, rw same at high)) in
    rw (here, none, rest)
by_first n ((q ∷ first) ∷ rows) r row b text h (Memᴰ.tail m) low high =
    let up = risen n q first rows h in
    let behind = above_first (suc q.to) rows r row up.others m in
    rw (above_range q b (omega (arith, behind, low))) (by_first (suc q.to) rows r row b text up.others m low high)

-- no row among them is empty
none_empty_law : (n : ℕ) (rows : List (List Range)) → rising n rows ≡ true → Memᴰ [] rows → ⊥
unfolding rising
none_empty_law n [] h m = elim m [ ]
none_empty_law n ([] ∷ rows) h m = true_not_false (sym h)
none_empty_law n ((q ∷ first) ∷ rows) h (Memᴰ.head e) = let z : ◌≡◌ {A = ℕ} 0 1 = cc in omega arith
none_empty_law n ((q ∷ first) ∷ rows) h (Memᴰ.tail m) = none_empty_law (suc q.to) rows (risen n q first rows h).others m

-- the row that begins a text is the only one
pub only : (n : ℕ) (rows : List (List Range)) (row : List Range) (text : List ℕ) → rising n rows ≡ true → Memᴰ row rows
    → begins row text ≡ true → (width_by rows text ≡ length row) × (0 < length row)
unfolding begins
only n rows [] text h m is = absurd (none_empty_law n rows h m)
only n rows (r ∷ row) [] h m is = absurd (true_not_false (sym is))
only n rows (r ∷ row) (b ∷ text) h m is =
    let t = both (is_in r b) (begins row text) is in
    let at = bounds r b t.0 in
    (by_first n rows r row b text h m at.0 at.1 ∙ rw t.1, omega arith)

-- the row by which a sequence stands at the front
pub record Begun (rows : List (List Range)) (text : List ℕ) : Type 0 where
  pub row : List Range
  pub of_table : Memᴰ row rows
  pub is_begun : begins row text ≡ true
  pub width : width_by rows text ≡ length row

pub which : (rows : List (List Range)) (text : List ℕ) → 0 < width_by rows text → Begun rows text
unfolding width_by
which [] text some = absurd (omega arith)
which (row ∷ rows) text some = go (begins row text) refl some (which rows text)
  where
    go : (t : Bool) → begins row text ≡ t → 0 < cond t (length row) (width_by rows text) → (0 < width_by rows text → Begun rows text)
        → Begun (row ∷ rows) text
    go true e some later = record { row = row; of_table = Memᴰ.head refl; is_begun = e; width = rw e }
    go false e some later =
        let other = later some in
        record { row = other.row; of_table = Memᴰ.tail other.of_table; is_begun = other.is_begun; width = rw e other.width }

-- ---- as a framing

pub fits : (rows : List (List Range)) (text : List ℕ) → width_by rows text ≤ length text
unfolding width_by
fits [] text = omega arith
fits (row ∷ rows) text =
    choice (λ (n : ℕ). n ≤ length text) (begins row text) (λ e. begins_fits row text e) (λ e. fits rows text)

pub more_behind : (n : ℕ) (rows : List (List Range)) (text more : List ℕ) → rising n rows ≡ true → 0 < width_by rows text
    → width_by rows (text ++ more) ≡ width_by rows text
more_behind n rows text more h some =
    let one = which rows text some in
    (only n rows one.row (text ++ more) h one.of_table (begins_more one.row text more one.is_begun)).0 ∙ sym one.width
