-- The laws of a state's words: one word read and written, and the record at a place.
-- Assumes nothing.
use mathlib.Core.Path.{◌≡◌, refl, ◌∙◌}
use mathlib.Core.Bool.{Bool, true, false}
use mathlib.Core.List.{List, [], ◌∷◌, ◌++◌, append_assoc}
use Prim.Native.Nat.{ℕ, zero, suc, ◌+◌, ◌*◌, ◌/◌, ◌%◌, ◌≤◌, ◌<◌}
use native.Mathlib.Omega.{arith}
use borrow.Author.Tests.{eq-eqb, lt-ltb}
use lib.Dec.{lit≤}
use lib.ListN.{length, take, drop, get_or, set, length-append}
use lib.Seq.{drop-cons, drop-drop}
use Rattle.paper.specs.Sizes.{PARTS}
use Rattle.lists.specs.Bytes.{laid, zeros}
use Rattle.lists.proofs.Laid.{laid_behind, length_laid}
use Rattle.numbers.specs.Numbers.{little, bytes_of, value_of, value_at}
use Rattle.numbers.proofs.Widths.{length_bytes_of}
use Rattle.channel.specs.declared.Record.{Record}
use Rattle.channel.specs.Channel.{blank}
use Rattle.table.specs.declared.Totals.{Totals}
use Rattle.table.specs.Table.{empty_table, record_at}
use Rattle.saved.specs.Saved.{STATE, HEAD, ROW, bit, stage_code, rest_of, head_of, record_bytes, row_bytes, head_bytes, saved}
use Rattle.saved.specs.Saved.{word_at, record_of, record_in, records_in, table_in, row_put, totals_put, begin_over}

-- ---- one word

four_at :
    (l : List ℕ) (at : ℕ) → at + 4 ≤ length l
    → take 4 (drop at l) ≡ get_or l at 0 ∷ get_or l (at + 1) 0 ∷ get_or l (at + 2) 0 ∷ get_or l (at + 3) 0 ∷ []
four_at l at h =
    let e1 : at + 1 ≡ suc at = omega arith in
    let e2 : at + 2 ≡ suc (suc at) = omega arith in
    let e3 : at + 3 ≡ suc (suc (suc at)) = omega arith in
    rw (
      e1,
      e2,
      e3,
      drop-cons l at 0 (omega arith),
      drop-cons l (suc at) 0 (omega arith),
      drop-cons l (suc (suc at)) 0 (omega arith),
      drop-cons l (suc (suc (suc at))) 0 (omega arith),
    )

pub word_four :
    (l : List ℕ) (at : ℕ) → at + 4 ≤ length l
    → little (get_or l at 0 ∷ get_or l (at + 1) 0 ∷ get_or l (at + 2) 0 ∷ get_or l (at + 3) 0 ∷ []) ≡ word_at l at
unfolding word_at value_at value_of
word_four l at h = rw (four_at l at h)

-- ---- the record at a place

pub word_drop : (l : List ℕ) (a k : ℕ) → word_at (drop a l) k ≡ word_at l (a + k)
unfolding word_at value_at
word_drop l a k = rw drop-drop

-- the record that the bytes from a place on tell
pub record_drop : (l : List ℕ) (a : ℕ) → record_in (drop a l) ≡ record_of (word_at l a) (word_at l (a + 4)) (word_at l (a + 8))
unfolding record_in
record_drop l a = let e : a + 0 ≡ a = omega arith in rw (word_drop l a 0, word_drop l a 4, word_drop l a 8, e)

pub row_told :
    (n : ℕ) (l : List ℕ) (a k : ℕ) → k < n
    → get_or (records_in n (drop a l)) k blank ≡ record_of (word_at l (a + ROW * k)) (word_at l (a + ROW * k + 4)) (word_at l (a + ROW * k + 8))
unfolding records_in ROW
row_told zero l a k h = absurd (omega arith)
row_told (suc n) l a zero h = let e : a + 12 * 0 ≡ a = omega arith in rw (e, record_drop l a)
row_told (suc n) l a (suc k) h =
    let e : a + 12 * suc k ≡ a + 12 + 12 * k = omega arith in
    rw (e, drop-drop 12 a l) (row_told n l (a + 12) k (omega arith))

-- the record at a place is what its own three words tell
pub row_at :
    (l : List ℕ) (k : ℕ) → k < PARTS
    → record_at (table_in l) k ≡ record_of (word_at l (ROW * k)) (word_at l (ROW * k + 4)) (word_at l (ROW * k + 8))
unfolding record_at table_in
row_at l k h = let e : 0 + ROW * k ≡ ROW * k = omega arith in rw e at (row_told PARTS l 0 k h)

pub length_records : (n : ℕ) (l : List ℕ) → length (records_in n l) ≡ n
unfolding records_in
length_records zero l = refl
length_records (suc n) l = rw (length_records n (drop ROW l))

-- ---- a record's bytes

pub bit_small : (b : Bool) → bit b ≤ 1
bit_small true = lit≤ tt
bit_small false = lit≤ tt

pub bit_most : (b : Bool) (v : ℕ) → v ≡ bit b → v ≤ 1
bit_most b v e = rw e (bit_small b)

-- three words, one behind the other
pub laid_three :
    (l : List ℕ) (at u v w : ℕ)
    → laid (laid (laid l at (bytes_of 4 u)) (at + 4) (bytes_of 4 v)) (at + 8) (bytes_of 4 w)
    ≡ laid l at (bytes_of 4 u ++ (bytes_of 4 v ++ bytes_of 4 w))
laid_three l at u v w =
    let a = bytes_of 4 u in
    let b = bytes_of 4 v in
    let first : laid (laid l at a) (at + 4) b ≡ laid l at (a ++ b) = rw (length_bytes_of 4 u) at (laid_behind l at a b) in
    let eight : length (a ++ b) ≡ 8 = length-append a b ∙ rw (length_bytes_of 4 u, length_bytes_of 4 v) in
    let second : laid (laid l at (a ++ b)) (at + 8) (bytes_of 4 w) ≡ laid l at ((a ++ b) ++ bytes_of 4 w) =
    rw eight at (laid_behind l at (a ++ b) (bytes_of 4 w)) in
    rw (first, second, append_assoc a b (bytes_of 4 w))

-- a record put at its place is its three words
pub row_put_law :
    (l : List ℕ) (k : ℕ) (r : Record) → k < PARTS
    → laid (laid (laid l (ROW * k) (bytes_of 4 (rest_of r))) (ROW * k + 4) (bytes_of 4 r.number)) (ROW * k + 8) (bytes_of 4 r.count)
    ≡ row_put l k r
unfolding row_put record_bytes
row_put_law l k r h = rw (lt-ltb k PARTS h) (laid_three l (ROW * k) (rest_of r) r.number r.count)

-- ---- the words behind the records

pub length_totals_put : (l : List ℕ) (totals : Totals) → length (totals_put l totals) ≡ length l
unfolding totals_put
length_totals_put l totals = length_laid _ _ _ ∙ length_laid _ _ _

-- the bytes of a word that is a mark alone
mark_bytes : (m w : ℕ) → m < 256 → w ≡ 16777216 * m → bytes_of 4 w ≡ 0 ∷ 0 ∷ 0 ∷ m ∷ []
unfolding bytes_of
mark_bytes m w h e =
    let d1 : w / 256 ≡ 65536 * m = omega arith in
    let d2 : 65536 * m / 256 ≡ 256 * m = omega arith in
    let d3 : 256 * m / 256 ≡ m = omega arith in
    let b0 : w % 256 ≡ 0 = omega arith in
    let b1 : 65536 * m % 256 ≡ 0 = omega arith in
    let b2 : 256 * m % 256 ≡ 0 = omega arith in
    let b3 : m % 256 ≡ m = omega arith in
    rw (b0, d1, b1, d2, b2, d3, b3)

no_bytes : bytes_of 4 0 ≡ zeros 4
unfolding bytes_of zeros
no_bytes = refl

-- the records of an empty table are zeros,
no_rows : row_bytes empty_table.records ≡ zeros 192
unfolding PARTS empty_table row_bytes record_bytes rest_of stage_code bytes_of zeros
no_rows = refl

-- and so is what stands behind them, but for the mark
first_head : (m : ℕ) → m < 256 → head_bytes m 0 empty_table ≡ 0 ∷ 0 ∷ 0 ∷ m ∷ zeros 8
unfolding empty_table head_bytes head_of zeros
first_head m h = rw (mark_bytes m (0 + (256 * 0 + 16777216 * m)) h (omega arith), no_bytes)

-- zeros with a mark are the state that Start makes
pub begin_zeros : (l : List ℕ) (m : ℕ) → m < 256 → length l ≡ STATE → set (zeros (length l)) (HEAD + 3) m ≡ begin_over l m
unfolding STATE HEAD zeros begin_over saved
begin_zeros l m h e = rw (eq-eqb (length l) 204 e, e, no_rows, first_head m h)
