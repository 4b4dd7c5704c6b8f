-- What is saved is told again, and what was told is saved as it was.
-- Assumes nothing.
use mathlib.Core.Path.{◌≡◌, refl, sym, ap, ◌∙◌}
use mathlib.Core.Bool.{Bool, true, false, not, ◌&&◌, ◌||◌}
use mathlib.Core.List.{List, [], ◌∷◌, ◌++◌, append_assoc, append-nil}
use mathlib.Core.Logic.{◌⊎◌, ⊎_elim}
use Prim.Native.Nat.{ℕ, zero, suc, ◌+◌, ◌*◌, ◌/◌, ◌%◌, ◌≤◌, ◌<◌}
use native.Mathlib.Omega.{arith}
use borrow.Author.Tests.{eq-eqb, ne_eqb, le-ltb, eqb-true, not-false}
use lib.Dec.{eqb, lit<, lit≤}
use lib.ListN.{length, take, drop, get_or, length-append, length-take, length-drop, take-append-drop, replicate, length-replicate, get_or-eq_default}
use lib.Seq.{drop_at, drop-drop, take-add, take_all, get_or-take, get_or-drop, length-take-le}
use Rattle.paper.specs.Sizes.{PARTS, MESSAGE_MAX}
use Rattle.lists.proofs.Cases.{both, lt_or_le}
use Rattle.numbers.specs.Numbers.{Bytes, bytes_of, value_of, value_at}
use Rattle.numbers.proofs.Widths.{length_bytes_of, value_in, value_below, bytes_of_little}
use Rattle.channel.specs.declared.Stage.{Stage}
use Rattle.channel.specs.declared.Stage.TheVariants.{Idle, Joining, Spoiled}
use Rattle.channel.specs.declared.Record.{Record}
use Rattle.channel.specs.Channel.{blank}
use Rattle.table.specs.declared.Table.{Table}
use Rattle.table.specs.Totals.{is_awaited}
use Rattle.table.specs.Table.{empty_table, record_at}
use Rattle.table.specs.Sound.{some, good_stage, sound_table}
use Rattle.table.proofs.Records.{at_past}
use Rattle.table.proofs.Soundness.{sound_says, joining_bounds, sound_empty, totals_most}
use Rattle.saved.specs.Saved.{STATE, HEAD, CHANNELS, AWAITED, ROW, CLIENT, SHORE, bit, stage_code, rest_of, level_if, head_of}
use Rattle.saved.specs.Saved.{record_bytes, row_bytes, head_bytes, saved, word_at, stage_of, record_of, record_in, records_in}
use Rattle.saved.specs.Saved.{level_in, ready_in, asked_in, table_in, good_row, good_rows, good_head, is_saved, unasked, is_state, is_good}
use Rattle.saved.specs.Kept.{Kept}
use Rattle.saved.proofs.Words.{bit_small, row_at}
use Rattle.saved.proofs.Searching.{length_told}

-- ---- three words, one behind the other

abbrev pub three : ℕ → ℕ → ℕ → List ℕ
three u v w = bytes_of 4 u ++ (bytes_of 4 v ++ bytes_of 4 w)

pub length_three : (u v w : ℕ) → length (three u v w) ≡ 12
length_three u v w =
    length-append (bytes_of 4 u) (bytes_of 4 v ++ bytes_of 4 w)
    ∙ rw (length-append (bytes_of 4 v) (bytes_of 4 w), length_bytes_of 4 u, length_bytes_of 4 v, length_bytes_of 4 w)

-- each is read from its place, whatever stands before and behind them
module _ (p q : List ℕ) (u v w at : ℕ) (e : length p ≡ at) where
  pub first_word : u < 4294967296 → word_at (p ++ (three u v w ++ q)) at ≡ u
  unfolding word_at
  first_word h = simp append_assoc (value_in p (bytes_of 4 v ++ (bytes_of 4 w ++ q)) 4 u at e (lit≤ tt) h)

  pub second_word : v < 4294967296 → word_at (p ++ (three u v w ++ q)) (at + 4) ≡ v
  unfolding word_at
  second_word h =
      let long : length (p ++ bytes_of 4 u) ≡ at + 4 = length-append p (bytes_of 4 u) ∙ rw (e, length_bytes_of 4 u) in
      simp append_assoc (simp append_assoc at (value_in (p ++ bytes_of 4 u) (bytes_of 4 w ++ q) 4 v (at + 4) long (lit≤ tt) h))

  pub third_word : w < 4294967296 → word_at (p ++ (three u v w ++ q)) (at + 8) ≡ w
  unfolding word_at
  third_word h =
      let front = bytes_of 4 u ++ bytes_of 4 v in
      let eight : length front ≡ 8 = length-append (bytes_of 4 u) (bytes_of 4 v) ∙ rw (length_bytes_of 4 u, length_bytes_of 4 v) in
      let long : length (p ++ front) ≡ at + 8 = length-append p front ∙ rw (e, eight) in
      simp append_assoc (simp append_assoc at (value_in (p ++ front) q 4 w (at + 8) long (lit≤ tt) h))

-- ---- how long they are

pub length_record : (r : Record) → length (record_bytes r) ≡ ROW
unfolding record_bytes ROW
length_record r = length_three (rest_of r) r.number r.count

pub length_rows : (rs : List Record) → length (row_bytes rs) ≡ ROW * length rs
unfolding row_bytes ROW
length_rows [] = refl
length_rows (r ∷ rs) = length-append (record_bytes r) (row_bytes rs) ∙ rw (length_record r, length_rows rs) (omega arith)

pub length_head : (mark asked : ℕ) (t : Table) → length (head_bytes mark asked t) ≡ 12
unfolding head_bytes
length_head mark asked t = length_three (head_of mark asked t.ready t.level) t.totals.channels t.totals.awaited

-- the records are the bytes before the head
pub rows_long : (t : Table) → length t.records ≡ PARTS → length (row_bytes t.records) ≡ HEAD
unfolding PARTS HEAD ROW
rows_long t e = length_rows t.records ∙ rw e

pub length_saved : (mark asked : ℕ) (t : Table) → length t.records ≡ PARTS → length (saved mark asked t) ≡ STATE
unfolding saved HEAD STATE
length_saved mark asked t e =
    length-append (row_bytes t.records) (head_bytes mark asked t) ∙ rw (rows_long t e, length_head mark asked t)

-- ---- one record

-- a record that may stand in a sound table, with a number and a count of 32 bits
pub record Fine (r : Record) : Type 0 where
  pub number : r.number < 4294967296
  pub count : r.count < 4294967296
  pub class : r.class ≤ 3
  pub stage : good_stage r.stage ≡ true

stage_back : (s : Stage) → good_stage s ≡ true → (stage_of (stage_code s) ≡ s) × (stage_code s < 268435456)
unfolding stage_of stage_code MESSAGE_MAX
stage_back Idle g = (refl, lit< tt)
stage_back (Joining w h) g =
    let b = joining_bounds (Joining w h) w h refl g in
    let z = ne_eqb (4096 * w + h) 0 (λ e. omega arith) in
    let l = le-ltb (4096 * w + h) 4096 (omega arith) in
    let q : (4096 * w + h) / 4096 % 65536 ≡ w = omega arith in
    let m : (4096 * w + h) % 4096 ≡ h = omega arith in
    (rw (z, l, q, m), omega arith)
stage_back Spoiled g = (refl, lit< tt)

-- a record's word, of its parts
abbrev packed : Bool → ℕ → ℕ → Bool → ℕ
packed b c s a = bit b + (2 * (c % 4) + (8 * (s % 268435456) + 2147483648 * bit a))

packed_small : (b : Bool) (c s : ℕ) (a : Bool) → packed b c s a < 4294967296
packed_small b c s a = omega (arith, bit_small b, bit_small a)

module _ (c s : ℕ) (h : c ≤ 3) (k : s < 268435456) where
  packed_taken : (b a : Bool) → eqb (packed b c s a % 2) 1 ≡ b
  packed_taken true a = eq-eqb (packed true c s a % 2) 1 (omega arith)
  packed_taken false a = ne_eqb (packed false c s a % 2) 1 (λ e. omega arith)

  packed_class : (b a : Bool) → packed b c s a / 2 % 4 ≡ c
  packed_class true a = omega arith
  packed_class false a = omega arith

  packed_stage : (b a : Bool) → packed b c s a / 8 % 268435456 ≡ s
  packed_stage true a = omega arith
  packed_stage false a = omega arith

  packed_awaited : (b a : Bool) → eqb (packed b c s a / 2147483648) 1 ≡ a
  packed_awaited b true = eq-eqb (packed b c s true / 2147483648) 1 (omega (arith, bit_small b))
  packed_awaited b false = ne_eqb (packed b c s false / 2147483648) 1 (λ e. omega (arith, bit_small b))

rest_small : (r : Record) → rest_of r < 4294967296
unfolding rest_of
rest_small r = packed_small r.taken r.class (stage_code r.stage) r.awaited

record_back : (r : Record) → Fine r → record_of (rest_of r) r.number r.count ≡ r
unfolding record_of rest_of
record_back r f =
    let s = stage_back r.stage f.stage in
    let c = stage_code r.stage in
    rw (
      packed_taken r.class c f.class s.1 r.taken r.awaited,
      packed_class r.class c f.class s.1 r.taken r.awaited,
      packed_stage r.class c f.class s.1 r.taken r.awaited,
      packed_awaited r.class c f.class s.1 r.taken r.awaited,
      s.0,
    )

-- the record at the front, whatever stands behind it
module _ (r : Record) (f : Fine r) (q : List ℕ) where
  record_told : record_in (record_bytes r ++ q) ≡ r
  unfolding record_in record_bytes
  record_told =
      rw (
        first_word [] q (rest_of r) r.number r.count 0 refl (rest_small r),
        second_word [] q (rest_of r) r.number r.count 0 refl f.number,
        third_word [] q (rest_of r) r.number r.count 0 refl f.count,
      ) (record_back r f)

  row_first : word_at (record_bytes r ++ q) 0 ≡ rest_of r
  unfolding record_bytes
  row_first = first_word [] q (rest_of r) r.number r.count 0 refl (rest_small r)

  row_good : good_row (record_bytes r ++ q) ≡ true
  unfolding good_row
  row_good = rw (record_told, row_first) (eq-eqb (rest_of r) (rest_of r) refl)

-- ---- all records, by one law

pub rows_back :
    (rs : List Record) (q : List ℕ) → ((i : ℕ) → Fine (get_or rs i blank))
    → (records_in (length rs) (row_bytes rs ++ q) ≡ rs) × (good_rows (length rs) (row_bytes rs ++ q) ≡ true)
unfolding records_in good_rows row_bytes ROW
rows_back [] q f = (refl, refl)
rows_back (r ∷ rs) q f =
    let more = rows_back rs q (λ i. f (suc i)) in
    let a : (record_bytes r ++ row_bytes rs) ++ q ≡ record_bytes r ++ (row_bytes rs ++ q) = append_assoc (record_bytes r) (row_bytes rs) q in
    let d : drop 12 (record_bytes r ++ (row_bytes rs ++ q)) ≡ row_bytes rs ++ q = drop_at (record_bytes r) (row_bytes rs ++ q) 12 (length_record r) in
    (rw (a, record_told r (f 0) (row_bytes rs ++ q), d, more.0), rw (a, row_good r (f 0) (row_bytes rs ++ q), d, more.1))

-- ---- the table

-- the word of the end, of its parts
module _ (v asked mark : ℕ) (low : v < 256) (mid : asked < 65536) (high : mark < 256) where
  head_level : (v + (256 * asked + 16777216 * mark)) % 256 ≡ v
  head_level = omega arith

  head_asked : (v + (256 * asked + 16777216 * mark)) / 256 % 65536 ≡ asked
  head_asked = omega arith

  head_small : v + (256 * asked + 16777216 * mark) < 4294967296
  head_small = omega arith

-- a level is told by itself where there is one, and only there
level_kept : (t : Table) → Kept t → (level_if t.ready t.level ≡ t.level) × (not (eqb t.level 0) ≡ t.ready) × (t.level < 256)
level_kept t k = go t.ready t.level k.unready (sound_says t k.sound).level
  where
    go :
        (b : Bool) (v : ℕ) → (b ≡ false → v ≡ 0) → (b ≡ true → (v ≡ 1) ⊎ (v ≡ 2))
        → (level_if b v ≡ v) × (not (eqb v 0) ≡ b) × (v < 256)
    go true v z l = ⊎_elim (λ e. rw e (refl, refl, lit< tt)) (λ e. rw e (refl, refl, lit< tt)) (l refl)
    go false v z l = rw (z refl) (refl, refl, lit< tt)

-- what stands behind the records are three words
module _ (mark asked : ℕ) (t : Table) (rows : length t.records ≡ PARTS) where
  pub behind :
      saved mark asked t
      ≡ row_bytes t.records ++ (three (head_of mark asked t.ready t.level) t.totals.channels t.totals.awaited ++ [])
  unfolding saved head_bytes
  behind = rw append-nil

  pub channels_word : t.totals.channels < 4294967296 → word_at (saved mark asked t) CHANNELS ≡ t.totals.channels
  unfolding HEAD CHANNELS
  channels_word h = rw behind (second_word (row_bytes t.records) [] _ _ _ HEAD (rows_long t rows) h)

  pub awaited_word : t.totals.awaited < 4294967296 → word_at (saved mark asked t) AWAITED ≡ t.totals.awaited
  unfolding HEAD AWAITED
  awaited_word h = rw behind (third_word (row_bytes t.records) [] _ _ _ HEAD (rows_long t rows) h)

module _ (mark asked : ℕ) (t : Table) (high : mark < 256) (mid : asked < 65536) (k : Kept t) where
  fine_rows_law : (i : ℕ) → Fine (get_or t.records i blank)
  unfolding record_at
  fine_rows_law i =
      let s = sound_says t k.sound in
      record { number = k.numbers i; count = k.counts i; class = s.class i; stage = s.stage i }

  head_word : word_at (saved mark asked t) HEAD ≡ t.level + (256 * asked + 16777216 * mark)
  unfolding head_of
  head_word =
      let l = level_kept t k in
      let h = head_small t.level asked mark l.2 mid high in
      rw (behind mark asked t k.rows, l.0) (first_word (row_bytes t.records) [] _ _ _ HEAD (rows_long t k.rows) h)

  rows_told : (records_in PARTS (saved mark asked t) ≡ t.records) × (good_rows PARTS (saved mark asked t) ≡ true)
  unfolding saved
  rows_told = rw k.rows at (rows_back t.records (head_bytes mark asked t) fine_rows_law)

  -- THE LAW: what is saved is told again,
  pub saved_told : table_in (saved mark asked t) ≡ t
  unfolding table_in ready_in
  saved_told =
      let l = level_kept t k in
      let m = totals_most t k.rows k.sound in
      rw (
        head_word,
        head_level t.level asked mark l.2 mid high,
        channels_word mark asked t k.rows (omega arith),
        awaited_word mark asked t k.rows (omega arith),
        rows_told.0,
        l.1,
      )

  -- with the version that was asked for
  pub saved_asked : asked_in (saved mark asked t) ≡ asked
  unfolding asked_in
  saved_asked = rw head_word (head_asked t.level asked mark (level_kept t k).2 mid high)

  level_told : level_in (saved mark asked t) ≡ t.level
  level_told = rw head_word (head_level t.level asked mark (level_kept t k).2 mid high)

  pub saved_is : is_saved mark (saved mark asked t) ≡ true
  unfolding is_saved good_head head_of ready_in
  saved_is =
      let l = level_kept t k in
      rw (
        saved_asked,
        level_told,
        l.1,
        l.0,
        head_word,
        eq-eqb (length (saved mark asked t)) STATE (length_saved mark asked t k.rows),
        eq-eqb (t.level + (256 * asked + 16777216 * mark)) (t.level + (256 * asked + 16777216 * mark)) refl,
        rows_told.1,
      )

-- the bytes of a kept table are a state of its end: the client asks for nothing and awaits no number
pub saved_state_client :
    (t : Table) → Kept t → some is_awaited t.records ≡ false → is_state CLIENT false (saved CLIENT 0 t) ≡ true
unfolding is_state unasked
saved_state_client t k none =
    rw (
      saved_is CLIENT 0 t (lit< tt) (lit< tt) k,
      saved_asked CLIENT 0 t (lit< tt) (lit< tt) k,
      saved_told CLIENT 0 t (lit< tt) (lit< tt) k,
      none,
    )

pub saved_state_shore : (asked : ℕ) (t : Table) → asked < 65536 → Kept t → is_state SHORE true (saved SHORE asked t) ≡ true
unfolding is_state
saved_state_shore asked t h k = rw (saved_is SHORE asked t (lit< tt) h k)

-- and since the table is sound, such bytes are accepted
pub saved_good_client :
    (t : Table) → Kept t → some is_awaited t.records ≡ false → is_good CLIENT false (saved CLIENT 0 t) ≡ true
unfolding is_good
saved_good_client t k none = rw (saved_state_client t k none, saved_told CLIENT 0 t (lit< tt) (lit< tt) k) k.sound

pub saved_good_shore : (asked : ℕ) (t : Table) → asked < 65536 → Kept t → is_good SHORE true (saved SHORE asked t) ≡ true
unfolding is_good
saved_good_shore asked t h k = rw (saved_state_shore asked t h k, saved_told SHORE asked t (lit< tt) h k) k.sound

-- the table that Start makes can be kept
blank_at : (n i : ℕ) → get_or (replicate n blank) i blank ≡ blank
blank_at zero i = refl
blank_at (suc n) zero = refl
blank_at (suc n) (suc i) = blank_at n i

pub kept_empty : Kept empty_table
unfolding empty_table record_at
kept_empty =
    record {
      rows = length-replicate PARTS blank;
      sound = sound_empty;
      unready = λ e. refl;
      numbers = λ i. rw (blank_at PARTS i) (lit< tt);
      counts = λ i. rw (blank_at PARTS i) (lit< tt);
    }

-- ---- what was told is saved as it was: bytes that tell a table are that table's bytes, so that a refusal leaves them all

pub byte_take : (l : List ℕ) (n a : ℕ) → Bytes l → Bytes (take n (drop a l))
byte_take l n a h i =
    ⊎_elim
    (λ (k : i < n). rw (get_or-take, get_or-drop) (h (a + i)))
    (λ (k : n ≤ i). rw (get_or-eq_default (take n (drop a l)) 0 {n = i} (rw length-take (omega arith))) (lit< tt))
    (lt_or_le i n)

word_bytes : (l : List ℕ) (a : ℕ) → Bytes l → a + 4 ≤ length l → bytes_of 4 (word_at l a) ≡ take 4 (drop a l)
unfolding word_at value_at value_of
word_bytes l a h k =
    let x = take 4 (drop a l) in
    let n : length x ≡ 4 = length-take-le 4 (drop a l) (rw length-drop (omega arith)) in
    let t : take 4 x ≡ x = take_all 4 x (omega arith) in
    rw t (rw n at (bytes_of_little x (byte_take l 4 a h)))

-- three words are their twelve bytes
three_bytes :
    (l : List ℕ) (a : ℕ) → Bytes l → a + 12 ≤ length l → three (word_at l a) (word_at l (a + 4)) (word_at l (a + 8)) ≡ take 12 (drop a l)
three_bytes l a h k =
    let x = drop a l in
    rw (word_bytes l a h (omega arith), word_bytes l (a + 4) h (omega arith), word_bytes l (a + 8) h (omega arith), ← (drop-drop 4 a l), ← (drop-drop 8 a l))
    (sym (take-add 4 8 x ∙ ap (λ (y : List ℕ). take 4 x ++ y) (take-add 4 4 (drop 4 x) ∙ ap (λ (z : List ℕ). take 4 (drop 4 x) ++ take 4 z) (drop-drop 4 4 x))))

record_again : (l : List ℕ) → Bytes l → 12 ≤ length l → good_row l ≡ true → record_bytes (record_in l) ≡ take 12 l
unfolding good_row record_bytes record_in record_of
record_again l h k g =
    rw (eqb-true (rest_of (record_in l)) (word_at l 0) g) (three_bytes l 0 h k)

rows_again : (n : ℕ) (l : List ℕ) → Bytes l → 12 * n ≤ length l → good_rows n l ≡ true → row_bytes (records_in n l) ++ drop (12 * n) l ≡ l
unfolding good_rows row_bytes records_in ROW
rows_again zero l h k g = refl
rows_again (suc n) l h k g =
    let b = both (good_row l) (good_rows n (drop 12 l)) g in
    let more = rows_again n (drop 12 l) (λ i. rw get_or-drop (h (12 + i))) (rw length-drop (omega arith)) b.1 in
    let e : 12 * suc n ≡ 12 + 12 * n = omega arith in
    rw (e, ← (drop-drop (12 * n) 12 l), append_assoc, more, record_again l h (omega arith) b.0) (take-append-drop 12 l)

-- what bytes that tell a table are: their size, the word of the end, and their records
record Said (mark : ℕ) (l : List ℕ) : Type 0 where
  size : length l ≡ STATE
  head : head_of mark (asked_in l) (ready_in l) (level_in l) ≡ word_at l HEAD
  rows : good_rows PARTS l ≡ true

said : (mark : ℕ) (l : List ℕ) → is_saved mark l ≡ true → Said mark l
unfolding is_saved good_head
said mark l g =
    let a = both (eqb (length l) STATE) (good_head mark l && good_rows PARTS l) g in
    let b = both (good_head mark l) (good_rows PARTS l) a.1 in
    record {
      size = eqb-true (length l) STATE a.0;
      head = eqb-true (head_of mark (asked_in l) (ready_in l) (level_in l)) (word_at l HEAD) b.0;
      rows = b.1;
    }

pub saved_size : (mark : ℕ) (l : List ℕ) → is_saved mark l ≡ true → length l ≡ STATE
saved_size mark l g = (said mark l g).size

head_again : (mark : ℕ) (l : List ℕ) → Bytes l → Said mark l → head_bytes mark (asked_in l) (table_in l) ≡ drop HEAD l
unfolding head_bytes table_in HEAD CHANNELS AWAITED STATE
head_again mark l h s =
    rw s.head (three_bytes l 192 h (omega (arith, s.size)) ∙ take_all 12 (drop 192 l) (rw length-drop (omega (arith, s.size))))

rows_whole : (mark : ℕ) (l : List ℕ) → Bytes l → Said mark l → row_bytes (table_in l).records ++ drop HEAD l ≡ l
unfolding table_in PARTS HEAD STATE
rows_whole mark l h s = rows_again 16 l h (omega (arith, s.size)) s.rows

pub told_saved : (mark : ℕ) (l : List ℕ) → Bytes l → is_saved mark l ≡ true → saved mark (asked_in l) (table_in l) ≡ l
unfolding saved
told_saved mark l h g = let s = said mark l g in rw (head_again mark l h s) (rows_whole mark l h s)

-- ---- and such a table is one that a host can keep

pub word_below : (l : List ℕ) (a : ℕ) → Bytes l → word_at l a < 4294967296
unfolding word_at
word_below l a h = value_below l a 4 (lit≤ tt) h

-- a record's number and count are words
record_below : (l : List ℕ) (i : ℕ) → Bytes l → ((record_at (table_in l) i).number < 4294967296) × ((record_at (table_in l) i).count < 4294967296)
unfolding record_at record_of
record_below l i h =
    ⊎_elim
    (λ (k : i < PARTS). rw (row_at l i k) (word_below l (ROW * i + 4) h, word_below l (ROW * i + 8) h))
    (λ (k : PARTS ≤ i). rw (at_past (table_in l).records i (rw (length_told l) k)) (lit< tt, lit< tt))
    (lt_or_le i PARTS)

level_none : (l : List ℕ) → ready_in l ≡ false → level_in l ≡ 0
unfolding ready_in
level_none l e = eqb-true (level_in l) 0 (not-false (eqb (level_in l) 0) e)

pub kept_told : (mark : ℕ) (asks : Bool) (l : List ℕ) → Bytes l → is_good mark asks l ≡ true → Kept (table_in l)
unfolding is_good table_in
kept_told mark asks l h g =
    record {
      rows = length_told l;
      sound = (both (is_state mark asks l) (sound_table (table_in l)) g).1;
      unready = level_none l;
      numbers = λ i. (record_below l i h).0;
      counts = λ i. (record_below l i h).1;
    }

-- an accepted state tells a table
pub good_saved : (mark : ℕ) (asks : Bool) (l : List ℕ) → is_good mark asks l ≡ true → is_saved mark l ≡ true
unfolding is_good is_state
good_saved mark asks l g =
    (both (is_saved mark l) (asks || unasked l) (both (is_state mark asks l) (sound_table (table_in l)) g).0).0
