-- The laws of judging: the rows from a place on, and that what is judged word by word is the definition.
-- Assumes nothing.
use mathlib.Core.Path.{◌≡◌, refl, sym, ap, ◌∙◌}
use mathlib.Core.Bool.{Bool, true, false, not, ◌&&◌, ◌||◌}
use mathlib.Core.List.{List}
use Prim.Native.Nat.{ℕ, zero, suc, ◌+◌, ◌-◌, ◌*◌, ◌/◌, ◌%◌, ◌≤◌, ◌<◌}
use native.Mathlib.Omega.{arith}
use borrow.Author.Tests.{eqb-true, eqb-false, eq-eqb, ne_eqb, le-leb, lt-leb}
use lib.Dec.{eqb, leb}
use lib.ListN.{length, get_or, drop}
use lib.Seq.{drop-drop}
use Rattle.paper.specs.Sizes.{PARTS}
use Rattle.lists.proofs.Cases.{and_true, and_false}
use Rattle.channel.specs.declared.Record.{Record}
use Rattle.channel.specs.Channel.{blank}
use Rattle.table.specs.Totals.{is_awaited, opens, awaits, total, recount}
use Rattle.table.specs.Table.{record_at}
use Rattle.table.specs.Sound.{some, every, good_stage, is_staged, good_seat, good_level, same_totals, sound_table, no_number_twice}
use Rattle.table.proofs.Recount.{total_on, total_end}
use Rattle.saved.specs.Saved.{STATE, HEAD, CHANNELS, AWAITED, ROW, record_of, rest_of, level_if, head_of, word_at, record_in, records_in}
use Rattle.saved.specs.Saved.{ready_in, asked_in, table_in, good_row, good_rows, good_head, is_saved, unasked, is_state, is_good}
use Rattle.saved.specs.Judging.{good_rest, fine_rest, fine_rows, recounted}
use Rattle.saved.specs.Saved.{good_word}
use Rattle.saved.proofs.Words.{word_drop, row_at, length_records}
use Rattle.saved.proofs.Told.{same_opens, same_awaits, or_true}

-- ---- the rows in turn

-- a table's records are as many as its rows
pub length_table : (l : List ℕ) → length (table_in l).records ≡ PARTS
unfolding table_in
length_table l = length_records PARTS l

module _ (ready asks : Bool) (l : List ℕ) (i : ℕ) where
  -- the rows from a place on
  abbrev pub fine_from : Bool
  fine_from = fine_rows ready asks (PARTS - i) (drop (ROW * i) l)

  pub fine_end : PARTS ≤ i → fine_from ≡ true
  unfolding fine_rows
  fine_end h = let n : PARTS - i ≡ 0 = omega arith in rw n

-- the row at a place, and those behind it
fine_turn :
    (ready asks : Bool) (l : List ℕ) (i : ℕ) → i < PARTS
    → fine_from ready asks l i ≡ (fine_rest ready asks (word_at l (ROW * i)) && fine_from ready asks l (i + 1))
unfolding PARTS ROW fine_rows
fine_turn ready asks l i h =
    let n : 16 - i ≡ suc (16 - (i + 1)) = omega arith in
    let p : 12 * (i + 1) ≡ 12 * i + 12 = omega arith in
    let z : 12 * i + 0 ≡ 12 * i = omega arith in
    rw (n, word_drop l (12 * i) 0, z, drop-drop, p)

-- the same from the last to the first
pub fine_back :
    (ready asks : Bool) (l : List ℕ) (i : ℕ) → 0 < i → i ≤ PARTS → fine_from ready asks l i ≡ true
    → fine_rest ready asks (word_at l (ROW * (i - 1))) ≡ true → fine_from ready asks l (i - 1) ≡ true
fine_back ready asks l i h k behind here =
    let e : i - 1 + 1 ≡ i = omega arith in
    rw (fine_turn ready asks l (i - 1) (omega arith), here, e) behind

-- a row that isn't fine
pub fine_not :
    (ready asks : Bool) (l : List ℕ) (i : ℕ) → i < PARTS → fine_rest ready asks (word_at l (ROW * i)) ≡ false → fine_from ready asks l i ≡ false
fine_not ready asks l i h e = fine_turn ready asks l i h ∙ rw e

-- and one that is
pub fine_on :
    (ready asks : Bool) (l : List ℕ) (i : ℕ) → i < PARTS → fine_rest ready asks (word_at l (ROW * i)) ≡ true
    → fine_from ready asks l i ≡ fine_from ready asks l (i + 1)
fine_on ready asks l i h e = fine_turn ready asks l i h ∙ rw e

-- the records from a place on, as their words tell them
module _ (of : Record → ℕ) (same : (rest number count : ℕ) → of (record_of rest number count) ≡ of (record_of rest 0 0)) (l : List ℕ) (i : ℕ) where
  adds_at : i < PARTS → of (get_or (records_in PARTS l) i blank) ≡ of (record_of (word_at l (ROW * i)) 0 0)
  unfolding record_at table_in
  adds_at h = ap of (row_at l i h) ∙ same (word_at l (ROW * i)) (word_at l (ROW * i + 4)) (word_at l (ROW * i + 8))

  total_turn :
      i < PARTS
      → total of (drop i (records_in PARTS l)) ≡ of (record_of (word_at l (ROW * i)) 0 0) + total of (drop (i + 1) (records_in PARTS l))
  total_turn h =
      let rs = records_in PARTS l in
      omega (arith, total_on of rs i (omega (arith, length_records PARTS l)), adds_at h)

  total_all : PARTS ≤ i → total of (drop i (records_in PARTS l)) ≡ 0
  total_all h = total_end of (records_in PARTS l) i (omega (arith, length_records PARTS l))

module _ (l : List ℕ) (i : ℕ) where
  -- what the records from a place on add
  abbrev pub opens_from : ℕ
  opens_from = total opens (drop i (records_in PARTS l))

  abbrev pub awaits_from : ℕ
  awaits_from = total awaits (drop i (records_in PARTS l))

  pub opens_end : PARTS ≤ i → opens_from ≡ 0
  opens_end = total_all opens same_opens l i

  pub awaits_end : PARTS ≤ i → awaits_from ≡ 0
  awaits_end = total_all awaits same_awaits l i

module _ (l : List ℕ) (i : ℕ) (h : i < PARTS) where
  pub opens_turn : opens_from l i ≡ opens (record_of (word_at l (ROW * i)) 0 0) + opens_from l (i + 1)
  opens_turn = total_turn opens same_opens l i h

  pub awaits_turn : awaits_from l i ≡ awaits (record_of (word_at l (ROW * i)) 0 0) + awaits_from l (i + 1)
  awaits_turn = total_turn awaits same_awaits l i h

-- a sum that is a recount's
pub recounts :
    (l : List ℕ) (channels awaited : ℕ) → channels ≡ opens_from l 0 → awaited ≡ awaits_from l 0
    → recounted l ≡ (eqb channels (word_at l CHANNELS) && eqb awaited (word_at l AWAITED))
unfolding recounted
recounts l channels awaited e f = rw (e, f)

-- the same after a walk past the last record
pub recounts_end :
    (l : List ℕ) (channels awaited i : ℕ) → PARTS ≤ i → channels + opens_from l i ≡ opens_from l 0 → awaited + awaits_from l i ≡ awaits_from l 0
    → recounted l ≡ (eqb channels (word_at l CHANNELS) && eqb awaited (word_at l AWAITED))
recounts_end l channels awaited i h e f =
    recounts l channels awaited (omega (arith, opens_end l i h)) (omega (arith, awaits_end l i h))

-- ---- the tests in order

-- the tests of one row before those of the rows behind it, or each test of all rows in turn
and_same :
    (g t a s G T S : Bool) (asks some : Bool)
    → ((((g && t) && (asks || not a)) && s) && ((G && (asks || not some)) && (S && T)))
    ≡ (((g && G) && (asks || not (a || some))) && ((s && S) && (t && T)))
and_same false t a s G T S asks some = refl
and_same true false a s G T S asks some = simp and_false
and_same true true a false G T S asks some = simp and_false
and_same true true true true G T S true some = refl
and_same true true true true G T S false some = simp and_false
and_same true true false true G T S true some = refl
and_same true true false true G T S false some = refl

-- every class that a word tells is one
seat_class : (rest : ℕ) → leb (rest / 2 % 4) 3 ≡ true
seat_class rest = le-leb (rest / 2 % 4) 3 (omega arith)

-- rows are fine if each test of the definition holds of them
fine_rows_law :
    (ready asks : Bool) (n : ℕ) (l : List ℕ)
    → fine_rows ready asks n l
    ≡ ((good_rows n l && (asks || not (some is_awaited (records_in n l)))) && (every (good_seat ready) (records_in n l) && every is_staged (records_in n l)))
unfolding fine_rows fine_rest good_rest good_rows good_row some every good_seat records_in record_in record_of rest_of
fine_rows_law ready asks zero l = rw (or_true asks)
fine_rows_law ready asks (suc n) l =
    let w = word_at l 0 in
    let r = record_of w 0 0 in
    let rs = records_in n (drop ROW l) in
    rw (fine_rows_law ready asks n (drop ROW l), seat_class w)
    (and_same
    (eqb (rest_of r) w)
    (good_stage r.stage)
    r.awaited
    (ready || not r.taken)
    (good_rows n (drop ROW l))
    (every is_staged rs)
    (every (good_seat ready) rs)
    asks
    (some is_awaited rs))

-- ---- the word of the end

-- the word is that of what it tells if the mark is the end's
head_mark : (mark : ℕ) (l : List ℕ) → good_head mark l ≡ eqb (word_at l HEAD / 16777216) mark
unfolding good_head head_of asked_in ready_in
head_mark mark l =
    let w = word_at l HEAD in
    let q : w / 256 / 65536 ≡ w / 16777216 = omega arith in
    go w q (eqb (w % 256) 0) refl (eqb (w / 16777216) mark) refl
  where
    same_level : (x : ℕ) (b : Bool) → eqb x 0 ≡ b → level_if (not b) x ≡ x
    same_level x true e = sym (eqb-true x 0 e)
    same_level x false e = refl

    go :
        (w : ℕ) → w / 256 / 65536 ≡ w / 16777216 → (b : Bool) → eqb (w % 256) 0 ≡ b → (m : Bool) → eqb (w / 16777216) mark ≡ m
        → eqb (level_if (not (eqb (w % 256) 0)) (w % 256) + (256 * (w / 256 % 65536) + 16777216 * mark)) w ≡ eqb (w / 16777216) mark
    go w q b e true f = rw (e, same_level (w % 256) b e, f) (eq-eqb _ w (omega (arith, eqb-true (w / 16777216) mark f)))
    go w q b e false f = rw (e, same_level (w % 256) b e, f) (ne_eqb _ w (λ d. eqb-false (w / 16777216) mark f (omega arith)))

-- a level that may be, ready or not, is at most 2
level_most : (x : ℕ) → good_level (not (eqb x 0)) x ≡ leb x 2
unfolding good_level
level_most zero = refl
level_most (suc zero) = refl
level_most (suc (suc zero)) = refl
level_most (suc (suc (suc x))) =
    let n = suc (suc (suc x)) in
    rw (ne_eqb n 0 (λ e. omega arith), ne_eqb n 1 (λ e. omega arith), ne_eqb n 2 (λ e. omega arith), lt-leb n 2 (omega arith))

level_in_law : (l : List ℕ) → good_level (ready_in l) (word_at l HEAD % 256) ≡ leb (word_at l HEAD % 256) 2
unfolding ready_in
level_in_law l = level_most (word_at l HEAD % 256)

-- the totals compared either way round
same_sums : (a b c d : ℕ) → (eqb a b && eqb c d) ≡ (eqb b a && eqb d c)
same_sums a b c d = rw (turned a b, turned c d)
  where
    turned : (x y : ℕ) → eqb x y ≡ eqb y x
    turned x y = go (eqb x y) refl
      where
        go : (t : Bool) → eqb x y ≡ t → t ≡ eqb y x
        go true e = sym (eq-eqb y x (sym (eqb-true x y e)))
        go false e = sym (ne_eqb y x (λ d. eqb-false x y e (sym d)))

-- the definition's tests in the code's order
in_order :
    (head rows none unasked once seats stages level sums asks : Bool)
    → (((head && rows) && (asks || (unasked && none))) && (once && (seats && (stages && (level && sums)))))
    ≡ ((head && (level && (asks || unasked))) && ((((rows && (asks || none)) && (seats && stages)) && sums) && once))
in_order false rows none unasked once seats stages level sums asks = refl
in_order true false none unasked once seats stages level sums asks = simp and_false
in_order true true none unasked false seats stages level sums asks = simp and_false
in_order true true none unasked true false stages level sums asks = simp and_false
in_order true true none unasked true true false level sums asks = simp and_false
in_order true true none unasked true true true false sums asks = simp and_false
in_order true true none unasked true true true true false asks = simp and_false
in_order true true none unasked true true true true true true = refl
in_order true true none true true true true true true false = simp and_true
in_order true true none false true true true true true false = refl

-- what is judged of the records, behind the word of the end
abbrev pub good_records : Bool → Bool → List ℕ → Bool
good_records ready asks l = (fine_rows ready asks PARTS l && recounted l) && no_number_twice (table_in l).records

-- what is judged is the definition
pub judged :
    (mark : ℕ) (asks : Bool) (l : List ℕ) → length l ≡ STATE
    → is_good mark asks l ≡ (good_word mark asks (word_at l HEAD) && good_records (ready_in l) asks l)
unfolding is_good is_state is_saved unasked sound_table table_in good_word recounted same_totals recount asked_in
judged mark asks l e =
    let rs = records_in PARTS l in
    let w = word_at l HEAD in
    let sums = same_sums (total opens rs) (word_at l CHANNELS) (total awaits rs) (word_at l AWAITED) in
    rw (eq-eqb (length l) STATE e, head_mark mark l, level_in_law l, fine_rows_law (ready_in l) asks PARTS l, sums)
    (in_order
    (eqb (w / 16777216) mark)
    (good_rows PARTS l)
    (not (some is_awaited rs))
    (eqb (w / 256 % 65536) 0)
    (no_number_twice rs)
    (every (good_seat (ready_in l)) rs)
    (every is_staged rs)
    (leb (w % 256) 2)
    (eqb (word_at l CHANNELS) (total opens rs) && eqb (word_at l AWAITED) (total awaits rs))
    asks)

-- bytes of another length are no state
pub other_length : (mark : ℕ) (asks : Bool) (l : List ℕ) → (length l ≡ STATE → ⊥) → is_good mark asks l ≡ false
unfolding is_good is_state is_saved
other_length mark asks l h = rw (ne_eqb (length l) STATE h)

-- the same after the first test
module _ (mark : ℕ) (asks : Bool) (l : List ℕ) (size : length l ≡ STATE) (w : ℕ) (e : w ≡ word_at l HEAD) where
  pub bad_head : good_word mark asks w ≡ false → is_good mark asks l ≡ false
  bad_head h = judged mark asks l size ∙ rw (← e, h)

  pub past_head : good_word mark asks w ≡ true → is_good mark asks l ≡ good_records (not (eqb (w % 256) 0)) asks l
  unfolding ready_in
  past_head h = judged mark asks l size ∙ rw (← e, h)
