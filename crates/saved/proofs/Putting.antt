-- What is written into a state is the bytes of what is put back into its table.
-- Assumes nothing.
use mathlib.Core.Path.{◌≡◌, refl, sym, ap, ◌∙◌}
use mathlib.Core.Bool.{Bool, true, false}
use mathlib.Core.List.{List, [], ◌∷◌, ◌++◌, append_assoc, append-nil}
use mathlib.Core.Logic.{⊎_elim}
use Prim.Native.Nat.{ℕ, zero, suc, ◌+◌, ◌*◌, ◌/◌, ◌%◌, ◌≤◌, ◌<◌}
use native.Mathlib.Omega.{arith}
use borrow.Author.Tests.{eq-eqb, lt-ltb, le-ltb}
use lib.Dec.{lit<}
use lib.ListN.{length, drop, set, length-append}
use lib.Seq.{take_at, drop_at, drop-drop, set_out}
use Rattle.paper.specs.Sizes.{PARTS}
use Rattle.lists.specs.Bytes.{laid}
use Rattle.lists.proofs.Cases.{lt_or_le}
use Rattle.lists.proofs.Laid.{laid_on, laid_eq}
use Rattle.numbers.specs.Numbers.{Bytes, bytes_of}
use Rattle.numbers.proofs.Widths.{length_bytes_of}
use Rattle.channel.specs.declared.Record.{Record}
use Rattle.channel.specs.declared.Change.{Change}
use Rattle.channel.specs.declared.Change.TheVariants.{Stays, Becomes, Frees}
use Rattle.channel.specs.Channel.{blank}
use Rattle.table.specs.declared.Totals.{Totals}
use Rattle.table.specs.declared.Table.{Table}
use Rattle.table.specs.Table.{empty_table, home_in, site_of, next_of, placed, totals_after, put_back}
use Rattle.saved.specs.Saved.{STATE, HEAD, CHANNELS, AWAITED, ROW, level_if, head_of, record_bytes, row_bytes, head_bytes, saved}
use Rattle.saved.specs.Saved.{asked_in, table_in, is_good, head_in, home_over}
use Rattle.saved.specs.Saved.{row_put, change_put, totals_put, level_put, put_over, ask_over, begin_over}
use Rattle.saved.proofs.Searching.{length_told}
use Rattle.saved.proofs.Back.{three, length_record, rows_long, length_saved, channels_word, awaited_word}
use Rattle.saved.proofs.Back.{saved_size, told_saved, word_below, good_saved}

-- ---- bytes laid over as many

-- bytes laid behind a front leave it
laid_past_front : (p l : List ℕ) (n at : ℕ) (bs : List ℕ) → length p ≡ n → laid (p ++ l) (n + at) bs ≡ p ++ laid l at bs
laid_past_front [] l n at bs e = let z : n + at ≡ at = omega arith in rw z
laid_past_front (x ∷ p) l zero at bs e = absurd (omega arith)
laid_past_front (x ∷ p) l (suc n) at bs e =
    let z : suc n + at ≡ suc (n + at) = omega arith in
    rw (z, laid_on x (p ++ l) (n + at) bs, laid_past_front p l n at bs (omega arith))

-- bytes laid over as many take their place
laid_over : (p b c q : List ℕ) (at : ℕ) → length p ≡ at → length b ≡ length c → laid (p ++ (b ++ q)) at c ≡ p ++ (c ++ q)
laid_over p b c q at e f =
    let l = p ++ (b ++ q) in
    let long : at + length c ≤ length l = rw (length-append p (b ++ q), length-append b q) (omega arith) in
    let rest : drop (at + length c) l ≡ q =
    sym (drop-drop (length c) at l) ∙ ap (drop (length c)) (drop_at p (b ++ q) at e) ∙ drop_at b q (length c) f in
    rw (laid_eq l at c long, rest, take_at p (b ++ q) at e)

-- ---- a record put at its place

-- it changes its own twelve bytes, and no other
pub row_laid :
    (rs : List Record) (q : List ℕ) (k : ℕ) (r : Record) → k < length rs
    → laid (row_bytes rs ++ q) (ROW * k) (record_bytes r) ≡ row_bytes (set rs k r) ++ q
unfolding row_bytes ROW
row_laid [] q k r h = absurd (omega arith)
row_laid (x ∷ rs) q zero r h =
    rw (append_assoc (record_bytes x) (row_bytes rs) q)
    (laid_over [] (record_bytes x) (record_bytes r) (row_bytes rs ++ q) 0 refl (length_record x ∙ sym (length_record r))
    ∙ sym (append_assoc (record_bytes r) (row_bytes rs) q))
row_laid (x ∷ rs) q (suc k) r h =
    let e : 12 * suc k ≡ 12 + 12 * k = omega arith in
    rw (
      e,
      append_assoc (record_bytes x) (row_bytes rs) q,
      laid_past_front (record_bytes x) (row_bytes rs ++ q) 12 (12 * k) (record_bytes r) (length_record x),
      row_laid rs q k r (omega arith),
    ) (sym (append_assoc (record_bytes x) (row_bytes (set rs k r)) q))

-- a place that the table doesn't have changes nothing
row_saved :
    (rs : List Record) (q : List ℕ) (k : ℕ) (r : Record) → length rs ≡ PARTS
    → row_put (row_bytes rs ++ q) k r ≡ row_bytes (set rs k r) ++ q
unfolding row_put
row_saved rs q k r e =
    ⊎_elim
    (λ (h : k < PARTS). rw (lt-ltb k PARTS h) (row_laid rs q k r (rw e h)))
    (λ (h : PARTS ≤ k). rw (le-ltb k PARTS h, set_out rs k r (rw e h)))
    (lt_or_le k PARTS)

change_saved :
    (rs : List Record) (q : List ℕ) (k : ℕ) (change : Change) → length rs ≡ PARTS
    → change_put (row_bytes rs ++ q) k change ≡ row_bytes (set rs (site_of k change) (next_of change)) ++ q
unfolding change_put site_of next_of
change_saved rs q k Stays e = rw (set_out rs PARTS blank (rw e (omega arith)))
change_saved rs q k (Becomes r) e = row_saved rs q k r e
change_saved rs q k Frees e = row_saved rs q k blank e

-- ---- the words behind the records

-- the word of the end, its lowest byte first
head_bytes_law :
    (v asked mark : ℕ) → v < 256 → bytes_of 4 (v + (256 * asked + 16777216 * mark)) ≡ v ∷ bytes_of 3 (asked + 65536 * mark)
unfolding bytes_of
head_bytes_law v asked mark h =
    let low : (v + (256 * asked + 16777216 * mark)) % 256 ≡ v = omega arith in
    let rest : (v + (256 * asked + 16777216 * mark)) / 256 ≡ asked + 65536 * mark = omega arith in
    rw (low, rest)

-- then the version's two bytes
asked_bytes : (asked mark : ℕ) → asked < 65536 → bytes_of 3 (asked + 65536 * mark) ≡ bytes_of 2 asked ++ (mark % 256 ∷ [])
unfolding bytes_of
asked_bytes asked mark h =
    let low : (asked + 65536 * mark) % 256 ≡ asked % 256 = omega arith in
    let rest : (asked + 65536 * mark) / 256 ≡ asked / 256 + 256 * mark = omega arith in
    let mid : (asked / 256 + 256 * mark) % 256 ≡ asked / 256 % 256 = omega arith in
    let high : (asked / 256 + 256 * mark) / 256 ≡ mark = omega arith in
    rw (low, rest, mid, high)

level_small : (ready : Bool) (level : ℕ) → level < 256 → level_if ready level < 256
level_small true level h = h
level_small false level h = lit< tt

module _ (p : List ℕ) (e : length p ≡ HEAD) (c a : ℕ) where
  -- a level put
  level_put_law :
      (mark asked v w : ℕ) → v < 256 → w < 256
      → level_put (p ++ three (v + (256 * asked + 16777216 * mark)) c a) w ≡ p ++ three (w + (256 * asked + 16777216 * mark)) c a
  unfolding level_put
  level_put_law mark asked v w h k =
      rw (head_bytes_law v asked mark h, head_bytes_law w asked mark k)
      (laid_over p (v ∷ []) (w ∷ []) (bytes_of 3 (asked + 65536 * mark) ++ (bytes_of 4 c ++ bytes_of 4 a)) HEAD e refl)

  -- the totals put
  totals_put_law : (h : ℕ) (totals : Totals) → totals_put (p ++ three h c a) totals ≡ p ++ three h totals.channels totals.awaited
  unfolding totals_put HEAD CHANNELS AWAITED
  totals_put_law h totals =
      let b = bytes_of 4 h in
      let n = bytes_of 4 totals.channels in
      let m = bytes_of 4 totals.awaited in
      let front : length (p ++ b) ≡ 196 = length-append p b ∙ rw (e, length_bytes_of 4 h) in
      let more : length ((p ++ b) ++ n) ≡ 200 = length-append (p ++ b) n ∙ rw (front, length_bytes_of 4 totals.channels) in
      let one : laid (p ++ (b ++ (bytes_of 4 c ++ bytes_of 4 a))) 196 n ≡ p ++ (b ++ (n ++ bytes_of 4 a)) =
      rw (append_assoc p b (bytes_of 4 c ++ bytes_of 4 a), append_assoc p b (n ++ bytes_of 4 a)) at
      (laid_over (p ++ b) (bytes_of 4 c) n (bytes_of 4 a) 196 front (length_bytes_of 4 c ∙ sym (length_bytes_of 4 totals.channels))) in
      let two : laid (p ++ (b ++ (n ++ bytes_of 4 a))) 200 m ≡ p ++ (b ++ (n ++ m)) =
      simp (append_assoc, append-nil) at
      (laid_over ((p ++ b) ++ n) (bytes_of 4 a) m [] 200 more (length_bytes_of 4 a ∙ sym (length_bytes_of 4 totals.awaited))) in
      rw (one, two)

  -- a version put
  asked_put :
      (mark asked version v : ℕ) → v < 256 → asked < 65536 → version < 65536
      → laid (p ++ three (v + (256 * asked + 16777216 * mark)) c a) (HEAD + 1) (bytes_of 2 version)
      ≡ p ++ three (v + (256 * version + 16777216 * mark)) c a
  unfolding HEAD
  asked_put mark asked version v h k m =
      let q = (mark % 256 ∷ []) ++ (bytes_of 4 c ++ bytes_of 4 a) in
      let front : length (p ++ (v ∷ [])) ≡ 193 = length-append p (v ∷ []) ∙ rw e in
      rw (head_bytes_law v asked mark h, head_bytes_law v version mark h, asked_bytes asked mark k, asked_bytes version mark m)
      (simp append_assoc (simp append_assoc at
      (laid_over (p ++ (v ∷ [])) (bytes_of 2 asked) (bytes_of 2 version) q 193 front (length_bytes_of 2 asked ∙ sym (length_bytes_of 2 version)))))

-- ---- a table put back

-- its records and its three words
put_back_law :
    (mark asked : ℕ) (t : Table) (ready : Bool) (level k : ℕ) (row : Record) (change : Change)
    → row_bytes (set t.records (site_of k change) (next_of change))
    ++ three (head_of mark asked ready level) (totals_after t.totals row change).channels (totals_after t.totals row change).awaited
    ≡ saved mark asked (put_back t ready level k row change)
unfolding saved head_bytes put_back placed
put_back_law mark asked t ready level k row change = refl

module _ (mark asked : ℕ) (t : Table) (rows : length t.records ≡ PARTS) (old : t.level < 256) where
  level_saved :
      (ready : Bool) (level : ℕ) → level < 256
      → level_put (saved mark asked t) (level_if ready level)
      ≡ row_bytes t.records ++ three (head_of mark asked ready level) t.totals.channels t.totals.awaited
  unfolding saved head_bytes head_of
  level_saved ready level h =
      level_put_law (row_bytes t.records) (rows_long t rows) t.totals.channels t.totals.awaited mark asked (level_if t.ready t.level)
      (level_if ready level) (level_small t.ready t.level old) (level_small ready level h)

  pub ask_saved : (version : ℕ) → asked < 65536 → version < 65536 → ask_over (saved mark asked t) version ≡ saved mark version t
  unfolding ask_over saved head_bytes head_of
  ask_saved version h k =
      rw (eq-eqb (length (saved mark asked t)) STATE (length_saved mark asked t rows))
      (asked_put (row_bytes t.records) (rows_long t rows) t.totals.channels t.totals.awaited mark asked version
      (level_if t.ready t.level) (level_small t.ready t.level old) h k)

-- what is written is the bytes of what is put back, where the totals can be read back
pub put_saved :
    (mark asked : ℕ) (t : Table) (ready : Bool) (level k : ℕ) (row : Record) (change : Change)
    → length t.records ≡ PARTS
    → t.level < 256
    → level < 256
    → t.totals.channels < 4294967296
    → t.totals.awaited < 4294967296
    → put_over (saved mark asked t) ready level k row change ≡ saved mark asked (put_back t ready level k row change)
unfolding put_over
put_saved mark asked t ready level k row change rows old h m n =
    let totals = totals_after t.totals row change in
    rw (
      eq-eqb (length (saved mark asked t)) STATE (length_saved mark asked t rows),
      channels_word mark asked t rows m,
      awaited_word mark asked t rows n,
      level_saved mark asked t rows old ready level h,
      totals_put_law (row_bytes t.records) (rows_long t rows) t.totals.channels t.totals.awaited (head_of mark asked ready level) totals,
      change_saved t.records _ k change rows,
    ) (put_back_law mark asked t ready level k row change)

-- ---- the same of bytes that were accepted

told_level : (l : List ℕ) → (table_in l).level < 256
unfolding table_in
told_level l = omega arith

told_totals : (l : List ℕ) → Bytes l → ((table_in l).totals.channels < 4294967296) × ((table_in l).totals.awaited < 4294967296)
unfolding table_in
told_totals l h = (word_below l CHANNELS h, word_below l AWAITED h)

asked_small : (l : List ℕ) → asked_in l < 65536
unfolding asked_in
asked_small l = omega arith

module _ (mark : ℕ) (asks : Bool) (l : List ℕ) (h : Bytes l) (g : is_good mark asks l ≡ true) where
  -- accepted bytes are those of the table that they tell
  again : l ≡ saved mark (asked_in l) (table_in l)
  again = sym (told_saved mark l h (good_saved mark asks l g))

  pub put_over_law :
      (ready : Bool) (level k : ℕ) (row : Record) (change : Change) → level < 256
      → put_over l ready level k row change ≡ saved mark (asked_in l) (put_back (table_in l) ready level k row change)
  put_over_law ready level k row change small =
      let totals = told_totals l h in
      ap (λ (b : List ℕ). put_over b ready level k row change) again
      ∙ put_saved mark (asked_in l) (table_in l) ready level k row change (length_told l) (told_level l) small totals.0 totals.1

  pub ask_over_law : (version : ℕ) → version < 65536 → ask_over l version ≡ saved mark version (table_in l)
  ask_over_law version small =
      ap (λ (b : List ℕ). ask_over b version) again
      ∙ ask_saved mark (asked_in l) (table_in l) (length_told l) (told_level l) version (asked_small l) small

-- ---- what is read of accepted bytes is what their table says

good_size : (mark : ℕ) (asks : Bool) (l : List ℕ) → is_good mark asks l ≡ true → length l ≡ STATE
good_size mark asks l g = saved_size mark l (good_saved mark asks l g)

pub head_over :
    (mark : ℕ) (asks : Bool) (l : List ℕ) → is_good mark asks l ≡ true
    → head_in l ≡ record { ready = (table_in l).ready; level = (table_in l).level; asked = asked_in l; totals = (table_in l).totals }
unfolding head_in table_in
head_over mark asks l g = rw (eq-eqb (length l) STATE (good_size mark asks l g))

pub home_over_law : (mark : ℕ) (asks : Bool) (l : List ℕ) (n : ℕ) → is_good mark asks l ≡ true → home_over n l ≡ home_in n (table_in l)
unfolding home_over
home_over_law mark asks l n g = rw (eq-eqb (length l) STATE (good_size mark asks l g))

-- ---- a state begun

pub begin_over_law : (mark : ℕ) (l : List ℕ) → length l ≡ STATE → begin_over l mark ≡ saved mark 0 empty_table
unfolding begin_over
begin_over_law mark l e = rw (eq-eqb (length l) STATE e)
