-- One record spoiled, in the table and in its bytes: its first word and the total of bytes awaited, and no other byte.
-- Assumes nothing.
use mathlib.Core.Path.{◌≡◌, refl, sym, ap, ◌∙◌}
use mathlib.Core.Bool.{Bool, true, false, cond}
use mathlib.Core.List.{List, [], ◌∷◌, ◌++◌, append_assoc, append-nil}
use Prim.Native.Nat.{ℕ, zero, suc, ◌+◌, ◌-◌, ◌*◌, ◌%◌, ◌≤◌, ◌<◌}
use native.Mathlib.Omega.{arith}
use borrow.Author.Tests.{eqb-true}
use lib.Dec.{eqb}
use lib.ListN.{length, take, drop, get_or, set, length-append, length-set}
use lib.Seq.{take_at, drop_at, drop-drop, get_or-set_same}
use Rattle.paper.specs.Sizes.{PARTS}
use Rattle.lists.specs.Bytes.{laid}
use Rattle.lists.proofs.Cases.{choice}
use Rattle.lists.proofs.Laid.{laid_eq}
use Rattle.numbers.specs.Numbers.{Bytes, bytes_of}
use Rattle.numbers.proofs.Widths.{length_bytes_of}
use Rattle.channel.specs.declared.Stage.TheVariants.{Spoiled}
use Rattle.channel.specs.declared.Record.{Record}
use Rattle.channel.specs.Channel.{blank, restaged}
use Rattle.table.specs.declared.Totals.{Totals}
use Rattle.table.specs.declared.Table.{Table}
use Rattle.table.specs.Table.{record_at, placed, with_record}
use Rattle.table.specs.Totals.{is_open, opens, to_come, awaits, total, recount, moved, changed}
use Rattle.table.specs.Sound.{sound_table}
use Rattle.table.proofs.Recount.{moved_same, total_set}
use Rattle.table.proofs.Soundness.{sound_says}
use Rattle.saved.specs.Saved.{HEAD, AWAITED, ROW, rest_of, head_of, record_bytes, row_bytes, head_bytes, saved, word_at, asked_in, table_in, is_saved}
use Rattle.saved.proofs.Back.{three, length_record, rows_long, told_saved, word_below}
use Rattle.saved.proofs.Searching.{length_told}
use Rattle.face_demands.specs.Refused.{row_at, stage_put, spoiled_at}

-- bytes laid over as many take their place
over : (p b c q : List ℕ) (at : ℕ) → length p ≡ at → length b ≡ length c → laid (p ++ (b ++ q)) at c ≡ p ++ (c ++ q)
over p b c q at e f =
    let l = p ++ (b ++ q) in
    let long : at + length c ≤ length l = rw (length-append p (b ++ q), length-append b q) (omega arith) in
    let rest : drop (at + length c) l ≡ q =
    sym (drop-drop (length c) at l) ∙ ap (drop (length c)) (drop_at p (b ++ q) at e) ∙ drop_at b q (length c) f in
    rw (laid_eq l at c long, rest, take_at p (b ++ q) at e)

-- ---- a record's first word

-- the rows before a place, the row there, and those behind it
module _ (q : List ℕ) where
  rows_split :
      (rs : List Record) (k : ℕ) (r : Record) → k < length rs
      → row_bytes (set rs k r) ++ q ≡ row_bytes (take k rs) ++ (record_bytes r ++ (row_bytes (drop (suc k) rs) ++ q))
  unfolding row_bytes
  rows_split [] k r h = absurd (omega arith)
  rows_split (x ∷ rs) zero r h = append_assoc (record_bytes r) (row_bytes rs) q
  rows_split (x ∷ rs) (suc k) r h =
      append_assoc (record_bytes x) (row_bytes (set rs k r)) q
      ∙ ap (λ (l : List ℕ). record_bytes x ++ l) (rows_split rs k r (omega arith))
      ∙ sym (append_assoc (record_bytes x) (row_bytes (take k rs)) _)

rows_before : (rs : List Record) (k : ℕ) → k < length rs → length (row_bytes (take k rs)) ≡ ROW * k
unfolding row_bytes ROW
rows_before [] k h = absurd (omega arith)
rows_before (x ∷ rs) zero h = refl
rows_before (x ∷ rs) (suc k) h =
    length-append (record_bytes x) (row_bytes (take k rs)) ∙ rw (length_record x, rows_before rs k (omega arith)) (omega arith)

set_own : (rs : List Record) (k : ℕ) → k < length rs → set rs k (get_or rs k blank) ≡ rs
set_own [] k h = absurd (omega arith)
set_own (x ∷ rs) zero h = refl
set_own (x ∷ rs) (suc k) h = ap (λ (l : List Record). x ∷ l) (set_own rs k (omega arith))

-- laid over, it gives the row of a record with the same number and count
first_laid :
    (rs : List Record) (q : List ℕ) (k : ℕ) (s : Record) → k < length rs → s.number ≡ (get_or rs k blank).number
    → s.count ≡ (get_or rs k blank).count
    → laid (row_bytes rs ++ q) (ROW * k) (bytes_of 4 (rest_of s)) ≡ row_bytes (set rs k s) ++ q
unfolding record_bytes
first_laid rs q k s h n c =
    let r = get_or rs k blank in
    let p = row_bytes (take k rs) in
    let d = row_bytes (drop (suc k) rs) ++ q in
    let tail = bytes_of 4 r.number ++ bytes_of 4 r.count in
    let old : row_bytes rs ++ q ≡ p ++ (bytes_of 4 (rest_of r) ++ (tail ++ d)) =
    ap (λ (l : List Record). row_bytes l ++ q) (sym (set_own rs k h)) ∙ rows_split q rs k r h
    ∙ ap (λ (l : List ℕ). p ++ l) (append_assoc (bytes_of 4 (rest_of r)) tail d) in
    let same : bytes_of 4 s.number ++ bytes_of 4 s.count ≡ tail =
    ap (λ (x : ℕ). bytes_of 4 x ++ bytes_of 4 s.count) n ∙ ap (λ (x : ℕ). bytes_of 4 r.number ++ bytes_of 4 x) c in
    let new : row_bytes (set rs k s) ++ q ≡ p ++ (bytes_of 4 (rest_of s) ++ (tail ++ d)) =
    rows_split q rs k s h
    ∙ ap (λ (l : List ℕ). p ++ l) (append_assoc (bytes_of 4 (rest_of s)) (bytes_of 4 s.number ++ bytes_of 4 s.count) d
    ∙ ap (λ (l : List ℕ). bytes_of 4 (rest_of s) ++ (l ++ d)) same) in
    ap (λ (l : List ℕ). laid l (ROW * k) (bytes_of 4 (rest_of s))) old
    ∙ over p (bytes_of 4 (rest_of r)) (bytes_of 4 (rest_of s)) (tail ++ d) (ROW * k) (rows_before rs k h)
    (length_bytes_of 4 (rest_of r) ∙ sym (length_bytes_of 4 (rest_of s)))
    ∙ sym new

-- ---- the total of bytes awaited

awaited_laid :
    (p : List ℕ) (h c a b : ℕ) → length p ≡ HEAD → laid (p ++ three h c a) AWAITED (bytes_of 4 b) ≡ p ++ three h c b
unfolding HEAD AWAITED
awaited_laid p h c a b e =
    let f = (p ++ bytes_of 4 h) ++ bytes_of 4 c in
    let long : length f ≡ 200 =
    length-append (p ++ bytes_of 4 h) (bytes_of 4 c) ∙ rw (length-append p (bytes_of 4 h), e, length_bytes_of 4 h, length_bytes_of 4 c) in
    simp (append_assoc, append-nil) at
    (over f (bytes_of 4 a) (bytes_of 4 b) [] 200 long (length_bytes_of 4 a ∙ sym (length_bytes_of 4 b)))

-- ---- a record spoiled

abbrev spoiled : Record → Record
spoiled r = restaged r Spoiled

spoiled_opens : (r : Record) → opens (spoiled r) ≡ opens r
unfolding opens is_open restaged
spoiled_opens r = refl

spoiled_awaits : (r : Record) → awaits (spoiled r) ≡ 0
unfolding awaits to_come restaged
spoiled_awaits r = choice (λ (x : ℕ). x ≡ 0) (is_open (spoiled r)) (λ e. refl) (λ e. refl)

same_fields : (r : Record) → ((spoiled r).number ≡ r.number) × ((spoiled r).count ≡ r.count)
unfolding restaged
same_fields r = (refl, refl)

-- the open channels stay as many, and of those awaited go its own
spoiled_totals :
    (t : Table) (k : ℕ) → k < length t.records
    → changed t.totals (record_at t k) (record_at (placed t k (spoiled (record_at t k))) k)
    ≡ record { channels = t.totals.channels; awaited = moved t.totals.awaited (awaits (record_at t k)) 0 }
unfolding changed record_at placed
spoiled_totals t k h =
    let r = get_or t.records k blank in
    rw (get_or-set_same t.records k (spoiled r) blank h, spoiled_opens r, spoiled_awaits r, moved_same t.totals.channels (opens r))

module _ (mark asked : ℕ) (t : Table) (k : ℕ) (rows : length t.records ≡ PARTS) (l : k < PARTS) where
  inside : k < length t.records
  inside = rw rows l

  -- the first word
  stage_saved :
      laid (saved mark asked t) (ROW * k) (bytes_of 4 (rest_of (spoiled (record_at t k))))
      ≡ saved mark asked (placed t k (spoiled (record_at t k)))
  unfolding saved head_bytes record_at placed
  stage_saved =
      let r = get_or t.records k blank in
      first_laid t.records (head_bytes mark asked t) k (spoiled r) inside (same_fields r).0 (same_fields r).1

  rows_placed : (r : Record) → length (placed t k r).records ≡ PARTS
  unfolding placed
  rows_placed r = length-set t.records k r ∙ rows

  -- and the total
  spoiled_saved :
      laid (laid (saved mark asked t) (ROW * k) (bytes_of 4 (rest_of (spoiled (record_at t k))))) AWAITED
      (bytes_of 4 (moved t.totals.awaited (awaits (record_at t k)) 0))
      ≡ saved mark asked (with_record t k (spoiled (record_at t k)))
  unfolding saved head_bytes with_record placed
  spoiled_saved =
      let after = placed t k (spoiled (record_at t k)) in
      let b = moved t.totals.awaited (awaits (record_at t k)) 0 in
      rw (stage_saved, spoiled_totals t k inside)
      (awaited_laid (row_bytes after.records) (head_of mark asked t.ready t.level) t.totals.channels t.totals.awaited b
      (rows_long after (rows_placed (spoiled (record_at t k)))))

-- ---- the same of bytes that tell a table

module _ (mark : ℕ) (l : List ℕ) (h : Bytes l) (g : is_saved mark l ≡ true) (k : ℕ) (small : k < PARTS) where
  pub spoiled_over : saved mark (asked_in l) (with_record (table_in l) k (spoiled (record_at (table_in l) k))) ≡ spoiled_at l k
  unfolding spoiled_at stage_put table_in
  spoiled_over =
      let b = moved (table_in l).totals.awaited (awaits (record_at (table_in l) k)) 0 in
      sym (spoiled_saved mark (asked_in l) (table_in l) k (length_told l) small)
      ∙ ap (λ (x : List ℕ). laid (laid x (ROW * k) (bytes_of 4 (rest_of (spoiled (record_at (table_in l) k))))) AWAITED (bytes_of 4 b))
      (told_saved mark l h g)

  stage_over : stage_put l k ≡ saved mark (asked_in l) (placed (table_in l) k (spoiled (record_at (table_in l) k)))
  unfolding stage_put
  stage_over =
      ap (λ (x : List ℕ). laid x (ROW * k) (bytes_of 4 (rest_of (spoiled (record_at (table_in l) k))))) (sym (told_saved mark l h g))
      ∙ stage_saved mark (asked_in l) (table_in l) k (length_told l) small

  -- where it was not joining the total stays
  pub not_joining : awaits (row_at l k) ≡ 0 → spoiled_at l k ≡ stage_put l k
  unfolding spoiled_at saved head_bytes placed table_in
  not_joining e =
      let t = table_in l in
      let a = word_at l AWAITED in
      let after = placed t k (spoiled (record_at t k)) in
      ap (λ (n : ℕ). laid (stage_put l k) AWAITED (bytes_of 4 (moved a n 0))) e
      ∙ ap (λ (n : ℕ). laid (stage_put l k) AWAITED (bytes_of 4 n)) (moved_same a 0)
      ∙ ap (λ (x : List ℕ). laid x AWAITED (bytes_of 4 a)) stage_over
      ∙ awaited_laid (row_bytes after.records) (head_of mark (asked_in l) t.ready t.level) t.totals.channels a a
      (rows_long after (rows_placed mark (asked_in l) t k (length_told l) small (spoiled (record_at t k))))
      ∙ sym stage_over

-- ---- of a sound table the total is as many fewer

fewer_of : (sum old : ℕ) → old ≤ sum → sum < 4294967296 → moved sum old 0 ≡ sum - old
unfolding moved
fewer_of sum old h room = go (eqb 0 old) refl
  where
    go : (b : Bool) → eqb 0 old ≡ b → cond b sum ((sum + 0 + 4294967296 - old) % 4294967296) ≡ sum - old
    go true e = omega (arith, eqb-true 0 old e)
    go false e = omega arith

blank_awaits : awaits blank ≡ 0
unfolding awaits is_open
blank_awaits = refl

within : (t : Table) (k : ℕ) → k < length t.records → sound_table t ≡ true → awaits (record_at t k) ≤ t.totals.awaited
unfolding record_at recount
within t k h sound =
    let same : t.totals.awaited ≡ total awaits t.records = ap (λ (x : Totals). x.awaited) (sound_says t sound).totals in
    omega (arith, same, total_set awaits t.records k blank h, blank_awaits)

pub fewer :
    (l : List ℕ) (k : ℕ) → Bytes l → sound_table (table_in l) ≡ true → k < PARTS
    → moved (word_at l AWAITED) (awaits (row_at l k)) 0 ≡ word_at l AWAITED - awaits (row_at l k)
unfolding table_in
fewer l k h sound small =
    fewer_of (word_at l AWAITED) (awaits (row_at l k)) (within (table_in l) k (rw (length_told l) small) sound) (word_below l AWAITED h)
