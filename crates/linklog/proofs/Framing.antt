-- How a record of the log is told: it is a framing, what is logged is told as it is, and no beginning of it is taken for more.
-- Assumes nothing.
use mathlib.Core.Path.{◌≡◌, refl, sym, ap, ◌∙◌}
use mathlib.Core.Logic.{⊎_elim}
use mathlib.Core.Bool.{Bool, false, cond, not, ◌&&◌}
use mathlib.Core.List.{List, [], ◌∷◌, ◌++◌, append-nil}
use Prim.Native.Nat.{ℕ, ◌+◌, ◌≤◌, ◌<◌}
use native.Mathlib.Omega.{arith}
use borrow.Author.Tests.{lt-ltb, le-ltb, le-leb, lt-leb, ne_eqb, ltb-false}
use lib.Dec.{lit<, lit≤, ltb, eqb}
use lib.ListN.{length, take, drop, length-append, length-take}
use lib.Seq.{take-append-le, take-take, drop_at, length-take-le}
use Rattle.lists.proofs.Cases.{lt_or_le, choice}
use Rattle.numbers.specs.Numbers.{NUMBERS, bytes_of, value_at}
use Rattle.numbers.proofs.Widths.{length_bytes_of, value_in}
use Rattle.records.specs.Records.{LENGTH, announced}
use Rattle.records.specs.Desk.{CLOSE, CLOSE_SIZE, whole_by}
use Rattle.records.specs.Walks.{Framing}
use Rattle.linklog.specs.Records.{Entry, Received, Closed, CUT, RECORD_MAX, pdu_record, close_record, record_of, as_logged}
use Rattle.linklog.specs.Records.{needs_of, is_stray, logged_whole, entry_in}
use Rattle.linklog.specs.Promises.{IsEntry}

-- ---- a record by the length that it announces

abbrev pub stray_for : ℕ → Bool
stray_for a = ltb CUT a && not (eqb a CLOSE)

abbrev pub needs_for : ℕ → ℕ
needs_for a = cond (eqb a CLOSE) CLOSE_SIZE (LENGTH + a)

-- its bytes, where so many are there
abbrev pub whole_for : ℕ → ℕ → ℕ
whole_for a n = cond (stray_for a) 0 (cond (ltb n (needs_for a)) 0 (needs_for a))

module _ (input : List ℕ) where
  -- the length isn't there yet
  pub short_stray : length input < LENGTH → is_stray input ≡ false
  unfolding is_stray
  short_stray h = rw (lt-leb LENGTH (length input) h)

  pub short_whole : length input < LENGTH → logged_whole input ≡ 0
  unfolding logged_whole whole_by needs_of
  short_whole h = rw (short_stray h, lt-ltb (length input) LENGTH h, lt-ltb (length input) LENGTH h)

  -- it is there
  pub long_stray : LENGTH ≤ length input → is_stray input ≡ stray_for (announced input)
  unfolding is_stray
  long_stray h = rw (le-leb LENGTH (length input) h)

  pub long_whole : LENGTH ≤ length input → logged_whole input ≡ whole_for (announced input) (length input)
  unfolding logged_whole whole_by needs_of
  long_whole h = rw (long_stray h, le-ltb (length input) LENGTH h)

-- more bytes behind a length, or fewer, leave it as it is
pub announced_more : (input more : List ℕ) → LENGTH ≤ length input → announced (input ++ more) ≡ announced input
unfolding announced
announced_more input more h = rw (take-append-le LENGTH input more h)

pub announced_front : (input : List ℕ) (m : ℕ) → LENGTH ≤ m → announced (take m input) ≡ announced input
unfolding announced
announced_front input m h = rw (take-take LENGTH m input h)

-- ---- records are a framing

whole_fits : (input : List ℕ) → logged_whole input ≤ length input
whole_fits input =
    ⊎_elim
    (λ (short : length input < LENGTH). omega (arith, short_whole input short))
    (λ (long : LENGTH ≤ length input).
    let a = announced input in
    rw (long_whole input long)
    (choice (λ (n : ℕ). n ≤ length input) (stray_for a) (λ _. omega arith)
    (λ _. choice (λ (n : ℕ). n ≤ length input) (ltb (length input) (needs_for a)) (λ _. omega arith) (λ h. ltb-false _ _ h))))
    (lt_or_le (length input) LENGTH)

-- more bytes than those that make a record whole
for_more : (a n m : ℕ) → n ≤ m → 0 < whole_for a n → whole_for a m ≡ whole_for a n
for_more a n m le =
    choice (λ (x : ℕ). 0 < x → whole_for a m ≡ x) (stray_for a) (λ _ some. absurd (omega arith))
    (λ right. choice (λ (x : ℕ). 0 < x → whole_for a m ≡ x) (ltb n (needs_for a)) (λ _ some. absurd (omega arith))
    (λ there _.
    let enough : needs_for a ≤ n = ltb-false _ _ there in
    rw (right, le-ltb m (needs_for a) (omega arith))))

whole_more : (input behind : List ℕ) → 0 < logged_whole input → logged_whole (input ++ behind) ≡ logged_whole input
whole_more input behind some =
    ⊎_elim
    (λ (short : length input < LENGTH). absurd (omega (arith, short_whole input short)))
    (λ (long : LENGTH ≤ length input).
    let told = long_whole input long in
    let more : length input ≤ length (input ++ behind) = rw length-append (omega arith) in
    long_whole (input ++ behind) (omega arith)
    ∙ ap (λ (a : ℕ). whole_for a (length (input ++ behind))) (announced_more input behind long)
    ∙ for_more (announced input) (length input) (length (input ++ behind)) more (rw told at some)
    ∙ sym told)
    (lt_or_le (length input) LENGTH)

pub log_framing : Framing logged_whole
log_framing = record { fits = whole_fits; more = whole_more }

-- ---- what is a record

-- bytes that are told as a record, whatever stands behind them; and of no beginning of them is more told than that it isn't whole
pub record IsRecord (bytes : List ℕ) : Type 0 where
  pub some : 0 < length bytes
  pub whole : (behind : List ℕ) → logged_whole (bytes ++ behind) ≡ length bytes
  pub part : (m : ℕ) → m < length bytes → logged_whole (take m bytes) ≡ 0
  pub right : (m : ℕ) → m < length bytes → is_stray (take m bytes) ≡ false

abbrev pub AreRecords : List (List ℕ) → Type 0
AreRecords [] = Unit {0}
AreRecords (bytes ∷ rest) = IsRecord bytes × AreRecords rest

-- bytes as many as their length announces
module _ (bytes : List ℕ) (a : ℕ) (told : announced bytes ≡ a) (sound : stray_for a ≡ false) (needs : needs_for a ≡ length bytes)
    (long : LENGTH ≤ length bytes) where
  is_whole : (behind : List ℕ) → logged_whole (bytes ++ behind) ≡ length bytes
  is_whole behind =
      let more : length bytes ≤ length (bytes ++ behind) = rw length-append (omega arith) in
      long_whole (bytes ++ behind) (omega arith)
      ∙ rw (announced_more bytes behind long, told, sound, needs, le-ltb (length (bytes ++ behind)) (length bytes) more)

  is_part : (m : ℕ) → m < length bytes → logged_whole (take m bytes) ≡ 0
  is_part m h =
      let n : length (take m bytes) ≡ m = length-take-le m bytes (omega arith) in
      ⊎_elim
      (λ (short : m < LENGTH). short_whole (take m bytes) (omega arith))
      (λ (there : LENGTH ≤ m).
      long_whole (take m bytes) (omega arith)
      ∙ rw (announced_front bytes m there, told, sound, needs, n, lt-ltb m (length bytes) h))
      (lt_or_le m LENGTH)

  is_right : (m : ℕ) → m < length bytes → is_stray (take m bytes) ≡ false
  is_right m h =
      let n : length (take m bytes) ≡ m = length-take-le m bytes (omega arith) in
      ⊎_elim
      (λ (short : m < LENGTH). short_stray (take m bytes) (omega arith))
      (λ (there : LENGTH ≤ m). long_stray (take m bytes) (omega arith) ∙ rw (announced_front bytes m there, told) sound)
      (lt_or_le m LENGTH)

  pub is_record : IsRecord bytes
  is_record = record { some = omega arith; whole = is_whole; part = is_part; right = is_right }

-- ---- what is logged

-- the length in front of bytes
announced_in : (n : ℕ) (bytes : List ℕ) → n < 65536 → announced (bytes_of LENGTH n ++ bytes) ≡ n
unfolding announced value_at
announced_in n bytes h = value_in [] bytes LENGTH n 0 refl (lit≤ tt) h

length_pdu : (pdu : List ℕ) → length (pdu_record pdu) ≡ LENGTH + length pdu
unfolding pdu_record
length_pdu pdu = rw (length-append, length_bytes_of)

length_close : (number : ℕ) → length (close_record number) ≡ CLOSE_SIZE
unfolding close_record
length_close number = simp (length-append, length_bytes_of)

pdu_announced : (pdu : List ℕ) → length pdu ≤ CUT → announced (pdu_record pdu) ≡ length pdu
unfolding pdu_record
pdu_announced pdu h = announced_in (length pdu) pdu (omega arith)

close_announced : (number : ℕ) → announced (close_record number) ≡ CLOSE
unfolding close_record
close_announced number = announced_in CLOSE (bytes_of 4 number) (lit< tt)

pdu_record_law : (pdu : List ℕ) → length pdu ≤ CUT → IsRecord (pdu_record pdu)
pdu_record_law pdu h =
    let n = length_pdu pdu in
    is_record (pdu_record pdu) (length pdu) (pdu_announced pdu h) (rw (le-ltb CUT (length pdu) h))
    (rw (ne_eqb (length pdu) CLOSE (λ e. omega arith)) (sym n)) (omega arith)

close_record_law : (number : ℕ) → IsRecord (close_record number)
close_record_law number =
    let n = length_close number in
    is_record (close_record number) CLOSE (close_announced number) refl (sym n) (omega arith)

-- no more than so many bytes of a PDU are logged
cut_short : (pdu : List ℕ) → length (take CUT pdu) ≤ CUT
cut_short pdu = rw length-take (omega arith)

pub entry_record : (entry : Entry) → IsRecord (record_of entry)
unfolding record_of
entry_record (Received pdu) = pdu_record_law (take CUT pdu) (cut_short pdu)
entry_record (Closed number) = close_record_law number

pub entry_short : (entry : Entry) → length (record_of entry) ≤ RECORD_MAX
unfolding record_of
entry_short (Received pdu) = omega (arith, length_pdu (take CUT pdu), cut_short pdu)
entry_short (Closed number) = omega (arith, length_close number)

-- what stands behind the length
pdu_behind : (pdu : List ℕ) → drop LENGTH (pdu_record pdu) ≡ pdu
unfolding pdu_record
pdu_behind pdu = drop_at (bytes_of LENGTH (length pdu)) pdu LENGTH (length_bytes_of LENGTH (length pdu))

close_behind : (number : ℕ) → number < NUMBERS → value_at (close_record number) LENGTH 4 ≡ number
unfolding close_record
close_behind number h =
    rw append-nil at (value_in (bytes_of LENGTH CLOSE) [] 4 number LENGTH (length_bytes_of LENGTH CLOSE) (lit≤ tt) h)

-- a record's bytes tell what was logged
pub entry_back : (entry : Entry) → IsEntry entry → entry_in (record_of entry) ≡ as_logged entry
unfolding entry_in record_of as_logged
entry_back (Received pdu) h =
    let cut = take CUT pdu in
    let short = cut_short pdu in
    rw (pdu_announced cut short, ne_eqb (length cut) CLOSE (λ e. omega arith), pdu_behind cut)
entry_back (Closed number) h = rw (close_announced number, close_behind number h)
