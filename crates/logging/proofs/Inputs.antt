-- How a record of the input is told: it is a framing, its length stands at its front, and what is logged of it has no more bytes.
-- Assumes nothing.
use mathlib.Core.Path.{◌≡◌, refl, sym, ◌∙◌}
use mathlib.Core.Bool.{Bool, true, false}
use mathlib.Core.List.{List, ◌++◌}
use mathlib.Core.Logic.{⊎_elim}
use Prim.Native.Nat.{ℕ, ◌+◌, ◌≤◌, ◌<◌}
use native.Mathlib.Omega.{arith}
use borrow.Author.Tests.{lt-ltb, le-ltb, eq-eqb, ne_eqb, eqb-true, eqb-false}
use lib.Dec.{ltb, eqb}
use lib.ListN.{length, take, drop, length-append, length-take, length-drop}
use lib.Seq.{take-take}
use Rattle.lists.proofs.Cases.{lt_or_le, choice}
use Rattle.numbers.specs.Numbers.{Bytes, bytes_of, value_of, value_at}
use Rattle.numbers.proofs.Widths.{length_bytes_of, value_below}
use Rattle.records.specs.Records.{LENGTH, announced}
use Rattle.records.specs.Desk.{CLOSE, CLOSE_SIZE, whole_by}
use Rattle.records.specs.Walks.{Framing, front_of, records_of, size_of, rest_of}
use Rattle.records.proofs.Desk.{by_needs, by_head, announced_more}
use Rattle.records.proofs.Framings.{length_front}
use Rattle.records.proofs.Rests.{rest_has_none}
use Rattle.blocks.proofs.Bytes.{bytes_drop}
use Rattle.linklog.specs.Records.{Received, Closed, CUT, pdu_record, close_record, record_of, needs_of, is_stray, logged_whole, entry_in}
use Rattle.logging.specs.Input.{input_whole, INPUT_MAX}

-- what is needed is told by the length at the front
needs_told : (input more : List ℕ) → needs_of input ≤ length input → needs_of (input ++ more) ≡ needs_of input
unfolding needs_of
needs_told input more = by_head LENGTH input more _ _ (λ there g. rw (announced_more input more there) refl)

-- records are a framing
pub input_framing : Framing input_whole
unfolding input_whole
input_framing = by_needs needs_of needs_told

-- a record has its length
pub needs_head : (input : List ℕ) → LENGTH ≤ needs_of input
unfolding needs_of
needs_head input =
    choice (λ (n : ℕ). LENGTH ≤ n) (ltb (length input) LENGTH) (λ _. omega arith)
    (λ _. choice (λ (n : ℕ). LENGTH ≤ n) (eqb (announced input) CLOSE) (λ _. omega arith) (λ _. omega arith))

by_needs_head : (input : List ℕ) → 0 < whole_by needs_of input → LENGTH ≤ whole_by needs_of input
unfolding whole_by
by_needs_head input =
    choice (λ (n : ℕ). 0 < n → LENGTH ≤ n) (ltb (length input) (needs_of input)) (λ _ some. absurd (omega arith)) (λ _ _. needs_head input)

pub input_head : (input : List ℕ) → 0 < input_whole input → LENGTH ≤ input_whole input
unfolding input_whole
input_head input some = by_needs_head input some

-- and so has one of the log
pub logged_head : (input : List ℕ) → 0 < logged_whole input → LENGTH ≤ logged_whole input
unfolding logged_whole
logged_head input =
    choice (λ (n : ℕ). 0 < n → LENGTH ≤ n) (is_stray input) (λ _ some. absurd (omega arith)) (λ _ some. by_needs_head input some)

-- the length as it is read
pub announced_is : (input : List ℕ) → value_at input 0 LENGTH ≡ announced input
unfolding value_at announced
announced_is input = refl

-- ---- the record at the front, test by test

module _ (input : List ℕ) where
  module _ (long : LENGTH ≤ length input) (v : ℕ) (e : v ≡ announced input) where
    pub close_cut : v ≡ CLOSE → length input < CLOSE_SIZE → 0 ≡ input_whole input
    unfolding input_whole whole_by needs_of
    close_cut c h = rw (le-ltb (length input) LENGTH long, ← e, eq-eqb v CLOSE c, lt-ltb (length input) CLOSE_SIZE h) refl

    pub close_whole : v ≡ CLOSE → CLOSE_SIZE ≤ length input → CLOSE_SIZE ≡ input_whole input
    unfolding input_whole whole_by needs_of
    close_whole c h = rw (le-ltb (length input) LENGTH long, ← e, eq-eqb v CLOSE c, le-ltb (length input) CLOSE_SIZE h) refl

    pub pdu_cut : (v ≡ CLOSE → ⊥) → length input < LENGTH + v → 0 ≡ input_whole input
    unfolding input_whole whole_by needs_of
    pdu_cut n h = rw (le-ltb (length input) LENGTH long, ← e, ne_eqb v CLOSE n, lt-ltb (length input) (LENGTH + v) h) refl

    pub pdu_whole : (v ≡ CLOSE → ⊥) → LENGTH + v ≤ length input → LENGTH + v ≡ input_whole input
    unfolding input_whole whole_by needs_of
    pdu_whole n h = rw (le-ltb (length input) LENGTH long, ← e, ne_eqb v CLOSE n, le-ltb (length input) (LENGTH + v) h) refl

-- ---- what it logs

-- a close, of the number behind its length
pub is_close_law : (bytes : List ℕ) (v : ℕ) → v ≡ announced bytes → v ≡ CLOSE → entry_in bytes ≡ Closed (value_at bytes LENGTH 4)
unfolding entry_in
is_close_law bytes v e c = rw (← e, eq-eqb v CLOSE c) refl

-- or a PDU
pub is_pdu : (bytes : List ℕ) (v : ℕ) → v ≡ announced bytes → (v ≡ CLOSE → ⊥) → entry_in bytes ≡ Received (drop LENGTH bytes)
unfolding entry_in
is_pdu bytes v e n = rw (← e, ne_eqb v CLOSE n) refl

-- a number's bytes are the four behind the length
pub number_behind : (bytes : List ℕ) → value_of (drop LENGTH bytes) ≡ value_at bytes LENGTH 4
unfolding value_of value_at
number_behind bytes = rw (take-take 4 4 (drop LENGTH bytes) (omega arith)) refl

-- ---- how much is logged of it

-- a close has its number
close_long : (input : List ℕ) → 0 < input_whole input → announced input ≡ CLOSE → input_whole input ≡ CLOSE_SIZE
close_long input some c =
    let head = input_head input some in
    let fits = input_framing.fits input in
    ⊎_elim
    (λ (h : length input < CLOSE_SIZE). absurd (omega (arith, close_cut input (omega arith) _ refl c h)))
    (λ (h : CLOSE_SIZE ≤ length input). sym (close_whole input (omega arith) _ refl c h))
    (lt_or_le (length input) CLOSE_SIZE)

pdu_long : (bytes : List ℕ) → length (record_of (Received bytes)) ≤ LENGTH + length bytes
unfolding record_of pdu_record
pdu_long bytes =
    rw (length-append (bytes_of LENGTH (length (take CUT bytes))) (take CUT bytes), length_bytes_of LENGTH (length (take CUT bytes)), length-take CUT bytes)
    (omega arith)

close_size : (number : ℕ) → length (record_of (Closed number)) ≡ CLOSE_SIZE
unfolding record_of close_record
close_size number = length-append (bytes_of LENGTH CLOSE) (bytes_of 4 number) ∙ rw (length_bytes_of LENGTH CLOSE, length_bytes_of 4 number) refl

-- the length stands at the front of the record
front_announced : (input : List ℕ) → 0 < input_whole input → announced (front_of input_whole input) ≡ announced input
unfolding front_of announced
front_announced input some = rw (take-take LENGTH (input_whole input) input (input_head input some)) refl

-- the record at the front is no longer in the log
pub logged_le : (input : List ℕ) → 0 < input_whole input → length (record_of (entry_in (front_of input_whole input))) ≤ input_whole input
logged_le input some = go (eqb (announced input) CLOSE) refl
  where
    front : List ℕ
    front = front_of input_whole input

    long : length front ≡ input_whole input
    long = length_front input_framing input

    same : announced front ≡ announced input
    same = front_announced input some

    go : (b : Bool) → eqb (announced input) CLOSE ≡ b → length (record_of (entry_in front)) ≤ input_whole input
    go true e =
        let c = eqb-true (announced input) CLOSE e in
        rw (is_close_law front _ refl (same ∙ c), close_size (value_at front LENGTH 4)) (omega (arith, close_long input some c))
    go false e =
        rw (is_pdu front _ refl (λ c. eqb-false (announced input) CLOSE e (sym same ∙ c)))
        (omega (arith, pdu_long (drop LENGTH front), length-drop LENGTH front, long, input_head input some))

-- ---- what is left

-- no record needs more than the most bytes of one
needs_most : (input : List ℕ) → Bytes input → needs_of input ≤ INPUT_MAX
unfolding needs_of
needs_most input bytes =
    let small : announced input < 65536 = rw (← (announced_is input)) (value_below input 0 LENGTH (omega arith) bytes) in
    choice (λ (n : ℕ). n ≤ INPUT_MAX) (ltb (length input) LENGTH) (λ _. omega arith)
    (λ _. choice (λ (n : ℕ). n ≤ INPUT_MAX) (eqb (announced input) CLOSE) (λ _. omega arith)
    (λ e. omega (arith, small, eqb-false (announced input) CLOSE e)))

none_needs : (input : List ℕ) → input_whole input ≡ 0 → length input < needs_of input
unfolding input_whole whole_by
none_needs input none =
    ⊎_elim (λ (h : length input < needs_of input). h)
    (λ (h : needs_of input ≤ length input). absurd (omega (arith, needs_head input, rw (le-ltb (length input) (needs_of input) h) at none)))
    (lt_or_le (length input) (needs_of input))

-- it is shorter than the longest record: a buffer that holds one always has room for more
pub left_short : (input : List ℕ) → Bytes input → length (rest_of input_whole input) < INPUT_MAX
unfolding rest_of
left_short input bytes =
    let rest = drop (size_of (records_of input_whole input)) input in
    omega (arith, none_needs rest (rest_has_none input_framing input), needs_most rest (bytes_drop (size_of (records_of input_whole input)) input bytes))
