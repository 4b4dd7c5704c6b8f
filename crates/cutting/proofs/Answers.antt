-- The laws of the answer: when it is given, how large its numbers are, and that its packed form says it all.
-- Assumes nothing.
use Rattle.std.specs.Prelude.{Result, Ok, Err}
use mathlib.Core.Path.{◌≡◌, refl, sym, ap, ◌∙◌}
use mathlib.Core.Bool.{Bool, cond, true, false, not}
use mathlib.Core.List.{List}
use Prim.Native.Nat.{ℕ, ◌+◌, ◌*◌, ◌/◌, ◌%◌, ◌≤◌, ◌<◌}
use native.Mathlib.Omega.{arith}
use borrow.Author.Tests.{lt-ltb, le-ltb, ltb-false, not-false}
use lib.Dec.{ltb, lit<}
use lib.ListN.{length, take}
use Rattle.paper.specs.Sizes.{PDU_MAX, MESSAGE_MAX}
use Rattle.paper.specs.Refusals.{refusal_number}
use Rattle.paper.specs.declared.Refusal.{Refusal}
use Rattle.paper.specs.declared.Refusal.TheVariants.{BadCall, OverLimit, NoStart}
use Rattle.lists.specs.Bytes.{laid}
use Rattle.lists.proofs.Cases.{choice}
use Rattle.lists.proofs.Laid.{front}
use Rattle.laying.specs.Laying.{buffer_after}
use Rattle.cutting.specs.Cutting.{block_end, is_start, piece_of, cut_pdu, cut_at, outcome, cut_buffer, LENGTH_UNIT, packed}
use Rattle.cutting.specs.Cutting.{refusal_of, unpacked}
use Rattle.cutting.specs.declared.Piece.{Piece}
use Rattle.cutting.proofs.Blocks.{header_pos, length_cut, cut_fits, end_within}
use Rattle.cutting.proofs.Starts.{start_within}

-- ---- what is answered

module _ (number : ℕ) (message : List ℕ) (offset : ℕ) (out : List ℕ) where
  -- the answer and the buffer
  abbrev pub Answers : Result Piece Refusal → List ℕ → Type 0
  Answers piece after = (piece ≡ cut_at number message offset out) × (after ≡ cut_buffer number message offset out)

  -- 1
  pub short_buffer : length out < PDU_MAX → Answers (Err BadCall) out
  unfolding cut_buffer buffer_after outcome cut_at
  short_buffer h = let e = lt-ltb (length out) PDU_MAX h in (rw e, rw e)

  -- 11
  pub long_message : PDU_MAX ≤ length out → MESSAGE_MAX < length message → Answers (Err OverLimit) out
  unfolding cut_buffer buffer_after outcome cut_at
  long_message h k =
      let e = le-ltb (length out) PDU_MAX h in
      let f = lt-ltb MESSAGE_MAX (length message) k in
      (rw (e, f), rw (e, f))

  -- 14
  pub no_start : PDU_MAX ≤ length out → length message ≤ MESSAGE_MAX → is_start number (length message) offset ≡ false
      → Answers (Err NoStart) out
  unfolding cut_buffer buffer_after outcome cut_at
  no_start h k s =
      let e = le-ltb (length out) PDU_MAX h in
      let f = le-ltb MESSAGE_MAX (length message) k in
      (rw (e, f, s), rw (e, f, s))

  -- at a start: the PDU's length and the next offset, and the PDU at the buffer's front
  pub at_start_law : PDU_MAX ≤ length out → length message ≤ MESSAGE_MAX → is_start number (length message) offset ≡ true
      → Answers (Ok (piece_of (length (cut_pdu number message offset)) (block_end number (length message) offset)))
      (laid out 0 (cut_pdu number message offset))
  unfolding cut_buffer buffer_after outcome cut_at
  at_start_law h k s =
      let e = le-ltb (length out) PDU_MAX h in
      let f = le-ltb MESSAGE_MAX (length message) k in
      (rw (e, f, s), rw (e, f, s))

  -- a function that answers so, and lays so
  pub lays :
      PDU_MAX ≤ length out
      → length message ≤ MESSAGE_MAX
      → is_start number (length message) offset ≡ true
      → {piece : Piece} {after : List ℕ}
      → piece ≡ piece_of (length (cut_pdu number message offset)) (block_end number (length message) offset)
      → after ≡ laid out 0 (cut_pdu number message offset)
      → Answers (Ok piece) after
  lays h k s e f = let answer = at_start_law h k s in (ap Ok e ∙ answer.0, f ∙ answer.1)

  -- what an answer other than a refusal says: which block was cut, and that its PDU stands at the buffer's front
  pub record Given (len next : ℕ) : Type 0 where
    pub roomy : PDU_MAX ≤ length out
    pub short_enough : length message ≤ MESSAGE_MAX
    pub start : is_start number (length message) offset ≡ true
    pub whole_pdu : len ≡ length (cut_pdu number message offset)
    pub ends : next ≡ block_end number (length message) offset
    pub stands : take len (cut_buffer number message offset out) ≡ cut_pdu number message offset

  pub given : (len next : ℕ) → cut_at number message offset out ≡ Ok (piece_of len next) → Given len next
  unfolding cut_at
  given len next h = go (ltb (length out) PDU_MAX) (ltb MESSAGE_MAX (length message))
      (is_start number (length message) offset) refl refl refl h
    where
      go : (s t u : Bool) → ltb (length out) PDU_MAX ≡ s → ltb MESSAGE_MAX (length message) ≡ t
          → is_start number (length message) offset ≡ u
          → cond s (Err BadCall)
          (cond t (Err OverLimit)
          (cond (not u) (Err NoStart)
          (Ok (piece_of (length (cut_pdu number message offset)) (block_end number (length message) offset))))) ≡ Ok (piece_of len next)
          → Given len next
      go true t u p q w h = let z : ◌≡◌ {A = ℕ} 0 1 = cc in absurd (omega arith)
      go false true u p q w h = let z : ◌≡◌ {A = ℕ} 0 1 = cc in absurd (omega arith)
      go false false false p q w h = let z : ◌≡◌ {A = ℕ} 0 1 = cc in absurd (omega arith)
      go false false true p q w h =
          let roomy = ltb-false (length out) PDU_MAX p in
          let short = ltb-false MESSAGE_MAX (length message) q in
          let e : piece_of (length (cut_pdu number message offset)) (block_end number (length message) offset) ≡ piece_of len next = cc in
          let l : len ≡ length (cut_pdu number message offset) = sym (ap (λ (piece : Piece). piece.len) e) in
          let n : next ≡ block_end number (length message) offset = sym (ap (λ (piece : Piece). piece.next) e) in
          let pdu = cut_pdu number message offset in
          let fits = cut_fits number message offset in
          record {
            roomy = roomy;
            short_enough = short;
            start = w;
            whole_pdu = l;
            ends = n;
            stands =
                rw (l, ← (at_start_law roomy short w).1) (front out pdu (omega arith));
          }

-- ---- the packed answer

-- what cutting can answer
abbrev pub Possible : Result Piece Refusal → Type 0
Possible (Ok piece) = (2 ≤ piece.len) × ((piece.len ≤ PDU_MAX) × (piece.next ≤ MESSAGE_MAX))
Possible (Err why) = (refusal_of (refusal_number why) ≡ why) × (refusal_number why < LENGTH_UNIT)

pub possible : (number : ℕ) (message : List ℕ) (offset : ℕ) (out : List ℕ) → Possible (cut_at number message offset out)
unfolding cut_at refusal_of LENGTH_UNIT
possible number message offset out =
    choice Possible (ltb (length out) PDU_MAX) (λ _. (refl, lit< tt))
    (λ _.
    choice Possible (ltb MESSAGE_MAX (length message)) (λ _. (refl, lit< tt))
    (λ short.
    choice Possible (not (is_start number (length message) offset)) (λ _. (refl, lit< tt))
    (λ some.
    let start = start_within number (length message) offset (not-false (is_start number (length message) offset) some) in (
      omega (arith, length_cut number message offset, header_pos number (length message) offset),
      (
        cut_fits number message offset,
        omega (
          arith,
          end_within number (length message) offset start,
          ltb-false MESSAGE_MAX (length message) short,
        ),
      ),
    ))))

-- unpacking gives it back
pub unpacked_packed : (answer : Result Piece Refusal) → Possible answer → unpacked (packed answer) ≡ answer
unfolding unpacked packed LENGTH_UNIT MESSAGE_MAX
unpacked_packed (Ok piece) h =
    let word = piece.len * LENGTH_UNIT + piece.next in
    let e : ltb word LENGTH_UNIT ≡ false = le-ltb word LENGTH_UNIT (omega arith) in
    let l : word / LENGTH_UNIT ≡ piece.len = omega arith in
    let n : word % LENGTH_UNIT ≡ piece.next = omega arith in
    rw (e, l, n)
unpacked_packed (Err why) h = rw (lt-ltb (refusal_number why) LENGTH_UNIT h.1, h.0)

pub unpacked_cut : (number : ℕ) (message : List ℕ) (offset : ℕ) (out : List ℕ)
    → unpacked (packed (cut_at number message offset out)) ≡ cut_at number message offset out
unpacked_cut number message offset out = unpacked_packed _ (possible number message offset out)

-- a PDU is at least 131,072, and a refusal below that: one can't be mistaken for the other
pub pdu_above : (piece : Piece) → Possible (Ok piece) → 2 * LENGTH_UNIT ≤ packed (Ok piece)
unfolding packed LENGTH_UNIT
pdu_above piece h = omega arith
