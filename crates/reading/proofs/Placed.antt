-- Every place that reading answers lies within the PDU: data goes to its end, a name to the zero byte that ends it.
-- A class is two bits, a version 1 to 3, and a refusal one of 2 to 5.
-- Assumes nothing.
use mathlib.Core.Path.{◌≡◌}
use mathlib.Core.Bool.{Bool, false, not}
use mathlib.Core.List.{List}
use Prim.Native.Nat.{ℕ, ◌+◌, ◌-◌, ◌/◌, ◌%◌, ◌≤◌}
use native.Mathlib.Omega.{arith}
use borrow.Author.Tests.{ltb-false, leb-false}
use lib.Dec.{eqb, ltb, leb}
use lib.ListN.{length, drop, get_or}
use Rattle.paper.specs.Sizes.{PDU_MAX}
use Rattle.paper.specs.declared.Refusal.{Refusal}
use Rattle.paper.specs.declared.Refusal.TheVariants.{BadCall, CutShort, TooLong, NoCommand, BadField, BadList}
use Rattle.paper.specs.declared.Refusal.TheVariants.{WrongTime, NotOpen, AlreadyOpen, StillJoining, OverLimit}
use Rattle.paper.specs.declared.Refusal.TheVariants.{PastLength, IsSpoiled, NoStart, AllTaken, NotAwaited, NotSets, Loose}
use Rattle.paper.specs.declared.Refusal.TheVariants.{NoPartner, NoRoom, LogFull, NotBlocks}
use Rattle.paper.specs.Commands.{CREATE, DATA_FIRST, DATA, CAPABILITIES}
use Rattle.lists.specs.Places.{place}
use Rattle.lists.specs.Bytes.{is_zero}
use Rattle.lists.proofs.Cases.{choice, neither}
use Rattle.numbers.specs.Numbers.{value_at, width_of}
use Rattle.reading.specs.Reading.{read_pdu, by_command, numbered, bad_length_width, after_number, create_request}
use Rattle.reading.specs.Reading.{named_for, create_response, data_first, closing, capabilities, by_version}
use Rattle.reading.specs.Reading.{bad_version, charged}
use Rattle.reading.specs.declared.Pdu.{Pdu}
use Rattle.reading.specs.declared.Pdu.TheVariants.{CreateRequest, CreateResponse, DataFirst, Data, Close}
use Rattle.reading.specs.declared.Pdu.TheVariants.{CapsRequest, CapsResponse, Refused}

-- a good version is 1 to 3
pub good_version : (version : ℕ) → bad_version version ≡ false → (1 ≤ version) × (version ≤ 3)
unfolding bad_version
good_version version e =
    let p = neither (ltb version 1) (ltb 3 version) e in
    (ltb-false version 1 p.0, ltb-false 3 version p.1)

-- the refusals that reading gives
abbrev pub ReadingRefusal : Refusal → Type 0
ReadingRefusal BadCall = ⊥
ReadingRefusal CutShort = Unit {0}
ReadingRefusal TooLong = Unit {0}
ReadingRefusal NoCommand = Unit {0}
ReadingRefusal BadField = Unit {0}
ReadingRefusal BadList = ⊥
ReadingRefusal WrongTime = ⊥
ReadingRefusal NotOpen = ⊥
ReadingRefusal AlreadyOpen = ⊥
ReadingRefusal StillJoining = ⊥
ReadingRefusal OverLimit = ⊥
ReadingRefusal PastLength = ⊥
ReadingRefusal IsSpoiled = ⊥
ReadingRefusal NoStart = ⊥
ReadingRefusal AllTaken = ⊥
ReadingRefusal NotAwaited = ⊥
ReadingRefusal NotSets = ⊥
ReadingRefusal Loose = ⊥
ReadingRefusal NoPartner = ⊥
ReadingRefusal NoRoom = ⊥
ReadingRefusal LogFull = ⊥
ReadingRefusal NotBlocks = ⊥

abbrev pub Placed : List ℕ → Pdu → Type 0
Placed pdu (CreateRequest number class name) = (name.at + name.len + 1 ≡ length pdu) × (class ≤ 3)
Placed pdu (CreateResponse number status) = Unit {0}
Placed pdu (DataFirst number len block) = block.at + block.len ≡ length pdu
Placed pdu (Data number block) = block.at + block.len ≡ length pdu
Placed pdu (Close number) = Unit {0}
Placed pdu (CapsRequest version charges) = (1 ≤ version) × (version ≤ 3)
Placed pdu (CapsResponse version) = (1 ≤ version) × (version ≤ 3)
Placed pdu (Refused why) = ReadingRefusal why

module _ (pdu : List ℕ) where
  named : (number class at len : ℕ) → at ≤ length pdu → class ≤ 3
      → Placed pdu (named_for (length pdu - at) number class at len)
  unfolding named_for
  named number class at len h k =
      choice (Placed pdu) (leb (length pdu - at) len) (λ e. tt)
      (λ e. choice (Placed pdu) (ltb (len + 1) (length pdu - at)) (λ f. tt)
      (λ f. (omega (arith, leb-false (length pdu - at) len e, ltb-false (len + 1) (length pdu - at) f), k)))

  answered : (number at : ℕ) → Placed pdu (create_response pdu number at)
  unfolding create_response
  answered number at =
      choice (Placed pdu) (ltb (length pdu) (at + 4)) (λ e. tt)
      (λ e. choice (Placed pdu) (ltb (at + 4) (length pdu)) (λ f. tt) (λ f. tt))

  begun : (number width at : ℕ) → Placed pdu (data_first pdu number width at)
  unfolding data_first
  begun number width at =
      choice (Placed pdu) (ltb (length pdu) (at + width)) (λ e. tt)
      (λ e. omega (arith, ltb-false (length pdu) (at + width) e))

  closed : (number at : ℕ) → Placed pdu (closing pdu number at)
  unfolding closing
  closed number at = choice (Placed pdu) (ltb at (length pdu)) (λ e. tt) (λ e. tt)

  after : (fromServer : Bool) (cmd middle number at : ℕ) → at ≤ length pdu → middle ≤ 3
      → Placed pdu (after_number fromServer pdu cmd middle number at)
  unfolding after_number create_request
  after fromServer cmd middle number at h k =
      choice (Placed pdu) (eqb cmd CREATE)
      (λ e. choice (Placed pdu) fromServer (λ f. named number middle at (place is_zero (drop at pdu)) h k)
      (λ f. answered number at))
      (λ e. choice (Placed pdu) (eqb cmd DATA_FIRST) (λ f. begun number (width_of middle) at)
      (λ f. choice (Placed pdu) (eqb cmd DATA) (λ g. omega arith) (λ g. closed number at)))

  with_number : (fromServer : Bool) (cmd middle cbId : ℕ) → middle ≤ 3
      → Placed pdu (numbered fromServer pdu cmd middle cbId)
  unfolding numbered
  with_number fromServer cmd middle cbId k =
      choice (Placed pdu) (eqb cbId 3) (λ e. tt)
      (λ e. choice (Placed pdu) (bad_length_width cmd middle) (λ f. tt)
      (λ f. choice (Placed pdu) (ltb (length pdu) (1 + width_of cbId)) (λ g. tt)
      (λ g. after fromServer cmd middle (value_at pdu 1 (width_of cbId)) (1 + width_of cbId) (ltb-false _ _ g) k)))

  requested : (version : ℕ) → 1 ≤ version → version ≤ 3 → Placed pdu (charged pdu version)
  unfolding charged
  requested version h k =
      choice (Placed pdu) (eqb version 1) (λ e. choice (Placed pdu) (ltb 4 (length pdu)) (λ f. tt) (λ f. (h, k)))
      (λ e. choice (Placed pdu) (ltb (length pdu) 12) (λ f. tt)
      (λ f. choice (Placed pdu) (ltb 12 (length pdu)) (λ g. tt) (λ g. (h, k))))

  versioned : (fromServer : Bool) (version : ℕ) → Placed pdu (by_version fromServer pdu version)
  unfolding by_version
  versioned fromServer version =
      choice (Placed pdu) (bad_version version) (λ e. tt)
      (λ e. let h = good_version version e in
      choice (Placed pdu) fromServer (λ g. requested version h.0 h.1)
      (λ g. choice (Placed pdu) (ltb 4 (length pdu)) (λ i. tt) (λ i. h)))

  capable : (fromServer : Bool) (cbId : ℕ) → Placed pdu (capabilities fromServer pdu cbId)
  unfolding capabilities
  capable fromServer cbId =
      choice (Placed pdu) (not (eqb cbId 0)) (λ e. tt)
      (λ e. choice (Placed pdu) (ltb (length pdu) 2) (λ f. tt)
      (λ f. choice (Placed pdu) (not (eqb (get_or pdu 1 0) 0)) (λ g. tt)
      (λ g. choice (Placed pdu) (ltb (length pdu) 4) (λ i. tt) (λ i. versioned fromServer (value_at pdu 2 2)))))

  commanded : (fromServer : Bool) (cmd middle cbId : ℕ) → middle ≤ 3
      → Placed pdu (by_command fromServer pdu cmd middle cbId)
  unfolding by_command
  commanded fromServer cmd middle cbId k =
      choice (Placed pdu) (ltb cmd CREATE) (λ e. tt)
      (λ e. choice (Placed pdu) (ltb CAPABILITIES cmd) (λ f. tt)
      (λ f. choice (Placed pdu) (eqb cmd CAPABILITIES) (λ g. capable fromServer cbId)
      (λ g. with_number fromServer cmd middle cbId k)))

  pub placed : (fromServer : Bool) → Placed pdu (read_pdu fromServer pdu)
  unfolding read_pdu
  placed fromServer =
      choice (Placed pdu) (eqb (length pdu) 0) (λ e. tt)
      (λ e. choice (Placed pdu) (ltb PDU_MAX (length pdu)) (λ f. tt)
      (λ f. commanded fromServer (get_or pdu 0 0 / 16) (get_or pdu 0 0 / 4 % 4) (get_or pdu 0 0 % 4) (omega arith)))
