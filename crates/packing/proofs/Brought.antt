-- What a PDU brings is small: its channel number has 32 bits, and a block is no longer than a PDU.
-- Assumes nothing.
use Rattle.std.specs.Prelude.{Option, None, Some}
use mathlib.Core.Bool.{Bool, not}
use mathlib.Core.List.{List}
use Prim.Native.Nat.{ℕ, ◌+◌, ◌-◌, ◌/◌, ◌%◌, ◌≤◌, ◌<◌}
use native.Mathlib.Omega.{arith}
use borrow.Author.Tests.{ltb-false}
use lib.Dec.{eqb, ltb, leb, lit≤}
use lib.ListN.{length, drop, get_or, length-take, length-drop}
use Rattle.paper.specs.Sizes.{PDU_MAX}
use Rattle.paper.specs.Commands.{CREATE, DATA_FIRST, DATA, CAPABILITIES}
use Rattle.lists.specs.Places.{place}
use Rattle.lists.specs.Bytes.{is_zero}
use Rattle.lists.proofs.Cases.{choice}
use Rattle.numbers.specs.Numbers.{Bytes, NUMBERS, value_at, width_of}
use Rattle.numbers.proofs.Widths.{value_below}
use Rattle.reading.specs.declared.Extent.{Extent}
use Rattle.reading.specs.declared.Pdu.{Pdu}
use Rattle.reading.specs.declared.Pdu.TheVariants.{CreateRequest, CreateResponse, DataFirst, Data, Close}
use Rattle.reading.specs.declared.Pdu.TheVariants.{CapsRequest, CapsResponse, Refused}
use Rattle.reading.specs.Said.{bytes_at}
use Rattle.reading.specs.Garbled.{brings_block, whole_in, carries_by, carries}
use Rattle.reading.specs.Reading.{read_pdu, by_command, numbered, bad_length_width, after_number, create_request, named_for}
use Rattle.reading.specs.Reading.{create_response, data_first, closing, capabilities, by_version, bad_version, charged}

-- what is read of a PDU: its number has 32 bits, and one with a block isn't too long
abbrev pub Brings : List ℕ → Pdu → Type 0
Brings pdu (CreateRequest n class name) = n < NUMBERS
Brings pdu (CreateResponse n status) = n < NUMBERS
Brings pdu (DataFirst n len block) = (n < NUMBERS) × (length pdu ≤ PDU_MAX)
Brings pdu (Data n block) = (n < NUMBERS) × (length pdu ≤ PDU_MAX)
Brings pdu (Close n) = n < NUMBERS
Brings pdu (CapsRequest version charges) = Unit {0}
Brings pdu (CapsResponse version) = Unit {0}
Brings pdu (Refused why) = Unit {0}

-- the number that a garbled block carries
abbrev pub CarriesSmall : Option ℕ → Type 0
CarriesSmall None = Unit {0}
CarriesSmall (Some n) = n < NUMBERS

-- the bytes at a place are no more than the PDU's
pub block_length : (pdu : List ℕ) (block : Extent) → length (bytes_at pdu block) ≤ length pdu
unfolding bytes_at
block_length pdu block = simp (length-take, length-drop) (omega arith)

module _ (pdu : List ℕ) (b : Bytes pdu) where
  value_small : (code : ℕ) → value_at pdu 1 (width_of code) < NUMBERS
  unfolding width_of
  value_small code =
      choice (λ (w : ℕ). value_at pdu 1 w < NUMBERS) (eqb code 0) (λ _. omega (arith, value_below pdu 1 1 (lit≤ tt) b))
      (λ _. choice (λ (w : ℕ). value_at pdu 1 w < NUMBERS) (eqb code 1) (λ _. omega (arith, value_below pdu 1 2 (lit≤ tt) b))
      (λ _. choice (λ (w : ℕ). value_at pdu 1 w < NUMBERS) (eqb code 2) (λ _. value_below pdu 1 4 (lit≤ tt) b)
      (λ _. omega (arith, value_below pdu 1 0 (lit≤ tt) b))))

  pub carried_small : CarriesSmall (carries pdu)
  unfolding carries carries_by whole_in
  carried_small =
      let code = get_or pdu 0 0 % 4 in
      choice CarriesSmall (brings_block (get_or pdu 0 0 / 16))
      (λ e. choice CarriesSmall (eqb code 3) (λ f. tt)
      (λ f. choice CarriesSmall (ltb (length pdu) (1 + width_of code)) (λ g. tt) (λ g. value_small code)))
      (λ e. tt)

  named_brings : (left n class at len : ℕ) → n < NUMBERS → Brings pdu (named_for left n class at len)
  unfolding named_for
  named_brings left n class at len h =
      choice (Brings pdu) (leb left len) (λ e. tt) (λ e. choice (Brings pdu) (ltb (len + 1) left) (λ f. tt) (λ f. h))

  answered_brings : (n at : ℕ) → n < NUMBERS → Brings pdu (create_response pdu n at)
  unfolding create_response
  answered_brings n at h =
      choice (Brings pdu) (ltb (length pdu) (at + 4)) (λ e. tt)
      (λ e. choice (Brings pdu) (ltb (at + 4) (length pdu)) (λ f. tt) (λ f. h))

  after_brings : (fromServer : Bool) (cmd middle n at : ℕ) → n < NUMBERS → length pdu ≤ PDU_MAX → Brings pdu (after_number fromServer pdu cmd middle n at)
  unfolding after_number create_request data_first closing
  after_brings fromServer cmd middle n at h l =
      choice (Brings pdu) (eqb cmd CREATE)
      (λ e. choice (Brings pdu) fromServer (λ f. named_brings (length pdu - at) n middle at (place is_zero (drop at pdu)) h)
      (λ f. answered_brings n at h))
      (λ e. choice (Brings pdu) (eqb cmd DATA_FIRST)
      (λ f. choice (Brings pdu) (ltb (length pdu) (at + width_of middle)) (λ g. tt) (λ g. (h, l)))
      (λ f. choice (Brings pdu) (eqb cmd DATA) (λ g. (h, l)) (λ g. choice (Brings pdu) (ltb at (length pdu)) (λ i. tt) (λ i. h))))

  numbered_brings : (fromServer : Bool) (cmd middle cbId : ℕ) → length pdu ≤ PDU_MAX → Brings pdu (numbered fromServer pdu cmd middle cbId)
  unfolding numbered
  numbered_brings fromServer cmd middle cbId l =
      choice (Brings pdu) (eqb cbId 3) (λ e. tt)
      (λ e. choice (Brings pdu) (bad_length_width cmd middle) (λ f. tt)
      (λ f. choice (Brings pdu) (ltb (length pdu) (1 + width_of cbId)) (λ g. tt)
      (λ g. after_brings fromServer cmd middle (value_at pdu 1 (width_of cbId)) (1 + width_of cbId) (value_small cbId) l)))

  charged_brings : (version : ℕ) → Brings pdu (charged pdu version)
  unfolding charged
  charged_brings version =
      choice (Brings pdu) (eqb version 1) (λ e. choice (Brings pdu) (ltb 4 (length pdu)) (λ f. tt) (λ f. tt))
      (λ e. choice (Brings pdu) (ltb (length pdu) 12) (λ f. tt) (λ f. choice (Brings pdu) (ltb 12 (length pdu)) (λ g. tt) (λ g. tt)))

  versioned_brings : (fromServer : Bool) (version : ℕ) → Brings pdu (by_version fromServer pdu version)
  unfolding by_version
  versioned_brings fromServer version =
      choice (Brings pdu) (bad_version version) (λ e. tt)
      (λ e. choice (Brings pdu) fromServer (λ f. charged_brings version)
      (λ f. choice (Brings pdu) (ltb 4 (length pdu)) (λ g. tt) (λ g. tt)))

  capable_brings : (fromServer : Bool) (cbId : ℕ) → Brings pdu (capabilities fromServer pdu cbId)
  unfolding capabilities
  capable_brings fromServer cbId =
      choice (Brings pdu) (not (eqb cbId 0)) (λ e. tt)
      (λ e. choice (Brings pdu) (ltb (length pdu) 2) (λ f. tt)
      (λ f. choice (Brings pdu) (not (eqb (get_or pdu 1 0) 0)) (λ g. tt)
      (λ g. choice (Brings pdu) (ltb (length pdu) 4) (λ i. tt) (λ i. versioned_brings fromServer (value_at pdu 2 2)))))

  pub read_brings : (fromServer : Bool) → Brings pdu (read_pdu fromServer pdu)
  unfolding read_pdu by_command
  read_brings fromServer =
      let first = get_or pdu 0 0 in
      choice (Brings pdu) (eqb (length pdu) 0) (λ e. tt)
      (λ e. choice (Brings pdu) (ltb PDU_MAX (length pdu)) (λ f. tt)
      (λ f. choice (Brings pdu) (ltb (first / 16) CREATE) (λ g. tt)
      (λ g. choice (Brings pdu) (ltb CAPABILITIES (first / 16)) (λ i. tt)
      (λ i. choice (Brings pdu) (eqb (first / 16) CAPABILITIES) (λ j. capable_brings fromServer (first % 4))
      (λ j. numbered_brings fromServer (first / 16) (first / 4 % 4) (first % 4) (ltb-false PDU_MAX (length pdu) f))))))
