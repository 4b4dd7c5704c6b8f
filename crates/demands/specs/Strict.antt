-- Strict reading: "One meaning, one byte string." Demands 2 and 3 speak of plain reading, which stays.
use Rattle.std.specs.Prelude.{ℕ, ◌<◌, ◌≡◌, Bool, true, cond, List, ◌⊎◌, length, take, Ok}
use Rattle.paper.specs.declared.Refusal.{Refusal}
use Rattle.paper.specs.declared.Refusal.TheVariants.{Loose}
use Rattle.numbers.specs.Numbers.{Bytes, NUMBERS}
use Rattle.reading.specs.declared.Pdu.TheVariants.{Refused}
use Rattle.reading.specs.Reading.{read_pdu}
use Rattle.reading.specs.Said.{said}
use Rattle.reading.specs.Grammar.{Value, values, data_first_law, data_block}
use Rattle.reading.specs.Strict.{accepted, read_strict}
use Rattle.reading.specs.Tight.{strict_as, TightExactly, LooseExactly}
use Rattle.writing.specs.ReadBack.{StrictBack}
use Rattle.cutting.specs.Cutting.{is_first, block, cut_at, cut_buffer, piece_of}
use Rattle.demands.specs.Demand2.{WrittenIsRead}

-- "Two PDUs that strict reading accepts, in one direction, have equal values exactly when their bytes are equal." Values
-- are the kind, the numbers, and the bytes of a name or of data: what is `said`
pub record OneMeaningOneByteString : Type 0 where
  pub one_meaning :
      (fromServer : Bool) (one two : List ℕ) → Bytes one → Bytes two
      → accepted (read_strict fromServer one) ≡ true → accepted (read_strict fromServer two) ≡ true
      → (said one (read_strict fromServer one) ≡ said two (read_strict fromServer two) → one ≡ two)
      × (one ≡ two → said one (read_strict fromServer one) ≡ said two (read_strict fromServer two))
  -- it accepts exactly the encodings in the narrowest widths with Sp 0
  pub exactly : (fromServer : Bool) (v : Value) (bytes : List ℕ) → Bytes bytes → TightExactly fromServer v bytes

-- "a strict reading beside the present one"
pub record StrictBesidePlain : Type 0 where
  -- what strict reading accepts plain reading answers so too
  pub same_answer :
      (fromServer : Bool) (bytes : List ℕ) → accepted (read_strict fromServer bytes) ≡ true
      → read_strict fromServer bytes ≡ read_pdu fromServer bytes
  -- "it is the last in reading"
  pub keeps_refusals :
      (fromServer : Bool) (bytes : List ℕ) (why : Refusal) → read_pdu fromServer bytes ≡ Refused why
      → read_strict fromServer bytes ≡ Refused why
  pub only_18 :
      (fromServer : Bool) (bytes : List ℕ)
      → (read_strict fromServer bytes ≡ read_pdu fromServer bytes) ⊎ (read_strict fromServer bytes ≡ Refused Loose)
  -- "18, wide number or Length, or ignored bits set"
  pub 18_exactly_when : (fromServer : Bool) (bytes : List ℕ) → Bytes bytes → LooseExactly fromServer bytes

-- what the cutter's PDU at a start says
abbrev pub cut_value : ℕ → List ℕ → ℕ → Value
cut_value n m at = cond (is_first (length m) at) (data_first_law n (length m) (block n m at)) (data_block n (block n m at))

-- whatever the seven writers and the cutter write, strict reading accepts, with the same values
pub record WhatWeWriteIsStrict : Type 0 where
  pub writers : WrittenIsRead StrictBack
  pub cutter :
      (fromServer : Bool) (n : ℕ) → n < NUMBERS → (m : List ℕ) (at : ℕ) (out : List ℕ) (len next : ℕ)
      → cut_at n m at out ≡ Ok (piece_of len next) → strict_as fromServer (take len (cut_buffer n m at out)) ≡ values (cut_value n m at)
