-- What we write, read back by either reading; the cutter's PDUs, read strictly; and one byte string for each meaning.
-- Assumes nothing.
use Rattle.std.specs.Prelude.{Ok}
use Prim.Native.Nat.{ℕ, ◌<◌}
use native.Mathlib.Omega.{arith}
use mathlib.Core.Path.{◌≡◌, refl, ap, ◌∙◌}
use mathlib.Core.Bool.{Bool, true, false, cond}
use mathlib.Core.List.{List}
use lib.ListN.{length, take}
use Rattle.paper.specs.Sizes.{MESSAGE_MAX}
use Rattle.numbers.specs.Numbers.{NUMBERS}
use Rattle.reading.specs.Grammar.{Value, values, data_first_law, data_block}
use Rattle.reading.specs.Said.{said}
use Rattle.reading.specs.Strict.{read_strict}
use Rattle.reading.specs.Tight.{strict_as}
use Rattle.reading.proofs.Strict as strict
use Rattle.laying.proofs.Encoded.{data_encoded, data_first_encoded, data_tight, data_first_tight}
use Rattle.writing.proofs.SameValues as same-values
use Rattle.cutting.specs.Cutting.{is_first, block, cut_pdu, cut_at, cut_buffer, piece_of}
use Rattle.cutting.proofs.Answers.{given}
use Rattle.cutting.proofs.Blocks.{cut_first, cut_data, cut_fits}
use Rattle.demands.specs.Demand2.{WrittenIsRead}
use Rattle.demands.specs.Strict.{cut_value, OneMeaningOneByteString}

-- each kind's bytes, as a reading takes them
pub every_kind :
    (Back : Bool → Bool → List ℕ → Value → Type 0)
    → ((fromServer bad : Bool) (pdu : List ℕ) (v : Value) → same-values.Good fromServer bad pdu v → Back fromServer bad pdu v)
    → WrittenIsRead Back
every_kind Back back =
    record {
      create_request_law = λ n class name h. back _ _ _ _ (same-values.create_request_good n class name h);
      create_response_law = λ n status h f. back _ _ _ _ (same-values.create_response_good n status h f);
      data_first_law = λ fromServer n len block h k. back _ _ _ _ (same-values.data_first_good fromServer n len block h k);
      data_block = λ fromServer n block h. back _ _ _ _ (same-values.data_good fromServer n block h);
      close = λ fromServer n h. back _ _ _ _ (same-values.close_good fromServer n h);
      capabilities_request = λ version charges f. back _ _ _ _ (same-values.caps_request_good version charges f);
      capabilities_response = λ version. back _ _ _ _ (same-values.caps_response_good version);
    }

-- a PDU of the cutter
module _ (fromServer : Bool) (n : ℕ) (small : n < NUMBERS) (m : List ℕ) (at : ℕ) where
  read_piece : length m < NUMBERS → (t : Bool) → is_first (length m) at ≡ t
      → strict_as fromServer (cut_pdu n m at) ≡ values (cond t (data_first_law n (length m) (block n m at)) (data_block n (block n m at)))
  read_piece short true e =
      strict.tight_read fromServer _ _
      (rw (cut_first n m at e) (data_first_encoded n small fromServer (length m) (block n m at) short))
      (cut_first n m at e ∙ data_first_tight n (length m) (block n m at)) (cut_fits n m at)
  read_piece short false e =
      strict.tight_read fromServer _ _ (rw (cut_data n m at e) (data_encoded n small fromServer (block n m at)))
      (cut_data n m at e ∙ data_tight n (block n m at)) (cut_fits n m at)

  pub cut_is_strict :
      (out : List ℕ) (len next : ℕ) → cut_at n m at out ≡ Ok (piece_of len next)
      → strict_as fromServer (take len (cut_buffer n m at out)) ≡ values (cut_value n m at)
  unfolding MESSAGE_MAX
  cut_is_strict out len next h =
      let g = given n m at out len next h in
      ap (strict_as fromServer) g.stands ∙ read_piece (omega (arith, g.short_enough)) (is_first (length m) at) refl

pub one_byte_string : OneMeaningOneByteString
one_byte_string =
    record {
      one_meaning =
          λ fromServer one two b c h k.
          (strict.one_meaning fromServer one two b c h k, λ e. ap (λ (bytes : List ℕ). said bytes (read_strict fromServer bytes)) e);
      exactly = strict.tight_exactly;
    }
