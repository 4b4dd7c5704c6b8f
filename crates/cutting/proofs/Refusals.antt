-- Cutting refuses with the first row that holds, and with none exactly if none does; a refusal leaves every byte of the buffer.
-- Assumes nothing.
use Rattle.std.specs.Prelude.{Result, Ok, Err}
use Prim.Native.Nat.{ℕ}
use mathlib.Core.Path.{◌≡◌, refl, ap}
use mathlib.Core.Bool.{Bool, true, false, cond, not}
use mathlib.Core.List.{List}
use lib.Dec.{ltb}
use lib.ListN.{length}
use Rattle.paper.specs.Sizes.{PDU_MAX, MESSAGE_MAX}
use Rattle.paper.specs.Rows.{fine, refused_with, first_held, comes_to}
use Rattle.paper.specs.declared.Refusal.{Refusal}
use Rattle.paper.specs.declared.Refusal.TheVariants.{BadCall, OverLimit, NoStart}
use Rattle.laying.specs.Laying.{buffer_after}
use Rattle.cutting.specs.Cutting.{block_end, is_start, cut_pdu, cut_at, cut_buffer, lengths_at, outcome, cutting_rows, piece_of}
use Rattle.cutting.specs.declared.Piece.{Piece}

module _ (number : ℕ) (message : List ℕ) (offset : ℕ) (out : List ℕ) where
  pub cutting_refusals : outcome (cut_at number message offset out) ≡ comes_to (lengths_at number message offset) (first_held (cutting_rows number message offset out))
  unfolding outcome cut_at comes_to cutting_rows first_held
  cutting_refusals = go (ltb (length out) PDU_MAX) (ltb MESSAGE_MAX (length message)) (not (is_start number (length message) offset))
    where
      go :
          (a b c : Bool)
          → outcome (cond a (Err BadCall) (cond b (Err OverLimit) (cond c (Err NoStart) (Ok (piece_of (length (cut_pdu number message offset)) (block_end number (length message) offset))))))
          ≡ comes_to (lengths_at number message offset) (cond a (refused_with BadCall) (cond b (refused_with OverLimit) (cond c (refused_with NoStart) fine)))
      go true b c = refl
      go false true c = refl
      go false false true = refl
      go false false false = refl

  pub cutting_leaves : (why : Refusal) → cut_at number message offset out ≡ Err why → cut_buffer number message offset out ≡ out
  unfolding outcome buffer_after cut_buffer
  cutting_leaves why e = ap (λ (p : Result Piece Refusal). buffer_after (outcome p) (cut_pdu number message offset) out) e
