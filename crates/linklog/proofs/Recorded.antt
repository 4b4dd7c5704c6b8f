-- The bytes of a record, as the writer has them: a head, and a body.
use mathlib.Core.Path.{◌≡◌, sym, ap, ◌∙◌}
use mathlib.Core.List.{List, ◌++◌}
use Prim.Native.Nat.{ℕ, min}
use native.Mathlib.Omega.{arith}
use lib.ListN.{length, take, length-take}
use Rattle.lists.proofs.Laid.{take_least}
use Rattle.numbers.specs.Numbers.{bytes_of}
use Rattle.std.specs.Int.{w16, to_le_bytes}
use Rattle.blocks.proofs.Words.{bytes_word}
use Rattle.records.specs.Desk.{CLOSE}
use Rattle.linklog.specs.Records.{Received, Closed, CUT, pdu_record, close_record, record_of}

module _ (pdu : List ℕ) (n : ℕ) (e : n ≡ min (length pdu) CUT) where
  pub length_cut : length (take n pdu) ≡ n
  length_cut = length-take n pdu ∙ omega (arith, e)

  pub pdu_record_law : (head : List ℕ) → head ≡ to_le_bytes w16 n → head ++ take n pdu ≡ record_of (Received pdu)
  unfolding record_of pdu_record
  pdu_record_law head f =
      let least : n ≡ min CUT (length pdu) = omega (arith, e) in
      let cut : take n pdu ≡ take CUT pdu = rw least (take_least CUT pdu) in
      let size : length (take CUT pdu) ≡ n = sym (ap length cut) ∙ length_cut in
      rw (f, size, cut) (ap (λ (head : List ℕ). head ++ take CUT pdu) (sym (bytes_word n)))

pub close_record_law : (number : ℕ) (head body : List ℕ) → head ≡ to_le_bytes w16 CLOSE → body ≡ bytes_of 4 number
    → head ++ body ≡ record_of (Closed number)
unfolding record_of close_record
close_record_law number head body e f = rw (e, f) (ap (λ (head : List ℕ). head ++ bytes_of 4 number) (sym (bytes_word CLOSE)))
