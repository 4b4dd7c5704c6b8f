-- Reading a PDU whose number stands in any width comes to what stands behind the number.
-- Assumes nothing.
use mathlib.Core.Path.{◌≡◌, refl, ap, ◌∙◌}
use mathlib.Core.Bool.{Bool, false}
use mathlib.Core.List.{List, [], ◌∷◌, ◌++◌}
use Prim.Native.Nat.{ℕ, ◌+◌, ◌*◌, ◌/◌, ◌%◌, ◌^◌, ◌≤◌, ◌<◌}
use native.Mathlib.Omega.{arith}
use borrow.Author.Tests.{le-ltb, ne_eqb}
use lib.ListN.{length, get_or, length-append}
use Rattle.paper.specs.Sizes.{PDU_MAX}
use Rattle.numbers.specs.Numbers.{bytes_of, value_at, width_of}
use Rattle.numbers.proofs.Widths.{length_bytes_of, value_in, width_le}
use Rattle.reading.specs.Reading.{read_pdu, by_command, numbered, bad_length_width, after_number}

-- the first byte, and a number in the width of the code
unfoldable pub head_in : ℕ → ℕ → ℕ → ℕ → List ℕ
head_in code cmd middle number = (16 * cmd + 4 * middle + code) ∷ bytes_of (width_of code) number

pub length_head_in : (code cmd middle number : ℕ) → length (head_in code cmd middle number) ≡ 1 + width_of code
unfolding head_in
length_head_in code cmd middle number = let l = length_bytes_of (width_of code) number in omega arith

-- ---- stage by stage

past_length :
    (fromServer : Bool) (pdu : List ℕ) → 1 ≤ length pdu → length pdu ≤ PDU_MAX
    → read_pdu fromServer pdu ≡ by_command fromServer pdu (get_or pdu 0 0 / 16) (get_or pdu 0 0 / 4 % 4) (get_or pdu 0 0 % 4)
unfolding read_pdu
past_length fromServer pdu h k =
    let n : length pdu ≡ 0 → ⊥ = λ e. omega arith in
    simp (ne_eqb (length pdu) 0 n, le-ltb)

past_command :
    (fromServer : Bool) (pdu : List ℕ) (cmd middle code : ℕ) → 1 ≤ cmd → cmd ≤ 4
    → by_command fromServer pdu cmd middle code ≡ numbered fromServer pdu cmd middle code
unfolding by_command
past_command fromServer pdu cmd middle code h k =
    let n : cmd ≡ 5 → ⊥ = λ e. omega arith in
    let l : cmd ≤ 5 = omega arith in
    simp (le-ltb cmd 1 h, le-ltb 5 cmd l, ne_eqb cmd 5 n)

past_widths :
    (fromServer : Bool) (pdu : List ℕ) (cmd middle code : ℕ) → code ≤ 2 → bad_length_width cmd middle ≡ false
    → 1 + width_of code ≤ length pdu
    → numbered fromServer pdu cmd middle code ≡ after_number fromServer pdu cmd middle (value_at pdu 1 (width_of code)) (1 + width_of code)
unfolding numbered
past_widths fromServer pdu cmd middle code h b l =
    let n : code ≡ 3 → ⊥ = λ e. omega arith in
    simp (ne_eqb code 3 n, b, le-ltb (length pdu) (1 + width_of code) l)

-- a PDU of Cmd 1 to 4 whose number stands in the width of the code
pub record Headed (code cmd middle number : ℕ) (rest : List ℕ) : Type 0 where
  pub good_code : code ≤ 2
  pub from_1 : 1 ≤ cmd
  pub to_4 : cmd ≤ 4
  pub two_bits : middle ≤ 3
  pub good_length : bad_length_width cmd middle ≡ false
  pub holds : number < 256 ^ width_of code
  pub short_enough : length (head_in code cmd middle number ++ rest) ≤ PDU_MAX

pub read_head :
    (fromServer : Bool) (code cmd middle number : ℕ) (rest : List ℕ) → Headed code cmd middle number rest
    → read_pdu fromServer (head_in code cmd middle number ++ rest) ≡ after_number fromServer (head_in code cmd middle number ++ rest) cmd middle number (1 + width_of code)
unfolding head_in
read_head fromServer code cmd middle number rest h =
    let first = 16 * cmd + 4 * middle + code in
    let pdu = first ∷ (bytes_of (width_of code) number ++ rest) in
    let c = h.good_code in
    let m = h.two_bits in
    let e1 : first / 16 ≡ cmd = omega arith in
    let e2 : first / 4 % 4 ≡ middle = omega arith in
    let e3 : first % 4 ≡ code = omega arith in
    let lb = length_bytes_of (width_of code) number in
    let la = length-append (bytes_of (width_of code) number) rest in
    past_length fromServer pdu (omega arith) h.short_enough
    ∙ rw (e1, e2, e3) (past_command fromServer pdu cmd middle code h.from_1 h.to_4)
    ∙ past_widths fromServer pdu cmd middle code h.good_code h.good_length (omega arith)
    ∙ ap (λ (v : ℕ). after_number fromServer pdu cmd middle v (1 + width_of code)) (value_in (first ∷ []) rest (width_of code) number 1 refl (width_le code) h.holds)
