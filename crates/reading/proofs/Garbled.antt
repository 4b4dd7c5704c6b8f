-- What a block of data carries, by its bytes and beside what reading finds: where a number stands whole, reading refuses the PDU
-- or answers a Data First or a Data with that number.
-- Assumes nothing.
use Rattle.std.specs.Prelude.{Option, None, Some}
use mathlib.Core.Path.{◌≡◌, refl, ap, subst, ◌∙◌}
use mathlib.Core.Bool.{Bool, true, false, cond, ◌||◌}
use mathlib.Core.List.{List, [], ◌∷◌}
use Prim.Native.Nat.{ℕ, ◌+◌, ◌/◌, ◌%◌, ◌≤◌, ◌<◌}
use native.Mathlib.Omega.{arith}
use borrow.Author.Tests.{lt-ltb, le-ltb, ltb-false, ne_eqb, eqb-true, eqb-false}
use lib.Dec.{eqb, ltb}
use lib.ListN.{length, drop, get_or}
use Rattle.paper.specs.Sizes.{PDU_MAX}
use Rattle.paper.specs.Commands.{DATA_FIRST, DATA, DATA_FIRST_COMPRESSED, DATA_COMPRESSED}
use Rattle.lists.proofs.Cases.{choice}
use Rattle.paper.specs.declared.Refusal.TheVariants.{CutShort}
use Rattle.numbers.specs.Numbers.{Bytes, value_at, width_of}
use Rattle.numbers.proofs.Widths.{value_in, width_le}
use Rattle.reading.specs.declared.Pdu.{Pdu}
use Rattle.reading.specs.declared.Pdu.TheVariants.{CreateRequest, CreateResponse, DataFirst, Data, Close}
use Rattle.reading.specs.declared.Pdu.TheVariants.{CapsRequest, CapsResponse, Refused}
use Rattle.reading.specs.Reading.{read_pdu, by_command, numbered, bad_length_width, after_number, data_first}
use Rattle.reading.specs.Grammar.{InWidth, first_byte, carrying}
use Rattle.reading.specs.Garbled.{brings_block, whole_in, carries_by, carries, Carrying, CarriesExactly}
use Rattle.reading.proofs.Grammar.{length_carried, read_carried, at, number, it_holds, carried}

-- whether a number's bytes are all there, behind the first byte
pub too_few : (long width : ℕ) → long ≤ width → ltb long (1 + width) ≡ true
too_few long width h = lt-ltb long (1 + width) (omega arith)

pub all_there : (long width : ℕ) → width < long → ltb long (1 + width) ≡ false
all_there long width h = le-ltb long (1 + width) (omega arith)

-- nothing stands in an empty PDU
pub empty_carries : (pdu : List ℕ) → length pdu ≡ 0 → carries pdu ≡ None
unfolding carries carries_by brings_block
empty_carries [] h = refl
empty_carries (b ∷ bs) h = absurd (omega arith)

-- ---- the tests that lead to a number

record Whole (pdu : List ℕ) (n : ℕ) : Type 0 where
  pub block : brings_block (get_or pdu 0 0 / 16) ≡ true
  pub valid : eqb (get_or pdu 0 0 % 4) 3 ≡ false
  pub room : ltb (length pdu) (1 + width_of (get_or pdu 0 0 % 4)) ≡ false
  pub value : value_at pdu 1 (width_of (get_or pdu 0 0 % 4)) ≡ n

-- a test whose first arm has no number
second_arm : (t : Bool) (c : Option ℕ) (n : ℕ) → cond t None c ≡ Some n → (t ≡ false) × (c ≡ Some n)
second_arm true c n h = let z : ◌≡◌ {A = ℕ} 0 1 = cc in absurd (omega arith)
second_arm false c n h = (refl, h)

first_arm : (t : Bool) (c : Option ℕ) (n : ℕ) → cond t c None ≡ Some n → (t ≡ true) × (c ≡ Some n)
first_arm true c n h = (refl, h)
first_arm false c n h = let z : ◌≡◌ {A = ℕ} 0 1 = cc in absurd (omega arith)

stands_whole : (pdu : List ℕ) (n : ℕ) → carries pdu ≡ Some n → Whole pdu n
unfolding carries carries_by whole_in
stands_whole pdu n h =
    let block = first_arm (brings_block (get_or pdu 0 0 / 16)) _ n h in
    let valid = second_arm (eqb (get_or pdu 0 0 % 4) 3) _ n block.1 in
    let room = second_arm (ltb (length pdu) (1 + width_of (get_or pdu 0 0 % 4))) _ n valid.1 in
    let number = room.1 in
    record { block = block.0; valid = valid.0; room = room.0; value = cc }

-- ---- what reading answers where a number stands whole

-- a refusal, or a block of data of the channel with number n
abbrev pub BlockOf : ℕ → Pdu → Type 0
BlockOf n (CreateRequest number class name) = ⊥
BlockOf n (CreateResponse number status) = ⊥
BlockOf n (DataFirst number len block) = number ≡ n
BlockOf n (Data number block) = number ≡ n
BlockOf n (Close number) = ⊥
BlockOf n (CapsRequest version charges) = ⊥
BlockOf n (CapsResponse version) = ⊥
BlockOf n (Refused why) = Unit {0}

-- to show a property of the commands that bring a block, show it of the four
by_commands :
    (P : ℕ → Type 0) → P DATA_FIRST → P DATA → P DATA_FIRST_COMPRESSED → P DATA_COMPRESSED
    → (cmd : ℕ) → brings_block cmd ≡ true → P cmd
unfolding brings_block
by_commands P two three six seven cmd h = first (eqb cmd DATA_FIRST) refl h
  where
    is : (k : ℕ) → eqb cmd k ≡ true → P k → P cmd
    is k e p = rw (eqb-true cmd k e) p

    third : (t : Bool) → eqb cmd DATA_FIRST_COMPRESSED ≡ t → (t || eqb cmd DATA_COMPRESSED) ≡ true → P cmd
    third true e b = is DATA_FIRST_COMPRESSED e six
    third false e b = is DATA_COMPRESSED b seven

    second : (t : Bool) → eqb cmd DATA ≡ t → (t || (eqb cmd DATA_FIRST_COMPRESSED || eqb cmd DATA_COMPRESSED)) ≡ true → P cmd
    second true e b = is DATA e three
    second false e b = third (eqb cmd DATA_FIRST_COMPRESSED) refl b

    first :
        (t : Bool) → eqb cmd DATA_FIRST ≡ t
        → (t || (eqb cmd DATA || (eqb cmd DATA_FIRST_COMPRESSED || eqb cmd DATA_COMPRESSED))) ≡ true → P cmd
    first true e b = is DATA_FIRST e two
    first false e b = second (eqb cmd DATA) refl b

module _ (fromServer : Bool) (pdu : List ℕ) (n : ℕ) where
  numbered_block :
      (cmd middle cbId : ℕ) → ((number at : ℕ) → number ≡ n → BlockOf n (after_number fromServer pdu cmd middle number at))
      → value_at pdu 1 (width_of cbId) ≡ n → BlockOf n (numbered fromServer pdu cmd middle cbId)
  unfolding numbered
  numbered_block cmd middle cbId after v =
      choice (BlockOf n) (eqb cbId 3) (λ e. tt)
      (λ e. choice (BlockOf n) (bad_length_width cmd middle) (λ f. tt)
      (λ f. choice (BlockOf n) (ltb (length pdu) (1 + width_of cbId)) (λ l. tt)
      (λ l. after (value_at pdu 1 (width_of cbId)) (1 + width_of cbId) v)))

  first_block : (middle number at : ℕ) → number ≡ n → BlockOf n (after_number fromServer pdu DATA_FIRST middle number at)
  unfolding after_number data_first
  first_block middle number at e = choice (BlockOf n) (ltb (length pdu) (at + width_of middle)) (λ l. tt) (λ l. e)

  data_block : (middle number at : ℕ) → number ≡ n → BlockOf n (after_number fromServer pdu DATA middle number at)
  unfolding after_number
  data_block middle number at e = e

  command_block :
      (cmd middle cbId : ℕ) → brings_block cmd ≡ true → value_at pdu 1 (width_of cbId) ≡ n
      → BlockOf n (by_command fromServer pdu cmd middle cbId)
  unfolding by_command
  command_block cmd middle cbId b v =
      by_commands (λ c. BlockOf n (by_command fromServer pdu c middle cbId))
      (numbered_block DATA_FIRST middle cbId (first_block middle) v) (numbered_block DATA middle cbId (data_block middle) v)
      tt tt cmd b

  pub carried_is_read : carries pdu ≡ Some n → BlockOf n (read_pdu fromServer pdu)
  unfolding read_pdu
  carried_is_read h =
      let w = stands_whole pdu n h in
      choice (BlockOf n) (eqb (length pdu) 0) (λ e. tt)
      (λ e. choice (BlockOf n) (ltb PDU_MAX (length pdu)) (λ l. tt)
      (λ l. command_block (get_or pdu 0 0 / 16) (get_or pdu 0 0 / 4 % 4) (get_or pdu 0 0 % 4) w.block w.value))

-- ---- by its bytes

-- a byte is its three fields
byte_fields : (b : ℕ) → b ≡ first_byte (b / 16) (b / 4 % 4) (b % 4)
byte_fields b = omega arith

only_such : (n : ℕ) (pdu : List ℕ) → Bytes pdu → carries pdu ≡ Some n → Carrying n pdu
unfolding number at
only_such n pdu b h =
    let w = stands_whole pdu n h in
    let first = get_or pdu 0 0 in
    let cmd = first / 16 in
    let middle = first / 4 % 4 in
    let code = first % 4 in
    let fits = ltb-false (length pdu) (1 + width_of code) w.room in
    let some : 1 ≤ length pdu = omega arith in
    let good : code ≤ 2 = omega (arith, eqb-false code 3 w.valid) in
    let small : middle ≤ 3 = omega arith in
    let is = byte_fields first in
    record {
      cmd = cmd;
      middle = middle;
      code = code;
      rest = drop (1 + width_of code) pdu;
      block = w.block;
      two_bits = small;
      in_width = subst (InWidth code) w.value (it_holds pdu b code cmd middle some is small good fits);
      bytes = carried pdu b code cmd middle some is small good fits ∙ ap (λ (v : ℕ). carrying code cmd middle v (drop (1 + width_of code) pdu)) w.value;
    }

carrying_carries :
    (n code cmd middle : ℕ) (rest : List ℕ) → brings_block cmd ≡ true → middle ≤ 3 → InWidth code n
    → carries (carrying code cmd middle n rest) ≡ Some n
unfolding carries carries_by whole_in
carrying_carries n code cmd middle rest b m w =
    let pdu = carrying code cmd middle n rest in
    let c = w.good in
    let e1 : first_byte cmd middle code / 16 ≡ cmd = omega arith in
    let e2 : first_byte cmd middle code % 4 ≡ code = omega arith in
    let valid : code ≡ 3 → ⊥ = λ e. omega arith in
    let room : 1 + width_of code ≤ length pdu = omega (arith, length_carried code cmd middle n rest) in
    rw (e1, e2, b, ne_eqb code 3 valid, le-ltb (length pdu) (1 + width_of code) room)
    (ap Some (value_in (first_byte cmd middle code ∷ []) rest (width_of code) n 1 refl (width_le code) w.holds))

pub carries_exactly : (n : ℕ) (pdu : List ℕ) → Bytes pdu → CarriesExactly n pdu
carries_exactly n pdu b =
    record {
      only_such = only_such n pdu b;
      every_such = λ c. ap carries c.bytes ∙ carrying_carries n c.code c.cmd c.middle c.rest c.block c.two_bits c.in_width;
    }

-- a Data First that ends before its Length does
pub cut_off :
    (fromServer : Bool) (n code lengthCode : ℕ) (rest : List ℕ) → InWidth code n → lengthCode ≤ 2 → length rest < width_of lengthCode
    → (read_pdu fromServer (carrying code DATA_FIRST lengthCode n rest) ≡ Refused CutShort)
    × (carries (carrying code DATA_FIRST lengthCode n rest) ≡ Some n)
unfolding after_number data_first bad_length_width brings_block PDU_MAX
cut_off fromServer n code lengthCode rest w c short =
    let pdu = carrying code DATA_FIRST lengthCode n rest in
    let long = length_carried code DATA_FIRST lengthCode n rest in
    let narrow = width_le code in
    let narrow2 = width_le lengthCode in
    let valid : lengthCode ≡ 3 → ⊥ = λ e. omega arith in
    let early : length pdu < 1 + width_of code + width_of lengthCode = omega arith in (
      read_carried code DATA_FIRST lengthCode n rest fromServer w (omega arith) (omega arith) (omega arith) (ne_eqb lengthCode 3 valid) (omega arith)
          ∙ rw (lt-ltb (length pdu) (1 + width_of code + width_of lengthCode) early),
      carrying_carries n code DATA_FIRST lengthCode rest refl (omega arith) w,
    )
