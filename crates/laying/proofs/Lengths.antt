-- How long each PDU is.
-- Assumes nothing.
use mathlib.Core.Path.{◌≡◌, refl}
use mathlib.Core.Bool.{Bool, true, false, cond}
use mathlib.Core.List.{List, [], ◌∷◌, ◌++◌}
use Prim.Native.Nat.{ℕ, ◌+◌, ◌≤◌}
use native.Mathlib.Omega.{arith}
use lib.Dec.{eqb}
use lib.IntN.{ℤ}
use lib.ListN.{length, take, length-append}
use Rattle.reading.specs.declared.Charges.{Charges}
use Rattle.numbers.specs.Numbers.{bytes_of, narrowest}
use Rattle.lists.specs.Bytes.{laid}
use Rattle.lists.proofs.Laid.{laid_next}
use Rattle.numbers.proofs.Widths.{length_bytes_of, length_narrow, low_bytes, narrowest_le, code_le}
use Rattle.numbers.proofs.Signs.{length_status}
use Rattle.laying.specs.Laying.{head_of, create_request_bytes, create_response_bytes, data_first_head, data_first_bytes}
use Rattle.laying.specs.Laying.{data_bytes, close_bytes, caps_head, caps_request_bytes, caps_response_bytes}

pub length_head : (cmd middle number : ℕ) → length (head_of cmd middle number) ≡ 1 + narrowest number
unfolding head_of
length_head cmd middle number = let l = length_narrow number in omega arith

-- a head is five bytes at most
pub head_le : (cmd middle number : ℕ) → length (head_of cmd middle number) ≤ 5
head_le cmd middle number = let l = length_head cmd middle number in let w = narrowest_le number in omega arith

pub length_create_request : (number class : ℕ) (name : List ℕ)
    → length (create_request_bytes number class name) ≡ 1 + narrowest number + length name + 1
unfolding create_request_bytes
length_create_request number class name = simp (length-append, length_head)

pub length_create_response : (number : ℕ) (status : ℤ) → length (create_response_bytes number status) ≡ 1 + narrowest number + 4
unfolding create_response_bytes
length_create_response number status = simp (length-append, length_head, length_status)

pub length_first_head : (number len : ℕ) → length (data_first_head number len) ≡ 1 + narrowest number + narrowest len
unfolding data_first_head
length_first_head number len = simp (length-append, length_head, length_narrow)

pub length_data_first : (number len : ℕ) (block : List ℕ)
    → length (data_first_bytes number len block) ≡ 1 + narrowest number + narrowest len + length block
unfolding data_first_bytes
length_data_first number len block = simp (length-append, length_first_head)

pub length_data : (number : ℕ) (block : List ℕ) → length (data_bytes number block) ≡ 1 + narrowest number + length block
unfolding data_bytes
length_data number block = simp (length-append, length_head)

pub length_close : (number : ℕ) → length (close_bytes number) ≡ 1 + narrowest number
unfolding close_bytes
length_close number = length_head _ 0 number

pub length_caps_head : (version : ℕ) → length (caps_head version) ≡ 4
unfolding caps_head
length_caps_head version = simp (length-append, length_bytes_of)

pub length_caps_response : (version : ℕ) → length (caps_response_bytes version) ≡ 4
unfolding caps_response_bytes
length_caps_response version = length_caps_head version

pub length_caps_request : (version : ℕ) (charges : Charges)
    → length (caps_request_bytes version charges) ≡ cond (eqb version 1) 4 12
unfolding caps_request_bytes
length_caps_request version charges = go (eqb version 1)
  where
    go : (t : Bool) → length (cond t (caps_head version)
        ((((caps_head version ++ bytes_of 2 charges.class0) ++ bytes_of 2 charges.class1) ++ bytes_of 2
        charges.class2) ++ bytes_of 2 charges.class3)) ≡ cond t 4 12
    go true = length_caps_head version
    go false = simp (length-append, length_bytes_of, length_caps_head)

-- a number of two bytes
pub short_bytes : (v : ℕ) → take 2 (bytes_of 4 v) ≡ bytes_of 2 v
short_bytes v = low_bytes 2 4 v (omega arith)

-- a buffer that begins with one byte, or with two, and goes on
pub laid_first : (out mid after : List ℕ) (b : ℕ) (cs : List ℕ) → mid ≡ laid out 0 (b ∷ []) → after ≡ laid mid 1 cs → after ≡ laid out 0 (b ∷ cs)
laid_first out mid after b cs e f = laid_next out mid after (b ∷ []) cs 1 refl e f

pub laid_second : (out mid after : List ℕ) (a b : ℕ) (cs : List ℕ) → mid ≡ laid out 0 (a ∷ b ∷ []) → after ≡ laid mid 2 cs → after ≡ laid out 0 (a ∷ b ∷ cs)
laid_second out mid after a b cs e f = laid_next out mid after (a ∷ b ∷ []) cs 2 refl e f

-- what is laid rests on these: what stands in front, and how long it is
pub ruleset numbering = (length_narrow, low_bytes, narrowest_le)

pub ruleset laying = (laid_next, laid_first, laid_second, length-append, length_narrow, narrowest_le, code_le, head_le, length_first_head, length_caps_head, length_status, length_bytes_of)
