-- What is laid for each kind is the narrowest encoding of its values, with Sp 0.
-- Assumes nothing.
use mathlib.Core.Path.{◌≡◌, sym, ap, ◌∙◌}
use mathlib.Core.Bool.{Bool, true, false}
use mathlib.Core.List.{List, [], ◌∷◌, ◌++◌, append_assoc, append-nil}
use Prim.Native.Nat.{ℕ, ◌%◌, ◌≤◌, ◌<◌}
use native.Mathlib.Omega.{arith}
use lib.Dec.{eqb}
use lib.IntN.{ℤ}
use mir.Syntax.{w32}
use mir.Val.{SFits}
use Rattle.paper.specs.Commands.{CREATE, DATA_FIRST, DATA, CLOSE}
use Rattle.lists.proofs.Cases.{each}
use Rattle.numbers.specs.Numbers.{NUMBERS, bytes_of, code_for, narrowest, narrow_bytes}
use Rattle.numbers.specs.Status.{status_bytes}
use Rattle.numbers.proofs.Widths.{narrow_holds, code_le}
use Rattle.reading.specs.declared.Charges.{Charges}
use Rattle.reading.specs.Grammar.{create_request_law, create_response_law, data_first_law, data_block, close}
use Rattle.reading.specs.Grammar.{capabilities_request, capabilities_response, InWidth, NoZero}
use Rattle.reading.specs.Grammar.{SmallCharges, no_charges, versioned, Encodes, create_request_is}
use Rattle.reading.specs.Grammar.{create_response_is, data_first_is, data_is, close_is, capabilities_1_is}
use Rattle.reading.specs.Grammar.{capabilities_is, capabilities_response_is}
use Rattle.reading.proofs.Tight.{tight, narrowly}
use Rattle.laying.specs.Laying.{head_of, create_request_bytes, create_response_bytes, data_first_head, data_first_bytes}
use Rattle.laying.specs.Laying.{data_bytes, close_bytes, caps_head, caps_request_bytes, caps_response_bytes}

-- a number in its narrowest width
in_narrowest : (number : ℕ) → number < NUMBERS → InWidth (code_for number) number
unfolding narrowest
in_narrowest number h = record { good = code_le number; holds = narrow_holds number h }

-- a head and what stands behind it
carried :
    (cmd middle number : ℕ) (rest : List ℕ) → cmd ≤ 4 → middle ≤ 3
    → head_of cmd middle number ++ rest ≡ narrowly cmd middle number rest
unfolding head_of narrow_bytes narrowest
carried cmd middle number rest h k =
    let e : cmd % 16 ≡ cmd = omega arith in
    let f : middle % 4 ≡ middle = omega arith in
    rw (e, f)

-- ---- the bytes

pub close_tight : (number : ℕ) → close_bytes number ≡ tight (close number)
unfolding close_bytes tight
close_tight number = sym (append-nil (head_of CLOSE 0 number)) ∙ carried CLOSE 0 number [] (omega arith) (omega arith)

pub data_tight : (number : ℕ) (block : List ℕ) → data_bytes number block ≡ tight (data_block number block)
unfolding data_bytes tight
data_tight number block = carried DATA 0 number block (omega arith) (omega arith)

pub data_first_tight : (number len : ℕ) (block : List ℕ) → data_first_bytes number len block ≡ tight (data_first_law number len block)
unfolding data_first_bytes data_first_head tight
data_first_tight number len block =
    let c = code_le len in
    append_assoc (head_of DATA_FIRST (code_for len) number) (narrow_bytes len) block
    ∙ carried DATA_FIRST (code_for len) number (narrow_bytes len ++ block) (omega arith) (omega arith)

pub create_response_tight : (number : ℕ) (status : ℤ) → create_response_bytes number status ≡ tight (create_response_law number status)
unfolding create_response_bytes tight
create_response_tight number status = carried CREATE 0 number (status_bytes status) (omega arith) (omega arith)

pub create_request_tight :
    (number class : ℕ) (name : List ℕ) → class ≤ 3 → create_request_bytes number class name ≡ tight (create_request_law number class name)
unfolding create_request_bytes tight
create_request_tight number class name two_bits =
    append_assoc (head_of CREATE class number) name (0 ∷ []) ∙ carried CREATE class number (name ++ (0 ∷ [])) (omega arith) two_bits

pub caps_response_tight : (version : ℕ) → caps_response_bytes version ≡ tight (capabilities_response version)
unfolding caps_response_bytes caps_head tight
caps_response_tight version = ap (λ (l : List ℕ). 80 ∷ 0 ∷ l) (sym (append-nil (bytes_of 2 version)))

pub caps_request_tight : (version : ℕ) (charges : Charges) → caps_request_bytes version charges ≡ tight (capabilities_request version charges)
unfolding caps_request_bytes caps_head tight
caps_request_tight version charges =
    each (λ (l : List ℕ). l) (versioned 0 version) (eqb version 1)
    (ap (λ (l : List ℕ). 80 ∷ 0 ∷ l) (sym (append-nil (bytes_of 2 version)))) (simp append_assoc)

-- ---- encodings

module _ (number : ℕ) (small : number < NUMBERS) where
  pub close_encoded : (fromServer : Bool) → Encodes fromServer (close number) (close_bytes number)
  unfolding tight
  close_encoded fromServer = close_is fromServer (code_for number) 0 number (in_narrowest number small) (omega arith) (close_tight number)

  pub data_encoded : (fromServer : Bool) (block : List ℕ) → Encodes fromServer (data_block number block) (data_bytes number block)
  unfolding tight
  data_encoded fromServer block =
      data_is fromServer (code_for number) 0 number block (in_narrowest number small) (omega arith) (data_tight number block)

  pub data_first_encoded :
      (fromServer : Bool) (len : ℕ) (block : List ℕ) → len < NUMBERS
      → Encodes fromServer (data_first_law number len block) (data_first_bytes number len block)
  unfolding tight narrow_bytes narrowest
  data_first_encoded fromServer len block short =
      data_first_is fromServer (code_for number) (code_for len) number len block (in_narrowest number small) (in_narrowest len short)
      (data_first_tight number len block)

  pub create_response_encoded :
      (status : ℤ) → SFits w32 status → Encodes false (create_response_law number status) (create_response_bytes number status)
  unfolding tight
  create_response_encoded status fits =
      create_response_is (code_for number) 0 number status (in_narrowest number small) (omega arith) fits
      (create_response_tight number status)

  pub create_request_encoded :
      (class : ℕ) (name : List ℕ) → class ≤ 3 → NoZero name
      → Encodes true (create_request_law number class name) (create_request_bytes number class name)
  unfolding tight
  create_request_encoded class name two_bits no_zero =
      create_request_is (code_for number) number class name (in_narrowest number small) two_bits no_zero
      (create_request_tight number class name two_bits)

pub caps_response_encoded :
    (version : ℕ) → 1 ≤ version → version ≤ 3 → Encodes false (capabilities_response version) (caps_response_bytes version)
unfolding tight
caps_response_encoded version h k = capabilities_response_is 0 version (omega arith) h k (caps_response_tight version)

pub caps_request_1_encoded : (charges : Charges) → Encodes true (capabilities_request 1 no_charges) (caps_request_bytes 1 charges)
unfolding caps_request_bytes tight
caps_request_1_encoded charges = capabilities_1_is 0 (omega arith) (caps_request_tight 1 charges)

pub caps_request_encoded :
    (version : ℕ) (charges : Charges) → eqb version 1 ≡ false → 2 ≤ version → version ≤ 3 → SmallCharges charges
    → Encodes true (capabilities_request version charges) (caps_request_bytes version charges)
unfolding tight
caps_request_encoded version charges e h k small =
    capabilities_is 0 version charges (omega arith) h k small (rw e at (caps_request_tight version charges))
