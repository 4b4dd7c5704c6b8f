-- An encoding is loose, as strict reading finds it, exactly if a number or Length in it is wide or Sp is not 0, and else it is the
-- narrowest.
-- Assumes nothing.
use Prim.Native.Nat.{ℕ, ◌+◌, ◌/◌, ◌%◌, ◌≤◌}
use native.Mathlib.Omega.{arith}
use mathlib.Core.Path.{◌≡◌, refl, sym, ap, ◌∙◌}
use mathlib.Core.Bool.{Bool, true, false, cond, not, ◌||◌}
use mathlib.Core.List.{List, [], ◌∷◌, ◌++◌}
use mathlib.Core.Logic.{◌⊎◌, inl, inr, ◌≢◌}
use borrow.Author.Tests.{lt-ltb, le-ltb, ltb-true, ltb-false, eq-eqb, ne_eqb, eqb-true, not-false}
use lib.Dec.{ltb, eqb}
use lib.ListN.{get_or}
use Rattle.paper.specs.Commands.{CREATE, DATA_FIRST, DATA, CLOSE, CAPABILITIES}
use Rattle.lists.proofs.Cases.{true_not_false, neither}
use Rattle.numbers.specs.Numbers.{bytes_of, width_of, code_for, narrowest, narrow_bytes}
use Rattle.numbers.specs.Status.{status_bytes}
use Rattle.numbers.proofs.Widths.{width_le, code_le, wide_in, not_wide}
use Rattle.reading.specs.Grammar.{Value, create_request_law, create_response_law, data_first_law, data_block, close}
use Rattle.reading.specs.Grammar.{capabilities_request, capabilities_response, InWidth, first_byte, carrying}
use Rattle.reading.specs.Grammar.{charge_bytes, versioned, Encodes}
use Rattle.reading.specs.Grammar.{create_request_is, create_response_is, data_first_is, data_is, close_is}
use Rattle.reading.specs.Grammar.{capabilities_1_is, capabilities_is, capabilities_response_is}
use Rattle.reading.specs.Strict.{has_sp, sp_set, loose_after, loose_numbered, loose_by, loose}
use Rattle.reading.specs.Tight.{Wide, LooseIn}
use Rattle.reading.proofs.Heads.{head_in, length_head_in}
use Rattle.reading.proofs.Judged.{loose_request, loose_first, loose_sp}

-- ---- what is loose in an encoding

pub wider : ℕ → ℕ → Bool
wider code number = ltb (narrowest number) (width_of code)

pub set : ℕ → Bool
set sp = not (eqb sp 0)

abbrev pub loose_in : {fromServer : Bool} {v : Value} {bytes : List ℕ} → Encodes fromServer v bytes → Bool
loose_in (create_request_is code number pri name k p z e) = wider code number
loose_in (create_response_is code sp number status k p z e) = wider code number || set sp
loose_in (data_first_is dir code lengthCode number len block k q e) = wider code number || wider lengthCode len
loose_in (data_is dir code sp number block k p e) = wider code number || set sp
loose_in (close_is dir code sp number k p e) = wider code number || set sp
loose_in (capabilities_1_is sp p e) = set sp
loose_in (capabilities_is sp version charges p h k z e) = set sp
loose_in (capabilities_response_is sp version p h k e) = set sp

-- a PDU that carries a number
module _ (fromServer : Bool) (code cmd middle number : ℕ) (rest : List ℕ) (k : InWidth code number) (m : middle ≤ 3) where
  carried : 1 ≤ cmd → cmd ≤ 4
      → loose fromServer (carrying code cmd middle number rest)
      ≡ loose_after fromServer (carrying code cmd middle number rest) cmd middle (wider code number) (1 + width_of code)
  unfolding loose loose_by loose_numbered wider
  carried c1 c4 =
      let g = k.good in
      let first = first_byte cmd middle code in
      let e1 : first / 16 ≡ cmd = omega arith in
      let e2 : first / 4 % 4 ≡ middle = omega arith in
      let e3 : first % 4 ≡ code = omega arith in
      let n : cmd ≡ CAPABILITIES → ⊥ = λ e. omega arith in
      let w = wide_in (first ∷ []) rest (width_of code) number 1 refl (width_le code) k.holds in
      rw (e1, e2, e3, ne_eqb cmd CAPABILITIES n, w)

capable : (fromServer : Bool) (sp version : ℕ) (rest : List ℕ) → sp ≤ 3 → loose fromServer (versioned sp version rest) ≡ set sp
unfolding loose loose_by sp_set has_sp set
capable fromServer sp version rest m =
    let first = first_byte CAPABILITIES sp 0 in
    let e1 : first / 16 ≡ CAPABILITIES = omega arith in
    let e2 : first / 4 % 4 ≡ sp = omega arith in
    rw (e1, e2) refl

pub loose_is : (fromServer : Bool) (v : Value) (bytes : List ℕ) (e : Encodes fromServer v bytes) → loose fromServer bytes ≡ loose_in e
unfolding set wider head_in has_sp
loose_is fromServer v bytes (create_request_is code number pri name k p z e) =
    rw e (carried true code CREATE pri number _ k p (omega arith) (omega arith) ∙ loose_request _ _ _ _)
loose_is fromServer v bytes (create_response_is code sp number status k p z e) =
    rw e (carried false code CREATE sp number _ k p (omega arith) (omega arith) ∙ loose_sp _ _ _ _ false CREATE refl refl)
loose_is fromServer v bytes (data_first_is dir code lengthCode number len block k q e) =
    let g = q.good in
    rw e (carried dir code DATA_FIRST lengthCode number _ k (omega arith) (omega arith) (omega arith) ∙ loose_first _ _ _ _ dir
    ∙ ap (λ (b : Bool). wider code number || b)
    (wide_in (head_in code DATA_FIRST lengthCode number) block (width_of lengthCode) len (1 + width_of code)
    (length_head_in code DATA_FIRST lengthCode number) (width_le lengthCode) q.holds))
loose_is fromServer v bytes (data_is dir code sp number block k p e) =
    rw e (carried dir code DATA sp number _ k p (omega arith) (omega arith) ∙ loose_sp _ _ _ _ dir DATA refl refl)
loose_is fromServer v bytes (close_is dir code sp number k p e) =
    rw e (carried dir code CLOSE sp number _ k p (omega arith) (omega arith) ∙ loose_sp _ _ _ _ dir CLOSE refl refl)
loose_is fromServer v bytes (capabilities_1_is sp p e) = rw e (capable true sp 1 _ p)
loose_is fromServer v bytes (capabilities_is sp version charges p h k z e) = rw e (capable true sp version _ p)
loose_is fromServer v bytes (capabilities_response_is sp version p h k e) = rw e (capable false sp version _ p)

-- ---- in words: a wide number or Length, or Sp not 0

is_wide : (code number : ℕ) → wider code number ≡ true → Wide code number
unfolding wider
is_wide code number h = ltb-true (narrowest number) (width_of code) h

wide_is : (code number : ℕ) → Wide code number → wider code number ≡ true
unfolding wider
wide_is code number h = lt-ltb (narrowest number) (width_of code) h

is_set : (sp : ℕ) → set sp ≡ true → sp ≢ 0
unfolding set
is_set sp h e = true_not_false (sym (rw (eq-eqb sp 0 e) at h))

set_is : (sp : ℕ) → sp ≢ 0 → set sp ≡ true
unfolding set
set_is sp h = rw (ne_eqb sp 0 h)

either : (a b : Bool) {A B : Type 0} → (a ≡ true → A) → (b ≡ true → B) → (a || b) ≡ true → A ⊎ B
either true b f g h = inl (f refl)
either false b f g h = inr (g h)

or_true : (a b : Bool) {A B : Type 0} → (A → a ≡ true) → (B → b ≡ true) → A ⊎ B → (a || b) ≡ true
or_true a b f g (inl x) = rw (f x)
or_true true b f g (inr y) = refl
or_true false b f g (inr y) = g y

pub is_loose : {fromServer : Bool} {v : Value} {bytes : List ℕ} (e : Encodes fromServer v bytes) → loose_in e ≡ true → LooseIn e
is_loose (create_request_is code number pri name k p z e) h = is_wide code number h
is_loose (create_response_is code sp number status k p z e) h = either _ _ (is_wide code number) (is_set sp) h
is_loose (data_first_is dir code lengthCode number len block k q e) h = either _ _ (is_wide code number) (is_wide lengthCode len) h
is_loose (data_is dir code sp number block k p e) h = either _ _ (is_wide code number) (is_set sp) h
is_loose (close_is dir code sp number k p e) h = either _ _ (is_wide code number) (is_set sp) h
is_loose (capabilities_1_is sp p e) h = is_set sp h
is_loose (capabilities_is sp version charges p h k z e) s = is_set sp s
is_loose (capabilities_response_is sp version p h k e) s = is_set sp s

pub loose_if : {fromServer : Bool} {v : Value} {bytes : List ℕ} (e : Encodes fromServer v bytes) → LooseIn e → loose_in e ≡ true
loose_if (create_request_is code number pri name k p z e) h = wide_is code number h
loose_if (create_response_is code sp number status k p z e) h = or_true _ _ (wide_is code number) (set_is sp) h
loose_if (data_first_is dir code lengthCode number len block k q e) h = or_true _ _ (wide_is code number) (wide_is lengthCode len) h
loose_if (data_is dir code sp number block k p e) h = or_true _ _ (wide_is code number) (set_is sp) h
loose_if (close_is dir code sp number k p e) h = or_true _ _ (wide_is code number) (set_is sp) h
loose_if (capabilities_1_is sp p e) h = set_is sp h
loose_if (capabilities_is sp version charges p h k z e) s = set_is sp s
loose_if (capabilities_response_is sp version p h k e) s = set_is sp s

-- ---- where nothing is loose the encoding is the narrowest, and the other way round

abbrev pub narrowly : ℕ → ℕ → ℕ → List ℕ → List ℕ
narrowly cmd middle number rest = carrying (code_for number) cmd middle number rest

-- the one encoding of a value in the narrowest widths with Sp 0
unfoldable pub tight : Value → List ℕ
tight (create_request_law number pri name) = narrowly CREATE pri number (name ++ (0 ∷ []))
tight (create_response_law number status) = narrowly CREATE 0 number (status_bytes status)
tight (data_first_law number len block) = narrowly DATA_FIRST (code_for len) number (narrow_bytes len ++ block)
tight (data_block number block) = narrowly DATA 0 number block
tight (close number) = narrowly CLOSE 0 number []
tight (capabilities_request version charges) = versioned 0 version (cond (eqb version 1) [] (charge_bytes charges))
tight (capabilities_response version) = versioned 0 version []

narrow : (code number : ℕ) → InWidth code number → wider code number ≡ false → code ≡ code_for number
unfolding wider
narrow code number k h = not_wide number code k.good k.holds (ltb-false (narrowest number) (width_of code) h)

clear : (sp : ℕ) → set sp ≡ false → sp ≡ 0
unfolding set
clear sp h = eqb-true sp 0 (not-false (eqb sp 0) h)

carried_narrow : (code cmd middle sp number : ℕ) (rest : List ℕ) → code ≡ code_for number → middle ≡ sp
    → carrying code cmd middle number rest ≡ narrowly cmd sp number rest
carried_narrow code cmd middle sp number rest p q = rw (p, q)

pub is_tight : {fromServer : Bool} {v : Value} {bytes : List ℕ} (e : Encodes fromServer v bytes) → loose_in e ≡ false → bytes ≡ tight v
unfolding tight narrow_bytes narrowest
is_tight (create_request_is code number pri name k p z e) h = e ∙ carried_narrow code CREATE pri pri number _ (narrow code number k h) refl
is_tight (create_response_is code sp number status k p z e) h =
    let both = neither _ _ h in
    e ∙ carried_narrow code CREATE sp 0 number _ (narrow code number k both.0) (clear sp both.1)
is_tight (data_first_is dir code lengthCode number len block k q e) h =
    let both = neither _ _ h in
    let c = narrow lengthCode len q both.1 in
    e ∙ carried_narrow code DATA_FIRST lengthCode (code_for len) number _ (narrow code number k both.0) c
    ∙ ap (λ (d : ℕ). carrying (code_for number) DATA_FIRST (code_for len) number (bytes_of (width_of d) len ++ block)) c
is_tight (data_is dir code sp number block k p e) h =
    let both = neither _ _ h in
    e ∙ carried_narrow code DATA sp 0 number _ (narrow code number k both.0) (clear sp both.1)
is_tight (close_is dir code sp number k p e) h =
    let both = neither _ _ h in
    e ∙ carried_narrow code CLOSE sp 0 number _ (narrow code number k both.0) (clear sp both.1)
is_tight (capabilities_1_is sp p e) h = e ∙ ap (λ (s : ℕ). versioned s 1 []) (clear sp h)
is_tight (capabilities_is sp version charges p h k z e) s =
    let n : version ≡ 1 → ⊥ = λ e. omega arith in
    e ∙ rw (ne_eqb version 1 n, clear sp s)
is_tight (capabilities_response_is sp version p h k e) s = e ∙ ap (λ (x : ℕ). versioned x version []) (clear sp s)

narrow_is : (code number : ℕ) → code ≡ code_for number → wider code number ≡ false
unfolding wider narrowest
narrow_is code number h = rw h (le-ltb (width_of (code_for number)) (width_of (code_for number)) (omega arith))

clear_is : (sp : ℕ) → sp ≡ 0 → set sp ≡ false
unfolding set
clear_is sp h = rw h refl

same_first : {bytes xs ys : List ℕ} {x y : ℕ} → bytes ≡ x ∷ xs → bytes ≡ y ∷ ys → x ≡ y
same_first p q = ap (λ (l : List ℕ). get_or l 0 0) (sym p ∙ q)

-- the codes of an encoding that begins as the narrowest does
same_codes : (cmd middle code m c : ℕ) → code ≤ 2 → c ≤ 2 → first_byte cmd middle code ≡ first_byte cmd m c → (middle ≡ m) × (code ≡ c)
same_codes cmd middle code m c h k e = (omega arith, omega arith)

clear_capabilities : (sp : ℕ) → first_byte CAPABILITIES sp 0 ≡ first_byte CAPABILITIES 0 0 → set sp ≡ false
clear_capabilities sp e = clear_is sp (same_codes CAPABILITIES sp 0 0 0 (omega arith) (omega arith) e).0

pub tight_if : {fromServer : Bool} {v : Value} {bytes : List ℕ} (e : Encodes fromServer v bytes) → bytes ≡ tight v → loose_in e ≡ false
unfolding tight
tight_if (create_request_is code number pri name k p z e) t =
    narrow_is code number (same_codes CREATE pri code pri _ k.good (code_le number) (same_first e t)).1
tight_if (create_response_is code sp number status k p z e) t =
    let same = same_codes CREATE sp code 0 _ k.good (code_le number) (same_first e t) in
    rw (narrow_is code number same.1) (clear_is sp same.0)
tight_if (data_first_is dir code lengthCode number len block k q e) t =
    let same = same_codes DATA_FIRST lengthCode code _ _ k.good (code_le number) (same_first e t) in
    rw (narrow_is code number same.1) (narrow_is lengthCode len same.0)
tight_if (data_is dir code sp number block k p e) t =
    let same = same_codes DATA sp code 0 _ k.good (code_le number) (same_first e t) in
    rw (narrow_is code number same.1) (clear_is sp same.0)
tight_if (close_is dir code sp number k p e) t =
    let same = same_codes CLOSE sp code 0 _ k.good (code_le number) (same_first e t) in
    rw (narrow_is code number same.1) (clear_is sp same.0)
tight_if (capabilities_1_is sp p e) t = clear_capabilities sp (same_first e t)
tight_if (capabilities_is sp version charges p h k z e) t = clear_capabilities sp (same_first e t)
tight_if (capabilities_response_is sp version p h k e) t = clear_capabilities sp (same_first e t)
