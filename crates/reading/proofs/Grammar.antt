-- Reading accepts exactly the language: every encoding is read as the values that it says, kind by kind, and what reading
-- answers is an encoding, stage by stage.
-- Assumes nothing.
use Prim.Native.Nat.{ℕ, zero, suc, ◌+◌, ◌-◌, ◌/◌, ◌%◌, ◌^◌, ◌≤◌, ◌<◌}
use native.Mathlib.Omega.{arith}
use mathlib.Core.Path.{◌≡◌, refl, sym, ap, ◌∙◌, subst}
use mathlib.Core.Bool.{Bool, true, false, cond, not}
use mathlib.Core.List.{List, [], ◌∷◌, ◌++◌, append-nil}
use borrow.Author.Tests.{le-ltb, lt-leb, ltb-true, ltb-false, leb-false, ne_eqb, eqb-true, eqb-false, not-false}
use lib.Dec.{eqb, ltb, leb, lit<}
use lib.IntN.{ℤ}
use lib.ListN.{length, take, drop, get_or, length-append, length-take, length-drop, take-append-drop, drop_of_length-le}
use lib.Seq.{take_all, take_at, drop_at, drop-cons, drop-drop, get_or-drop}
use mir.Syntax.{w32}
use mir.Val.{SFits}
use Rattle.paper.specs.Sizes.{PDU_MAX}
use Rattle.paper.specs.Commands.{CREATE, DATA_FIRST, DATA, CLOSE, CAPABILITIES}
use Rattle.paper.specs.declared.Refusal.TheVariants.{BadField}
use Rattle.lists.specs.Bytes.{is_zero}
use Rattle.lists.specs.Places.{place, here_or}
use Rattle.lists.proofs.Cases.{choice}
use Rattle.lists.proofs.Laid.{to_end}
use Rattle.lists.proofs.Places.{place_behind}
use Rattle.numbers.specs.Numbers.{Bytes, little, bytes_of, value_of, value_at, width_of}
use Rattle.numbers.specs.Status.{status_of, status_bytes, signed_of}
use Rattle.numbers.proofs.Widths.{length_bytes_of, width_le, value_in, value_below, little_below, bytes_of_little}
use Rattle.numbers.proofs.Signs.{length_status, status_built, status_split}
use Rattle.reading.specs.Reading.{read_pdu, by_command, numbered, bad_length_width, after_number, create_request}
use Rattle.reading.specs.Reading.{named_for, create_response, data_first, closing, capabilities, bad_version}
use Rattle.reading.specs.Reading.{by_version, charged}
use Rattle.reading.specs.Said.{bytes_at}
use Rattle.reading.specs.declared.Charges.{Charges}
use Rattle.reading.specs.declared.Pdu.{Pdu}
use Rattle.reading.specs.declared.Pdu.TheVariants.{CreateRequest, CreateResponse, DataFirst, Data, Close}
use Rattle.reading.specs.declared.Pdu.TheVariants.{CapsRequest, CapsResponse, Refused}
use Rattle.paper.proofs.Sizes.{twelve_fit}
use Rattle.reading.proofs.Placed.{good_version}
use Rattle.reading.proofs.Heads.{head_in, length_head_in, read_head}
use Rattle.reading.specs.Grammar.{Value, create_request_law, create_response_law, data_first_law, data_block, close}
use Rattle.reading.specs.Grammar.{capabilities_request, capabilities_response, values, meant}
use Rattle.reading.specs.Grammar.{read_as, InWidth, first_byte, carrying, NoZero, SmallCharges, no_charges}
use Rattle.reading.specs.Grammar.{charge_bytes, versioned, Encodes, create_request_is, create_response_is}
use Rattle.reading.specs.Grammar.{data_first_is, data_is, close_is, capabilities_1_is, capabilities_is}
use Rattle.reading.specs.Grammar.{capabilities_response_is, Exactly}

-- ---- every encoding is read

-- a PDU that carries a number
module _ (code cmd middle number : ℕ) (rest : List ℕ) where
  pub length_carried : length (carrying code cmd middle number rest) ≡ 1 + width_of code + length rest
  length_carried = let l = length-append (bytes_of (width_of code) number) rest in let q = length_bytes_of (width_of code) number in omega arith

  behind_carried : drop (1 + width_of code) (carrying code cmd middle number rest) ≡ rest
  unfolding head_in
  behind_carried = drop_at (head_in code cmd middle number) rest (1 + width_of code) (length_head_in code cmd middle number)

  -- once its number was read
  pub read_carried :
      (fromServer : Bool) → InWidth code number → 1 ≤ cmd → cmd ≤ 4 → middle ≤ 3 → bad_length_width cmd middle ≡ false
      → length (carrying code cmd middle number rest) ≤ PDU_MAX
      → read_pdu fromServer (carrying code cmd middle number rest) ≡ after_number fromServer (carrying code cmd middle number rest) cmd middle number (1 + width_of code)
  unfolding head_in
  read_carried fromServer k c1 c4 m b short = read_head fromServer code cmd middle number rest (record { good_code = k.good; from_1 = c1; to_4 = c4; two_bits = m; good_length = b; holds = k.holds; short_enough = short })

meant_at :
    (pdu : List ℕ) (at : ℕ) (rest : List ℕ) → drop at pdu ≡ rest → (len : ℕ) → len ≡ length rest
    → bytes_at pdu (record { at = at; len = len }) ≡ rest
unfolding bytes_at
meant_at pdu at rest d len e = rw d (take_all len rest (omega arith))

front_at :
    (pdu : List ℕ) (at : ℕ) (front rest : List ℕ) → drop at pdu ≡ front ++ rest
    → bytes_at pdu (record { at = at; len = length front }) ≡ front
unfolding bytes_at
front_at pdu at front rest d = rw d (take_at front rest (length front) refl)

close_read :
    (fromServer : Bool) (code sp number : ℕ) → InWidth code number → sp ≤ 3 → length (carrying code CLOSE sp number []) ≤ PDU_MAX
    → read_as fromServer (carrying code CLOSE sp number []) ≡ values (close number)
unfolding read_as after_number closing bad_length_width
close_read fromServer code sp number k s short =
    let l = length_carried code CLOSE sp number [] in
    rw (read_carried code CLOSE sp number [] fromServer k (omega arith) (omega arith) s refl short)
    (simp (le-ltb (1 + width_of code) (length (carrying code CLOSE sp number [])) (omega arith)))

data_read :
    (fromServer : Bool) (code sp number : ℕ) (block : List ℕ) → InWidth code number → sp ≤ 3
    → length (carrying code DATA sp number block) ≤ PDU_MAX
    → read_as fromServer (carrying code DATA sp number block) ≡ values (data_block number block)
unfolding read_as after_number bad_length_width
data_read fromServer code sp number block k s short =
    let l = length_carried code DATA sp number block in
    rw (read_carried code DATA sp number block fromServer k (omega arith) (omega arith) s refl short)
    (ap (λ (x : List ℕ). values (data_block number x)) (meant_at (carrying code DATA sp number block) (1 + width_of code) block (behind_carried code DATA sp number block) _ (omega arith)))

good_code : (lengthCode : ℕ) → lengthCode ≤ 2 → bad_length_width DATA_FIRST lengthCode ≡ false
unfolding bad_length_width
good_code lengthCode h =
    let n : lengthCode ≡ 3 → ⊥ = λ e. omega arith in
    simp (ne_eqb lengthCode 3 n)

first_read :
    (fromServer : Bool) (code lengthCode number len : ℕ) (block : List ℕ) → InWidth code number → InWidth lengthCode len
    → length (carrying code DATA_FIRST lengthCode number (bytes_of (width_of lengthCode) len ++ block)) ≤ PDU_MAX
    → read_as fromServer (carrying code DATA_FIRST lengthCode number (bytes_of (width_of lengthCode) len ++ block)) ≡ values (data_first_law number len block)
unfolding read_as after_number data_first head_in
first_read fromServer code lengthCode number len block k q short =
    let g = q.good in
    let w = width_of lengthCode in
    let rest = bytes_of w len ++ block in
    let pdu = carrying code DATA_FIRST lengthCode number rest in
    let at = 1 + width_of code in
    let l = length_carried code DATA_FIRST lengthCode number rest in
    let lb = length_bytes_of w len in
    let la = length-append (bytes_of w len) block in
    let v : value_at pdu at w ≡ len = value_in (head_in code DATA_FIRST lengthCode number) block w len at (length_head_in code DATA_FIRST lengthCode number) (width_le lengthCode) q.holds in
    let dd : drop (at + w) pdu ≡ block = sym (drop-drop w at pdu) ∙ ap (drop w) (behind_carried code DATA_FIRST lengthCode number rest) ∙ drop_at (bytes_of w len) block w lb in
    rw (read_carried code DATA_FIRST lengthCode number rest fromServer k (omega arith) (omega arith) (omega arith) (good_code lengthCode g) short)
    (rw (le-ltb (length pdu) (at + w) (omega arith)) (rw (v, meant_at pdu (at + w) block dd (length pdu - (at + w)) (omega arith))))

status_read :
    (code sp number : ℕ) (status : ℤ) → InWidth code number → sp ≤ 3 → SFits w32 status
    → length (carrying code CREATE sp number (status_bytes status)) ≤ PDU_MAX
    → read_as false (carrying code CREATE sp number (status_bytes status)) ≡ values (create_response_law number status)
unfolding read_as after_number create_response bad_length_width
status_read code sp number status k s fits short =
    let rest = status_bytes status in
    let pdu = carrying code CREATE sp number rest in
    let at = 1 + width_of code in
    let l = length_carried code CREATE sp number rest in
    let four = length_status status in
    let all : take 4 rest ≡ rest = take_all 4 rest (omega arith) in
    rw (read_carried code CREATE sp number rest false k (omega arith) (omega arith) s refl short)
    (rw (le-ltb (length pdu) (at + 4) (omega arith), le-ltb (at + 4) (length pdu) (omega arith), behind_carried code CREATE sp number rest, all, status_built status fits))

no_zero : (name : List ℕ) → NoZero name → place is_zero name ≡ length name
unfolding place
no_zero [] z = refl
no_zero (b ∷ name) z = rw (ne_eqb b 0 z.0, no_zero name z.1)

-- a name whose first zero isn't there has none
pub zero_free : (name : List ℕ) → length name ≤ place is_zero name → NoZero name
unfolding place
zero_free [] h = tt
zero_free (b ∷ bs) h = go (eqb b 0) refl h (zero_free bs)
  where
    go :
        (t : Bool) → eqb b 0 ≡ t → suc (length bs) ≤ here_or t (place is_zero bs) → (length bs ≤ place is_zero bs → NoZero bs)
        → NoZero (b ∷ bs)
    go true e h later = absurd (omega arith)
    go false e h later = (eqb-false b 0 e, later (omega arith))

request_read :
    (code number pri : ℕ) (name : List ℕ) → InWidth code number → pri ≤ 3 → NoZero name
    → length (carrying code CREATE pri number (name ++ (0 ∷ []))) ≤ PDU_MAX
    → read_as true (carrying code CREATE pri number (name ++ (0 ∷ []))) ≡ values (create_request_law number pri name)
unfolding read_as after_number create_request named_for bad_length_width
request_read code number pri name k s z short =
    let rest = name ++ (0 ∷ []) in
    let pdu = carrying code CREATE pri number rest in
    let at = 1 + width_of code in
    let l = length_carried code CREATE pri number rest in
    let la = length-append name (0 ∷ []) in
    let d = behind_carried code CREATE pri number rest in
    let found : place is_zero rest ≡ length name = place_behind is_zero name 0 [] (no_zero name z) refl in
    let left : length pdu - at ≡ length name + 1 = omega arith in
    let named : bytes_at pdu (record { at = at; len = length name }) ≡ name = front_at pdu at name (0 ∷ []) d in
    rw (read_carried code CREATE pri number rest true k (omega arith) (omega arith) s refl short)
    (rw (d, left, found, lt-leb (length name + 1) (length name) (omega arith), le-ltb (length name + 1) (length name + 1) (omega arith), named))

-- ---- Capabilities

past_version :
    (fromServer : Bool) (sp version : ℕ) (rest : List ℕ) → sp ≤ 3 → version < 65536 → length rest ≤ 8
    → read_pdu fromServer (versioned sp version rest) ≡ by_version fromServer (versioned sp version rest) version
unfolding read_pdu by_command capabilities
past_version fromServer sp version rest m h k =
    let first = first_byte CAPABILITIES sp 0 in
    let behind = bytes_of 2 version ++ rest in
    let l : length behind ≡ 2 + length rest = rw (length-append, length_bytes_of) in
    let v : value_at (first ∷ 0 ∷ behind) 2 2 ≡ version = value_in (first ∷ 0 ∷ []) rest 2 version 2 refl (omega arith) h in
    let n : suc (suc (length behind)) ≡ 0 → ⊥ = λ e. omega arith in
    let e1 : first / 16 ≡ 5 = omega arith in
    let e2 : first % 4 ≡ 0 = omega arith in
    simp (ne_eqb (suc (suc (length behind))) 0 n, le-ltb PDU_MAX (suc (suc (length behind))) (omega (arith, twelve_fit)), e1, e2, le-ltb (suc (suc (length behind))) 2 (omega arith), le-ltb (suc (suc (length behind))) 4 (omega arith), v)

length_versioned : (sp version : ℕ) (rest : List ℕ) → length (versioned sp version rest) ≡ 4 + length rest
length_versioned sp version rest = let l = length-append (bytes_of 2 version) rest in let q = length_bytes_of 2 version in omega arith

response_read :
    (sp version : ℕ) → sp ≤ 3 → 1 ≤ version → version ≤ 3
    → read_as false (versioned sp version []) ≡ values (capabilities_response version)
unfolding read_as by_version bad_version
response_read sp version m h k =
    let l = length_versioned sp version [] in
    rw (past_version false sp version [] m (omega arith) (omega arith))
    (rw (le-ltb version 1 h, le-ltb 3 version k, le-ltb 4 (length (versioned sp version [])) (omega arith)))

first_version : (sp : ℕ) → sp ≤ 3 → read_as true (versioned sp 1 []) ≡ values (capabilities_request 1 no_charges)
unfolding read_as by_version bad_version charged
first_version sp m =
    let l = length_versioned sp 1 [] in
    rw (past_version true sp 1 [] m (omega arith) (omega arith))
    (rw (le-ltb 4 (length (versioned sp 1 [])) (omega arith)))

length_charges : (c : Charges) → length (charge_bytes c) ≡ 8
length_charges c = simp (length-append, length_bytes_of)

pub same_charges :
    {a b c d e f g h : ℕ} → a ≡ e → b ≡ f → c ≡ g → d ≡ h
    → ◌≡◌ {A = Charges} (record { class0 = a; class1 = b; class2 = c; class3 = d }) (record { class0 = e; class1 = f; class2 = g; class3 = h })
same_charges p q r s = cc

module _ (sp version : ℕ) (c : Charges) (z : SmallCharges c) where
  pdu : List ℕ
  pdu = versioned sp version (charge_bytes c)

  head0 : List ℕ
  head0 = first_byte CAPABILITIES sp 0 ∷ 0 ∷ bytes_of 2 version

  read_charges : ◌≡◌ {A = Charges} (record { class0 = value_at pdu 4 2; class1 = value_at pdu 6 2; class2 = value_at pdu 8 2; class3 = value_at pdu 10 2 }) c
  unfolding pdu head0 bytes_of
  read_charges =
      same_charges
      (value_in head0 (bytes_of 2 c.class1 ++ (bytes_of 2 c.class2 ++ bytes_of 2 c.class3)) 2 c.class0 4 refl (omega arith) z.small0)
      (value_in (head0 ++ bytes_of 2 c.class0) (bytes_of 2 c.class2 ++ bytes_of 2 c.class3) 2 c.class1 6 refl (omega arith) z.small1)
      (value_in (head0 ++ (bytes_of 2 c.class0 ++ bytes_of 2 c.class1)) (bytes_of 2 c.class3) 2 c.class2 8 refl (omega arith) z.small2)
      (value_in (head0 ++ (bytes_of 2 c.class0 ++ (bytes_of 2 c.class1 ++ bytes_of 2 c.class2))) [] 2 c.class3 10 refl (omega arith) z.small3)

  charged_read :
      sp ≤ 3 → 2 ≤ version → version ≤ 3 → read_as true (versioned sp version (charge_bytes c)) ≡ values (capabilities_request version c)
  unfolding read_as by_version bad_version charged pdu
  charged_read m h k =
      let lc = length_charges c in
      let l = length_versioned sp version (charge_bytes c) in
      let n : version ≡ 1 → ⊥ = λ e. omega arith in
      rw (past_version true sp version (charge_bytes c) m (omega arith) (omega arith))
      (rw (le-ltb version 1 (omega arith), le-ltb 3 version k, ne_eqb version 1 n, le-ltb (length (versioned sp version (charge_bytes c))) 12 (omega arith), le-ltb 12 (length (versioned sp version (charge_bytes c))) (omega arith), read_charges))

pub every_encoding :
    (fromServer : Bool) (v : Value) (bytes : List ℕ) → Encodes fromServer v bytes → length bytes ≤ PDU_MAX
    → read_as fromServer bytes ≡ values v
every_encoding fromServer v bytes (create_request_is code number pri name k p z e) short = rw e (request_read code number pri name k p z (rw e at short))
every_encoding fromServer v bytes (create_response_is code sp number status k p z e) short = rw e (status_read code sp number status k p z (rw e at short))
every_encoding fromServer v bytes (data_first_is dir code lengthCode number len block k q e) short = rw e (first_read dir code lengthCode number len block k q (rw e at short))
every_encoding fromServer v bytes (data_is dir code sp number block k p e) short = rw e (data_read dir code sp number block k p (rw e at short))
every_encoding fromServer v bytes (close_is dir code sp number k p e) short = rw e (close_read dir code sp number k p (rw e at short))
every_encoding fromServer v bytes (capabilities_1_is sp p e) short = rw e (first_version sp p)
every_encoding fromServer v bytes (capabilities_is sp version charges p h k z e) short = rw e (charged_read sp version charges z p h k)
every_encoding fromServer v bytes (capabilities_response_is sp version p h k e) short = rw e (response_read sp version p h k)

-- ---- only encodings are read

-- what reading answers is an encoding of what it means
abbrev Exact : Bool → List ℕ → Pdu → Type 0
Exact fromServer pdu (CreateRequest number class name) = Encodes fromServer (create_request_law number class (bytes_at pdu name)) pdu
Exact fromServer pdu (CreateResponse number status) = Encodes fromServer (create_response_law number status) pdu
Exact fromServer pdu (DataFirst number len block) = Encodes fromServer (data_first_law number len (bytes_at pdu block)) pdu
Exact fromServer pdu (Data number block) = Encodes fromServer (data_block number (bytes_at pdu block)) pdu
Exact fromServer pdu (Close number) = Encodes fromServer (close number) pdu
Exact fromServer pdu (CapsRequest version charges) = Encodes fromServer (capabilities_request version charges) pdu
Exact fromServer pdu (CapsResponse version) = Encodes fromServer (capabilities_response version) pdu
Exact fromServer pdu (Refused why) = Unit {0}

bytes_take : (n : ℕ) (l : List ℕ) → Bytes l → Bytes (take n l)
bytes_take zero l b i = lit< tt
bytes_take (suc n) [] b i = lit< tt
bytes_take (suc n) (x ∷ l) b zero = b 0
bytes_take (suc n) (x ∷ l) b (suc i) = bytes_take n l (λ j. b (suc j)) i

bytes_drop : (n : ℕ) (l : List ℕ) → Bytes l → Bytes (drop n l)
bytes_drop n l b i = rw get_or-drop (b (n + i))

-- a number's bytes and what is behind them
field : (l : List ℕ) (at w : ℕ) → Bytes l → w ≤ 4 → at + w ≤ length l → drop at l ≡ bytes_of w (value_at l at w) ++ drop (at + w) l
unfolding value_at value_of
field l at w b k h =
    let f = take w (drop at l) in
    let lf : length f ≡ w = simp (length-take, length-drop) (omega arith) in
    let t : take 4 f ≡ f = take_all 4 f (omega arith) in
    let back : bytes_of w (little f) ≡ f = subst (λ (n : ℕ). bytes_of n (little f) ≡ f) lf (bytes_of_little f (bytes_take w (drop at l) (bytes_drop at l b))) in
    rw (t, back, ← drop-drop w at l) (sym (take-append-drop w (drop at l)))

whole_at : (l : List ℕ) (at : ℕ) → bytes_at l (record { at = at; len = length l - at }) ≡ drop at l
unfolding bytes_at
whole_at l at = to_end l at

nothing_at : (l : List ℕ) (at : ℕ) → length l ≤ at → drop at l ≡ []
nothing_at l at h = drop_of_length-le l h

-- a list whose first zero is its last
zero_last :
    (l : List ℕ) → place is_zero l < length l → length l ≤ place is_zero l + 1
    → (l ≡ take (place is_zero l) l ++ (0 ∷ [])) × NoZero (take (place is_zero l) l)
unfolding place
zero_last [] h k = absurd (omega arith)
zero_last (b ∷ bs) h k = go (eqb b 0) refl h k (λ h k. zero_last bs h k)
  where
    go :
        (t : Bool) → eqb b 0 ≡ t → here_or t (place is_zero bs) < suc (length bs) → suc (length bs) ≤ here_or t (place is_zero bs) + 1
        → (place is_zero bs < length bs → length bs ≤ place is_zero bs + 1 → (bs ≡ take (place is_zero bs) bs ++ (0 ∷ [])) × NoZero (take (place is_zero bs) bs))
        → (b ∷ bs ≡ take (here_or t (place is_zero bs)) (b ∷ bs) ++ (0 ∷ [])) × NoZero (take (here_or t (place is_zero bs)) (b ∷ bs))
    go true e h k ih = (rw (eqb-true b 0 e, sym (nothing_at bs 0 (omega arith))), tt)
    go false e h k ih = let r = ih (omega arith) (omega arith) in (ap (λ (x : List ℕ). b ∷ x) r.0, (eqb-false b 0 e, r.1))

status_fits : (rest : List ℕ) → length rest ≡ 4 → Bytes rest → SFits w32 (status_of rest)
unfolding status_of signed_of
status_fits rest l b =
    let w : little rest < 256 ^ 4 = rw (take_all 4 rest (omega arith)) at (little_below 4 rest b) in
    choice (SFits w32) (ltb (little rest) 2147483648) (λ e. record { sfits = ltb-true (little rest) 2147483648 e }) (λ e. record { sfits = omega (arith, ltb-false (little rest) 2147483648 e) })

module _ (pdu : List ℕ) (b : Bytes pdu) where
  module _ (code cmd middle : ℕ) (some : 1 ≤ length pdu) (first : get_or pdu 0 0 ≡ first_byte cmd middle code) (m : middle ≤ 3) (c : code ≤ 2) (room : 1 + width_of code ≤ length pdu) where
    unfoldable pub at : ℕ
    at = 1 + width_of code

    unfoldable pub number : ℕ
    number = value_at pdu 1 (width_of code)

    pub it_holds : InWidth code number
    unfolding number
    it_holds = record { good = c; holds = value_below pdu 1 (width_of code) (width_le code) b }

    pub carried : pdu ≡ carrying code cmd middle number (drop at pdu)
    unfolding number at
    carried = drop-cons pdu 0 0 some ∙ ap (λ (x : ℕ). x ∷ drop 1 pdu) first ∙ ap (λ (x : List ℕ). first_byte cmd middle code ∷ x) (field pdu 1 (width_of code) b (width_le code) room)

    carries_as : (rest : List ℕ) → drop at pdu ≡ rest → pdu ≡ carrying code cmd middle number rest
    carries_as rest e = carried ∙ ap (carrying code cmd middle number) e

  -- kind by kind, behind the number
  module _ (code middle : ℕ) (some : 1 ≤ length pdu) (m : middle ≤ 3) (c : code ≤ 2) (room : 1 + width_of code ≤ length pdu) where
    behind : ℕ
    behind = 1 + width_of code

    value : ℕ
    value = value_at pdu 1 (width_of code)

    data_exact :
        (fromServer : Bool) → get_or pdu 0 0 ≡ first_byte DATA middle code
        → Exact fromServer pdu (Data value (record { at = behind; len = length pdu - behind }))
    unfolding value behind at number
    data_exact fromServer first =
        data_is fromServer code middle value _ (it_holds code DATA middle some first m c room) m
        (carries_as code DATA middle some first m c room _ (sym (whole_at pdu behind)))

    close_exact : (fromServer : Bool) → get_or pdu 0 0 ≡ first_byte CLOSE middle code → Exact fromServer pdu (closing pdu value behind)
    unfolding value behind at number closing
    close_exact fromServer first =
        choice (Exact fromServer pdu) (ltb behind (length pdu)) (λ e. tt)
        (λ e. close_is fromServer code middle value (it_holds code CLOSE middle some first m c room) m
        (carries_as code CLOSE middle some first m c room [] (nothing_at pdu behind (ltb-false behind (length pdu) e))))

    first_exact :
        (fromServer : Bool) → middle ≤ 2 → get_or pdu 0 0 ≡ first_byte DATA_FIRST middle code
        → Exact fromServer pdu (data_first pdu value (width_of middle) behind)
    unfolding value behind at number data_first
    first_exact fromServer m2 first =
        choice (Exact fromServer pdu) (ltb (length pdu) (behind + width_of middle)) (λ e. tt)
        (λ e.
        let h = ltb-false (length pdu) (behind + width_of middle) e in
        let len = value_at pdu behind (width_of middle) in
        let f = field pdu behind (width_of middle) b (width_le middle) h in
        let g = whole_at pdu (behind + width_of middle) in
        data_first_is fromServer code middle value len _ (it_holds code DATA_FIRST middle some first m c room) (record { good = m2; holds = value_below pdu behind (width_of middle) (width_le middle) b })
        (carries_as code DATA_FIRST middle some first m c room _ (f ∙ ap (λ (x : List ℕ). bytes_of (width_of middle) len ++ x) (sym g))))

    status_exact : get_or pdu 0 0 ≡ first_byte CREATE middle code → Exact false pdu (create_response pdu value behind)
    unfolding value behind at number create_response
    status_exact first =
        choice (Exact false pdu) (ltb (length pdu) (behind + 4)) (λ e. tt)
        (λ e. choice (Exact false pdu) (ltb (behind + 4) (length pdu)) (λ f. tt)
        (λ f.
        let h = ltb-false (length pdu) (behind + 4) e in
        let k = ltb-false (behind + 4) (length pdu) f in
        let rest = drop behind pdu in
        let l : length rest ≡ 4 = simp length-drop (omega arith) in
        let t : take 4 rest ≡ rest = take_all 4 rest (omega arith) in
        let s : status_bytes (status_of rest) ≡ rest = status_split rest l (bytes_drop behind pdu b) in
        rw t (create_response_is code middle value (status_of rest) (it_holds code CREATE middle some first m c room) m (status_fits rest l (bytes_drop behind pdu b))
        (carries_as code CREATE middle some first m c room _ (sym s)))))

    request_exact : get_or pdu 0 0 ≡ first_byte CREATE middle code → Exact true pdu (create_request pdu value middle behind)
    unfolding value behind at number create_request named_for bytes_at
    request_exact first =
        let rest = drop behind pdu in
        let len = place is_zero rest in
        let l : length rest ≡ length pdu - behind = length-drop behind pdu in
        choice (Exact true pdu) (leb (length pdu - behind) len) (λ e. tt)
        (λ e. choice (Exact true pdu) (ltb (len + 1) (length pdu - behind)) (λ f. tt)
        (λ f.
        let z = zero_last rest (omega (arith, leb-false (length pdu - behind) len e)) (omega (arith, ltb-false (len + 1) (length pdu - behind) f)) in
        create_request_is code value middle (take len rest) (it_holds code CREATE middle some first m c room) m z.1
        (carries_as code CREATE middle some first m c room _ z.0)))

    create_exact :
        (fromServer : Bool) → get_or pdu 0 0 ≡ first_byte CREATE middle code
        → Exact fromServer pdu (cond fromServer (create_request pdu value middle behind) (create_response pdu value behind))
    create_exact true first = request_exact first
    create_exact false first = status_exact first

    good_width : (cmd : ℕ) → eqb cmd DATA_FIRST ≡ true → bad_length_width cmd middle ≡ false → middle ≤ 2
    unfolding bad_length_width
    good_width cmd e h = let q : eqb middle 3 ≡ false = rw e at h in omega (arith, eqb-false middle 3 q)

    after_exact :
        (fromServer : Bool) (cmd : ℕ) → 1 ≤ cmd → cmd ≤ 4 → bad_length_width cmd middle ≡ false → get_or pdu 0 0 ≡ first_byte cmd middle code
        → Exact fromServer pdu (after_number fromServer pdu cmd middle value behind)
    unfolding after_number
    after_exact fromServer cmd h k w first =
        choice (Exact fromServer pdu) (eqb cmd CREATE)
        (λ e. create_exact fromServer (first ∙ ap (λ (x : ℕ). first_byte x middle code) (eqb-true cmd CREATE e)))
        (λ e1. choice (Exact fromServer pdu) (eqb cmd DATA_FIRST)
        (λ e. first_exact fromServer (good_width cmd e w) (first ∙ ap (λ (x : ℕ). first_byte x middle code) (eqb-true cmd DATA_FIRST e)))
        (λ e2. choice (Exact fromServer pdu) (eqb cmd DATA)
        (λ e. data_exact fromServer (first ∙ ap (λ (x : ℕ). first_byte x middle code) (eqb-true cmd DATA e)))
        (λ e3.
        let four : cmd ≡ 4 = omega (arith, eqb-false cmd CREATE e1, eqb-false cmd DATA_FIRST e2, eqb-false cmd DATA e3) in
        close_exact fromServer (first ∙ ap (λ (x : ℕ). first_byte x middle code) four))))

  module _ (cmd middle code : ℕ) (some : 1 ≤ length pdu) (m : middle ≤ 3) (c : code ≤ 3) (first : get_or pdu 0 0 ≡ first_byte cmd middle code) where
    numbered_exact : (fromServer : Bool) → 1 ≤ cmd → cmd ≤ 4 → Exact fromServer pdu (numbered fromServer pdu cmd middle code)
    unfolding numbered value behind
    numbered_exact fromServer h k =
        choice (Exact fromServer pdu) (eqb code 3) (λ e. tt)
        (λ e. choice (Exact fromServer pdu) (bad_length_width cmd middle) (λ f. tt)
        (λ f. choice (Exact fromServer pdu) (ltb (length pdu) (1 + width_of code)) (λ g. tt)
        (λ g. after_exact code middle some m (omega (arith, eqb-false code 3 e)) (ltb-false (length pdu) (1 + width_of code) g) fromServer cmd h k f first)))

  -- ---- Capabilities
  module _ (sp : ℕ) (first : get_or pdu 0 0 ≡ first_byte CAPABILITIES sp 0) (m : sp ≤ 3) (pad : get_or pdu 1 0 ≡ 0) (four : 4 ≤ length pdu) where
    version : ℕ
    version = value_at pdu 2 2

    is_versioned : (rest : List ℕ) → drop 4 pdu ≡ rest → pdu ≡ versioned sp version rest
    unfolding version
    is_versioned rest e =
        drop-cons pdu 0 0 (omega arith) ∙ ap (λ (x : ℕ). x ∷ drop 1 pdu) first
        ∙ ap (λ (x : List ℕ). first_byte CAPABILITIES sp 0 ∷ x) (drop-cons pdu 1 0 (omega arith) ∙ ap (λ (x : ℕ). x ∷ drop 2 pdu) pad ∙ ap (λ (x : List ℕ). 0 ∷ x) (field pdu 2 2 b (omega arith) four ∙ ap (λ (x : List ℕ). bytes_of 2 (value_at pdu 2 2) ++ x) e))

    charges_are :
        length pdu ≡ 12
        → drop 4 pdu ≡ charge_bytes (record { class0 = value_at pdu 4 2; class1 = value_at pdu 6 2; class2 = value_at pdu 8 2; class3 = value_at pdu 10 2 })
    charges_are l =
        field pdu 4 2 b (omega arith) (omega arith)
        ∙ ap (λ (x : List ℕ). bytes_of 2 (value_at pdu 4 2) ++ x) (field pdu 6 2 b (omega arith) (omega arith)
        ∙ ap (λ (x : List ℕ). bytes_of 2 (value_at pdu 6 2) ++ x) (field pdu 8 2 b (omega arith) (omega arith)
        ∙ ap (λ (x : List ℕ). bytes_of 2 (value_at pdu 8 2) ++ x) (field pdu 10 2 b (omega arith) (omega arith)
        ∙ ap (λ (x : List ℕ). bytes_of 2 (value_at pdu 10 2) ++ x) (nothing_at pdu 12 (omega arith)) ∙ append-nil (bytes_of 2 (value_at pdu 10 2)))))

    charged_exact : 1 ≤ version → version ≤ 3 → Exact true pdu (charged pdu version)
    unfolding charged
    charged_exact h k =
        choice (Exact true pdu) (eqb version 1)
        (λ e. choice (Exact true pdu) (ltb 4 (length pdu)) (λ f. tt)
        (λ f.
        let one : version ≡ 1 = eqb-true version 1 e in
        let r : pdu ≡ versioned sp 1 [] = is_versioned [] (nothing_at pdu 4 (ltb-false 4 (length pdu) f)) ∙ ap (λ (v : ℕ). versioned sp v []) one in
        rw one (capabilities_1_is sp m r)))
        (λ e. choice (Exact true pdu) (ltb (length pdu) 12) (λ f. tt)
        (λ f. choice (Exact true pdu) (ltb 12 (length pdu)) (λ g. tt)
        (λ g.
        let l : length pdu ≡ 12 = omega (arith, ltb-false (length pdu) 12 f, ltb-false 12 (length pdu) g) in
        capabilities_is sp version _ m (omega (arith, eqb-false version 1 e)) k
        (record { small0 = value_below pdu 4 2 (omega arith) b; small1 = value_below pdu 6 2 (omega arith) b; small2 = value_below pdu 8 2 (omega arith) b; small3 = value_below pdu 10 2 (omega arith) b })
        (is_versioned _ (charges_are l)))))

    response_exact : 1 ≤ version → version ≤ 3 → Exact false pdu (cond (ltb 4 (length pdu)) (Refused BadField) (CapsResponse version))
    response_exact h k =
        choice (Exact false pdu) (ltb 4 (length pdu)) (λ e. tt)
        (λ e. capabilities_response_is sp version m h k (is_versioned [] (nothing_at pdu 4 (ltb-false 4 (length pdu) e))))

    either_exact :
        (fromServer : Bool) → 1 ≤ version → version ≤ 3
        → Exact fromServer pdu (cond fromServer (charged pdu version) (cond (ltb 4 (length pdu)) (Refused BadField) (CapsResponse version)))
    either_exact true h k = charged_exact h k
    either_exact false h k = response_exact h k

    version_exact : (fromServer : Bool) → Exact fromServer pdu (by_version fromServer pdu version)
    unfolding by_version
    version_exact fromServer =
        choice (Exact fromServer pdu) (bad_version version) (λ e. tt)
        (λ e. either_exact fromServer (good_version version e).0 (good_version version e).1)

  caps_exact :
      (fromServer : Bool) (sp cbId : ℕ) → sp ≤ 3 → get_or pdu 0 0 ≡ first_byte CAPABILITIES sp cbId
      → Exact fromServer pdu (capabilities fromServer pdu cbId)
  unfolding capabilities version
  caps_exact fromServer sp cbId m first =
      choice (Exact fromServer pdu) (not (eqb cbId 0)) (λ e. tt)
      (λ e. choice (Exact fromServer pdu) (ltb (length pdu) 2) (λ f. tt)
      (λ f. choice (Exact fromServer pdu) (not (eqb (get_or pdu 1 0) 0)) (λ g. tt)
      (λ g. choice (Exact fromServer pdu) (ltb (length pdu) 4) (λ h. tt)
      (λ h.
      let z : cbId ≡ 0 = eqb-true cbId 0 (not-false (eqb cbId 0) e) in
      version_exact sp (first ∙ ap (first_byte CAPABILITIES sp) z) m (eqb-true (get_or pdu 1 0) 0 (not-false (eqb (get_or pdu 1 0) 0) g)) (ltb-false (length pdu) 4 h) fromServer))))

  command_exact :
      (fromServer : Bool) (cmd middle cbId : ℕ) → 1 ≤ length pdu → middle ≤ 3 → cbId ≤ 3 → get_or pdu 0 0 ≡ first_byte cmd middle cbId
      → Exact fromServer pdu (by_command fromServer pdu cmd middle cbId)
  unfolding by_command
  command_exact fromServer cmd middle cbId some m c first =
      choice (Exact fromServer pdu) (ltb cmd CREATE) (λ e. tt)
      (λ e. choice (Exact fromServer pdu) (ltb CAPABILITIES cmd) (λ f. tt)
      (λ f. choice (Exact fromServer pdu) (eqb cmd CAPABILITIES)
      (λ g. caps_exact fromServer middle cbId m (first ∙ ap (λ (x : ℕ). first_byte x middle cbId) (eqb-true cmd CAPABILITIES g)))
      (λ g. numbered_exact cmd middle cbId some m c first fromServer (ltb-false cmd CREATE e) (omega (arith, ltb-false CAPABILITIES cmd f, eqb-false cmd CAPABILITIES g)))))

  abbrev Good : Bool → Pdu → Type 0
  Good fromServer (CreateRequest number class name) = Encodes fromServer (create_request_law number class (bytes_at pdu name)) pdu × (length pdu ≤ PDU_MAX)
  Good fromServer (CreateResponse number status) = Encodes fromServer (create_response_law number status) pdu × (length pdu ≤ PDU_MAX)
  Good fromServer (DataFirst number len block) = Encodes fromServer (data_first_law number len (bytes_at pdu block)) pdu × (length pdu ≤ PDU_MAX)
  Good fromServer (Data number block) = Encodes fromServer (data_block number (bytes_at pdu block)) pdu × (length pdu ≤ PDU_MAX)
  Good fromServer (Close number) = Encodes fromServer (close number) pdu × (length pdu ≤ PDU_MAX)
  Good fromServer (CapsRequest version charges) = Encodes fromServer (capabilities_request version charges) pdu × (length pdu ≤ PDU_MAX)
  Good fromServer (CapsResponse version) = Encodes fromServer (capabilities_response version) pdu × (length pdu ≤ PDU_MAX)
  Good fromServer (Refused why) = Unit {0}

  good : (fromServer : Bool) (p : Pdu) → Exact fromServer pdu p → length pdu ≤ PDU_MAX → Good fromServer p
  good fromServer (CreateRequest number class name) e l = (e, l)
  good fromServer (CreateResponse number status) e l = (e, l)
  good fromServer (DataFirst number len block) e l = (e, l)
  good fromServer (Data number block) e l = (e, l)
  good fromServer (Close number) e l = (e, l)
  good fromServer (CapsRequest version charges) e l = (e, l)
  good fromServer (CapsResponse version) e l = (e, l)
  good fromServer (Refused why) e l = tt

  read_good : (fromServer : Bool) → Good fromServer (read_pdu fromServer pdu)
  unfolding read_pdu
  read_good fromServer =
      let x = get_or pdu 0 0 in
      choice (Good fromServer) (eqb (length pdu) 0) (λ e. tt)
      (λ e. choice (Good fromServer) (ltb PDU_MAX (length pdu)) (λ f. tt)
      (λ f. good fromServer (by_command fromServer pdu (x / 16) (x / 4 % 4) (x % 4)) (command_exact fromServer (x / 16) (x / 4 % 4) (x % 4) (omega (arith, eqb-false (length pdu) 0 e)) (omega arith) (omega arith) (omega arith)) (ltb-false PDU_MAX (length pdu) f)))

  by_value :
      (fromServer : Bool) (v : Value) (p : Pdu) → Good fromServer p → meant pdu p ≡ values v
      → Encodes fromServer v pdu × (length pdu ≤ PDU_MAX)
  by_value fromServer v (CreateRequest number class name) g e = let q : create_request_law number class (bytes_at pdu name) ≡ v = cc in rw (← q) g
  by_value fromServer v (CreateResponse number status) g e = let q : create_response_law number status ≡ v = cc in rw (← q) g
  by_value fromServer v (DataFirst number len block) g e = let q : data_first_law number len (bytes_at pdu block) ≡ v = cc in rw (← q) g
  by_value fromServer v (Data number block) g e = let q : data_block number (bytes_at pdu block) ≡ v = cc in rw (← q) g
  by_value fromServer v (Close number) g e = let q : close number ≡ v = cc in rw (← q) g
  by_value fromServer v (CapsRequest version charges) g e = let q : capabilities_request version charges ≡ v = cc in rw (← q) g
  by_value fromServer v (CapsResponse version) g e = let q : capabilities_response version ≡ v = cc in rw (← q) g
  by_value fromServer v (Refused why) g e = let z : ◌≡◌ {A = ℕ} 0 1 = cc in absurd (omega arith)

-- reading accepts exactly the language
pub exactly : (fromServer : Bool) (v : Value) (bytes : List ℕ) → Bytes bytes → Exactly fromServer v bytes
unfolding read_as
exactly fromServer v bytes b = record { only_encodings = by_value bytes b fromServer v (read_pdu fromServer bytes) (read_good bytes b fromServer); every_encoding = every_encoding fromServer v bytes }

-- no bytes say two things
pub unambiguous :
    (fromServer : Bool) (v w : Value) (bytes : List ℕ) → Encodes fromServer v bytes → Encodes fromServer w bytes → length bytes ≤ PDU_MAX
    → v ≡ w
unambiguous fromServer v w bytes e f l =
    let p = every_encoding fromServer v bytes e l in
    let q = every_encoding fromServer w bytes f l in
    cc
