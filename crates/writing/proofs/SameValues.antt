-- "What we write we read back as the same values": a PDU that isn't refused stands at the buffer's front, and what is laid there is
-- the narrowest encoding of its values, which both readings answer.
-- Assumes nothing.
use Rattle.std.specs.Prelude.{Result, Err, Ok}
use Rattle.paper.specs.declared.Refusal.{Refusal}
use mathlib.Core.Path.{◌≡◌, refl, sym, ap, ◌∙◌}
use mathlib.Core.Bool.{Bool, true, false, cond, not}
use mathlib.Core.List.{List}
use Prim.Native.Nat.{ℕ, ◌≤◌, ◌<◌}
use native.Mathlib.Omega.{arith}
use borrow.Author.Tests.{ltb-false, eqb-true, eqb-false, not-false}
use lib.Dec.{eqb, ltb}
use lib.IntN.{ℤ}
use lib.ListN.{length, take}
use mir.Syntax.{w32}
use mir.Val.{SFits}
use Rattle.paper.specs.Sizes.{PDU_MAX}
use Rattle.paper.specs.declared.Refusal.TheVariants.{BadCall, BadField, OverLimit}
use Rattle.lists.specs.Bytes.{laid, is_zero}
use Rattle.lists.specs.Places.{place}
use Rattle.lists.proofs.Cases.{both, neither}
use Rattle.lists.proofs.Laid.{front}
use Rattle.numbers.specs.Numbers.{NUMBERS}
use Rattle.reading.specs.declared.Charges.{Charges}
use Rattle.reading.specs.Grammar.{Value, create_request_law, create_response_law, data_first_law, data_block, close}
use Rattle.reading.specs.Grammar.{capabilities_request, capabilities_response, values, read_as, SmallCharges}
use Rattle.reading.specs.Grammar.{no_charges, Encodes}
use Rattle.reading.specs.Tight.{strict_as}
use Rattle.reading.proofs.Grammar.{every_encoding, zero_free, same_charges}
use Rattle.reading.proofs.Tight.{tight}
use Rattle.reading.proofs.Strict.{tight_read}
use Rattle.laying.specs.Laying.{buffer_after, create_request_bytes, create_response_bytes, data_first_bytes, data_bytes}
use Rattle.laying.specs.Laying.{close_bytes, caps_request_bytes, caps_response_bytes}
use Rattle.laying.proofs.Encoded.{close_encoded, data_encoded, data_first_encoded, create_response_encoded}
use Rattle.laying.proofs.Encoded.{create_request_encoded, caps_response_encoded, caps_request_1_encoded}
use Rattle.laying.proofs.Encoded.{caps_request_encoded, close_tight, data_tight, data_first_tight}
use Rattle.laying.proofs.Encoded.{create_response_tight, create_request_tight, caps_response_tight, caps_request_tight}
use Rattle.reading.specs.Reading.{bad_version}
use Rattle.reading.proofs.Placed.{good_version}
use Rattle.writing.specs.Writing.{judged, written, outcome, bad_request, all_zero, bad_capabilities}
use Rattle.writing.specs.ReadBack.{ReadsBack, StrictBack}
use Rattle.writing.proofs.write_create_request.Reads as create-request-contract
use Rattle.writing.proofs.write_create_response.Reads as create-response-contract
use Rattle.writing.proofs.write_data_first.Reads as data-first-contract
use Rattle.writing.proofs.write_data.Reads as data-contract
use Rattle.writing.proofs.write_close.Reads as close-contract
use Rattle.writing.proofs.write_capabilities_request.Reads as caps-request-contract
use Rattle.writing.proofs.write_capabilities_response.Reads as caps-response-contract

-- a PDU that went out: its values were good, it is no longer than a PDU may be, and it stands at the buffer's front
pub record Went (bad : Bool) (pdu after : List ℕ) (n : ℕ) : Type 0 where
  pub good : bad ≡ false
  pub short_enough : length pdu ≤ PDU_MAX
  pub stands : take n after ≡ pdu

pub went :
    (bad : Bool) (pdu out after : List ℕ) (r : Result ℕ Refusal) (n : ℕ) → r ≡ written bad pdu out → after ≡ buffer_after (outcome r) pdu out → r ≡ Ok n
    → Went bad pdu after n
unfolding written judged outcome buffer_after
went bad pdu out after r n e f g = go (ltb (length out) PDU_MAX) bad (ltb PDU_MAX (length pdu)) refl refl refl (sym e ∙ g)
  where
    go :
        (s t u : Bool) → ltb (length out) PDU_MAX ≡ s → bad ≡ t → ltb PDU_MAX (length pdu) ≡ u
        → cond s (Err BadCall) (cond t (Err BadField) (cond u (Err OverLimit) (Ok (length pdu)))) ≡ Ok n
        → Went bad pdu after n
    go true t u p q w h = let z : ◌≡◌ {A = ℕ} 0 1 = cc in absurd (omega arith)
    go false true u p q w h = let z : ◌≡◌ {A = ℕ} 0 1 = cc in absurd (omega arith)
    go false false true p q w h = let z : ◌≡◌ {A = ℕ} 0 1 = cc in absurd (omega arith)
    go false false false p q w h =
        let m : length pdu ≡ n = cc in
        let k : length pdu ≤ length out = omega (arith, ltb-false (length out) PDU_MAX p, ltb-false PDU_MAX (length pdu) w) in
        let laid_there : after ≡ laid out 0 pdu = rw g at f in
        record { good = q; short_enough = ltb-false PDU_MAX (length pdu) w; stands = rw (laid_there, ← m) (front out pdu k) }

-- what a kind's writer lays, where it isn't refused: the narrowest encoding of its values
pub record Good (fromServer bad : Bool) (pdu : List ℕ) (v : Value) : Type 0 where
  pub encodes : bad ≡ false → Encodes fromServer v pdu
  pub is_tight : bad ≡ false → pdu ≡ tight v

-- both readings answer the values
pub reads_back : (fromServer bad : Bool) (pdu : List ℕ) (v : Value) → Good fromServer bad pdu v → ReadsBack fromServer bad pdu v
reads_back fromServer bad pdu v laid_so out n g =
    let w = went bad pdu out _ _ n refl refl g in
    ap (read_as fromServer) w.stands ∙ every_encoding fromServer v pdu (laid_so.encodes w.good) w.short_enough

pub strict_back : (fromServer bad : Bool) (pdu : List ℕ) (v : Value) → Good fromServer bad pdu v → StrictBack fromServer bad pdu v
strict_back fromServer bad pdu v laid_so out n g =
    let w = went bad pdu out _ _ n refl refl g in
    ap (strict_as fromServer) w.stands
    ∙ tight_read fromServer v pdu (laid_so.encodes w.good) (laid_so.is_tight w.good) w.short_enough

-- ---- each kind

pub close_good : (fromServer : Bool) (number : ℕ) → number < NUMBERS → Good fromServer false (close_bytes number) (close number)
close_good fromServer number h = record { encodes = λ g. close_encoded number h fromServer; is_tight = λ g. close_tight number }

pub data_good :
    (fromServer : Bool) (number : ℕ) (block : List ℕ) → number < NUMBERS
    → Good fromServer false (data_bytes number block) (data_block number block)
data_good fromServer number block h =
    record { encodes = λ g. data_encoded number h fromServer block; is_tight = λ g. data_tight number block }

pub data_first_good :
    (fromServer : Bool) (number len : ℕ) (block : List ℕ) → number < NUMBERS → len < NUMBERS
    → Good fromServer false (data_first_bytes number len block) (data_first_law number len block)
data_first_good fromServer number len block h k =
    record { encodes = λ g. data_first_encoded number h fromServer len block k; is_tight = λ g. data_first_tight number len block }

pub create_response_good :
    (number : ℕ) (status : ℤ) → number < NUMBERS → SFits w32 status
    → Good false false (create_response_bytes number status) (create_response_law number status)
create_response_good number status h f =
    record { encodes = λ g. create_response_encoded number h status f; is_tight = λ g. create_response_tight number status }

-- a class of two bits and no zero in the name
pub create_request_good :
    (number class : ℕ) (name : List ℕ) → number < NUMBERS
    → Good true (bad_request class name) (create_request_bytes number class name) (create_request_law number class name)
unfolding bad_request
create_request_good number class name h =
    record {
      encodes =
          λ g. let p = neither (ltb 3 class) (ltb (place is_zero name) (length name)) g in
          create_request_encoded number h class name (ltb-false 3 class p.0)
          (zero_free name (ltb-false (place is_zero name) (length name) p.1));
      is_tight =
          λ g. let p = neither (ltb 3 class) (ltb (place is_zero name) (length name)) g in
          create_request_tight number class name (ltb-false 3 class p.0);
    }

pub caps_response_good : (version : ℕ) → Good false (bad_version version) (caps_response_bytes version) (capabilities_response version)
caps_response_good version =
    record {
      encodes = λ g. let v = good_version version g in caps_response_encoded version v.0 v.1;
      is_tight = λ g. caps_response_tight version;
    }

-- charges of 0 are the charges that version 1 is read with
no_charges_law : (charges : Charges) → all_zero charges ≡ true → no_charges ≡ charges
unfolding all_zero
no_charges_law charges h =
    let p0 = both (eqb charges.class0 0) _ h in
    let p1 = both (eqb charges.class1 0) _ p0.1 in
    let p2 = both (eqb charges.class2 0) _ p1.1 in
    same_charges
    (sym (eqb-true charges.class0 0 p0.0)) (sym (eqb-true charges.class1 0 p1.0))
    (sym (eqb-true charges.class2 0 p2.0)) (sym (eqb-true charges.class3 0 p2.1))

pub caps_request_encodes :
    (version : ℕ) (charges : Charges) → SmallCharges charges → bad_capabilities version charges ≡ false
    → Encodes true (capabilities_request version charges) (caps_request_bytes version charges)
unfolding bad_capabilities
caps_request_encodes version charges f = go (eqb version 1) refl
  where
    go :
        (t : Bool) → eqb version 1 ≡ t → cond t (not (all_zero charges)) (bad_version version) ≡ false
        → Encodes true (capabilities_request version charges) (caps_request_bytes version charges)
    go true e b =
        let one : version ≡ 1 = eqb-true version 1 e in
        let zero : no_charges ≡ charges = no_charges_law charges (not-false (all_zero charges) b) in
        rw (one, ← zero) (caps_request_1_encoded no_charges)
    go false e b =
        let v = good_version version b in
        let two : 2 ≤ version = omega (arith, eqb-false version 1 e, v.0) in
        caps_request_encoded version charges e two v.1 f

pub caps_request_good :
    (version : ℕ) (charges : Charges) → SmallCharges charges
    → Good true (bad_capabilities version charges) (caps_request_bytes version charges) (capabilities_request version charges)
caps_request_good version charges f =
    record { encodes = caps_request_encodes version charges f; is_tight = λ g. caps_request_tight version charges }

-- ---- on the writers' own contracts

-- an outcome that a contract permits
on_contract :
    (fromServer bad : Bool) (pdu : List ℕ) (v : Value) → ReadsBack fromServer bad pdu v → (out after : List ℕ) (r : Result ℕ Refusal) (n : ℕ)
    → r ≡ written bad pdu out → after ≡ buffer_after (outcome r) pdu out → r ≡ Ok n → read_as fromServer (take n after) ≡ values v
on_contract fromServer bad pdu v t out after r n e f g = rw (f, e) (t out n (sym e ∙ g))

pub close_back :
    (κs : _) (a : _) (r : _) (s : _) (n : ℕ) (fromServer : Bool) → close-contract.Post κs a r s → r ≡ Ok n
    → a.1.0 < NUMBERS → read_as fromServer (take n s.0.now) ≡ values (close a.1.0)
close_back κs a r s n fromServer p g h =
    on_contract _ _ _ _ (reads_back _ _ _ _ (close_good fromServer a.1.0 h)) _ _ r n p.0 p.1 g

pub data_back :
    (κs : _) (a : _) (r : _) (s : _) (n : ℕ) (fromServer : Bool) → data-contract.Post κs a r s → r ≡ Ok n
    → a.1.0 < NUMBERS → read_as fromServer (take n s.0.now) ≡ values (data_block a.1.0 a.1.1.0.now)
data_back κs a r s n fromServer p g h =
    on_contract _ _ _ _ (reads_back _ _ _ _ (data_good fromServer a.1.0 a.1.1.0.now h)) _ _ r n p.0 p.1 g

pub data_first_back :
    (κs : _) (a : _) (r : _) (s : _) (n : ℕ) (fromServer : Bool) → data-first-contract.Post κs a r s → r ≡ Ok n
    → a.1.0 < NUMBERS → a.1.1.0 < NUMBERS
    → read_as fromServer (take n s.0.now) ≡ values (data_first_law a.1.0 a.1.1.0 a.1.1.1.0.now)
data_first_back κs a r s n fromServer p g h k =
    on_contract _ _ _ _ (reads_back _ _ _ _ (data_first_good fromServer a.1.0 a.1.1.0 a.1.1.1.0.now h k)) _ _ r n p.0 p.1 g

pub create_response_back :
    (κs : _) (a : _) (r : _) (s : _) (n : ℕ) → create-response-contract.Post κs a r s → r ≡ Ok n
    → a.1.0 < NUMBERS → SFits w32 a.1.1.0 → read_as false (take n s.0.now) ≡ values (create_response_law a.1.0 a.1.1.0)
create_response_back κs a r s n p g h f =
    on_contract _ _ _ _ (reads_back _ _ _ _ (create_response_good a.1.0 a.1.1.0 h f)) _ _ r n p.0 p.1 g

pub create_request_back :
    (κs : _) (a : _) (r : _) (s : _) (n : ℕ) → create-request-contract.Post κs a r s → r ≡ Ok n
    → a.1.0 < NUMBERS → read_as true (take n s.0.now) ≡ values (create_request_law a.1.0 a.1.1.0 a.1.1.1.0.now)
create_request_back κs a r s n p g h =
    on_contract _ _ _ _ (reads_back _ _ _ _ (create_request_good a.1.0 a.1.1.0 a.1.1.1.0.now h)) _ _ r n p.0 p.1 g

pub caps_request_back :
    (κs : _) (a : _) (r : _) (s : _) (n : ℕ) → caps-request-contract.Post κs a r s → r ≡ Ok n
    → SmallCharges a.1.1.0 → read_as true (take n s.0.now) ≡ values (capabilities_request a.1.0 a.1.1.0)
caps_request_back κs a r s n p g f =
    on_contract _ _ _ _ (reads_back _ _ _ _ (caps_request_good a.1.0 a.1.1.0 f)) _ _ r n p.0 p.1 g

pub caps_response_back :
    (κs : _) (a : _) (r : _) (s : _) (n : ℕ) → caps-response-contract.Post κs a r s → r ≡ Ok n
    → read_as false (take n s.0.now) ≡ values (capabilities_response a.1.0)
caps_response_back κs a r s n p g =
    on_contract _ _ _ _ (reads_back _ _ _ _ (caps_response_good a.1.0)) _ _ r n p.0 p.1 g
