-- Strict reading accepts exactly the encodings in the narrowest widths with Sp 0, refuses every other encoding with 18, and keeps
-- plain reading's refusals. So each meaning has one byte string.
-- Assumes nothing.
use Prim.Native.Nat.{ℕ, ◌≤◌}
use mathlib.Core.Path.{◌≡◌, refl, sym, ap, subst, ◌∙◌}
use mathlib.Core.Bool.{Bool, true, false, cond, ◌&&◌}
use mathlib.Core.List.{List, [], ◌∷◌, ◌++◌}
use mathlib.Core.Logic.{◌⊎◌, inl, inr, ⊎_elim}
use lib.Dec.{eqb}
use lib.IntN.{ℤ, pos, negsuc}
use lib.ListN.{length, get_or}
use native.Mathlib.Omega.{arith}
use Rattle.paper.specs.Rows.{refuse, Verdict, fine, refused_with, row, first_held}
use Rattle.paper.proofs.Rows.{held, passed, none_held, held_before, held_behind}
use Rattle.paper.specs.Sizes.{PDU_MAX}
use Rattle.paper.specs.Commands.{CREATE, DATA_FIRST, DATA, CLOSE, CAPABILITIES}
use Rattle.paper.specs.declared.Refusal.{Refusal}
use Rattle.paper.specs.declared.Refusal.TheVariants.{Loose}
use Rattle.lists.proofs.Cases.{choice, true_not_false, both}
use Rattle.numbers.specs.Numbers.{Bytes}
use Rattle.reading.specs.declared.Pdu.{Pdu}
use Rattle.reading.specs.declared.Pdu.TheVariants.{CreateRequest, CreateResponse, DataFirst, Data, Close}
use Rattle.reading.specs.declared.Pdu.TheVariants.{CapsRequest, CapsResponse, Refused}
use Rattle.reading.specs.Reading.{read_pdu}
use Rattle.reading.specs.Said.{Said, row as said_row, refusal, said, bytes_at, verdict_on}
use Rattle.reading.specs.Strict.{loose, accepted, strictly, read_strict, strict_rows}
use Rattle.reading.specs.Layouts.{reading_rows}
use Rattle.reading.specs.Grammar.{Value, create_request_law, create_response_law, data_first_law, data_block, close}
use Rattle.reading.specs.Grammar.{capabilities_request, capabilities_response, values, meant, read_as}
use Rattle.reading.specs.Grammar.{Encodes, create_request_is, create_response_is, data_first_is, data_is, close_is}
use Rattle.reading.specs.Grammar.{capabilities_1_is, capabilities_is, capabilities_response_is}
use Rattle.reading.specs.Tight.{strict_as, Tightly, TightExactly, Loosely, LooseExactly}
use Rattle.reading.proofs.Placed.{Placed, placed}
use Rattle.reading.proofs.Grammar.{every_encoding, exactly}
use Rattle.reading.proofs.Layouts.{reading_refusals}
use Rattle.reading.proofs.Tight.{loose_in, loose_is, is_loose, loose_if, tight, is_tight, tight_if}

-- ---- beside plain reading

module _ (fromServer : Bool) (bytes : List ℕ) where
  -- it differs by 18 alone
  pub only_18 : (read_strict fromServer bytes ≡ read_pdu fromServer bytes) ⊎ (read_strict fromServer bytes ≡ Refused Loose)
  unfolding read_strict strictly
  only_18 =
      choice (λ (x : Pdu). (x ≡ read_pdu fromServer bytes) ⊎ (x ≡ Refused Loose))
      (accepted (read_pdu fromServer bytes) && loose fromServer bytes) (λ e. inr refl) (λ e. inl refl)

  -- what it accepts plain reading answers so too
  pub same_answer : accepted (read_strict fromServer bytes) ≡ true → read_strict fromServer bytes ≡ read_pdu fromServer bytes
  same_answer h =
      ⊎_elim (λ (e : read_strict fromServer bytes ≡ read_pdu fromServer bytes). e)
      (λ (e : read_strict fromServer bytes ≡ Refused Loose). absurd (true_not_false (sym h ∙ ap accepted e))) only_18

  -- what plain reading refuses it refuses so too
  pub keeps_refusals : (why : Refusal) → read_pdu fromServer bytes ≡ Refused why → read_strict fromServer bytes ≡ Refused why
  unfolding read_strict strictly
  keeps_refusals why h = rw h

-- the refusal is the first row that holds, 18 behind all others
pub strict_refusals : (fromServer : Bool) (pdu : List ℕ) → verdict_on (read_strict fromServer pdu) ≡ first_held (strict_rows fromServer pdu)
unfolding read_strict strictly strict_rows
strict_refusals fromServer pdu = go (verdict_on (read_pdu fromServer pdu)) refl (loose fromServer pdu)
  where
    go : (v : Verdict) → verdict_on (read_pdu fromServer pdu) ≡ v → (t : Bool)
        → verdict_on (refuse (Refused Loose) (accepted (read_pdu fromServer pdu) && t) (read_pdu fromServer pdu))
        ≡ first_held (reading_rows fromServer pdu ++ (row Loose t ∷ []))
    go (refused_with why) e t = rw e (e ∙ sym (held_before _ _ why (sym (reading_refusals fromServer pdu) ∙ e)))
    go fine e true = rw e (held Loose true [] refl ∙ sym (held_behind _ _ (sym (reading_refusals fromServer pdu) ∙ e)))
    go fine e false =
        rw e (e ∙ passed Loose false [] fine refl none_held ∙ sym (held_behind _ _ (sym (reading_refusals fromServer pdu) ∙ e)))

-- ---- an answer and its values

-- an accepted answer has values
record Valued (bytes : List ℕ) (p : Pdu) : Type 0 where
  value : Value
  is : meant bytes p ≡ values value

valued : (bytes : List ℕ) (p : Pdu) → accepted p ≡ true → Valued bytes p
valued bytes (CreateRequest number class name) h = record { value = create_request_law number class (bytes_at bytes name); is = refl }
valued bytes (CreateResponse number status) h = record { value = create_response_law number status; is = refl }
valued bytes (DataFirst number len block) h = record { value = data_first_law number len (bytes_at bytes block); is = refl }
valued bytes (Data number block) h = record { value = data_block number (bytes_at bytes block); is = refl }
valued bytes (Close number) h = record { value = close number; is = refl }
valued bytes (CapsRequest version charges) h = record { value = capabilities_request version charges; is = refl }
valued bytes (CapsResponse version) h = record { value = capabilities_response version; is = refl }
valued bytes (Refused why) h = absurd (true_not_false (sym h))

-- and an answer with values is accepted
has_values : (bytes : List ℕ) (p : Pdu) (v : Value) → meant bytes p ≡ values v → accepted p ≡ true
has_values bytes (CreateRequest number class name) v h = refl
has_values bytes (CreateResponse number status) v h = refl
has_values bytes (DataFirst number len block) v h = refl
has_values bytes (Data number block) v h = refl
has_values bytes (Close number) v h = refl
has_values bytes (CapsRequest version charges) v h = refl
has_values bytes (CapsResponse version) v h = refl
has_values bytes (Refused why) v h = let z : ◌≡◌ {A = ℕ} 0 1 = cc in absurd (omega arith)

-- ---- exactly

-- what strict reading answers to an encoding
on_encoding : (fromServer : Bool) (v : Value) (bytes : List ℕ) (e : Encodes fromServer v bytes) → length bytes ≤ PDU_MAX
    → read_strict fromServer bytes ≡ refuse (Refused Loose) (loose_in e) (read_pdu fromServer bytes)
unfolding read_strict strictly read_as
on_encoding fromServer v bytes e short =
    rw (has_values bytes (read_pdu fromServer bytes) v (every_encoding fromServer v bytes e short), loose_is fromServer v bytes e) refl

record NotLoose (fromServer : Bool) (v : Value) (bytes : List ℕ) : Type 0 where
  encodes : Encodes fromServer v bytes
  is_not : loose_in encodes ≡ false
  short : length bytes ≤ PDU_MAX

-- an accepted encoding isn't loose
not_loose : {answer : Pdu} (p : Pdu) (t : Bool) → answer ≡ refuse (Refused Loose) t p → accepted answer ≡ true → t ≡ false
not_loose p true e h = absurd (true_not_false (sym h ∙ ap accepted e))
not_loose p false e h = refl

module _ (fromServer : Bool) (bytes : List ℕ) (b : Bytes bytes) where
  -- an encoding that it answers isn't loose
  found : (v : Value) → strict_as fromServer bytes ≡ values v → NotLoose fromServer v bytes
  unfolding strict_as read_as
  found v h =
      let fine = has_values bytes (read_strict fromServer bytes) v h in
      let plain = rw (same_answer fromServer bytes fine) at h in
      let e = (exactly fromServer v bytes b).only_encodings plain in
      let t = not_loose _ (loose_in e.0) (on_encoding fromServer v bytes e.0 e.1) fine in
      record { encodes = e.0; is_not = t; short = e.1 }

  only_tight : (v : Value) → strict_as fromServer bytes ≡ values v → Tightly fromServer v bytes
  only_tight v h =
      let f = found v h in
      record {
        encodes = f.encodes;
        nothing_loose = λ l. true_not_false (sym (loose_if f.encodes l) ∙ f.is_not);
        short = f.short;
      }

  -- 18 is no answer of plain reading
  is_18 : read_strict fromServer bytes ≡ Refused Loose → (accepted (read_pdu fromServer bytes) ≡ true) × (loose fromServer bytes ≡ true)
  unfolding read_strict strictly
  is_18 h = go (accepted (read_pdu fromServer bytes) && loose fromServer bytes) refl h
    where
      go : (t : Bool) → (accepted (read_pdu fromServer bytes) && loose fromServer bytes) ≡ t
          → cond t (Refused Loose) (read_pdu fromServer bytes) ≡ Refused Loose
          → (accepted (read_pdu fromServer bytes) ≡ true) × (loose fromServer bytes ≡ true)
      go true e h = both _ _ e
      go false e h = absurd (subst (Placed bytes) h (placed bytes fromServer))

  only_loose : read_strict fromServer bytes ≡ Refused Loose → Loosely fromServer bytes
  unfolding read_as
  only_loose h =
      let found = is_18 h in
      let v = valued bytes (read_pdu fromServer bytes) found.0 in
      let e = (exactly fromServer v.value bytes b).only_encodings v.is in
      let here = sym (loose_is fromServer v.value bytes e.0) ∙ found.1 in
      record { value = v.value; encodes = e.0; is_loose = is_loose e.0 here; short = e.1 }

-- an encoding that isn't loose is answered
answered : (fromServer : Bool) (v : Value) (bytes : List ℕ) (e : Encodes fromServer v bytes) → loose_in e ≡ false → length bytes ≤ PDU_MAX
    → strict_as fromServer bytes ≡ values v
unfolding strict_as read_as
answered fromServer v bytes e t short = rw (on_encoding fromServer v bytes e short, t) (every_encoding fromServer v bytes e short)

every_tight : (fromServer : Bool) (v : Value) (bytes : List ℕ) → Tightly fromServer v bytes → strict_as fromServer bytes ≡ values v
every_tight fromServer v bytes t = answered fromServer v bytes t.encodes (go (loose_in t.encodes) refl) t.short
  where
    go : (u : Bool) → loose_in t.encodes ≡ u → loose_in t.encodes ≡ false
    go true e = absurd (t.nothing_loose (is_loose t.encodes e))
    go false e = e

-- and so is the narrowest
pub tight_read : (fromServer : Bool) (v : Value) (bytes : List ℕ) → Encodes fromServer v bytes → bytes ≡ tight v → length bytes ≤ PDU_MAX
    → strict_as fromServer bytes ≡ values v
tight_read fromServer v bytes e t short = answered fromServer v bytes e (tight_if e t) short

pub tight_exactly : (fromServer : Bool) (v : Value) (bytes : List ℕ) → Bytes bytes → TightExactly fromServer v bytes
tight_exactly fromServer v bytes b = record { only_tight = only_tight fromServer bytes b v; every_tight = every_tight fromServer v bytes }

pub loose_exactly : (fromServer : Bool) (bytes : List ℕ) → Bytes bytes → LooseExactly fromServer bytes
loose_exactly fromServer bytes b =
    record {
      only_loose = only_loose fromServer bytes b;
      every_loose = λ l. on_encoding fromServer l.value bytes l.encodes l.short ∙ rw (loose_if l.encodes l.is_loose) refl;
    }

-- ---- one meaning, one byte string

-- what is said of values
abbrev saying : Value → Said
saying (create_request_law number pri name) = said_row CREATE (pos number ∷ pos pri ∷ []) name
saying (create_response_law number status) = said_row CREATE (pos number ∷ status ∷ []) []
saying (data_first_law number len block) = said_row DATA_FIRST (pos number ∷ pos len ∷ []) block
saying (data_block number block) = said_row DATA (pos number ∷ []) block
saying (close number) = said_row CLOSE (pos number ∷ []) []
saying (capabilities_request version c) =
    said_row CAPABILITIES (pos version ∷ pos c.class0 ∷ pos c.class1 ∷ pos c.class2 ∷ pos c.class3 ∷ []) []
saying (capabilities_response version) = said_row CAPABILITIES (pos version ∷ []) []

said_so : (bytes : List ℕ) (p : Pdu) (v : Value) → meant bytes p ≡ values v → said bytes p ≡ saying v
unfolding said
said_so bytes (CreateRequest number class name) v h = let q : create_request_law number class (bytes_at bytes name) ≡ v = cc in ap saying q
said_so bytes (CreateResponse number status) v h = let q : create_response_law number status ≡ v = cc in ap saying q
said_so bytes (DataFirst number len block) v h = let q : data_first_law number len (bytes_at bytes block) ≡ v = cc in ap saying q
said_so bytes (Data number block) v h = let q : data_block number (bytes_at bytes block) ≡ v = cc in ap saying q
said_so bytes (Close number) v h = let q : close number ≡ v = cc in ap saying q
said_so bytes (CapsRequest version charges) v h = let q : capabilities_request version charges ≡ v = cc in ap saying q
said_so bytes (CapsResponse version) v h = let q : capabilities_response version ≡ v = cc in ap saying q
said_so bytes (Refused why) v h = let z : ◌≡◌ {A = ℕ} 0 1 = cc in absurd (omega arith)

-- the numbers of a row, by their places
abbrev natural : ℤ → ℕ
natural (pos n) = n
natural (negsuc n) = 0

abbrev number_in : List ℤ → ℕ → ℕ
number_in numbers i = natural (get_or numbers i (pos 0))

-- the one byte string of what is said, by direction
abbrev tight_of : Bool → Said → List ℕ
tight_of fromServer (said_row cmd ns bytes) =
    cond (eqb cmd CREATE)
    (cond fromServer (tight (create_request_law (number_in ns 0) (number_in ns 1) bytes))
    (tight (create_response_law (number_in ns 0) (get_or ns 1 (pos 0)))))
    (cond (eqb cmd DATA_FIRST) (tight (data_first_law (number_in ns 0) (number_in ns 1) bytes))
    (cond (eqb cmd DATA) (tight (data_block (number_in ns 0) bytes))
    (cond (eqb cmd CLOSE) (tight (close (number_in ns 0)))
    (cond fromServer
    (tight (capabilities_request (number_in ns 0)
    (record { class0 = number_in ns 1; class1 = number_in ns 2; class2 = number_in ns 3; class3 = number_in ns 4 })))
    (tight (capabilities_response (number_in ns 0)))))))
tight_of fromServer (refusal n) = []

tight_said : {fromServer : Bool} {v : Value} {bytes : List ℕ} → Encodes fromServer v bytes → tight_of fromServer (saying v) ≡ tight v
tight_said (create_request_is code number pri name k p z e) = refl
tight_said (create_response_is code sp number status k p z e) = refl
tight_said (data_first_is dir code lengthCode number len block k q e) = refl
tight_said (data_is dir code sp number block k p e) = refl
tight_said (close_is dir code sp number k p e) = refl
tight_said (capabilities_1_is sp p e) = refl
tight_said (capabilities_is sp version charges p h k z e) = refl
tight_said (capabilities_response_is sp version p h k e) = refl

-- the bytes of what strict reading accepts, from what it says
from_said : (fromServer : Bool) (bytes : List ℕ) → Bytes bytes → accepted (read_strict fromServer bytes) ≡ true
    → bytes ≡ tight_of fromServer (said bytes (read_strict fromServer bytes))
unfolding strict_as
from_said fromServer bytes b h =
    let v = valued bytes (read_strict fromServer bytes) h in
    let f = found fromServer bytes b v.value v.is in
    is_tight f.encodes f.is_not ∙ sym (tight_said f.encodes)
    ∙ ap (tight_of fromServer) (sym (said_so bytes (read_strict fromServer bytes) v.value v.is))

pub one_meaning : (fromServer : Bool) (one two : List ℕ) → Bytes one → Bytes two
    → accepted (read_strict fromServer one) ≡ true → accepted (read_strict fromServer two) ≡ true
    → said one (read_strict fromServer one) ≡ said two (read_strict fromServer two) → one ≡ two
one_meaning fromServer one two b c h k e = from_said fromServer one b h ∙ ap (tight_of fromServer) e ∙ sym (from_said fromServer two c k)
