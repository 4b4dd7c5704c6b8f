-- What is found, as both readings take it: a refusal stays one, and an answer is judged by what was found loose.
-- Assumes nothing.
use mathlib.Core.Path.{◌≡◌, refl, sym, ◌∙◌}
use mathlib.Core.Bool.{Bool, true, false, not, ◌||◌}
use mathlib.Core.List.{List}
use Prim.Native.Nat.{ℕ}
use borrow.Author.Tests.{ne_eqb}
use lib.Dec.{eqb}
use Rattle.paper.specs.Rows.{fine}
use Rattle.paper.specs.Commands.{CREATE, DATA_FIRST}
use Rattle.paper.specs.declared.Refusal.{Refusal}
use Rattle.paper.specs.declared.Refusal.TheVariants.{Loose}
use Rattle.numbers.specs.Numbers.{wide_at, width_of}
use Rattle.reading.specs.declared.Found.{Found}
use Rattle.reading.specs.declared.Pdu.{Pdu}
use Rattle.reading.specs.declared.Pdu.TheVariants.{CreateRequest, CreateResponse, DataFirst, Data, Close}
use Rattle.reading.specs.declared.Pdu.TheVariants.{CapsRequest, CapsResponse, Refused}
use Rattle.reading.specs.Said.{verdict_on}
use Rattle.reading.specs.Strict.{has_sp, sp_set, wide_length, loose_after, strictly, judged}

-- what a stage owes: plain reading's answer, and strict reading's
abbrev pub Both : Found → Pdu → Bool → Type 0
Both found answer loose = (found.answer ≡ answer) × (judged found ≡ strictly loose answer)

pub is_found : (found : Found) {answer : Pdu} {loose : Bool} → found.answer ≡ answer → found.loose ≡ loose → Both found answer loose
is_found found p q = (p, rw (p, q))

-- a refusal is never loose
pub is_refused_law : (found : Found) {answer : Pdu} (loose : Bool) {why : Refusal} → found.answer ≡ Refused why → answer ≡ Refused why
    → Both found answer loose
unfolding strictly
is_refused_law found loose p q = (p ∙ sym q, rw (p, q))

-- ---- what is loose behind a number, kind by kind

or_false : (b : Bool) → (b || false) ≡ b
or_false true = refl
or_false false = refl

module _ (pdu : List ℕ) (middle : ℕ) (wide : Bool) (at : ℕ) where
  -- Pri is no Sp
  pub loose_request : loose_after true pdu CREATE middle wide at ≡ wide
  unfolding loose_after wide_length sp_set has_sp
  loose_request = or_false wide

  -- nor is the width of Length
  pub loose_first : (fromServer : Bool) → loose_after fromServer pdu DATA_FIRST middle wide at ≡ (wide || wide_at pdu at (width_of middle))
  unfolding loose_after wide_length sp_set has_sp
  loose_first fromServer = rw (or_false (wide_at pdu at (width_of middle)))

  -- a Create response, Data and Close
  pub loose_sp : (fromServer : Bool) (cmd : ℕ) → eqb cmd DATA_FIRST ≡ false → has_sp fromServer cmd ≡ true
      → loose_after fromServer pdu cmd middle wide at ≡ (wide || not (eqb middle 0))
  unfolding loose_after wide_length sp_set
  loose_sp fromServer cmd h k = rw (h, k)

-- neither a Create nor a Data First
pub has_sp_law : (fromServer : Bool) (cmd : ℕ) → (cmd ≡ CREATE → ⊥) → (cmd ≡ DATA_FIRST → ⊥) → has_sp fromServer cmd ≡ true
unfolding has_sp
has_sp_law fromServer cmd h k = rw (ne_eqb cmd CREATE h, ne_eqb cmd DATA_FIRST k)

-- ---- what strict reading answers

-- the seven kinds: an answer that is no refusal
pub kinds : (p : Pdu) → ((why : Refusal) → p ≡ Refused why → ⊥) → verdict_on p ≡ fine
kinds (CreateRequest number class name) k = refl
kinds (CreateResponse number status) k = refl
kinds (DataFirst number len block) k = refl
kinds (Data number block) k = refl
kinds (Close number) k = refl
kinds (CapsRequest version charges) k = refl
kinds (CapsResponse version) k = refl
kinds (Refused why) k = absurd (k why refl)

pub stays : (found : Found) {why : Refusal} → found.answer ≡ Refused why → judged found ≡ Refused why
unfolding strictly
stays found p = rw p

pub is_loose : (found : Found) → verdict_on found.answer ≡ fine → found.loose ≡ true → judged found ≡ Refused Loose
unfolding strictly
is_loose found p q = rw (p, q)

pub passes : (found : Found) → verdict_on found.answer ≡ fine → found.loose ≡ false → judged found ≡ found.answer
unfolding strictly
passes found p q = rw (p, q)
