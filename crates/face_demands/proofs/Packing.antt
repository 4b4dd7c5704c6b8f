-- Every answer of a call is got back from its number.
-- Assumes nothing.
use mathlib.Core.Path.{◌≡◌, refl}
use mathlib.Core.Bool.{not}
use mathlib.Core.List.{List}
use Prim.Native.Nat.{ℕ, ◌<◌}
use lib.Dec.{eqb, ltb, lit<}
use lib.ListN.{length}
use Rattle.paper.specs.Sizes.{PARTS, PDU_MAX}
use Rattle.lists.proofs.Cases.{choice}
use Rattle.numbers.specs.Numbers.{Bytes, NUMBERS}
use Rattle.reading.specs.declared.Charges.{Charges}
use Rattle.laying.specs.Laying.{create_request_bytes}
use Rattle.writing.specs.Writing.{bad_request, bad_capabilities}
use Rattle.table.specs.declared.Table.{Table}
use Rattle.client.specs.declared.Received.{Received}
use Rattle.client.specs.Client.{received, locally_closed}
use Rattle.shore.specs.declared.Said.{Said}
use Rattle.shore.specs.declared.Shore.{Shore}
use Rattle.shore.specs.declared.Sending.{Sending}
use Rattle.shore.specs.Shore as shore
use Rattle.shore.specs.Shore.{Standing, Stepped, asking, number_next, class_in, all_taken, opening, bad_out, storeless, sending, sends_of}
use Rattle.shore.specs.Shore.{requested, locally_opened}
use Rattle.packing.specs.Packing.{said_place}
use Rattle.packing.proofs.Small.{Fits, fits_back, received_fits, closed_fits}
use Rattle.packing.proofs.ShoreSmall as small
use Rattle.face_demands.specs.Face.{GotBack}
use Rattle.face_demands.specs.ShoreFace as back

-- ---- the client

got_back : (r : Received) → Fits r → GotBack r
got_back r f = let b = fits_back r f in record { answer = b.0; sent = b.1; place = b.2 }

module _ (t : Table) (store : List ℕ) where
  pub received_back :
      (list pdu reply : List ℕ) → length t.records ≡ PARTS → Bytes pdu → GotBack (received t store list pdu reply).result
  received_back list pdu reply long b = got_back (received t store list pdu reply).result (received_fits t store long list pdu reply b)

  pub closed_back :
      (n : ℕ) (reply : List ℕ) → length t.records ≡ PARTS → n < NUMBERS → GotBack (locally_closed t store n reply).result
  closed_back n reply long h = got_back (locally_closed t store n reply).result (closed_fits t store long n reply h)

-- ---- the shore

shore_back : (s : Said) (sent place : ℕ) → small.Fits s sent place → back.GotBack s sent place
shore_back s sent place f = let b = small.fits_back s sent place f in record { said = b.0; sent = b.1; place = b.2 }

module _ (s : Shore) (store : List ℕ) where
  pub shore_received_back :
      (pdu reply : List ℕ) → length s.table.records ≡ PARTS → Bytes pdu → back.GivenBack (shore.received s store pdu reply).result
  shore_received_back pdu reply long b = shore_back _ _ _ (small.received_fits s store long pdu reply b)

  pub shore_closed_back :
      (n : ℕ) (reply : List ℕ) → length s.table.records ≡ PARTS → n < NUMBERS
      → back.GivenBack (shore.locally_closed s store n reply).result
  shore_closed_back n reply long h = shore_back _ _ _ (small.closed_fits s store long n reply h)

-- the request and a local open show no place
abbrev Placeless : Stepped → Type 0
Placeless x = (k : ℕ) → said_place x.said k ≡ 0

asking_placeless : (st : Standing) (version : ℕ) (charges : Charges) → Placeless (asking st version charges)
unfolding asking said_place
asking_placeless st version charges =
    choice Placeless (not (eqb st.shore.asked 0)) (λ e k. refl)
    (λ e. choice Placeless (bad_capabilities version charges) (λ f k. refl) (λ f k. refl))

opening_placeless : (st : Standing) (name : List ℕ) (class : ℕ) → Placeless (opening st name class)
unfolding opening said_place
opening_placeless st name class =
    choice Placeless (not st.shore.table.ready) (λ e k. refl)
    (λ e. choice Placeless (all_taken st.shore.table) (λ f k. refl)
    (λ f. choice Placeless (bad_request (class_in st class) name) (λ g k. refl)
    (λ g. choice Placeless (ltb PDU_MAX (length (create_request_bytes (number_next st) (class_in st class) name))) (λ i k. refl) (λ i k. refl))))

sending_placeless : (s : Shore) (out : List ℕ) (x : Stepped) → Placeless x → (k : ℕ) → said_place (sending s out x).result.said k ≡ 0
unfolding sending sends_of said_place
sending_placeless s out x h = choice Placeless (bad_out s.table (length out)) (λ e k. refl) (λ e. h)

abbrev pub SentFits : Sending → Type 0
SentFits r = small.Fits r.said r.sent PARTS

sent_fits : (r : Sending) → small.SendingFits r → ((k : ℕ) → said_place r.said k ≡ 0) → SentFits r
sent_fits r f none = record { small = f.small; sent = f.sent; place = rw (none PARTS) (lit< tt) }

module _ (s : Shore) where
  pub requested_placeless :
      (version : ℕ) (charges : Charges) (out : List ℕ) (k : ℕ) → said_place (requested s version charges out).result.said k ≡ 0
  unfolding requested
  requested_placeless version charges out =
      sending_placeless s out (asking (storeless s) version charges) (asking_placeless (storeless s) version charges)

  pub opened_placeless :
      (name : List ℕ) (class : ℕ) (out : List ℕ) (k : ℕ) → said_place (locally_opened s name class out).result.said k ≡ 0
  unfolding locally_opened
  opened_placeless name class out =
      sending_placeless s out (opening (storeless s) name class) (opening_placeless (storeless s) name class)

  pub requested_fits : (version : ℕ) (charges : Charges) (out : List ℕ) → SentFits (requested s version charges out).result
  requested_fits version charges out =
      sent_fits (requested s version charges out).result (small.requested_fits s version charges out)
      (requested_placeless version charges out)

  pub opened_fits : (name : List ℕ) (class : ℕ) (out : List ℕ) → SentFits (locally_opened s name class out).result
  opened_fits name class out =
      sent_fits (locally_opened s name class out).result (small.opened_fits s name class out) (opened_placeless name class out)

  pub requested_back : (version : ℕ) (charges : Charges) (out : List ℕ) → back.SendingBack (requested s version charges out).result
  requested_back version charges out = shore_back _ _ _ (requested_fits version charges out)

  pub opened_back : (name : List ℕ) (class : ℕ) (out : List ℕ) → back.SendingBack (locally_opened s name class out).result
  opened_back name class out = shore_back _ _ _ (opened_fits name class out)
