-- What each end's steps and the hosts put on the wire are encodings, which the other end takes for the event that they say.
-- Assumes nothing.
use Rattle.std.specs.Prelude.{Ok}
use mathlib.Core.Path.{◌≡◌, refl}
use mathlib.Core.Bool.{Bool, true, false}
use mathlib.Core.List.{List, []}
use Prim.Native.Nat.{ℕ, zero, suc, ◌^◌, ◌≤◌, ◌<◌}
use native.Mathlib.Omega.{arith}
use lib.Dec.{eqb, lit<}
use lib.IntN.{ℤ}
use lib.ListN.{length, take}
use mir.Syntax.{w32}
use mir.Val.{SFits}
use Rattle.paper.specs.Sizes.{PDU_MAX, REPLY_MIN, MESSAGE_MAX}
use Rattle.numbers.specs.Numbers.{NUMBERS, width_of}
use Rattle.numbers.proofs.Widths.{narrowest_le}
use Rattle.reading.specs.Reading.{read_pdu}
use Rattle.reading.specs.declared.Charges.{Charges}
use Rattle.reading.specs.Grammar.{Value, create_request_law, create_response_law, data_first_law, data_block, close}
use Rattle.reading.specs.Grammar.{capabilities_request, capabilities_response, Encodes}
use Rattle.reading.specs.Grammar.{InWidth, SmallCharges}
use Rattle.reading.specs.Grammar.{create_request_is, create_response_is, data_first_is, data_is, close_is}
use Rattle.reading.specs.Grammar.{capabilities_1_is, capabilities_is, capabilities_response_is}
use Rattle.laying.specs.Laying.{create_request_bytes, create_response_bytes, close_bytes, caps_request_bytes, caps_response_bytes}
use Rattle.laying.specs.Laying.{buffer_after, data_first_bytes, data_bytes}
use Rattle.laying.proofs.Lengths.{length_create_response, length_close, length_caps_response, length_caps_request}
use Rattle.laying.proofs.Encoded.{create_response_encoded, close_encoded, caps_response_encoded, data_encoded, data_first_encoded}
use Rattle.writing.specs.Writing.{bad_request, bad_capabilities, written, outcome}
use Rattle.writing.proofs.SameValues.{caps_request_encodes, create_request_good, went}
use Rattle.cutting.specs.Cutting.{is_first, block, cut_pdu, cut_at, cut_buffer, piece_of}
use Rattle.cutting.proofs.Answers.{given}
use Rattle.cutting.proofs.Blocks.{cut_first, cut_data, cut_fits}
use Rattle.lists.proofs.Cases.{choice}
use Rattle.paper.proofs.Sizes.{twelve_fit}
use Rattle.channel.specs.Turns.{OUR_VERSION}
use Rattle.demands.specs.Cut.{Cut, Cuts, last_one, one_more, CutByUs}
use Rattle.shore.specs.Events.{event_of}
use Rattle.joined.specs.Ends.{HostData, data_first_law as is_first_law, data_more}
use Rattle.joined.specs.Joined.{OneOf, here, there}
use Rattle.shore_demands.proofs.Values.{event_of_value as said_by, encoded_event}
use Rattle.joined.proofs.Queues.{Sent, down_of, up_of, response_of}

-- ---- what the steps send

-- a reply is of nine bytes at most
pub nine_fit : REPLY_MIN ≤ PDU_MAX
unfolding REPLY_MIN
nine_fit = omega (arith, twelve_fit)

-- a Close
pub close_short : (n : ℕ) → length (close_bytes n) ≤ REPLY_MIN
unfolding REPLY_MIN
close_short n = omega (arith, length_close n, narrowest_le n)

-- a Create response
pub created_short : (n : ℕ) (status : ℤ) → length (create_response_bytes n status) ≤ REPLY_MIN
unfolding REPLY_MIN
created_short n status = omega (arith, length_create_response n status, narrowest_le n)

-- the Capabilities response
pub response_short : (version : ℕ) → length (caps_response_bytes version) ≤ REPLY_MIN
unfolding REPLY_MIN
response_short version = omega (arith, length_caps_response version)

-- the Capabilities request is of twelve at most
pub request_short : (version : ℕ) (charges : Charges) → length (caps_request_bytes version charges) ≤ PDU_MAX
request_short version charges =
    rw (length_caps_request version charges)
    (choice (λ (k : ℕ). k ≤ PDU_MAX) (eqb version 1) {a = 4} {b = 12} (λ _. omega (arith, twelve_fit)) (λ _. twelve_fit))

-- a Close, of either end
abbrev pub close_sent : (dir : Bool) (n : ℕ) → n < NUMBERS → Sent dir (close_bytes n)
close_sent dir n small =
    record { value = close n; encodes = close_encoded n small dir; short_enough = omega (arith, close_short n, nine_fit) }

-- a Create response
abbrev pub created_sent : (n : ℕ) → n < NUMBERS → (status : ℤ) → SFits w32 status → Sent false (create_response_bytes n status)
created_sent n small status fits =
    record {
      value = create_response_law n status;
      encodes = create_response_encoded n small status fits;
      short_enough = omega (arith, created_short n status, nine_fit);
    }

-- the Capabilities response
abbrev pub response_sent : Sent false (caps_response_bytes OUR_VERSION)
response_sent =
    record {
      value = capabilities_response OUR_VERSION;
      encodes = caps_response_encoded OUR_VERSION (omega arith) (omega arith);
      short_enough = omega (arith, response_short OUR_VERSION, nine_fit);
    }

-- the Capabilities request
abbrev pub request_sent :
    (version : ℕ) (charges : Charges) → SmallCharges charges → bad_capabilities version charges ≡ false → Sent true (caps_request_bytes version charges)
request_sent version charges small good =
    record {
      value = capabilities_request version charges;
      encodes = caps_request_encodes version charges small good;
      short_enough = request_short version charges;
    }

-- a Create request
abbrev pub create_sent :
    (n class : ℕ) (name : List ℕ) → n < NUMBERS → bad_request class name ≡ false → length (create_request_bytes n class name) ≤ PDU_MAX
    → Sent true (create_request_bytes n class name)
create_sent n class name small good short =
    record { value = create_request_law n class name; encodes = (create_request_good n class name small).encodes good; short_enough = short }

-- ---- the hosts' data

-- it is an encoding
abbrev pub data_sent : (dir : Bool) {pdu : List ℕ} → HostData pdu → Sent dir pdu
data_sent dir (is_first_law n len block small low short) =
    record { value = data_first_law n len block; encodes = data_first_encoded n small dir len block low; short_enough = short }
data_sent dir (data_more n block small short) = record { value = data_block n block; encodes = data_encoded n small dir block; short_enough = short }

-- it says nothing of what is open
pub data_silent :
    (dir : Bool) {pdu : List ℕ} (h : HostData pdu) (n : ℕ)
    → (down_of n (data_sent dir h).value ≡ []) × ((up_of n (data_sent dir h).value ≡ []) × (response_of (data_sent dir h).value ≡ []))
data_silent dir (is_first_law m len block small low short) n = (refl, (refl, refl))
data_silent dir (data_more m block small short) n = (refl, (refl, refl))

-- what our writers write
pub written_first :
    (n len : ℕ) (block out : List ℕ) (k : ℕ) → n < NUMBERS → len < NUMBERS
    → written false (data_first_bytes n len block) out ≡ Ok k
    → HostData (take k (buffer_after (outcome (written false (data_first_bytes n len block) out)) (data_first_bytes n len block) out))
written_first n len block out k small low g =
    let w = went false (data_first_bytes n len block) out _ _ k refl refl g in
    rw w.stands (is_first_law n len block small low w.short_enough)

-- a Data
pub written_data :
    (n : ℕ) (block out : List ℕ) (k : ℕ) → n < NUMBERS → written false (data_bytes n block) out ≡ Ok k
    → HostData (take k (buffer_after (outcome (written false (data_bytes n block) out)) (data_bytes n block) out))
written_data n block out k small g =
    let w = went false (data_bytes n block) out _ _ k refl refl g in
    rw w.stands (data_more n block small w.short_enough)

-- and what we cut
message_small : MESSAGE_MAX < NUMBERS
unfolding MESSAGE_MAX
message_small = lit< tt

-- a block's PDU
cut_data_is : (n : ℕ) (m : List ℕ) (at : ℕ) → n < NUMBERS → length m ≤ MESSAGE_MAX → HostData (cut_pdu n m at)
cut_data_is n m at small short = go (is_first (length m) at) refl
  where
    fits : length (cut_pdu n m at) ≤ PDU_MAX
    fits = cut_fits n m at

    go : (t : Bool) → is_first (length m) at ≡ t → HostData (cut_pdu n m at)
    go true e = rw (cut_first n m at e) (is_first_law n (length m) (block n m at) small (omega (arith, message_small)) (rw (cut_first n m at e) at fits))
    go false e = rw (cut_data n m at e) (data_more n (block n m at) small (rw (cut_data n m at e) at fits))

-- one call
cut_one :
    (n : ℕ) (m : List ℕ) (at : ℕ) (out : List ℕ) (len next : ℕ) → n < NUMBERS → cut_at n m at out ≡ Ok (piece_of len next)
    → HostData (take len (cut_buffer n m at out))
cut_one n m at out len next small e = let g = given n m at out len next e in rw g.stands (cut_data_is n m at small g.short_enough)

module _ (n : ℕ) (m : List ℕ) (lent : ℕ → List ℕ) (small : n < NUMBERS) where
  -- each of the calls
  cuts_are :
      (at : ℕ) (cs : List Cut) → Cuts (λ o. cut_at n m o (lent o)) (λ o. cut_buffer n m o (lent o)) (length m) at cs
      → (c : Cut) → OneOf c cs → HostData c.pdu
  cuts_are at cs (last_one len next e end) c here = cut_one n m at (lent at) len next small e
  cuts_are _ _ (last_one {at = at} len next e end) c (there o) = elim o [ ]
  cuts_are at cs (one_more len next rest e below k) c here = cut_one n m at (lent at) len next small e
  cuts_are at cs (one_more len next rest e below k) c (there o) = cuts_are next rest k c o

-- from the first on
pub cut_by_us :
    (n : ℕ) (m : List ℕ) (lent : ℕ → List ℕ) (cs : List Cut) → n < NUMBERS → CutByUs n m lent cs
    → (c : Cut) → OneOf c cs → HostData c.pdu
cut_by_us n m lent cs small by c o = cuts_are n m lent small 0 cs by c o

-- ---- what reading makes sure of: a number of four bytes, a version from 1 on

-- by kind
abbrev pub Within : Value → Type 0
Within (create_request_law n class name) = n < NUMBERS
Within (create_response_law n status) = n < NUMBERS
Within (data_first_law n len block) = n < NUMBERS
Within (data_block n block) = n < NUMBERS
Within (close n) = n < NUMBERS
Within (capabilities_request version charges) = 1 ≤ version
Within (capabilities_response version) = 1 ≤ version

-- the three widths
in_four : (code number : ℕ) → code ≤ 2 → number < 256 ^ width_of code → number < NUMBERS
unfolding width_of
in_four zero number c h = omega arith
in_four (suc zero) number c h = omega arith
in_four (suc (suc zero)) number c h = h
in_four (suc (suc (suc code))) number c h = absurd (omega arith)

-- a number in any width
in_width : {code number : ℕ} → InWidth code number → number < NUMBERS
in_width {code} {number} k = in_four code number k.good k.holds

-- of every encoding
within : {dir : Bool} {v : Value} {bytes : List ℕ} → Encodes dir v bytes → Within v
within (create_request_is code number pri name k p z e) = in_width k
within (create_response_is code sp number status k p z e) = in_width k
within (data_first_is dir code lengthCode number len block k q e) = in_width k
within (data_is dir code sp number block k p e) = in_width k
within (close_is dir code sp number k p e) = in_width k
within (capabilities_1_is sp p e) = omega arith
within (capabilities_is sp version charges p h k z e) = omega arith
within (capabilities_response_is sp version p h k e) = h

-- and of what is on its way
pub sent_within : {dir : Bool} {pdu : List ℕ} (s : Sent dir pdu) → Within s.value
sent_within s = within s.encodes

-- ---- the shore's event is what the values say

-- of what is on its way
pub shore_event : {pdu : List ℕ} (s : Sent false pdu) → event_of pdu (read_pdu false pdu) ≡ said_by s.value
shore_event {pdu} s = encoded_event s.value pdu s.encodes s.short_enough
