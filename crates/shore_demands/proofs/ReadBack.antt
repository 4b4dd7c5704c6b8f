-- "What we write we read back as the same values": what the shore sends stands at the front of the buffer, and is the encoding that the
-- client reads.
-- Assumes nothing.
use mathlib.Core.Path.{◌≡◌, refl, sym, ap, ◌∙◌, subst}
use mathlib.Core.Logic.{⊎_elim}
use mathlib.Core.Bool.{Bool, true, false, not}
use mathlib.Core.List.{List}
use Prim.Native.Nat.{ℕ, ◌≤◌, ◌<◌}
use native.Mathlib.Omega.{arith}
use borrow.Author.Tests.{ltb-false}
use lib.Dec.{eqb, ltb}
use lib.ListN.{length, take}
use Rattle.paper.specs.Sizes.{PARTS, PDU_MAX, REPLY_MIN}
use Rattle.lists.specs.Bytes.{laid}
use Rattle.lists.proofs.Cases.{choice, neither}
use Rattle.lists.proofs.Laid.{front}
use Rattle.numbers.specs.Numbers.{NUMBERS}
use Rattle.reading.specs.declared.Charges.{Charges}
use Rattle.reading.specs.Grammar.{Value, create_request_law, close, capabilities_request, values, read_as, SmallCharges}
use Rattle.reading.proofs.Grammar.{every_encoding}
use Rattle.laying.specs.Laying.{create_request_bytes, close_bytes, caps_request_bytes}
use Rattle.laying.proofs.Lengths.{length_caps_request}
use Rattle.writing.specs.Writing.{bad_capabilities}
use Rattle.writing.proofs.SameValues.{Good, close_good, create_request_good, caps_request_good}
use Rattle.channel.specs.Channel.{LocalClose, View, Shut, Open, NoRoom, class_at, act}
use Rattle.table.specs.Sound.{sound_table}
use Rattle.connection.specs.States.{view}
use Rattle.client.specs.Client.{bad_call}
use Rattle.client.proofs.Calls.{proper}
use Rattle.demands.proofs.Machine.{act_short}
use Rattle.shore.specs.declared.Shore.{Shore}
use Rattle.shore.specs.declared.Said.{Said}
use Rattle.shore.specs.declared.Said.TheVariants.{Asked, Awaited, Closed}
use Rattle.shore.specs.Saying.{said_as}
use Rattle.shore.specs.Rules.{as_open, common, deed}
use Rattle.shore.specs.Numbers.{least_number}
use Rattle.shore.specs.Shore.{standing, state_in, Stepped, asking, finished, done, stepped, whole_of, guarded, locally_closed}
use Rattle.shore.specs.Shore.{sends_of, bad_out, storeless, sending, requested, locally_opened}
use Rattle.shore.proofs.Least.{least_range}
use Rattle.shore_demands.proofs.Frame.{denied_or_granted}

-- what is laid at the front of a buffer with room for it
read_there :
    {bad : Bool} (pdu out : List ℕ) (v : Value) → Good true bad pdu v → bad ≡ false → length pdu ≤ PDU_MAX → length pdu ≤ length out
    → read_as true (take (length pdu) (laid out 0 pdu)) ≡ values v
read_there pdu out v good e short room = ap (read_as true) (front out pdu room) ∙ every_encoding true v pdu (good.encodes e) short

-- a step's answer is this, so what it sends reads as that
abbrev Reads : Said → Value → List ℕ → Stepped → Type 0
Reads said v buffer s = s.said ≡ said → read_as true (take (length s.sent) (laid buffer 0 s.sent)) ≡ values v

-- ---- the request and a local open

-- a written PDU's buffer has room
pub room_out : (s : Shore) (out : List ℕ) → bad_out s.table (length out) ≡ false → PDU_MAX ≤ length out
unfolding bad_out
room_out s out h = ltb-false (length out) PDU_MAX (neither (ltb (length out) PDU_MAX) (not (sound_table s.table)) h).0

-- a request is short
pub request_short : (version : ℕ) (charges : Charges) → length (caps_request_bytes version charges) ≤ PDU_MAX
unfolding PDU_MAX
request_short version charges = rw (length_caps_request version charges) (choice (λ (n : ℕ). n ≤ PDU_MAX) (eqb version 1) (λ e. omega arith) (λ e. omega arith))

pub request_back :
    (s : Shore) (version : ℕ) (charges : Charges) (out : List ℕ) → SmallCharges charges
    → (requested s version charges out).result.said ≡ Asked version
    → read_as true (take (requested s version charges out).result.sent (requested s version charges out).out)
    ≡ values (capabilities_request version charges)
unfolding requested sending sends_of asking
request_back s version charges out small =
    let P = Reads (Asked version) (capabilities_request version charges) out in
    choice P (bad_out s.table (length out)) (λ b e. cc)
    (λ b. choice P (not (eqb s.asked 0)) (λ t e. cc)
    (λ t. choice P (bad_capabilities version charges) (λ g e. cc)
    (λ g e. read_there (caps_request_bytes version charges) out _ (caps_request_good version charges small) g (request_short version charges)
    (omega (arith, request_short version charges, room_out s out b)))))

-- the smallest number is a number of four bytes
least_small : (s : Shore) → least_number s.table < NUMBERS
unfolding PARTS
least_small s = omega (arith, (least_range s.table).1)

pub local_open_back :
    (s : Shore) (name : List ℕ) (class n : ℕ) (out : List ℕ)
    → (locally_opened s name class out).result.said ≡ Awaited n
    → read_as true (take (locally_opened s name class out).result.sent (locally_opened s name class out).out)
    ≡ values (create_request_law n (class_at s.table.level class) name)
unfolding locally_opened sending sends_of
local_open_back s name class n out =
    let m = least_number s.table in
    let k = class_at s.table.level class in
    let P = Reads (Awaited n) (create_request_law n k name) out in
    choice P (bad_out s.table (length out)) (λ b e. cc)
    (λ b.
    ⊎_elim (λ d. subst P (sym d.is) (λ e. cc))
    (λ g. subst P (sym g.is) (λ e.
    let same : m ≡ n = cc in
    let room : length (create_request_bytes m k name) ≤ length out = omega (arith, g.short, room_out s out b) in
    rw (← same) (read_there (create_request_bytes m k name) out _ (create_request_good m k name (least_small s)) g.good g.short room)))
    (denied_or_granted (storeless s) name class))

-- ---- a local close

-- the rules of one number send a Close where they say that it is closed
closed_sends :
    (level n : ℕ) (v : View) → said_as (act level n NoRoom v LocalClose).answer ≡ Closed n → (act level n NoRoom v LocalClose).reply ≡ close_bytes n
unfolding act said_as
closed_sends level n Shut e = cc
closed_sends level n (Open r part) e = refl

pub local_close_back :
    (s : Shore) (store : List ℕ) (n : ℕ) (reply : List ℕ) → n < NUMBERS
    → (locally_closed s store n reply).result.said ≡ Closed n
    → read_as true (take (locally_closed s store n reply).result.sent (locally_closed s store n reply).reply) ≡ values (close n)
unfolding locally_closed guarded whole_of stepped done finished deed common REPLY_MIN PDU_MAX
local_close_back s store n reply small =
    let P = Reads (Closed n) (close n) reply in
    let st = standing s store in
    choice P (bad_call s.table (length store) (length reply)) (λ b e. cc)
    (λ b. choice P s.table.ready
    (λ t e.
    let sent = closed_sends s.table.level n (as_open (view n (state_in st))) e in
    let short : length (close_bytes n) ≤ REPLY_MIN = rw sent at (act_short s.table.level n NoRoom (as_open (view n (state_in st))) LocalClose) in
    rw sent
    (read_there (close_bytes n) reply _ (close_good true n small) refl (omega arith)
    (omega (arith, (proper s.table (length store) (length reply) b).reply_size))))
    (λ t e. cc))
