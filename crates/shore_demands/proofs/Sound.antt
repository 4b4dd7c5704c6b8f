-- Whatever is called, a sound table stays sound.
-- Assumes nothing.
use mathlib.Core.Path.{◌≡◌, refl, ap, ◌∙◌}
use mathlib.Core.Bool.{Bool, true, false}
use mathlib.Core.List.{List}
use Prim.Native.Nat.{ℕ}
use lib.ListN.{length}
use Rattle.paper.specs.Sizes.{PARTS, STORE}
use Rattle.lists.specs.Bytes.{zeros}
use Rattle.lists.proofs.Cases.{choice}
use Rattle.lists.proofs.Laid.{length_zeros}
use Rattle.reading.specs.Reading.{read_pdu}
use Rattle.reading.specs.declared.Charges.{Charges}
use Rattle.channel.specs.Channel.{LocalClose}
use Rattle.table.specs.Sound.{sound_table}
use Rattle.connection.specs.States.{State}
use Rattle.client.specs.Client.{bad_call}
use Rattle.client.proofs.Calls.{proper}
use Rattle.steps.specs.States.{Sane}
use Rattle.shore.specs.declared.Shore.{Shore}
use Rattle.shore.specs.Rules.{Acts}
use Rattle.shore.specs.Events.{Event, Of, event_of}
use Rattle.shore.specs.Shore.{Standing, standing, state_in, Stepped, stepped, whole_of, guarded, received, locally_closed, sends_of, bad_out, storeless}
use Rattle.shore.specs.Shore.{sending, requested, locally_opened}
use Rattle.shore_demands.specs.Runs.{receives, opens, Call, gives, after, event_in}
use Rattle.shore_demands.proofs.Frame.{FineEvent, ask_state, sane_step}
use Rattle.shore_demands.proofs.Machine.{call_state, fine_call}
use Rattle.shore_demands.proofs.ReadBack.{room_out}

abbrev IsSound : Stepped → Type 0
IsSound x = sound_table x.state.shore.table ≡ true

-- a call that is lent the store
guarded_sound :
    (s : Shore) (store reply : List ℕ) (e : Event) → FineEvent e → length s.table.records ≡ PARTS → sound_table s.table ≡ true
    → sound_table (guarded s store reply (stepped (standing s store) e)).result.shore.table ≡ true
unfolding guarded whole_of
guarded_sound s store reply e z rows sound =
    choice IsSound (bad_call s.table (length store) (length reply)) (λ b. sound)
    (λ b. let p = proper s.table (length store) (length reply) b in
    (sane_step (standing s store) (record { rows = rows; bytes = p.store_size; sound = sound }) e z).sound)

pub receive_sound :
    (s : Shore) (store pdu reply : List ℕ) → length s.table.records ≡ PARTS → sound_table s.table ≡ true
    → sound_table (received s store pdu reply).result.shore.table ≡ true
unfolding received event_in
receive_sound s store pdu reply = guarded_sound s store reply (event_of pdu (read_pdu false pdu)) (fine_call (receives pdu))

pub local_close_sound :
    (s : Shore) (store : List ℕ) (n : ℕ) (reply : List ℕ) → length s.table.records ≡ PARTS
    → sound_table s.table ≡ true → sound_table (locally_closed s store n reply).result.shore.table ≡ true
unfolding locally_closed
local_close_sound s store n reply = guarded_sound s store reply (Of n (Acts LocalClose)) tt

-- the request leaves the table
pub request_sound :
    (s : Shore) (version : ℕ) (charges : Charges) (out : List ℕ) → sound_table s.table ≡ true
    → sound_table (requested s version charges out).result.shore.table ≡ true
unfolding requested sending sends_of
request_sound s version charges out sound =
    choice IsSound (bad_out s.table (length out)) (λ b. sound)
    (λ b. ap (λ (x : State). sound_table x.table) (ask_state (storeless s) version charges) ∙ sound)

-- a proper call leaves a sane state sane
sane_call : (st : Standing) → Sane (state_in st) → (c : Call) → Sane (state_in (after st c))
sane_call st s c = rw (call_state st c s) (sane_step st s (event_in c.asked) (fine_call c.asked))

-- a local open looks at no store: it is as on one of its size
pub local_open_sound :
    (s : Shore) (name : List ℕ) (class : ℕ) (out : List ℕ) → length s.table.records ≡ PARTS
    → sound_table s.table ≡ true → sound_table (locally_opened s name class out).result.shore.table ≡ true
unfolding locally_opened sending sends_of after gives
local_open_sound s name class out rows sound = go (bad_out s.table (length out)) refl
  where
    go : (b : Bool) → bad_out s.table (length out) ≡ b → sound_table (locally_opened s name class out).result.shore.table ≡ true
    go true b = rw b sound
    go false b =
        (sane_call (standing s (zeros STORE)) (record { rows = rows; bytes = length_zeros STORE; sound = sound })
        (record { asked = opens name class; buffer = out; enough = room_out s out b })).sound
