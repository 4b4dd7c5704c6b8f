-- What a step may touch: only the part of the channel concerned; a freed record is as Start made it; whatever two lists are
-- lent, an open channel comes out the same.
-- Assumes nothing.
use mathlib.Core.Path.{◌≡◌, refl, sym, ap, ◌∙◌}
use mathlib.Core.Logic.{◌≢◌}
use mathlib.Core.Bool.{Bool, true, false}
use mathlib.Core.List.{List}
use Prim.Native.Nat.{ℕ, ◌≤◌}
use borrow.Author.Tests.{eqb-true}
use lib.Dec.{eqb}
use Rattle.paper.specs.Sizes.{PART}
use Rattle.lists.specs.Bytes.{zeros}
use Rattle.lists.proofs.Cases.{choice}
use Rattle.lists.proofs.Laid.{length_zeros}
use Rattle.reading.specs.Said.{bytes_at}
use Rattle.reading.proofs.Placed.{Placed}
use Rattle.listeners.specs.Listeners.{good_list}
use Rattle.reading.specs.declared.Pdu.{Pdu}
use Rattle.reading.specs.declared.Pdu.TheVariants.{CreateRequest, CreateResponse, DataFirst, Data, Close, CapsRequest, CapsResponse, Refused}
use Rattle.channel.specs.declared.Record.{Record}
use Rattle.channel.specs.Channel.{blank, Act, View, Shut, Open, Room, act}
use Rattle.table.specs.Table.{number_place, free_place, record_at}
use Rattle.table.proofs.Records.{at_same}
use Rattle.store.specs.Parts.{part, with_part}
use Rattle.store.proofs.Parts.{there, inside, part_same, part_other}
use Rattle.connection.specs.States.{State, view, room_in, wrote, save, Steady, FineAct}
use Rattle.client.specs.Events.{Of, create_act, event_of, close_act}
use Rattle.client.specs.Client.{stepped}
use Rattle.connection.proofs.Views.{own_part}
use Rattle.connection.proofs.Frame.{Fits, room_for_law, kept_long, there_is}
use Rattle.steps.specs.States.{ruled}
use Rattle.steps.proofs.Channels.{ruled_fits, step_state, step_own, step_other}
use Rattle.steps.proofs.Calm.{fine_create}

-- a save touches no part but that of the channel with number n
save_parts :
    (n : ℕ) (st : State) (g : Steady st) (v w : View) → view n st ≡ v → Fits n (room_in st) v w → (j : ℕ) → j ≢ number_place n st.table
    → part (save n st v w).store j ≡ part st.store j
unfolding save wrote
save_parts n st g Shut Shut h f j d = refl
save_parts n st g Shut (Open r b) h f j d =
    let o = room_for_law n st g r b f in
    let k = free_place st.table in
    ap (λ (s : List ℕ). part s j) (ap (with_part st.store k) o.bytes ∙ own_part st.store k g.bytes o.inside_it)
save_parts n st g (Open old kept) Shut h f j d =
    let k = number_place n st.table in
    part_other st.store k j (zeros PART) d (length_zeros PART) (inside st.store k (there st.store k g.bytes (there_is n st g old kept h)))
save_parts n st g (Open old kept) (Open r b) h f j d =
    let k = number_place n st.table in
    part_other st.store k j b d (f.1.0 ∙ kept_long n st g old kept h) (inside st.store k (there st.store k g.bytes (there_is n st g old kept h)))

-- "Only a channel's own part is lent on to be written."
pub step_parts :
    (n : ℕ) (st : State) (g : Steady st) (a : Act) → FineAct a → (j : ℕ) → j ≢ number_place n st.table
    → part (stepped st (Of n a)).state.store j ≡ part st.store j
step_parts n st g a z j d = ap (λ (s : State). part s.store j) (step_state st g n a) ∙ save_parts n st g (view n st) (ruled n st a).view refl (ruled_fits st g n a z) j d

-- an open channel that closes
closes :
    (level n : ℕ) (room : Room) (v : View) (r : Record) (b : List ℕ) (local : Bool) → v ≡ Open r b
    → (act level n room v (close_act local)).view ≡ Shut
unfolding act
closes level n room v r b true h = rw h
closes level n room v r b false h = rw h

-- an open channel that is shut: its record is as Start made it, and its part is zero
pub shut_frees :
    (n : ℕ) (st : State) (g : Steady st) (r : Record) (b : List ℕ) → view n st ≡ Open r b
    → (record_at (save n st (Open r b) Shut).table (number_place n st.table) ≡ blank) × (part (save n st (Open r b) Shut).store (number_place n st.table) ≡ zeros PART)
unfolding save wrote
shut_frees n st g r b h =
    let k = number_place n st.table in
    let l = there_is n st g r b h in
    (at_same st.table k blank (rw g.rows l), part_same st.store k (zeros PART) (length_zeros PART) (inside st.store k (there st.store k g.bytes l)))

close_state :
    (n : ℕ) (st : State) (g : Steady st) (r : Record) (b : List ℕ) (local : Bool) → view n st ≡ Open r b
    → (stepped st (Of n (close_act local))).state ≡ save n st (Open r b) Shut
close_state n st g r b local h =
    step_state st g n (close_act local)
    ∙ ap (save n st (view n st)) (closes st.table.level n (room_in st) (view n st) r b local h)
    ∙ ap (λ (v : View). save n st v Shut) h

-- "A freed record is as Start made it", and "every byte of its part becomes zero"
pub close_frees :
    (n : ℕ) (st : State) (g : Steady st) (r : Record) (b : List ℕ) (local : Bool) → view n st ≡ Open r b
    → (record_at (stepped st (Of n (close_act local))).state.table (number_place n st.table) ≡ blank) × (part (stepped st (Of n (close_act local))).state.store (number_place n st.table) ≡ zeros PART)
close_frees n st g r b local h = rw (close_state n st g r b local h) (shut_frees n st g r b h)

-- ---- the list

-- a Create request leaves an open channel as it is, whatever the list
create_keeps :
    (level n : ℕ) (room : Room) (r : Record) (b list name : List ℕ) (pri : ℕ)
    → (act level n room (Open r b) (create_act list name pri)).view ≡ Open r b
unfolding act create_act
create_keeps level n room r b list name pri = choice (λ (a : Act). (act level n room (Open r b) a).view ≡ Open r b) (good_list list) (λ e. refl) (λ e. refl)

create_open :
    (st : State) (g : Steady st) (m n : ℕ) (list name : List ℕ) (pri : ℕ) → pri ≤ 3 → (r : Record) (b : List ℕ) → view m st ≡ Open r b
    → view m (stepped st (Of n (create_act list name pri))).state ≡ Open r b
create_open st g m n list name pri z r b h = go (eqb n m) refl
  where
    go : (t : Bool) → eqb n m ≡ t → view m (stepped st (Of n (create_act list name pri))).state ≡ Open r b
    go true e =
        let q : n ≡ m = eqb-true n m e in
        rw q (step_own st g m (create_act list name pri) (fine_create list name pri z) ∙ rw h (create_keeps st.table.level m (room_in st) r b list name pri))
    go false e = step_other m st g (Of n (create_act list name pri)) (fine_create list name pri z) e ∙ h

-- "it may differ from call to call, and that never touches an open channel"
pub two_lists :
    (st : State) (g : Steady st) (one two pdu : List ℕ) (p : Pdu) → Placed pdu p → (m : ℕ) (r : Record) (b : List ℕ)
    → view m st ≡ Open r b → view m (stepped st (event_of one pdu p)).state ≡ view m (stepped st (event_of two pdu p)).state
unfolding event_of
two_lists st g one two pdu (CreateRequest n class name) z m r b h = create_open st g m n one (bytes_at pdu name) class z.1 r b h ∙ sym (create_open st g m n two (bytes_at pdu name) class z.1 r b h)
two_lists st g one two pdu (CreateResponse n status) z m r b h = refl
two_lists st g one two pdu (DataFirst n len block) z m r b h = refl
two_lists st g one two pdu (Data n block) z m r b h = refl
two_lists st g one two pdu (Close n) z m r b h = refl
two_lists st g one two pdu (CapsRequest version charges) z m r b h = refl
two_lists st g one two pdu (CapsResponse version) z m r b h = refl
two_lists st g one two pdu (Refused why) z m r b h = refl
