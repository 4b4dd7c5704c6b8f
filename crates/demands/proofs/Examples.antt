-- The examples of strangers' channels, by computing: each run is read once, the paper's steps on its events give the flags, and what a
-- channel is told is what its own events give with theirs.
-- Assumes nothing.
use mathlib.Core.Path.{◌≡◌, refl, sym, ap, ◌∙◌}
use mathlib.Core.Bool.{Bool, true, false}
use mathlib.Core.List.{List, [], ◌∷◌, map}
use Prim.Native.Nat.{ℕ}
use Rattle.paper.specs.Sizes.{PDU_MAX, MESSAGE_MAX, LIST_MAX, PARTS, STORE}
use Rattle.paper.specs.declared.Refusal.TheVariants.{CutShort, NoCommand}
use Rattle.lists.specs.Bytes.{zeros}
use Rattle.lists.specs.Places.{place}
use Rattle.lists.proofs.Laid.{length_zeros}
use Rattle.numbers.specs.Numbers.{little, value_of, value_at, width_of}
use Rattle.reading.specs.Reading.{named_for, create_request, data_first, closing, after_number, bad_length_width, numbered, by_command, read_pdu}
use Rattle.reading.specs.Said.{bytes_at}
use Rattle.reading.specs.Garbled.{brings_block, whole_in, carries_by, carries}
use Rattle.listeners.specs.Listeners.{names, ended, none_empty, same_bytes, is_one_of, all_names, good_list, is_listed}
use Rattle.channel.specs.declared.Offer.TheVariants.{First, More}
use Rattle.channel.specs.declared.Decline.TheVariants.{Full}
use Rattle.channel.specs.declared.Answer.TheVariants.{Opened, Declined, Message}
use Rattle.channel.specs.Stages.{added, took_first, took}
use Rattle.channel.specs.Channel.{Create, Bring, Garbled, Closing, LocalClose, opened_record, restaged, opening, stage_after}
use Rattle.channel.specs.Channel.{part_after, answer_to, landed, act}
use Rattle.table.specs.Totals.{is_open, opens as opens_one, moved, changed}
use Rattle.table.specs.Table.{empty_table, holds, is_free, number_place, free_place, record_at, placed, with_record}
use Rattle.connection.specs.States.{State, state_of, view_at, view, room_at, room_in, wrote, save}
use Rattle.client.specs.Events.{Event, Unreadable, Capabilities, Of, create_act, unread, event_of, is_of}
use Rattle.client.specs.Client.{Stepped, finished, acted, readied, stepped}
use Rattle.client.proofs.Steps.{made_ready}
use Rattle.steps.specs.States.{Calm}
use Rattle.demands.specs.Trace.{cons_if, keep, final}
use Rattle.demands.specs.Joining.{Off, gathered, starts_with, goes_on, joins, joins_if}
use Rattle.demands.specs.Telling.{why_not, answered, step_says, says_if, hands_up, told_if, told_with}
use Rattle.demands.specs.Runs.{Call, gives, after, Told, told_to, ends, own_events, event_in, is_event_of, events_of, full_table}
use Rattle.demands.specs.Runs.{asks_room, event_meets_full, meets_full, full_flags}
use Rattle.demands.specs.Managers.{paper_start, paper_next, Roomy}
use Rattle.demands.specs.Managers.{flags_for}
use Rattle.demands.specs.Examples.{call, PUMP, asks, opens, closed, closed_here, begins, brings, garbles, hello, just_ready}
use Rattle.demands.specs.Examples.{replies, hands, beside_few, beside_many, told_to_five, alone, behind_sixteen}
use Rattle.demands.specs.Orders.{NeverFull}
use Rattle.demands.specs.Strangers.{Reached, by_start, by_receive, WithList, happening, own_happenings, answers_to}
use Rattle.demands.specs.Strangers.{BesideFewOrMany, AloneOrBehindSixteen}
use Rattle.demands.proofs.Machine.{call_state}
use Rattle.demands.proofs.Orders.{empty_unready, fresh, calm_call, told_shut}
use Rattle.demands.proofs.Ready.{just_ready_law, ready_is}
use Rattle.demands.proofs.Third.{own_map, pick, seen_pick, marks}
use Rattle.demands.proofs.ByFlags.{full_from}

unfoldable pub opened : ℕ → Event
opened n = Of n (Create true 0)

unfoldable pub few_events : List Event
few_events =
    opened 5
    ∷ opened 6
    ∷ Of 5 (Bring (First 3) (1 ∷ []))
    ∷ Of 6 (Garbled CutShort)
    ∷ Of 5 (Bring More (2 ∷ 3 ∷ []))
    ∷ Of 6 (Bring More (4 ∷ []))
    ∷ Of 5 (Garbled CutShort)
    ∷ Of 6 Closing
    ∷ Of 5 (Bring More (9 ∷ []))
    ∷ opened 6
    ∷ Of 5 LocalClose
    ∷ Of 6 (Bring More (4 ∷ []))
    ∷ opened 5
    ∷ Of 5 (Bring More (7 ∷ 8 ∷ []))
    ∷ []

unfoldable pub many_events : List Event
many_events =
    opened 1 ∷ opened 2 ∷ opened 3 ∷ opened 4
    ∷ opened 5
    ∷ opened 6 ∷ opened 7 ∷ opened 8 ∷ opened 9 ∷ opened 10 ∷ opened 11 ∷ opened 12 ∷ opened 13 ∷ opened 14 ∷ opened 15 ∷ opened 16
    ∷ Of 5 (Bring (First 3) (1 ∷ []))
    ∷ opened 17
    ∷ Of 16 (Bring (First 3) (6 ∷ []))
    ∷ Of 5 (Bring More (2 ∷ 3 ∷ []))
    ∷ Of 5 (Garbled CutShort)
    ∷ Of 16 (Garbled CutShort)
    ∷ Unreadable NoCommand
    ∷ Of 5 (Bring More (9 ∷ []))
    ∷ Of 16 Closing
    ∷ opened 17
    ∷ Of 5 LocalClose
    ∷ opened 5
    ∷ Of 17 (Bring More (4 ∷ []))
    ∷ Of 5 (Bring More (7 ∷ 8 ∷ []))
    ∷ []

-- ---- a run from the connection just made ready, by its events

-- where it begins, as the paper's steps have it
unfoldable pub paper_ready : State
paper_ready = (readied (state_of empty_table (zeros STORE)) 3).state

begins_there : just_ready ≡ paper_ready
unfolding paper_ready
begins_there = ready_is

pub paper_ready_law : paper_next paper_start (Capabilities 3) ≡ paper_ready
unfolding paper_ready paper_start
paper_ready_law = ap (λ (s : Stepped). s.state) (made_ready (state_of empty_table (zeros STORE)) 3 empty_unready)

ready_calm : Calm just_ready
ready_calm = (fresh just_ready just_ready_law).running.calm

-- a run, its events, and which of them meet a full table
pub record Ran (xs : List Call) (es : List Event) (fs : List Bool) : Type 0 where
  pub read : events_of xs ≡ es
  pub full : full_from paper_ready es ≡ fs

-- the flags of a run are those of its events
flags_by : (n : ℕ) (st : State) → Calm st → (xs : List Call) → full_flags n st xs ≡ flags_for n st (events_of xs)
unfolding full_flags flags_for is_event_of meets_full
flags_by n st g [] = refl
flags_by n st g (c ∷ xs) =
    ap (cons_if (is_of n (event_in c.asked)) (event_meets_full st (event_in c.asked))) (flags_by n (after st c) (calm_call st g c) xs
    ∙ ap (λ (s : State). flags_for n s (events_of xs)) (call_state st c g.sane))

-- a channel's own calls are those that its events mark
kept_picked : {A : Type 0} (on : A → Bool) (xs : List A) → keep on xs ≡ pick (map on xs) xs
kept_picked on [] = refl
kept_picked on (x ∷ xs) = ap (cons_if (on x) x) (kept_picked on xs)

module _ {xs : List Call} {es : List Event} {fs : List Bool} (r : Ran xs es fs) (n : ℕ) where
  pub flags_for_law : flags_for n paper_ready es ≡ pick (map (is_of n) es) fs
  unfolding flags_for
  flags_for_law = seen_pick paper_next (is_of n) event_meets_full paper_ready es ∙ ap (pick (map (is_of n) es)) r.full

  flags_are : full_flags n just_ready xs ≡ pick (map (is_of n) es) fs
  flags_are = flags_by n just_ready ready_calm xs ∙ rw (begins_there, r.read) flags_for_law

  pub own_are : own_events n xs ≡ keep (is_of n) es
  own_are = own_map n xs ∙ ap (keep (is_of n)) r.read

  happen : own_happenings n xs ≡ map (λ (c : Call). happening c.asked) (pick (map (is_of n) es) xs)
  unfolding own_happenings
  happen = rw (kept_picked (is_event_of n) xs, marks n xs, r.read)

  told_in_law : told_to n just_ready xs ≡ told_with Off (keep (is_of n) es) (pick (map (is_of n) es) fs)
  told_in_law =
      let f = fresh just_ready just_ready_law in
      told_shut f.level just_ready f.running n xs (f.shut n) ∙ rw (own_are, flags_are)

-- where all flags are false, no table is full
none_full : (p : State) (es : List Event) → full_from p es ≡ map (λ (e : Event). false) es → Roomy p es
none_full p [] h = tt
none_full p (e ∷ es) h =
    let here : event_meets_full p e ≡ false = cc in
    let rest : full_from (paper_next p e) es ≡ map (λ (x : Event). false) es = cc in
    (here, none_full (paper_next p e) es rest)

never_by : (st : State) → Calm st → (xs : List Call) → Roomy st (events_of xs) → NeverFull st xs
unfolding meets_full
never_by st g [] f = tt
never_by st g (c ∷ xs) f = (f.0, never_by (after st c) (calm_call st g c) xs (rw (call_state st c g.sane) f.1))

is_reached : Reached just_ready
unfolding just_ready hello asks call after gives
is_reached = by_receive (by_start (zeros STORE) (length_zeros STORE)) PUMP _ hello.reply hello.enough

is_on : just_ready.table.ready ≡ true
is_on = (fresh just_ready just_ready_law).running.ready

-- ---- channel 5 beside few, and beside many

unfoldable pub few_flags : List Bool
few_flags = map (λ (e : Event). false) few_events

pub few : Ran beside_few few_events few_flags
unfolding beside_few few_events few_flags opened opens closed closed_here begins brings garbles asks PUMP call event_in event_of
    unread carries carries_by brings_block whole_in create_act read_pdu by_command numbered bad_length_width after_number closing data_first
    create_request named_for bytes_at little value_of value_at width_of place names ended none_empty same_bytes is_one_of all_names good_list
    is_listed PDU_MAX LIST_MAX paper_ready readied stepped acted finished save wrote view view_at room_in room_at number_place free_place
    record_at with_record empty_table holds is_free act landed stage_after part_after answer_to restaged took took_first added opening
    opened_record event_meets_full asks_room full_table PARTS MESSAGE_MAX
few = record { read = refl; full = refl }

unfoldable pub many_flags : List Bool
many_flags =
    false ∷ false ∷ false ∷ false ∷ false ∷ false ∷ false ∷ false ∷ false ∷ false ∷ false ∷ false ∷ false ∷ false ∷ false ∷ false
    ∷ false ∷ true ∷ false ∷ false ∷ false ∷ false ∷ false ∷ false ∷ false ∷ false ∷ false ∷ false ∷ false ∷ false ∷ []

pub many : Ran beside_many many_events many_flags
unfolding beside_many many_events many_flags opened opens closed closed_here begins brings garbles asks PUMP call event_in event_of
    unread carries carries_by brings_block whole_in create_act read_pdu by_command numbered bad_length_width after_number closing data_first
    create_request named_for bytes_at little value_of value_at width_of place names ended none_empty same_bytes is_one_of all_names good_list
    is_listed PDU_MAX LIST_MAX paper_ready readied stepped acted finished save wrote view view_at room_in room_at number_place free_place
    record_at with_record empty_table holds is_free act landed stage_after part_after answer_to restaged took took_first added opening
    opened_record event_meets_full asks_room full_table PARTS MESSAGE_MAX
many = record { read = refl; full = refl }

few_told : told_to 5 just_ready beside_few ≡ told_to_five
unfolding few_events few_flags opened told_to_five told_with told_if says_if joins_if hands_up step_says answered why_not joins starts_with
    goes_on gathered replies hands MESSAGE_MAX
few_told = told_in_law few 5

many_told : told_to 5 just_ready beside_many ≡ told_to_five
unfolding many_events many_flags opened told_to_five told_with told_if says_if joins_if hands_up step_says answered why_not joins
    starts_with goes_on gathered replies hands MESSAGE_MAX
many_told = told_in_law many 5

many_fill : answers_to 17 just_ready beside_many ≡ Declined 17 Full ∷ Opened 17 ∷ Message 17 1 ∷ []
unfolding many_events many_flags opened told_with told_if says_if joins_if hands_up step_says answered why_not joins starts_with goes_on
    gathered MESSAGE_MAX
many_fill = ap (map (λ (t : Told). t.answer)) (told_in_law many 17)

-- where a run ends
ends_by : (st : State) → Calm st → (xs : List Call) → ends st xs ≡ final paper_next st (events_of xs)
unfolding ends
ends_by st g [] = refl
ends_by st g (c ∷ xs) = ends_by (after st c) (calm_call st g c) xs ∙ ap (λ (s : State). final paper_next s (events_of xs)) (call_state st c g.sane)

ends_in :
    {xs : List Call} {es : List Event} {fs : List Bool} → Ran xs es fs → ends just_ready xs ≡ final paper_next paper_ready es
ends_in {xs = xs} r = ends_by just_ready ready_calm xs ∙ rw (begins_there, r.read)

few_open : (ends just_ready beside_few).table.totals.channels ≡ 2
unfolding few_events opened paper_ready readied stepped acted finished save wrote view view_at room_in room_at number_place free_place
    record_at placed with_record changed moved is_open opens_one empty_table holds is_free place act landed stage_after part_after answer_to restaged took
    took_first added opening opened_record PARTS MESSAGE_MAX
few_open = ap (λ (s : State). s.table.totals.channels) (ends_in few)

many_open : (ends just_ready beside_many).table.totals.channels ≡ 16
unfolding many_events opened paper_ready readied stepped acted finished save wrote view view_at room_in room_at number_place free_place
    record_at placed with_record changed moved is_open opens_one empty_table holds is_free place act landed stage_after part_after answer_to restaged took
    took_first added opening opened_record PARTS MESSAGE_MAX
many_open = ap (λ (s : State). s.table.totals.channels) (ends_in many)

few_lists : WithList PUMP beside_few
unfolding beside_few opens closed closed_here begins brings garbles asks call
few_lists = (refl, (refl, (refl, (refl, (refl, (refl, (refl, (refl, (refl, (refl, (tt, (refl, (refl, (refl, tt))))))))))))))

many_lists : WithList PUMP beside_many
unfolding beside_many opens closed closed_here begins brings garbles asks call
many_lists =
    (refl, (refl, (refl, (refl, (refl, (refl, (refl, (refl, (refl, (refl, (refl, (refl, (refl, (refl, (refl, (refl, (refl, (refl, (refl, (refl, (refl, (refl, (refl, (refl, (refl, (refl, (tt, (refl, (refl, (refl, tt))))))))))))))))))))))))))))))

same_happen : own_happenings 5 beside_few ≡ own_happenings 5 beside_many
unfolding beside_few beside_many few_events many_events opened opens closed_here begins brings garbles asks call
same_happen = happen few 5 ∙ sym (happen many 5)

pub beside_few_or_many : BesideFewOrMany
unfolding few_events many_events few_flags many_flags opened
beside_few_or_many =
    record {
      supposed = record { reached = is_reached; ready = is_on; same_list = (few_lists, many_lists); own_events_same = same_happen };
      full_alike = flags_are few 5 ∙ sym (flags_are many 5);
      never_fills = never_by just_ready ready_calm beside_few (rw (begins_there, few.read) (none_full paper_ready few_events few.full));
      fills = many_fill;
      beside_few_law = few_told;
      beside_many_law = many_told;
      open_beside_few = few_open;
      open_beside_many = many_open;
    }

-- ---- alone, or behind sixteen

alone_events : List Event
alone_events = opened 5 ∷ []

unfoldable pub behind_events : List Event
behind_events =
    opened 1 ∷ opened 2 ∷ opened 3 ∷ opened 4 ∷ opened 6 ∷ opened 7 ∷ opened 8 ∷ opened 9
    ∷ opened 10 ∷ opened 11 ∷ opened 12 ∷ opened 13 ∷ opened 14 ∷ opened 15 ∷ opened 16 ∷ opened 17
    ∷ opened 5
    ∷ Of 6 (Bring More (7 ∷ 8 ∷ []))
    ∷ []

unfoldable pub behind_flags : List Bool
behind_flags =
    false ∷ false ∷ false ∷ false ∷ false ∷ false ∷ false ∷ false ∷ false ∷ false ∷ false ∷ false ∷ false ∷ false ∷ false ∷ false
    ∷ true ∷ false ∷ []

by_itself : Ran alone alone_events (false ∷ [])
unfolding alone alone_events opened opens asks PUMP call event_in event_of unread carries carries_by brings_block whole_in create_act
    read_pdu by_command numbered bad_length_width after_number closing data_first create_request named_for bytes_at little value_of value_at
    width_of place names ended none_empty same_bytes is_one_of all_names good_list is_listed PDU_MAX LIST_MAX paper_ready readied stepped
    acted finished save wrote view view_at room_in room_at number_place free_place record_at with_record empty_table holds is_free act
    landed stage_after part_after answer_to restaged took took_first added opening opened_record event_meets_full asks_room full_table
    PARTS MESSAGE_MAX
by_itself = record { read = refl; full = refl }

pub behind : Ran behind_sixteen behind_events behind_flags
unfolding behind_sixteen behind_events behind_flags opened opens brings asks PUMP call event_in event_of unread carries carries_by
    brings_block whole_in create_act read_pdu by_command numbered bad_length_width after_number closing data_first create_request named_for
    bytes_at little value_of value_at width_of place names ended none_empty same_bytes is_one_of all_names good_list is_listed PDU_MAX
    LIST_MAX paper_ready readied stepped acted finished save wrote view view_at room_in room_at number_place free_place record_at
    with_record empty_table holds is_free act landed stage_after part_after answer_to restaged took took_first added opening opened_record
    event_meets_full asks_room full_table PARTS MESSAGE_MAX
behind = record { read = refl; full = refl }

alone_list : WithList PUMP alone
unfolding alone opens asks call
alone_list = (refl, tt)

behind_lists : WithList PUMP behind_sixteen
unfolding behind_sixteen opens brings asks call
behind_lists = (refl, (refl, (refl, (refl, (refl, (refl, (refl, (refl, (refl, (refl, (refl, (refl, (refl, (refl, (refl, (refl, (refl, (refl, tt))))))))))))))))))

alone_happen : own_happenings 5 alone ≡ own_happenings 5 behind_sixteen
unfolding alone behind_sixteen alone_events behind_events opened opens brings asks call
alone_happen = happen by_itself 5 ∙ sym (happen behind 5)

pub alone_or_behind_sixteen : AloneOrBehindSixteen
unfolding alone_events behind_events behind_flags opened told_with told_if says_if step_says
alone_or_behind_sixteen =
    record {
      supposed = record { reached = is_reached; ready = is_on; same_list = (alone_list, behind_lists); own_events_same = alone_happen };
      opened_alone = ap (map (λ (t : Told). t.answer)) (told_in_law by_itself 5);
      declined_behind_sixteen = ap (map (λ (t : Told). t.answer)) (told_in_law behind 5);
    }
