-- The numbers that local opens get hang on the local opens, Create responses and closes alone: a step looks at the table without stages and
-- counts, and data leaves that as it is. So neighbours may change places.
-- Assumes nothing.
use Rattle.std.specs.Prelude.{None}
use mathlib.Core.Path.{◌≡◌, refl, sym, ap, ◌∙◌}
use mathlib.Core.Logic.{⊎_elim}
use mathlib.Core.Bool.{Bool, true, false, cond, not, ◌&&◌}
use mathlib.Core.List.{List, [], ◌∷◌, ◌++◌, map}
use Prim.Native.Nat.{ℕ, zero, suc, ◌+◌}
use lib.Dec.{eqb, ltb}
use lib.IntN.{ℤ}
use lib.ListN.{length, set, get_or-map}
use lib.Seq.{set-get_or}
use Rattle.paper.specs.Sizes.{PARTS, PDU_MAX}
use Rattle.paper.specs.declared.Refusal.{Refusal}
use Rattle.paper.specs.declared.Refusal.TheVariants.{WrongTime, BadField, OverLimit, AllTaken}
use Rattle.lists.specs.Places.{place}
use Rattle.lists.proofs.Cases.{true_not_false, each}
use Rattle.laying.specs.Laying.{create_request_bytes}
use Rattle.writing.specs.Writing.{bad_request}
use Rattle.channel.specs.declared.Stage.TheVariants.{Idle}
use Rattle.channel.specs.declared.Record.{Record}
use Rattle.channel.specs.Channel.{blank, Act, BadCreate, Create, Bring, Garbled, Closing, LocalClose, View, Shut, Open, NoRoom}
use Rattle.channel.specs.Channel.{class_at, restaged, landed, act, opening as openings}
use Rattle.table.specs.declared.Table.{Table}
use Rattle.table.specs.Table.{holds, is_free, number_place, free_place, record_at, placed, with_record}
use Rattle.store.specs.Parts.{part}
use Rattle.connection.specs.States.{State, view_at, view, wrote, save, Steady}
use Rattle.steps.proofs.Calm.{steady_sane}
use Rattle.shore.specs.declared.Said.{Said}
use Rattle.shore.specs.declared.Said.TheVariants.{Awaited, Opened, Declined, Refused}
use Rattle.shore.specs.Rules.{Deed, Answered, Acts, does, is_below_zero, awaited_record, settled_record, settled, unawaited, common, deed}
use Rattle.shore.specs.Numbers.{least_from, least_number}
use Rattle.shore.specs.Events.{Event, Unreadable, Asking, Response, Opening, Of}
use Rattle.shore.specs.Shore.{Standing, state_in, Stepped, number_next, all_taken, awaiting, opening, stepped}
use Rattle.demands.specs.Trace.{cons_if}
use Rattle.shore_demands.specs.Runs.{Call, after, ends, Told, told, handed_up, event_in, is_awaited, granted, is_of, is_event_of, own_events}
use Rattle.shore_demands.specs.Runs.{JustReady}
use Rattle.shore_demands.specs.Alone.{tells}
use Rattle.shore_demands.specs.Orders.{is_close, is_control, events_of, controls, is_opening, told_opening, TwoOrders}
use Rattle.shore_demands.proofs.Frame.{ruled, ask_state, late_response, step_state, denied_or_granted}
use Rattle.shore_demands.proofs.Machine.{steady, call_state, call_told, tells_of, steady_call}
use Rattle.shore_demands.proofs.Ready.{running}

-- ---- a table without stages and counts

-- a record
abbrev bare : Record → Record
bare r = record { taken = r.taken; number = r.number; class = r.class; stage = Idle; count = 0; awaited = r.awaited }

-- a view
abbrev bare_view : View → View
bare_view Shut = Shut
bare_view (Open r b) = Open (bare r) []

-- a table, and that of a state
abbrev bones : Table → Table
bones t = record { totals = record { channels = 0; awaited = 0 }; ready = t.ready; level = t.level; records = map bare t.records }

abbrev bones_in : Standing → Table
bones_in st = bones st.shore.table

-- what passes a test of the bare records is found where it was
place_bare : (p : Record → Bool) → ((r : Record) → p (bare r) ≡ p r) → (rs : List Record) → place p (map bare rs) ≡ place p rs
unfolding place
place_bare p h [] = refl
place_bare p h (r ∷ rs) = rw (h r, place_bare p h rs)

-- a number
number_bones : (n : ℕ) (t : Table) → number_place n (bones t) ≡ number_place n t
unfolding number_place holds
number_bones n t = place_bare (holds n) (λ r. refl) t.records

-- the lowest free record
free_bones : (t : Table) → free_place (bones t) ≡ free_place t
unfolding free_place is_free
free_bones t = place_bare is_free (λ r. refl) t.records

-- the records are the bare ones
at_bones : (t : Table) (k : ℕ) → record_at (bones t) k ≡ bare (record_at t k)
unfolding record_at
at_bones t k = get_or-map bare t.records k blank

-- the smallest number is the same
from_bones : (left k : ℕ) (t : Table) → least_from left k (bones t) ≡ least_from left k t
unfolding least_from
from_bones zero k t = refl
from_bones (suc left) k t = rw (number_bones k t, from_bones left (k + 1) t)

least_bones : (t : Table) → least_number (bones t) ≡ least_number t
unfolding least_number
least_bones t = from_bones PARTS 1 t

-- and whether all are taken
taken_bones : (t : Table) → all_taken (bones t) ≡ all_taken t
unfolding all_taken
taken_bones t = rw (free_bones t)

-- a record set in it
map_set : (rs : List Record) (k : ℕ) (r : Record) → map bare (set rs k r) ≡ set (map bare rs) k (bare r)
map_set [] k r = refl
map_set (x ∷ rs) zero r = refl
map_set (x ∷ rs) (suc k) r = rw (map_set rs k r)

with_bones : (t : Table) (k : ℕ) (r : Record) → bones (with_record t k r) ≡ placed (bones t) k (bare r)
unfolding with_record placed
with_bones t k r = rw (map_set t.records k r)

-- ---- steps on such tables alone: a deed

-- a number in it
abbrev look : ℕ → Table → View
look n b = cond (ltb (number_place n b) PARTS) (Open (record_at b (number_place n b)) []) Shut

-- what became of it, put back
abbrev saved : ℕ → Table → View → View → Table
saved n b Shut Shut = b
saved n b Shut (Open r bytes) = placed b (free_place b) r
saved n b (Open old kept) (Open r bytes) = placed b (number_place n b) r
saved n b (Open old kept) Shut = placed b (number_place n b) blank

-- that is the bare view
view_bones : (n : ℕ) (st : State) → bare_view (view n st) ≡ look n (bones st.table)
unfolding view view_at
view_bones n st = rw (number_bones n st.table, at_bones st.table (number_place n st.table)) (go (ltb (number_place n st.table) PARTS))
  where
    r : Record
    r = record_at st.table (number_place n st.table)

    go : (t : Bool) → bare_view (cond t (Open r (part st.store (number_place n st.table))) Shut) ≡ cond t (Open (bare r) []) Shut
    go true = refl
    go false = refl

-- and what is saved, without stages and counts
save_bones : (n : ℕ) (st : State) (v w : View) → bones (save n st v w).table ≡ saved n (bones st.table) (bare_view v) (bare_view w)
unfolding save wrote
save_bones n st Shut Shut = refl
save_bones n st Shut (Open r b) = rw (free_bones st.table) (with_bones st.table (free_place st.table) r)
save_bones n st (Open old kept) Shut = rw (number_bones n st.table) (with_bones st.table (number_place n st.table) blank)
save_bones n st (Open old kept) (Open r b) = rw (number_bones n st.table) (with_bones st.table (number_place n st.table) r)

-- a view put back as it was
saved_same : (n : ℕ) (b : Table) → saved n b (look n b) (look n b) ≡ b
unfolding placed record_at
saved_same n b = go (ltb (number_place n b) PARTS)
  where
    go : (t : Bool) → saved n b (cond t (Open (record_at b (number_place n b)) []) Shut) (cond t (Open (record_at b (number_place n b)) []) Shut) ≡ b
    go true = rw (set-get_or b.records (number_place n b) blank)
    go false = refl

-- a Create response and a close look at the bare view alone
abbrev is_control_deed : Deed → Bool
is_control_deed (Answered status) = true
is_control_deed (Acts a) = is_close a

-- a Create response
answered_bare : (l n : ℕ) (v : View) (status : ℤ) → bare_view (deed l n v (Answered status)).view ≡ bare_view (deed l n (bare_view v) (Answered status)).view
unfolding deed settled settled_record
answered_bare l n Shut status = refl
answered_bare l n (Open r b) status = go r.awaited (is_below_zero status)
  where
    new : Bool → Record → List ℕ → Bool → View
    new t r b s = (cond t (cond s (does Shut (Declined n) []) (does (Open (settled_record r) b) (Opened n) [])) (unawaited n (Open r b))).view

    go : (t s : Bool) → bare_view (new t r b s) ≡ bare_view (new t (bare r) [] s)
    go true true = refl
    go true false = refl
    go false s = refl

-- what is open is shut by a close
close_shuts : (l n : ℕ) (r : Record) (b : List ℕ) (a : Act) → is_close a ≡ true → (act l n NoRoom (Open r b) a).view ≡ Shut
unfolding act
close_shuts l n r b BadCreate h = absurd (true_not_false (sym h))
close_shuts l n r b (Create listed pri) h = absurd (true_not_false (sym h))
close_shuts l n r b (Bring offer bytes) h = absurd (true_not_false (sym h))
close_shuts l n r b (Garbled why) h = absurd (true_not_false (sym h))
close_shuts l n r b Closing h = refl
close_shuts l n r b LocalClose h = refl

-- a close
close_bare : (l n : ℕ) (v : View) (a : Act) → is_close a ≡ true → bare_view (deed l n v (Acts a)).view ≡ bare_view (deed l n (bare_view v) (Acts a)).view
unfolding deed common
close_bare l n Shut a h = refl
close_bare l n (Open r b) a h = go r.awaited
  where
    new : Bool → Record → List ℕ → View
    new t r b = cond t (Open r b) (act l n NoRoom (cond t Shut (Open r b)) a).view

    go : (t : Bool) → bare_view (new t r b) ≡ bare_view (new t (bare r) [])
    go true = refl
    go false = rw (close_shuts l n r b a h, close_shuts l n (bare r) [] a h)

-- both
deed_bare : (l n : ℕ) (v : View) (d : Deed) → is_control_deed d ≡ true → bare_view (deed l n v d).view ≡ bare_view (deed l n (bare_view v) d).view
deed_bare l n v (Answered status) h = answered_bare l n v status
deed_bare l n v (Acts a) h = close_bare l n v a h

-- data leaves it
act_kept : (l n : ℕ) (v : View) (a : Act) → is_close a ≡ false → bare_view (act l n NoRoom v a).view ≡ bare_view v
unfolding act openings restaged landed
act_kept l n v BadCreate h = refl
act_kept l n Shut (Create true pri) h = refl
act_kept l n Shut (Create false pri) h = refl
act_kept l n (Open r b) (Create listed pri) h = refl
act_kept l n Shut (Bring offer bytes) h = refl
act_kept l n (Open r b) (Bring offer bytes) h = refl
act_kept l n Shut (Garbled why) h = refl
act_kept l n (Open r b) (Garbled why) h = refl
act_kept l n v Closing h = absurd (true_not_false h)
act_kept l n v LocalClose h = absurd (true_not_false h)

-- so does every other deed
deed_kept : (l n : ℕ) (v : View) (d : Deed) → is_control_deed d ≡ false → bare_view (deed l n v d).view ≡ bare_view v
unfolding deed common
deed_kept l n v (Answered status) h = absurd (true_not_false h)
deed_kept l n Shut (Acts a) h = act_kept l n Shut a h
deed_kept l n (Open r b) (Acts a) h = go r.awaited
  where
    go : (t : Bool) → bare_view (cond t (Open r b) (act l n NoRoom (cond t Shut (Open r b)) a).view) ≡ Open (bare r) []
    go true = refl
    go false = act_kept l n (Open r b) a h

-- the deed's step
abbrev dealt : ℕ → Table → Deed → Table
dealt n b d = cond (is_control_deed d) (saved n b (look n b) (bare_view (deed b.level n (look n b) d).view)) b

-- is that of the state, without stages and counts
deed_step : (st : Standing) → Steady (state_in st) → (n : ℕ) (d : Deed) → bones_in (stepped st (Of n d)).state ≡ dealt n (bones_in st) d
deed_step st g n d =
    ap bones_in (step_state st g n d) ∙ save_bones n (state_in st) (view n (state_in st)) (ruled n st d).view ∙ go (is_control_deed d) refl
  where
    l : ℕ
    l = st.shore.table.level

    v : View
    v = view n (state_in st)

    b : Table
    b = bones_in st

    go :
        (t : Bool) → is_control_deed d ≡ t
        → saved n b (bare_view v) (bare_view (deed l n v d).view) ≡ cond t (saved n b (look n b) (bare_view (deed l n (look n b) d).view)) b
    go true e = rw (deed_bare l n v d e, view_bones n (state_in st))
    go false e = rw (deed_kept l n v d e, view_bones n (state_in st)) (saved_same n b)

-- ---- a local open

-- what is told and what is left of it
record Glimpse : Type 0 where
  pub said : Said
  pub sent : List ℕ
  pub bones : Table

-- of a step
abbrev glimpse : Stepped → Glimpse
glimpse s = record { said = s.said; sent = s.sent; bones = bones_in s.state }

-- refused
abbrev no : Table → Refusal → Glimpse
no b why = record { said = Refused why None; sent = []; bones = b }

-- "(local open: 1, 7, 15, 5, 11)", behind 1
abbrev opened : Table → List ℕ → ℕ → Glimpse
opened b name class =
    let n = least_number b in
    let pdu = create_request_bytes n (class_at b.level class) name in
    cond (not b.ready) (no b WrongTime) (cond (all_taken b) (no b AllTaken) (cond (bad_request (class_at b.level class) name) (no b BadField)
    (cond (ltb PDU_MAX (length pdu)) (no b OverLimit)
    (record { said = Awaited n; sent = pdu; bones = placed b (free_place b) (awaited_record b.level n class) }))))

-- is that of the state
open_step : (st : Standing) (name : List ℕ) (class : ℕ) → glimpse (opening st name class) ≡ opened (bones_in st) name class
unfolding opening awaiting awaited_record
open_step st name class =
    let t = st.shore.table in
    let r = awaited_record t.level (least_number t) class in
    rw (taken_bones t, least_bones t, free_bones t)
    (each glimpse (λ x. x) (not t.ready) refl (each glimpse (λ x. x) (all_taken t) refl
    (each glimpse (λ x. x) (bad_request (class_at t.level class) name) refl
    (each glimpse (λ x. x) (ltb PDU_MAX (length (create_request_bytes (least_number t) (class_at t.level class) name))) refl
    (ap (λ (b : Table). record { said = Awaited (least_number t); sent = create_request_bytes (least_number t) (class_at t.level class) name; bones = b })
    (with_bones t (free_place t) r))))))

-- it hands nothing up
open_told_law : (st : Standing) (name : List ℕ) (class : ℕ) → tells_of (opening st name class) ≡ tells (opening st name class).said (opening st name class).sent
unfolding handed_up
open_told_law st name class = ⊎_elim (λ d. rw d.is) (λ o. rw o.is) (denied_or_granted st name class)

-- so what it is told is seen there
opening_told : (st : Standing) (name : List ℕ) (class : ℕ)
    → tells_of (stepped st (Opening name class)) ≡ tells (opened (bones_in st) name class).said (opened (bones_in st) name class).sent
unfolding stepped
opening_told st name class = open_told_law st name class ∙ ap (λ (x : Glimpse). tells x.said x.sent) (open_step st name class)

-- ---- every event

-- what is left of a table after an event
abbrev moved : Table → Event → Table
moved b (Unreadable why) = b
moved b (Asking version charges) = b
moved b (Response version) = b
moved b (Opening name class) = (opened b name class).bones
moved b (Of n d) = dealt n b d

-- by a step
step_bones : (st : Standing) → Steady (state_in st) → (e : Event) → bones_in (stepped st e).state ≡ moved (bones_in st) e
unfolding stepped
step_bones st g (Unreadable why) = refl
step_bones st g (Asking version charges) = ap (λ (s : State). bones s.table) (ask_state st version charges)
step_bones st g (Response version) = ap (λ (s : Stepped). bones_in s.state) (late_response st g.ready version)
step_bones st g (Opening name class) = ap (λ (x : Glimpse). x.bones) (open_step st name class)
step_bones st g (Of n d) = deed_step st g n d

-- by a call
call_bones : (st : Standing) → Steady (state_in st) → (c : Call) → bones_in (after st c) ≡ moved (bones_in st) (event_in c.asked)
call_bones st g c = ap bones_in (call_state st c (steady_sane (state_in st) g)) ∙ step_bones st g (event_in c.asked)

-- all but local opens, Create responses and closes leave it
quiet_moves : (b : Table) (e : Event) → is_control e ≡ false → moved b e ≡ b
quiet_moves b (Unreadable why) h = refl
quiet_moves b (Asking version charges) h = refl
quiet_moves b (Response version) h = refl
quiet_moves b (Opening name class) h = absurd (true_not_false h)
quiet_moves b (Of n (Answered status)) h = absurd (true_not_false h)
quiet_moves b (Of n (Acts a)) h = rw h

-- whose event it is
abbrev of_in : ℕ → Table → Event → Bool
of_in n b (Unreadable why) = false
of_in n b (Asking version charges) = false
of_in n b (Response version) = false
of_in n b (Opening name class) = is_awaited (opened b name class).said && eqb (least_number b) n
of_in n b (Of m d) = eqb m n

-- as in the state
of_bones : (n : ℕ) (st : Standing) (e : Event) → is_of n st e ≡ of_in n (bones_in st) e
unfolding is_of granted stepped
of_bones n st (Unreadable why) = refl
of_bones n st (Asking version charges) = refl
of_bones n st (Response version) = refl
of_bones n st (Opening name class) =
    let s = ap (λ (x : Glimpse). is_awaited x.said) (open_step st name class) in
    ap (λ (t : Bool). t && eqb (number_next st) n) s
    ∙ ap (λ (k : ℕ). is_awaited (opened (bones_in st) name class).said && eqb k n) (sym (least_bones st.shore.table))
of_bones n st (Of m d) = refl

-- whose event it is hangs on the table for local opens alone
quiet_of : (n : ℕ) (b c : Table) (e : Event) → is_control e ≡ false → of_in n b e ≡ of_in n c e
quiet_of n b c (Unreadable why) h = refl
quiet_of n b c (Asking version charges) h = refl
quiet_of n b c (Response version) h = refl
quiet_of n b c (Opening name class) h = absurd (true_not_false h)
quiet_of n b c (Of m d) h = refl

-- ---- what local opens are told

-- one of them; others are not asked
abbrev open_told : Table → Event → Told
open_told b (Unreadable why) = tells (Refused WrongTime None) []
open_told b (Asking version charges) = tells (Refused WrongTime None) []
open_told b (Response version) = tells (Refused WrongTime None) []
open_told b (Opening name class) = tells (opened b name class).said (opened b name class).sent
open_told b (Of m d) = tells (Refused WrongTime None) []

-- by the events alone
abbrev opens_in : Table → List Event → List Told
opens_in b [] = []
opens_in b (e ∷ es) = cons_if (is_opening e) (open_told b e) (opens_in (moved b e) es)

-- as by a call
call_opens :
    (st : Standing) → Steady (state_in st) → (c : Call) → is_opening (event_in c.asked) ≡ true → told st c ≡ open_told (bones_in st) (event_in c.asked)
call_opens st g c h = call_told st c (steady_sane (state_in st) g) ∙ go (event_in c.asked) h
  where
    go : (e : Event) → is_opening e ≡ true → tells_of (stepped st e) ≡ open_told (bones_in st) e
    go (Unreadable why) h = absurd (true_not_false (sym h))
    go (Asking version charges) h = absurd (true_not_false (sym h))
    go (Response version) h = absurd (true_not_false (sym h))
    go (Opening name class) h = opening_told st name class
    go (Of m d) h = absurd (true_not_false (sym h))

-- what is none of the three is no local open
quiet_opens : (e : Event) → is_control e ≡ false → is_opening e ≡ false
quiet_opens (Unreadable why) h = refl
quiet_opens (Asking version charges) h = refl
quiet_opens (Response version) h = refl
quiet_opens (Opening name class) h = absurd (true_not_false h)
quiet_opens (Of m d) h = refl

-- what is not kept need not agree
if_true : {A : Type 0} (t : Bool) (x y : A) (l : List A) → (t ≡ true → x ≡ y) → cons_if t x l ≡ cons_if t y l
if_true true x y l h = rw (h refl)
if_true false x y l h = refl

-- all local opens are told what the control events alone give
opens_all : (st : Standing) → Steady (state_in st) → (xs : List Call) → told_opening st xs ≡ opens_in (bones_in st) (controls xs)
unfolding told_opening controls
opens_all st g [] = refl
opens_all st g (c ∷ xs) =
    let e = event_in c.asked in
    if_true (is_opening e) (told st c) (open_told (bones_in st) e) _ (call_opens st g c)
    ∙ ap (cons_if (is_opening e) (open_told (bones_in st) e)) (opens_all (after st c) (steady_call st c g) xs)
    ∙ rw (call_bones st g c) (go e (is_control e) refl)
  where
    go :
        (e : Event) (t : Bool) → is_control e ≡ t
        → cons_if (is_opening e) (open_told (bones_in st) e) (opens_in (moved (bones_in st) e) (controls xs)) ≡ opens_in (bones_in st) (cons_if t e (controls xs))
    go e true h = refl
    go e false h = rw (quiet_opens e h, quiet_moves (bones_in st) e h)

-- so in two orders of one list of control events
pub numbers_alike : (st : Standing) → JustReady st → (xs ys : List Call) → controls xs ≡ controls ys → told_opening st xs ≡ told_opening st ys
numbers_alike st j xs ys c =
    let g = steady st.shore.table.level st (running st j) in
    opens_all st g xs ∙ ap (opens_in (bones_in st)) c ∙ sym (opens_all st g ys)

-- ---- neighbours that change places

-- a number's own events, by all events alone
abbrev own_in : ℕ → Table → List Event → List Event
own_in n b [] = []
own_in n b (e ∷ es) = cons_if (of_in n b e) e (own_in n (moved b e) es)

-- as in a run
own_all : (n : ℕ) (st : Standing) → Steady (state_in st) → (xs : List Call) → own_events n st xs ≡ own_in n (bones_in st) (events_of xs)
unfolding own_events is_event_of
own_all n st g [] = refl
own_all n st g (c ∷ xs) =
    let e = event_in c.asked in
    ap (cons_if (is_of n st e) e) (own_all n (after st c) (steady_call st c g) xs) ∙ rw (of_bones n st e, call_bones st g c)

-- two that are not both kept
trade : {A : Type 0} (s t : Bool) (x y : A) (l : List A) → (s ≡ true → t ≡ true → ⊥) → cons_if s x (cons_if t y l) ≡ cons_if t y (cons_if s x l)
trade true true x y l d = absurd (d refl refl)
trade true false x y l d = refl
trade false true x y l d = refl
trade false false x y l d = refl

-- the first is none of the three
quiet_first :
    (n : ℕ) (b : Table) (x y : Event) (es : List Event) → is_control x ≡ false → (of_in n b x ≡ true → of_in n b y ≡ true → ⊥)
    → own_in n b (x ∷ y ∷ es) ≡ own_in n b (y ∷ x ∷ es)
quiet_first n b x y es q d =
    rw (quiet_moves b x q, quiet_moves (moved b y) x q, quiet_of n (moved b y) b x q) (trade (of_in n b x) (of_in n b y) x y (own_in n (moved b y) es) d)

-- one of the two is
either_first :
    (n : ℕ) (b : Table) (x y : Event) (es : List Event) (s t : Bool) → is_control x ≡ s → is_control y ≡ t → (s && t) ≡ false
    → (of_in n b x ≡ true → of_in n b y ≡ true → ⊥) → own_in n b (x ∷ y ∷ es) ≡ own_in n b (y ∷ x ∷ es)
either_first n b x y es false t p q h d = quiet_first n b x y es p d
either_first n b x y es true false p q h d = sym (quiet_first n b y x es q (λ e f. d f e))
either_first n b x y es true true p q h d = absurd (true_not_false h)

module _ (x y : Call) (ws : List Call) (c : (is_control (event_in x.asked) && is_control (event_in y.asked)) ≡ false) where
  -- a number's own events stay
  own_traded :
      (n : ℕ) (st : Standing) → Steady (state_in st) → (zs : List Call)
      → (is_event_of n (ends st zs) x ≡ true → is_event_of n (ends st zs) y ≡ true → ⊥)
      → own_events n st (zs ++ (x ∷ y ∷ ws)) ≡ own_events n st (zs ++ (y ∷ x ∷ ws))
  unfolding own_events ends is_event_of
  own_traded n st g [] d =
      let e = event_in x.asked in
      let f = event_in y.asked in
      own_all n st g (x ∷ y ∷ ws)
      ∙ either_first n (bones_in st) e f (events_of ws) (is_control e) (is_control f) refl refl c (rw (of_bones n st e, of_bones n st f) at d)
      ∙ sym (own_all n st g (y ∷ x ∷ ws))
  own_traded n st g (z ∷ zs) d = ap (cons_if (is_event_of n st z) (event_in z.asked)) (own_traded n (after st z) (steady_call st z g) zs d)

  -- and so do the control events
  controls_traded : (zs : List Call) → controls (zs ++ (x ∷ y ∷ ws)) ≡ controls (zs ++ (y ∷ x ∷ ws))
  unfolding controls
  controls_traded [] =
      let s = is_control (event_in x.asked) in
      let t = is_control (event_in y.asked) in
      trade s t (event_in x.asked) (event_in y.asked) (controls ws) (λ e f. true_not_false (sym (rw (e, f)) ∙ c))
  controls_traded (z ∷ zs) = ap (cons_if (is_control (event_in z.asked)) (event_in z.asked)) (controls_traded zs)

-- so it is another order of the same events
pub an_exchange :
    (st : Standing) → JustReady st → (zs ws : List Call) (x y : Call)
    → (is_control (event_in x.asked) && is_control (event_in y.asked)) ≡ false
    → ((n : ℕ) → is_event_of n (ends st zs) x ≡ true → is_event_of n (ends st zs) y ≡ true → ⊥)
    → TwoOrders st (zs ++ (x ∷ y ∷ ws)) (zs ++ (y ∷ x ∷ ws))
an_exchange st j zs ws x y c d =
    let g = steady st.shore.table.level st (running st j) in
    record { in_one_order = controls_traded x y ws c zs; own = λ n. own_traded x y ws c n st g zs (d n) }
