-- The shore's steps: a deed of one number moves that number's view and no other, a local open that isn't refused opens the smallest
-- number on the lowest free record, and every event leaves a steady state steady and a calm one calm.
-- Assumes nothing.
use mathlib.Core.Path.{◌≡◌, refl, sym, ap, ◌∙◌}
use mathlib.Core.Logic.{◌≢◌, ◌⊎◌, inl, inr, ⊎_elim}
use mathlib.Core.Bool.{Bool, true, false, cond, not, ◌&&◌, ◌||◌}
use mathlib.Core.List.{List}
use Prim.Native.Nat.{ℕ, ◌≤◌, ◌<◌, min}
use native.Mathlib.Omega.{arith}
use borrow.Author.Tests.{eqb-false, ne_eqb, ltb-true, ltb-false, not-false}
use lib.Dec.{eqb, ltb}
use lib.ListN.{length}
use lib.IntN.{ℤ}
use Rattle.paper.specs.Sizes.{PARTS, PART, PDU_MAX}
use Rattle.paper.specs.declared.Refusal.{Refusal}
use Rattle.paper.specs.declared.Refusal.TheVariants.{WrongTime, BadField, OverLimit, AllTaken}
use Rattle.lists.specs.Bytes.{zeros}
use Rattle.lists.specs.Places.{place}
use Rattle.lists.proofs.Cases.{true_not_false, choice, neither}
use Rattle.reading.specs.declared.Charges.{Charges}
use Rattle.laying.specs.Laying.{create_request_bytes}
use Rattle.writing.specs.Writing.{bad_request, bad_capabilities}
use Rattle.channel.specs.declared.Record.{Record}
use Rattle.channel.specs.Channel.{blank, Act, BadCreate, Create, Bring, Garbled, Closing, LocalClose, View, Shut, Open, Room, NoRoom}
use Rattle.channel.specs.Channel.{act, opening as openings}
use Rattle.table.specs.declared.Table.{Table}
use Rattle.table.specs.Table.{number_place, free_place, record_at, holds}
use Rattle.table.specs.Sound.{good_stage}
use Rattle.table.proofs.Twice.{holds_own}
use Rattle.table.proofs.Records.{free_at}
use Rattle.table.proofs.Soundness.{sound_ready}
use Rattle.store.specs.Parts.{part}
use Rattle.connection.specs.States.{State, state_of, view, room_in, wrote, save, Steady, FreePartsAreZero}
use Rattle.connection.proofs.Views.{view_shut, room_spare, own_part}
use Rattle.connection.proofs.Frame.{Fits, save_own, save_other, save_steady, save_clear}
use Rattle.connection.proofs.Acts.{Known, act_fits, stays_fits, view_known}
use Rattle.steps.specs.States.{FreeRecordsAreBlank, Sane, Calm}
use Rattle.steps.proofs.Blank.{save_blank}
use Rattle.steps.proofs.Touches.{shut_frees}
use Rattle.steps.proofs.Calm.{sane_steady, steady_sane, level_good}
use Rattle.demands.proofs.Machine.{save_level}
use Rattle.shore.specs.declared.Said.TheVariants.{Awaited}
use Rattle.shore.specs.Rules.{Deed, Answered, Acts, Does, is_below_zero, awaited_record, settled_record, settled, common, deed}
use Rattle.shore.specs.Events.{Event, Unreadable, Asking, Response, Opening, Of}
use Rattle.shore.specs.Shore.{Standing, state_in, with_state, Stepped, step_to, refused, asking, level_between, readied, responded, number_next, class_in}
use Rattle.shore.specs.Shore.{all_taken, awaiting, opening, finished, done, stepped}
use Rattle.shore.proofs.Least.{least_none}
use Rattle.shore_demands.specs.Runs.{is_awaited, granted, is_of}

-- ---- one number's rules fit where it stands

-- the common rules, asked with no room, whatever the act
act_none : (level n : ℕ) (v : View) (a : Act) → Known n v → Fits n NoRoom v (act level n NoRoom v a).view
unfolding act openings
act_none level n v BadCreate k = act_fits level n NoRoom v BadCreate k tt
act_none level n Shut (Create true pri) k = tt
act_none level n Shut (Create false pri) k = tt
act_none level n (Open r b) (Create listed pri) k = stays_fits n NoRoom (Open r b) k
act_none level n v (Bring offer bytes) k = act_fits level n NoRoom v (Bring offer bytes) k tt
act_none level n v (Garbled why) k = act_fits level n NoRoom v (Garbled why) k tt
act_none level n v Closing k = act_fits level n NoRoom v Closing k tt
act_none level n v LocalClose k = act_fits level n NoRoom v LocalClose k tt

-- what fits with no room fits with any
more_room : (n : ℕ) (room : Room) (v w : View) → Fits n NoRoom v w → Fits n room v w
more_room n room Shut Shut f = tt
more_room n room Shut (Open r b) f = absurd f
more_room n room (Open old kept) Shut f = tt
more_room n room (Open old kept) (Open r b) f = f

-- an awaited record that is opened
settled_fits : (n : ℕ) (room : Room) (r : Record) (b : List ℕ) → Known n (Open r b) → (status : ℤ) → Fits n room (Open r b) (settled n r b status).view
unfolding settled settled_record holds good_stage
settled_fits n room r b k status =
    choice (λ (d : Does). Fits n room (Open r b) d.view) (is_below_zero status) (λ e. tt) (λ e. (k.0, (refl, record { class = k.1.class; stage = refl })))

-- what the rules make of a view fits where the number stands
pub deed_fits : (level n : ℕ) (room : Room) (v : View) (d : Deed) → Known n v → Fits n room v (deed level n v d).view
unfolding deed common
deed_fits level n room Shut (Answered status) k = tt
deed_fits level n room (Open r b) (Answered status) k =
    choice (λ (d : Does). Fits n room (Open r b) d.view) r.awaited (λ e. settled_fits n room r b k status) (λ e. stays_fits n room (Open r b) k)
deed_fits level n room Shut (Acts a) k = more_room n room Shut (act level n NoRoom Shut a).view (act_none level n Shut a k)
deed_fits level n room (Open r b) (Acts a) k = go r.awaited
  where
    go : (t : Bool) → Fits n room (Open r b) (cond t (Open r b) (act level n NoRoom (cond t Shut (Open r b)) a).view)
    go true = stays_fits n room (Open r b) k
    go false = more_room n room (Open r b) (act level n NoRoom (Open r b) a).view (act_none level n (Open r b) a k)

-- ---- a deed

-- what the rules of the number n say of a deed in a state
abbrev pub ruled : ℕ → Standing → Deed → Does
ruled n st d = deed st.shore.table.level n (view n (state_in st)) d

module _ (st : Standing) (g : Steady (state_in st)) (n : ℕ) (d : Deed) where
  -- it fits
  pub ruled_fits : Fits n (room_in (state_in st)) (view n (state_in st)) (ruled n st d).view
  ruled_fits =
      deed_fits st.shore.table.level n (room_in (state_in st)) (view n (state_in st)) d (view_known n (state_in st) g (view n (state_in st)) refl)

  -- a deed in time is its rules' step
  pub step_deed : stepped st (Of n d) ≡ finished n st (view n (state_in st)) (ruled n st d)
  unfolding stepped done
  step_deed = rw g.ready

  -- the answer and what is sent are the rules'
  pub step_said : (stepped st (Of n d)).said ≡ (ruled n st d).said
  unfolding finished
  step_said = ap (λ (s : Stepped). s.said) step_deed

  pub step_sent : (stepped st (Of n d)).sent ≡ (ruled n st d).sent
  unfolding finished
  step_sent = ap (λ (s : Stepped). s.sent) step_deed

  -- the view that they make is put back
  pub step_state : (stepped st (Of n d)).state ≡ with_state st (save n (state_in st) (view n (state_in st)) (ruled n st d).view)
  unfolding finished
  step_state = ap (λ (s : Stepped). s.state) step_deed

  -- so the number is as they made it
  pub step_own : view n (state_in (stepped st (Of n d)).state) ≡ (ruled n st d).view
  step_own = ap (λ (s : Standing). view n (state_in s)) step_state ∙ save_own n (state_in st) g (view n (state_in st)) (ruled n st d).view refl ruled_fits

-- a number that is shut leaves its record as Start made it, and its part zero
pub freed :
    (st : Standing) → Steady (state_in st) → (n : ℕ) (d : Deed) (r : Record) (b : List ℕ) → view n (state_in st) ≡ Open r b
    → (deed st.shore.table.level n (Open r b) d).view ≡ Shut
    → (record_at (stepped st (Of n d)).state.shore.table (number_place n st.shore.table) ≡ blank)
    × (part (stepped st (Of n d)).state.store (number_place n st.shore.table) ≡ zeros PART)
freed st g n d r b v h =
    let left : (stepped st (Of n d)).state ≡ with_state st (save n (state_in st) (Open r b) Shut) = step_state st g n d
    ∙ ap (λ (w : View). with_state st (save n (state_in st) w (deed st.shore.table.level n w d).view)) v
    ∙ ap (λ (w : View). with_state st (save n (state_in st) (Open r b) w)) h in
    rw left (shut_frees n (state_in st) g r b v)

-- ---- a local open

-- the step of one that isn't refused
abbrev pub opens : Standing → List ℕ → ℕ → Stepped
opens st name class =
    step_to (with_state st (state_of (awaiting st.shore.table (number_next st) class) st.store)) (Awaited (number_next st))
    (create_request_bytes (number_next st) (class_in st class) name)

-- a table that isn't full has a free record
is_free_law : (t : Table) → all_taken t ≡ false → free_place t < PARTS
unfolding all_taken
is_free_law t h = ltb-true (free_place t) PARTS (not-false (ltb (free_place t) PARTS) h)

-- a step that is a refusal
pub record Denied (st : Standing) (s : Stepped) : Type 0 where
  pub why : Refusal
  pub is : s ≡ refused st why

-- one that is not
pub record Grants (st : Standing) (name : List ℕ) (class : ℕ) (s : Stepped) : Type 0 where
  pub ready : st.shore.table.ready ≡ true
  pub room : all_taken st.shore.table ≡ false
  pub good : bad_request (class_in st class) name ≡ false
  pub short : length (create_request_bytes (number_next st) (class_in st class) name) ≤ PDU_MAX
  pub is : s ≡ opens st name class

module _ (st : Standing) (name : List ℕ) (class : ℕ) where
  -- refused, or granted
  abbrev Either : Stepped → Type 0
  Either s = Denied st s ⊎ Grants st name class s

  -- a local open is one or the other
  pub denied_or_granted : Denied st (opening st name class) ⊎ Grants st name class (opening st name class)
  unfolding opening
  denied_or_granted =
      choice Either (not st.shore.table.ready) (λ e. inl (record { why = WrongTime; is = refl }))
      (λ e. choice Either (all_taken st.shore.table) (λ f. inl (record { why = AllTaken; is = refl }))
      (λ f. choice Either (bad_request (class_in st class) name) (λ h. inl (record { why = BadField; is = refl }))
      (λ h. choice Either (ltb PDU_MAX (length (create_request_bytes (number_next st) (class_in st class) name)))
      (λ i. inl (record { why = OverLimit; is = refl }))
      (λ i. inr (record { ready = not-false st.shore.table.ready e; room = f; good = h; short = ltb-false _ _ i; is = refl })))))

  -- whether it is granted stands in its answer
  granted_of : (s : Stepped) → opening st name class ≡ s → granted st name class ≡ is_awaited s.said
  unfolding granted stepped
  granted_of s e = ap (λ (x : Stepped). is_awaited x.said) e

  -- it is an event of the number it gets, or of none
  pub is_granted : granted st name class ≡ true → Grants st name class (opening st name class)
  is_granted h = ⊎_elim (λ d. absurd (true_not_false (sym h ∙ granted_of (refused st d.why) d.is))) (λ g. g) denied_or_granted

  pub not_granted : granted st name class ≡ false → Denied st (opening st name class)
  not_granted h = ⊎_elim (λ d. d) (λ g. absurd (true_not_false (sym (granted_of (opens st name class) g.is) ∙ h))) denied_or_granted

  -- the record that the number gets, with its part
  abbrev pub waiting : View
  waiting = Open (awaited_record st.shore.table.level (number_next st) class) (part st.store (free_place st.shore.table))

  module _ (g : Steady (state_in st)) (o : Grants st name class (opening st name class)) where
    -- the number has no record yet
    pub next_shut : view (number_next st) (state_in st) ≡ Shut
    next_shut = view_shut (number_next st) (state_in st) (number_place (number_next st) st.shore.table) refl (least_none st.shore.table g.rows)

    -- it is saved there, and the part stays as it was
    pub open_state : (opening st name class).state ≡ with_state st (save (number_next st) (state_in st) (view (number_next st) (state_in st)) waiting)
    unfolding save wrote awaiting
    open_state =
        let kept = own_part st.store (free_place st.shore.table) g.bytes (is_free_law st.shore.table o.room) in
        ap (λ (s : Stepped). s.state) o.is
        ∙ ap (λ (store : List ℕ). with_state st (state_of (awaiting st.shore.table (number_next st) class) store)) (sym kept)
        ∙ ap (λ (v : View). with_state st (save (number_next st) (state_in st) v waiting)) (sym next_shut)

    -- a class that is written is at most 3
    class_small : class_in st class ≤ 3
    unfolding bad_request
    class_small = ltb-false 3 (class_in st class) (neither (ltb 3 (class_in st class)) (ltb (place _ name) (length name)) o.good).0

    -- the record fits there
    pub open_fits : Fits (number_next st) (room_in (state_in st)) (view (number_next st) (state_in st)) waiting
    unfolding awaited_record good_stage
    open_fits =
        let k = free_place st.shore.table in
        let held = holds_own (number_next st) (awaited_record st.shore.table.level (number_next st) class) refl refl in
        rw (next_shut, room_spare (state_in st) k refl (is_free_law st.shore.table o.room)) (held, (refl, record { class = class_small; stage = refl }))

    -- it is awaited from there on
    pub open_own : view (number_next st) (state_in (opening st name class).state) ≡ waiting
    open_own =
        ap (λ (s : Standing). view (number_next st) (state_in s)) open_state
        ∙ save_own (number_next st) (state_in st) g (view (number_next st) (state_in st)) waiting refl open_fits

    -- where free parts are zero, its part is zero
    pub open_zero : FreePartsAreZero (state_in st) → part st.store (free_place st.shore.table) ≡ zeros PART
    open_zero z =
        let l = is_free_law st.shore.table o.room in
        z (free_place st.shore.table) l (free_at st.shore.table (rw g.rows l))

-- ---- every event

-- the request leaves the table and the store
pub ask_state : (st : Standing) (version : ℕ) (charges : Charges) → state_in (asking st version charges).state ≡ state_in st
unfolding asking
ask_state st version charges =
    choice (λ (s : Stepped). state_in s.state ≡ state_in st) (not (eqb st.shore.asked 0)) (λ e. refl)
    (λ e. choice (λ (s : Stepped). state_in s.state ≡ state_in st) (bad_capabilities version charges) (λ f. refl) (λ f. refl))

-- once ready a response is refused
pub late_response : (st : Standing) → st.shore.table.ready ≡ true → (version : ℕ) → responded st version ≡ refused st WrongTime
unfolding responded
late_response st r version = rw r

-- what holds of a ready state, and of it with any number saved that fits, holds after every event
pub by_saves :
    (P : State → Type 0) (st : Standing) → Steady (state_in st) → P (state_in st)
    → ((n : ℕ) (w : View) → Fits n (room_in (state_in st)) (view n (state_in st)) w → P (save n (state_in st) (view n (state_in st)) w))
    → (e : Event) → P (state_in (stepped st e).state)
unfolding stepped
by_saves P st g p s (Unreadable why) = p
by_saves P st g p s (Asking version charges) = rw (ask_state st version charges) p
by_saves P st g p s (Response version) = rw (late_response st g.ready version) p
by_saves P st g p s (Opening name class) =
    ⊎_elim (λ d. rw d.is p) (λ o. rw (open_state st name class g o) (s (number_next st) (waiting st name class) (open_fits st name class g o)))
    (denied_or_granted st name class)
by_saves P st g p s (Of n d) = rw (step_state st g n d) (s n (ruled n st d).view (ruled_fits st g n d))

-- a steady state stays steady
pub step_steady : (st : Standing) → Steady (state_in st) → (e : Event) → Steady (state_in (stepped st e).state)
step_steady st g = by_saves Steady st g g (λ n w f. save_steady n (state_in st) g (view n (state_in st)) w refl f)

-- the level stays
pub step_level : (st : Standing) → Steady (state_in st) → (e : Event) → (stepped st e).state.shore.table.level ≡ st.shore.table.level
step_level st g = by_saves (λ (s : State). s.table.level ≡ st.shore.table.level) st g refl (λ n w f. save_level n (state_in st) (view n (state_in st)) w)

-- and every other number is as it was
pub step_other :
    (n : ℕ) (st : Standing) → Steady (state_in st) → (e : Event) → is_of n st e ≡ false → view n (state_in (stepped st e).state) ≡ view n (state_in st)
unfolding stepped is_of
step_other n st g (Unreadable why) h = refl
step_other n st g (Asking version charges) h = ap (view n) (ask_state st version charges)
step_other n st g (Response version) h = ap (λ (s : Stepped). view n (state_in s.state)) (late_response st g.ready version)
step_other n st g (Opening name class) h = go (granted st name class) refl h
  where
    go : (b : Bool) → granted st name class ≡ b → (b && eqb (number_next st) n) ≡ false → view n (state_in (opening st name class).state) ≡ view n (state_in st)
    go true e h =
        let o = is_granted st name class e in
        let m = number_next st in
        ap (λ (s : Standing). view n (state_in s)) (open_state st name class g o)
        ∙ save_other m (state_in st) g n (λ q. eqb-false m n h (sym q)) (view m (state_in st)) (waiting st name class) refl (open_fits st name class g o)
    go false e h = ap (λ (s : Stepped). view n (state_in s.state)) (not_granted st name class e).is
step_other n st g (Of m d) h =
    ap (λ (s : Standing). view n (state_in s)) (step_state st g m d)
    ∙ save_other m (state_in st) g n (λ q. eqb-false m n h (sym q)) (view m (state_in st)) (ruled m st d).view refl (ruled_fits st g m d)

-- ---- in time and out of time

-- what reading makes sure of a response
abbrev pub FineEvent : Event → Type 0
FineEvent (Unreadable why) = Unit {0}
FineEvent (Asking version charges) = Unit {0}
FineEvent (Response version) = 1 ≤ version
FineEvent (Opening name class) = Unit {0}
FineEvent (Of n d) = Unit {0}

-- a response that is taken
pub record Readies (st : Standing) (e : Event) : Type 0 where
  pub version : ℕ
  pub event : e ≡ Response version
  pub was_asked : st.shore.asked ≢ 0
  pub state : state_in (stepped st e).state ≡ state_of (readied st.shore.table (level_between st.shore.asked version)) st.store

-- before it is ready nothing else moves the table and the store
pub early_state : (st : Standing) → st.shore.table.ready ≡ false → (e : Event) → (state_in (stepped st e).state ≡ state_in st) ⊎ Readies st e
unfolding stepped responded opening
early_state st r (Unreadable why) = inl refl
early_state st r (Asking version charges) = inl (ask_state st version charges)
early_state st r (Response version) = go (eqb st.shore.asked 0) refl
  where
    go : (b : Bool) → eqb st.shore.asked 0 ≡ b → (state_in (responded st version).state ≡ state_in st) ⊎ Readies st (Response version)
    go true e = inl (rw (r, e))
    go false e = inr (record { version = version; event = refl; was_asked = eqb-false st.shore.asked 0 e; state = rw (r, e) })
early_state st r (Opening name class) = inl (rw r)
early_state st r (Of n d) = inl (rw r)

-- what holds of the next state in time, and of one just made ready, holds of it
by_time :
    (P : State → Type 0) (st : Standing) (e : Event) → FineEvent e → P (state_in st)
    → ((level : ℕ) → (level ≡ 1) ⊎ (level ≡ 2) → P (state_of (readied st.shore.table level) st.store))
    → (st.shore.table.ready ≡ true → P (state_in (stepped st e).state)) → P (state_in (stepped st e).state)
by_time P st e z p c r = go st.shore.table.ready refl
  where
    go : (t : Bool) → st.shore.table.ready ≡ t → P (state_in (stepped st e).state)
    go true q = r q
    go false q =
        ⊎_elim (λ s. rw s p)
        (λ s.
        let fine : 1 ≤ s.version = rw s.event at z in
        let some : 1 ≤ min st.shore.asked s.version = omega (arith, s.was_asked) in
        rw s.state (c (level_between st.shore.asked s.version) (level_good (min st.shore.asked s.version) some)))
        (early_state st q e)

-- every event leaves a sane state sane
pub sane_step : (st : Standing) → Sane (state_in st) → (e : Event) → FineEvent e → Sane (state_in (stepped st e).state)
unfolding readied
sane_step st c e z =
    by_time Sane st e z c (λ level l. record { rows = c.rows; bytes = c.bytes; sound = sound_ready st.shore.table level c.sound l })
    (λ r. steady_sane (state_in (stepped st e).state) (step_steady st (sane_steady (state_in st) c r) e))

-- and a calm one calm
pub calm_step : (st : Standing) → Calm (state_in st) → (e : Event) → FineEvent e → Calm (state_in (stepped st e).state)
unfolding readied record_at
calm_step st c e z =
    let steady : st.shore.table.ready ≡ true → Steady (state_in st) = sane_steady (state_in st) c.sane in
    record {
      sane = sane_step st c.sane e z;
      zero = by_time FreePartsAreZero st e z c.zero (λ level l. c.zero)
          (λ r. by_saves FreePartsAreZero st (steady r) c.zero (λ n w f. save_clear n (state_in st) (steady r) (view n (state_in st)) w refl f c.zero) e);
      blank = by_time FreeRecordsAreBlank st e z c.blank (λ level l. c.blank)
          (λ r. by_saves FreeRecordsAreBlank st (steady r) c.blank
          (λ n w f. save_blank (state_in st) (steady r) c.blank n (view n (state_in st)) w refl f) e);
    }

-- ---- the version that was asked for

-- once asked for it stays
pub step_asked : (st : Standing) → 1 ≤ st.shore.asked → (e : Event) → (stepped st e).state.shore.asked ≡ st.shore.asked
unfolding stepped asking responded opening done finished
step_asked st h (Unreadable why) = refl
step_asked st h (Asking version charges) = let some : st.shore.asked ≢ 0 = λ e. omega arith in rw (ne_eqb st.shore.asked 0 some)
step_asked st h (Response version) =
    choice (λ (s : Stepped). s.state.shore.asked ≡ st.shore.asked) (st.shore.table.ready || eqb st.shore.asked 0) (λ e. refl) (λ e. refl)
step_asked st h (Opening name class) =
    ⊎_elim (λ d. ap (λ (s : Stepped). s.state.shore.asked) d.is) (λ o. ap (λ (s : Stepped). s.state.shore.asked) o.is)
    (denied_or_granted st name class)
step_asked st h (Of n d) = choice (λ (s : Stepped). s.state.shore.asked ≡ st.shore.asked) st.shore.table.ready (λ e. refl) (λ e. refl)
