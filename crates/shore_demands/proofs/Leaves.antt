-- What a refused call leaves: nothing is sent, no byte changes, and the table is as it was, but that the refusals that spoil turn the
-- stage of the one open record that holds the number to spoiled. What the common rules leave is the client's law (`act_quiet`).
-- Assumes nothing.
use Rattle.std.specs.Prelude.{Option, None, Some}
use mathlib.Core.Path.{◌≡◌, refl, sym, ap, ◌∙◌, subst}
use mathlib.Core.Logic.{◌≢◌, ⊎_elim}
use mathlib.Core.Bool.{Bool, true, false, cond, not, ◌&&◌, ◌||◌}
use mathlib.Core.List.{List, []}
use Prim.Native.Nat.{ℕ}
use native.Mathlib.Omega.{arith}
use lib.Dec.{eqb, ltb}
use lib.IntN.{ℤ}
use lib.ListN.{length}
use Rattle.paper.specs.Sizes.{PARTS, STORE}
use Rattle.paper.specs.declared.Refusal.{Refusal}
use Rattle.paper.specs.declared.Refusal.TheVariants.{BadCall, BadField, WrongTime, NotAwaited}
use Rattle.lists.specs.Bytes.{laid}
use Rattle.lists.proofs.Cases.{choice, and_false, both, true_not_false}
use Rattle.reading.specs.Reading.{read_pdu}
use Rattle.reading.specs.Garbled.{carries}
use Rattle.reading.specs.declared.Charges.{Charges}
use Rattle.reading.specs.declared.Pdu.{Pdu}
use Rattle.reading.specs.declared.Pdu.TheVariants.{CreateRequest, CreateResponse, DataFirst, Data, Close}
use Rattle.reading.specs.declared.Pdu.TheVariants.{CapsRequest, CapsResponse, Refused as Unread}
use Rattle.reading.proofs.Placed.{ReadingRefusal, Placed, placed}
use Rattle.writing.specs.Writing.{bad_capabilities}
use Rattle.channel.specs.declared.Record.{Record}
use Rattle.channel.specs.declared.Answer.{Answer}
use Rattle.channel.specs.declared.Answer.TheVariants as client
use Rattle.channel.specs.Channel.{Act, BadCreate, Create, Bring, Garbled, Closing, LocalClose, View, Shut, Open, NoRoom, act}
use Rattle.table.specs.declared.Table.{Table}
use Rattle.table.specs.Table.{empty_table, number_place, record_at}
use Rattle.table.specs.Sound.{sound_table}
use Rattle.store.specs.Parts.{part}
use Rattle.connection.specs.States.{State, state_of, view_at, view, save, Steady}
use Rattle.connection.proofs.Views.{save_own}
use Rattle.client.specs.Client.{bad_call, store_started}
use Rattle.client.proofs.Calls.{proper}
use Rattle.steps.specs.Rows.{is_open}
use Rattle.steps.specs.States.{Sane}
use Rattle.steps.specs.Refused.{is_of_three, spoils, concerned as concernedThere, left_by as leftThere}
use Rattle.steps.proofs.Leaves.{MildAct, of_reading, Leaves, kept, shut, act_quiet, saved, soon_says, none_open, size_spoils, size_kept, time_kept}
use Rattle.steps.proofs.Leaves.{start_left}
use Rattle.steps.proofs.Calm.{sane_steady}
use Rattle.shore.specs.declared.Shore.{Shore}
use Rattle.shore.specs.declared.Said.TheVariants.{Refused}
use Rattle.shore.specs.Saying.{said_as}
use Rattle.shore.specs.Rules.{Deed, Answered, Acts, Does, settled, is_below_zero, unawaited, as_open, unless_awaited, sent_for, common, deed}
use Rattle.shore.specs.Events.{Event, Unreadable, Asking, Response, Opening, Of, unread, event_of}
use Rattle.shore.specs.Shore.{Standing, standing, state_in, with_state, Stepped, step_to, refused, asking, responded}
use Rattle.shore.specs.Shore.{finished, done, too_soon_for, stepped, whole_of, guarded, received, locally_closed, sends_of, bad_out, storeless, sending}
use Rattle.shore.specs.Shore.{requested, locally_opened, started}
use Rattle.shore_demands.specs.Rows.{is_open_at}
use Rattle.shore_demands.specs.Refused.{concerned, left_by, IsOpen, RefusedCall, RefusedSending}
use Rattle.shore_demands.proofs.Frame.{denied_or_granted}
use Rattle.shore_demands.proofs.Refusals.{seen_as}

-- ---- what the rules of one number leave where they refuse

-- a refusal that is said is one that the common rules answer
answer_refused : (a : Answer) (why : Refusal) (concern : Option ℕ) → said_as a ≡ Refused why concern → a ≡ client.Refused why concern
unfolding said_as
answer_refused (client.Ready level) why concern e = cc
answer_refused (client.Opened n) why concern e = cc
answer_refused (client.Declined n x) why concern e = cc
answer_refused (client.Held n left) why concern e = cc
answer_refused (client.Message n len) why concern e = cc
answer_refused (client.Closed n) why concern e = cc
answer_refused (client.Ignored n) why concern e = cc
answer_refused (client.Refused x c) why concern e = cc

-- of no reply nothing is sent
none_sent : (a : Act) (reply : List ℕ) → reply ≡ [] → sent_for a reply ≡ []
none_sent BadCreate reply e = refl
none_sent (Create listed pri) reply e = refl
none_sent (Bring offer bytes) reply e = refl
none_sent (Garbled why) reply e = refl
none_sent Closing reply e = refl
none_sent LocalClose reply e = e

-- a number that isn't open stays so
shut_leaves : {a : Act} {why : Refusal} {w : View} → Leaves a why Shut w → (w ≡ Shut) × (is_of_three why ≡ false)
shut_leaves (kept s k) = (refl, k)
shut_leaves (shut k) = (refl, k)

module _ (r : Record) (part : List ℕ) where
  -- what is not open, awaited or without a record, is left
  unopened : (has : Bool) → (has && not r.awaited) ≡ false → unless_awaited (cond has (Open r part) Shut) Shut ≡ cond has (Open r part) Shut
  unopened false e = refl
  unopened true e = go r.awaited e
    where
      go : (t : Bool) → not t ≡ false → cond t (Open r part) Shut ≡ Open r part
      go true e = refl
      go false e = absurd (true_not_false e)

  -- what is open is as the common rules leave it
  opened : (has : Bool) (w : View) → (has && not r.awaited) ≡ true → unless_awaited (cond has (Open r part) Shut) w ≡ w
  opened false w e = absurd (true_not_false (sym e))
  opened true w e = go r.awaited e
    where
      go : (t : Bool) → not t ≡ true → cond t (Open r part) w ≡ w
      go true e = absurd (true_not_false (sym e))
      go false e = refl

module _ (n : ℕ) (a : Act) (st : State) (g : Steady st) (why : Refusal) (w : View) where
  abbrev has : Bool
  has = ltb (number_place n st.table) PARTS

  abbrev row_of : Record
  row_of = record_at st.table (number_place n st.table)

  abbrev part_of : List ℕ
  part_of = part st.store (number_place n st.table)

  abbrev PutBack : Type 0
  PutBack =
      (save n st (view n st) (unless_awaited (view n st) w) ≡ state_of (left_by why (Of n (Acts a)) st.table) st.store)
      × (is_of_three why ≡ true → is_open_at st.table n ≡ true)

  -- what the common rules leave, put back
  put_by : (t : Bool) → is_open_at st.table n ≡ t → Leaves a why (cond t (Open row_of part_of) Shut) w → PutBack
  unfolding left_by leftThere is_open is_open_at view view_at
  put_by true o l =
      let h = both has (not row_of.awaited) o in
      let p = (saved n a st g why (Open row_of part_of) w (rw h.0) l).0 in
      (rw (opened row_of part_of has w o, h.0, h.1) (rw h.0 at p), λ k. o)
  put_by false o l =
      let q = shut_leaves l in
      (rw (q.0, unopened row_of part_of has o, o, and_false (spoils why a)) (save_own n st g.bytes), λ k. absurd (true_not_false (sym k ∙ q.1)))

  put_back_law : Leaves a why (as_open (view n st)) w → PutBack
  unfolding view view_at is_open_at
  put_back_law l = put_by (is_open_at st.table n) refl (rw (seen_as row_of part_of has) at l)

-- a Create response is refused with 16 alone, and leaves the number
answered_refused :
    (level n : ℕ) (v : View) (status : ℤ) (why : Refusal) (concern : Option ℕ)
    → (deed level n v (Answered status)).said ≡ Refused why concern → deed level n v (Answered status) ≡ unawaited n v
unfolding deed settled
answered_refused level n Shut status why concern e = refl
answered_refused level n (Open r b) status why concern e =
    let P : Does → Type 0 = λ d. d.said ≡ Refused why concern → d ≡ unawaited n (Open r b) in
    choice P r.awaited (λ t. choice P (is_below_zero status) (λ u f. cc) (λ u f. cc)) (λ t f. refl) e

-- ---- what a refused step leaves

record Refusing (st : Standing) (e : Event) (s : Stepped) (why : Refusal) (concern : Option ℕ) : Type 0 where
  pub silent : s.sent ≡ []
  pub concerns : concern ≡ concerned why e
  pub left : s.state ≡ with_state st (state_of (left_by why e st.shore.table) st.store)
  pub one_channel : is_of_three why ≡ true → IsOpen e st.shore.table

-- a refusal that spoils nothing
refused_here :
    (st : Standing) (e : Event) (x : Refusal) (c : Option ℕ) (why : Refusal) (concern : Option ℕ) → is_of_three x ≡ false → c ≡ concerned x e
    → left_by x e st.shore.table ≡ st.shore.table → Refused x c ≡ Refused why concern → Refusing st e (step_to st (Refused x c) []) why concern
refused_here st e x c why concern s k l h =
    let p : x ≡ why = cc in
    let q : c ≡ concern = cc in
    rw (← p, ← q)
    (record {
      silent = refl;
      concerns = k;
      left = ap (λ (t : Table). with_state st (state_of t st.store)) (sym l);
      one_channel = λ t. absurd (true_not_false (sym t ∙ s));
    })

-- what reading makes sure of a refusal in it. The host's own calls are not read.
abbrev Mild : Event → Type 0
Mild (Unreadable why) = is_of_three why ≡ false
Mild (Asking version charges) = ⊥
Mild (Response version) = Unit {0}
Mild (Opening name class) = ⊥
Mild (Of n (Answered status)) = Unit {0}
Mild (Of n (Acts a)) = MildAct a

-- too early: a refusal up to 7
soon_so : (n : ℕ) (d : Deed) → Mild (Of n d) → (is_of_three (too_soon_for d) ≡ false) × (None ≡ concerned (too_soon_for d) (Of n d))
unfolding too_soon_for concerned
soon_so n (Answered status) m = (time_kept, refl)
soon_so n (Acts a) m = let s = soon_says a m in (s.0, rw s.1)

-- a refusal leaves a table in which the number isn't open
shut_left : (n : ℕ) (d : Deed) (why : Refusal) (t : Table) → is_open_at t n ≡ false → left_by why (Of n d) t ≡ t
unfolding left_by
shut_left n (Answered status) why t h = refl
shut_left n (Acts a) why t h = rw (h, and_false (spoils why a))

-- and when not ready none is
unready_shut : (n : ℕ) (t : Table) → length t.records ≡ PARTS → sound_table t ≡ true → t.ready ≡ false → is_open_at t n ≡ false
unfolding is_open_at is_open
unready_shut n t rows sound e = rw (none_open n t rows sound e)

module _ (st : Standing) (sane : Sane (state_in st)) (why : Refusal) (concern : Option ℕ) where
  -- the number's rules, put back
  ruled_refusing :
      (n : ℕ) (d : Deed) → Mild (Of n d) → st.shore.table.ready ≡ true → (done n st d).said ≡ Refused why concern
      → Refusing st (Of n d) (done n st d) why concern
  unfolding done finished common deed concerned concernedThere left_by is_of_three IsOpen is_open_at view view_at
  ruled_refusing n (Answered status) m r e =
      let v = view n (state_in st) in
      rw (answered_refused st.shore.table.level n v status why concern e, save_own n (state_in st) sane.bytes)
      (refused_here st (Of n (Answered status)) NotAwaited (Some n) why concern refl refl refl
      (ap (λ (x : Does). x.said) (sym (answered_refused st.shore.table.level n v status why concern e)) ∙ e))
  ruled_refusing n (Acts a) m r e =
      let t = st.shore.table in
      let g = sane_steady (state_in st) sane r in
      let d = act t.level n NoRoom (as_open (view n (state_in st))) a in
      let q = act_quiet t.level n NoRoom (as_open (view n (state_in st))) a why concern m (answer_refused d.answer why concern e) in
      let p = put_back_law n a (state_in st) g why d.view q.leaves in
      record { silent = none_sent a d.reply q.silent; concerns = q.concerns; left = ap (with_state st) p.0; one_channel = p.1 }

  of_refusing :
      (n : ℕ) (d : Deed) → Mild (Of n d) → (t : Bool) → st.shore.table.ready ≡ t
      → (cond t (done n st d) (refused st (too_soon_for d))).said ≡ Refused why concern
      → Refusing st (Of n d) (cond t (done n st d) (refused st (too_soon_for d))) why concern
  of_refusing n d m true r e = ruled_refusing n d m r e
  of_refusing n d m false r e =
      let s = soon_so n d m in
      refused_here st (Of n d) (too_soon_for d) None why concern s.0 s.1
      (shut_left n d (too_soon_for d) st.shore.table (unready_shut n st.shore.table sane.rows sane.sound r)) e

  step_refusing : (e : Event) → Mild e → (stepped st e).said ≡ Refused why concern → Refusing st e (stepped st e) why concern
  unfolding stepped responded concerned left_by
  step_refusing (Unreadable x) m h = refused_here st (Unreadable x) x None why concern m refl refl h
  step_refusing (Asking version charges) m h = absurd m
  step_refusing (Response version) m h =
      choice (λ (s : Stepped). s.said ≡ Refused why concern → Refusing st (Response version) s why concern)
      (st.shore.table.ready || eqb st.shore.asked 0)
      (λ r f. refused_here st (Response version) WrongTime None why concern time_kept refl refl f)
      (λ r f. let z : ◌≡◌ {A = ℕ} 0 1 = cc in absurd (omega arith)) h
  step_refusing (Opening name class) m h = absurd m
  step_refusing (Of n d) m h = of_refusing n d m st.shore.table.ready refl h

-- ---- the calls that are lent the store

whole_refusing :
    (s : Shore) (store reply : List ℕ) (e : Event) (x : Stepped) (why : Refusal) (concern : Option ℕ)
    → Refusing (standing s store) e x why concern → RefusedCall s store reply e (whole_of reply x) why concern
unfolding whole_of laid
whole_refusing s store reply e x why concern r =
    record {
      stored = ap (λ (y : Standing). y.store) r.left;
      replied = rw r.silent;
      none_sent = rw r.silent;
      concerns = r.concerns;
      left = ap (λ (y : Standing). y.shore) r.left;
      one_channel = r.one_channel;
    }

-- refusal 1 spoils nothing and concerns none
size_left : (e : Event) (t : Table) → (None ≡ concerned BadCall e) × (left_by BadCall e t ≡ t)
unfolding left_by concerned
size_left (Unreadable w) t = (refl, refl)
size_left (Asking version charges) t = (refl, refl)
size_left (Response version) t = (refl, refl)
size_left (Opening name class) t = (refl, refl)
size_left (Of n (Answered status)) t = (refl, refl)
size_left (Of n (Acts a)) t = (refl, rw (size_spoils a))

guarded_refusing :
    (s : Shore) (store reply : List ℕ) (e : Event) → length s.table.records ≡ PARTS → Mild e → (why : Refusal) (concern : Option ℕ)
    → (guarded s store reply (stepped (standing s store) e)).result.said ≡ Refused why concern
    → RefusedCall s store reply e (guarded s store reply (stepped (standing s store) e)) why concern
unfolding guarded whole_of
guarded_refusing s store reply e rows mild why concern =
    choice (λ (x : Stepped). x.said ≡ Refused why concern → RefusedCall s store reply e (whole_of reply x) why concern)
    (bad_call s.table (length store) (length reply))
    (λ b h. whole_refusing s store reply e (refused (standing s store) BadCall) why concern
    (let l = size_left e s.table in refused_here (standing s store) e BadCall None why concern size_kept l.0 l.1 h))
    (λ b h. let p = proper s.table (length store) (length reply) b in
    whole_refusing s store reply e (stepped (standing s store) e) why concern
    (step_refusing (standing s store) (record { rows = rows; bytes = p.store_size; sound = p.sound }) why concern e mild h))

mild_unread : (why : Refusal) (carried : Option ℕ) → ReadingRefusal why → Mild (unread why carried)
unfolding unread
mild_unread why None h = (of_reading why h).not_three
mild_unread why (Some n) h = h

mild_read : (pdu : List ℕ) (p : Pdu) → Placed pdu p → Mild (event_of pdu p)
unfolding event_of
mild_read pdu (CreateRequest n class name) h = time_kept
mild_read pdu (CreateResponse n status) h = tt
mild_read pdu (DataFirst n len block) h = tt
mild_read pdu (Data n block) h = tt
mild_read pdu (Close n) h = tt
mild_read pdu (CapsRequest version charges) h = time_kept
mild_read pdu (CapsResponse version) h = tt
mild_read pdu (Unread why) h = mild_unread why (carries pdu) h

pub receive_refused :
    (s : Shore) (store pdu reply : List ℕ) (why : Refusal) (concern : Option ℕ) → length s.table.records ≡ PARTS
    → (received s store pdu reply).result.said ≡ Refused why concern
    → RefusedCall s store reply (event_of pdu (read_pdu false pdu)) (received s store pdu reply) why concern
unfolding received
receive_refused s store pdu reply why concern rows e =
    guarded_refusing s store reply (event_of pdu (read_pdu false pdu)) rows (mild_read pdu (read_pdu false pdu) (placed pdu false)) why concern e

pub local_close_refused :
    (s : Shore) (store : List ℕ) (n : ℕ) (reply : List ℕ) (why : Refusal) (concern : Option ℕ)
    → length s.table.records ≡ PARTS → (locally_closed s store n reply).result.said ≡ Refused why concern
    → RefusedCall s store reply (Of n (Acts LocalClose)) (locally_closed s store n reply) why concern
unfolding locally_closed
local_close_refused s store n reply why concern rows e = guarded_refusing s store reply (Of n (Acts LocalClose)) rows tt why concern e

-- ---- the calls that are lent a written PDU's buffer

module _ (s : Shore) (out : List ℕ) (why : Refusal) (concern : Option ℕ) where
  abbrev IfRefused : Stepped → Type 0
  IfRefused x = x.said ≡ Refused why concern → RefusedSending s out (sends_of out x) concern

  refused_sends : (x : Refusal) → IfRefused (refused (storeless s) x)
  unfolding sends_of laid
  refused_sends x e = record { kept = refl; unwritten = refl; none_sent = refl; concerns = cc }

  pub request_refused :
      (version : ℕ) (charges : Charges) → (requested s version charges out).result.said ≡ Refused why concern
      → RefusedSending s out (requested s version charges out) concern
  unfolding requested sending sends_of asking
  request_refused version charges =
      choice IfRefused (bad_out s.table (length out)) (λ t. refused_sends BadCall)
      (λ t. choice IfRefused (not (eqb s.asked 0)) (λ u. refused_sends WrongTime)
      (λ u. choice IfRefused (bad_capabilities version charges) (λ v. refused_sends BadField)
      (λ v e. let z : ◌≡◌ {A = ℕ} 0 1 = cc in absurd (omega arith))))

  pub local_open_refused :
      (name : List ℕ) (class : ℕ) → (locally_opened s name class out).result.said ≡ Refused why concern
      → RefusedSending s out (locally_opened s name class out) concern
  unfolding locally_opened sending sends_of
  local_open_refused name class =
      choice IfRefused (bad_out s.table (length out)) (λ t. refused_sends BadCall)
      (λ t.
      ⊎_elim (λ d. subst IfRefused (sym d.is) (refused_sends d.why))
      (λ g. subst IfRefused (sym g.is) (λ e. let z : ◌≡◌ {A = ℕ} 0 1 = cc in absurd (omega arith)))
      (denied_or_granted (storeless s) name class))

-- ---- Start

pub start_leaves :
    (store : List ℕ) → length store ≢ STORE
    → ((started store).shore ≡ record { table = empty_table; asked = 0 }) × (store_started store ≡ store)
unfolding started
start_leaves store d = (refl, (start_left store d).1)
