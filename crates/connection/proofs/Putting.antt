-- What a turn says, put back where the channel was found, is what the rules make of the channel's view, saved.
-- Assumes nothing.
use mathlib.Core.Path.{◌≡◌, refl, sym, ap, subst, ◌∙◌}
use mathlib.Core.Bool.{Bool, true, false}
use mathlib.Core.List.{List}
use mathlib.Core.Logic.{⊎_elim}
use Prim.Native.Nat.{ℕ, ◌≤◌, ◌<◌}
use native.Mathlib.Omega.{arith}
use borrow.Author.Tests.{lt-ltb, le-ltb}
use lib.Dec.{ltb}
use lib.ListN.{length}
use lib.Seq.{get_or-set_same}
use Rattle.paper.specs.Sizes.{PARTS, STORE}
use Rattle.paper.specs.declared.Refusal.{Refusal}
use Rattle.lists.proofs.Cases.{lt_or_le, true_not_false}
use Rattle.channel.specs.declared.Record.{Record}
use Rattle.channel.specs.declared.Answer.{Answer}
use Rattle.channel.specs.declared.Ask.{Ask}
use Rattle.channel.specs.declared.Change.{Change}
use Rattle.channel.specs.declared.Change.TheVariants.{Stays, Becomes, Frees}
use Rattle.channel.specs.declared.Part.{Part}
use Rattle.channel.specs.declared.Part.TheVariants.{Keeps, Takes, Clears}
use Rattle.channel.specs.declared.Turn.{Turn}
use Rattle.channel.specs.Channel.{blank, Act, BadCreate, Create, Bring, Garbled, Closing, LocalClose, View, Shut, Open, Room}
use Rattle.channel.specs.Channel.{NoRoom, Did, act, opening}
use Rattle.channel.specs.Turns.{garbling, turn_of, view_of, room_of, act_of, part_told, reply_told}
use Rattle.channel.proofs.Turns.{Comes, Tells, turn_rules, garbles_rules, view_open as seen_open}
use Rattle.table.specs.declared.Table.{Table}
use Rattle.table.specs.Table.{number_place, free_place, record_at, placed, with_record, home_place, site_of, next_of, totals_after, put_back}
use Rattle.table.specs.Totals.{opens, awaits, changed}
use Rattle.table.proofs.Records.{placed_past, at_past, number_holds, free_at}
use Rattle.table.proofs.Recount.{changed_alike, opens_none, awaits_none}
use Rattle.table.proofs.Twice.{holds_says}
use Rattle.store.specs.Parts.{part, with_part}
use Rattle.store.proofs.Parts.{there, put_there, cleared_there}
use Rattle.connection.specs.States.{State, state_of, view, room_at, room_in, wrote, save, kept}
use Rattle.connection.proofs.Views.{view_shut, view_open, room_none, own_part, wrote_own}

-- ---- what `act` makes of a channel doesn't hang on the room, where it is open; and with no room none is opened

any_room :
    (level n : ℕ) (r s : Room) (row : Record) (part : List ℕ) (a : Act)
    → act level n r (Open row part) a ≡ act level n s (Open row part) a
unfolding act
any_room level n r s row part BadCreate = refl
any_room level n r s row part (Create listed pri) = refl
any_room level n r s row part (Bring offer bytes) = refl
any_room level n r s row part (Garbled why) = refl
any_room level n r s row part Closing = refl
any_room level n r s row part LocalClose = refl

no_room : (level n : ℕ) (a : Act) → (act level n NoRoom Shut a).view ≡ Shut
unfolding act opening
no_room level n BadCreate = refl
no_room level n (Create true pri) = refl
no_room level n (Create false pri) = refl
no_room level n (Bring offer bytes) = refl
no_room level n (Garbled why) = refl
no_room level n Closing = refl
no_room level n LocalClose = refl

is_shut : View → Bool
is_shut Shut = true
is_shut (Open r bytes) = false

open_not_shut : (r : Record) (bytes : List ℕ) → Open r bytes ≡ Shut → ⊥
unfolding is_shut
open_not_shut r bytes e = true_not_false (sym (ap is_shut e))

-- ---- the table

pub put_stays :
    (t : Table) (ready : Bool) (level k : ℕ) (row : Record) → length t.records ≡ PARTS
    → put_back t ready level k row Stays ≡ record { totals = t.totals; ready = ready; level = level; records = t.records }
unfolding put_back site_of next_of totals_after
put_stays t ready level k row h =
    ap (λ (x : Table). record { totals = t.totals; ready = ready; level = level; records = x.records })
    (placed_past t PARTS blank (rw h (omega arith)))

-- where `row` adds to the totals what the record there does
module _ (t : Table) (k : ℕ) (row : Record) (l : k < length t.records) (opened : opens row ≡ opens (record_at t k))
    (awaited : awaits row ≡ awaits (record_at t k)) where
  moved_there : (r : Record) → changed t.totals row r ≡ (with_record t k r).totals
  unfolding with_record placed record_at
  moved_there r =
      rw (changed_alike t.totals row (record_at t k) r opened awaited, get_or-set_same t.records k r blank l) refl

  pub put_becomes : (r : Record) → put_back t t.ready t.level k row (Becomes r) ≡ with_record t k r
  unfolding put_back site_of next_of totals_after with_record placed
  put_becomes r = rw (moved_there r) refl

  put_frees : put_back t t.ready t.level k row Frees ≡ with_record t k blank
  unfolding put_back site_of next_of totals_after with_record placed
  put_frees = rw (moved_there blank) refl

-- ---- the store

kept_part :
    (store : List ℕ) (k : ℕ) (p : Part) (block : List ℕ) → length store ≡ STORE → k < PARTS
    → kept store k p block ≡ with_part store k (part_told (part store k) block p)
unfolding kept part_told
kept_part store k Keeps block h l = sym (own_part store k h l)
kept_part store k (Takes at) block h l = put_there store k at block (there store k h l)
kept_part store k Clears block h l = cleared_there store k (there store k h l)

-- what a turn leaves of the state
abbrev pub left : Table → List ℕ → ℕ → Record → List ℕ → Turn → State
left t store k row block turn = state_of (put_back t t.ready t.level k row turn.change) (kept store k turn.part block)

-- ---- a channel that is open

module _ (n : ℕ) (t : Table) (store : List ℕ) (k : ℕ) (row : Record) (long : length t.records ≡ PARTS) (h : length store ≡ STORE)
    (l : k < PARTS) (e : k ≡ number_place n t) (f : row ≡ record_at t k) (g : row.taken ≡ true) where
  abbrev st : State
  st = state_of t store

  within : k < length t.records
  within = rw long l

  pub open_saved :
      (block : List ℕ) (turn : Turn) (new : View) → Comes row (part store k) block turn.change turn.part new
      → save n st (Open row (part store k)) new ≡ left t store k row block turn
  unfolding save wrote kept
  open_saved block turn new c = go turn.change turn.part c
    where
      go :
          (change : Change) (p : Part) → Comes row (part store k) block change p new
          → save n st (Open row (part store k)) new ≡ state_of (put_back t t.ready t.level k row change) (kept store k p block)
      go Stays p x =
          rw (x.0, x.1 ∙ seen_open row (part store k) g, put_stays t t.ready t.level k row long)
          (ap (λ (j : ℕ). wrote st j row (part store k)) (sym e) ∙ ap (λ (r : Record). wrote st k r (part store k)) f
          ∙ wrote_own st k h l)
      go (Becomes r) p x = rw (x, put_becomes t k row within (ap opens f) (ap awaits f) r, kept_part store k p block h l, ← e) refl
      go Frees p x =
          rw (x.2, x.0, put_frees t k row within (ap opens f) (ap awaits f), cleared_there store k (there store k h l), ← e) refl

-- ---- a channel that is shut

module _ (n : ℕ) (t : Table) (store : List ℕ) (k : ℕ) (row : Record) (long : length t.records ≡ PARTS) (h : length store ≡ STORE)
    (e : k ≡ free_place t) (f : row ≡ blank) where
  free : k < PARTS → (record_at t k).taken ≡ false
  free l = rw e (free_at t (omega (arith, l, long, e)))

  shut : row.taken ≡ false
  shut = rw f refl

  no_channel : k < PARTS → opens row ≡ opens (record_at t k)
  no_channel l = opens_none row shut ∙ sym (opens_none (record_at t k) (free l))

  no_bytes : k < PARTS → awaits row ≡ awaits (record_at t k)
  no_bytes l = awaits_none row shut ∙ sym (awaits_none (record_at t k) (free l))

  shut_saved :
      (block : List ℕ) (turn : Turn) (new : View) → (PARTS ≤ k → new ≡ Shut)
      → Comes row (part store k) block turn.change turn.part new → save n (state_of t store) Shut new ≡ left t store k row block turn
  unfolding save wrote kept view_of
  shut_saved block turn new none c = go turn.change turn.part c
    where
      go :
          (change : Change) (p : Part) → Comes row (part store k) block change p new
          → save n (state_of t store) Shut new ≡ state_of (put_back t t.ready t.level k row change) (kept store k p block)
      go Stays p x = rw (x.0, x.1, put_stays t t.ready t.level k row long, f) refl
      go (Becomes r) p x =
          ⊎_elim
          (λ (l : k < PARTS). rw (x, put_becomes t k row (rw long l) (no_channel l) (no_bytes l) r, kept_part store k p block h l, ← e) refl)
          (λ (l : PARTS ≤ k). absurd (open_not_shut _ _ (sym x ∙ none l)))
          (lt_or_le k PARTS)
      go Frees p x = absurd (true_not_false (sym x.1 ∙ ap (λ (r : Record). r.taken) f))

-- ---- what is asked of a channel

pub past_blank : (n : ℕ) (t : Table) → length t.records ≤ number_place n t → record_at t (number_place n t) ≡ blank
unfolding record_at
past_blank n t h = at_past t.records (number_place n t) h

-- what a turn says is what was done to the channel: the state, the answer, and the bytes of the reply
pub record Does (n : ℕ) (st next : State) (t : Turn) (v : View) (d : Did) : Type 0 where
  pub state : save n st v d.view ≡ next
  pub answer : Path Answer t.answer d.answer
  pub reply : Path (List ℕ) (reply_told n t.reply) d.reply

module _ (n : ℕ) (t : Table) (store : List ℕ) (long : length t.records ≡ PARTS) (h : length store ≡ STORE) where
  abbrev pub home : ℕ
  home = home_place n t

  abbrev pub found : Record
  found = record_at t (number_place n t)

  abbrev here : State
  here = state_of t store

  -- the rules, and the turn
  abbrev pub rules : Ask → List ℕ → Did
  rules ask block = act t.level n (room_in (state_of t store)) (view n (state_of t store)) (act_of ask block)

  abbrev pub taken : Ask → List ℕ → Turn
  taken ask block = turn_of t.level n (ltb (home_place n t) PARTS) (record_at t (number_place n t)) ask (length block)

  at_home : number_place n t < PARTS → home_place n t ≡ number_place n t
  unfolding home_place
  at_home l = rw (lt-ltb (number_place n t) PARTS l) refl

  pub is_open_law : number_place n t < PARTS → found.taken ≡ true
  is_open_law l = (holds_says n found (number_holds n t (rw long l))).0

  -- a turn that tells what is done to the open channel, whatever is asked
  open_turn :
      (a : Act) (block : List ℕ) (turn : Turn) → number_place n t < PARTS
      → Tells n found (part store (number_place n t)) block turn (act t.level n (room_in here) (Open found (part store (number_place n t))) a)
      → Does n here (left t store home found block turn) turn (view n here) (act t.level n (room_in here) (view n here) a)
  open_turn a block turn l tells =
      rw (view_open n here (number_place n t) refl l, at_home l)
      (record {
        state = open_saved n t store (number_place n t) found long h l refl refl (is_open_law l) block turn _ tells.view;
        answer = tells.answer;
        reply = tells.reply;
      })

  open_does :
      (ask : Ask) (block : List ℕ) → number_place n t < PARTS
      → Does n here (left t store home found block (taken ask block)) (taken ask block) (view n here) (rules ask block)
  open_does ask block l =
      let place = number_place n t in
      let tells = rw (
        seen_open found (part store place) (is_open_law l),
        any_room t.level n (room_of (ltb home PARTS) (part store place)) (room_in here) found
            (part store place) (act_of ask block),
      ) at (turn_rules t.level n (ltb home PARTS) found (part store place) block ask
      (length block) refl) in
      open_turn (act_of ask block) block (taken ask block) l tells

  -- a garbled block on an open channel
  pub garbled_does :
      (why : Refusal) (block : List ℕ) → number_place n t < PARTS
      → Does n here (left t store home found block (garbling found why)) (garbling found why) (view n here)
      (act t.level n (room_in here) (view n here) (Garbled why))
  garbled_does why block l =
      open_turn (Garbled why) block (garbling found why) l
      (garbles_rules t.level n (room_in here) found (part store (number_place n t)) block why)

  shut_does :
      (ask : Ask) (block : List ℕ) → PARTS ≤ number_place n t
      → Does n here (left t store home found block (taken ask block)) (taken ask block) (view n here) (rules ask block)
  unfolding home_place room_in room_at room_of view_of
  shut_does ask block l =
      let at_home : home_place n t ≡ free_place t = rw (le-ltb (number_place n t) PARTS l) refl in
      let free : found ≡ blank = past_blank n t (rw long l) in
      let place = free_place t in
      let same : view_of found (part store place) ≡ Shut = rw free refl in
      let tells = subst (λ (v : View). Tells n found (part store place) block (turn_of t.level n (ltb place PARTS) found ask
      (length block)) (act t.level n (room_in here) v (act_of ask block))) same (turn_rules t.level n (ltb place PARTS) found
      (part store place) block ask (length block) refl) in
      let full : PARTS ≤ place → (act t.level n (room_in here) Shut (act_of ask block)).view ≡ Shut = λ m. ap (λ (r : Room). (act
      t.level n r Shut (act_of ask block)).view) (room_none here place refl m) ∙ no_room t.level n (act_of ask block) in
      rw (view_shut n here (number_place n t) refl l, at_home)
      (record {
        state = shut_saved n t store place found long h refl free block (turn_of t.level n (ltb place PARTS) found ask
            (length block)) _ full tells.view;
        answer = tells.answer;
        reply = tells.reply;
      })

  pub turn_does :
      (ask : Ask) (block : List ℕ)
      → Does n here (left t store home found block (taken ask block)) (taken ask block) (view n here) (rules ask block)
  turn_does ask block = ⊎_elim (open_does ask block) (shut_does ask block) (lt_or_le (number_place n t) PARTS)
