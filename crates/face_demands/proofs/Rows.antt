-- What holds of every record of a table, of either end, and stays so where a record is put: numbers and counts of 32 bits.
-- Assumes nothing.
use mathlib.Core.Path.{◌≡◌, refl}
use mathlib.Core.Bool.{Bool, true, false}
use mathlib.Core.Logic.{⊎_elim}
use Prim.Native.Nat.{ℕ, ◌≤◌, ◌<◌}
use native.Mathlib.Omega.{arith}
use lib.Dec.{ltb, lit<}
use lib.ListN.{length}
use Rattle.paper.specs.Sizes.{PARTS, COUNT_MAX}
use Rattle.lists.proofs.Cases.{choice, lt_or_le}
use Rattle.numbers.specs.Numbers.{NUMBERS}
use Rattle.channel.specs.declared.Record.{Record}
use Rattle.channel.specs.declared.Stage.{Stage}
use Rattle.channel.specs.declared.Stage.TheVariants.{Spoiled}
use Rattle.channel.specs.Channel.{blank, Act, BadCreate, Create, Bring, Garbled, Closing, LocalClose, View, Shut, Open, Room, NoRoom, Spare}
use Rattle.channel.specs.Channel.{counted, rebuilt, restaged, opening, opened_record, stage_after, is_whole, landed, act}
use Rattle.channel.specs.Stages.{took}
use Rattle.table.specs.declared.Table.{Table}
use Rattle.table.specs.Table.{record_at, with_record, number_place, free_place}
use Rattle.table.proofs.Records.{with_past, at_any}
use Rattle.connection.specs.States.{State, view, view_at, wrote, save}

-- of a view, where it is open
abbrev pub Seen : (Record → Type 0) → View → Type 0
Seen P Shut = Unit {0}
Seen P (Open r part) = P r

-- of every record
abbrev pub Every : (Record → Type 0) → Table → Type 0
Every P t = (i : ℕ) → P (record_at t i)

module _ (P : Record → Type 0) (free : P blank) where
  with_every : (t : Table) (k : ℕ) (r : Record) → Every P t → P r → Every P (with_record t k r)
  with_every t k r all h i =
      ⊎_elim
      (λ (inside : k < length t.records). ⊎_elim (λ p. rw p.1 h) (λ p. rw p.1 (all i)) (at_any t k r inside i))
      (λ (past : length t.records ≤ k). rw (with_past t k r past) (all i))
      (lt_or_le k (length t.records))

  pub free_every : (t : Table) (r : Record) → Every P t → P r → Every P (with_record t (free_place t) r)
  free_every t r = with_every t (free_place t) r

  pub view_seen : (n : ℕ) (st : State) → Every P st.table → Seen P (view n st)
  unfolding view view_at
  view_seen n st all =
      choice (Seen P) (ltb (number_place n st.table) PARTS) (λ e. all (number_place n st.table)) (λ e. tt)

  pub save_every : (n : ℕ) (st : State) (old new : View) → Every P st.table → Seen P new → Every P (save n st old new).table
  unfolding save wrote
  save_every n st Shut Shut all h = all
  save_every n st Shut (Open r bytes) all h = with_every st.table (free_place st.table) r all h
  save_every n st (Open old kept) (Open r bytes) all h = with_every st.table (number_place n st.table) r all h
  save_every n st (Open old kept) Shut all h = with_every st.table (number_place n st.table) blank all free

-- what is put back leaves ready and the level
pub save_unready :
    (n : ℕ) (st : State) (old new : View) → (st.table.ready ≡ false → st.table.level ≡ 0)
    → (save n st old new).table.ready ≡ false → (save n st old new).table.level ≡ 0
unfolding save wrote with_record
save_unready n st Shut Shut h = h
save_unready n st Shut (Open r bytes) h = h
save_unready n st (Open old kept) (Open r bytes) h = h
save_unready n st (Open old kept) Shut h = h

-- ---- records of the two ends

-- of 32 bits
pub record Small (r : Record) : Type 0 where
  pub number : r.number < NUMBERS
  pub count : r.count < NUMBERS

-- and not awaited
pub record Plain (r : Record) : Type 0 where
  pub small : Small r
  pub unawaited : r.awaited ≡ false

pub small_blank : Small blank
small_blank = record { number = lit< tt; count = lit< tt }

pub plain_blank : Plain blank
plain_blank = record { small = small_blank; unawaited = refl }

-- a count never grows past 32 bits
pub counted_small : (count : ℕ) (handed : Bool) → count < NUMBERS → counted count handed < NUMBERS
unfolding COUNT_MAX
counted_small count true h = omega arith
counted_small count false h = h

-- another stage, and a message counted or not
pub small_rebuilt : (r : Record) (stage : Stage) (handed : Bool) → Small r → Small (rebuilt r stage handed)
small_rebuilt r stage handed h = record { number = h.number; count = counted_small r.count handed h.count }

pub plain_rebuilt : (r : Record) (stage : Stage) (handed : Bool) → Plain r → Plain (rebuilt r stage handed)
plain_rebuilt r stage handed h = record { small = small_rebuilt r stage handed h.small; unawaited = h.unawaited }

-- a channel just opened
pub small_opened : (level n pri : ℕ) → n < NUMBERS → Small (opened_record level n pri)
unfolding opened_record
small_opened level n pri h = record { number = h; count = lit< tt }

pub plain_opened : (level n pri : ℕ) → n < NUMBERS → Plain (opened_record level n pri)
unfolding opened_record
plain_opened level n pri h = record { small = small_opened level n pri h; unawaited = refl }

-- ---- what the rules of one channel make of it

module _ (P : Record → Type 0) (n : ℕ) (opens : (level pri : ℕ) → P (opened_record level n pri))
    (again : (r : Record) (stage : Stage) (handed : Bool) → P r → P (rebuilt r stage handed)) where
  opening_seen : (level pri : ℕ) (room : Room) → Seen P (opening level n pri room).view
  unfolding opening
  opening_seen level pri NoRoom = tt
  opening_seen level pri (Spare part) = opens level pri

  pub act_seen : (level : ℕ) (room : Room) (v : View) (a : Act) → Seen P v → Seen P (act level n room v a).view
  unfolding act landed restaged
  act_seen level room v BadCreate h = h
  act_seen level room (Open r part) (Create listed pri) h = h
  act_seen level room Shut (Create true pri) h = opening_seen level pri room
  act_seen level room Shut (Create false pri) h = tt
  act_seen level room (Open r part) (Bring offer bytes) h =
      let tk = took r.stage offer (length bytes) in
      again r (stage_after r.stage tk) (is_whole tk) h
  act_seen level room Shut (Bring offer bytes) h = tt
  act_seen level room (Open r part) (Garbled why) h = again r Spoiled false h
  act_seen level room Shut (Garbled why) h = tt
  act_seen level room (Open r part) Closing h = tt
  act_seen level room Shut Closing h = tt
  act_seen level room (Open r part) LocalClose h = tt
  act_seen level room Shut LocalClose h = tt
