-- What the rules of one channel make of a view fits where the channel stands.
-- Assumes nothing.
use mathlib.Core.Path.{◌≡◌, refl, sym, ◌∙◌}
use mathlib.Core.Bool.{Bool, true, false}
use mathlib.Core.List.{List}
use Prim.Native.Nat.{ℕ, ◌+◌, ◌≤◌, ◌<◌}
use native.Mathlib.Omega.{arith}
use borrow.Author.Tests.{ltb-false, eqb-false}
use lib.Dec.{ltb, eqb}
use lib.ListN.{length}
use Rattle.paper.specs.Sizes.{MESSAGE_MAX}
use Rattle.lists.proofs.Cases.{choice}
use Rattle.lists.proofs.Laid.{length_laid}
use Rattle.channel.specs.declared.Stage.{Stage}
use Rattle.channel.specs.declared.Stage.TheVariants.{Idle, Joining, Spoiled}
use Rattle.channel.specs.declared.Record.{Record}
use Rattle.channel.specs.declared.Offer.{Offer}
use Rattle.channel.specs.declared.Offer.TheVariants.{First, More}
use Rattle.channel.specs.declared.Took.{Took}
use Rattle.channel.specs.declared.Took.TheVariants.{Bars, Spoils, Holds, Finishes}
use Rattle.channel.specs.Stages.{added, took_first, took}
use Rattle.channel.specs.Channel.{Act, BadCreate, Create, Bring, Garbled, Closing, LocalClose, View, Shut, Open, Room, NoRoom}
use Rattle.channel.specs.Channel.{Spare, class_at, opened_record, rebuilt, restaged, opening, stage_after, part_after, landed, act}
use Rattle.table.specs.Table.{holds, record_at, number_place}
use Rattle.table.specs.Sound.{good_stage}
use Rattle.table.proofs.Twice.{holds_own}
use Rattle.table.proofs.Records.{number_holds}
use Rattle.table.proofs.Soundness.{sound_says, joining_bounds, joining_good}
use Rattle.connection.specs.States.{State, view, Steady, FineAct}
use Rattle.connection.proofs.Frame.{Fine, Fits, opened}

-- ---- what data comes to

-- what is held is below what is wanted, and that is no more than a message
abbrev GoodTook : Took → Type 0
GoodTook (Bars why) = Unit {0}
GoodTook (Spoils why) = Unit {0}
GoodTook (Holds wanted at held) = (held < wanted) × (wanted ≤ MESSAGE_MAX)
GoodTook (Finishes at len) = Unit {0}

added_good : (wanted held n : ℕ) → wanted ≤ MESSAGE_MAX → GoodTook (added wanted held n)
unfolding added
added_good wanted held n h =
    choice GoodTook (ltb wanted (held + n)) (λ e. tt)
    (λ e. choice GoodTook (eqb (held + n) wanted) (λ f. tt)
    (λ f. (omega (arith, ltb-false wanted (held + n) e, eqb-false (held + n) wanted f), h)))

took_good : (s : Stage) (offer : Offer) (n : ℕ) → good_stage s ≡ true → GoodTook (took s offer n)
unfolding took took_first
took_good Idle (First len) n g = choice GoodTook (ltb MESSAGE_MAX len) (λ e. tt) (λ e. added_good len 0 n (ltb-false MESSAGE_MAX len e))
took_good Idle More n g = tt
took_good (Joining wanted held) (First len) n g = tt
took_good (Joining wanted held) More n g = added_good wanted held n (joining_bounds (Joining wanted held) wanted held refl g).1
took_good Spoiled offer n g = tt

-- ---- what the rules make

-- an open channel's record holds its number, and may stand in a sound table
abbrev pub Known : ℕ → View → Type 0
Known n Shut = Unit {0}
Known n (Open r b) = (holds n r ≡ true) × Fine r

-- the record in another stage, with a message counted or not
other_stage : (n : ℕ) (r : Record) (s : Stage) (handed : Bool) → holds n r ≡ holds n (rebuilt r s handed)
unfolding holds
other_stage n r s handed = refl

rebuilt_fine : (r : Record) (s : Stage) (handed : Bool) → Fine r → good_stage s ≡ true → Fine (rebuilt r s handed)
rebuilt_fine r s handed f g = record { class = f.class; stage = g }

class_fine : (level pri : ℕ) → pri ≤ 3 → class_at level pri ≤ 3
unfolding class_at
class_fine level pri h = choice (λ (c : ℕ). c ≤ 3) (eqb level 2) (λ e. h) (λ e. omega arith)

opening_fits : (level n pri : ℕ) (room : Room) → pri ≤ 3 → Fits n room Shut (opening level n pri room).view
unfolding opening opened_record good_stage
opening_fits level n pri NoRoom h = tt
opening_fits level n pri (Spare p) h =
    (holds_own n (opened_record level n pri) refl refl, (refl, record { class = class_fine level pri h; stage = refl }))

-- spoiled, with its part as it was
spoiled_fits : (n : ℕ) (room : Room) (r : Record) (b : List ℕ) → Known n (Open r b) → Fits n room (Open r b) (Open (restaged r Spoiled) b)
unfolding restaged good_stage
spoiled_fits n room r b k = (sym (other_stage n r Spoiled false) ∙ k.0, (refl, rebuilt_fine r Spoiled false k.1 refl))

landed_fits :
    (n : ℕ) (room : Room) (r : Record) (b bytes : List ℕ) → holds n r ≡ true → Fine r → (t : Took) → GoodTook t
    → Fits n room (Open r b) (landed n r b bytes t).view
unfolding landed stage_after part_after restaged good_stage
landed_fits n room r b bytes h f (Bars why) g = (h, (refl, f))
landed_fits n room r b bytes h f (Spoils why) g = spoiled_fits n room r b (h, f)
landed_fits n room r b bytes h f (Holds wanted at held) g = (
  sym (other_stage n r (Joining wanted held) false)
      ∙ h,
  (length_laid b at bytes, rebuilt_fine r (Joining wanted held) false f (joining_good wanted held g.0 g.1)),
)
landed_fits n room r b bytes h f (Finishes at len) g =
    (sym (other_stage n r Idle true) ∙ h, (length_laid b at bytes, rebuilt_fine r Idle true f refl))

-- a view that stays fits
pub stays_fits : (n : ℕ) (room : Room) (v : View) → Known n v → Fits n room v v
stays_fits n room Shut k = tt
stays_fits n room (Open r b) k = (k.0, (refl, k.1))

pub act_fits : (level n : ℕ) (room : Room) (v : View) (a : Act) → Known n v → FineAct a → Fits n room v (act level n room v a).view
unfolding act
act_fits level n room v BadCreate k z = stays_fits n room v k
act_fits level n room Shut (Create true pri) k z = opening_fits level n pri room z
act_fits level n room Shut (Create false pri) k z = tt
act_fits level n room (Open r b) (Create listed pri) k z = stays_fits n room (Open r b) k
act_fits level n room Shut (Bring offer bytes) k z = tt
act_fits level n room (Open r b) (Bring offer bytes) k z =
    landed_fits n room r b bytes k.0 k.1 (took r.stage offer (length bytes)) (took_good r.stage offer (length bytes)
    k.1.stage)
act_fits level n room Shut (Garbled why) k z = tt
act_fits level n room (Open r b) (Garbled why) k z = spoiled_fits n room r b k
act_fits level n room Shut Closing k z = tt
act_fits level n room (Open r b) Closing k z = tt
act_fits level n room Shut LocalClose k z = tt
act_fits level n room (Open r b) LocalClose k z = tt

-- ---- in a steady state every view is known

pub view_known : (n : ℕ) (st : State) → Steady st → (v : View) → view n st ≡ v → Known n v
view_known n st g Shut h = tt
view_known n st g (Open r b) h =
    let o = opened n st r b h in
    let s = sound_says st.table g.sound in
    let k = number_place n st.table in
    let fine : Fine (record_at st.table k) = record { class = s.class k; stage = s.stage k } in
    (rw o.1.0 at (number_holds n st.table (rw g.rows o.0)), rw o.1.0 at fine)
