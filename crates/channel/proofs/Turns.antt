-- A turn tells what the rules do, on any bytes of the part and of the block: case by case, both sides compute to the same.
-- Assumes nothing.
use Rattle.std.specs.Prelude.{None, Some}
use mathlib.Core.Path.{◌≡◌, refl, sym, ap, ◌∙◌}
use mathlib.Core.Bool.{Bool, true, false, not, cond}
use mathlib.Core.Logic.{◌⊎◌, inl, inr}
use mathlib.Core.List.{List}
use Prim.Native.Nat.{ℕ}
use lib.ListN.{length}
use borrow.Author.Tests.{not-false}
use Rattle.lists.proofs.Cases.{choice, true_not_false}
use Rattle.paper.specs.declared.Refusal.{Refusal}
use Rattle.paper.specs.declared.Refusal.TheVariants.{NotOpen}
use Rattle.channel.specs.declared.Stage.{Stage}
use Rattle.channel.specs.declared.Record.{Record}
use Rattle.channel.specs.declared.Offer.{Offer}
use Rattle.channel.specs.declared.Took.{Took}
use Rattle.channel.specs.declared.Took.TheVariants.{Bars, Spoils, Holds, Finishes}
use Rattle.channel.specs.declared.Answer.{Answer}
use Rattle.channel.specs.declared.Answer.TheVariants.{Refused}
use Rattle.channel.specs.declared.Ask.{Ask}
use Rattle.channel.specs.declared.Ask.TheVariants.{NoList, Name, Block, End}
use Rattle.channel.specs.declared.Change.{Change}
use Rattle.channel.specs.declared.Change.TheVariants.{Stays, Becomes, Frees}
use Rattle.channel.specs.declared.Part.{Part}
use Rattle.channel.specs.declared.Part.TheVariants.{Keeps, Clears}
use Rattle.channel.specs.declared.Turn.{Turn}
use Rattle.channel.specs.Answers.{concern_of}
use Rattle.channel.specs.Stages.{took}
use Rattle.channel.specs.Channel.{
  View,
  Shut,
  Open,
  Room,
  Garbled,
  Did,
  act,
  opening,
  opened_record,
  restaged,
  stage_after,
  part_after,
  answer_to,
  landed,
  rebuilt,
}
use Rattle.channel.specs.Turns.{answering, creating, change_by, part_by, landing, bringing, garbling, closing, turn_of, view_of, room_of, act_of, part_told, reply_told}

-- the channel afterwards. What stays keeps its part, and only an open channel is freed, its part cleared.
abbrev pub Comes : Record → List ℕ → List ℕ → Change → Part → View → Type 0
Comes row part block Stays p new = (p ≡ Keeps) × (new ≡ view_of row part)
Comes row part block (Becomes r) p new = new ≡ Open r (part_told part block p)
Comes row part block Frees p new = (p ≡ Clears) × (row.taken ≡ true) × (new ≡ Shut)

-- a turn tells what was done to the channel with the record and the part
pub record Tells (n : ℕ) (row : Record) (part block : List ℕ) (t : Turn) (d : Did) : Type 0 where
  pub view : Comes row part block t.change t.part d.view
  pub answer : Path Answer t.answer d.answer
  pub reply : Path (List ℕ) (reply_told n t.reply) d.reply

pub view_open : (row : Record) (part : List ℕ) → row.taken ≡ true → view_of row part ≡ Open row part
unfolding view_of
view_open row part e = ap (λ (b : Bool). cond b (Open row part) Shut) e

-- a block on an open channel
bring_open :
    (n : ℕ) (row : Record) (offer : Offer) (len : ℕ) → row.taken ≡ true
    → landing n row (took row.stage offer len) ≡ bringing n row offer len
unfolding bringing
bring_open n row offer len e =
    sym (ap (λ (b : Bool). cond b (landing n row (took row.stage offer len)) (answering (Refused NotOpen (Some n)))) e)

-- ---- what data does

lands :
    (n : ℕ) (row : Record) (part block : List ℕ) → row.taken ≡ true → (tk : Took)
    → Tells n row part block (landing n row tk) (landed n row part block tk)
unfolding landing change_by part_by landed stage_after part_after answer_to restaged view_of reply_told part_told
lands n row part block e (Bars why) = rw e (record { view = (refl, refl); answer = refl; reply = refl })
lands n row part block e (Spoils why) = record { view = refl; answer = refl; reply = refl }
lands n row part block e (Holds wanted at held) = record { view = refl; answer = refl; reply = refl }
lands n row part block e (Finishes at len) = record { view = refl; answer = refl; reply = refl }

-- ---- the rules

-- a turn tells what is asked of the channel, on these bytes
abbrev pub Rules : ℕ → ℕ → Bool → Record → Ask → List ℕ → List ℕ → Turn → Type 0
Rules level n room row ask part block t = Tells n row part block t (act level n (room_of room part) (view_of row part) (act_of ask block))

module _ (level n : ℕ) (room : Bool) (row : Record) (part block : List ℕ) where
  creates :
      (taken listed : Bool) (pri : ℕ) → row.taken ≡ taken
      → Rules level n room row (Name listed pri) part block (creating level n room row listed pri)
  unfolding creating act act_of view_of room_of opening reply_told part_told
  creates true listed pri e = rw e (record { view = (refl, refl); answer = refl; reply = refl })
  creates false false pri e = rw e (record { view = (refl, refl); answer = refl; reply = refl })
  creates false true pri e = go room
    where
      go : (b : Bool) → Rules level n b row (Name true pri) part block (creating level n b row true pri)
      go true = rw e (record { view = refl; answer = refl; reply = refl })
      go false = rw e (record { view = (refl, refl); answer = refl; reply = refl })

  shut_out : (offer : Offer) → row.taken ≡ false → Rules level n room row (Block offer) part block (bringing n row offer (length block))
  unfolding bringing act act_of view_of reply_told
  shut_out offer e = rw e (record { view = (refl, refl); answer = refl; reply = refl })

  brings :
      (taken : Bool) (offer : Offer) → row.taken ≡ taken
      → Rules level n room row (Block offer) part block (bringing n row offer (length block))
  unfolding bringing act act_of
  brings true offer e =
      rw (view_open row part e, ← bring_open n row offer (length block) e)
      (lands n row part block e (took row.stage offer (length block)))
  brings false offer e = shut_out offer e

  closes : (taken local : Bool) → row.taken ≡ taken → Rules level n room row (End local) part block (closing n row local)
  unfolding closing act act_of view_of reply_told
  closes true true e = rw e (record { view = (refl, refl, refl); answer = refl; reply = refl })
  closes true false e = rw e (record { view = (refl, refl, refl); answer = refl; reply = refl })
  closes false true e = rw e (record { view = (refl, refl); answer = refl; reply = refl })
  closes false false e = rw e (record { view = (refl, refl); answer = refl; reply = refl })

  bad_list : (len : ℕ) → Rules level n room row NoList part block (turn_of level n room row NoList len)
  unfolding turn_of act act_of reply_told
  bad_list len = record { view = (refl, refl); answer = refl; reply = refl }

  pub turn_rules : (ask : Ask) (len : ℕ) → len ≡ length block → Rules level n room row ask part block (turn_of level n room row ask len)
  unfolding turn_of
  turn_rules NoList len e = bad_list len
  turn_rules (Name listed pri) len e = creates row.taken listed pri refl
  turn_rules (Block offer) len e = rw e (brings row.taken offer refl)
  turn_rules (End local) len e = closes row.taken local refl

-- a garbled block on an open channel, whatever room there is
pub garbles_rules :
    (level n : ℕ) (room : Room) (row : Record) (part block : List ℕ) (why : Refusal)
    → Tells n row part block (garbling row why) (act level n room (Open row part) (Garbled why))
unfolding garbling act reply_told part_told
garbles_rules level n room row part block why = record { view = refl; answer = refl; reply = refl }

-- ---- what a turn says of the channel's number

-- a record that is put holds the number, and there is a place for it; only an open channel is freed
abbrev pub Rightly : ℕ → Bool → Record → Change → Type 0
Rightly n room row Stays = Unit {0}
Rightly n room row (Becomes r) = (r.taken ≡ true) × (r.number ≡ n) × (row.taken ≡ false → room ≡ true)
Rightly n room row Frees = row.taken ≡ true

-- an answer concerns the channel with the number, or none
abbrev pub Concerns : ℕ → Answer → Type 0
Concerns n answer = (concern_of answer ≡ Some n) ⊎ (concern_of answer ≡ None)

module _ (level n : ℕ) (room : Bool) (row : Record) (own : row.taken ≡ true → row.number ≡ n) where
  abbrev Says : Turn → Type 0
  Says t = Rightly n room row t.change × Concerns n t.answer

  lands_says : row.taken ≡ true → (tk : Took) → Says (landing n row tk)
  unfolding landing change_by stage_after answer_to restaged concern_of
  lands_says e (Bars why) = (tt, inl refl)
  lands_says e (Spoils why) = ((e, own e, λ f. absurd (true_not_false (sym e ∙ f))), inl refl)
  lands_says e (Holds wanted at held) = ((e, own e, λ f. absurd (true_not_false (sym e ∙ f))), inl refl)
  lands_says e (Finishes at len) = ((e, own e, λ f. absurd (true_not_false (sym e ∙ f))), inl refl)

  creates_says : (listed : Bool) (pri : ℕ) → Says (creating level n room row listed pri)
  unfolding creating concern_of opened_record
  creates_says listed pri =
      choice Says row.taken (λ e. (tt, inl refl))
      (λ e. choice Says (not listed) (λ f. (tt, inl refl))
      (λ f. choice Says (not room) (λ g. (tt, inl refl))
      (λ g. ((refl, refl, λ h. not-false room g), inl refl))))

  brings_says : (offer : Offer) (len : ℕ) → Says (bringing n row offer len)
  unfolding bringing concern_of
  brings_says offer len = choice Says row.taken (λ e. lands_says e (took row.stage offer len)) (λ e. (tt, inl refl))

  closes_says : (local : Bool) → Says (closing n row local)
  unfolding closing concern_of
  closes_says local = choice Says row.taken (λ e. (e, inl refl)) (λ e. choice Says local (λ f. (tt, inl refl)) (λ f. (tt, inl refl)))

  pub turn_says : (ask : Ask) (len : ℕ) → Says (turn_of level n room row ask len)
  unfolding turn_of concern_of
  turn_says NoList len = (tt, inr refl)
  turn_says (Name listed pri) len = creates_says listed pri
  turn_says (Block offer) len = brings_says offer len
  turn_says (End local) len = closes_says local

-- a record in another stage keeps the shore's mark
pub rebuilt_awaited : (r : Record) (stage : Stage) (handed : Bool) → (rebuilt r stage handed).awaited ≡ r.awaited
rebuilt_awaited r stage handed = refl
