-- The channel that an answer carries is the one that was asked of, and the place that is shown is the one that was found.
-- Assumes nothing.
use Rattle.std.specs.Prelude.{Option, None, Some}
use mathlib.Core.Path.{◌≡◌, refl}
use mathlib.Core.Bool.{Bool, not, ◌&&◌, ◌||◌}
use mathlib.Core.Logic.{◌⊎◌, inl, inr, ⊎_elim}
use Prim.Native.Nat.{ℕ}
use lib.Dec.{eqb}
use lib.IntN.{ℤ}
use Rattle.lists.proofs.Cases.{choice}
use Rattle.channel.specs.declared.Record.{Record}
use Rattle.channel.specs.declared.Took.{Took}
use Rattle.channel.specs.declared.Took.TheVariants.{Bars, Spoils, Holds, Finishes}
use Rattle.channel.specs.declared.Answer.{Answer}
use Rattle.channel.specs.declared.Answer.TheVariants as client
use Rattle.channel.specs.declared.Ask.{Ask}
use Rattle.channel.specs.declared.Ask.TheVariants as ask
use Rattle.channel.specs.declared.Change.{Change}
use Rattle.channel.specs.declared.Offer.{Offer}
use Rattle.channel.specs.declared.Reply.{Reply}
use Rattle.channel.specs.declared.Turn.{Turn}
use Rattle.channel.specs.Answers.{concern_of}
use Rattle.channel.specs.Stages.{took}
use Rattle.channel.specs.Channel.{answer_to}
use Rattle.channel.specs.Turns.{creating, change_by, landing, bringing, garbling, closing, turn_of}
use Rattle.connection.specs.States.{stands, place_after}
use Rattle.client.specs.Client.{place_if}
use Rattle.deciding.specs.declared.Matter as heard
use Rattle.deciding.specs.declared.Matter.TheVariants as matter
use Rattle.deciding.specs.declared.Decided as both
use Rattle.deciding.specs.Deciding as common
use Rattle.shore.specs.declared.Said.{Said}
use Rattle.shore.specs.declared.Matter.{Matter}
use Rattle.shore.specs.declared.Matter.TheVariants.{Unread, Caps, Status, Block, End}
use Rattle.shore.specs.declared.Decided.{Decided}
use Rattle.shore.specs.Saying.{concern_said, said_as}
use Rattle.shore.specs.Rules.{is_below_zero}
use Rattle.shore.specs.Deciding.{responding, settling, seen_row, as_common, decided_of}
use Rattle.packing.specs.Packing.{channel_of, channel_for, answer_place, said_place, packed_answer, packed_said, packed_for, packed_said_for}

-- no channel, or the one with the number
abbrev pub Owned : ℕ → Option ℕ → Type 0
Owned n concern = (concern ≡ None) ⊎ (concern ≡ Some n)

own_channel : (n : ℕ) (concern : Option ℕ) → Owned n concern → channel_for n concern ≡ channel_of concern
unfolding channel_for channel_of
own_channel n concern h = ⊎_elim (λ e. rw e refl) (λ e. rw e refl) h

pub own : (n : ℕ) (a : Answer) → Owned n (concern_of a) → (place sent : ℕ) → packed_for n a place sent ≡ packed_answer a place sent
unfolding packed_for packed_answer
own n a h place sent = rw (own_channel n (concern_of a) h)

pub own_said : (n : ℕ) (s : Said) → Owned n (concern_said s) → (place sent : ℕ) → packed_said_for n s place sent ≡ packed_said s place sent
unfolding packed_said_for packed_said
own_said n s h place sent = rw (own_channel n (concern_said s) h)

-- ---- what is decided, at either end

-- the place of a message is the one that was found, whether or not the record there was taken
abbrev Placed : Answer → Change → Type 0
Placed a change = (k : ℕ) (taken : Bool) → answer_place a k ≡ answer_place a (place_if (concern_of a) (place_after k taken change))

abbrev Fits : ℕ → Turn → Type 0
Fits n t = Owned n (concern_of t.answer) × Placed t.answer t.change

abbrev DecidedFits : ℕ → both.Decided → Type 0
DecidedFits n d = Fits n d.turn

module _ (level n : ℕ) (room : Bool) (row : Record) where
  -- only data that finishes a message is answered with one, and its record becomes another
  lands_fit : (tk : Took) → Fits n (landing n row tk)
  unfolding landing change_by answer_to concern_of answer_place place_if place_after stands
  lands_fit (Bars why) = (inr refl, λ k taken. refl)
  lands_fit (Spoils why) = (inr refl, λ k taken. refl)
  lands_fit (Holds wanted at held) = (inr refl, λ k taken. refl)
  lands_fit (Finishes at len) = (inr refl, λ k taken. refl)

  creates_fit : (listed : Bool) (pri : ℕ) → Fits n (creating level n room row listed pri)
  unfolding creating concern_of answer_place
  creates_fit listed pri =
      choice (Fits n) row.taken (λ e. (inr refl, λ k taken. refl))
      (λ e. choice (Fits n) (not listed) (λ f. (inr refl, λ k taken. refl))
      (λ f. choice (Fits n) (not room) (λ g. (inr refl, λ k taken. refl)) (λ g. (inr refl, λ k taken. refl))))

  brings_fit : (offer : Offer) (len : ℕ) → Fits n (bringing n row offer len)
  unfolding bringing concern_of answer_place
  brings_fit offer len =
      choice (Fits n) row.taken (λ e. lands_fit (took row.stage offer len)) (λ e. (inr refl, λ k taken. refl))

  closes_fit : (local : Bool) → Fits n (closing n row local)
  unfolding closing concern_of answer_place
  closes_fit local =
      choice (Fits n) row.taken (λ e. (inr refl, λ k taken. refl))
      (λ e. choice (Fits n) local (λ f. (inr refl, λ k taken. refl)) (λ f. (inr refl, λ k taken. refl)))

  turn_fits : (a : Ask) (len : ℕ) → Fits n (turn_of level n room row a len)
  unfolding turn_of concern_of answer_place
  turn_fits ask.NoList len = (inl refl, λ k taken. refl)
  turn_fits (ask.Name listed pri) len = creates_fit listed pri
  turn_fits (ask.Block offer) len = brings_fit offer len
  turn_fits (ask.End local) len = closes_fit local

  decided_fits : (ready : Bool) (m : heard.Matter) (len : ℕ) → DecidedFits n (common.decided_of ready level n room row m len)
  unfolding common.decided_of common.refusing common.readying garbling concern_of answer_place
  decided_fits ready (matter.Unread why whole) len =
      choice (DecidedFits n) ((ready && whole) && row.taken) (λ e. (inl refl, λ k taken. refl)) (λ e. (inl refl, λ k taken. refl))
  decided_fits ready (matter.Caps version) len =
      choice (DecidedFits n) ready (λ e. (inl refl, λ k taken. refl)) (λ e. (inl refl, λ k taken. refl))
  decided_fits ready (matter.Asks a) len =
      choice (DecidedFits n) ready (λ e. turn_fits a len) (λ e. (inl refl, λ k taken. refl))

-- ---- the client

module _ (ready : Bool) (level n : ℕ) (room : Bool) (row : Record) (m : heard.Matter) (len : ℕ) where
  pub decided_own : Owned n (concern_of (common.decided_of ready level n room row m len).turn.answer)
  decided_own = (decided_fits level n room row ready m len).0

  pub decided_place :
      (k : ℕ)
      → answer_place (common.decided_of ready level n room row m len).turn.answer k
      ≡ answer_place (common.decided_of ready level n room row m len).turn.answer
      (place_if (concern_of (common.decided_of ready level n room row m len).turn.answer)
      (place_after k row.taken (common.decided_of ready level n room row m len).turn.change))
  decided_place k = (decided_fits level n room row ready m len).1 k row.taken

-- ---- the shore

abbrev PlacedSaid : Said → Change → Type 0
PlacedSaid s change = (k : ℕ) (taken : Bool) → said_place s k ≡ said_place s (place_if (concern_said s) (place_after k taken change))

abbrev FitsSaid : ℕ → Decided → Type 0
FitsSaid n d = Owned n (concern_said d.said) × PlacedSaid d.said d.change

-- the shore says what both ends have in common with the same channel and the same place
said_fits :
    (n : ℕ) (a : Answer) (change : Change) → Owned n (concern_of a) → Placed a change
    → Owned n (concern_said (said_as a)) × PlacedSaid (said_as a) change
unfolding said_as concern_of concern_said answer_place said_place
said_fits n (client.Ready level) change h p = (h, p)
said_fits n (client.Opened m) change h p = (h, p)
said_fits n (client.Declined m why) change h p = (h, p)
said_fits n (client.Held m left) change h p = (h, p)
said_fits n (client.Message m len) change h p = (h, p)
said_fits n (client.Closed m) change h p = (h, p)
said_fits n (client.Ignored m) change h p = (h, p)
said_fits n (client.Refused why concern) change h p = (h, p)

common_fits : (n : ℕ) (d : both.Decided) (reply : Reply) → DecidedFits n d → FitsSaid n (as_common d reply)
unfolding as_common
common_fits n d reply h = said_fits n d.turn.answer d.turn.change h.0 h.1

responds_fit : (n asked : ℕ) (ready : Bool) (level version : ℕ) → FitsSaid n (responding asked ready level version)
unfolding responding concern_said said_place
responds_fit n asked ready level version =
    choice (FitsSaid n) (ready || eqb asked 0) (λ e. (inl refl, λ k taken. refl)) (λ e. (inl refl, λ k taken. refl))

settles_fit : (ready : Bool) (level n : ℕ) (row : Record) (status : ℤ) → FitsSaid n (settling ready level n row status)
unfolding settling concern_said said_place
settles_fit ready level n row status =
    choice (FitsSaid n) ready
    (λ e. choice (FitsSaid n) (row.taken && row.awaited)
    (λ f. choice (FitsSaid n) (is_below_zero status) (λ g. (inr refl, λ k taken. refl)) (λ g. (inr refl, λ k taken. refl)))
    (λ f. (inr refl, λ k taken. refl)))
    (λ e. (inl refl, λ k taken. refl))

shore_fits :
    (asked : ℕ) (ready : Bool) (level n : ℕ) (room : Bool) (row : Record) (m : Matter) (len : ℕ)
    → FitsSaid n (decided_of asked ready level n room row m len)
unfolding decided_of
shore_fits asked ready level n room row (Unread why whole) len =
    let m = matter.Unread why whole in
    common_fits n (common.decided_of ready level n room (seen_row row) m len) _ (decided_fits level n room (seen_row row) ready m len)
shore_fits asked ready level n room row (Caps version) len = responds_fit n asked ready level version
shore_fits asked ready level n room row (Status status) len = settles_fit ready level n row status
shore_fits asked ready level n room row (Block offer) len =
    let m = matter.Asks (ask.Block offer) in
    common_fits n (common.decided_of ready level n room (seen_row row) m len) _ (decided_fits level n room (seen_row row) ready m len)
shore_fits asked ready level n room row (End local) len =
    let m = matter.Asks (ask.End local) in
    common_fits n (common.decided_of ready level n room (seen_row row) m len) _ (decided_fits level n room (seen_row row) ready m len)

module _ (asked : ℕ) (ready : Bool) (level n : ℕ) (room : Bool) (row : Record) (m : Matter) (len : ℕ) where
  pub shore_own : Owned n (concern_said (decided_of asked ready level n room row m len).said)
  shore_own = (shore_fits asked ready level n room row m len).0

  pub shore_place :
      (k : ℕ)
      → said_place (decided_of asked ready level n room row m len).said k
      ≡ said_place (decided_of asked ready level n room row m len).said
      (place_if (concern_said (decided_of asked ready level n room row m len).said)
      (place_after k row.taken (decided_of asked ready level n room row m len).change))
  shore_place k = (shore_fits asked ready level n room row m len).1 k row.taken
