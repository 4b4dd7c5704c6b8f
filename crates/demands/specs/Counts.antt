-- Messages counted: "Each record gains that count: the messages handed up since the opening, staying at 4,294,967,295 once there."
use Rattle.std.specs.Prelude.{ℕ, ◌+◌, min, ◌≡◌, true, false, List, [], ◌∷◌, ◌++◌, map}
use Rattle.paper.specs.Sizes.{COUNT_MAX}
use Rattle.channel.specs.declared.Stage.TheVariants.{Idle}
use Rattle.channel.specs.declared.Offer.TheVariants.{More}
use Rattle.channel.specs.declared.Record.{Record}
use Rattle.channel.specs.declared.Answer.TheVariants.{Message}
use Rattle.channel.specs.Channel.{Act, Bring, View, Open, NoRoom, did, counted, act}
use Rattle.connection.specs.States.{State, view, Steady, FineAct}
use Rattle.client.specs.Events.{Of}
use Rattle.client.specs.Client.{stepped}
use Rattle.demands.specs.Runs.{Call, after, told, told_to, ends, is_event_of, own_events, JustReady}
use Rattle.demands.specs.Joining.{Waiting, join_all, once, handed}
use Rattle.demands.specs.Garbled.{AllTold, is_opened, NotOpened}
use Rattle.demands.specs.Useless.{is_message}

-- ---- since the opening

-- a channel's last opening in a run: an event of its own that is answered with opened, and behind it none is
pub record LastOpening (n : ℕ) (st : State) (xs : List Call) : Type 0 where
  pub before : List Call
  pub opening : Call
  pub since : List Call
  pub in_the_run : xs ≡ before ++ (opening ∷ since)
  pub own : is_event_of n opening ≡ true
  pub opened : is_opened (told (ends st before) opening).answer ≡ true
  pub none_behind : AllTold NotOpened (told_to n (after (ends st before) opening) since)

abbrev pub total : List ℕ → ℕ
total [] = 0
total (k ∷ ks) = k + total ks

-- a count, by a run from a state in which the channel has just been opened
pub record Counts (n : ℕ) (st : State) (since : List Call) (count : ℕ) : Type 0 where
  -- the messages handed up to the host
  pub handed_up_law : count ≡ min (total (map handed (told_to n st since))) COUNT_MAX
  -- the whole messages that the joining brings for the channel's own events, alone
  pub joined : count ≡ min (total (map once (join_all Waiting (own_events n since)))) COUNT_MAX

-- ---- the ceiling, by computing

-- channel 5, idle, with a count and a part of the store
abbrev pub idle_with : ℕ → List ℕ → View
idle_with count part = Open (record { taken = true; number = 5; class = 0; stage = Idle; count = count; awaited = false }) part

-- "staying at 4,294,967,295 once there": one short of it a message of one byte and then one of two are handed up
pub record TheCeiling : Type 0 where
  pub reached :
      act 2 5 NoRoom (idle_with 4294967294 (0 ∷ 0 ∷ 0 ∷ [])) (Bring More (0x41 ∷ []))
      ≡ did (idle_with 4294967295 (0x41 ∷ 0 ∷ 0 ∷ [])) (Message 5 1) []
  pub kept :
      act 2 5 NoRoom (idle_with 4294967295 (0x41 ∷ 0 ∷ 0 ∷ [])) (Bring More (0x42 ∷ 0x43 ∷ []))
      ≡ did (idle_with 4294967295 (0x42 ∷ 0x43 ∷ 0 ∷ [])) (Message 5 2) []

-- ---- all of it

pub record CountIsMessages : Type 0 where
  -- it goes up by one exactly where the answer is a message; nothing else that an open channel gets moves it
  pub by_the_answer :
      (st : State) → Steady st → (n : ℕ) (a : Act) → FineAct a
      → (r next : Record) (b bytes : List ℕ) → view n st ≡ Open r b → view n (stepped st (Of n a)).state ≡ Open next bytes
      → next.count ≡ counted r.count (is_message (stepped st (Of n a)).answer)
  -- in every run from a connection just made ready, a channel that is open has a last opening
  pub was_opened :
      (st : State) → JustReady st → (xs : List Call) (n : ℕ) (r : Record) (b : List ℕ) → view n (ends st xs) ≡ Open r b
      → LastOpening n st xs
  -- and its count is that of its messages since then
  pub since_its_opening :
      (st : State) → JustReady st → (xs : List Call) (n : ℕ) (r : Record) (b : List ℕ) → view n (ends st xs) ≡ Open r b
      → (o : LastOpening n st xs) → Counts n (after (ends st o.before) o.opening) o.since r.count
  pub at_the_ceiling : TheCeiling
