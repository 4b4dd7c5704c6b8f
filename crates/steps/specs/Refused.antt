-- What a refusal leaves: "writes nothing to the reply or to the message store and changes no channel, except that
-- three listed refusals mark the one channel concerned as spoiled"; and with garbled blocks "Demand 1's exceptions grow by
-- refusals 2, 3, 4 and 5 for such PDUs".
use Rattle.std.specs.Prelude.{ℕ, ◌<◌, ◌≡◌, Bool, true, cond, ◌&&◌, ◌||◌, List, eqb, ltb, leb, Option, None, Some}
use Rattle.paper.specs.Sizes.{PARTS}
use Rattle.paper.specs.Refusals.{refusal_number}
use Rattle.paper.specs.declared.Refusal.{Refusal}
use Rattle.channel.specs.declared.Stage.TheVariants.{Spoiled}
use Rattle.channel.specs.Channel.{Act, BadCreate, Create, Bring, Garbled, Closing, LocalClose, restaged}
use Rattle.table.specs.declared.Table.{Table}
use Rattle.table.specs.Table.{number_place, record_at, with_record}
use Rattle.client.specs.Events.{Event, Unreadable, Capabilities, Of}
use Rattle.client.specs.Client.{Whole}
use Rattle.steps.specs.Rows.{is_open}

-- "three listed refusals": 10, 11 and 12
unfoldable pub is_of_three : Refusal → Bool
is_of_three why = eqb (refusal_number why) 10 || (eqb (refusal_number why) 11 || eqb (refusal_number why) 12)

-- "refusals 2, 3, 4 and 5": those of reading
unfoldable pub is_of_reading : Refusal → Bool
is_of_reading why = leb 2 (refusal_number why) && leb (refusal_number why) 5

-- which of them spoil, by what is asked: those of reading "for such PDUs", and for no other
unfoldable pub spoils : Refusal → Act → Bool
spoils why BadCreate = is_of_three why
spoils why (Create listed pri) = is_of_three why
spoils why (Bring offer bytes) = is_of_three why
spoils why (Garbled w) = is_of_reading why
spoils why Closing = is_of_three why
spoils why LocalClose = is_of_three why

-- "`-` for [..] refusals 1 to 7"; behind them the number that the event carries
unfoldable pub concerned : Refusal → Event → Option ℕ
concerned why (Unreadable w) = None
concerned why (Capabilities version) = None
concerned why (Of n a) = cond (ltb 7 (refusal_number why)) (Some n) None

-- the table: as it was or, where the channel is open and the refusal spoils, with the stage of the one record that holds the
-- number spoiled
unfoldable pub left_by : Refusal → Event → Table → Table
left_by why (Unreadable w) t = t
left_by why (Capabilities version) t = t
left_by why (Of n a) t =
    cond (spoils why a && is_open t n)
    (with_record t (number_place n t) (restaged (record_at t (number_place n t)) Spoiled)) t

-- the number that the event carries is open
unfoldable pub IsOpen : Event → Table → Type 0
IsOpen (Unreadable w) t = ⊥
IsOpen (Capabilities version) t = ⊥
IsOpen (Of n a) t = number_place n t < PARTS

-- a call with an event that was refused: every byte of the store and the reply as it was, nothing to be sent
pub record RefusedCall
    (t : Table) (store reply : List ℕ) (e : Event) (w : Whole) (why : Refusal) (concern : Option ℕ) : Type 0 where
  pub stored : w.store ≡ store
  pub replied : w.reply ≡ reply
  pub none_sent : w.result.sent ≡ 0
  pub concerns : concern ≡ concerned why e
  pub left : w.result.table ≡ left_by why e t
  -- the three are given on an open channel only
  pub one_channel : is_of_three why ≡ true → IsOpen e t
