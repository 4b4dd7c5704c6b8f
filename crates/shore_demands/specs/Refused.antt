-- What a refusal of the shore leaves: every byte of every buffer, and every channel, but that the listed ones spoil the one
-- channel concerned.
use Rattle.std.specs.Prelude.{ℕ, ◌≡◌, true, cond, ◌&&◌, List, ltb, Option, None, Some}
use Rattle.paper.specs.Refusals.{refusal_number}
use Rattle.paper.specs.declared.Refusal.{Refusal}
use Rattle.channel.specs.declared.Stage.TheVariants.{Spoiled}
use Rattle.channel.specs.Channel.{restaged}
use Rattle.table.specs.declared.Table.{Table}
use Rattle.table.specs.Table.{number_place, record_at, with_record}
use Rattle.steps.specs.Refused.{is_of_three, spoils}
use Rattle.shore.specs.declared.Shore.{Shore}
use Rattle.shore.specs.Rules.{Answered, Acts}
use Rattle.shore.specs.Events.{Event, Unreadable, Asking, Response, Opening, Of}
use Rattle.shore.specs.Shore.{Whole, Sends}
use Rattle.shore_demands.specs.Rows.{is_open_at}

-- refusals 8 to 16 of a received PDU or a local close concern the number that it carries; 1 to 7, and every refusal of the
-- request or a local open, none
unfoldable pub concerned : Refusal → Event → Option ℕ
concerned why (Unreadable w) = None
concerned why (Asking version charges) = None
concerned why (Response version) = None
concerned why (Opening name class) = None
concerned why (Of n d) = cond (ltb 7 (refusal_number why)) (Some n) None

-- the table: as it was or, where the channel is open and the refusal spoils, with the stage of the one record that holds the
-- number spoiled
unfoldable pub left_by : Refusal → Event → Table → Table
left_by why (Unreadable w) t = t
left_by why (Asking version charges) t = t
left_by why (Response version) t = t
left_by why (Opening name class) t = t
left_by why (Of n (Answered status)) t = t
left_by why (Of n (Acts a)) t =
    cond (spoils why a && is_open_at t n)
    (with_record t (number_place n t) (restaged (record_at t (number_place n t)) Spoiled)) t

-- the number that the event carries is open
unfoldable pub IsOpen : Event → Table → Type 0
IsOpen (Unreadable w) t = ⊥
IsOpen (Asking version charges) t = ⊥
IsOpen (Response version) t = ⊥
IsOpen (Opening name class) t = ⊥
IsOpen (Of n d) t = is_open_at t n ≡ true

-- a received PDU or a local close that was refused
pub record RefusedCall
    (s : Shore) (store reply : List ℕ) (e : Event) (w : Whole) (why : Refusal) (concern : Option ℕ) : Type 0 where
  pub stored : w.store ≡ store
  pub replied : w.reply ≡ reply
  pub none_sent : w.result.sent ≡ 0
  pub concerns : concern ≡ concerned why e
  pub left : w.result.shore ≡ record { table = left_by why e s.table; asked = s.asked }
  -- the three are given on an open channel only
  pub one_channel : is_of_three why ≡ true → IsOpen e s.table

-- a request or a local open that was refused: "A request refused with 1 or 5 was not sent"
pub record RefusedSending (s : Shore) (out : List ℕ) (w : Sends) (concern : Option ℕ) : Type 0 where
  pub kept : w.result.shore ≡ s
  pub unwritten : w.out ≡ out
  pub none_sent : w.result.sent ≡ 0
  pub concerns : concern ≡ None
