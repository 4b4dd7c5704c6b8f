-- Demand 3 at the shore, stated: two orders of the same events.
use Rattle.std.specs.Prelude.{ℕ, ◌≡◌, Bool, true, false, List, map}
use Rattle.channel.specs.Channel.{Act, BadCreate, Create, Bring, Garbled, Closing, LocalClose}
use Rattle.demands.specs.Trace.{keep, seen_at}
use Rattle.demands.specs.Joining.{Off, once}
use Rattle.demands.specs.Orders.{SameButPlaces}
use Rattle.shore.specs.Rules.{Answered, Acts}
use Rattle.shore.specs.Events.{Event, Unreadable, Asking, Response, Opening, Of}
use Rattle.shore.specs.Shore.{Standing, state_in}
use Rattle.shore_demands.specs.Runs.{Call, after, told, Told, event_in, own_events, told_to}
use Rattle.shore_demands.specs.Alone.{As, link_all, brought, handed}

-- "local opens, Create responses and closes of either kind"
abbrev pub is_close : Act → Bool
is_close BadCreate = false
is_close (Create listed pri) = false
is_close (Bring offer bytes) = false
is_close (Garbled why) = false
is_close Closing = true
is_close LocalClose = true

abbrev pub is_control : Event → Bool
is_control (Unreadable why) = false
is_control (Asking version charges) = false
is_control (Response version) = false
is_control (Opening name class) = true
is_control (Of n (Answered status)) = true
is_control (Of n (Acts a)) = is_close a

abbrev pub events_of : List Call → List Event
events_of cs = map (λ (c : Call). event_in c.asked) cs

unfoldable pub controls : List Call → List Event
controls cs = keep is_control (events_of cs)

-- "the two orders of demand 3 hold the same local opens too, and here local opens, Create responses and closes of either kind
-- stay in one order among themselves"; and each number's own events are the same in the same order, a local open that isn't
-- refused being an event of the number it got
pub record TwoOrders (st : Standing) (xs ys : List Call) : Type 0 where
  pub in_one_order : controls xs ≡ controls ys
  pub own : (n : ℕ) → own_events n st xs ≡ own_events n st ys

-- what all local opens of a run are told, in their order: which numbers they get among it
abbrev pub is_opening : Event → Bool
is_opening (Unreadable why) = false
is_opening (Asking version charges) = false
is_opening (Response version) = false
is_opening (Opening name class) = true
is_opening (Of n d) = false

unfoldable pub told_opening : Standing → List Call → List Told
told_opening st cs = seen_at after (λ (s : Standing) (c : Call). is_opening (event_in c.asked)) told st cs

-- "each channel gets the same answers and replies, and its messages are exactly those that demand 2 gives for its own events
-- alone, each once"
pub record SameEitherWay (st : Standing) (xs ys : List Call) (n : ℕ) : Type 0 where
  pub same_told : told_to n st xs ≡ told_to n st ys
  pub joined : map brought (told_to n st xs) ≡ link_all (As Off) (own_events n st xs)
  pub each_once : map handed (told_to n st xs) ≡ map once (link_all (As Off) (own_events n st xs))

-- at the end: the same records and stored bytes but for their places, the same totals, and the same request remembered
pub record SameAtTheEnd (a b : Standing) : Type 0 where
  pub state : SameButPlaces (state_in a) (state_in b)
  pub asked : a.shore.asked ≡ b.shore.asked
