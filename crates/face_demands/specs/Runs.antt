-- What a run of C calls is at the client: calls of `dvc_receive` and `dvc_local_close`, as their contracts say, one after the other
-- on the bytes that the host lends; and what the host is told in it.
use Rattle.std.specs.Prelude.{ℕ, ◌*◌, ◌<◌, ◌≡◌, true, List, [], ◌∷◌, map, take, drop}
use Rattle.paper.specs.Sizes.{PART}
use Rattle.numbers.specs.Numbers.{Bytes, NUMBERS}
use Rattle.channel.specs.declared.Answer.{Answer}
use Rattle.channel.specs.declared.Answer.TheVariants.{Ready, Opened, Declined, Held, Message, Closed, Ignored, Refused}
use Rattle.connection.specs.States.{State}
use Rattle.saved.specs.Saved.{CLIENT, saved}
use Rattle.packing.specs.Unpacking.{place_in, sent_in, answer_in}
use Rattle.client_face.specs.Face.{Faced, dvc_received, dvc_closed, dvc_started}
use Rattle.demands.specs.Trace.{final, seen}
use Rattle.demands.specs.Joining.{Off, brought, join_all, once, handed}
use Rattle.demands.specs.Runs.{Entry, receives, closes, Call, Told, told, after, own_events, is_event_of}

-- what the host lends: the bytes of the table, and the store
pub record Lent : Type 0 where
  pub state : List ℕ
  pub store : List ℕ

abbrev pub lent : List ℕ → List ℕ → Lent
lent state store = record { state = state; store = store }

-- a state of the library, in bytes
abbrev pub lent_of : State → Lent
lent_of st = lent (saved CLIENT 0 st.table) st.store

-- what Start leaves of what is lent to it
abbrev pub begun_on : List ℕ → List ℕ → Lent
begun_on state store = lent (dvc_started state store).state (dvc_started state store).store

-- what a C call brings: bytes, and a channel's number of 32 bits
abbrev pub FromC : Entry → Type 0
FromC (receives list pdu) = Bytes pdu
FromC (closes n) = n < NUMBERS

-- a fact of every element of a list
abbrev pub Each : {A : Type 0} → (A → Type 0) → List A → Type 0
Each p [] = Unit {0}
Each p (x ∷ xs) = p x × Each p xs

abbrev pub AllFromC : List Call → Type 0
AllFromC cs = Each (λ (c : Call). FromC c.asked) cs

-- what the call gives: the contracts of `dvc_receive` and `dvc_local_close`
unfoldable pub face_gives : Lent → Entry → List ℕ → Faced
face_gives l (receives list pdu) reply = dvc_received l.state l.store list pdu reply
face_gives l (closes n) reply = dvc_closed l.state l.store n reply

-- what is lent, afterwards
unfoldable pub lent_after : Lent → Call → Lent
lent_after l c = lent (face_gives l c.asked c.reply).state (face_gives l c.asked c.reply).store

-- the message, if any: its bytes stand in the store from the start of the part with the place that the number tells
unfoldable pub message_at : ℕ → List ℕ → Answer → List (List ℕ)
message_at place store (Ready level) = []
message_at place store (Opened n) = []
message_at place store (Declined n why) = []
message_at place store (Held n left) = []
message_at place store (Message n len) = take len (drop (PART * place) store) ∷ []
message_at place store (Closed n) = []
message_at place store (Ignored n) = []
message_at place store (Refused why concern) = []

-- what a number and the buffers tell
abbrev pub told_in : Faced → Told
told_in f =
    record {
      answer = answer_in f.answer;
      reply = take (sent_in f.answer) f.reply;
      message = message_at (place_in f.answer) f.store (answer_in f.answer);
    }

-- what the host is told
unfoldable pub face_told : Lent → Call → Told
face_told l c = told_in (face_gives l c.asked c.reply)

-- after a list of calls
unfoldable pub face_ends : Lent → List Call → Lent
face_ends l cs = final lent_after l cs

-- what the host is told in all of them, and what a channel is told in its own
unfoldable pub face_told_all : Lent → List Call → List Told
face_told_all l cs = seen lent_after (λ c. true) face_told l cs

unfoldable pub face_told_to : ℕ → Lent → List Call → List Told
face_told_to n l cs = seen lent_after (is_event_of n) face_told l cs

-- the same of the library's own run
unfoldable pub told_all : State → List Call → List Told
told_all st cs = seen after (λ c. true) told st cs

-- demand 3's, told to a C host
pub record SameEitherWayInC (l : Lent) (xs ys : List Call) (n : ℕ) : Type 0 where
  pub same_told : face_told_to n l xs ≡ face_told_to n l ys
  pub joined : map brought (face_told_to n l xs) ≡ join_all Off (own_events n xs)
  pub each_once : map handed (face_told_to n l xs) ≡ map once (join_all Off (own_events n xs))
