-- What a run of C calls is at the shore: calls of its four entries, as their contracts say, one after the other on the bytes that
-- the host lends; and what the host is told in it.
use Rattle.std.specs.Prelude.{ℕ, ◌*◌, ◌<◌, ◌≡◌, true, List, [], ◌∷◌, map, take, drop}
use Rattle.paper.specs.Sizes.{PART}
use Rattle.numbers.specs.Numbers.{Bytes, NUMBERS}
use Rattle.shore.specs.declared.Said.{Said}
use Rattle.shore.specs.declared.Said.TheVariants.{Asked, Ready, Awaited, Opened, Declined, Held, Message, Closed, Ignored, Refused}
use Rattle.shore.specs.Shore.{Standing, standing}
use Rattle.packing.specs.Unpacking.{place_in, sent_in, said_in}
use Rattle.client_face.specs.Face.{Faced}
use Rattle.shore_face.specs.Face.{Wrote, shore_in, saved_shore, dvc_shore_received, dvc_shore_closed, dvc_shore_requested, dvc_shore_opened}
use Rattle.shore_face.specs.Face.{dvc_shore_started}
use Rattle.demands.specs.Trace.{final, seen_at}
use Rattle.demands.specs.Joining.{Off, once}
use Rattle.shore_demands.specs.Runs.{Entry, requests, receives, opens, closes, Call, Told, told, after, own_events, is_event_of}
use Rattle.shore_demands.specs.Alone.{As, link_all, brought, handed}
use Rattle.face_demands.specs.Runs.{Lent, lent, Each}

-- a state of the library, in bytes
abbrev pub lent_of : Standing → Lent
lent_of st = lent (saved_shore st.shore) st.store

-- and what the bytes tell
abbrev pub standing_in : Lent → Standing
standing_in l = standing (shore_in l.state) l.store

-- what Start leaves of what is lent to it
abbrev pub begun_on : List ℕ → List ℕ → Lent
begun_on state store = lent (dvc_shore_started state store).state (dvc_shore_started state store).store

-- what a C call brings: bytes, and a channel's number of 32 bits
abbrev pub FromC : Entry → Type 0
FromC (requests version charges) = Unit {0}
FromC (receives pdu) = Bytes pdu
FromC (opens name class) = Unit {0}
FromC (closes n) = n < NUMBERS

abbrev pub AllFromC : List Call → Type 0
AllFromC cs = Each (λ (c : Call). FromC c.asked) cs

-- a call that is lent no store
abbrev pub storeless : List ℕ → Wrote → Faced
storeless store w = record { answer = w.answer; state = w.state; store = store; reply = w.out }

-- what the call gives: the contracts of the four entries
unfoldable pub face_gives : Lent → Entry → List ℕ → Faced
face_gives l (requests version charges) buffer = storeless l.store (dvc_shore_requested l.state version charges buffer)
face_gives l (receives pdu) buffer = dvc_shore_received l.state l.store pdu buffer
face_gives l (opens name class) buffer = storeless l.store (dvc_shore_opened l.state name class buffer)
face_gives l (closes n) buffer = dvc_shore_closed l.state l.store n buffer

-- what is lent, afterwards
unfoldable pub lent_after : Lent → Call → Lent
lent_after l c = lent (face_gives l c.asked c.buffer).state (face_gives l c.asked c.buffer).store

-- the message, if any: its bytes stand in the store from the start of the part with the place that the number tells
unfoldable pub message_at : ℕ → List ℕ → Said → List (List ℕ)
message_at place store (Asked version) = []
message_at place store (Ready level) = []
message_at place store (Awaited n) = []
message_at place store (Opened n) = []
message_at place store (Declined n) = []
message_at place store (Held n left) = []
message_at place store (Message n len) = take len (drop (PART * place) store) ∷ []
message_at place store (Closed n) = []
message_at place store (Ignored n) = []
message_at place store (Refused why concern) = []

-- what a number and the buffers tell
abbrev pub told_in : Faced → Told
told_in f =
    record {
      said = said_in f.answer;
      sent = take (sent_in f.answer) f.reply;
      message = message_at (place_in f.answer) f.store (said_in f.answer);
    }

-- what the host is told
unfoldable pub face_told : Lent → Call → Told
face_told l c = told_in (face_gives l c.asked c.buffer)

-- after a list of calls
unfoldable pub face_ends : Lent → List Call → Lent
face_ends l cs = final lent_after l cs

-- what the host is told in all of them, and what a number is told in its own
unfoldable pub face_told_all : Lent → List Call → List Told
face_told_all l cs = seen_at lent_after (λ (k : Lent) (c : Call). true) face_told l cs

unfoldable pub face_told_to : ℕ → Lent → List Call → List Told
face_told_to n l cs = seen_at lent_after (λ (k : Lent) (c : Call). is_event_of n (standing_in k) c) face_told l cs

-- the same of the library's own run
unfoldable pub told_all : Standing → List Call → List Told
told_all st cs = seen_at after (λ (s : Standing) (c : Call). true) told st cs

-- demand 3's, told to a C host
pub record SameEitherWayInC (st : Standing) (xs ys : List Call) (n : ℕ) : Type 0 where
  pub same_told : face_told_to n (lent_of st) xs ≡ face_told_to n (lent_of st) ys
  pub joined : map brought (face_told_to n (lent_of st) xs) ≡ link_all (As Off) (own_events n st xs)
  pub each_once : map handed (face_told_to n (lent_of st) xs) ≡ map once (link_all (As Off) (own_events n st xs))
