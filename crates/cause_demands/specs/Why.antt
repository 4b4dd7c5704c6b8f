-- Why is this channel dead? What is said of a place of the walker's input, beside the run that the input is.
use Rattle.std.specs.Prelude.{ℕ, zero, suc, ◌/◌, ◌<◌, ◌≤◌, ◌≡◌, ◌≢◌, Bool, true, false, ◌||◌, Option, None, Some, List, [], ◌++◌, length, take, get_or}
use Rattle.paper.specs.Sizes.{STORE, REPLY_MIN}
use Rattle.paper.specs.Commands.{CAPABILITIES}
use Rattle.paper.specs.Rows.{fine, first_held}
use Rattle.paper.specs.declared.Refusal.{Refusal}
use Rattle.paper.specs.declared.Refusal.TheVariants.{IsSpoiled}
use Rattle.lists.specs.Bytes.{zeros}
use Rattle.reading.specs.Reading.{read_pdu}
use Rattle.reading.specs.Layouts.{reading_rows}
use Rattle.channel.specs.declared.Answer.{Answer}
use Rattle.channel.specs.declared.Answer.TheVariants.{Opened, Refused}
use Rattle.table.specs.declared.Table.{Table}
use Rattle.table.specs.Table.{empty_table}
use Rattle.connection.specs.States.{State, state_of}
use Rattle.client.specs.Events.{Event, event_of, is_of}
use Rattle.client.specs.Client.{Whole, received}
use Rattle.steps.specs.Rows.{verdict_of, is_open, stage_of, is_spoiled, rows_of}
use Rattle.steps.specs.Refused.{is_of_three, is_of_reading}
use Rattle.lines.specs.Decimal.{field}
use Rattle.lines.specs.Lines.{SPACE, LF, answer_fields}
use Rattle.rules.specs.declared.Rule.{Rule}
use Rattle.rules.specs.declared.Rule.TheVariants.{Pad, Version}
use Rattle.rules.specs.Rules.{refusal_of, reading_rules, the_rules, first_of, verdict_by}
use Rattle.records.specs.Records.{PLACES, whole_of}
use Rattle.records.specs.Walks.{records_of, after_all}
use Rattle.records.specs.Items.{all_of}
use Rattle.records.specs.Pdus.{pdus_in}
use Rattle.walking.specs.declared.Job.TheVariants.{Client}
use Rattle.walking.specs.declared.Told.TheVariants.{Lines}
use Rattle.walking.specs.Walking.{program, start_walk, text_of}
use Rattle.cause.specs.declared.Cause.{Cause}
use Rattle.cause.specs.declared.Cause.TheVariants.{SpoiledBy, ByRule}
use Rattle.cause.specs.Cause.{said_of, said_in_pieces}
use Rattle.demands.specs.Runs.{leaves}

-- ---- the run: Start, and then PDU by PDU what `receive`'s contract says

abbrev pub pdu_at : List (List ℕ) → ℕ → List ℕ
pdu_at pdus i = get_or pdus i []

abbrev pub heard_in : List ℕ → State → List ℕ → Whole
heard_in list st pdu = received st.table st.store list pdu (zeros REPLY_MIN)

-- the connection before the PDU at a place
unfoldable pub before : List ℕ → List (List ℕ) → ℕ → State
before list pdus zero = state_of empty_table (zeros STORE)
before list pdus (suc i) = leaves (heard_in list (before list pdus i) (pdu_at pdus i))

-- what that PDU is an event of, and its answer
unfoldable pub event_at : List ℕ → List (List ℕ) → ℕ → Event
event_at list pdus i = event_of list (pdu_at pdus i) (read_pdu true (pdu_at pdus i))

unfoldable pub answer_at : List ℕ → List (List ℕ) → ℕ → Answer
answer_at list pdus i = (heard_in list (before list pdus i) (pdu_at pdus i)).result.answer

-- the length of its reply
unfoldable pub sent_at : List ℕ → List (List ℕ) → ℕ → ℕ
sent_at list pdus i = (heard_in list (before list pdus i) (pdu_at pdus i)).result.sent

-- whether the channel with number n is open then, and whether it is spoiled
unfoldable pub open_before : List ℕ → List (List ℕ) → ℕ → ℕ → Bool
open_before list pdus n i = is_open (before list pdus i).table n

unfoldable pub spoiled_before : List ℕ → List (List ℕ) → ℕ → ℕ → Bool
spoiled_before list pdus n i = is_spoiled (stage_of (before list pdus i).table n)

-- ---- "the one event since the channel's last opening that turned it from not spoiled to spoiled"

-- the last opening of the channel with number n before a place
pub record OpenedLast (list : List ℕ) (pdus : List (List ℕ)) (n place : ℕ) : Type 0 where
  pub at : ℕ
  pub earlier : at < place
  pub opened : answer_at list pdus at ≡ Opened n
  pub none_behind : (i : ℕ) → at < i → i < place → answer_at list pdus i ≢ Opened n

-- a place and a refusal are that event's, for the channel with number n at a place
pub record TheOneEvent (list : List ℕ) (pdus : List (List ℕ)) (n place : ℕ) (q : ℕ) (why : Refusal) : Type 0 where
  pub opening : OpenedLast list pdus n place
  -- since then, and before the place
  pub since : opening.at < q
  pub earlier : q < place
  -- an event of that channel
  pub own : is_of n (event_at list pdus q) ≡ true
  -- before it the channel was open and not spoiled, after it it was open and spoiled
  pub open_before_law : open_before list pdus n q ≡ true
  pub not_yet : spoiled_before list pdus n q ≡ false
  pub open_behind : open_before list pdus n (suc q) ≡ true
  pub turned : spoiled_before list pdus n (suc q) ≡ true
  -- the only such event since that opening
  pub only :
      (i : ℕ) → opening.at < i → i < place → spoiled_before list pdus n i ≡ false → spoiled_before list pdus n (suc i) ≡ true
      → i ≡ q
  -- the refusal is the answer there, one of 2 to 5 or of 10 to 12
  pub concern : Option ℕ
  pub refused : answer_at list pdus q ≡ Refused why concern
  pub which : (is_of_reading why || is_of_three why) ≡ true

-- ---- "names, for a given place in it, the answer there"

-- a cause is said of a place that the input has whole, with the answer there. Places are counted in 64 bits
pub record SaidOf (list input : List ℕ) (place : ℕ) (cause : Option Cause) : Type 0 where
  pub whole : place < length (pdus_in input)
  pub counted : place < PLACES
  pub said : said_of place list input
      ≡ Some (record { answer = answer_at list (pdus_in input) place; sent = sent_at list (pdus_in input) place; cause = cause })

pub record SomethingIsSaid (list input : List ℕ) (place : ℕ) : Type 0 where
  pub cause : Option Cause
  pub is_said : SaidOf list input place cause

pub record TheAnswerThere : Type 0 where
  -- something is said of each place that the input has whole
  pub said :
      (list input : List ℕ) (place : ℕ) → place < length (pdus_in input) → place < PLACES
      → SomethingIsSaid list input place
  -- "A place that the input doesn't have whole is answered as such."
  pub absent : (list input : List ℕ) (place : ℕ) → length (pdus_in input) ≤ place → place < PLACES → said_of place list input ≡ None
  -- the answer is the walker's: what the walker writes for the record there is the place and then the answer's fields
  pub the-walker's :
      (list input : List ℕ) (place : ℕ) → place < length (pdus_in input) → place < PLACES
      → text_of (Client Lines) list
      (after_all (program (Client Lines) list) (start_walk (Client Lines)) (take place (records_of whole_of input)))
      (get_or (records_of whole_of input) place [])
      ≡ field place SPACE ++ answer_fields (answer_at list (pdus_in input) place) (sent_at list (pdus_in input) place) LF
  -- however the input comes in pieces
  pub in_pieces : (list : List ℕ) (place : ℕ) (pieces : List (List ℕ)) → said_in_pieces place list pieces ≡ said_of place list (all_of pieces)

-- ---- "and, for a 13, the place and refusal that spoiled the channel"

pub record IsTheEvent (list : List ℕ) (pdus : List (List ℕ)) (place : ℕ) (concern : Option ℕ) (cause : Option Cause) : Type 0 where
  pub channel : ℕ
  pub concerned : concern ≡ Some channel
  pub at : ℕ
  pub why : Refusal
  pub named : cause ≡ Some (SpoiledBy at why)
  pub event : TheOneEvent list pdus channel place at why

abbrev pub AThirteenNamesTheEvent : Type 0
AThirteenNamesTheEvent =
    (list input : List ℕ) (place : ℕ) (cause : Option Cause) → SaidOf list input place cause
    → (concern : Option ℕ) → answer_at list (pdus_in input) place ≡ Refused IsSpoiled concern
    → IsTheEvent list (pdus_in input) place concern cause

-- ---- "For any other refusal it names the first rule in the order that held."

pub record IsTheFirstRule (list : List ℕ) (pdus : List (List ℕ)) (place : ℕ) (why : Refusal) (cause : Option Cause) : Type 0 where
  pub rule : Rule
  pub named : cause ≡ Some (ByRule rule)
  -- the first in the order that holds for that PDU at that state, and its refusal is the answer's
  pub first : first_of (the_rules (before list pdus place).table list (pdu_at pdus place)) ≡ Some rule
  pub refusal : refusal_of rule ≡ why

pub record OthersNameTheFirstRule : Type 0 where
  pub any_other :
      (list input : List ℕ) (place : ℕ) (cause : Option Cause) → SaidOf list input place cause
      → (why : Refusal) (concern : Option ℕ) → answer_at list (pdus_in input) place ≡ Refused why concern → why ≢ IsSpoiled
      → IsTheFirstRule list (pdus_in input) place why cause
  -- what is accepted has no cause
  pub accepted :
      (list input : List ℕ) (place : ℕ) (cause : Option Cause) → SaidOf list input place cause
      → verdict_of (answer_at list (pdus_in input) place) ≡ fine → cause ≡ None
  -- the rules are the rows that have names beside them: the first that holds is the first row that does, at any table
  pub by_the_rows :
      (t : Table) (list pdu : List ℕ)
      → first_held (reading_rows true pdu ++ rows_of t list (read_pdu true pdu)) ≡ verdict_by (first_of (the_rules t list pdu))
  -- `pad` and `version` are named of Capabilities alone
  pub pad_of_capabilities : (pdu : List ℕ) → first_of (reading_rules pdu) ≡ Some Pad → get_or pdu 0 0 / 16 ≡ CAPABILITIES
  pub version_of_capabilities : (pdu : List ℕ) → first_of (reading_rules pdu) ≡ Some Version → get_or pdu 0 0 / 16 ≡ CAPABILITIES
