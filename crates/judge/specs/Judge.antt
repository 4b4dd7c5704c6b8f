-- "A tool that takes a message, a channel number and a list of PDUs and says yes exactly if the PDUs, received on that
-- channel open and idle, hand up that message at the last PDU and nothing before." What the judge says here of one PDU, and
-- of a list, is read by reading's definition and joined by the channel's (`took`). That it is what `receive` would answer is
-- proved (judge_demands).
use Rattle.std.specs.Prelude.{ℕ, ◌+◌, ◌%◌, Bool, true, cond, ◌&&◌, List, length, take, drop, ◌==◌}
use Rattle.reading.specs.Reading.{read_pdu}
use Rattle.reading.specs.Said.{bytes_at}
use Rattle.reading.specs.declared.Pdu.{Pdu}
use Rattle.reading.specs.declared.Pdu.TheVariants.{CreateRequest, CreateResponse, DataFirst, Data, Close}
use Rattle.reading.specs.declared.Pdu.TheVariants.{CapsRequest, CapsResponse, Refused}
use Rattle.listeners.specs.Listeners.{same_bytes}
use Rattle.channel.specs.declared.Stage.{Stage}
use Rattle.channel.specs.declared.Stage.TheVariants.{Idle, Joining}
use Rattle.channel.specs.declared.Offer.{Offer}
use Rattle.channel.specs.declared.Offer.TheVariants.{First, More}
use Rattle.channel.specs.declared.Took.{Took}
use Rattle.channel.specs.declared.Took.TheVariants.{Bars, Spoils, Holds, Finishes}
use Rattle.channel.specs.Stages.{took}
use Rattle.records.specs.Records.{PLACES}
use Rattle.records.specs.Items.{after_items}
use Rattle.judge.specs.declared.Reason.TheVariants.{Reading, Kind, OtherChannel, Steps, Before}
use Rattle.judge.specs.declared.Course.{Course}
use Rattle.judge.specs.declared.Course.TheVariants.{Going, Handed, Faulty}
use Rattle.judge.specs.declared.Judgement.{Judgement}
use Rattle.judge.specs.declared.Judgement.TheVariants.{Yes, No, Early, Differs}

-- ---- one PDU

-- whether a block is the message's bytes from a place on
unfoldable pub agrees : List ℕ → ℕ → List ℕ → Bool
agrees message at block = same_bytes (take (length block) (drop at message)) block

-- by what a block does to the channel: "is refused by the steps"; else what was held agreed so far and the block goes on so,
-- and what is handed up has the message's length too
unfoldable pub course_by : List ℕ → ℕ → Bool → List ℕ → Took → Course
course_by message place same block (Bars why) = Faulty place Steps
course_by message place same block (Spoils why) = Faulty place Steps
course_by message place same block (Holds wanted at held) =
    Going ((place + 1) % PLACES) (Joining wanted held) (same && agrees message at block)
course_by message place same block (Finishes at len) =
    Handed place ((same && agrees message at block) && len == length message)

-- a Data First or a Data of the channel with number m: "is for another channel"
unfoldable pub brought : ℕ → List ℕ → ℕ → Stage → Bool → ℕ → Offer → List ℕ → Course
brought n message place stage same m offer block =
    cond (m == n) (course_by message place same block (took stage offer (length block))) (Faulty place OtherChannel)

-- a PDU by what reading answers: "is refused in reading, isn't data"
unfoldable pub judged_by : ℕ → List ℕ → ℕ → Stage → Bool → List ℕ → Pdu → Course
judged_by n message place stage same pdu (CreateRequest m class name) = Faulty place Kind
judged_by n message place stage same pdu (CreateResponse m status) = Faulty place Kind
judged_by n message place stage same pdu (DataFirst m len block) =
    brought n message place stage same m (First len) (bytes_at pdu block)
judged_by n message place stage same pdu (Data m block) = brought n message place stage same m More (bytes_at pdu block)
judged_by n message place stage same pdu (Close m) = Faulty place Kind
judged_by n message place stage same pdu (CapsRequest version charges) = Faulty place Kind
judged_by n message place stage same pdu (CapsResponse version) = Faulty place Kind
judged_by n message place stage same pdu (Refused why) = Faulty place Reading

-- with one more PDU: where a message was handed up it wasn't the last, "hands up before the last"
unfoldable pub course_after : ℕ → List ℕ → Course → List ℕ → Course
course_after n message (Going place stage same) pdu = judged_by n message place stage same pdu (read_pdu true pdu)
course_after n message (Handed place same) pdu = Faulty place Before
course_after n message (Faulty place why) pdu = Faulty place why

-- ---- a list of them

-- "received on that channel open and idle"
unfoldable pub beginning : Course
beginning = Going 0 Idle true

abbrev pub course_over : ℕ → List ℕ → Course → List (List ℕ) → Course
course_over n message course pdus = after_items (course_after n message) course pdus

-- "A no names the first PDU [..]; with none, that the list ended early, or else that the bytes differ."
unfoldable pub judgement_on : Course → Judgement
judgement_on (Going place stage same) = Early
judgement_on (Handed place same) = cond same Yes Differs
judgement_on (Faulty place why) = No place why

unfoldable pub judged : ℕ → List ℕ → List (List ℕ) → Judgement
judged n message pdus = judgement_on (course_over n message beginning pdus)
