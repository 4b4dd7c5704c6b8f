-- The thirteen starred numbers of the paper, as one statement over a single list. The paper's numbers stand bare here,
-- since the list is the paper's own text: it pins the names of the sizes and the refusals, which other pages use, to what
-- the paper says.
use Rattle.std.specs.Prelude.{ℕ, ◌-◌, ◌/◌, ◌≡◌, true, List, [], ◌∷◌, get_or, length}
use Rattle.paper.specs.Sizes.{PDU_MAX}
use Rattle.paper.specs.Commands.{DATA_FIRST, DATA}
use Rattle.paper.specs.Refusals.{refusal_number}
use Rattle.lists.specs.Bytes.{zeros}
use Rattle.reading.specs.Reading.{read_pdu}
use Rattle.reading.specs.declared.Pdu.{Pdu}
use Rattle.reading.specs.declared.Pdu.TheVariants.{CreateRequest, CreateResponse, DataFirst, Data, Close}
use Rattle.reading.specs.declared.Pdu.TheVariants.{CapsRequest, CapsResponse, Refused}
use Rattle.channel.specs.Stages.{took}
use Rattle.channel.specs.declared.Stage.TheVariants.{Idle}
use Rattle.channel.specs.declared.Offer.TheVariants.{First}
use Rattle.channel.specs.declared.Took.{Took}
use Rattle.channel.specs.declared.Took.TheVariants.{Bars, Spoils, Holds, Finishes}
use Rattle.channel.specs.declared.Answer.{Answer}
use Rattle.channel.specs.declared.Answer.TheVariants.{Ready, Opened, Declined, Held, Message, Closed, Ignored}
use Rattle.channel.specs.declared.Answer.TheVariants.{Refused as NotDone}
use Rattle.channel.specs.Channel.{NoRoom, Shut, act}
use Rattle.client.specs.Events.{create_act}
use Rattle.demands.specs.Cut.{Cut, CutByUs}

-- a PDU of a cut message: its Cmd, the offset and the length of its block, its own length
pub data Block : Type 0 where
  block_of : ℕ → ℕ → ℕ → ℕ → Block

-- what is found: a refusal by its number, or none
pub data Found : Type 0 where
  refused : ℕ → Found
  accepted : Found

-- a starred case: what is asked, and what is found
pub data Case : Type 0 where
  -- a PDU from the server is read
  reads : List ℕ → Found → Case
  -- a Create request comes with this list
  lists : List ℕ → Found → Case
  -- a message of so many bytes is cut for a number into these PDUs
  cuts : ℕ → ℕ → List Block → Case
  -- a Data First of this Length comes on an idle channel
  begins : ℕ → Found → Case

unfoldable pub reading : Pdu → Found
reading (CreateRequest number class name) = accepted
reading (CreateResponse number status) = accepted
reading (DataFirst number len place) = accepted
reading (Data number place) = accepted
reading (Close number) = accepted
reading (CapsRequest version charges) = accepted
reading (CapsResponse version) = accepted
reading (Refused why) = refused (refusal_number why)

unfoldable pub answering : Answer → Found
answering (Ready level) = accepted
answering (Opened n) = accepted
answering (Declined n why) = accepted
answering (Held n left) = accepted
answering (Message n len) = accepted
answering (Closed n) = accepted
answering (Ignored n) = accepted
answering (NotDone why concern) = refused (refusal_number why)

unfoldable pub taking : Took → Found
taking (Bars why) = refused (refusal_number why)
taking (Spoils why) = refused (refusal_number why)
taking (Holds wanted at held) = accepted
taking (Finishes at len) = accepted

-- calls of `cut`, from an offset on, as blocks
abbrev pub blocks_from : ℕ → List Cut → List Block
blocks_from at [] = []
blocks_from at (c ∷ cs) = block_of (get_or c.pdu 0 0 / 16) at (c.next - at) (length c.pdu) ∷ blocks_from c.next cs

-- a message is cut into blocks by calls of `cut`, on buffers of 1,600 bytes
pub record CutInto (n : ℕ) (m : List ℕ) (blocks : List Block) : Type 0 where
  pub cuts : List Cut
  pub are_cut : CutByUs n m (λ at. zeros PDU_MAX) cuts
  pub as_blocks : blocks_from 0 cuts ≡ blocks

unfoldable pub CaseHolds : Case → Type 0
CaseHolds (reads pdu found) = reading (read_pdu true pdu) ≡ found
CaseHolds (lists list found) = answering (act 2 5 NoRoom Shut (create_act list [] 0)).answer ≡ found
CaseHolds (cuts number total blocks) = CutInto number (zeros total) blocks
CaseHolds (begins len found) = taking (took Idle (First len) 0) ≡ found

-- "Numbers to hold", the starred ones. Thirteen are starred, and the last has two cases
unfoldable pub starred : List Case
starred =
    reads [] (refused 2)
    ∷ reads (zeros 1601) (refused 3)
    ∷ reads (0x60 ∷ 0x05 ∷ []) (refused 4)
    ∷ reads (0x33 ∷ 0x05 ∷ []) (refused 5)
    ∷ reads (0x40 ∷ 0x05 ∷ 0x00 ∷ []) (refused 5)
    ∷ lists [] accepted
    ∷ lists (0 ∷ []) (refused 6)
    ∷ cuts 5 1590 (block_of DATA 0 1590 1592 ∷ [])
    ∷ cuts 5 1591 (block_of DATA_FIRST 0 1591 1595 ∷ [])
    ∷ cuts 5 1596 (block_of DATA_FIRST 0 1596 1600 ∷ [])
    ∷ cuts 5 1597 (block_of DATA_FIRST 0 1596 1600 ∷ block_of DATA 1596 1 3 ∷ [])
    ∷ cuts 5 4096 (block_of DATA_FIRST 0 1596 1600 ∷ block_of DATA 1596 1598 1600 ∷ block_of DATA 3194 902 904 ∷ [])
    ∷ begins 4096 accepted
    ∷ begins 4097 (refused 11)
    ∷ []

abbrev pub AllHold : List Case → Type 0
AllHold [] = Unit {0}
AllHold (c ∷ cs) = CaseHolds c × AllHold cs

unfoldable pub Starred : Type 0
Starred = AllHold starred
