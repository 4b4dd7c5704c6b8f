-- Both ends in one process, "joined by two queues". "After each record every queued PDU is carried across, and what each end
-- answers is printed." The shore's `receive` sends nothing, and what the panel sends for a PDU goes to the shore: so no queue
-- is ever longer than one PDU, and what comes of a record is told call by call.
use Rattle.std.specs.Prelude.{ℕ, zero, suc, ◌+◌, ◌-◌, ◌*◌, ◌≤◌, min, Bool, true, false, cond, ◌||◌, List, [], ◌++◌, ltb, eqb, length, take, drop, get_or, Some, Result, Ok, Err}
use Rattle.paper.specs.Sizes.{STORE, PDU_MAX, REPLY_MIN}
use Rattle.lists.specs.Bytes.{laid, zeros}
use Rattle.numbers.specs.Numbers.{value_of}
use Rattle.paper.specs.declared.Refusal.{Refusal}
use Rattle.cutting.specs.declared.Piece.{Piece}
use Rattle.cutting.specs.Cutting.{cut_at, cut_buffer}
use Rattle.table.specs.declared.Table.{Table}
use Rattle.table.specs.Table.{empty_table}
use Rattle.client.specs.declared.Received.{Received}
use Rattle.client.specs.Client.{store_started}
use Rattle.client.specs.Client as panel
use Rattle.shore.specs.declared.Shore.{Shore}
use Rattle.shore.specs.declared.Given.{Given}
use Rattle.shore.specs.declared.Said.{Said}
use Rattle.shore.specs.declared.Said.TheVariants.{Refused}
use Rattle.shore.specs.Shore as shore
use Rattle.lines.specs.Lines.{LINE_MAX, MESSAGE_LINE_MAX, line_of}
use Rattle.saying.specs.declared.End.{End}
use Rattle.saying.specs.declared.End.TheVariants as end
use Rattle.saying.specs.Saying.{END_MAX, end_field, desk_line_of, dropped_line_of, bad_line_of}
use Rattle.handing.specs.Handing.{message_text, message_said}
use Rattle.records.specs.Records.{announced}
use Rattle.records.specs.Desk.{REQUEST, OPEN, CLOSE, LEAD, AT_SHORE, PANEL_CLOSE, FROM_SHORE, FROM_PANEL, DROPS, leading, MESSAGE_HEAD, message_length}
use Rattle.hosting.specs.Hosting.{hosted}
use Rattle.linking.specs.declared.Ends.{Ends}
use Rattle.linking.specs.declared.Crossed.{Crossed}

-- ---- both ends

-- what both hosts keep, and both stores, the panel's before the shore's
pub record Both : Type 0 where
  pub ends : Ends
  pub store : List ℕ

abbrev pub both_of : Table → Shore → List ℕ → Both
both_of panel shore store = record { ends = record { panel = panel; shore = shore }; store = store }

abbrev pub with_store : Ends → List ℕ → Both
with_store ends store = record { ends = ends; store = store }

abbrev pub panel_store : List ℕ → List ℕ
panel_store store = take STORE store

abbrev pub shore_store : List ℕ → List ℕ
shore_store store = drop STORE store

-- ---- what comes of calls: both ends afterwards, and the text

pub record Goes : Type 0 where
  pub both : Both
  pub text : List ℕ

abbrev pub stays : Both → Goes
stays b = record { both = b; text = [] }

-- one thing, and then another
unfoldable pub then : Goes → (Both → Goes) → Goes
then g next = record { both = (next g.both).both; text = g.text ++ (next g.both).text }

-- what was sent, carried across; where nothing was, nothing is
unfoldable pub carry : List ℕ → (Both → List ℕ → Goes) → Both → Goes
carry sent across b = cond (eqb (length sent) 0) (stays b) (across b sent)

-- "what each end answers": the end, and the line that the walker or the desk prints, then the line of a message handed up
unfoldable pub call_text : End → List ℕ → List ℕ → List ℕ
call_text end line handed = (end_field end ++ line) ++ handed

unfoldable pub panel_text : ℕ → Received → List ℕ → List ℕ
panel_text place r store = call_text end.Panel (line_of place r.answer r.sent) (message_text place r.place store r.answer)

unfoldable pub shore_text : ℕ → Given → List ℕ → List ℕ
shore_text place g store = call_text end.Shore (desk_line_of place g.said g.sent) (message_said place g.place store g.said)

-- the most bytes of one call's text
unfoldable pub CALL_MAX : ℕ
CALL_MAX = END_MAX + LINE_MAX + MESSAGE_LINE_MAX

-- ---- a PDU carried to the shore, which sends nothing for it

unfoldable pub heard_by_shore : Both → List ℕ → shore.Whole
heard_by_shore b pdu = shore.received b.ends.shore (shore_store b.store) pdu (zeros REPLY_MIN)

unfoldable pub to_shore : ℕ → Both → List ℕ → Goes
to_shore place b pdu =
    record {
      both =
          both_of b.ends.panel (heard_by_shore b pdu).result.shore (panel_store b.store ++ (heard_by_shore b pdu).store);
      text = shore_text place (heard_by_shore b pdu).result (heard_by_shore b pdu).store;
    }

-- ---- what comes of a call at the panel: its text, and what it sent goes to the shore

unfoldable pub from_panel : ℕ → Shore → List ℕ → Received → List ℕ → Goes
from_panel place shore store r reply =
    then (record { both = both_of r.table shore store; text = panel_text place r (panel_store store) })
    (carry (take r.sent reply) (to_shore place))

abbrev pub after_panel : ℕ → Both → panel.Whole → Goes
after_panel place b w = from_panel place b.ends.shore (w.store ++ shore_store b.store) w.result w.reply

-- a PDU carried to the panel
unfoldable pub to_panel : List ℕ → ℕ → Both → List ℕ → Goes
to_panel list place b pdu =
    after_panel place b (panel.received b.ends.panel (panel_store b.store) list pdu (zeros REPLY_MIN))

-- "a local close at the panel"
unfoldable pub panel_closes : ℕ → Both → ℕ → Goes
panel_closes place b n =
    after_panel place b (panel.locally_closed b.ends.panel (panel_store b.store) n (zeros REPLY_MIN))

-- ---- what the shore's host does: its text, and what it sent goes to the panel

unfoldable pub host_called : Both → List ℕ → shore.Whole
host_called b bytes = hosted b.ends.shore (shore_store b.store) bytes (zeros PDU_MAX)

unfoldable pub shore_hosts : List ℕ → ℕ → Both → List ℕ → Goes
shore_hosts list place b bytes =
    then (record {
      both = both_of b.ends.panel (host_called b bytes).result.shore (panel_store b.store ++ (host_called b bytes).store);
      text = shore_text place (host_called b bytes).result (host_called b bytes).store;
    })
    (carry (take (host_called b bytes).result.sent (host_called b bytes).reply) (to_panel list place))

-- ---- "a message of the shore's or the panel's host", cut and carried PDU by PDU

unfoldable pub across : End → List ℕ → ℕ → Both → List ℕ → Goes
across end.Shore list place b pdu = to_panel list place b pdu
across end.Panel list place b pdu = to_shore place b pdu

-- where cutting has come: what came of a PDU, and where the next block starts
pub record Sends : Type 0 where
  pub goes : Goes
  pub next : ℕ

-- what the cutter refuses ends the message, and is said at the end that sends
unfoldable pub unsent : End → ℕ → Said → List ℕ
unsent from place said = end_field from ++ desk_line_of place said 0

unfoldable pub sends_piece : End → List ℕ → ℕ → Both → ℕ → List ℕ → List ℕ → Result Piece Refusal → Sends
sends_piece from list place b n message buffer (Ok piece) =
    record { goes = across from list place b (take piece.len buffer); next = piece.next }
sends_piece from list place b n message buffer (Err why) =
    record {
      goes = record { both = b; text = unsent from place (Refused why (Some n)) };
      next = length message;
    }

unfoldable pub sends_one : End → List ℕ → ℕ → ℕ → List ℕ → ℕ → Both → Sends
sends_one from list place n message at b =
    sends_piece from list place b n message (cut_buffer n message at (zeros PDU_MAX)) (cut_at n message at (zeros PDU_MAX))

-- at most so many PDUs from an offset on
unfoldable pub sends_up : ℕ → End → List ℕ → ℕ → ℕ → List ℕ → ℕ → Both → Goes
sends_up zero from list place n message at b = stays b
sends_up (suc more) from list place n message at b =
    then (sends_one from list place n message at b).goes
    (λ after.
    cond (ltb (sends_one from list place n message at b).next (length message))
    (sends_up more from list place n message (sends_one from list place n message at b).next after) (stays after))

-- a message of at most 4,096 bytes has no more PDUs than these (`three_are_all` of proofs/Pieces)
abbrev pub PIECES : ℕ
PIECES = 3

-- "(number 4 bytes, length 2 bytes, message, then one byte: how many of its PDUs are sent, 255 for all)"
unfoldable pub message_in : List ℕ → List ℕ
message_in bytes = take (message_length bytes) (drop MESSAGE_HEAD bytes)

unfoldable pub count_in : List ℕ → ℕ
count_in bytes = get_or bytes (length bytes - 1) 0

unfoldable pub host_sends : End → List ℕ → ℕ → Both → List ℕ → Goes
host_sends from list place b bytes =
    sends_up (min (count_in bytes) PIECES) from list place (value_of (drop LEAD bytes)) (message_in bytes) 0 b

-- ---- "the link drops: both queues are emptied and both ends Start"

unfoldable pub both_started : List ℕ → List ℕ
both_started store = store_started (panel_store store) ++ store_started (shore_store store)

abbrev pub new_ends : Ends
new_ends = record { panel = empty_table; shore = record { table = empty_table; asked = 0 } }

unfoldable pub dropped : ℕ → Both → Goes
dropped place b = record { both = with_store new_ends (both_started b.store); text = dropped_line_of place }

-- ---- a record

-- what comes of it, and whether it is one
pub record Steps : Type 0 where
  pub goes : Goes
  pub bad : Bool

abbrev pub good : Goes → Steps
good g = record { goes = g; bad = false }

-- "Any other leading byte or length: place and `bad`, and the run ends"
unfoldable pub no_record : ℕ → Both → Steps
no_record place b = record { goes = record { both = b; text = bad_line_of place }; bad = true }

unfoldable pub is_host : List ℕ → Bool
is_host bytes = eqb (announced bytes) REQUEST || (eqb (announced bytes) OPEN || eqb (announced bytes) CLOSE)

unfoldable pub link_step : List ℕ → ℕ → Both → List ℕ → Steps
link_step list place b bytes =
    cond (eqb (leading bytes) AT_SHORE)
    (cond (is_host (drop LEAD bytes)) (good (shore_hosts list place b (drop LEAD bytes))) (no_record place b))
    (cond (eqb (leading bytes) PANEL_CLOSE) (good (panel_closes place b (value_of (drop LEAD bytes))))
    (cond (eqb (leading bytes) FROM_SHORE) (good (host_sends end.Shore list place b bytes))
    (cond (eqb (leading bytes) FROM_PANEL) (good (host_sends end.Panel list place b bytes))
    (cond (eqb (leading bytes) DROPS) (good (dropped place b)) (no_record place b)))))

-- the most bytes of a record's text: of three PDUs, each with what comes of it at both ends
unfoldable pub STEP_MAX : ℕ
STEP_MAX = PIECES * (2 * CALL_MAX)

-- ---- the functions

-- a function does what comes of calls: its result, and every byte of the store and of the output buffer
pub record Crosses (g : Goes) (most : ℕ) (out : List ℕ) (r : Crossed) (storeAfter outAfter : List ℕ) : Type 0 where
  pub ends : Path Ends r.ends g.both.ends
  pub length_laid : Path ℕ r.laid (length g.text)
  pub fits : r.laid ≤ most
  pub stored : Path (List ℕ) storeAfter g.both.store
  pub lines : Path (List ℕ) outAfter (laid out 0 g.text)
