-- THE JOINED ENDS, on one page. The statement stands in specs/Joined, over the moves of specs/Ends and the contracts of both
-- ends' entries; here is where each part is proved.
-- Assumes nothing.
use Prim.Native.Nat.{ℕ}
use mathlib.Core.List.{List}
use Rattle.joined.specs.Ends.{Move, reached}
use Rattle.joined.specs.Joined.{AtAnyTime, JoinedEnds}
use Rattle.joined.specs.Examples.{NotEmpty}
use Rattle.joined.proofs.Queues as queues
use Rattle.joined.proofs.Bytes as wire
use Rattle.joined.proofs.Meeting.{Tied, reached_tied}
use Rattle.joined.proofs.Outcomes as outcomes
use Rattle.joined.proofs.Examples as examples

-- "refusals 9 (panel) and 16 (shore) never come up", and reading refuses nothing
at_any_time : (one two : List ℕ) (ms : List Move) → Tied (reached one two ms) → AtAnyTime one two ms
at_any_time one two ms t =
    record {
      never_9 = outcomes.not_9 (reached one two ms) t;
      never_16 = outcomes.not_16 (reached one two ms) t;
      panel_reads = λ pdu o. queues.not_refused (queues.one_sent o t.down_sent);
      shore_reads = λ pdu o. queues.not_refused (queues.one_sent o t.up_sent);
    }

-- "With a panel end joined to it in order and without loss, and proper buffers and lists at both, both have the same open
-- numbers once every sent PDU has been received."
pub joined_ends : JoinedEnds
joined_ends =
    record {
      same_open_numbers = λ one two h k ms z d u. outcomes.same_open (reached one two ms) (reached_tied one two h k ms z) d u;
      none_awaited = λ one two h k ms z d u. outcomes.not_awaited (reached one two ms) (reached_tied one two h k ms z) d u;
      at_any_time = λ one two h k ms z. at_any_time one two ms (reached_tied one two h k ms z);
      written_first = wire.written_first;
      written_data = wire.written_data;
      cut_by_us = wire.cut_by_us;
    }

-- runs to such an end, with number 1 open at both or at neither
pub not_empty : NotEmpty
not_empty = examples.not_empty
