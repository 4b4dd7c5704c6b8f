-- What a host in C asks of a state of either end: the totals, and a channel's count of messages.
use Rattle.std.specs.Prelude.{ℕ, true, false, cond, ◌||◌, List, Some}
use Rattle.paper.specs.Sizes.{PARTS}
use Rattle.paper.specs.declared.Refusal.TheVariants.{NotOpen}
use Rattle.channel.specs.declared.Answer.TheVariants.{Refused}
use Rattle.table.specs.declared.Table.{Table}
use Rattle.table.specs.Totals.{is_open}
use Rattle.table.specs.Table.{number_place, record_at}
use Rattle.saved.specs.Saved.{CLIENT, SHORE, totals_in, table_in, is_headed, is_good}
use Rattle.packing.specs.Packing.{COUNTED, packed, packed_answer}
use Rattle.client_face.specs.Face.{no_state}

-- the bytes still to come in the channel's bits and the open channels for the number, without going through the records: so the bytes are
-- judged by what stands behind the records alone
unfoldable pub dvc_totals : List ℕ → ℕ
dvc_totals state = cond (is_headed state) (packed COUNTED (totals_in state).awaited (totals_in state).channels 0 0) no_state

-- of an open channel the messages since its opening, in the channel's bits; of any other number, refusal 8
unfoldable pub count_in : Table → ℕ → ℕ
count_in t n =
    cond (is_open (record_at t (number_place n t))) (packed COUNTED (record_at t (number_place n t)).count 0 0 0)
    (packed_answer (Refused NotOpen (Some n)) PARTS 0)

unfoldable pub dvc_count : List ℕ → ℕ → ℕ
dvc_count state n = cond (is_good CLIENT false state || is_good SHORE true state) (count_in (table_in state) n) no_state
