-- How a state is judged word by word, as the code has it. Nobody need believe this page: proofs/Judged shows that what passes is a
-- state of its end with a sound table, and nothing else is.
use Rattle.std.specs.Prelude.{ℕ, zero, suc, ◌%◌, Bool, true, not, ◌&&◌, ◌||◌, List, eqb, drop}
use Rattle.paper.specs.Sizes.{PARTS}
use Rattle.table.specs.Totals.{opens, awaits, total}
use Rattle.table.specs.Sound.{good_stage}
use Rattle.saved.specs.Saved.{CHANNELS, AWAITED, ROW, word_at, record_of, rest_of, records_in}

-- the first word of a record: it is that of what it tells, with a stage that can stand in a sound table, and awaited only where the end
-- awaits numbers
unfoldable pub good_rest : Bool → ℕ → Bool
good_rest asks rest =
    let r = record_of rest 0 0 in
    (eqb (rest_of r) rest && good_stage r.stage) && (asks || not r.awaited)

-- and not taken when not ready
unfoldable pub fine_rest : Bool → Bool → ℕ → Bool
fine_rest ready asks rest = good_rest asks rest && (ready || not (eqb (rest % 2) 1))

unfoldable pub fine_rows : Bool → Bool → ℕ → List ℕ → Bool
fine_rows ready asks zero bytes = true
fine_rows ready asks (suc n) bytes = fine_rest ready asks (word_at bytes 0) && fine_rows ready asks n (drop ROW bytes)

-- the totals are what a recount comes to
unfoldable pub recounted : List ℕ → Bool
recounted bytes =
    eqb (total opens (records_in PARTS bytes)) (word_at bytes CHANNELS) && eqb (total awaits (records_in PARTS bytes)) (word_at bytes AWAITED)
