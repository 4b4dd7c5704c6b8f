-- How many calls got each answer word, and what the channels counted.
use Rattle.std.specs.Prelude.{ℕ, ◌+◌, ◌%◌, ◌^◌}
use Rattle.channel.specs.declared.Answer.{Answer}
use Rattle.channel.specs.declared.Answer.TheVariants.{Ready, Opened, Declined, Held, Message, Closed, Ignored, Refused}
use Rattle.bench.specs.declared.Tally.{Tally}

-- a count goes on from 0 where 64 bits end
abbrev pub plus : ℕ → ℕ → ℕ
plus a b = (a + b) % 2 ^ 64

abbrev pub counts : ℕ → ℕ → ℕ → ℕ → ℕ → ℕ → ℕ → ℕ → ℕ → Tally
counts a b c d e f g h i =
    record { ready = a; opened = b; declined = c; held = d; message = e; closed = f; ignored = g; refused = h; counted = i }

abbrev pub no_calls : Tally
no_calls = counts 0 0 0 0 0 0 0 0 0

-- one more call for the answer's word
abbrev pub tallied : Tally → Answer → Tally
tallied t (Ready level) =
    counts (plus t.ready 1) t.opened t.declined t.held t.message t.closed t.ignored t.refused t.counted
tallied t (Opened n) =
    counts t.ready (plus t.opened 1) t.declined t.held t.message t.closed t.ignored t.refused t.counted
tallied t (Declined n why) =
    counts t.ready t.opened (plus t.declined 1) t.held t.message t.closed t.ignored t.refused t.counted
tallied t (Held n left) =
    counts t.ready t.opened t.declined (plus t.held 1) t.message t.closed t.ignored t.refused t.counted
tallied t (Message n len) =
    counts t.ready t.opened t.declined t.held (plus t.message 1) t.closed t.ignored t.refused t.counted
tallied t (Closed n) =
    counts t.ready t.opened t.declined t.held t.message (plus t.closed 1) t.ignored t.refused t.counted
tallied t (Ignored n) =
    counts t.ready t.opened t.declined t.held t.message t.closed (plus t.ignored 1) t.refused t.counted
tallied t (Refused why concern) =
    counts t.ready t.opened t.declined t.held t.message t.closed t.ignored (plus t.refused 1) t.counted

-- with the count of a channel that is open at the end of a round
abbrev pub noted : Tally → ℕ → Tally
noted t count =
    counts t.ready t.opened t.declined t.held t.message t.closed t.ignored t.refused (plus t.counted count)

-- all calls
abbrev pub sum_of : Tally → ℕ
sum_of t =
    plus
    (plus (plus t.ready t.opened) (plus t.declined t.held))
    (plus (plus t.message t.closed) (plus t.ignored t.refused))
