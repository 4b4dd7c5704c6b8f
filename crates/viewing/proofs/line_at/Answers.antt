-- `viewing::line_at` meets its contract: the line goes up to the next LF or to the end, and the next begins one byte behind it.
use Rattle.std.proofs.Common.{◌≡◌, ◌-◌, length, take, drop, ap, ◌∙◌}
use Rattle.std.proofs.lemmas.List.{length-take-le}
use Rattle.lists.specs.Bytes.{is_byte}
use Rattle.lists.specs.Places.{place}
use Rattle.lists.specs.Lines.{LF, first_line}
use Rattle.lists.proofs.Laid.{to_end}
use Rattle.lists.proofs.Lent.{drop_least}
use Rattle.lists.proofs.Places.{place_le}
use Rattle.viewing.specs.Texts.{line_at}
use Rattle.viewing.proofs.line_at.Goals as goal

pub returns : goal.returns
unfolding line_at
returns c =
    let text = c.args.text.now in
    let rest = drop c.args.at text in
    let same : take (length text - c.min-from.result) (drop c.min-from.result text) ≡ rest =
    to_end text c.min-from.result ∙ rw c.min-from.ensures (drop_least c.args.at text) in
    let line = c.first_line.ensures.line ∙ ap first_line same in
    let n = length-take-le (place (is_byte LF) rest) rest (place_le (is_byte LF) rest) in
    rw (c.judge.ensures, line, n, c.min-from.ensures)
