-- `lists::first_line` meets its contract: the place of the end is one of the text, or its length.
use Rattle.std.proofs.Common.{sym, arith}
use Rattle.std.proofs.lemmas.List.{length-take-le}
use Rattle.lists.specs.Bytes.{is_byte}
use Rattle.lists.specs.Lines.{LF}
use Rattle.lists.proofs.Places.{place_le}
use Rattle.lists.proofs.first_line.Goals as goal

pub overflow_add-end : goal.overflow_add-end
overflow_add-end c = omega (arith, c.first_of-end.ensures, place_le (is_byte LF) c.args.text.now)

pub slice_bounds-result-end : goal.slice_bounds-result-end
slice_bounds-result-end c = sym (length-take-le _ c.args.text.now (omega (arith, c.first_of-end.ensures, place_le (is_byte LF) c.args.text.now)))
