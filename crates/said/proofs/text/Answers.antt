-- `said::text` meets its contract: the row's numbers and bytes are those that are said, and each field is laid behind the one before.
use mathlib.Core.Path.{◌∙◌}
use mathlib.Core.List.{◌++◌}
use lib.ListN.{length}
use Rattle.lists.proofs.Laid.{laid_next}
use Rattle.reading.specs.Said.{said, bytes_at}
use Rattle.lines.specs.Decimal.{field}
use Rattle.lines.proofs.Ends.{ends}
use Rattle.said.specs.Saying.{COLON, numbers_in, bytes_in, spelled_out, text_of, place_of}
use Rattle.said.proofs.Laws.{row_says, bytes_least}
use native.Mathlib.Omega.{arith}
use Rattle.said.proofs.text.Goals as goal

pub returns : goal.returns
unfolding text_of
returns c =
    let a = c.args in
    let says = said a.pdu.now a.read in
    let lent = rw c.place.ensures at c.of-bytes.ensures in
    let bytes = lent ∙ (row_says a.pdu.now a.read).1 in
    let p1 = rw (row_says a.pdu.now a.read).0 at c.row-spelled.ensures in
    let p2 = rw bytes at c.field.ensures in
    let p3 = rw bytes at c.text.ensures in
    let f1 = spelled_out (numbers_in says) in
    let f2 = field (length (bytes_in says)) COLON in
    let n2 = ends f1 f2 p1.value.0 p2.value.0 in
    let l2 = laid_next _ _ _ f1 f2 _ p1.value.0 p1.out_after p2.out_after in
    let most = rw (row_says a.pdu.now a.read).1 at (bytes_least a.pdu.now (place_of a.read)) in
    record { value = (ends (f1 ++ f2) (bytes_in says) n2 p3.value, omega (arith, p1.value.1, p2.value.1, p3.value, most)); out_after = laid_next _ _ _ (f1 ++ f2) (bytes_in says) _ n2 l2 p3.out_after }
