-- `reading::create_request` meets its contract: the name's length is the
-- place of the first zero byte behind the number.
use mathlib.Core.Path.{◌≡◌, ap, ◌∙◌}
use lib.ListN.{drop}
use Rattle.lists.specs.Places.{place}
use Rattle.lists.specs.Bytes.{is_zero}
use Rattle.lists.proofs.Laid.{to_end}
use Rattle.reading.specs.Reading.{create_request, named_for}
use Rattle.lists.proofs.Cases.{tests}
use Rattle.reading.proofs.create_request.Goals as goal

pub returns-then-pdu-at : goal.returns-then-pdu-at
unfolding create_request named_for
returns-then-pdu-at c =
    let found : c.first_zero-len.result ≡ place is_zero
    (drop c.args.at c.args.pdu.now) = let a = c.args in
    c.first_zero-len.ensures ∙ ap (place is_zero) (to_end a.pdu.now a.at) in
    rw (← found) (search tests)

pub returns-then-len-pdu : goal.returns-then-len-pdu
unfolding create_request named_for
returns-then-len-pdu c =
    let found : c.first_zero-len.result ≡ place is_zero
    (drop c.args.at c.args.pdu.now) = let a = c.args in
    c.first_zero-len.ensures ∙ ap (place is_zero) (to_end a.pdu.now a.at) in
    rw (← found) (search tests)

pub returns : goal.returns
unfolding create_request named_for
returns c =
    let found : c.first_zero-len.result ≡ place is_zero
    (drop c.args.at c.args.pdu.now) = let a = c.args in
    c.first_zero-len.ensures ∙ ap (place is_zero) (to_end a.pdu.now a.at) in
    rw (← found) (search tests)
