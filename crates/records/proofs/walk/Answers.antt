use Rattle.std.proofs.Common.{◌≡◌, ◌+◌, length, sym, ap, ◌∙◌, arith}
use Rattle.lists.proofs.Laid.{to_end}
use Rattle.records.specs.Records.{pdu_in, whole_of}
use Rattle.records.specs.Walks.{front_of}
use Rattle.records.specs.Items.{after_items}
use Rattle.records.proofs.Found.{none_found, some_found}
use Rattle.records.proofs.Rests.{size_none}
use Rattle.records.proofs.Pdus.{pdus_none, in_front}
use Rattle.records.proofs.walk.Goals as goal

pub loop-n-preserved : goal.loop-n-preserved
unfolding pdu_in front_of after_items
loop-n-preserved g c =
    let l = c.loop-n in
    let rest = l.rest.now in
    let n = c.in-Some.n in
    let front = some_found _ n (sym c.in-Some.ensures.value) in
    let first = in_front rest c.split_at.result.1.now n front.0 front.1 c.split_at.ensures.back in
    let there : length c.split_at.result.1.now + n ≡ length rest = c.split_at.ensures.back_len in
    let pdu = to_end c.split_at.result.0.now 2 ∙ ap pdu_in c.split_at.ensures.front in
    let on = rw first.1 at l.invariant.2 in (
      omega (arith, there, l.invariant.0),
      omega (arith, first.0, there, l.invariant.1),
      cc,
    )

pub returns-clause-taken_value : goal.returns-clause-taken_value
returns-clause-taken_value g c =
    let l = c.loop-n in
    let none = none_found _ (sym c.in_default.ensures.value) in
    let size = size_none whole_of l.rest.now none in
    (omega (arith, l.invariant.1), omega arith)

pub returns-clause-steps : goal.returns-clause-steps
unfolding after_items
returns-clause-steps g c =
    let l = c.loop-n in
    let none = none_found _ (sym c.in_default.ensures.value) in
    rw (pdus_none l.rest.now none) at l.invariant.2
