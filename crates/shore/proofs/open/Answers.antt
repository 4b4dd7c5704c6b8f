-- `shore::open` meets its contract: refusals 1, 7 and 15 in front of what is written; the record is put where it was free.
use mathlib.Core.Path.{◌≡◌, refl, sym, ◌∙◌}
use Prim.Native.Nat.{◌≤◌, ◌<◌}
use lib.ListN.{length}
use Rattle.paper.specs.Sizes.{PARTS}
use Rattle.paper.specs.declared.Refusal.TheVariants.{BadCall, WrongTime, AllTaken}
use Rattle.lists.proofs.Arrays.{length_mapped}
use Rattle.table.specs.Table.{free_place}
use Rattle.shore.specs.declared.Said.TheVariants.{Awaited}
use Rattle.shore.specs.Numbers.{least_number}
use Rattle.shore.specs.Shore.{awaiting}
use Rattle.shore.proofs.Calls.{unsent, roomy, open_refuses, open_early, open_full, opens, put_awaited, write_refused, write_sent, gives_sent}
use borrow.Author.Rules.{rules}
use borrow.Author.Tests.{not-true, not-false}
use Rattle.shore.proofs.open.Goals as goal

pub returns-then-bad_out : goal.returns-then-bad_out
returns-then-bad_out c =
    let a = c.args in
    let bad = sym c.bad_out.ensures ∙ c.if-bad_out.true in
    let both = unsent a.shore BadCall a.out.now _ _ (open_refuses a.shore a.name.now a.class a.out.now bad) c.unsent.ensures in record { value = both.0; out_after = both.1 }

pub returns-then-not-table : goal.returns-then-not-table
returns-then-not-table c =
    let a = c.args in
    let good = sym c.bad_out.ensures ∙ c.if-bad_out.false in
    let both = unsent a.shore WrongTime a.out.now _ _ (open_early a.shore a.name.now a.class a.out.now good (not-true _ c.if-not-table.true))
    c.unsent-then-not-table.ensures in record { value = both.0; out_after = both.1 }

pub returns-then-k-ge-PARTS : goal.returns-then-k-ge-PARTS
unfolding PARTS
returns-then-k-ge-PARTS c =
    let a = c.args in
    let good = sym c.bad_out.ensures ∙ c.if-bad_out.false in
    let full : PARTS ≤ free_place a.shore.table = rw (← c.find_free-k.ensures) c.if-k-ge-PARTS.true in
    let both = unsent a.shore AllTaken a.out.now _ _
    (open_full a.shore a.name.now a.class a.out.now good (not-false _ c.if-not-table.false) full) c.unsent-then-k-ge-PARTS.ensures in record { value = both.0; out_after = both.1 }

pub returns-in-Err : goal.returns-in-Err
unfolding PARTS
returns-in-Err c =
    let a = c.args in
    let s = a.shore in
    let out = a.out.now in
    let good = sym c.bad_out.ensures ∙ c.if-bad_out.false in
    let free : free_place s.table < PARTS = rw (← c.find_free-k.ensures) c.if-k-ge-PARTS.false in
    let by = rw (c.class_at-sends.ensures, c.least_number-number.ensures) at c.write_create_request.ensures in
    let both = gives_sent _ _ (opens s a.name.now a.class out good (not-false _ c.if-not-table.false) free)
    (write_refused s (record { table = awaiting s.table (least_number s.table) a.class; asked = s.asked }) (Awaited (least_number s.table)) _ _ out _ _
    (roomy s out good) by.value by.out_after _ _ c.in-Err.is c.unsent-in-Err.ensures) in record { value = both.0; out_after = both.1 }

pub returns-in-Ok : goal.returns-in-Ok
unfolding PARTS
returns-in-Ok c =
    let sixteen : length c.args.shore.table.records ≡ PARTS = search (rules, length_mapped, c.well_formed) in
    let a = c.args in
    let s = a.shore in
    let out = a.out.now in
    let good = sym c.bad_out.ensures ∙ c.if-bad_out.false in
    let free : free_place s.table < PARTS = rw (← c.find_free-k.ensures) c.if-k-ge-PARTS.false in
    let by = rw (c.class_at-sends.ensures, c.least_number-number.ensures) at c.write_create_request.ensures in
    let record_put = rw c.least_number-number.ensures at c.awaited.ensures in
    let next = rw (c.find_free-k.ensures, c.blank-row.ensures, record_put) at c.put-next.ensures in
    let same = next ∙ put_awaited s.table (least_number s.table) a.class (sixteen) free in
    let both = gives_sent _ _ (opens s a.name.now a.class out good (not-false _ c.if-not-table.false) free)
    (write_sent s (record { table = awaiting s.table (least_number s.table) a.class; asked = s.asked }) (Awaited (least_number s.table)) _ _ out _ _
    (roomy s out good) by.value by.out_after _ _ c.in-Ok.is (rw (same, c.least_number-number.ensures) refl)) in record { value = both.0; out_after = both.1 }
