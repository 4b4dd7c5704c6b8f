use mathlib.Core.Path.{◌≡◌, sym, ◌∙◌}
use mathlib.Core.List.{List}
use Prim.Native.Nat.{ℕ, ◌+◌, ◌-◌, ◌≤◌, ◌<◌}
use lib.ListN.{length, take, drop, length-take, length-drop}
use Rattle.lists.proofs.Laid.{to_end, from_to}
use Rattle.records.specs.Records.{LENGTH}
use Rattle.std.specs.Prelude.{Some}
use Rattle.records.specs.Records.{found}
use Rattle.records.proofs.Found.{none_found, some_found}
use Rattle.lines.proofs.Lays.{writes}
use Rattle.linklog.specs.Records.{logged_whole}
use Rattle.linklog.proofs.Framing.{log_framing}
use Rattle.logging.proofs.Inputs.{logged_head}
use Rattle.logging.proofs.Said.{begins, goes_on_law, ends_so}
use native.Mathlib.Omega.{arith}
use Rattle.std.proofs.Common.{rules}
use Rattle.logging.proofs.lines_of.Goals as goal

-- the record in front is whole: it has its length, and its bytes are there
in_front : (records : List ℕ) (at n : ℕ) → at ≤ length records → Some n ≡ found (logged_whole (take (length records - at) (drop at records)))
    → (n ≡ logged_whole (drop at records)) × ((LENGTH ≤ n) × (at + n ≤ length records))
in_front records at n within is =
    let some = some_found (logged_whole (drop at records)) n (sym (rw (to_end records at) at is)) in
    let more : 0 < logged_whole (drop at records) = omega (arith, some) in
    let head = logged_head (drop at records) more in
    let fits = log_framing.fits (drop at records) in
    let long = length-drop at records in
    (some.0, (omega (arith, some, head), omega (arith, some, fits, long)))

pub loop-n-init : goal.loop-n-init
loop-n-init c = begins _ _

pub slice_bounds-whole-count : goal.slice_bounds-whole-count
slice_bounds-whole-count c = omega (arith, c.loop-n.invariant.leads.0)

pub slice_bounds-whole-start : goal.slice_bounds-whole-start
slice_bounds-whole-start c = omega (arith, c.loop-n.invariant.leads.0)

pub slice_bounds-whole-end : goal.slice_bounds-whole-end
slice_bounds-whole-end c = omega (arith, c.loop-n.invariant.leads.0)

pub overflow_add-end : goal.overflow_add-end
overflow_add-end c =
    let front = in_front c.args.records.now c.loop-n.at _ c.loop-n.invariant.leads.0 (sym c.in-Some.is ∙ c.whole.ensures.value) in
    omega (arith, front)

pub slice_bounds-line-count : goal.slice_bounds-line-count
slice_bounds-line-count c =
    let front = in_front c.args.records.now c.loop-n.at _ c.loop-n.invariant.leads.0 (sym c.in-Some.is ∙ c.whole.ensures.value) in
    omega (arith, front)

pub slice_bounds-line-start : goal.slice_bounds-line-start
slice_bounds-line-start c =
    let front = in_front c.args.records.now c.loop-n.at _ c.loop-n.invariant.leads.0 (sym c.in-Some.is ∙ c.whole.ensures.value) in
    omega (arith, front)

pub slice_bounds-line-end : goal.slice_bounds-line-end
slice_bounds-line-end c =
    let front = in_front c.args.records.now c.loop-n.at _ c.loop-n.invariant.leads.0 (sym c.in-Some.is ∙ c.whole.ensures.value) in
    omega (arith, front)

pub line-requires : goal.line-requires
line-requires c =
    let l = c.loop-n in
    let records = c.args.records.now in
    let n = c.in-Some.n in
    let front = in_front records l.at _ l.invariant.leads.0 (sym c.in-Some.is ∙ c.whole.ensures.value) in
    let long : length (take n (drop l.at records)) ≡ n = length-take n (drop l.at records) ∙ rw length-drop (omega (arith, front)) in
    let w = l.invariant.writes in
    rw (from_to records l.at n, long) (omega (arith, front), (omega (arith, front, c.requires), omega (arith, w.at, w.within, l.invariant.leads.0, c.requires)))

pub loop-n-smaller : goal.loop-n-smaller
loop-n-smaller c =
    let front = in_front c.args.records.now c.loop-n.at _ c.loop-n.invariant.leads.0 (sym c.in-Some.is ∙ c.whole.ensures.value) in
    omega (arith, front)

pub loop-n-preserved : goal.loop-n-preserved
loop-n-preserved c =
    let l = c.loop-n in
    let records = c.args.records.now in
    let n = c.in-Some.n in
    let front = in_front records l.at _ l.invariant.leads.0 (sym c.in-Some.is ∙ c.whole.ensures.value) in
    let long : length (take n (drop l.at records)) ≡ n = length-take n (drop l.at records) ∙ rw length-drop (omega (arith, front)) in
    let w = l.invariant.writes in
    let line = rw (from_to records l.at n, long) at c.line.ensures in
    goes_on_law _ _ _ _ l.invariant _ n front.0 (omega (arith, front)) front.1.1
    (writes line (omega (arith, front, w.at, w.within, l.invariant.leads.0, c.requires)))

pub returns : goal.returns
returns c =
    let l = c.loop-n in
    let records = c.args.records.now in
    let none = none_found (logged_whole (drop l.at records)) (sym (rw (to_end records l.at) at c.whole.ensures.value) ∙ c.in_default.is) in
    let w = ends_so _ _ _ _ l.invariant none in
    record { value = omega (arith, w.at, w.within, c.requires); out_after = search (rules, w) }
