use mathlib.Core.Path.{◌≡◌, refl, sym, ◌∙◌}
use mathlib.Core.Bool.{true, false}
use Prim.Native.Nat.{ℕ, ◌+◌, ◌≤◌, ◌<◌}
use lib.ListN.{get_or}
use Rattle.paper.specs.Sizes.{PARTS, MESSAGE_MAX}
use Rattle.lists.proofs.Arrays.{length_mapped}
use borrow.Author.Tests.{le-ltb, lt-leb}
use lib.Dec.{ltb}
use Rattle.lists.proofs.Cases.{and_false}
use Rattle.channel.specs.declared.Stage.TheVariants.{Joining}
use Rattle.channel.specs.declared.Record.{Record}
use Rattle.channel.specs.Channel.{blank}
use Rattle.table.specs.Totals.{awaits, total}
use Rattle.table.specs.Sound.{is_staged, good_stage}
use Rattle.table.proofs.Every.{every_not, every_on, every_end}
use Rattle.table.proofs.Recount.{total_on, total_end, awaits_most, else_adds, joining_adds, not_open_joining_adds, counts_open}
use borrow.Author.Rules.{rules}
use native.Mathlib.Omega.{arith}
use Rattle.table.proofs.stages.Goals as goal
use Rattle.table.proofs.stages.Goals.{in_default, in-Joining+else-wanted-held+else-wanted-gt-MESSAGE_MAX+then-counts, in-Joining+else-wanted-held+else-wanted-gt-MESSAGE_MAX+else-counts}

-- one record
over_held : (r : Record) (wanted held : ℕ) → r.stage ≡ Joining wanted held → wanted ≤ held → good_stage r.stage ≡ false
unfolding good_stage
over_held r wanted held e h = rw (e, le-ltb held wanted h)

over_long : (r : Record) (wanted held : ℕ) → r.stage ≡ Joining wanted held → MESSAGE_MAX < wanted → good_stage r.stage ≡ false
unfolding good_stage
over_long r wanted held e h = rw (e, lt-leb wanted MESSAGE_MAX h) (and_false (ltb held wanted))

pub loop-record-init : goal.loop-record-init
unfolding PARTS
loop-record-init c = (search (rules, length_mapped), refl, omega arith, omega arith)

pub returns-then-wanted-held : goal.returns-then-wanted-held
unfolding PARTS
returns-then-wanted-held c =
    let l = c.loop-record in
    let r = get_or c.args.table.records l.record-index blank in
    let bad = over_held r _ _ c.in-Joining.is c.if-wanted-held.true in
    sym (rw (l.invariant.1 ∙ every_not is_staged c.args.table.records l.record-index blank (omega arith) bad))

pub returns-then-wanted-gt-MESSAGE_MAX : goal.returns-then-wanted-gt-MESSAGE_MAX
unfolding PARTS MESSAGE_MAX
returns-then-wanted-gt-MESSAGE_MAX c =
    let l = c.loop-record in
    let r = get_or c.args.table.records l.record-index blank in
    let bad = over_long r _ _ c.in-Joining.is c.if-wanted-gt-MESSAGE_MAX.true in
    sym (rw (l.invariant.1 ∙ every_not is_staged c.args.table.records l.record-index blank (omega arith) bad))

pub overflow_add-awaited : goal.overflow_add-awaited
unfolding PARTS
overflow_add-awaited c =
    let l = c.loop-record in
    omega (arith, l.invariant.3, c.if-wanted-gt-MESSAGE_MAX.false)

pub loop-record-preserved : goal.loop-record-preserved
unfolding PARTS MESSAGE_MAX
loop-record-preserved c =
    let l = c.loop-record in
    let rs = c.args.table.records in
    let r = get_or rs l.record-index blank in
    let is_it = sym (counts_open rs c.args.marked c.requires l.record-index) in
    let adds : (good_stage r.stage ≡ true) × (c.match-stage.awaited ≡ l.awaited + awaits r) =
    elim c.match-stage.branch [
      | in-Joining+else-wanted-held+else-wanted-gt-MESSAGE_MAX+then-counts w ↦
          let a = joining_adds r _ _ w.in-Joining.is (omega (arith, w.if-wanted-held.false)) (omega (arith, w.if-wanted-gt-MESSAGE_MAX.false))
          (is_it ∙ sym w.counts.ensures ∙ w.if-counts.true) in
          (a.0, omega (arith, a.1, w.awaited-is))
      | in-Joining+else-wanted-held+else-wanted-gt-MESSAGE_MAX+else-counts w ↦
          let a = not_open_joining_adds r _ _ w.in-Joining.is (omega (arith, w.if-wanted-held.false)) (omega (arith, w.if-wanted-gt-MESSAGE_MAX.false))
          (is_it ∙ sym w.counts.ensures ∙ w.if-counts.false) in
          (a.0, omega (arith, a.1, w.awaited-is))
      | in_default w ↦ let a = else_adds r w.in_default.not-Joining in (a.0, omega (arith, a.1, w.awaited-is))
    ] in (
      l.invariant.0,
      l.invariant.1 ∙ every_on is_staged rs l.record-index blank (omega arith) adds.0,
      omega (arith, l.invariant.2, adds.1, total_on awaits rs l.record-index (omega arith)),
      omega (arith, l.invariant.3, adds.1, awaits_most r adds.0),
    )

pub returns : goal.returns
unfolding PARTS
returns c =
    let l = c.loop-record in
    let rs = c.args.table.records in
    let all = l.invariant.1 ∙ every_end is_staged rs l.record-index (omega arith) in
    let sum : l.awaited ≡ total awaits rs = omega (arith, l.invariant.2, total_end awaits rs l.record-index (omega arith)) in
    rw (all, sum) refl
