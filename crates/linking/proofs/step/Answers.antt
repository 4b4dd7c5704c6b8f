-- `linking::step` meets its contract: each arm is the definition's.
use mathlib.Core.Path.{refl, sym, ap, ◌∙◌}
use borrow.Author.Tests.{ne_eqb}
use Rattle.paper.specs.Sizes.{MESSAGE_MAX}
use Rattle.numbers.specs.Numbers.{value_of}
use Rattle.lines.specs.Lines.{MESSAGE_LINE_MAX}
use Rattle.lists.proofs.Lent.{rest_lent}
use Rattle.linking.specs.Linking.{CALL_MAX, STEP_MAX, no_record, link_step}
use Rattle.linking.proofs.Crossing.{wider}
use native.Mathlib.Omega.{arith}
use Rattle.linking.proofs.step.Goals as goal

pub returns-then-not-is_host : goal.returns-then-not-is_host
unfolding link_step no_record
returns-then-not-is_host c =
    let a = c.args in
    let rest = rest_lent a.bytes.now 1 c.min-from.result c.min-from.ensures in
    let host = sym (rw rest at c.is_host.ensures) ∙ c.if-not-is_host.true in
    rw (sym c.lead_of.ensures ∙ c.in-0.is, host) (c.no_record.ensures a.store.now)

pub returns-else-not-is_host : goal.returns-else-not-is_host
unfolding link_step STEP_MAX CALL_MAX MESSAGE_LINE_MAX MESSAGE_MAX
returns-else-not-is_host c =
    let rest = rest_lent c.args.bytes.now 1 c.min-from.result c.min-from.ensures in
    let host = sym (rw rest at c.is_host.ensures) ∙ c.if-not-is_host.false in
    rw (sym c.lead_of.ensures ∙ c.in-0.is, host, c.good.ensures) (refl, wider (omega arith) (rw rest at c.shore_hosts.ensures))

pub returns-in-1 : goal.returns-in-1
unfolding link_step STEP_MAX CALL_MAX MESSAGE_LINE_MAX MESSAGE_MAX
returns-in-1 c =
    let number = c.number.ensures ∙ ap value_of (rest_lent c.args.bytes.now 1 c.min-from.result c.min-from.ensures) in
    rw (sym c.lead_of.ensures ∙ c.in-1.is, c.good-in-1.ensures) (refl, wider (omega arith) (rw number at c.panel_closes.ensures))

pub returns-in-2 : goal.returns-in-2
unfolding link_step
returns-in-2 c = rw (sym c.lead_of.ensures ∙ c.in-2.is, c.good-in-2.ensures) (refl, c.host_sends.ensures)

pub returns-in-3 : goal.returns-in-3
unfolding link_step
returns-in-3 c = rw (sym c.lead_of.ensures ∙ c.in-3.is, c.good-in-3.ensures) (refl, c.host_sends-in-3.ensures)

pub returns-in-4 : goal.returns-in-4
unfolding link_step
returns-in-4 c = rw (sym c.lead_of.ensures ∙ c.in-4.is, c.good-in-4.ensures) (refl, c.dropped.ensures c.args.ends)

pub returns-in_default : goal.returns-in_default
unfolding link_step no_record
returns-in_default c =
    let lead = c.lead_of.result in
    rw (
      ← c.lead_of.ensures,
      ne_eqb lead 0 (λ e. omega arith),
      ne_eqb lead 1 (λ e. omega arith),
      ne_eqb lead 2 (λ e. omega arith),
      ne_eqb lead 3 (λ e. omega arith),
      ne_eqb lead 4 (λ e. omega arith),
    ) (c.no_record-in_default.ensures c.args.store.now)
