-- `judge::say` meets its contract: its tests are the definition's.
use Rattle.std.proofs.Common.{sym, ◌∙◌, arith, eq-eqb, ne_eqb}
use Rattle.judge.specs.Sender.{cut_line, line_at}
use Rattle.judge.proofs.say.Goals as goal

pub returns-then-not-is_whole : goal.returns-then-not-is_whole
unfolding line_at cut_line
returns-then-not-is_whole c =
    let none = sym c.is_whole.ensures ∙ c.if-not-is_whole.true in
    rw none (record { value = (c.text.ensures.value, omega (arith, c.text.ensures.value)); out_after = c.text.ensures.out_after })

pub returns-then-left-gt0 : goal.returns-then-left-gt0
unfolding line_at cut_line
returns-then-left-gt0 c =
    let whole = sym c.is_whole.ensures ∙ c.if-not-is_whole.false in
    rw (whole, ne_eqb c.args.left 0 (λ e. omega (arith, c.if-left-gt0.true))) (record { value = (c.text-then-left-gt0.ensures.value, omega (arith, c.text-then-left-gt0.ensures.value)); out_after = c.text-then-left-gt0.ensures.out_after })

pub returns : goal.returns
unfolding line_at
returns c =
    let whole = sym c.is_whole.ensures ∙ c.if-not-is_whole.false in
    let did = c.line.ensures in
    rw (whole, eq-eqb c.args.left 0 (omega (arith, c.if-left-gt0.false)), sym c.comes_to.ensures) (record { value = did.value; out_after = did.out_after })
