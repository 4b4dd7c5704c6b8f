-- `saved::awaits` meets its contract: only an open channel's message is awaited, and of one that holds enough no byte.
use mathlib.Core.Path.{sym, ◌∙◌}
use Rattle.saved.proofs.Told.{awaits_shut, awaits_low, awaits_high}
use Rattle.saved.proofs.awaits.Goals as goal

pub returns-then-opens-eq0 : goal.returns-then-opens-eq0
returns-then-opens-eq0 c = sym (awaits_shut c.args.rest 0 0 (sym c.opens.ensures ∙ c.if-opens-eq0.true))

pub returns-then-code-lt-WANTED : goal.returns-then-code-lt-WANTED
returns-then-code-lt-WANTED c =
    let rest = c.args.rest in
    sym (awaits_low rest 0 0 (λ e. c.if-opens-eq0.false (c.opens.ensures ∙ e)) c.if-code-lt-WANTED.true)

pub returns : goal.returns
returns c =
    let rest = c.args.rest in
    c.saturating_sub.ensures ∙ sym (awaits_high rest 0 0 (λ e. c.if-opens-eq0.false (c.opens.ensures ∙ e)) c.if-code-lt-WANTED.false)
