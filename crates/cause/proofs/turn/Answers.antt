-- `cause::turn` meets its contract: each step takes a PDU.
use Rattle.std.proofs.Common.{ℕ, List, ap, refl, ◌∙◌}
use Rattle.records.proofs.Calls.{all_made}
use Rattle.cause.specs.declared.Course.{Course}
use Rattle.cause.specs.Cause.{Way, way_of, way_after}
use Rattle.cause.proofs.turn.Goals as goal

pub returns-clause-value : goal.returns-clause-value
returns-clause-value c =
    let a = c.args in
    let seen = λ (at : Course × List ℕ). way_of at.0 at.1 in
    let made = ap seen c.turn.ensures.steps ∙ all_made seen _ (way_after a.sought a.list.now) (λ at pdu. refl) _ _ in
    rw (← ap (λ (w : Way). w.course) made, ← c.turn.ensures.had.0) (refl, c.turn.ensures.had.1)

pub returns-clause-store_after : goal.returns-clause-store_after
returns-clause-store_after c =
    let a = c.args in
    let seen = λ (at : Course × List ℕ). way_of at.0 at.1 in
    ap (λ (at : Course × List ℕ). at.1) c.turn.ensures.steps
    ∙ ap (λ (w : Way). w.store) (all_made seen _ (way_after a.sought a.list.now) (λ at pdu. refl) _ _)
