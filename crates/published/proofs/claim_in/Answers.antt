-- `published::claim_in` meets its contract: the guards are those of the definition.
use Rattle.std.proofs.Common.{sym, ◌∙◌, ap, arith, not, get_or, length}
use borrow.Author.Tests.{lt-ltb, le-ltb, eq-eqb, ne_eqb}
use Rattle.lists.proofs.Laid.{to_end}
use Rattle.lines.specs.Lines.{SPACE}
use Rattle.published.specs.Claims.{pair_in, claim_behind, claim_in}
use Rattle.published.proofs.Numbers.{same_pair}
use Rattle.published.proofs.claim_in.Goals.{then-ne-via-then-ne, then-ne-via-else-ne+then-space-ne32}
use Rattle.published.proofs.claim_in.Goals as goal

pub returns-in_default : goal.returns-in_default
unfolding claim_in
returns-in_default c = rw (lt-ltb (length c.args.line.now) 3 (omega arith))

pub returns-then-ne : goal.returns-then-ne
unfolding claim_in
returns-then-ne c =
    let line = c.args.line.now in
    let same = rw c.pair.ensures at c.ne.ensures ∙ ap not (same_pair (pair_in (get_or line 0 0) (get_or line 1 0)) c.args.byte) in
    rw (le-ltb (length line) 3 (omega arith)) (elim c.then-ne.branch [
      | then-ne-via-then-ne w ↦ rw (sym same ∙ w.if-ne.true)
      | then-ne-via-else-ne+then-space-ne32 w ↦ rw (sym same ∙ w.if-ne.false, ne_eqb (get_or line 2 0) SPACE w.if-space-ne32.true)
    ])

pub returns : goal.returns
unfolding claim_in
returns c =
    let line = c.args.line.now in
    let same = rw c.pair.ensures at c.ne.ensures ∙ ap not (same_pair (pair_in (get_or line 0 0) (get_or line 1 0)) c.args.byte) in
    rw (le-ltb (length line) 3 (omega arith), sym same ∙ c.if-ne.false, eq-eqb (get_or line 2 0) SPACE c.if-space-ne32.false)
    (c.claimed.ensures ∙ ap claim_behind (to_end line 3))
