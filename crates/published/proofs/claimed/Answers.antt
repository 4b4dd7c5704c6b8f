-- `published::claimed` meets its contract: the word, or four digits, of which each pair must be one.
use Rattle.std.proofs.Common.{◌≡◌, ◌+◌, ◌*◌, sym, ◌∙◌, arith, length}
use borrow.Author.Tests.{eq-eqb, ne_eqb}
use Rattle.published.specs.Claims.{UNDEFINED, four_in, claim_behind}
use Rattle.published.proofs.Numbers.{same_pointwise}
use Rattle.published.proofs.claimed.Goals as goal

pub returns-then-eq : goal.returns-then-eq
unfolding claim_behind
returns-then-eq c =
    let rest = c.args.rest.now in
    let word = rw c.as_slice.ensures at c.eq.ensures ∙ same_pointwise rest UNDEFINED in
    rw (sym word ∙ c.if-eq.true)

pub returns-in_default : goal.returns-in_default
unfolding claim_behind
returns-in_default c =
    let rest = c.args.rest.now in
    let word = rw c.as_slice.ensures at c.eq.ensures ∙ same_pointwise rest UNDEFINED in
    rw (sym word ∙ c.if-eq.false, ne_eqb (length rest) 4 (λ e. omega arith))

pub returns-in_default-2 : goal.returns-in_default-2
unfolding claim_behind
returns-in_default-2 c =
    let rest = c.args.rest.now in
    let word = rw c.as_slice.ensures at c.eq.ensures ∙ same_pointwise rest UNDEFINED in
    rw (sym word ∙ c.if-eq.false, ne_eqb (length rest) 4 (λ e. omega arith))

pub returns-in_err-high : goal.returns-in_err-high
unfolding claim_behind four_in
returns-in_err-high c =
    let rest = c.args.rest.now in
    let word = rw c.as_slice.ensures at c.eq.ensures ∙ same_pointwise rest UNDEFINED in
    let off = sym c.pair.ensures ∙ c.in_err-high.was in
    c.from_residual.ensures ∙ rw (sym word ∙ c.if-eq.false, eq-eqb (length rest) 4 (omega arith), off)

pub returns-in_err-low : goal.returns-in_err-low
unfolding claim_behind four_in
returns-in_err-low c =
    let rest = c.args.rest.now in
    let word = rw c.as_slice.ensures at c.eq.ensures ∙ same_pointwise rest UNDEFINED in
    let high = sym c.pair.ensures ∙ c.in_ok-high.was in
    let off = sym c.pair-2.ensures ∙ c.in_err-low.was in
    c.from_residual-in_err-low.ensures ∙ rw (sym word ∙ c.if-eq.false, eq-eqb (length rest) 4 (omega arith), high, off)

pub returns : goal.returns
unfolding claim_behind four_in
returns c =
    let rest = c.args.rest.now in
    let word = rw c.as_slice.ensures at c.eq.ensures ∙ same_pointwise rest UNDEFINED in
    let high = sym c.pair.ensures ∙ c.in_ok-high.was in
    let low = sym c.pair-2.ensures ∙ c.in_ok-low.was in
    let turned : c.from_be_bytes.result ≡ 256 * c.in_ok-high.high + c.in_ok-low.low = omega (arith, c.from_be_bytes.ensures) in
    rw (sym word ∙ c.if-eq.false, eq-eqb (length rest) 4 (omega arith), high, low, turned)
