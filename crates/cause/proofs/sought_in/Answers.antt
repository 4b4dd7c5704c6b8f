use Rattle.std.proofs.Common.{◌≡◌, ℕ, ◌+◌, ◌-◌, ◌*◌, ◌<◌, ◌≤◌, Some, None, cond, ltb, get_or, drop, refl, sym, ◌∙◌, ⊎_elim, arith, lt-ltb, le-ltb}
use Rattle.lists.proofs.Cases.{lt_or_le}
use Rattle.records.specs.Records.{PLACES}
use Rattle.cause.specs.Why.{sought_in}
use Rattle.cause.proofs.Digits.{all_same, small, large, grows, next, ends}
use Rattle.cause.proofs.sought_in.Goals as goal

-- what is there is the number, and where it is not the number is beyond
there : (n k : ℕ) → Some k ≡ cond (ltb n PLACES) (Some n) None → (k ≡ n) × (n < PLACES)
there n k e =
    ⊎_elim (λ (l : n < PLACES). let is : Some k ≡ Some n = rw (lt-ltb n PLACES l) at e in (cc, l))
    (λ (l : PLACES ≤ n). let no : Some k ≡ None = rw (le-ltb n PLACES l) at e in absurd (let z : ◌≡◌ {A = ℕ} 0 1 = cc in omega arith)) (lt_or_le n PLACES)

beyond : (n : ℕ) → None ≡ cond (ltb n PLACES) (Some n) None → PLACES ≤ n
beyond n e =
    ⊎_elim (λ (l : n < PLACES). let no : None ≡ Some n = rw (lt-ltb n PLACES l) at e in absurd (let z : ◌≡◌ {A = ℕ} 0 1 = cc in omega arith))
    (λ (l : PLACES ≤ n). l) (lt_or_le n PLACES)

pub returns-then-not-is_number : goal.returns-then-not-is_number
unfolding sought_in
returns-then-not-is_number c = rw (← all_same c.args.word.now, sym c.is_number.ensures ∙ c.if-not-is_number.true) refl

pub loop-digit-init : goal.loop-digit-init
loop-digit-init c = (refl, omega arith)

pub loop-digit-preserved : goal.loop-digit-preserved
loop-digit-preserved c =
    let l = c.loop-digit in
    let is = there _ _ (sym c.in-Some.is ∙ c.with_digit.ensures) in
    rw is.0 (next c.args.word.now l.digit-index l.number (omega arith) l.invariant.0, is.1)

pub returns-in_default : goal.returns-in_default
unfolding sought_in
returns-in_default c =
    let l = c.loop-digit in
    let word = c.args.word.now in
    let over = beyond _ (sym c.in_default.is ∙ c.with_digit.ensures) in
    let on = next word l.digit-index l.number (omega arith) l.invariant.0 in
    let all = grows (10 * l.number + (get_or word l.digit-index 0 - 48)) (drop (l.digit-index + 1) word) in
    rw (← all_same c.args.word.now, sym c.is_number.ensures ∙ c.if-not-is_number.false) (sym (large _ (omega (arith, over, all, on))))

pub returns : goal.returns
unfolding sought_in
returns c =
    let l = c.loop-digit in
    let is = ends c.args.word.now l.digit-index l.number (omega arith) l.invariant.0 in
    rw (← all_same c.args.word.now, sym c.is_number.ensures ∙ c.if-not-is_number.false, ← is) (sym (small l.number l.invariant.1))
