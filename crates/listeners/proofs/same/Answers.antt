use mathlib.Core.Path.{◌≡◌, sym, ap}
use borrow.Author.Count.{below_none, below_more}
use lib.ListN.{length}
use lib.Seq.{ext_get_or}
use Rattle.listeners.proofs.Matches.{same_self, unlike}
use borrow.Author.Rules.{rules}
use native.Mathlib.Omega.{arith}
use Rattle.listeners.proofs.same.Goals as goal

pub returns-then-a-b : goal.returns-then-a-b
returns-then-a-b c = sym (unlike _ _ (λ e. omega (arith, ap length e)))

pub loop-i-init : goal.loop-i-init
loop-i-init c = (search rules, below_none _)

pub returns-then-a-i : goal.returns-then-a-i
returns-then-a-i c = sym (unlike _ _ (λ e. c.if-a-i.true (cc e)))

pub loop-i-preserved : goal.loop-i-preserved
loop-i-preserved c =
    let l = c.loop-i in
    (l.invariant.0, below_more _ l.i l.invariant.1 c.if-a-i.false)

pub returns : goal.returns
returns c =
    let l = c.loop-i in
    let a = c.args in
    let e : a.a.now ≡ a.b.now = ext_get_or 0 _ _ l.invariant.0 (λ k h. l.invariant.1 k (omega arith)) in
    rw (← e) (sym (same_self a.a.now))
