-- `linklog::take_back` meets its contract: the room is judged, and then its first block is made anew.
use mathlib.Core.Path.{sym, ◌∙◌}
use native.Mathlib.Omega.{arith}
use Rattle.linklog.proofs.Taking.{shorten_says, back_empty, back_not, back_done}
use Rattle.linklog.proofs.take_back.Goals as goal

pub returns-then-end-eq0 : goal.returns-then-end-eq0
returns-then-end-eq0 c = let both = back_empty _ _ c.if-end-eq0.true in record { value = both.0; room_after = both.1 }

pub returns-then-not-may_shorten : goal.returns-then-not-may_shorten
returns-then-not-may_shorten c = let both = back_not _ _ c.if-end-eq0.false (sym c.may_shorten.ensures.0 ∙ c.if-not-may_shorten.true) in record { value = both.0; room_after = both.1 }

pub shorten-requires : goal.shorten-requires
shorten-requires c =
    let a = c.args in
    let yes = c.if-not-may_shorten.false in
    let says = shorten_says a.end a.room.now (sym c.may_shorten.ensures.0 ∙ yes) in
    (says.0, (omega (arith, c.may_shorten.ensures.1 yes, c.if-end-eq0.false), says.1))

pub returns : goal.returns
returns c =
    let done = back_done _ _ c.if-end-eq0.false
    (sym c.may_shorten.ensures.0 ∙ c.if-not-may_shorten.false) in
    record { value = done.0; room_after = c.shorten.ensures ∙ done.1 }

pub overflow_sub-end : goal.overflow_sub-end
overflow_sub-end c = omega (arith, c.if-end-eq0.false)
