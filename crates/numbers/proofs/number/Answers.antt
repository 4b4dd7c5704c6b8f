use mathlib.Core.Path.{◌≡◌, refl, sym, ◌∙◌}
use Prim.Native.Nat.{suc, ◌-◌, ◌≤◌}
use lib.ListN.{length, get_or}
use borrow.Author.Rules.{rules}
use Rattle.numbers.specs.Numbers.{little, value_of, value_at}
use Rattle.numbers.proofs.Widths.{value_room, value_whole, value_past, value_turn}
use native.Mathlib.Omega.{arith}
use Rattle.numbers.proofs.number.Goals as goal

pub loop-at-init : goal.loop-at-init
unfolding value_at value_of little
loop-at-init c = refl

pub overflow_mul-value : goal.overflow_mul-value
overflow_mul-value c =
    let room = value_room c.args.bytes.now c.loop-at.at (omega arith) (λ i. (c.type_inv.bytes i).fits) in
    record { fits = omega (arith, room, c.loop-at.invariant) }

pub overflow_add-value : goal.overflow_add-value
overflow_add-value c =
    let bytes = c.args.bytes.now in
    let room = value_room bytes c.loop-at.at (omega arith) (λ i. (c.type_inv.bytes i).fits) in
    let here : c.in-Some.field-0.now ≡ get_or bytes (c.loop-at.at - 1) 0 = search rules in
    record { fits = omega (arith, room, c.loop-at.invariant, here, (c.type_inv.bytes (c.loop-at.at - 1)).fits) }

pub loop-at-preserved-in-Some : goal.loop-at-preserved-in-Some
loop-at-preserved-in-Some c =
    let l = c.loop-at in
    let bytes = c.args.bytes.now in
    let more : 4 - (l.at - 1) ≡ suc (4 - l.at) = omega arith in
    let taken = value_turn bytes l.at (4 - l.at) (omega arith) (omega arith) in
    let here : c.in-Some.field-0.now ≡ get_or bytes (l.at - 1) 0 = search rules in
    rw more (omega (arith, taken, l.invariant, here))

pub loop-at-preserved : goal.loop-at-preserved
loop-at-preserved c =
    let l = c.loop-at in
    let bytes = c.args.bytes.now in
    let past : length bytes ≤ l.at - 1 = search rules in
    l.invariant ∙ value_past bytes l.at (4 - l.at) (omega arith) ∙ sym (value_past bytes (l.at - 1) (4 - (l.at - 1)) past)

pub returns : goal.returns
returns c =
    let l = c.loop-at in
    let all : l.at ≡ 0 = omega arith in
    rw (l.invariant, all) (value_whole c.args.bytes.now)
