-- `lines::field` meets its contract: the scratch from the field's start on is the field.
use Rattle.std.proofs.Common.{◌≡◌, ◌-◌, ◌∙◌, length, take, drop, arith, rules, length-take}
use Rattle.std.proofs.lemmas.Fmt.{length-decimal-le}
use Rattle.lists.proofs.Laid.{to_end}
use Rattle.lines.specs.Decimal.{field}
use Rattle.lines.proofs.Decimal.{decimal_std}
use Rattle.lines.proofs.field.Goals as goal

pub write_digits-start-requires : goal.write_digits-start-requires
write_digits-start-requires c = search (rules, length-decimal-le 20)

pub returns : goal.returns
unfolding field
returns c =
    let did = c.write_digits-start in
    let long : length did.new.buf ≡ 21 = omega arith in
    let spelt : take (21 - did.result) (drop did.result did.new.buf) ≡ field c.args.n c.args.end =
    rw long at (to_end did.new.buf did.result) ∙ rw (← decimal_std c.args.n (omega arith)) did.ensures.written in
    let told = rw spelt at c.text.ensures in
    record { value = (told.value, omega (arith, c.text.ensures.value, length-take (21 - did.result) (drop did.result did.new.buf))); out_after = told.out_after }
