-- `codepage::to_utf8` meets its contract: the guards are its two refusals in their order, and then the result is written.
use Rattle.std.proofs.Common.{rules, ◌≡◌, ◌∙◌, sym, ap, arith, length}
use Rattle.std.specs.Prelude.{Err, ok_or}
use Rattle.paper.specs.declared.Refusal.TheVariants.{NoRoom}
use borrow.Author.Tests.{le-ltb}
use Rattle.codepage.specs.Names.{utf8_of}
use Rattle.codepage.proofs.Answers.{no_partner, no_room, written, too_short, room_left}
use Rattle.codepage.proofs.Names.{all_points}
use Rattle.codepage.proofs.to_utf8.Goals as goal

pub returns-then-not-has_points : goal.returns-then-not-has_points
returns-then-not-has_points c =
    let a = c.args in
    let name = a.name.now in
    let both = no_partner (utf8_of name) a.out.now (sym (all_points name) ∙ sym c.has_points.ensures ∙ c.if-not-has_points.true) in
    record { value = both.0; out_after = both.1 }

pub room_after-requires : goal.room_after-requires
room_after-requires c = sym (all_points c.args.name.now) ∙ sym c.has_points.ensures ∙ c.if-not-has_points.false

pub returns-in_err-left : goal.returns-in_err-left
returns-in_err-left c =
    let a = c.args in
    let name = utf8_of a.name.now in
    let has = sym (all_points a.name.now) ∙ sym c.has_points.ensures ∙ c.if-not-has_points.false in
    let none = sym c.in_err-left.ensures.ok_part ∙ c.room_after.ensures in
    let both = no_room name a.out.now has (too_short name (length a.out.now) has none) in
    let given : c.from_residual.result ≡ Err c.in_err-left.field-0.0 = search rules in
    record { value = given ∙ c.in_err-left.ensures.value ∙ ap (λ o. ok_or o NoRoom) c.in_err-left.ensures.ok_part ∙ both.0; out_after = both.1 }

pub write_utf8-requires : goal.write_utf8-requires
write_utf8-requires c =
    let fits = room_left (utf8_of c.args.name.now) (length c.args.out.now) c.in_ok-left.left (sym c.in_ok-left.ensures.ok_part ∙ c.room_after.ensures) in
    record { name_value = sym (all_points c.args.name.now) ∙ sym c.has_points.ensures ∙ c.if-not-has_points.false; out_value = le-ltb _ _ fits.0 }

pub overflow_sub-result : goal.overflow_sub-result
overflow_sub-result c =
    let fits = room_left (utf8_of c.args.name.now) (length c.args.out.now) c.in_ok-left.left (sym c.in_ok-left.ensures.ok_part ∙ c.room_after.ensures) in
    omega (arith, fits, c.write_utf8.auto.out)

pub returns : goal.returns
returns c =
    let a = c.args in
    let name = utf8_of a.name.now in
    let has = sym (all_points a.name.now) ∙ sym c.has_points.ensures ∙ c.if-not-has_points.false in
    let fits = room_left name (length a.out.now) c.in_ok-left.left (sym c.in_ok-left.ensures.ok_part ∙ c.room_after.ensures) in
    let both = written name a.out.now _ _ has fits.0 (omega (arith, fits, c.write_utf8.auto.out)) c.write_utf8.ensures in
    record { value = both.0; out_after = both.1 }
