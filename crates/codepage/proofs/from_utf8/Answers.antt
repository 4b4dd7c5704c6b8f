-- `codepage::from_utf8` meets its contract: the guards are its two refusals in their order, and then the result is written.
use Rattle.std.proofs.Common.{rules, ◌≡◌, ◌∙◌, sym, ap, arith, length}
use Rattle.std.specs.Prelude.{Err, ok_or}
use Rattle.paper.specs.declared.Refusal.TheVariants.{NoPartner}
use borrow.Author.Tests.{le-ltb}
use Rattle.codepage.specs.Names.{name_of, result_of}
use Rattle.codepage.proofs.Answers.{no_partner, no_room, written, no_size, has_size}
use Rattle.codepage.proofs.from_utf8.Goals as goal

pub returns-in_err-n : goal.returns-in_err-n
returns-in_err-n c =
    let a = c.args in
    let none = sym c.in_err-n.ensures.ok_part ∙ c.name_len.ensures in
    let both = no_partner (name_of a.text.now) a.out.now (no_size (name_of a.text.now) none) in
    let given : c.from_residual.result ≡ Err c.in_err-n.field-0.0 = search rules in
    record { value = given ∙ c.in_err-n.ensures.value ∙ ap (λ o. ok_or o NoPartner) c.in_err-n.ensures.ok_part ∙ both.0; out_after = both.1 }

pub returns-then-out-n : goal.returns-then-out-n
returns-then-out-n c =
    let a = c.args in
    let name = name_of a.text.now in
    let sized = has_size name c.in_ok-n.n (sym c.in_ok-n.ensures.ok_part ∙ c.name_len.ensures) in
    let both = no_room name a.out.now sized.0 (omega (arith, sized.1)) in
    record { value = both.0; out_after = both.1 }

pub write_name-requires : goal.write_name-requires
write_name-requires c =
    let a = c.args in
    let name = name_of a.text.now in
    let sized = has_size name c.in_ok-n.n (sym c.in_ok-n.ensures.ok_part ∙ c.name_len.ensures) in
    record { text_value = sized.0; out_value = le-ltb (length a.out.now) (length (result_of name)) (omega (arith, sized.1)) }

pub returns : goal.returns
returns c =
    let a = c.args in
    let name = name_of a.text.now in
    let sized = has_size name c.in_ok-n.n (sym c.in_ok-n.ensures.ok_part ∙ c.name_len.ensures) in
    let both = written name a.out.now _ _ sized.0 (omega (arith, sized.1)) sized.1 c.write_name.ensures in
    record { value = both.0; out_after = both.1 }
