-- `codepage::of_two` meets its contract: a byte must stand behind the first and be a tail; then the two hold the code point.
use Rattle.std.proofs.Common.{sym, ◌∙◌, arith, get_or, drop}
use Rattle.codepage.proofs.Bytes.{none_there, one_there}
use Rattle.codepage.proofs.Fronts.{two_short, two_untailed, two_front}
use Rattle.codepage.proofs.of_two.Goals as goal

pub returns-in_default : goal.returns-in_default
returns-in_default c = rw (none_there c.args.rest.now c.in_default.len_below) (sym (two_short c.args.first c.requires.0 c.requires.1))

pub returns-then-not-is_tail : goal.returns-then-not-is_tail
returns-then-not-is_tail c =
    let rest = c.args.rest.now in
    let off = sym c.is_tail.ensures ∙ c.if-not-is_tail.true in
    rw (one_there rest (omega arith)) (sym (two_untailed c.args.first c.requires.0 c.requires.1 (get_or rest 0 0) (drop 1 rest) off))

pub returns-in_err-byte : goal.returns-in_err-byte
returns-in_err-byte c =
    let rest = c.args.rest.now in
    let is = sym c.is_tail.ensures ∙ c.if-not-is_tail.false in
    let front = two_front c.args.first c.requires.0 c.requires.1 (get_or rest 0 0) (drop 1 rest) is in
    let off = sym c.byte_for.ensures ∙ c.in_err-byte.was in
    c.from_residual.ensures ∙ rw (one_there rest (omega arith), front, ← c.two.ensures, off)

pub returns : goal.returns
returns c =
    let rest = c.args.rest.now in
    let is = sym c.is_tail.ensures ∙ c.if-not-is_tail.false in
    let front = two_front c.args.first c.requires.0 c.requires.1 (get_or rest 0 0) (drop 1 rest) is in
    let byte = sym c.byte_for.ensures ∙ c.in_ok-byte.was in
    rw (one_there rest (omega arith), front, ← c.two.ensures, byte)
