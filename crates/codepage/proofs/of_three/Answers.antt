-- `codepage::of_three` meets its contract: two tails must stand behind the first byte, and the three hold the code point unless it is too
-- small for them.
use Rattle.std.proofs.Common.{sym, ◌∙◌, arith, get_or, drop}
use Rattle.codepage.proofs.Bytes.{two_there}
use Rattle.codepage.proofs.Fronts.{three_short, second_untailed, third_untailed, three_over, three_front}
use Rattle.codepage.proofs.of_three.Goals.{then-not-is_tail-via-then-not-is_tail, then-not-is_tail-via-else-not-is_tail+then-not-is_tail-2}
use Rattle.codepage.proofs.of_three.Goals as goal

pub returns-in_default : goal.returns-in_default
returns-in_default c = sym (three_short c.args.first c.requires.0 c.requires.1 c.args.rest.now c.in_default.len_below)

pub returns-then-not-is_tail : goal.returns-then-not-is_tail
returns-then-not-is_tail c =
    let rest = c.args.rest.now in
    let a = c.args.first in
    rw (two_there rest (omega arith))
    (elim c.then-not-is_tail.branch [
      | then-not-is_tail-via-then-not-is_tail w ↦
          sym (second_untailed a c.requires.0 c.requires.1 (get_or rest 0 0) (get_or rest 1 0) (drop 2 rest) (sym c.is_tail.ensures ∙ w.if-not-is_tail.true))
      | then-not-is_tail-via-else-not-is_tail+then-not-is_tail-2 w ↦
          sym (third_untailed a c.requires.0 c.requires.1 (get_or rest 0 0) (get_or rest 1 0) (drop 2 rest) (sym w.is_tail-else-not-is_tail.ensures ∙ w.if-not-is_tail-2.true))
    ])

pub returns-then-held-lt2048 : goal.returns-then-held-lt2048
returns-then-held-lt2048 c =
    let rest = c.args.rest.now in
    rw (two_there rest (omega arith))
    (sym (three_over c.args.first c.requires.0 c.requires.1 (get_or rest 0 0) (get_or rest 1 0) (drop 2 rest) (omega (arith, c.three-held.ensures))))

pub returns-in_err-byte : goal.returns-in_err-byte
returns-in_err-byte c =
    let rest = c.args.rest.now in
    let h = sym c.is_tail.ensures ∙ c.if-not-is_tail.false in
    let g = sym c.is_tail-else-not-is_tail.ensures ∙ c.if-not-is_tail-2.false in
    let front = three_front c.args.first c.requires.0 c.requires.1 (get_or rest 0 0) (get_or rest 1 0) (drop 2 rest) h g (omega (arith, c.three-held.ensures)) in
    let off = sym c.byte_for.ensures ∙ c.in_err-byte.was in
    c.from_residual.ensures ∙ rw (two_there rest (omega arith), front, ← c.three-held.ensures, off)

pub returns : goal.returns
returns c =
    let rest = c.args.rest.now in
    let h = sym c.is_tail.ensures ∙ c.if-not-is_tail.false in
    let g = sym c.is_tail-else-not-is_tail.ensures ∙ c.if-not-is_tail-2.false in
    let front = three_front c.args.first c.requires.0 c.requires.1 (get_or rest 0 0) (get_or rest 1 0) (drop 2 rest) h g (omega (arith, c.three-held.ensures)) in
    let byte = sym c.byte_for.ensures ∙ c.in_ok-byte.was in
    rw (two_there rest (omega arith), front, ← c.three-held.ensures, byte)
