-- `codepage::front_of` meets its contract: the first byte says how many bytes a sequence has, or that none with a byte stands there.
use Rattle.std.proofs.Common.{◌<◌, sym, ap, ◌∙◌, inl, inr, arith, get_or, drop}
use Rattle.codepage.specs.Names.{front_of}
use Rattle.codepage.proofs.Bits.{one_byte}
use Rattle.codepage.proofs.Bytes.{none_there, one_there}
use Rattle.codepage.proofs.Points.{low_same, own_byte}
use Rattle.codepage.proofs.Fronts.{front_empty, front_of_law, nothing_first}
use Rattle.codepage.proofs.front_of.Goals as goal

pub returns-in_default : goal.returns-in_default
returns-in_default c = rw (none_there c.args.text.now c.in_default.len_below) (sym front_empty)

pub returns-in-0-to-127 : goal.returns-in-0-to-127
returns-in-0-to-127 c =
    let text = c.args.text.now in
    let first = get_or text 0 0 in
    let low : first < 0x80 = omega arith in
    let front = rw (one_byte first low) at (front_of_law first (drop 1 text) (inl (omega arith))) in
    let byte = own_byte first (omega arith) (low_same first low) in
    sym (ap front_of (one_there text c.in-len1-up.len_at_least) ∙ front ∙ rw byte)

pub returns-in_default-first : goal.returns-in_default-first
returns-in_default-first c =
    let text = c.args.text.now in
    rw (one_there text c.in-len1-up.len_at_least) (sym (nothing_first (get_or text 0 0) (drop 1 text) (omega arith) (inl (omega arith))))

pub returns-in_default-first-2 : goal.returns-in_default-first-2
returns-in_default-first-2 c =
    let text = c.args.text.now in
    rw (one_there text c.in-len1-up.len_at_least) (sym (nothing_first (get_or text 0 0) (drop 1 text) (omega arith) (inr (omega arith))))
