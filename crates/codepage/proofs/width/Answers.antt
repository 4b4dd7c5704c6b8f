-- `codepage::width` meets its contract: the sequence is that of the code point's size.
use mathlib.Core.Path.{sym, ap}
use lib.ListN.{length}
use borrow.Author.Rules.{rules}
use Rattle.codepage.proofs.Bits.{one_byte, two_bytes, three_bytes}
use Rattle.codepage.proofs.width.Goals as goal

pub returns-then-point-lt128 : goal.returns-then-point-lt128
returns-then-point-lt128 c = sym (ap length (one_byte c.args.point c.if-point-lt128.true))

pub returns-then-point-lt2048 : goal.returns-then-point-lt2048
returns-then-point-lt2048 c = sym (ap length (two_bytes c.args.point c.if-point-lt128.false c.if-point-lt2048.true))

pub returns : goal.returns
returns c = sym (ap length (three_bytes c.args.point c.if-point-lt2048.false (search rules)))
