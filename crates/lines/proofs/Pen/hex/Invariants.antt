-- `Pen::hex` meets its contract: the digits of the bytes so far are laid.
use Rattle.std.proofs.Common.{◌*◌, take}
use Rattle.lines.specs.Hex.{hex_of}
use Rattle.lines.specs.Pen.{Lays}
use Rattle.lines.proofs.Pen.hex.Given as goal

abbrev pub invariant-loop-byte : goal.invariant-loop-byte
invariant-loop-byte l = Lays l.initial.self l.self (hex_of (take l.byte-index l.bytes)) (2 * l.byte-index)
