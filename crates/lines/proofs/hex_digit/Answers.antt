-- `lines::hex_digit` meets its contract: the test is the definition's.
use Rattle.lists.proofs.Cases.{tests}
use Rattle.lines.specs.Hex.{hex_digit}
use Rattle.lines.proofs.hex_digit.Goals as goal

pub returns-then-d-lt10 : goal.returns-then-d-lt10
unfolding hex_digit
returns-then-d-lt10 c = let low = c.if-d-lt10.true in simp tests

pub returns-else-d-lt10 : goal.returns-else-d-lt10
unfolding hex_digit
returns-else-d-lt10 c = let high = c.if-d-lt10.false in simp tests
