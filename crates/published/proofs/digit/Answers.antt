-- `published::digit` meets its contract: the library reads the same digits.
use Rattle.published.proofs.Numbers.{read_digit}
use Rattle.published.proofs.digit.Goals as goal

pub returns-clause-value : goal.returns-clause-value
returns-clause-value c = read_digit c.args.c c.to_digit.result (rw c.from.ensures at c.to_digit.ensures.value)
