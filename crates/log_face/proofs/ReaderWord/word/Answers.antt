-- `Reader::word` meets its contract: it is the definition.
use mathlib.Core.Path.{refl}
use native.Mathlib.Omega.{arith}
use Rattle.log_face.specs.Words.{read_word}
use Rattle.log_face.proofs.Numbers.{bit_is, bit_below}
use Rattle.log_face.proofs.ReaderWord.word.Goals as goal

pub returns : goal.returns
unfolding read_word
returns c = (
  rw (← (bit_is c.args.self.within), ← c.from.ensures, ← c.end_word.ensures.0) refl,
  omega (arith, c.from.ensures, bit_below c.args.self.within, c.end_word.ensures.1),
)

pub overflow_mul-result : goal.overflow_mul-result
overflow_mul-result c = omega (arith, c.from.ensures, bit_below c.args.self.within, c.end_word.ensures.1)

pub overflow_add-result : goal.overflow_add-result
overflow_add-result c = omega (arith, c.from.ensures, bit_below c.args.self.within, c.end_word.ensures.1)

pub overflow_mul-result-2 : goal.overflow_mul-result-2
overflow_mul-result-2 c = omega (arith, c.from.ensures, bit_below c.args.self.within, c.end_word.ensures.1)

pub overflow_add-result-2 : goal.overflow_add-result-2
overflow_add-result-2 c = omega (arith, c.from.ensures, bit_below c.args.self.within, c.end_word.ensures.1)

pub overflow_mul-result-3 : goal.overflow_mul-result-3
overflow_mul-result-3 c = omega (arith, c.from.ensures, bit_below c.args.self.within, c.end_word.ensures.1)

pub overflow_add-result-3 : goal.overflow_add-result-3
overflow_add-result-3 c = omega (arith, c.from.ensures, bit_below c.args.self.within, c.end_word.ensures.1)
