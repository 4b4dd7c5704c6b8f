-- `blocks::check` meets its contract. What is summed and the words that are still to come make the total of all words; the total
-- less the check's own word is that of the block with the check field as 0, and its carries are brought round.
use Rattle.std.proofs.Common.{◌≡◌, ◌+◌, ◌*◌, ◌≤◌, drop}
use Rattle.blocks.specs.Check.{WORD_MAX}
use Rattle.blocks.proofs.Words.{total}
use Rattle.blocks.proofs.check.Given as goal

abbrev pub invariant-loop-word : goal.invariant-loop-word
invariant-loop-word l =
    (l.sum ≤ WORD_MAX * l.word-index) × (l.sum + total (drop (2 * l.word-index) l.fn.block) ≡ total l.fn.block)
