-- `blocks::lay_head` meets its contract: the three words are laid one behind the other, and then the check of what the block is.
use mathlib.Core.Path.{◌≡◌, sym, ap, ◌∙◌}
use mathlib.Core.List.{List, ◌++◌}
use Prim.Native.Nat.{ℕ}
use lib.ListN.{length, length-append}
use Rattle.lists.specs.Bytes.{laid}
use Rattle.lists.proofs.Laid.{laid_next}
use Rattle.numbers.specs.Numbers.{bytes_of}
use Rattle.numbers.proofs.Widths.{length_bytes_of}
use Rattle.blocks.specs.Check.{CHECK_AT, check_of}
use Rattle.blocks.specs.Block.{head_of}
use Rattle.blocks.specs.Sealed.{headed}
use Rattle.blocks.proofs.Words.{bytes_word}
use Rattle.blocks.proofs.lay_head.Goals as goal

pub returns : goal.returns
unfolding headed head_of
returns c =
    let a = c.args in
    let block = a.block.now in
    let n = bytes_of 2 a.number in
    let u = bytes_of 2 a.used in
    let p = bytes_of 2 a.place in
    let four : length (n ++ u) ≡ 4 = simp (length-append, length_bytes_of) in
    let one = c.copy_at.ensures ∙ ap (laid block 0) (c.to_le_bytes.ensures ∙ sym (bytes_word a.number)) in
    let two = laid_next block c.copy_at.new.part c.copy_at-2.new.part n u 2 (sym (length_bytes_of 2 a.number))
    one (c.copy_at-2.ensures ∙ ap (laid c.copy_at.new.part 2) (c.to_le_bytes-2.ensures ∙ sym (bytes_word a.used))) in
    let head = laid_next block c.copy_at-2.new.part c.copy_at-3.new.part (n ++ u) p 4 (sym four) two
    (c.copy_at-3.ensures ∙ ap (laid c.copy_at-2.new.part 4) (c.to_le_bytes-3.ensures ∙ sym (bytes_word a.place))) in
    c.copy_at-4.ensures
    ∙ ap (laid c.copy_at-3.new.part CHECK_AT) (c.to_le_bytes-4.ensures ∙ sym (bytes_word c.check-sum.result))
    ∙ ap (λ (v : ℕ). laid c.copy_at-3.new.part CHECK_AT (bytes_of 2 v)) c.check-sum.ensures
    ∙ ap (λ (l : List ℕ). laid l CHECK_AT (bytes_of 2 (check_of l))) head
