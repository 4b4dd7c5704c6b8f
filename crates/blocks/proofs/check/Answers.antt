use mathlib.Core.Path.{◌≡◌, refl, sym, ap, ◌∙◌}
use mathlib.Core.List.{List, []}
use lib.ListN.{length, drop}
use Prim.Native.Nat.{ℕ, ◌+◌, ◌-◌, ◌*◌, ◌/◌, ◌≤◌, ◌<◌}
use native.Mathlib.Omega.{arith}
use Rattle.std.proofs.Common.{zero-add}
use Rattle.std.specs.Simd.{first_chunks}
use Rattle.blocks.specs.Block.{BLOCK, check_in}
use Rattle.blocks.specs.Check.{WORD_MAX, cleared}
use Rattle.blocks.proofs.Words.{total, total_word, total_end}
use Rattle.blocks.proofs.Checks.{brought_twice, total_cleared, check_is}
use Rattle.blocks.proofs.check.Goals as goal

-- what is counted
counted_in : (block : List ℕ) (i n sum word : ℕ) → length block ≡ BLOCK → n ≡ length block / 2 → i ≤ n → n ≤ i → sum ≤ WORD_MAX * i
    → sum + total (drop (2 * i) block) ≡ total block → word ≡ check_in block
    → (sum ≡ total (cleared block) + word) × (total (cleared block) ≤ 256 * WORD_MAX)
unfolding check_in
counted_in block i n sum word long all le end few left is =
    let none = total_end block (2 * i) (omega arith) in
    let less = total_cleared block (omega arith) in
    let counted : sum ≡ total (cleared block) + word = omega (arith, none, less, left, is) in
    (counted, omega (arith, counted))

pub loop-word-init : goal.loop-word-init
loop-word-init c = (omega arith, zero-add (total c.args.block.now))

pub overflow_add-sum : goal.overflow_add-sum
overflow_add-sum c = record { fits = omega (arith, c.as_chunks.ensures.front_len, c.told-block) }

pub loop-word-preserved : goal.loop-word-preserved
loop-word-preserved c =
    let l = c.loop-word in
    let block = c.args.block.now in
    let words = c.as_chunks.result.0.now in
    let k = length block / 2 in
    let front : words ≡ first_chunks 2 k block = c.as_chunks.ensures.front in
    let below : l.word-index < k = omega (arith, c.as_chunks.ensures.front_len) in
    let next = total_word block words [] l.word-index k front below (omega arith) in
    (omega arith, omega (arith, next, c.from_le_bytes.ensures, l.invariant.1))

pub overflow_sub-counted : goal.overflow_sub-counted
overflow_sub-counted c =
    let l = c.loop-word in
    let counted =
    counted_in c.args.block.now l.word-index (length c.as_chunks.result.0.now) l.sum c.from.result c.told-block c.as_chunks.ensures.front_len
    l.auto.word-index-end (omega arith) l.invariant.0 l.invariant.1 (c.from.ensures ∙ c.check_in.ensures) in
    omega (arith, counted.0)

pub overflow_sub-result : goal.overflow_sub-result
overflow_sub-result c =
    let l = c.loop-word in
    let counted =
    counted_in c.args.block.now l.word-index (length c.as_chunks.result.0.now) l.sum c.from.result c.told-block c.as_chunks.ensures.front_len
    l.auto.word-index-end (omega arith) l.invariant.0 l.invariant.1 (c.from.ensures ∙ c.check_in.ensures) in
    omega (arith, counted.0, counted.1)

pub returns : goal.returns
returns c =
    let l = c.loop-word in
    let block = c.args.block.now in
    let counted =
    counted_in block l.word-index (length c.as_chunks.result.0.now) l.sum c.from.result c.told-block c.as_chunks.ensures.front_len
    l.auto.word-index-end (omega arith) l.invariant.0 l.invariant.1 (c.from.ensures ∙ c.check_in.ensures) in
    let count : l.sum - c.from.result ≡ total (cleared block) = omega (arith, counted.0) in
    let round = brought_twice (total (cleared block)) _ counted.1 refl in
    rw count (ap (λ (s : ℕ). WORD_MAX - s) round ∙ sym (check_is block c.fits-block))
