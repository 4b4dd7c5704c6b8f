-- What makes a block bad, test by test, in whatever order the tests are made.
-- Assumes nothing.
use mathlib.Core.Path.{◌≡◌, sym}
use mathlib.Core.Bool.{Bool, true, false, ◌&&◌}
use Prim.Native.Nat.{ℕ, ◌+◌, ◌-◌, ◌≤◌}
use native.Mathlib.Omega.{arith}
use mathlib.Core.List.{List}
use borrow.Author.Tests.{eq-eqb, ne_eqb, leb-true, eqb-true}
use lib.Dec.{eqb}
use lib.ListN.{length, take, drop}
use Rattle.lists.proofs.Cases.{and_false, both}
use Rattle.lists.proofs.Laid.{to_end}
use Rattle.blocks.specs.Check.{check_of}
use Rattle.blocks.specs.Block.{BLOCK, HEAD, PAYLOAD, number_in, used_in, place_in, check_in, may_use, may_begin, all_zero, is_good}

module _ (last : Bool) (number : ℕ) (block : List ℕ) where
  pub bad_length : (length block ≡ BLOCK → ⊥) → is_good last number block ≡ false
  unfolding is_good
  bad_length h = simp (ne_eqb (length block) BLOCK h)

  pub bad_number : (number_in block ≡ number → ⊥) → is_good last number block ≡ false
  unfolding is_good
  bad_number h = simp (ne_eqb (number_in block) number h, and_false)

  pub bad_used : may_use last (used_in block) ≡ false → is_good last number block ≡ false
  unfolding is_good
  bad_used h = simp (h, and_false)

  pub bad_place : may_begin (used_in block) (place_in block) ≡ false → is_good last number block ≡ false
  unfolding is_good
  bad_place h = simp (h, and_false)

  pub bad_check : (check_in block ≡ check_of block → ⊥) → is_good last number block ≡ false
  unfolding is_good
  bad_check h = simp (ne_eqb (check_in block) (check_of block) h, and_false)

  -- where nothing else does, it rests with the unused bytes
  pub rests : length block ≡ BLOCK → number_in block ≡ number → may_use last (used_in block) ≡ true
      → may_begin (used_in block) (place_in block) ≡ true → check_in block ≡ check_of block
      → is_good last number block ≡ all_zero (drop (HEAD + used_in block) block)
  unfolding is_good
  rests size which used place sum =
      rw (eq-eqb (length block) BLOCK size, eq-eqb (check_in block) (check_of block) sum, eq-eqb (number_in block) number which, used, place)

  -- and these are looked at from their place on
  pub rests_from : (end : ℕ) → length block ≡ BLOCK → number_in block ≡ number → may_use last (used_in block) ≡ true
      → may_begin (used_in block) (place_in block) ≡ true → check_in block ≡ check_of block → end ≡ HEAD + used_in block
      → all_zero (take (BLOCK - end) (drop end block)) ≡ is_good last number block
  rests_from end size which used place sum at =
      rw at (rw (← size, to_end block (HEAD + used_in block)) (sym (rests size which used place sum)))

  -- what a good block says
  pub good_says : is_good last number block ≡ true
      → (length block ≡ BLOCK) × (check_in block ≡ check_of block) × (number_in block ≡ number) × (may_use last (used_in block) ≡ true)
      × (may_begin (used_in block) (place_in block) ≡ true) × (all_zero (drop (HEAD + used_in block) block) ≡ true)
  unfolding is_good
  good_says h =
      let size = eqb (length block) BLOCK in
      let sum = eqb (check_in block) (check_of block) in
      let which = eqb (number_in block) number in
      let full = may_use last (used_in block) in
      let begin = may_begin (used_in block) (place_in block) in
      let five = both (size && sum && which && full && begin) (all_zero (drop (HEAD + used_in block) block)) h in
      let four = both (size && sum && which && full) begin five.0 in
      let three = both (size && sum && which) full four.0 in
      let two = both (size && sum) which three.0 in
      let one = both size sum two.0 in (
        eqb-true (length block) BLOCK one.0,
        eqb-true (check_in block) (check_of block) one.1,
        eqb-true (number_in block) number two.1,
        three.1,
        four.1,
        five.1,
      )

-- no more is used than there is
pub uses_le : (last : Bool) (used : ℕ) → may_use last used ≡ true → used ≤ PAYLOAD
unfolding may_use
uses_le true used h = leb-true used PAYLOAD h
uses_le false used h = omega (arith, eqb-true used PAYLOAD h)
