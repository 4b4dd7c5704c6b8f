-- What the check finds: a good block with any one byte changed is bad, and so is one with any one word changed, unless it was changed
-- from all bits off to all bits on or back.
-- Assumes nothing.
use mathlib.Core.Path.{◌≡◌, refl, sym, ap, ◌∙◌}
use mathlib.Core.Bool.{Bool, true, false}
use mathlib.Core.Logic.{◌⊎◌, inl, inr, ⊎_elim}
use mathlib.Core.List.{List}
use Prim.Native.Nat.{ℕ, suc, ◌+◌, ◌-◌, ◌*◌, ◌/◌, ◌≤◌, ◌<◌}
use native.Mathlib.Omega.{arith}
use borrow.Author.Tests.{eqb-true, eqb-false}
use lib.Dec.{eqb}
use lib.ListN.{length, get_or, set, length-set}
use lib.Seq.{set-get_or, get_or-set_other}
use Rattle.lists.proofs.Cases.{lt_or_le}
use Rattle.numbers.specs.Numbers.{Bytes, value_at}
use Rattle.blocks.specs.Check.{WORD_MAX, cleared}
use Rattle.blocks.specs.Block.{BLOCK, check_in, is_good}
use Rattle.blocks.proofs.Bytes.{bytes_set}
use Rattle.blocks.proofs.Words.{word_is, total, total_set, word_set, word_other}
use Rattle.blocks.proofs.Checks.{wrapped, wrapped_le, wrapped_apart, total_cleared, check_is}
use Rattle.blocks.proofs.Judged.{bad_check, good_says}

-- a block with another word in a word's place
abbrev pub with_word : List ℕ → ℕ → ℕ → ℕ → List ℕ
with_word block k low high = set (set block (k + k) low) (suc (k + k)) high

-- the sums of two blocks with one check are a whole round apart, or none
one_check : (s t : ℕ) → WORD_MAX - wrapped s ≡ WORD_MAX - wrapped t → s < t + WORD_MAX → t < s + WORD_MAX → s ≡ t
one_check s t e a b =
    let w : wrapped s ≡ wrapped t = omega (arith, wrapped_le s, wrapped_le t) in
    ⊎_elim
    (λ (h : s < t). absurd (wrapped_apart s t h b w))
    (λ (h : t ≤ s).
    ⊎_elim (λ (k : t < s). absurd (wrapped_apart t s k a (sym w))) (λ (k : s ≤ t). omega arith) (lt_or_le t s))
    (lt_or_le s t)

-- the one change of a word that makes a whole round
less_than_round : (a b : ℕ) → b ≤ WORD_MAX → (a ≡ 0 → b ≡ WORD_MAX → ⊥) → b < a + WORD_MAX
less_than_round a b h o = ⊎_elim (λ (k : b < a + WORD_MAX). k) (λ (k : a + WORD_MAX ≤ b). absurd (o (omega arith) (omega arith))) (lt_or_le b (a + WORD_MAX))

is_or_not : (a b : ℕ) → (a ≡ b) ⊎ (a ≡ b → ⊥)
is_or_not a b = go (eqb a b) refl
  where
    go : (t : Bool) → eqb a b ≡ t → (a ≡ b) ⊎ (a ≡ b → ⊥)
    go true e = inl (eqb-true a b e)
    go false e = inr (eqb-false a b e)

pub word_finds : (last : Bool) (number : ℕ) (block : List ℕ) (k low high : ℕ) → is_good last number block ≡ true → Bytes block
    → k < 256 → low < 256 → high < 256
    → (low + 256 * high ≡ value_at block (k + k) 2 → ⊥)
    → (value_at block (k + k) 2 ≡ 0 → low + 256 * high ≡ WORD_MAX → ⊥)
    → (value_at block (k + k) 2 ≡ WORD_MAX → low + 256 * high ≡ 0 → ⊥)
    → is_good last number (with_word block k low high) ≡ false
unfolding check_in
word_finds last number block k low high good bytes hk hl hh other up down =
    let new = with_word block k low high in
    let says = good_says last number block good in
    let size = says.0 in
    let long : length new ≡ BLOCK = rw (length-set, length-set) size in
    let inside : suc (k + k) < length block = omega arith in
    let all = total_set k block low high inside in
    let words = total_cleared block (omega arith) in
    let words' = total_cleared new (omega (arith, long)) in
    let sum = check_is block bytes in
    let sum' = check_is new (bytes_set (set block (k + k) low) (suc (k + k)) high hh (bytes_set block (k + k) low hl bytes)) in
    let below : value_at block (k + k) 2 ≤ WORD_MAX = omega (arith, word_is block (k + k), bytes (k + k), bytes (suc (k + k))) in
    let rises = less_than_round (value_at block (k + k) 2) (low + 256 * high) (omega arith) up in
    let falls = less_than_round (low + 256 * high) (value_at block (k + k) 2) below (λ p q. down q p) in
    bad_check last number new
    (λ e.
    ⊎_elim
    (λ (three : k ≡ 3).
    let six : k + k ≡ 6 = omega arith in
    let was : value_at block (k + k) 2 ≡ value_at block 6 2 = ap (λ (at : ℕ). value_at block at 2) six in
    let is : low + 256 * high ≡ value_at new 6 2 = sym (word_set block (k + k) low high inside) ∙ ap (λ (at : ℕ). value_at new at 2) six in
    let rest : total (cleared new) ≡ total (cleared block) = omega (arith, all, words, words', was, is) in
    other (is ∙ e ∙ sum' ∙ ap (λ (t : ℕ). WORD_MAX - wrapped t) rest ∙ sym (was ∙ says.1 ∙ sum)))
    (λ (o : k ≡ 3 → ⊥).
    let same : value_at new 6 2 ≡ value_at block 6 2 = word_other block k 3 low high (λ i. o (sym i)) in
    let rounds : WORD_MAX - wrapped (total (cleared new)) ≡ WORD_MAX - wrapped (total (cleared block)) =
    sym sum' ∙ sym e ∙ same ∙ says.1 ∙ sum in
    other (omega (
      arith,
      all,
      words,
      words',
      same,
      one_check (total (cleared new)) (total (cleared block)) rounds
          (omega (arith, all, words, words', same, rises)) (omega (arith, all, words, words', same, falls)),
    )))
    (is_or_not k 3))

-- a byte is one of a word's two, and changing it makes no whole round
module _ (last : Bool) (number : ℕ) (block : List ℕ) (good : is_good last number block ≡ true) (bytes : Bytes block) where
  low_finds : (k x : ℕ) → k < 256 → x < 256 → (x ≡ get_or block (k + k) 0 → ⊥) → is_good last number (set block (k + k) x) ≡ false
  low_finds k x hk hx other =
      let high = get_or block (suc (k + k)) 0 in
      let word = word_is block (k + k) in
      let stays : get_or (set block (k + k) x) (suc (k + k)) 0 ≡ high = get_or-set_other block (k + k) (suc (k + k)) x 0 (λ e. omega arith) in
      let same : with_word block k x high ≡ set block (k + k) x = rw (← stays) (set-get_or (set block (k + k) x) (suc (k + k)) 0) in
      rw same at
      (word_finds last number block k x high good bytes hk hx (bytes (suc (k + k)))
      (λ e. other (omega (arith, word))) (λ e f. omega (arith, word)) (λ e f. omega (arith, word, bytes (k + k))))

  high_finds : (k x : ℕ) → k < 256 → x < 256 → (x ≡ get_or block (suc (k + k)) 0 → ⊥) → is_good last number (set block (suc (k + k)) x) ≡ false
  high_finds k x hk hx other =
      let low = get_or block (k + k) 0 in
      let word = word_is block (k + k) in
      let same : with_word block k low x ≡ set block (suc (k + k)) x = rw set-get_or in
      rw same at
      (word_finds last number block k low x good bytes hk (bytes (k + k)) hx
      (λ e. other (omega (arith, word))) (λ e f. omega (arith, word, bytes (k + k))) (λ e f. omega (arith, word, bytes (k + k))))

  -- any single changed byte is found, the check's own too
  pub check_finds : (i x : ℕ) → i < BLOCK → x < 256 → (x ≡ get_or block i 0 → ⊥) → is_good last number (set block i x) ≡ false
  check_finds i x hi hx other =
      let k = i / 2 in
      ⊎_elim
      (λ (h : k + k < i).
      let odd : suc (k + k) ≡ i = omega arith in
      rw odd at (high_finds k x (omega arith) hx (λ e. other (e ∙ ap (λ (j : ℕ). get_or block j 0) odd))))
      (λ (h : i ≤ k + k).
      let even : k + k ≡ i = omega arith in
      rw even at (low_finds k x (omega arith) hx (λ e. other (e ∙ ap (λ (j : ℕ). get_or block j 0) even))))
      (lt_or_le (k + k) i)
