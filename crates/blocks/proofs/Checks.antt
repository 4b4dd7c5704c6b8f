-- The check by one sum without a carry: the carries may be brought round at the end.
-- Assumes nothing.
use mathlib.Core.Path.{◌≡◌, refl, sym, ap, ◌∙◌}
use mathlib.Core.Bool.{cond}
use mathlib.Core.Logic.{◌⊎◌, inl, inr, ⊎_elim}
use mathlib.Core.List.{List, [], ◌∷◌, ◌++◌, append_assoc}
use Prim.Native.Nat.{ℕ, suc, zero, ◌+◌, ◌-◌, ◌*◌, ◌/◌, ◌%◌, ◌≤◌, ◌<◌}
use native.Mathlib.Omega.{arith}
use borrow.Author.Tests.{lt-ltb, le-ltb, ne_eqb}
use lib.Dec.{eqb, lit≤}
use lib.ListN.{length, take, drop, take-append-drop, length-append}
use lib.Seq.{length-take-le, take_at, drop_at}
use Rattle.lists.specs.Bytes.{zeros}
use Rattle.lists.proofs.Cases.{lt_or_le}
use Rattle.lists.proofs.Laid.{length_zeros}
use Rattle.numbers.specs.Numbers.{Bytes, value_at}
use Rattle.blocks.specs.Check.{WORD_MAX, carried, summed, CHECK_AT, cleared, check_of}
use Rattle.blocks.proofs.Bytes.{bytes_append, bytes_take, bytes_drop, bytes_zeros}
use Rattle.blocks.proofs.Words.{total, total_on, total_append}

-- a sum with its carries brought round: only no sum at all gives 0
unfoldable pub wrapped : ℕ → ℕ
wrapped sum = cond (eqb sum 0) 0 (1 + (sum - 1) % WORD_MAX)

pub wrapped_none : wrapped 0 ≡ 0
unfolding wrapped
wrapped_none = refl

pub wrapped_some : (t : ℕ) → 1 ≤ t → wrapped t ≡ 1 + (t - 1) % WORD_MAX
unfolding wrapped
wrapped_some t h = rw (ne_eqb t 0 (λ e. omega arith))

-- what is no more than a word stays
pub wrapped_word : (t : ℕ) → t ≤ WORD_MAX → wrapped t ≡ t
wrapped_word zero h = wrapped_none
wrapped_word (suc t) h = omega (arith, wrapped_some (suc t) (omega arith))

-- a carry that is brought round
pub wrapped_less : (t k : ℕ) → 1 ≤ t → wrapped (t + WORD_MAX * k) ≡ wrapped t
wrapped_less t k h = omega (arith, wrapped_some t h, wrapped_some (t + WORD_MAX * k) (omega arith))

pub wrapped_le : (t : ℕ) → wrapped t ≤ WORD_MAX
wrapped_le zero = omega (arith, wrapped_none)
wrapped_le (suc t) = omega (arith, wrapped_some (suc t) (omega arith))

-- two sums that are not a whole round apart
pub wrapped_apart : (s t : ℕ) → s < t → t < s + WORD_MAX → wrapped s ≡ wrapped t → ⊥
wrapped_apart zero t h k e = omega (arith, wrapped_none, wrapped_some t h)
wrapped_apart (suc s) t h k e = omega (arith, wrapped_some (suc s) (omega arith), wrapped_some t (omega arith))

-- one word more
carried_is : (a b : ℕ) → (carried a b ≡ a + b) ⊎ ((WORD_MAX < a + b) × (carried a b ≡ a + b - WORD_MAX))
unfolding carried
carried_is a b =
    ⊎_elim
    (λ (h : WORD_MAX < a + b). inr (h, rw (lt-ltb WORD_MAX (a + b) h)))
    (λ (h : a + b ≤ WORD_MAX). inl (rw (le-ltb WORD_MAX (a + b) h)))
    (lt_or_le WORD_MAX (a + b))

carried_le : (a b : ℕ) → a ≤ WORD_MAX → b ≤ WORD_MAX → carried a b ≤ WORD_MAX
unfolding carried
carried_le a b h k =
    ⊎_elim
    (λ (o : WORD_MAX < a + b). rw (lt-ltb WORD_MAX (a + b) o) (omega arith))
    (λ (o : a + b ≤ WORD_MAX). rw (le-ltb WORD_MAX (a + b) o) o)
    (lt_or_le WORD_MAX (a + b))

carried_wrapped : (a b t : ℕ) → wrapped (carried a b + t) ≡ wrapped (a + (b + t))
carried_wrapped a b t =
    ⊎_elim
    (λ (e : carried a b ≡ a + b). ap wrapped (omega arith))
    (λ (o : (WORD_MAX < a + b) × (carried a b ≡ a + b - WORD_MAX)).
    let f : a + (b + t) ≡ carried a b + t + WORD_MAX * 1 = omega (arith, o.0, o.1) in
    rw f (sym (wrapped_less (carried a b + t) 1 (omega (arith, o.0, o.1)))))
    (carried_is a b)

-- the law: summed with each carry brought round at once, or all at the end
pub summed_is : (word : ℕ) (l : List ℕ) → word ≤ WORD_MAX → Bytes l → summed word l ≡ wrapped (word + total l)
unfolding summed total
summed_is word [] h b = let e : word + 0 ≡ word = omega arith in rw e (sym (wrapped_word word h))
summed_is word (low ∷ []) h b =
    let c = carried_le word low h (omega (arith, b 0)) in
    let e : carried word low + 0 ≡ carried word low = omega arith in
    let f : low + 0 ≡ low = omega arith in
    sym (wrapped_word (carried word low) c) ∙ rw (e, f) at (carried_wrapped word low 0)
summed_is word (low ∷ high ∷ l) h b =
    let w : low + 256 * high ≤ WORD_MAX = omega (arith, b 0, b 1) in
    summed_is (carried word (low + 256 * high)) l (carried_le word (low + 256 * high) h w) (λ i. b (suc (suc i)))
    ∙ carried_wrapped word (low + 256 * high) (total l)

-- bringing the carries round takes away nothing but whole rounds
brought : (t : ℕ) → wrapped (t % 65536 + t / 65536) ≡ wrapped t
brought zero = refl
brought (suc t) =
    let e : suc t ≡ suc t % 65536 + suc t / 65536 + WORD_MAX * (suc t / 65536) = omega arith in
    sym (ap wrapped e ∙ wrapped_less (suc t % 65536 + suc t / 65536) (suc t / 65536) (omega arith))

-- twice is enough for a block's words
pub brought_twice : (t once : ℕ) → t ≤ 256 * WORD_MAX → once ≡ t % 65536 + t / 65536 → once % 65536 + once / 65536 ≡ wrapped t
brought_twice t once h e =
    sym (wrapped_word (once % 65536 + once / 65536) (omega arith)) ∙ brought once ∙ ap wrapped e ∙ brought t

-- ---- a block's check

-- the words but that of the check
pub total_cleared : (l : List ℕ) → 8 ≤ length l → total (cleared l) + value_at l CHECK_AT 2 ≡ total l
unfolding cleared zeros total
total_cleared l h =
    let six = length-take-le 6 l (omega arith) in
    let none : length (take 6 l ++ zeros 2) ≡ 4 + 4 = rw (length-append, six) refl in
    let rest : total (drop 6 l) ≡ value_at l 6 2 + total (drop 8 l) = total_on l 6 h in
    let whole : total l ≡ total (take 6 l) + total (drop 6 l) = rw take-append-drop at (total_append 3 (take 6 l) (drop 6 l) six) in
    omega (arith, rest, whole, total_append 4 (take 6 l ++ zeros 2) (drop 8 l) none, total_append 3 (take 6 l) (zeros 2) six)

bytes_cleared : (l : List ℕ) → Bytes l → Bytes (cleared l)
unfolding cleared
bytes_cleared l b =
    bytes_append (take 6 l ++ zeros 2) (drop 8 l) (bytes_append (take 6 l) (zeros 2) (bytes_take 6 l b) (bytes_zeros 2))
    (bytes_drop 8 l b)

pub check_is : (l : List ℕ) → Bytes l → check_of l ≡ WORD_MAX - wrapped (total (cleared l))
unfolding check_of
check_is l b =
    let e : 0 + total (cleared l) ≡ total (cleared l) = omega arith in
    ap (λ (s : ℕ). WORD_MAX - s) (rw e at (summed_is 0 (cleared l) (lit≤ tt) (bytes_cleared l b)))

pub check_le : (l : List ℕ) → check_of l ≤ WORD_MAX
unfolding check_of
check_le l = omega arith

-- whatever stands in the check's place
pub check_parts : (head check body : List ℕ) → length head ≡ 6 → length check ≡ 2
    → check_of (head ++ check ++ body) ≡ check_of (head ++ zeros 2 ++ body)
unfolding check_of cleared
check_parts head check body h k =
    ap (λ (l : List ℕ). WORD_MAX - summed 0 l) (parts check k ∙ sym (parts (zeros 2) (length_zeros 2)))
  where
    parts : (check : List ℕ) → length check ≡ 2 → cleared (head ++ check ++ body) ≡ head ++ zeros 2 ++ body
    parts check k =
        let all : length (head ++ check) ≡ 8 = rw (length-append, h, k) refl in
        let front : take 6 (head ++ check ++ body) ≡ head = rw append_assoc (take_at head (check ++ body) 6 h) in
        rw (front, drop_at (head ++ check) body 8 all)
