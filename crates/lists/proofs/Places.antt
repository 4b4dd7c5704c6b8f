-- The laws of the first place that passes a test.
-- Assumes nothing.
use mathlib.Core.Path.{◌≡◌, refl, ap}
use mathlib.Core.Bool.{Bool, true, false, cond}
use mathlib.Core.List.{List, [], ◌∷◌, ◌++◌}
use Prim.Native.Nat.{ℕ, zero, suc, ◌+◌, ◌≤◌, ◌<◌}
use native.Mathlib.Omega.{arith}
use native.Mathlib.Numerals.{add-one}
use mathlib.Core.Logic.{⊎_elim}
use borrow.Author.Tests.{lt-ltb, le-ltb}
use Rattle.lists.proofs.Cases.{lt_or_le}
use lib.ListN.{length, take, drop, get_or, set, drop_of_length-le}
use lib.Seq.{drop-cons}
use Rattle.std.specs.List.{position}
use Rattle.std.specs.Option.{unwrap_or}
use Rattle.std.proofs.lemmas.List.Recursion.{is_position_or_len}
use Rattle.lists.specs.Places.{place, here_or}

module _ {A : Type 0} (p : A → Bool) where
  pub place_le : (t : List A) → place p t ≤ length t
  unfolding place
  place_le [] = omega arith
  place_le (x ∷ t) = go (p x) (place_le t)
    where
      go : (b : Bool) → place p t ≤ length t → here_or b (place p t) ≤ suc (length t)
      go true h = omega arith
      go false h = omega arith

  -- it is the library's first index, or the length
  pub place_position : (t : List A) → unwrap_or (position p t) (length t) ≡ place p t
  unfolding place
  place_position t =
      rw (← (is_position_or_len (place p) p refl (λ x xs. turn (p x) (place p xs)) t))
      (⊎_elim
      (λ (h : place p t < length t). rw (lt-ltb (place p t) (length t) h))
      (λ (h : length t ≤ place p t). rw (le-ltb (place p t) (length t) h) (omega (arith, place_le t)))
      (lt_or_le (place p t) (length t)))
    where
      turn : (b : Bool) (n : ℕ) → here_or b n ≡ cond b 0 (1 + n)
      turn true n = refl
      turn false n = omega arith

  -- before the first that passes nothing does
  pub clean_before : (t : List A) → place p (take (place p t) t) ≡ length (take (place p t) t)
  unfolding place
  clean_before [] = refl
  clean_before (x ∷ t) = go (p x) refl (clean_before t)
    where
      go : (b : Bool) → p x ≡ b → place p (take (place p t) t) ≡ length (take (place p t) t)
          → place p (take (here_or b (place p t)) (x ∷ t)) ≡ length (take (here_or b (place p t)) (x ∷ t))
      go true e ih = refl
      go false e ih = rw e (ap suc ih)

  -- behind a list in which nothing passes, the first that passes is found at the list's length
  pub place_behind : (t : List A) (x : A) (rest : List A) → place p t ≡ length t → p x ≡ true
      → place p (t ++ (x ∷ rest)) ≡ length t
  unfolding place
  place_behind [] x rest h e = rw e
  place_behind (y ∷ t) x rest h e = go (p y) h (λ k. place_behind t x rest k e)
    where
      go : (b : Bool) → here_or b (place p t) ≡ suc (length t)
          → (place p t ≡ length t → place p (t ++ (x ∷ rest)) ≡ length t)
          → here_or b (place p (t ++ (x ∷ rest))) ≡ suc (length t)
      go true k ih = absurd (omega arith)
      go false k ih = ap suc (ih (omega arith))

  -- what is found passes
  pub place_passes : (t : List A) (d : A) → place p t < length t → p (get_or t (place p t) d) ≡ true
  unfolding place
  place_passes [] d h = absurd (omega arith)
  place_passes (x ∷ t) d h = go (p x) refl (place_passes t d) h
    where
      go : (b : Bool) → p x ≡ b → (place p t < length t → p (get_or t (place p t) d) ≡ true)
          → here_or b (place p t) < suc (length t) → p (get_or (x ∷ t) (here_or b (place p t)) d) ≡ true
      go true e ih k = e
      go false e ih k = ih (omega arith)

  -- nothing found: nothing passes
  pub place_none : (t : List A) (d : A) → p d ≡ false → length t ≤ place p t → (i : ℕ) → p (get_or t i d) ≡ false
  unfolding place
  place_none [] d z h i = z
  place_none (x ∷ t) d z h i = go (p x) refl (place_none t d z) h i
    where
      go : (b : Bool) → p x ≡ b → (length t ≤ place p t → (i : ℕ) → p (get_or t i d) ≡ false)
          → suc (length t) ≤ here_or b (place p t) → (i : ℕ) → p (get_or (x ∷ t) i d) ≡ false
      go true e ih k i = absurd (omega arith)
      go false e ih k zero = e
      go false e ih k (suc i) = ih (omega arith) i

  -- nothing passes: nothing found
  pub place_all : (t : List A) (d : A) → ((i : ℕ) → p (get_or t i d) ≡ false) → place p t ≡ length t
  unfolding place
  place_all [] d h = refl
  place_all (x ∷ t) d h = rw (h 0, place_all t d (λ i. h (suc i)))

  -- the only one that passes is found
  pub place_only : (t : List A) (d : A) (k : ℕ) → k < length t → p (get_or t k d) ≡ true
      → ((i : ℕ) → p (get_or t i d) ≡ true → i ≡ k) → place p t ≡ k
  unfolding place
  place_only [] d k h e only = absurd (omega arith)
  place_only (x ∷ t) d zero h e only = rw e
  place_only (x ∷ t) d (suc k) h e only =
      go (p x) refl (place_only t d k (omega arith) e (λ i g. omega (arith, only (suc i) g)))
    where
      go : (b : Bool) → p x ≡ b → place p t ≡ k → here_or b (place p t) ≡ suc k
      go true f ih = absurd (omega (arith, only 0 f))
      go false f ih = ap suc ih

  -- an element in another's place that passes as that one did
  pub place_set : (t : List A) (k : ℕ) (x d : A) → p x ≡ p (get_or t k d) → place p (set t k x) ≡ place p t
  unfolding place
  place_set [] k x d h = refl
  place_set (y ∷ t) zero x d h = rw h
  place_set (y ∷ t) (suc k) x d h = rw (place_set t k x d h)

  -- one that passes, set where none did
  pub place_new : (t : List A) (k : ℕ) (x d : A) → ((i : ℕ) → p (get_or t i d) ≡ false) → k < length t → p x ≡ true
      → place p (set t k x) ≡ k
  unfolding place
  place_new [] k x d h l e = absurd (omega arith)
  place_new (y ∷ t) zero x d h l e = rw e
  place_new (y ∷ t) (suc k) x d h l e = rw (h 0, place_new t k x d (λ i. h (suc i)) (omega arith) e)

  -- ---- a search by index, turn by turn: the invariant is `place p (drop i t) + i ≡ place p t`
  pub search_hit : (t : List A) (i : ℕ) (d : A) → i < length t → p (get_or t i d) ≡ true
      → place p (drop i t) + i ≡ place p t → i ≡ place p t
  unfolding place
  search_hit t i d h e inv = omega (arith, rw (drop-cons t i d h, e) at inv)

  pub search_miss : (t : List A) (i : ℕ) (d : A) → i < length t → p (get_or t i d) ≡ false
      → place p (drop i t) + i ≡ place p t → place p (drop (i + 1) t) + (i + 1) ≡ place p t
  unfolding place
  search_miss t i d h e inv = rw add-one (omega (arith, rw (drop-cons t i d h, e) at inv))

  pub search_end : (t : List A) (i : ℕ) → length t ≤ i → place p (drop i t) + i ≡ place p t → i ≡ place p t
  unfolding place
  search_end t i h inv = omega (arith, rw (drop_of_length-le t h) at inv)
