-- Lists of bytes, and what they are made of.
-- Assumes nothing.
use mathlib.Core.List.{List, [], ◌∷◌, ◌++◌}
use Prim.Native.Nat.{ℕ, zero, suc, ◌+◌, ◌%◌, ◌/◌, ◌<◌}
use native.Mathlib.Omega.{arith}
use lib.Dec.{lit<}
use lib.ListN.{take, drop, set}
use lib.Seq.{get_or-drop}
use Rattle.lists.specs.Bytes.{zeros}
use Rattle.numbers.specs.Numbers.{Bytes, bytes_of}

none : Bytes []
none i = lit< tt

one_more : (x : ℕ) (l : List ℕ) → x < 256 → Bytes l → Bytes (x ∷ l)
one_more x l h b zero = h
one_more x l h b (suc i) = b i

pub bytes_append : (xs ys : List ℕ) → Bytes xs → Bytes ys → Bytes (xs ++ ys)
bytes_append [] ys a b = b
bytes_append (x ∷ xs) ys a b = one_more x (xs ++ ys) (a 0) (bytes_append xs ys (λ i. a (suc i)) b)

pub bytes_take : (n : ℕ) (l : List ℕ) → Bytes l → Bytes (take n l)
bytes_take zero l b = none
bytes_take (suc n) [] b = none
bytes_take (suc n) (x ∷ l) b = one_more x (take n l) (b 0) (bytes_take n l (λ i. b (suc i)))

pub bytes_drop : (n : ℕ) (l : List ℕ) → Bytes l → Bytes (drop n l)
bytes_drop n l b i = rw get_or-drop (b (n + i))

pub bytes_set : (l : List ℕ) (at x : ℕ) → x < 256 → Bytes l → Bytes (set l at x)
bytes_set [] at x h b = none
bytes_set (y ∷ l) zero x h b = one_more x l h (λ i. b (suc i))
bytes_set (y ∷ l) (suc at) x h b = one_more y (set l at x) (b 0) (bytes_set l at x h (λ i. b (suc i)))

pub bytes_zeros : (n : ℕ) → Bytes (zeros n)
unfolding zeros
bytes_zeros zero = none
bytes_zeros (suc n) = one_more 0 (zeros n) (lit< tt) (bytes_zeros n)

pub bytes_number : (n v : ℕ) → Bytes (bytes_of n v)
unfolding bytes_of
bytes_number zero v = none
bytes_number (suc n) v = one_more (v % 256) (bytes_of n (v / 256)) (omega arith) (bytes_number n (v / 256))
