-- The laws of a listener list.
-- Assumes nothing.
use mathlib.Core.Path.{◌≡◌, refl}
use mathlib.Core.Bool.{true, false, ◌||◌}
use mathlib.Core.List.{List, [], ◌∷◌, ◌++◌}
use Prim.Native.Nat.{ℕ, ◌≤◌, ◌<◌}
use native.Mathlib.Omega.{arith}
use borrow.Author.Tests.{le-leb, lt-leb}
use lib.ListN.{length, replicate}
use Rattle.paper.specs.Sizes.{LIST_MAX}
use Rattle.listeners.specs.Listeners.{names, ended, is_empty, none_empty, same_bytes, is_one_of, all_names, good_list}
use Rattle.listeners.specs.Listeners.{is_listed}
use Rattle.listeners.proofs.Matches.{same_behind}
use Rattle.listeners.proofs.Names.{Clean, names_none, names_front}

-- one or more bytes are not none
filled : (l : List ℕ) → 0 < length l → is_empty l ≡ false
filled [] h = absurd (omega arith)
filled (x ∷ l) h = refl

-- ---- good

-- the empty list is good
pub good_none : good_list [] ≡ true
unfolding good_list LIST_MAX all_names names none_empty ended same_bytes
good_none = refl

-- one zero byte alone is not: an empty name
pub zero_alone : good_list (0 ∷ []) ≡ false
unfolding good_list LIST_MAX all_names names none_empty
zero_alone = refl

-- a name may stand in it twice
pub twice_good : good_list (65 ∷ 0 ∷ 65 ∷ 0 ∷ []) ≡ true
unfolding good_list LIST_MAX all_names names none_empty ended same_bytes
twice_good = refl

-- 512 bytes are good
pub full_good : good_list (replicate 511 65 ++ (0 ∷ [])) ≡ true
unfolding good_list LIST_MAX all_names names none_empty ended same_bytes
full_good = refl

-- ---- whether a list is all names

pub all_none : all_names [] ≡ true
unfolding all_names names none_empty ended same_bytes
all_none = refl

-- a zero byte where a name should begin
pub all_empty : (rest : List ℕ) → all_names (0 ∷ rest) ≡ false
unfolding all_names names none_empty
all_empty rest = refl

-- bytes that no zero byte ends
pub all_unended : (l : List ℕ) → 0 < length l → Clean l → all_names l ≡ false
unfolding all_names none_empty ended same_bytes
all_unended [] h k = absurd (omega arith)
all_unended (x ∷ l) h k = rw (names_none (x ∷ l) k)

-- a name in front of a list
pub all_front : (name rest : List ℕ) → 0 < length name → Clean name → all_names (name ++ (0 ∷ rest)) ≡ all_names rest
unfolding all_names none_empty ended same_bytes
all_front name rest h k = rw (
  names_front name rest k,
  filled name h,
  same_behind name (0 ∷ ended (names rest)) (0 ∷ rest),
)

-- up to 512 bytes the names decide
pub good_all : (l : List ℕ) → length l ≤ LIST_MAX → good_list l ≡ all_names l
unfolding good_list
good_all l h = rw (le-leb (length l) LIST_MAX h)

-- more than 512 bytes are no good list
pub too_long : (l : List ℕ) → LIST_MAX < length l → good_list l ≡ false
unfolding good_list
too_long l h = rw (lt-leb (length l) LIST_MAX h)

-- ---- listed

-- an empty name is in no list
pub empty_unlisted : (l name : List ℕ) → length name ≡ 0 → is_listed l name ≡ false
unfolding is_listed
empty_unlisted l [] h = refl
empty_unlisted l (x ∷ name) h = absurd (omega arith)

-- case counts
pub case_counts : is_listed (97 ∷ 0 ∷ []) (65 ∷ []) ≡ false
unfolding is_listed is_one_of names same_bytes
case_counts = refl

-- any other is looked for among the names
pub listed_names : (l name : List ℕ) → 0 < length name → is_listed l name ≡ is_one_of (names l) name
unfolding is_listed
listed_names l name h = rw (filled name h)

pub one_none : (name : List ℕ) → is_one_of [] name ≡ false
unfolding is_one_of
one_none name = refl

pub one_front : (name rest x : List ℕ) → Clean name
    → is_one_of (names (name ++ (0 ∷ rest))) x ≡ (same_bytes name x || is_one_of (names rest) x)
unfolding is_one_of
one_front name rest x k = rw (names_front name rest k)
