-- The listener list: "0 to 512 bytes of names, each of one or more non-zero bytes and ended by one zero byte. ..
-- Names match byte by byte, case included." Every definition takes any bytes.
use Rattle.std.specs.Prelude.{ℕ, Bool, true, false, cond, not, ◌&&◌, ◌||◌, List, [], ◌∷◌, ◌++◌, leb, eqb, length}
use Rattle.paper.specs.Sizes.{LIST_MAX}
use Rattle.lists.specs.Bytes.{is_zero}

-- ---- names

-- a byte in front of the first name. Bytes that no zero byte ends are in no name, and there it falls away
abbrev pub with_first : ℕ → List (List ℕ) → List (List ℕ)
with_first b [] = []
with_first b (name ∷ rest) = (b ∷ name) ∷ rest

-- the bytes up to each zero byte. A zero byte ends a name, which is empty where no byte stands in front of it
unfoldable pub names : List ℕ → List (List ℕ)
names [] = []
names (b ∷ bytes) = cond (is_zero b) ([] ∷ names bytes) (with_first b (names bytes))

-- the names, each "ended by one zero byte"
unfoldable pub ended : List (List ℕ) → List ℕ
ended [] = []
ended (name ∷ rest) = name ++ (0 ∷ ended rest)

abbrev pub is_empty : List ℕ → Bool
is_empty [] = true
is_empty (b ∷ bytes) = false

-- each is "of one or more .. bytes"
unfoldable pub none_empty : List (List ℕ) → Bool
none_empty [] = true
none_empty (name ∷ rest) = not (is_empty name) && none_empty rest

-- "byte by byte"
unfoldable pub same_bytes : List ℕ → List ℕ → Bool
same_bytes [] [] = true
same_bytes [] (y ∷ ys) = false
same_bytes (x ∷ xs) [] = false
same_bytes (x ∷ xs) (y ∷ ys) = eqb x y && same_bytes xs ys

-- one of them matches
unfoldable pub is_one_of : List (List ℕ) → List ℕ → Bool
is_one_of [] name = false
is_one_of (first ∷ rest) name = same_bytes first name || is_one_of rest name

-- ---- the list

-- the list is its names, none of them empty, each ended by one zero byte, and nothing else
unfoldable pub all_names : List ℕ → Bool
all_names list = none_empty (names list) && same_bytes (ended (names list)) list

-- "0 to 512 bytes of names"
unfoldable pub good_list : List ℕ → Bool
good_list list = leb (length list) LIST_MAX && all_names list

-- "An empty name can be read; no listener has it."
unfoldable pub is_listed : List ℕ → List ℕ → Bool
is_listed list name = not (is_empty name) && is_one_of (names list) name
