-- The signed number of 32 bits, and the status of four bytes: the two directions undo each other.
-- Assumes nothing.
use mathlib.Core.Path.{◌≡◌, refl}
use mathlib.Core.List.{List, [], ◌∷◌, map}
use mathlib.Core.Logic.{⊎_elim}
use Prim.Native.Nat.{ℕ, suc, ◌-◌, ◌≤◌, ◌<◌, ◌^◌}
use native.Mathlib.Omega.{arith}
use borrow.Author.Tests.{lt-ltb, le-ltb}
use mathlib.Core.Bool.{Bool, true, false, cond}
use lib.IntN.{ℤ, pos, negsuc}
use lib.Dec.{ltb}
use mir.Syntax.{w32}
use mir.Val.{to_z, of_z, sel, SFits}
use lib.ListN.{length}
use lib.Seq.{take_all}
use Rattle.lists.proofs.Cases.{lt_or_le}
use Rattle.numbers.specs.Numbers.{Bytes, NUMBERS, little, bytes_of}
use Rattle.numbers.specs.Status.{signed_of, unsigned_of, status_of, status_bytes, is_success}
use Rattle.numbers.proofs.Widths.{length_bytes_of, little_below, little_bytes_of, bytes_of_little}

-- ---- as the library has them: the number read as signed, and its bits

pub signed_cast : (v : ℕ) → to_z w32 v ≡ signed_of v
unfolding signed_of
signed_cast v =
    let e : 4294967296 - suc v ≡ 4294967295 - v = omega arith in
    rw e (go (ltb v 2147483648))
  where
    go : (t : Bool) → sel t (pos v) (negsuc (4294967295 - v)) ≡ cond t (pos v) (negsuc (4294967295 - v))
    go true = refl
    go false = refl

pub unsigned_cast : (z : ℤ) → of_z w32 z ≡ unsigned_of z
unfolding unsigned_of
unsigned_cast (pos n) = refl
unsigned_cast (negsuc n) = omega arith

-- ---- the two directions undo each other

pub signed_unsigned : (z : ℤ) → SFits w32 z → signed_of (unsigned_of z) ≡ z
unfolding signed_of unsigned_of
signed_unsigned (pos n) f = let h = f.sfits in simp (lt-ltb n 2147483648 (omega arith))
signed_unsigned (negsuc n) f =
    let h = f.sfits in
    let e : 4294967295 - (4294967295 - n) ≡ n = omega arith in
    simp (le-ltb (4294967295 - n) 2147483648 (omega arith), e)

pub unsigned_signed : (v : ℕ) → v < NUMBERS → unsigned_of (signed_of v) ≡ v
unfolding signed_of unsigned_of
unsigned_signed v h =
    ⊎_elim
    (λ (a : v < 2147483648). simp (lt-ltb v 2147483648 a))
    (λ (a : 2147483648 ≤ v). simp (le-ltb v 2147483648 a) (omega arith))
    (lt_or_le v 2147483648)

pub unsigned_below : (z : ℤ) → SFits w32 z → unsigned_of z < NUMBERS
unfolding unsigned_of
unsigned_below (pos n) f = let h = f.sfits in omega arith
unsigned_below (negsuc n) f = let h = f.sfits in omega arith

-- a status is split into four bytes
pub length_status : (status : ℤ) → length (status_bytes status) ≡ 4
unfolding status_bytes
length_status status = length_bytes_of 4 (unsigned_of status)

-- split and built again
pub status_built : (z : ℤ) → SFits w32 z → status_of (status_bytes z) ≡ z
unfolding status_of status_bytes
status_built z f = rw (little_bytes_of 4 (unsigned_of z) (unsigned_below z f)) (signed_unsigned z f)

-- built and split again
pub status_split : (bs : List ℕ) → length bs ≡ 4 → Bytes bs → status_bytes (status_of bs) ≡ bs
unfolding status_of status_bytes
status_split bs n b =
    let w : little bs < 256 ^ 4 = rw (take_all 4 bs (omega arith)) at (little_below 4 bs b) in
    rw (unsigned_signed (little bs) w, ← n) (bytes_of_little bs b)

-- exact at zero, at both ends and at the two failure codes, -2147023728 and -2147024882
unfoldable pub edges : List ℤ
edges = pos 0 ∷ pos 2147483647 ∷ negsuc 2147483647 ∷ negsuc 2147023727 ∷ negsuc 2147024881 ∷ []

pub exact :
    map status_bytes edges
    ≡ (0 ∷ 0 ∷ 0 ∷ 0 ∷ []) ∷ (255 ∷ 255 ∷ 255 ∷ 127 ∷ []) ∷ (0 ∷ 0 ∷ 0 ∷ 128 ∷ []) ∷ (144 ∷ 4 ∷ 7 ∷ 128 ∷ [])
    ∷ (14 ∷ 0 ∷ 7 ∷ 128 ∷ []) ∷ []
unfolding edges status_bytes unsigned_of bytes_of
exact = refl

pub exact_back : map (λ z. status_of (status_bytes z)) edges ≡ edges
unfolding edges status_of status_bytes signed_of unsigned_of bytes_of little
exact_back = refl

pub which_succeed : map is_success edges ≡ true ∷ true ∷ false ∷ false ∷ false ∷ []
unfolding edges is_success
which_succeed = refl
