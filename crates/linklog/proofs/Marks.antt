-- The marks of records: their bytes, what is left of them behind so many, and the place where the first record begins.
-- Assumes nothing.
use mathlib.Core.Path.{◌≡◌, refl, sym, ◌∙◌}
use mathlib.Core.Bool.{true}
use mathlib.Core.List.{List, [], ◌∷◌, ◌++◌, map, map-append, append-nil}
use Prim.Native.Nat.{ℕ, zero, suc, ◌-◌, ◌≤◌, ◌<◌}
use native.Mathlib.Omega.{arith}
use borrow.Author.Tests.{lt-ltb}
use lib.ListN.{length, take, drop, length-append, length-map, length-drop}
use lib.Seq.{take-append-le, drop-append-le, drop-nil}
use Rattle.lists.specs.Places.{place}
use Rattle.lists.proofs.Places.{place_behind}
use Rattle.records.specs.Walks.{size_of}
use Rattle.records.specs.Items.{all_of}
use Rattle.blocks.specs.Block.{NONE}
use Rattle.linklog.specs.Written.{Mark, byte_at, begins_at, inside, marked, marked_all, first_place}
use Rattle.linklog.proofs.Blocks.{take_map, drop_map, take_behind, drop_behind, bytes_marked, length_marked, place_inside, none_inside}
use Rattle.linklog.proofs.Fits.{unfit, over, by_fit, over_first, over_none, unfit_first, unfit_none}

-- ---- bytes

pub bytes_all : (rs : List (List ℕ)) → map byte_at (marked_all rs) ≡ all_of rs
unfolding marked_all all_of
bytes_all [] = refl
bytes_all (bytes ∷ rest) = rw (map-append byte_at (marked bytes) (marked_all rest), bytes_marked bytes, bytes_all rest)

pub length_all : (rs : List (List ℕ)) → length (marked_all rs) ≡ size_of rs
unfolding marked_all size_of
length_all [] = refl
length_all (bytes ∷ rest) = rw (length-append (marked bytes) (marked_all rest), length_marked bytes, length_all rest)

-- a part of the marks has that part of the bytes
pub bytes_part : (m off : ℕ) (rs : List (List ℕ)) → map byte_at (take m (drop off (marked_all rs))) ≡ take m (drop off (all_of rs))
bytes_part m off rs = sym (take_map byte_at m (drop off (marked_all rs))) ∙ rw (← (drop_map byte_at off (marked_all rs)), bytes_all rs)

-- behind so many bytes stand the records that don't fit in them, without the bytes that are left over for them
pub drop_marks : (m : ℕ) (rs : List (List ℕ)) → drop m (marked_all rs) ≡ drop (over m rs) (marked_all (unfit m rs))
unfolding marked_all unfit
drop_marks =
    by_fit (λ m rs. drop m (marked_all rs) ≡ drop (over m rs) (marked_all (unfit m rs))) (λ m. rw (drop-nil m, drop-nil (over m [])))
    (λ m bytes rest h later.
    drop_behind m (m - length bytes) (marked bytes) (marked_all rest) (omega (arith, length_marked bytes))
    ∙ later ∙ rw (over_first m bytes rest h, unfit_first m bytes rest h) refl)
    (λ m bytes rest h. rw (over_none m bytes rest h, unfit_none m bytes rest h) refl)

-- ---- the place where the first record begins

-- behind the bytes of a record the next begins
begins_behind : (bytes : List ℕ) (byte : ℕ) (more : List Mark)
    → first_place (map inside bytes ++ (record { byte = byte; begins = true } ∷ more)) ≡ length bytes
unfolding first_place
begins_behind bytes byte more =
    let front = map inside bytes in
    let mark : Mark = record { byte = byte; begins = true } in
    let at : place begins_at (front ++ (mark ∷ more)) ≡ length front = place_behind begins_at front mark more (place_inside bytes) refl in
    rw (lt-ltb (place begins_at (front ++ (mark ∷ more))) (length (front ++ (mark ∷ more))) (omega (arith, length-append front (mark ∷ more))))
    (at ∙ length-map bytes inside)

next_begins : (bytes : List ℕ) (m : ℕ) (next : List ℕ) (rest : List (List ℕ)) → 0 < m → 0 < length next
    → first_place (map inside bytes ++ take m (marked_all (next ∷ rest))) ≡ length bytes
unfolding marked_all marked
next_begins bytes m [] rest some h = absurd (omega arith)
next_begins bytes zero (byte ∷ next) rest some h = absurd (omega arith)
next_begins bytes (suc m) (byte ∷ next) rest some h = begins_behind bytes byte (take m (map inside next ++ marked_all rest))

-- where a record begins in front, that is the place
pub place_front : (m : ℕ) (bytes : List ℕ) (rest : List (List ℕ)) → 0 < m → 0 < length bytes → first_place (take m (marked_all (bytes ∷ rest))) ≡ 0
place_front = next_begins []

-- behind a record's first bytes stand its others, and then the next records
drop_inside : (off : ℕ) (bytes : List ℕ) (rest : List (List ℕ)) → 0 < off → off < length bytes
    → drop off (marked_all (bytes ∷ rest)) ≡ map inside (drop off bytes) ++ marked_all rest
unfolding marked_all marked
drop_inside off [] rest some h = absurd (omega arith)
drop_inside zero (byte ∷ bytes) rest some h = absurd (omega arith)
drop_inside (suc off) (byte ∷ bytes) rest some h =
    rw (drop-append-le off (map inside bytes) (marked_all rest) (omega (arith, length-map bytes inside)), drop_map inside off bytes)

module _ (off m : ℕ) (bytes : List ℕ) (some : 0 < off) (part : off < length bytes) where
  left_there : length (map inside (drop off bytes)) ≡ length bytes - off
  left_there = length-map (drop off bytes) inside ∙ length-drop off bytes

  -- where a record goes on to the end of a part, none begins in it
  pub place_none : (rest : List (List ℕ)) → m ≤ length bytes - off → first_place (take m (drop off (marked_all (bytes ∷ rest)))) ≡ NONE
  place_none rest h =
      rw (
        drop_inside off bytes rest some part,
        take-append-le m (map inside (drop off bytes)) (marked_all rest) (omega (arith, left_there)),
        take_map inside m (drop off bytes),
      ) (none_inside (take m (drop off bytes)))

  -- nor where it is the last
  pub place_last : first_place (take m (drop off (marked_all (bytes ∷ [])))) ≡ NONE
  unfolding marked_all
  place_last =
      rw (drop_inside off bytes [] some part, append-nil (map inside (drop off bytes)), take_map inside m (drop off bytes))
      (none_inside (take m (drop off bytes)))

  -- else the next begins behind it
  pub place_next : (next : List ℕ) (rest : List (List ℕ)) → length bytes - off < m → 0 < length next
      → first_place (take m (drop off (marked_all (bytes ∷ next ∷ rest)))) ≡ length bytes - off
  place_next next rest h here =
      let front = map inside (drop off bytes) in
      rw (
        drop_inside off bytes (next ∷ rest) some part,
        take_behind m (m - length front) front (marked_all (next ∷ rest)) (omega (arith, left_there)),
        next_begins (drop off bytes) (m - length front) next rest (omega (arith, left_there)) here,
      ) (length-drop off bytes)
