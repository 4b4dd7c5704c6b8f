-- A read behind a place leaves what stands before it, and puts what it brings there.
-- Assumes nothing.
use mathlib.Core.Path.{◌≡◌, refl, sym, ap, subst, ◌∙◌}
use mathlib.Core.Logic.{⊎_elim}
use mathlib.Core.List.{List, [], ◌∷◌, ◌++◌, append-nil}
use Prim.Native.Nat.{ℕ, ◌+◌, ◌-◌, ◌≤◌, ◌<◌, min}
use native.Mathlib.Omega.{arith}
use lib.ListN.{length, take, drop, drop_of_length-le, length-drop}
use lib.Seq.{take-append-le, take-take, take_all, drop-drop, length-take-le, drop-append_seam}
use borrow.Rule.Slice.PartMut.{put_mid, same_len_mid}
use Rattle.std.specs.Prelude.{Option, Some, None, Ok}
use Rattle.std.specs.Io.KnownBytes.{Consumes, IsAtEnd}
use Rattle.std.proofs.lemmas.List.{drop-take, take-append-drop, append_assoc}
use Rattle.lists.proofs.Cases.{lt_or_le}
use Rattle.files.specs.Files.{Brings}

-- a list of no bytes
none : (l : List ℕ) → length l ≡ 0 → l ≡ []
none [] h = refl
none (x ∷ l) h = absurd (omega arith)

-- the part that is lent has all the bytes behind the place
pub length_lent : (l : List ℕ) (from : ℕ) → length (take (length l - from) (drop from l)) ≡ length l - from
length_lent l from = length-take-le (length l - from) (drop from l) (rw length-drop (omega arith))

pub kept_front : (l part : List ℕ) (had from : ℕ) → from ≡ min had (length l) → length part ≡ length l - from
    → take had (put_mid from (length l - from) l part) ≡ take had l
kept_front l part had from e long =
    let rest = drop (length l - from) (drop from l) in
    ⊎_elim
    (λ (k : had < length l).
    let same : from ≡ had = omega arith in
    let short : had ≤ length (take had l) = omega (arith, length-take-le had l (omega arith)) in
    rw same (take-append-le had (take had l) _ short ∙ take-take had had l (omega arith)))
    (λ (k : length l ≤ had).
    let all : from ≡ length l = omega arith in
    let gone : part ≡ [] = none part (omega arith) in
    let over : rest ≡ [] = drop-drop (length l - from) from l ∙ drop_of_length-le l {i = from + (length l - from)} (omega arith) in
    rw (gone, over, append-nil, take_all from l (omega arith)))
    (lt_or_le had (length l))

-- what a read brought stands behind the place
pub brought_behind : (l part rest : List ℕ) (from got : ℕ) → from ≤ length l → got ≤ length part
    → drop from (take (from + got) (take from l ++ (part ++ rest))) ≡ take got part
brought_behind l part rest from got at fits =
    let long : length (take from l) ≡ from = length-take-le from l at in
    let seam : drop from (take from l ++ (part ++ rest)) ≡ part ++ rest =
    subst (λ (n : ℕ). drop n (take from l ++ (part ++ rest)) ≡ part ++ rest) long (drop-append_seam (take from l) (part ++ rest)) in
    drop-take from got (take from l ++ (part ++ rest)) ∙ (ap (take got) seam ∙ take-append-le got part rest fits)

-- a read into the part behind the place brings what it consumes
pub read_brings : (old new : Option (List ℕ)) (l part : List ℕ) (had from got : ℕ)
    → from ≡ min had (length l) → length part ≡ length l - from → got ≤ length part
    → Consumes old new (take got part) × (got ≡ 0 → 0 < length part → IsAtEnd new)
    → Brings old new (min had (length l)) (put_mid from (length l - from) l part) (Ok (from + got))
read_brings old new l part had from got e long fits did =
    let rest = drop (length l - from) (drop from l) in
    let whole : length (put_mid from (length l - from) l part) ≡ length l = same_len_mid from (length l - from) l part (long ∙ sym (length_lent l from)) in
    subst (λ (n : ℕ). Brings old new n (put_mid from (length l - from) l part) (Ok (from + got))) e (
      rw (brought_behind l part rest from got (omega arith) fits) did.0,
      λ none room. did.1 (omega arith) (omega arith),
    )

-- what was consumed before, and then what a read behind it brought
pub consumed_more : (old mid new : Option (List ℕ)) (before after : List ℕ) (had n : ℕ)
    → Consumes old mid (take had before) → take had after ≡ take had before → had ≤ n → Consumes mid new (drop had (take n after))
    → Consumes old new (take n after)
consumed_more None mid new before after had n first same more then = tt
consumed_more (Some xs) None new before after had n first same more then = absurd first
consumed_more (Some xs) (Some ys) None before after had n first same more then = absurd then
consumed_more (Some xs) (Some ys) (Some zs) before after had n first same more then =
    let front : take had (take n after) ≡ take had before = take-take had n after more ∙ same in
    let whole : take had before ++ drop had (take n after) ≡ take n after =
    subst (λ (l : List ℕ). l ++ drop had (take n after) ≡ take n after) front (take-append-drop had (take n after)) in
    first ∙ (ap (λ (l : List ℕ). take had before ++ l) then ∙ (sym (append_assoc (take had before) (drop had (take n after)) zs) ∙ ap (λ (l : List ℕ). l ++ zs) whole))
