-- How long a file can be that is as it should be, and how much of any file tells which line isn't.
-- Assumes nothing.
use mathlib.Core.Path.{◌≡◌, refl, sym, ap, ◌∙◌}
use mathlib.Core.Logic.{⊎_elim}
use mathlib.Core.Bool.{Bool, true, false, cond, not}
use mathlib.Core.List.{List, [], ◌∷◌, ◌++◌, append_assoc, append-nil}
use Prim.Native.Nat.{ℕ, zero, suc, ◌+◌, ◌*◌, ◌≤◌, ◌<◌}
use native.Mathlib.Omega.{arith}
use borrow.Author.Tests.{eqb-true}
use lib.Dec.{eqb, ltb}
use Rattle.published.specs.declared.NotCompared.{NotCompared}
use Rattle.published.specs.declared.NotCompared.TheVariants.{Wrong, NoRoom}
use Rattle.std.specs.Prelude.{Option, None, Some, is_some, Result, Err}
use lib.ListN.{length, take, drop, get_or, length-drop, take-append-drop}
use lib.Seq.{length-take-le, take_all}
use Rattle.paper.specs.Rows.{refuse}
use Rattle.lists.specs.Bytes.{is_byte}
use Rattle.lists.specs.Places.{place, here_or}
use Rattle.lists.specs.Lines.{LF, in_first, lines_in}
use Rattle.lists.proofs.Cases.{true_not_false, lt_or_le}
use Rattle.lists.proofs.Places.{place_le, clean_before}
use Rattle.lists.proofs.Cuts.{Unended, cut_at_law, lines_front}
use Rattle.listeners.specs.Listeners.{same_bytes}
use Rattle.listeners.proofs.Matches.{same_equal}
use Rattle.lines.specs.Lines.{SPACE}
use Rattle.codepage.specs.Points.{BYTES}
use Rattle.published.specs.Claims.{UNDEFINED, pair_in, is_pair, point_claim, four_in, claim_behind, claim_in}
use Rattle.published.specs.Comparing.{wrong_from, FILE_MAX, COMPARED_MAX, text_of, compared_by, compared_for, buffer_by, compared_in}
use Rattle.published.proofs.Files.{none_missing, none_wrong, one_more, not_such, too_many}

-- ---- a line

-- a guard that was passed
passed : (t : Bool) (claim : Option (Option ℕ)) → is_some (refuse None t claim) ≡ true → (t ≡ false) × (is_some claim ≡ true)
passed true claim e = absurd (true_not_false (sym e))
passed false claim e = (refl, e)

-- four digits or `undefined`
behind_short : (rest : List ℕ) → is_some (claim_behind rest) ≡ true → length rest ≤ 9
unfolding claim_behind
behind_short rest e = go (same_bytes rest UNDEFINED) refl e
  where
    go : (t : Bool) → same_bytes rest UNDEFINED ≡ t
        → is_some (cond t (Some None) (refuse None (not (eqb (length rest) 4))
        (point_claim (four_in (get_or rest 0 0) (get_or rest 1 0) (get_or rest 2 0) (get_or rest 3 0))))) ≡ true → length rest ≤ 9
    go true is e = omega (arith, ap length (same_equal rest UNDEFINED is))
    go false off e = four (eqb (length rest) 4) refl (passed (not (eqb (length rest) 4)) _ e).0
      where
        four : (t : Bool) → eqb (length rest) 4 ≡ t → not t ≡ false → length rest ≤ 9
        four true is e = omega (arith, eqb-true (length rest) 4 is)
        four false is e = absurd (true_not_false e)

line_short : (k : ℕ) (line : List ℕ) → is_some (claim_in k line) ≡ true → length line ≤ 12
unfolding claim_in
line_short k line e =
    let long = passed (ltb (length line) 3) _ e in
    let pair = passed (not (is_pair (pair_in (get_or line 0 0) (get_or line 1 0)) k)) _ long.1 in
    let space = passed (not (eqb (get_or line 2 0) SPACE)) _ pair.1 in
    omega (arith, behind_short (drop 3 line) space.1, length-drop 3 line)

-- ---- the file

-- the bytes of lines, with an end for each
abbrev total : List (List ℕ) → ℕ
total [] = 0
total (line ∷ lines) = length line + 1 + total lines

text_short : (text : List ℕ) → length text ≤ total (lines_in text)
unfolding lines_in
text_short [] = omega arith
text_short (b ∷ text) = go (is_byte LF b) (lines_in text) (text_short text)
  where
    go : (t : Bool) (lines : List (List ℕ)) → length text ≤ total lines → suc (length text) ≤ total (cond t ([] ∷ lines) (in_first b lines))
    go true lines h = omega arith
    go false [] h = omega arith
    go false (line ∷ lines) h = omega arith

lines_short : (k : ℕ) (lines : List (List ℕ)) → wrong_from k lines ≡ None → total lines + 13 * k ≤ FILE_MAX
unfolding wrong_from FILE_MAX
lines_short k [] good = omega (arith, none_missing k good)
lines_short k (line ∷ lines) good =
    let h = none_wrong k line lines good in
    omega (arith, line_short k line h.1.0, lines_short (suc k) lines h.1.1)

pub file_short : (file : List ℕ) → wrong_from 0 (lines_in file) ≡ None → length file ≤ FILE_MAX
file_short file good = omega (arith, text_short file, lines_short 0 (lines_in file) good)

-- ---- the front of a file

-- the first line has so many bytes or more
abbrev First : ℕ → List (List ℕ) → Type 0
First n [] = n ≤ 0
First n (line ∷ lines) = n ≤ length line

in_first_law : (b n : ℕ) (lines : List (List ℕ)) → First n lines → First (suc n) (in_first b lines)
in_first_law b n [] h = omega arith
in_first_law b n (line ∷ lines) h = omega arith

-- bytes that end no line are all in the first
first_long : (front behind : List ℕ) → Unended front → First (length front) (lines_in (front ++ behind))
unfolding lines_in place
first_long [] behind h = go (lines_in behind)
  where
    go : (lines : List (List ℕ)) → First 0 lines
    go [] = omega arith
    go (line ∷ lines) = omega arith
first_long (b ∷ front) behind h = go (is_byte LF b) h (first_long front behind)
  where
    go : (t : Bool) → here_or t (place (is_byte LF) front) ≡ suc (length front)
        → (Unended front → First (length front) (lines_in (front ++ behind)))
        → First (suc (length front)) (cond t ([] ∷ lines_in (front ++ behind)) (in_first b (lines_in (front ++ behind))))
    go true k ih = absurd (omega arith)
    go false k ih = in_first_law b (length front) (lines_in (front ++ behind)) (ih (omega arith))

-- a line that is too long isn't as it should be
long_wrong : (k : ℕ) (lines : List (List ℕ)) → k < BYTES → First 13 lines → wrong_from k lines ≡ Some (k + 1)
long_wrong k [] h long = absurd (omega arith)
long_wrong k (line ∷ lines) h long = not_such k line lines h (go (is_some (claim_in k line)) refl)
  where
    go : (t : Bool) → is_some (claim_in k line) ≡ t → t ≡ false
    go true is = absurd (omega (arith, line_short k line is))
    go false off = refl

-- and no line is behind that of the last byte
past_wrong : (k b : ℕ) (text : List ℕ) → BYTES ≤ k → wrong_from k (lines_in (b ∷ text)) ≡ Some (k + 1)
unfolding lines_in
past_wrong k b text h = go (is_byte LF b) (lines_in text)
  where
    go : (t : Bool) (lines : List (List ℕ)) → wrong_from k (cond t ([] ∷ lines) (in_first b lines)) ≡ Some (k + 1)
    go true lines = too_many k _ _ h
    go false [] = too_many k _ _ h
    go false (line ∷ lines) = too_many k _ _ h

-- the line of a byte, with more bytes there than it can have: it is wrong, or those behind it tell
module _ (k : ℕ) (front behind : List ℕ) (due : k < BYTES) (long : 13 ≤ length front) where
  unended_tells : Unended front → wrong_from k (lines_in (front ++ behind)) ≡ wrong_from k (lines_in front)
  unended_tells unended = wrong behind ∙ sym (rw (append-nil front) at (wrong []))
    where
      least : (lines : List (List ℕ)) → First (length front) lines → First 13 lines
      least [] h = omega arith
      least (line ∷ lines) h = omega arith

      wrong : (more : List ℕ) → wrong_from k (lines_in (front ++ more)) ≡ Some (k + 1)
      wrong more = long_wrong k (lines_in (front ++ more)) due (least (lines_in (front ++ more)) (first_long front more unended))

  ended_tells : place (is_byte LF) front < length front
      → ((rest : List ℕ) → length front ≤ length rest + 13 → wrong_from (k + 1) (lines_in (rest ++ behind)) ≡ wrong_from (k + 1) (lines_in rest))
      → wrong_from k (lines_in (front ++ behind)) ≡ wrong_from k (lines_in front)
  ended_tells ends behind-tells = rw (whole, alone) (go (is_some (claim_in k line)) refl)
    where
      n : ℕ
      n = place (is_byte LF) front

      line : List ℕ
      line = take n front

      rest : List ℕ
      rest = drop (suc n) front

      clean : Unended line
      clean = clean_before (is_byte LF) front

      whole : lines_in (front ++ behind) ≡ line ∷ lines_in (rest ++ behind)
      whole =
          ap (λ (t : List ℕ). lines_in (t ++ behind)) (cut_at_law LF front ends) ∙ ap lines_in (append_assoc line (LF ∷ rest) behind)
          ∙ lines_front line (rest ++ behind) clean

      alone : lines_in front ≡ line ∷ lines_in rest
      alone = ap lines_in (cut_at_law LF front ends) ∙ lines_front line rest clean

      go : (t : Bool) → is_some (claim_in k line) ≡ t → wrong_from k (line ∷ lines_in (rest ++ behind)) ≡ wrong_from k (line ∷ lines_in rest)
      go true is =
          let left : length front ≤ length rest + 13 =
          omega (arith, line_short k line is, length-take-le n front (omega arith), length-drop (suc n) front) in
          one_more k line _ due is ∙ behind-tells rest left ∙ sym (one_more k line _ due is)
      go false off = not_such k line _ due off ∙ sym (not_such k line _ due off)

-- more bytes than the lines that are still due can have: whatever is behind them, the same line is the first that is wrong
front_tells : (due k : ℕ) (front behind : List ℕ) → k + due ≡ BYTES → 13 * due < length front
    → wrong_from k (lines_in (front ++ behind)) ≡ wrong_from k (lines_in front)
front_tells zero k [] behind e h = absurd (omega arith)
front_tells zero k (b ∷ front) behind e h = past_wrong k b (front ++ behind) (omega arith) ∙ sym (past_wrong k b front (omega arith))
front_tells (suc due) k front behind e h =
    ⊎_elim
    (λ (ends : place (is_byte LF) front < length front).
    ended_tells k front behind (omega arith) (omega arith) ends (λ rest left. front_tells due (k + 1) rest behind (omega arith) (omega arith)))
    (λ (none : length front ≤ place (is_byte LF) front).
    unended_tells k front behind (omega arith) (omega arith) (omega (arith, place_le (is_byte LF) front)))
    (lt_or_le (place (is_byte LF) front) (length front))

tells : (front behind : List ℕ) → FILE_MAX < length front → wrong_from 0 (lines_in (front ++ behind)) ≡ wrong_from 0 (lines_in front)
unfolding FILE_MAX
tells front behind h = front_tells BYTES 0 front behind refl (omega arith)

-- what comes of a file by its wrong line
wrongly : Option ℕ → List ℕ → Result ℕ NotCompared
wrongly line out = refuse (Err NoRoom) (ltb (length out) COMPARED_MAX) (compared_by line [])

as_wrong : (file out : List ℕ) → (wrong_from 0 (lines_in file) ≡ None → ⊥)
    → (compared_for file out ≡ wrongly (wrong_from 0 (lines_in file)) out) × (compared_in file out ≡ out)
unfolding compared_for compared_in wrongly
as_wrong file out off = go (wrong_from 0 (lines_in file)) refl off
  where
    kept : (t : Bool) (line : ℕ) → buffer_by (refuse (Err NoRoom) t (Err (Wrong line))) (text_of (lines_in file)) out ≡ out
    kept true line = refl
    kept false line = refl

    go : (r : Option ℕ) → wrong_from 0 (lines_in file) ≡ r → (r ≡ None → ⊥)
        → (refuse (Err NoRoom) (ltb (length out) COMPARED_MAX) (compared_by r (text_of (lines_in file))) ≡ wrongly r out)
        × (buffer_by (refuse (Err NoRoom) (ltb (length out) COMPARED_MAX) (compared_by r (text_of (lines_in file)))) (text_of (lines_in file)) out ≡ out)
    go None e off = absurd (off refl)
    go (Some line) e off = (refl, kept (ltb (length out) COMPARED_MAX) line)

-- one byte more than the most tells as much as the whole file: what comes of it, and what stands in the buffer
pub front_enough : (file out : List ℕ) → (compared_for (take (FILE_MAX + 1) file) out ≡ compared_for file out)
    × (compared_in (take (FILE_MAX + 1) file) out ≡ compared_in file out)
front_enough file out =
    ⊎_elim
    (λ (long : FILE_MAX + 1 < length file).
    let front = take (FILE_MAX + 1) file in
    let size : length front ≡ FILE_MAX + 1 = length-take-le (FILE_MAX + 1) file (omega arith) in
    let same = rw (take-append-drop (FILE_MAX + 1) file) at (tells front (drop (FILE_MAX + 1) file) (omega arith)) in
    let a = as_wrong front out (λ good. omega (arith, file_short front good)) in
    let b = as_wrong file out (λ good. omega (arith, file_short file good)) in
    (a.0 ∙ ap (λ r. wrongly r out) (sym same) ∙ sym b.0, a.1 ∙ sym b.1))
    (λ (short : length file ≤ FILE_MAX + 1). rw (take_all (FILE_MAX + 1) file short) (refl, refl))
    (lt_or_le (FILE_MAX + 1) (length file))
