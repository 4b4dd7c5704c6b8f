-- A list cut at the first of a byte; and the lines of a text, which are cut at LF.
-- Assumes nothing.
use mathlib.Core.Path.{◌≡◌, refl, sym, ap, ◌∙◌}
use mathlib.Core.Logic.{⊎_elim}
use mathlib.Core.Bool.{Bool, true, false, cond}
use mathlib.Core.List.{List, [], ◌∷◌, ◌++◌}
use Prim.Native.Nat.{ℕ, suc, ◌+◌, ◌-◌, ◌≤◌, ◌<◌}
use native.Mathlib.Numerals.{add-one}
use native.Mathlib.Omega.{arith}
use borrow.Author.Tests.{eqb-true}
use lib.ListN.{length, take, drop, length-drop, drop_of_length-le}
use lib.Seq.{drop-drop, length-take-le, take_all}
use Rattle.lists.specs.Places.{place, here_or}
use Rattle.lists.specs.Bytes.{is_byte}
use Rattle.lists.specs.Lines.{LF, in_first, lines_in, first_line, behind_line}
use Rattle.lists.proofs.Cases.{lt_or_le}
use Rattle.lists.proofs.Places.{place_le, clean_before}
use Rattle.lists.proofs.Laid.{to_end}

-- the bytes before the first of a byte, that byte, and the rest
pub cut_at_law : (byte : ℕ) (l : List ℕ) → place (is_byte byte) l < length l
    → l ≡ take (place (is_byte byte) l) l ++ (byte ∷ drop (suc (place (is_byte byte) l)) l)
unfolding place
cut_at_law byte [] h = absurd (omega arith)
cut_at_law byte (b ∷ l) h = go (is_byte byte b) refl h (cut_at_law byte l)
  where
    go : (t : Bool) → is_byte byte b ≡ t → here_or t (place (is_byte byte) l) < suc (length l)
        → (place (is_byte byte) l < length l → l ≡ take (place (is_byte byte) l) l ++ (byte ∷ drop (suc (place (is_byte byte) l)) l))
        → b ∷ l ≡ take (here_or t (place (is_byte byte) l)) (b ∷ l) ++ (byte ∷ drop (suc (here_or t (place (is_byte byte) l))) (b ∷ l))
    go true e k ih = ap (λ (x : ℕ). x ∷ l) (eqb-true b byte e)
    go false e k ih = ap (λ (r : List ℕ). b ∷ r) (ih (omega arith))

-- the same at a place of a list, where n bytes stand before the next of the byte
module _ (byte : ℕ) (list : List ℕ) (at n : ℕ) (first : n ≡ place (is_byte byte) (take (length list - at) (drop at list))) where
  pub place_on : place (is_byte byte) (drop at list) ≡ n
  place_on = sym (first ∙ ap (place (is_byte byte)) (to_end list at))

  pub cut_on : n < length list - at → drop at list ≡ take n (drop at list) ++ (byte ∷ drop (at + (n + 1)) list)
  cut_on h = rw (add-one, ← (drop-drop (suc n) at list))
      (rw place_on at (cut_at_law byte (drop at list) (rw (place_on, length-drop) h)))

  pub clean_on : place (is_byte byte) (take n (drop at list)) ≡ length (take n (drop at list))
  clean_on = rw place_on at (clean_before (is_byte byte) (drop at list))

  pub length_on : n < length list - at → length (take n (drop at list)) ≡ n
  length_on h = length-take-le n (drop at list) (rw length-drop (omega arith))

  -- none is left
  pub clean_last : length list - at ≤ n → place (is_byte byte) (drop at list) ≡ length (drop at list)
  clean_last h = let k = rw length-drop at (place_le (is_byte byte) (drop at list)) in rw (place_on, length-drop)
      (omega (arith, place_on))

-- ---- lines

-- no byte ends a line
abbrev pub Unended : List ℕ → Type 0
Unended line = place (is_byte LF) line ≡ length line

-- a line and its end in front of a text
pub lines_front : (line text : List ℕ) → Unended line → lines_in (line ++ (LF ∷ text)) ≡ line ∷ lines_in text
unfolding lines_in place
lines_front [] text h = refl
lines_front (b ∷ line) text h = go (is_byte LF b) h (lines_front line text)
  where
    go : (t : Bool) → here_or t (place (is_byte LF) line) ≡ suc (length line)
        → (Unended line → lines_in (line ++ (LF ∷ text)) ≡ line ∷ lines_in text)
        → cond t ([] ∷ lines_in (line ++ (LF ∷ text))) (in_first b (lines_in (line ++ (LF ∷ text)))) ≡ (b ∷ line) ∷ lines_in text
    go true k ih = absurd (omega arith)
    go false k ih = rw (ih (omega arith))

-- a last line without an end
pub lines_last : (line : List ℕ) → 0 < length line → Unended line → lines_in line ≡ line ∷ []
unfolding lines_in place
lines_last [] some h = absurd (omega arith)
lines_last (b ∷ []) some h = go (is_byte LF b) h
  where
    go : (t : Bool) → here_or t 0 ≡ 1 → cond t ([] ∷ []) ((b ∷ []) ∷ []) ≡ (b ∷ []) ∷ []
    go true k = absurd (omega arith)
    go false k = refl
lines_last (b ∷ c ∷ line) some h = go (is_byte LF b) h (lines_last (c ∷ line) (omega arith))
  where
    go : (t : Bool) → here_or t (place (is_byte LF) (c ∷ line)) ≡ suc (length (c ∷ line)) → (Unended (c ∷ line) → lines_in (c ∷ line) ≡ (c ∷ line) ∷ [])
        → cond t ([] ∷ lines_in (c ∷ line)) (in_first b (lines_in (c ∷ line))) ≡ (b ∷ c ∷ line) ∷ []
    go true k ih = absurd (omega arith)
    go false k ih = rw (ih (omega arith))

-- the line at a place of a text, and those behind it
pub lines_on : (text : List ℕ) (at n : ℕ) → n ≡ place (is_byte LF) (take (length text - at) (drop at text)) → at < length text
    → lines_in (drop at text) ≡ take n (drop at text) ∷ lines_in (drop (at + (n + 1)) text)
unfolding lines_in
lines_on text at n first there =
    ⊎_elim
    (λ (h : n < length text - at). ap lines_in (cut_on LF text at n first h) ∙ lines_front (take n (drop at text)) (drop (at + (n + 1)) text) (clean_on LF text at n first))
    (λ (h : length text - at ≤ n).
    let all : take n (drop at text) ≡ drop at text = take_all n (drop at text) (rw length-drop h) in
    let none : drop (at + (n + 1)) text ≡ [] = drop_of_length-le text {i = at + (n + 1)} (omega arith) in
    rw (all, none) (lines_last (drop at text) (rw length-drop (omega arith)) (clean_last LF text at n first h)))
    (lt_or_le n (length text - at))

-- the first line of a text, and those behind it
pub lines_first : (text : List ℕ) → 0 < length text → lines_in text ≡ first_line text ∷ lines_in (behind_line text)
unfolding lines_in
lines_first text there =
    ⊎_elim
    (λ (h : place (is_byte LF) text < length text).
    ap lines_in (cut_at_law LF text h) ∙ rw (add-one (place (is_byte LF) text)) (lines_front (first_line text) (drop (suc (place (is_byte LF) text)) text) (clean_before (is_byte LF) text)))
    (λ (h : length text ≤ place (is_byte LF) text).
    let whole : place (is_byte LF) text ≡ length text = omega (arith, place_le (is_byte LF) text) in
    let all : first_line text ≡ text = take_all (place (is_byte LF) text) text h in
    let none : behind_line text ≡ [] = drop_of_length-le text {i = place (is_byte LF) text + 1} (omega arith) in
    lines_last text there whole ∙ rw (all, none))
    (lt_or_le (place (is_byte LF) text) (length text))

-- neither is longer than the text, and behind the line there is less
pub line_parts : (text : List ℕ) → 0 < length text
    → (length (first_line text) ≤ length text) × ((length (behind_line text) < length text) × (length (first_line text) + length (behind_line text) ≤ length text))
line_parts text there =
    let n = place (is_byte LF) text in
    let within = place_le (is_byte LF) text in
    let front = length-take-le n text within in
    let rest = length-drop (n + 1) text in
    (omega arith, (omega arith, omega arith))
