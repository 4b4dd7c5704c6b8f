-- A text laid piece by piece as an input is gone through: what is done, and what is left, make the whole. One law for both ways.
-- Assumes nothing.
use mathlib.Core.Path.{◌≡◌, refl, sym, ap, ◌∙◌}
use mathlib.Core.Bool.{true}
use mathlib.Core.List.{List, [], ◌∷◌, ◌++◌, append_assoc, append-nil}
use mathlib.Core.Logic.{⊎_elim}
use Prim.Native.Nat.{ℕ, ◌+◌, ◌-◌, ◌≤◌, ◌<◌}
use native.Mathlib.Omega.{arith}
use lib.ListN.{length, take, drop, length-append, length-drop}
use Rattle.lists.specs.Bytes.{is_byte, is_zero, laid}
use Rattle.lists.specs.Places.{place}
use Rattle.lists.specs.Lines.{LF, lines_in, first_line, behind_line}
use Rattle.lists.proofs.Cases.{lt_or_le, true_not_false}
use Rattle.lists.proofs.Laid.{laid_next, length_laid, to_end}
use native.Mathlib.Nat.{zero-add}
use lib.Seq.{length-take-le, take-length}
use Rattle.lists.proofs.Places.{place_le}
use Rattle.lists.proofs.Cuts.{cut_on, clean_on, lines_first}
use Rattle.listeners.specs.Listeners.{names, all_names}
use Rattle.listeners.proofs.Names.{names_front}
use Rattle.listeners.proofs.Walk.{good_on, good_empty, good_unended}
use Rattle.viewing.specs.Lists.{name_line, name_lines}
use Rattle.viewing.specs.Texts.{entry_of, entries_of}

-- what is laid for an input, with so much of it left and so much laid already
pub record On (f : List ℕ → List ℕ) (input rest out₀ out : List ℕ) (used : ℕ) : Type 0 where
  pub done : List ℕ
  pub leads : f input ≡ done ++ f rest
  pub so_far : out ≡ laid out₀ 0 done
  pub used_is : used ≡ length done

pub on_first : (f : List ℕ → List ℕ) (input out : List ℕ) → On f input input out out 0
unfolding laid
on_first f input out = record { done = []; leads = refl; so_far = refl; used_is = refl }

module _ (f : List ℕ → List ℕ) (input rest out₀ out : List ℕ) (used : ℕ) (on : On f input rest out₀ out used) where
  pub on_long : length out ≡ length out₀
  on_long = ap length on.so_far ∙ length_laid out₀ 0 on.done

  pub on_next : (rest' piece out' : List ℕ) (used' : ℕ) → f rest ≡ piece ++ f rest' → out' ≡ laid out used piece
      → used' ≡ used + length piece → On f input rest' out₀ out' used'
  on_next rest' piece out' used' e h k =
      record {
        done = on.done ++ piece;
        leads = on.leads ∙ rw (e, append_assoc on.done piece (f rest'));
        so_far = laid_next out₀ out out' on.done piece used on.used_is on.so_far h;
        used_is = omega (arith, on.used_is, length-append on.done piece);
      }

  pub on_end : f [] ≡ [] → rest ≡ [] → f input ≡ on.done
  on_end e h = on.leads ∙ rw (h, e, append-nil on.done)

pub empty : (text : List ℕ) → length text ≡ 0 → text ≡ []
empty [] e = refl
empty (b ∷ text) e = absurd (omega arith)

-- what a list has behind so many bytes, as the code takes it
pub rest_behind : (list : List ℕ) (n : ℕ) → take (length list - n) (drop n list) ≡ drop n list
rest_behind list n = rw (← (length-drop n list)) (take-length (drop n list))

-- ---- the names of a list

-- of a list that is all names, n bytes stand before the first zero byte: they are its first name
module _ (list : List ℕ) (n : ℕ) (first : n ≡ place is_zero list) (there : 0 < length list) (good : all_names list ≡ true) where
  on : n ≡ place is_zero (take (length list - 0) (drop 0 list))
  on = first ∙ ap (place is_zero) (sym (to_end list 0))

  pub name_there : (0 < n) × (n < length list)
  name_there =
      let ended : n < length list = ⊎_elim (λ (h : n < length list). h)
      (λ (h : length list ≤ n). absurd (true_not_false (sym good ∙ good_unended list 0 n on there (omega arith)))) (lt_or_le n (length list)) in
      let some : 0 < n = ⊎_elim (λ (h : 0 < n). h)
      (λ (h : n ≤ 0). absurd (true_not_false (sym good ∙ good_empty list 0 n on there (omega arith)))) (lt_or_le 0 n) in
      (some, ended)

  pub name_good : all_names (drop (n + 1) list) ≡ true
  name_good = rw (zero-add (n + 1)) at (sym (good_on list 0 n on name_there.0 (omega (arith, name_there.1))) ∙ good)

  pub name_next : name_lines (names list) ≡ name_line (take n list) ++ name_lines (names (drop (n + 1) list))
  unfolding name_lines
  name_next =
      let cut = rw (zero-add (n + 1)) at (cut_on 0 list 0 n on (omega (arith, name_there.1))) in
      ap (λ (l : List ℕ). name_lines (names l)) cut
      ∙ ap name_lines (names_front (take n list) (drop (n + 1) list) (clean_on 0 list 0 n on))

-- ---- the lines of a text

pub line_next : (text : List ℕ) → 0 < length text → entries_of (lines_in text) ≡ entry_of (first_line text) ++ entries_of (lines_in (behind_line text))
unfolding entries_of
line_next text there = ap entries_of (lines_first text there)

pub no_lines : entries_of (lines_in []) ≡ []
unfolding lines_in entries_of
no_lines = refl

-- the line and its end are of the text, if there is more behind them
pub line_room : (text : List ℕ) → (length (first_line text) ≤ length text)
    × (0 < length (behind_line text) → length (first_line text) + length (behind_line text) + 1 ≤ length text)
line_room text =
    let n = place (is_byte LF) text in
    let within = place_le (is_byte LF) text in
    let front = length-take-le n text within in
    let rest = length-drop (n + 1) text in
    (omega arith, λ more. omega arith)
