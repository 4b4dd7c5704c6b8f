-- A list shown and gathered again, and lines gathered and shown again; and what is said of lines, one by one.
-- Assumes nothing.
use Rattle.std.specs.Prelude.{Some, is_some, is_ok}
use mathlib.Core.Path.{◌≡◌, refl, sym, ap, ◌∙◌}
use mathlib.Core.Bool.{Bool, true, false, not}
use mathlib.Core.List.{List, [], ◌∷◌, ◌++◌, append_assoc}
use mathlib.Core.Logic.{⊎_elim}
use Prim.Native.Nat.{ℕ, zero, suc, ◌+◌, ◌-◌, ◌≤◌, ◌<◌, min}
use native.Mathlib.Omega.{arith}
use borrow.Author.Tests.{lt-ltb, le-ltb, not-true}
use lib.ListN.{length, drop, drop_of_length-le}
use Rattle.lists.specs.Bytes.{is_byte}
use Rattle.lists.specs.Places.{place}
use Rattle.lists.specs.Lines.{LF, lines_in, first_line}
use Rattle.lists.proofs.Cases.{both, lt_or_le, true_not_false}
use Rattle.lists.proofs.Laid.{to_end}
use Rattle.lists.proofs.Cuts.{lines_front, lines_on}
use Rattle.listeners.specs.Listeners as listeners
use Rattle.listeners.specs.Listeners.{names, is_empty, none_empty, all_names, good_list}
use Rattle.listeners.proofs.Names.{Clean, names_front}
use Rattle.listeners.proofs.Lists.{all_none, all_front}
use Rattle.listeners.proofs.Written.{EachClean, good_written}
use Rattle.codepage.specs.Names.{utf8_of, name_of, result_of}
use Rattle.codepage.proofs.Answers.{is_result}
use Rattle.codepage.proofs.Names.{name_back, text_back, utf8_long}
use Rattle.codepage.proofs.Ascii.{text_without, name_without}
use Rattle.viewing.specs.Lists.{name_line, name_lines}
use Rattle.viewing.specs.Texts.{verdict_on, entry_of, entries_of, left_out, line_at, said_from}
use Rattle.viewing.specs.Promises.{Tellable, AllKept, ended}
use Rattle.viewing.proofs.Verdicts.{Keeps, kept_so, so_kept}

-- ---- a list

-- a name's line is taken back as the name
name_again : (name : List ℕ) → is_empty name ≡ false → Clean name → is_some (utf8_of name) ≡ true → entry_of (result_of (utf8_of name)) ≡ name ++ (0 ∷ [])
unfolding entry_of
name_again name filled clean can =
    let text = result_of (utf8_of name) in
    let is = is_result (utf8_of name) can in
    let back = name_back name text is in
    let long = (utf8_long name text is).0 in
    let keeps : Keeps text = record {
      filled = λ e. no_bytes name filled (omega (arith, long, e));
      clean = text_without 0 (omega arith) name text is clean;
      named = ap is_some back;
    } in
    rw (so_kept text keeps, back)
  where
    no_bytes : (l : List ℕ) → is_empty l ≡ false → length l ≡ 0 → ⊥
    no_bytes [] f e = true_not_false f
    no_bytes (x ∷ l) f e = omega arith

shown_again : (ns : List (List ℕ)) → none_empty ns ≡ true → EachClean ns → Tellable ns → entries_of (lines_in (name_lines ns)) ≡ listeners.ended ns
unfolding name_lines lines_in entries_of listeners.ended none_empty name_line
shown_again [] filled clean can = refl
shown_again (name ∷ ns) filled clean can =
    let text = result_of (utf8_of name) in
    let is = is_result (utf8_of name) can.0.0 in
    let t = both (not (is_empty name)) (none_empty ns) filled in
    let none_there = text_without LF (omega arith) name text is can.0.1 in
    let line = append_assoc text (LF ∷ []) (name_lines ns) in
    let entry = name_again name (not-true (is_empty name) t.0) clean.0 can.0.0 in
    let rest = shown_again ns t.1 clean.1 can.1 in
    rw (is, line, lines_front text (name_lines ns) none_there, entry, rest) (append_assoc name (0 ∷ []) (listeners.ended ns))

-- what is shown of a good list is gathered as that list
pub list_back : (list : List ℕ) → good_list list ≡ true → Tellable (names list) → entries_of (lines_in (name_lines (names list))) ≡ list
list_back list good can =
    let w = good_written list good in
    shown_again (names list) w.filled w.clean can ∙ w.spelled

-- ---- lines

-- the name of a line that is kept: it has bytes, none of them zero, and its UTF-8 is the line
record Entered (line : List ℕ) : Type 0 where
  pub name : List ℕ
  pub entry_is : entry_of line ≡ name ++ (0 ∷ [])
  pub filled : 0 < length name
  pub clean : Clean name
  pub text : utf8_of name ≡ Some line

entered : (line : List ℕ) → is_ok (verdict_on line) ≡ true → Entered line
unfolding entry_of
entered line kept =
    let keeps = kept_so line kept in
    let name = result_of (name_of line) in
    let is = is_result (name_of line) keeps.named in
    let text = text_back line name is in
    record {
      name = name;
      entry_is = rw kept;
      filled = ⊎_elim (λ (h : 0 < length name). h)
          (λ (h : length name ≤ 0). absurd (keeps.filled (omega (arith, (utf8_long name line text).1)))) (lt_or_le 0 (length name));
      clean = name_without 0 (omega arith) name line text keeps.clean;
      text = text;
    }

-- one that isn't kept has no entry
left_out_law : (line : List ℕ) → is_ok (verdict_on line) ≡ false → entry_of line ≡ []
unfolding entry_of
left_out_law line off = rw off

-- whatever is left out, what is gathered is names
pub entries_names : (lines : List (List ℕ)) → all_names (entries_of lines) ≡ true
unfolding entries_of
entries_names [] = all_none
entries_names (line ∷ lines) = go (is_ok (verdict_on line)) refl (entries_names lines)
  where
    go : (t : Bool) → is_ok (verdict_on line) ≡ t → all_names (entries_of lines) ≡ true → all_names (entry_of line ++ entries_of lines) ≡ true
    go true e rest =
        let so = entered line e in
        let front = append_assoc so.name (0 ∷ []) (entries_of lines) in
        rw (so.entry_is, front, all_front so.name (entries_of lines) so.filled so.clean) rest
    go false e rest = rw (left_out_law line e) rest

-- lines of which none is left out are gathered as names that are shown as these lines
pub lines_back : (lines : List (List ℕ)) → AllKept lines → name_lines (names (entries_of lines)) ≡ ended lines
unfolding entries_of name_lines names ended name_line
lines_back [] all = refl
lines_back (line ∷ lines) all =
    let so = entered line (ap is_ok all.0) in
    let front = append_assoc so.name (0 ∷ []) (entries_of lines) in
    rw (so.entry_is, front, names_front so.name (entries_of lines) so.clean, so.text, lines_back lines all.1)

-- ---- what is said, line by line

-- at a place of a text
pub line_on : (text : List ℕ) (at : ℕ) → at < length text
    → (lines_in (drop at text) ≡ first_line (drop at text) ∷ lines_in (drop (line_at text at).next text)) × (at < (line_at text at).next)
unfolding line_at
line_on text at there =
    let n = place (is_byte LF) (drop at text) in
    let first = ap (place (is_byte LF)) (sym (to_end text at)) in
    let least : min at (length text) ≡ at = omega arith in
    let next : at + n + 1 ≡ at + (n + 1) = omega arith in
    rw (least, next) (lines_on text at n first there, omega arith)

line_verdict : (text : List ℕ) (at : ℕ) → (line_at text at).verdict ≡ verdict_on (first_line (drop at text))
unfolding line_at
line_verdict text at = refl

said_so : (steps : ℕ) (text : List ℕ) (k at : ℕ) → length text - at ≤ steps → said_from steps text k at ≡ left_out k (lines_in (drop at text))
unfolding said_from left_out lines_in
said_so zero text k at h = rw (drop_of_length-le text {i = at} (omega arith))
said_so (suc steps) text k at h =
    ⊎_elim
    (λ (there : at < length text).
    let on = line_on text at there in
    let later = said_so steps text (suc k) (line_at text at).next (omega (arith, on.1)) in
    rw (lt-ltb at (length text) there, on.0, later, line_verdict text at) refl)
    (λ (past : length text ≤ at). rw (le-ltb at (length text) past, drop_of_length-le text {i = at} past))
    (lt_or_le at (length text))

-- gone through line by line, a text has said of it what is said of its lines
pub said_of_all : (text : List ℕ) → said_from (length text) text 1 0 ≡ left_out 1 (lines_in text)
said_of_all text = said_so (length text) text 1 0 (omega arith)
