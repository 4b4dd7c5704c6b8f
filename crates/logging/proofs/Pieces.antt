-- However the input is cut into reads, what goes out is what goes out for all of it at once.
-- Assumes nothing.
use mathlib.Core.Path.{◌≡◌, refl, sym, ap}
use mathlib.Core.Bool.{true}
use mathlib.Core.List.{List, [], ◌∷◌, ◌++◌, append_assoc, append-nil}
use Prim.Native.Nat.{ℕ}
use native.Mathlib.Omega.{arith}
use Rattle.lists.proofs.Cases.{choice}
use Rattle.records.specs.Walks.{rest_of}
use Rattle.records.specs.Items.{after_items, all_of}
use Rattle.records.proofs.Rests.{rest_has_none}
use Rattle.records.proofs.Items.{over_both, items_more, none_taken}
use Rattle.linklog.specs.Records.{Entry, entry_in}
use Rattle.logging.specs.declared.Course.{Course}
use Rattle.logging.specs.Input.{input_whole, entries_in}
use Rattle.logging.specs.Writing.{Run, run_of, is_over, run_after, end_text, sent}
use Rattle.logging.proofs.Inputs.{input_framing}
use Rattle.logging.proofs.Steps.{stays}
use Rattle.logging.proofs.Steps as steps

-- where entries lead, with nothing gone out yet
abbrev pub from : Course → List ℕ → List Entry → Run
from c room entries = after_items run_after (run_of c room []) entries

-- what goes out stands behind what has gone out
pub behind : (entries : List Entry) (c : Course) (room text : List ℕ)
    → after_items run_after (run_of c room text) entries
    ≡ run_of (from c room entries).course (from c room entries).room (text ++ (from c room entries).text)
unfolding after_items
behind [] c room text = ap (run_of c room) (sym (append-nil text))
behind (entry ∷ entries) c room text =
    let one = run_after (run_of c room []) entry in
    rw (
      steps.behind c room text entry,
      behind entries one.course one.room (text ++ one.text),
      behind entries one.course one.room one.text,
      append_assoc text one.text (from one.course one.room entries).text,
    ) refl

-- the first entry, and the others
pub first : (c : Course) (room : List ℕ) (entry : Entry) (entries : List Entry) →
    let one = run_after (run_of c room []) entry in
    from c room (entry ∷ entries)
    ≡ run_of (from one.course one.room entries).course (from one.course one.room entries).room
    (one.text ++ (from one.course one.room entries).text)
unfolding after_items
first c room entry entries =
    let one = run_after (run_of c room []) entry in
    behind entries one.course one.room one.text

-- behind a refusal nothing moves
pub over_stays : (entries : List Entry) (c : Course) (room : List ℕ) → is_over c ≡ true → from c room entries ≡ run_of c room []
unfolding after_items
over_stays [] c room over = refl
over_stays (entry ∷ entries) c room over = rw (stays (run_of c room []) entry over) (over_stays entries c room over)

-- all that goes out for entries at once
abbrev pub all_for : Course → List ℕ → List Entry → List ℕ
all_for c room entries = (from c room entries).text ++ end_text (from c room entries)

-- of a piece, and then of what it left, with more behind
more_behind : (c : Course) (room input more : List ℕ) →
    let here = from c room (entries_in input) in
    all_for c room (entries_in (input ++ more)) ≡ here.text ++ all_for here.course here.room (entries_in (rest_of input_whole input ++ more))
more_behind c room input more =
    let here = from c room (entries_in input) in
    let rest = entries_in (rest_of input_whole input ++ more) in
    rw (
      items_more input_framing entry_in more input,
      over_both run_after (run_of c room []) (entries_in input) rest,
      behind rest here.course here.room here.text,
    ) (append_assoc here.text (from here.course here.room rest).text _)

in_pieces : (pieces : List (List ℕ)) (c : Course) (room left : List ℕ) → input_whole left ≡ 0
    → sent c room left pieces ≡ all_for c room (entries_in (left ++ all_of pieces))
unfolding sent all_of
in_pieces [] c room left none = rw (append-nil left, none_taken input_framing entry_in run_after (run_of c room []) left none) refl
in_pieces (piece ∷ pieces) c room left none =
    let input = left ++ piece in
    let here = from c room (entries_in input) in
    let rest = rest_of input_whole input in
    let later = in_pieces pieces here.course here.room rest (rest_has_none input_framing input) in
    rw (sym (append_assoc left piece (all_of pieces)), more_behind c room input (all_of pieces))
    (ap (λ (text : List ℕ). here.text ++ text)
    (choice (λ (text : List ℕ). text ≡ all_for here.course here.room (entries_in (rest ++ all_of pieces))) (is_over here.course)
    (λ over. rw (over_stays (entries_in (rest ++ all_of pieces)) here.course here.room over) refl)
    (λ on. later)))

pub however_cut : (pieces : List (List ℕ)) (c : Course) (room : List ℕ) → sent c room [] pieces ≡ all_for c room (entries_in (all_of pieces))
however_cut pieces c room = in_pieces pieces c room [] none_yet
  where
    none_yet : input_whole [] ≡ 0
    none_yet = omega (arith, input_framing.fits [])
