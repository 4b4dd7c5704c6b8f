-- All that is printed for a log, block by block, is the lines of its records.
-- Assumes nothing.
use mathlib.Core.Path.{◌≡◌, refl, sym, ap, ◌∙◌}
use mathlib.Core.Bool.{Bool, true, false, cond}
use mathlib.Core.List.{List, [], ◌∷◌, ◌++◌, map, map-append, append_assoc}
use Prim.Native.Nat.{ℕ, zero, suc, ◌+◌, ◌/◌, ◌≤◌, ◌<◌}
use native.Mathlib.Omega.{arith}
use borrow.Author.Tests.{lt-ltb, eq-eqb, ne_eqb}
use lib.Dec.{eqb}
use lib.ListN.{length, take, drop}
use Rattle.lists.proofs.Laid.{laid_eq, length_laid}
use Rattle.records.specs.Walks.{size_of}
use Rattle.paper.specs.declared.Refusal.TheVariants.{NotBlocks}
use Rattle.paper.specs.Refusals.{refusal_number}
use Rattle.lines.specs.Lines.{refused_line}
use Rattle.blocks.specs.Block.{BLOCK, is_good}
use Rattle.linklog.specs.declared.Reader.{Reader}
use Rattle.linklog.specs.Records.{Entry, RECORD_MAX, entry_in}
use Rattle.linklog.specs.Reading.{Course, Seeking, Gave, nothing, entered, taken, read_from, is_log, records_read, entries_read}
use Rattle.linklog.specs.Appending.{ROOM}
use Rattle.linklog.specs.Turns.{at_first, is_reader, is_last_of, is_within, course_in, brought_by, gave_to, reader_with, turned_to, room_after}
use Rattle.linklog.proofs.Readers.{reader_rests, reader_says, bad_turn, good_turn}
use Rattle.std.specs.Prelude.{Ok, Err}
use Rattle.logging.specs.Lines.{entry_line, lines_of}
use Rattle.logging.specs.Reading.{report, judged_by, text_of, told_with, told_by, reader_then, told_from, printed_by}
use Rattle.logging.proofs.Turns.{CanBe, course_from, size_brought, behind_short, entered_stands, entered_within}
use Rattle.logging.proofs.Telling.{gave_good, gave_bad, few, brought_few}

-- lines behind lines
lines_both : (xs ys : List Entry) → lines_of (xs ++ ys) ≡ lines_of xs ++ lines_of ys
unfolding lines_of
lines_both [] ys = refl
lines_both (x ∷ xs) ys = ap (λ (text : List ℕ). entry_line x ++ text) (lines_both xs ys) ∙ sym (append_assoc (entry_line x) (lines_of xs) (lines_of ys))

-- a reader that can go on
can_go : (reader : Reader) (room : List ℕ) → ROOM ≤ length room → reader.whole + reader.behind ≤ ROOM → reader.behind < RECORD_MAX
    → is_reader reader room ≡ true
can_go reader room fits all few =
    sym (reader_rests reader room fits (omega (arith, all)) (omega (arith, all))) ∙ lt-ltb reader.behind RECORD_MAX few

-- where a reader stands
stands_in : (reader : Reader) (room : List ℕ) → course_in reader room ≡ course_from reader.within reader.behind reader.whole room
unfolding course_in
stands_in reader room = refl

-- which block is the last
last_so : (n number : ℕ) → is_last_of (number + suc n) number ≡ eqb n 0
unfolding is_last_of
last_so zero number = eq-eqb (suc number) (number + 1) (omega arith)
last_so (suc n) number = ne_eqb (suc number) (number + suc (suc n)) (λ e. omega arith) ∙ sym (ne_eqb (suc n) 0 (λ e. omega arith))

-- what a block gives to a reader that stands so
gave_so : (reader : Reader) (n number : ℕ) (block room : List ℕ) (course : Course) → course_in reader room ≡ course
    → gave_to reader (number + suc n) number block room ≡ taken (eqb n 0) number course block
unfolding gave_to
gave_so reader n number block room course stands = rw (stands, last_so n number) refl

module _ (reader : Reader) (blocks number : ℕ) (block room : List ℕ) (is : is_reader reader room ≡ true) (can : CanBe (course_in reader room)) where
  abbrev gave : Gave
  gave = gave_to reader blocks number block room

  abbrev then : List ℕ
  then = room_after reader blocks number block room

  abbrev next : Reader
  next = reader_with reader number block gave

  abbrev Goes : Gave → Type 0
  Goes g = (is_reader (reader_with reader number block g) then ≡ true) × ((course_in (reader_with reader number block g) then ≡ g.course) × CanBe g.course)

  module _ (good : is_good (is_last_of blocks number) number block ≡ true) where
    abbrev course : Course
    course = course_in reader room

    abbrev brought : List ℕ
    brought = brought_by course block

    abbrev rest : List ℕ
    rest = drop (0 + length brought) room

    then_good : then ≡ brought ++ rest
    then_good =
        sym (good_turn reader blocks number block room is good).1
        ∙ laid_eq room 0 brought (omega (arith, brought_few reader blocks number block room is good, (reader_says reader room is).0))

    goes_good : Goes (entered course block)
    goes_good =
        let long : length then ≡ length room =
        rw (← (good_turn reader blocks number block room is good).1) (length_laid room 0 brought) in
        let fits : ROOM ≤ length then = omega (arith, long, (reader_says reader room is).0) in
        let all = size_brought course block in
        let room_for = brought_few reader blocks number block room is good in
        let short = behind_short course block can (few reader blocks number block room is good) in (
          can_go (reader_with reader number block (entered course block)) then fits (omega (arith, all, room_for)) short,
          (stands_good, entered_stands course block),
        )
      where
        stands_good : course_in (reader_with reader number block (entered course block)) then ≡ (entered course block).course
        stands_good = stands_in (reader_with reader number block (entered course block)) then ∙ rw then_good (entered_within course block rest)

  goes_bad : is_good (is_last_of blocks number) number block ≡ false → Goes nothing
  unfolding course_in is_within size_of
  goes_bad bad =
      let same = (bad_turn reader blocks number block room is bad).1 in (
        can_go (reader_with reader number block nothing) then (rw (← same) (reader_says reader room is).0) (omega arith) (omega arith),
        (refl, tt),
      )

  -- the next reader can go on from where the block left reading
  goes_next : Goes gave
  goes_next = go (is_good (is_last_of blocks number) number block) refl
    where
      go : (b : Bool) → is_good (is_last_of blocks number) number block ≡ b → Goes gave
      go true good = rw (gave_good reader blocks number block room is good) (goes_good good)
      go false bad = rw (gave_bad reader blocks number block room is bad) (goes_bad bad)

  next_is : reader_then reader (told_by reader blocks number block room) ≡ next
  unfolding told_by turned_to told_with
  next_is = rw is refl

  text_is : text_of reader blocks number block room ≡ lines_of (map entry_in gave.given)
  unfolding text_of
  text_is = rw is refl

-- block by block
goes : (n number : ℕ) (reader : Reader) (file room : List ℕ) (course : Course) → is_reader reader room ≡ true → course_in reader room ≡ course
    → CanBe course → told_from n reader (number + n) number file room ≡ lines_of (map entry_in (read_from n number course file))
unfolding told_from read_from lines_of
goes zero number reader file room course is stands can = refl
goes (suc n) number reader file room course is stands can =
    let block = take BLOCK file in
    let blocks = number + suc n in
    let gave = gave_to reader blocks number block room in
    let on : suc number + n ≡ blocks = omega arith in
    let given : gave ≡ taken (eqb n 0) number course block = gave_so reader n number block room course stands in
    let next = goes_next reader blocks number block room is (rw stands can) in
    let later = goes n (suc number) (reader_with reader number block gave) (drop BLOCK file) (room_after reader blocks number block room) gave.course
    next.0 next.1.0 next.1.1 in
    let rest = read_from n (suc number) gave.course (drop BLOCK file) in
    rw (
      text_is reader blocks number block room is (rw stands can),
      next_is reader blocks number block room is (rw stands can),
      ← given,
      map-append entry_in gave.given rest,
      lines_both (map entry_in gave.given) (map entry_in rest),
    ) (ap (λ (text : List ℕ). lines_of (map entry_in gave.given) ++ text) (rw on at later))

-- ---- from the first block on

at_first_law : (room : List ℕ) → ROOM ≤ length room → is_reader at_first room ≡ true
at_first_law room fits = can_go at_first room fits (omega arith) (omega arith)

seeks : (room : List ℕ) → course_in at_first room ≡ Seeking
unfolding course_in
seeks room = refl

told : (file room : List ℕ) → ROOM ≤ length room → printed_by (Ok (length file / BLOCK)) file room ≡ lines_of (entries_read file)
unfolding printed_by entries_read records_read
told file room fits =
    let n = length file / BLOCK in
    let all : 0 + n ≡ n = omega arith in
    rw all at (goes n 0 at_first file room Seeking (at_first_law room fits) (seeks room) tt)

refused : (file room : List ℕ) → printed_by (Err NotBlocks) file room ≡ refused_line (refusal_number NotBlocks)
unfolding printed_by
refused file room = refl

-- whatever the reader's room has at first
pub prints : (file room : List ℕ) → ROOM ≤ length room → printed_by (judged_by (length file)) file room ≡ report file
unfolding judged_by report
prints file room fits = go (is_log (length file))
  where
    go : (b : Bool)
        → printed_by (cond b (Ok (length file / BLOCK)) (Err NotBlocks)) file room
        ≡ cond b (lines_of (entries_read file)) (refused_line (refusal_number NotBlocks))
    go true = told file room fits
    go false = refused file room
