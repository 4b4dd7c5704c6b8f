-- Reading in turns, in a room of its size, is reading the file: no turn is refused, each leaves the bytes of the records that its block
-- gives at the room's front, and the reader knows at the end where the last one ends.
-- Assumes nothing.
use mathlib.Core.Path.{◌≡◌, refl, sym, ap, ◌∙◌}
use mathlib.Core.Logic.{⊎_elim}
use mathlib.Core.Bool.{Bool, true, false, cond, ◌&&◌}
use mathlib.Core.List.{List, [], ◌∷◌, ◌++◌, append_assoc}
use Prim.Native.Nat.{ℕ, zero, suc, ◌+◌, ◌/◌, ◌≤◌, ◌<◌}
use native.Mathlib.Omega.{arith}
use borrow.Author.Tests.{lt-ltb, le-ltb, ltb-true}
use lib.Dec.{lit<, lit≤, ltb, eqb}
use lib.ListN.{length, take, drop, length-append, length-take, length-drop}
use lib.Seq.{take-add, take_all, take-take, length-take-le}
use Rattle.lists.specs.Bytes.{laid}
use Rattle.lists.proofs.Laid.{front, length_laid}
use Rattle.lists.proofs.Cases.{lt_or_le, choice, true_not_false}
use Rattle.records.specs.Records.{LENGTH, announced}
use Rattle.records.specs.Desk.{CLOSE}
use Rattle.records.specs.Walks.{front_of, records_of, size_of, rest_of}
use Rattle.records.specs.Items.{all_of}
use Rattle.records.proofs.Framings.{records_none, records_first}
use Rattle.records.proofs.Rests.{size_none, size_first, rest_none, rest_first, by_records, size_within, rest_has_none}
use Rattle.blocks.specs.Block.{BLOCK, PAYLOAD, NONE, used_in, place_in, payload_in, is_good}
use Rattle.blocks.proofs.Judged.{good_says, uses_le}
use Rattle.linklog.specs.declared.End.{End}
use Rattle.linklog.specs.declared.Reader.{Reader}
use Rattle.linklog.specs.Records.{RECORD_MAX, is_stray, logged_whole}
use Rattle.linklog.specs.Reading.{Course, Seeking, Within, Gave, nothing, through, entered, taken, read_from, records_read}
use Rattle.linklog.specs.TakenBack.{end_after, end_from, end_in}
use Rattle.linklog.specs.Appending.{ROOM}
use Rattle.linklog.specs.Turns.{at_first, is_reader, course_in, is_within, brought_by, is_last_of, gave_to, reader_at, reader_with, turned_to, room_after}
use Rattle.linklog.specs.Turns.{Unfinished, StandsAt, whole_in, Gives, gone_on, Turns, turned_from, turned_over, records_by_turn}
use Rattle.linklog.proofs.Parts.{drop_front}
use Rattle.linklog.proofs.Framing.{log_framing, IsRecord, AreRecords, stray_for, needs_for, whole_for}
use Rattle.linklog.proofs.Framing.{short_stray, short_whole, long_stray, long_whole, announced_more, announced_front, is_record}
use Rattle.linklog.proofs.Damage.{last_one}
use Rattle.linklog.proofs.Fits.{fit_all, fit_told}
use Rattle.linklog.proofs.Longer.{for_short}
use Rattle.linklog.proofs.Readers.{reader_rests, reader_says}
use Rattle.std.specs.Prelude.{Ok}

-- ---- a record by the length that it announces

-- it needs its length,
needs_some : (a : ℕ) → LENGTH ≤ needs_for a
needs_some a = choice (λ (x : ℕ). LENGTH ≤ x) (eqb a CLOSE) (λ _. lit≤ tt) (λ _. omega arith)

-- and no more bytes than a record can have
needs_short : (a : ℕ) → stray_for a ≡ false → needs_for a ≤ RECORD_MAX
needs_short a right = rw (right, le-ltb (needs_for a) (needs_for a) (omega arith)) at (for_short a (needs_for a))

-- where it is whole, it has the bytes that it needs,
whole_has : (a n : ℕ) → 0 < whole_for a n → (stray_for a ≡ false) × (whole_for a n ≡ needs_for a)
whole_has a n =
    choice (λ (x : ℕ). 0 < x → (stray_for a ≡ false) × (x ≡ needs_for a)) (stray_for a) (λ _ some. absurd (omega arith))
    (λ right. choice (λ (x : ℕ). 0 < x → (stray_for a ≡ false) × (x ≡ needs_for a)) (ltb n (needs_for a)) (λ _ some. absurd (omega arith))
    (λ _ some. (right, refl)))

-- and where it isn't, but can become so, fewer
part_has : (a n : ℕ) → stray_for a ≡ false → whole_for a n ≡ 0 → n < needs_for a
part_has a n right =
    rw right
    (choice (λ (x : ℕ). x ≡ 0 → n < needs_for a) (ltb n (needs_for a)) (λ h _. ltb-true _ _ h)
    (λ _ none. absurd (omega (arith, none, needs_some a))))

-- ---- records that are told are told of their bytes alone

-- the one at the front,
front_record : (input : List ℕ) → 0 < logged_whole input → IsRecord (front_of logged_whole input)
unfolding front_of
front_record input some =
    ⊎_elim
    (λ (short : length input < LENGTH). absurd (omega (arith, some, short_whole input short)))
    (λ (long : LENGTH ≤ length input).
    let a = announced input in
    let has = whole_has a (length input) (rw (long_whole input long) at some) in
    let size : logged_whole input ≡ needs_for a = long_whole input long ∙ has.1 in
    let least : LENGTH ≤ logged_whole input = omega (arith, size, needs_some a) in
    let bytes = take (logged_whole input) input in
    let n : length bytes ≡ logged_whole input = length-take-le (logged_whole input) input (log_framing.fits input) in
    is_record bytes a (announced_front input (logged_whole input) least) has.0 (sym (n ∙ size)) (omega (arith, n, least)))
    (lt_or_le (length input) LENGTH)

-- and all of them
records_are : (input : List ℕ) → AreRecords (records_of logged_whole input)
records_are =
    by_records log_framing (λ input. AreRecords (records_of logged_whole input)) (λ input no. rw (records_none logged_whole input no) tt)
    (λ input one later. rw (records_first log_framing input one) (front_record input one, later))

-- records, one behind the other, are told
all_told : (rs : List (List ℕ)) → AreRecords rs → records_of logged_whole (all_of rs) ≡ rs
all_told rs are =
    let m = size_of rs + length (all_of rs) in
    rw (take_all m (all_of rs) (omega arith)) at (fit_told m rs are) ∙ fit_all m rs (omega arith)

-- the bytes of those that are told stand at the front
all_front : (input : List ℕ) → take (size_of (records_of logged_whole input)) input ≡ all_of (records_of logged_whole input)
unfolding all_of front_of
all_front =
    by_records log_framing (λ input. take (size_of (records_of logged_whole input)) input ≡ all_of (records_of logged_whole input))
    (λ input no. rw (size_none logged_whole input no, records_none logged_whole input no) refl)
    (λ input one later.
    rw (size_first log_framing input one, records_first log_framing input one, ← later)
    (take-add (logged_whole input) (size_of (records_of logged_whole (drop (logged_whole input) input))) input))

-- ---- what isn't whole

-- it has fewer bytes than a record can have
unfinished_short : (left : List ℕ) → Unfinished (Within left) → length left < RECORD_MAX
unfinished_short left un =
    ⊎_elim
    (λ (short : length left < LENGTH). omega (arith, short))
    (λ (long : LENGTH ≤ length left).
    let right = sym (long_stray left long) ∙ un.1 in
    let part = part_has (announced left) (length left) right (sym (long_whole left long) ∙ un.0) in
    omega (arith, part, needs_short (announced left) right))
    (lt_or_le (length left) LENGTH)

-- no bytes are such a beginning
nothing_unfinished : Unfinished (Within [])
nothing_unfinished = (short_whole [] (lit< tt), short_stray [] (lit< tt))

-- what is left is no more than there was
rest_few : (input : List ℕ) → length (rest_of logged_whole input) ≤ length input
unfolding rest_of
rest_few input = rw length-drop (omega arith)

module _ (left more : List ℕ) (un : Unfinished (Within left)) where
  abbrev both_of_law : List ℕ
  both_of_law = left ++ more

  both_long : length both_of_law ≡ length left + length more
  both_long = length-append left more

  -- what stands behind the record whose length is there
  behind_long : LENGTH ≤ length left → is_stray (rest_of logged_whole both_of_law) ≡ true → length (rest_of logged_whole both_of_law) ≤ length more
  behind_long long stray =
      let a = announced left in
      let there : LENGTH ≤ length both_of_law = omega (arith, both_long, long) in
      let same = announced_more left more long in
      let right = sym (long_stray left long) ∙ un.1 in
      let part = part_has a (length left) right (sym (long_whole left long) ∙ un.0) in
      ⊎_elim
      (λ (one : 0 < logged_whole both_of_law).
      let told : logged_whole both_of_law ≡ whole_for a (length both_of_law) = long_whole both_of_law there ∙ rw same refl in
      let size = (whole_has a (length both_of_law) (rw told at one)).1 in
      let few = rest_few (drop (logged_whole both_of_law) both_of_law) in
      rw (rest_first log_framing both_of_law one) (omega (arith, few, length-drop (logged_whole both_of_law) both_of_law, both_long, told, size, part)))
      (λ (none : logged_whole both_of_law ≤ 0).
      let all = rest_none logged_whole both_of_law (omega arith) in
      absurd (true_not_false (sym (rw all at stray) ∙ long_stray both_of_law there ∙ rw (same, right) refl)))
      (lt_or_le 0 (logged_whole both_of_law))

  -- a length that no record has begins in what comes, or right before it
  stray_late : is_stray (rest_of logged_whole both_of_law) ≡ true → length (rest_of logged_whole both_of_law) ≤ suc (length more)
  stray_late stray =
      ⊎_elim
      (λ (short : length left < LENGTH). omega (arith, rest_few both_of_law, both_long, short))
      (λ (long : LENGTH ≤ length left). omega (arith, behind_long long stray))
      (lt_or_le (length left) LENGTH)

  -- so what is left has fewer bytes than a record can have
  behind_short : length more ≤ PAYLOAD → length (rest_of logged_whole both_of_law) < RECORD_MAX
  behind_short few = go (is_stray (rest_of logged_whole both_of_law)) refl
    where
      go : (t : Bool) → is_stray (rest_of logged_whole both_of_law) ≡ t → length (rest_of logged_whole both_of_law) < RECORD_MAX
      go true e = omega (arith, stray_late e, few)
      go false e = unfinished_short (rest_of logged_whole both_of_law) (rest_has_none log_framing both_of_law, e)

-- ---- what a block gives, in the room

-- the bytes of whole records are at the front, and what reading has of the next stands behind them
record Leaves (gave : Gave) (room : List ℕ) : Type 0 where
  pub told : records_of logged_whole (all_of gave.given) ≡ gave.given
  pub there : take (size_of gave.given) room ≡ all_of gave.given
  pub course : (end : End) → course_in (reader_at end gave) room ≡ gave.course

-- they fit
abbrev Few : Gave → Type 0
Few gave = (size_of gave.given + gave.behind ≤ ROOM) × (gave.behind < RECORD_MAX)

nothing_few : Few nothing
unfolding size_of
nothing_few = (lit≤ tt, lit< tt)

nothing_leaves : (room : List ℕ) → Leaves nothing room
unfolding course_in is_within size_of all_of
nothing_leaves room = record { told = all_told [] tt; there = refl; course = λ end. refl }

module _ (room bytes : List ℕ) (fits : length bytes ≤ length room) where
  abbrev size : ℕ
  size = size_of (records_of logged_whole bytes)

  abbrev rest : List ℕ
  rest = rest_of logged_whole bytes

  -- the whole records and what is left are all
  all_size : size + length rest ≡ length bytes
  unfolding rest_of
  all_size = omega (arith, length-drop size bytes, size_within log_framing bytes)

  -- laid in the room, both are there
  whole_there : take size (laid room 0 bytes) ≡ all_of (records_of logged_whole bytes)
  whole_there = sym (take-take size (length bytes) (laid room 0 bytes) (size_within log_framing bytes)) ∙ rw (front room bytes fits) (all_front bytes)

  rest_there : take (length rest) (drop size (laid room 0 bytes)) ≡ rest
  unfolding rest_of
  rest_there = sym (drop_front size (length rest) (laid room 0 bytes)) ∙ rw (all_size, front room bytes fits) refl

  through_leaves : Leaves (through bytes) (laid room 0 bytes)
  unfolding through course_in is_within
  through_leaves = record { told = all_told _ (records_are bytes); there = whole_there; course = λ end. go (is_stray rest) }
    where
      go : (t : Bool)
          → cond (is_within (cond t Seeking (Within rest))) (Within (take (length rest) (drop size (laid room 0 bytes)))) Seeking
          ≡ cond t Seeking (Within rest)
      go true = refl
      go false = ap Within rest_there

-- they fit where they begin with what isn't whole, and a payload comes behind it
through_few : (left more : List ℕ) → Unfinished (Within left) → length more ≤ PAYLOAD → Few (through (left ++ more))
unfolding through
through_few left more un few =
    let bytes = left ++ more in
    let short = unfinished_short left un in
    (omega (arith, all_size bytes bytes (omega arith), length-append left more, short, few), behind_short left more un few)

-- what is left then isn't whole
through_unfinished : (bytes : List ℕ) → Unfinished (through bytes).course
unfolding through
through_unfinished bytes = choice Unfinished (is_stray (rest_of logged_whole bytes)) (λ _. tt) (λ right. (rest_has_none log_framing bytes, right))

-- ---- a good block

-- the bytes that reading has of a record
abbrev held : Course → ℕ
held Seeking = 0
held (Within left) = length left

payload_few : (block : List ℕ) → used_in block ≤ PAYLOAD → length (payload_in block) ≤ PAYLOAD
unfolding payload_in
payload_few block few = rw length-take (omega arith)

brought_few : (course : Course) (block : List ℕ) → used_in block ≤ PAYLOAD → length (brought_by course block) ≤ held course + PAYLOAD
unfolding brought_by
brought_few Seeking block few =
    choice (λ (l : List ℕ). length l ≤ 0 + PAYLOAD) (eqb (place_in block) NONE) (λ _. lit≤ tt)
    (λ _. rw length-drop (omega (arith, payload_few block few)))
brought_few (Within left) block few = rw length-append (omega (arith, payload_few block few))

entered_leaves : (course : Course) (block room : List ℕ) → length (brought_by course block) ≤ length room
    → Leaves (entered course block) (laid room 0 (brought_by course block))
unfolding entered brought_by laid
entered_leaves Seeking block room fits = go (eqb (place_in block) NONE) fits
  where
    go : (t : Bool) → length (cond t [] (drop (place_in block) (payload_in block))) ≤ length room
        → Leaves (cond t nothing (through (drop (place_in block) (payload_in block)))) (laid room 0 (cond t [] (drop (place_in block) (payload_in block))))
    go true fits = nothing_leaves room
    go false fits = through_leaves room (drop (place_in block) (payload_in block)) fits
entered_leaves (Within left) block room fits = through_leaves room (left ++ payload_in block) fits

entered_few : (course : Course) (block : List ℕ) → Unfinished course → used_in block ≤ PAYLOAD → Few (entered course block)
unfolding entered
entered_few Seeking block un few =
    let from = drop (place_in block) (payload_in block) in
    let short : length from ≤ PAYLOAD = rw length-drop (omega (arith, payload_few block few)) in
    choice Few (eqb (place_in block) NONE) (λ _. nothing_few) (λ _. through_few [] from nothing_unfinished short)
entered_few (Within left) block un few = through_few left (payload_in block) un (payload_few block few)

entered_unfinished : (course : Course) (block : List ℕ) → Unfinished (entered course block).course
unfolding entered
entered_unfinished Seeking block =
    choice (λ (gave : Gave). Unfinished gave.course) (eqb (place_in block) NONE) (λ _. tt)
    (λ _. through_unfinished (drop (place_in block) (payload_in block)))
entered_unfinished (Within left) block = through_unfinished (left ++ payload_in block)

-- ---- any block, and a turn

-- a reader has fewer bytes of a record than it can have
held_short : (reader : Reader) (room : List ℕ) → is_reader reader room ≡ true → held (course_in reader room) < RECORD_MAX
unfolding course_in
held_short reader room is =
    let says = reader_says reader room is in
    choice (λ (course : Course). held course < RECORD_MAX) reader.within (λ _. rw length-take (omega (arith, says.1.1.1))) (λ _. lit< tt)

used_few : (last : Bool) (number : ℕ) (block : List ℕ) → is_good last number block ≡ true → used_in block ≤ PAYLOAD
used_few last number block good = uses_le last (used_in block) (good_says last number block good).3

taken_few : (last : Bool) (number : ℕ) (course : Course) (block : List ℕ) → Unfinished course → Few (taken last number course block)
unfolding taken
taken_few last number course block un =
    choice Few (is_good last number block) (λ good. entered_few course block un (used_few last number block good)) (λ _. nothing_few)

taken_unfinished : (last : Bool) (number : ℕ) (course : Course) (block : List ℕ) → Unfinished (taken last number course block).course
unfolding taken
taken_unfinished last number course block =
    choice (λ (gave : Gave). Unfinished gave.course) (is_good last number block) (λ _. entered_unfinished course block) (λ _. tt)

module _ (reader : Reader) (blocks number : ℕ) (block room : List ℕ) where
  abbrev gave : Gave
  gave = gave_to reader blocks number block room

  abbrev next : Reader
  next = reader_with reader number block gave

  abbrev then : List ℕ
  then = room_after reader blocks number block room

  abbrev from : Course
  from = course_in reader room

  -- the room is as long as it was
  room_long : length then ≡ length room
  unfolding room_after
  room_long =
      choice (λ (l : List ℕ). length l ≡ length room) (is_reader reader room && is_good (is_last_of blocks number) number block)
      (λ _. length_laid room 0 (brought_by from block)) (λ _. refl)

  module _ (is : is_reader reader room ≡ true) where
    -- what the block gives stands in the room
    turn_leaves : Leaves gave then
    unfolding gave_to taken room_after
    turn_leaves = rw is (go (is_good (is_last_of blocks number) number block) refl)
      where
        go : (t : Bool) → is_good (is_last_of blocks number) number block ≡ t
            → Leaves (cond t (entered from block) nothing) (cond t (laid room 0 (brought_by from block)) room)
        go true good =
            let few = brought_few from block (used_few (is_last_of blocks number) number block good) in
            entered_leaves from block room (omega (arith, few, held_short reader room is, (reader_says reader room is).0))
        go false bad = nothing_leaves room

    -- the records at the room's front are those that the block gives
    pub turn_given : records_of logged_whole (whole_in next then) ≡ gave.given
    turn_given = rw turn_leaves.there turn_leaves.told

    -- it is not refused
    turn_stands : turned_to reader blocks number block room ≡ Ok next
    unfolding turned_to
    turn_stands = rw is refl

    -- the next turn's isn't either, where what the block gives fits
    next_is : Few gave → is_reader next then ≡ true
    next_is few =
        let roomy : ROOM ≤ length then = rw room_long (reader_says reader room is).0 in
        sym (reader_rests next then roomy (omega (arith, few.0)) (omega (arith, few.0))) ∙ lt-ltb gave.behind RECORD_MAX few.1

  -- all that a turn does
  pub turn_gives : (course : Course) → StandsAt reader room course
      → Gives reader number block (taken (is_last_of blocks number) number course block) (turned_to reader blocks number block room) then
  unfolding gave_to
  turn_gives course at =
      let last = is_last_of blocks number in
      rw (← at.stands)
      (let un : Unfinished from = rw at.stands at.unfinished in (
        turn_stands at.can_be,
        (
          turn_given at.can_be,
          (
            (turn_leaves at.can_be).there,
            record {
              can_be = next_is at.can_be (taken_few last number from block un);
              stands = (turn_leaves at.can_be).course (end_after reader.end number block gave);
              unfinished = taken_unfinished last number from block;
            },
          ),
        ),
      ))

-- ---- turn by turn

-- before the first block
pub first_stands : (room : List ℕ) → ROOM ≤ length room → StandsAt at_first room Seeking
unfolding course_in
first_stands room fits =
    record {
      can_be = sym (reader_rests at_first room fits (lit≤ tt) (lit≤ tt)) ∙ lt-ltb 0 RECORD_MAX (lit< tt);
      stands = refl;
      unfinished = tt;
    }

-- all that turns over so many blocks give
record AllGiven (turns : Turns) (records : List (List ℕ)) (n : ℕ) (end : End) : Type 0 where
  pub told : records_by_turn turns.gave ≡ records
  pub bytes : all_of turns.gave ≡ all_of records
  pub each : length turns.gave ≡ n
  pub ends : turns.reader.end ≡ end

-- the bytes of records behind records
all_both : (rs ss : List (List ℕ)) → all_of (rs ++ ss) ≡ all_of rs ++ all_of ss
unfolding all_of
all_both [] ss = refl
all_both (bytes ∷ rs) ss = rw (all_both rs ss) (sym (append_assoc bytes (all_of rs) (all_of ss)))

-- the last block is the one behind which there is none
last_of : (number n blocks : ℕ) → number + suc n ≡ blocks → eqb n 0 ≡ is_last_of blocks number
unfolding is_last_of
last_of number n blocks e = last_one number n blocks e

-- from a block on,
given_from : (n blocks number : ℕ) (reader : Reader) (room file : List ℕ) (course : Course) → number + n ≡ blocks → StandsAt reader room course
    → AllGiven (turned_from n blocks number reader room file) (read_from n number course file) n (end_from n number course reader.end file)
unfolding turned_from gone_on read_from end_from records_by_turn all_of
given_from zero blocks number reader room file course e at = record { told = refl; bytes = refl; each = refl; ends = refl }
given_from (suc n) blocks number reader room file course e at =
    let block = take BLOCK file in
    let gave = taken (is_last_of blocks number) number course block in
    let gives = turn_gives reader blocks number block room course at in
    let later =
    given_from n blocks (suc number) (reader_with reader number block gave) (room_after reader blocks number block room) (drop BLOCK file) gave.course
    (omega arith) gives.1.1.1 in
    rw (last_of number n blocks e, gives.0)
    (record {
      told = rw (gives.1.0, later.told) refl;
      bytes = rw (gives.1.1.0, later.bytes) (sym (all_both gave.given (read_from n (suc number) gave.course (drop BLOCK file))));
      each = ap suc later.each;
      ends = later.ends;
    })

module _ (room file : List ℕ) (fits : ROOM ≤ length room) where
  -- and from the first on
  all_given : AllGiven (turned_over room file) (records_read file) (length file / BLOCK) (end_in file)
  unfolding turned_over records_read end_in
  all_given = given_from (length file / BLOCK) (length file / BLOCK) 0 at_first room file Seeking (omega arith) (first_stands room fits)

  pub turns_read : (records_by_turn (turned_over room file).gave ≡ records_read file) × (all_of (turned_over room file).gave ≡ all_of (records_read file))
  turns_read = (all_given.told, all_given.bytes)

  -- each block has its turn: none is refused
  pub turns_all : length (turned_over room file).gave ≡ length file / BLOCK
  turns_all = all_given.each

  pub turns_end : (turned_over room file).reader.end ≡ end_in file
  turns_end = all_given.ends
