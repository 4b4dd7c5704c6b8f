-- What a turn gives to be told: the lines of the records that the block gave.
-- Assumes nothing.
use mathlib.Core.Path.{◌≡◌, refl, sym, ap, ◌∙◌}
use mathlib.Core.Bool.{Bool, true, false, cond}
use mathlib.Core.List.{List, [], map}
use Prim.Native.Nat.{ℕ, ◌+◌, ◌≤◌, min}
use native.Mathlib.Omega.{arith}
use lib.Dec.{eqb}
use lib.ListN.{length, take, drop, length-append, length-take, length-drop}
use lib.Seq.{take_all, take-nil}
use Rattle.lists.proofs.Cases.{choice, true_not_false}
use Rattle.lists.proofs.Laid.{front, length_laid}
use Rattle.paper.specs.declared.Refusal.{Refusal}
use Rattle.records.specs.Walks.{size_of}
use Rattle.records.specs.Items.{items_in}
use Rattle.records.proofs.Framings.{records_none}
use Rattle.blocks.specs.Block.{PAYLOAD, NONE, used_in, place_in, payload_in, is_good}
use Rattle.blocks.proofs.Judged.{good_says, uses_le}
use Rattle.linklog.specs.declared.Reader.{Reader}
use Rattle.linklog.specs.Records.{logged_whole, entry_in}
use Rattle.linklog.specs.Reading.{Seeking, Within, Gave, nothing, entered, taken}
use Rattle.linklog.specs.Appending.{ROOM}
use Rattle.linklog.specs.Turns.{at_first, is_reader, is_last_of, course_in, brought_by, gave_to, reader_with, turned_to, room_after}
use Rattle.linklog.proofs.Readers.{reader_says, no_reader, good_turn}
use Rattle.logging.specs.Lines.{lines_of, said_of}
use Rattle.logging.specs.Reading.{text_of, told_with, told_by}
use Rattle.logging.proofs.Turns.{payload_few, none_whole, gives, size_brought}
use Rattle.std.specs.Prelude.{Result, Ok, Err}

-- ---- what is brought

within_few : (left block : List ℕ) → length (payload_in block) ≤ PAYLOAD → length (brought_by (Within left) block) ≤ length left + PAYLOAD
unfolding brought_by
within_few left block few = rw (length-append left (payload_in block)) (omega (arith, few))

seeking_few : (block : List ℕ) → length (payload_in block) ≤ PAYLOAD → length (brought_by Seeking block) ≤ PAYLOAD
unfolding brought_by
seeking_few block few =
    choice (λ (bytes : List ℕ). length bytes ≤ PAYLOAD) (eqb (place_in block) NONE) (λ _. omega arith)
    (λ _. omega (arith, few, length-drop (place_in block) (payload_in block)))

-- ---- what is answered

-- the reader of an answer
abbrev standing : Result Reader Refusal → Reader
standing (Ok next) = next
standing (Err why) = at_first

-- whether there is one
abbrev stood : Result Reader Refusal → Bool
stood (Ok next) = true
stood (Err why) = false

module _ (reader : Reader) (blocks number : ℕ) (block room : List ℕ) where
  abbrev gave : Gave
  gave = gave_to reader blocks number block room

  abbrev then : List ℕ
  then = room_after reader blocks number block room

  abbrev answer : Result Reader Refusal
  answer = turned_to reader blocks number block room

  is_reader_law : (next : Reader) → Ok next ≡ answer → is_reader reader room ≡ true
  is_reader_law next e = go (is_reader reader room) refl
    where
      go : (b : Bool) → is_reader reader room ≡ b → is_reader reader room ≡ true
      go true is = is
      go false not = absurd (true_not_false (ap stood (e ∙ sym (no_reader reader blocks number block room not).0)))

  not_reader : (why : Refusal) → Err why ≡ answer → is_reader reader room ≡ false
  unfolding turned_to
  not_reader why e = go (is_reader reader room) refl
    where
      go : (b : Bool) → is_reader reader room ≡ b → is_reader reader room ≡ false
      go true is =
          let one : answer ≡ Ok (reader_with reader number block gave) = rw is refl in
          absurd (true_not_false (sym (ap stood (e ∙ one))))
      go false not = not

  next_is : (next : Reader) → is_reader reader room ≡ true → Ok next ≡ answer → next ≡ reader_with reader number block gave
  unfolding turned_to
  next_is next is e = ap standing e ∙ rw is refl

  -- ---- what is there to be told

  module _ (is : is_reader reader room ≡ true) where
    module _ (good : is_good (is_last_of blocks number) number block ≡ true) where
      pub gave_good : gave ≡ entered (course_in reader room) block
      unfolding gave_to taken
      gave_good = rw good refl

      pub few : used_in block ≤ PAYLOAD
      few = uses_le (is_last_of blocks number) (used_in block) (good_says (is_last_of blocks number) number block good).3

      -- what is brought has room
      pub brought_few : length (brought_by (course_in reader room) block) ≤ ROOM
      unfolding course_in
      brought_few = go reader.within
        where
          payload : length (payload_in block) ≤ PAYLOAD
          payload = payload_few block few

          part : List ℕ
          part = take reader.behind (drop reader.whole room)

          go : (b : Bool) → length (brought_by (cond b (Within part) Seeking) block) ≤ ROOM
          go true = omega (arith, within_few part block payload, length-take reader.behind (drop reader.whole room), reader_says reader room is)
          go false = omega (arith, seeking_few block payload)

      abbrev brought : List ℕ
      brought = brought_by (course_in reader room) block

      front_good : take (length brought) then ≡ brought
      front_good =
          rw (← (good_turn reader blocks number block room is good).1)
          (front room brought (omega (arith, brought_few, (reader_says reader room is).0)))

      text_good : (n : ℕ) → n ≡ min (size_of gave.given + gave.behind) (length then) → said_of (take ROOM (take n then)) ≡ lines_of (map entry_in gave.given)
      unfolding said_of items_in
      text_good n e =
          let long : length then ≡ length room = rw (← (good_turn reader blocks number block room is good).1) (length_laid room 0 brought) in
          let sum : size_of gave.given + gave.behind ≡ length brought = rw gave_good (size_brought (course_in reader room) block) in
          let size : n ≡ length brought = omega (arith, e, sum, brought_few, long, (reader_says reader room is).0) in
          rw (size, front_good, take_all ROOM brought brought_few, gave_good, gives (course_in reader room) block) refl

    module _ (bad : is_good (is_last_of blocks number) number block ≡ false) where
      pub gave_bad : gave ≡ nothing
      unfolding gave_to taken
      gave_bad = rw bad refl

      text_bad : (n : ℕ) → n ≡ min (size_of gave.given + gave.behind) (length then) → said_of (take ROOM (take n then)) ≡ lines_of (map entry_in gave.given)
      unfolding said_of items_in size_of lines_of
      text_bad n e =
          let none : n ≡ 0 = omega (arith, rw gave_bad at e) in
          rw (none, gave_bad, take-nil ROOM, records_none logged_whole [] none_whole) refl

    -- the whole records at the front of what the block brought are those that it gave
    text_is : (n : ℕ) → n ≡ min (size_of gave.given + gave.behind) (length then) → said_of (take ROOM (take n then)) ≡ text_of reader blocks number block room
    unfolding text_of
    text_is n e = rw is (go (is_good (is_last_of blocks number) number block) refl)
      where
        go : (b : Bool) → is_good (is_last_of blocks number) number block ≡ b → said_of (take ROOM (take n then)) ≡ lines_of (map entry_in gave.given)
        go true good = text_good good n e
        go false bad = text_bad bad n e

    -- they have room
    gave_few : size_of gave.given + gave.behind ≤ ROOM
    unfolding size_of
    gave_few = go (is_good (is_last_of blocks number) number block) refl
      where
        go : (b : Bool) → is_good (is_last_of blocks number) number block ≡ b → size_of gave.given + gave.behind ≤ ROOM
        go true good = rw (gave_good good) (omega (arith, size_brought (course_in reader room) block, brought_few good))
        go false bad = rw (gave_bad bad) (omega arith)

  -- ---- the answer, and what is told

  module _ (next : Reader) (e : Ok next ≡ answer) where
    abbrev is_one : is_reader reader room ≡ true
    is_one = is_reader_law next e

    pub told_few : next.whole + next.behind ≤ ROOM
    told_few = rw (next_is next is_one e) (gave_few is_one)

    pub told_text : (n : ℕ) → n ≡ min (next.whole + next.behind) (length then) → said_of (take ROOM (take n then)) ≡ text_of reader blocks number block room
    told_text n f = text_is is_one n (rw (next_is next is_one e) at f)

    pub told_lines : (n : ℕ) → n ≡ length (text_of reader blocks number block room)
        → Ok (record { reader = next; laid = n }) ≡ told_by reader blocks number block room
    unfolding told_by told_with
    told_lines n f = rw (← e, f) refl

  module _ (why : Refusal) (e : Err why ≡ answer) where
    pub told_none : text_of reader blocks number block room ≡ []
    unfolding text_of
    told_none = rw (not_reader why e) refl

    pub told_refused : Err why ≡ told_by reader blocks number block room
    unfolding told_by told_with
    told_refused = rw (← e) refl
