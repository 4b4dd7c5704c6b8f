-- A call for a number that can't be a log's or a reader's, and for one that can.
use mathlib.Core.Path.{◌≡◌, refl}
use mathlib.Core.List.{List}
use Prim.Native.Nat.{ℕ, ◌≤◌, ◌<◌}
use borrow.Author.Tests.{lt-ltb, le-ltb}
use Rattle.paper.specs.Refusals.{refusal_number}
use Rattle.paper.specs.declared.Refusal.TheVariants.{BadCall}
use Rattle.linklog.specs.Appending.{answer_for, room_then}
use Rattle.linklog.specs.Turns.{turned_to, room_after}
use Rattle.linklog.specs.Taking.{took_back, room_back}
use Rattle.log_face.specs.Words.{LOGS, READS, log_in, log_number, append_number, append_room, read_in}
use Rattle.log_face.specs.Words.{read_number, turn_number, turn_room, back_number, back_room, refused_as}

module _ (word : ℕ) (room bytes : List ℕ) where
  pub no_log : LOGS ≤ word → (refused_as (refusal_number BadCall) ≡ append_number word room bytes) × (room ≡ append_room word room bytes)
  unfolding append_number append_room
  no_log h = rw (le-ltb word LOGS h) (refl, refl)

  pub a_log : word < LOGS
      → (log_number (answer_for (log_in word) room bytes) ≡ append_number word room bytes) × (room_then (log_in word) room bytes ≡ append_room word room bytes)
  unfolding append_number append_room
  a_log h = rw (lt-ltb word LOGS h) (refl, refl)

module _ (word : ℕ) (room : List ℕ) where
  pub no_reader : (blocks number : ℕ) (block : List ℕ) → READS ≤ word
      → (refused_as (refusal_number BadCall) ≡ turn_number word blocks number block room) × (room ≡ turn_room word blocks number block room)
  unfolding turn_number turn_room
  no_reader blocks number block h = rw (le-ltb word READS h) (refl, refl)

  pub a_reader : (blocks number : ℕ) (block : List ℕ) → word < READS
      → (read_number (turned_to (read_in word) blocks number block room) ≡ turn_number word blocks number block room)
      × (room_after (read_in word) blocks number block room ≡ turn_room word blocks number block room)
  unfolding turn_number turn_room
  a_reader blocks number block h = rw (lt-ltb word READS h) (refl, refl)

  pub no_back : READS ≤ word → (refused_as (refusal_number BadCall) ≡ back_number word room) × (room ≡ back_room word room)
  unfolding back_number back_room
  no_back h = rw (le-ltb word READS h) (refl, refl)

  pub a_back : word < READS
      → (log_number (took_back (read_in word).end room) ≡ back_number word room) × (room_back (read_in word).end room ≡ back_room word room)
  unfolding back_number back_room
  a_back h = rw (lt-ltb word READS h) (refl, refl)
