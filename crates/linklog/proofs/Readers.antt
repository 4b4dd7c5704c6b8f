-- What a reader may say of its room, test by test.
use mathlib.Core.Path.{◌≡◌, refl, sym}
use mathlib.Core.Bool.{Bool, true, false, ◌&&◌}
use mathlib.Core.List.{List}
use Prim.Native.Nat.{ℕ, suc, ◌-◌, ◌≤◌, ◌<◌}
use native.Mathlib.Omega.{arith}
use borrow.Author.Tests.{le-leb, leb-true, ltb-true, eq-eqb, ne_eqb, eqb-true, eqb-false}
use lib.Dec.{ltb, leb, eqb}
use lib.ListN.{length}
use Rattle.lists.proofs.Cases.{both}
use Rattle.lists.specs.Bytes.{laid}
use Rattle.paper.specs.declared.Refusal.TheVariants.{BadCall}
use Rattle.blocks.specs.Block.{is_good}
use Rattle.linklog.specs.declared.Reader.{Reader}
use Rattle.linklog.specs.Records.{RECORD_MAX}
use Rattle.linklog.specs.Reading.{nothing, entered, taken}
use Rattle.linklog.specs.TakenBack.{end_after}
use Rattle.linklog.specs.Appending.{ROOM}
use Rattle.linklog.specs.Turns.{is_reader, is_last_of, course_in, brought_by, gave_to, reader_at, reader_with, turned_to, room_after}
use Rattle.std.specs.Prelude.{Ok, Err}

module _ (reader : Reader) (room : List ℕ) where
  module _ (fits : ROOM ≤ length room) where
    module _ (whole : reader.whole ≤ ROOM) where
      pub reader_rests : reader.behind ≤ ROOM - reader.whole → ltb reader.behind RECORD_MAX ≡ is_reader reader room
      unfolding is_reader
      reader_rests h = rw (le-leb ROOM (length room) fits, le-leb reader.whole ROOM whole, le-leb reader.behind (ROOM - reader.whole) h) refl

  -- and what a reader that may be says
  pub reader_says : is_reader reader room ≡ true
      → (ROOM ≤ length room) × ((reader.whole ≤ ROOM) × ((reader.behind ≤ ROOM - reader.whole) × (reader.behind < RECORD_MAX)))
  unfolding is_reader
  reader_says e =
      let last = both (leb ROOM (length room) && leb reader.whole ROOM && leb reader.behind (ROOM - reader.whole)) _ e in
      let third = both (leb ROOM (length room) && leb reader.whole ROOM) _ last.0 in
      let two = both (leb ROOM (length room)) _ third.0 in
      (leb-true _ _ two.0, (leb-true _ _ two.1, (leb-true _ _ third.1, ltb-true _ _ last.1)))

-- ---- the last block

pub last_is : (blocks number : ℕ) → (blocks ≡ 0 → ⊥) → eqb number (blocks - 1) ≡ is_last_of blocks number
unfolding is_last_of
last_is blocks number some = go (eqb number (blocks - 1)) refl
  where
    go : (t : Bool) → eqb number (blocks - 1) ≡ t → t ≡ eqb (suc number) blocks
    go true e = let is = eqb-true number (blocks - 1) e in sym (eq-eqb (suc number) blocks (omega (arith, is, some)))
    go false e = let no = eqb-false number (blocks - 1) e in sym (ne_eqb (suc number) blocks (λ z. no (omega (arith, z))))

-- ---- a turn

module _ (reader : Reader) (blocks number : ℕ) (block room : List ℕ) where
  pub no_reader : is_reader reader room ≡ false
      → (Err BadCall ≡ turned_to reader blocks number block room) × (room ≡ room_after reader blocks number block room)
  unfolding turned_to room_after
  no_reader e = rw e (refl, refl)

  module _ (is : is_reader reader room ≡ true) where
    pub bad_turn : is_good (is_last_of blocks number) number block ≡ false
        → (Ok (reader_at reader.end nothing) ≡ turned_to reader blocks number block room) × (room ≡ room_after reader blocks number block room)
    unfolding turned_to room_after gave_to taken end_after
    bad_turn bad = rw (is, bad) (refl, refl)

    pub good_turn : is_good (is_last_of blocks number) number block ≡ true
        → (Ok (reader_with reader number block (entered (course_in reader room) block)) ≡ turned_to reader blocks number block room)
        × (laid room 0 (brought_by (course_in reader room) block) ≡ room_after reader blocks number block room)
    unfolding turned_to room_after gave_to taken
    good_turn good = rw (is, good) (refl, refl)
