-- Taking a log up again, test by test, and a block made anew with fewer bytes.
use mathlib.Core.Path.{◌≡◌, refl, sym, ap, ◌∙◌}
use mathlib.Core.Bool.{true, false, ◌&&◌}
use mathlib.Core.List.{List, [], ◌++◌, append-nil}
use Prim.Native.Nat.{ℕ, ◌+◌, ◌-◌, ◌≤◌, ◌<◌}
use native.Mathlib.Omega.{arith}
use borrow.Author.Tests.{lt-ltb, le-ltb, le-leb, lt-leb, eq-eqb, ne_eqb, leb-true}
use lib.Dec.{leb, eqb}
use lib.ListN.{length, take, drop, length-take}
use lib.Seq.{length-take-le, take-take, take_all}
use Rattle.lists.specs.Bytes.{laid}
use Rattle.lists.proofs.Laid.{laid_eq}
use Rattle.lists.proofs.Cases.{both}
use Rattle.paper.specs.declared.Refusal.TheVariants.{BadCall}
use Rattle.blocks.specs.Block.{BLOCK, HEAD, PAYLOAD, NONE, block_of, number_in, used_in, place_in, payload_in, is_good}
use Rattle.blocks.specs.Sealed.{joined_to, sealed}
use Rattle.blocks.proofs.Blocks.{length_block}
use Rattle.blocks.proofs.Sealing.{is_sealed}
use Rattle.linklog.specs.declared.End.{End}
use Rattle.linklog.specs.Appending.{ROOM, may_be_last}
use Rattle.linklog.specs.TakenBack.{shortened}
use Rattle.linklog.specs.Taking.{empty_log, last_held, taken_up, may_shorten, took_back, room_back}
use Rattle.std.specs.Prelude.{Err}

-- ---- after a stop

module _ (blocks : ℕ) (block : List ℕ) where
  pub up_empty : blocks ≡ 0 → empty_log ≡ taken_up blocks block
  unfolding taken_up
  up_empty e = rw (eq-eqb blocks 0 e) refl

  pub up_bad : (blocks ≡ 0 → ⊥) → is_good true (blocks - 1) block ≡ false → Err BadCall ≡ taken_up blocks block
  unfolding taken_up
  up_bad some bad = rw (ne_eqb blocks 0 some, bad) refl

  pub up_good : (blocks ≡ 0 → ⊥) → is_good true (blocks - 1) block ≡ true → last_held blocks ≡ taken_up blocks block
  unfolding taken_up
  up_good some good = rw (ne_eqb blocks 0 some, good) refl

-- ---- whether the block at the front can hold the end

module _ (end : End) (room : List ℕ) where
  pub short_room : length room < ROOM → false ≡ may_shorten end room
  unfolding may_shorten
  short_room h = rw (lt-leb ROOM (length room) h) refl

  module _ (fits : ROOM ≤ length room) where
    pub other_block : may_be_last end.blocks (take BLOCK room) ≡ false → false ≡ may_shorten end room
    unfolding may_shorten
    other_block other = rw (le-leb ROOM (length room) fits, other) refl

    pub rests_with : (u : ℕ) → u ≡ used_in (take BLOCK room) → may_be_last end.blocks (take BLOCK room) ≡ true → leb end.used u ≡ may_shorten end room
    unfolding may_shorten
    rests_with u e last = rw (le-leb ROOM (length room) fits, last, ← e) refl

  pub shorten_says : may_shorten end room ≡ true
      → (ROOM ≤ length room) × ((end.used ≤ used_in (take BLOCK room)) × (used_in (take BLOCK room) ≤ PAYLOAD))
  unfolding may_shorten may_be_last
  shorten_says may =
      let used = both (leb ROOM (length room) && may_be_last end.blocks (take BLOCK room)) _ may in
      let last = both (leb ROOM (length room)) _ used.0 in
      let few = both (eqb (number_in (take BLOCK room) + 1) end.blocks) (leb (used_in (take BLOCK room)) PAYLOAD) last.1 in
      (leb-true _ _ last.0, (leb-true _ _ used.1, leb-true _ _ few.1))

  -- ---- what taking back answers

  pub back_empty : end.blocks ≡ 0 → (empty_log ≡ took_back end room) × (room ≡ room_back end room)
  unfolding took_back room_back
  back_empty e = rw (eq-eqb end.blocks 0 e) (refl, refl)

  module _ (some : end.blocks ≡ 0 → ⊥) where
    pub back_not : may_shorten end room ≡ false → (Err BadCall ≡ took_back end room) × (room ≡ room_back end room)
    unfolding took_back room_back
    back_not not_so = rw (ne_eqb end.blocks 0 some, not_so) (refl, refl)

    pub back_done : may_shorten end room ≡ true
        → (last_held end.blocks ≡ took_back end room)
        × (laid room 0 (shortened (end.blocks - 1) end.used (take BLOCK room)) ≡ room_back end room)
    unfolding took_back room_back
    back_done may = rw (ne_eqb end.blocks 0 some, may) (refl, refl)

-- ---- the block made anew

module _ (room : List ℕ) (number used : ℕ) (fits : ROOM ≤ length room) (numbered : number < 65536) (less : used ≤ used_in (take BLOCK room))
    (few : used_in (take BLOCK room) ≤ PAYLOAD) where
  abbrev block : List ℕ
  block = take BLOCK room

  long : length block ≡ BLOCK
  long = length-take-le BLOCK room (omega (arith, fits))

  -- its payload
  fewer : joined_to used [] block ≡ take used (payload_in block)
  unfolding joined_to payload_in
  fewer =
      ap (take PAYLOAD) (append-nil (take used (drop HEAD block)))
      ∙ take_all PAYLOAD (take used (drop HEAD block)) (rw (length-take used (drop HEAD block)) (omega (arith, less, few)))
      ∙ sym (take-take used (used_in block) (drop HEAD block) less)

  size : length (take used (payload_in block)) ≤ PAYLOAD
  size = rw (length-take used (payload_in block)) (omega (arith, less, few))

  pub made_anew : (place : ℕ) (part : List ℕ) → place < 65536 → part ≡ sealed number place used [] block
      → part ++ drop BLOCK room ≡ laid room 0 (block_of number place (take used (payload_in block)))
  made_anew place part placed e =
      let new = block_of number place (take used (payload_in block)) in
      let anew = is_sealed number place used [] block long (omega (arith, less, few)) (omega (arith, numbered)) (omega (arith, placed)) in
      let is : part ≡ new = e ∙ anew ∙ ap (block_of number place) fewer in
      let n : length new ≡ BLOCK = length_block number place (take used (payload_in block)) size in
      rw is (sym (rw n at (laid_eq room 0 new (omega (arith, n, fits)))))

  -- with the place of its first record, where that is left
  pub keeps_place : (p : ℕ) → p ≡ place_in block → p < used → block_of number p (take used (payload_in block)) ≡ shortened number used block
  unfolding shortened
  keeps_place p e below = rw (← e, lt-ltb p used below) refl

  pub loses_place : (p : ℕ) → p ≡ place_in block → used ≤ p → block_of number NONE (take used (payload_in block)) ≡ shortened number used block
  unfolding shortened
  loses_place p e above = rw (← e, le-ltb p used above) refl
