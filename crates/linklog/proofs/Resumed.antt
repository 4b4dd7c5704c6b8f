-- What `take_up` and `take_back` answer for a log's own blocks, and what the host's file is then.
use mathlib.Core.Path.{◌≡◌, refl, sym, subst, ap, ◌∙◌}
use mathlib.Core.Bool.{Bool, true, false, cond}
use mathlib.Core.List.{List, [], ◌++◌}
use Prim.Native.Nat.{ℕ, zero, suc, ◌+◌, ◌-◌, ◌*◌, ◌/◌, ◌≤◌}
use native.Mathlib.Omega.{arith}
use borrow.Author.Tests.{eq-eqb, ne_eqb, eqb-false, le-leb}
use lib.Dec.{eqb}
use lib.ListN.{length, take, drop, length-append, length-take, length-drop}
use lib.Seq.{drop-drop, length-take-le, drop-append_seam, take-take}
use Rattle.lists.proofs.Laid.{front, length_laid}
use Rattle.blocks.specs.Block.{BLOCK, PAYLOAD, number_in, used_in, payload_in, is_good}
use Rattle.blocks.proofs.Blocks.{length_block}
use Rattle.blocks.proofs.Judged.{good_says, uses_le}
use Rattle.linklog.specs.declared.End.{End}
use Rattle.linklog.specs.Written.{blocks_in, written}
use Rattle.linklog.specs.Reading.{BLOCKS_MAX, Course, Seeking, taken}
use Rattle.linklog.specs.Appending.{ROOM, may_be_last, last_block}
use Rattle.linklog.specs.TakenBack.{no_end, end_after, end_from, end_in, shortened, cut_at, taken_back}
use Rattle.linklog.specs.Taking.{empty_log, last_held, taken_up, may_shorten, took_back, room_back}
use Rattle.linklog.specs.Promises.{Holds, block_at, good_at}
use Rattle.linklog.proofs.Taking.{up_good, back_empty, back_done}
use Rattle.linklog.proofs.Front.{unchanged_good}
use Rattle.linklog.proofs.Flash as flash

-- ---- the block that an end names can hold it

-- a block that gives a record is good
pub gives_good : (last : Bool) (number : ℕ) (course : Course) (block : List ℕ) → (length (taken last number course block).given ≡ 0 → ⊥)
    → is_good last number block ≡ true
unfolding taken
gives_good last number course block some = go (is_good last number block) refl
  where
    go : (t : Bool) → is_good last number block ≡ t → is_good last number block ≡ true
    go true e = e
    go false e = absurd (some (rw e refl))

none_on : (number : ℕ) (course : Course) (end : End) (file : List ℕ) → end_from zero number course end file ≡ end
unfolding end_from
none_on number course end file = refl

abbrev pub block_of_end : End → List ℕ → List ℕ
block_of_end end file = take BLOCK (drop (BLOCK * (end.blocks - 1)) file)

pub record Fits (block : List ℕ) (end : End) : Type 0 where
  pub long : length block ≡ BLOCK
  pub numbered : number_in block + 1 ≡ end.blocks
  pub few : used_in block ≤ PAYLOAD
  pub less : end.used ≤ used_in block

abbrev CanHold : List ℕ → End → Type 0
CanHold file end = (end.blocks ≡ 0 → ⊥) → Fits (block_of_end end file) end

module _ (file : List ℕ) where
  after : (last : Bool) (number : ℕ) (course : Course) (end : End) → CanHold file end
      → let block = take BLOCK (drop (BLOCK * number) file) in CanHold file (end_after end number block (taken last number course block))
  unfolding end_after
  after last number course end held =
      let block = take BLOCK (drop (BLOCK * number) file) in
      let gave = taken last number course block in
      go (eqb (length gave.given) 0) refl
    where
      go : (t : Bool) → eqb (length (taken last number course (take BLOCK (drop (BLOCK * number) file))).given) 0 ≡ t
          → CanHold file (cond t end (record {
            blocks = suc number;
            used = used_in (take BLOCK (drop (BLOCK * number) file))
                - (taken last number course (take BLOCK (drop (BLOCK * number) file))).behind;
          }))
      go true e = held
      go false e = λ some.
          let block = take BLOCK (drop (BLOCK * number) file) in
          let says = good_says last number block (gives_good last number course block (eqb-false _ 0 e)) in
          let same : suc number - 1 ≡ number = omega arith in
          rw same (record { long = says.0; numbered = rw says.2 (omega arith); few = uses_le last (used_in block) says.3; less = omega arith })

  one_on : (n number : ℕ) (course : Course) (end : End) →
      let block = take BLOCK (drop (BLOCK * number) file) in
      let gave = taken (eqb n 0) number course block in
      end_from (suc n) number course end (drop (BLOCK * number) file)
      ≡ end_from n (suc number) gave.course (end_after end number block gave) (drop (BLOCK * suc number) file)
  unfolding end_from
  one_on n number course end =
      let next : BLOCK * number + BLOCK ≡ BLOCK * suc number = omega arith in
      rw (drop-drop BLOCK (BLOCK * number) file, next) refl

  from : (n number : ℕ) (course : Course) (end : End) → CanHold file end → CanHold file (end_from n number course end (drop (BLOCK * number) file))
  from zero number course end held = subst (CanHold file) (sym (none_on number course end (drop (BLOCK * number) file))) held
  from (suc n) number course end held =
      let block = take BLOCK (drop (BLOCK * number) file) in
      let gave = taken (eqb n 0) number course block in
      subst (CanHold file) (sym (one_on n number course end))
      (from n (suc number) gave.course (end_after end number block gave) (after (eqb n 0) number course end held))

  pub end_fits : CanHold file (end_in file)
  unfolding end_in
  end_fits = from (length file / BLOCK) 0 Seeking no_end (λ some. absurd (some refl))

-- ---- taken back

-- the block at the room's front is the one that holds the end: it is made anew, the file with it in its place is taken back, and the writer can go on
module _ (file room : List ℕ) (fits : ROOM ≤ length room) where
  abbrev end : End
  end = end_in file

  pub back_none : end.blocks ≡ 0 → (took_back end room ≡ empty_log) × ((room_back end room ≡ room) × (taken_back file ≡ []))
  unfolding taken_back cut_at
  back_none none =
      let empty = back_empty end room none in
      (sym empty.0, (sym empty.1, rw (eq-eqb end.blocks 0 none) refl))

  module _ (some : end.blocks ≡ 0 → ⊥) (lent : take BLOCK room ≡ block_of_end end file) where
    can : Fits (take BLOCK room) end
    can = rw lent (end_fits file some)

    may : may_shorten end room ≡ true
    unfolding may_shorten may_be_last
    may =
        rw (
          le-leb ROOM (length room) fits,
          eq-eqb (number_in (take BLOCK room) + 1) end.blocks can.numbered,
          le-leb (used_in (take BLOCK room)) PAYLOAD can.few,
          le-leb end.used (used_in (take BLOCK room)) can.less,
        ) refl

    abbrev anew : List ℕ
    anew = shortened (end.blocks - 1) end.used (take BLOCK room)

    size : length anew ≡ BLOCK
    unfolding shortened
    size =
        length_block (end.blocks - 1) _ (take end.used (payload_in (take BLOCK room)))
        (rw (length-take end.used (payload_in (take BLOCK room))) (omega (arith, can.few, can.less)))

    back_room_law : take BLOCK (room_back end room) ≡ anew
    back_room_law = rw (← (back_done end room some may).1) (rw size at (front room anew (omega (arith, size, fits))))

    pub back_so : (took_back end room ≡ last_held end.blocks) × (take (BLOCK * (end.blocks - 1)) file ++ take BLOCK (room_back end room) ≡ taken_back file)
    unfolding taken_back cut_at
    back_so = (sym (back_done end room some may).0, rw (back_room_law, ne_eqb end.blocks 0 some, lent) refl)

    whole : length (take (BLOCK * (end.blocks - 1)) file) ≡ BLOCK * (end.blocks - 1)
    whole =
        let there = (end_fits file some).long in
        let cut = length-take BLOCK (drop (BLOCK * (end.blocks - 1)) file) in
        length-take-le (BLOCK * (end.blocks - 1)) file (omega (arith, there, cut, length-drop (BLOCK * (end.blocks - 1)) file))

    counted : length (taken_back file) / BLOCK ≡ end.blocks
    counted =
        let all = sym (ap length back_so.1) ∙ length-append (take (BLOCK * (end.blocks - 1)) file) (take BLOCK (room_back end room)) in
        let last : length (take BLOCK (room_back end room)) ≡ BLOCK = ap length back_room_law ∙ size in
        omega (arith, all, whole, last, some)

    pub back_holds : Holds (taken_back file) (record { blocks = end.blocks; held = 1 }) (room_back end room)
    unfolding last_block
    back_holds =
        let long : length (room_back end room) ≡ length room = sym (ap length (back_done end room some may).1) ∙ length_laid room 0 anew in
        let seam = drop-append_seam (take (BLOCK * (end.blocks - 1)) file) (take BLOCK (room_back end room)) in
        let last : take BLOCK (room_back end room) ≡ last_block (taken_back file) =
        rw (counted, ← back_so.1) (sym (ap (take BLOCK) (rw whole at seam) ∙ take-take BLOCK BLOCK (room_back end room) (omega arith))) in
        rw counted at (flash.taken_up_law (taken_back file) (room_back end room) (omega (arith, long, fits)) (λ any. last))

-- ---- taken up

-- the last block of a written log is good, and is taken up
pub up_so : (rs : List (List ℕ)) → blocks_in rs ≤ BLOCKS_MAX → (length (written rs) / BLOCK ≡ 0 → ⊥)
    → taken_up (length (written rs) / BLOCK) (last_block (written rs)) ≡ last_held (length (written rs) / BLOCK)
unfolding good_at block_at last_block
up_so rs few some =
    let n = length (written rs) / BLOCK in
    let good = unchanged_good rs few (written rs) refl (n - 1) (omega (arith, some)) refl in
    sym (up_good n (last_block (written rs)) some (rw (eq-eqb (suc (n - 1)) n (omega (arith, some))) at good))
