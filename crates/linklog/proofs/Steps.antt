-- What a block of a log gives, and where reading stands then.
-- Assumes nothing.
use mathlib.Core.Path.{◌≡◌, refl, sym, ap, ◌∙◌}
use mathlib.Core.Logic.{⊎_elim}
use mathlib.Core.Bool.{Bool, true, false}
use mathlib.Core.List.{List, [], ◌∷◌}
use Prim.Native.Nat.{ℕ, zero, suc, ◌+◌, ◌-◌, ◌*◌, ◌≤◌, ◌<◌}
use native.Mathlib.Omega.{arith}
use borrow.Author.Tests.{ne_eqb}
use lib.Dec.{lit<}
use lib.ListN.{length, take, drop}
use lib.Seq.{take-nil, drop-nil, take-add, take-append-le, drop-drop, drop-append_seam}
use Rattle.lists.specs.Places.{place}
use Rattle.lists.proofs.Cases.{lt_or_le, both}
use Rattle.records.specs.Walks.{size_of}
use Rattle.records.specs.Items.{all_of}
use Rattle.blocks.specs.Block.{PAYLOAD, NONE, place_in, payload_in}
use Rattle.linklog.specs.Records.{is_stray}
use Rattle.linklog.specs.Written.{marked_all, first_place, block_with}
use Rattle.linklog.specs.Reading.{Course, Seeking, Within, Gave, nothing, through, entered}
use Rattle.linklog.specs.Promises.{fit, sound}
use Rattle.linklog.proofs.Blocks.{place_with, payload_with, one_few}
use Rattle.linklog.proofs.Framing.{AreRecords}
use Rattle.linklog.proofs.Fits.{unfit, over, Short, fit_first, unfit_first, over_first, fit_none, unfit_none, over_none}
use Rattle.linklog.proofs.Fits.{over_short, fit_size_law, fit_told, over_told, unfit_are}
use Rattle.linklog.proofs.Marks.{bytes_part, place_front, place_none, place_last, place_next}
use Rattle.linklog.proofs.Kept.{kept, sound_both, sound_good, sound_bad, sound_more, kept_not, kept_fit, none_kept}

-- where there is a record
abbrev pub Unless : List (List ℕ) → Type 0 → Type 0
Unless [] P = Unit {0}
Unless (bytes ∷ rest) P = P

unless : {P : Type 0} (rs : List (List ℕ)) → P → Unless rs P
unless [] p = tt
unless (bytes ∷ rest) p = p

-- Where reading stands before a block: the first record that isn't done begins at this place of the records' bytes, and so many of
-- its bytes stand before the block. It has them, and they are sound; or it has none of them, and they aren't.
abbrev pub Held : (ℕ → Bool) → ℕ → ℕ → List (List ℕ) → Course → Type 0
Held good at off rs Seeking = Unless rs (0 < off → sound good at off ≡ false)
Held good at off rs (Within left) = (left ≡ take off (all_of rs)) × Unless rs (sound good at off ≡ true)

-- what so many bytes of records give: those that are kept of the ones that fit, and reading stands before the next
abbrev pub Stepped : (ℕ → Bool) → ℕ → ℕ → List (List ℕ) → Gave → Type 0
Stepped good at m rs gave =
    (gave.given ≡ kept good at (fit m rs)) × Held good (at + size_of (fit m rs)) (over m rs) (unfit m rs) gave.course

-- the beginning of a record has no length that no record has
pub left_right : (off : ℕ) (rs : List (List ℕ)) → Short off rs → AreRecords rs → is_stray (take off (all_of rs)) ≡ false
unfolding all_of is_stray
left_right off [] short are = rw (take-nil off) refl
left_right off (bytes ∷ rest) short are = rw (take-append-le off bytes (all_of rest) (omega arith)) (are.0.right off short)

module _ (good : ℕ → Bool) where
  -- ---- nothing is given

  -- the first isn't done
  none_step : (at m : ℕ) (bytes : List ℕ) (rest : List (List ℕ)) → m < length bytes → (0 < m → sound good at m ≡ false)
      → Stepped good at m (bytes ∷ rest) nothing
  unfolding kept size_of
  none_step at m bytes rest h bad =
      let here : at + 0 ≡ at = omega arith in
      rw (fit_none m bytes rest h, over_none m bytes rest h, unfit_none m bytes rest h, here) (refl, bad)

  -- there is none
  nil_step : (at m : ℕ) → Stepped good at m [] nothing
  unfolding kept fit unfit
  nil_step at m = (refl, tt)

  -- no byte is there
  zero_step : (at : ℕ) (rs : List (List ℕ)) → AreRecords rs → Stepped good at 0 rs nothing
  zero_step at [] are = nil_step at 0
  zero_step at (bytes ∷ rest) are = none_step at 0 bytes rest are.0.some (λ some. absurd (omega arith))

  -- the first is done, but not sound: then it is as with the others
  later_step : (at m : ℕ) (bytes : List ℕ) (rest : List (List ℕ)) (gave : Gave) → length bytes ≤ m → sound good at (length bytes) ≡ false
      → Stepped good (at + length bytes) (m - length bytes) rest gave → Stepped good at m (bytes ∷ rest) gave
  unfolding size_of
  later_step at m bytes rest gave h bad step =
      let on : at + (length bytes + size_of (fit (m - length bytes) rest)) ≡ at + length bytes + size_of (fit (m - length bytes) rest) = omega arith in
      rw (fit_first m bytes rest h, over_first m bytes rest h, unfit_first m bytes rest h, on, kept_not good at bytes (fit (m - length bytes) rest) bad) step

  -- the block is bad
  pub bad_step : (k at off : ℕ) (rs : List (List ℕ)) → AreRecords rs → Short off rs → at + off ≡ PAYLOAD * k → good k ≡ false
      → Stepped good at (off + PAYLOAD) rs nothing
  bad_step k at off rs are short e bad =
      let m = off + PAYLOAD in
      let all = fit_size_law m rs in (
        sym (none_kept good k bad m rs are at off short (omega arith) (omega arith)),
        unless (unfit m rs) (λ some. sound_bad good k (over m rs) (at + size_of (fit m rs)) bad some (omega arith) (omega arith)),
      )

  -- ---- records are read through

  through_sound : (at m : ℕ) (rs : List (List ℕ)) → AreRecords rs → sound good at m ≡ true → Stepped good at m rs (through (take m (all_of rs)))
  unfolding through
  through_sound at m rs are e =
      let all = fit_size_law m rs in
      let parts = both (sound good at (size_of (fit m rs))) (sound good (at + size_of (fit m rs)) (over m rs))
      (sym (sound_both good (size_of (fit m rs)) (over m rs) at) ∙ ap (sound good at) all ∙ e) in
      rw (fit_told m rs are, over_told m rs are, left_right (over m rs) (unfit m rs) (over_short m rs) (unfit_are m rs are))
      (sym (kept_fit good m rs at e), (refl, unless (unfit m rs) parts.1))

  through_none : (at m : ℕ) → Stepped good at m [] (through (take m (all_of [])))
  unfolding through kept fit unfit
  through_none at m = rw (fit_told m [] tt, over_told m [] tt, left_right (over m []) [] tt tt) (refl, (refl, tt))

-- ---- a good block

-- in no marks no record begins
no_place : (off : ℕ) → first_place (take PAYLOAD (drop off (marked_all []))) ≡ NONE
unfolding marked_all first_place place
no_place off = rw (drop-nil off) refl

-- behind the first record's bytes
drop_first : (bytes : List ℕ) (rest : List (List ℕ)) → drop (length bytes) (all_of (bytes ∷ rest)) ≡ all_of rest
unfolding all_of
drop_first bytes rest = drop-append_seam bytes (all_of rest)

-- a part of the first bytes
drop_take : {A : Type 0} (p n : ℕ) (l : List A) → p ≤ n → drop p (take n l) ≡ take (n - p) (drop p l)
drop_take zero n l h =
    let all : n - 0 ≡ n = omega arith in
    rw all
drop_take (suc p) zero l h = absurd (omega arith)
drop_take (suc p) (suc n) [] h = sym (take-nil (suc n - suc p))
drop_take (suc p) (suc n) (x ∷ l) h =
    let less : suc n - suc p ≡ n - p = omega arith in
    rw less (drop_take p n l (omega arith))

-- the block that stands behind so many bytes of records
abbrev pub block_behind : ℕ → ℕ → List (List ℕ) → List ℕ
block_behind number off rs = block_with number (take PAYLOAD (drop off (marked_all rs)))

module _ (number off : ℕ) (rs : List (List ℕ)) where
  pub here_payload : payload_in (block_behind number off rs) ≡ take PAYLOAD (drop off (all_of rs))
  here_payload =
      let marks = drop off (marked_all rs) in
      payload_with number (take PAYLOAD marks) (one_few marks) ∙ bytes_part PAYLOAD off rs

  pub here_place : place_in (block_behind number off rs) ≡ first_place (take PAYLOAD (drop off (marked_all rs)))
  here_place = let marks = drop off (marked_all rs) in place_with number (take PAYLOAD marks) (one_few marks)

  -- a record goes on in it
  goes_on_law : entered (Within (take off (all_of rs))) (block_behind number off rs) ≡ through (take (off + PAYLOAD) (all_of rs))
  unfolding entered
  goes_on_law = rw (here_payload, ← (take-add off PAYLOAD (all_of rs))) refl

  -- none begins in it
  begins_none : first_place (take PAYLOAD (drop off (marked_all rs))) ≡ NONE → entered Seeking (block_behind number off rs) ≡ nothing
  unfolding entered
  begins_none e = rw (here_place, e)

  -- one begins in it
  begins_at_law : (p : ℕ) → first_place (take PAYLOAD (drop off (marked_all rs))) ≡ p → p ≤ PAYLOAD
      → entered Seeking (block_behind number off rs) ≡ through (take (PAYLOAD - p) (drop (off + p) (all_of rs)))
  unfolding entered
  begins_at_law p e h =
      rw (here_place, e, ne_eqb p NONE (λ z. omega arith), here_payload, drop_take p PAYLOAD (drop off (all_of rs)) h, drop-drop p off (all_of rs))

module _ (good : ℕ → Bool) (k : ℕ) (fine : good k ≡ true) where
  -- the bytes before it are sound: so are those in it
  sound_on : (at off : ℕ) → at + off ≡ PAYLOAD * k → sound good at off ≡ true → sound good at (off + PAYLOAD) ≡ true
  sound_on at off e before =
      sound_both good off PAYLOAD at ∙ rw (before, sound_good good k PAYLOAD (at + off) fine (omega arith) (omega arith))

  -- reading has a record's beginning, and goes on with it
  within_step : (at off : ℕ) (rs : List (List ℕ)) (left : List ℕ) → AreRecords rs → at + off ≡ PAYLOAD * k → Held good at off rs (Within left)
      → Stepped good at (off + PAYLOAD) rs (entered (Within left) (block_behind k off rs))
  within_step at off [] left are e held = rw (held.0, goes_on_law k off []) (through_none good at (off + PAYLOAD))
  within_step at off (bytes ∷ rest) left are e held =
      rw (held.0, goes_on_law k off (bytes ∷ rest))
      (through_sound good at (off + PAYLOAD) (bytes ∷ rest) are (sound_on at off e held.1))

  -- the first has begun before the block, and its bytes there aren't sound
  module _ (at off : ℕ) (bytes : List ℕ) (some : 0 < off) (part : off < length bytes) (e : at + off ≡ PAYLOAD * k) (bad : sound good at off ≡ false) where
    spoilt : sound good at (length bytes) ≡ false
    spoilt = sound_more good off (length bytes) at bad (omega arith)

    -- it goes on to the block's end
    goes_past : (rest : List (List ℕ)) → AreRecords rest → off + PAYLOAD ≤ length bytes → Stepped good at (off + PAYLOAD) (bytes ∷ rest) nothing
    goes_past rest are long =
        let m = off + PAYLOAD in
        ⊎_elim
        (λ (h : m < length bytes). none_step good at m bytes rest h (λ _. sound_more good off m at bad (omega arith)))
        (λ (h : length bytes ≤ m).
        let none : m - length bytes ≡ 0 = omega arith in
        later_step good at m bytes rest nothing h spoilt (rw none (zero_step good (at + length bytes) rest are)))
        (lt_or_le m (length bytes))

    -- it ends before: it is the last, or the next begins there
    goes_out : (rest : List (List ℕ)) → AreRecords rest → length bytes < off + PAYLOAD
        → Stepped good at (off + PAYLOAD) (bytes ∷ rest) (entered Seeking (block_behind k off (bytes ∷ rest)))
    goes_out [] are ends =
        let m = off + PAYLOAD in
        rw (begins_none k off (bytes ∷ []) (place_last off PAYLOAD bytes some part))
        (later_step good at m bytes [] nothing (omega arith) spoilt (nil_step good (at + length bytes) (m - length bytes)))
    goes_out (next ∷ rest) are ends =
        let m = off + PAYLOAD in
        let gap = length bytes - off in
        let whole : off + gap ≡ length bytes = omega arith in
        let left : PAYLOAD - gap ≡ m - length bytes = omega arith in
        let begins = place_next off PAYLOAD bytes some part next rest (omega arith) are.0.some in
        rw (begins_at_law k off (bytes ∷ next ∷ rest) gap begins (omega arith), whole, left, drop_first bytes (next ∷ rest))
        (later_step good at m bytes (next ∷ rest) (through (take (m - length bytes) (all_of (next ∷ rest)))) (omega arith) spoilt
        (through_sound good (at + length bytes) (m - length bytes) (next ∷ rest) are
        (sound_good good k (m - length bytes) (at + length bytes) fine (omega arith) (omega arith))))

    inside_step : (rest : List (List ℕ)) → AreRecords rest
        → Stepped good at (off + PAYLOAD) (bytes ∷ rest) (entered Seeking (block_behind k off (bytes ∷ rest)))
    inside_step rest are =
        ⊎_elim
        (λ (ends : length bytes < off + PAYLOAD). goes_out rest are ends)
        (λ (long : off + PAYLOAD ≤ length bytes).
        rw (begins_none k off (bytes ∷ rest) (place_none off PAYLOAD bytes some part rest (omega arith))) (goes_past rest are long))
        (lt_or_le (length bytes) (off + PAYLOAD))

  -- reading looks for a record's beginning
  seeking_step : (at off : ℕ) (rs : List (List ℕ)) → AreRecords rs → Short off rs → at + off ≡ PAYLOAD * k → Held good at off rs Seeking
      → Stepped good at (off + PAYLOAD) rs (entered Seeking (block_behind k off rs))
  seeking_step at off [] are short e held = rw (begins_none k off [] (no_place off)) (nil_step good at (off + PAYLOAD))
  seeking_step at zero (bytes ∷ rest) are short e held =
      rw (begins_at_law k 0 (bytes ∷ rest) 0 (place_front PAYLOAD bytes rest (lit< tt) short) (omega arith))
      (through_sound good at PAYLOAD (bytes ∷ rest) are (sound_good good k PAYLOAD at fine (omega arith) (omega arith)))
  seeking_step at (suc off) (bytes ∷ rest) are short e held =
      inside_step at (suc off) bytes (omega arith) short e (held (omega arith)) rest are.1

  -- wherever reading stands before the block
  pub good_step : (at off : ℕ) (rs : List (List ℕ)) (course : Course) → AreRecords rs → Short off rs → at + off ≡ PAYLOAD * k
      → Held good at off rs course → Stepped good at (off + PAYLOAD) rs (entered course (block_behind k off rs))
  good_step at off rs Seeking are short e held = seeking_step at off rs are short e held
  good_step at off rs (Within left) are short e held = within_step at off rs left are e held
