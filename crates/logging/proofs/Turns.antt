-- A turn: the room's front is what the block brought, and the reader that it leaves can go on.
-- Assumes nothing.
use mathlib.Core.Path.{◌≡◌, refl, sym, ap, ◌∙◌}
use mathlib.Core.Bool.{Bool, true, false, cond}
use mathlib.Core.List.{List, [], ◌++◌}
use mathlib.Core.Logic.{⊎_elim}
use Prim.Native.Nat.{ℕ, ◌+◌, ◌≤◌, ◌<◌}
use native.Mathlib.Omega.{arith}
use borrow.Author.Tests.{le-leb, le-ltb, lt-ltb}
use lib.Dec.{ltb, eqb}
use lib.ListN.{length, take, drop, length-append, length-take, length-drop}
use lib.Seq.{drop-append-le, take_at}
use Rattle.lists.proofs.Cases.{choice, each, lt_or_le, true_not_false}
use Rattle.records.specs.Records.{LENGTH, announced}
use Rattle.records.specs.Desk.{CLOSE, CLOSE_SIZE, whole_by}
use Rattle.records.specs.Walks.{records_of, size_of, rest_of}
use Rattle.records.proofs.Framings.{records_none}
use Rattle.records.proofs.Rests.{size_first, size_within, rest_none, rest_has_none}
use Rattle.records.proofs.Desk.{announced_more}
use Rattle.blocks.specs.Block.{HEAD, PAYLOAD, NONE, used_in, place_in, payload_in}
use Rattle.linklog.specs.Records.{CUT, RECORD_MAX, needs_of, is_stray, logged_whole}
use Rattle.linklog.specs.Reading.{Course, Seeking, Within, Gave, nothing, through, entered}
use Rattle.linklog.specs.Turns.{is_within, brought_by}
use Rattle.linklog.proofs.Framing.{log_framing, stray_for, needs_for, whole_for, long_whole}
use Rattle.logging.proofs.Inputs.{needs_head, logged_head}

-- ---- the beginning of a record

-- of fewer bytes that are enough the same record is told
for_fewer : (a n m : ℕ) → 0 < whole_for a m → whole_for a m ≤ n → whole_for a n ≡ whole_for a m
for_fewer a n m =
    choice (λ (x : ℕ). 0 < x → x ≤ n → whole_for a n ≡ x) (stray_for a) (λ _ some. absurd (omega arith))
    (λ right. choice (λ (x : ℕ). 0 < x → x ≤ n → whole_for a n ≡ x) (ltb m (needs_for a)) (λ _ some. absurd (omega arith))
    (λ _ some enough. rw (right, le-ltb n (needs_for a) enough)))

module _ (left more : List ℕ) where
  whole_front : 0 < logged_whole (left ++ more) → logged_whole (left ++ more) ≤ length left → logged_whole left ≡ logged_whole (left ++ more)
  whole_front some fits =
      let head = logged_head (left ++ more) some in
      let long : LENGTH ≤ length left = omega arith in
      let all = long_whole (left ++ more) (omega (arith, length-append left more)) in
      let same = announced_more left more long in
      let here = long_whole left long in
      let told = all ∙ ap (λ (a : ℕ). whole_for a (length (left ++ more))) same in
      here ∙ for_fewer (announced left) (length left) (length (left ++ more)) (rw told at some) (rw told at fits) ∙ sym told

  stray_front : LENGTH ≤ length left → is_stray (left ++ more) ≡ is_stray left
  unfolding is_stray
  stray_front long =
      rw (
        announced_more left more long,
        le-leb LENGTH (length left) long,
        le-leb LENGTH (length (left ++ more)) (omega (arith, length-append left more)),
      ) refl

-- bytes of a record that isn't whole are fewer than a record can have
needs_few : (bytes : List ℕ) → LENGTH ≤ length bytes → is_stray bytes ≡ false → needs_of bytes ≤ RECORD_MAX
unfolding is_stray needs_of
needs_few bytes long right = rw (le-ltb (length bytes) LENGTH long) (go (eqb (announced bytes) CLOSE) refl)
  where
    go : (b : Bool) → eqb (announced bytes) CLOSE ≡ b → cond b CLOSE_SIZE (LENGTH + announced bytes) ≤ RECORD_MAX
    go true e = omega arith
    go false e =
        ⊎_elim
        (λ (many : CUT < announced bytes).
        absurd (true_not_false (rw (le-leb LENGTH (length bytes) long, lt-ltb CUT (announced bytes) many, e) at right)))
        (λ (few : announced bytes ≤ CUT). omega arith)
        (lt_or_le CUT (announced bytes))

part_short : (bytes : List ℕ) → logged_whole bytes ≡ 0 → is_stray bytes ≡ false → length bytes < RECORD_MAX
unfolding logged_whole whole_by
part_short bytes none right =
    ⊎_elim
    (λ (short : length bytes < LENGTH). omega arith)
    (λ (long : LENGTH ≤ length bytes).
    let few = needs_few bytes long right in
    ⊎_elim
    (λ (h : length bytes < needs_of bytes). omega arith)
    (λ (h : needs_of bytes ≤ length bytes). absurd (omega (arith, needs_head bytes, rw (right, le-ltb (length bytes) (needs_of bytes) h) at none)))
    (lt_or_le (length bytes) (needs_of bytes)))
    (lt_or_le (length bytes) LENGTH)

-- ---- where reading stands

-- what a course can be: the bytes that it has are the beginning of a record
abbrev pub CanBe : Course → Type 0
CanBe Seeking = Unit {0}
CanBe (Within left) = (logged_whole left ≡ 0) × (is_stray left ≡ false)

-- a block's payload behind it: what is left then is never long
module _ (left payload : List ℕ) (none : logged_whole left ≡ 0) (right : is_stray left ≡ false) (few : length payload ≤ PAYLOAD) where
  abbrev all : List ℕ
  all = left ++ payload

  -- where its length is none that a record has, that length begins in this payload
  stray_short : is_stray (rest_of logged_whole all) ≡ true → length (rest_of logged_whole all) < RECORD_MAX
  unfolding rest_of
  stray_short stray =
      ⊎_elim
      (λ (one : 0 < logged_whole all).
      let size = size_first log_framing all one in
      let over : length left < logged_whole all =
      ⊎_elim
      (λ (h : length left < logged_whole all). h)
      (λ (h : logged_whole all ≤ length left). absurd (omega (arith, whole_front left payload one h)))
      (lt_or_le (length left) (logged_whole all)) in
      omega (arith, length-drop (size_of (records_of logged_whole all)) all, length-append left payload))
      (λ (no : logged_whole all ≤ 0).
      let rest = rest_none logged_whole all (omega arith) in
      let short : length left < LENGTH =
      ⊎_elim
      (λ (h : length left < LENGTH). h)
      (λ (h : LENGTH ≤ length left). absurd (true_not_false (sym stray ∙ ap is_stray rest ∙ stray_front left payload h ∙ right)))
      (lt_or_le (length left) LENGTH) in
      omega (arith, ap length rest, length-append left payload))
      (lt_or_le 0 (logged_whole all))

  pub left_short : length (rest_of logged_whole all) < RECORD_MAX
  left_short = go (is_stray (rest_of logged_whole all)) refl
    where
      go : (b : Bool) → is_stray (rest_of logged_whole all) ≡ b → length (rest_of logged_whole all) < RECORD_MAX
      go true stray = stray_short stray
      go false whole = part_short (rest_of logged_whole all) (rest_has_none log_framing all) whole

-- the course by what a reader says of its room
abbrev pub course_from : Bool → ℕ → ℕ → List ℕ → Course
course_from within behind whole room = cond within (Within (take behind (drop whole room))) Seeking

-- ---- a good block

-- its payload is no longer than a payload
pub payload_few : (block : List ℕ) → used_in block ≤ PAYLOAD → length (payload_in block) ≤ PAYLOAD
unfolding payload_in
payload_few block few = rw (length-take (used_in block) (drop HEAD block)) (omega (arith, few))

-- of no bytes no record is told
pub none_whole : logged_whole [] ≡ 0
none_whole = omega (arith, log_framing.fits [])

-- what it gives, by the bytes that it brings
pub gives : (course : Course) (block : List ℕ) → (entered course block).given ≡ records_of logged_whole (brought_by course block)
unfolding entered brought_by through
gives Seeking block =
    each (λ (gave : Gave). gave.given) (records_of logged_whole) (eqb (place_in block) NONE) (sym (records_none logged_whole [] none_whole)) refl
gives (Within left) block = refl

-- the records and what is left are all
all_of : (bytes : List ℕ) → size_of (records_of logged_whole bytes) + length (rest_of logged_whole bytes) ≡ length bytes
unfolding rest_of
all_of bytes = omega (arith, length-drop (size_of (records_of logged_whole bytes)) bytes, size_within log_framing bytes)

pub size_brought : (course : Course) (block : List ℕ) → size_of (entered course block).given + (entered course block).behind ≡ length (brought_by course block)
unfolding entered brought_by through size_of
size_brought Seeking block =
    each (λ (gave : Gave). size_of gave.given + gave.behind) length (eqb (place_in block) NONE) refl (all_of (drop (place_in block) (payload_in block)))
size_brought (Within left) block = all_of (left ++ payload_in block)

-- how much is left of them
pub behind_short : (course : Course) (block : List ℕ) → CanBe course → used_in block ≤ PAYLOAD → (entered course block).behind < RECORD_MAX
unfolding entered through rest_of
behind_short Seeking block can few =
    choice (λ (gave : Gave). gave.behind < RECORD_MAX) (eqb (place_in block) NONE) (λ _. omega arith)
    (λ _.
    let bytes = drop (place_in block) (payload_in block) in
    omega (arith, length-drop (size_of (records_of logged_whole bytes)) bytes, length-drop (place_in block) (payload_in block), payload_few block few))
behind_short (Within left) block can few = left_short left (payload_in block) can.0 can.1 (payload_few block few)

-- and where reading stands then
through_stands : (bytes : List ℕ) → CanBe (through bytes).course
unfolding through
through_stands bytes = go (is_stray (rest_of logged_whole bytes)) refl
  where
    go : (b : Bool) → is_stray (rest_of logged_whole bytes) ≡ b → CanBe (cond b Seeking (Within (rest_of logged_whole bytes)))
    go true stray = tt
    go false whole = (rest_has_none log_framing bytes, whole)

pub entered_stands : (course : Course) (block : List ℕ) → CanBe (entered course block).course
unfolding entered
entered_stands Seeking block =
    choice (λ (gave : Gave). CanBe gave.course) (eqb (place_in block) NONE) (λ _. tt) (λ _. through_stands (drop (place_in block) (payload_in block)))
entered_stands (Within left) block = through_stands (left ++ payload_in block)

-- the bytes of a record that isn't whole stand behind those that are
through_within : (bytes behind : List ℕ)
    → course_from (is_within (through bytes).course) (through bytes).behind (size_of (through bytes).given) (bytes ++ behind) ≡ (through bytes).course
unfolding through rest_of is_within
through_within bytes behind =
    let size = size_of (records_of logged_whole bytes) in
    let rest = drop size bytes in
    let here : take (length rest) (drop size (bytes ++ behind)) ≡ rest =
    rw (drop-append-le size bytes behind (size_within log_framing bytes)) (take_at rest behind (length rest) refl) in
    choice (λ (course : Course). course_from (is_within course) (length rest) size (bytes ++ behind) ≡ course) (is_stray rest) (λ _. refl)
    (λ _. ap Within here)

nothing_within : (room : List ℕ) → course_from (is_within nothing.course) nothing.behind (size_of nothing.given) room ≡ nothing.course
unfolding is_within
nothing_within room = refl

pub entered_within : (course : Course) (block behind : List ℕ)
    → course_from (is_within (entered course block).course) (entered course block).behind (size_of (entered course block).given)
    (brought_by course block ++ behind)
    ≡ (entered course block).course
unfolding entered brought_by
entered_within Seeking block behind = go (eqb (place_in block) NONE)
  where
    bytes : List ℕ
    bytes = drop (place_in block) (payload_in block)

    gave : Bool → Gave
    gave none = cond none nothing (through bytes)

    go : (none : Bool)
        → course_from (is_within (gave none).course) (gave none).behind (size_of (gave none).given) (cond none [] bytes ++ behind) ≡ (gave none).course
    go true = nothing_within behind
    go false = through_within bytes behind
entered_within (Within left) block behind = through_within (left ++ payload_in block) behind
