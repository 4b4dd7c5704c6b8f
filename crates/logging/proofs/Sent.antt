-- What goes out for entries at once is the log of those that fit.
-- Assumes nothing.
use mathlib.Core.Path.{◌≡◌, refl, sym, ap, subst, ◌∙◌}
use mathlib.Core.Bool.{Bool, true, false, cond}
use mathlib.Core.List.{List, [], ◌∷◌, ◌++◌, map, map-append, append_assoc, append-nil}
use mathlib.Core.Logic.{⊎_elim}
use Prim.Native.Nat.{ℕ, ◌+◌, ◌-◌, ◌*◌, ◌≤◌, ◌<◌}
use native.Mathlib.Omega.{arith}
use borrow.Author.Tests.{lt-ltb, le-ltb, eq-eqb}
use lib.Dec.{ltb}
use lib.ListN.{length, take, drop, length-append, length-drop, take-append-drop}
use lib.Seq.{length-take-le, take_all, take-nil, take-take}
use Rattle.lists.proofs.Cases.{choice, lt_or_le, true_not_false}
use Rattle.paper.specs.declared.Refusal.TheVariants.{LogFull}
use Rattle.records.specs.Walks.{size_of}
use Rattle.records.specs.Items.{after_items}
use Rattle.blocks.specs.Block.{BLOCK, PAYLOAD}
use Rattle.linklog.specs.declared.Log.{Log}
use Rattle.linklog.specs.Records.{Entry, record_of}
use Rattle.linklog.specs.Written.{marked_all, marked, blocks_from, blocks_for, written}
use Rattle.linklog.specs.Reading.{BLOCKS_MAX}
use Rattle.linklog.specs.Appending.{ROOM, begun, first_touched, last_in, is_lent, filled_to, payload_then, answer_for, room_then, last_block}
use Rattle.linklog.specs.Promises.{log_of, blocks_of, fit, Holds, flashed, log_then}
use Rattle.linklog.proofs.Blocks.{take_behind, length_marked, length_written}
use Rattle.linklog.proofs.Fits.{fit_first, fit_none, fit_all}
use Rattle.linklog.proofs.Flash.{holds_empty}
use Rattle.linklog.proofs.Runs.{records_more, puts, full}
use Rattle.logging.specs.declared.Course.{Course}
use Rattle.logging.specs.Writing.{is_even, full_blocks, full_text, last_text, run_of, is_over, run_after, empty_log, start_course, end_text}
use Rattle.logging.proofs.Steps.{is_put, is_refused_law, goes}
use Rattle.logging.proofs.Pieces.{from, first, over_stays, all_for}
use Rattle.std.specs.Prelude.{Option, None, Some, Result, Ok, Err}
use Rattle.paper.specs.declared.Refusal.{Refusal}

-- ---- how much entries fill

-- the bytes of records
length_all : (rs : List (List ℕ)) → length (marked_all rs) ≡ size_of rs
unfolding marked_all size_of
length_all [] = refl
length_all (r ∷ rs) = length-append (marked r) (marked_all rs) ∙ rw (length_marked r, length_all rs) refl

size_both : (rs ss : List (List ℕ)) → size_of (rs ++ ss) ≡ size_of rs + size_of ss
unfolding size_of
size_both [] ss = omega arith
size_both (r ∷ rs) ss = omega (arith, size_both rs ss)

-- the most bytes of a log's records
abbrev LIMIT : ℕ
LIMIT = PAYLOAD * BLOCKS_MAX

-- one more fits in the log's blocks by its bytes
module _ (es : List Entry) (e : Entry) where
  abbrev rs : List (List ℕ)
  rs = map record_of es

  abbrev r : List ℕ
  r = record_of e

  size_more : size_of (map record_of (es ++ (e ∷ []))) ≡ size_of rs + length r
  unfolding size_of
  size_more = ap size_of (records_more es e) ∙ size_both rs (r ∷ []) ∙ omega arith

  size_then : length (marked_all (map record_of (es ++ (e ∷ [])))) ≡ size_of rs + length r
  size_then = length_all (map record_of (es ++ (e ∷ []))) ∙ size_more

  one_fits : blocks_of (es ++ (e ∷ [])) ≤ BLOCKS_MAX → length r ≤ LIMIT - size_of rs
  unfolding blocks_for
  one_fits few = omega (arith, few, size_then)

  one_over : blocks_of es ≤ BLOCKS_MAX → BLOCKS_MAX < blocks_of (es ++ (e ∷ [])) → LIMIT - size_of rs < length r
  unfolding blocks_for
  one_over few many = omega (arith, many, size_then, few, length_all rs)

-- ---- the writer's room beside the log

-- how many blocks of the log have gone out
abbrev gone : Log → List ℕ → ℕ
gone log room = first_touched log.blocks (last_in log room)

module _ (es : List Entry) (log : Log) (room : List ℕ) (holds : Holds (log_of es) log room) where
  count : log.blocks ≡ blocks_of es
  count = holds.counted ∙ rw (length_written (map record_of es)) (omega arith)

  gone_even : is_even log room ≡ true → gone log room ≡ log.blocks
  unfolding is_even first_touched
  gone_even is = rw is refl

  gone_odd : is_even log room ≡ false → gone log room ≡ log.blocks - 1
  unfolding is_even first_touched
  gone_odd is = rw is refl

  some_odd : is_even log room ≡ false → log.blocks ≡ 0 → ⊥
  unfolding is_even begun
  some_odd is none = true_not_false (rw (eq-eqb log.blocks 0 none) at is)

  gone_le : gone log room ≤ log.blocks
  gone_le = go (is_even log room) refl
    where
      go : (b : Bool) → is_even log room ≡ b → gone log room ≤ log.blocks
      go true is = omega (arith, gone_even is)
      go false is = omega (arith, gone_odd is)

  long : length (log_of es) ≡ BLOCK * log.blocks
  long = length_written (map record_of es) ∙ rw count refl

  -- what stands behind them is the last one
  last_is : (log.blocks ≡ 0 → ⊥) → last_in log room ≡ drop (BLOCK * (log.blocks - 1)) (log_of es)
  unfolding last_block
  last_is some =
      let at = BLOCK * (log.blocks - 1) in
      (holds.has_last some).1.1
      ∙ rw (← holds.counted) (take_all BLOCK (drop at (log_of es)) (rw length-drop (omega (arith, long))))

  -- with the last one it is all
  closes : take (BLOCK * gone log room) (log_of es) ++ last_text log room ≡ log_of es
  unfolding last_text
  closes = go (is_even log room) refl
    where
      go : (b : Bool) → is_even log room ≡ b → take (BLOCK * gone log room) (log_of es) ++ cond b [] (last_in log room) ≡ log_of es
      go true is = append-nil (take (BLOCK * gone log room) (log_of es)) ∙ rw (gone_even is) (take_all (BLOCK * log.blocks) (log_of es) (omega (arith, long)))
      go false is = rw (gone_odd is, last_is (some_odd is)) (take-append-drop (BLOCK * (log.blocks - 1)) (log_of es))

-- ---- one more

-- what an answer's blocks are: those before the first that is touched have gone out
abbrev PutsFrom : ℕ → Result Log Refusal → Type 0
PutsFrom first (Ok now) = now.blocks ≡ first + now.held
PutsFrom first (Err why) = Unit {0}

puts_from : (log : Log) (room bytes : List ℕ) → PutsFrom (gone log room) (answer_for log room bytes)
unfolding answer_for filled_to
puts_from log room bytes =
    choice (PutsFrom (gone log room)) (is_lent log room)
    (λ _.
    choice (PutsFrom (gone log room)) (ltb BLOCKS_MAX (gone log room + blocks_for (length (payload_then log room bytes)))) (λ _. tt) (λ _. refl))
    (λ _. tt)

-- what goes out of it, by how its last block is
module _ (log : Log) (room : List ℕ) where
  full_even : is_even log room ≡ true → full_blocks log room ≡ log.held
  unfolding full_blocks
  full_even is = rw is refl

  full_odd : is_even log room ≡ false → full_blocks log room ≡ log.held - 1
  unfolding full_blocks
  full_odd is = rw is refl

module _ (es : List Entry) (e : Entry) (log : Log) (room : List ℕ) (holds : Holds (log_of es) log room) (few : blocks_of (es ++ (e ∷ [])) ≤ BLOCKS_MAX) where
  abbrev now : Log
  now = log_then (map record_of es) (record_of e)

  abbrev then : List ℕ
  then = room_then log room (record_of e)

  abbrev put : answer_for log room (record_of e) ≡ Ok now
  put = (puts es e log room holds few).0

  abbrev holds_then : Holds (log_of (es ++ (e ∷ []))) now then
  holds_then = (puts es e log room holds few).1.1

  blocks_then : now.blocks ≡ gone log room + now.held
  blocks_then = subst (PutsFrom (gone log room)) put (puts_from log room (record_of e))

  -- those that have gone out then
  gone_then : (gone now then ≡ gone log room + full_blocks now then) × (full_blocks now then ≤ now.held)
  gone_then = go (is_even now then) refl
    where
      go : (b : Bool) → is_even now then ≡ b → (gone now then ≡ gone log room + full_blocks now then) × (full_blocks now then ≤ now.held)
      go true is =
          let out = full_even now then is in
          (omega (arith, out, blocks_then, gone_even (es ++ (e ∷ [])) now then holds_then is), omega (arith, out))
      go false is =
          let out = full_odd now then is in
          let some = (holds_then.has_last (some_odd (es ++ (e ∷ [])) now then holds_then is)).0 in
          (omega (arith, out, some, blocks_then, gone_odd (es ++ (e ∷ [])) now then holds_then is), omega (arith, out))

  goes_out : take (BLOCK * gone now then) (log_of (es ++ (e ∷ []))) ≡ take (BLOCK * gone log room) (log_of es) ++ full_text now then
  unfolding full_text flashed
  goes_out =
      let before = take (BLOCK * gone log room) (log_of es) in
      let k = full_blocks now then in
      let size : length before ≡ BLOCK * gone log room =
      length-take-le (BLOCK * gone log room) (log_of es) (omega (arith, long es log room holds, gone_le es log room holds)) in
      let first : now.blocks - now.held ≡ gone log room = omega (arith, blocks_then) in
      let all : log_of (es ++ (e ∷ [])) ≡ before ++ take (BLOCK * now.held) then = sym (puts es e log room holds few).1.0 ∙ rw first refl in
      rw (all, gone_then.0, take_behind (BLOCK * (gone log room + k)) (BLOCK * k) before (take (BLOCK * now.held) then) (omega (arith, size)))
      (ap (λ (text : List ℕ). before ++ text) (take-take (BLOCK * k) (BLOCK * now.held) then (omega (arith, gone_then.1))))

-- ---- all of them

abbrev going : Log → Course
going log = record { log = log; why = None }

on : (log : Log) → is_over (going log) ≡ false
unfolding is_over
on log = refl

module _ (es : List Entry) (e : Entry) (log : Log) (room : List ℕ) (holds : Holds (log_of es) log room) where
  -- one that fits
  step_fits : (few : blocks_of (es ++ (e ∷ [])) ≤ BLOCKS_MAX)
      → run_after (run_of (going log) room []) e ≡ run_of (going (log_then (map record_of es) (record_of e))) (room_then log room (record_of e))
      (full_text (log_then (map record_of es) (record_of e)) (room_then log room (record_of e)))
  step_fits few =
      let run = run_of (going log) room [] in
      goes run e (on log)
      ∙ is_put run e (room_then log room (record_of e)) refl (log_then (map record_of es) (record_of e)) (sym (puts es e log room holds few).0)

  -- one that doesn't
  step_full : blocks_of es ≤ BLOCKS_MAX → BLOCKS_MAX < blocks_of (es ++ (e ∷ []))
      → run_after (run_of (going log) room []) e ≡ run_of (record { log = log; why = Some LogFull }) room []
  step_full few many =
      let run = run_of (going log) room [] in
      let is = full es e log room holds few many in
      goes run e (on log) ∙ is_refused_law run e room (sym is.1) LogFull (sym is.0)

-- a refusal ends it
ended : (log : Log) → is_over (record { log = log; why = Some LogFull }) ≡ true
unfolding is_over
ended log = refl

module _ (es : List Entry) (e : Entry) (es' : List Entry) (log : Log) (room : List ℕ) (holds : Holds (log_of es) log room) where
  all_full : blocks_of es ≤ BLOCKS_MAX → BLOCKS_MAX < blocks_of (es ++ (e ∷ [])) → all_for (going log) room (e ∷ es') ≡ last_text log room
  all_full few many =
      rw (
        first (going log) room e es',
        step_full es e log room holds few many,
        over_stays es' (record { log = log; why = Some LogFull }) room (ended log),
      ) refl

  all_fits : (fits : blocks_of (es ++ (e ∷ [])) ≤ BLOCKS_MAX)
      → all_for (going log) room (e ∷ es')
      ≡ full_text (log_then (map record_of es) (record_of e)) (room_then log room (record_of e))
      ++ all_for (going (log_then (map record_of es) (record_of e))) (room_then log room (record_of e)) es'
  all_fits fits =
      let now = log_then (map record_of es) (record_of e) in
      let then = room_then log room (record_of e) in
      rw (first (going log) room e es', step_fits es e log room holds fits)
      (append_assoc (full_text now then) (from (going now) then es').text (end_text (from (going now) then es')))

  -- the records that are logged: none behind one that doesn't fit
  fit_full : blocks_of es ≤ BLOCKS_MAX → BLOCKS_MAX < blocks_of (es ++ (e ∷ []))
      → fit (LIMIT - size_of (map record_of es)) (map record_of (e ∷ es')) ≡ []
  fit_full few many = fit_none (LIMIT - size_of (map record_of es)) (record_of e) (map record_of es') (one_over es e few many)

  -- and one that does
  fit_one : blocks_of (es ++ (e ∷ [])) ≤ BLOCKS_MAX
      → map record_of es ++ fit (LIMIT - size_of (map record_of es)) (map record_of (e ∷ es'))
      ≡ map record_of (es ++ (e ∷ [])) ++ fit (LIMIT - size_of (map record_of (es ++ (e ∷ [])))) (map record_of es')
  fit_one fits =
      let left : LIMIT - size_of (map record_of es) - length (record_of e) ≡ LIMIT - size_of (map record_of (es ++ (e ∷ []))) = omega (arith, size_more es e) in
      rw (
        fit_first (LIMIT - size_of (map record_of es)) (record_of e) (map record_of es') (one_fits es e fits),
        left,
        records_more es e,
      ) (sym (append_assoc (map record_of es) (record_of e ∷ []) (fit (LIMIT - size_of (map record_of es ++ (record_of e ∷ []))) (map record_of es'))))

-- what goes out behind what has gone out
all_go : (es' es : List Entry) (log : Log) (room : List ℕ) → Holds (log_of es) log room → blocks_of es ≤ BLOCKS_MAX
    → take (BLOCK * gone log room) (log_of es) ++ all_for (going log) room es'
    ≡ written (map record_of es ++ fit (LIMIT - size_of (map record_of es)) (map record_of es'))
unfolding after_items fit
all_go [] es log room holds few = rw (append-nil (map record_of es)) (closes es log room holds)
all_go (e ∷ es') es log room holds few =
    ⊎_elim
    (λ (many : BLOCKS_MAX < blocks_of (es ++ (e ∷ []))).
    rw (all_full es e es' log room holds few many, fit_full es e es' log room holds few many, append-nil (map record_of es)) (closes es log room holds))
    (λ (fits : blocks_of (es ++ (e ∷ [])) ≤ BLOCKS_MAX).
    let now = log_then (map record_of es) (record_of e) in
    let then = room_then log room (record_of e) in
    let later = all_go es' (es ++ (e ∷ [])) now then (puts es e log room holds fits).1.1 fits in
    rw (
      all_fits es e es' log room holds fits,
      fit_one es e es' log room holds fits,
      sym (append_assoc (take (BLOCK * gone log room) (log_of es)) (full_text now then) (all_for (going now) then es')),
      ← (goes_out es e log room holds fits),
    ) later)
    (lt_or_le BLOCKS_MAX (blocks_of (es ++ (e ∷ []))))

-- ---- from an empty log on

-- which has no blocks
none_written : written [] ≡ []
unfolding written marked_all blocks_for blocks_from
none_written = refl

none_blocks : blocks_of [] ≤ BLOCKS_MAX
unfolding marked_all blocks_for
none_blocks = omega arith

pub all_at_once : (entries : List Entry) (room : List ℕ) → ROOM ≤ length room
    → all_for start_course room entries ≡ written (fit (PAYLOAD * BLOCKS_MAX) (map record_of entries))
unfolding size_of
all_at_once entries room fits =
    let empty : take (BLOCK * gone empty_log room) (written []) ≡ [] = rw none_written (take-nil (BLOCK * gone empty_log room)) in
    rw empty at (all_go entries [] empty_log room (rw none_written (holds_empty room fits)) none_blocks)

-- all of them, where they fit
pub all_fit : (entries : List Entry) → blocks_of entries ≤ BLOCKS_MAX → fit (PAYLOAD * BLOCKS_MAX) (map record_of entries) ≡ map record_of entries
unfolding blocks_for
all_fit entries few = fit_all (PAYLOAD * BLOCKS_MAX) (map record_of entries) (omega (arith, few, length_all (map record_of entries)))

-- ---- the refusal that ends it

-- blocks of more entries are no fewer
blocks_more : (es e : List Entry) → blocks_of es ≤ blocks_of (es ++ e)
unfolding blocks_for
blocks_more es e =
    let all : size_of (map record_of (es ++ e)) ≡ size_of (map record_of es) + size_of (map record_of e) =
    ap size_of (map-append record_of es e) ∙ size_both (map record_of es) (map record_of e) in
    omega (arith, all, length_all (map record_of es), length_all (map record_of (es ++ e)))

abbrev why_for : List Entry → Option Refusal
why_for es = cond (ltb BLOCKS_MAX (blocks_of es)) (Some LogFull) None

why_go : (es' es : List Entry) (log : Log) (room : List ℕ) → Holds (log_of es) log room → blocks_of es ≤ BLOCKS_MAX
    → (from (going log) room es').course.why ≡ why_for (es ++ es')
unfolding after_items
why_go [] es log room holds few = rw (append-nil es, le-ltb BLOCKS_MAX (blocks_of es) few) refl
why_go (e ∷ es') es log room holds few =
    let all = append_assoc es (e ∷ []) es' in
    ⊎_elim
    (λ (many : BLOCKS_MAX < blocks_of (es ++ (e ∷ []))).
    let more : BLOCKS_MAX < blocks_of (es ++ (e ∷ es')) = rw (← all) (omega (arith, many, blocks_more (es ++ (e ∷ [])) es')) in
    rw (
      first (going log) room e es',
      step_full es e log room holds few many,
      over_stays es' (record { log = log; why = Some LogFull }) room (ended log),
      lt-ltb BLOCKS_MAX (blocks_of (es ++ (e ∷ es'))) more,
    ) refl)
    (λ (fits : blocks_of (es ++ (e ∷ [])) ≤ BLOCKS_MAX).
    let now = log_then (map record_of es) (record_of e) in
    let then = room_then log room (record_of e) in
    let later = why_go es' (es ++ (e ∷ [])) now then (puts es e log room holds fits).1.1 fits in
    rw (first (going log) room e es', step_fits es e log room holds fits) (later ∙ ap why_for all))
    (lt_or_le BLOCKS_MAX (blocks_of (es ++ (e ∷ []))))

-- 21 comes exactly where the entries don't fit in 65,536 blocks
pub why_at_once : (entries : List Entry) (room : List ℕ) → ROOM ≤ length room
    → (from start_course room entries).course.why ≡ cond (ltb BLOCKS_MAX (blocks_of entries)) (Some LogFull) None
why_at_once entries room fits = why_go entries [] empty_log room (rw none_written (holds_empty room fits)) none_blocks
