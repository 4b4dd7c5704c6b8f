-- A run of a host, with stops, starts and losses of power: the file is always the log of the entries that are logged.
-- Assumes nothing.
use mathlib.Core.Path.{◌≡◌, refl, sym, ◌∙◌}
use mathlib.Core.Logic.{⊎_elim}
use mathlib.Core.Bool.{Bool, true, false, cond}
use mathlib.Core.List.{List, [], ◌∷◌, ◌++◌, map, map-append, append_assoc, append-nil}
use Prim.Native.Nat.{ℕ, ◌≤◌, ◌<◌}
use native.Mathlib.Omega.{arith}
use borrow.Author.Tests.{le-leb, lt-leb}
use lib.Dec.{leb}
use lib.ListN.{length, length-append}
use Rattle.lists.proofs.Cases.{lt_or_le, choice}
use Rattle.lists.proofs.Laid.{length_laid}
use Rattle.paper.specs.declared.Refusal.TheVariants.{LogFull}
use Rattle.linklog.specs.declared.Log.{Log}
use Rattle.linklog.specs.Records.{Entry, record_of, as_logged}
use Rattle.linklog.specs.Written.{marked_all, blocks_from, blocks_for, blocks_in, written}
use Rattle.linklog.specs.Reading.{BLOCKS_MAX, entries_read}
use Rattle.linklog.specs.Appending.{ROOM, answer_for, room_then, touched_in, part_appended}
use Rattle.linklog.specs.TakenBack.{taken_back}
use Rattle.linklog.specs.Promises.{log_of, blocks_of, Holds, Puts, Host, Coming, Logs, Starts, Fails, empty, started, answered, part_answered, came, ran}
use Rattle.linklog.specs.Promises.{IsEntry, AreEntries, IsComing, AreComings, with_one, logged_then, logged_in, asked, NoneFails}
use Rattle.linklog.proofs.Framing.{entry_record, entry_short}
use Rattle.linklog.proofs.Damage.{entries_records}
use Rattle.linklog.proofs.Blocks.{marked_both}
use Rattle.linklog.proofs.Front.{read_what_was_written}
use Rattle.linklog.proofs.TakenBack.{whole_back, lost_before, lost_after}
use Rattle.linklog.proofs.Flash.{log_full, put_to_flash, part_to_flash, holds_empty, taken_up_law, laid_up}
use Rattle.std.specs.Prelude.{Result, Err}
use Rattle.paper.specs.declared.Refusal.{Refusal}

-- a choice between two that are the same
cond_same : {A : Type 0} (t : Bool) (a : A) → cond t a a ≡ a
cond_same true a = refl
cond_same false a = refl

-- one more entry is one more record
pub records_more : (es : List Entry) (e : Entry) → map record_of (es ++ (e ∷ [])) ≡ map record_of es ++ (record_of e ∷ [])
records_more es e = map-append record_of es (e ∷ [])

module _ (es : List Entry) (e : Entry) where
  fits_one : blocks_of (es ++ (e ∷ [])) ≤ BLOCKS_MAX → with_one es e ≡ es ++ (e ∷ [])
  unfolding with_one
  fits_one few = rw (le-leb (blocks_of (es ++ (e ∷ []))) BLOCKS_MAX few)

  full_one : BLOCKS_MAX < blocks_of (es ++ (e ∷ [])) → with_one es e ≡ es
  unfolding with_one
  full_one many = rw (lt-leb (blocks_of (es ++ (e ∷ []))) BLOCKS_MAX many)

-- ---- a call

module _ (es : List Entry) (e : Entry) (log : Log) (room : List ℕ) (holds : Holds (log_of es) log room) where
  pub puts : blocks_of (es ++ (e ∷ [])) ≤ BLOCKS_MAX → Puts es e (answer_for log room (record_of e)) (room_then log room (record_of e))
  puts few =
      rw (records_more es e)
      (put_to_flash (map record_of es) (record_of e) log room holds (entry_record e).some (entry_short e) (rw (records_more es e) at few))

  pub full : blocks_of es ≤ BLOCKS_MAX → BLOCKS_MAX < blocks_of (es ++ (e ∷ []))
      → (answer_for log room (record_of e) ≡ Err LogFull) × (room_then log room (record_of e) ≡ room)
  full few many = log_full (map record_of es) (record_of e) log room holds few (rw (records_more es e) at many)

-- ---- a run

-- the host's file is the log of these entries, and its writer can go on
record Stands (es : List Entry) (host : Host) : Type 0 where
  is_log_law : host.file ≡ log_of es
  holds : Holds (log_of es) host.log host.room
  few : blocks_of es ≤ BLOCKS_MAX

-- ---- a start

stands_empty : (room : List ℕ) → ROOM ≤ length room → Stands [] (empty room)
unfolding written marked_all blocks_for blocks_from
stands_empty room fits = record { is_log_law = refl; holds = holds_empty room fits; few = omega arith }

-- on a file that is taken back to the log of entries
stands_started : (es : List Entry) (file room : List ℕ) → taken_back file ≡ log_of es → blocks_of es ≤ BLOCKS_MAX → ROOM ≤ length room
    → Stands es (started file room)
unfolding started
stands_started es file room e few fits =
    rw e (record {
      is_log_law = refl;
      holds = taken_up_law (log_of es) _ (rw length_laid fits) (laid_up (log_of es) room fits);
      few = few;
    })

-- ---- what comes

module _ (es : List Entry) (host : Host) (stands : Stands es host) where
  abbrev rs : List (List ℕ)
  rs = map record_of es

  abbrev answer : Entry → Result Log Refusal
  answer e = answer_for host.log host.room (record_of e)

  abbrev room_then_law : Entry → List ℕ
  room_then_law e = room_then host.log host.room (record_of e)

  -- a stop, and a start
  stands_starts : (room : List ℕ) → ROOM ≤ length room → Stands es (came host (Starts room))
  unfolding came
  stands_starts room fits =
      stands_started es host.file room (rw stands.is_log_law (whole_back rs (entries_records es) stands.few)) stands.few fits

  module _ (e : Entry) where
    -- the log is full
    module _ (many : BLOCKS_MAX < blocks_of (es ++ (e ∷ []))) where
      is_full_law : (answer e ≡ Err LogFull) × (room_then_law e ≡ host.room)
      is_full_law = full es e host.log host.room stands.holds stands.few many

      full_logs : Stands (with_one es e) (came host (Logs e))
      unfolding came answered
      full_logs =
          rw (full_one es e many, is_full_law.0, is_full_law.1) (record { is_log_law = stands.is_log_law; holds = stands.holds; few = stands.few })

      full_fails : (n : ℕ) (room : List ℕ) → ROOM ≤ length room → Stands (logged_then es (Fails n e room)) (came host (Fails n e room))
      unfolding came part_answered logged_then
      full_fails n room fits =
          rw (full_one es e many, cond_same, is_full_law.0) (stands_starts room fits)

    -- it isn't
    module _ (few : blocks_of (es ++ (e ∷ [])) ≤ BLOCKS_MAX) where
      few_records : blocks_in (rs ++ (record_of e ∷ [])) ≤ BLOCKS_MAX
      few_records = rw (records_more es e) at few

      is_put : Puts es e (answer e) (room_then_law e)
      is_put = puts es e host.log host.room stands.holds few

      put_logs : Stands (with_one es e) (came host (Logs e))
      unfolding came answered
      put_logs = rw (fits_one es e few, is_put.0) (record { is_log_law = rw stands.is_log_law is_put.1.0; holds = is_put.1.1; few = few })

      -- so many of its blocks are put
      part_put : (n : ℕ) → part_answered n host.file (room_then_law e) (answer e) ≡ part_appended n (log_of es) (record_of e)
      unfolding part_answered
      part_put n =
          rw (is_put.0, stands.is_log_law)
          (part_to_flash rs (record_of e) host.log host.room stands.holds (entry_record e).some (entry_short e) few_records n)

      put_fails : (n : ℕ) (room : List ℕ) → ROOM ≤ length room → Stands (logged_then es (Fails n e room)) (came host (Fails n e room))
      unfolding came logged_then
      put_fails n room fits =
          let count = touched_in (log_of es) (record_of e) in
          ⊎_elim
          (λ (before : n < count).
          rw (lt-leb count n before)
          (stands_started es _ room
          (rw (part_put n) (lost_before rs (record_of e) (entries_records es) (entry_record e) few_records n before)) stands.few fits))
          (λ (after : count ≤ n).
          rw (le-leb count n after, fits_one es e few)
          (stands_started (es ++ (e ∷ [])) _ room
          (rw (part_put n, records_more es e) (lost_after rs (record_of e) (entries_records es) (entry_record e) few_records n after)) few fits))
          (lt_or_le n count)

  -- whatever it is
  stands_came : (coming : Coming) → IsComing coming → Stands (logged_then es coming) (came host coming)
  unfolding logged_then
  stands_came (Logs e) is = ⊎_elim (full_logs e) (put_logs e) (lt_or_le BLOCKS_MAX (blocks_of (es ++ (e ∷ []))))
  stands_came (Starts room) is = stands_starts room is
  stands_came (Fails n e room) is =
      ⊎_elim (λ many. full_fails e many n room is.1) (λ few. put_fails e few n room is.1) (lt_or_le BLOCKS_MAX (blocks_of (es ++ (e ∷ []))))

stands_ran : (comings : List Coming) (es : List Entry) (host : Host) → Stands es host → AreComings comings → Stands (logged_in es comings) (ran host comings)
unfolding logged_in ran
stands_ran [] es host stands are = stands
stands_ran (coming ∷ rest) es host stands are =
    stands_ran rest (logged_then es coming) (came host coming) (stands_came es host stands coming are.0) are.1

-- ---- a run from an empty file on

-- what is logged are entries
with_are : (es : List Entry) (e : Entry) → AreEntries es → IsEntry e → AreEntries (with_one es e)
unfolding with_one
with_are es e are is = choice AreEntries (leb (blocks_of (es ++ (e ∷ []))) BLOCKS_MAX) (λ _. both es are) (λ _. are)
  where
    both : (es : List Entry) → AreEntries es → AreEntries (es ++ (e ∷ []))
    both [] are = (is, tt)
    both (first ∷ es) are = (are.0, both es are.1)

then_are : (es : List Entry) (coming : Coming) → AreEntries es → IsComing coming → AreEntries (logged_then es coming)
unfolding logged_then
then_are es (Logs e) are is = with_are es e are is
then_are es (Starts room) are is = are
then_are es (Fails n e room) are is =
    choice AreEntries (leb (touched_in (log_of es) (record_of e)) n) (λ _. with_are es e are is.0) (λ _. are)

logged_are : (comings : List Coming) (es : List Entry) → AreEntries es → AreComings comings → AreEntries (logged_in es comings)
unfolding logged_in
logged_are [] es are all = are
logged_are (coming ∷ rest) es are all = logged_are rest (logged_then es coming) (then_are es coming are all.0) all.1

module _ (room : List ℕ) (fits : ROOM ≤ length room) (comings : List Coming) (are : AreComings comings) where
  stands_then : Stands (logged_in [] comings) (ran (empty room) comings)
  stands_then = stands_ran comings [] (empty room) (stands_empty room fits) are

  pub run_on_flash : (ran (empty room) comings).file ≡ log_of (logged_in [] comings)
  run_on_flash = stands_then.is_log_law

  pub run_read : entries_read (ran (empty room) comings).file ≡ map as_logged (logged_in [] comings)
  run_read = rw run_on_flash (read_what_was_written (logged_in [] comings) (logged_are comings [] tt are) stands_then.few)

-- ---- where power is never lost, and all fit

-- more entries have no fewer blocks
blocks_more : (es more : List Entry) → blocks_of es ≤ blocks_of (es ++ more)
unfolding blocks_for
blocks_more es more =
    let front = map record_of es in
    let behind = map record_of more in
    rw (map-append record_of es more, marked_both front behind, length-append (marked_all front) (marked_all behind)) (omega arith)

logged_on : (comings : List Coming) (es : List Entry) → NoneFails comings → blocks_of (es ++ asked comings) ≤ BLOCKS_MAX
    → logged_in es comings ≡ es ++ asked comings
unfolding logged_in logged_then
logged_on [] es none few = sym (append-nil es)
logged_on (Logs e ∷ rest) es none few =
    let next = append_assoc es (e ∷ []) (asked rest) in
    let fits : blocks_of ((es ++ (e ∷ [])) ++ asked rest) ≤ BLOCKS_MAX = rw next few in
    rw (fits_one es e (omega (arith, blocks_more (es ++ (e ∷ [])) (asked rest)))) (logged_on rest (es ++ (e ∷ [])) none fits ∙ next)
logged_on (Starts room ∷ rest) es none few = logged_on rest es none few
logged_on (Fails n e room ∷ rest) es none few = absurd none

pub all_logged : (comings : List Coming) → NoneFails comings → blocks_of (asked comings) ≤ BLOCKS_MAX → logged_in [] comings ≡ asked comings
all_logged comings = logged_on comings []
