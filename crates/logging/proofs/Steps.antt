-- One record on the way: what goes out stands behind what has gone out.
-- Assumes nothing.
use mathlib.Core.Path.{◌≡◌, refl, sym, ap}
use mathlib.Core.Bool.{true, false}
use Prim.Native.Nat.{ℕ}
use mathlib.Core.List.{List, [], ◌++◌, append-nil}
use Rattle.lists.proofs.Cases.{true_not_false}
use Rattle.paper.specs.declared.Refusal.{Refusal}
use Rattle.linklog.specs.declared.Log.{Log}
use Rattle.linklog.specs.Records.{Entry, record_of}
use Rattle.linklog.specs.Appending.{answer_for, room_then}
use Rattle.logging.specs.declared.Course.{Course}
use Rattle.logging.specs.Writing.{full_text, Run, run_of, answered, appended_to, is_there, is_over, run_after}
use Rattle.std.specs.Prelude.{Bool, Option, None, Some, Result, Ok, Err}

-- ---- by the append's answer

module _ (run : Run) (entry : Entry) (room : List ℕ) (e : room ≡ room_then run.course.log run.room (record_of entry)) where
  pub is_put : (log : Log) → Ok log ≡ answer_for run.course.log run.room (record_of entry)
      → appended_to run entry ≡ run_of (record { log = log; why = None }) room (run.text ++ full_text log room)
  unfolding appended_to answered
  is_put log f = rw (← f, ← e) refl

  pub is_refused_law : (why : Refusal) → Err why ≡ answer_for run.course.log run.room (record_of entry)
      → appended_to run entry ≡ run_of (record { log = run.course.log; why = Some why }) room run.text
  unfolding appended_to answered
  is_refused_law why f = rw (← f, ← e) refl

-- ---- by the course

pub stays : (run : Run) (entry : Entry) → is_over run.course ≡ true → run_after run entry ≡ run
unfolding run_after
stays run entry over = rw over refl

pub goes : (run : Run) (entry : Entry) → is_over run.course ≡ false → run_after run entry ≡ appended_to run entry
unfolding run_after
goes run entry on = rw on refl

-- a course that goes on has no refusal
pub no_why : (course : Course) → is_over course ≡ false → course ≡ record { log = course.log; why = None }
unfolding is_over
no_why course on = ap (λ (why : Option Refusal). record { log = course.log; why = why }) (none course.why on)
  where
    none : (why : Option Refusal) → is_there why ≡ false → why ≡ None
    none None h = refl
    none (Some why) h = absurd (true_not_false h)

-- ---- behind what has gone out

answered_behind : (course : Course) (room text : List ℕ) (answer : Result Log Refusal) (room' : List ℕ)
    → answered (run_of course room text) answer room'
    ≡ run_of (answered (run_of course room []) answer room').course (answered (run_of course room []) answer room').room
    (text ++ (answered (run_of course room []) answer room').text)
unfolding answered
answered_behind course room text (Ok log) room' = refl
answered_behind course room text (Err why) room' = ap (run_of (record { log = course.log; why = Some why }) room') (sym (append-nil text))

module _ (course : Course) (room text : List ℕ) (entry : Entry) where
  abbrev alone : Run
  alone = run_after (run_of course room []) entry

  pub behind : run_after (run_of course room text) entry ≡ run_of alone.course alone.room (text ++ alone.text)
  unfolding appended_to
  behind = go (is_over course) refl
    where
      go : (over : Bool) → is_over course ≡ over → run_after (run_of course room text) entry ≡ run_of alone.course alone.room (text ++ alone.text)
      go true over =
          rw (stays (run_of course room text) entry over, stays (run_of course room []) entry over) (ap (run_of course room) (sym (append-nil text)))
      go false on =
          rw (goes (run_of course room text) entry on, goes (run_of course room []) entry on)
          (answered_behind course room text (answer_for course.log room (record_of entry)) (room_then course.log room (record_of entry)))
