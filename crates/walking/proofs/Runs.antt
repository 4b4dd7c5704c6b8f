-- What a whole run of a program on the manager writes, however its input comes in reads and however little room there is at a time:
-- what `output_of` says of all that was read. The general law is `whole_output` of `records`; here it is tied to what `turn` promises.
-- Assumes nothing.
use Rattle.std.proofs.Common.{◌≡◌, ℕ, ◌≤◌, List, ◌++◌, length, take, drop, sym, refl, ap, ◌∙◌, arith, length-drop}
use Rattle.lists.specs.Bytes.{zeros}
use Rattle.lists.proofs.Laid.{front}
use Rattle.records.specs.declared.Due.TheVariants.{Nothing}
use Rattle.records.specs.Walks.{Turned, turned, Standing, at_first, Met, input_at, turn_at, standing, ran}
use Rattle.records.proofs.Pieces.{whole_output}
use Rattle.walking.specs.declared.Job.{Job}
use Rattle.walking.specs.declared.Stand.{Stand}
use Rattle.walking.specs.declared.Turned.{Turned as Turn}
use Rattle.walking.specs.Walking.{Walk, walk_of, beginning, program, first_for, store_for, start_walk, output_of, Turns}
use Rattle.walking.proofs.Framings.{framed}

-- after a turn what is left stands at the buffer's front, where the next read goes on behind it
pub left_in_front : {t : Turned Walk} {input out : List ℕ} {r : Turn} {store' input' out' : List ℕ} → Turns t input out r store' input' out'
    → take r.stand.had input' ≡ drop t.went.taken input
left_in_front {t} {input} {out} {r} did =
    let rest = drop t.went.taken input in
    let had = ap (λ (x : Stand). x.had) did.stand ∙ sym (length-drop t.went.taken input) in
    rw (did.moved, had) (front input rest (rw length-drop (omega arith)))

-- and the text stands at the front of the output
pub text_in_front : {t : Turned Walk} {input out : List ℕ} {r : Turn} {store' input' out' : List ℕ} → Turns t input out r store' input' out'
    → r.laid ≤ length out → take r.laid out' ≡ t.went.text
text_in_front {t} {input} {out} did fits =
    rw (did.lines, did.length_laid) (front out t.went.text (rw did.length_laid at fits))

-- where a walk stands in a run, and in the code: the same wait, the same table, store and place, and the bytes at the buffer's front
pub record Stands (at : Standing Walk) (stand : Stand) (store buffer : List ℕ) : Type 0 where
  pub due : at.due ≡ stand.due
  pub kept : at.kept ≡ walk_of stand.kept store
  pub left : at.left ≡ take stand.had buffer
  pub had : length at.left ≡ stand.had

after_turn : {t : Turned Walk} {input out : List ℕ} {r : Turn} {store' input' out' : List ℕ} → Turns t input out r store' input' out'
    → Stands (standing t input) r.stand store' input'
after_turn {t} {input} did =
    record {
      due = sym (ap (λ (x : Stand). x.due) did.stand);
      kept = rw (did.stand, did.stored);
      left = sym (left_in_front did);
      had = length-drop t.went.taken input ∙ sym (ap (λ (x : Stand). x.had) did.stand);
    }

-- a run begins where `begin` leaves the walk
pub begins_there : (job : Job) (buffer : List ℕ) → Stands (at_first (start_walk job)) beginning (zeros (store_for job)) buffer
unfolding start_walk beginning
begins_there job buffer = record { due = refl; kept = refl; left = refl; had = refl }

-- a call of `turn` over what was left and what was read is a turn of the run: it leads to where the run stands then, and lays the
-- run's text
pub call_is_turn : (job : Job) (list : List ℕ) (met : Met) {at : Standing Walk} {stand : Stand} {store buffer out : List ℕ} {r : Turn} {store' input' out' : List ℕ}
    → Stands at stand store buffer → met.room ≡ length out → r.laid ≤ length out
    → Turns (turned (program job list) (length out) stand.due (walk_of stand.kept store) stand.had (input_at at met)) (input_at at met) out r store' input' out'
    → Stands (standing (turn_at (program job list) at met) (input_at at met)) r.stand store' input' × (take r.laid out' ≡ (turn_at (program job list) at met).went.text)
call_is_turn job list met {at} {stand} {store} {buffer} {out} here room fits did =
    let same : turn_at (program job list) at met ≡ turned (program job list) (length out) stand.due (walk_of stand.kept store) stand.had (input_at at met) = rw (room, here.due, here.kept, here.had) in
    rw same (after_turn did, text_in_front did fits)

-- a run that has come to its end has written what the program writes for all that was read
pub run_output : (job : Job) (list : List ℕ) (mets : List Met) → (ran (program job list) (at_first (start_walk job)) mets).at.due ≡ Nothing
    → first_for job ++ (ran (program job list) (at_first (start_walk job)) mets).text ≡ output_of job list (ran (program job list) (at_first (start_walk job)) mets).input
unfolding program
run_output job list mets end = whole_output (program job list) (framed job list) (start_walk job) mets end
