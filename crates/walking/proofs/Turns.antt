-- The laws of a turn: the walk over the input that is there, the end, and a walk that waits for nothing.
-- Assumes nothing.
use Rattle.std.proofs.Common.{◌≡◌, ℕ, ◌-◌, ◌<◌, ◌≤◌, List, [], length, drop, sym, refl, ◌∙◌, arith, le-ltb, lt-ltb, eq-eqb, ne_eqb}
use Rattle.paper.specs.Sizes.{MESSAGE_MAX}
use Rattle.lists.specs.Bytes.{laid}
use Rattle.lists.proofs.Laid.{whole}
use Rattle.lines.specs.Lines.{LINE_MAX, MESSAGE_LINE_MAX}
use Rattle.records.specs.declared.Due.{Due}
use Rattle.records.specs.declared.Due.TheVariants.{Read, Nothing}
use Rattle.records.specs.Records.{found}
use Rattle.records.specs.Walks.{Program, stay, walk_through, due_for, walked, ending, ended, turned}
use Rattle.linking.specs.Linking.{CALL_MAX, STEP_MAX}
use Rattle.walking.specs.declared.Job.{Job}
use Rattle.walking.specs.declared.Job.TheVariants.{Client, Strict, Desk, Link}
use Rattle.walking.specs.declared.Told.TheVariants.{Lines, Messages, Moves, Totals}
use Rattle.walking.specs.declared.Kept.{Kept}
use Rattle.walking.specs.declared.Walked.{Walked}
use Rattle.walking.specs.Walking.{Walk, walk_of, room_told, room_for, cut_for, program, Walks, Turns}

-- nothing moves
unmoved : (input : List ℕ) → input ≡ laid input 0 (drop 0 input)
unmoved input = sym (whole input input refl)

nothing_laid : (out : List ℕ) → out ≡ laid out 0 []
unfolding laid
nothing_laid out = refl

-- a walk over the input, with what is left of it at the front
pub walk_turns : (p : Program Walk) (w : Walk) (input out : List ℕ) {r : Walked} {due : Due} {store' input' out' : List ℕ}
    → Walks (walk_through p (length out) w input) out r store' out'
    → due ≡ due_for (found (p.extent (drop r.taken input))) → input' ≡ laid input 0 (drop r.taken input)
    → Turns (walked p (length out) w input) input out (record { stand = record { kept = r.kept; had = length input - r.taken; due = due }; laid = r.laid }) store' input' out'
unfolding walked
walk_turns p w input out did due moved =
    record {
      stand = rw (did.kept, due, did.taken);
      length_laid = did.length_laid;
      stored = did.stored;
      moved = moved ∙ rw did.taken;
      lines = did.lines;
    }

-- a turn that stays: nothing is written, and all of the input is left
pub stays : (kept : Kept) (store input out : List ℕ) (due : Due)
    → Turns (record { went = stay (walk_of kept store); due = due }) input out (record { stand = record { kept = kept; had = length input; due = due }; laid = 0 }) store input out
stays kept store input out due =
    let e : length input - 0 ≡ length input = omega arith in
    record { stand = rw e; length_laid = refl; stored = refl; moved = unmoved input; lines = nothing_laid out }

-- the end with too little room
pub end_waits : (job : Job) (list : List ℕ) (kept : Kept) (store input out : List ℕ) → length out < room_for job
    → Turns (ended (program job list) (length out) (walk_of kept store) input) input out (record { stand = record { kept = kept; had = length input; due = Read }; laid = 0 }) store input out
unfolding ended program
end_waits job list kept store input out full = rw (lt-ltb _ _ full) (stays kept store input out Read)

-- the end with nothing left
pub end_whole : (job : Job) (list : List ℕ) (kept : Kept) (store input out : List ℕ) → room_for job ≤ length out → length input ≡ 0
    → Turns (ended (program job list) (length out) (walk_of kept store) input) input out (record { stand = record { kept = kept; had = length input; due = Nothing }; laid = 0 }) store input out
unfolding ended ending program
end_whole job list kept store input out roomy none = rw (le-ltb _ _ roomy, eq-eqb _ _ none) (stays kept store input out Nothing)

-- the end with a record that is cut short
pub end_cut : (job : Job) (list : List ℕ) (kept : Kept) (store input out : List ℕ) {n : ℕ} {out' : List ℕ} → room_for job ≤ length out → 0 < length input
    → n ≡ length (cut_for job kept.ended kept.place) → out' ≡ laid out 0 (cut_for job kept.ended kept.place)
    → Turns (ended (program job list) (length out) (walk_of kept store) input) input out (record { stand = record { kept = kept; had = length input; due = Nothing }; laid = n }) store input out'
unfolding ended ending program
end_cut job list kept store input out roomy some long lines =
    let e : length input - 0 ≡ length input = omega arith in
    rw (le-ltb _ _ roomy, ne_eqb (length input) 0 (λ z. omega arith))
    (record { stand = rw e; length_laid = long; stored = refl; moved = unmoved input; lines = lines })

-- ---- by what the walk waited for

pub ended_turn : (p : Program Walk) (room : ℕ) (w : Walk) (had : ℕ) (input : List ℕ) → length input ≡ had → turned p room Read w had input ≡ ended p room w input
unfolding turned
ended_turn p room w had input same = rw (eq-eqb _ _ same)

pub read_turn : (p : Program Walk) (room : ℕ) (w : Walk) (had : ℕ) (input : List ℕ) → (length input ≡ had → ⊥) → turned p room Read w had input ≡ walked p room w input
unfolding turned
read_turn p room w had input more = rw (ne_eqb _ _ more)

-- the room that a program asks for holds its line for a record that is cut short
pub line_fits : (job : Job) → LINE_MAX ≤ room_for job
unfolding room_for room_told STEP_MAX CALL_MAX MESSAGE_LINE_MAX MESSAGE_MAX
line_fits (Client Lines) = omega arith
line_fits (Client Messages) = omega arith
line_fits (Client Moves) = omega arith
line_fits (Client Totals) = omega arith
line_fits (Strict fromServer) = omega arith
line_fits Desk = omega arith
line_fits Link = omega arith
