-- However the input of a program comes in reads, and however little room for text there is at a time, what the program writes is
-- what it writes for the whole input: `whole_run`. It holds of every program that
-- walks over records, whatever a record is to it.
-- Assumes nothing.
use mathlib.Core.Path.{◌≡◌, refl, sym, ap, ◌∙◌}
use mathlib.Core.Logic.{⊎_elim}
use mathlib.Core.List.{List, [], ◌∷◌, ◌++◌, append_assoc, append-nil}
use Prim.Native.Nat.{ℕ, zero, suc, ◌-◌, ◌≤◌, ◌<◌}
use native.Mathlib.Omega.{arith}
use borrow.Author.Tests.{lt-ltb, le-ltb, eq-eqb, eqb-true}
use lib.Dec.{ltb, eqb}
use lib.ListN.{length, drop, length-drop, length-append}
use lib.Seq.{drop-append-le, drop-drop}
use Rattle.std.proofs.Common.{Option}
use Rattle.lists.proofs.Cases.{lt_or_le, choice}
use Rattle.records.specs.Records.{found}
use Rattle.records.specs.declared.Due.{Due}
use Rattle.records.specs.declared.Due.TheVariants.{Read, Room, Nothing}
use Rattle.records.specs.Walks.{Framing, front_of, Program, after_all, text_of_all, size_of, rest_of, ending, written, output, Went, stay, onward, walk_over, walk_through, Turned, due_for, walked, ended, turned, at_first, Met, brought, standing, Ran, ran}
use Rattle.records.proofs.Framings.{length_front, front_more, records_none, records_first}

-- what a program's records are is a framing
abbrev pub Framed : {S : Type 0} → Program S → Type 0
Framed p = Framing p.extent

-- the record at the front of an input, to a program
abbrev pub front : {S : Type 0} → Program S → List ℕ → List ℕ
front p input = front_of p.extent input

-- ---- a walk

-- no room
pub no_room : {S : Type 0} (p : Program S) (room : ℕ) (s : S) (ps : List (List ℕ)) → room < p.room → walk_over p room s ps ≡ stay s
unfolding walk_over
no_room p room s [] h = refl
no_room p room s (x ∷ ps) h = rw (lt-ltb room p.room h)

-- no whole record
pub no_record_law : {S : Type 0} (p : Program S) (room : ℕ) (s : S) (input : List ℕ) → p.extent input ≡ 0 → walk_through p room s input ≡ stay s
unfolding walk_over
no_record_law p room s input h = rw (records_none p.extent input h)

-- with room, the record in front is taken
pub first_taken : {S : Type 0} (p : Program S) → Framed p → (room : ℕ) (s : S) (input : List ℕ) → p.room ≤ room → 0 < p.extent input
    → walk_through p room s input ≡ onward (p.extent input) (p.text s (front p input)) (walk_through p (room - length (p.text s (front p input))) (p.after s (front p input)) (drop (p.extent input) input))
unfolding walk_over
first_taken p f room s input roomy some = rw (records_first f input some, le-ltb _ _ roomy, length_front f input)

-- ---- what is written for an input

written_last : {S : Type 0} (p : Program S) (s : S) (input : List ℕ) → p.extent input ≡ 0 → written p s input ≡ ending p s input
unfolding written text_of_all after_all rest_of size_of
written_last p s input none = rw (records_none p.extent input none)

written_first : {S : Type 0} (p : Program S) → Framed p → (s : S) (input : List ℕ) → 0 < p.extent input
    → written p s input ≡ p.text s (front p input) ++ written p (p.after s (front p input)) (drop (p.extent input) input)
unfolding written text_of_all after_all rest_of size_of
written_first p f s input some =
    rw (records_first f input some, length_front f input, drop-drop) (append_assoc (p.text s (front p input)) _ _)

-- more behind a whole record
written_more : {S : Type 0} (p : Program S) → Framed p → (s : S) (input more : List ℕ) → 0 < p.extent input
    → written p s (input ++ more) ≡ p.text s (front p input) ++ written p (p.after s (front p input)) (drop (p.extent input) input ++ more)
written_more p f s input more some =
    let same = f.more input more some in
    written_first p f s (input ++ more) (rw same some)
    ∙ rw (same, front_more f input more some, drop-append-le (p.extent input) input more (f.fits input))

-- where a walk has come, and what is written for what it left
abbrev then : {S : Type 0} → Program S → List ℕ → List ℕ → Went S → List ℕ
then p input more went = went.text ++ written p went.kept (drop went.taken input ++ more)

pieces_in : {S : Type 0} (n : ℕ) (p : Program S) → Framed p → (room : ℕ) (s : S) (input more : List ℕ) → length input ≤ n
    → written p s (input ++ more) ≡ then p input more (walk_through p room s input)
pieces_in zero p f room s input more h = rw (no_record_law p room s input (omega (arith, f.fits input)))
pieces_in (suc n) p f room s input more h =
    ⊎_elim
    (λ (some : 0 < p.extent input).
    ⊎_elim
    (λ (full : room < p.room). rw (no_room p room s _ full))
    (λ (roomy : p.room ≤ room).
    let text = p.text s (front p input) in
    let rest = drop (p.extent input) input in
    let next = p.after s (front p input) in
    let went = walk_through p (room - length text) next rest in
    let on = pieces_in n p f (room - length text) next rest more (rw length-drop (omega arith)) in
    rw (written_more p f s input more some, first_taken p f room s input roomy some, on, drop-drop went.taken (p.extent input) input) (sym (append_assoc text went.text _)))
    (lt_or_le room p.room))
    (λ (none : p.extent input ≤ 0). rw (no_record_law p room s input (omega arith)))
    (lt_or_le 0 (p.extent input))

-- what a walk over a piece writes, and then what is written for what it left, with more behind
pub pieces : {S : Type 0} (p : Program S) → Framed p → (room : ℕ) (s : S) (input more : List ℕ)
    → written p s (input ++ more) ≡ then p input more (walk_through p room s input)
pieces p f room s input more = pieces_in (length input) p f room s input more (omega arith)

-- ---- a run

-- what a run from here on will have written where it comes to its end. A walk that waits for a read has no whole record left
Promise : {S : Type 0} → Program S → S → List ℕ → Due → Ran S → Type 0
Promise p s left Read run = p.extent left ≡ 0 → run.at.due ≡ Nothing → run.text ≡ written p s (left ++ run.input)
Promise p s left Room run = run.at.due ≡ Nothing → run.text ≡ written p s (left ++ run.input)
Promise p s left Nothing run = (run.text ≡ []) × (run.input ≡ [])

-- a turn over the input, and what comes then
Leads : {S : Type 0} → Program S → S → List ℕ → Ran S → Turned S → Type 0
Leads p s input run t =
    Promise p t.went.kept (drop t.went.taken input) t.due run → run.at.due ≡ Nothing
    → t.went.text ++ run.text ≡ written p s (input ++ run.input)

walk_leads : {S : Type 0} (p : Program S) → Framed p → (room : ℕ) (s : S) (input : List ℕ) (run : Ran S) → Leads p s input run (walked p room s input)
unfolding walked found due_for Promise Leads
walk_leads p f room s input run =
    let went = walk_through p room s input in
    let rest = drop went.taken input in
    choice (λ (at : Option ℕ). Leads p s input run (record { went = went; due = due_for at })) (eqb (p.extent rest) 0)
    (λ none promise end. rw (pieces p f room s input run.input, promise (eqb-true _ _ none) end))
    (λ some promise end. rw (pieces p f room s input run.input, promise end))

end_leads : {S : Type 0} (p : Program S) (room : ℕ) (s : S) (left : List ℕ) (run : Ran S) → p.extent left ≡ 0 → Leads p s left run (ended p room s left)
unfolding ended Promise Leads
end_leads p room s left run none =
    choice (Leads p s left run) (ltb room p.room)
    (λ full promise end. promise none end)
    (λ roomy promise end. rw (promise.0, promise.1, append-nil, append-nil) (sym (written_last p s left none)))

-- a read that brings nothing leaves the input as it was
nothing_came : (left bytes : List ℕ) → length (left ++ bytes) ≡ length left → left ++ bytes ≡ left
nothing_came left [] e = append-nil left
nothing_came left (b ∷ bytes) e = absurd (omega (arith, length-append left (b ∷ bytes)))

read_leads : {S : Type 0} (p : Program S) → Framed p → (room : ℕ) (s : S) (left bytes : List ℕ) (run : Ran S) → p.extent left ≡ 0
    → Leads p s (left ++ bytes) run (turned p room Read s (length left) (left ++ bytes))
unfolding turned
read_leads p f room s left bytes run none =
    choice (Leads p s (left ++ bytes) run) (eqb (length (left ++ bytes)) (length left))
    (λ same. end_leads p room s (left ++ bytes) run (rw (nothing_came left bytes (eqb-true _ _ same)) none))
    (λ more. walk_leads p f room s (left ++ bytes) run)

keeps : {S : Type 0} (p : Program S) → Framed p → (due : Due) (s : S) (left : List ℕ) (mets : List Met)
    → Promise p s left due (ran p (record { due = due; kept = s; left = left }) mets)
unfolding ran turned brought Promise Leads
keeps p f Read s left [] = λ none end. let z : ◌≡◌ {A = ℕ} 0 1 = cc in absurd (omega arith)
keeps p f Room s left [] = λ end. let z : ◌≡◌ {A = ℕ} 0 1 = cc in absurd (omega arith)
keeps p f Nothing s left [] = (refl, refl)
keeps p f Read s left (met ∷ mets) =
    λ none end.
    let input = left ++ met.bytes in
    let t = turned p met.room Read s (length left) input in
    let on = keeps p f t.due t.went.kept (drop t.went.taken input) mets in
    read_leads p f met.room s left met.bytes (ran p (standing t input) mets) none on end ∙ ap (written p s) (append_assoc left met.bytes _)
keeps p f Room s left (met ∷ mets) =
    λ end.
    let input = left ++ [] in
    let t = walked p met.room s input in
    let on = keeps p f t.due t.went.kept (drop t.went.taken input) mets in
    walk_leads p f met.room s input (ran p (standing t input) mets) on end ∙ ap (written p s) (append_assoc left [] _)
keeps p f Nothing s left (met ∷ mets) = keeps p f Nothing s (left ++ []) mets

-- a run that has come to its end has written what is written for all that it has read
pub whole_run : {S : Type 0} (p : Program S) → Framed p → (s : S) (mets : List Met) → (ran p (at_first s) mets).at.due ≡ Nothing
    → (ran p (at_first s) mets).text ≡ written p s (ran p (at_first s) mets).input
unfolding Promise
whole_run p f s mets end = keeps p f Read s [] mets (omega (arith, f.fits [])) end

-- and with what stands before the first record
pub whole_output : {S : Type 0} (p : Program S) → Framed p → (s : S) (mets : List Met) → (ran p (at_first s) mets).at.due ≡ Nothing
    → p.first ++ (ran p (at_first s) mets).text ≡ output p s (ran p (at_first s) mets).input
unfolding output
whole_output p f s mets end = ap (λ (text : List ℕ). p.first ++ text) (whole_run p f s mets end)

-- ---- no turn is in vain where there is room: it takes a record, or has none to take; and a read of nothing ends the run

pub takes_one : {S : Type 0} (p : Program S) → Framed p → (room : ℕ) (s : S) (input : List ℕ) → p.room ≤ room → 0 < p.extent input
    → 0 < (walk_through p room s input).taken
takes_one p f room s input roomy some = rw (first_taken p f room s input roomy some) (omega arith)

pub comes_to_end : {S : Type 0} (p : Program S) (room : ℕ) (s : S) (left : List ℕ) → p.room ≤ room
    → (turned p room Read s (length left) left).due ≡ Nothing
unfolding turned ended
comes_to_end p room s left roomy = rw (eq-eqb (length left) (length left) refl, le-ltb room p.room roomy)
