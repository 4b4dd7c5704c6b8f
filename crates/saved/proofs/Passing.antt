-- The laws of the one pass over the records, from the last to the first: what the pass knows at a place, and one turn of it.
-- Assumes nothing.
use mathlib.Core.Path.{◌≡◌, refl, sym, ap, ◌∙◌}
use mathlib.Core.Bool.{Bool, true, false}
use mathlib.Core.List.{List}
use Prim.Native.Nat.{ℕ, zero, suc, ◌+◌, ◌-◌, ◌*◌, ◌/◌, ◌%◌, ◌≤◌, ◌<◌}
use native.Mathlib.Omega.{arith}
use borrow.Author.Tests.{eq-eqb, le-leb}
use lib.Dec.{eqb}
use lib.ListN.{length, get_or, set}
use Rattle.paper.specs.Sizes.{PARTS, MESSAGE_MAX}
use Rattle.channel.specs.Channel.{blank}
use Rattle.table.specs.Totals.{opens, awaits}
use Rattle.table.specs.Table.{record_at}
use Rattle.table.specs.Sound.{no_number_twice}
use Rattle.table.proofs.Recount.{opens_most}
use Rattle.table.proofs.Marks.{MARKS, Passed, passed_none, passed_free, passed_taken, passed_all}
use Rattle.saved.specs.Saved.{ROW, CHANNELS, AWAITED, record_of, word_at, records_in, table_in}
use Rattle.saved.specs.Judging.{good_rest, fine_rest, fine_rows, recounted}
use Rattle.saved.proofs.Words.{row_at, length_records}
use Rattle.saved.proofs.Told.{code_of, may_ask, not_asked, rest_short, rest_joining, fine_free, fine_ready}
use Rattle.saved.proofs.Told.{opens_free, opens_marked, opens_one, awaits_shut, awaits_low, awaits_high, awaits_most_rest}
use Rattle.saved.proofs.Judged.{fine_from, fine_back, fine_end, opens_from, awaits_from, opens_turn, awaits_turn, opens_end, awaits_end, recounts}

-- ---- one word

-- the word is fine, and its record adds so much
pub record Adds (ready asks : Bool) (rest channels awaited : ℕ) : Type 0 where
  pub good : good_rest asks rest ≡ true
  pub fine : fine_rest ready asks rest ≡ true
  pub opened : opens (record_of rest 0 0) ≡ channels
  pub waits : awaits (record_of rest 0 0) ≡ awaited

-- a record as Start made it
pub adds_none : (ready asks : Bool) → Adds ready asks 0 0 0
adds_none ready asks =
    let good = rest_short asks 0 (omega arith) (not_asked asks 0 (omega arith) (omega arith)) (omega arith) in
    let none = opens_free 0 0 0 refl in
    record { good = good; fine = fine_free ready asks 0 good (λ e. omega arith); opened = none; waits = awaits_shut 0 0 0 none }

module _ (ready asks : Bool) (rest : ℕ) (is : ready ≡ true) where
  -- an awaited number
  pub adds_awaited : asks ≡ true → rest < 4294967296 → 2147483648 ≤ rest → rest < 2147483664 → Adds ready asks rest 0 0
  adds_awaited a h k less =
      let good = rest_short asks rest h (may_ask asks rest h a) (omega arith) in
      let none = opens_marked rest 0 0 h k in
      record { good = good; fine = fine_ready ready asks rest good is; opened = none; waits = awaits_shut rest 0 0 none }

  -- an open channel with no message
  pub adds_open : rest % 2 ≡ 1 → rest < 16 → Adds ready asks rest 1 0
  adds_open t less =
      let good = rest_short asks rest (omega arith) (not_asked asks rest (omega arith) (omega arith)) (omega arith) in
      let one = opens_one rest 0 0 t (omega arith) in
      record { good = good; fine = fine_ready ready asks rest good is; opened = one; waits = awaits_low rest 0 0 (λ e. omega arith) (omega arith) }

  -- an open channel whose message is being joined
  pub adds_joining :
      rest % 2 ≡ 1 → rest / 8 % 4096 < rest / 32768 → rest / 32768 ≤ MESSAGE_MAX
      → Adds ready asks rest 1 (rest / 32768 - rest / 8 % 4096)
  unfolding MESSAGE_MAX
  adds_joining t less fits =
      let code : code_of rest ≡ rest / 8 = omega arith in
      let wanted : code_of rest / 4096 ≡ rest / 32768 = omega arith in
      let held : code_of rest % 4096 ≡ rest / 8 % 4096 = omega arith in
      let may = not_asked asks rest (omega arith) (omega arith) in
      let good = rest_joining asks rest (omega arith) may (omega arith) ∙ le-leb (code_of rest / 4096) 4096 (omega arith) in
      let one = opens_one rest 0 0 t (omega arith) in
      let waits = awaits_high rest 0 0 (λ e. omega arith) (omega arith) in
      record { good = good; fine = fine_ready ready asks rest good is; opened = one; waits = omega arith }

-- ---- one turn

-- the rows from the place on are fine, and what their records add is counted
pub record Sofar (ready asks : Bool) (l : List ℕ) (marks : List Bool) (channels awaited i : ℕ) : Type 0 where
  pub passed : Passed (records_in PARTS l) marks i
  pub fine : fine_from ready asks l i ≡ true
  pub opened : channels ≡ opens_from l i
  pub waits : awaited ≡ awaits_from l i
  pub few : channels + i ≤ PARTS
  pub room : awaited + 4096 * i ≤ 4096 * PARTS

-- before the first turn
pub sofar_none : (ready asks : Bool) (l : List ℕ) (marks : List Bool) (i : ℕ) → i ≡ PARTS → Sofar ready asks l marks 0 0 i
sofar_none ready asks l marks i e =
    record {
      passed = passed_none (records_in PARTS l) marks i (length_records PARTS l ∙ sym e);
      fine = fine_end ready asks l i (omega arith);
      opened = sym (opens_end l i (omega arith));
      waits = sym (awaits_end l i (omega arith));
      few = omega arith;
      room = omega arith;
    }

module _ (l : List ℕ) (k : ℕ) (h : k < PARTS) where
  -- the record at a place, by its words
  taken_at : (get_or (records_in PARTS l) k blank).taken ≡ eqb (word_at l (ROW * k) % 2) 1
  unfolding record_at table_in record_of
  taken_at = ap (λ r. r.taken) (row_at l k h)

  number_at : (get_or (records_in PARTS l) k blank).number ≡ word_at l (ROW * k + 4)
  unfolding record_at table_in record_of
  number_at = ap (λ r. r.number) (row_at l k h)

module _ (ready asks : Bool) (l : List ℕ) (marks : List Bool) (channels awaited i : ℕ) (h : 0 < i) (s : Sofar ready asks l marks channels awaited i) where
  -- one turn, by what the record at the place before adds
  sofar_turn :
      (next : List Bool) (more wait sum still : ℕ) → Adds ready asks (word_at l (ROW * (i - 1))) more wait
      → Passed (records_in PARTS l) next (i - 1) → sum ≡ channels + more → still ≡ awaited + wait → Sofar ready asks l next sum still (i - 1)
  unfolding MESSAGE_MAX
  sofar_turn next more wait sum still adds p e f =
      let few = s.few in
      let back : i - 1 + 1 ≡ i = omega arith in
      let rest = word_at l (ROW * (i - 1)) in
      let opened = rw back at (opens_turn l (i - 1) (omega arith)) in
      let waits = rw back at (awaits_turn l (i - 1) (omega arith)) in
      let one = opens_most (record_of rest 0 0) in
      let most = awaits_most_rest asks rest adds.good in
      record {
        passed = p;
        fine = fine_back ready asks l i h (omega arith) s.fine adds.fine;
        opened = omega (arith, s.opened, adds.opened);
        waits = omega (arith, s.waits, adds.waits);
        few = omega (arith, adds.opened);
        room = omega (arith, s.room, adds.waits);
      }

  -- a free record leaves all as it is
  pub sofar_free : word_at l (ROW * (i - 1)) ≡ 0 → Sofar ready asks l marks channels awaited (i - 1)
  sofar_free e =
      let few = s.few in
      let free : (get_or (records_in PARTS l) (i - 1) blank).taken ≡ false = taken_at l (i - 1) (omega arith) ∙ rw e in
      let next = passed_free (records_in PARTS l) marks i h s.passed free in
      sofar_turn marks 0 0 channels awaited (rw e (adds_none ready asks)) next (omega arith) (omega arith)

  -- a taken one sets its number's mark
  pub sofar_taken :
      (rest number more wait sum still : ℕ) → rest ≡ word_at l (ROW * (i - 1)) → number ≡ word_at l (ROW * (i - 1) + 4) → length marks ≡ MARKS
      → rest % 2 ≡ 1 → get_or marks (number % MARKS) false ≡ false → Adds ready asks rest more wait → sum ≡ channels + more → still ≡ awaited + wait
      → Sofar ready asks l (set marks (number % MARKS) true) sum still (i - 1)
  sofar_taken rest number more wait sum still e f long t clear adds =
      let few = s.few in
      let own : (get_or (records_in PARTS l) (i - 1) blank).number ≡ number = number_at l (i - 1) (omega arith) ∙ sym f in
      let taken : (get_or (records_in PARTS l) (i - 1) blank).taken ≡ true = taken_at l (i - 1) (omega arith) ∙ rw (← e, t) in
      let next = passed_taken (records_in PARTS l) marks i h s.passed long taken (rw own clear) in
      sofar_turn _ more wait sum still (rw e at adds) (rw own at next)

-- after the last turn, all is told
pub sofar_all :
    (ready asks : Bool) (l : List ℕ) (marks : List Bool) (channels awaited i : ℕ) → i ≤ 0 → Sofar ready asks l marks channels awaited i
    → channels ≡ word_at l CHANNELS → awaited ≡ word_at l AWAITED
    → (fine_rows ready asks PARTS l ≡ true) × ((recounted l ≡ true) × (no_number_twice (table_in l).records ≡ true))
unfolding table_in ROW PARTS
sofar_all ready asks l marks channels awaited zero h s e f =
    let sums = recounts l channels awaited s.opened s.waits in
    let same : recounted l ≡ true = sums ∙ rw (eq-eqb channels (word_at l CHANNELS) e, eq-eqb awaited (word_at l AWAITED) f) in
    (s.fine, (same, passed_all (records_in PARTS l) marks 0 h s.passed))
sofar_all ready asks l marks channels awaited (suc i) h s e f = absurd (omega arith)
