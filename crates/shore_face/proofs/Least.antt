-- The smallest number from 1 up that no record has, found in a state's bytes: no record has it, so its home is the free place.
-- Assumes nothing.
use mathlib.Core.Path.{◌≡◌, refl, sym, ap, ◌∙◌}
use mathlib.Core.Bool.{true, false}
use mathlib.Core.Logic.{⊎_elim}
use mathlib.Core.List.{List}
use Prim.Native.Nat.{ℕ, ◌≤◌, ◌<◌}
use borrow.Author.Tests.{eq-eqb, le-ltb}
use lib.ListN.{length}
use Rattle.paper.specs.Sizes.{PARTS}
use Rattle.lists.proofs.Cases.{lt_or_le, true_not_false}
use Rattle.numbers.specs.Numbers.{Bytes}
use Rattle.channel.specs.declared.Record.{Record}
use Rattle.channel.specs.declared.Change.TheVariants.{Becomes}
use Rattle.channel.specs.Channel.{blank}
use Rattle.table.specs.declared.Found.{Found}
use Rattle.table.specs.Table.{number_place, free_place, record_at, home_place, home_in}
use Rattle.table.proofs.Twice.{holds_says}
use Rattle.table.proofs.Records.{at_past, number_holds}
use Rattle.shore.specs.Numbers.{least_number}
use Rattle.shore.specs.Rules.{awaited_record}
use Rattle.shore.specs.Shore.{awaiting}
use Rattle.shore.proofs.Calls.{put_awaited}
use Rattle.shore.proofs.Least.{least_none}
use Rattle.saved.specs.declared.Head.{Head}
use Rattle.saved.specs.Saved.{STATE, SHORE, saved, table_in, asked_in, is_good, head_in, home_over, put_over}
use Rattle.saved.proofs.Searching.{length_told}
use Rattle.saved.proofs.Putting.{put_over_law, head_over, home_over_law}
use Rattle.shore_face.specs.Face.{saved_shore}
use Rattle.shore_face.proofs.Steps.{told_small}

-- ---- the search

-- what is found of a number in a state's bytes
module _ (n : ℕ) (l : List ℕ) (f : Found) (size : length l ≡ STATE) (e : f ≡ home_over n l) where
  pub found_row : f.row ≡ record_at (table_in l) (number_place n (table_in l))
  unfolding home_over home_in
  found_row = ap (λ (x : Found). x.row) e ∙ rw (eq-eqb (length l) STATE size) refl

  there : number_place n (table_in l) < PARTS → f.row.taken ≡ true
  there h =
      let t = table_in l in
      ap (λ (r : Record). r.taken) found_row
      ∙ (holds_says n (record_at t (number_place n t)) (number_holds n t (rw (length_told l) h))).0

  nowhere : PARTS ≤ number_place n (table_in l) → f.row.taken ≡ false
  unfolding record_at
  nowhere h =
      let t = table_in l in
      ap (λ (r : Record). r.taken) (found_row ∙ at_past t.records (number_place n t) (rw (length_told l) h))

  -- the record is taken exactly where the number has a place
  pub seat : f.row.taken ≡ true → number_place n (table_in l) < PARTS
  seat h =
      ⊎_elim
      (λ (k : number_place n (table_in l) < PARTS). k)
      (λ (k : PARTS ≤ number_place n (table_in l)). absurd (true_not_false (sym h ∙ nowhere k)))
      (lt_or_le (number_place n (table_in l)) PARTS)

  pub no_seat : f.row.taken ≡ false → PARTS ≤ number_place n (table_in l)
  no_seat h =
      ⊎_elim
      (λ (k : number_place n (table_in l) < PARTS). absurd (true_not_false (sym (there k) ∙ h)))
      (λ (k : PARTS ≤ number_place n (table_in l)). k)
      (lt_or_le (number_place n (table_in l)) PARTS)

-- ---- a local open, in a state's bytes

module _ (l : List ℕ) (g : is_good SHORE true l ≡ true) where
  -- the home of the smallest number is the free place
  pub home_least : (n : ℕ) (f : Found) → n ≡ least_number (table_in l) → f ≡ home_over n l → f.place ≡ free_place (table_in l)
  unfolding home_in home_place
  home_least n f d e =
      let t = table_in l in
      ap (λ (x : Found). x.place) (e ∙ home_over_law SHORE true l n g ∙ ap (λ (m : ℕ). home_in m t) d)
      ∙ rw (le-ltb (number_place (least_number t) t) PARTS (least_none t (length_told l))) refl

  -- the awaited number's record is put there, and the state is that of the table with it
  pub awaited_put :
      (h : Head) (n k class : ℕ) (row r : Record) (after : List ℕ) → Bytes l → h ≡ head_in l → n ≡ least_number (table_in l)
      → k ≡ free_place (table_in l) → free_place (table_in l) < PARTS → row ≡ blank → r ≡ awaited_record h.level n class
      → after ≡ put_over l h.ready h.level k row (Becomes r)
      → after ≡ saved_shore (record { table = awaiting (table_in l) (least_number (table_in l)) class; asked = asked_in l })
  unfolding saved_shore
  awaited_put h n k class row r after bytes he ne ke free be re pe =
      let t = table_in l in
      let change = Becomes (awaited_record t.level (least_number t) class) in
      let next : after ≡ put_over l t.ready t.level (free_place t) blank change = rw (re, be, ke, ne, he ∙ head_over SHORE true l g) at pe in
      next ∙ put_over_law SHORE true l bytes g t.ready t.level (free_place t) blank change (told_small l)
      ∙ ap (saved SHORE (asked_in l)) (put_awaited t (least_number t) class (length_told l) free)
