-- Records read back from a table, and where the searches find them.
-- Assumes nothing.
use mathlib.Core.Path.{◌≡◌, refl, sym, ap, ◌∙◌}
use mathlib.Core.Bool.{Bool, true, false}
use mathlib.Core.Logic.{◌⊎◌, inl, inr}
use mathlib.Core.List.{List, [], ◌∷◌}
use Prim.Native.Nat.{ℕ, zero, suc, ◌≤◌, ◌<◌}
use native.Mathlib.Omega.{arith}
use borrow.Author.Tests.{eqb-true, eqb-false, not-true, lt-ltb, le-ltb}
use lib.Dec.{eqb}
use lib.ListN.{length, get_or}
use lib.Seq.{set_out, get_or-set_same, get_or-set_other}
use Rattle.paper.specs.Sizes.{PARTS}
use Rattle.lists.proofs.Places.{place_passes, place_none, place_all}
use Rattle.channel.specs.declared.Record.{Record}
use Rattle.channel.specs.Channel.{blank}
use Rattle.table.proofs.Twice.{holds_says}
use Rattle.table.proofs.Recount.{changed_same}
use Rattle.table.specs.declared.Table.{Table}
use Rattle.table.specs.declared.Found.{Found}
use Rattle.table.specs.Table.{
  holds,
  is_free,
  number_place,
  free_place,
  open_place,
  record_at,
  placed,
  with_record,
  found_in,
  open_in,
  home_place,
  home_in,
}

-- ---- after a record is set

pub placed_past : (t : Table) (k : ℕ) (r : Record) → length t.records ≤ k → placed t k r ≡ t
unfolding placed
placed_past t k r h = rw (set_out t.records k r h)

pub with_past : (t : Table) (k : ℕ) (r : Record) → length t.records ≤ k → with_record t k r ≡ t
unfolding with_record
with_past t k r h = rw (placed_past t k r h, set_out t.records k r h, changed_same t.totals (record_at t k))

pub at_same : (t : Table) (k : ℕ) (r : Record) → k < length t.records → record_at (with_record t k r) k ≡ r
unfolding record_at with_record
at_same t k r h = get_or-set_same t.records k r blank h

pub at_other : (t : Table) (k i : ℕ) (r : Record) → (i ≡ k → ⊥) → record_at (with_record t k r) i ≡ record_at t i
unfolding record_at with_record
at_other t k i r h = get_or-set_other t.records k i r blank h

-- at any place stands the new record or the old one
pub at_any :
    (t : Table) (k : ℕ) (r : Record) → k < length t.records → (i : ℕ)
    → ((i ≡ k) × (record_at (with_record t k r) i ≡ r)) ⊎ ((i ≡ k → ⊥) × (record_at (with_record t k r) i ≡ record_at t i))
at_any t k r h i = go (eqb i k) refl
  where
    go :
        (b : Bool) → eqb i k ≡ b
        → ((i ≡ k) × (record_at (with_record t k r) i ≡ r)) ⊎ ((i ≡ k → ⊥) × (record_at (with_record t k r) i ≡ record_at t i))
    go true e = let same = eqb-true i k e in inl (same, rw same (at_same t k r h))
    go false e = inr (eqb-false i k e, at_other t k i r (eqb-false i k e))

-- a place that the table doesn't have
pub at_past : (rs : List Record) (k : ℕ) → length rs ≤ k → get_or rs k blank ≡ blank
at_past [] k h = refl
at_past (r ∷ rs) zero h = absurd (omega arith)
at_past (r ∷ rs) (suc k) h = at_past rs k (omega arith)

-- ---- what a search finds

pub found_there :
    (n : ℕ) (t : Table) (k : ℕ) → k ≡ number_place n t → ◌≡◌ {A = Found} (record { place = k; row = record_at t k }) (found_in n t)
unfolding found_in
found_there n t k e = ap (λ (j : ℕ). record { place = j; row = record_at t j }) e

pub found_none :
    (n : ℕ) (t : Table) (k : ℕ) (r : Record) → length t.records ≤ k → r ≡ blank → k ≡ number_place n t
    → ◌≡◌ {A = Found} (record { place = k; row = r }) (found_in n t)
unfolding record_at
found_none n t k r h f e = ap (λ (x : Record). record { place = k; row = x }) (f ∙ sym (at_past t.records k h)) ∙ found_there n t k e

pub open_there : (t : Table) (k : ℕ) → k ≡ open_place t → ◌≡◌ {A = Found} (record { place = k; row = record_at t k }) (open_in t)
unfolding open_in
open_there t k e = ap (λ (j : ℕ). record { place = j; row = record_at t j }) e

pub open_none :
    (t : Table) (k : ℕ) (r : Record) → length t.records ≤ k → r ≡ blank → k ≡ open_place t
    → ◌≡◌ {A = Found} (record { place = k; row = r }) (open_in t)
unfolding record_at
open_none t k r h f e = ap (λ (x : Record). record { place = k; row = x }) (f ∙ sym (at_past t.records k h)) ∙ open_there t k e

pub number_holds : (n : ℕ) (t : Table) → number_place n t < length t.records → holds n (record_at t (number_place n t)) ≡ true
unfolding number_place record_at
number_holds n t h = place_passes (holds n) t.records blank h

-- a record that is found is taken
pub found_taken : (n : ℕ) (t : Table) (f : Found) → f ≡ found_in n t → f.place < length t.records → f.row.taken ≡ true
unfolding found_in
found_taken n t f e h = rw e (holds_says n _ (number_holds n t (rw e at h))).0

pub number_none : (n : ℕ) (t : Table) → length t.records ≤ number_place n t → (i : ℕ) → holds n (record_at t i) ≡ false
unfolding number_place record_at holds
number_none n t h = place_none (holds n) t.records blank refl h

pub none_number : (n : ℕ) (t : Table) → ((i : ℕ) → holds n (record_at t i) ≡ false) → number_place n t ≡ length t.records
unfolding number_place record_at
none_number n t h = place_all (holds n) t.records blank h

pub free_at : (t : Table) → free_place t < length t.records → (record_at t (free_place t)).taken ≡ false
unfolding free_place record_at is_free
free_at t h = not-true (record_at t (free_place t)).taken (place_passes is_free t.records blank h)

-- ---- where a channel's change is put

pub home_there : (n : ℕ) (t : Table) (f : Found) → f ≡ found_in n t → f.place < PARTS → f ≡ home_in n t
unfolding found_in home_in home_place
home_there n t f e h = e ∙ rw (lt-ltb (number_place n t) PARTS (rw e at h)) refl

pub home_free :
    (n : ℕ) (t : Table) (f : Found) (k : ℕ) → f ≡ found_in n t → PARTS ≤ f.place → k ≡ free_place t
    → ◌≡◌ {A = Found} (record { place = k; row = f.row }) (home_in n t)
unfolding found_in home_in home_place
home_free n t f k e h g = rw (e, g) (rw (le-ltb (number_place n t) PARTS (rw e at h)) refl)
