-- The smallest number from 1 up that no record has: there is one of 1 to 17, since sixteen records have no seventeen numbers, and each
-- smaller one has a record.
-- Assumes nothing.
use mathlib.Core.Path.{◌≡◌, refl, sym, ◌∙◌}
use mathlib.Core.Bool.{Bool, true, false, cond}
use mathlib.Core.Logic.{⊎_elim}
use mathlib.Core.List.{List, [], ◌∷◌}
use Prim.Native.Nat.{ℕ, zero, suc, ◌+◌, ◌-◌, ◌≤◌, ◌<◌}
use native.Mathlib.Omega.{arith}
use native.Mathlib.Decide.{ℕ_discrete}
use borrow.Author.Tests.{lt-ltb, le-ltb, ltb-true, ltb-false}
use lib.Dec.{ltb}
use lib.ListN.{length, get_or, set, length-set}
use Rattle.paper.specs.Sizes.{PARTS}
use Rattle.lists.specs.Places.{place}
use Rattle.lists.proofs.Cases.{lt_or_le}
use Rattle.lists.proofs.Places.{place_passes, place_set}
use Rattle.channel.specs.declared.Record.{Record}
use Rattle.channel.specs.Channel.{blank}
use Rattle.table.specs.declared.Table.{Table}
use Rattle.table.specs.Table.{holds, number_place}
use Rattle.table.specs.Totals.{total}
use Rattle.table.proofs.Twice.{holds_says, holds_other, holds_none}
use Rattle.table.proofs.Recount.{total_set}
use Rattle.shore.specs.Numbers.{least_from, least_number}

-- ---- sixteen records have no seventeen numbers

-- what a record counts, by whether it is taken
abbrev one : Bool → ℕ
one t = cond t 1 0

abbrev weigh : Record → ℕ
weigh r = one r.taken

-- no more than there are records
within : (rs : List Record) → total weigh rs ≤ length rs
unfolding total
within [] = omega arith
within (r ∷ rs) = go r.taken (within rs)
  where
    go : (t : Bool) → total weigh rs ≤ length rs → one t + total weigh rs ≤ suc (length rs)
    go true h = omega arith
    go false h = omega arith

-- that many numbers in a row, each with its record
abbrev Row : ℕ → ℕ → List Record → Type 0
Row left k rs = (i : ℕ) → k ≤ i → i < k + left → place (holds i) rs < length rs

-- the first one's record taken out, the others have theirs
without : (left k : ℕ) (rs : List Record) → Row (suc left) k rs → Row left (k + 1) (set rs (place (holds k) rs) blank)
without left k rs h i a b =
    let held = holds_says k (get_or rs (place (holds k) rs) blank) (place_passes (holds k) rs blank (h k (omega arith) (omega arith))) in
    let other = holds_other i (get_or rs (place (holds k) rs) blank) (λ e. omega (arith, held.1)) in
    rw (place_set (holds i) rs (place (holds k) rs) blank blank (holds_none i blank refl ∙ sym other), length-set) (h i (omega arith) (omega arith))

-- need as many taken records
packed : (left k : ℕ) (rs : List Record) → Row left k rs → left ≤ total weigh rs
packed zero k rs h = omega arith
packed (suc left) k rs h =
    let at = place (holds k) rs in
    let inside : at < length rs = h k (omega arith) (omega arith) in
    let heavy : weigh (get_or rs at blank) ≡ 1 = rw (holds_says k (get_or rs at blank) (place_passes (holds k) rs blank inside)).0 in
    omega (arith, heavy, total_set weigh rs at blank inside, packed left (k + 1) (set rs at blank) (without left k rs h))

-- ---- the search

-- where not all of them and the one behind them have records, what is found has none
from_none :
    (left k : ℕ) (t : Table) → (((i : ℕ) → k ≤ i → i < k + suc left → number_place i t < PARTS) → ⊥)
    → PARTS ≤ number_place (least_from left k t) t
unfolding least_from
from_none zero k t h =
    ⊎_elim
    (λ (l : number_place k t < PARTS). absurd (h (λ i a b. let e : i ≡ k = omega arith in rw e l)))
    (λ (l : PARTS ≤ number_place k t). l)
    (lt_or_le (number_place k t) PARTS)
from_none (suc left) k t h = go (ltb (number_place k t) PARTS) refl (from_none left (k + 1) t)
  where
    go :
        (b : Bool) → ltb (number_place k t) PARTS ≡ b
        → ((((i : ℕ) → k + 1 ≤ i → i < k + 1 + suc left → number_place i t < PARTS) → ⊥) → PARTS ≤ number_place (least_from left (k + 1) t) t)
        → PARTS ≤ number_place (cond b (least_from left (k + 1) t) k) t
    go false e later = ltb-false (number_place k t) PARTS e
    go true e later = later (λ all. h (λ i a b. each all i a b (ℕ_discrete i k)))
      where
        each :
            ((i : ℕ) → k + 1 ≤ i → i < k + 1 + suc left → number_place i t < PARTS) → (i : ℕ) → k ≤ i → i < k + suc (suc left) → Dec (i ≡ k)
            → number_place i t < PARTS
        each all i a b (yes q) = rw q (ltb-true (number_place k t) PARTS e)
        each all i a b (no d) = all i (omega arith) (omega arith)

-- each that is passed has a record
from_least : (left k : ℕ) (t : Table) (i : ℕ) → k ≤ i → i < least_from left k t → number_place i t < PARTS
unfolding least_from
from_least zero k t i a b = absurd (omega arith)
from_least (suc left) k t i a b = go (ltb (number_place k t) PARTS) refl (ℕ_discrete i k) (from_least left (k + 1) t i) b
  where
    go :
        (c : Bool) → ltb (number_place k t) PARTS ≡ c → Dec (i ≡ k)
        → (k + 1 ≤ i → i < least_from left (k + 1) t → number_place i t < PARTS) → i < cond c (least_from left (k + 1) t) k
        → number_place i t < PARTS
    go false e q later b = absurd (omega arith)
    go true e (yes q) later b = rw q (ltb-true (number_place k t) PARTS e)
    go true e (no d) later b = later (omega arith) b

-- it goes no further than it may
from_range : (left k : ℕ) (t : Table) → (k ≤ least_from left k t) × (least_from left k t ≤ k + left)
unfolding least_from
from_range zero k t = (omega arith, omega arith)
from_range (suc left) k t = go (ltb (number_place k t) PARTS) (from_range left (k + 1) t)
  where
    go :
        (c : Bool) → (k + 1 ≤ least_from left (k + 1) t) × (least_from left (k + 1) t ≤ k + 1 + left)
        → (k ≤ cond c (least_from left (k + 1) t) k) × (cond c (least_from left (k + 1) t) k ≤ k + suc left)
    go true h = (omega (arith, h.0), omega (arith, h.1))
    go false h = (omega arith, omega arith)

-- ---- the smallest number

-- no record has the smallest number
pub least_none : (t : Table) → length t.records ≡ PARTS → PARTS ≤ number_place (least_number t) t
unfolding least_number number_place
least_none t rows =
    from_none PARTS 1 t
    (λ all. omega (arith, rows, within t.records, packed (suc PARTS) 1 t.records (λ i a b. rw rows (all i a b))))

-- and each smaller one from 1 up has one
pub least_least : (t : Table) (i : ℕ) → 1 ≤ i → i < least_number t → number_place i t < PARTS
unfolding least_number
least_least t i a b = from_least PARTS 1 t i a b

-- it is one of 1 to 17
pub least_range : (t : Table) → (1 ≤ least_number t) × (least_number t ≤ PARTS + 1)
unfolding least_number
least_range t = let r = from_range PARTS 1 t in (r.0, omega arith)

-- ---- as the code goes

-- how many numbers are still to be tried
abbrev pub left : ℕ → ℕ
left number = PARTS + 1 - number

module _ (number : ℕ) (t : Table) where
  pub hit : number ≤ PARTS → PARTS ≤ number_place number t → least_from (left number) number t ≡ number
  unfolding least_from
  hit h e = let one : left number ≡ suc (PARTS - number) = omega arith in rw (one, le-ltb (number_place number t) PARTS e) refl

  pub miss : number ≤ PARTS → number_place number t < PARTS → least_from (left (number + 1)) (number + 1) t ≡ least_from (left number) number t
  unfolding least_from
  miss h e =
      let one : left number ≡ suc (PARTS - number) = omega arith in
      let fewer : left (number + 1) ≡ PARTS - number = omega arith in
      rw (one, fewer, lt-ltb (number_place number t) PARTS e) refl

  pub behind : PARTS < number → least_from (left number) number t ≡ number
  unfolding least_from
  behind h = let none : left number ≡ 0 = omega arith in rw none refl
