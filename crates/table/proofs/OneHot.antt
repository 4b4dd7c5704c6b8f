-- A place told by a bit: the record is set where the bit stands, and the others stay.
-- Assumes nothing.
use mathlib.Core.Path.{◌≡◌, refl, sym, ap, ◌∙◌}
use mathlib.Core.Logic.{◌⊎◌, inl, inr, ⊎_elim}
use Prim.Native.Nat.{ℕ, ◌+◌, ◌*◌, ◌-◌, ◌^◌, ◌/◌, ◌%◌, ◌≤◌, ◌<◌}
use native.Mathlib.Omega.{arith}
use borrow.Author.Tests.{lt-ltb, le-ltb}
use lib.ListN.{length}
use lib.Pow.{pow-add, pow-lt}
use Rattle.paper.specs.Sizes.{PARTS}
use Rattle.lists.proofs.Cases.{lt_or_le}
use Rattle.channel.specs.declared.Record.{Record}
use Rattle.table.specs.declared.Table.{Table}
use Rattle.table.specs.Table.{placed, bit_of}
use Rattle.table.proofs.Records.{placed_past}

-- a bit that is still doubled fits
pub small : (i : ℕ) → i < 16 → 2 ^ i < 65536
small i h = pow-lt {j = 16} h

pub double : (i : ℕ) → 2 ^ (i + 1) ≡ 2 ^ i * 2
double i = pow-add 2 i 1

-- a bit before the place, and the bit at it
halves : (k i : ℕ) → i < k → 2 ^ (k - i) ≡ 2 ^ (k - (i + 1)) * 2
halves k i h = ap (λ (d : ℕ). 2 ^ d) (omega arith) ∙ double (k - (i + 1))

last : (k i : ℕ) → k ≤ i → 2 ^ (k - i) ≡ 1
last k i h = ap (λ (d : ℕ). 2 ^ d) {y = 0} (omega arith)

module _ (t : Table) (k : ℕ) (new : Record) where
  -- before turn i: the bit is still to come, or the record was set
  abbrev pub SoFar : ℕ → ℕ → Table → Type 0
  SoFar i rest next = ((i ≤ k) × (rest ≡ 2 ^ (k - i)) × (next ≡ t)) ⊎ ((rest ≡ 0) × (next ≡ placed t k new))

  pub begin : (rest : ℕ) → length t.records ≡ PARTS → rest ≡ bit_of k → SoFar 0 rest t
  unfolding bit_of
  begin rest h e =
      ⊎_elim
      (λ (l : k < PARTS). inl (omega arith, (rw (lt-ltb k PARTS l) at e) ∙ ap (λ (d : ℕ). 2 ^ d) (omega arith), refl))
      (λ (l : PARTS ≤ k). inr ((rw (le-ltb k PARTS l) at e), sym (placed_past t k new (rw h l))))
      (lt_or_le k PARTS)

  pub turn :
      (i rest : ℕ) (next after : Table) → SoFar i rest next
      → ((rest % 2 ≡ 1) × (after ≡ placed next i new)) ⊎ ((rest % 2 ≡ 1 → ⊥) × (after ≡ next)) → SoFar (i + 1) (rest / 2) after
  turn i rest next after s w =
      ⊎_elim (λ (x : (i ≤ k) × (rest ≡ 2 ^ (k - i)) × (next ≡ t)). ⊎_elim (before x) (here x) (lt_or_le i k)) behind s
    where
      before : (i ≤ k) × (rest ≡ 2 ^ (k - i)) × (next ≡ t) → i < k → SoFar (i + 1) (rest / 2) after
      before x l =
          let twice = x.1 ∙ halves k i l in
          ⊎_elim (λ y. absurd (omega (arith, twice, y.0))) (λ y. inl (omega (arith, l), omega (arith, twice), y.1 ∙ x.2)) w

      here : (i ≤ k) × (rest ≡ 2 ^ (k - i)) × (next ≡ t) → k ≤ i → SoFar (i + 1) (rest / 2) after
      here x l =
          let one = x.1 ∙ last k i l in
          let same : i ≡ k = omega (arith, l, x.0) in
          ⊎_elim (λ y. inr (omega (arith, one), y.1 ∙ rw (x.2, same) refl)) (λ y. absurd (y.0 (omega (arith, one)))) w

      behind : (rest ≡ 0) × (next ≡ placed t k new) → SoFar (i + 1) (rest / 2) after
      behind x = ⊎_elim (λ y. absurd (omega (arith, x.0, y.0))) (λ y. inr (omega (arith, x.0), y.1 ∙ x.1)) w

  pub done : (i rest : ℕ) (next : Table) → length t.records ≤ i → SoFar i rest next → next ≡ placed t k new
  done i rest next h s = ⊎_elim (λ x. x.2 ∙ sym (placed_past t k new (omega (arith, h, x.0)))) (λ x. x.1) s
