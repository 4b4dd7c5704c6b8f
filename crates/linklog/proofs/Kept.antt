-- The records that touch no bad block.
-- Assumes nothing.
use mathlib.Core.Path.{◌≡◌, refl, sym, ap, ◌∙◌}
use mathlib.Core.Bool.{Bool, true, false, cond, ◌&&◌}
use mathlib.Core.List.{List, [], ◌∷◌, ◌++◌, map}
use Prim.Native.Nat.{ℕ, zero, suc, ◌+◌, ◌-◌, ◌*◌, ◌/◌, ◌≤◌, ◌<◌}
use native.Mathlib.Omega.{arith}
use lib.ListN.{length}
use Rattle.lists.proofs.Cases.{and_false, both, each}
use Rattle.records.specs.Walks.{size_of}
use Rattle.blocks.specs.Block.{PAYLOAD}
use Rattle.linklog.specs.Records.{Entry, record_of, entry_in}
use Rattle.linklog.specs.Promises.{fit, AreEntries, sound, kept_from}
use Rattle.linklog.proofs.Framing.{AreRecords, entry_back}
use Rattle.linklog.proofs.Fits.{Short, begun, by_fit, fit_first, fit_none}

-- the records that touch no bad block, in order: the first begins at this place of the records' bytes
unfoldable pub kept : (ℕ → Bool) → ℕ → List (List ℕ) → List (List ℕ)
kept good at [] = []
kept good at (bytes ∷ rest) =
    cond (sound good at (length bytes)) (bytes ∷ kept good (at + length bytes) rest) (kept good (at + length bytes) rest)

module _ (good : ℕ → Bool) where
  -- ---- stretches of bytes

  -- a stretch behind a stretch
  pub sound_both : (n m at : ℕ) → sound good at (n + m) ≡ (sound good at n && sound good (at + n) m)
  unfolding sound
  sound_both zero m at =
      let none : 0 + m ≡ m = omega arith in
      let here : at + 0 ≡ at = omega arith in
      rw (none, here) refl
  sound_both (suc n) m at =
      let one : suc n + m ≡ suc (n + m) = omega arith in
      let on : at + suc n ≡ suc at + n = omega arith in
      rw (one, on, sound_both n m (suc at)) (and_both (good (at / PAYLOAD)) (sound good (suc at) n) (sound good (suc at + n) m))
    where
      and_both : (a b c : Bool) → (a && (b && c)) ≡ ((a && b) && c)
      and_both true b c = refl
      and_both false b c = refl

  -- in a good block,
  pub sound_good : (k n at : ℕ) → good k ≡ true → PAYLOAD * k ≤ at → at + n ≤ PAYLOAD * suc k → sound good at n ≡ true
  unfolding sound
  sound_good k zero at e low high = refl
  sound_good k (suc n) at e low high =
      let here : at / PAYLOAD ≡ k = omega arith in
      rw (here, e) (sound_good k n (suc at) e (omega arith) (omega arith))

  -- and where its end lies in a bad one
  pub sound_bad : (k n at : ℕ) → good k ≡ false → 0 < n → PAYLOAD * k < at + n → at + n ≤ PAYLOAD * suc k → sound good at n ≡ false
  unfolding sound
  sound_bad k zero at e some low high = absurd (omega arith)
  sound_bad k (suc zero) at e some low high =
      let here : at / PAYLOAD ≡ k = omega arith in
      rw (here, e)
  sound_bad k (suc (suc n)) at e some low high =
      rw (sound_bad k (suc n) (suc at) e (omega arith) (omega arith) (omega arith)) (and_false (good (at / PAYLOAD)))

  -- more bytes make nothing sound
  pub sound_more : (n m at : ℕ) → sound good at n ≡ false → n ≤ m → sound good at m ≡ false
  sound_more n m at e h =
      let sum : m ≡ n + (m - n) = omega arith in
      ap (sound good at) sum ∙ sound_both n (m - n) at ∙ rw e

  -- ---- records

  pub kept_first : (at : ℕ) (bytes : List ℕ) (rest : List (List ℕ)) → sound good at (length bytes) ≡ true
      → kept good at (bytes ∷ rest) ≡ bytes ∷ kept good (at + length bytes) rest
  unfolding kept
  kept_first at bytes rest e = rw e

  pub kept_not : (at : ℕ) (bytes : List ℕ) (rest : List (List ℕ)) → sound good at (length bytes) ≡ false
      → kept good at (bytes ∷ rest) ≡ kept good (at + length bytes) rest
  unfolding kept
  kept_not at bytes rest e = rw e

  -- records behind records
  pub kept_both : (at : ℕ) (rs ss : List (List ℕ)) → kept good at (rs ++ ss) ≡ kept good at rs ++ kept good (at + size_of rs) ss
  unfolding kept size_of
  kept_both at [] ss =
      let here : at + 0 ≡ at = omega arith in
      rw here refl
  kept_both at (bytes ∷ rs) ss =
      let on : at + (length bytes + size_of rs) ≡ at + length bytes + size_of rs = omega arith in
      rw (on, kept_both (at + length bytes) rs ss)
      (each (λ (l : List (List ℕ)). l) (λ (l : List (List ℕ)). l ++ kept good (at + length bytes + size_of rs) ss) (sound good at (length bytes)) refl refl)

  -- where all bytes are sound, all that fit are kept
  pub kept_fit : (m : ℕ) (rs : List (List ℕ)) (at : ℕ) → sound good at m ≡ true → kept good at (fit m rs) ≡ fit m rs
  unfolding kept fit
  kept_fit =
      by_fit (λ m rs. (at : ℕ) → sound good at m ≡ true → kept good at (fit m rs) ≡ fit m rs) (λ m at e. refl)
      (λ m bytes rest h later at e.
      let sum : m ≡ length bytes + (m - length bytes) = omega arith in
      let parts = both (sound good at (length bytes)) (sound good (at + length bytes) (m - length bytes))
      (sym (sound_both (length bytes) (m - length bytes) at) ∙ ap (sound good at) (sym sum) ∙ e) in
      rw (fit_first m bytes rest h) (kept_first at bytes (fit (m - length bytes) rest) parts.0 ∙ rw (later (at + length bytes) parts.1)))
      (λ m bytes rest h at e. rw (fit_none m bytes rest h) refl)

  -- of those that end in a bad block none is
  pub none_kept : (k : ℕ) → good k ≡ false → (m : ℕ) (rs : List (List ℕ)) → AreRecords rs → (at off : ℕ)
      → Short off rs → PAYLOAD * k ≤ at + off → at + m ≤ PAYLOAD * suc k → kept good at (fit m rs) ≡ []
  unfolding kept fit
  none_kept k bad =
      by_fit (λ m rs. AreRecords rs → (at off : ℕ) → Short off rs → PAYLOAD * k ≤ at + off → at + m ≤ PAYLOAD * suc k → kept good at (fit m rs) ≡ [])
      (λ m are at off short low high. refl)
      (λ m bytes rest h later are at off short low high.
      rw (fit_first m bytes rest h)
      (kept_not at bytes (fit (m - length bytes) rest)
      (sound_bad k (length bytes) at bad are.0.some (omega arith) (omega arith))
      ∙ later are.1 (at + length bytes) 0 (begun rest are.1) (omega arith) (omega arith)))
      (λ m bytes rest h are at off short low high. rw (fit_none m bytes rest h) refl)

  -- ---- entries

  pub kept_entries : (at : ℕ) (es : List Entry) → AreEntries es → map entry_in (kept good at (map record_of es)) ≡ kept_from good at es
  unfolding kept kept_from
  kept_entries at [] are = refl
  kept_entries at (e ∷ es) are =
      rw (← (kept_entries (at + length (record_of e)) es are.1), ← (entry_back e are.0))
      (each (map entry_in) (λ (l : List Entry). l) (sound good at (length (record_of e))) refl refl)
