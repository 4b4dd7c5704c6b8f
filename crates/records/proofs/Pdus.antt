-- The laws of a walk over PDUs: the walker's records are a framing, and a record lends its PDU.
-- Assumes nothing.
use mathlib.Core.Path.{◌≡◌, refl, ◌∙◌}
use mathlib.Core.List.{List, [], ◌∷◌}
use Prim.Native.Nat.{ℕ, zero, suc, ◌+◌, ◌-◌, ◌≤◌, ◌<◌}
use native.Mathlib.Omega.{arith}
use lib.ListN.{take, drop}
use lib.Seq.{take-nil, drop-drop}
use Rattle.records.specs.Records.{LENGTH, whole_of, pdu_in}
use Rattle.records.specs.Walks.{front_of, records_of, size_of}
use Rattle.records.specs.Items.{items_in}
use Rattle.records.specs.Pdus.{pdus_in}
use Rattle.records.proofs.Rests.{size_first}
use Rattle.records.proofs.Framings.{records_none, records_first}
use Rattle.records.proofs.Records.{whole_framing}

-- ---- the PDU as a record's bytes lend it

behind : (k n : ℕ) (l : List ℕ) → take n (drop k l) ≡ drop k (take (k + n) l)
behind zero n l = let e : 0 + n ≡ n = omega arith in rw e refl
behind (suc k) n [] = rw (take-nil (suc k + n)) (take-nil n)
behind (suc k) n (x ∷ l) = let e : suc k + n ≡ suc (k + n) = omega arith in rw e (behind k n l)

pub pdu_lent : (input : List ℕ) (at n : ℕ) → n ≡ whole_of (drop at input) → LENGTH ≤ n
    → take (at + n - (at + LENGTH)) (drop (at + LENGTH) input) ≡ pdu_in (front_of whole_of (drop at input))
unfolding pdu_in front_of
pdu_lent input at n e h =
    let many : at + n - (at + LENGTH) ≡ n - LENGTH = omega arith in
    let all : LENGTH + (n - LENGTH) ≡ n = omega arith in
    rw (many, ← e, ← drop-drop LENGTH at input) (behind LENGTH (n - LENGTH) (drop at input) ∙ rw all refl)

-- at first no record is there
pub none_at_first : whole_of [] ≡ 0
none_at_first = omega (arith, whole_framing.fits [])

-- ---- PDU by PDU

pub pdus_none : (input : List ℕ) → whole_of input ≡ 0 → pdus_in input ≡ []
unfolding items_in
pdus_none input none = rw (records_none whole_of input none) refl

-- the record in front, of so many bytes, and what is behind it
pub in_front : (input behind : List ℕ) (n : ℕ) → n ≡ whole_of input → 0 < n → behind ≡ drop n input
    → (size_of (records_of whole_of input) ≡ n + size_of (records_of whole_of behind))
    × (pdus_in input ≡ pdu_in (take n input) ∷ pdus_in behind)
unfolding items_in front_of
in_front input behind n whole some at =
    let there : 0 < whole_of input = omega arith in
    rw (at, whole) (size_first whole_framing input there, rw (records_first whole_framing input there) refl)
