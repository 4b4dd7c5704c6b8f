-- The laws of a record among moves.
-- Assumes nothing.
use Rattle.std.proofs.Common.{◌≡◌, ℕ, ◌-◌, ◌≤◌, min, true, List, [], ◌∷◌, length, take, drop, sym, ◌∙◌, arith}
use Rattle.lists.proofs.Cases.{true_not_false, and_false}
use Rattle.records.specs.Records.{LENGTH, pdu_in}
use Rattle.lists.proofs.Lent.{rest_lent}
use Rattle.walking.specs.declared.Told.{Told}
use Rattle.walking.specs.Walking.{has_closes, is_close}

-- a local close has its first byte
pub close_some : (told : Told) (bytes : List ℕ) → is_close told bytes ≡ true → 1 ≤ length bytes
unfolding is_close
close_some told [] h = absurd (true_not_false (sym h ∙ and_false (has_closes told)))
close_some told (b ∷ bytes) h = omega arith

-- the PDU of a record, lent from its bytes
pub pdu_lent : (bytes : List ℕ) (at : ℕ) → at ≡ min LENGTH (length bytes) → take (length bytes - at) (drop at bytes) ≡ pdu_in bytes
unfolding pdu_in
pdu_lent bytes at h = rest_lent bytes LENGTH at h
