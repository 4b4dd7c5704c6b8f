-- What the benchmark's host asks.
use Rattle.std.specs.Prelude.{ℕ, Bool, true, cond, List, [], ◌∷◌}
use Rattle.reading.specs.Reading.{read_pdu}
use Rattle.deciding.specs.declared.Matter.{Matter}
use Rattle.client.specs.declared.Asked.{Asked}
use Rattle.client.specs.Asking.{heard_in, closing_of}

-- the one listener, PUMP
abbrev pub PUMP : List ℕ
PUMP = 80 ∷ 85 ∷ 77 ∷ 80 ∷ 0 ∷ []

-- what a received PDU asks, or a close of the number
unfoldable pub asked_next : Bool → List ℕ → ℕ → Asked Matter
asked_next received pdu n = cond received (heard_in PUMP pdu (read_pdu true pdu)) (closing_of n)
