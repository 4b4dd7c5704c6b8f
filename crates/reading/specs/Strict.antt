-- Strict reading: "One meaning, one byte string". It is plain reading, but for one refusal more:
--   "18, wide number or Length, or ignored bits set; it is the last in reading."
-- A CreationStatus, a Version and the charges have one width.
use Rattle.std.specs.Prelude.{ℕ, ◌+◌, ◌/◌, ◌%◌, Bool, cond, not, ◌&&◌, ◌||◌, List, [], ◌∷◌, ◌++◌, eqb, get_or}
use Rattle.paper.specs.Rows.{refuse, is_fine, verdict_number, Row, row}
use Rattle.paper.specs.Commands.{CREATE, DATA_FIRST, CAPABILITIES}
use Rattle.paper.specs.declared.Refusal.TheVariants.{Loose}
use Rattle.numbers.specs.Numbers.{wide_at, width_of}
use Rattle.reading.specs.Reading.{read_pdu}
use Rattle.reading.specs.Said.{verdict_on}
use Rattle.reading.specs.Layouts.{reading_rows}
use Rattle.reading.specs.declared.Found.{Found}
use Rattle.reading.specs.declared.Pdu.{Pdu}
use Rattle.reading.specs.declared.Pdu.TheVariants.{Refused}

-- "ignored bits": the middle bits of the kinds that have Sp. A Create request has Pri there, a Data First the width of
-- its Length
unfoldable pub has_sp : Bool → ℕ → Bool
has_sp fromServer cmd = cond (eqb cmd CREATE) (not fromServer) (not (eqb cmd DATA_FIRST))

unfoldable pub sp_set : Bool → ℕ → ℕ → Bool
sp_set fromServer cmd middle = has_sp fromServer cmd && not (eqb middle 0)

-- "wide [..] Length": only a Data First has one, behind its number
unfoldable pub wide_length : List ℕ → ℕ → ℕ → ℕ → Bool
wide_length pdu cmd middle at = eqb cmd DATA_FIRST && wide_at pdu at (width_of middle)

-- "wide number or Length, or ignored bits set", where it is known whether the number is wide
unfoldable pub loose_after : Bool → List ℕ → ℕ → ℕ → Bool → ℕ → Bool
loose_after fromServer pdu cmd middle wide at = wide || (wide_length pdu cmd middle at || sp_set fromServer cmd middle)

-- Cmd 1 to 4
unfoldable pub loose_numbered : Bool → List ℕ → ℕ → ℕ → ℕ → Bool
loose_numbered fromServer pdu cmd middle cbId =
    loose_after fromServer pdu cmd middle (wide_at pdu 1 (width_of cbId)) (1 + width_of cbId)

-- Capabilities have no number
unfoldable pub loose_by : Bool → List ℕ → ℕ → ℕ → ℕ → Bool
loose_by fromServer pdu cmd middle cbId =
    cond (eqb cmd CAPABILITIES) (sp_set fromServer cmd middle) (loose_numbered fromServer pdu cmd middle cbId)

unfoldable pub loose : Bool → List ℕ → Bool
loose fromServer pdu = loose_by fromServer pdu (get_or pdu 0 0 / 16) (get_or pdu 0 0 / 4 % 4) (get_or pdu 0 0 % 4)

-- whether an answer is one of the kinds, and no refusal
abbrev pub accepted : Pdu → Bool
accepted answer = is_fine (verdict_on answer)

-- "it is the last in reading": what strict reading makes of plain reading's answer
unfoldable pub strictly : Bool → Pdu → Pdu
strictly loose answer = refuse (Refused Loose) (accepted answer && loose) answer

unfoldable pub read_strict : Bool → List ℕ → Pdu
read_strict fromServer pdu = strictly (loose fromServer pdu) (read_pdu fromServer pdu)

-- the refusals as rows: those of reading, and 18 behind them
unfoldable pub strict_rows : Bool → List ℕ → List Row
strict_rows fromServer pdu = reading_rows fromServer pdu ++ (row Loose (loose fromServer pdu) ∷ [])

-- for a host in C, who sent the PDU is a number, 0 for the client and any other for the server, and the answer is one: 0 for
-- an accepted PDU, or the refusal's
unfoldable pub strict_verdict : ℕ → List ℕ → ℕ
strict_verdict fromServer pdu = verdict_number (verdict_on (read_strict (not (eqb fromServer 0)) pdu))

-- what was found, as strict reading takes it
abbrev pub judged : Found → Pdu
judged found = strictly found.loose found.answer
