-- What is noted of spoiled channels: "the one event since the channel's last opening that turned it from not spoiled to spoiled".
-- There are sixteen notes, one for each record. That the note of a spoiled channel's record is that event is proved (cause_demands).
use Rattle.std.specs.Prelude.{ℕ, suc, Bool, cond, not, ◌&&◌, List, [], ◌∷◌, replicate, slice_index_or}
use Rattle.paper.specs.Sizes.{PARTS}
use Rattle.paper.specs.Rows.{Verdict, fine, refused_with}
use Rattle.paper.specs.declared.Refusal.TheVariants.{BadCall}
use Rattle.channel.specs.declared.Record.{Record}
use Rattle.table.specs.declared.Table.{Table}
use Rattle.table.specs.Table.{record_at}
use Rattle.steps.specs.Rows.{is_spoiled}
use Rattle.cause.specs.declared.Note.{Note}

-- of a record that isn't spoiled nothing is known
abbrev pub blank_note : Note
blank_note = record { place = 0; why = BadCall }

unfoldable pub no_notes : List Note
unfolding PARTS
no_notes = replicate PARTS blank_note

abbrev pub note_at : List Note → ℕ → Note
note_at notes k = slice_index_or notes k blank_note

-- a record turned from not spoiled to spoiled
unfoldable pub turned : Record → Record → Bool
turned before after = not (is_spoiled before.stage) && is_spoiled after.stage

-- the notes from place k on, by the tables before and after a PDU that may be noted
unfoldable pub noted_from : ℕ → Note → Table → Table → List Note → List Note
noted_from k note before after [] = []
noted_from k note before after (old ∷ notes) =
    cond (turned (record_at before k) (record_at after k)) note old ∷ noted_from (suc k) note before after notes

-- the notes after a PDU at a place: only a refusal spoils
unfoldable pub notes_after : ℕ → Verdict → Table → Table → List Note → List Note
notes_after place fine before after notes = notes
notes_after place (refused_with why) before after notes =
    noted_from 0 (record { place = place; why = why }) before after notes
