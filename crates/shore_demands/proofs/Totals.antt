-- The totals are the recount after every call of the shore, since its table stays sound; an awaited number adds to neither.
-- Assumes nothing.
use mathlib.Core.Path.{◌≡◌}
use mathlib.Core.Bool.{true}
use mathlib.Core.List.{List, [], ◌∷◌}
use Prim.Native.Nat.{ℕ}
use lib.ListN.{length}
use Rattle.paper.specs.Sizes.{PARTS}
use Rattle.lists.proofs.Cases.{and_false}
use Rattle.reading.specs.declared.Charges.{Charges}
use Rattle.channel.specs.declared.Record.{Record}
use Rattle.table.specs.Totals.{is_open, opens, awaits, total, recount}
use Rattle.table.specs.Sound.{sound_table}
use Rattle.table.proofs.Soundness.{sound_says}
use Rattle.shore.specs.declared.Shore.{Shore}
use Rattle.shore.specs.Shore.{received, locally_closed, requested, locally_opened}
use Rattle.shore_demands.proofs.Sound.{receive_sound, local_close_sound, request_sound, local_open_sound}

pub received_totals :
    (s : Shore) (store pdu reply : List ℕ) → length s.table.records ≡ PARTS → sound_table s.table ≡ true
    → (received s store pdu reply).result.shore.table.totals
    ≡ recount (received s store pdu reply).result.shore.table.records
received_totals s store pdu reply rows sound =
    (sound_says (received s store pdu reply).result.shore.table (receive_sound s store pdu reply rows sound)).totals

pub closed_totals :
    (s : Shore) (store : List ℕ) (n : ℕ) (reply : List ℕ) → length s.table.records ≡ PARTS
    → sound_table s.table ≡ true
    → (locally_closed s store n reply).result.shore.table.totals
    ≡ recount (locally_closed s store n reply).result.shore.table.records
closed_totals s store n reply rows sound =
    (sound_says (locally_closed s store n reply).result.shore.table (local_close_sound s store n reply rows sound)).totals

pub requested_totals :
    (s : Shore) (version : ℕ) (charges : Charges) (out : List ℕ) → sound_table s.table ≡ true
    → (requested s version charges out).result.shore.table.totals
    ≡ recount (requested s version charges out).result.shore.table.records
requested_totals s version charges out sound =
    (sound_says (requested s version charges out).result.shore.table (request_sound s version charges out sound)).totals

pub opened_totals :
    (s : Shore) (name : List ℕ) (class : ℕ) (out : List ℕ) → length s.table.records ≡ PARTS
    → sound_table s.table ≡ true
    → (locally_opened s name class out).result.shore.table.totals
    ≡ recount (locally_opened s name class out).result.shore.table.records
opened_totals s name class out rows sound =
    (sound_says (locally_opened s name class out).result.shore.table (local_open_sound s name class out rows sound)).totals

-- "An awaited number isn't open": what is awaited counts for neither
pub awaited_adds_nothing : (r : Record) → r.awaited ≡ true → recount (r ∷ []) ≡ recount []
unfolding recount total opens awaits is_open
awaited_adds_nothing r h = rw (h, and_false r.taken)
