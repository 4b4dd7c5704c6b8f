-- The totals are the recount after every call, and the same after either order.
-- Assumes nothing.
use mathlib.Core.Path.{◌≡◌, refl, sym, ap, ◌∙◌}
use mathlib.Core.Logic.{◌≢◌, ⊎_elim}
use mathlib.Core.Bool.{Bool, true, false, not, ◌||◌}
use mathlib.Core.List.{List, [], ◌∷◌}
use Prim.Native.Nat.{ℕ, ◌≤◌, ◌<◌}
use lib.Dec.{eqb, ltb}
use lib.ListN.{length}
use Rattle.paper.specs.Sizes.{PARTS, STORE, REPLY_MIN}
use Rattle.lists.proofs.Cases.{lt_or_le}
use Rattle.channel.specs.declared.Stage.TheVariants.{Idle, Joining, Spoiled}
use Rattle.channel.specs.declared.Record.{Record}
use Rattle.channel.specs.Channel.{blank, View, Shut, Open}
use Rattle.table.specs.declared.Table.{Table}
use Rattle.table.specs.Table.{number_place, record_at}
use Rattle.table.specs.Totals.{is_open, opens, to_come, awaits, total, recount}
use Rattle.table.specs.Sound.{sound_table}
use Rattle.table.proofs.Soundness.{sound_says, sound_empty, same_totals_law}
use Rattle.connection.specs.States.{State, view}
use Rattle.connection.proofs.Views.{view_open, view_shut}
use Rattle.connection.proofs.Putting.{past_blank}
use Rattle.client.specs.Client.{bad_call, received, locally_closed, started}
use Rattle.steps.specs.States.{Sane}
use Rattle.steps.proofs.Calm.{receive_sound, local_close_sound}
use Rattle.demands.specs.Totals.{row_of, awaited_row}

pub for_example :
    recount (row_of true (Joining 10 4) ∷ row_of true Idle ∷ row_of true Spoiled ∷ row_of false (Joining 10 4) ∷ awaited_row (Joining 10 4) ∷ [])
    ≡ record { channels = 3; awaited = 6 }
unfolding recount total is_open opens awaits to_come
for_example = refl

-- ---- after every call

pub received_totals :
    (t : Table) (store list pdu reply : List ℕ) → length t.records ≡ PARTS → sound_table t ≡ true
    → (received t store list pdu reply).result.table.totals
    ≡ recount (received t store list pdu reply).result.table.records
received_totals t store list pdu reply rows sound =
    (sound_says (received t store list pdu reply).result.table (receive_sound t store list pdu reply rows sound)).totals

pub closed_totals :
    (t : Table) (store : List ℕ) (n : ℕ) (reply : List ℕ) → length t.records ≡ PARTS → sound_table t ≡ true
    → (locally_closed t store n reply).result.table.totals
    ≡ recount (locally_closed t store n reply).result.table.records
closed_totals t store n reply rows sound =
    (sound_says (locally_closed t store n reply).result.table (local_close_sound t store n reply rows sound)).totals

pub started_totals : (store : List ℕ) → (started store).table.totals ≡ recount (started store).table.records
unfolding started
started_totals store = (sound_says (started store).table sound_empty).totals

-- ---- a table whose totals differ

pub else_unsound : (t : Table) → t.totals ≢ recount t.records → sound_table t ≡ false
else_unsound t d = go (sound_table t) refl
  where
    go : (b : Bool) → sound_table t ≡ b → b ≡ false
    go true e = absurd (d (sound_says t e).totals)
    go false e = refl

any_or : (a b : Bool) → (a || (b || true)) ≡ true
any_or true b = refl
any_or false true = refl
any_or false false = refl

pub else_refused :
    (t : Table) → t.totals ≢ recount t.records → (storeSize replySize : ℕ) → bad_call t storeSize replySize ≡ true
unfolding bad_call
else_refused t d storeSize replySize =
    rw (else_unsound t d) (any_or (not (eqb storeSize STORE)) (ltb replySize REPLY_MIN))

-- ---- two states that show the same channels

-- the record that a view shows, or a blank one
abbrev shown : View → Record
shown Shut = blank
shown (Open r part) = r

as_shown : (n : ℕ) (st : State) → length st.table.records ≡ PARTS → record_at st.table (number_place n st.table) ≡ shown (view n st)
as_shown n st long =
    ⊎_elim
    (λ (l : number_place n st.table < PARTS). sym (ap shown (view_open n st (number_place n st.table) refl l)))
    (λ (l : PARTS ≤ number_place n st.table).
    past_blank n st.table (rw long l) ∙ sym (ap shown (view_shut n st (number_place n st.table) refl l)))
    (lt_or_le (number_place n st.table) PARTS)

pub same_channels : (a b : State) → Sane a → Sane b → ((n : ℕ) → view n a ≡ view n b) → a.table.totals ≡ b.table.totals
same_channels a b s z same =
    same_totals_law a.table b.table s.sound z.sound
    (λ n. as_shown n a s.rows ∙ ap shown (same n) ∙ sym (as_shown n b z.rows))
