-- "A freed record is as Start made it": where every free record is blank, it stays so.
-- Assumes nothing.
use mathlib.Core.Path.{◌≡◌, refl, sym, ap, ◌∙◌}
use mathlib.Core.Logic.{⊎_elim}
use mathlib.Core.Bool.{false}
use mathlib.Core.List.{List}
use Prim.Native.Nat.{ℕ, ◌<◌}
use lib.ListN.{get_or-replicate}
use Rattle.paper.specs.Sizes.{PARTS, PART}
use Rattle.lists.specs.Bytes.{zeros}
use Rattle.lists.proofs.Cases.{true_not_false}
use Rattle.channel.specs.declared.Record.{Record}
use Rattle.channel.specs.Channel.{View, Shut, Open, blank}
use Rattle.table.specs.Table.{empty_table, number_place, free_place, record_at}
use Rattle.table.proofs.Records.{at_any}
use Rattle.table.proofs.Twice.{holds_says}
use Rattle.connection.specs.States.{State, view, room_in, wrote, save, Steady}
use Rattle.client.specs.Events.{Event, Unreadable, Capabilities, Of}
use Rattle.client.specs.Client.{stepped}
use Rattle.steps.specs.States.{FreeRecordsAreBlank, FineEvent, ruled}
use Rattle.connection.proofs.Frame.{Fits, room_for_law, there_is}
use Rattle.steps.proofs.Channels.{ruled_fits, step_state, step_caps}

-- Start's records
pub blank_start : (k : ℕ) → k < PARTS → record_at empty_table k ≡ blank
unfolding empty_table record_at
blank_start k l = get_or-replicate PARTS k blank blank l

module _ (st : State) (g : Steady st) (free : FreeRecordsAreBlank st) where
  -- a record that is blank if it is free, written at a place
  blank_write :
      (k : ℕ) (r : Record) (bytes : List ℕ) → k < PARTS → (r.taken ≡ false → r ≡ blank) → FreeRecordsAreBlank (wrote st k r bytes)
  unfolding wrote
  blank_write k r bytes l c i q u =
      ⊎_elim
      (λ w. w.1 ∙ c (ap (λ (x : Record). x.taken) (sym w.1) ∙ u))
      (λ w. w.1 ∙ free i q (ap (λ (x : Record). x.taken) (sym w.1) ∙ u))
      (at_any st.table k r (rw g.rows l) i)

  pub save_blank : (n : ℕ) (v w : View) → view n st ≡ v → Fits n (room_in st) v w → FreeRecordsAreBlank (save n st v w)
  unfolding save
  save_blank n Shut Shut h f = free
  save_blank n Shut (Open r b) h f =
      let o = room_for_law n st g r b f in
      blank_write (free_place st.table) r b o.inside_it (λ u. absurd (true_not_false (sym (holds_says n r o.holder).0 ∙ u)))
  save_blank n (Open old kept) Shut h f = blank_write (number_place n st.table) blank (zeros PART) (there_is n st g old kept h) (λ u. refl)
  save_blank n (Open old kept) (Open r b) h f =
      blank_write (number_place n st.table) r b (there_is n st g old kept h) (λ u. absurd (true_not_false (sym (holds_says n r f.0).0 ∙ u)))

  pub step_blank : (e : Event) → FineEvent e → FreeRecordsAreBlank (stepped st e).state
  unfolding stepped
  step_blank (Unreadable why) z = free
  step_blank (Capabilities version) z = rw (step_caps st g version) free
  step_blank (Of n a) z = rw (step_state st g n a) (save_blank n (view n st) (ruled n st a).view refl (ruled_fits st g n a z))
