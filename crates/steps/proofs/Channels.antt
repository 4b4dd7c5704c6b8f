-- "The steps", for every event on any sound, ready table with any store of its size: the channel concerned does what its rules
-- say, and every other channel is untouched.
-- Assumes nothing.
use mathlib.Core.Path.{◌≡◌, refl, sym, ap, ◌∙◌}
use mathlib.Core.Bool.{false}
use Prim.Native.Nat.{ℕ}
use borrow.Author.Tests.{eqb-false}
use Rattle.paper.specs.declared.Refusal.{Refusal}
use Rattle.channel.specs.Channel.{Act}
use Rattle.connection.specs.States.{State, view, room_in, save, Steady, FreePartsAreZero, FineAct}
use Rattle.client.specs.Events.{Event, Unreadable, Capabilities, Of, is_of}
use Rattle.client.specs.Client.{Stepped, finished, stepped}
use Rattle.client.proofs.Steps.{in_time, too_late}
use Rattle.connection.proofs.Frame.{Fits, save_own, save_other, save_steady, save_clear}
use Rattle.steps.specs.States.{FineEvent, ruled}
use Rattle.connection.proofs.Acts.{act_fits, view_known}

module _ (st : State) (g : Steady st) where
  pub ruled_fits : (n : ℕ) (a : Act) → FineAct a → Fits n (room_in st) (view n st) (ruled n st a).view
  ruled_fits n a z = act_fits st.table.level n (room_in st) (view n st) a (view_known n st g (view n st) refl) z

  of_step : (n : ℕ) (a : Act) → stepped st (Of n a) ≡ finished n st (view n st) (ruled n st a)
  of_step n a = in_time st n a (view n st) g.ready refl

  -- the answer and the reply are the rules'
  pub step_answer : (n : ℕ) (a : Act) → (stepped st (Of n a)).answer ≡ (ruled n st a).answer
  unfolding finished
  step_answer n a = ap (λ (s : Stepped). s.answer) (of_step n a)

  pub step_reply : (n : ℕ) (a : Act) → (stepped st (Of n a)).reply ≡ (ruled n st a).reply
  unfolding finished
  step_reply n a = ap (λ (s : Stepped). s.reply) (of_step n a)

  pub step_state : (n : ℕ) (a : Act) → (stepped st (Of n a)).state ≡ save n st (view n st) (ruled n st a).view
  unfolding finished
  step_state n a = ap (λ (s : Stepped). s.state) (of_step n a)

  -- so is the channel afterwards
  pub step_own : (n : ℕ) (a : Act) → FineAct a → view n (stepped st (Of n a)).state ≡ (ruled n st a).view
  step_own n a z = ap (view n) (step_state n a) ∙ save_own n st g (view n st) (ruled n st a).view refl (ruled_fits n a z)

  -- an event of no channel changes nothing once the connection is ready
  pub step_stray : (e : Event) → (why : Refusal) → e ≡ Unreadable why → (stepped st e).state ≡ st
  unfolding stepped
  step_stray e why h = rw h

  pub step_caps : (version : ℕ) → (stepped st (Capabilities version)).state ≡ st
  step_caps version = ap (λ (s : Stepped). s.state) (too_late st version g.ready)

-- every other channel is untouched
pub step_other :
    (n : ℕ) (st : State) → Steady st → (e : Event) → FineEvent e → is_of n e ≡ false → view n (stepped st e).state ≡ view n st
unfolding stepped
step_other n st g (Unreadable why) z h = refl
step_other n st g (Capabilities version) z h = ap (view n) (step_caps st g version)
step_other n st g (Of m a) z h = ap (view n) (step_state st g m a) ∙ save_other m st g n (λ e. eqb-false m n h (sym e)) (view m st) (ruled m st a).view refl (ruled_fits st g m a z)

-- after every event a steady state is steady
pub step_steady : (st : State) → Steady st → (e : Event) → FineEvent e → Steady (stepped st e).state
unfolding stepped
step_steady st g (Unreadable why) z = g
step_steady st g (Capabilities version) z = rw (step_caps st g version) g
step_steady st g (Of n a) z = rw (step_state st g n a) (save_steady n st g (view n st) (ruled n st a).view refl (ruled_fits st g n a z))

-- and the parts of free records stay zero
pub step_clear : (st : State) → Steady st → (e : Event) → FineEvent e → FreePartsAreZero st → FreePartsAreZero (stepped st e).state
unfolding stepped
step_clear st g (Unreadable why) z c = c
step_clear st g (Capabilities version) z c = rw (step_caps st g version) c
step_clear st g (Of n a) z c = rw (step_state st g n a) (save_clear n st g (view n st) (ruled n st a).view refl (ruled_fits st g n a z) c)
