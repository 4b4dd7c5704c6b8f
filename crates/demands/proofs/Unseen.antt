-- Demand 3 doesn't see the managers that are wrong only after a full table or in the level: it supposes that no table is full, and
-- begins behind the Capabilities request. They have it; demand 2 refutes them (proofs/Useless).
-- Assumes nothing.
use Prim.Native.Nat.{ℕ}
use mathlib.Core.Path.{◌≡◌, refl, sym, ap, ◌∙◌}
use mathlib.Core.Bool.{Bool, true, false}
use mathlib.Core.List.{List, [], ◌∷◌}
use Rattle.paper.specs.declared.Refusal.{Refusal}
use Rattle.lists.proofs.Cases.{choice}
use Rattle.channel.specs.Channel.{Act, BadCreate, Create, Bring, Garbled, Closing, LocalClose}
use Rattle.client.specs.Events.{Event, Unreadable, Capabilities, Of}
use Rattle.demands.specs.Runs.{Call, Told, event_in, events_of}
use Rattle.demands.specs.Joining.{Join, Off, Waiting, Gathering, Dead, Brings, NoMessage, StillToCome, Complete, joins}
use Rattle.demands.specs.Telling.{why_not, answered, step_says, says_if, told_if}
use Rattle.demands.specs.Managers.{Sight, at_start, sight_next, sight_told, should_tell, Roomy, Demand3Of}
use Rattle.demands.specs.Useless.{is_full, fresh, beside_next, manager_by, warp_next, warp_told, warped, forget, always, respelled, noted, from_then, spoils_after, double_told, until_full, never_declines, relevel_told, wrong_level, room_next, makes_room}
use Rattle.demands.proofs.Third.{now, sight, RightOnceReady, orders}
use Rattle.demands.proofs.ByFlags.{run_by, roomy_run, should_by, told_by_law, always_fresh, respoken, warped_by}

-- ---- a manager that is right, once ready, where no table is full, has demand 3

-- what should be told there
should_roomy : (c : Call) (es : List Event) → Roomy (now c) es → should_tell (now c) sight es ≡ run_by sight_next sight_told sight es []
should_roomy c es f = should_by (now c) sight es ∙ roomy_run sight_next sight_told (now c) sight es f

module _ {S : Type 0} (s : S) (next : Bool → S → Event → S) (tells : Bool → S → Event → Told) where
  once_ready_law :
      (c : Call) (version : ℕ) → event_in c.asked ≡ Capabilities version
      → ((es : List Event) → run_by next tells (next false s (Capabilities version)) es [] ≡ run_by sight_next sight_told sight es [])
      → RightOnceReady (manager_by s next tells) (fresh s) c
  unfolding RightOnceReady manager_by beside_next now
  once_ready_law c version caps k xs f =
      let b = beside_next next (fresh s) (event_in c.asked) in
      told_by_law next tells s b xs
      ∙ roomy_run next tells (now c) b.kept (events_of xs) f.1
      ∙ ap (λ (t : S). run_by next tells t (events_of xs) []) (rw (f.0, caps))
      ∙ k (events_of xs) ∙ sym (should_roomy c (events_of xs) f.1)

  has_3 :
      ((version : ℕ) (es : List Event) → run_by next tells (next false s (Capabilities version)) es [] ≡ run_by sight_next sight_told sight es [])
      → Demand3Of (manager_by s next tells)
  unfolding Demand3Of
  has_3 k b j c version caps xs ys o f h =
      rw (always_fresh next tells s b j) (orders (manager_by s next tells) (fresh s) c (once_ready_law c version caps (k version)) xs ys o f h)

-- ---- 11 and 16: what they do at a full table is seen nowhere else

same_unflagged :
    (next : Bool → Sight → Event → Sight) → ((s : Sight) (e : Event) → next false s e ≡ sight_next false s e)
    → (s : Sight) (es : List Event) → run_by next (λ full. sight_told false) s es [] ≡ run_by sight_next sight_told s es []
same_unflagged next same s [] = refl
same_unflagged next same s (e ∷ es) =
    ap (λ (r : List Told). sight_told false s e ∷ r)
    (ap (λ (t : Sight). run_by next (λ full. sight_told false) t es []) (same s e) ∙ same_unflagged next same (sight_next false s e) es)

pub never_declines_3 : Demand3Of never_declines
unfolding never_declines sight_next sight
never_declines_3 = has_3 at_start (λ full. sight_next false) (λ full. sight_told false) (λ version es. same_unflagged (λ full. sight_next false) (λ s e. refl) sight es)

room_unflagged : (s : Sight) (e : Event) → room_next false s e ≡ sight_next false s e
unfolding room_next
room_unflagged s (Unreadable why) = refl
room_unflagged s (Capabilities version) = refl
room_unflagged s (Of n a) = refl

pub makes_room_3 : Demand3Of makes_room
unfolding makes_room room_next sight_next sight
makes_room_3 = has_3 at_start room_next (λ full. sight_told false) (λ version es. same_unflagged room_next room_unflagged sight es)

-- ---- what spoils nothing of the right telling

module _ {M : Type 0} (m : M) (remember : M → Event → Told → M) (spoil : M → Event → Told → Told) where
  warped_3 :
      ((version : ℕ) → remember m (Capabilities version) (sight_told false at_start (Capabilities version)) ≡ m)
      → ((es : List Event) → respoken remember spoil m es (run_by sight_next sight_told sight es []) ≡ run_by sight_next sight_told sight es [])
      → Demand3Of (warped m remember spoil)
  unfolding warped warp_next sight_next sight
  warped_3 same k =
      has_3 (record { sight = at_start; memory = m }) (warp_next remember) (warp_told spoil)
      (λ version es.
      warped_by remember spoil (warp_next remember false (record { sight = at_start; memory = m }) (Capabilities version)) es []
      ∙ ap (λ (n : M). respoken remember spoil n es (run_by sight_next sight_told sight es [])) (same version) ∙ k es)

-- ---- 10: right until a table was full. An answer is 'declined, full' only where one was met

block_full : (n : ℕ) (why : Refusal) (b : Brings) → is_full (answered n why b) ≡ false
unfolding answered
block_full n why NoMessage = refl
block_full n why (StillToCome left) = refl
block_full n why (Complete message) = refl

step_full : (n : ℕ) (j : Join) (a : Act) → is_full (step_says n j a).answer ≡ false
unfolding step_says
step_full n Off BadCreate = refl
step_full n Off (Create true pri) = refl
step_full n Off (Create false pri) = refl
step_full n Off (Bring offer block) = block_full n (why_not Off offer) (joins Off (Bring offer block)).brings
step_full n Off (Garbled why) = refl
step_full n Off Closing = refl
step_full n Off LocalClose = refl
step_full n Waiting BadCreate = refl
step_full n Waiting (Create listed pri) = refl
step_full n Waiting (Bring offer block) = block_full n (why_not Waiting offer) (joins Waiting (Bring offer block)).brings
step_full n Waiting (Garbled why) = refl
step_full n Waiting Closing = refl
step_full n Waiting LocalClose = refl
step_full n (Gathering wanted got) BadCreate = refl
step_full n (Gathering wanted got) (Create listed pri) = refl
step_full n (Gathering wanted got) (Bring offer block) = block_full n (why_not (Gathering wanted got) offer) (joins (Gathering wanted got) (Bring offer block)).brings
step_full n (Gathering wanted got) (Garbled why) = refl
step_full n (Gathering wanted got) Closing = refl
step_full n (Gathering wanted got) LocalClose = refl
step_full n Dead BadCreate = refl
step_full n Dead (Create listed pri) = refl
step_full n Dead (Bring offer block) = block_full n (why_not Dead offer) (joins Dead (Bring offer block)).brings
step_full n Dead (Garbled why) = refl
step_full n Dead Closing = refl
step_full n Dead LocalClose = refl

sight_full : (s : Sight) (e : Event) → is_full (sight_told false s e).answer ≡ false
unfolding sight_told told_if says_if
sight_full s (Unreadable why) = refl
sight_full s (Capabilities version) = choice (λ (t : Told). is_full t.answer ≡ false) s.ready (λ e. refl) (λ e. refl)
sight_full s (Of n a) = choice (λ (t : Told). is_full t.answer ≡ false) s.ready (λ e. step_full n (s.stand n) a) (λ e. refl)

never_set :
    (s : Sight) (es : List Event)
    → respoken (noted is_full) (from_then double_told) false es (run_by sight_next sight_told s es []) ≡ run_by sight_next sight_told s es []
never_set s [] = refl
never_set s (e ∷ es) =
    rw (sight_full s e) (ap (λ (r : List Told). sight_told false s e ∷ r) (never_set (sight_next false s e) es))

pub until_full_3 : Demand3Of until_full
unfolding until_full spoils_after
until_full_3 = warped_3 false (noted is_full) (from_then double_told) (λ version. rw (sight_full at_start (Capabilities version))) (λ es. never_set sight es)

-- ---- 13: the level is wrong. Once ready, no answer carries a level

same_level : (s : Sight) (e : Event) → s.ready ≡ true → relevel_told e (sight_told false s e) ≡ sight_told false s e
unfolding sight_told
same_level s (Unreadable why) r = refl
same_level s (Capabilities version) r = rw r
same_level s (Of n a) r = refl

still_ready : (s : Sight) (e : Event) → s.ready ≡ true → (sight_next false s e).ready ≡ true
unfolding sight_next
still_ready s (Unreadable why) r = r
still_ready s (Capabilities version) r = refl
still_ready s (Of n a) r = rw r

no_level :
    (s : Sight) (es : List Event) → s.ready ≡ true
    → respoken forget (always relevel_told) tt es (run_by sight_next sight_told s es []) ≡ run_by sight_next sight_told s es []
no_level s [] r = refl
no_level s (e ∷ es) r =
    ap (λ (t : Told). t ∷ respoken forget (always relevel_told) tt es (run_by sight_next sight_told (sight_next false s e) es [])) (same_level s e r)
    ∙ ap (λ (l : List Told). sight_told false s e ∷ l) (no_level (sight_next false s e) es (still_ready s e r))

pub wrong_level_3 : Demand3Of wrong_level
unfolding wrong_level respelled sight
wrong_level_3 = warped_3 tt forget (always relevel_told) (λ version. refl) (λ es. no_level sight es refl)
