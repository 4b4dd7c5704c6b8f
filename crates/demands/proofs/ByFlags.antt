-- A manager that is made from the right one, run over events with the paper's full-table flags beside them. So a run of calls is read
-- once, the paper's steps are taken once, and what a spoiled manager tells is the right one's telling, spoiled.
-- Assumes nothing.
use mathlib.Core.Path.{◌≡◌, refl, sym, ap, ◌∙◌}
use mathlib.Core.Bool.{Bool, true, false}
use mathlib.Core.List.{List, [], ◌∷◌}
use Rattle.connection.specs.States.{State}
use Rattle.client.specs.Events.{Event}
use Rattle.demands.specs.Trace.{final, seen}
use Rattle.demands.specs.Runs.{Call, Told, event_in, events_of, event_meets_full}
use Rattle.demands.specs.Joining.{flag, flags}
use Rattle.demands.specs.Managers.{JustStarted, first_start, new_start, every_told, Sight, at_start, sight_next, sight_told, paper_start, paper_next, should_tell, Roomy, Demand2Of}
use Rattle.demands.specs.Useless.{Beside, fresh, beside_next, beside_told, manager_by, right, With, warp_next, warp_told}

-- ---- runs over events and flags

abbrev pub run_by : {S A : Type 0} → (Bool → S → Event → S) → (Bool → S → Event → A) → S → List Event → List Bool → List A
run_by next tells s [] fs = []
run_by next tells s (e ∷ es) fs = tells (flag fs) s e ∷ run_by next tells (next (flag fs) s e) es (flags fs)

abbrev pub final_by : {S : Type 0} → (Bool → S → Event → S) → S → List Event → List Bool → S
final_by next s [] fs = s
final_by next s (e ∷ es) fs = final_by next (next (flag fs) s e) es (flags fs)

-- the flags that the paper's steps give
abbrev pub full_from : State → List Event → List Bool
full_from p es = seen paper_next (λ e. true) event_meets_full p es

-- where no table is full they are none
pub roomy_run :
    {S A : Type 0} (next : Bool → S → Event → S) (tells : Bool → S → Event → A) (p : State) (s : S) (es : List Event) → Roomy p es
    → run_by next tells s es (full_from p es) ≡ run_by next tells s es []
roomy_run next tells p s [] f = refl
roomy_run {A = A} next tells p s (e ∷ es) f = rw f.0 (ap (λ (r : List A). tells false s e ∷ r) (roomy_run next tells (paper_next p e) (next false s e) es f.1))

-- what should be told
pub should_by : (p : State) (s : Sight) (es : List Event) → should_tell p s es ≡ run_by sight_next sight_told s es (full_from p es)
unfolding should_tell
should_by p s [] = refl
should_by p s (e ∷ es) = ap (λ (r : List Told). sight_told (event_meets_full p e) s e ∷ r) (should_by (paper_next p e) (sight_next (event_meets_full p e) s e) es)

-- ---- a manager made so, and where it comes to

module _ {S : Type 0} (next : Bool → S → Event → S) (tells : Bool → S → Event → Told) where
  pub calls_by :
      (b : Beside S) (xs : List Call)
      → seen (λ (x : Beside S) (c : Call). beside_next next x (event_in c.asked)) (λ c. true) (λ (x : Beside S) (c : Call). beside_told tells x (event_in c.asked)) b xs ≡ run_by next tells b.kept (events_of xs) (full_from b.paper (events_of xs))
  unfolding beside_next beside_told
  calls_by b [] = refl
  calls_by b (c ∷ xs) = ap (λ (r : List Told). beside_told tells b (event_in c.asked) ∷ r) (calls_by (beside_next next b (event_in c.asked)) xs)

  pub told_by_law :
      (s : S) (b : Beside S) (xs : List Call)
      → every_told (manager_by s next tells) b xs ≡ run_by next tells b.kept (events_of xs) (full_from b.paper (events_of xs))
  unfolding every_told manager_by
  told_by_law s b xs = calls_by b xs

  pub comes_to_law :
      (s : S) (b : Beside S) (xs : List Call)
      → (final (manager_by s next tells).next b xs).kept ≡ final_by next b.kept (events_of xs) (full_from b.paper (events_of xs))
  unfolding manager_by beside_next
  comes_to_law s b [] = refl
  comes_to_law s b (c ∷ xs) = comes_to_law s (beside_next next b (event_in c.asked)) xs

  -- every Start begins it anew
  pub always_fresh : (s : S) (b : Beside S) → JustStarted (manager_by s next tells) b → b ≡ fresh s
  unfolding manager_by
  always_fresh s b first_start = refl
  always_fresh s b (new_start r) = refl

-- without the one thing made wrong, it has demand 2
pub right_demand_2 : Demand2Of right
unfolding Demand2Of right
right_demand_2 b j xs =
    ap (λ (x : Beside Sight). every_told (manager_by at_start sight_next sight_told) x xs) (always_fresh sight_next sight_told at_start b j)
    ∙ told_by_law sight_next sight_told at_start (fresh at_start) xs
    ∙ sym (should_by paper_start at_start (events_of xs))

-- ---- what a spoiled manager tells is the right one's telling, spoiled

abbrev pub respoken : {M : Type 0} → (M → Event → Told → M) → (M → Event → Told → Told) → M → List Event → List Told → List Told
respoken remember spoil m [] ts = []
respoken remember spoil m (e ∷ es) [] = []
respoken remember spoil m (e ∷ es) (t ∷ ts) = spoil m e t ∷ respoken remember spoil (remember m e t) es ts

pub warped_by :
    {M : Type 0} (remember : M → Event → Told → M) (spoil : M → Event → Told → Told) (w : With M) (es : List Event) (fs : List Bool)
    → run_by (warp_next remember) (warp_told spoil) w es fs ≡ respoken remember spoil w.memory es (run_by sight_next sight_told w.sight es fs)
unfolding warp_next warp_told
warped_by remember spoil w [] fs = refl
warped_by remember spoil w (e ∷ es) fs =
    ap (λ (r : List Told). warp_told spoil (flag fs) w e ∷ r) (warped_by remember spoil (warp_next remember (flag fs) w e) es (flags fs))
