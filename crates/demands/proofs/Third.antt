-- A manager that has demand 2 has demand 3, and minds no stranger: what it tells one channel is what that channel's own events give,
-- each with whether it met a full table.
-- Assumes nothing.
use Prim.Native.Nat.{ℕ}
use mathlib.Core.Path.{◌≡◌, refl, sym, ap, ◌∙◌}
use mathlib.Core.Bool.{Bool, true, false, cond}
use mathlib.Core.List.{List, [], ◌∷◌, map}
use borrow.Author.Tests.{eqb-true, eqb-false, eq-eqb, ne_eqb}
use lib.Dec.{eqb}
use lib.ListN.{length}
use Rattle.paper.specs.Sizes.{STORE}
use Rattle.channel.specs.Channel.{Act}
use Rattle.connection.specs.States.{State}
use Rattle.client.specs.Events.{Event, Unreadable, Capabilities, Of, is_of}
use Rattle.client.specs.Client.{stepped}
use Rattle.demands.specs.Trace.{cons_if, keep, final, seen}
use Rattle.demands.specs.Runs.{Call, Told, event_in, is_event_of, events_of, own_events, event_meets_full}
use Rattle.demands.specs.Joining.{Off, joins_if, brought, handed}
use Rattle.demands.specs.Telling.{told_if, told_with}
use Rattle.demands.specs.Orders.{TwoOrders}
use Rattle.demands.specs.Managers.{Manager, ours, JustStarted, every_told, tells_to, put, Sight, at_start, sight_next}
use Rattle.demands.specs.Managers.{sight_told, paper_start, paper_next, should_tell, flags_for, nobodys, is_nobodys, Roomy}
use Rattle.demands.specs.Managers.{stray_up, AllEmpty, Orders, Demand2Of, Demand3Of, paper_after, StrangersOf}
use Rattle.demands.proofs.Machine.{read_call, fine_call}
use Rattle.demands.proofs.Joined.{call_blocks}
use Rattle.demands.proofs.Telling.{with_brings, with_once, unflagged}
use Rattle.demands.proofs.Traces.{never_seen}
use Rattle.demands.proofs.Managers.{Seen, sight_in, seen_start, seen_step, ours_demand_2}

-- a channel's own events are those of the run's events that are of it
pub own_map : (n : ℕ) (xs : List Call) → own_events n xs ≡ keep (is_of n) (map read_call xs)
unfolding own_events is_event_of
own_map n [] = refl
own_map n (c ∷ xs) = go (is_of n (read_call c)) (own_map n xs)
  where
    go :
        (t : Bool) → map read_call (keep (is_event_of n) xs) ≡ keep (is_of n) (map read_call xs)
        → map read_call (cons_if t c (keep (is_event_of n) xs)) ≡ cons_if t (read_call c) (keep (is_of n) (map read_call xs))
    go true e = ap (λ (l : List Event). read_call c ∷ l) e
    go false e = e

-- those of a list that are marked
abbrev pub pick : {A : Type 0} → List Bool → List A → List A
pick [] l = []
pick (b ∷ bs) [] = []
pick (b ∷ bs) (a ∷ l) = cons_if b a (pick bs l)

pub seen_pick :
    {S R A : Type 0} (next : S → R → S) (on : R → Bool) (f : S → R → A) (s : S) (xs : List R)
    → seen next on f s xs ≡ pick (map on xs) (seen next (λ x. true) f s xs)
seen_pick next on f s [] = refl
seen_pick next on f s (x ∷ xs) = ap (cons_if (on x) (f s x)) (seen_pick next on f (next s x) xs)

pub marks : (n : ℕ) (xs : List Call) → map (is_event_of n) xs ≡ map (is_of n) (events_of xs)
unfolding is_event_of
marks n [] = refl
marks n (c ∷ xs) = ap (λ (r : List Bool). is_of n (event_in c.asked) ∷ r) (marks n xs)

-- ---- what a ready connection should be told on one channel: what that channel's own events give, with their flags

of_tells : (full : Bool) (s : Sight) (m : ℕ) (a : Act) → s.ready ≡ true → sight_told full s (Of m a) ≡ told_if full m (s.stand m) a
unfolding sight_told
of_tells full s m a r = rw r

own_should :
    (n : ℕ) (p : State) (s : Sight) (es : List Event) → s.ready ≡ true
    → pick (map (is_of n) es) (should_tell p s es) ≡ told_with (s.stand n) (keep (is_of n) es) (flags_for n p es)
unfolding should_tell told_with sight_next flags_for
own_should n p s [] r = refl
own_should n p s (Unreadable why ∷ es) r = own_should n (paper_next p (Unreadable why)) s es r
own_should n p s (Capabilities version ∷ es) r = own_should n (paper_next p (Capabilities version)) (record { ready = true; stand = s.stand }) es refl
own_should n p s (Of m a ∷ es) r =
    let full = event_meets_full p (Of m a) in
    let next : Sight = record { ready = true; stand = put m (joins_if full (s.stand m) a).join s.stand } in
    rw (of_tells full s m a r, sight_in full s m a r, own_should n (paper_next p (Of m a)) next es refl) (go (eqb m n) refl)
  where
    go :
        (t : Bool) → eqb m n ≡ t
        → cons_if t (told_if (event_meets_full p (Of m a)) m (s.stand m) a) (told_with (cond (eqb n m) (joins_if (event_meets_full p (Of m a)) (s.stand m) a).join (s.stand n)) (keep (is_of n) es) (flags_for n (paper_next p (Of m a)) es)) ≡ told_with (s.stand n) (cons_if t (Of m a) (keep (is_of n) es)) (cons_if t (event_meets_full p (Of m a)) (flags_for n (paper_next p (Of m a)) es))
    go true e =
        let same : m ≡ n = eqb-true m n e in
        rw (eq-eqb n m (sym same), same)
    go false e = rw (ne_eqb n m (λ (d : n ≡ m). eqb-false m n e (sym d)))

-- so a manager that is right in a run tells one channel that
own_run :
    {S : Type 0} (m : Manager S) (s : S) (p : State) (t : Sight) (xs : List Call) → t.ready ≡ true
    → every_told m s xs ≡ should_tell p t (events_of xs)
    → (n : ℕ) → tells_to m s n xs ≡ told_with (t.stand n) (own_events n xs) (flags_for n p (events_of xs))
unfolding tells_to every_told
own_run m s p t xs r right n =
    seen_pick m.next (is_event_of n) m.tells s xs
    ∙ ap (λ (l : List Told). pick (map (is_event_of n) xs) l) right
    ∙ ap (λ (b : List Bool). pick b (should_tell p t (events_of xs))) (marks n xs)
    ∙ own_should n p t (events_of xs) r
    ∙ ap (λ (es : List Event). told_with (t.stand n) es (flags_for n p (events_of xs))) (sym (own_map n xs))

stays_ready : (full : Bool) (s : Sight) (n : ℕ) (a : Act) → s.ready ≡ true → (sight_next full s (Of n a)).ready ≡ true
unfolding sight_next
stays_ready full s n a r = rw r

-- an event of no channel hands up nothing
stray_should :
    (p : State) (s : Sight) (es : List Event) → s.ready ≡ true
    → AllEmpty (map (λ (t : Told). t.message) (pick (map nobodys es) (should_tell p s es)))
unfolding should_tell sight_told sight_next
stray_should p s [] r = tt
stray_should p s (Unreadable why ∷ es) r = (refl, stray_should (stepped p (Unreadable why)).state s es r)
stray_should p s (Capabilities version ∷ es) r = (rw r, stray_should (stepped p (Capabilities version)).state (record { ready = true; stand = s.stand }) es refl)
stray_should p s (Of m a ∷ es) r = stray_should (stepped p (Of m a)).state (sight_next (event_meets_full p (Of m a)) s (Of m a)) es (stays_ready (event_meets_full p (Of m a)) s m a r)

pub nobody_marks : (xs : List Call) → map is_nobodys xs ≡ map nobodys (events_of xs)
unfolding is_nobodys
nobody_marks [] = refl
nobody_marks (c ∷ xs) = ap (λ (r : List Bool). nobodys (event_in c.asked) ∷ r) (nobody_marks xs)

abbrev pub tail : {A : Type 0} → List A → List A
tail [] = []
tail (a ∷ l) = l

pub seen_map :
    {S R A B : Type 0} (next : S → R → S) (on : R → Bool) (f : S → R → A) (g : A → B) (s : S) (xs : List R)
    → seen next on (λ t x. g (f t x)) s xs ≡ map g (seen next on f s xs)
seen_map next on f g s [] = refl
seen_map next on f g s (x ∷ xs) = go (on x) (seen_map next on f g (next s x) xs)
  where
    go :
        (t : Bool) → seen next on (λ u y. g (f u y)) (next s x) xs ≡ map g (seen next on f (next s x) xs)
        → cons_if t (g (f s x)) (seen next on (λ u y. g (f u y)) (next s x) xs) ≡ map g (cons_if t (f s x) (seen next on f (next s x) xs))
    go true e = ap (λ r. g (f s x) ∷ r) e
    go false e = e

-- the state and the sight that the Capabilities request makes
unfoldable pub now : Call → State
now c = (stepped paper_start (event_in c.asked)).state

unfoldable pub sight : Sight
sight = record { ready = true; stand = λ n. Off }

-- a manager that is right, from a state as a Start left it and a call on, in every run that meets no full table
unfoldable pub RightOnceReady : {S : Type 0} → Manager S → S → Call → Type 0
RightOnceReady m s c =
    (xs : List Call) → Roomy paper_start (events_of (c ∷ xs))
    → every_told m (m.next s c) xs ≡ should_tell (now c) sight (events_of xs)

module _ {S : Type 0} (m : Manager S) (s : S) (c : Call) (d : RightOnceReady m s c) where
  own_now :
      (xs : List Call) → Roomy paper_start (events_of (c ∷ xs)) → (n : ℕ) → tells_to m (m.next s c) n xs ≡ told_with Off (own_events n xs) []
  unfolding now sight RightOnceReady flags_for
  own_now xs f n =
      own_run m (m.next s c) (now c) sight xs refl (d xs f) n
      ∙ ap (told_with Off (own_events n xs)) (never_seen paper_next event_meets_full (is_of n) (now c) (events_of xs) f.1)
      ∙ unflagged (keep (is_of n) (events_of xs)) Off (own_events n xs)

  strays_now : (xs : List Call) → Roomy paper_start (events_of (c ∷ xs)) → AllEmpty (stray_up m (m.next s c) xs)
  unfolding stray_up every_told sight RightOnceReady
  strays_now xs f =
      rw (seen_map m.next is_nobodys m.tells (λ (t : Told). t.message) (m.next s c) xs
      ∙ ap (map (λ (t : Told). t.message)) (seen_pick m.next is_nobodys m.tells (m.next s c) xs
      ∙ ap (λ (l : List Told). pick (map is_nobodys xs) l) (d xs f)
      ∙ ap (λ (b : List Bool). pick b (should_tell (now c) sight (events_of xs))) (nobody_marks xs)))
      (stray_should (now c) sight (events_of xs) refl)

  pub orders :
      (xs ys : List Call) → TwoOrders xs ys
      → Roomy paper_start (events_of (c ∷ xs)) → Roomy paper_start (events_of (c ∷ ys)) → Orders m (m.next s c) xs ys
  orders xs ys o f h =
      record {
        each = λ n. record {
          same_told = own_now xs f n ∙ ap (λ (es : List Event). told_with Off es []) (o n) ∙ sym (own_now ys h n);
          joined = ap (map brought) (own_now xs f n) ∙ with_brings Off (own_events n xs) [];
          each_once = ap (map handed) (own_now xs f n) ∙ with_once Off (own_events n xs) [];
        };
        no_strays = strays_now xs f;
      }

-- ---- demand 2 gives demand 3

sight_now :
    (c : Call) (version : ℕ) → event_in c.asked ≡ Capabilities version
    → sight_next (event_meets_full paper_start (event_in c.asked)) at_start (event_in c.asked) ≡ sight
unfolding sight_next sight
sight_now c version caps = rw caps

two_once_ready :
    {S : Type 0} (m : Manager S) → Demand2Of m → (s : S) → JustStarted m s → (c : Call) (version : ℕ)
    → event_in c.asked ≡ Capabilities version → RightOnceReady m s c
unfolding RightOnceReady Demand2Of every_told should_tell now
two_once_ready m d s j c version caps xs f =
    ap tail (d s j (c ∷ xs))
    ∙ ap (λ (t : Sight). should_tell (stepped paper_start (event_in c.asked)).state t (events_of xs)) (sight_now c version caps)

pub two_gives_three : {S : Type 0} (m : Manager S) → Demand2Of m → Demand3Of m
unfolding Demand3Of
two_gives_three m d s j c version caps xs ys o f h = orders m s c (two_once_ready m d s j c version caps) xs ys o f h

pub ours_demand_3 : (store : List ℕ) → length store ≡ STORE → Demand3Of (ours store)
ours_demand_3 store size = two_gives_three (ours store) (ours_demand_2 store size)

-- ---- demand 2 gives strangers

-- a manager that is right from a state on, beside the paper's steps
record Right {S : Type 0} (m : Manager S) (s : S) (p : State) : Type 0 where
  pub sight : Sight
  pub seen : Seen p sight
  pub right : (xs : List Call) → every_told m s xs ≡ should_tell p sight (events_of xs)

right_next : {S : Type 0} (m : Manager S) (s : S) (p : State) → Right m s p → (c : Call) → Right m (m.next s c) (paper_next p (event_in c.asked))
unfolding every_told should_tell
right_next m s p r c =
    record {
      sight = sight_next (event_meets_full p (event_in c.asked)) r.sight (event_in c.asked);
      seen = seen_step p r.sight r.seen (event_in c.asked) (fine_call c.asked) (call_blocks c.asked);
      right = λ xs. ap tail (r.right (c ∷ xs));
    }

right_run :
    {S : Type 0} (m : Manager S) (s : S) (p : State) → Right m s p → (xs : List Call)
    → Right m (final m.next s xs) (final paper_next p (events_of xs))
right_run m s p r [] = r
right_run m s p r (c ∷ xs) = right_run m (m.next s c) (paper_next p (event_in c.asked)) (right_next m s p r c) xs

pub two_gives_strangers : {S : Type 0} (m : Manager S) → Demand2Of m → StrangersOf m
unfolding StrangersOf Demand2Of
two_gives_strangers m d s j before ready n xs ys e f =
    let r = right_run m s paper_start (record { sight = at_start; seen = seen_start; right = d s j }) before in
    let p = paper_after before in
    let on : r.sight.ready ≡ true = sym r.seen.ready ∙ ready in
    let told = own_run m (final m.next s before) p r.sight in
    told xs on (r.right xs) n ∙ rw (e, f) (sym (told ys on (r.right ys) n))

pub ours_strangers : (store : List ℕ) → length store ≡ STORE → StrangersOf (ours store)
ours_strangers store size = two_gives_strangers (ours store) (ours_demand_2 store size)
