-- Two runs side by side: where each step of the one does what the step of the other does, so does the whole run.
-- Assumes nothing.
use mathlib.Core.Path.{◌≡◌, refl, ap}
use mathlib.Core.Bool.{Bool}
use mathlib.Core.List.{List, [], ◌∷◌}
use Rattle.demands.specs.Trace.{cons_if, final, seen_at}
use Rattle.face_demands.specs.Runs.{Each}

module _ {S T R : Type 0} (F : S → T) (Inv : S → Type 0) (Ok : R → Type 0) (next : S → R → S) (next' : T → R → T)
    (inv : (s : S) (x : R) → Inv s → Ok x → Inv (next s x))
    (step : (s : S) (x : R) → Inv s → Ok x → next' (F s) x ≡ F (next s x)) where
  -- what holds at the start holds at the end
  pub run_inv : (s : S) (xs : List R) → Inv s → Each Ok xs → Inv (final next s xs)
  run_inv s [] g k = g
  run_inv s (x ∷ xs) g k = run_inv (next s x) xs (inv s x g k.0) k.1

  -- both end alike
  pub same_final : (s : S) (xs : List R) → Inv s → Each Ok xs → final next' (F s) xs ≡ F (final next s xs)
  same_final s [] g k = refl
  same_final s (x ∷ xs) g k = rw (step s x g k.0) (same_final (next s x) xs (inv s x g k.0) k.1)

  -- and show the same
  pub same_seen :
      {A : Type 0} (on : S → R → Bool) (on' : T → R → Bool) (f : S → R → A) (f' : T → R → A)
      → ((s : S) (x : R) → Inv s → on' (F s) x ≡ on s x)
      → ((s : S) (x : R) → Inv s → Ok x → f' (F s) x ≡ f s x)
      → (s : S) (xs : List R) → Inv s → Each Ok xs → seen_at next' on' f' (F s) xs ≡ seen_at next on f s xs
  same_seen on on' f f' p q s [] g k = refl
  same_seen on on' f f' p q s (x ∷ xs) g k =
      rw (step s x g k.0, p s x g, q s x g k.0)
      (ap (cons_if (on s x) (f s x)) (same_seen on on' f f' p q (next s x) xs (inv s x g k.0) k.1))
