-- The trace theorem, over any machine that has a view of one channel.
-- Assumes nothing.
use mathlib.Core.Path.{◌≡◌, refl, ap, ◌∙◌}
use mathlib.Core.Bool.{Bool, true, false}
use mathlib.Core.List.{List, [], ◌∷◌, map}
use Rattle.demands.specs.Trace.{cons_if, keep, final, seen_at, seen, Never}

-- an event with what the channel needs to know of the rest: whether it met a full table, say
pub record Input (E F : Type 0) : Type 0 where
  pub event : E
  pub flag : F

abbrev pub with_flag : {S R E F : Type 0} → (R → E) → (S → R → F) → S → R → Input E F
with_flag read flag s x = record { event = read x; flag = flag s x }

-- a machine of one channel, over its events with their flags
abbrev pub alone_final : {E F W : Type 0} → (F → W → E → W) → W → List (Input E F) → W
alone_final next w [] = w
alone_final next w (i ∷ is) = alone_final next (next i.flag w i.event) is

abbrev pub alone_outs : {E F W O : Type 0} → (F → W → E → W) → (F → W → E → O) → W → List (Input E F) → List O
alone_outs next out w [] = []
alone_outs next out w (i ∷ is) = out i.flag w i.event ∷ alone_outs next out (next i.flag w i.event) is

-- The machine `next`, `out` shows one channel through `view`: its own inputs, told by `on`, move the view as the channel's machine
-- `cnext`, `cout` says of what `read` reads in them, and the other inputs leave it. Whose input it is may hang on the state, as a
-- local open's number does.
pub record Framed {S R E F O W : Type 0} (read : R → E) (next : S → R → S) (out : S → R → O) (flag : S → R → F) (on : S → R → Bool) (view : S → W) (cnext : F → W → E → W) (cout : F → W → E → O) (Inv : S → Type 0) :
    Type 0 where
  pub stays : (s : S) (x : R) → Inv s → Inv (next s x)
  pub own : (s : S) (x : R) → Inv s → on s x ≡ true → view (next s x) ≡ cnext (flag s x) (view s) (read x)
  pub says : (s : S) (x : R) → Inv s → on s x ≡ true → out s x ≡ cout (flag s x) (view s) (read x)
  pub other : (s : S) (x : R) → Inv s → on s x ≡ false → view (next s x) ≡ view s

module _ {S R E F O W : Type 0} {read : R → E} {next : S → R → S} {out : S → R → O} {flag : S → R → F} {on : S → R → Bool} {view : S → W} {cnext : F → W → E → W} {cout : F → W → E → O} {Inv : S → Type 0} (m : Framed read next out flag on view cnext cout Inv) where
  pub trace_inv : (s : S) (xs : List R) → Inv s → Inv (final next s xs)
  trace_inv s [] i = i
  trace_inv s (x ∷ xs) i = trace_inv (next s x) xs (m.stays s x i)

  pub trace_final :
      (s : S) (xs : List R) → Inv s → view (final next s xs) ≡ alone_final cnext (view s) (seen_at next on (with_flag read flag) s xs)
  trace_final s [] i = refl
  trace_final s (x ∷ xs) i = trace_final (next s x) xs (m.stays s x i) ∙ go (on s x) refl
    where
      rest : List (Input E F)
      rest = seen_at next on (with_flag read flag) (next s x) xs

      go :
          (b : Bool) → on s x ≡ b
          → alone_final cnext (view (next s x)) rest ≡ alone_final cnext (view s) (cons_if b (with_flag read flag s x) rest)
      go true h = rw (m.own s x i h)
      go false h = rw (m.other s x i h)

  pub trace_outs :
      (s : S) (xs : List R) → Inv s → seen_at next on out s xs ≡ alone_outs cnext cout (view s) (seen_at next on (with_flag read flag) s xs)
  trace_outs s [] i = refl
  trace_outs s (x ∷ xs) i = rw (trace_outs (next s x) xs (m.stays s x i)) (go (on s x) refl)
    where
      rest : List (Input E F)
      rest = seen_at next on (with_flag read flag) (next s x) xs

      go :
          (b : Bool) → on s x ≡ b
          → cons_if b (out s x) (alone_outs cnext cout (view (next s x)) rest) ≡ alone_outs cnext cout (view s) (cons_if b (with_flag read flag s x) rest)
      go true h = rw (m.own s x i h, m.says s x i h)
      go false h = rw (m.other s x i h)

-- ---- a channel's inputs are its own events beside their flags

abbrev pub events_in : {E F : Type 0} → List (Input E F) → List E
events_in [] = []
events_in (i ∷ is) = i.event ∷ events_in is

abbrev pub flags_in : {E F : Type 0} → List (Input E F) → List F
flags_in [] = []
flags_in (i ∷ is) = i.flag ∷ flags_in is

module _ {S R E F : Type 0} (read : R → E) (next : S → R → S) (flag : S → R → F) (on : S → R → Bool) where
  -- the events are those that are read
  pub inputs_read : (s : S) (xs : List R) → events_in (seen_at next on (with_flag read flag) s xs) ≡ seen_at next on (λ t. read) s xs
  inputs_read s [] = refl
  inputs_read s (x ∷ xs) = go (on s x) (inputs_read (next s x) xs)
    where
      go :
          (b : Bool) → events_in (seen_at next on (with_flag read flag) (next s x) xs) ≡ seen_at next on (λ t. read) (next s x) xs
          → events_in (cons_if b (with_flag read flag s x) (seen_at next on (with_flag read flag) (next s x) xs)) ≡ cons_if b (read x) (seen_at next on (λ t. read) (next s x) xs)
      go true e = ap (λ (r : List E). read x ∷ r) e
      go false e = e

  -- the flags are those that are seen
  pub inputs_flags : (s : S) (xs : List R) → flags_in (seen_at next on (with_flag read flag) s xs) ≡ seen_at next on flag s xs
  inputs_flags s [] = refl
  inputs_flags s (x ∷ xs) = go (on s x) (inputs_flags (next s x) xs)
    where
      go :
          (b : Bool) → flags_in (seen_at next on (with_flag read flag) (next s x) xs) ≡ seen_at next on flag (next s x) xs
          → flags_in (cons_if b (with_flag read flag s x) (seen_at next on (with_flag read flag) (next s x) xs)) ≡ cons_if b (flag s x) (seen_at next on flag (next s x) xs)
      go true e = ap (λ (r : List F). flag s x ∷ r) e
      go false e = e

-- by a test of the inputs alone they are those of the inputs that pass
pub inputs_events :
    {S R E F : Type 0} (read : R → E) (next : S → R → S) (flag : S → R → F) (on : R → Bool) (s : S) (xs : List R)
    → events_in (seen next on (with_flag read flag) s xs) ≡ map read (keep on xs)
inputs_events {S} {R} {E} read next flag on s xs = inputs_read read next flag (λ t. on) s xs ∙ kept s xs
  where
    kept : (s : S) (xs : List R) → seen_at next (λ t. on) (λ t. read) s xs ≡ map read (keep on xs)
    kept s [] = refl
    kept s (x ∷ xs) = go (on x) (kept (next s x) xs)
      where
        go :
            (b : Bool) → seen_at next (λ t. on) (λ t. read) (next s x) xs ≡ map read (keep on xs)
            → cons_if b (read x) (seen_at next (λ t. on) (λ t. read) (next s x) xs) ≡ map read (cons_if b x (keep on xs))
        go true e = ap (λ (r : List E). read x ∷ r) e
        go false e = e

-- where a test never passes, what it says of those that are seen is false
pub never_seen :
    {S R : Type 0} (next : S → R → S) (test : S → R → Bool) (on : R → Bool) (s : S) (xs : List R) → Never next test s xs
    → seen next on test s xs ≡ map (λ (x : R). false) (keep on xs)
never_seen next test on s [] f = refl
never_seen {R = R} next test on s (x ∷ xs) f = rw (f.0, never_seen next test on (next s x) xs f.1) (go (on x))
  where
    go : (b : Bool) → cons_if b false (map (λ (y : R). false) (keep on xs)) ≡ map (λ (y : R). false) (cons_if b x (keep on xs))
    go true = refl
    go false = refl
