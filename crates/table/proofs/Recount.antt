-- The laws of the totals: of a walk from place to place, of one record's change, and how much they can be.
-- Assumes nothing.
use mathlib.Core.Path.{◌≡◌, refl, sym, ap}
use mathlib.Core.Bool.{Bool, true, false, cond}
use mathlib.Core.List.{List, [], ◌∷◌}
use Prim.Native.Nat.{ℕ, zero, suc, ◌+◌, ◌-◌, ◌*◌, ◌%◌, ◌≤◌, ◌<◌}
use native.Mathlib.Omega.{arith}
use native.Mathlib.Nat.{mul-suc}
use borrow.Author.Tests.{eq-eqb, eqb-true, lt-ltb, le-leb, leb-true}
use lib.Dec.{eqb, ltb, leb}
use lib.ListN.{length, get_or, set, drop, drop_of_length-le}
use Rattle.paper.specs.Sizes.{MESSAGE_MAX}
use Rattle.lists.proofs.Cases.{both, and_true, and_false}
use Rattle.channel.specs.declared.Stage.{Stage}
use Rattle.channel.specs.declared.Stage.TheVariants.{Idle, Joining, Spoiled}
use Rattle.channel.specs.declared.Record.{Record}
use Rattle.channel.specs.Channel.{blank}
use Rattle.table.specs.declared.Totals.{Totals}
use Rattle.table.specs.Totals.{is_open, is_awaited, opens, to_come, awaits, total, moved, changed}
use Rattle.table.specs.Sound.{some, good_stage}
use Rattle.table.proofs.Every.{drop_next, none_at}

module _ (of : Record → ℕ) where
  -- ---- a walk

  pub total_on : (rs : List Record) (i : ℕ) → i < length rs → total of (drop i rs) ≡ of (get_or rs i blank) + total of (drop (i + 1) rs)
  unfolding total
  total_on rs i h = ap (total of) (drop_next rs i blank h)

  -- the same from the last to the first
  pub total_back :
      (rs : List Record) (i : ℕ) → 0 < i → i ≤ length rs → total of (drop (i - 1) rs) ≡ of (get_or rs (i - 1) blank) + total of (drop i rs)
  total_back rs i h l = let e : i - 1 + 1 ≡ i = omega arith in rw e at (total_on rs (i - 1) (omega arith))

  pub total_end : (rs : List Record) (i : ℕ) → length rs ≤ i → total of (drop i rs) ≡ 0
  unfolding total
  total_end rs i h = rw (drop_of_length-le rs h)

  -- ---- one record's change

  -- what a step adds and takes off
  pub total_set :
      (rs : List Record) (k : ℕ) (r : Record) → k < length rs
      → total of (set rs k r) + of (get_or rs k blank) ≡ total of rs + of r
  unfolding total
  total_set [] k r h = absurd (omega arith)
  total_set (x ∷ rs) zero r h = omega arith
  total_set (x ∷ rs) (suc k) r h = omega (arith, total_set rs k r (omega arith))

  -- ---- how much

  pub total_most : (most : ℕ) (rs : List Record) → ((i : ℕ) → of (get_or rs i blank) ≤ most) → total of rs ≤ most * length rs
  unfolding total
  total_most most [] h = omega arith
  total_most most (r ∷ rs) h = omega (arith, h 0, total_most most rs (λ i. h (suc i)), mul-suc most (length rs))

-- ---- a total that is moved

pub moved_same : (sum x : ℕ) → moved sum x x ≡ sum
unfolding moved
moved_same sum x = rw (eq-eqb x x refl)

-- with room for it, and with what is taken off in it
moved_by : (sum old new after : ℕ) → after + old ≡ sum + new → after < 4294967296 → moved sum old new ≡ after
unfolding moved
moved_by sum old new after e h = go (eqb new old) refl
  where
    go : (b : Bool) → eqb new old ≡ b → cond b sum ((sum + new + 4294967296 - old) % 4294967296) ≡ after
    go true d = omega (arith, eqb-true new old d)
    go false d = omega arith

pub moved_total :
    (of : Record → ℕ) (rs : List Record) (k : ℕ) (r : Record) → k < length rs → total of (set rs k r) < 4294967296
    → moved (total of rs) (of (get_or rs k blank)) (of r) ≡ total of (set rs k r)
moved_total of rs k r h room = moved_by (total of rs) (of (get_or rs k blank)) (of r) (total of (set rs k r)) (total_set of rs k r h) room

pub changed_same : (totals : Totals) (r : Record) → changed totals r r ≡ totals
unfolding changed
changed_same totals r = rw (moved_same totals.channels (opens r), moved_same totals.awaited (awaits r))

-- ---- what one record adds

pub opens_most : (r : Record) → opens r ≤ 1
unfolding opens
opens_most r = go (is_open r)
  where
    go : (t : Bool) → cond t 1 0 ≤ 1
    go true = omega arith
    go false = omega arith

to_come_most : (s : Stage) → good_stage s ≡ true → to_come s ≤ MESSAGE_MAX
unfolding to_come good_stage
to_come_most Idle h = omega arith
to_come_most (Joining wanted held) h = omega (arith, leb-true wanted MESSAGE_MAX (both (ltb held wanted) (leb wanted MESSAGE_MAX) h).1)
to_come_most Spoiled h = omega arith

pub awaits_most : (r : Record) → good_stage r.stage ≡ true → awaits r ≤ MESSAGE_MAX
unfolding awaits
awaits_most r h = go (is_open r)
  where
    go : (t : Bool) → cond t (to_come r.stage) 0 ≤ MESSAGE_MAX
    go true = to_come_most r.stage h
    go false = omega arith

-- a free record is not open, and neither is an awaited one
pub free_not_open : (r : Record) → r.taken ≡ false → is_open r ≡ false
unfolding is_open
free_not_open r t = rw t

pub awaited_not_open : (r : Record) → r.awaited ≡ true → is_open r ≡ false
unfolding is_open
awaited_not_open r a = rw a (and_false r.taken)

-- a record that is not open adds nothing to either total
pub not_open_adds : (r : Record) → is_open r ≡ false → (opens r ≡ 0) × (awaits r ≡ 0)
unfolding opens awaits
not_open_adds r h = (rw h, rw h)

-- a free record adds nothing
pub opens_none : (r : Record) → r.taken ≡ false → opens r ≡ 0
opens_none r h = (not_open_adds r (free_not_open r h)).0

pub awaits_none : (r : Record) → r.taken ≡ false → awaits r ≡ 0
awaits_none r h = (not_open_adds r (free_not_open r h)).1

-- a record that is taken and awaited adds nothing to either total
pub awaited_adds_nothing : (r : Record) → r.taken ≡ true → r.awaited ≡ true → (opens r ≡ 0) × (awaits r ≡ 0)
awaited_adds_nothing r t a = not_open_adds r (awaited_not_open r a)

-- whether a record is open, where no record is marked unless `marked` is true
pub counts_open :
    (rs : List Record) (marked : Bool) → (marked ≡ false → some is_awaited rs ≡ false) → (i : ℕ)
    → cond marked (is_open (get_or rs i blank)) (get_or rs i blank).taken ≡ is_open (get_or rs i blank)
unfolding is_open
counts_open rs true none i = refl
counts_open rs false none i = rw (none_at is_awaited rs blank (none refl) refl i) (sym (and_true (get_or rs i blank).taken))

-- ---- a record's stage is good, and it adds so much

abbrev pub Adds : Record → ℕ → Type 0
Adds r n = (good_stage r.stage ≡ true) × (awaits r ≡ n)

none : (t : Bool) → cond {A = ℕ} t 0 0 ≡ 0
none true = refl
none false = refl

-- a stage in which no message is being joined
pub else_adds : (r : Record) → ((wanted held : ℕ) → r.stage ≡ Joining wanted held → ⊥) → Adds r 0
unfolding is_open awaits to_come good_stage
else_adds r h = go r.stage refl
  where
    go : (s : Stage) → r.stage ≡ s → Adds r 0
    go Idle e = (rw e, rw e (none (is_open r)))
    go (Joining wanted held) e = absurd (h wanted held e)
    go Spoiled e = (rw e, rw e (none (is_open r)))

module _ (r : Record) (wanted held : ℕ) (e : r.stage ≡ Joining wanted held) (less : held < wanted) (fits : wanted ≤ MESSAGE_MAX) where
  joining_good : good_stage r.stage ≡ true
  unfolding good_stage
  joining_good = rw (e, lt-ltb held wanted less, le-leb wanted MESSAGE_MAX fits)

  pub joining_adds : is_open r ≡ true → Adds r (wanted - held)
  unfolding awaits to_come
  joining_adds o = (joining_good, rw (o, e))

  pub not_open_joining_adds : is_open r ≡ false → Adds r 0
  not_open_joining_adds o = (joining_good, (not_open_adds r o).1)

-- records that add as much are changed alike
pub changed_alike :
    (totals : Totals) (a b r : Record) → opens a ≡ opens b → awaits a ≡ awaits b → changed totals a r ≡ changed totals b r
unfolding changed
changed_alike totals a b r e f = rw (e, f) refl
