-- What a record's first word tells: whether it is good, and what its record adds to the totals.
-- Assumes nothing.
use mathlib.Core.Path.{◌≡◌, refl, ◌∙◌}
use mathlib.Core.Bool.{Bool, true, false, cond, not, ◌&&◌, ◌||◌}
use mathlib.Core.Logic.{◌⊎◌, inl, inr, ⊎_elim}
use Prim.Native.Nat.{ℕ, ◌+◌, ◌-◌, ◌*◌, ◌/◌, ◌%◌, ◌≤◌, ◌<◌}
use native.Mathlib.Omega.{arith}
use borrow.Author.Tests.{eq-eqb, ne_eqb, lt-ltb, le-ltb}
use lib.Dec.{eqb, leb}
use Rattle.paper.specs.Sizes.{MESSAGE_MAX}
use Rattle.lists.proofs.Cases.{lt_or_le, both, and_true, and_false}
use Rattle.channel.specs.declared.Stage.TheVariants.{Joining}
use Rattle.table.specs.Totals.{is_open, opens, to_come, awaits}
use Rattle.table.specs.Sound.{good_stage}
use Rattle.table.proofs.Recount.{awaits_most, not_open_adds}
use Rattle.saved.specs.Saved.{bit, stage_code, stage_of, record_of, rest_of}
use Rattle.saved.specs.Judging.{good_rest, fine_rest}

-- ---- one record's word

-- what a record adds is in its first word
pub same_opens : (rest number count : ℕ) → opens (record_of rest number count) ≡ opens (record_of rest 0 0)
unfolding record_of opens is_open
same_opens rest number count = refl

pub same_awaits : (rest number count : ℕ) → awaits (record_of rest number count) ≡ awaits (record_of rest 0 0)
unfolding record_of awaits is_open
same_awaits rest number count = refl

-- the stage's number in a word
abbrev pub code_of : ℕ → ℕ
code_of rest = rest / 8 % 268435456

-- a bit is its own number
bit_one : (n : ℕ) → n < 2 → bit (eqb n 1) ≡ n
bit_one n h =
    ⊎_elim
    (λ (a : n < 1). rw (ne_eqb n 1 (λ e. omega arith)) (omega arith))
    (λ (a : 1 ≤ n). rw (eq-eqb n 1 (omega arith)) (omega arith))
    (lt_or_le n 1)

-- a word of what it tells, by parts
rest_parts :
    (rest number count : ℕ) → rest < 4294967296
    → rest_of (record_of rest number count)
    ≡ rest % 2 + (2 * (rest / 2 % 4) + (8 * (stage_code (stage_of (code_of rest)) % 268435456) + 2147483648 * (rest / 2147483648)))
unfolding rest_of record_of
rest_parts rest number count h =
    let a : rest / 2 % 4 % 4 ≡ rest / 2 % 4 = omega arith in
    rw (bit_one (rest % 2) (omega arith), bit_one (rest / 2147483648) (omega arith), a)

-- a word's parts make it up
halves : (rest : ℕ) → rest ≡ rest % 2 + (2 * (rest / 2 % 4) + (8 * code_of rest + 2147483648 * (rest / 2147483648)))
halves rest =
    let a : rest / 2 / 4 ≡ rest / 8 = omega arith in
    let b : rest / 8 / 268435456 ≡ rest / 2147483648 = omega arith in
    omega arith

-- of a stage, its own number
own_code : (code : ℕ) → code < 268435456 → (code < 2) ⊎ (4096 ≤ code) → stage_code (stage_of code) ≡ code
unfolding stage_code stage_of
own_code code h k =
    ⊎_elim
    (λ (a : code < 2).
    ⊎_elim
    (λ (b : code < 1). let e : code ≡ 0 = omega arith in rw e)
    (λ (b : 1 ≤ code). let e : code ≡ 1 = omega arith in rw e)
    (lt_or_le code 1))
    (λ (a : 4096 ≤ code). rw (ne_eqb code 0 (λ e. omega arith), le-ltb code 4096 a) (omega arith))
    k

-- or of a number that no stage has, that of a spoiled one
no_code : (code : ℕ) → 2 ≤ code → code < 4096 → stage_code (stage_of code) ≡ 1
unfolding stage_code stage_of
no_code code h k = rw (ne_eqb code 0 (λ e. omega arith), lt-ltb code 4096 k)

-- a record's word is that of what it tells if the number of its stage is
module _ (rest number count : ℕ) (h : rest < 4294967296) where
  told : (code_of rest < 2) ⊎ (4096 ≤ code_of rest) → eqb (rest_of (record_of rest number count)) rest ≡ true
  told k =
      let e = own_code (code_of rest) (omega arith) k in
      rw (rest_parts rest number count h, e) (eq-eqb _ rest (omega (arith, halves rest)))

  untold : 2 ≤ code_of rest → code_of rest < 4096 → eqb (rest_of (record_of rest number count)) rest ≡ false
  untold a b =
      let e = no_code (code_of rest) a b in
      rw (rest_parts rest number count h, e) (ne_eqb _ rest (λ d. omega (arith, halves rest)))

-- ---- a good word

-- a second test that holds
pub or_true : (b : Bool) → (b || true) ≡ true
or_true true = refl
or_true false = refl

-- a number below 4,096 is that of an idle or of a spoiled record
low_stage : (code : ℕ) → code < 4096 → (good_stage (stage_of code) ≡ true) × (to_come (stage_of code) ≡ 0)
unfolding good_stage to_come stage_of
low_stage code h =
    ⊎_elim
    (λ (a : code < 1). let e : code ≡ 0 = omega arith in (rw e, rw e))
    (λ (a : 1 ≤ code).
    let e = ne_eqb code 0 (λ d. omega arith) in
    let f = lt-ltb code 4096 h in
    (rw (e, f), rw (e, f)))
    (lt_or_le code 1)

-- from there on it is that of a message being joined
high_stage : (code : ℕ) → 4096 ≤ code → code < 268435456 → stage_of code ≡ Joining (code / 4096) (code % 4096)
unfolding stage_of
high_stage code h k =
    let e : code / 4096 % 65536 ≡ code / 4096 = omega arith in
    rw (ne_eqb code 0 (λ d. omega arith), le-ltb code 4096 h, e)

-- whether a word is awaited
marked : (rest : ℕ) → rest < 4294967296 → 2147483648 ≤ rest → eqb (rest / 2147483648) 1 ≡ true
marked rest h k = eq-eqb (rest / 2147483648) 1 (omega arith)

unmarked : (rest : ℕ) → rest < 2147483648 → eqb (rest / 2147483648) 1 ≡ false
unmarked rest h = ne_eqb (rest / 2147483648) 1 (λ e. omega arith)

module _ (asks : Bool) (rest : ℕ) (h : rest < 4294967296) where
  -- awaited only where the end awaits numbers
  abbrev pub allowed : Bool
  allowed = asks || not (eqb (rest / 2147483648) 1)

  -- the definition's three tests
  good_parts : good_rest asks rest ≡ ((eqb (rest_of (record_of rest 0 0)) rest && good_stage (stage_of (code_of rest))) && allowed)
  unfolding good_rest record_of
  good_parts = refl

  -- the first test of the code, and what is good of a word that passes it
  pub rest_barred : asks ≡ false → 2147483648 ≤ rest → good_rest asks rest ≡ false
  rest_barred a k = good_parts ∙ rw (a, marked rest h k) (and_false (eqb (rest_of (record_of rest 0 0)) rest && good_stage (stage_of (code_of rest))))

  pub rest_short : allowed ≡ true → code_of rest < 2 → good_rest asks rest ≡ true
  rest_short a k = good_parts ∙ rw (told rest 0 0 h (inl k), (low_stage (code_of rest) (omega arith)).0, a)

  pub rest_held : 2 ≤ code_of rest → code_of rest / 4096 ≤ code_of rest % 4096 → good_rest asks rest ≡ false
  unfolding good_stage
  rest_held k over =
      ⊎_elim
      (λ (a : code_of rest < 4096). good_parts ∙ rw (untold rest 0 0 h k a))
      (λ (a : 4096 ≤ code_of rest).
      good_parts
      ∙ rw (told rest 0 0 h (inr a), high_stage (code_of rest) a (omega arith), le-ltb (code_of rest % 4096) (code_of rest / 4096) over))
      (lt_or_le (code_of rest) 4096)

  pub rest_joining : allowed ≡ true → code_of rest % 4096 < code_of rest / 4096 → good_rest asks rest ≡ leb (code_of rest / 4096) MESSAGE_MAX
  unfolding good_stage
  rest_joining a less =
      let k : 4096 ≤ code_of rest = omega arith in
      good_parts
      ∙ rw (told rest 0 0 h (inr k), high_stage (code_of rest) k (omega arith), lt-ltb (code_of rest % 4096) (code_of rest / 4096) less, a) (and_true _)

  -- the third holds where the end awaits numbers, and of a word without the mark
  pub may_ask : asks ≡ true → allowed ≡ true
  may_ask a = rw a

  pub not_asked : rest < 2147483648 → allowed ≡ true
  not_asked k = rw (unmarked rest k) (or_true asks)

-- ---- what a word adds

module _ (rest number count : ℕ) where
  -- open is what is taken and not awaited
  open_parts : is_open (record_of rest number count) ≡ (eqb (rest % 2) 1 && not (eqb (rest / 2147483648) 1))
  unfolding is_open record_of
  open_parts = refl

  free_shut : rest % 2 ≡ 0 → is_open (record_of rest number count) ≡ false
  free_shut e = open_parts ∙ rw e

  marked_shut : rest < 4294967296 → 2147483648 ≤ rest → is_open (record_of rest number count) ≡ false
  marked_shut h k = open_parts ∙ rw (marked rest h k) (and_false (eqb (rest % 2) 1))

  is_open_law : rest % 2 ≡ 1 → rest < 2147483648 → is_open (record_of rest number count) ≡ true
  is_open_law e k = open_parts ∙ rw (e, unmarked rest k)

  -- so a free record and an awaited one add no channel
  pub opens_free : rest % 2 ≡ 0 → opens (record_of rest number count) ≡ 0
  opens_free e = (not_open_adds (record_of rest number count) (free_shut e)).0

  pub opens_marked : rest < 4294967296 → 2147483648 ≤ rest → opens (record_of rest number count) ≡ 0
  opens_marked h k = (not_open_adds (record_of rest number count) (marked_shut h k)).0

  pub opens_one : rest % 2 ≡ 1 → rest < 2147483648 → opens (record_of rest number count) ≡ 1
  unfolding opens
  opens_one e k = rw (is_open_law e k)

  -- bytes are awaited only over an open channel
  pub awaits_shut : opens (record_of rest number count) ≡ 0 → awaits (record_of rest number count) ≡ 0
  unfolding opens awaits
  awaits_shut e = go (is_open (record_of rest number count)) e
    where
      go : (t : Bool) → cond {A = ℕ} t 1 0 ≡ 0 → cond t (to_come (record_of rest number count).stage) 0 ≡ 0
      go true d = absurd (omega arith)
      go false d = refl

  awaits_open : (opens (record_of rest number count) ≡ 0 → ⊥) → awaits (record_of rest number count) ≡ to_come (stage_of (code_of rest))
  unfolding opens awaits record_of
  awaits_open e = go (is_open (record_of rest number count)) e
    where
      go : (t : Bool) → (cond {A = ℕ} t 1 0 ≡ 0 → ⊥) → cond t (to_come (stage_of (code_of rest))) 0 ≡ to_come (stage_of (code_of rest))
      go true d = refl
      go false d = absurd (d refl)

  module _ (is : opens (record_of rest number count) ≡ 0 → ⊥) where
    pub awaits_low : code_of rest < 4096 → awaits (record_of rest number count) ≡ 0
    awaits_low k = awaits_open is ∙ (low_stage (code_of rest) k).1

    pub awaits_high : 4096 ≤ code_of rest → awaits (record_of rest number count) ≡ code_of rest / 4096 - code_of rest % 4096
    unfolding to_come
    awaits_high k = awaits_open is ∙ rw (high_stage (code_of rest) k (omega arith))

-- ---- a fine word

-- a good word, and not taken when not ready
module _ (ready asks : Bool) (rest : ℕ) where
  pub word_not : good_rest asks rest ≡ false → fine_rest ready asks rest ≡ false
  unfolding fine_rest
  word_not e = rw e

  pub seat_not : rest % 2 ≡ 1 → ready ≡ false → fine_rest ready asks rest ≡ false
  unfolding fine_rest
  seat_not e f = rw (e, f) (and_false (good_rest asks rest))

  pub fine_free : good_rest asks rest ≡ true → (rest % 2 ≡ 1 → ⊥) → fine_rest ready asks rest ≡ true
  unfolding fine_rest
  fine_free g d = rw (g, ne_eqb (rest % 2) 1 d) (or_true ready)

  pub fine_ready : good_rest asks rest ≡ true → ready ≡ true → fine_rest ready asks rest ≡ true
  unfolding fine_rest
  fine_ready g f = rw (g, f)

-- a good word's record awaits no more than a message
pub awaits_most_rest : (asks : Bool) (rest : ℕ) → good_rest asks rest ≡ true → awaits (record_of rest 0 0) ≤ MESSAGE_MAX
unfolding good_rest
awaits_most_rest asks rest g =
    let r = record_of rest 0 0 in
    let k = both (eqb (rest_of r) rest && good_stage r.stage) (asks || not r.awaited) g in
    awaits_most r (both (eqb (rest_of r) rest) (good_stage r.stage) k.0).1
