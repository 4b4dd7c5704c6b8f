-- Where a channel's record stands after a turn: no other record holds its number, so the search finds the one that was put,
-- or none.
-- Assumes nothing.
use mathlib.Core.Path.{◌≡◌, refl, sym, ap, ◌∙◌}
use mathlib.Core.Bool.{Bool, true, false, cond}
use mathlib.Core.Logic.{⊎_elim}
use Prim.Native.Nat.{ℕ, ◌≤◌, ◌<◌}
use native.Mathlib.Omega.{arith}
use borrow.Author.Tests.{lt-ltb, ltb-true}
use lib.Dec.{ltb}
use lib.ListN.{length, length-set}
use Rattle.paper.specs.Sizes.{PARTS}
use Rattle.lists.proofs.Cases.{lt_or_le, true_not_false}
use Rattle.lists.proofs.Places.{place_le, place_only}
use Rattle.channel.specs.declared.Record.{Record}
use Rattle.channel.specs.declared.Change.{Change}
use Rattle.channel.specs.declared.Change.TheVariants.{Stays, Becomes, Frees}
use Rattle.channel.specs.Channel.{blank}
use Rattle.channel.proofs.Turns.{Rightly}
use Rattle.table.specs.declared.Table.{Table}
use Rattle.table.specs.Table.{holds, number_place, record_at, placed, with_record, home_place, site_of, next_of, put_back}
use Rattle.table.specs.Sound.{sound_table}
use Rattle.table.proofs.Records.{with_past, at_same, at_any, number_holds, number_none, none_number}
use Rattle.table.proofs.Twice.{holds_says, holds_own, holds_none}
use Rattle.table.proofs.Soundness.{sound_says}
use Rattle.connection.specs.States.{stands, place_after}
use Rattle.connection.proofs.Putting.{past_blank}

-- where a number stands hangs on the records alone
same_rows :
    (n : ℕ) (t : Table) (ready : Bool) (level k : ℕ) (row : Record) (change : Change)
    → number_place n (put_back t ready level k row change) ≡ number_place n (with_record t (site_of k change) (next_of change))
unfolding number_place put_back placed with_record
same_rows n t ready level k row change = refl

module _ (n : ℕ) (t : Table) (long : length t.records ≡ PARTS) (sound : sound_table t ≡ true) where
  abbrev found : Record
  found = record_at t (number_place n t)

  abbrev home : ℕ
  home = home_place n t

  -- ---- open or shut

  open_home : number_place n t < PARTS → home ≡ number_place n t
  unfolding home_place
  open_home l = rw (lt-ltb (number_place n t) PARTS l) refl

  held : number_place n t < PARTS → holds n found ≡ true
  held l = number_holds n t (rw long l)

  none : PARTS ≤ number_place n t → found.taken ≡ false
  none l = ap (λ (r : Record). r.taken) (past_blank n t (rw long l))

  pub own_number : found.taken ≡ true → found.number ≡ n
  own_number e =
      ⊎_elim (λ (l : number_place n t < PARTS). (holds_says n found (held l)).1) (λ (l : PARTS ≤ number_place n t). absurd
      (true_not_false (sym e ∙ none l))) (lt_or_le (number_place n t) PARTS)

  -- no other record holds the number
  alone : (i : ℕ) → (i ≡ home → ⊥) → holds n (record_at t i) ≡ false
  alone i d =
      ⊎_elim
      (λ (l : number_place n t < PARTS). go l (holds n (record_at t i)) refl)
      (λ (l : PARTS ≤ number_place n t). number_none n t (rw long l) i)
      (lt_or_le (number_place n t) PARTS)
    where
      go : number_place n t < PARTS → (b : Bool) → holds n (record_at t i) ≡ b → b ≡ false
      go l true e = absurd (d ((sound_says t sound).once i (number_place n t) n e (held l) ∙ sym (open_home l)))
      go l false e = refl

  -- ---- after a change

  within : number_place n t ≤ length t.records
  unfolding number_place
  within = place_le (holds n) t.records

  stayed : number_place n t ≡ cond found.taken home PARTS
  stayed =
      ⊎_elim
      (λ (l : number_place n t < PARTS). sym (ap (λ (b : Bool). cond b home PARTS) (holds_says n found (held l)).0 ∙ open_home l))
      (λ (l : PARTS ≤ number_place n t). at_end l ∙ sym (ap (λ (b : Bool). cond b home PARTS) (none l)))
      (lt_or_le (number_place n t) PARTS)
    where
      at_end : PARTS ≤ number_place n t → number_place n t ≡ PARTS
      at_end l = omega (arith, within, long)

  still : (r : Record) → length (with_record t home r).records ≡ PARTS
  unfolding with_record
  still r = length-set t.records home r ∙ long

  becomes : (r : Record) → holds n r ≡ true → home < PARTS → number_place n (with_record t home r) ≡ home
  unfolding number_place record_at with_record
  becomes r h l =
      let row : home < length t.records = rw long l in
      place_only (holds n) (with_record t home r).records blank home (rw (still r) l) (rw (at_same t home r row) h)
      (λ i e. ⊎_elim (λ w. w.0) (λ w. absurd (true_not_false (sym e ∙ ap (holds n) w.1 ∙ alone i w.0))) (at_any t home r row i))

  frees : home < PARTS → number_place n (with_record t home blank) ≡ PARTS
  frees l =
      let row : home < length t.records = rw long l in
      none_number n (with_record t home blank) (λ i. ⊎_elim (λ w. rw w.1 (holds_none n blank refl)) (λ w. rw w.1 (alone i
      w.0)) (at_any t home blank row i))
      ∙ still blank

  -- an open channel is at home in the table
  at_home : found.taken ≡ true → home < PARTS
  at_home e =
      ⊎_elim
      (λ (l : number_place n t < PARTS). rw (open_home l) l)
      (λ (l : PARTS ≤ number_place n t). absurd (true_not_false (sym e ∙ none l)))
      (lt_or_le (number_place n t) PARTS)

  room_home : (found.taken ≡ false → ltb home PARTS ≡ true) → home < PARTS
  room_home f = go found.taken refl
    where
      go : (b : Bool) → found.taken ≡ b → home < PARTS
      go true e = at_home e
      go false e = ltb-true home PARTS (f e)

  pub number_after :
      (ready : Bool) (level : ℕ) (row : Record) (change : Change) → Rightly n (ltb home PARTS) found change
      → number_place n (put_back t ready level home row change) ≡ place_after home found.taken change
  unfolding place_after stands site_of next_of
  number_after ready level row Stays x =
      same_rows n t ready level home row Stays ∙ ap (number_place n) (with_past t PARTS blank (rw long (omega arith))) ∙ stayed
  number_after ready level row (Becomes r) x =
      same_rows n t ready level home row (Becomes r) ∙ becomes r (holds_own n r x.0 x.1) (room_home x.2)
  number_after ready level row Frees x = same_rows n t ready level home row Frees ∙ frees (at_home x)
