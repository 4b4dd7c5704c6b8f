-- The totals and a channel's count, by what the tests before them say.
-- Assumes nothing.
use Rattle.std.specs.Prelude.{None, Some}
use mathlib.Core.Path.{◌≡◌, refl, sym, ap, ◌∙◌}
use mathlib.Core.Bool.{Bool, true, false, not, ◌&&◌, ◌||◌}
use mathlib.Core.Logic.{inl, inr}
use mathlib.Core.List.{List}
use Prim.Native.Nat.{ℕ}
use borrow.Author.Tests.{eq-eqb}
use lib.Dec.{eqb, leb}
use lib.ListN.{length}
use Rattle.paper.specs.Sizes.{PARTS, STORE}
use Rattle.paper.specs.declared.Refusal.TheVariants.{BadCall, NotOpen}
use Rattle.lists.proofs.Cases.{both, and_false}
use Rattle.channel.specs.declared.Record.{Record}
use Rattle.channel.specs.declared.Answer.TheVariants.{Refused}
use Rattle.channel.specs.Answers.{concern_of}
use Rattle.table.specs.declared.Totals.{Totals}
use Rattle.table.specs.declared.Found.{Found}
use Rattle.table.specs.Totals.{is_open}
use Rattle.table.specs.Table.{number_place, record_at, home_in}
use Rattle.saved.specs.declared.Head.{Head}
use Rattle.saved.specs.Saved.{STATE, HEAD, CHANNELS, AWAITED, CLIENT, SHORE, word_at, totals_in, table_in, good_word, is_headed, is_good, head_in, home_over}
use Rattle.saved.proofs.Back.{saved_size, good_saved}
use Rattle.packing.specs.Packing.{COUNTED, packed, packed_for}
use Rattle.packing.proofs.Own.{own}
use Rattle.client_face.specs.Face.{no_state}
use Rattle.status_face.specs.Status.{dvc_totals, count_in, dvc_count}

no_state_law : packed_for 0 (Refused BadCall None) PARTS 0 ≡ no_state
unfolding no_state concern_of
no_state_law = own 0 (Refused BadCall None) (inl refl) PARTS 0

-- ---- the totals

headed_size : (l : List ℕ) → is_headed l ≡ true → eqb (length l) STATE ≡ true
unfolding is_headed
headed_size l h =
    (both (eqb (length l) STATE)
    ((good_word CLIENT false (word_at l HEAD) || good_word SHORE true (word_at l HEAD))
    && (leb (word_at l CHANNELS) PARTS && leb (word_at l AWAITED) STORE)) h).0

-- what is read of such bytes are their totals
read_totals : (l : List ℕ) (h : Head) → is_headed l ≡ true → h ≡ head_in l → h.totals ≡ totals_in l
unfolding head_in
read_totals l h g e = ap (λ (x : Head). x.totals) e ∙ rw (headed_size l g) refl

module _ (l : List ℕ) (r : ℕ) where
  pub totals_refused : is_headed l ≡ false → r ≡ packed_for 0 (Refused BadCall None) PARTS 0 → r ≡ dvc_totals l
  unfolding dvc_totals
  totals_refused g e = rw g (e ∙ no_state_law)

  pub totals_given :
      (h : Head) → is_headed l ≡ true → h ≡ head_in l → r ≡ packed COUNTED h.totals.awaited h.totals.channels 0 0 → r ≡ dvc_totals l
  unfolding dvc_totals
  totals_given h g e p = rw g (p ∙ ap (λ (t : Totals). packed COUNTED t.awaited t.channels 0 0) (read_totals l h g e))

-- ---- a channel's count

-- a record that isn't taken, or is awaited, is not open
pub shut_free : (r : Record) → r.taken ≡ false → is_open r ≡ false
unfolding is_open
shut_free r e = ap (λ (b : Bool). b && not r.awaited) e

pub shut_awaited : (r : Record) → r.awaited ≡ true → is_open r ≡ false
unfolding is_open
shut_awaited r e = ap (λ (b : Bool). r.taken && not b) e ∙ and_false r.taken

pub is_open_law : (r : Record) → r.taken ≡ true → r.awaited ≡ false → is_open r ≡ true
unfolding is_open
is_open_law r e f = ap (λ (b : Bool). b && not r.awaited) e ∙ ap not f

-- a state of either end, with a sound table
abbrev pub is_fair : List ℕ → Bool
is_fair l = is_good CLIENT false l || is_good SHORE true l

module _ (l : List ℕ) where
  pub fair_client : is_good CLIENT false l ≡ true → true ≡ is_fair l
  fair_client e = rw e

  pub fair_shore : (r : Bool) → is_good CLIENT false l ≡ false → r ≡ is_good SHORE true l → r ≡ is_fair l
  fair_shore r e f = rw e f

fair_size : (l : List ℕ) → is_fair l ≡ true → length l ≡ STATE
fair_size l g = go (is_good CLIENT false l) refl g
  where
    go : (b : Bool) → is_good CLIENT false l ≡ b → (b || is_good SHORE true l) ≡ true → length l ≡ STATE
    go true e h = saved_size CLIENT l (good_saved CLIENT false l e)
    go false e h = saved_size SHORE l (good_saved SHORE true l h)

module _ (l : List ℕ) (n r : ℕ) where
  pub count_refused : is_fair l ≡ false → r ≡ packed_for 0 (Refused BadCall None) PARTS 0 → r ≡ dvc_count l n
  unfolding dvc_count
  count_refused g e = rw g (e ∙ no_state_law)

  module _ (f : Found) (g : is_fair l ≡ true) (e : f ≡ home_over n l) where
    found_row : f.row ≡ record_at (table_in l) (number_place n (table_in l))
    unfolding home_over home_in
    found_row = ap (λ (x : Found). x.row) e ∙ rw (eq-eqb (length l) STATE (fair_size l g)) refl

    -- a number without an open channel
    pub count_shut : is_open f.row ≡ false → r ≡ packed_for n (Refused NotOpen (Some n)) PARTS 0 → r ≡ dvc_count l n
    unfolding dvc_count count_in concern_of
    count_shut h p = rw (g, sym (ap is_open found_row) ∙ h) (p ∙ own n (Refused NotOpen (Some n)) (inr refl) PARTS 0)

    pub count_given : is_open f.row ≡ true → r ≡ packed COUNTED f.row.count 0 0 0 → r ≡ dvc_count l n
    unfolding dvc_count count_in
    count_given h p = rw (g, sym (ap is_open found_row) ∙ h) (p ∙ ap (λ (x : Record). packed COUNTED x.count 0 0 0) found_row)
