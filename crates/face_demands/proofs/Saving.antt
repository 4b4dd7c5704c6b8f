-- What an end can hold comes back from its bytes, and accepted bytes are those of what they tell.
-- Assumes nothing.
use mathlib.Core.Path.{◌≡◌, sym, ap, ◌∙◌}
use mathlib.Core.Bool.{Bool, true, false, not}
use mathlib.Core.List.{List}
use Prim.Native.Nat.{ℕ, ◌<◌}
use native.Mathlib.Omega.{arith}
use borrow.Author.Tests.{eqb-true, not-true}
use lib.Dec.{eqb, lit<}
use Rattle.lists.proofs.Cases.{both}
use Rattle.numbers.specs.Numbers.{Bytes}
use Rattle.table.specs.declared.Table.{Table}
use Rattle.table.specs.Totals.{is_awaited}
use Rattle.table.specs.Sound.{some, sound_table}
use Rattle.shore.specs.declared.Shore.{Shore}
use Rattle.saved.specs.Saved.{CLIENT, SHORE, saved, asked_in, table_in, is_saved, unasked, is_state, is_good}
use Rattle.saved.proofs.Back.{saved_told, saved_asked, saved_state_client, saved_good_client, told_saved, kept_told}
use Rattle.saved.proofs.Back.{saved_state_shore, saved_good_shore}
use Rattle.shore_face.specs.Face.{shore_in, saved_shore}
use Rattle.face_demands.specs.Tables.{ClientCanHold, ShoreCanHold}

-- accepted bytes tell a sound table
pub good_sound : (mark : ℕ) (asks : Bool) (l : List ℕ) → is_good mark asks l ≡ true → sound_table (table_in l) ≡ true
unfolding is_good
good_sound mark asks l g = (both (is_state mark asks l) (sound_table (table_in l)) g).1

-- ---- the client

module _ (t : Table) (h : ClientCanHold t) where
  pub client_told : table_in (saved CLIENT 0 t) ≡ t
  client_told = saved_told CLIENT 0 t (lit< tt) (lit< tt) h.table

  pub client_asked : asked_in (saved CLIENT 0 t) ≡ 0
  client_asked = saved_asked CLIENT 0 t (lit< tt) (lit< tt) h.table

  pub client_state : is_state CLIENT false (saved CLIENT 0 t) ≡ true
  client_state = saved_state_client t h.table h.none_awaited

  pub client_good : is_good CLIENT false (saved CLIENT 0 t) ≡ true
  client_good = saved_good_client t h.table h.none_awaited

-- what a state of the client is
pub record ClientSays (l : List ℕ) : Type 0 where
  pub saved_bytes : is_saved CLIENT l ≡ true
  pub unasked_for : asked_in l ≡ 0
  pub unawaited : some is_awaited (table_in l).records ≡ false

pub client_says : (l : List ℕ) → is_state CLIENT false l ≡ true → ClientSays l
unfolding is_state unasked
client_says l g =
    let a = both (is_saved CLIENT l) (unasked l) g in
    let b = both (eqb (asked_in l) 0) (not (some is_awaited (table_in l).records)) a.1 in
    record { saved_bytes = a.0; unasked_for = eqb-true (asked_in l) 0 b.0; unawaited = not-true (some is_awaited (table_in l).records) b.1 }

pub client_again : (l : List ℕ) → Bytes l → is_state CLIENT false l ≡ true → saved CLIENT 0 (table_in l) ≡ l
client_again l h g =
    let s = client_says l g in
    ap (λ (asked : ℕ). saved CLIENT asked (table_in l)) (sym s.unasked_for) ∙ told_saved CLIENT l h s.saved_bytes

pub client_holds : (l : List ℕ) → Bytes l → is_good CLIENT false l ≡ true → ClientCanHold (table_in l)
unfolding is_good
client_holds l h g =
    record {
      table = kept_told CLIENT false l h g;
      none_awaited = (client_says l (both (is_state CLIENT false l) (sound_table (table_in l)) g).0).unawaited;
    }

-- ---- the shore

module _ (s : Shore) (h : ShoreCanHold s) where
  pub shore_told : shore_in (saved_shore s) ≡ s
  unfolding shore_in saved_shore
  shore_told =
      let k = h.table in
      rw (saved_told SHORE s.asked s.table (lit< tt) h.asked k, saved_asked SHORE s.asked s.table (lit< tt) h.asked k)

  pub shore_state : is_state SHORE true (saved_shore s) ≡ true
  unfolding saved_shore
  shore_state = saved_state_shore s.asked s.table h.asked h.table

  pub shore_good : is_good SHORE true (saved_shore s) ≡ true
  unfolding saved_shore
  shore_good = saved_good_shore s.asked s.table h.asked h.table

pub shore_says : (l : List ℕ) → is_state SHORE true l ≡ true → is_saved SHORE l ≡ true
unfolding is_state
shore_says l g = (both (is_saved SHORE l) true g).0

pub shore_again : (l : List ℕ) → Bytes l → is_state SHORE true l ≡ true → saved_shore (shore_in l) ≡ l
unfolding shore_in saved_shore
shore_again l h g = told_saved SHORE l h (shore_says l g)

asked_small : (l : List ℕ) → asked_in l < 65536
unfolding asked_in
asked_small l = omega arith

pub shore_holds : (l : List ℕ) → Bytes l → is_good SHORE true l ≡ true → ShoreCanHold (shore_in l)
unfolding shore_in
shore_holds l h g = record { table = kept_told SHORE true l h g; asked = asked_small l }
