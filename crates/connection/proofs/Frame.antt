-- An event of one channel moves that channel's view and no other view, and leaves a steady state steady.
-- Assumes nothing.
use mathlib.Core.Path.{◌≡◌, refl, sym, ap, ◌∙◌}
use mathlib.Core.Logic.{◌≢◌, ⊎_elim}
use mathlib.Core.Bool.{Bool, true, false, cond}
use mathlib.Core.List.{List}
use Prim.Native.Nat.{ℕ, ◌+◌, ◌*◌, ◌≤◌, ◌<◌}
use native.Mathlib.Omega.{arith}
use borrow.Author.Tests.{ltb-true, ltb-false}
use lib.Dec.{ltb}
use lib.ListN.{length, length-set}
use Rattle.paper.specs.Sizes.{PARTS, PART, STORE}
use Rattle.lists.specs.Bytes.{zeros}
use Rattle.lists.proofs.Cases.{true_not_false, lt_or_le}
use Rattle.lists.proofs.Laid.{length_zeros}
use Rattle.lists.proofs.Places.{place_set}
use Rattle.channel.specs.declared.Record.{Record}
use Rattle.channel.specs.Channel.{blank, View, Shut, Open, Room, NoRoom, Spare}
use Rattle.table.specs.declared.Table.{Table}
use Rattle.table.specs.Table.{holds, number_place, free_place, record_at, with_record}
use Rattle.table.specs.Sound.{good_stage}
use Rattle.table.proofs.Twice.{holds_says, holds_none}
use Rattle.table.proofs.Records.{at_same, at_other, at_any, number_holds, number_none, none_number, free_at}
use Rattle.table.proofs.Soundness.{sound_says, sound_with, number_only}
use Rattle.store.specs.Parts.{part, with_part}
use Rattle.store.proofs.Parts.{there, inside, length_with, length_part, part_same, part_other}
use Rattle.connection.specs.States.{State, view_at, view, room_at, room_in, wrote, save, Steady, FreePartsAreZero}
use Rattle.connection.proofs.Views.{view_open, view_shut}

-- a record that may stand in a sound table
pub record Fine (r : Record) : Type 0 where
  pub class : r.class ≤ 3
  pub stage : good_stage r.stage ≡ true

-- ---- a record and its part written at a place

-- a number is found where it was
place_kept :
    (m : ℕ) (t : Table) (k : ℕ) (r : Record) → holds m r ≡ holds m (record_at t k) → number_place m (with_record t k r) ≡ number_place m t
unfolding number_place with_record record_at
place_kept m t k r e = place_set (holds m) t.records k r blank e

module _ (st : State) (g : Steady st) (k : ℕ) (r : Record) (bytes : List ℕ) (l : k < PARTS) (long : length bytes ≡ PART) where
  fits : PART * k + PART ≤ length st.store
  fits = inside st.store k (there st.store k g.bytes l)

  row : k < length st.table.records
  row = rw g.rows l

  rows_kept : length (wrote st k r bytes).table.records ≡ PARTS
  unfolding wrote with_record
  rows_kept = length-set st.table.records k r ∙ g.rows

  bytes_kept : length (wrote st k r bytes).store ≡ STORE
  unfolding wrote
  bytes_kept = length_with st.store k bytes ∙ g.bytes

  pub steady_write :
      Fine r → (r.taken ≡ true → (i : ℕ) → (i ≡ k → ⊥) → holds r.number (record_at st.table i) ≡ false)
      → Steady (wrote st k r bytes)
  unfolding wrote with_record
  steady_write f alone =
      record {
        rows = rows_kept;
        bytes = bytes_kept;
        sound = sound_with st.table k r g.rows g.sound g.ready f.class f.stage alone;
        ready = g.ready;
      }

  -- the channel that holds it
  pub own_write : (n : ℕ) → Steady (wrote st k r bytes) → holds n r ≡ true → view n (wrote st k r bytes) ≡ Open r bytes
  unfolding wrote
  own_write n s h =
      let t = with_record st.table k r in
      let here : record_at t k ≡ r = at_same st.table k r row in
      let at_k : number_place n t ≡ k = number_only t k n s.sound (rw here h) in
      view_open n (wrote st k r bytes) k (sym at_k) l
      ∙ ap (λ (x : Record). Open x (part (with_part st.store k bytes) k)) here
      ∙ ap (Open r) (part_same st.store k bytes long fits)

  -- a channel that neither it nor the record before it holds
  pub other_write : (m : ℕ) → holds m r ≡ false → holds m (record_at st.table k) ≡ false → view m (wrote st k r bytes) ≡ view m st
  unfolding wrote
  other_write m a b =
      let j = number_place m st.table in
      let same : number_place m (with_record st.table k r) ≡ j = place_kept m st.table k r (a ∙ sym b) in
      ⊎_elim
      (λ (q : j < PARTS).
      let held : holds m (record_at st.table j) ≡ true = number_holds m st.table (rw g.rows q) in
      let apart : j ≢ k = λ e. true_not_false (sym held ∙ ap (λ (i : ℕ). holds m (record_at st.table i)) e ∙ b) in
      view_open m (wrote st k r bytes) j (sym same) q
      ∙ ap (λ (x : Record). Open x (part (with_part st.store k bytes) j)) (at_other st.table k j r apart)
      ∙ ap (Open (record_at st.table j)) (part_other st.store k j bytes apart long fits)
      ∙ sym (view_open m st j refl q))
      (λ (q : PARTS ≤ j). view_shut m (wrote st k r bytes) j (sym same) q ∙ sym (view_shut m st j refl q))
      (lt_or_le j PARTS)

  -- free parts stay zero where the record written is taken, or its part is zero
  pub clear_write : FreePartsAreZero st → (r.taken ≡ false → bytes ≡ zeros PART) → FreePartsAreZero (wrote st k r bytes)
  unfolding wrote
  clear_write z c i q u =
      ⊎_elim
      (λ w. rw w.0 (part_same st.store k bytes long fits ∙ c (ap (λ (x : Record). x.taken) (sym w.1) ∙ u)))
      (λ w. part_other st.store k i bytes w.0 long fits ∙ z i q (ap (λ (x : Record). x.taken) (sym w.1) ∙ u))
      (at_any st.table k r row i)

-- ---- what a view and a room tell

view_at_law :
    (st : State) (k : ℕ) (r : Record) (b : List ℕ) → view_at st k ≡ Open r b
    → (k < PARTS) × ((record_at st.table k ≡ r) × (part st.store k ≡ b))
unfolding view_at
view_at_law st k r b = go (ltb k PARTS) refl
  where
    go :
        (t : Bool) → ltb k PARTS ≡ t → cond t (Open (record_at st.table k) (part st.store k)) Shut ≡ Open r b
        → (k < PARTS) × ((record_at st.table k ≡ r) × (part st.store k ≡ b))
    go true e h = (ltb-true k PARTS e, ((cc), (cc)))
    go false e h = let z : ◌≡◌ {A = ℕ} 0 1 = cc in absurd (omega arith)

pub opened :
    (n : ℕ) (st : State) (r : Record) (b : List ℕ) → view n st ≡ Open r b
    → (number_place n st.table < PARTS) × ((record_at st.table (number_place n st.table) ≡ r) × (part st.store (number_place n
    st.table) ≡ b))
unfolding view
opened n st r b h = view_at_law st (number_place n st.table) r b h

shut_at : (st : State) (k : ℕ) → view_at st k ≡ Shut → PARTS ≤ k
unfolding view_at
shut_at st k = go (ltb k PARTS) refl
  where
    go : (t : Bool) → ltb k PARTS ≡ t → cond t (Open (record_at st.table k) (part st.store k)) Shut ≡ Shut → PARTS ≤ k
    go true e h = let z : ◌≡◌ {A = ℕ} 0 1 = cc in absurd (omega arith)
    go false e h = ltb-false k PARTS e

pub shut_past : (n : ℕ) (st : State) → view n st ≡ Shut → PARTS ≤ number_place n st.table
unfolding view
shut_past n st h = shut_at st (number_place n st.table) h

room_at_law : (st : State) (k : ℕ) (p : List ℕ) → room_at st k ≡ Spare p → (k < PARTS) × (part st.store k ≡ p)
unfolding room_at
room_at_law st k p = go (ltb k PARTS) refl
  where
    go : (t : Bool) → ltb k PARTS ≡ t → cond t (Spare (part st.store k)) NoRoom ≡ Spare p → (k < PARTS) × (part st.store k ≡ p)
    go true e h = (ltb-true k PARTS e, (cc))
    go false e h = let z : ◌≡◌ {A = ℕ} 0 1 = cc in absurd (omega arith)

pub spare :
    (st : State) (p : List ℕ) → room_in st ≡ Spare p → (free_place st.table < PARTS) × (part st.store (free_place st.table) ≡ p)
unfolding room_in
spare st p h = room_at_law st (free_place st.table) p h

-- ---- a view saved

-- what one channel's rules may make of its view
abbrev pub Fits : ℕ → Room → View → View → Type 0
Fits n room Shut Shut = Unit {0}
Fits n NoRoom Shut (Open r b) = ⊥
Fits n (Spare p) Shut (Open r b) = (holds n r ≡ true) × ((b ≡ p) × Fine r)
Fits n room (Open old kept) Shut = Unit {0}
Fits n room (Open old kept) (Open r b) = (holds n r ≡ true) × ((length b ≡ length kept) × Fine r)

-- two numbers are not held by one record
holds_one : (m n : ℕ) (r : Record) → m ≢ n → holds n r ≡ true → holds m r ≡ false
holds_one m n r d h = go (holds m r) refl
  where
    go : (t : Bool) → holds m r ≡ t → t ≡ false
    go true e = absurd (d (sym (holds_says m r e).1 ∙ (holds_says n r h).1))
    go false e = refl

-- the blank record
blank_fine : Fine blank
unfolding good_stage
blank_fine = record { class = omega arith; stage = refl }

module _ (n : ℕ) (st : State) (g : Steady st) where
  -- a number that is not open is held nowhere
  nowhere : view n st ≡ Shut → (i : ℕ) → holds n (record_at st.table i) ≡ false
  nowhere h = number_none n st.table (rw g.rows (shut_past n st h))

  -- a record that holds it clashes with no other
  new_alone : (r : Record) → holds n r ≡ true → view n st ≡ Shut → (i : ℕ) → holds r.number (record_at st.table i) ≡ false
  new_alone r h v i = rw (holds_says n r h).1 (nowhere v i)

  -- the open channel's place
  module _ (old : Record) (kept : List ℕ) (h : view n st ≡ Open old kept) where
    abbrev at : ℕ
    at = number_place n st.table

    pub there_is : at < PARTS
    there_is = (opened n st old kept h).0

    held : holds n (record_at st.table at) ≡ true
    held = number_holds n st.table (rw g.rows there_is)

    pub kept_long : length kept ≡ PART
    kept_long =
        rw (opened n st old kept h).1.1 at (length_part st.store at (inside st.store at (there st.store at
        g.bytes there_is)))

    lonely : (i : ℕ) → (i ≡ at → ⊥) → holds n (record_at st.table i) ≡ false
    lonely i d = go (holds n (record_at st.table i)) refl
      where
        go : (t : Bool) → holds n (record_at st.table i) ≡ t → t ≡ false
        go true e = absurd (d ((sound_says st.table g.sound).once i at n e held))
        go false e = refl

    old_alone : (r : Record) → holds n r ≡ true → (i : ℕ) → (i ≡ at → ⊥) → holds r.number (record_at st.table i) ≡ false
    old_alone r e i d = rw (holds_says n r e).1 (lonely i d)

    rewritten : (r : Record) (b : List ℕ) → holds n r ≡ true → length b ≡ length kept → Fine r → Steady (wrote st at r b)
    rewritten r b e f fine = steady_write st g at r b there_is (f ∙ kept_long) fine (λ u i d. old_alone r e i d)

    freed : Steady (wrote st at blank (zeros PART))
    freed = steady_write st g at blank (zeros PART) there_is (length_zeros PART) blank_fine (λ u. absurd (true_not_false (sym u)))

    gone : view n (wrote st at blank (zeros PART)) ≡ Shut
    unfolding wrote
    gone =
        let t = with_record st.table at blank in
        let none : (i : ℕ) → holds n (record_at t i) ≡ false = λ i. ⊎_elim (λ w. rw w.1 (holds_none n blank refl)) (λ w. rw w.1
        (lonely i w.0)) (at_any st.table at blank (rw g.rows there_is) i) in
        view_shut n (wrote st at blank (zeros PART)) (number_place n t) refl (omega (arith, none_number n t none, freed.rows))

  -- the free record that an opening takes
  pub record RoomFor (r : Record) (b : List ℕ) : Type 0 where
    pub inside_it : free_place st.table < PARTS
    pub bytes : b ≡ part st.store (free_place st.table)
    pub long : length b ≡ PART
    pub holder : holds n r ≡ true
    pub fine : Fine r

  pub room_for_law : (r : Record) (b : List ℕ) → Fits n (room_in st) Shut (Open r b) → RoomFor r b
  room_for_law r b f = go (room_in st) refl f
    where
      go : (room : Room) → room_in st ≡ room → Fits n room Shut (Open r b) → RoomFor r b
      go NoRoom e f = absurd f
      go (Spare p) e f =
          let s = spare st p e in
          let k = free_place st.table in
          let same = f.1.0 ∙ sym s.1 in
          record {
            inside_it = s.0;
            bytes = same;
            long = ap length same
                ∙ length_part st.store k (inside st.store k (there st.store k g.bytes s.0));
            holder = f.0;
            fine = f.1.1;
          }

  opens_steady : (r : Record) (b : List ℕ) → view n st ≡ Shut → RoomFor r b → Steady (wrote st (free_place st.table) r b)
  opens_steady r b h f =
      steady_write st g (free_place st.table) r b f.inside_it f.long f.fine (λ u i d. new_alone r f.holder h i)

  -- the channel itself is as its rules made it
  pub save_own : (v w : View) → view n st ≡ v → Fits n (room_in st) v w → view n (save n st v w) ≡ w
  unfolding save
  save_own Shut Shut h f = h
  save_own Shut (Open r b) h f = let o = room_for_law r b f in own_write st g (free_place st.table) r b o.inside_it o.long n
      (opens_steady r b h o) o.holder
  save_own (Open old kept) Shut h f = gone old kept h
  save_own (Open old kept) (Open r b) h f =
      own_write st g (number_place n st.table) r b (there_is old kept h) (f.1.0
      ∙ kept_long old kept h) n (rewritten old kept h r b f.0 f.1.0 f.1.1) f.0

  -- every other channel is as it was
  pub save_other : (m : ℕ) → m ≢ n → (v w : View) → view n st ≡ v → Fits n (room_in st) v w → view m (save n st v w) ≡ view m st
  unfolding save
  save_other m d Shut Shut h f = refl
  save_other m d Shut (Open r b) h f =
      let o = room_for_law r b f in
      let k = free_place st.table in
      other_write st g k r b o.inside_it o.long m (holds_one m n r d o.holder) (holds_none m (record_at st.table k)
      (free_at st.table (rw g.rows o.inside_it)))
  save_other m d (Open old kept) Shut h f =
      other_write st g (number_place n st.table) blank (zeros PART) (there_is old kept h) (length_zeros PART) m
      (holds_none m blank refl) (holds_one m n (record_at st.table (number_place n st.table)) d (held old kept h))
  save_other m d (Open old kept) (Open r b) h f =
      other_write st g (number_place n st.table) r b (there_is old kept h) (f.1.0
      ∙ kept_long old kept h) m (holds_one m n r d f.0) (holds_one m n (record_at st.table (number_place n st.table)) d
      (held old kept h))

  -- the state stays steady
  pub save_steady : (v w : View) → view n st ≡ v → Fits n (room_in st) v w → Steady (save n st v w)
  unfolding save
  save_steady Shut Shut h f = g
  save_steady Shut (Open r b) h f = opens_steady r b h (room_for_law r b f)
  save_steady (Open old kept) Shut h f = freed old kept h
  save_steady (Open old kept) (Open r b) h f = rewritten old kept h r b f.0 f.1.0 f.1.1

  -- free parts stay zero
  pub save_clear : (v w : View) → view n st ≡ v → Fits n (room_in st) v w → FreePartsAreZero st → FreePartsAreZero (save n st v w)
  unfolding save
  save_clear Shut Shut h f z = z
  save_clear Shut (Open r b) h f z =
      let o = room_for_law r b f in
      clear_write st g (free_place st.table) r b o.inside_it o.long z (λ u. absurd (true_not_false (sym (holds_says n r
      o.holder).0 ∙ u)))
  save_clear (Open old kept) Shut h f z =
      clear_write st g (number_place n st.table) blank (zeros PART) (there_is old kept h) (length_zeros PART) z (λ u. refl)
  save_clear (Open old kept) (Open r b) h f z =
      clear_write st g (number_place n st.table) r b (there_is old kept h) (f.1.0
      ∙ kept_long old kept h) z (λ u. absurd (true_not_false (sym (holds_says n r f.0).0 ∙ u)))
