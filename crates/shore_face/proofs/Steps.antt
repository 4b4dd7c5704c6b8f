-- What is found, decided and put back in a state's bytes is the step, and the answer in one number is the step's.
-- Assumes nothing.
use mathlib.Core.Path.{◌≡◌, refl, ap, ◌∙◌}
use mathlib.Core.Bool.{Bool, true, ◌&&◌, ◌||◌}
use mathlib.Core.List.{List}
use Prim.Native.Nat.{ℕ, ◌<◌}
use native.Mathlib.Omega.{arith}
use lib.Dec.{eqb, ltb}
use lib.IntN.{ℤ}
use lib.ListN.{length}
use Rattle.paper.specs.Sizes.{PARTS, STORE}
use Rattle.paper.specs.declared.Refusal.{Refusal}
use Rattle.lists.specs.Bytes.{laid}
use Rattle.lists.proofs.Cases.{choice, both}
use Rattle.numbers.specs.Numbers.{Bytes}
use Rattle.channel.specs.declared.Record.{Record}
use Rattle.channel.specs.declared.Ask.{Ask}
use Rattle.channel.specs.declared.Ask.TheVariants as ask
use Rattle.channel.specs.Turns.{reply_told}
use Rattle.table.specs.declared.Found.{Found}
use Rattle.table.specs.Sound.{sound_table}
use Rattle.connection.specs.States.{kept, place_after}
use Rattle.client.specs.Client.{place_if}
use Rattle.deciding.specs.declared.Matter.TheVariants as matter
use Rattle.deciding.specs.declared.Decided as both_ends
use Rattle.deciding.specs.Deciding as common
use Rattle.shore.specs.declared.Said.{Said}
use Rattle.shore.specs.declared.Given.{Given}
use Rattle.shore.specs.declared.Matter.{Matter}
use Rattle.shore.specs.declared.Matter.TheVariants.{Unread, Caps, Status, Block, End}
use Rattle.shore.specs.declared.Decided.{Decided}
use Rattle.shore.specs.Saying.{concern_said}
use Rattle.shore.specs.Rules.{is_below_zero}
use Rattle.shore.specs.Deciding.{responding, settling, seen_row, as_common, decided_of}
use Rattle.shore.specs.Asking.{told}
use Rattle.shore.specs.Shore.{standing, stepped}
use Rattle.shore.proofs.Deciding.{gives_decided}
use Rattle.saved.specs.declared.Head.{Head}
use Rattle.saved.specs.Saved.{SHORE, table_in, asked_in, is_state, is_good, head_in, home_over, put_over}
use Rattle.saved.proofs.Searching.{length_told}
use Rattle.saved.proofs.Putting.{put_over_law, head_over, home_over_law}
use Rattle.packing.specs.Packing.{said_place, packed_said, packed_said_for}
use Rattle.packing.proofs.Own.{own_said, shore_own, shore_place}
use Rattle.shore_face.specs.Face.{shore_in, saved_shore, Gives}

-- ---- a level that is decided is one byte

-- what both ends have in common keeps the level
module _ (ready : Bool) (level n : ℕ) (room : Bool) (row : Record) (len : ℕ) where
  unread_level : (why : Refusal) (whole : Bool) → (common.decided_of ready level n room row (matter.Unread why whole) len).level ≡ level
  unfolding common.decided_of common.refusing
  unread_level why whole =
      choice (λ (d : both_ends.Decided). d.level ≡ level) ((ready && whole) && row.taken) (λ e. refl) (λ e. refl)

  asks_level : (a : Ask) → (common.decided_of ready level n room row (matter.Asks a) len).level ≡ level
  unfolding common.decided_of common.refusing
  asks_level a = choice (λ (d : both_ends.Decided). d.level ≡ level) ready (λ e. refl) (λ e. refl)

module _ (asked : ℕ) (ready : Bool) (level n : ℕ) (room : Bool) (row : Record) (len : ℕ) (h : level < 256) where
  responds_small : (version : ℕ) → (responding asked ready level version).level < 256
  unfolding responding
  responds_small version = choice (λ (d : Decided). d.level < 256) (ready || eqb asked 0) (λ e. h) (λ e. omega arith)

  settles_small : (status : ℤ) → (settling ready level n row status).level < 256
  unfolding settling
  settles_small status =
      choice (λ (d : Decided). d.level < 256) ready
      (λ e. choice (λ (d : Decided). d.level < 256) (row.taken && row.awaited)
      (λ f. choice (λ (d : Decided). d.level < 256) (is_below_zero status) (λ g. h) (λ g. h)) (λ f. h))
      (λ e. h)

  level_small : (m : Matter) → (decided_of asked ready level n room row m len).level < 256
  unfolding decided_of as_common
  level_small (Unread why whole) = rw (unread_level ready level n room (seen_row row) len why whole) h
  level_small (Caps version) = responds_small version
  level_small (Status status) = settles_small status
  level_small (Block offer) = rw (asks_level ready level n room (seen_row row) len (ask.Block offer)) h
  level_small (End local) = rw (asks_level ready level n room (seen_row row) len (ask.End local)) h

-- the level that a state tells is one
pub told_small : (l : List ℕ) → (table_in l).level < 256
unfolding table_in
told_small l = omega arith

-- ---- the answer

-- a place counts only where it is shown
place_shown : (s : Said) (j k sent : ℕ) → said_place s j ≡ said_place s k → packed_said s j sent ≡ packed_said s k sent
unfolding packed_said
place_shown s j k sent e = rw e

-- what is decided, packed: its channel is the one that was asked of, its place the one that was found
packed_decided :
    (asked : ℕ) (ready : Bool) (level n : ℕ) (room : Bool) (row : Record) (m : Matter) (len : ℕ) (d : Decided)
    → d ≡ decided_of asked ready level n room row m len → (k sent : ℕ)
    → packed_said_for n d.said k sent ≡ packed_said d.said (place_if (concern_said d.said) (place_after k row.taken d.change)) sent
packed_decided asked ready level n room row m len d e k sent =
    rw e (own_said n _ (shore_own asked ready level n room row m len) k sent
    ∙ place_shown _ k _ sent (shore_place asked ready level n room row m len k))

-- ---- the step

pub gives_step :
    (n : ℕ) (l store block reply : List ℕ) (m : Matter) → Bytes l → is_good SHORE true l ≡ true → length store ≡ STORE
    → (f : Found) (h : Head) (d : Decided) → f ≡ home_over n l → h ≡ head_in l
    → d ≡ decided_of h.asked h.ready h.level n (ltb f.place PARTS) f.row m (length block)
    → (stateAfter storeAfter replyAfter : List ℕ) (sent r : ℕ)
    → stateAfter ≡ put_over l d.ready d.level f.place f.row d.change
    → sent ≡ length (reply_told n d.reply) → replyAfter ≡ laid reply 0 (reply_told n d.reply)
    → storeAfter ≡ kept store f.place d.part block
    → r ≡ packed_said_for n d.said f.place sent
    → Gives (stepped (standing (shore_in l) store) (told n m block)) reply r stateAfter storeAfter replyAfter
unfolding shore_in saved_shore is_good
gives_step n l store block reply m bytes good size f h d fe he de stateAfter storeAfter replyAfter sent r se ne re ke pe =
    let t = table_in l in
    let sound = (both (is_state SHORE true l) (sound_table t) good).1 in
    let by : d ≡ decided_of (asked_in l) t.ready t.level n (ltb f.place PARTS) f.row m (length block) =
    rw (he ∙ head_over SHORE true l good) at de in
    let small : d.level < 256 =
    rw by (level_small (asked_in l) t.ready t.level n (ltb f.place PARTS) f.row (length block) (told_small l) m) in
    let g =
    gives_decided n t (asked_in l) store (length_told l) size sound m block f d (fe ∙ home_over_law SHORE true l n good) by
    reply storeAfter replyAfter _ refl ke re in
    record {
      result =
          pe ∙ ap (packed_said_for n d.said f.place) ne
          ∙ packed_decided (asked_in l) t.ready t.level n (ltb f.place PARTS) f.row m (length block) d by f.place _
          ∙ ap (λ (x : Given). packed_said x.said x.place x.sent) g.result;
      stated =
          se ∙ put_over_law SHORE true l bytes good d.ready d.level f.place f.row d.change small
          ∙ ap (λ (x : Given). saved_shore x.shore) g.result;
      stored = g.stored;
      replied = g.replied;
    }
