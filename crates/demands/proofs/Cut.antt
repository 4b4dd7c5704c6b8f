-- "A message of up to 4,096 bytes, cut by us and received on an open, idle channel, is handed up once, with the same bytes."
-- By induction on the calls of `cut`: before each the channel holds what the calls before it cut. The run may hold any events of other
-- channels; it starts in any sound, ready state.
-- Assumes nothing.
use Rattle.std.specs.Prelude.{None, Some, Ok, Result}
use mathlib.Core.Path.{◌≡◌, refl, sym, ap, ◌∙◌}
use mathlib.Core.Logic.{⊎_elim}
use mathlib.Core.Bool.{Bool, true, false, not, cond}
use mathlib.Core.List.{List, [], ◌∷◌, ◌++◌, map, append_assoc}
use Prim.Native.Nat.{ℕ, zero, suc, ◌+◌, ◌-◌, ◌≤◌, ◌<◌}
use native.Mathlib.Omega.{arith}
use borrow.Author.Tests.{lt-ltb, le-ltb, eq-eqb, ne_eqb, ltb-true, ltb-false, eqb-true}
use lib.Dec.{ltb, eqb, lit<, lit≤}
use lib.ListN.{length, take, length-append}
use lib.Seq.{take-add, take_at, take-length, length-take-le}
use Rattle.paper.specs.Sizes.{PART, MESSAGE_MAX, PDU_MAX, WHOLE_MAX}
use Rattle.lists.specs.Bytes.{laid}
use Rattle.lists.proofs.Cases.{lt_or_le, true_not_false}
use Rattle.lists.proofs.Laid.{laid_eq, length_laid}
use Rattle.numbers.specs.Numbers.{NUMBERS}
use Rattle.reading.specs.Grammar.{data_first_law, data_block, Encodes}
use Rattle.laying.proofs.Encoded.{data_encoded, data_first_encoded}
use Rattle.channel.specs.declared.Record.{Record}
use Rattle.channel.specs.declared.Stage.{Stage}
use Rattle.channel.specs.declared.Stage.TheVariants.{Idle, Joining, Spoiled}
use Rattle.channel.specs.declared.Offer.TheVariants.{First, More}
use Rattle.paper.specs.declared.Refusal.TheVariants.{WrongTime}
use Rattle.channel.specs.declared.Answer.TheVariants.{Held, Message, Refused}
use Rattle.channel.specs.declared.Took.{Took}
use Rattle.channel.specs.declared.Took.TheVariants.{Holds, Finishes}
use Rattle.channel.specs.Stages.{added, took_first, took}
use Rattle.channel.specs.Channel.{Bring, View, Open, Room, Did, rebuilt, stage_after, part_after, answer_to, landed, act}
use Rattle.connection.specs.States.{State, view, room_in, Steady}
use Rattle.client.specs.Events.{Event, Unreadable, Capabilities, Of, is_of}
use Rattle.client.specs.Client.{stepped}
use Rattle.paper.specs.declared.Refusal.{Refusal}
use Rattle.cutting.specs.Cutting.{is_first, is_start, block_len, block_end, block, cut_pdu, cut_at, cut_buffer, piece_of}
use Rattle.cutting.specs.declared.Piece.{Piece}
use Rattle.cutting.proofs.Answers.{given, at_start_law, unpacked_cut}
use Rattle.cutting.proofs.Starts.{start_zero, start_next, start_within}
use Rattle.cutting.proofs.Blocks.{end_is, end_from_law, end_within, end_after_law, length_block, cut_first, cut_data, cut_fits, whole_end, long_first, later_data}
use Rattle.connection.proofs.Frame.{kept_long}
use Rattle.steps.specs.States.{FineEvent}
use Rattle.steps.proofs.Channels.{step_own, step_other, step_steady}
use Rattle.steps.proofs.Calm.{steady_sane}
use Rattle.steps.proofs.Widths.{event_of_value, encoded_event}
use Rattle.demands.specs.Trace.{seen}
use Rattle.demands.specs.Runs.{Call, after, told, Told, told_to, ends, event_in, is_event_of, own_events, first_of}
use Rattle.demands.specs.Cut.{Cut, cut_of, Cuts, last_one, one_more, CutByUs, CutFromC, NoneRefused, event_of_pdu, cut_events, told_for, HandedUpOnce}
use Rattle.demands.proofs.Traces.{Input, events_in, inputs_events, with_flag, Framed, alone_outs, alone_final, trace_outs, trace_final}
use Rattle.demands.proofs.Machine.{told_by, read_call, call_state, fine_call, own_told}

-- ---- a channel in any steady state

-- what its rules need to know of the rest
pub record Around : Type 0 where
  pub level : ℕ
  pub room : Room

abbrev pub around : State → Call → Around
around st c = record { level = st.table.level; room = room_in st }

abbrev pub next_in : Around → View → Event → View
next_in f v (Unreadable why) = v
next_in f v (Capabilities version) = v
next_in f v (Of n a) = (act f.level n f.room v a).view

abbrev pub told_in : Around → View → Event → Told
told_in f v (Unreadable why) = record { answer = Refused why None; reply = []; message = [] }
told_in f v (Capabilities version) = record { answer = Refused WrongTime None; reply = []; message = [] }
told_in f v (Of n a) = told_by (act f.level n f.room v a)

own_in_law :
    (n : ℕ) (st : State) (c : Call) → Steady st → (e : Event) → event_in c.asked ≡ e → FineEvent e → is_of n e ≡ true
    → (view n (after st c) ≡ next_in (around st c) (view n st) e) × (told st c ≡ told_in (around st c) (view n st) e)
own_in_law n st c g (Unreadable why) q z h = absurd (true_not_false (sym h))
own_in_law n st c g (Capabilities version) q z h = absurd (true_not_false (sym h))
own_in_law n st c g (Of m a) q z h =
    let m_n : m ≡ n = eqb-true m n h in
    rw (← m_n) (
      ap (view m) (call_state st c (steady_sane st g) ∙ ap (λ (x : Event). (stepped st x).state) q) ∙ step_own st g m a z,
      own_told st c g m a z q,
    )

-- any run from any steady state shows each channel so
pub framed_steady : (n : ℕ) → Framed read_call after told around (λ st. is_event_of n) (view n) next_in told_in Steady
unfolding is_event_of
framed_steady n = record {
  stays = λ st c g. rw (call_state st c (steady_sane st g)) (step_steady st g (event_in c.asked) (fine_call c.asked));
  own = λ st c g h. (own_in_law n st c g (event_in c.asked) refl (fine_call c.asked) h).0;
  says = λ st c g h. (own_in_law n st c g (event_in c.asked) refl (fine_call c.asked) h).1;
  other = λ st c g h. ap (view n) (call_state st c (steady_sane st g)) ∙ step_other n st g (event_in c.asked) (fine_call c.asked) h;
}

message_part : MESSAGE_MAX ≤ PART
unfolding PART MESSAGE_MAX
message_part = lit≤ tt

message_small : MESSAGE_MAX < NUMBERS
unfolding MESSAGE_MAX
message_small = lit< tt

-- ---- the events of the cut PDUs

module _ (n : ℕ) (m : List ℕ) (small-number : n < NUMBERS) (short_enough : length m ≤ MESSAGE_MAX) where
  -- a cut PDU is an encoding of its block, at either end
  pub block_encoded :
      (fromServer : Bool) (at : ℕ) (t : Bool) → is_first (length m) at ≡ t
      → Encodes fromServer (cond t (data_first_law n (length m) (block n m at)) (data_block n (block n m at))) (cut_pdu n m at)
  block_encoded fromServer at true e =
      rw (cut_first n m at e) (data_first_encoded n small-number fromServer (length m) (block n m at) (omega (arith, message_small)))
  block_encoded fromServer at false e = rw (cut_data n m at e) (data_encoded n small-number fromServer (block n m at))

  block_event : (at : ℕ) → event_of_pdu (cut_pdu n m at) ≡ Of n (Bring (cond (is_first (length m) at) (First (length m)) More) (block n m at))
  unfolding event_of_pdu event_of_value
  block_event at = encoded_event _ (cut_pdu n m at) (block_encoded true at (is_first (length m) at) refl) (cut_fits n m at) [] ∙ go (is_first (length m) at)
    where
      go :
          (t : Bool)
          → event_of_value [] (cond t (data_first_law n (length m) (block n m at)) (data_block n (block n m at)))
          ≡ Of n (Bring (cond t (First (length m)) More) (block n m at))
      go true = refl
      go false = refl

-- ---- a machine of one number that takes cut blocks as the rules of an open channel do: next view, and what is told. A record may have to
-- be `Ok`, and stays so in every stage

abbrev pub landing : ℕ → List ℕ → ℕ → Record → List ℕ → Did
landing n m at r part = landed n r part (block n m at) (took r.stage (cond (is_first (length m) at) (First (length m)) More) (length (block n m at)))

pub record Takes {E F O : Type 0} (n : ℕ) (m : List ℕ) (event : List ℕ → E) (next : F → View → E → View) (out : F → View → E → O)
    (tell : Told → O) (Ok : Record → Type 0) : Type 0 where
  pub kept : (r : Record) (s : Stage) (handed : Bool) → Ok r → Ok (rebuilt r s handed)
  pub moves : (f : F) (at : ℕ) (r : Record) (part : List ℕ) → Ok r → next f (Open r part) (event (cut_pdu n m at)) ≡ (landing n m at r part).view
  pub tells : (f : F) (at : ℕ) (r : Record) (part : List ℕ) → Ok r → out f (Open r part) (event (cut_pdu n m at)) ≡ tell (told_by (landing n m at r part))

module _ (n : ℕ) (m : List ℕ) (short_enough : length m ≤ MESSAGE_MAX) where
  -- ---- a block that lands where the message stands

  -- the channel before the block at an offset: idle before the first, and joining with that many held before the others
  abbrev pub StageAt : ℕ → Stage → Type 0
  StageAt at Idle = at ≡ 0
  StageAt at (Joining wanted held) = (0 < at) × ((wanted ≡ length m) × (held ≡ at))
  StageAt at Spoiled = ⊥

  added_at :
      (at : ℕ) → at ≤ length m
      → added (length m) at (length (block n m at)) ≡ cond (ltb (block_end n (length m) at) (length m)) (Holds (length m) at (block_end n (length m) at)) (Finishes at (length m))
  unfolding added
  added_at at h =
      let l = length_block n m at in
      let e : at + length (block n m at) ≡ block_end n (length m) at = omega (arith, end_is n (length m) at) in
      let w = end_within n (length m) at h in
      rw (e, le-ltb (length m) (block_end n (length m) at) w) (go (ltb (block_end n (length m) at) (length m)) refl w)
    where
      go :
          (t : Bool) → ltb (block_end n (length m) at) (length m) ≡ t → block_end n (length m) at ≤ length m
          → cond (eqb (block_end n (length m) at) (length m)) (Finishes at (length m)) (Holds (length m) at (block_end n (length m) at)) ≡ cond t (Holds (length m) at (block_end n (length m) at)) (Finishes at (length m))
      go true e w =
          let l = ltb-true (block_end n (length m) at) (length m) e in
          let d : block_end n (length m) at ≡ length m → ⊥ = λ q. omega arith in
          rw (ne_eqb (block_end n (length m) at) (length m) d)
      go false e w =
          let l = ltb-false (block_end n (length m) at) (length m) e in
          rw (eq-eqb (block_end n (length m) at) (length m) (omega arith))

  -- a message that is one Data
  one_block :
      is_first (length m) 0 ≡ false
      → Finishes 0 (length (block n m 0)) ≡ cond (ltb (block_end n (length m) 0) (length m)) (Holds (length m) 0 (block_end n (length m) 0)) (Finishes 0 (length m))
  one_block f =
      let whole : length m ≤ WHOLE_MAX = ⊎_elim (λ (l : WHOLE_MAX < length m). absurd (true_not_false (sym (long_first (length m) l) ∙ f))) (λ (l : length m ≤ WHOLE_MAX). l) (lt_or_le WHOLE_MAX (length m)) in
      let e = whole_end n (length m) whole in
      let l : length (block n m 0) ≡ length m = omega (arith, length_block n m 0, end_is n (length m) 0) in
      rw (l, e, le-ltb (length m) (length m) (omega arith))

  took_at :
      (at : ℕ) (s : Stage) → StageAt at s → at ≤ length m → (t : Bool) → is_first (length m) at ≡ t
      → took s (cond t (First (length m)) More) (length (block n m at)) ≡ cond (ltb (block_end n (length m) at) (length m)) (Holds (length m) at (block_end n (length m) at)) (Finishes at (length m))
  unfolding took took_first
  took_at at Idle e h true f = rw (le-ltb MESSAGE_MAX (length m) short_enough, ← e) (added_at at h)
  took_at at Idle e h false f = rw e (one_block (rw e at f))
  took_at at (Joining wanted held) e h true f = absurd (true_not_false (sym f ∙ later_data (length m) at e.0))
  took_at at (Joining wanted held) e h false f = rw (e.1.0, e.1.1) (added_at at h)
  took_at at Spoiled e h t f = absurd e

  block_take : (at : ℕ) → take at m ++ block n m at ≡ take (at + block_len n (length m) at) m
  unfolding block
  block_take at = sym (take-add at (block_len n (length m) at) m)

  -- the bytes that are there once the block has landed
  front_at :
      (at : ℕ) (part : List ℕ) → length part ≡ PART → at ≤ length m → take at part ≡ take at m
      → take (block_end n (length m) at) (laid part at (block n m at)) ≡ take (block_end n (length m) at) m
  front_at at part long h same =
      let l = length_block n m at in
      let e = end_is n (length m) at in
      let w = end_within n (length m) at h in
      let fits : at + length (block n m at) ≤ length part = omega (arith, message_part) in
      let n_front : length (take at part ++ block n m at) ≡ block_end n (length m) at = simp (length-append, length-take-le at part (omega (arith, message_part))) (omega arith) in
      rw (laid_eq part at (block n m at) fits, ← append_assoc)
      (take_at (take at part ++ block n m at) _ (block_end n (length m) at) n_front ∙ rw (same, e) (block_take at))

  -- what is told, and the channel then
  abbrev told_once : ℕ → Bool → Told
  told_once next true = record { answer = Held n (length m - next); reply = []; message = [] }
  told_once next false = record { answer = Message n (length m); reply = []; message = m ∷ [] }

  told_so : (c : Cut) (t : Bool) → ltb c.next (length m) ≡ t → told_for n m c ≡ told_once c.next t
  unfolding told_for
  told_so c true e = rw e
  told_so c false e = rw e

  abbrev stage_then : ℕ → Bool → Stage
  stage_then next true = Joining (length m) next
  stage_then next false = Idle

  landed_at :
      (at : ℕ) (r : Record) (part : List ℕ) → length part ≡ PART → at ≤ length m → take at part ≡ take at m → (t : Bool)
      → ltb (block_end n (length m) at) (length m) ≡ t
      → (told_by (landed n r part (block n m at) (cond t (Holds (length m) at (block_end n (length m) at)) (Finishes at (length m)))) ≡ told_once (block_end n (length m) at) t) × ((landed n r part (block n m at) (cond t (Holds (length m) at (block_end n (length m) at)) (Finishes at (length m)))).view ≡ Open (rebuilt r (stage_then (block_end n (length m) at) t) (not t)) (laid part at (block n m at)))
  unfolding landed stage_after part_after answer_to first_of
  landed_at at r part long h same true e = (refl, refl)
  landed_at at r part long h same false e =
      let w = end_within n (length m) at h in
      let q : block_end n (length m) at ≡ length m = omega (arith, ltb-false (block_end n (length m) at) (length m) e) in
      let bytes : take (length m) (laid part at (block n m at)) ≡ m = rw (q, take-length m) at (front_at at part long h same) in
      (ap (λ (b : List ℕ). record { answer = Message n (length m); reply = []; message = b ∷ [] }) bytes, refl)

  -- ---- call after call

  module _ {E F O : Type 0} {event : List ℕ → E} {next : F → View → E → View} {out : F → View → E → O} {tell : Told → O}
      {Ok : Record → Type 0} (takes : Takes n m event next out tell Ok) where
    -- one block: what is told, and the channel then
    one_step :
        (at : ℕ) (r : Record) (part : List ℕ) → length part ≡ PART → at ≤ length m → take at part ≡ take at m → StageAt at r.stage → Ok r
        → (f : F) (e : E) → e ≡ event (cut_pdu n m at) → (t : Bool) → ltb (block_end n (length m) at) (length m) ≡ t
        → (out f (Open r part) e ≡ tell (told_once (block_end n (length m) at) t))
        × (next f (Open r part) e ≡ Open (rebuilt r (stage_then (block_end n (length m) at) t) (not t)) (laid part at (block n m at)))
    one_step at r part long h same stands ok f e q t d =
        let lands = took_at at r.stage stands h (is_first (length m) at) refl
        ∙ ap (λ (b : Bool). cond b (Holds (length m) at (block_end n (length m) at)) (Finishes at (length m))) d in
        let l = landed_at at r part long h same t d in
        rw q (
          takes.tells f at r part ok ∙ ap (λ (k : Took). tell (told_by (landed n r part (block n m at) k))) lands ∙ ap tell l.0,
          takes.moves f at r part ok ∙ ap (λ (k : Took). (landed n r part (block n m at) k).view) lands ∙ l.1,
        )

    -- what is shown of the calls from an offset on
    pub record Followed (cs : List Cut) (r : Record) (outs : List O) (w : View) : Type 0 where
      pub is_told : outs ≡ map (λ (c : Cut). tell (told_for n m c)) cs
      pub part : List ℕ
      pub idle : w ≡ Open (rebuilt r Idle true) part

    abbrev pub Rest : ℕ → List Cut → List (Input E F) → Type 0
    Rest at cs is =
        (r : Record) (part : List ℕ) → length part ≡ PART → take at part ≡ take at m → StageAt at r.stage → Ok r
        → Followed cs r (alone_outs next out (Open r part) is) (alone_final next (Open r part) is)

    -- the last call
    last_turn :
        (at : ℕ) (c : Cut) → at ≤ length m → c.next ≡ block_end n (length m) at → length m ≤ c.next → (i : Input E F)
        → i.event ≡ event (cut_pdu n m at) → Rest at (c ∷ []) (i ∷ [])
    last_turn at c h next_is end i head r part long same stands ok =
        let d : ltb (block_end n (length m) at) (length m) ≡ false = le-ltb (block_end n (length m) at) (length m) (omega arith) in
        let e : ltb c.next (length m) ≡ false = le-ltb c.next (length m) end in
        let s = one_step at r part long h same stands ok i.flag i.event head false d in
        record { is_told = rw (s.0, told_so c false e); part = laid part at (block n m at); idle = s.1 }

    -- a call, and the calls behind it
    turn :
        (at : ℕ) (c : Cut) (cs : List Cut) → at ≤ length m → c.next ≡ block_end n (length m) at → c.next < length m
        → (i : Input E F) (is : List (Input E F)) → i.event ≡ event (cut_pdu n m at) → Rest c.next cs is
        → Rest at (c ∷ cs) (i ∷ is)
    turn at c cs h next_is below i is head later r part long same stands ok =
        let d : ltb (block_end n (length m) at) (length m) ≡ true = lt-ltb (block_end n (length m) at) (length m) (omega arith) in
        let e : ltb c.next (length m) ≡ true = lt-ltb c.next (length m) below in
        let s = one_step at r part long h same stands ok i.flag i.event head true d in
        let joining = Joining (length m) (block_end n (length m) at) in
        let onward = end_from_law n (length m) at in
        let beyond : 0 < c.next = omega (arith, end_after_law n (length m) at (omega arith)) in
        let then_stands : StageAt c.next joining = (beyond, (refl, sym next_is)) in
        let same_front : take c.next (laid part at (block n m at)) ≡ take c.next m = rw next_is (front_at at part long h same) in
        let long_then = length_laid part at (block n m at) ∙ long in
        let f = later (rebuilt r joining false) (laid part at (block n m at)) long_then same_front then_stands (takes.kept r joining false ok) in
        record {
          is_told = rw (s.0, s.1, told_so c true e, next_is) (ap (λ (l : List O). tell (told_once (block_end n (length m) at) true) ∷ l) f.is_told);
          part = f.part;
          idle = rw s.1 f.idle;
        }

    module _ (lent : ℕ → List ℕ) where
      pub follow :
          (at : ℕ) (cs : List Cut) → Cuts (λ o. cut_at n m o (lent o)) (λ o. cut_buffer n m o (lent o)) (length m) at cs
          → (is : List (Input E F)) → events_in is ≡ map (λ (c : Cut). event c.pdu) cs → Rest at cs is
      follow at cs (last_one len next-at e end) [] q = let z : ◌≡◌ {A = ℕ} 0 1 = cc in absurd (omega arith)
      follow at cs (last_one len next-at e end) (i ∷ j ∷ is) q = let z : ◌≡◌ {A = ℕ} 0 1 = cc in absurd (omega arith)
      follow at cs (last_one len next-at e end) (i ∷ []) q =
          let g = given n m at (lent at) len next-at e in
          let head : i.event ≡ event (take len (cut_buffer n m at (lent at))) = cc in
          last_turn at (cut_of (cut_buffer n m at (lent at)) len next-at) (start_within n (length m) at g.start) g.ends end i (head ∙ ap event g.stands)
      follow at cs (one_more len next-at rest e below k) [] q = let z : ◌≡◌ {A = ℕ} 0 1 = cc in absurd (omega arith)
      follow at cs (one_more len next-at rest e below k) (i ∷ is) q =
          let g = given n m at (lent at) len next-at e in
          let head : i.event ≡ event (take len (cut_buffer n m at (lent at))) = cc in
          let tail : events_in is ≡ map (λ (c : Cut). event c.pdu) rest = cc in
          turn at (cut_of (cut_buffer n m at (lent at)) len next-at) rest (start_within n (length m) at g.start) g.ends below i is (head ∙ ap event g.stands)
          (follow next-at rest k is tail)

-- ---- the theorem

-- a call that isn't refused has a message of its size
pub short_enough_for : (n : ℕ) (m : List ℕ) (lent : ℕ → List ℕ) (cs : List Cut) → CutByUs n m lent cs → length m ≤ MESSAGE_MAX
short_enough_for n m lent cs (last_one len next e end) = (given n m 0 (lent 0) len next e).short_enough
short_enough_for n m lent cs (one_more len next rest e below k) = (given n m 0 (lent 0) len next e).short_enough

-- the client's machine takes them
takes_blocks : (n : ℕ) (m : List ℕ) → n < NUMBERS → length m ≤ MESSAGE_MAX → Takes n m event_of_pdu next_in told_in (λ t. t) (λ r. Unit {0})
unfolding act
takes_blocks n m small short = record {
  kept = λ r s handed ok. tt;
  moves = λ f at r part ok. ap (next_in f (Open r part)) (block_event n m small short at);
  tells = λ f at r part ok. ap (told_in f (Open r part)) (block_event n m small short at);
}

pub cut_and_joined :
    (n : ℕ) (m : List ℕ) (lent : ℕ → List ℕ) (cs : List Cut) → n < NUMBERS → CutByUs n m lent cs
    → (st : State) → Steady st
    → (r : Record) (part : List ℕ) → view n st ≡ Open r part → r.stage ≡ Idle
    → (xs : List Call) → own_events n xs ≡ cut_events cs
    → HandedUpOnce n m cs r st xs
unfolding told_to ends own_events
cut_and_joined n m lent cs small by st g r part v idle xs e =
    let is = seen after (is_event_of n) (with_flag read_call around) st xs in
    let short = short_enough_for n m lent cs by in
    let long : length part ≡ PART = kept_long n st g r part v in
    let stands : StageAt n m short 0 r.stage = rw idle refl in
    let events : events_in is ≡ cut_events cs = inputs_events read_call after around (is_event_of n) st xs ∙ e in
    let f = follow n m short (takes_blocks n m small short) lent 0 cs by is events r part long refl stands tt in
    record {
      is_told = trace_outs (framed_steady n) st xs g ∙ ap (λ (w : View). alone_outs next_in told_in w is) v ∙ f.is_told;
      part = f.part;
      idle_again = trace_final (framed_steady n) st xs g ∙ ap (λ (w : View). alone_final next_in w is) v ∙ f.idle;
    }

-- ---- none is refused

-- calls from an offset on
record CallsFrom (n : ℕ) (m : List ℕ) (lent : ℕ → List ℕ) (at : ℕ) : Type 0 where
  pub cuts : List Cut
  pub are_cut : Cuts (λ o. cut_at n m o (lent o)) (λ o. cut_buffer n m o (lent o)) (length m) at cuts

module _ (n : ℕ) (m : List ℕ) (short : length m ≤ MESSAGE_MAX) (lent : ℕ → List ℕ) (room : (at : ℕ) → PDU_MAX ≤ length (lent at)) where
  go : (more at : ℕ) → length m < at + more → is_start n (length m) at ≡ true → CallsFrom n m lent at
  go zero at fuel s = let w = start_within n (length m) at s in absurd (omega arith)
  go (suc more) at fuel s = by (ltb (block_end n (length m) at) (length m)) refl (λ f t. go more (block_end n (length m) at) f t)
    where
      called : cut_at n m at (lent at) ≡ Ok (piece_of (length (cut_pdu n m at)) (block_end n (length m) at))
      called = sym (at_start_law n m at (lent at) (room at) short s).0

      by :
          (t : Bool) → ltb (block_end n (length m) at) (length m) ≡ t
          → (length m < block_end n (length m) at + more → is_start n (length m) (block_end n (length m) at) ≡ true → CallsFrom n m lent (block_end n (length m) at))
          → CallsFrom n m lent at
      by true e later =
          let below = ltb-true (block_end n (length m) at) (length m) e in
          let onward = end_from_law n (length m) at in
          let beyond = end_after_law n (length m) at (omega arith) in
          let r = later (omega arith) (start_next n (length m) at s below) in
          record { cuts = _; are_cut = one_more (length (cut_pdu n m at)) (block_end n (length m) at) r.cuts called below r.are_cut }
      by false e later =
          record { cuts = _; are_cut = last_one (length (cut_pdu n m at)) (block_end n (length m) at) called (ltb-false (block_end n (length m) at) (length m) e) }

  pub none_refused : NoneRefused (CutByUs n m lent)
  none_refused = let r = go (suc (length m)) 0 (omega arith) (start_zero n (length m)) in record { cuts = r.cuts; are_cut = r.are_cut }

-- ---- the same of `dvc_cut`: its number says what `cut` answers

module _ {one two : ℕ → Result Piece Refusal} (same : (at : ℕ) → one at ≡ two at) (buffer : ℕ → List ℕ) (total : ℕ) where
  same_calls : (at : ℕ) (cs : List Cut) → Cuts one buffer total at cs → Cuts two buffer total at cs
  same_calls at cs (last_one len next e end) = last_one len next (sym (same at) ∙ e) end
  same_calls at cs (one_more len next rest e below k) = one_more len next rest (sym (same at) ∙ e) below (same_calls next rest k)

pub from_c : (n : ℕ) (m : List ℕ) (lent : ℕ → List ℕ) (cs : List Cut) → CutFromC n m lent cs → CutByUs n m lent cs
from_c n m lent cs k = same_calls (λ at. unpacked_cut n m at (lent at)) (λ at. cut_buffer n m at (lent at)) (length m) 0 cs k

pub none_refused_from_c :
    (n : ℕ) (m : List ℕ) → length m ≤ MESSAGE_MAX → (lent : ℕ → List ℕ) → ((at : ℕ) → PDU_MAX ≤ length (lent at))
    → NoneRefused (CutFromC n m lent)
none_refused_from_c n m short lent room =
    let r = none_refused n m short lent room in
    record { cuts = r.cuts; are_cut = same_calls (λ at. sym (unpacked_cut n m at (lent at))) (λ at. cut_buffer n m at (lent at)) (length m) 0 r.cuts r.are_cut }
