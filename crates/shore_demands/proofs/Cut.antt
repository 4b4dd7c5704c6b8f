-- "A message of up to 4,096 bytes, cut by us and received on an open, idle channel, is handed up once, with the same bytes", at the shore:
-- an open number takes cut blocks as the client's channel does, so the client's induction on the calls of `cut` serves.
-- Assumes nothing.
use mathlib.Core.Path.{◌≡◌, refl, ap, ◌∙◌}
use mathlib.Core.Bool.{Bool, true, false, cond}
use mathlib.Core.List.{List, [], ◌∷◌, map}
use Prim.Native.Nat.{ℕ, ◌≤◌, ◌<◌}
use lib.Dec.{ltb}
use lib.ListN.{length}
use Rattle.paper.specs.Sizes.{PART, MESSAGE_MAX}
use Rattle.lists.proofs.Cases.{each}
use Rattle.numbers.specs.Numbers.{NUMBERS}
use Rattle.reading.specs.Reading.{read_pdu}
use Rattle.reading.specs.Grammar.{data_first_law, data_block}
use Rattle.channel.specs.declared.Record.{Record}
use Rattle.channel.specs.declared.Stage.TheVariants.{Idle}
use Rattle.channel.specs.declared.Offer.TheVariants.{First, More}
use Rattle.channel.specs.Channel.{Bring, View, Open, act}
use Rattle.connection.specs.States.{view, Steady}
use Rattle.connection.proofs.Frame.{kept_long}
use Rattle.cutting.specs.Cutting.{is_first, block, cut_pdu}
use Rattle.cutting.proofs.Blocks.{cut_fits}
use Rattle.shore.specs.Saying.{said_as}
use Rattle.shore.specs.Rules.{Acts, common, deed}
use Rattle.shore.specs.Events.{Event, Of, event_of}
use Rattle.shore.specs.Shore.{Standing, state_in}
use Rattle.demands.specs.Trace.{seen_at}
use Rattle.demands.specs.Cut.{Cut, CutByUs}
use Rattle.demands.specs.Cut as cut
use Rattle.demands.specs.Runs as runs
use Rattle.demands.proofs.Traces.{events_in, with_flag, inputs_read, alone_outs, alone_final, trace_outs, trace_final}
use Rattle.demands.proofs.Machine as machine
use Rattle.demands.proofs.Cut.{block_encoded, Takes, landing, StageAt, follow, short_enough_for}
use Rattle.shore_demands.specs.Runs.{Call, after, Told, told_to, ends, is_event_of, own_events}
use Rattle.shore_demands.specs.Cut.{cut_events, told_for, HandedUpOnce}
use Rattle.shore_demands.proofs.Machine.{up_said, same_told, Around, around, next_in, told_in, read_call, framed_steady}
use Rattle.shore_demands.proofs.Values.{event_of_value, encoded_event}

-- a PDU's event
abbrev event_of_pdu : List ℕ → Event
event_of_pdu pdu = event_of pdu (read_pdu false pdu)

-- what a cut PDU asks
abbrev asks : ℕ → List ℕ → ℕ → Event
asks n m at = Of n (Acts (Bring (cond (is_first (length m) at) (First (length m)) More) (block n m at)))

-- as it is read at this end
block_event : (n : ℕ) (m : List ℕ) → n < NUMBERS → length m ≤ MESSAGE_MAX → (at : ℕ) → event_of_pdu (cut_pdu n m at) ≡ asks n m at
block_event n m small short at =
    encoded_event _ (cut_pdu n m at) (block_encoded n m small short false at (is_first (length m) at) refl) (cut_fits n m at) ∙ go (is_first (length m) at)
  where
    go :
        (t : Bool)
        → event_of_value (cond t (data_first_law n (length m) (block n m at)) (data_block n (block n m at)))
        ≡ Of n (Acts (Bring (cond t (First (length m)) More) (block n m at)))
    go true = refl
    go false = refl

-- data on a number that isn't awaited is the client's
open_moves :
    (n : ℕ) (m : List ℕ) (f : Around) (at : ℕ) (r : Record) (part : List ℕ) → r.awaited ≡ false
    → next_in n f (Open r part) (asks n m at) ≡ (landing n m at r part).view
unfolding deed common act
open_moves n m f at r part ok = rw ok

-- what the client's host is told for data, told at this end
abbrev retold_data : runs.Told → Told
retold_data t = record { said = said_as t.answer; sent = []; message = t.message }

-- and is told so
open_tells :
    (n : ℕ) (m : List ℕ) (f : Around) (at : ℕ) (r : Record) (part : List ℕ) → r.awaited ≡ false
    → told_in n f (Open r part) (asks n m at) ≡ retold_data (machine.told_by (landing n m at r part))
unfolding deed common act
open_tells n m f at r part ok = rw ok (same_told refl refl (up_said _ _))

-- so an open number takes cut blocks as the client's channel does
takes_blocks :
    (n : ℕ) (m : List ℕ) → n < NUMBERS → length m ≤ MESSAGE_MAX
    → Takes n m event_of_pdu (next_in n) (told_in n) retold_data (λ (r : Record). r.awaited ≡ false)
takes_blocks n m small short = record {
  kept = λ r s handed ok. ok;
  moves = λ f at r part ok. ap (next_in n f (Open r part)) (block_event n m small short at) ∙ open_moves n m f at r part ok;
  tells = λ f at r part ok. ap (told_in n f (Open r part)) (block_event n m small short at) ∙ open_tells n m f at r part ok;
}

-- what is told for each is told at this end
told_so : (n : ℕ) (m : List ℕ) (cs : List Cut) → map (λ (c : Cut). retold_data (cut.told_for n m c)) cs ≡ map (told_for n m) cs
unfolding told_for cut.told_for said_as
told_so n m [] = refl
told_so n m (c ∷ cs) = rw (each retold_data (λ (t : Told). t) (ltb c.next (length m)) refl refl, told_so n m cs)

-- the theorem
pub cut_and_joined :
    (n : ℕ) (m : List ℕ) (lent : ℕ → List ℕ) (cs : List Cut) → n < NUMBERS → CutByUs n m lent cs
    → (st : Standing) → Steady (state_in st)
    → (r : Record) (bytes : List ℕ) → view n (state_in st) ≡ Open r bytes → r.awaited ≡ false → r.stage ≡ Idle
    → (xs : List Call) → own_events n st xs ≡ cut_events cs
    → HandedUpOnce n m cs r st xs
unfolding told_to ends own_events
cut_and_joined n m lent cs small by st g r bytes v ok idle xs e =
    let is = seen_at after (is_event_of n) (with_flag read_call (λ (s : Standing) (c : Call). around s)) st xs in
    let short = short_enough_for n m lent cs by in
    let long : length bytes ≡ PART = kept_long n (state_in st) g r bytes v in
    let stands : StageAt n m short 0 r.stage = rw idle refl in
    let events : events_in is ≡ cut_events cs = inputs_read read_call after (λ (s : Standing) (c : Call). around s) (is_event_of n) st xs ∙ e in
    let f = follow n m short (takes_blocks n m small short) lent 0 cs by is events r bytes long refl stands ok in
    record {
      is_told = trace_outs (framed_steady n) st xs g ∙ ap (λ (w : View). alone_outs (next_in n) (told_in n) w is) v ∙ f.is_told ∙ told_so n m cs;
      part = f.part;
      idle_again = trace_final (framed_steady n) st xs g ∙ ap (λ (w : View). alone_final (next_in n) w is) v ∙ f.idle;
    }
