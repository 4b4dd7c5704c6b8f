-- "Our own cutter's list must get a yes": it hands up its message where the channel is open and idle (demands/Cut), and that is judged a
-- yes.
-- Assumes nothing.
use Rattle.std.specs.Prelude.{Ok}
use Prim.Native.Nat.{ℕ, ◌≤◌, ◌<◌}
use mathlib.Core.Path.{◌≡◌, refl, ap, ◌∙◌}
use mathlib.Core.Bool.{Bool, true, false, cond}
use mathlib.Core.List.{List, [], ◌∷◌, map}
use borrow.Author.Tests.{lt-ltb, le-ltb, eq-eqb}
use lib.ListN.{length, take}
use Rattle.paper.specs.Sizes.{MESSAGE_MAX}
use Rattle.numbers.specs.Numbers.{NUMBERS}
use Rattle.reading.specs.Grammar.{data_first_law, data_block}
use Rattle.cutting.specs.Cutting.{is_first, block, cut_pdu, cut_at, cut_buffer, piece_of}
use Rattle.cutting.proofs.Answers.{given}
use Rattle.cutting.proofs.Blocks.{cut_fits}
use Rattle.connection.specs.States.{State}
use Rattle.client.specs.Events.{is_of}
use Rattle.steps.proofs.Widths.{event_of_value, encoded_event}
use Rattle.demands.specs.Runs.{Told, told_to, event_in, is_event_of, own_events}
use Rattle.demands.specs.Cut.{Cut, Cuts, last_one, one_more, CutByUs, event_of_pdu, cut_events, told_for}
use Rattle.demands.specs.Examples.{call}
use Rattle.demands.proofs.Cut.{block_encoded, cut_and_joined}
use Rattle.judge.specs.declared.Judgement.TheVariants.{Yes}
use Rattle.judge.specs.Judge.{judged}
use Rattle.judge_demands.specs.Received.{HandsUp, at_last, held_first}
use Rattle.judge_demands.specs.Sender.{pdus_of}
use Rattle.judge_demands.proofs.Verdicts.{an_idle_one, calls_of, are_received, handed_yes}

-- two lists that are the same begin so, and go on so
heads : {A : Type 0} {x y : A} {xs ys : List A} → x ∷ xs ≡ y ∷ ys → x ≡ y
heads p = cc

tails : {A : Type 0} {x y : A} {xs ys : List A} → x ∷ xs ≡ y ∷ ys → xs ≡ ys
tails p = cc

module _ (n : ℕ) (m : List ℕ) (small : n < NUMBERS) (lent : ℕ → List ℕ) where
  -- a PDU that is cut is an event of its channel
  cut_own : (at : ℕ) → length m ≤ MESSAGE_MAX → is_of n (event_of_pdu (cut_pdu n m at)) ≡ true
  unfolding event_of_pdu event_of_value
  cut_own at short =
      ap (is_of n) (encoded_event _ (cut_pdu n m at) (block_encoded n m small short true at (is_first (length m) at) refl) (cut_fits n m at) [])
      ∙ go (is_first (length m) at)
    where
      go : (t : Bool) → is_of n (event_of_value [] (cond t (data_first_law n (length m) (block n m at)) (data_block n (block n m at)))) ≡ true
      go true = eq-eqb n n refl
      go false = eq-eqb n n refl

  own : (at len next : ℕ) → cut_at n m at (lent at) ≡ Ok (piece_of len next) → is_of n (event_of_pdu (take len (cut_buffer n m at (lent at)))) ≡ true
  own at len next e = let g = given n m at (lent at) len next e in rw g.stands (cut_own at g.short_enough)

  abbrev From : ℕ → List Cut → Type 0
  From at cs = Cuts (λ o. cut_at n m o (lent o)) (λ o. cut_buffer n m o (lent o)) (length m) at cs

  all_own : (at : ℕ) (cs : List Cut) → From at cs → own_events n (calls_of (pdus_of cs)) ≡ cut_events cs
  unfolding own_events is_event_of event_in call event_of_pdu
  all_own at cs (last_one len next e end) = rw (own at len next e)
  all_own at cs (one_more len next rest e below k) = rw (own at len next e, all_own next rest k)

  -- what is told for them hands up the message
  told_up :
      (at : ℕ) (cs : List Cut) → From at cs → (st : State) → told_to n st (calls_of (pdus_of cs)) ≡ map (told_for n m) cs
      → HandsUp n m st (calls_of (pdus_of cs))
  unfolding told_to told_for is_event_of event_in call event_of_pdu
  told_up at cs (last_one len next e end) st q =
      let t = rw (own at len next e, le-ltb next (length m) end) at q in
      at_last st _ (ap (λ (x : Told). x.answer) (heads t)) (ap (λ (x : Told). x.message) (heads t))
  told_up at cs (one_more len next rest e below k) st q =
      let t = rw (own at len next e, lt-ltb next (length m) below) at q in
      held_first st _ _ _ (ap (λ (x : Told). x.answer) (heads t)) (told_up next rest k _ (tails t))

  pub gets_yes : (cs : List Cut) → CutByUs n m lent cs → judged n m (pdus_of cs) ≡ Yes
  gets_yes cs by =
      let o = an_idle_one n in
      let i = o.is_one in
      let xs = calls_of (pdus_of cs) in
      let once = cut_and_joined n m lent cs small by o.state i.steady i.row i.part i.is_open_law i.is_idle xs (all_own 0 cs by) in
      handed_yes n m (pdus_of cs) o.state i xs (are_received (pdus_of cs)) (told_up 0 cs by o.state once.is_told)
