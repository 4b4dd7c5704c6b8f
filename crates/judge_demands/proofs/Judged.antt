-- PDUs received one by one on a channel that is open: the judge's course ends as they do.
-- Assumes nothing.
use Prim.Native.Nat.{ℕ, suc, ◌+◌, ◌%◌, ◌≤◌}
use mathlib.Core.Path.{◌≡◌, refl, sym, ap, ◌∙◌}
use mathlib.Core.Bool.{Bool, true, false, cond}
use mathlib.Core.List.{List, [], ◌∷◌}
use native.Mathlib.Omega.{arith}
use borrow.Author.Tests.{eq-eqb}
use lib.ListN.{length}
use Rattle.paper.specs.Sizes.{MESSAGE_MAX}
use Rattle.lists.proofs.Cases.{true_not_false, and_false}
use Rattle.listeners.specs.Listeners.{same_bytes}
use Rattle.channel.specs.declared.Stage.{Stage}
use Rattle.channel.specs.declared.Answer.{Answer}
use Rattle.channel.specs.declared.Answer.TheVariants.{Held, Message}
use Rattle.connection.specs.States.{State}
use Rattle.demands.specs.Runs.{Call, after, told}
use Rattle.records.specs.Records.{PLACES}
use Rattle.judge.specs.declared.Reason.{Reason}
use Rattle.judge.specs.declared.Reason.TheVariants.{Reading, Kind, OtherChannel, Steps, Before}
use Rattle.judge.specs.declared.Course.{Course}
use Rattle.judge.specs.declared.Course.TheVariants.{Going, Handed, Faulty}
use Rattle.judge.specs.declared.Judgement.{Judgement}
use Rattle.judge.specs.declared.Judgement.TheVariants.{Yes, No, Early, Differs}
use Rattle.records.specs.Items.{after_items}
use Rattle.judge.specs.Judge.{course_after, course_over, judgement_on}
use Rattle.judge_demands.specs.Received.{Receives, no_call, one_call, HandsUp, at_last, held_first, AllHeld, no_more, held_too}
use Rattle.judge_demands.specs.Received.{is_message, holds, FIVE, earlier, NoneOf, FirstFault, here, later}
use Rattle.judge_demands.proofs.Steps.{speaks, Stands, Until, Met, faults, goes_on_law, hands, met}

-- ---- reasons

-- the first of the five that holds
abbrev first : (Reason → Bool) → Reason
first h = cond (h Reading) Reading (cond (h Kind) Kind (cond (h OtherChannel) OtherChannel (cond (h Steps) Steps Before)))

first_is : (h : Reason → Bool) (why : Reason) → h why ≡ true → NoneOf h (earlier why) → first h ≡ why
first_is h Reading e none = rw e
first_is h Kind e none = rw (none.0, e)
first_is h OtherChannel e none = rw (none.0, none.1.0, e)
first_is h Steps e none = rw (none.0, none.1.0, none.1.1.0, e)
first_is h Before e none = rw (none.0, none.1.0, none.1.1.0, none.1.1.1.0)

-- none of the five
none_is : (h : Reason → Bool) → NoneOf h FIVE → (why : Reason) → h why ≡ false
none_is h none Reading = none.0
none_is h none Kind = none.1.0
none_is h none OtherChannel = none.1.1.0
none_is h none Steps = none.1.1.1.0
none_is h none Before = none.1.1.1.1.0

-- the first four, and the last
five : (h : Reason → Bool) → NoneOf h (earlier Before) → h Before ≡ false → NoneOf h FIVE
five h none e = (none.0, (none.1.0, (none.1.1.0, (none.1.1.1.0, (e, tt)))))

-- ---- what is said of a list

-- one of the three happens
pub data Which (n : ℕ) (st : State) (cs : List Call) (pdus : List (List ℕ)) : Type 0 where
  up : (got : List ℕ) → length got ≤ MESSAGE_MAX → HandsUp n got st cs → Which n st cs pdus
  held : AllHeld n st cs → Which n st cs pdus
  fault : (k : ℕ) (why : Reason) → FirstFault n st cs pdus k why → Which n st cs pdus

-- and each of them has its judgement, where the first PDU of the list is that at a place
pub record Verdict (n : ℕ) (m : List ℕ) (at : ℕ) (st : State) (cs : List Call) (pdus : List (List ℕ)) (j : Judgement) : Type 0 where
  pub which : Which n st cs pdus
  pub up_says : (got : List ℕ) → HandsUp n got st cs → j ≡ cond (same_bytes m got) Yes Differs
  pub held_says : AllHeld n st cs → j ≡ Early
  pub fault_says : (k : ℕ) (why : Reason) → FirstFault n st cs pdus k why → j ≡ No ((at + k) % PLACES) why

-- held and handed up are told apart
held_not_message : (n left len : ℕ) (a : Answer) → a ≡ Held n left → a ≡ Message n len → ⊥
unfolding is_message
held_not_message n left len a p q = true_not_false (sym (ap is_message q) ∙ ap is_message p)

module _ (n : ℕ) (st : State) (c : Call) where
  -- held or handed up, the first PDU is answered for the channel
  up_speaks : (got : List ℕ) (cs : List Call) → HandsUp n got st (c ∷ cs) → speaks n (told st c).answer ≡ true
  up_speaks got cs (at_last st1 c1 e b) = rw e (eq-eqb n n refl)
  up_speaks got cs (held_first st1 c1 cs1 left e u) = rw e (eq-eqb n n refl)

  held_speaks : (cs : List Call) → AllHeld n st (c ∷ cs) → speaks n (told st c).answer ≡ true
  held_speaks cs (held_too st1 c1 cs1 left e a) = rw e (eq-eqb n n refl)

  -- behind a PDU that is held
  up_behind : (got : List ℕ) (cs : List Call) (left : ℕ) → (told st c).answer ≡ Held n left → HandsUp n got st (c ∷ cs) → HandsUp n got (after st c) cs
  up_behind got cs left e (at_last st1 c1 e1 b) = absurd (held_not_message n left (length got) _ e e1)
  up_behind got cs left e (held_first st1 c1 cs1 left1 e1 u) = u

  module _ (len : ℕ) (e : (told st c).answer ≡ Message n len) where
    -- where a message is handed up it is that one, and the last, and not held
    up_here : (got : List ℕ) (cs : List Call) → HandsUp n got st (c ∷ cs) → (told st c).message ≡ got ∷ []
    up_here got cs (at_last st1 c1 e1 b) = b
    up_here got cs (held_first st1 c1 cs1 left e1 u) = absurd (held_not_message n left len _ e1 e)

    up_last : (got : List ℕ) (d : Call) (cs : List Call) → HandsUp n got st (c ∷ d ∷ cs) → ⊥
    up_last got d cs (held_first st1 c1 cs1 left e1 u) = held_not_message n left len _ e1 e

    up_not_held : (cs : List Call) → AllHeld n st (c ∷ cs) → ⊥
    up_not_held cs (held_too st1 c1 cs1 left e1 a) = held_not_message n left len _ e1 e

-- a fault stays
faulty : (n : ℕ) (m : List ℕ) (place : ℕ) (why : Reason) (pdus : List (List ℕ)) → course_over n m (Faulty place why) pdus ≡ Faulty place why
unfolding after_items course_after
faulty n m place why [] = refl
faulty n m place why (pdu ∷ pdus) = faulty n m place why pdus

-- places are counted in 64 bits
next_place_law : (at : ℕ) → (at % PLACES + 1) % PLACES ≡ (at + 1) % PLACES
next_place_law at = omega arith

module _ (n : ℕ) (m : List ℕ) (at : ℕ) (st : State) (c : Call) (cs : List Call) (pdu : List ℕ) (pdus : List (List ℕ)) where
  abbrev here_holds : Reason → Bool
  here_holds = holds n pdu pdus (told st c).answer

  -- a reason at the first PDU
  stops :
      (why : Reason) → here_holds why ≡ true → NoneOf here_holds (earlier why)
      → ((got : List ℕ) → HandsUp n got st (c ∷ cs) → ⊥) → (AllHeld n st (c ∷ cs) → ⊥)
      → (j : Judgement) → j ≡ No (at % PLACES) why → Verdict n m at st (c ∷ cs) (pdu ∷ pdus) j
  stops why e none no_up no-held j q = record {
    which = fault 0 why (here st c cs pdu pdus why e none);
    up_says = λ got u. absurd (no_up got u);
    held_says = λ a. absurd (no-held a);
    fault_says = λ k w f. q ∙ named k w f;
  }
    where
      named : (k : ℕ) (w : Reason) → FirstFault n st (c ∷ cs) (pdu ∷ pdus) k w → No (at % PLACES) why ≡ No ((at + k) % PLACES) w
      named k w (here st1 c1 cs1 pdu1 pdus1 w1 e1 none1) =
          let place : at ≡ at + 0 = omega arith in
          ap (λ (x : ℕ). No (x % PLACES) why) place ∙ ap (No ((at + 0) % PLACES)) (sym (first_is here_holds why e none) ∙ first_is here_holds w e1 none1)
      named k w (later st1 c1 cs1 pdu1 pdus1 k1 w1 none1 f) = absurd (true_not_false (sym e ∙ none_is here_holds none1 why))

  -- held at the first PDU
  goes_by :
      (left : ℕ) → (told st c).answer ≡ Held n left → NoneOf here_holds FIVE
      → (j : Judgement) → Verdict n m (at + 1) (after st c) cs pdus j → Verdict n m at st (c ∷ cs) (pdu ∷ pdus) j
  goes_by left e none j v = record {
    which = wrapped v.which;
    up_says = λ got u. v.up_says got (up_behind n st c got cs left e u);
    held_says = helds;
    fault_says = named;
  }
    where
      wrapped : Which n (after st c) cs pdus → Which n st (c ∷ cs) (pdu ∷ pdus)
      wrapped (up got short u) = up got short (held_first st c cs left e u)
      wrapped (held a) = held (held_too st c cs left e a)
      wrapped (fault k why f) = fault (suc k) why (later st c cs pdu pdus k why none f)

      helds : AllHeld n st (c ∷ cs) → j ≡ Early
      helds (held_too st1 c1 cs1 left1 e1 a) = v.held_says a

      named : (k : ℕ) (why : Reason) → FirstFault n st (c ∷ cs) (pdu ∷ pdus) k why → j ≡ No ((at + k) % PLACES) why
      named k why (here st1 c1 cs1 pdu1 pdus1 w1 e1 none1) = absurd (true_not_false (sym e1 ∙ none_is here_holds none why))
      named k why (later st1 c1 cs1 pdu1 pdus1 k1 w1 none1 f) = v.fault_says k1 why f ∙ ap (λ (x : ℕ). No (x % PLACES) why) (omega arith)

  -- a message at the only PDU
  ends_with :
      (got : List ℕ) → length got ≤ MESSAGE_MAX → (told st c).answer ≡ Message n (length got) → (told st c).message ≡ got ∷ []
      → NoneOf (holds n pdu [] (told st c).answer) FIVE
      → (j : Judgement) → j ≡ cond (same_bytes m got) Yes Differs → Verdict n m at st (c ∷ []) (pdu ∷ []) j
  ends_with got short e b none j q = record {
    which = up got short (at_last st c e b);
    up_says = λ other u. q ∙ ap (λ (x : List ℕ). cond (same_bytes m x) Yes Differs) (only (sym b ∙ up_here n st c (length got) e other [] u));
    held_says = λ a. absurd (up_not_held n st c (length got) e [] a);
    fault_says = λ k why f. absurd (no_fault k why f);
  }
    where
      only : {x y : List ℕ} → ◌≡◌ {A = List (List ℕ)} (x ∷ []) (y ∷ []) → x ≡ y
      only p = cc

      no_fault : (k : ℕ) (why : Reason) → FirstFault n st (c ∷ []) (pdu ∷ []) k why → ⊥
      no_fault k why (here st1 c1 cs1 pdu1 pdus1 w1 e1 none1) = true_not_false (sym e1 ∙ none_is (holds n pdu [] (told st c).answer) none why)
      no_fault _ why (later st1 c1 cs1 pdu1 pdus1 k1 w1 none1 f) = elim f [ ]

-- ---- call after call

abbrev judgement_from : ℕ → List ℕ → Course → List (List ℕ) → Judgement
judgement_from n m course pdus = judgement_on (course_over n m course pdus)

-- a message at the first PDU: the last, or one before it
handed :
    (n : ℕ) (m : List ℕ) (at : ℕ) (stage : Stage) (same : Bool) (st : State) (c : Call) (pdu : List ℕ) (got : List ℕ) → length got ≤ MESSAGE_MAX
    → (told st c).answer ≡ Message n (length got) → (told st c).message ≡ got ∷ [] → Until n m (at % PLACES) stage same st c pdu Before
    → (cs : List Call) (pdus : List (List ℕ)) → Receives cs pdus
    → Verdict n m at st (c ∷ cs) (pdu ∷ pdus) (judgement_from n m (Handed (at % PLACES) (same_bytes m got)) pdus)
unfolding after_items course_after judgement_on holds is_message
handed n m at stage same st c pdu got short e b fair cs pdus no_call =
    ends_with n m at st c [] pdu [] got short e b (five (holds n pdu [] (told st c).answer) (fair []) (and_false (is_message (told st c).answer))) _ refl
handed n m at stage same st c pdu got short e b fair cs pdus (one_call d list next ds nexts asks rest) =
    stops n m at st c (d ∷ ds) pdu (next ∷ nexts) Before (rw e) (fair (next ∷ nexts)) (λ other u. up_last n st c (length got) e other d ds u)
    (λ a. up_not_held n st c (length got) e (d ∷ ds) a) _ (ap judgement_on (faulty n m (at % PLACES) Before nexts))

-- one PDU, and those behind it
one_on :
    (n : ℕ) (m : List ℕ) (at : ℕ) (stage : Stage) (same : Bool) (st : State) (c : Call) (pdu : List ℕ) (cs : List Call)
    (pdus : List (List ℕ)) → Receives cs pdus
    → ((next : Stage) (still : Bool) → Stands n m next still (after st c)
    → Verdict n m (at + 1) (after st c) cs pdus (judgement_from n m (Going ((at + 1) % PLACES) next still) pdus))
    → Met n m (at % PLACES) stage same st c pdu
    → Verdict n m at st (c ∷ cs) (pdu ∷ pdus) (judgement_from n m (course_after n m (Going (at % PLACES) stage same) pdu) pdus)
unfolding holds is_message judgement_on
one_on n m at stage same st c pdu cs pdus r behind (faults why q e none silent) =
    stops n m at st c cs pdu pdus why (e pdus) (none pdus) (λ got u. true_not_false (sym (up_speaks n st c got cs u) ∙ silent))
    (λ a. true_not_false (sym (held_speaks n st c cs a) ∙ silent)) _ (rw q (ap judgement_on (faulty n m (at % PLACES) why pdus)))
one_on n m at stage same st c pdu cs pdus r behind (goes_on_law left next still q e fair s) =
    rw (q, next_place_law at) (goes_by n m at st c cs pdu pdus left e (five (holds n pdu pdus (told st c).answer) (fair pdus) (rw e)) _ (behind next still s))
one_on n m at stage same st c pdu cs pdus r behind (hands got q e b fair short) = rw q (handed n m at stage same st c pdu got short e b fair cs pdus r)

pub verdict :
    (n : ℕ) (m : List ℕ) (at : ℕ) (stage : Stage) (same : Bool) (st : State) → Stands n m stage same st
    → (cs : List Call) (pdus : List (List ℕ)) → Receives cs pdus → Verdict n m at st cs pdus (judgement_from n m (Going (at % PLACES) stage same) pdus)
unfolding after_items judgement_on
verdict n m at stage same st s cs pdus no_call = record {
  which = held (no_more st);
  up_says = λ got u. absurd (no_up got u);
  held_says = λ a. refl;
  fault_says = λ k why f. absurd (no_fault k why f);
}
  where
    no_up : (got : List ℕ) → HandsUp n got st [] → ⊥
    no_up got = elim [ ]

    no_fault : (k : ℕ) (why : Reason) → FirstFault n st [] [] k why → ⊥
    no_fault k why = elim [ ]
verdict n m at stage same st s cs pdus (one_call c list pdu cs1 pdus1 asks rest) =
    one_on n m at stage same st c pdu cs1 pdus1 rest (λ next still t. verdict n m (at + 1) next still (after st c) t cs1 pdus1 rest)
    (met n m (at % PLACES) stage same st c pdu s list asks)
