-- What is promised of the judge, over what `receive` answers.
use Rattle.std.specs.Prelude.{ℕ, ◌%◌, ◌≤◌, ◌<◌, ◌≡◌, List, [], ◌++◌, map, length}
use Rattle.paper.specs.Sizes.{MESSAGE_MAX, PDU_MAX}
use Rattle.numbers.specs.Numbers.{NUMBERS}
use Rattle.connection.specs.States.{State}
use Rattle.records.specs.Records.{PLACES}
use Rattle.demands.specs.Runs.{Call}
use Rattle.demands.specs.Cut.{Cut, CutByUs, CutFromC, NoneRefused}
use Rattle.judge.specs.declared.Reason.{Reason}
use Rattle.judge.specs.declared.Judgement.TheVariants.{Yes, No, Early, Differs}
use Rattle.judge.specs.Judge.{beginning, judged}
use Rattle.records.specs.Items.{all_of}
use Rattle.judge.specs.Sender.{head_needs, turned, sender_says, in_pieces, said_at_end}
use Rattle.judge_demands.specs.Received.{OpenAndIdle, Receives, HandsUp, AllHeld, FirstFault}

-- in every state in which the channel is open and idle, the PDUs received one by one hand up the message at the last, and
-- nothing before
abbrev pub HandsUpWherever : ℕ → List ℕ → List (List ℕ) → Type 0
HandsUpWherever n m pdus = (st : State) → OpenAndIdle n st → (cs : List Call) → Receives cs pdus → HandsUp n m st cs

-- a state in which the channel is open and idle
pub record AnIdleOne (n : ℕ) : Type 0 where
  pub state : State
  pub is_one : OpenAndIdle n state

-- calls that receive the PDUs
pub record CallsFor (pdus : List (List ℕ)) : Type 0 where
  pub calls : List Call
  pub receive_them : Receives calls pdus

-- "says yes exactly if the PDUs, received on that channel open and idle, hand up that message at the last PDU and nothing before"
pub record YesExactlyIf : Type 0 where
  pub yes_hands_up : (n : ℕ) (m : List ℕ) (pdus : List (List ℕ)) → judged n m pdus ≡ Yes → HandsUpWherever n m pdus
  pub hands_up_yes : (n : ℕ) (m : List ℕ) (pdus : List (List ℕ)) → HandsUpWherever n m pdus → judged n m pdus ≡ Yes
  -- in one such state is enough; there is one for every number, and there are calls for every list
  pub once_is_enough :
      (n : ℕ) (m : List ℕ) (pdus : List (List ℕ)) (st : State) → OpenAndIdle n st → (cs : List Call) → Receives cs pdus
      → HandsUp n m st cs → judged n m pdus ≡ Yes
  pub there_is_one : (n : ℕ) → AnIdleOne n
  pub there_are_calls : (pdus : List (List ℕ)) → CallsFor pdus
  -- a message over 4,096 bytes never gets a yes
  pub never_over_limit : (n : ℕ) (m : List ℕ) (pdus : List (List ℕ)) → MESSAGE_MAX < length m → judged n m pdus ≡ Yes → ⊥

-- a place, and which PDU's it is
pub record At (n : ℕ) (st : State) (cs : List Call) (pdus : List (List ℕ)) (place : ℕ) (why : Reason) : Type 0 where
  pub k : ℕ
  pub is_first_law : FirstFault n st cs pdus k why
  -- places are counted in 64 bits
  pub its_place : place ≡ k % PLACES

-- "A no names the first PDU that is refused in reading, isn't data, is for another channel, is refused by the steps or hands up
-- before the last, judged in that order"
pub record NoNamesTheFirst : Type 0 where
  pub names :
      (n : ℕ) (m : List ℕ) (pdus : List (List ℕ)) (place : ℕ) (why : Reason) → judged n m pdus ≡ No place why
      → (st : State) → OpenAndIdle n st → (cs : List Call) → Receives cs pdus → At n st cs pdus place why
  pub named :
      (n : ℕ) (m : List ℕ) (pdus : List (List ℕ)) (k : ℕ) (why : Reason) (st : State) → OpenAndIdle n st
      → (cs : List Call) → Receives cs pdus → FirstFault n st cs pdus k why → judged n m pdus ≡ No (k % PLACES) why

-- another message is handed up
pub record AnotherHandedUp (n : ℕ) (m : List ℕ) (st : State) (cs : List Call) : Type 0 where
  pub other : List ℕ
  pub handed : HandsUp n other st cs
  pub differs : other ≡ m → ⊥

-- "with none, that the list ended early, or else that the bytes differ"
pub record EarlyOrOtherBytes : Type 0 where
  pub early_is_held :
      (n : ℕ) (m : List ℕ) (pdus : List (List ℕ)) → judged n m pdus ≡ Early
      → (st : State) → OpenAndIdle n st → (cs : List Call) → Receives cs pdus → AllHeld n st cs
  pub held_is_early :
      (n : ℕ) (m : List ℕ) (pdus : List (List ℕ)) (st : State) → OpenAndIdle n st → (cs : List Call) → Receives cs pdus
      → AllHeld n st cs → judged n m pdus ≡ Early
  pub no_pdu_is_early : (n : ℕ) (m : List ℕ) → judged n m [] ≡ Early
  pub differs_is_another :
      (n : ℕ) (m : List ℕ) (pdus : List (List ℕ)) → judged n m pdus ≡ Differs
      → (st : State) → OpenAndIdle n st → (cs : List Call) → Receives cs pdus → AnotherHandedUp n m st cs
  pub another_differs :
      (n : ℕ) (m : List ℕ) (pdus : List (List ℕ)) (st : State) → OpenAndIdle n st → (cs : List Call) → Receives cs pdus
      → AnotherHandedUp n m st cs → judged n m pdus ≡ Differs

-- the PDUs of what is cut
abbrev pub pdus_of : List Cut → List (List ℕ)
pdus_of cs = map (λ (c : Cut). c.pdu) cs

-- "Our own cutter's list must get a yes, for every message up to 4,096 bytes."
pub record OursGetsYes : Type 0 where
  -- for every number and message there is such a list
  pub none_refused :
      (n : ℕ) (m : List ℕ) → length m ≤ MESSAGE_MAX → (lent : ℕ → List ℕ) → ((at : ℕ) → PDU_MAX ≤ length (lent at))
      → NoneRefused (CutByUs n m lent)
  -- and it gets a yes
  pub gets_yes :
      (n : ℕ) (m : List ℕ) (lent : ℕ → List ℕ) (cs : List Cut) → n < NUMBERS → CutByUs n m lent cs
      → judged n m (pdus_of cs) ≡ Yes
  -- the same of `dvc_cut`
  pub none_refused_from_c :
      (n : ℕ) (m : List ℕ) → length m ≤ MESSAGE_MAX → (lent : ℕ → List ℕ) → ((at : ℕ) → PDU_MAX ≤ length (lent at))
      → NoneRefused (CutFromC n m lent)
  pub gets_yes_from_c :
      (n : ℕ) (m : List ℕ) (lent : ℕ → List ℕ) (cs : List Cut) → n < NUMBERS → CutFromC n m lent cs
      → judged n m (pdus_of cs) ≡ Yes

-- the records come in pieces, as reads give them, and which pieces doesn't matter
pub record WhateverThePieces : Type 0 where
  -- a run stands where one turn over all of them would
  pub stands :
      (n : ℕ) (m : List ℕ) (pieces : List (List ℕ)) → in_pieces n m pieces ≡ turned n m beginning (all_of pieces)
  -- and what is said at its end is the program's line for all that was read. Number and message are read first: as many bytes as
  -- they need, or fewer where the input ends there
  pub says :
      (head : List ℕ) (pieces : List (List ℕ)) → length head ≤ head_needs head
      → (length head < head_needs head → all_of pieces ≡ []) → said_at_end head pieces ≡ sender_says (head ++ all_of pieces)
