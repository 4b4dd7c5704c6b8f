-- What supposes a connection of the shore just made ready supposes something that there is: a request of version 3, answered with 2.
-- Assumes nothing.
use mathlib.Core.Path.{◌≡◌, refl}
use mathlib.Core.Bool.{false}
use mathlib.Core.List.{List, [], ◌∷◌}
use Prim.Native.Nat.{ℕ}
use native.Mathlib.Omega.{arith}
use Rattle.paper.specs.Sizes.{PDU_MAX, STORE}
use Rattle.lists.specs.Bytes.{zeros}
use Rattle.lists.proofs.Laid.{length_zeros}
use Rattle.numbers.specs.Numbers.{little, value_of, value_at}
use Rattle.reading.specs.Grammar.{no_charges}
use Rattle.reading.specs.Reading.{read_pdu, by_command, capabilities, bad_version, by_version}
use Rattle.reading.specs.declared.Pdu.TheVariants.{CapsResponse}
use Rattle.writing.specs.Writing.{bad_capabilities}
use Rattle.shore.specs.Shore.{Standing}
use Rattle.shore_demands.specs.Runs.{Entry, requests, receives, room_for, Call, after, started_on, JustReady}

-- a call with as many zeros as it asks room for
call : Entry → Call
call a = record { asked = a; buffer = zeros (room_for a); enough = omega (arith, length_zeros (room_for a)) }

-- a Capabilities response of version 2
hello : List ℕ
hello = 0x50 ∷ 0 ∷ 2 ∷ 0 ∷ []

read_hello : read_pdu false hello ≡ CapsResponse 2
unfolding hello read_pdu by_command capabilities bad_version by_version little value_of value_at PDU_MAX
read_hello = refl

good_request : bad_capabilities 3 no_charges ≡ false
unfolding bad_capabilities bad_version
good_request = refl

-- the state that they make
pub just_ready : Standing
just_ready = after (after (started_on (zeros STORE)) (call (requests 3 no_charges))) (call (receives hello))

pub just_ready_law : JustReady just_ready
unfolding just_ready call
just_ready_law =
    record {
      store = zeros STORE;
      size = length_zeros STORE;
      version = 3;
      charges = no_charges;
      request = call (requests 3 no_charges);
      asks = refl;
      sent = good_request;
      response = call (receives hello);
      pdu = hello;
      answers = refl;
      theirs = 2;
      accepted = read_hello;
      then = refl;
    }
