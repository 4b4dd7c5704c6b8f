-- What supposes a connection just made ready supposes something that there is: the one of the examples.
-- Assumes nothing.
use mathlib.Core.Path.{◌≡◌, refl}
use mathlib.Core.Bool.{true}
use Rattle.paper.specs.Sizes.{PDU_MAX, STORE}
use Rattle.lists.specs.Bytes.{zeros}
use Rattle.lists.proofs.Laid.{length_zeros}
use Rattle.numbers.specs.Numbers.{little, value_of, value_at}
use Rattle.reading.specs.Grammar.{no_charges}
use Rattle.reading.specs.Reading.{read_pdu, by_command, capabilities, bad_version, by_version, charged}
use Rattle.reading.specs.declared.Pdu.TheVariants.{CapsRequest}
use Rattle.table.specs.Table.{empty_table}
use Rattle.connection.specs.States.{state_of}
use Rattle.client.specs.Events.{Capabilities}
use Rattle.client.specs.Client.{readied}
use Rattle.demands.specs.Runs.{event_in, JustReady}
use Rattle.demands.specs.Examples.{call, PUMP, asks, hello_pdu, hello, just_ready}
use Rattle.demands.proofs.Orders.{read_caps, ready_state}

read_hello : read_pdu true hello_pdu ≡ CapsRequest 3 no_charges
unfolding hello_pdu read_pdu by_command capabilities bad_version by_version charged little value_of value_at PDU_MAX
read_hello = refl

pub hello_read : event_in hello.asked ≡ Capabilities 3
unfolding hello asks call
hello_read = read_caps PUMP hello_pdu 3 no_charges read_hello

pub just_ready_law : JustReady just_ready
unfolding just_ready hello asks call
just_ready_law =
    record {
      store = zeros STORE;
      size = length_zeros STORE;
      call = hello;
      list = PUMP;
      pdu = hello_pdu;
      asks = refl;
      version = 3;
      charges = no_charges;
      accepted = read_hello;
      then = refl;
    }

-- as the paper's steps make it
pub ready_is : just_ready ≡ (readied (state_of empty_table (zeros STORE)) 3).state
unfolding just_ready_law
ready_is = ready_state just_ready just_ready_law
