-- `lines::channel` meets its contract: each arm is a case of the definition.
use Rattle.lines.specs.Lines.{channel_field}
use native.Mathlib.Omega.{arith}
use Rattle.lines.proofs.channel.Goals as goal

pub returns-in-None : goal.returns-in-None
unfolding channel_field
returns-in-None c = rw c.in-None.is (record { value = (c.text.ensures.value, omega (arith, c.text.ensures.value)); out_after = c.text.ensures.out_after })

pub returns-in-Some : goal.returns-in-Some
unfolding channel_field
returns-in-Some c = rw c.in-Some.is c.field.ensures
