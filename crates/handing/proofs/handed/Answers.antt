-- `handing::handed` meets its contract: each arm is a case of the definition.
use Rattle.std.proofs.Common.{refl, arith}
use Rattle.lists.specs.Bytes.{laid}
use Rattle.handing.specs.Handing.{handed_text}
use Rattle.handing.proofs.handed.Goals as goal

pub returns-in-Some : goal.returns-in-Some
unfolding handed_text
returns-in-Some g c =
    let did = c.message-in-Some.ensures in
    rw (← c.message.ensures, c.in-Some.is) (record { value = did.value; out_after = did.out_after })

pub returns-in-None : goal.returns-in-None
unfolding handed_text laid
returns-in-None g c = rw (← c.message.ensures, c.in-None.is) (record { value = (refl, omega arith); out_after = refl })
