-- The message that an answer hands up.
use Rattle.std.specs.Prelude.{Option, None, Some}
use Rattle.channel.specs.declared.Answer.{Answer}
use Rattle.channel.specs.declared.Answer.TheVariants.{Ready, Opened, Declined, Held, Message, Closed, Ignored, Refused}
use Rattle.lines.specs.declared.Handed.{Handed}

unfoldable pub message_of : Answer → Option Handed
message_of (Ready level) = None
message_of (Opened number) = None
message_of (Declined number why) = None
message_of (Held number left) = None
message_of (Message number n) = Some (record { number = number; len = n })
message_of (Closed number) = None
message_of (Ignored number) = None
message_of (Refused why concern) = None
