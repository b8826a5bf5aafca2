-- What is sent to a child.
use Rattle.sup_live.specs.declared.mailbox.Unsent.{Unsent}
use Rattle.sup_live.specs.declared.mailbox.Unsent.TheVariants.{Gone, Full}

-- the message that was not sent
abbrev pub message_of : {M : Type 0} → Unsent M → M
message_of (Gone message) = message
message_of (Full message) = message
