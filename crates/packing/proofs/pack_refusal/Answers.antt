-- `packing::pack_refusal` meets its contract: with a channel or without, the word is the definition's.
use Rattle.packing.specs.Packing.{refused_word, channel_for}
use Rattle.packing.proofs.pack_refusal.Goals as goal

pub returns-in-None : goal.returns-in-None
unfolding refused_word channel_for
returns-in-None c = rw (c.in-None.is, ← c.refusal_number-which.ensures) c.pack.ensures

pub returns-in-Some : goal.returns-in-Some
unfolding refused_word channel_for
returns-in-Some c = rw (c.in-Some.is, ← c.refusal_number-which.ensures) c.pack-in-Some.ensures
