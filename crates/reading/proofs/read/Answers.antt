-- `reading::read` meets its contract: what both readings find has plain reading's answer.
use Rattle.reading.proofs.read.Goals as goal

pub returns : goal.returns
returns c = c.find-found.ensures.answer_value
