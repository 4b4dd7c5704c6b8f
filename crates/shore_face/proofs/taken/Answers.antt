-- `shore_face::taken` meets its contract: what is found, decided and put back is the step.
use Rattle.paper.specs.Sizes.{PARTS}
use Rattle.shore_face.proofs.Steps.{gives_step}
use borrow.Author.Rules.{rules}
use Rattle.shore_face.proofs.taken.Goals as goal

pub returns : goal.returns
unfolding PARTS
returns c =
    let a = c.args in
    gives_step a.number a.state.now a.store.now a.block.now a.reply.now a.matter (λ i. search rules) c.requires.1 c.requires.0
    _ _ _ c.find-found.ensures c.read_head-head.ensures c.decide-decided.ensures _ _ _ _ _
    c.put.ensures c.lay-sent.ensures.value c.lay-sent.ensures.reply_after c.keep.ensures c.pack_said.ensures
