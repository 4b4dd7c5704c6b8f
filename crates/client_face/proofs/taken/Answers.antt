-- `client_face::taken` meets its contract: what is found, decided and put back in the bytes is the step.
use mathlib.Core.Path.{refl, ◌∙◌}
use mathlib.Core.Bool.{false}
use lib.Dec.{ltb}
use lib.ListN.{length}
use Rattle.paper.specs.Sizes.{PARTS}
use Rattle.numbers.specs.Numbers.{Bytes}
use Rattle.channel.specs.Answers.{concern_of}
use Rattle.channel.specs.Turns.{reply_told}
use Rattle.table.specs.Table.{put_back}
use Rattle.connection.specs.States.{place_after}
use Rattle.client.specs.declared.Received.{Received}
use Rattle.client.specs.Client.{place_if}
use Rattle.client.proofs.Deciding.{gives_decided}
use Rattle.saved.specs.Saved.{CLIENT, table_in}
use Rattle.saved.proofs.Searching.{length_told}
use Rattle.saved.proofs.Putting.{put_over_law, head_over, home_over_law}
use Rattle.client_face.proofs.Calls.{good_state, unasked_state, told_level, decided_packed, decided_level, gives_packed}
use borrow.Author.Rules.{rules}
use Rattle.client_face.proofs.taken.Goals as goal

pub returns : goal.returns
unfolding PARTS
returns c =
    let a = c.args in
    let n = a.number in
    let l = a.state.now in
    let t = table_in l in
    let bytes : Bytes l = λ i. search rules in
    let good = c.requires.1 in
    let head = c.read_head-head.ensures ∙ head_over CLIENT false l good in
    let f = c.find-found.result in
    let found = c.find-found.ensures ∙ home_over_law CLIENT false l n good in
    let d = c.decide-decided.result in
    let decided = rw head at c.decide-decided.ensures in
    let change = d.turn.change in
    let r : Received =
    record {
      table = put_back t d.ready d.level f.place f.row change;
      answer = d.turn.answer;
      sent = length (reply_told n d.turn.reply);
      place = place_if (concern_of d.turn.answer) (place_after f.place f.row.taken change);
    } in
    let g = gives_decided n t a.store.now (length_told l) c.requires.0 (good_state l good).1 a.matter a.block.now f d found decided
    a.reply.now _ _ r refl c.keep.ensures c.lay-sent.ensures.reply_after in
    let packs = decided_packed t.ready t.level n (ltb f.place PARTS) f.row a.matter (length a.block.now) d decided f.place _ in
    let small = decided_level t.ready t.level n (ltb f.place PARTS) f.row a.matter (length a.block.now) d decided (told_level l) in
    let puts = put_over_law CLIENT false l bytes good d.ready d.level f.place f.row change small in
    gives_packed _ r _ a.reply.now _ _ g _ (rw c.lay-sent.ensures.value at (c.pack_answer.ensures ∙ packs))
    (rw (unasked_state l (good_state l good).0) at (c.put.ensures ∙ puts))
