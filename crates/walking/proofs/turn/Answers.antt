-- `walking::turn` meets its contract: each arm is a case of the definition, and nothing new is the end.
use Rattle.std.proofs.Common.{length, arith}
use Rattle.records.specs.Walks.{turned}
use Rattle.walking.specs.Walking.{walk_of, program}
use Rattle.walking.proofs.Turns.{stays, ended_turn, read_turn}
use Rattle.walking.proofs.turn.Goals as goal

pub returns-then-input-stand : goal.returns-then-input-stand
returns-then-input-stand c =
    let did = c.finish.ensures in
    let a = c.args in
    let now_ended = ended_turn (program a.job a.list.now) (length a.out.now) (walk_of a.stand.kept a.store.now) _ a.input.now c.if-input-stand.true in
    rw (c.in-Read.is, now_ended) (record { turns = did.by_index a.list.now a.store.now; within = did.within })

pub returns-else-input-stand : goal.returns-else-input-stand
returns-else-input-stand c =
    let a = c.args in
    let now_read = read_turn (program a.job a.list.now) (length a.out.now) (walk_of a.stand.kept a.store.now) _ a.input.now c.if-input-stand.false in
    let did = c.onward.ensures in
    rw (c.in-Read.is, now_read) (record { turns = did.turns; within = did.within })

pub returns-in-Room : goal.returns-in-Room
unfolding turned
returns-in-Room c =
    let did = c.onward-in-Room.ensures in
    rw c.in-Room.is (record { turns = did.turns; within = did.within })

pub returns-in-Nothing : goal.returns-in-Nothing
unfolding turned
returns-in-Nothing c =
    let a = c.args in
    rw c.in-Nothing.is (record { turns = stays a.stand.kept a.store.now a.input.now a.out.now _; within = (omega arith, omega arith) })
