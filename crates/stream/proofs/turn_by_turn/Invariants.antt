-- What is left of the input and what is laid of text fit the buffers, which keep their lengths.
use Rattle.stream.proofs.Sizes.{Sized}
use Rattle.stream.proofs.turn_by_turn.Given as goal

abbrev pub invariant-loop : goal.invariant-loop
invariant-loop g l =
    Sized l.initial.store l.initial.buffer l.initial.out l.store l.buffer l.out l.turned.stand.had l.turned.laid
