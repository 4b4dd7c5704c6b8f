-- Before the first turn nothing is left of the input, and the text is a line at most.
use Rattle.std.proofs.Common.{refl, arith}
use Rattle.walking.specs.Walking.{beginning}
use Rattle.walking.proofs.Turns.{line_fits}
use Rattle.stream.proofs.turn_by_turn.Goals as goal

pub loop-init : goal.loop-init
unfolding beginning
loop-init g c =
    let made = c.begin-turned.ensures.value in
    record {
      store_long = refl;
      buffer_long = refl;
      out_long = refl;
      had_in = rw made.0 (omega arith);
      laid_in = omega (arith, made.1, line_fits c.args.job, c.begin-turned.auto.out, c.requires);
    }
