-- A run's buffers have room for any job's store, for any text and for any record.
use Rattle.std.proofs.Common.{sym, arith}
use Rattle.std.proofs.lemmas.List.{length-take-le}
use Rattle.paper.specs.Sizes.{STORE, PARTS, PART}
use Rattle.stream.proofs.Sizes.{any_text_fits, any_store_fits}
use Rattle.stream.proofs.run.Goals as goal

pub slice_bounds-store-end : goal.slice_bounds-store-end
unfolding STORE PARTS PART
slice_bounds-store-end g c = omega (arith, c.store_for-n.ensures, any_store_fits c.args.job)

pub slice_bounds-turn_by_turn-end : goal.slice_bounds-turn_by_turn-end
unfolding STORE PARTS PART
slice_bounds-turn_by_turn-end g c = sym (length-take-le _ _ (omega (arith, c.store_for-n.ensures, any_store_fits c.args.job)))

pub turn_by_turn-requires : goal.turn_by_turn-requires
turn_by_turn-requires g c = (omega (arith, any_text_fits c.args.job), omega arith)
