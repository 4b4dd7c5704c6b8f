-- `linklog::go_on` meets its contract: what the record has comes to the front, and the payload behind it.
use mathlib.Core.Path.{sym, ap, ◌∙◌}
use lib.ListN.{length}
use lib.Seq.{length-take-le}
use native.Mathlib.Omega.{arith}
use Rattle.lists.proofs.Laid.{length_laid}
use Rattle.linklog.specs.Reading.{entered}
use Rattle.linklog.specs.TakenBack.{end_after}
use Rattle.linklog.specs.Turns.{brought_by}
use Rattle.linklog.proofs.Readers.{reader_says}
use Rattle.linklog.proofs.Entering.{joins}
use Rattle.linklog.proofs.go_on.Goals as goal

pub bring-requires : goal.bring-requires
bring-requires c =
    let says = reader_says c.args.reader c.args.room.now c.requires in
    omega (arith, says.0, says.1.0, says.1.1.0)

pub overflow_add-held : goal.overflow_add-held
overflow_add-held c =
    let says = reader_says c.args.reader c.args.room.now c.requires in
    omega (arith, says.1.1.1, (c.from-used.ensures ∙ c.used.ensures), c.args.good.fits)

-- the room, once the payload is laid, which has room for what is to be gone through
pub slice_bounds-go_through-end : goal.slice_bounds-go_through-end
slice_bounds-go_through-end c =
    let says = reader_says c.args.reader c.args.room.now c.requires in
    let long = ap length c.copy_at.ensures ∙ length_laid c.bring.new.room c.args.reader.behind _ ∙ ap length c.bring.ensures ∙ length_laid c.args.room.now 0 _ in
    omega (arith, long, says.0, says.1.1.1, (c.from-used.ensures ∙ c.used.ensures), c.args.good.fits)

pub slice_bounds-go_through-end-2 : goal.slice_bounds-go_through-end-2
slice_bounds-go_through-end-2 c =
    let says = reader_says c.args.reader c.args.room.now c.requires in
    let long = ap length c.copy_at.ensures ∙ length_laid c.bring.new.room c.args.reader.behind _ ∙ ap length c.bring.ensures ∙ length_laid c.args.room.now 0 _ in
    sym (length-take-le _ _ (omega (arith, long, says.0, says.1.1.1, (c.from-used.ensures ∙ c.used.ensures), c.args.good.fits)))

pub go_through-requires : goal.go_through-requires
go_through-requires c = (c.args.good.numbered, omega (arith, (c.from-used.ensures ∙ c.used.ensures), c.args.good.fits))

pub returns : goal.returns
unfolding entered end_after brought_by
returns c =
    let a = c.args in
    let says = reader_says a.reader a.room.now c.requires in
    -- the room, once the payload is laid
    let joined = joins a.room.now a.good.block.now a.reader.whole a.reader.behind c.from-used.result (c.from-used.ensures ∙ c.used.ensures)
    c.args.good.long c.args.good.fits (omega (arith, says.0, says.1.0, says.1.1.0)) (omega (arith, says.0, says.1.1.1)) _ _
    c.bring.ensures c.copy_at.ensures in
    record { value = rw (joined.1, (c.from-used.ensures ∙ c.used.ensures)) at c.go_through.ensures; room_after = joined.0 }
