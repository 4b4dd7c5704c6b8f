-- `linklog::go_in` meets its contract: from the place where the first record begins on, the payload comes to the front.
use mathlib.Core.Path.{◌≡◌, sym, ap, ◌∙◌}
use mathlib.Core.Bool.{true}
use mathlib.Core.List.{List}
use Prim.Native.Nat.{ℕ, ◌≤◌, ◌<◌}
use lib.ListN.{length}
use lib.Seq.{length-take-le}
use native.Mathlib.Omega.{arith}
use Rattle.lists.proofs.Laid.{length_laid}
use Rattle.blocks.specs.Block.{PAYLOAD, NONE, used_in, place_in, may_begin}
use Rattle.linklog.specs.TakenBack.{end_after}
use Rattle.linklog.proofs.Readers.{reader_says}
use Rattle.linklog.proofs.Entering.{enters, enters_so, place_below, none_begins}
use Rattle.linklog.proofs.go_in.Goals as goal

-- the place is below the used count
below : (u p : ℕ) (block : List ℕ) → u ≡ used_in block → p ≡ place_in block → may_begin (used_in block) (place_in block) ≡ true
    → (p ≡ NONE → ⊥) → p < u
below u p block e f may some =
    let under = place_below _ _ may (λ none. some (f ∙ none)) in
    omega (arith, under, f, e)

pub returns-then-from-eq-NONE : goal.returns-then-from-eq-NONE
unfolding end_after
returns-then-from-eq-NONE c =
    let a = c.args in
    let none = none_begins a.room.now a.good.block.now (sym c.place-place.ensures ∙ sym c.from.ensures ∙ c.if-from-eq-NONE.true) in
    record { value = rw none.0 c.seeking.ensures; room_after = none.1 }

pub overflow_sub-size : goal.overflow_sub-size
overflow_sub-size c =
    let under = below _ _ c.args.good.block.now (c.from-used.ensures ∙ c.used.ensures) (c.from-place.ensures ∙ c.place-place.ensures) c.args.good.begins (λ none. c.if-from-eq-NONE.false (c.from.ensures ∙ sym c.from-place.ensures ∙ none)) in
    omega (arith, under)

pub overflow_add-from-2 : goal.overflow_add-from-2
overflow_add-from-2 c =
    let under = below _ _ c.args.good.block.now (c.from-used.ensures ∙ c.used.ensures) (c.from-place.ensures ∙ c.place-place.ensures) c.args.good.begins (λ none. c.if-from-eq-NONE.false (c.from.ensures ∙ sym c.from-place.ensures ∙ none)) in
    omega (arith, under, (c.from-used.ensures ∙ c.used.ensures), c.args.good.fits)

pub slice_bounds-copy-end : goal.slice_bounds-copy-end
slice_bounds-copy-end c =
    let under = below _ _ c.args.good.block.now (c.from-used.ensures ∙ c.used.ensures) (c.from-place.ensures ∙ c.place-place.ensures) c.args.good.begins (λ none. c.if-from-eq-NONE.false (c.from.ensures ∙ sym c.from-place.ensures ∙ none)) in
    omega (arith, under, (c.from-used.ensures ∙ c.used.ensures), c.args.good.fits, c.args.good.long)

-- the room, once the payload is laid, has room for what is gone through
pub slice_bounds-go_through-end : goal.slice_bounds-go_through-end
slice_bounds-go_through-end c =
    let says = reader_says c.args.reader c.args.room.now c.requires in
    let long = ap length c.copy.ensures ∙ length_laid c.args.room.now 0 _ in
    omega (arith, long, says.0, (c.from-used.ensures ∙ c.used.ensures), c.args.good.fits)

pub slice_bounds-go_through-end-2 : goal.slice_bounds-go_through-end-2
slice_bounds-go_through-end-2 c =
    let says = reader_says c.args.reader c.args.room.now c.requires in
    let long = ap length c.copy.ensures ∙ length_laid c.args.room.now 0 _ in
    sym (length-take-le _ _ (omega (arith, long, says.0, (c.from-used.ensures ∙ c.used.ensures), c.args.good.fits)))

pub go_through-requires : goal.go_through-requires
go_through-requires c = (c.args.good.numbered, omega (arith, (c.from-used.ensures ∙ c.used.ensures), c.args.good.fits))

pub returns : goal.returns
unfolding end_after
returns c =
    let a = c.args in
    let under = below _ _ a.good.block.now (c.from-used.ensures ∙ c.used.ensures) (c.from-place.ensures ∙ c.place-place.ensures) c.args.good.begins (λ none. c.if-from-eq-NONE.false (c.from.ensures ∙ sym c.from-place.ensures ∙ none)) in
    let says = reader_says a.reader a.room.now c.requires in
    let room_for : PAYLOAD ≤ length a.room.now = omega (arith, says.0) in
    -- the room, once the payload is laid
    let laid_in = enters a.room.now a.good.block.now _ _ (c.from-used.ensures ∙ c.used.ensures) (c.from-place.ensures ∙ c.place-place.ensures) (λ none. c.if-from-eq-NONE.false (c.from.ensures ∙ sym c.from-place.ensures ∙ none)) under a.good.long
    a.good.fits room_for _ c.copy.ensures in
    let so = enters_so a.room.now a.good.block.now _ _ (c.from-used.ensures ∙ c.used.ensures) (c.from-place.ensures ∙ c.place-place.ensures) (λ none. c.if-from-eq-NONE.false (c.from.ensures ∙ sym c.from-place.ensures ∙ none)) under a.good.long
    a.good.fits room_for in
    record { value = rw so (rw (laid_in.1, (c.from-used.ensures ∙ c.used.ensures)) at c.go_through.ensures); room_after = laid_in.0 }
