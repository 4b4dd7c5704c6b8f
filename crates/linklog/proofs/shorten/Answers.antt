-- `linklog::shorten` meets its contract: the room's first block is lent, and made anew.
use mathlib.Core.Path.{sym, ap, ◌∙◌}
use lib.Seq.{length-take-le}
use native.Mathlib.Omega.{arith}
use Rattle.lists.specs.Bytes.{laid}
use Rattle.linklog.proofs.Taking.{made_anew, keeps_place, loses_place}
use Rattle.linklog.proofs.shorten.Goals as goal
use Rattle.linklog.proofs.shorten.Goals.{then-from-used, else-from-used}

pub slice_bounds-block-end-2 : goal.slice_bounds-block-end-2
slice_bounds-block-end-2 c = sym (length-take-le 512 c.args.room.now (omega (arith, c.requires.0)))

pub returns : goal.returns
returns c =
    let a = c.args in
    let room = a.room.now in
    let pre = c.requires in
    let first = c.if-from-used.first in
    elim c.if-from-used.branch [
      | then-from-used w ↦
          let is = w.first-is ∙ w.from-first.ensures in
          made_anew room a.number a.used pre.0 pre.1.0 pre.1.1.0 pre.1.1.1 first _ (omega (arith, is, c.place-place.type_inv)) c.seal.ensures
          ∙ ap (laid room 0) (keeps_place room a.number a.used pre.0 pre.1.0 pre.1.1.0 pre.1.1.1 first (is ∙ c.place-place.ensures)
          (omega (arith, is, c.from.ensures, w.if-from-used)))
      | else-from-used w ↦
          made_anew room a.number a.used pre.0 pre.1.0 pre.1.1.0 pre.1.1.1 first _ (omega (arith, w.first-is)) c.seal.ensures
          ∙ ap (laid room 0) (rw w.first-is (loses_place room a.number a.used pre.0 pre.1.0 pre.1.1.0 pre.1.1.1 _ c.place-place.ensures
          (omega (arith, c.from.ensures, w.if-from-used))))
    ]
