-- `linklog::gather` meets its contract: each piece is laid right behind the one before.
use mathlib.Core.Path.{refl, sym, ap, ◌∙◌}
use mathlib.Core.List.{append_assoc}
use lib.ListN.{length-append}
use Rattle.lists.specs.Bytes.{laid}
use Rattle.lists.proofs.Laid.{laid_next}
use Rattle.linklog.proofs.gather.Goals as goal

pub returns : goal.returns
returns c =
    let a = c.args in
    let out = a.out.now in
    let two = laid_next out _ _ a.first.now a.second.now _ refl c.copy.ensures c.copy_at.ensures in
    let all = laid_next out _ _ _ a.third.now _ (sym (length-append a.first.now a.second.now)) two c.copy_at-2.ensures in
    all ∙ ap (laid out 0) (append_assoc a.first.now a.second.now a.third.now)
