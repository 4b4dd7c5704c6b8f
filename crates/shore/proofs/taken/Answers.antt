-- `shore::taken` meets its contract: what is found, decided and put back is the step.
use Rattle.shore.proofs.Deciding.{gives_decided}
use Rattle.client.specs.Client.{place_if}
use Rattle.lists.proofs.Arrays.{length_mapped}
use Rattle.paper.specs.Sizes.{PARTS}
use lib.ListN.{length}
use Rattle.std.specs.Prelude.{Option}
use Prim.Native.Nat.{ℕ}
use mathlib.Core.Path.{◌≡◌, refl, ap, ◌∙◌}
use borrow.Author.Rules.{rules}
use Rattle.shore.proofs.taken.Goals as goal

pub returns : goal.returns
unfolding PARTS
returns c =
    let sixteen : length c.args.shore.table.records ≡ PARTS = search (rules, length_mapped, c.well_formed) in
    let a = c.args in
    let stands = c.place_if.ensures ∙ ap (λ (concern : Option ℕ). place_if concern c.place_after.result) c.concerns.ensures ∙ ap (place_if _) c.place_after.ensures in
    gives_decided a.number a.shore.table a.shore.asked a.store.now (sixteen) c.requires.0 c.requires.1 a.matter a.block.now _ _
    c.find-found.ensures
    c.decide-decided.ensures
    a.reply.now _ _ _
    (rw (c.put-next.ensures, c.lay-sent.ensures.value, stands) refl)
    c.keep.ensures
    c.lay-sent.ensures.reply_after
