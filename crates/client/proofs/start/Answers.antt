-- `client::start` meets its contract: the clearer zeroes a store of its size.
use mathlib.Core.Path.{refl, ap, ◌∙◌}
use borrow.Author.Tests.{eq-eqb, ne_eqb}
use Rattle.paper.specs.Sizes.{PARTS, PART, MESSAGE_MAX, STORE}
use Rattle.lists.specs.Bytes.{zeros}
use Rattle.client.specs.Client.{started, store_started}
use Rattle.client.proofs.start.Goals as goal

pub returns-then-store-ne-STORE : goal.returns-then-store-ne-STORE
unfolding started store_started PARTS PART MESSAGE_MAX STORE
returns-then-store-ne-STORE c =
    let other = c.if-store-ne-STORE.true in
    simp ne_eqb (record { value = simp c.empty.ensures; store_after = refl })

pub returns : goal.returns
unfolding started store_started PARTS PART MESSAGE_MAX STORE
returns c =
    let whole = c.if-store-ne-STORE.false in
    simp eq-eqb (record { value = simp c.empty-2.ensures; store_after = c.clear.ensures ∙ ap zeros whole })
