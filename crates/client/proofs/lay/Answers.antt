-- `client::lay` meets its contract: each reply is laid.
use lib.IntN.{ℤ}
use lib.ListN.{length}
use mir.Syntax.{w32}
use mir.Facts.{to_z-of_z}
use borrow.Author.Rules.{rules}
use Rattle.laying.specs.Laying.{create_response_bytes}
use Rattle.lists.specs.Bytes.{laid}
use Rattle.channel.specs.Turns.{reply_told}
use mathlib.Core.Path.{refl, ap, ◌∙◌}
use Rattle.client.proofs.lay.Goals as goal

pub returns-in-NoReply : goal.returns-in-NoReply
unfolding reply_told laid
returns-in-NoReply c = rw c.in-NoReply.is (record { value = refl; reply_after = refl })

pub returns-in-Version : goal.returns-in-Version
unfolding reply_told
returns-in-Version c = rw c.in-Version.is (record { value = c.capabilities_response.ensures.value; reply_after = c.capabilities_response.ensures.out_after })

pub returns-in-Status : goal.returns-in-Status
unfolding reply_told
returns-in-Status c =
    let a = c.args in
    let same = to_z-of_z {w = w32} {z = c.in-Status.status} (search rules) in
    let laying = c.create_response.ensures in
    rw c.in-Status.is (record { value = laying.value ∙ ap (λ (z : ℤ). length (create_response_bytes a.number z)) same; reply_after = laying.out_after ∙ ap (λ (z : ℤ). laid a.reply.now 0 (create_response_bytes a.number z)) same })

pub returns-in-CloseBack : goal.returns-in-CloseBack
unfolding reply_told
returns-in-CloseBack c = rw c.in-CloseBack.is (record { value = c.close.ensures.value; reply_after = c.close.ensures.out_after })
