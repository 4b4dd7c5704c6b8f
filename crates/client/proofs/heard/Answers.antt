-- `client::heard` meets its contract: each arm is a case of the definition.
use mathlib.Core.Path.{refl, sym, ap, ◌∙◌}
use mathlib.Core.List.{List}
use Prim.Native.Nat.{ℕ}
use Rattle.channel.specs.declared.Ask.{Ask}
use Rattle.deciding.specs.declared.Matter.TheVariants.{Asks}
use Rattle.client.specs.Asking.{nowhere, asking, create_ask, heard_in}
use Rattle.client.proofs.heard.Goals as goal

pub returns-in-Refused : goal.returns-in-Refused
unfolding heard_in
returns-in-Refused c = rw (sym c.read.ensures ∙ c.in-Refused.is) c.unread.ensures

pub returns-in-CapsRequest : goal.returns-in-CapsRequest
unfolding heard_in
returns-in-CapsRequest c = rw (sym c.read.ensures ∙ c.in-CapsRequest.is) c.bare.ensures

pub returns-in-CreateRequest : goal.returns-in-CreateRequest
unfolding heard_in
returns-in-CreateRequest c =
    let a = c.args in
    let request = c.in-CreateRequest in
    let asks = c.create_ask.ensures ∙ ap (λ (b : List ℕ). create_ask a.list.now b request.class) c.of.ensures in
    rw (sym c.read.ensures ∙ c.in-CreateRequest.is)
    (c.bare-in-CreateRequest.ensures ∙ ap (λ (ask : Ask). asking request.number (Asks ask) nowhere) asks)

pub returns-in-DataFirst : goal.returns-in-DataFirst
unfolding heard_in
returns-in-DataFirst c = rw (sym c.read.ensures ∙ c.in-DataFirst.is) refl

pub returns-in-Data : goal.returns-in-Data
unfolding heard_in
returns-in-Data c = rw (sym c.read.ensures ∙ c.in-Data.is) refl

pub returns-in-Close : goal.returns-in-Close
unfolding heard_in
returns-in-Close c = rw (sym c.read.ensures ∙ c.in-Close.is) c.bare-in-Close.ensures

pub returns-in-CreateResponse : goal.returns-in-CreateResponse
unfolding heard_in
returns-in-CreateResponse c = rw (sym c.read.ensures ∙ c.in-CreateResponse.is) c.bare-in-CreateResponse.ensures

pub returns-in-CapsResponse : goal.returns-in-CapsResponse
unfolding heard_in
returns-in-CapsResponse c = rw (sym c.read.ensures ∙ c.in-CapsResponse.is) c.bare-in-CapsResponse.ensures
