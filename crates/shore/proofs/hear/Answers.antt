-- `shore::hear` meets its contract: each arm is a case of the definition.
use mathlib.Core.Path.{sym, ap, ◌∙◌}
use lib.IntN.{ℤ}
use mir.Syntax.{w32}
use mir.Facts.{to_z-of_z}
use Rattle.shore.specs.declared.Matter.TheVariants.{Status}
use Rattle.shore.specs.Asking.{nowhere, hearing, heard_in}
use borrow.Author.Rules.{rules}
use Rattle.shore.proofs.hear.Goals as goal

pub returns-in-Refused : goal.returns-in-Refused
unfolding heard_in
returns-in-Refused c = rw (sym c.read.ensures ∙ c.in-Refused.is) c.unread.ensures

pub returns-in-CapsResponse : goal.returns-in-CapsResponse
unfolding heard_in
returns-in-CapsResponse c = rw (sym c.read.ensures ∙ c.in-CapsResponse.is) c.bare.ensures

pub returns-in-CreateResponse : goal.returns-in-CreateResponse
unfolding heard_in
returns-in-CreateResponse c = rw (sym c.read.ensures ∙ c.in-CreateResponse.is) (c.bare-in-CreateResponse.ensures ∙ ap (λ (z : ℤ). hearing c.in-CreateResponse.number (Status z) nowhere) (to_z-of_z {w = w32} {z = c.in-CreateResponse.status} (search rules)))

pub returns-in-DataFirst : goal.returns-in-DataFirst
unfolding heard_in
returns-in-DataFirst c = rw (sym c.read.ensures ∙ c.in-DataFirst.is)

pub returns-in-Data : goal.returns-in-Data
unfolding heard_in
returns-in-Data c = rw (sym c.read.ensures ∙ c.in-Data.is)

pub returns-in-Close : goal.returns-in-Close
unfolding heard_in
returns-in-Close c = rw (sym c.read.ensures ∙ c.in-Close.is) c.bare-in-Close.ensures

pub returns-in-CreateRequest : goal.returns-in-CreateRequest
unfolding heard_in
returns-in-CreateRequest c = rw (sym c.read.ensures ∙ c.in-CreateRequest.is) c.wrong_way.ensures

pub returns-in-CapsRequest : goal.returns-in-CapsRequest
unfolding heard_in
returns-in-CapsRequest c = rw (sym c.read.ensures ∙ c.in-CapsRequest.is) c.wrong_way-in-CapsRequest.ensures
