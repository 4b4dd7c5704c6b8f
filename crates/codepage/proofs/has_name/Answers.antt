-- `codepage::has_name` meets its contract: there is a result exactly if it has a length.
use Rattle.std.proofs.Common.{◌∙◌, ap, is_some}
use Rattle.codepage.specs.Names.{name_of}
use Rattle.codepage.proofs.Answers.{size_some}
use Rattle.codepage.proofs.has_name.Goals as goal

pub returns : goal.returns
returns c = c.is_some.ensures ∙ ap is_some c.name_len.ensures ∙ size_some (name_of c.args.text.now)
