-- `table::some_awaited` meets its contract: some record has the mark.
use mathlib.Core.Path.{◌≡◌, sym, ◌∙◌}
use Rattle.std.specs.List.{list_any}
use Rattle.std.proofs.lemmas.Iterator.{YieldsList-from_slice}
use Rattle.std.proofs.lemmas.Iterator.Search.{any_from_yields_List}
use Rattle.table.specs.Totals.{is_awaited}
use Rattle.table.proofs.Every.{some_any}
use Rattle.std.proofs.Common.{rules}
use Rattle.table.proofs.some_awaited.Goals as goal

pub returns : goal.returns
returns c =
    let any : c.any.result ≡ list_any is_awaited c.args.table.records =
    any_from_yields_List is_awaited _ _ _ c.any.ensures.ran (YieldsList-from_slice _ c.iter.ensures.rest) (λ x b q k. search rules) in
    any ∙ sym (some_any _ _)
