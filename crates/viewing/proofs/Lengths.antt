-- How long the lines of a list are, and the list of lines.
-- Assumes nothing.
use Rattle.std.specs.Prelude.{Option, None, Some}
use mathlib.Core.Path.{◌≡◌, refl}
use mathlib.Core.List.{List}
use Prim.Native.Nat.{ℕ, ◌*◌, ◌≤◌}
use native.Mathlib.Omega.{arith}
use lib.ListN.{length}
use Rattle.paper.specs.Refusals.{refusal_number}
use Rattle.paper.specs.declared.Refusal.TheVariants.{NoPartner}
use Rattle.lines.specs.Decimal.{digits_in, decimal, field}
use Rattle.lines.specs.Lines.{word_field, refused_line}
use Rattle.codepage.specs.Names.{utf8_of, name_of, result_of}
use Rattle.codepage.proofs.Names.{utf8_long, text_back}

-- a name in UTF-8
pub result_long : (name : List ℕ) → length (result_of (utf8_of name)) ≤ 3 * length name
result_long name = go (utf8_of name) refl
  where
    go : (r : Option (List ℕ)) → utf8_of name ≡ r → length (result_of r) ≤ 3 * length name
    go None e = omega arith
    go (Some text) e = (utf8_long name text e).1

-- a name of a text
pub name_long : (text : List ℕ) → length (result_of (name_of text)) ≤ length text
name_long text = go (name_of text) refl
  where
    go : (r : Option (List ℕ)) → name_of text ≡ r → length (result_of r) ≤ length text
    go None e = omega arith
    go (Some name) e = (utf8_long name text (text_back text name e)).0

-- "refused 19"
pub refused_long : length (refused_line (refusal_number NoPartner)) ≡ 11
unfolding refused_line word_field field decimal digits_in
refused_long = refl
