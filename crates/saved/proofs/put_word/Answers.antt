-- `saved::put_word` meets its contract: the part that is copied over comes back as the word's bytes.
use mathlib.Core.Path.{◌≡◌}
use lib.ListN.{length}
use Rattle.lists.proofs.Laid.{back}
use Prim.Native.Nat.{◌+◌}
use Rattle.numbers.specs.Numbers.{bytes_of}
use Rattle.numbers.proofs.Widths.{length_bytes_of}
use native.Mathlib.Omega.{arith}
use Rattle.saved.specs.Saved.{STATE}
use Rattle.saved.proofs.put_word.Goals as goal

pub returns : goal.returns
unfolding STATE
returns c =
    let a = c.args in
    let four : length (bytes_of 4 a.value) ≡ 4 = length_bytes_of 4 a.value in
    let long = c.told-state in
    rw (c.copy_from_slice.ensures.after, c.split.ensures) (back a.state.now a.at (a.at + 4) (bytes_of 4 a.value) (omega arith) (omega arith) (omega arith))
