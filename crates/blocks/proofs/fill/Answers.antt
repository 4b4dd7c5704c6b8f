-- `blocks::fill` meets its contract: the bytes are laid behind those that are used, and zeros over what is left.
use mathlib.Core.Path.{◌≡◌, sym, ap, ◌∙◌}
use Prim.Native.Nat.{ℕ, ◌+◌, ◌-◌, min}
use mathlib.Core.List.{List}
use lib.ListN.{length, take, drop, length-drop, length-take}
use native.Mathlib.Omega.{arith}
use Rattle.lists.specs.Bytes.{laid, zeros}
use Rattle.lists.proofs.Laid.{back, length_laid, length_zeros}
use Rattle.blocks.specs.Block.{BLOCK, HEAD, PAYLOAD}
use Rattle.blocks.proofs.Sealing.{length_joined, body_filled}
use Rattle.blocks.proofs.fill.Goals as goal

pub returns : goal.returns
returns c =
    let a = c.args in
    let block = a.block.now in
    let bytes = a.bytes.now in
    let all = a.used + c.min.result in
    let n : all ≡ a.used + min (length bytes) (PAYLOAD - a.used) = omega (arith, c.min.ensures) in
    let size : length block ≡ BLOCK = c.told-block in
    let room = c.requires in
    let l = c.copy_at.new.part in
    let part = c.clear.new.part in
    let end = HEAD + all in
    let long : length l ≡ BLOCK = ap length c.copy_at.ensures ∙ length_laid block (HEAD + a.used) bytes ∙ size in
    let short : length (take (BLOCK - end) (drop end l)) ≡ BLOCK - end = rw (length-take, length-drop) (omega arith) in
    let zero : part ≡ zeros (BLOCK - end) = c.clear.ensures ∙ ap zeros short in
    let lent : length part ≡ BLOCK - end = ap length zero ∙ length_zeros (BLOCK - end) in
    record {
      count = n ∙ sym (length_joined a.used bytes block size room);
      body = ap (drop HEAD) (back l end BLOCK part (omega arith) (omega arith) lent)
          ∙ ap (λ (z : List ℕ). drop HEAD (laid l end z)) zero
          ∙ ap (λ (m : List ℕ). drop HEAD (laid m end (zeros (BLOCK - end)))) c.copy_at.ensures
          ∙ body_filled a.used bytes block size room all n;
    }
