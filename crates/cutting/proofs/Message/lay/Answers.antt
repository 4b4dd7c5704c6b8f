-- `cutting::Message::lay` meets its contract: the part of the message is the block, and the PDU's kind is by the definition's test.
use mathlib.Core.Path.{◌≡◌, sym, ◌∙◌}
use Prim.Native.Nat.{◌-◌}
use lib.ListN.{length, take, drop}
use Rattle.cutting.specs.Cutting.{block, block_end}
use Rattle.cutting.proofs.Blocks.{cut_first, cut_data, part_block}
use Rattle.cutting.proofs.Message.lay.Goals as goal

pub returns-then-is_first : goal.returns-then-is_first
returns-then-is_first c =
    let a = c.args in
    let bytes = a.bytes.now in
    let next : c.block_end-next.result ≡ block_end a.self.number (length bytes) a.at = rw c.requires.0 c.block_end-next.ensures in
    let part : take (c.block_end-next.result - a.at) (drop a.at bytes) ≡ block a.self.number bytes a.at = part_block _ _ _ _ next in
    let first = rw (← c.requires.0) at (sym c.is_first.ensures ∙ c.if-is_first.true) in
    let lay = rw (part, ← c.requires.0) at c.data_first-len.ensures in
    rw (cut_first _ _ _ first) (record { value = simp (lay.value, next); out_after = lay.out_after })

pub returns : goal.returns
returns c =
    let a = c.args in
    let bytes = a.bytes.now in
    let next : c.block_end-next.result ≡ block_end a.self.number (length bytes) a.at = rw c.requires.0 c.block_end-next.ensures in
    let part : take (c.block_end-next.result - a.at) (drop a.at bytes) ≡ block a.self.number bytes a.at = part_block _ _ _ _ next in
    let first = rw (← c.requires.0) at (sym c.is_first.ensures ∙ c.if-is_first.false) in
    let lay = rw part at c.data-len.ensures in
    rw (cut_data _ _ _ first) (record { value = simp (lay.value, next); out_after = lay.out_after })
