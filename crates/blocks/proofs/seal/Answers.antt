-- `blocks::seal` meets its contract: where a test refuses, no block can be made; else the body is filled and the head laid over it.
use mathlib.Core.Path.{◌≡◌, sym, ap, ◌∙◌}
use Prim.Native.Nat.{ℕ, ◌≤◌, ◌<◌}
use native.Mathlib.Omega.{arith}
use lib.ListN.{length}
use Rattle.blocks.specs.Check.{WORD_MAX}
use Rattle.blocks.specs.Block.{BLOCK, PAYLOAD}
use Rattle.blocks.specs.Sealed.{joined_to, headed, sealed}
use Rattle.blocks.proofs.Sealing.{joined_le, headed_is, no_block, no_room, no_number, no_place, is_sealed}
use Rattle.blocks.proofs.seal.Goals as goal

pub returns-in_default : goal.returns-in_default
returns-in_default c = no_block _ _ _ _ _ c.in_default.ensures.cases

pub returns-then-used-gt-PAYLOAD : goal.returns-then-used-gt-PAYLOAD
returns-then-used-gt-PAYLOAD c = c.in-Some.ensures.cases.same ∙ no_room _ _ _ _ _ c.if-used-gt-PAYLOAD.true

pub returns-in_default-try_from : goal.returns-in_default-try_from
returns-in_default-try_from c =
    let not : c.args.number < 65536 → ⊥ = c.in_default-try_from.ensures in
    let long : WORD_MAX < c.args.number = omega arith in
    c.in-Some.ensures.cases.same ∙ no_number _ _ _ _ _ long

pub returns-in_default-try_from-2 : goal.returns-in_default-try_from-2
returns-in_default-try_from-2 c =
    let not : c.args.place < 65536 → ⊥ = c.in_default-try_from-2.ensures in
    let long : WORD_MAX < c.args.place = omega arith in
    c.in-Some.ensures.cases.same ∙ no_place _ _ _ _ _ long

pub overflow_cast-all : goal.overflow_cast-all
overflow_cast-all c =
    let a = c.args in
    let size : length c.in-Some.block.now ≡ BLOCK = ap length c.in-Some.ensures.cases.same ∙ c.in-Some.ensures.cases.long in
    -- what is used then
    let few : c.fill-all.result ≤ PAYLOAD =
    omega (arith, c.fill-all.ensures.count, joined_le a.used a.bytes.now c.in-Some.block.now size c.if-used-gt-PAYLOAD.false) in
    record { fits = omega (arith, few) }

pub returns : goal.returns
returns c =
    let a = c.args in
    let block = c.in-Some.block.now in
    let then = c.fill-all.new.block in
    let size : length block ≡ BLOCK = ap length c.in-Some.ensures.cases.same ∙ c.in-Some.ensures.cases.long in
    let payload = joined_to a.used a.bytes.now block in
    let number : c.in-Ok.number ≡ a.number = c.in-Ok.ensures.1 in
    let place : c.in-Ok-try_from.place ≡ a.place = c.in-Ok-try_from.ensures.1 in
    c.lay_head.ensures
    ∙ ap (λ (u : ℕ). headed c.in-Ok.number u c.in-Ok-try_from.place then) c.fill-all.ensures.count
    ∙ ap (λ (n : ℕ). headed n (length payload) c.in-Ok-try_from.place then) number
    ∙ ap (λ (p : ℕ). headed a.number (length payload) p then) place
    ∙ headed_is a.number a.place payload then c.fill-all.array_long c.fill-all.ensures.body
    ∙ sym (is_sealed a.number a.place a.used a.bytes.now block size c.if-used-gt-PAYLOAD.false (omega (arith, c.in-Ok.ensures.0)) (omega (arith, c.in-Ok-try_from.ensures.0)))
    ∙ ap (sealed a.number a.place a.used a.bytes.now) c.in-Some.ensures.cases.same
