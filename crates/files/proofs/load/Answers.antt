-- Each read brings what the reader gives next.
use Rattle.std.proofs.Common.{◌≡◌, ◌≤◌, ℕ, min, length, take, drop, subst, arith}
use Rattle.std.specs.Io.KnownBytes.{Consumes}
use Rattle.files.proofs.Keeping.{consumed_more}
use Rattle.files.proofs.load.Goals as goal

pub loop-had-preserved : goal.loop-had-preserved
loop-had-preserved g c =
    let had = c.loop-had.had in
    let after = c.fill.new.buffer in
    let all : min had (length c.loop-had.buffer) ≡ had = omega arith in
    let more : had ≤ c.in_ok-n.n = omega (arith, c.in_ok-n.ensures.fills) in
    let brought : Consumes (g.R.Read.remaining c.loop-had.reader) (g.R.Read.remaining c.fill.new.reader) (drop had (take c.in_ok-n.n after)) =
    subst (λ (m : ℕ). Consumes (g.R.Read.remaining c.loop-had.reader) (g.R.Read.remaining c.fill.new.reader) (drop m (take c.in_ok-n.n after))) all c.in_ok-n.ensures.brings.0 in
    record {
      in_buffer = omega (arith, c.in_ok-n.ensures.fills, c.fill.auto.buffer);
      consumed = consumed_more _ _ _ c.loop-had.buffer after had c.in_ok-n.n c.loop-had.invariant.consumed c.in_ok-n.ensures.buffer_unchanged more brought;
    }
