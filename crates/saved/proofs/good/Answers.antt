-- `saved::good` meets its contract: what is judged word by word is the definition, and where one pass says yes no second is needed.
use mathlib.Core.Path.{◌≡◌, sym, ◌∙◌}
use mathlib.Core.Bool.{not}
use Prim.Native.Nat.{◌%◌}
use lib.Dec.{eqb}
use Rattle.paper.specs.Sizes.{PARTS}
use Rattle.saved.specs.Saved.{STATE, HEAD, is_good}
use Rattle.saved.proofs.Judged.{good_records, other_length, bad_head, past_head}
use Rattle.saved.proofs.good.Goals as goal

pub returns-in_default : goal.returns-in_default
unfolding STATE
returns-in_default c = let a = c.args in sym (other_length a.mark a.asks a.state.now c.in_default.ensures.cases)

pub returns-then-not-good_head : goal.returns-then-not-good_head
unfolding STATE HEAD PARTS
returns-then-not-good_head c =
    let a = c.args in
    let chunk = c.in-Some.ensures.cases in
    let w = rw chunk.same at c.word-head.ensures in
    let bad = sym c.good_head.ensures ∙ c.if-not-good_head.true in
    sym (bad_head a.mark a.asks a.state.now chunk.long _ w bad)

pub returns-then-plain : goal.returns-then-plain
unfolding STATE HEAD PARTS
returns-then-plain c =
    let left : (let a = c.args in
    is_good a.mark a.asks a.state.now ≡ good_records (not (eqb (c.word-head.result % 256) 0)) a.asks a.state.now) = let a = c.args in
    let chunk = c.in-Some.ensures.cases in
    let w = rw chunk.same at c.word-head.ensures in
    let good = sym c.good_head.ensures ∙ c.if-not-good_head.false in
    past_head a.mark a.asks a.state.now chunk.long _ w good in
    let told = rw c.in-Some.ensures.cases.same at (c.plain.ensures c.if-plain.true) in
    sym (left ∙ rw (told.0, told.1.0, told.1.1))

pub returns-then-not-good_rows : goal.returns-then-not-good_rows
unfolding STATE HEAD PARTS
returns-then-not-good_rows c =
    let left : (let a = c.args in
    is_good a.mark a.asks a.state.now ≡ good_records (not (eqb (c.word-head.result % 256) 0)) a.asks a.state.now) = let a = c.args in
    let chunk = c.in-Some.ensures.cases in
    let w = rw chunk.same at c.word-head.ensures in
    let good = sym c.good_head.ensures ∙ c.if-not-good_head.false in
    past_head a.mark a.asks a.state.now chunk.long _ w good in
    let bad = rw c.in-Some.ensures.cases.same at (sym c.good_rows.ensures ∙ c.if-not-good_rows.true) in
    sym (left ∙ rw bad)

pub returns : goal.returns
unfolding STATE HEAD PARTS
returns c =
    let left : (let a = c.args in
    is_good a.mark a.asks a.state.now ≡ good_records (not (eqb (c.word-head.result % 256) 0)) a.asks a.state.now) = let a = c.args in
    let chunk = c.in-Some.ensures.cases in
    let w = rw chunk.same at c.word-head.ensures in
    let good = sym c.good_head.ensures ∙ c.if-not-good_head.false in
    past_head a.mark a.asks a.state.now chunk.long _ w good in
    let good = rw c.in-Some.ensures.cases.same at (sym c.good_rows.ensures ∙ c.if-not-good_rows.false) in
    sym (left ∙ rw good (rw c.in-Some.ensures.cases.same at (sym c.pairs_apart.ensures)))
