-- `viewing::gather` meets its contract: the guards are the cases of the definition.
use mathlib.Core.Path.{refl}
use borrow.Author.Tests.{lt-ltb, le-ltb, le-leb, lt-leb}
use Rattle.viewing.specs.Texts.{TEXT_MAX, gathered_for, gathered_in}
use lib.ListN.{length}
use native.Mathlib.Omega.{arith}
use Rattle.viewing.proofs.gather.Goals as goal

pub returns-then-text-gt-TEXT_MAX : goal.returns-then-text-gt-TEXT_MAX
unfolding gathered_for gathered_in TEXT_MAX
returns-then-text-gt-TEXT_MAX c =
    let text = c.args.text.now in
    rw (lt-ltb TEXT_MAX (length text) c.if-text-gt-TEXT_MAX.true) (record { value = (refl, tt); out_after = refl })

pub returns-then-out-le-TEXT_MAX : goal.returns-then-out-le-TEXT_MAX
unfolding gathered_for gathered_in TEXT_MAX
returns-then-out-le-TEXT_MAX c =
    let a = c.args in
    rw (le-ltb TEXT_MAX (length a.text.now) c.if-text-gt-TEXT_MAX.false, le-leb (length a.out.now) TEXT_MAX c.if-out-le-TEXT_MAX.true) (record { value = (refl, tt); out_after = refl })

pub returns : goal.returns
unfolding gathered_for gathered_in TEXT_MAX
returns c = rw (le-ltb _ _ c.if-text-gt-TEXT_MAX.false, lt-leb _ _ c.if-out-le-TEXT_MAX.false, c.lay_list.ensures.value.0) (record { value = (refl, omega (arith, c.lay_list.ensures.value.1, c.if-text-gt-TEXT_MAX.false)); out_after = c.lay_list.ensures.out_after })

pub lay_list-requires : goal.lay_list-requires
lay_list-requires c = omega (arith, c.if-out-le-TEXT_MAX.false, c.if-text-gt-TEXT_MAX.false)
