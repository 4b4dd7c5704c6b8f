-- The laws of a message that is sent PDU by PDU: what is left of it always leads to the same end.
-- Assumes nothing.
use mathlib.Core.Path.{◌≡◌, refl, ap, ◌∙◌}
use mathlib.Core.Bool.{cond}
use mathlib.Core.List.{List, []}
use Prim.Native.Nat.{ℕ, zero, suc, ◌+◌, ◌-◌, ◌*◌, ◌≤◌, ◌<◌}
use native.Mathlib.Omega.{arith}
use borrow.Author.Tests.{lt-ltb, le-ltb}
use lib.Dec.{ltb}
use lib.ListN.{length, length-append}
use Rattle.paper.specs.Sizes.{MESSAGE_MAX}
use Rattle.lists.specs.Bytes.{laid}
use Rattle.lists.proofs.Laid.{laid_behind, length_laid}
use Rattle.lines.specs.Lines.{MESSAGE_LINE_MAX}
use Rattle.saying.specs.declared.End.{End}
use Rattle.linking.specs.declared.Ends.{Ends}
use Rattle.linking.specs.declared.Crossed.{Crossed}
use Rattle.linking.specs.Linking.{Both, with_store, Goes, stays, then, CALL_MAX, sends_one, sends_up, PIECES, STEP_MAX, Crosses}

-- sending has come to a place of the output: what is left of it leads to the same end
pub record Left (whole : Goes) (out₀ out : List ℕ) (used left : ℕ) (rest : Goes) : Type 0 where
  pub same_room : length out ≡ length out₀
  pub bounded : used + left * (2 * CALL_MAX) ≤ STEP_MAX
  pub end : rest.both ≡ whole.both
  pub many : used + length rest.text ≡ length whole.text
  pub lines : laid out used rest.text ≡ laid out₀ 0 whole.text

-- before the first PDU all is left
pub begins : (whole : Goes) (out : List ℕ) (count : ℕ) → count ≤ PIECES → Left whole out out 0 count whole
unfolding STEP_MAX CALL_MAX MESSAGE_LINE_MAX MESSAGE_MAX
begins whole out count h =
    record { same_room = refl; bounded = omega arith; end = refl; many = omega arith; lines = refl }

-- one thing on
step_on : (whole : Goes) (out₀ out : List ℕ) (used left : ℕ) (g : Goes) (next : Both → Goes) → 0 < left → length g.text ≤ 2 * CALL_MAX
    → Left whole out₀ out used left (then g next) → Left whole out₀ (laid out used g.text) (used + length g.text) (left - 1) (next g.both)
unfolding then STEP_MAX CALL_MAX MESSAGE_LINE_MAX MESSAGE_MAX
step_on whole out₀ out used left g next some fits h =
    record {
      same_room = length_laid out used g.text ∙ h.same_room;
      bounded = omega (arith, h.bounded);
      end = h.end;
      many = omega (arith, h.many, length-append g.text (next g.both).text);
      lines = laid_behind out used g.text (next g.both).text ∙ h.lines;
    }

nothing_laid : (l : List ℕ) (at : ℕ) → l ≡ laid l at []
unfolding laid
nothing_laid l at = refl

-- where nothing is left sending has ended
pub stopped : (whole : Goes) (out₀ out : List ℕ) (used left : ℕ) (ends : Ends) (store : List ℕ) → Left whole out₀ out used left (stays (with_store ends store))
    → Crosses whole STEP_MAX out₀ (record { ends = ends; laid = used }) store out
stopped whole out₀ out used left ends store h =
    record {
      ends = ap (λ (b : Both). b.ends) h.end;
      length_laid = omega (arith, h.many);
      fits = omega (arith, h.bounded);
      stored = ap (λ (b : Both). b.store) h.end;
      lines = nothing_laid out used ∙ h.lines;
    }

-- with a PDU left to send, it is sent
more_left : (left : ℕ) (from : End) (list : List ℕ) (place n : ℕ) (message : List ℕ) (at : ℕ) (b : Both) → 0 < left
    → sends_up left from list place n message at b ≡ then (sends_one from list place n message at b).goes (λ after. cond (ltb (sends_one from list place n message at b).next (length message)) (sends_up (left - 1) from list place n message (sends_one from list place n message at b).next after) (stays after))
unfolding sends_up
more_left zero from list place n message at b h = absurd (omega arith)
more_left (suc k) from list place n message at b h = let e : suc k - 1 ≡ k = omega arith in rw e

-- with none left, nothing is
pub none_left : (from : End) (list : List ℕ) (place n : ℕ) (message : List ℕ) (at : ℕ) (b : Both) (left : ℕ) → left ≡ 0
    → sends_up left from list place n message at b ≡ stays b
unfolding sends_up
none_left from list place n message at b left h = rw h

pub goes_on_law : (from : End) (list : List ℕ) (place n : ℕ) (message : List ℕ) (whole : Goes) (out₀ out : List ℕ) (used left at : ℕ) (b : Both)
    {next : ℕ} {r : Crossed} {store' lent part out' : List ℕ}
    → 0 < left → Left whole out₀ out used left (sends_up left from list place n message at b)
    → next ≡ (sends_one from list place n message at b).next
    → Crosses (sends_one from list place n message at b).goes (2 * CALL_MAX) lent r store' part
    → out' ≡ laid out used (sends_one from list place n message at b).goes.text
    → next < length message
    → Left whole out₀ out' (used + r.laid) (left - 1) (sends_up (left - 1) from list place n message next (with_store r.ends store'))
goes_on_law from list place n message whole out₀ out used left at b {next} {r} some h to did lines more =
    let one = sends_one from list place n message at b in
    let first = rw (more_left left from list place n message at b some) at h in
    let fits = rw did.length_laid at did.fits in
    let on = step_on whole out₀ out used left one.goes _ some fits first in
    rw (lines, did.length_laid, did.ends, did.stored, to) (rw (lt-ltb one.next (length message) (rw to at more)) at on)

pub comes_to_end : (from : End) (list : List ℕ) (place n : ℕ) (message : List ℕ) (whole : Goes) (out₀ out : List ℕ) (used left at : ℕ) (b : Both)
    {next : ℕ} {r : Crossed} {store' lent part out' : List ℕ}
    → 0 < left → Left whole out₀ out used left (sends_up left from list place n message at b)
    → next ≡ (sends_one from list place n message at b).next
    → Crosses (sends_one from list place n message at b).goes (2 * CALL_MAX) lent r store' part
    → out' ≡ laid out used (sends_one from list place n message at b).goes.text
    → length message ≤ next
    → Crosses whole STEP_MAX out₀ (record { ends = r.ends; laid = used + r.laid }) store' out'
comes_to_end from list place n message whole out₀ out used left at b {next} {r} {store'} some h to did lines none =
    let one = sends_one from list place n message at b in
    let first = rw (more_left left from list place n message at b some) at h in
    let fits = rw did.length_laid at did.fits in
    let on = step_on whole out₀ out used left one.goes _ some fits first in
    let end = rw (le-ltb one.next (length message) (rw to at none)) at on in
    rw (lines, did.length_laid, did.ends, did.stored) (stopped whole out₀ _ _ (left - 1) one.goes.both.ends one.goes.both.store end)
