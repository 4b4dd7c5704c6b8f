-- `rules::field_rule` meets its contract: each test is a row's, and the fields' rows are told by the kind of PDU.
use mathlib.Core.Path.{◌≡◌, sym, ◌∙◌}
use mathlib.Core.Bool.{false}
use borrow.Author.Tests.{lt-ltb, le-ltb, ne_eqb, eqb-true}
use Rattle.paper.specs.declared.Refusal.TheVariants.{BadField}
use Rattle.rules.proofs.Rules.{bad_width, version_of, version_is, is_empty_law, is_cb_id, is_width}
use Rattle.rules.proofs.Rules.{is_left_over, short_caps, is_pad, is_version, left_in_caps}
use native.Mathlib.Omega.{arith}
use Rattle.rules.proofs.field_rule.Goals as goal
use Rattle.rules.proofs.field_rule.Goals.{else-cmd-eq-DATA_FIRST-via-then-cmd-eq-DATA_FIRST+else-pdu-eq3, else-cmd-eq-DATA_FIRST-via-else-cmd-eq-DATA_FIRST, then-pdu-lt4-via-then-pdu-lt4, then-pdu-lt4-via-else-pdu-lt4+then-pdu-ne0, then-version-lt1-via-then-version-lt1, then-version-lt1-via-else-version-lt1+then-version-gt3}

pub returns-then-is_empty : goal.returns-then-is_empty
returns-then-is_empty c = is_empty_law BadField c.args.pdu.now (eqb-true _ 0 (sym c.is_empty.ensures ∙ c.if-is_empty.true))

pub returns-then-bad_cb_id : goal.returns-then-bad_cb_id
returns-then-bad_cb_id c = is_cb_id c.args.pdu.now (sym c.bad_cb_id.ensures ∙ c.if-bad_cb_id.true)

pub returns-then-pdu-eq3 : goal.returns-then-pdu-eq3
returns-then-pdu-eq3 c =
    is_width c.args.pdu.now (sym c.bad_cb_id.ensures ∙ c.if-bad_cb_id.false) (rw (c.if-cmd-eq-DATA_FIRST.true, c.if-pdu-eq3.true))

pub returns-then-cmd-ne-CAPABILITIES : goal.returns-then-cmd-ne-CAPABILITIES
returns-then-cmd-ne-CAPABILITIES c =
    let good_width : bad_width c.args.pdu.now ≡ false = elim c.else-cmd-eq-DATA_FIRST.branch [ else-cmd-eq-DATA_FIRST-via-then-cmd-eq-DATA_FIRST+else-pdu-eq3 w ↦ rw (w.if-cmd-eq-DATA_FIRST.true, ne_eqb _ _ w.if-pdu-eq3.false) | else-cmd-eq-DATA_FIRST-via-else-cmd-eq-DATA_FIRST w ↦ rw (ne_eqb _ _ w.if-cmd-eq-DATA_FIRST.false) ] in
    is_left_over c.args.pdu.now (sym c.bad_cb_id.ensures ∙ c.if-bad_cb_id.false) good_width c.if-cmd-ne-CAPABILITIES.true

pub returns-then-pdu-lt4 : goal.returns-then-pdu-lt4
returns-then-pdu-lt4 c =
    let good = sym c.bad_cb_id.ensures ∙ c.if-bad_cb_id.false in
    elim c.then-pdu-lt4.branch [
      | then-pdu-lt4-via-then-pdu-lt4 w ↦ short_caps c.args.pdu.now good c.if-cmd-ne-CAPABILITIES.false w.if-pdu-lt4.true
      | then-pdu-lt4-via-else-pdu-lt4+then-pdu-ne0 w ↦ is_pad c.args.pdu.now good c.if-cmd-ne-CAPABILITIES.false w.if-pdu-lt4.false w.if-pdu-ne0.true
    ]

pub returns-then-version-lt1 : goal.returns-then-version-lt1
returns-then-version-lt1 c =
    let good = sym c.bad_cb_id.ensures ∙ c.if-bad_cb_id.false in
    let version : c.number-version.result ≡ version_of c.args.pdu.now = c.number-version.ensures ∙ version_is c.args.pdu.now in
    let behind = is_version c.args.pdu.now good c.if-cmd-ne-CAPABILITIES.false c.if-pdu-lt4.false c.if-pdu-ne0.false in
    elim c.then-version-lt1.branch [
      | then-version-lt1-via-then-version-lt1 w ↦ behind (rw (← version, lt-ltb _ _ w.if-version-lt1.true))
      | then-version-lt1-via-else-version-lt1+then-version-gt3 w ↦ behind (rw (← version, le-ltb _ _ w.if-version-lt1.false, lt-ltb 3 c.number-version.result w.if-version-gt3.true))
    ]

pub returns : goal.returns
returns c =
    let version : c.number-version.result ≡ version_of c.args.pdu.now = c.number-version.ensures ∙ version_is c.args.pdu.now in
    left_in_caps c.args.pdu.now (sym c.bad_cb_id.ensures ∙ c.if-bad_cb_id.false) c.if-cmd-ne-CAPABILITIES.false c.if-pdu-lt4.false c.if-pdu-ne0.false
    (rw (← version, le-ltb _ _ c.if-version-lt1.false, le-ltb 3 c.number-version.result (omega arith)))
