-- The rule named first is the first row that holds, and its number is the refusal's. Which rule of reading's it is can be told
-- by the refusal and few of the bytes.
-- Assumes nothing.
use Rattle.std.proofs.Common.{Option, None, Some}
use Rattle.std.specs.Bool.{then_some}
use Prim.Native.Nat.{ℕ, zero, suc, ◌/◌, ◌%◌, ◌≤◌, ◌<◌}
use native.Mathlib.Omega.{arith}
use mathlib.Core.Path.{◌≡◌, refl, sym, ap, ◌∙◌}
use mathlib.Core.Logic.{◌≢◌}
use mathlib.Core.Bool.{Bool, true, false, cond, not, ◌&&◌, ◌||◌}
use mathlib.Core.List.{List, [], ◌∷◌, ◌++◌, append-nil, map}
use borrow.Author.Tests.{lt-ltb, ltb-false, eq-eqb, ne_eqb, eqb-true, eqb-false}
use lib.Dec.{eqb, ltb}
use lib.ListN.{length, take, drop, get_or, length-take, length-drop}
use lib.Seq.{take_all, drop-drop, drop-cons}
use Rattle.paper.specs.Refusals.{refusal_number}
use Rattle.paper.specs.Commands.{CREATE, DATA_FIRST, DATA, CLOSE, CAPABILITIES}
use Rattle.paper.specs.declared.Refusal.{Refusal}
use Rattle.paper.specs.declared.Refusal.TheVariants.{CutShort, TooLong, NoCommand, BadField}
use Rattle.paper.specs.Rows.{Verdict, fine, refused_with, verdict_number, Row, row, first_held}
use Rattle.lists.proofs.Cases.{choice, neither, true_not_false}
use Rattle.numbers.specs.Numbers.{little, value_of, width_of}
use Rattle.reading.specs.Reading.{read_pdu}
use Rattle.reading.specs.Said.{verdict_on}
use Rattle.reading.specs.Layouts.{Field, any, Tail, no_more, any_bytes, a_name, Layout, layout, pad, version_field, charges, layout_of}
use Rattle.reading.specs.Layouts.{rows_of_tail, rows_of_fields, bad_cb_id, rows_of_bytes, reading_rows}
use Rattle.reading.specs.declared.Pdu.{Pdu}
use Rattle.reading.specs.declared.Pdu.TheVariants.{CreateRequest, CreateResponse, DataFirst, Data, Close}
use Rattle.reading.specs.declared.Pdu.TheVariants.{CapsRequest, CapsResponse, Refused}
use Rattle.reading.proofs.Layouts.{reading_refusals}
use Rattle.table.specs.declared.Table.{Table}
use Rattle.table.specs.declared.Found.{Found}
use Rattle.table.specs.Table.{number_place, found_in}
use Rattle.steps.specs.Rows.{stage_of, rows_of}
use Rattle.rules.specs.declared.Rule.{Rule}
use Rattle.rules.specs.declared.Rule.TheVariants.{Empty, Long, Command, CbId, LengthWidth, Ended, Pad, Version, LeftOver}
use Rattle.rules.specs.Rules.{refusal_of, names_of_tail, value_name, names_of_fields, names_of_layout, reading_names, names_of, Named}
use Rattle.rules.specs.Rules.{beside, reading_rules, step_rules, the_rules, first_of, verdict_by}

-- ---- each name's refusal is its row's

abbrev pub Agree : List Rule → List Row → Type 0
Agree [] [] = Unit {0}
Agree [] (r ∷ rows) = ⊥
Agree (name ∷ names) [] = ⊥
Agree (name ∷ names) (r ∷ rows) = (refusal_of name ≡ r.refusal) × Agree names rows

tails_agree : (rest : List ℕ) (t : Tail) → Agree (names_of_tail t) (rows_of_tail rest t)
unfolding names_of_tail rows_of_tail refusal_of
tails_agree rest no_more = (refl, tt)
tails_agree rest any_bytes = tt
tails_agree rest a_name = (refl, (refl, tt))

value_agrees : (before : ℕ) → refusal_of (value_name before) ≡ BadField
unfolding value_name refusal_of
value_agrees zero = refl
value_agrees (suc before) = refl

fields_agree :
    (before : ℕ) (rest : List ℕ) (fs : List Field) (t : Tail) → Agree (names_of_fields before fs t) (rows_of_fields rest fs t)
unfolding names_of_fields rows_of_fields refusal_of
fields_agree before rest [] t = tails_agree rest t
fields_agree before rest (f ∷ fs) t = (refl, (value_agrees before, fields_agree (suc before) (drop f.width rest) fs t))

reading_agrees : (pdu : List ℕ) → Agree (reading_names true pdu) (reading_rows true pdu)
unfolding reading_names names_of_layout reading_rows rows_of_bytes refusal_of
reading_agrees pdu = (refl, (refl, (refl, (refl, (refl, fields_agree 0 _ _ _)))))

steps_agree : (t : Table) (list : List ℕ) (p : Pdu) → Agree (names_of p) (rows_of t list p)
unfolding names_of rows_of refusal_of
steps_agree t list (CapsRequest version charges) = (refl, tt)
steps_agree t list (CreateRequest n class name) = (refl, (refl, (refl, tt)))
steps_agree t list (DataFirst n len block) = (refl, (refl, (refl, (refl, (refl, (refl, tt))))))
steps_agree t list (Data n block) = (refl, (refl, (refl, (refl, tt))))
steps_agree t list (Close n) = (refl, tt)
steps_agree t list (CreateResponse n status) = (refl, tt)
steps_agree t list (CapsResponse version) = (refl, tt)
steps_agree t list (Refused why) = tt

-- so the first name is that of the first row, in one list and in two behind one another
here : (t : Bool) (name : Rule) (why : Refusal) (v : Verdict) (b : Option Rule) → refusal_of name ≡ why → v ≡ verdict_by b
    → cond t (refused_with why) v ≡ verdict_by (cond t (Some name) b)
unfolding verdict_by
here true name why v b e f = ap refused_with (sym e)
here false name why v b e f = f

one_list : (names : List Rule) (rows : List Row) → Agree names rows → first_held rows ≡ verdict_by (first_of (beside names rows))
unfolding first_held first_of beside verdict_by
one_list [] [] a = refl
one_list [] (r ∷ rows) a = absurd a
one_list (name ∷ names) [] a = absurd a
one_list (name ∷ names) (r ∷ rows) a = here r.holds name r.refusal _ _ a.0 (one_list names rows a.1)

two_lists :
    (names : List Rule) (rows : List Row) (names2 : List Rule) (rows2 : List Row) → Agree names rows → Agree names2 rows2
    → first_held (rows ++ rows2) ≡ verdict_by (first_of (beside names rows ++ beside names2 rows2))
unfolding first_held first_of beside
two_lists [] [] names2 rows2 a b = one_list names2 rows2 b
two_lists [] (r ∷ rows) names2 rows2 a b = absurd a
two_lists (name ∷ names) [] names2 rows2 a b = absurd a
two_lists (name ∷ names) (r ∷ rows) names2 rows2 a b =
    here r.holds name r.refusal _ _ a.0 (two_lists names rows names2 rows2 a.1 b)

-- the rule named first is the first row that holds, and its number is the refusal's
pub verdict_of_rules :
    (t : Table) (list pdu : List ℕ)
    → first_held (reading_rows true pdu ++ rows_of t list (read_pdu true pdu)) ≡ verdict_by (first_of (the_rules t list pdu))
unfolding the_rules reading_rules step_rules
verdict_of_rules t list pdu = two_lists _ _ _ _ (reading_agrees pdu) (steps_agree t list (read_pdu true pdu))

-- ---- reading's rules decide where reading refuses, else those of the steps

none_named : (names : List Rule) (rows : List Row) → first_held rows ≡ fine → first_of (beside names rows) ≡ None
unfolding first_held first_of beside
none_named [] rows e = refl
none_named (name ∷ names) [] e = refl
none_named (name ∷ names) (r ∷ rows) e = go r.holds e (none_named names rows)
  where
    go :
        (t : Bool) → cond t (refused_with r.refusal) (first_held rows) ≡ fine
        → (first_held rows ≡ fine → first_of (beside names rows) ≡ None)
        → cond t (Some name) (first_of (beside names rows)) ≡ None
    go true e later = cc
    go false e later = later e

first_behind : (xs ys : List Named) → first_of xs ≡ None → first_of (xs ++ ys) ≡ first_of ys
unfolding first_of
first_behind [] ys e = refl
first_behind (x ∷ xs) ys e = go x.row.holds e (first_behind xs ys)
  where
    go :
        (t : Bool) → cond t (Some x.name) (first_of xs) ≡ None → (first_of xs ≡ None → first_of (xs ++ ys) ≡ first_of ys)
        → cond t (Some x.name) (first_of (xs ++ ys)) ≡ first_of ys
    go true e later = cc
    go false e later = later e

-- what reading says of a PDU that was read, or refused
pub read_so : (pdu : List ℕ) (p : Pdu) → read_pdu true pdu ≡ p → first_held (reading_rows true pdu) ≡ verdict_on p
read_so pdu p e = sym (reading_refusals true pdu) ∙ ap verdict_on e

module _ (t : Table) (list pdu : List ℕ) where
  pub once_read :
      (p : Pdu) → read_pdu true pdu ≡ p → verdict_on p ≡ fine → first_of (the_rules t list pdu) ≡ first_of (step_rules t list p)
  unfolding the_rules reading_rules
  once_read p e f =
      rw e (first_behind (beside (reading_names true pdu) (reading_rows true pdu)) (step_rules t list p)
      (none_named (reading_names true pdu) (reading_rows true pdu) (read_so pdu p e ∙ f)))

  pub not_read : (why : Refusal) → read_pdu true pdu ≡ Refused why → first_of (the_rules t list pdu) ≡ first_of (reading_rules pdu)
  unfolding the_rules step_rules names_of rows_of beside
  not_read why e = rw (e, append-nil)

-- ---- what is found in the table

pub found_place : (n : ℕ) (t : Table) (f : Found) → f ≡ found_in n t → f.place ≡ number_place n t
unfolding found_in
found_place n t f e = rw e

pub found_stage : (n : ℕ) (t : Table) (f : Found) → f ≡ found_in n t → stage_of t n ≡ f.row.stage
unfolding found_in stage_of
found_stage n t f e = rw e

-- ---- which rule it is, where the refusal is known

-- the first rule, where the first row that holds is of a refusal
abbrev pub First : Refusal → Option Rule → List Rule → List Row → Type 0
First why b names rows = first_held rows ≡ refused_with why → b ≡ first_of (beside names rows)

-- two refusals that differ
abbrev pub Apart : Refusal → Refusal → Type 0
Apart other why = eqb (refusal_number other) (refusal_number why) ≡ false

differ : (other why : Refusal) → Apart other why → refused_with other ≡ refused_with why → ⊥
differ other why apart e = eqb-false (refusal_number other) (refusal_number why) apart (ap verdict_number e)

module _ (why : Refusal) (names : List Rule) (rows : List Row) where
  -- a row that holds is it
  held : (name : Rule) (other : Refusal) (t : Bool) → t ≡ true → First why (Some name) (name ∷ names) (row other t ∷ rows)
  unfolding first_held first_of beside
  held name other t e h = rw e

  -- one that doesn't is passed
  passed :
      (b : Option Rule) (name : Rule) (other : Refusal) (t : Bool) → t ≡ false → First why b names rows
      → First why b (name ∷ names) (row other t ∷ rows)
  unfolding first_held first_of beside
  passed b name other t e later h = rw e (later (rw e at h))

  -- one of another refusal doesn't hold
  other_row :
      (b : Option Rule) (name : Rule) (other : Refusal) (t : Bool) → Apart other why → (t ≡ false → First why b names rows)
      → First why b (name ∷ names) (row other t ∷ rows)
  unfolding first_held first_of beside
  other_row b name other true apart later h = absurd (differ other why apart h)
  other_row b name other false apart later h = later refl h

  -- one with the name that is sought may hold or not
  named_row :
      (name : Rule) (other : Refusal) (t : Bool) → (t ≡ false → First why (Some name) names rows)
      → First why (Some name) (name ∷ names) (row other t ∷ rows)
  unfolding first_held first_of beside
  named_row name other true later h = refl
  named_row name other false later h = later refl h

none_left : (why : Refusal) (b : Option Rule) (names : List Rule) → First why b names []
unfolding first_held
none_left why b names h = let z : ◌≡◌ {A = ℕ} 0 1 = cc in absurd (omega arith)

-- fields hold only with 2, and the name Ended, or with 5
ended_fields :
    (before : ℕ) (rest : List ℕ) (fs : List Field) (t : Tail)
    → First CutShort (Some Ended) (names_of_fields before fs t) (rows_of_fields rest fs t)
unfolding names_of_fields rows_of_fields names_of_tail rows_of_tail
ended_fields before rest [] no_more = other_row CutShort _ _ _ _ _ _ refl (λ e. none_left CutShort _ [])
ended_fields before rest [] any_bytes = none_left CutShort _ []
ended_fields before rest [] a_name =
    named_row CutShort _ _ _ _ _ (λ e. other_row CutShort _ _ _ _ _ _ refl (λ f. none_left CutShort _ []))
ended_fields before rest (f ∷ fs) t =
    named_row CutShort _ _ _ _ _
    (λ e. other_row CutShort _ _ _ _ _ _ refl (λ g. ended_fields (suc before) (drop f.width rest) fs t))

module _ (why : Refusal) (b : Option Rule) (no_cut : Apart CutShort why) (no_field : Apart BadField why) where
  no_fields :
      (before : ℕ) (rest : List ℕ) (fs : List Field) (t : Tail) → First why b (names_of_fields before fs t) (rows_of_fields rest fs t)
  unfolding names_of_fields rows_of_fields names_of_tail rows_of_tail
  no_fields before rest [] no_more = other_row why _ _ _ _ _ _ no_field (λ e. none_left why _ [])
  no_fields before rest [] any_bytes = none_left why _ []
  no_fields before rest [] a_name =
      other_row why _ _ _ _ _ _ no_cut (λ e. other_row why _ _ _ _ _ _ no_field (λ f. none_left why _ []))
  no_fields before rest (f ∷ fs) t =
      other_row why _ _ _ _ _ _ no_cut
      (λ e. other_row why _ _ _ _ _ _ no_field (λ g. no_fields (suc before) (drop f.width rest) fs t))

-- fields of any value hold with 5 only where bytes are left over
any_fields :
    (ws : List ℕ) (before : ℕ) (rest : List ℕ) (t : Tail)
    → First BadField (Some LeftOver) (names_of_fields before (map any ws) t) (rows_of_fields rest (map any ws) t)
unfolding names_of_fields rows_of_fields names_of_tail rows_of_tail
any_fields [] before rest no_more = named_row BadField _ _ _ _ _ (λ e. none_left BadField _ [])
any_fields [] before rest any_bytes = none_left BadField _ []
any_fields [] before rest a_name =
    other_row BadField _ _ _ _ _ _ refl (λ e. named_row BadField _ _ _ _ _ (λ f. none_left BadField _ []))
any_fields (w ∷ ws) before rest t =
    other_row BadField _ _ _ _ _ _ refl
    (λ e. passed BadField _ _ _ _ _ _ refl (any_fields ws (suc before) (drop w rest) t))

-- ---- which of reading's rules it is

-- the first of reading's rules, where reading refuses so
abbrev pub Leads : Refusal → Option Rule → List ℕ → Type 0
Leads why b pdu = first_held (reading_rows true pdu) ≡ refused_with why → b ≡ first_of (reading_rules pdu)

pub is_empty_law : (why : Refusal) (pdu : List ℕ) → length pdu ≡ 0 → Leads why (Some Empty) pdu
unfolding reading_rules reading_names names_of_layout reading_rows rows_of_bytes
is_empty_law why pdu e = held why _ _ _ _ _ (eq-eqb (length pdu) 0 e)

pub is_ended : (pdu : List ℕ) → (length pdu ≡ 0 → ⊥) → Leads CutShort (Some Ended) pdu
unfolding reading_rules reading_names names_of_layout reading_rows rows_of_bytes
is_ended pdu some =
    passed CutShort _ _ _ _ _ _ (ne_eqb (length pdu) 0 some)
    (other_row CutShort _ _ _ _ _ _ refl
    (λ e. other_row CutShort _ _ _ _ _ _ refl
    (λ f. other_row CutShort _ _ _ _ _ _ refl
    (λ g. other_row CutShort _ _ _ _ _ _ refl (λ h. ended_fields 0 _ _ _)))))

pub is_long : (pdu : List ℕ) → Leads TooLong (Some Long) pdu
unfolding reading_rules reading_names names_of_layout reading_rows rows_of_bytes
is_long pdu =
    other_row TooLong _ _ _ _ _ _ refl
    (λ d. named_row TooLong _ _ _ _ _
    (λ e. other_row TooLong _ _ _ _ _ _ refl
    (λ f. other_row TooLong _ _ _ _ _ _ refl
    (λ g. other_row TooLong _ _ _ _ _ _ refl (λ h. no_fields TooLong _ refl refl 0 _ _ _)))))

pub is_command : (pdu : List ℕ) → Leads NoCommand (Some Command) pdu
unfolding reading_rules reading_names names_of_layout reading_rows rows_of_bytes
is_command pdu =
    other_row NoCommand _ _ _ _ _ _ refl
    (λ d. other_row NoCommand _ _ _ _ _ _ refl
    (λ e. named_row NoCommand _ _ _ _ _
    (λ f. other_row NoCommand _ _ _ _ _ _ refl
    (λ g. other_row NoCommand _ _ _ _ _ _ refl (λ h. no_fields NoCommand _ refl refl 0 _ _ _)))))

-- reading refuses with no other than these and 5
pub never :
    (why : Refusal) (b : Option Rule) (pdu : List ℕ) → Apart CutShort why → Apart TooLong why → Apart NoCommand why → Apart BadField why
    → Leads why b pdu
unfolding reading_rules reading_names names_of_layout reading_rows rows_of_bytes
never why b pdu no_cut no_length no_command no_field =
    other_row why _ _ _ _ _ _ no_cut
    (λ d. other_row why _ _ _ _ _ _ no_length
    (λ e. other_row why _ _ _ _ _ _ no_command
    (λ f. other_row why _ _ _ _ _ _ no_field
    (λ g. other_row why _ _ _ _ _ _ no_field (λ h. no_fields why _ no_cut no_field 0 _ _ _)))))

-- ---- and with 5

abbrev pub cmd_of : List ℕ → ℕ
cmd_of pdu = get_or pdu 0 0 / 16

abbrev pub middle_of : List ℕ → ℕ
middle_of pdu = get_or pdu 0 0 / 4 % 4

abbrev pub cb_id_of : List ℕ → ℕ
cb_id_of pdu = get_or pdu 0 0 % 4

abbrev pub bad_width : List ℕ → Bool
bad_width pdu = eqb (cmd_of pdu) DATA_FIRST && eqb (middle_of pdu) 3

abbrev pub version_of : List ℕ → ℕ
version_of pdu = little (take 2 (drop 2 pdu))

pub version_is : (pdu : List ℕ) → value_of (take 2 (drop 2 pdu)) ≡ version_of pdu
unfolding value_of
version_is pdu = ap little (take_all 4 (take 2 (drop 2 pdu)) (simp length-take (omega arith)))

-- the fields' rules alone
abbrev InFields : Option Rule → List ℕ → Layout → Type 0
InFields b pdu l = First BadField b (names_of_fields 0 l.fields l.tail) (rows_of_fields (drop 1 pdu) l.fields l.tail)

pub is_cb_id : (pdu : List ℕ) → bad_cb_id (cmd_of pdu) (cb_id_of pdu) ≡ true → Leads BadField (Some CbId) pdu
unfolding reading_rules reading_names names_of_layout reading_rows rows_of_bytes
is_cb_id pdu e =
    other_row BadField _ _ _ _ _ _ refl
    (λ f. other_row BadField _ _ _ _ _ _ refl
    (λ g. other_row BadField _ _ _ _ _ _ refl (λ h. held BadField _ _ _ _ _ e)))

module _ (pdu : List ℕ) (good : bad_cb_id (cmd_of pdu) (cb_id_of pdu) ≡ false) where
  pub is_width : bad_width pdu ≡ true → Leads BadField (Some LengthWidth) pdu
  unfolding reading_rules reading_names names_of_layout reading_rows rows_of_bytes
  is_width e =
      other_row BadField _ _ _ _ _ _ refl
      (λ f. other_row BadField _ _ _ _ _ _ refl
      (λ g. other_row BadField _ _ _ _ _ _ refl (λ h. passed BadField _ _ _ _ _ _ good (held BadField _ _ _ _ _ e))))

  in_fields :
      (b : Option Rule) → bad_width pdu ≡ false
      → ((ltb (cmd_of pdu) CREATE || ltb CAPABILITIES (cmd_of pdu)) ≡ false
      → InFields b pdu (layout_of true (cmd_of pdu) (middle_of pdu) (cb_id_of pdu) (version_of pdu)))
      → Leads BadField b pdu
  unfolding reading_rules reading_names names_of_layout reading_rows rows_of_bytes
  in_fields b e later =
      other_row BadField _ _ _ _ _ _ refl
      (λ f. other_row BadField _ _ _ _ _ _ refl
      (λ g. other_row BadField _ _ _ _ _ _ refl
      (λ h. passed BadField _ _ _ _ _ _ good (passed BadField _ _ _ _ _ _ e (later h)))))

  -- all but Capabilities have fields of any value
  pub is_left_over : bad_width pdu ≡ false → (cmd_of pdu ≡ CAPABILITIES → ⊥) → Leads BadField (Some LeftOver) pdu
  unfolding layout_of
  is_left_over e other =
      let w = width_of (cb_id_of pdu) in
      let rest = drop 1 pdu in
      let P = InFields (Some LeftOver) pdu in
      in_fields (Some LeftOver) e
      (λ f. choice P (eqb (cmd_of pdu) CREATE) (λ g. any_fields (w ∷ []) 0 rest a_name)
      (λ g1. choice P (eqb (cmd_of pdu) DATA_FIRST) (λ g. any_fields (w ∷ width_of (middle_of pdu) ∷ []) 0 rest any_bytes)
      (λ g2. choice P (eqb (cmd_of pdu) DATA) (λ g. any_fields (w ∷ []) 0 rest any_bytes)
      (λ g3. choice P (eqb (cmd_of pdu) CLOSE) (λ g. any_fields (w ∷ []) 0 rest no_more)
      (λ g4.
      let within = neither (ltb (cmd_of pdu) CREATE) (ltb CAPABILITIES (cmd_of pdu)) f in
      absurd (other (omega (arith, ltb-false, eqb-false))))))))

  -- ---- Capabilities
  module _ (caps : cmd_of pdu ≡ CAPABILITIES) where
    in_caps :
        (b : Option Rule) → InFields b pdu (layout (pad ∷ version_field ∷ charges (version_of pdu)) no_more) → Leads BadField b pdu
    unfolding layout_of
    in_caps b later = in_fields b (rw caps) (λ e. rw caps later)

    -- Pad or, behind it, the Version isn't ended: where that isn't the first, Pad is
    pub short_caps : length pdu < 4 → Leads BadField (Some Pad) pdu
    unfolding names_of_fields rows_of_fields value_name
    short_caps h =
        in_caps (Some Pad)
        (other_row BadField _ _ _ _ _ _ refl
        (λ e. named_row BadField _ _ _ _ _
        (λ f. other_row BadField _ _ _ _ _ _ refl
        (λ g. absurd (true_not_false (sym (lt-ltb (length (drop 1 (drop 1 pdu))) 2 (simp length-drop (omega arith))) ∙ g))))))

    module _ (four : 4 ≤ length pdu) where
      pad_is : little (take 1 (drop 1 pdu)) ≡ get_or pdu 1 0
      unfolding little
      pad_is = rw (drop-cons pdu 1 0 (omega arith)) (omega arith)

      pub is_pad : (get_or pdu 1 0 ≡ 0 → ⊥) → Leads BadField (Some Pad) pdu
      unfolding names_of_fields rows_of_fields value_name
      is_pad h =
          in_caps (Some Pad)
          (other_row BadField _ _ _ _ _ _ refl (λ e. held BadField _ _ _ _ _ (rw (pad_is, ne_eqb (get_or pdu 1 0) 0 h))))

      module _ (zero-pad : get_or pdu 1 0 ≡ 0) where
        abbrev bad_version : Bool
        bad_version = ltb (version_of pdu) 1 || ltb 3 (version_of pdu)

        behind_pad :
            (b : Option Rule)
            → First BadField b (Version ∷ names_of_fields 2 (charges (version_of pdu)) no_more)
            (row BadField (not (not bad_version)) ∷ rows_of_fields (drop 4 pdu) (charges (version_of pdu)) no_more)
            → Leads BadField b pdu
        unfolding names_of_fields rows_of_fields value_name
        behind_pad b later =
            in_caps b
            (other_row BadField _ _ _ _ _ _ refl
            (λ e. passed BadField _ _ _ _ _ _ (rw (pad_is, zero-pad))
            (other_row BadField _ _ _ _ _ _ refl (λ f. rw (drop-drop 1 1 pdu, drop-drop 2 2 pdu) later))))

        pub is_version : bad_version ≡ true → Leads BadField (Some Version) pdu
        is_version e = behind_pad (Some Version) (held BadField _ _ _ _ _ (rw e))

        pub left_in_caps : bad_version ≡ false → Leads BadField (Some LeftOver) pdu
        left_in_caps e =
            behind_pad (Some LeftOver)
            (passed BadField _ _ _ _ _ _ (rw e)
            (choice (λ fs. First BadField (Some LeftOver) (names_of_fields 2 fs no_more) (rows_of_fields (drop 4 pdu) fs no_more))
            (eqb (version_of pdu) 1) (λ f. any_fields [] 2 (drop 4 pdu) no_more)
            (λ f. any_fields (2 ∷ 2 ∷ 2 ∷ 2 ∷ []) 2 (drop 4 pdu) no_more)))

-- ---- Pad and Version are named of Capabilities alone

module _ (pdu : List ℕ) (rule : Rule) (is-five : refusal_of rule ≡ BadField) (first : first_of (reading_rules pdu) ≡ Some rule) where
  refused_so : first_held (reading_rows true pdu) ≡ refused_with BadField
  unfolding reading_rules verdict_by
  refused_so = one_list _ _ (reading_agrees pdu) ∙ ap verdict_by first ∙ ap refused_with is-five

  -- else it is another
  same_rule : (other : Rule) → Leads BadField (Some other) pdu → rule ≡ other
  same_rule other leads = let same : Some rule ≡ Some other = sym (leads refused_so ∙ first) in cc

  of_capabilities : rule ≢ CbId → rule ≢ LengthWidth → rule ≢ LeftOver → cmd_of pdu ≡ CAPABILITIES
  of_capabilities a b c = go (eqb (cmd_of pdu) CAPABILITIES) refl (bad_cb_id (cmd_of pdu) (cb_id_of pdu)) refl (bad_width pdu) refl
    where
      go :
          (t : Bool) → eqb (cmd_of pdu) CAPABILITIES ≡ t → (u : Bool) → bad_cb_id (cmd_of pdu) (cb_id_of pdu) ≡ u
          → (v : Bool) → bad_width pdu ≡ v → cmd_of pdu ≡ CAPABILITIES
      go true e u f v g = eqb-true (cmd_of pdu) CAPABILITIES e
      go false e true f v g = absurd (a (same_rule CbId (is_cb_id pdu f)))
      go false e false f true g = absurd (b (same_rule LengthWidth (is_width pdu f g)))
      go false e false f false g = absurd (c (same_rule LeftOver (is_left_over pdu f g (eqb-false (cmd_of pdu) CAPABILITIES e))))

pub pad_of_capabilities : (pdu : List ℕ) → first_of (reading_rules pdu) ≡ Some Pad → get_or pdu 0 0 / 16 ≡ CAPABILITIES
unfolding refusal_of
pad_of_capabilities pdu e =
    of_capabilities pdu Pad refl e (λ f. let z : ◌≡◌ {A = ℕ} 0 1 = cc in omega arith)
    (λ f. let z : ◌≡◌ {A = ℕ} 0 1 = cc in omega arith) (λ f. let z : ◌≡◌ {A = ℕ} 0 1 = cc in omega arith)

pub version_of_capabilities : (pdu : List ℕ) → first_of (reading_rules pdu) ≡ Some Version → get_or pdu 0 0 / 16 ≡ CAPABILITIES
unfolding refusal_of
version_of_capabilities pdu e =
    of_capabilities pdu Version refl e (λ f. let z : ◌≡◌ {A = ℕ} 0 1 = cc in omega arith)
    (λ f. let z : ◌≡◌ {A = ℕ} 0 1 = cc in omega arith) (λ f. let z : ◌≡◌ {A = ℕ} 0 1 = cc in omega arith)

-- a rule that is broken where a test holds, and else none
pub where_held : (t : Bool) (rule : Rule) → then_some t rule ≡ cond t (Some rule) None
where_held true rule = refl
where_held false rule = refl
