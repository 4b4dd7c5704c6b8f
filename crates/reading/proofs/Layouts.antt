-- Reading refuses with the first row that holds, and with none exactly if none does: stage by stage of `read_pdu`, whose tests
-- are those of the rows on the bytes that are left.
-- Assumes nothing.
use Prim.Native.Nat.{ℕ, ◌+◌, ◌/◌, ◌%◌, ◌≤◌, ◌<◌}
use native.Mathlib.Omega.{arith}
use mathlib.Core.Path.{◌≡◌, refl, sym, ap, ◌∙◌}
use mathlib.Core.Bool.{Bool, true, false, cond, not, ◌&&◌, ◌||◌}
use mathlib.Core.List.{List, [], ◌∷◌, map}
use borrow.Author.Tests.{lt-ltb, le-ltb, lt-leb, le-leb, ltb-true, ltb-false, eqb-true, eqb-false}
use lib.Dec.{eqb, ltb, leb}
use lib.ListN.{length, take, drop, get_or, length-take, length-drop}
use lib.Seq.{take_all, drop-drop, drop-cons}
use Rattle.paper.specs.Sizes.{PDU_MAX}
use Rattle.paper.specs.Commands.{CREATE, DATA_FIRST, DATA, CLOSE, CAPABILITIES}
use Rattle.paper.specs.declared.Refusal.TheVariants.{CutShort, TooLong, NoCommand, BadField}
use Rattle.lists.specs.Bytes.{is_zero}
use Rattle.lists.proofs.Cases.{choice}
use Rattle.lists.specs.Places.{place}
use Rattle.numbers.specs.Numbers.{little, value_of, value_at, width_of}
use Rattle.paper.proofs.Rows.{held, passed, none_held}
use Rattle.paper.specs.Rows.{Verdict, fine, refused_with, Row, row, first_held}
use Rattle.reading.specs.Reading.{read_pdu, by_command, numbered, bad_length_width, after_number, create_request}
use Rattle.reading.specs.Reading.{named_for, create_response, data_first, closing, capabilities, bad_version}
use Rattle.reading.specs.Reading.{by_version, charged}
use Rattle.reading.specs.declared.Pdu.{Pdu}
use Rattle.reading.specs.declared.Pdu.TheVariants.{CapsRequest, CapsResponse, Refused}
use Rattle.reading.specs.Layouts.{Field, any, Tail, no_more, any_bytes, a_name, pad, version_field}
use Rattle.reading.specs.Layouts.{charges, layout_of, rows_of_tail, rows_of_fields, bad_cb_id}
use Rattle.reading.specs.Layouts.{rows_of_bytes, reading_rows}
use Rattle.reading.specs.Said.{verdict_on}

-- what reading answers is what the rows say
abbrev Reads : List Row → Pdu → Type 0
Reads rows p = verdict_on p ≡ first_held rows

-- tests on the bytes that are left
short_test : (l : List ℕ) (at w : ℕ) → at ≤ length l → ltb (length l) (at + w) ≡ ltb (length (drop at l)) w
short_test l at w h = go (ltb (length (drop at l)) w) refl
  where
    go : (t : Bool) → ltb (length (drop at l)) w ≡ t → ltb (length l) (at + w) ≡ t
    go true e = let k = ltb-true (length (drop at l)) w e in let d = length-drop at l in lt-ltb (length l) (at + w) (omega arith)
    go false e = let k = ltb-false (length (drop at l)) w e in let d = length-drop at l in le-ltb (length l) (at + w) (omega arith)

left_test : (l : List ℕ) (at : ℕ) → ltb at (length l) ≡ ltb 0 (length (drop at l))
left_test l at = go (ltb 0 (length (drop at l))) refl
  where
    go : (t : Bool) → ltb 0 (length (drop at l)) ≡ t → ltb at (length l) ≡ t
    go true e = let k = ltb-true 0 (length (drop at l)) e in let d = length-drop at l in lt-ltb at (length l) (omega arith)
    go false e = let k = ltb-false 0 (length (drop at l)) e in let d = length-drop at l in le-ltb at (length l) (omega arith)

name_test : (a b : ℕ) → leb a b ≡ not (ltb b a)
name_test a b = go (ltb b a) refl
  where
    go : (t : Bool) → ltb b a ≡ t → leb a b ≡ not t
    go true e = lt-leb a b (ltb-true b a e)
    go false e = le-leb a b (ltb-false b a e)

-- a field of any value: it is cut short, or the rest decides
any_short :
    (w : ℕ) (rest : List ℕ) (fs : List Field) (t : Tail) → ltb (length rest) w ≡ true
    → refused_with CutShort ≡ first_held (rows_of_fields rest (any w ∷ fs) t)
unfolding rows_of_fields first_held
any_short w rest fs t e = rw e

any_on :
    (w : ℕ) (rest : List ℕ) (fs : List Field) (t : Tail) (v : Verdict) → ltb (length rest) w ≡ false
    → v ≡ first_held (rows_of_fields (drop w rest) fs t) → v ≡ first_held (rows_of_fields rest (any w ∷ fs) t)
unfolding rows_of_fields first_held
any_on w rest fs t v e f = rw e f

over : (rest : List ℕ) → ltb 0 (length rest) ≡ true → refused_with BadField ≡ first_held (rows_of_fields rest [] no_more)
unfolding rows_of_fields rows_of_tail first_held
over rest e = rw e

none_over : (rest : List ℕ) → ltb 0 (length rest) ≡ false → fine ≡ first_held (rows_of_fields rest [] no_more)
unfolding rows_of_fields rows_of_tail first_held
none_over rest e = rw e

data_over : (rest : List ℕ) → fine ≡ first_held (rows_of_fields rest [] any_bytes)
unfolding rows_of_fields rows_of_tail first_held
data_over rest = refl

-- fields of any value that don't fit
abbrev total : List ℕ → ℕ
total [] = 0
total (w ∷ ws) = w + total ws

some_short :
    (ws : List ℕ) (rest : List ℕ) (t : Tail) → length rest < total ws
    → refused_with CutShort ≡ first_held (rows_of_fields rest (map any ws) t)
some_short [] rest t h = absurd (omega arith)
some_short (w ∷ ws) rest t h = go (ltb (length rest) w) refl (λ k. some_short ws (drop w rest) t k)
  where
    go :
        (u : Bool) → ltb (length rest) w ≡ u
        → (length (drop w rest) < total ws → refused_with CutShort ≡ first_held (rows_of_fields (drop w rest) (map any ws) t))
        → refused_with CutShort ≡ first_held (rows_of_fields rest (any w ∷ map any ws) t)
    go true e later = any_short w rest (map any ws) t e
    go false e later = any_on w rest (map any ws) t (refused_with CutShort) e (later (let d = length-drop w rest in omega (arith, ltb-false (length rest) w e)))

abbrev four : List Field
four = any 2 ∷ any 2 ∷ any 2 ∷ any 2 ∷ []

module _ (pdu : List ℕ) where
  close_rows_law : (number at : ℕ) → Reads (rows_of_fields (drop at pdu) [] no_more) (closing pdu number at)
  unfolding closing
  close_rows_law number at =
      choice (Reads (rows_of_fields (drop at pdu) [] no_more)) (ltb at (length pdu))
      (λ e. over (drop at pdu) (sym (left_test pdu at) ∙ e)) (λ e. none_over (drop at pdu) (sym (left_test pdu at) ∙ e))

  first_rows_law :
      (number width at : ℕ) → at ≤ length pdu
      → Reads (rows_of_fields (drop at pdu) (any width ∷ []) any_bytes) (data_first pdu number width at)
  unfolding data_first
  first_rows_law number width at h =
      choice (Reads (rows_of_fields (drop at pdu) (any width ∷ []) any_bytes)) (ltb (length pdu) (at + width))
      (λ e. any_short width (drop at pdu) [] any_bytes (sym (short_test pdu at width h) ∙ e))
      (λ e. any_on width (drop at pdu) [] any_bytes fine (sym (short_test pdu at width h) ∙ e) (data_over (drop width (drop at pdu))))

  -- what is left behind a field
  left_behind : (at w : ℕ) → ltb (at + w) (length pdu) ≡ ltb 0 (length (drop w (drop at pdu)))
  left_behind at w = left_test pdu (at + w) ∙ ap (λ (l : List ℕ). ltb 0 (length l)) (sym (drop-drop w at pdu))

  status_rows : (number at : ℕ) → at ≤ length pdu → Reads (rows_of_fields (drop at pdu) (any 4 ∷ []) no_more) (create_response pdu number at)
  unfolding create_response
  status_rows number at h =
      choice (Reads (rows_of_fields (drop at pdu) (any 4 ∷ []) no_more)) (ltb (length pdu) (at + 4))
      (λ e. any_short 4 (drop at pdu) [] no_more (sym (short_test pdu at 4 h) ∙ e))
      (λ e. choice (Reads (rows_of_fields (drop at pdu) (any 4 ∷ []) no_more)) (ltb (at + 4) (length pdu))
      (λ f. any_on 4 (drop at pdu) [] no_more (refused_with BadField) (sym (short_test pdu at 4 h) ∙ e) (over (drop 4 (drop at pdu)) (sym (left_behind at 4) ∙ f)))
      (λ f. any_on 4 (drop at pdu) [] no_more fine (sym (short_test pdu at 4 h) ∙ e) (none_over (drop 4 (drop at pdu)) (sym (left_behind at 4) ∙ f))))

  request_rows_law : (number class at : ℕ) → Reads (rows_of_fields (drop at pdu) [] a_name) (create_request pdu number class at)
  unfolding create_request named_for rows_of_fields rows_of_tail
  request_rows_law number class at =
      let rest = drop at pdu in
      let len = place is_zero rest in
      rw (← length-drop at pdu)
      (choice (Reads (rows_of_fields rest [] a_name)) (leb (length rest) len)
      (λ e. held CutShort (not (ltb len (length rest))) _ (sym (name_test (length rest) len) ∙ e))
      (λ e. choice (Reads (rows_of_fields rest [] a_name)) (ltb (len + 1) (length rest))
      (λ f. passed CutShort (not (ltb len (length rest))) _ (refused_with BadField) (sym (name_test (length rest) len) ∙ e) (held BadField (ltb (len + 1) (length rest)) _ f))
      (λ f. passed CutShort (not (ltb len (length rest))) _ fine (sym (name_test (length rest) len) ∙ e) (passed BadField (ltb (len + 1) (length rest)) [] fine f none_held))))

  -- ---- Cmd 1 to 4
  numbered_rows :
      (fromServer : Bool) (cmd middle cbId : ℕ) (fs : List Field) (t : Tail) → 1 ≤ length pdu
      → (1 + width_of cbId ≤ length pdu → Reads (rows_of_fields (drop (1 + width_of cbId) pdu) fs t) (after_number fromServer pdu cmd middle (value_at pdu 1 (width_of cbId)) (1 + width_of cbId)))
      → Reads (row BadField (eqb cbId 3) ∷ row BadField (eqb cmd DATA_FIRST && eqb middle 3) ∷ rows_of_fields (drop 1 pdu) (any (width_of cbId) ∷ fs) t) (numbered fromServer pdu cmd middle cbId)
  unfolding numbered bad_length_width
  numbered_rows fromServer cmd middle cbId fs t some after =
      let w = width_of cbId in
      let rows = rows_of_fields (drop 1 pdu) (any w ∷ fs) t in
      choice (Reads (row BadField (eqb cbId 3) ∷ row BadField (eqb cmd DATA_FIRST && eqb middle 3) ∷ rows)) (eqb cbId 3)
      (λ e. held BadField (eqb cbId 3) _ e)
      (λ e. passed BadField (eqb cbId 3) _ _ e
      (choice (Reads (row BadField (eqb cmd DATA_FIRST && eqb middle 3) ∷ rows)) (eqb cmd DATA_FIRST && eqb middle 3)
      (λ f. held BadField (eqb cmd DATA_FIRST && eqb middle 3) _ f)
      (λ f. passed BadField (eqb cmd DATA_FIRST && eqb middle 3) _ _ f
      (choice (Reads rows) (ltb (length pdu) (1 + w))
      (λ g. any_short w (drop 1 pdu) fs t (sym (short_test pdu 1 w some) ∙ g))
      (λ g. any_on w (drop 1 pdu) fs t _ (sym (short_test pdu 1 w some) ∙ g) (rw (drop-drop w 1 pdu) (after (ltb-false (length pdu) (1 + w) g))))))))

  abbrev rows_behind : Bool → ℕ → ℕ → ℕ → List Row
  rows_behind fromServer cmd middle cbId =
      row NoCommand (ltb cmd CREATE || ltb CAPABILITIES cmd)
      ∷ row BadField (bad_cb_id cmd cbId)
      ∷ row BadField (eqb cmd DATA_FIRST && eqb middle 3)
      ∷ rows_of_fields (drop 1 pdu) (layout_of fromServer cmd middle cbId (little (take 2 (drop 2 pdu)))).fields (layout_of fromServer cmd middle cbId (little (take 2 (drop 2 pdu)))).tail

  module _ (middle cbId : ℕ) (some : 1 ≤ length pdu) where
    request_all : Reads (rows_behind true CREATE middle cbId) (by_command true pdu CREATE middle cbId)
    unfolding layout_of bad_cb_id by_command after_number
    request_all = passed NoCommand false _ _ refl (numbered_rows true CREATE middle cbId [] a_name some (λ h. request_rows_law (value_at pdu 1 (width_of cbId)) middle (1 + width_of cbId)))

    response_all : Reads (rows_behind false CREATE middle cbId) (by_command false pdu CREATE middle cbId)
    unfolding layout_of bad_cb_id by_command after_number
    response_all = passed NoCommand false _ _ refl (numbered_rows false CREATE middle cbId (any 4 ∷ []) no_more some (λ h. status_rows (value_at pdu 1 (width_of cbId)) (1 + width_of cbId) h))

    first_all :
        (fromServer : Bool) → Reads (rows_behind fromServer DATA_FIRST middle cbId) (by_command fromServer pdu DATA_FIRST middle cbId)
    unfolding layout_of bad_cb_id by_command after_number
    first_all fromServer = passed NoCommand false _ _ refl (numbered_rows fromServer DATA_FIRST middle cbId (any (width_of middle) ∷ []) any_bytes some (λ h. first_rows_law (value_at pdu 1 (width_of cbId)) (width_of middle) (1 + width_of cbId) h))

    data_all : (fromServer : Bool) → Reads (rows_behind fromServer DATA middle cbId) (by_command fromServer pdu DATA middle cbId)
    unfolding layout_of bad_cb_id by_command after_number
    data_all fromServer = passed NoCommand false _ _ refl (numbered_rows fromServer DATA middle cbId [] any_bytes some (λ h. data_over (drop (1 + width_of cbId) pdu)))

    close_all : (fromServer : Bool) → Reads (rows_behind fromServer CLOSE middle cbId) (by_command fromServer pdu CLOSE middle cbId)
    unfolding layout_of bad_cb_id by_command after_number
    close_all fromServer = passed NoCommand false _ _ refl (numbered_rows fromServer CLOSE middle cbId [] no_more some (λ h. close_rows_law (value_at pdu 1 (width_of cbId)) (1 + width_of cbId)))

  -- ---- Capabilities
  version : ℕ
  version = little (take 2 (drop 2 pdu))

  version_is : value_at pdu 2 2 ≡ version
  unfolding version value_at value_of
  version_is = ap little (take_all 4 (take 2 (drop 2 pdu)) (simp length-take (omega arith)))

  pad_is : 2 ≤ length pdu → get_or pdu 1 0 ≡ little (take 1 (drop 1 pdu))
  unfolding little
  pad_is h = rw (drop-cons pdu 1 0 h) (omega arith)

  -- the charges, behind a good version
  one_charge :
      (at : ℕ) (fs : List Field) (v : Verdict) → at + 2 ≤ length pdu → v ≡ first_held (rows_of_fields (drop (at + 2) pdu) fs no_more)
      → v ≡ first_held (rows_of_fields (drop at pdu) (any 2 ∷ fs) no_more)
  one_charge at fs v h e = any_on 2 (drop at pdu) fs no_more v (le-ltb (length (drop at pdu)) 2 (let d = length-drop at pdu in omega arith)) (rw (drop-drop 2 at pdu) e)

  charges_rows : 4 ≤ length pdu → Reads (rows_of_fields (drop 4 pdu) (charges version) no_more) (charged pdu version)
  unfolding charged
  charges_rows h =
      each_side (eqb version 1)
    where
      each_side :
          (t : Bool)
          → Reads (rows_of_fields (drop 4 pdu) (cond t [] four) no_more) (cond t (cond (ltb 4 (length pdu)) (Refused BadField) (CapsRequest version (record { class0 = 0; class1 = 0; class2 = 0; class3 = 0 }))) (cond (ltb (length pdu) 12) (Refused CutShort) (cond (ltb 12 (length pdu)) (Refused BadField) (CapsRequest version (record { class0 = value_at pdu 4 2; class1 = value_at pdu 6 2; class2 = value_at pdu 8 2; class3 = value_at pdu 10 2 })))))
      each_side true =
          choice (Reads (rows_of_fields (drop 4 pdu) [] no_more)) (ltb 4 (length pdu))
          (λ e. over (drop 4 pdu) (sym (left_test pdu 4) ∙ e)) (λ e. none_over (drop 4 pdu) (sym (left_test pdu 4) ∙ e))
      each_side false =
          choice (Reads (rows_of_fields (drop 4 pdu) four no_more)) (ltb (length pdu) 12)
          (λ e. some_short (2 ∷ 2 ∷ 2 ∷ 2 ∷ []) (drop 4 pdu) no_more (let d = length-drop 4 pdu in omega (arith, ltb-true (length pdu) 12 e)))
          (λ e.
          let l = ltb-false (length pdu) 12 e in
          choice (Reads (rows_of_fields (drop 4 pdu) four no_more)) (ltb 12 (length pdu))
          (λ f. one_charge 4 _ _ (omega arith) (one_charge 6 _ _ (omega arith) (one_charge 8 _ _ (omega arith) (one_charge 10 _ _ (omega arith) (over (drop 12 pdu) (sym (left_test pdu 12) ∙ f))))))
          (λ f. one_charge 4 _ _ (omega arith) (one_charge 6 _ _ (omega arith) (one_charge 8 _ _ (omega arith) (one_charge 10 _ _ (omega arith) (none_over (drop 12 pdu) (sym (left_test pdu 12) ∙ f)))))))

  response_rows : Reads (rows_of_fields (drop 4 pdu) [] no_more) (cond (ltb 4 (length pdu)) (Refused BadField) (CapsResponse version))
  response_rows =
      choice (Reads (rows_of_fields (drop 4 pdu) [] no_more)) (ltb 4 (length pdu))
      (λ e. over (drop 4 pdu) (sym (left_test pdu 4) ∙ e)) (λ e. none_over (drop 4 pdu) (sym (left_test pdu 4) ∙ e))

  behind_version :
      (fromServer : Bool) → 4 ≤ length pdu
      → Reads (rows_of_fields (drop 4 pdu) (cond fromServer (charges version) []) no_more) (cond fromServer (charged pdu version) (cond (ltb 4 (length pdu)) (Refused BadField) (CapsResponse version)))
  behind_version true h = charges_rows h
  behind_version false h = response_rows

  not_not : (b : Bool) → not (not b) ≡ b
  not_not true = refl
  not_not false = refl

  -- the Version's value is judged
  version_rows :
      (fromServer : Bool) → 4 ≤ length pdu
      → Reads (row BadField (not (not (ltb version 1 || ltb 3 version))) ∷ rows_of_fields (drop 4 pdu) (cond fromServer (charges version) []) no_more) (by_version fromServer pdu version)
  unfolding by_version bad_version
  version_rows fromServer h =
      let bad = ltb version 1 || ltb 3 version in
      rw not_not
      (choice (Reads (row BadField bad ∷ rows_of_fields (drop 4 pdu) (cond fromServer (charges version) []) no_more)) bad
      (λ e. held BadField bad _ e)
      (λ e. passed BadField bad _ _ e (behind_version fromServer h)))

  pad_rows :
      (fromServer : Bool) (cbId : ℕ) → 1 ≤ length pdu
      → Reads (row BadField (not (eqb cbId 0)) ∷ rows_of_fields (drop 1 pdu) (pad ∷ version_field ∷ cond fromServer (charges version) []) no_more) (capabilities fromServer pdu cbId)
  unfolding capabilities rows_of_fields version
  pad_rows fromServer cbId some =
      let rest = rows_of_fields (drop 4 pdu) (cond fromServer (charges version) []) no_more in
      let r5 = row BadField (not (not (ltb version 1 || ltb 3 version))) ∷ rest in
      let r4 = row CutShort (ltb (length (drop 2 pdu)) 2) ∷ r5 in
      let r3 = row BadField (not (eqb (little (take 1 (drop 1 pdu))) 0)) ∷ r4 in
      let r2 = row CutShort (ltb (length (drop 1 pdu)) 1) ∷ r3 in
      rw (drop-drop 1 1 pdu, drop-drop 2 2 pdu)
      (choice (Reads (row BadField (not (eqb cbId 0)) ∷ r2)) (not (eqb cbId 0))
      (λ e. held BadField (not (eqb cbId 0)) r2 e)
      (λ e. passed BadField (not (eqb cbId 0)) r2 _ e
      (choice (Reads r2) (ltb (length pdu) 2)
      (λ f. held CutShort (ltb (length (drop 1 pdu)) 1) r3 (sym (short_test pdu 1 1 some) ∙ f))
      (λ f.
      let two = ltb-false (length pdu) 2 f in
      let same = ap (λ (b : ℕ). not (eqb b 0)) (pad_is two) in
      passed CutShort (ltb (length (drop 1 pdu)) 1) r3 _ (sym (short_test pdu 1 1 some) ∙ f)
      (choice (Reads r3) (not (eqb (get_or pdu 1 0) 0))
      (λ g. held BadField (not (eqb (little (take 1 (drop 1 pdu))) 0)) r4 (sym same ∙ g))
      (λ g. passed BadField (not (eqb (little (take 1 (drop 1 pdu))) 0)) r4 _ (sym same ∙ g)
      (choice (Reads r4) (ltb (length pdu) 4)
      (λ h. held CutShort (ltb (length (drop 2 pdu)) 2) r5 (sym (short_test pdu 2 2 two) ∙ h))
      (λ h. passed CutShort (ltb (length (drop 2 pdu)) 2) r5 _ (sym (short_test pdu 2 2 two) ∙ h) (rw version_is (version_rows fromServer (ltb-false (length pdu) 4 h)))))))))))

  caps_all :
      (fromServer : Bool) (middle cbId : ℕ) → 1 ≤ length pdu
      → Reads (rows_behind fromServer CAPABILITIES middle cbId) (by_command fromServer pdu CAPABILITIES middle cbId)
  unfolding layout_of bad_cb_id by_command version first_held
  caps_all fromServer middle cbId some = pad_rows fromServer cbId some

  create_all :
      (fromServer : Bool) (middle cbId : ℕ) → 1 ≤ length pdu
      → Reads (rows_behind fromServer CREATE middle cbId) (by_command fromServer pdu CREATE middle cbId)
  create_all true middle cbId some = request_all middle cbId some
  create_all false middle cbId some = response_all middle cbId some

  -- ---- by Cmd
  module _ (fromServer : Bool) (cmd middle cbId : ℕ) (some : 1 ≤ length pdu) where
    no_command : (1 ≤ cmd → cmd ≤ 5 → ⊥) → Reads (rows_behind fromServer cmd middle cbId) (by_command fromServer pdu cmd middle cbId)
    unfolding by_command
    no_command out =
        choice (Reads (rows_behind fromServer cmd middle cbId)) (ltb cmd CREATE)
        (λ e. held NoCommand (ltb cmd CREATE || ltb CAPABILITIES cmd) _ (rw e))
        (λ e. choice (Reads (rows_behind fromServer cmd middle cbId)) (ltb CAPABILITIES cmd)
        (λ f. held NoCommand (ltb cmd CREATE || ltb CAPABILITIES cmd) _ (rw (e, f)))
        (λ f. absurd (out (ltb-false cmd CREATE e) (ltb-false CAPABILITIES cmd f))))

    command_rows : Reads (rows_behind fromServer cmd middle cbId) (by_command fromServer pdu cmd middle cbId)
    command_rows = go (eqb cmd 1) refl (eqb cmd 2) refl (eqb cmd 3) refl (eqb cmd 4) refl (eqb cmd 5) refl
      where
        go :
            (t1 : Bool) → eqb cmd 1 ≡ t1 → (t2 : Bool) → eqb cmd 2 ≡ t2 → (t3 : Bool) → eqb cmd 3 ≡ t3 → (t4 : Bool) → eqb cmd 4 ≡ t4
            → (t5 : Bool) → eqb cmd 5 ≡ t5 → Reads (rows_behind fromServer cmd middle cbId) (by_command fromServer pdu cmd middle cbId)
        go true e t2 e2 t3 e3 t4 e4 t5 e5 = rw (eqb-true cmd 1 e) (create_all fromServer middle cbId some)
        go false e1 true e t3 e3 t4 e4 t5 e5 = rw (eqb-true cmd 2 e) (first_all middle cbId some fromServer)
        go false e1 false e2 true e t4 e4 t5 e5 = rw (eqb-true cmd 3 e) (data_all middle cbId some fromServer)
        go false e1 false e2 false e3 true e t5 e5 = rw (eqb-true cmd 4 e) (close_all middle cbId some fromServer)
        go false e1 false e2 false e3 false e4 true e = rw (eqb-true cmd 5 e) (caps_all fromServer middle cbId some)
        go false e1 false e2 false e3 false e4 false e5 =
            no_command (λ h k. omega (arith, eqb-false cmd 1 e1, eqb-false cmd 2 e2, eqb-false cmd 3 e3, eqb-false cmd 4 e4, eqb-false cmd 5 e5))

-- the first row that holds, and none exactly if none does
pub reading_refusals : (fromServer : Bool) (pdu : List ℕ) → verdict_on (read_pdu fromServer pdu) ≡ first_held (reading_rows fromServer pdu)
unfolding read_pdu reading_rows rows_of_bytes
reading_refusals fromServer pdu =
    let x = get_or pdu 0 0 in
    let r3 = rows_behind pdu fromServer (x / 16) (x / 4 % 4) (x % 4) in
    let r2 = row TooLong (ltb PDU_MAX (length pdu)) ∷ r3 in
    choice (Reads (row CutShort (eqb (length pdu) 0) ∷ r2)) (eqb (length pdu) 0)
    (λ e. held CutShort (eqb (length pdu) 0) r2 e)
    (λ e. passed CutShort (eqb (length pdu) 0) r2 _ e
    (choice (Reads r2) (ltb PDU_MAX (length pdu))
    (λ f. held TooLong (ltb PDU_MAX (length pdu)) r3 f)
    (λ f. passed TooLong (ltb PDU_MAX (length pdu)) r3 _ f (command_rows pdu fromServer (x / 16) (x / 4 % 4) (x % 4) (omega (arith, eqb-false (length pdu) 0 e))))))
