-- The conversions, byte by byte and sequence by sequence; and that each undoes the other.
-- Assumes nothing.
use Rattle.std.specs.Prelude.{Option, None, Some, option_map, is_some, IsSome}
use mathlib.Core.Path.{◌≡◌, refl, sym, ap, ◌∙◌}
use mathlib.Core.Logic.{inl, ⊎_elim}
use mathlib.Core.Bool.{Bool, true, false, cond, ◌&&◌}
use mathlib.Core.List.{List, [], ◌∷◌, ◌++◌}
use Prim.Native.Nat.{ℕ, suc, ◌+◌, ◌*◌, ◌≤◌, ◌<◌}
use native.Mathlib.Omega.{arith}
use borrow.Author.Tests.{eqb-true, eqb-false, ne_eqb}
use lib.Dec.{eqb}
use lib.ListN.{length, take, drop, get_or, length-append}
use lib.Seq.{drop-cons}
use Rattle.lists.proofs.Cases.{lt_or_le, true_not_false}
use Rattle.records.proofs.Rests.{rest_first, rest_none}
use Rattle.codepage.specs.Points.{NONE, point_of, point_for, byte_for}
use Rattle.codepage.specs.Utf8.{sequence_of, point_in, spelled, Spells, nothing, one_more, width_at, points_in, is_well_formed}
use Rattle.codepage.specs.Names.{with_first, partners, utf8_of, name_of, front_by, front_of}
use Rattle.codepage.specs.Promises.{Same}
use Rattle.codepage.specs.declared.Front.{Front}
use Rattle.codepage.proofs.Leads.{behind, Leads, leads_on, leads_stop}
use Rattle.std.specs.List.{list_all}
use native.Mathlib.Numerals.{add-one}
use Rattle.codepage.proofs.Points.{partners_point, partners_byte, point_partners, byte_partners, partners_plain}
use Rattle.codepage.proofs.Bits.{one_byte, two_bytes, three_bytes, sequence_back, scalar_spelled}
use Rattle.codepage.proofs.Bytes.{none_there}
use Rattle.codepage.proofs.Fronts.{front_empty}
use Rattle.codepage.proofs.Grammar.{sequence_framing, points_first, spelled_read, well_formed, spells_well_formed}

-- ---- a name from its front

pub name_ends : utf8_of [] ≡ Some []
unfolding utf8_of partners spelled
name_ends = refl

by_partners : (name : List ℕ) → list_all (λ b. is_some (point_for b)) name ≡ is_some (partners point_for name)
unfolding partners
by_partners [] = refl
by_partners (b ∷ name) = ap (λ t. is_some (point_for b) && t) (by_partners name) ∙ step (point_for b) (partners point_for name)
  where
    step : (p : Option ℕ) (r : Option (List ℕ)) → (is_some p && is_some r) ≡ is_some (with_first p r)
    step None r = refl
    step (Some point) None = refl
    step (Some point) (Some points) = refl

-- a name has a result exactly if each byte has a code point
pub all_points : (name : List ℕ) → list_all (λ b. is_some (point_for b)) name ≡ is_some (utf8_of name)
unfolding utf8_of
all_points name = by_partners name ∙ same (partners point_for name)
  where
    same : (r : Option (List ℕ)) → is_some r ≡ is_some (option_map spelled r)
    same None = refl
    same (Some points) = refl

module _ (b : ℕ) (name : List ℕ) where
  -- a byte without partner
  byte_stops : point_of b ≡ NONE → utf8_of (b ∷ name) ≡ None
  unfolding utf8_of partners point_for
  byte_stops off = rw off

  byte_next : (p : ℕ) → p ≡ point_of b → (p ≡ NONE → ⊥) → utf8_of (b ∷ name) ≡ behind (sequence_of p) (utf8_of name)
  unfolding utf8_of partners spelled point_for
  byte_next p is one = rw (← is, ne_eqb p NONE one) (go (partners point_for name))
    where
      go : (r : Option (List ℕ)) → option_map spelled (with_first (Some p) r) ≡ behind (sequence_of p) (option_map spelled r)
      go None = refl
      go (Some points) = refl

-- on the way through a name each byte has a code point, if the name can be converted
pub byte_sure : (name : List ℕ) (i : ℕ) → i < length name → (done : List ℕ) → Leads utf8_of name (drop i name) done → (p : ℕ)
    → p ≡ point_of (get_or name i 0) → IsSome (utf8_of name) → Leads utf8_of name (drop (i + 1) name) (done ++ sequence_of p)
byte_sure name i there done so_far p is has =
    let here = drop-cons name i 0 there in
    let one : p ≡ NONE → ⊥ = λ z.
    true_not_false (sym has ∙ ap is_some (leads_stop utf8_of name (drop i name) done (rw here (byte_stops (get_or name i 0) (drop (suc i) name) (sym is ∙ z))) so_far)) in
    leads_on utf8_of name (drop i name) (drop (i + 1) name) done (sequence_of p) so_far
    (rw (here, add-one) (byte_next (get_or name i 0) (drop (suc i) name) p is one))

-- ---- a text from its front

pub text_ends : name_of [] ≡ Some []
unfolding name_of partners
text_ends =
    let spells = spelled_read [] [] nothing in
    rw (spells_well_formed [] [] nothing, spells.0)

-- no sequence of the table
unformed_stops : (text : List ℕ) → 0 < length text → width_at text ≡ 0 → name_of text ≡ None
unfolding name_of is_well_formed
unformed_stops text long off = rw (rest_none width_at text off, ne_eqb (length text) 0 (λ e. omega arith))

formed_behind : (text : List ℕ) → 0 < width_at text → is_well_formed text ≡ is_well_formed (drop (width_at text) text)
unfolding is_well_formed
formed_behind text there = rw (rest_first sequence_framing text there)

-- a code point without partner
point_stops : (text : List ℕ) → 0 < width_at text → byte_for (point_in (take (width_at text) text)) ≡ None → name_of text ≡ None
unfolding name_of partners
point_stops text there off = rw (points_first text there, off) (go (is_well_formed text))
  where
    go : (t : Bool) → ◌≡◌ {A = Option (List ℕ)} (cond t None None) None
    go true = refl
    go false = refl

point_next : (text : List ℕ) (b : ℕ) → 0 < width_at text → byte_for (point_in (take (width_at text) text)) ≡ Some b
    → name_of text ≡ behind (b ∷ []) (name_of (drop (width_at text) text))
unfolding name_of partners
point_next text b there is =
    let rest = drop (width_at text) text in
    rw (points_first text there, is, formed_behind text there) (go (is_well_formed rest) (partners byte_for (points_in rest)))
  where
    go : (t : Bool) (r : Option (List ℕ)) → cond t (with_first (Some b) r) None ≡ behind (b ∷ []) (cond t r None)
    go true None = refl
    go true (Some name) = refl
    go false r = refl

positive : (n : ℕ) → (n ≡ 0 → ⊥) → 0 < n
positive n h = ⊎_elim (λ (g : 0 < n). g) (λ (g : n ≤ 0). absurd (h (omega arith))) (lt_or_le 0 n)

-- what the front of a text makes of its name
abbrev Fronts : List ℕ → Option Front → Type 0
Fronts text (Some f) = (name_of text ≡ behind (f.byte ∷ []) (name_of (drop f.width text))) × ((0 < f.width) × (f.width ≤ length text))
Fronts text None = name_of text ≡ None

fronts : (text : List ℕ) → 0 < length text → Fronts text (front_of text)
unfolding front_of
fronts text long = go (eqb (width_at text) 0) refl (byte_for (point_in (take (width_at text) text))) refl
  where
    go : (t : Bool) → eqb (width_at text) 0 ≡ t → (r : Option ℕ) → byte_for (point_in (take (width_at text) text)) ≡ r
        → Fronts text (cond t None (front_by r (width_at text)))
    go true e r f = unformed_stops text long (eqb-true (width_at text) 0 e)
    go false e None f = let some_there = eqb-false (width_at text) 0 e in point_stops text (positive (width_at text) some_there) f
    go false e (Some b) f =
        let there = positive (width_at text) (eqb-false (width_at text) 0 e) in
        (point_next text b there f, (there, sequence_framing.fits text))

-- on the way through a text
module _ (text rest : List ℕ) (done : List ℕ) (so_far : Leads name_of text rest done) where
  pub front_off : 0 < length rest → None ≡ front_of rest → name_of text ≡ None
  front_off there e = leads_stop name_of text rest done (rw (← e) at (fronts rest there)) so_far

  pub front_on : 0 < length rest → (f : Front) → Some f ≡ front_of rest
      → Leads name_of text (drop f.width rest) (done ++ (f.byte ∷ [])) × ((0 < f.width) × (f.width ≤ length rest))
  front_on there f e =
      let here = rw (← e) at (fronts rest there) in
      (leads_on name_of text rest (drop f.width rest) done (f.byte ∷ []) so_far here.0, here.1)

-- a front that is there has bytes
front_there : (rest : List ℕ) (f : Front) → Some f ≡ front_of rest → 0 < length rest
front_there [] f e = let z = e ∙ front_empty in cc
front_there (b ∷ rest) f e = omega arith

-- in a text that has a name, a front or the end
module _ (text rest : List ℕ) (done : List ℕ) (so_far : Leads name_of text rest done) where
  pub sure_on : (f : Front) → Some f ≡ front_of rest → Leads name_of text (drop f.width rest) (done ++ (f.byte ∷ [])) × ((0 < f.width) × (f.width ≤ length rest))
  sure_on f e = front_on text rest done so_far (front_there rest f e) f e

  pub sure_end : IsSome (name_of text) → None ≡ front_of rest → rest ≡ []
  sure_end has e =
      ⊎_elim
      (λ (there : 0 < length rest). absurd (true_not_false (sym has ∙ ap is_some (front_off text rest done so_far there e))))
      (λ (ended : length rest ≤ 0). none_there rest (omega arith))
      (lt_or_le 0 (length rest))

-- ---- there and back

-- what is known of partners of more than none
pub record First (partner : ℕ → Option ℕ) (x : ℕ) (xs ys : List ℕ) : Type 0 where
  pub y : ℕ
  pub others : List ℕ
  pub its : partner x ≡ Some y
  pub theirs : partners partner xs ≡ Some others
  pub all : ys ≡ y ∷ others

pub first : (partner : ℕ → Option ℕ) (x : ℕ) (xs ys : List ℕ) → partners partner (x ∷ xs) ≡ Some ys → First partner x xs ys
unfolding partners
first partner x xs ys e = go (partner x) (partners partner xs) refl refl e
  where
    go : (p : Option ℕ) (r : Option (List ℕ)) → partner x ≡ p → partners partner xs ≡ r → with_first p r ≡ Some ys → First partner x xs ys
    go None r f g e = let z : ◌≡◌ {A = ℕ} 0 1 = cc in absurd (omega arith)
    go (Some y) None f g e = let z : ◌≡◌ {A = ℕ} 0 1 = cc in absurd (omega arith)
    go (Some y) (Some others) f g e = record { y = y; others = others; its = f; theirs = g; all = cc }

-- where one conversion undoes the other at each, it does at all
partners_back : (f g : ℕ → Option ℕ) → ((x y : ℕ) → f x ≡ Some y → g y ≡ Some x) → (xs ys : List ℕ) → partners f xs ≡ Some ys → partners g ys ≡ Some xs
unfolding partners
partners_back f g back [] ys e = let empty : ys ≡ [] = cc in rw empty
partners_back f g back (x ∷ xs) ys e =
    let one = first f x xs ys e in
    rw (one.all, back x one.y one.its, partners_back f g back xs one.others one.theirs)

pub points_back : (name points : List ℕ) → partners point_for name ≡ Some points → partners byte_for points ≡ Some name
points_back = partners_back point_for byte_for (λ b p is. partners_byte b p (point_partners b p is))

pub bytes_back : (points name : List ℕ) → partners byte_for points ≡ Some name → partners point_for name ≡ Some points
bytes_back = partners_back byte_for point_for (λ p b is. partners_point b p (byte_partners p b is))

-- the code points of a name are spelled
name_spelled : (name points : List ℕ) → partners point_for name ≡ Some points → Spells points (spelled points)
unfolding partners spelled
name_spelled [] points e = let empty : points ≡ [] = cc in rw empty nothing
name_spelled (b ∷ name) points e =
    let one = first point_for b name points e in
    let p = one.y in
    let here = scalar_spelled p (inl (partners_plain b p (point_partners b p one.its))) in
    let later = name_spelled name one.others one.theirs in
    rw one.all (rw here.point at (one_more here.row (sequence_of p) one.others (spelled one.others) here.of_table here.within later))

-- nothing else spells them
pub spells_spelled : (points text : List ℕ) → Spells points text → spelled points ≡ text
unfolding spelled
spells_spelled points text nothing = refl
spells_spelled points text (one_more row sequence others behind of_table within spells) =
    rw ((sequence_back row sequence of_table within).0, spells_spelled others behind spells)

-- ---- what a conversion gives

pub utf8_same : (name text : List ℕ) → utf8_of name ≡ Some text → Same name text
unfolding utf8_of
utf8_same name text e = go (partners point_for name) refl e
  where
    go : (r : Option (List ℕ)) → partners point_for name ≡ r → option_map spelled r ≡ Some text → Same name text
    go None f e = let z : ◌≡◌ {A = ℕ} 0 1 = cc in absurd (omega arith)
    go (Some points) f e =
        let is : spelled points ≡ text = cc in
        record { points = points; its_points = f; spell = rw is at (name_spelled name points f) }

pub same_utf8 : (name text : List ℕ) → Same name text → utf8_of name ≡ Some text
unfolding utf8_of
same_utf8 name text t = rw (t.its_points, spells_spelled t.points text t.spell)

pub name_same : (text name : List ℕ) → name_of text ≡ Some name → Same name text
unfolding name_of
name_same text name e = go (is_well_formed text) refl e
  where
    go : (t : Bool) → is_well_formed text ≡ t → cond t (partners byte_for (points_in text)) None ≡ Some name → Same name text
    go true f e = record { points = points_in text; its_points = bytes_back (points_in text) name e; spell = well_formed text f }
    go false f e = let z : ◌≡◌ {A = ℕ} 0 1 = cc in absurd (omega arith)

pub same_name : (text name : List ℕ) → Same name text → name_of text ≡ Some name
unfolding name_of
same_name text name t =
    let read = spelled_read t.points text t.spell in
    rw (spells_well_formed t.points text t.spell, read.0, points_back name t.points t.its_points)

-- "a converted name comes back as it was", and a converted text
pub name_back : (name text : List ℕ) → utf8_of name ≡ Some text → name_of text ≡ Some name
name_back name text e = same_name text name (utf8_same name text e)

pub text_back : (text name : List ℕ) → name_of text ≡ Some name → utf8_of name ≡ Some text
text_back text name e = same_utf8 name text (name_same text name e)

-- ---- how long

-- a code point of a name takes one to three bytes
sequence_long : (p : ℕ) → p < 0xD800 → (1 ≤ length (sequence_of p)) × (length (sequence_of p) ≤ 3)
sequence_long p h =
    ⊎_elim
    (λ (a : p < 0x80). rw (one_byte p a) (omega arith, omega arith))
    (λ (a : 0x80 ≤ p).
    ⊎_elim
    (λ (b : p < 0x800). rw (two_bytes p a b) (omega arith, omega arith))
    (λ (b : 0x800 ≤ p). rw (three_bytes p b (omega arith)) (omega arith, omega arith))
    (lt_or_le p 0x800))
    (lt_or_le p 0x80)

spelled_long : (name points : List ℕ) → partners point_for name ≡ Some points
    → (length name ≤ length (spelled points)) × (length (spelled points) ≤ 3 * length name)
unfolding partners spelled
spelled_long [] points e = let empty : points ≡ [] = cc in rw empty (omega arith, omega arith)
spelled_long (b ∷ name) points e =
    let one = first point_for b name points e in
    let p = one.y in
    let long = sequence_long p (partners_plain b p (point_partners b p one.its)) in
    let later = spelled_long name one.others one.theirs in
    let both = length-append (sequence_of p) (spelled one.others) in
    rw one.all (omega (arith, long, later, both), omega (arith, long, later, both))

pub utf8_long : (name text : List ℕ) → utf8_of name ≡ Some text → (length name ≤ length text) × (length text ≤ 3 * length name)
utf8_long name text e =
    let same = utf8_same name text e in
    rw (spells_spelled same.points text same.spell) at (spelled_long name same.points same.its_points)
