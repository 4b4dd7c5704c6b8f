-- Going through the whole records at the front, one by one.
use mathlib.Core.Path.{◌≡◌, refl, sym, ap, ◌∙◌}
use mathlib.Core.Bool.{Bool, true, false, cond, not}
use mathlib.Core.Logic.{⊎_elim}
use mathlib.Core.List.{List}
use Prim.Native.Nat.{ℕ, suc, ◌+◌, ◌-◌, ◌≤◌, ◌<◌}
use native.Mathlib.Omega.{arith}
use borrow.Author.Tests.{eq-eqb, ne_eqb}
use lib.ListN.{length, drop, length-drop}
use lib.Seq.{drop-drop}
use Rattle.lists.proofs.Cases.{lt_or_le}
use Rattle.std.specs.Prelude.{Some, None}
use Rattle.records.specs.Records.{found}
use Rattle.records.specs.Walks.{records_of, size_of, rest_of}
use Rattle.records.proofs.Framings.{records_none, records_first}
use Rattle.records.proofs.Found.{none_found, some_found}
use Rattle.records.proofs.Rests.{size_none, size_first}
use Rattle.linklog.specs.declared.End.{End}
use Rattle.linklog.specs.Records.{is_stray, logged_whole}
use Rattle.linklog.specs.Reading.{Seeking, Within, through}
use Rattle.linklog.specs.TakenBack.{end_with}
use Rattle.linklog.specs.Turns.{is_within, reader_at}
use Rattle.linklog.proofs.Framing.{log_framing}

-- where the walk stands: so many bytes are gone through
pub record Gone (input : List ℕ) (at : ℕ) : Type 0 where
  pub within : at ≤ length input
  pub leads : size_of (records_of logged_whole input) ≡ at + size_of (records_of logged_whole (drop at input))

module _ (input : List ℕ) where
  module _ (at : ℕ) (gone : Gone input at) where
    -- behind the next record
    pub gone_on_law : (n : ℕ) → found (logged_whole (drop at input)) ≡ Some n → Gone input (at + n)
    gone_on_law n e =
        let next = some_found (logged_whole (drop at input)) n e in
        let one : 0 < logged_whole (drop at input) = omega (arith, next) in
        let behind = drop-drop n at input in
        let first = rw (← next.0, behind) at (size_first log_framing (drop at input) one) in
        record {
          within = omega (arith, gone.within, next.0, log_framing.fits (drop at input), length-drop at input);
          leads = omega (arith, gone.leads, first);
        }

    pub gone_end : found (logged_whole (drop at input)) ≡ None → at ≡ size_of (records_of logged_whole input)
    gone_end e = omega (arith, gone.leads, size_none logged_whole (drop at input) (none_found (logged_whole (drop at input)) e))

-- ---- what bytes from a record's beginning on give

-- some record is whole, or none
pub none_whole : (input : List ℕ) → size_of (records_of logged_whole input) ≡ 0 → length (records_of logged_whole input) ≡ 0
none_whole input none =
    ⊎_elim
    (λ (some : 0 < logged_whole input). absurd (omega (arith, none, some, size_first log_framing input some)))
    (λ (no : logged_whole input ≤ 0). ap length (records_none logged_whole input (omega (arith, no))))
    (lt_or_le 0 (logged_whole input))

pub some_whole : (input : List ℕ) → (size_of (records_of logged_whole input) ≡ 0 → ⊥) → length (records_of logged_whole input) ≡ 0 → ⊥
some_whole input some none =
    ⊎_elim
    (λ (one : 0 < logged_whole input). let e = ap length (records_first log_framing input one) in omega (arith, e, none))
    (λ (no : logged_whole input ≤ 0). some (size_none logged_whole input (omega (arith, no))))
    (lt_or_le 0 (logged_whole input))

module _ (input : List ℕ) (w : ℕ) (e : w ≡ size_of (records_of logged_whole input)) (s : Bool) (f : s ≡ is_stray (drop w input)) where
  -- where reading stands then
  stands : is_within (through input).course ≡ not s
  unfolding through rest_of is_within
  stands = rw (← e, ← f) (go s)
    where
      go : (t : Bool) → is_within (cond t Seeking (Within (drop w input))) ≡ not t
      go true = refl
      go false = refl

  left : (through input).behind ≡ length input - w
  unfolding through rest_of
  left = rw (← e) (length-drop w input)

  gives : (through input).given ≡ records_of logged_whole input
  unfolding through
  gives = refl

  given : size_of (through input).given ≡ w
  given = rw gives (sym e)

  module _ (end : End) (number used : ℕ) where
    pub through_none : w ≡ 0
        → record { within = not s; whole = w; behind = length input - w; end = end } ≡ reader_at (end_with end number used (through input)) (through input)
    through_none none =
        let ends : end_with end number used (through input) ≡ end =
        rw (gives, eq-eqb (length (records_of logged_whole input)) 0 (none_whole input (sym e ∙ none))) refl in
        rw (ends, stands, left, given) refl

    pub through_some : (u : ℕ) → (w ≡ 0 → ⊥) → u ≡ used - (length input - w)
        → record { within = not s; whole = w; behind = length input - w; end = record { blocks = number + 1; used = u } }
        ≡ reader_at (end_with end number used (through input)) (through input)
    through_some u some g =
        let one : suc number ≡ number + 1 = omega arith in
        let ends : end_with end number used (through input) ≡ record { blocks = number + 1; used = u } =
        rw (gives, ne_eqb (length (records_of logged_whole input)) 0 (some_whole input (λ none. some (e ∙ none))), left, one, g) refl in
        rw (ends, stands, left, given) refl
