-- A conversion on its way: what is done, and what is left, lead where the whole leads. One law for both ways.
-- Assumes nothing.
use Rattle.std.specs.Prelude.{Option, None, Some, IsSome}
use mathlib.Core.Path.{◌≡◌, refl, sym, ap, ◌∙◌}
use mathlib.Core.Bool.{false}
use mathlib.Core.List.{List, [], ◌++◌, append_assoc, append-nil}
use Prim.Native.Nat.{ℕ, ◌+◌, ◌≤◌}
use native.Mathlib.Omega.{arith}
use lib.ListN.{length, length-append}
use borrow.Author.Tests.{ltb-false}
use Rattle.lists.specs.Bytes.{laid}
use Rattle.lists.proofs.Cases.{true_not_false}
use Rattle.lists.proofs.Laid.{length_laid, laid_next}
use Rattle.codepage.specs.Names.{result_of, is_over}

-- something in front of a result, if there is one
abbrev pub behind : List ℕ → Option (List ℕ) → Option (List ℕ)
behind done None = None
behind done (Some rest) = Some (done ++ rest)

module _ (f : List ℕ → Option (List ℕ)) (input : List ℕ) where
  -- with so much left of the input, and so much done
  abbrev pub Leads : List ℕ → List ℕ → Type 0
  Leads rest done = f input ≡ behind done (f rest)

  pub leads_first : Leads input []
  leads_first = go (f input)
    where
      go : (r : Option (List ℕ)) → r ≡ behind [] r
      go None = refl
      go (Some rest) = refl

  pub leads_on : (rest rest' done more : List ℕ) → Leads rest done → f rest ≡ behind more (f rest') → Leads rest' (done ++ more)
  leads_on rest rest' done more so_far next = so_far ∙ rw next (go (f rest'))
    where
      go : (r : Option (List ℕ)) → behind done (behind more r) ≡ behind (done ++ more) r
      go None = refl
      go (Some others) = rw (append_assoc done more others)

  pub leads_end : (done : List ℕ) → f [] ≡ Some [] → Leads [] done → f input ≡ Some done
  leads_end done ends so_far = so_far ∙ rw (ends, append-nil done)

  -- what is done is a front of the result
  pub leads_front : (rest done : List ℕ) → Leads rest done → IsSome (f input) → length done ≤ length (result_of (f input))
  leads_front rest done so_far is = rw so_far (go (f rest) (rw so_far at is))
    where
      go : (r : Option (List ℕ)) → IsSome (behind done r) → length done ≤ length (result_of (behind done r))
      go None is = absurd (true_not_false (sym is))
      go (Some others) is = omega (arith, length-append done others)

  pub leads_stop : (rest done : List ℕ) → f rest ≡ None → Leads rest done → f input ≡ None
  leads_stop rest done stops so_far = so_far ∙ rw stops

-- so much is done where so much is left
pub record On (f : List ℕ → Option (List ℕ)) (input rest : List ℕ) : Type 0 where
  pub done : List ℕ
  pub leads : Leads f input rest done

-- and stands at the front of a buffer
pub record Laid (f : List ℕ → Option (List ℕ)) (input rest out₀ out : List ℕ) (used : ℕ) : Type 0 where
  pub done : List ℕ
  pub leads : Leads f input rest done
  pub so_far : out ≡ laid out₀ 0 done
  pub used_is : used ≡ length done

pub laid_none : (f : List ℕ → Option (List ℕ)) (input out : List ℕ) → Laid f input input out out 0
unfolding laid
laid_none f input out = record { done = []; leads = leads_first f input; so_far = refl; used_is = refl }

pub laid_long : (f : List ℕ → Option (List ℕ)) (input rest out₀ out : List ℕ) (used : ℕ) → Laid f input rest out₀ out used → length out ≡ length out₀
laid_long f input rest out₀ out used so = ap length so.so_far ∙ length_laid out₀ 0 so.done

-- what comes next fits where the result does
pub laid_fits : (f : List ℕ → Option (List ℕ)) (input rest out₀ out : List ℕ) (used : ℕ) (so : Laid f input rest out₀ out used)
    (rest' more : List ℕ) → Leads f input rest' (so.done ++ more) → IsSome (f input) → is_over (result_of (f input)) out₀ ≡ false
    → used + length more ≤ length out
laid_fits f input rest out₀ out used so rest' more next is room =
    omega (
      arith,
      leads_front f input rest' (so.done ++ more) next is,
      ltb-false (length out₀) (length (result_of (f input))) room,
      so.used_is,
      length-append so.done more,
      laid_long f input rest out₀ out used so,
    )

pub laid_on : (f : List ℕ → Option (List ℕ)) (input rest out₀ out out' : List ℕ) (used used' : ℕ) (so : Laid f input rest out₀ out used)
    (rest' more : List ℕ) → Leads f input rest' (so.done ++ more) → out' ≡ laid out used more → used' ≡ used + length more
    → Laid f input rest' out₀ out' used'
laid_on f input rest out₀ out out' used used' so rest' more next e h =
    record {
      done = so.done ++ more;
      leads = next;
      so_far = laid_next out₀ out out' so.done more used so.used_is so.so_far e;
      used_is = omega (arith, so.used_is, length-append so.done more);
    }

-- at the end all is done
pub laid_end : (f : List ℕ → Option (List ℕ)) (input out₀ out : List ℕ) (used : ℕ) → f [] ≡ Some [] → Laid f input [] out₀ out used
    → out ≡ laid out₀ 0 (result_of (f input))
laid_end f input out₀ out used ends so = rw (leads_end f input so.done ends so.leads) so.so_far
