-- A walk over a list from name to name: at a place, n bytes stand before the next zero byte. With it they are a name in front of what is
-- left, without it they are all that is left.
-- Assumes nothing.
use mathlib.Core.Path.{◌≡◌, sym, ap, ◌∙◌}
use mathlib.Core.Bool.{true, false, ◌||◌}
use mathlib.Core.List.{List, [], ◌∷◌, ◌++◌}
use Prim.Native.Nat.{ℕ, suc, ◌+◌, ◌-◌, ◌≤◌, ◌<◌}
use native.Mathlib.Omega.{arith}
use native.Mathlib.Numerals.{add-one}
use borrow.Author.Tests.{ne_eqb}
use lib.Dec.{eqb}
use lib.ListN.{length, take, drop, length-drop}
use Rattle.lists.specs.Places.{place}
use Rattle.lists.specs.Bytes.{is_zero}
use Rattle.lists.proofs.Cuts.{cut_at_law, cut_on, clean_on, length_on, clean_last}
use Rattle.lists.proofs.Laid.{to_end}
use Rattle.lists.proofs.Places.{clean_before}
use Rattle.listeners.specs.Listeners.{names, same_bytes, is_one_of, all_names}
use Rattle.listeners.proofs.Names.{Clean, names_none}
use Rattle.listeners.proofs.Lists.{all_none, all_empty, all_unended, all_front, one_none, one_front}
use Rattle.listeners.proofs.Lists.{good_all, too_long, listed_names, empty_unlisted}

module _ (list : List ℕ) (at n : ℕ) (first : n ≡ place is_zero (take (length list - at) (drop at list))) where
  cut : n < length list - at → drop at list ≡ take n (drop at list) ++ (0 ∷ drop (at + (n + 1)) list)
  cut = cut_on 0 list at n first

  clean : Clean (take n (drop at list))
  clean = clean_on 0 list at n first

  long : n < length list - at → length (take n (drop at list)) ≡ n
  long = length_on 0 list at n first

  last : length list - at ≤ n → Clean (drop at list)
  last = clean_last 0 list at n first

  -- ---- the list is good, or not

  pub good_on : 0 < n → n < length list - at → all_names (drop at list) ≡ all_names (drop (at + (n + 1)) list)
  good_on k h = ap all_names (cut h) ∙ all_front _ _ (rw (long h) k) clean

  pub good_empty : at < length list → n ≡ 0 → all_names (drop at list) ≡ false
  good_empty h e = ap all_names (cut (omega arith)) ∙ rw e (all_empty _)

  pub good_unended : at < length list → length list - at ≤ n → all_names (drop at list) ≡ false
  good_unended k h = all_unended (drop at list) (rw length-drop (omega arith)) (last h)

-- ---- the first name, and what stands behind its zero byte

-- n bytes stand before the first zero byte
pub name_cut : (list : List ℕ) (n : ℕ) → n ≡ place is_zero list → n < length list
    → (list ≡ take n list ++ (0 ∷ take (length list - (n + 1)) (drop (n + 1) list))) × (place is_zero (take n list) ≡ length (take n list))
name_cut list n e h =
    rw (to_end list (n + 1), add-one, e) (cut_at_law 0 list (rw e at h), clean_before is_zero list)

module _ (list name behind : List ℕ) (cut : list ≡ name ++ (0 ∷ behind)) (clean : place is_zero name ≡ length name) where
  pub good_front : 0 < length name → all_names list ≡ all_names behind
  good_front h = rw cut (all_front name behind h clean)

  pub good_nameless : length name ≡ 0 → all_names list ≡ false
  good_nameless h = rw cut (none name h)
    where
      none : (name : List ℕ) → length name ≡ 0 → all_names (name ++ (0 ∷ behind)) ≡ false
      none [] h = all_empty behind
      none (b ∷ name) h = absurd (omega arith)

  one_on : (x : List ℕ) → is_one_of (names list) x ≡ (same_bytes name x || is_one_of (names behind) x)
  one_on x = rw cut (one_front name behind x clean)

  pub one_here : (x : List ℕ) → same_bytes name x ≡ true → is_one_of (names list) x ≡ true
  one_here x e = rw e at (one_on x)

  pub one_next : (x : List ℕ) → same_bytes name x ≡ false → is_one_of (names list) x ≡ is_one_of (names behind) x
  one_next x e = rw e at (one_on x)

-- with no name left
pub good_last : (list : List ℕ) → place is_zero list ≡ length list → all_names list ≡ eqb (length list) 0
good_last [] h = all_none
good_last (b ∷ list) h = all_unended (b ∷ list) (omega arith) h ∙ sym (ne_eqb (suc (length list)) 0 (λ e. omega arith))

pub one_last : (list x : List ℕ) → place is_zero list ≡ length list → is_one_of (names list) x ≡ false
one_last list x h = rw (names_none list h) (one_none x)

-- what `good` and `listed` rest on
pub ruleset judging = (good_all, too_long, good_front, good_nameless, good_last)

pub ruleset looking = (listed_names, empty_unlisted, one_here, one_next, one_last)
