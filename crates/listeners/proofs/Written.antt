-- A list is good exactly where it is written as the paper says: names of one or more
-- non-zero bytes, each ended by one zero byte, 512 bytes at most.
-- Assumes nothing.
use mathlib.Core.Path.{◌≡◌, refl, ap, ◌∙◌}
use mathlib.Core.Bool.{Bool, true, false, cond}
use mathlib.Core.List.{List, [], ◌∷◌}
use Prim.Native.Nat.{ℕ, suc, ◌≤◌}
use borrow.Author.Tests.{leb-true}
use lib.Dec.{leb}
use lib.ListN.{length}
use Rattle.paper.specs.Sizes.{LIST_MAX}
use Rattle.lists.specs.Places.{place}
use Rattle.lists.specs.Bytes.{is_zero}
use Rattle.lists.proofs.Cases.{both}
use Rattle.listeners.specs.Listeners.{names, with_first, ended, none_empty, same_bytes, all_names, good_list}
use Rattle.listeners.proofs.Matches.{same_self, same_equal}
use Rattle.listeners.proofs.Names.{Clean, names_front}
use Rattle.listeners.proofs.Lists.{good_all}

-- no name has a zero byte
abbrev pub EachClean : List (List ℕ) → Type 0
EachClean [] = Unit {0}
EachClean (name ∷ rest) = Clean name × EachClean rest

-- such a list
pub record Written (list : List ℕ) (ns : List (List ℕ)) : Type 0 where
  pub short : length list ≤ LIST_MAX
  pub filled : none_empty ns ≡ true
  pub clean : EachClean ns
  pub spelled : ended ns ≡ list

-- its names are those that it is written with
pub names_ended : (ns : List (List ℕ)) → EachClean ns → names (ended ns) ≡ ns
unfolding names ended
names_ended [] k = refl
names_ended (name ∷ ns) k = names_front name (ended ns) k.0 ∙ ap (λ (r : List (List ℕ)). name ∷ r)
    (names_ended ns k.1)

-- it is good
pub written_good : (list : List ℕ) (ns : List (List ℕ)) → Written list ns → good_list list ≡ true
unfolding all_names
written_good list ns w =
    let e : names list ≡ ns = rw w.spelled at (names_ended ns w.clean) in
    rw (good_all list w.short, e, w.filled, w.spelled) (same_self list)

-- no name of any list has a zero byte
names_clean : (l : List ℕ) → EachClean (names l)
unfolding names place
names_clean [] = tt
names_clean (b ∷ l) = go (is_zero b) refl (names l) (names_clean l)
  where
    go : (t : Bool) → is_zero b ≡ t → (ns : List (List ℕ)) → EachClean ns → EachClean (cond t ([] ∷ ns) (with_first b ns))
    go true e ns k = (refl, k)
    go false e [] k = tt
    go false e (name ∷ ns) k = (rw e (ap suc k.0), k.1)

-- a good list is written so, with its names
pub good_written : (list : List ℕ) → good_list list ≡ true → Written list (names list)
unfolding good_list all_names
good_written list g =
    let h = both (leb (length list) LIST_MAX) (all_names list) g in
    let k = both (none_empty (names list)) (same_bytes (ended (names list)) list) h.1 in
    record {
      short = leb-true (length list) LIST_MAX h.0;
      filled = k.0;
      clean = names_clean list;
      spelled =
          same_equal (ended (names list)) list k.1;
    }
