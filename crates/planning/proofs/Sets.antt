-- Sets of eight bytes are a framing, and their count.
-- Assumes nothing.
use Rattle.std.proofs.Common.{◌≡◌, ℕ, ◌<◌, ◌≤◌, List, ◌++◌, length, sym, refl, ◌∙◌, ⊎_elim, arith, length-append, le-ltb, lt-ltb}
use Rattle.paper.specs.Sizes.{SETS_MAX}
use Rattle.lists.proofs.Cases.{lt_or_le}
use Rattle.records.specs.Walks.{Framing}
use Rattle.planning.specs.Sets.{SET, set_extent}

pub sets_max : SETS_MAX ≡ 65536
unfolding SETS_MAX
sets_max = refl

-- ---- the set at the front

pub short : (input : List ℕ) → length input < SET → set_extent input ≡ 0
unfolding set_extent
short input h = rw (lt-ltb (length input) SET h)

pub long : (input : List ℕ) → SET ≤ length input → set_extent input ≡ SET
unfolding set_extent
long input h = rw (le-ltb (length input) SET h)

-- where none stands, fewer bytes are there
pub none_short : (input : List ℕ) → set_extent input ≡ 0 → length input < SET
none_short input none =
    ⊎_elim (λ (h : length input < SET). h) (λ (h : SET ≤ length input). absurd (omega (arith, none, long input h)))
    (lt_or_le (length input) SET)

pub set_framing : Framing set_extent
set_framing = record { fits = fits; more = more }
  where
    fits : (input : List ℕ) → set_extent input ≤ length input
    fits input =
        ⊎_elim (λ (h : length input < SET). rw (short input h) (omega arith)) (λ (h : SET ≤ length input). rw (long input h) h)
        (lt_or_le (length input) SET)

    more : (input behind : List ℕ) → 0 < set_extent input → set_extent (input ++ behind) ≡ set_extent input
    more input behind some =
        ⊎_elim (λ (h : length input < SET). absurd (omega (arith, some, short input h)))
        (λ (h : SET ≤ length input). long (input ++ behind) (omega (arith, length-append input behind)) ∙ sym (long input h))
        (lt_or_le (length input) SET)
