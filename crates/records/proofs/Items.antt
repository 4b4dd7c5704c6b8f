-- The laws of a walk that only keeps something: the first item is taken and the others are those of the rest, or there is none; and it
-- is the same however its input is cut into reads.
-- Assumes nothing.
use mathlib.Core.Path.{◌≡◌, refl, sym, ap, ◌∙◌}
use mathlib.Core.List.{List, [], ◌∷◌, ◌++◌, map, map-append, append_assoc, append-nil}
use Prim.Native.Nat.{ℕ, ◌+◌, ◌≤◌, ◌<◌}
use native.Mathlib.Omega.{arith}
use lib.ListN.{length, drop}
use lib.Seq.{drop-drop}
use Rattle.records.specs.Walks.{Framing, front_of, records_of, size_of, rest_of}
use Rattle.records.specs.Items.{items_in, after_items, stood_by, read_by, all_of}
use Rattle.records.proofs.Framings.{records_first, records_none}
use Rattle.records.proofs.Rests.{size_none, size_first, rest_none, rest_has_none, records_more, rest_more}

-- items behind items
pub over_both : {S A : Type 0} (step : S → A → S) (s : S) (xs ys : List A) → after_items step s (xs ++ ys) ≡ after_items step (after_items step s xs) ys
unfolding after_items
over_both step s [] ys = refl
over_both step s (x ∷ xs) ys = over_both step (step s x) xs ys

module _ {extent : List ℕ → ℕ} (f : Framing extent) {A : Type 0} (item : List ℕ → A) where
  -- the items of more behind an input
  pub items_more : (more input : List ℕ)
      → items_in extent item (input ++ more) ≡ items_in extent item input ++ items_in extent item (rest_of extent input ++ more)
  unfolding items_in
  items_more more input =
      ap (map item) (records_more f more input)
      ∙ map-append item (records_of extent input) (records_of extent (rest_of extent input ++ more))

  module _ {S : Type 0} (step : S → A → S) where
    module _ (s : S) (input : List ℕ) where
      first_taken : 0 < extent input
          → after_items step s (items_in extent item input)
          ≡ after_items step (step s (item (front_of extent input))) (items_in extent item (drop (extent input) input))
      unfolding items_in after_items
      first_taken some = rw (records_first f input some)

      pub none_taken : extent input ≡ 0 → after_items step s (items_in extent item input) ≡ s
      unfolding items_in after_items
      none_taken none = rw (records_none extent input none)

    -- ---- a walk on its way

    -- at a place of the input, with what is kept then, what is left leads where the whole leads
    abbrev pub Left : S → List ℕ → S → ℕ → Type 0
    Left s input kept at =
        (at ≤ length input)
        × ((after_items step s (items_in extent item input) ≡ after_items step kept (items_in extent item (drop at input)))
        × (size_of (records_of extent input) ≡ at + size_of (records_of extent (drop at input))))

    -- the record in front is taken
    pub goes_on_law : (s : S) (input : List ℕ) (kept : S) (at n : ℕ) → Left s input kept at → n ≡ extent (drop at input) → 0 < n
        → at + n ≤ length input → Left s input (step kept (item (front_of extent (drop at input)))) (at + n)
    goes_on_law s input kept at n left e some there =
        let front : 0 < extent (drop at input) = rw (← e) some in
        let on = drop-drop (extent (drop at input)) at input in (
          there,
          (
            left.1.0 ∙ first_taken kept (drop at input) front ∙ rw (on, e) refl,
            left.1.1 ∙ rw (size_first f (drop at input) front, on, e) (omega arith),
          ),
        )

    -- it ends where no whole record stands
    pub ends : (s : S) (input : List ℕ) (kept : S) (at : ℕ) → Left s input kept at → extent (drop at input) ≡ 0
        → (kept ≡ after_items step s (items_in extent item input)) × ((at ≡ size_of (records_of extent input)) × (at ≤ length input))
    ends s input kept at left none = (
      sym (left.1.0 ∙ none_taken kept (drop at input) none),
      (omega (arith, left.1.1, size_none extent (drop at input) none), left.0),
    )

    -- ---- in pieces

    -- what was left, with more behind, is walked over as all of it is
    more_behind : (s : S) (input more : List ℕ)
        → stood_by extent item step s (input ++ more)
        ≡ stood_by extent item step (after_items step s (items_in extent item input)) (rest_of extent input ++ more)
    more_behind s input more =
        rw (
          items_more more input,
          rest_more f more input,
          over_both step s (items_in extent item input) (items_in extent item (rest_of extent input ++ more)),
        ) refl

    -- however the input is cut into reads, the walk stands where it would after all of it at once
    pub however_cut : (s : S) (left : List ℕ) (pieces : List (List ℕ)) → extent left ≡ 0
        → read_by extent item step (record { kept = s; left = left }) pieces ≡ stood_by extent item step s (left ++ all_of pieces)
    unfolding read_by all_of
    however_cut s left [] none = rw (append-nil left, none_taken s left none, rest_none extent left none) refl
    however_cut s left (piece ∷ pieces) none =
        let input = left ++ piece in
        however_cut (after_items step s (items_in extent item input)) (rest_of extent input) pieces (rest_has_none f input)
        ∙ sym (more_behind s input (all_of pieces)) ∙ ap (stood_by extent item step s) (append_assoc left piece (all_of pieces))
