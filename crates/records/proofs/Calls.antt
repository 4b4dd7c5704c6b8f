-- What the steps of a walk make of what is seen of what is kept and lent, where one step makes of it what a function says.
-- Assumes nothing.
use Rattle.std.proofs.Common.{◌≡◌, ℕ, List, [], ◌∷◌, refl, ◌∙◌, ap}
use Rattle.records.specs.Items.{after_items}

module _ {C S : Type 0} (seen : C × List ℕ → S) (step : C × List ℕ → List ℕ → C × List ℕ) (after : S → List ℕ → S)
    (makes : (at : C × List ℕ) (pdu : List ℕ) → seen (step at pdu) ≡ after (seen at) pdu) where
  pub all_made : (at : C × List ℕ) (pdus : List (List ℕ)) → seen (after_items step at pdus) ≡ after_items after (seen at) pdus
  unfolding after_items
  all_made at [] = refl
  all_made at (pdu ∷ pdus) = all_made (step at pdu) pdus ∙ ap (λ (s : S). after_items after s pdus) (makes at pdu)
