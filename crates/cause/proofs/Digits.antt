-- A place by its digits, digit by digit: never wrapped.
-- Assumes nothing.
use Rattle.std.proofs.Common.{◌≡◌, ℕ, suc, ◌+◌, ◌-◌, ◌*◌, ◌<◌, ◌≤◌, Ok, Err, List, [], ◌∷◌, length, get_or, drop, refl, sym, ap, ◌∙◌, arith, drop_of_length-le, drop-cons, le-ltb, lt-ltb}
use Rattle.std.specs.List.{list_all}
use Rattle.std.specs.Char.{is_ascii_digit}
use Rattle.records.specs.Records.{PLACES}
use Rattle.lines.specs.Decimal.{spelt}
use Rattle.cause.specs.declared.NoPlace.TheVariants.{Beyond}
use Rattle.cause.specs.Why.{is_digit, all_digits, sought_by}

-- the library's test is the digits'
pub all_same : (word : List ℕ) → list_all is_ascii_digit word ≡ all_digits word
unfolding all_digits is_digit
all_same [] = refl
all_same (b ∷ word) = rw (all_same word) refl

pub small : (n : ℕ) → n < PLACES → sought_by n ≡ Ok n
unfolding sought_by
small n h = rw (lt-ltb n PLACES h) refl

pub large : (n : ℕ) → PLACES ≤ n → sought_by n ≡ Err Beyond
unfolding sought_by
large n h = rw (le-ltb n PLACES h) refl

-- a number only grows by digits behind it
pub grows : (n : ℕ) (word : List ℕ) → n ≤ spelt n word
unfolding spelt
grows n [] = omega arith
grows n (d ∷ word) = omega (arith, grows (10 * n + (d - 48)) word)

-- ---- a loop over the digits

-- before turn i: the number of the first i digits leads where the word does
abbrev pub Leads : List ℕ → ℕ → ℕ → Type 0
Leads word i n = spelt n (drop i word) ≡ spelt 0 word

pub next : (word : List ℕ) (i n : ℕ) → i < length word → Leads word i n → Leads word (i + 1) (10 * n + (get_or word i 0 - 48))
unfolding spelt
next word i n there leads =
    let e : i + 1 ≡ suc i = omega arith in
    rw e (sym (ap (spelt n) (drop-cons word i 0 there)) ∙ leads)

pub ends : (word : List ℕ) (i n : ℕ) → length word ≤ i → Leads word i n → n ≡ spelt 0 word
unfolding spelt
ends word i n h leads = sym (ap (spelt n) (drop_of_length-le word {i = i} h)) ∙ leads
