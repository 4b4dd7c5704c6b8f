-- What a conversion answers and leaves, by its result: the two refusals in their order, and else what is written.
-- Assumes nothing.
use Rattle.std.specs.Prelude.{Option, None, Some, Result, Ok, Err, is_some, IsSome}
use mathlib.Core.Path.{◌≡◌, refl, sym}
use mathlib.Core.Bool.{Bool, true, false, cond}
use mathlib.Core.List.{List}
use Prim.Native.Nat.{ℕ, ◌+◌, ◌-◌, ◌^◌, ◌≤◌, ◌<◌}
use native.Mathlib.Omega.{arith}
use borrow.Author.Tests.{lt-ltb, le-ltb, ltb-true, ltb-false}
use lib.Dec.{ltb}
use lib.ListN.{length}
use Rattle.lists.specs.Bytes.{laid}
use Rattle.lists.proofs.Cases.{choice, true_not_false}
use Rattle.paper.specs.declared.Refusal.{Refusal}
use Rattle.paper.specs.declared.Refusal.TheVariants.{NoPartner, NoRoom}
use Rattle.codepage.specs.Names.{result_of, answer_for, buffer_for, room_after, size_of, Countable}

pub is_result : (r : Option (List ℕ)) → IsSome r → r ≡ Some (result_of r)
is_result None is = absurd (true_not_false (sym is))
is_result (Some result) is = refl

-- an answer, and what it leaves in the buffer
abbrev pub Gives : Option (List ℕ) → List ℕ → Result ℕ Refusal → List ℕ → Type 0
Gives r out answer after = (answer ≡ answer_for r out) × (after ≡ buffer_for r out)

pub no_partner : (r : Option (List ℕ)) (out : List ℕ) → is_some r ≡ false → Gives r out (Err NoPartner) out
unfolding answer_for buffer_for
no_partner None out is = (refl, refl)
no_partner (Some result) out is = absurd (true_not_false is)

pub no_room : (r : Option (List ℕ)) (out : List ℕ) → IsSome r → length out < length (result_of r) → Gives r out (Err NoRoom) out
unfolding answer_for buffer_for
no_room None out is over = absurd (true_not_false (sym is))
no_room (Some result) out is over = rw (lt-ltb (length out) (length result) over) (refl, refl)

pub written : (r : Option (List ℕ)) (out after : List ℕ) (n : ℕ) → IsSome r → length (result_of r) ≤ length out → n ≡ length (result_of r)
    → after ≡ laid out 0 (result_of r) → Gives r out (Ok n) after
unfolding answer_for buffer_for
written None out after n is fits e f = absurd (true_not_false (sym is))
written (Some result) out after n is fits e f = rw (le-ltb (length out) (length result) fits, e) (refl, f)

-- ---- the other way round

-- with room there is no refusal but for want of a result
pub refused_none : (r : Option (List ℕ)) (out : List ℕ) (why : Refusal) → answer_for r out ≡ Err why → length (result_of r) ≤ length out → r ≡ None
unfolding answer_for
refused_none None out why e room = refl
refused_none (Some result) out why e room =
    let f = rw (le-ltb (length out) (length result) room) at e in
    let z : ◌≡◌ {A = ℕ} 0 1 = cc in
    absurd (omega arith)

pub refused_leaves : (r : Option (List ℕ)) (out : List ℕ) (why : Refusal) → answer_for r out ≡ Err why → buffer_for r out ≡ out
unfolding answer_for buffer_for
refused_leaves None out why e = refl
refused_leaves (Some result) out why e = go (ltb (length out) (length result)) e
  where
    go : (t : Bool) → cond t (Err NoRoom) (Ok (length result)) ≡ Err why → cond t out (laid out 0 result) ≡ out
    go true e = refl
    go false e = let z : ◌≡◌ {A = ℕ} 0 1 = cc in absurd (omega arith)

-- a length is that of the result, which is laid at the front
pub record Laid (r : Option (List ℕ)) (out : List ℕ) (n : ℕ) : Type 0 where
  pub has_result : r ≡ Some (result_of r)
  pub its_length : n ≡ length (result_of r)
  pub fits : length (result_of r) ≤ length out
  pub buffer : buffer_for r out ≡ laid out 0 (result_of r)

pub length_laid_so : (r : Option (List ℕ)) (out : List ℕ) (n : ℕ) → answer_for r out ≡ Ok n → Laid r out n
unfolding answer_for buffer_for
length_laid_so None out n e = let z : ◌≡◌ {A = ℕ} 0 1 = cc in absurd (omega arith)
length_laid_so (Some result) out n e = go (ltb (length out) (length result)) refl e
  where
    go : (t : Bool) → ltb (length out) (length result) ≡ t → cond t (Err NoRoom) (Ok (length result)) ≡ Ok n → Laid (Some result) out n
    go true over e = let z : ◌≡◌ {A = ℕ} 0 1 = cc in absurd (omega arith)
    go false over e = record { has_result = refl; its_length = cc; fits = ltb-false (length out) (length result) over; buffer = rw over }

-- ---- room and size

pub too_short : (r : Option (List ℕ)) (room : ℕ) → IsSome r → None ≡ room_after r room → room < length (result_of r)
too_short None room is e = absurd (true_not_false (sym is))
too_short (Some result) room is e = go (ltb room (length result)) refl e
  where
    go : (t : Bool) → ltb room (length result) ≡ t → None ≡ cond t None (Some (room - length result)) → room < length result
    go true over f = ltb-true room (length result) over
    go false over f = cc

pub room_left : (r : Option (List ℕ)) (room left : ℕ) → Some left ≡ room_after r room → (length (result_of r) ≤ room) × (left ≡ room - length (result_of r))
room_left None room left e = cc
room_left (Some result) room left e = go (ltb room (length result)) refl e
  where
    go : (t : Bool) → ltb room (length result) ≡ t → Some left ≡ cond t None (Some (room - length result))
        → (length result ≤ room) × (left ≡ room - length result)
    go true over f = cc
    go false over f = (ltb-false room (length result) over, cc)

pub room_short : (r : Option (List ℕ)) (room : ℕ) → IsSome r → room < length (result_of r) → room_after r room ≡ None
room_short None room is over = refl
room_short (Some result) room is over = rw (lt-ltb room (length result) over)

pub room_is : (r : Option (List ℕ)) (room left : ℕ) (result : List ℕ) → r ≡ Some result → left + length result ≡ room → room_after r room ≡ Some left
room_is r room left result is e =
    let off : room - length result ≡ left = omega arith in
    rw (is, le-ltb room (length result) (omega arith), off)

pub no_size : (r : Option (List ℕ)) → None ≡ size_of r → is_some r ≡ false
no_size None e = refl
no_size (Some result) e = cc

pub has_size : (r : Option (List ℕ)) (n : ℕ) → Some n ≡ size_of r → IsSome r × (n ≡ length (result_of r))
has_size None n e = cc
has_size (Some result) n e = (refl, cc)

pub size_some : (r : Option (List ℕ)) → is_some (size_of r) ≡ is_some r
size_some None = refl
size_some (Some result) = refl

-- what a buffer of fewer than 2 ^ 63 bytes holds can be told
pub countable : (r : Option (List ℕ)) (out : List ℕ) → length out < 2 ^ 63 → Countable (answer_for r out)
unfolding answer_for
countable None out h = tt
countable (Some result) out h =
    choice Countable (ltb (length out) (length result)) (λ over. tt) (λ fits. omega (arith, ltb-false (length out) (length result) fits, h))
