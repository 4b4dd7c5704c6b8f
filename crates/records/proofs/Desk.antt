-- The records of the shore's walker, and of both ends in one process, are framings: what they need is told by bytes at their
-- front.
-- Assumes nothing.
use mathlib.Core.Path.{◌≡◌, refl}
use mathlib.Core.Bool.{Bool, true, false, cond}
use mathlib.Core.List.{List, [], ◌∷◌, ◌++◌}
use Prim.Native.Nat.{ℕ, ◌+◌, ◌≤◌, ◌<◌}
use native.Mathlib.Omega.{arith}
use borrow.Author.Tests.{ltb-true, ltb-false, le-ltb}
use lib.Dec.{ltb, eqb}
use lib.ListN.{length, take, drop, length-append, length-drop}
use lib.Seq.{take-append-le, drop-append-le}
use Rattle.lists.proofs.Cases.{choice}
use Rattle.numbers.specs.Numbers.{value_of}
use Rattle.records.specs.Records.{LENGTH, announced}
use Rattle.records.specs.Desk.{whole_by, REQUEST, OPEN, OPEN_HEAD, name_length, desk_needs, desk_whole}
use Rattle.records.specs.Desk.{LEAD, AT_SHORE, PANEL_CLOSE, FROM_SHORE, FROM_PANEL, leading, MESSAGE_HEAD, message_length, message_needs, link_needs, link_whole}
use Rattle.records.specs.Walks.{Framing}

-- what is needed is told: more bytes behind those don't change it
abbrev pub Told : (List ℕ → ℕ) → Type 0
Told needs = (input more : List ℕ) → needs input ≤ length input → needs (input ++ more) ≡ needs input

-- then records are a framing
pub by_needs : (needs : List ℕ → ℕ) → Told needs → Framing (whole_by needs)
unfolding whole_by
by_needs needs told =
    record {
      fits = λ input. choice (λ (n : ℕ). n ≤ length input) (ltb (length input) (needs input)) (λ h. omega arith) (λ h. ltb-false _ _ h);
      more = λ input behind. choice (λ (n : ℕ). 0 < n → whole_by needs (input ++ behind) ≡ n) (ltb (length input) (needs input))
          (λ h some. absurd (omega arith))
          (λ h some.
          let there = ltb-false _ _ h in
          let same = told input behind there in
          rw (same, le-ltb (length (input ++ behind)) (needs input) (rw length-append (omega arith))));
    }

-- a test that stays, with each of its two outcomes told
by_test : (b : Bool) (x y x' y' n : ℕ) → (x ≤ n → x' ≡ x) → (y ≤ n → y' ≡ y) → cond b x y ≤ n → cond b x' y' ≡ cond b x y
by_test true x y x' y' n h g = h
by_test false x y x' y' n h g = g

-- bytes at the front that tell how many are needed in all: they are there, or they are what is needed
pub by_head : (head : ℕ) (input more : List ℕ) (x x' : ℕ) → (head ≤ length input → x ≤ length input → x' ≡ x)
    → cond (ltb (length input) head) head x ≤ length input
    → cond (ltb (length (input ++ more)) head) head x' ≡ cond (ltb (length input) head) head x
by_head head input more x x' told =
    choice (λ (n : ℕ). n ≤ length input → cond (ltb (length (input ++ more)) head) head x' ≡ n) (ltb (length input) head)
    (λ short g. absurd (omega (arith, ltb-true (length input) head short)))
    (λ long g.
    let there : head ≤ length input = ltb-false _ _ long in
    rw (le-ltb (length (input ++ more)) head (rw length-append (omega arith))) (told there g))

-- two bytes behind a place
two_more : (at : ℕ) (input more : List ℕ) → at + 2 ≤ length input → value_of (take 2 (drop at (input ++ more))) ≡ value_of (take 2 (drop at input))
two_more at input more h =
    rw (drop-append-le at input more (omega arith), take-append-le 2 (drop at input) more (rw length-drop (omega arith)))

pub announced_more : (input more : List ℕ) → LENGTH ≤ length input → announced (input ++ more) ≡ announced input
unfolding announced
announced_more input more h = rw (take-append-le LENGTH input more h)

name_more : (input more : List ℕ) → OPEN_HEAD ≤ length input → name_length (input ++ more) ≡ name_length input
unfolding name_length
name_more input more h = two_more (LENGTH + 1) input more h

message_more : (input more : List ℕ) → MESSAGE_HEAD ≤ length input → message_length (input ++ more) ≡ message_length input
unfolding message_length
message_more input more h = two_more (LEAD + 4) input more h

leading_more : (input more : List ℕ) → LEAD ≤ length input → leading (input ++ more) ≡ leading input
unfolding leading
leading_more [] more h = absurd (omega arith)
leading_more (b ∷ input) more h = refl

-- ---- the shore's walker

desk_told : (pdus : Bool) → Told (desk_needs pdus)
unfolding desk_needs
desk_told pdus input more =
    by_head LENGTH input more _ _
    (λ there.
    rw (announced_more input more there)
    (by_test (eqb (announced input) REQUEST) _ _ _ _ (length input) (λ g. refl)
    (by_test (eqb (announced input) OPEN) _ _ _ _ (length input)
    (by_head OPEN_HEAD input more _ _ (λ head g. rw (name_more input more head)))
    (λ g. refl))))

pub desk_framing : Framing desk_whole
unfolding desk_whole
desk_framing = by_needs (desk_needs true) (desk_told true)

-- ---- both ends

message_told : Told message_needs
unfolding message_needs
message_told input more = by_head MESSAGE_HEAD input more _ _ (λ head g. rw (message_more input more head))

shore_told : (input more : List ℕ) → LEAD + desk_needs false (drop LEAD input) ≤ length input
    → LEAD + desk_needs false (drop LEAD input ++ more) ≡ LEAD + desk_needs false (drop LEAD input)
shore_told input more h = rw (desk_told false (drop LEAD input) more (omega (arith, length-drop LEAD input)))

link_told : Told link_needs
unfolding link_needs
link_told input more =
    by_head LEAD input more _ _
    (λ there.
    rw (leading_more input more there, drop-append-le LEAD input more there)
    (by_test (eqb (leading input) AT_SHORE) _ _ _ _ (length input) (shore_told input more)
    (by_test (eqb (leading input) PANEL_CLOSE) _ _ _ _ (length input) (λ g. refl)
    (by_test (eqb (leading input) FROM_SHORE) _ _ _ _ (length input) (message_told input more)
    (by_test (eqb (leading input) FROM_PANEL) _ _ _ _ (length input) (message_told input more) (λ g. refl))))))

pub link_framing : Framing link_whole
unfolding link_whole
link_framing = by_needs link_needs link_told
