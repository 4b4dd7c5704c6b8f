-- A block that is made anew: what is laid over it, and that it is then the block of its payload.
-- Assumes nothing.
use mathlib.Core.Path.{◌≡◌, refl, sym, ap, ◌∙◌}
use mathlib.Core.Bool.{false}
use mathlib.Core.List.{List, [], ◌∷◌, ◌++◌, append_assoc, append-nil}
use Prim.Native.Nat.{ℕ, zero, suc, ◌+◌, ◌-◌, ◌≤◌, ◌<◌, min}
use native.Mathlib.Omega.{arith}
use borrow.Author.Tests.{le-leb, lt-leb, eq-eqb, ne_eqb}
use lib.ListN.{length, take, drop, length-append, length-take, length-drop, drop_of_length-le, take-append-drop}
use lib.Seq.{length-take-le, take-append-add, take_at, drop_at, drop-drop}
use Rattle.lists.specs.Bytes.{laid, zeros}
use Rattle.lists.proofs.Cases.{and_false}
use Rattle.lists.proofs.Laid.{laid_on, laid_eq, laid_behind, laid_past, laid_fits, length_zeros}
use Rattle.numbers.specs.Numbers.{bytes_of}
use Rattle.numbers.proofs.Widths.{length_bytes_of}
use Rattle.blocks.specs.Check.{WORD_MAX, check_of}
use Rattle.blocks.specs.Block.{BLOCK, HEAD, PAYLOAD, head_of, body_of, block_of}
use Rattle.blocks.specs.Sealed.{joined_to, headed, may_seal, sealed}
use Rattle.blocks.proofs.Checks.{check_parts}
use Rattle.blocks.proofs.Blocks.{length_head}

-- bytes laid behind a list's first bytes are laid over the rest
drop_laid : (n : ℕ) (l : List ℕ) (at : ℕ) (bs : List ℕ) → drop n (laid l (n + at) bs) ≡ laid (drop n l) at bs
drop_laid zero l at bs = let e : 0 + at ≡ at = omega arith in rw e
drop_laid (suc n) [] at bs = rw (laid_past [] (suc n + at) bs (omega arith), laid_past [] at bs (omega arith))
drop_laid (suc n) (x ∷ l) at bs = let e : suc n + at ≡ suc (n + at) = omega arith in rw (e, laid_on x l (n + at) bs) (drop_laid n l at bs)

-- laid up to the end
laid_last : (l : List ℕ) (at : ℕ) (bs : List ℕ) → at + length bs ≡ length l → laid l at bs ≡ take at l ++ bs
laid_last l at bs h = rw (laid_eq l at bs (omega arith), drop_of_length-le l {i = at + length bs} (omega arith), append-nil)

-- ---- the payload

module _ (used : ℕ) (bytes block : List ℕ) (size : length block ≡ BLOCK) (room : used ≤ PAYLOAD) where
  first : length (take used (drop HEAD block)) ≡ used
  first = length-take-le used (drop HEAD block) (rw length-drop (omega arith))

  -- the bytes that it had, and those that fit behind them
  joined_is : joined_to used bytes block ≡ take used (drop HEAD block) ++ take (PAYLOAD - used) bytes
  unfolding joined_to
  joined_is =
      let e : PAYLOAD ≡ length (take used (drop HEAD block)) + (PAYLOAD - used) = omega (arith, first) in
      ap (λ (n : ℕ). take n (take used (drop HEAD block) ++ bytes)) e ∙ take-append-add (take used (drop HEAD block)) bytes (PAYLOAD - used)

  pub length_joined : length (joined_to used bytes block) ≡ used + min (length bytes) (PAYLOAD - used)
  length_joined = rw (joined_is, length-append, first, length-take) (omega arith)

  pub joined_le : length (joined_to used bytes block) ≤ PAYLOAD
  joined_le = omega (arith, length_joined)

  -- laid behind what is used, with zeros behind, they are the body
  pub body_filled : (all : ℕ) → all ≡ used + min (length bytes) (PAYLOAD - used)
      → drop HEAD (laid (laid block (HEAD + used) bytes) (HEAD + all) (zeros (BLOCK - (HEAD + all)))) ≡ body_of (joined_to used bytes block)
  unfolding body_of
  body_filled all n =
      let had = take used (drop HEAD block) in
      let new = take (PAYLOAD - used) bytes in
      let rest = zeros (BLOCK - (HEAD + all)) in
      let count : length new ≡ min (length bytes) (PAYLOAD - used) = rw length-take (omega arith) in
      let end : HEAD + all ≡ HEAD + used + length new = omega (arith, n, count) in
      let left : length block - (HEAD + used) ≡ PAYLOAD - used = omega arith in
      let fits : laid block (HEAD + used) new ≡ laid block (HEAD + used) bytes = rw left at (laid_fits block (HEAD + used) bytes) in
      let whole : used + length (new ++ rest) ≡ length (drop HEAD block) =
      rw (length-append, length-drop, length_zeros) (omega (arith, n, count)) in
      let zero : BLOCK - (HEAD + all) ≡ PAYLOAD - length (joined_to used bytes block) = omega (arith, n, length_joined) in
      ap (λ (l : List ℕ). drop HEAD (laid l (HEAD + all) rest)) (sym fits)
      ∙ ap (λ (at : ℕ). drop HEAD (laid (laid block (HEAD + used) new) at rest)) end
      ∙ ap (drop HEAD) (laid_behind block (HEAD + used) new rest)
      ∙ drop_laid HEAD block used (new ++ rest)
      ∙ laid_last (drop HEAD block) used (new ++ rest) whole
      ∙ sym (append_assoc had new rest)
      ∙ ap (λ (l : List ℕ). l ++ rest) (sym joined_is)
      ∙ ap (λ (k : ℕ). joined_to used bytes block ++ zeros k) zero

-- ---- the head

-- the check laid between head and body
laid_check : (head two check body : List ℕ) → length head ≡ 6 → length two ≡ 2 → length check ≡ 2
    → laid (head ++ two ++ body) 6 check ≡ head ++ check ++ body
laid_check head two check body h k c =
    let front : take 6 (head ++ two ++ body) ≡ head = rw append_assoc (take_at head (two ++ body) 6 h) in
    let all : length (head ++ two) ≡ 8 = rw (length-append, h, k) refl in
    let back : drop 8 (head ++ two ++ body) ≡ body = drop_at (head ++ two) body 8 all in
    let fits : 6 + length check ≤ length (head ++ two ++ body) = simp (length-append (head ++ two) body, all) (omega arith) in
    rw (laid_eq (head ++ two ++ body) 6 check fits, c, front, back) (sym (append_assoc head check body))

pub headed_is : (number place : ℕ) (payload block : List ℕ) → length block ≡ BLOCK → drop HEAD block ≡ body_of payload
    → headed number (length payload) place block ≡ block_of number place payload
unfolding headed block_of
headed_is number place payload block size body =
    let head = head_of number (length payload) place in
    let two = take 2 (drop 6 block) in
    let six : length head ≡ 6 = length_head number (length payload) place in
    let short : length two ≡ 2 = length-take-le 2 (drop 6 block) (rw length-drop (omega arith)) in
    let rest : drop 6 block ≡ two ++ body_of payload =
    sym (take-append-drop 2 (drop 6 block)) ∙ ap (λ (l : List ℕ). two ++ l) (drop-drop 2 6 block ∙ body) in
    let over : laid block 0 head ≡ head ++ two ++ body_of payload =
    laid_eq block 0 head (omega arith) ∙ rw six (ap (λ (l : List ℕ). head ++ l) rest) ∙ sym (append_assoc head two (body_of payload)) in
    let sum : check_of (laid block 0 head) ≡ check_of (head ++ zeros 2 ++ body_of payload) = ap check_of over ∙ check_parts head two (body_of payload) six short in
    ap (λ (l : List ℕ). laid l 6 (bytes_of 2 (check_of (laid block 0 head)))) over
    ∙ laid_check head two (bytes_of 2 (check_of (laid block 0 head))) (body_of payload) six short (length_bytes_of 2 (check_of (laid block 0 head)))
    ∙ ap (λ (v : ℕ). head ++ bytes_of 2 v ++ body_of payload) sum

-- ---- where no block is made

module _ (number place used : ℕ) (bytes block : List ℕ) where
  not_sealed : may_seal number place used block ≡ false → block ≡ sealed number place used bytes block
  unfolding sealed
  not_sealed h = rw h

  pub no_block : (length block ≡ BLOCK → ⊥) → block ≡ sealed number place used bytes block
  unfolding may_seal
  no_block h = not_sealed (simp (ne_eqb (length block) BLOCK h))

  pub no_room : PAYLOAD < used → block ≡ sealed number place used bytes block
  unfolding may_seal
  no_room h = not_sealed (simp (lt-leb used PAYLOAD h, and_false))

  pub no_number : WORD_MAX < number → block ≡ sealed number place used bytes block
  unfolding may_seal
  no_number h = not_sealed (simp (lt-leb number WORD_MAX h, and_false))

  pub no_place : WORD_MAX < place → block ≡ sealed number place used bytes block
  unfolding may_seal
  no_place h = not_sealed (simp (lt-leb place WORD_MAX h, and_false))

  -- and where one is
  pub is_sealed : length block ≡ BLOCK → used ≤ PAYLOAD → number ≤ WORD_MAX → place ≤ WORD_MAX
      → sealed number place used bytes block ≡ block_of number place (joined_to used bytes block)
  unfolding sealed may_seal
  is_sealed size u n p =
      rw (eq-eqb (length block) BLOCK size, le-leb used PAYLOAD u, le-leb number WORD_MAX n, le-leb place WORD_MAX p)
