-- Laying blocks one behind the other: what is left of it always leads to the same end.
use mathlib.Core.Path.{◌≡◌, refl, ap, ◌∙◌}
use mathlib.Core.List.{List, ◌++◌}
use Prim.Native.Nat.{ℕ, suc, ◌+◌, ◌-◌, ◌*◌, ◌≤◌, ◌<◌}
use native.Mathlib.Omega.{arith}
use borrow.Author.Tests.{eq-eqb, le-leb}
use borrow.Rule.Slice.PartMut.{put_mid}
use lib.ListN.{length, take, drop, length-take, length-drop}
use lib.Seq.{drop-drop}
use Rattle.lists.specs.Bytes.{laid}
use Rattle.lists.proofs.Laid.{laid_behind, length_laid, back}
use Rattle.blocks.specs.Check.{WORD_MAX}
use Rattle.blocks.specs.Block.{BLOCK, PAYLOAD, NONE, block_of}
use Rattle.blocks.specs.Sealed.{joined_to, may_seal, sealed}
use Rattle.blocks.proofs.Blocks.{length_block}
use Rattle.linklog.specs.Written.{blocks_for}
use Rattle.linklog.specs.Appending.{chained}

-- bytes fill one block more than what is behind the first block's
pub blocks_some : (n at : ℕ) → at < n → blocks_for (n - at) ≡ suc (blocks_for (n - (at + PAYLOAD)))
unfolding blocks_for
blocks_some n at h = omega arith

pub blocks_none : (n at : ℕ) → n ≤ at → blocks_for (n - at) ≡ 0
unfolding blocks_for
blocks_none n at h = omega arith

pub some_left : (n i : ℕ) → i < blocks_for n → PAYLOAD * i < n
unfolding blocks_for
some_left n i h = omega arith

pub none_left : (n i : ℕ) → blocks_for n ≤ i → n ≤ PAYLOAD * i
unfolding blocks_for
none_left n i h = omega arith

-- where laying stands, with so many bytes of the payload and of the room behind it
pub record Left (room₀ : List ℕ) (number place : ℕ) (payload room : List ℕ) (at to next first : ℕ) : Type 0 where
  pub leads : laid room to (chained (blocks_for (length payload - at)) next first (drop at payload))
      ≡ laid room₀ 0 (chained (blocks_for (length payload)) number place payload)
  pub long : length room ≡ length room₀
  pub fits : to + BLOCK * blocks_for (length payload - at) ≤ length room
  pub numbered : next + blocks_for (length payload - at) ≤ 65536
  pub placed : first < 65536
  pub within : at < length payload + PAYLOAD

module _ (room₀ : List ℕ) (number place : ℕ) (payload : List ℕ) where
  pub at_first_law : BLOCK * blocks_for (length payload) ≤ length room₀ → number + blocks_for (length payload) ≤ 65536 → place < 65536
      → Left room₀ number place payload room₀ 0 0 number place
  at_first_law fits numbered placed =
      let whole : length payload - 0 ≡ length payload = omega arith in
      record {
        leads = rw whole refl;
        long = refl;
        fits = rw whole (omega (arith, fits));
        numbered = rw whole numbered;
        placed = placed;
        within = omega arith;
      }

  module _ (room : List ℕ) (at to next first : ℕ) (left : Left room₀ number place payload room at to next first) where
    -- a block is laid
    pub block_on : (after : List ℕ) → at < length payload → after ≡ laid room to (block_of next first (take PAYLOAD (drop at payload)))
        → Left room₀ number place payload after (at + PAYLOAD) (to + BLOCK) (next + 1) NONE
    unfolding chained
    block_on after h e =
        let more = blocks_some (length payload) at h in
        let rest = chained (blocks_for (length payload - (at + PAYLOAD))) (next + 1) NONE (drop (at + PAYLOAD) payload) in
        let block = block_of next first (take PAYLOAD (drop at payload)) in
        let size : length block ≡ BLOCK = length_block next first (take PAYLOAD (drop at payload)) (rw (length-take PAYLOAD (drop at payload)) (omega arith)) in
        let one : suc next ≡ next + 1 = omega arith in
        let all : laid room to (block ++ rest) ≡ laid room₀ 0 (chained (blocks_for (length payload)) number place payload) =
        rw (more, one, drop-drop PAYLOAD at payload) at left.leads in
        record {
          leads = rw e (rw size at (laid_behind room to block rest)) ∙ all;
          long = ap length e ∙ length_laid room to block ∙ left.long;
          fits = rw e (rw (length_laid room to block) (omega (arith, more, left.fits)));
          numbered = omega (arith, more, left.numbered);
          placed = omega arith;
          within = omega (arith, h);
        }

    -- and none is left
    pub blocks_end : length payload ≤ at → room ≡ laid room₀ 0 (chained (blocks_for (length payload)) number place payload)
    unfolding chained laid
    blocks_end h = rw (blocks_none (length payload) at h) at left.leads

-- ---- one block

module _ (room : List ℕ) (to number place : ℕ) (payload : List ℕ) (fits : to + BLOCK ≤ length room) (numbered : number < 65536) (placed : place < 65536) where
  -- a part of the room is made a block
  made : (part : List ℕ) → length part ≡ BLOCK → sealed number place 0 payload part ≡ block_of number place (take PAYLOAD payload)
  unfolding sealed may_seal joined_to
  made part long =
      rw (eq-eqb (length part) BLOCK long, le-leb number WORD_MAX (omega (arith, numbered)), le-leb place WORD_MAX (omega (arith, placed))) refl

  pub block_laid : (part : List ℕ) → part ≡ sealed number place 0 payload (take (to + BLOCK - to) (drop to room))
      → put_mid to (to + BLOCK - to) room part ≡ laid room to (block_of number place (take PAYLOAD payload))
  block_laid part e =
      let lent : length (take (to + BLOCK - to) (drop to room)) ≡ BLOCK =
      length-take (to + BLOCK - to) (drop to room) ∙ rw (length-drop to room) (omega (arith, fits)) in
      let is : part ≡ block_of number place (take PAYLOAD payload) = e ∙ made _ lent in
      let size : length (block_of number place (take PAYLOAD payload)) ≡ BLOCK =
      length_block number place (take PAYLOAD payload) (rw (length-take PAYLOAD payload) (omega arith)) in
      rw is (back room to (to + BLOCK) (block_of number place (take PAYLOAD payload)) (omega arith) fits (size ∙ omega arith))
