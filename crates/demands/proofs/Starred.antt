-- The starred numbers, proved by computing. What a call of `cut` leaves at the front of its buffer is the PDU (`given`), so that no
-- buffer
-- is computed.
-- Assumes nothing.
use Rattle.std.specs.Prelude.{Ok}
use Prim.Native.Nat.{ℕ, ◌-◌, ◌/◌, ◌≤◌, ◌<◌}
use mathlib.Core.Path.{◌≡◌, refl, sym, ap, ◌∙◌}
use mathlib.Core.List.{List, [], ◌∷◌}
use lib.Dec.{lit<, lit≤}
use lib.ListN.{length, get_or, take}
use Rattle.paper.specs.Sizes.{PDU_MAX, MESSAGE_MAX, WHOLE_MAX, LIST_MAX}
use Rattle.paper.specs.Commands.{DATA_FIRST, DATA}
use Rattle.lists.specs.Bytes.{zeros}
use Rattle.lists.specs.Places.{place}
use Rattle.numbers.specs.Numbers.{little, bytes_of, value_of, value_at, width_of, code_for, narrowest, narrow_bytes}
use Rattle.reading.specs.Reading.{closing, after_number, bad_length_width, numbered, by_command, read_pdu}
use Rattle.laying.specs.Laying.{head_of, data_first_head, data_first_bytes, data_bytes}
use Rattle.listeners.specs.Listeners.{names, ended, none_empty, same_bytes, is_one_of, all_names, good_list, is_listed}
use Rattle.cutting.specs.Cutting.{is_first, header_len, block_len, block_end, meets, is_start, block, cut_pdu, cut_at, cut_buffer, piece_of}
use Rattle.cutting.proofs.Answers.{given}
use Rattle.channel.specs.Stages.{added, took_first, took}
use Rattle.channel.specs.Channel.{act}
use Rattle.client.specs.Events.{create_act}
use Rattle.demands.specs.Cut.{Cut, cut_of, Cuts, last_one, one_more}
use Rattle.demands.specs.Starred.{Block, block_of, blocks_from, CutInto, reading, answering, taking, CaseHolds, starred, Starred}

-- ---- a message cut from an offset on, call by call

module _ (n : ℕ) (m : List ℕ) where
  record CutFrom (at : ℕ) (blocks : List Block) : Type 0 where
    pub cuts : List Cut
    pub are_cut : Cuts (λ o. cut_at n m o (zeros PDU_MAX)) (λ o. cut_buffer n m o (zeros PDU_MAX)) (length m) at cuts
    pub as_blocks : blocks_from at cuts ≡ blocks

  -- a call's block, by its PDU's Cmd and the lengths that it answered
  front_block :
      (at len next cmd : ℕ) → cut_at n m at (zeros PDU_MAX) ≡ Ok (piece_of len next) → get_or (cut_pdu n m at) 0 0 / 16 ≡ cmd
      → (cs : List Cut) (bs : List Block) → blocks_from next cs ≡ bs
      → blocks_from at (cut_of (cut_buffer n m at (zeros PDU_MAX)) len next ∷ cs) ≡ block_of cmd at (next - at) len ∷ bs
  front_block at len next cmd e c cs bs r =
      let g = given n m at (zeros PDU_MAX) len next e in
      let pdu = take len (cut_buffer n m at (zeros PDU_MAX)) in
      let first : get_or pdu 0 0 / 16 ≡ cmd = ap (λ (l : List ℕ). get_or l 0 0 / 16) g.stands ∙ c in
      let long : length pdu ≡ len = ap length g.stands ∙ sym g.whole_pdu in
      rw (first, long, r)

  last :
      (at len next cmd : ℕ) → cut_at n m at (zeros PDU_MAX) ≡ Ok (piece_of len next) → get_or (cut_pdu n m at) 0 0 / 16 ≡ cmd → length m ≤ next
      → CutFrom at (block_of cmd at (next - at) len ∷ [])
  last at len next cmd e c end = record { cuts = _; are_cut = last_one len next e end; as_blocks = front_block at len next cmd e c [] [] refl }

  more :
      (at len next cmd : ℕ) (bs : List Block) → cut_at n m at (zeros PDU_MAX) ≡ Ok (piece_of len next) → get_or (cut_pdu n m at) 0 0 / 16 ≡ cmd
      → next < length m → CutFrom next bs → CutFrom at (block_of cmd at (next - at) len ∷ bs)
  more at len next cmd bs e c below r =
      record { cuts = _; are_cut = one_more len next r.cuts e below r.are_cut; as_blocks = front_block at len next cmd e c r.cuts bs r.as_blocks }

  whole : (blocks : List Block) → CutFrom 0 blocks → CutInto n m blocks
  whole blocks r = record { cuts = r.cuts; are_cut = r.are_cut; as_blocks = r.as_blocks }

cuts_1590 : CutInto 5 (zeros 1590) (block_of DATA 0 1590 1592 ∷ [])
unfolding PDU_MAX MESSAGE_MAX WHOLE_MAX zeros bytes_of width_of code_for narrowest narrow_bytes head_of data_first_head data_first_bytes data_bytes is_first header_len block_len block_end meets is_start block cut_pdu cut_at
cuts_1590 =
    whole 5 (zeros 1590) _
    (last 5 (zeros 1590) 0 1592 1590 DATA refl refl (lit≤ tt))

cuts_1591 : CutInto 5 (zeros 1591) (block_of DATA_FIRST 0 1591 1595 ∷ [])
unfolding PDU_MAX MESSAGE_MAX WHOLE_MAX zeros bytes_of width_of code_for narrowest narrow_bytes head_of data_first_head data_first_bytes data_bytes is_first header_len block_len block_end meets is_start block cut_pdu cut_at
cuts_1591 =
    whole 5 (zeros 1591) _
    (last 5 (zeros 1591) 0 1595 1591 DATA_FIRST refl refl (lit≤ tt))

cuts_1596 : CutInto 5 (zeros 1596) (block_of DATA_FIRST 0 1596 1600 ∷ [])
unfolding PDU_MAX MESSAGE_MAX WHOLE_MAX zeros bytes_of width_of code_for narrowest narrow_bytes head_of data_first_head data_first_bytes data_bytes is_first header_len block_len block_end meets is_start block cut_pdu cut_at
cuts_1596 =
    whole 5 (zeros 1596) _
    (last 5 (zeros 1596) 0 1600 1596 DATA_FIRST refl refl (lit≤ tt))

cuts_1597 : CutInto 5 (zeros 1597) (block_of DATA_FIRST 0 1596 1600 ∷ block_of DATA 1596 1 3 ∷ [])
unfolding PDU_MAX MESSAGE_MAX WHOLE_MAX zeros bytes_of width_of code_for narrowest narrow_bytes head_of data_first_head data_first_bytes data_bytes is_first header_len block_len block_end meets is_start block cut_pdu cut_at
cuts_1597 =
    whole 5 (zeros 1597) _
    (more 5 (zeros 1597) 0 1600 1596 DATA_FIRST _ refl refl (lit< tt)
    (last 5 (zeros 1597) 1596 3 1597 DATA refl refl (lit≤ tt)))

cuts_4096 : CutInto 5 (zeros 4096) (block_of DATA_FIRST 0 1596 1600 ∷ block_of DATA 1596 1598 1600 ∷ block_of DATA 3194 902 904 ∷ [])
unfolding PDU_MAX MESSAGE_MAX WHOLE_MAX zeros bytes_of width_of code_for narrowest narrow_bytes head_of data_first_head data_first_bytes data_bytes is_first header_len block_len block_end meets is_start block cut_pdu cut_at
cuts_4096 =
    whole 5 (zeros 4096) _
    (more 5 (zeros 4096) 0 1600 1596 DATA_FIRST _ refl refl (lit< tt)
    (more 5 (zeros 4096) 1596 1600 3194 DATA _ refl refl (lit< tt)
    (last 5 (zeros 4096) 3194 904 4096 DATA refl refl (lit≤ tt))))

pub the_starred_numbers : Starred
unfolding PDU_MAX MESSAGE_MAX LIST_MAX zeros place little value_of value_at width_of closing after_number bad_length_width numbered by_command read_pdu names ended none_empty same_bytes is_one_of all_names good_list is_listed create_act act added took_first took reading answering taking CaseHolds starred Starred
the_starred_numbers =
    (refl, (refl, (refl, (refl, (refl, (refl, (refl, (cuts_1590, (cuts_1591, (cuts_1596, (cuts_1597, (cuts_4096, (refl, (refl, tt))))))))))))))
