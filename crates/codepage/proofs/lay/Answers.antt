-- `codepage::lay` meets its contract: byte by byte it is the sequence of the code point's size, for which there is room.
use mathlib.Core.Path.{◌≡◌, refl, sym, ap}
use Prim.Native.Nat.{suc, ◌+◌}
use native.Mathlib.Numerals.{add-one}
use lib.ListN.{length, length-set}
use borrow.Author.Rules.{rules}
use native.Mathlib.Omega.{arith}
use Rattle.lists.specs.Bytes.{laid}
use Rattle.codepage.specs.Utf8.{sequence_of}
use Rattle.codepage.proofs.Bits.{one_byte, two_bytes, three_bytes}
use Rattle.codepage.proofs.lay.Goals as goal

-- ---- one byte
pub bounds-out-at : goal.bounds-out-at
bounds-out-at c = omega (arith, c.requires, ap length (one_byte c.args.point c.if-point-lt128.true))

pub returns-then-point-lt128 : goal.returns-then-point-lt128
unfolding laid
returns-then-point-lt128 c = rw (one_byte c.args.point c.if-point-lt128.true) (record { value = refl; out_after = refl })

pub bounds-out-at-then-point-lt2048 : goal.bounds-out-at-then-point-lt2048
bounds-out-at-then-point-lt2048 c =
    let two : 2 ≡ length (sequence_of c.args.point) = sym (ap length (two_bytes c.args.point c.if-point-lt128.false c.if-point-lt2048.true)) in
    omega (arith, c.requires, two)

pub bounds-out-at-then-point-lt2048-2 : goal.bounds-out-at-then-point-lt2048-2
bounds-out-at-then-point-lt2048-2 c =
    let two : 2 ≡ length (sequence_of c.args.point) = sym (ap length (two_bytes c.args.point c.if-point-lt128.false c.if-point-lt2048.true)) in
    simp length-set (omega (arith, c.requires, two))

pub returns-then-point-lt2048 : goal.returns-then-point-lt2048
unfolding laid
returns-then-point-lt2048 c = rw (two_bytes c.args.point c.if-point-lt128.false c.if-point-lt2048.true, add-one) (record { value = refl; out_after = refl })

pub bounds-out-at-2 : goal.bounds-out-at-2
bounds-out-at-2 c =
    let three : 3 ≡ length (sequence_of c.args.point) = sym (ap length (three_bytes c.args.point c.if-point-lt2048.false (search rules))) in
    omega (arith, c.requires, three)

pub bounds-out-at-3 : goal.bounds-out-at-3
bounds-out-at-3 c =
    let three : 3 ≡ length (sequence_of c.args.point) = sym (ap length (three_bytes c.args.point c.if-point-lt2048.false (search rules))) in
    simp length-set (omega (arith, c.requires, three))

pub bounds-out-at-4 : goal.bounds-out-at-4
bounds-out-at-4 c =
    let three : 3 ≡ length (sequence_of c.args.point) = sym (ap length (three_bytes c.args.point c.if-point-lt2048.false (search rules))) in
    simp length-set (omega (arith, c.requires, three))

pub returns : goal.returns
unfolding laid
returns c =
    let at = c.args.at in
    let third : at + 2 ≡ suc (suc at) = omega arith in
    rw (three_bytes c.args.point c.if-point-lt2048.false (search rules), add-one, third) (record { value = refl; out_after = refl })
