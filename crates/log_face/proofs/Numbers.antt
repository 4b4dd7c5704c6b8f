-- A number is taken apart as it was put together.
use mathlib.Core.Path.{◌≡◌, refl}
use mathlib.Core.Bool.{Bool, true, false}
use Prim.Native.Nat.{◌+◌, ◌*◌, ◌/◌, ◌%◌, ◌≤◌, ◌<◌}
use native.Mathlib.Omega.{arith}
use lib.Dec.{eqb}
use mir.Val.{bool_byte}
use Rattle.linklog.specs.declared.Log.{Log}
use Rattle.linklog.specs.declared.End.{End}
use Rattle.linklog.specs.declared.Reader.{Reader}
use Rattle.linklog.specs.Reading.{BLOCKS_MAX}
use Rattle.log_face.specs.Words.{HELDS, LOGS, log_word, log_in, WHOLES, BEHINDS, ENDS, USEDS, READS, bit, end_word, end_in, read_word, read_in}

-- ---- a log

pub log_back : (log : Log) → log.held < HELDS → log_in (log_word log) ≡ log
unfolding log_in log_word
log_back log h =
    let above : (log.held + HELDS * log.blocks) / HELDS ≡ log.blocks = omega (arith, h) in
    let below : (log.held + HELDS * log.blocks) % HELDS ≡ log.held = omega (arith, h) in
    rw (above, below) refl

pub log_small : (log : Log) → log.blocks ≤ BLOCKS_MAX → log.held < HELDS → log_word log < LOGS
unfolding log_word
log_small log few held = omega (arith, few, held)

-- ---- a reader

-- whether it is within a record, as the library has it in a number
pub bit_is : (b : Bool) → bool_byte b ≡ bit b
unfolding bit
bit_is true = refl
bit_is false = refl

pub bit_below : (b : Bool) → bool_byte b < 2
bit_below true = omega arith
bit_below false = omega arith

-- its parts are small enough
pub record Small (reader : Reader) : Type 0 where
  pub whole : reader.whole < WHOLES
  pub behind : reader.behind < BEHINDS
  pub blocks : reader.end.blocks < ENDS
  pub used : reader.end.used < USEDS

bit_back : (b : Bool) → (bit b < 2) × (eqb (bit b) 1 ≡ b)
unfolding bit
bit_back true = (omega arith, refl)
bit_back false = (omega arith, refl)

end_back : (end : End) → end.blocks < ENDS → end.used < USEDS → (end_in (end_word end) ≡ end) × (end_word end < ENDS * USEDS)
unfolding end_in end_word
end_back end b u =
    let blocks : end.blocks % ENDS ≡ end.blocks = omega (arith, b) in
    let used : end.used % USEDS ≡ end.used = omega (arith, u) in
    let low : (end.blocks + ENDS * end.used) % ENDS ≡ end.blocks = omega (arith, b) in
    let high : (end.blocks + ENDS * end.used) / ENDS ≡ end.used = omega (arith, b) in
    (rw (blocks, used, low, high, used) refl, rw (blocks, used) (omega (arith, b, u)))

module _ (reader : Reader) (small : Small reader) where
  low : read_word reader % WHOLES ≡ reader.whole
  unfolding read_word
  low = omega (arith, small.whole)

  next : read_word reader / WHOLES ≡ reader.behind + BEHINDS * (bit reader.within + 2 * end_word reader.end)
  unfolding read_word
  next = omega (arith, small.whole, small.behind)

  pub read_back : read_in (read_word reader) ≡ reader
  unfolding read_in
  read_back =
      let one = bit_back reader.within in
      let rest = end_back reader.end small.blocks small.used in
      let second : (reader.behind + BEHINDS * (bit reader.within + 2 * end_word reader.end)) % BEHINDS ≡ reader.behind = omega (arith, small.behind) in
      let third : (reader.behind + BEHINDS * (bit reader.within + 2 * end_word reader.end)) / BEHINDS ≡ bit reader.within + 2 * end_word reader.end =
      omega (arith, small.behind) in
      let fourth : (bit reader.within + 2 * end_word reader.end) % 2 ≡ bit reader.within = omega (arith, one.0) in
      let fifth : (bit reader.within + 2 * end_word reader.end) / 2 ≡ end_word reader.end = omega (arith, one.0) in
      rw (low, next, second, third, fourth, fifth, one.1, rest.0) refl

  pub read_small : read_word reader < READS
  unfolding read_word
  read_small = omega (arith, (bit_back reader.within).0, (end_back reader.end small.blocks small.used).1)
