-- What a pen lays in several steps, wherever it stands: its place may stop. Where it doesn't, the pen writes as `Pens` has it.
-- Assumes nothing.
use Rattle.std.proofs.Common.{◌≡◌, ℕ, ◌+◌, ◌*◌, ◌≤◌, ◌<◌, min, List, [], ◌++◌, length, take, get_or, refl, arith, length-append, ◌∙◌}
use mathlib.Core.Logic.{⊎_elim}
use Rattle.std.proofs.lemmas.List.{take_more}
use Rattle.lists.specs.Bytes.{laid}
use Rattle.lists.proofs.Cases.{lt_or_le}
use Rattle.lists.proofs.Laid.{laid_behind, laid_least, laid_past}
use Rattle.lines.specs.declared.Pen.{Pen}
use Rattle.lines.specs.Hex.{hex_byte, hex_of}
use Rattle.lines.specs.Pen.{PLACE_MAX, Writes, Lays}
use Rattle.lines.proofs.Pens.{hex_append}

-- a place that stopped is past the end, as the one where it would have stood is
laid_stopped : (l : List ℕ) (at : ℕ) (bs : List ℕ) → length l ≤ PLACE_MAX → laid l (min at PLACE_MAX) bs ≡ laid l at bs
laid_stopped l at bs small =
    ⊎_elim
    (λ (h : at < PLACE_MAX). let e : min at PLACE_MAX ≡ at = omega arith in rw e)
    (λ (h : PLACE_MAX ≤ at). rw (laid_past l at bs (omega arith)) (laid_past l (min at PLACE_MAX) bs (omega arith)))
    (lt_or_le at PLACE_MAX)

-- a text, and a text behind it
pub then : {a b c : Pen} {s t : List ℕ} {m n : ℕ} → Lays a b s m → Lays b c t n → Lays a c (s ++ t) (m + n)
then {a} {b} {c} {s} {t} p q = record {
  same = q.same ∙ p.same;
  small = p.small;
  out = rw (p.at, laid_stopped b.out.now (a.at + length s) t q.small, p.out) at q.out ∙ laid_behind a.out.now a.at s t;
  at = simp length-append (omega (arith, p.at, q.at));
  within = simp length-append (omega (arith, p.within, q.within));
}

-- a place that does not stop is behind the text
pub behind : {a b : Pen} {s : List ℕ} {m : ℕ} → Lays a b s m → a.at + m ≤ PLACE_MAX → b.at ≡ a.at + length s
behind p h = omega (arith, p.at, p.within)

pub writes : {a b : Pen} {s : List ℕ} {m : ℕ} → Lays a b s m → a.at + m ≤ PLACE_MAX → Writes a b s m
writes p h = record { same = p.same; out = p.out; at = behind p h; within = p.within }

-- at most more
pub at_most : {a b : Pen} {s : List ℕ} {m : ℕ} (n : ℕ) → Lays a b s m → m ≤ n → Lays a b s n
at_most n p h = record { same = p.same; small = p.small; out = p.out; at = p.at; within = omega (arith, p.within) }

-- nothing
pub nothing : (a : Pen) → length a.out.now ≤ PLACE_MAX → a.at ≤ PLACE_MAX → Lays a a [] 0
unfolding laid
nothing a small there = record { same = refl; small = small; out = refl; at = omega arith; within = omega arith }

-- from whatever place: past the end nothing is laid
pub from_least : {a b : Pen} {s : List ℕ} {m : ℕ} (at : ℕ) → Lays a b s m → a.at ≡ min at (length a.out.now) → b.out.now ≡ laid a.out.now at s
from_least {a} {b} {s} at p h = p.out ∙ rw h (laid_least a.out.now at s)

-- the digits of one more byte
pub hex_more : {a b c : Pen} (bytes : List ℕ) (i : ℕ) → i < length bytes → Lays a b (hex_of (take i bytes)) (2 * i)
    → Lays b c (hex_byte (get_or bytes i 0)) 2 → Lays a c (hex_of (take (i + 1) bytes)) (2 * (i + 1))
hex_more bytes i h p q = rw (take_more bytes i 0 h, hex_append (take i bytes) (get_or bytes i 0)) (at_most _ (then p q) (omega arith))
