-- What a pen writes in several steps.
-- Assumes nothing.
use Rattle.std.proofs.Common.{◌≡◌, ℕ, ◌+◌, ◌*◌, ◌≤◌, ◌<◌, min, List, [], ◌∷◌, ◌++◌, length, take, get_or, refl, sym, arith, length-append, append_assoc, append-nil, ◌∙◌}
use Rattle.std.proofs.lemmas.List.{take_more}
use Rattle.lists.specs.Bytes.{laid}
use Rattle.lists.proofs.Laid.{laid_behind, laid_least}
use Rattle.lines.specs.declared.Pen.{Pen}
use Rattle.lines.specs.Hex.{hex_byte, hex_of}
use Rattle.lines.specs.Pen.{Writes}

-- a text, and a text behind it
pub then : {a b c : Pen} {s t : List ℕ} {m n : ℕ} → Writes a b s m → Writes b c t n → Writes a c (s ++ t) (m + n)
then {a} {b} {c} {s} {t} p q = record {
  same = q.same ∙ p.same;
  out = rw (p.out, p.at) at q.out ∙ laid_behind a.out.now a.at s t;
  at = simp length-append (omega (arith, p.at, q.at));
  within = simp length-append (omega (arith, p.within, q.within));
}

-- at most more
pub at_most : {a b : Pen} {s : List ℕ} {m : ℕ} (n : ℕ) → Writes a b s m → m ≤ n → Writes a b s n
at_most n p h = record { same = p.same; out = p.out; at = p.at; within = omega (arith, p.within) }

-- nothing
pub nothing : (a : Pen) → Writes a a [] 0
unfolding laid
nothing a = record { same = refl; out = refl; at = omega arith; within = omega arith }

-- from whatever place: past the end nothing is laid
pub from_least : {a b : Pen} {s : List ℕ} {m : ℕ} (at : ℕ) → Writes a b s m → a.at ≡ min at (length a.out.now) → b.out.now ≡ laid a.out.now at s
from_least {a} {b} {s} at p h = p.out ∙ rw h (laid_least a.out.now at s)

-- the digits of one more byte
pub hex_append : (bytes : List ℕ) (byte : ℕ) → hex_of (bytes ++ byte ∷ []) ≡ hex_of bytes ++ hex_byte byte
unfolding hex_of
hex_append [] byte = append-nil (hex_byte byte)
hex_append (b ∷ bytes) byte = rw (hex_append bytes byte) (sym (append_assoc (hex_byte b) (hex_of bytes) (hex_byte byte)))

pub hex_more : {a b c : Pen} (bytes : List ℕ) (i : ℕ) → i < length bytes → Writes a b (hex_of (take i bytes)) (2 * i)
    → Writes b c (hex_byte (get_or bytes i 0)) 2 → Writes a c (hex_of (take (i + 1) bytes)) (2 * (i + 1))
hex_more bytes i h p q = rw (take_more bytes i 0 h, hex_append (take i bytes) (get_or bytes i 0)) (at_most _ (then p q) (omega arith))
