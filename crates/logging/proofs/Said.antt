-- The lines of a log's records, laid one behind the other.
-- Assumes nothing.
use mathlib.Core.Path.{◌≡◌, refl, sym, ◌∙◌}
use mathlib.Core.List.{List, [], ◌∷◌, ◌++◌, append_assoc, append-nil}
use mathlib.Core.Logic.{⊎_elim}
use Prim.Native.Nat.{ℕ, ◌+◌, ◌*◌, ◌≤◌, ◌<◌}
use native.Mathlib.Omega.{arith}
use lib.ListN.{length, take, drop}
use Rattle.lists.proofs.Cases.{lt_or_le}
use Rattle.lines.specs.declared.Pen.{Pen}
use Rattle.lines.specs.Hex.{bytes_field}
use Rattle.lines.specs.Pen.{PLACE_MAX, Writes, Lays}
use Rattle.lines.proofs.Pens.{then, at_most, nothing}
use Rattle.lines.proofs.Lays as stops
use Rattle.lines.proofs.Spelling.{length_hex, field_none, field_some}
use Rattle.records.specs.Walks.{front_of}
use Rattle.records.specs.Items.{items_in, after_items}
use Rattle.records.proofs.Items as items
use Rattle.linklog.specs.Records.{Entry, logged_whole, entry_in}
use Rattle.linklog.proofs.Framing.{log_framing}
use Rattle.logging.specs.Lines.{TEXT_PER_BYTE, entry_line, lines_of, said_of}

-- two digits for a byte, or one for none
pub digits_le : (bytes : List ℕ) → length (bytes_field bytes) ≤ 2 * length bytes + 1
digits_le bytes =
    ⊎_elim
    (λ (some : 0 < length bytes). rw (field_some bytes (λ e. omega arith), length_hex bytes) (omega arith))
    (λ (none : length bytes ≤ 0). rw (field_none bytes (omega arith)) (omega arith))
    (lt_or_le 0 (length bytes))

-- ---- line by line

-- the text with one line more
abbrev pub line_after : List ℕ → Entry → List ℕ
line_after text entry = text ++ entry_line entry

-- lines one behind the other
all_lines : (text : List ℕ) (entries : List Entry) → after_items line_after text entries ≡ text ++ lines_of entries
unfolding after_items lines_of
all_lines text [] = sym (append-nil text)
all_lines text (entry ∷ entries) =
    all_lines (text ++ entry_line entry) entries ∙ append_assoc text (entry_line entry) (lines_of entries)

-- what is asked of a way that a pen goes on: a text stands behind a text, and a bound may be wider
record Way (way : Pen → Pen → List ℕ → ℕ → Type 0) : Type 0 where
  behind : {a b c : Pen} {s t : List ℕ} {m n : ℕ} → way a b s m → way b c t n → way a c (s ++ t) (m + n)
  wider : {a b : Pen} {s : List ℕ} {m : ℕ} (n : ℕ) → way a b s m → m ≤ n → way a b s n

-- a walk that has taken `at` bytes, and whose pen has gone on since it began, in such a way
pub record LeftBy (way : Pen → Pen → List ℕ → ℕ → Type 0) (input : List ℕ) (start pen : Pen) (at : ℕ) : Type 0 where
  -- the lines laid so far
  pub text : List ℕ
  pub leads : items.Left log_framing entry_in line_after [] input text at
  pub writes : way start pen text (TEXT_PER_BYTE * at)

-- it begins with nothing taken and nothing laid
begins_by : (way : Pen → Pen → List ℕ → ℕ → Type 0) (input : List ℕ) (pen : Pen) → way pen pen [] 0 → LeftBy way input pen pen 0
begins_by way input pen none = record { text = []; leads = (omega arith, (refl, omega arith)); writes = none }

-- the record in front is taken, and its line is laid behind the others
abbrev pub GoesOn : (way : Pen → Pen → List ℕ → ℕ → Type 0) → Type 0
GoesOn way =
    (input : List ℕ) (start pen : Pen) (at : ℕ) → LeftBy way input start pen at → (pen' : Pen) (n : ℕ) → n ≡ logged_whole (drop at input) → 0 < n
    → at + n ≤ length input → way pen pen' (entry_line (entry_in (take n (drop at input)))) (TEXT_PER_BYTE * n) → LeftBy way input start pen' (at + n)

-- it ends where no whole record stands
abbrev pub EndsSo : (way : Pen → Pen → List ℕ → ℕ → Type 0) → Type 0
EndsSo way =
    (input : List ℕ) (start pen : Pen) (at : ℕ) → LeftBy way input start pen at → logged_whole (drop at input) ≡ 0
    → way start pen (said_of input) (TEXT_PER_BYTE * length input)

module _ (way : Pen → Pen → List ℕ → ℕ → Type 0) (law : Way way) where
  goes_on_by : GoesOn way
  unfolding front_of
  goes_on_by input start pen at left pen' n e some there w =
      record {
        text = left.text ++ entry_line (entry_in (take n (drop at input)));
        leads = rw (← e) at (items.goes_on_law log_framing entry_in line_after [] input left.text at n left.leads e some there);
        writes = law.wider _ (law.behind left.writes w) (omega arith);
      }

  ends_by : EndsSo way
  unfolding said_of
  ends_by input start pen at left none =
      let end = items.ends log_framing entry_in line_after [] input left.text at left.leads none in
      let text = end.0 ∙ all_lines [] (items_in logged_whole entry_in input) in
      rw text at (law.wider (TEXT_PER_BYTE * length input) left.writes (omega (arith, end.1.1)))

-- ---- a place that is behind each text

writes : Way Writes
writes = record { behind = then; wider = at_most }

abbrev pub Left : List ℕ → Pen → Pen → ℕ → Type 0
Left = LeftBy Writes

pub begins : (input : List ℕ) (pen : Pen) → Left input pen pen 0
begins input pen = begins_by Writes input pen (nothing pen)

pub goes_on_law : GoesOn Writes
goes_on_law = goes_on_by Writes writes

pub ends_so : EndsSo Writes
ends_so = ends_by Writes writes

-- ---- a place that may stop

lays : Way Lays
lays = record { behind = stops.then; wider = stops.at_most }

abbrev pub LeftAny : List ℕ → Pen → Pen → ℕ → Type 0
LeftAny = LeftBy Lays

pub begins_any : (input : List ℕ) (pen : Pen) → length pen.out.now ≤ PLACE_MAX → pen.at ≤ PLACE_MAX → LeftAny input pen pen 0
begins_any input pen small there = begins_by Lays input pen (stops.nothing pen small there)

pub goes_on_law_any : GoesOn Lays
goes_on_law_any = goes_on_by Lays lays

pub ends_so_any : EndsSo Lays
ends_so_any = ends_by Lays lays
