-- A walk over records, whatever a record is and whatever a program does with it. The input comes in pieces, as reads give it,
-- and the text goes out in pieces, as the output has room.
use Rattle.std.specs.Prelude.{◌≡◌, ℕ, zero, suc, ◌+◌, ◌-◌, ◌≤◌, ◌<◌, cond, Option, None, Some, List, [], ◌∷◌, ◌++◌, ltb, eqb, length, take, drop}
use Rattle.records.specs.Records.{found}
use Rattle.records.specs.declared.Due.{Due}
use Rattle.records.specs.declared.Due.TheVariants.{Read, Room, Nothing}

-- ---- records

-- What a record is, is said by the bytes of the one at the front, or 0 where no whole record stands there. They are there,
-- and more bytes behind a whole record leave it as it is.
pub record Framing (extent : List ℕ → ℕ) : Type 0 where
  pub fits : (input : List ℕ) → extent input ≤ length input
  pub more : (input behind : List ℕ) → 0 < extent input → extent (input ++ behind) ≡ extent input

-- the record at the front
unfoldable pub front_of : (List ℕ → ℕ) → List ℕ → List ℕ
front_of extent input = take (extent input) input

-- the whole records, one behind the other. The number only bounds the steps
unfoldable pub records_in : (List ℕ → ℕ) → ℕ → List ℕ → List (List ℕ)
records_in extent zero input = []
records_in extent (suc steps) input =
    cond (eqb (extent input) 0) []
    (front_of extent input ∷ records_in extent steps (drop (extent input) input))

-- each record has a byte, so that the bound never counts
unfoldable pub records_of : (List ℕ → ℕ) → List ℕ → List (List ℕ)
records_of extent input = records_in extent (length input) input

-- ---- programs

-- A program that walks over records. What it keeps from record to record is an S.
pub record Program (S : Type 0) : Type 0 where
  -- the bytes of the record at the front of an input, or 0 where none is whole
  pub extent : List ℕ → ℕ
  -- what it writes before the first record
  pub first : List ℕ
  -- the room that it asks for what it writes at a time
  pub room : ℕ
  -- what it keeps after a record, and what it writes for it
  pub after : S → List ℕ → S
  pub text : S → List ℕ → List ℕ
  -- what it writes for a last record that is cut short
  pub cut : S → List ℕ

-- ---- all that a program writes

unfoldable pub after_all : {S : Type 0} → Program S → S → List (List ℕ) → S
after_all p s [] = s
after_all p s (bytes ∷ rest) = after_all p (p.after s bytes) rest

unfoldable pub text_of_all : {S : Type 0} → Program S → S → List (List ℕ) → List ℕ
text_of_all p s [] = []
text_of_all p s (bytes ∷ rest) = p.text s bytes ++ text_of_all p (p.after s bytes) rest

-- the bytes of records
unfoldable pub size_of : List (List ℕ) → ℕ
size_of [] = 0
size_of (bytes ∷ rest) = length bytes + size_of rest

-- what is left of the input behind its whole records
unfoldable pub rest_of : (List ℕ → ℕ) → List ℕ → List ℕ
rest_of extent input = drop (size_of (records_of extent input)) input

-- the end: where anything is left, it is a record that is cut short
unfoldable pub ending : {S : Type 0} → Program S → S → List ℕ → List ℕ
ending p s rest = cond (eqb (length rest) 0) [] (p.cut s)

-- what is written for an input
unfoldable pub written : {S : Type 0} → Program S → S → List ℕ → List ℕ
written p s input =
    text_of_all p s (records_of p.extent input)
    ++ ending p (after_all p s (records_of p.extent input)) (rest_of p.extent input)

-- and all that is written, with what stands before the first record
unfoldable pub output : {S : Type 0} → Program S → S → List ℕ → List ℕ
output p s input = p.first ++ written p s input

-- ---- a walk in pieces

-- where a walk has come: what it keeps, how many bytes of the input it took, and what it wrote
pub record Went (S : Type 0) : Type 0 where
  pub kept : S
  pub taken : ℕ
  pub text : List ℕ

abbrev pub stay : {S : Type 0} → S → Went S
stay s = record { kept = s; taken = 0; text = [] }

abbrev pub onward : {S : Type 0} → ℕ → List ℕ → Went S → Went S
onward n text went = record { kept = went.kept; taken = n + went.taken; text = text ++ went.text }

-- a walk through records, while there is room
unfoldable pub walk_over : {S : Type 0} → Program S → ℕ → S → List (List ℕ) → Went S
walk_over p room s [] = stay s
walk_over p room s (bytes ∷ rest) =
    cond (ltb room p.room) (stay s)
    (onward (length bytes) (p.text s bytes) (walk_over p (room - length (p.text s bytes)) (p.after s bytes) rest))

abbrev pub walk_through : {S : Type 0} → Program S → ℕ → S → List ℕ → Went S
walk_through p room s input = walk_over p room s (records_of p.extent input)

-- a turn: where the walk has come in the input that is there, and what it waits for then
pub record Turned (S : Type 0) : Type 0 where
  pub went : Went S
  pub due : Due

-- a whole record that is left, of so many bytes, waits for room, anything else for a read
unfoldable pub due_for : Option ℕ → Due
due_for None = Read
due_for (Some n) = Room

-- the whole records, as far as there is room
unfoldable pub walked : {S : Type 0} → Program S → ℕ → S → List ℕ → Turned S
walked p room s input =
    record {
      went = walk_through p room s input;
      due = due_for (found (p.extent (drop (walk_through p room s input).taken input)));
    }

-- the end of the input, and of the walk; with too little room it waits
unfoldable pub ended : {S : Type 0} → Program S → ℕ → S → List ℕ → Turned S
ended p room s rest =
    cond (ltb room p.room) (record { went = stay s; due = Read })
    (record { went = record { kept = s; taken = 0; text = ending p s rest }; due = Nothing })

-- a turn over the input that is there. Of it `had` bytes were left from the turn before: a read that brings nothing is
-- the end
unfoldable pub turned : {S : Type 0} → Program S → ℕ → Due → S → ℕ → List ℕ → Turned S
turned p room Read s had input = cond (eqb (length input) had) (ended p room s input) (walked p room s input)
turned p room Room s had input = walked p room s input
turned p room Nothing s had input = record { went = stay s; due = Nothing }

-- ---- a run

-- between two turns: what the walk waits for, what it keeps, and the bytes that are left
pub record Standing (S : Type 0) : Type 0 where
  pub due : Due
  pub kept : S
  pub left : List ℕ

-- where a run begins: with a read
abbrev pub at_first : {S : Type 0} → S → Standing S
at_first s = record { due = Read; kept = s; left = [] }

-- what a turn meets: how much room the output has, and what a read would bring
pub record Met : Type 0 where
  pub room : ℕ
  pub bytes : List ℕ

-- a read is made where the walk waits for one, and at no other time
unfoldable pub brought : Due → List ℕ → List ℕ
brought Read bytes = bytes
brought Room bytes = []
brought Nothing bytes = []

-- the input at a turn: what was left, and behind it what was read
abbrev pub input_at : {S : Type 0} → Standing S → Met → List ℕ
input_at at met = at.left ++ brought at.due met.bytes

abbrev pub turn_at : {S : Type 0} → Program S → Standing S → Met → Turned S
turn_at p at met = turned p met.room at.due at.kept (length at.left) (input_at at met)

abbrev pub standing : {S : Type 0} → Turned S → List ℕ → Standing S
standing t input = record { due = t.due; kept = t.went.kept; left = drop t.went.taken input }

-- where a run has come, all that it has read, and all that it has written
pub record Ran (S : Type 0) : Type 0 where
  pub at : Standing S
  pub input : List ℕ
  pub text : List ℕ

-- a run, turn by turn
unfoldable pub ran : {S : Type 0} → Program S → Standing S → List Met → Ran S
ran p at [] = record { at = at; input = []; text = [] }
ran p at (met ∷ rest) =
    record {
      at = (ran p (standing (turn_at p at met) (input_at at met)) rest).at;
      input = brought at.due met.bytes ++ (ran p (standing (turn_at p at met) (input_at at met)) rest).input;
      text = (turn_at p at met).went.text ++ (ran p (standing (turn_at p at met) (input_at at met)) rest).text;
    }
