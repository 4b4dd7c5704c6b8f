-- What reads and writes may answer. Which bytes a read brings a contract can say only of a reader whose bytes are known.
use Rattle.std.specs.Prelude.{◌≡◌, ℕ, ◌<◌, ◌≤◌, List, Option, Result, Ok, Err, length, take, drop, ⊤}
use Rattle.std.specs.Io.KnownBytes.{Consumes, IsAtEnd, Keeps}
use Rattle.files.specs.declared.Failed.{Failed}

-- a buffer of a size that had some bytes has at least these, or the read failed
abbrev pub Fills : ℕ → ℕ → Result ℕ Failed → Type 0
Fills had size (Ok n) = (had ≤ n) × (n ≤ size)
Fills had size (Err why) = Unit {0}

-- a read behind what a buffer had brings the first of the reader's known bytes, and nothing only where it has none or the
-- buffer has no room
abbrev pub Brings : Option (List ℕ) → Option (List ℕ) → ℕ → List ℕ → Result ℕ Failed → Type 0
Brings old new had buffer (Ok n) = Consumes old new (drop had (take n buffer)) × (n ≡ had → had < length buffer → IsAtEnd new)
Brings old new had buffer (Err why) = Keeps old new

-- reads to the end bring the first of the reader's known bytes, and all of them where the buffer has room left
abbrev pub Loads : Option (List ℕ) → Option (List ℕ) → List ℕ → Result ℕ Failed → Type 0
Loads old new buffer (Ok n) = Consumes old new (take n buffer) × (n < length buffer → IsAtEnd new)
Loads old new buffer (Err why) = ⊤
