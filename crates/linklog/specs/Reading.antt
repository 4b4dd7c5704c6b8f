-- What reading gives, as the paper tells it: block by block.
use Rattle.std.specs.Prelude.{ℕ, zero, suc, ◌/◌, ◌%◌, Bool, cond, ◌&&◌, List, [], ◌++◌, map, leb, eqb, length, take, drop}
use Rattle.records.specs.Walks.{records_of, rest_of}
use Rattle.blocks.specs.Block.{BLOCK, NONE, place_in, payload_in, is_good}
use Rattle.linklog.specs.Records.{Entry, is_stray, logged_whole, entry_in}

-- where reading stands between two blocks: it looks for a block with a record beginning, or has bytes of a record that isn't whole
pub data Course : Type 0 where
  Seeking : Course
  Within : List ℕ → Course

-- what a block gives: the bytes of each record that becomes whole, how many bytes stand behind the last of them, and where reading
-- stands then
pub record Gave : Type 0 where
  pub given : List (List ℕ)
  pub behind : ℕ
  pub course : Course

abbrev pub nothing : Gave
nothing = record { given = []; behind = 0; course = Seeking }

-- bytes from a record's beginning on: its whole records, and what is left. A length that no record has ends it
unfoldable pub through : List ℕ → Gave
through bytes =
    record {
      given = records_of logged_whole bytes;
      behind = length (rest_of logged_whole bytes);
      course = cond (is_stray (rest_of logged_whole bytes)) Seeking (Within (rest_of logged_whole bytes));
    }

-- a good block
unfoldable pub entered : Course → List ℕ → Gave
entered Seeking block = cond (eqb (place_in block) NONE) nothing (through (drop (place_in block) (payload_in block)))
entered (Within left) block = through (left ++ payload_in block)

-- any block: "after a bad block, or a length that no record has, it goes on at the next block not yet read with a record beginning"
unfoldable pub taken : Bool → ℕ → Course → List ℕ → Gave
taken last number course block = cond (is_good last number block) (entered course block) nothing

-- so many blocks, from a number on
unfoldable pub read_from : ℕ → ℕ → Course → List ℕ → List (List ℕ)
read_from zero number course file = []
read_from (suc n) number course file =
    (taken (eqb n 0) number course (take BLOCK file)).given
    ++ read_from n (suc number) (taken (eqb n 0) number course (take BLOCK file)).course (drop BLOCK file)

-- "At most 65,536 blocks."
abbrev pub BLOCKS_MAX : ℕ
BLOCKS_MAX = 65536

-- a file that is whole blocks, and not too many; any other is refused, 22
unfoldable pub is_log : ℕ → Bool
is_log size = eqb (size % BLOCK) 0 && leb (size / BLOCK) BLOCKS_MAX

-- the records of a log
unfoldable pub records_read : List ℕ → List (List ℕ)
records_read file = read_from (length file / BLOCK) 0 Seeking file

unfoldable pub entries_read : List ℕ → List Entry
entries_read file = map entry_in (records_read file)
