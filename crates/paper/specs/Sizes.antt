-- The sizes of the build paper. They stay shut, so that no proof counts to one.
use Rattle.std.specs.Prelude.{ℕ, ◌*◌}

-- the most bytes that a PDU has, and the fewest that the buffer for a written one has
unfoldable pub PDU_MAX : ℕ
PDU_MAX = 1600

-- the most bytes that a message has
unfoldable pub MESSAGE_MAX : ℕ
MESSAGE_MAX = 4096

-- the most bytes of a message that is cut into one Data
unfoldable pub WHOLE_MAX : ℕ
WHOLE_MAX = 1590

-- the records of the table, each with its own part of the store, which holds a message
unfoldable pub PARTS : ℕ
PARTS = 16

unfoldable pub PART : ℕ
unfolding MESSAGE_MAX
PART = MESSAGE_MAX

unfoldable pub STORE : ℕ
unfolding PARTS PART
STORE = PARTS * PART

-- the fewest bytes that a reply buffer has
unfoldable pub REPLY_MIN : ℕ
REPLY_MIN = 9

-- the most sets of charges in a file of them
unfoldable pub SETS_MAX : ℕ
SETS_MAX = 65536

-- the most bytes that a listener list has
unfoldable pub LIST_MAX : ℕ
LIST_MAX = 512

-- where a count of messages stays once there
unfoldable pub COUNT_MAX : ℕ
COUNT_MAX = 4294967295
