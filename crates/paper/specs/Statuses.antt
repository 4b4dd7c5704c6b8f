-- CreationStatus of a channel that is opened, that no listener is there for, and that no record is free for.
use Rattle.std.specs.Prelude.{ℤ, pos, negsuc}

abbrev pub OPENED : ℤ
OPENED = pos 0

-- -2147023728, 0x80070490 (`negsuc n` is -1 - n)
abbrev pub UNLISTED : ℤ
UNLISTED = negsuc 2147023727

-- -2147024882, 0x8007000E
abbrev pub FULL : ℤ
FULL = negsuc 2147024881
