-- The refusals' numbers. The type and the sentence of each stand in src/lib.rt.
use Rattle.std.specs.Prelude.{ℕ}
use Rattle.paper.specs.declared.Refusal.{Refusal}
use Rattle.paper.specs.declared.Refusal.TheVariants.{BadCall, CutShort, TooLong, NoCommand, BadField}
use Rattle.paper.specs.declared.Refusal.TheVariants.{BadList, WrongTime, NotOpen, AlreadyOpen, StillJoining}
use Rattle.paper.specs.declared.Refusal.TheVariants.{OverLimit, PastLength, IsSpoiled, NoStart, AllTaken, NotAwaited, NotSets, Loose}
use Rattle.paper.specs.declared.Refusal.TheVariants.{NoPartner, NoRoom, LogFull, NotBlocks}

abbrev pub refusal_number : Refusal → ℕ
refusal_number BadCall = 1
refusal_number CutShort = 2
refusal_number TooLong = 3
refusal_number NoCommand = 4
refusal_number BadField = 5
refusal_number BadList = 6
refusal_number WrongTime = 7
refusal_number NotOpen = 8
refusal_number AlreadyOpen = 9
refusal_number StillJoining = 10
refusal_number OverLimit = 11
refusal_number PastLength = 12
refusal_number IsSpoiled = 13
refusal_number NoStart = 14
refusal_number AllTaken = 15
refusal_number NotAwaited = 16
refusal_number NotSets = 17
refusal_number Loose = 18
refusal_number NoPartner = 19
refusal_number NoRoom = 20
refusal_number LogFull = 21
refusal_number NotBlocks = 22
