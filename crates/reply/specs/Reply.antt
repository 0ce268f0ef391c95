-- Rules 9.0 and 12.6: the number of each reply.
use Rattle.std.specs.Prelude.{ℕ, Bool, eqb}
use Rattle.reply.specs.declared.Reply.{Reply}
use Rattle.reply.specs.declared.Reply.TheVariants.{Done, NoLine, BankLength, BufferLength, NotLawful, NoMode, LoresWithTiles, NextWithPlus, FarOffset, NoRegister, OutOfBounds, TooManyTiles, PackingBounds, NoForm, PairsDiffer, WrongCount, WrongVersion, BadField, NoOrder, BadDot, BadDesk, AlreadyOpen, NotOpen, DeskFull, BadTrace, LinesFall}

-- the number of each row of the table
abbrev pub reply_number : Reply → ℕ
-- done
reply_number Done = 0
-- line above 255
reply_number NoLine = 1
-- a bank not 16,384 long
reply_number BankLength = 2
-- another lent buffer of the wrong length
reply_number BufferLength = 3
-- state not lawful
reply_number NotLawful = 4
-- ULA on, LoRes off, no such mode
reply_number NoMode = 5
-- LoRes and tilemap both on
reply_number LoresWithTiles = 6
-- ULANext and ULAplus both on
reply_number NextWithPlus = 7
-- tilemap on, X offset at or above W
reply_number FarOffset = 8
-- no such register or port, or not that way
reply_number NoRegister = 9
-- value outside its bounds
reply_number OutOfBounds = 10
-- no map naming at most the number allowed draws the picture
reply_number TooManyTiles = 11
-- allowed above 256, or offset above 15
reply_number PackingBounds = 12
-- 13 is retired: 16, 17 and 18 stand in its place
-- a file that is no screen, or a screen that has no form as a file
reply_number NoForm = 14
-- a record that cannot be moved back: $26 is not $32, or $27 is not $33
reply_number PairsDiffer = 15
-- a record's stated number is missing, is not the number of bytes following, or is that of no version
reply_number WrongCount = 16
-- a record's version is not read here, or is not the one of its length
reply_number WrongVersion = 17
-- a field of a record is out of its bounds
reply_number BadField = 18
-- $15 bits 4-2 are 110 or 111, where lent layers are composed
reply_number NoOrder = 19
-- a number of a lent line that is not allowed
reply_number BadDot = 20
-- a desk of the wrong length, a seat not of its form, or a number seated twice
reply_number BadDesk = 21
-- open, where the number already has a seat
reply_number AlreadyOpen = 22
-- any other call on a desk, where the number has no seat
reply_number NotOpen = 23
-- open, where all sixteen seats are held
reply_number DeskFull = 24
-- a trace that is not well formed
reply_number BadTrace = 25
-- a trace whose lines fall
reply_number LinesFall = 26

-- a reply that refuses nothing
abbrev pub is_done : Reply → Bool
is_done r = eqb (reply_number r) 0
