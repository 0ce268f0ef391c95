-- A reply is found again by its number in the list of all, so its number tells it. At 13, which no reply has, the list has Done.
use Prim.Native.Nat.{ℕ, zero, suc}
use mathlib.Core.Path.{◌≡◌, refl, sym, ap, ◌∙◌}
use mathlib.Core.List.{List, [], ◌∷◌}
use native.Mathlib.Omega.{arith}
use Rattle.reply.specs.Reply.{reply_number}
use Rattle.reply.specs.Claims.{NumberTells, NoThirteen}
use Rattle.reply.specs.declared.Reply.{Reply}
use Rattle.reply.specs.declared.Reply.TheVariants.{Done, NoLine, BankLength, BufferLength, NotLawful, NoMode, LoresWithTiles, NextWithPlus, FarOffset, NoRegister, OutOfBounds, TooManyTiles, PackingBounds, NoForm, PairsDiffer, WrongCount, WrongVersion, BadField, NoOrder, BadDot, BadDesk, AlreadyOpen, NotOpen, DeskFull, BadTrace, LinesFall}

-- the member of a list at a number
at : List Reply → ℕ → Reply
at [] n = Done
at (r ∷ rs) zero = r
at (r ∷ rs) (suc n) = at rs n

replies : List Reply
replies =
    Done
    ∷ NoLine
    ∷ BankLength
    ∷ BufferLength
    ∷ NotLawful
    ∷ NoMode
    ∷ LoresWithTiles
    ∷ NextWithPlus
    ∷ FarOffset
    ∷ NoRegister
    ∷ OutOfBounds
    ∷ TooManyTiles
    ∷ PackingBounds
    ∷ Done
    ∷ NoForm
    ∷ PairsDiffer
    ∷ WrongCount
    ∷ WrongVersion
    ∷ BadField
    ∷ NoOrder
    ∷ BadDot
    ∷ BadDesk
    ∷ AlreadyOpen
    ∷ NotOpen
    ∷ DeskFull
    ∷ BadTrace
    ∷ LinesFall
    ∷ []

found : (r : Reply) → at replies (reply_number r) ≡ r
unfolding at replies
found Done = refl
found NoLine = refl
found BankLength = refl
found BufferLength = refl
found NotLawful = refl
found NoMode = refl
found LoresWithTiles = refl
found NextWithPlus = refl
found FarOffset = refl
found NoRegister = refl
found OutOfBounds = refl
found TooManyTiles = refl
found PackingBounds = refl
found NoForm = refl
found PairsDiffer = refl
found WrongCount = refl
found WrongVersion = refl
found BadField = refl
found NoOrder = refl
found BadDot = refl
found BadDesk = refl
found AlreadyOpen = refl
found NotOpen = refl
found DeskFull = refl
found BadTrace = refl
found LinesFall = refl

pub number_tells : NumberTells
number_tells a b e = sym (found a) ∙ ap (at replies) e ∙ found b

-- it would be that of Done
pub no_thirteen : NoThirteen
unfolding at replies
no_thirteen r e =
    let d : r ≡ Done = sym (found r) ∙ ap (at replies) e in
    let z : reply_number r ≡ 0 = ap reply_number d in
    omega arith
