-- What refuses a line besides its state's own reply is never 4. Each reply has another number.
use Prim.Native.Nat.{ℕ}
use mathlib.Core.Path.{refl}
use mathlib.Core.Bool.{◌&&◌}
use lib.Dec.{eqb}
use Rattle.reply.specs.declared.Reply.TheVariants.{NoLine, BankLength, BufferLength, NoMode, LoresWithTiles, NextWithPlus, FarOffset}
use Rattle.reply.proofs.NotFour.{NotFour, other, done-not-four, test-not-four, piece-not-four, two-not-four}
use Rattle.state.specs.declared.Ula.{Ula}
use Rattle.state.specs.declared.Tiles.{Tiles}
use Rattle.state.specs.declared.Palette.{Palette}
use Rattle.state.specs.declared.Ports.{Ports}
use Rattle.surface.specs.Lines.{is_line}
use Rattle.surface.specs.declared.lines.LineNumber.{LineNumber}
use Rattle.line_replies.specs.Replies.{line_reply, lengths_reply, lores_with_tiles, next_with_plus, no_mode, far_offset, state_reply}

pub line-not-four : (l : LineNumber) → NotFour (line_reply l)
unfolding line_reply
line-not-four l = piece-not-four (is_line l) NoLine (other NoLine refl)

pub lengths-not-four : (ula tile dots : ℕ) → NotFour (lengths_reply ula tile dots)
unfolding lengths_reply
lengths-not-four ula tile dots =
    two-not-four (eqb ula 16384 && eqb tile 16384) (eqb dots 640) BufferLength BankLength (other BufferLength refl) (other BankLength refl)

pub state-not-four : (u : Ula) (t : Tiles) (p : Palette) (q : Ports) → NotFour (state_reply u t p q)
unfolding state_reply
state-not-four u t p q =
    test-not-four (lores_with_tiles u t) LoresWithTiles _ (other LoresWithTiles refl)
    (test-not-four (next_with_plus p q) NextWithPlus _ (other NextWithPlus refl)
    (test-not-four (no_mode u q) NoMode _ (other NoMode refl) (test-not-four (far_offset t) FarOffset _ (other FarOffset refl) done-not-four)))
