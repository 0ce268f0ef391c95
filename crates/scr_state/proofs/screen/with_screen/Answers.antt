-- The groups and the registers, each by its function.
use borrow.Author.Rules.{rules}
use Rattle.scr_state.proofs.screen.with_screen.Goals as goal

pub returns : goal.returns
returns c =
    rw (
      c.refilled-registers.ensures,
      c.ports_for_screen-ports.ensures,
      c.palette_for_screen-palette.ensures,
      c.ula_for_screen-ula.ensures,
    )
