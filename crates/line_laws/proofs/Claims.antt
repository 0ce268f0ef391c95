-- The proofs of the statements in specs/Claims.antt, each under its statement's name. A composed dot is at most 512, and the fallback takes
-- the place of 512.
use Rattle.colour.specs.Bytes.{widened}
use Rattle.colour.proofs.Widened.{widened-most}
use Rattle.line_dots.proofs.Finished.{finished-most}
use Rattle.line.specs.Lines.{composed_dot, line_dot}
use Rattle.line_laws.specs.Claims.{DotsAreColours}
use Rattle.line_laws.proofs.Composed.{composed-most, typed-bytes}

pub dots_are_colours : DotsAreColours
unfolding line_dot
dots_are_colours s ula tile line k typed lawful =
    finished-most (composed_dot s ula tile line k) (widened s.ula.fallback) (composed-most s (typed-bytes s typed) lawful ula tile line k)
    (widened-most s.ula.fallback typed.ula.fallback)
