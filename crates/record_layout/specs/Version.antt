-- Rules 7.1, 7.2 and 7.5 to 7.7: the versions of a record. Version 1 has neither $26 nor $27.
use Rattle.std.specs.Prelude.{ℕ}
use Rattle.state.specs.declared.State.{State}
use Rattle.state.specs.Groups.{ula_with_x, ula_with_y}
use Rattle.state.specs.With.{with_ula}
use Rattle.record_layout.specs.declared.Version.{Version}
use Rattle.record_layout.specs.declared.Version.TheVariants.{Version1, Version2}

-- the byte by which a record states its version
abbrev pub version_number : Version → ℕ
version_number Version1 = 1
version_number Version2 = 2

-- the version that is written
abbrev pub current : Version
current = Version2

-- the version that a record is moved to
abbrev pub other : Version → Version
other Version1 = Version2
other Version2 = Version1

-- how many bytes a version has between $33 and the ULA clip
abbrev pub added : Version → ℕ
added Version1 = 0
added Version2 = 2

-- what a version keeps of a state: in version 1 $26 and $27 are those of $32 and $33
abbrev pub kept_in : Version → State → State
kept_in Version1 s = with_ula s (ula_with_y (ula_with_x s.ula s.ula.loresx) s.ula.loresy)
kept_in Version2 s = s
