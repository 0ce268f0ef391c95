-- Bounds that callers need of an index.
use Rattle.std.specs.Prelude.{ℕ}
use Rattle.ula_scheme.specs.declared.schemes.Scheme.{Scheme}
use Rattle.ula_scheme.specs.declared.schemes.Scheme.TheVariants.{Plain, Next, Plus}

-- a palette has 256 colours, ULAplus 64
abbrev pub indices : Scheme → ℕ
indices Plain = 256
indices Next = 256
indices Plus = 64
