-- What a row of LoRes is filled with; the meaning of a dot does not name this.
use Rattle.std.specs.Prelude.{ℕ, List, get_or}
use Rattle.surface.specs.Dots.{shown}
use Rattle.ula_byte.specs.Bytes.{lores_address}

-- the dot of column c of 128 of a LoRes row
unfoldable pub lores_shade : ℕ → ℕ → List ℕ → List ℕ → ℕ → ℕ
lores_shade row transparent pal bank c = shown transparent (get_or pal (get_or bank (lores_address row c) 0) 0)
