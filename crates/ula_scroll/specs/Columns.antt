-- What filling a row by cells asks of a column; the meaning of a dot does not name these.
use Rattle.std.specs.Prelude.{ℕ, ◌+◌, ◌*◌, ◌<◌, ◌≡◌}
use Rattle.ula_scroll.specs.Scrolls.{pixel_read, dot_read}

-- pixel j of cell i reads pixel j of the column
abbrev pub PixelsRead : ℕ → ℕ → ℕ → Type 0
PixelsRead i offset column = (j : ℕ) → j < 8 → pixel_read (i * 8 + j) offset ≡ column * 8 + j

-- mode 6: dot j of column c reads dot j of the column
abbrev pub DotsRead : ℕ → ℕ → ℕ → Type 0
DotsRead c offset column = (j : ℕ) → j < 8 → dot_read (c * 8 + j) offset ≡ column * 8 + j
