-- The head of a picture file.
use Rattle.std.specs.Prelude.{ℕ, List, [], ◌∷◌}

-- the letters P6, the width 640 and the height 512, and the largest byte 255; each line ends in byte 10
abbrev pub header_bytes : List ℕ
header_bytes = 80 ∷ 54 ∷ 10 ∷ 54 ∷ 52 ∷ 48 ∷ 32 ∷ 53 ∷ 49 ∷ 50 ∷ 10 ∷ 50 ∷ 53 ∷ 53 ∷ 10 ∷ []
