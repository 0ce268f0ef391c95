-- Rules 4.21 and 5.12: transparent dots, which are 512, and clips.
use Rattle.std.specs.Prelude.{ℕ, ◌/◌, Bool, cond, ◌&&◌, leb, eqb}

-- a ULA dot is transparent when colour div 2 equals $14
unfoldable pub shown : ℕ → ℕ → ℕ
shown transparent c = cond (eqb (c / 2) transparent) 512 c

-- between two coordinates of a clip, both ends inside
abbrev pub inside : ℕ → ℕ → ℕ → Bool
inside v low high = leb low v && leb v high

-- a dot at x is transparent outside the clip
unfoldable pub clipped : ℕ → ℕ → ℕ → ℕ → ℕ
clipped x left right dot = cond (inside x left right) dot 512

-- the upper dot unless transparent, then the lower
unfoldable pub top_dot : ℕ → ℕ → ℕ
top_dot upper lower = cond (eqb upper 512) lower upper
