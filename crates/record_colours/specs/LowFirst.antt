-- What a reading of pairs of bytes keeps; no part of what a record is.
use Rattle.std.specs.Prelude.{◌≡◌, List, ℕ, ◌+◌, ◌*◌, ◌/◌, ◌%◌, ◌<◌, ◌≤◌, get_or}

-- a number of two bytes, the first low
pub record LowFirst (first second v : ℕ) : Type 0 where
  pub low : v % 256 ≡ first
  pub high : v / 256 ≡ second
  pub small : v < 65536

-- the first n numbers of ps are the pairs of bytes from a place of b on
abbrev pub AllLowFirst : List ℕ → ℕ → List ℕ → ℕ → Type 0
AllLowFirst b at ps n = (i : ℕ) → i < n → LowFirst (get_or b (at + 2 * i) 0) (get_or b (at + 2 * i + 1) 0) (get_or ps i 0)

-- the first n bytes at even places are at most 1: each is the high byte of a colour
abbrev pub EachHighFits : List ℕ → ℕ → Type 0
EachHighFits b n = (k : ℕ) → k < n → get_or b (k * 2) 0 ≤ 1
