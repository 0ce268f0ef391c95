-- How the code lays the dots of a place over each other. Transparent is made the least number and a priority dot the greatest, so that
-- the greater of two shows. No part of what a dot is.
use Rattle.std.specs.Prelude.{ℕ, ◌+◌, ◌*◌, ◌/◌, ◌%◌, ◌≤◌, ◌<◌, ◌≡◌, List, true, cond, eqb, ltb, length, get_or}
use Rattle.lists.specs.Search.{all}
use Rattle.layer_dots.specs.Numbers.{both_allowed, is_order}

-- a number with its bit 9 the other way: 0 for 512, 512 more for a colour
abbrev pub toggled : ℕ → ℕ
toggled n = (n + 512) % 1024 + n / 1024 * 1024

-- the greater of two numbers
abbrev pub greater : ℕ → ℕ → ℕ
greater a b = cond (ltb a b) b a

-- a number without its bit 9
abbrev pub untagged : ℕ → ℕ
untagged n = n / 1024 * 1024 + n % 512

-- a dot over what shows below it, which is a colour or a priority dot; so is what shows then
unfoldable pub over : ℕ → ℕ → ℕ
over x below = untagged (greater (toggled x) below)

-- the colour of three dots over the fallback, topmost first
unfoldable pub three_over : ℕ → ℕ → ℕ → ℕ → ℕ
three_over x y z fallback = over x (over y (over z fallback)) % 512

-- the upper and the lower of the two lent dots with the composed one at its level: 0 below both, 1 between them, 2 above
unfoldable pub level_over : ℕ → ℕ → ℕ → ℕ → ℕ → ℕ
level_over level fallback upper lower u =
    three_over (cond (eqb level 2) u upper) (cond (eqb level 2) upper (cond (eqb level 1) u lower)) (cond (eqb level 0) u lower) fallback

-- what laying by numbers asks of the lines
pub record LaidBounds (fallback : ℕ) (upper lower row : List ℕ) : Type 0 where
  pub fallback-most : fallback < 2048
  pub upper_long : length upper ≡ 640
  pub lower_long : length lower ≡ 640
  pub row-long : length row ≡ 640
  pub upper-most : (k : ℕ) → k < 640 → get_or upper k 0 < 2048
  pub lower-most : (k : ℕ) → k < 640 → get_or lower k 0 < 2048
  pub row-most : (k : ℕ) → k < 640 → get_or row k 0 < 2048

-- what is judged before lent lines are laid over a composed row
pub record LayerBounds (order : ℕ) (layer2 sprites row : List ℕ) : Type 0 where
  pub is-order : is_order order ≡ true
  pub layer2-long : length layer2 ≡ 640
  pub sprites-long : length sprites ≡ 640
  pub row-long : length row ≡ 640
  pub allowed : all (both_allowed layer2 sprites) 640 ≡ true
  pub dots : (k : ℕ) → k < 640 → get_or row k 0 ≤ 512
