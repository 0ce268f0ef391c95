-- Rules 4.5 and 4.13 to 4.17: the indices of an attribute.
use Rattle.std.specs.Prelude.{ℕ, ◌+◌, ◌*◌, ◌/◌, ◌%◌, Bool, false, cond, not, ◌&&◌, eqb, leb}
use Rattle.std.specs.Int.Bits.{bit_and}
use Rattle.ula_scheme.specs.declared.schemes.Scheme.{Scheme}
use Rattle.ula_scheme.specs.declared.schemes.Scheme.TheVariants.{Plain, Next, Plus}

-- plain: ink + 8 × bright. ULANext: attribute AND mask. ULAplus: (attribute div 64) × 16 + ink
abbrev pub ink_index : Scheme → ℕ → ℕ → ℕ
ink_index Plain mask a = a % 8 + 8 * (a / 64 % 2)
ink_index Next mask a = bit_and a mask
ink_index Plus mask a = a / 64 * 16 + a % 8

-- plain: 16 + paper + 8 × bright. ULANext: 128 + the attribute shifted right past the mask, which is 2 ^ n - 1.
-- ULAplus: (attribute div 64) × 16 + 8 + paper
abbrev pub paper_index : Scheme → ℕ → ℕ → ℕ
paper_index Plain mask a = 16 + a / 8 % 8 + 8 * (a / 64 % 2)
paper_index Next mask a = 128 + a / (mask + 1)
paper_index Plus mask a = a / 64 * 16 + 8 + a / 8 % 8

-- ULANext's mask 255 leaves no paper and no border index
abbrev pub paperless : Scheme → ℕ → Bool
paperless Plain mask = false
paperless Next mask = eqb mask 255
paperless Plus mask = false

-- plain: where attribute bit 7 is set and frame div 16 is odd, ink and paper change places. ULAplus: no flash; nor has ULANext
abbrev pub swapped : Scheme → Bool → ℕ → Bool
swapped Plain swap a = leb 128 a && swap
swapped Next swap a = false
swapped Plus swap a = false

-- 1 is ink
unfoldable pub ink_shown : Scheme → Bool → ℕ → ℕ → Bool
ink_shown k swap a bit = cond (swapped k swap a) (not (eqb bit 1)) (eqb bit 1)

-- the ULA index of a bit
unfoldable pub bit_index : Scheme → ℕ → Bool → ℕ → ℕ → ℕ
bit_index k mask swap a bit = cond (ink_shown k swap a bit) (ink_index k mask a) (paper_index k mask a)
