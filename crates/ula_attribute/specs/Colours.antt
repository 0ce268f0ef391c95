-- Rules 4.13 and 4.15 to 4.18: the colours of the indices, and the dots.
use Rattle.std.specs.Prelude.{ℕ, List, Bool, cond, get_or}
use Rattle.colour.specs.Bytes.{plus_colour}
use Rattle.surface.specs.Dots.{shown}
use Rattle.ula_index.specs.Index.{bit_index, ink_shown, paperless}
use Rattle.ula_border.specs.Border.{border_number}
use Rattle.ula_scheme.specs.declared.schemes.Colours.{Colours}
use Rattle.ula_scheme.specs.declared.schemes.Scheme.{Scheme}
use Rattle.ula_scheme.specs.declared.schemes.Scheme.TheVariants.{Plain, Next, Plus}

-- an index of the ULA palette, or of the 64 ULAplus registers
abbrev pub colour_at : Scheme → List ℕ → List ℕ → ℕ → ℕ
colour_at Plain pal plus i = get_or pal i 0
colour_at Next pal plus i = get_or pal i 0
colour_at Plus pal plus i = plus_colour (get_or plus i 0)

-- ULANext's mask 255 gives paper and border the fallback colour, in mode 6 too
unfoldable pub paper_colour : Colours → List ℕ → List ℕ → ℕ → ℕ
paper_colour l pal plus i = cond (paperless l.scheme l.mask) l.fallback (colour_at l.scheme pal plus i)

-- a bit's colour is its index's, as ink or as paper
unfoldable pub bit_colour : Colours → List ℕ → List ℕ → ℕ → ℕ → ℕ
bit_colour l pal plus a bit =
    let i = bit_index l.scheme l.mask l.swap a bit in
    cond (ink_shown l.scheme l.swap a bit) (colour_at l.scheme pal plus i) (paper_colour l pal plus i)

unfoldable pub bit_dot : Colours → List ℕ → List ℕ → ℕ → ℕ → ℕ
bit_dot l pal plus a bit = shown l.transparent (bit_colour l pal plus a bit)

unfoldable pub border_dot : Colours → List ℕ → List ℕ → Bool → ℕ → ℕ → ℕ
border_dot l pal plus hires a border = shown l.transparent (paper_colour l pal plus (border_number l.scheme l.mask hires a border))
