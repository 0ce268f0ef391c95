-- Rules 4.18 and 4.19: the index of the border.
use Rattle.std.specs.Prelude.{ℕ, ◌+◌, ◌%◌, Bool, cond}
use Rattle.ula_scheme.specs.declared.schemes.Scheme.{Scheme}
use Rattle.ula_scheme.specs.declared.schemes.Scheme.TheVariants.{Plain, Next, Plus}
use Rattle.ula_index.specs.Index.{paper_index}

-- plain: 16 + border. ULANext: 128 + border. ULAplus: 8 + border
abbrev pub border_index : Scheme → ℕ → ℕ
border_index Plain b = 16 + b
border_index Next b = 128 + b
border_index Plus b = 8 + b

-- in mode 6 the border is the paper (under ULANext, 128 + paper index mod 8)
abbrev pub hires_border_index : Scheme → ℕ → ℕ → ℕ
hires_border_index Plain mask a = paper_index Plain mask a
hires_border_index Next mask a = 128 + paper_index Next mask a % 8
hires_border_index Plus mask a = paper_index Plus mask a

-- the border's index; a is mode 6's attribute
unfoldable pub border_number : Scheme → ℕ → Bool → ℕ → ℕ → ℕ
border_number k mask hires a border = cond hires (hires_border_index k mask a) (border_index k border)
