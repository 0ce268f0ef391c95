-- The table of forms in numbers, as the code has it; no part of what a form is.
use Rattle.std.specs.Prelude.{ℕ, zero, suc, List, [], ◌∷◌}
use Rattle.ula_mode.specs.declared.modes.Mode.{Mode}
use Rattle.scr_forms.specs.declared.forms.Row.{Row}
use Rattle.scr_forms.specs.Forms.{BankPart, form_of}
use Rattle.scr_forms.specs.Files.{port_size}

-- the k-th part's size, 0 where there is none
abbrev pub size_at : List BankPart → ℕ → ℕ
size_at [] k = 0
size_at (p ∷ ps) zero = p.size
size_at (p ∷ ps) (suc k) = size_at ps k

-- the row of a mode
abbrev pub row_of : Mode → Row
row_of m = record { value = (form_of m).value; first = size_at (form_of m).parts 0; second = size_at (form_of m).parts 1; port = port_size m }
