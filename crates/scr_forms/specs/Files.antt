-- Rules 14.1, 14.3, 14.4 and 14.6: a screen file: its six lengths, its form, its byte of port $FF, its colours.
use Rattle.std.specs.Prelude.{ℕ, ◌+◌, ◌-◌, ◌%◌, List, [], ◌∷◌, Bool, true, false, cond, ◌&&◌, length, drop, get_or, eqb}
use Rattle.ula_mode.specs.declared.modes.Mode.{Mode}
use Rattle.ula_mode.specs.declared.modes.Mode.TheVariants.{Missing}
use Rattle.scr_forms.specs.declared.files.Shape.{Shape}
use Rattle.scr_forms.specs.Forms.{form_of, formed, sizes}

-- the port's byte: one, or none
abbrev pub port_size : Mode → ℕ
port_size m = cond (form_of m).port 1 0

-- the colours: 64 bytes, or none
abbrev pub colours_size : Bool → ℕ
colours_size colours = cond colours 64 0

-- how long a file of a mode is, without colours or with them
abbrev pub length_of : Mode → Bool → ℕ
length_of m colours = sizes (form_of m).parts + port_size m + colours_size colours

-- the byte after the parts
abbrev pub port_byte : Mode → List ℕ → ℕ
port_byte m file = get_or file (sizes (form_of m).parts) 0

-- where the port's byte is in the file, its low three bits are the form's
abbrev pub port_agrees : Mode → List ℕ → Bool
port_agrees m file = cond (form_of m).port (eqb (port_byte m file % 8) (form_of m).value) true

-- a file has the form of a mode
abbrev pub is_file_of : Mode → Bool → List ℕ → Bool
is_file_of m colours file = eqb (length file) (length_of m colours) && port_agrees m file

-- a form's mode, and whether there are colours
abbrev pub shape : Mode → Bool → Shape
shape mode colours = record { mode = mode; colours = colours }

-- the mode whose form the file has, and else rest
abbrev pub shape_or : Mode → List ℕ → Shape → Shape
shape_or m file rest = cond (is_file_of m false file) (shape m false) (cond (is_file_of m true file) (shape m true) rest)

-- the first of the modes whose form the file has
abbrev pub shape_among : List Mode → List ℕ → Shape
shape_among [] file = shape Missing false
shape_among (m ∷ ms) file = shape_or m file (shape_among ms file)

-- the form of a file
unfoldable pub shape_of : List ℕ → Shape
shape_of file = shape_among formed file

-- port $FF after reading: the form's own value, or the file's byte
abbrev pub port_in : Mode → List ℕ → ℕ
port_in m file = cond (form_of m).port (port_byte m file) (form_of m).value

-- where the colours start: 64 bytes before the end, or at the end where there are none
abbrev pub colours_at : List ℕ → ℕ
colours_at file = length file - colours_size (shape_of file).colours

-- the colours of a file: its last 64 bytes, or none
unfoldable pub colours_in : List ℕ → List ℕ
colours_in file = drop (colours_at file) file
