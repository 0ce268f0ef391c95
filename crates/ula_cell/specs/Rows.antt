-- What the cells of a row are filled with; the meaning of a dot does not name these.
use Rattle.std.specs.Prelude.{ℕ, ◌/◌, List, cond, get_or, eqb}
use Rattle.ula_scroll.specs.Scrolls.{dot_read}
use Rattle.ula_byte.specs.Bytes.{hires_address, bit_of}
use Rattle.ula_view.specs.declared.views.View.{View}

-- one of two dots, by bit x of a byte
unfoldable pub chosen_dot : ℕ → ℕ → ℕ → ℕ → ℕ
chosen_dot b x bit1 bit0 = cond (eqb (bit_of b x) 1) bit1 bit0

-- one of two dots, by dot d of a row of mode 6
unfoldable pub hires_chosen : View → ℕ → ℕ → List ℕ → ℕ → ℕ
hires_chosen p bit1 bit0 bank d =
    let across = dot_read d p.offset in
    chosen_dot (get_or bank (hires_address p.row (across / 8)) 0) across bit1 bit0
