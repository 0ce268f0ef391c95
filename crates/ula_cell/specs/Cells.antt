-- Rules 4.5 and 4.9: a dot of the display in the modes that show bits.
use Rattle.std.specs.Prelude.{ℕ, ◌/◌, List, get_or}
use Rattle.ula_scroll.specs.Scrolls.{pixel_read, dot_read}
use Rattle.ula_byte.specs.Bytes.{hires_address, bit_of}
use Rattle.ula_address.specs.Addresses.{bitmap_address, attribute_address}
use Rattle.ula_scheme.specs.declared.schemes.Colours.{Colours}
use Rattle.ula_attribute.specs.Colours.{bit_dot}
use Rattle.ula_view.specs.declared.views.View.{View}

-- modes 0, 1 and 2: pixel x shows the bit at x', by the attribute of its cell
unfoldable pub pixel_dot : View → Colours → List ℕ → List ℕ → List ℕ → ℕ → ℕ
pixel_dot p l pal plus bank x =
    let across = pixel_read x p.offset in
    bit_dot l pal plus (get_or bank (attribute_address p.mode p.row (across / 8)) 0)
    (bit_of (get_or bank (bitmap_address p.mode p.row (across / 8)) 0) across)

-- mode 6: dot d of 512 shows the bit of its column of 64, by the port's attribute
unfoldable pub hires_dot : View → Colours → List ℕ → List ℕ → List ℕ → ℕ → ℕ
hires_dot p l pal plus bank d =
    let across = dot_read d p.offset in
    bit_dot l pal plus p.attribute (bit_of (get_or bank (hires_address p.row (across / 8)) 0) across)
