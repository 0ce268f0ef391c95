-- A state made to show a screen: its mode is that of its byte of port $FF, and it is as lawful and as typed as before.
use Prim.Native.Nat.{ℕ, ◌+◌, ◌-◌, ◌/◌, ◌%◌, ◌<◌}
use mathlib.Core.Path.{◌≡◌, refl, ap, ◌∙◌}
use mathlib.Core.List.{List}
use mathlib.Core.Bool.{Bool, true, false, cond}
use native.Mathlib.Omega.{arith}
use lib.ListN.{get_or}
use lib.Seq.{get_or-drop}
use lib.Dec.{eqb}
use borrow.Author.Tests.{lt-leb, eq-eqb, eqb-true}
use Rattle.lists.specs.Bytes.{Bytes}
use Rattle.lists.proofs.Search.{not-both}
use Rattle.lists.proofs.Cond.{if-true, if-false}
use Rattle.register_bounds.specs.Bounds.{choice_of}
use Rattle.state.specs.declared.State.{State}
use Rattle.state.specs.declared.Ula.{Ula}
use Rattle.state.specs.declared.Ports.{Ports}
use Rattle.state.specs.Lawful.{lawful_state}
use Rattle.state.specs.Typed.{Numbers, Typed}
use Rattle.state.specs.Groups.{ula_with_layers, ports_with_timex}
use Rattle.state.specs.With.{with_ula, with_palette, with_ports}
use Rattle.state.proofs.Typed.{ula-layers, ula-peripheral, palette-control, ports-timex, ports-plus, with-ula, with-palette, with-ports, with-plus}
use Rattle.state_bits.specs.Bits.{lores_on, timex_on}
use Rattle.ula_mode.specs.declared.modes.Mode.{Mode}
use Rattle.ula_mode.specs.declared.modes.Mode.TheVariants.{Lores, Standard, Second, HighColour, HighResolution, Missing}
use Rattle.ula_mode.specs.Modes.{timex_mode, mode_of, is_hires}
use Rattle.scr_forms.specs.Forms.{has_form}
use Rattle.scr_forms.specs.Files.{port_byte, port_agrees, colours_size, shape_of, port_in, colours_at, colours_in}
use Rattle.scr_forms.proofs.Shapes.{colours-length}
use Rattle.scr_state.specs.Screen.{lores_cleared, timex_set, next_cleared, ula_for_screen, palette_for_screen, ports_for_screen, with_screen}
use Rattle.scr.specs.Reads.{state_read}
use Rattle.scr.specs.Writes.{mode_in}

-- ---- the three bits

lores-off : (u : Ula) → lores_on (ula_for_screen u) ≡ false
lores-off u = lt-leb 128 (u.layers % 128) (omega arith)

timex-on : (u : Ula) → timex_on (ula_for_screen u) ≡ true
timex-on u = eq-eqb (timex_set u.peripheral / 4 % 2) 1 (omega arith)

choice-kept : (v : ℕ) → choice_of (next_cleared v) ≡ choice_of v
choice-kept v = omega arith

-- ---- lawful, and typed

screen-lawful : (s : State) (port : ℕ) (plus : Bool) (registers : List ℕ) → lawful_state (with_screen s port plus registers) ≡ lawful_state s
unfolding lawful_state
screen-lawful s port plus registers = rw (choice-kept s.palette.control)

screen-typed : (s : State) (port : ℕ) (plus : Bool) (registers : List ℕ) → Typed s → port < 256 → Numbers 64 256 registers → Typed (with_screen s port plus registers)
screen-typed s port plus registers t p r =
    let u = ula-peripheral (ula_with_layers s.ula (lores_cleared s.ula.layers)) (timex_set s.ula.peripheral) (omega (arith, t.ula.peripheral))
    (ula-layers s.ula (lores_cleared s.ula.layers) (omega arith) t.ula) in
    let c = palette-control s.palette (next_cleared s.palette.control) (omega (arith, t.palette.control)) t.palette in
    let o = ports-plus (ports_with_timex s.ports port) plus (ports-timex s.ports port p t.ports) in
    let a = with-ula s t (ula_for_screen s.ula) u in
    let b = with-palette (with_ula s (ula_for_screen s.ula)) a (palette_for_screen s.palette) c in
    let d = with-ports (with_palette (with_ula s (ula_for_screen s.ula)) (palette_for_screen s.palette)) b (ports_for_screen s.ports port plus) o in
    with-plus (with_ports (with_palette (with_ula s (ula_for_screen s.ula)) (palette_for_screen s.palette)) (ports_for_screen s.ports port plus)) d registers r

pub read-lawful : (s : State) (file : List ℕ) → lawful_state (state_read s file) ≡ lawful_state s
unfolding state_read
read-lawful s file = screen-lawful s _ _ _

colours-below : (file : List ℕ) → Bytes file → (i : ℕ) → get_or (colours_in file) i 0 < 256
unfolding colours_in
colours-below file y i = rw (get_or-drop (colours_at file) file i 0) (y (colours_at file + i))

colours-typed : (file own : List ℕ) → Bytes file → Numbers 64 256 own → Numbers 64 256 (cond (shape_of file).colours (colours_in file) own)
colours-typed file own y h = go (shape_of file).colours refl
  where
    go : (q : Bool) → (shape_of file).colours ≡ q → Numbers 64 256 (cond q (colours_in file) own)
    go true e = record { long = colours-length file ∙ ap colours_size e; below = colours-below file y }
    go false e = h

port-small : (m : Mode) (file : List ℕ) → Bytes file → port_in m file < 256
port-small HighResolution file y = y 12288
port-small Standard file y = omega arith
port-small HighColour file y = omega arith
port-small Lores file y = omega arith
port-small Second file y = omega arith
port-small Missing file y = omega arith

pub read-typed : (s : State) (file : List ℕ) → Typed s → Bytes file → Typed (state_read s file)
unfolding state_read
read-typed s file t y =
    screen-typed s (port_in (shape_of file).mode file) (shape_of file).colours (cond (shape_of file).colours (colours_in file) s.plus) t
    (port-small (shape_of file).mode file y) (colours-typed file s.plus y t.plus)

-- ---- the mode

screen-mode : (s : State) (port : ℕ) (plus : Bool) (registers : List ℕ) → mode_in (with_screen s port plus registers) ≡ timex_mode (port % 8)
unfolding mode_of
screen-mode s port plus registers = if-false _ _ _ (lores-off s.ula) ∙ if-true _ _ _ (timex-on s.ula)

-- the port byte of a form gives its mode
port-mode : (m : Mode) (file : List ℕ) → has_form m ≡ true → port_agrees m file ≡ true → timex_mode (port_in m file % 8) ≡ m
unfolding timex_mode
port-mode Standard file h p = refl
port-mode HighColour file h p = refl
port-mode HighResolution file h p = rw (eqb-true (port_byte HighResolution file % 8) 6 p)
port-mode Lores file h p = absurd (not-both h refl)
port-mode Second file h p = absurd (not-both h refl)
port-mode Missing file h p = absurd (not-both h refl)

pub read-mode : (s : State) (file : List ℕ) → has_form (shape_of file).mode ≡ true → port_agrees (shape_of file).mode file ≡ true
    → mode_in (state_read s file) ≡ (shape_of file).mode
unfolding state_read
read-mode s file h p =
    screen-mode s (port_in (shape_of file).mode file) (shape_of file).colours (cond (shape_of file).colours (colours_in file) s.plus)
    ∙ port-mode (shape_of file).mode file h p

-- mode 6 has 6 in the low three bits of its port
pub hires-port : (u : Ula) (p : Ports) → is_hires (mode_of u p) ≡ true → p.timex % 8 ≡ 6
unfolding mode_of timex_mode
hires-port u p = go (lores_on u) (timex_on u) (eqb (p.timex % 8) 0) (eqb (p.timex % 8) 1) (eqb (p.timex % 8) 2) (eqb (p.timex % 8) 6) refl
  where
    go : (a b c d e f : Bool) → eqb (p.timex % 8) 6 ≡ f
        → is_hires (cond a Lores (cond b (cond c Standard (cond d Second (cond e HighColour (cond f HighResolution Missing)))) Standard)) ≡ true → p.timex % 8 ≡ 6
    go true b c d e f k h = absurd (not-both h refl)
    go false false c d e f k h = absurd (not-both h refl)
    go false true true d e f k h = absurd (not-both h refl)
    go false true false true e f k h = absurd (not-both h refl)
    go false true false false true f k h = absurd (not-both h refl)
    go false true false false false true k h = eqb-true (p.timex % 8) 6 k
    go false true false false false false k h = absurd (not-both h refl)
