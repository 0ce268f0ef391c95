-- No port touches a palette: a write to a whole state is the write to its registers, row by row.
use mathlib.Core.Path.{◌≡◌, refl}
use Prim.Native.Nat.{ℕ}
use lib.ListN.{set}
use Rattle.state.specs.Answer.{done}
use Rattle.state.specs.Groups.{ports_with_select}
use Rattle.state.specs.With.{with_ports, with_plus}
use Rattle.register_bounds.specs.Bounds.{select_fits}
use Rattle.register_parts.specs.declared.Palettes.{Palettes}
use Rattle.register_parts.specs.declared.Registers.{Registers}
use Rattle.register_parts.specs.Parts.{state_with, bare, written_of, answer_with}
use Rattle.register_answers.specs.Rows.{write_by}
use Rattle.register_answers.proofs.Apart.{Apart, none, ◌▷◌, chosen, judged, rows_apart}
use Rattle.register_ports.specs.Ports.{border_written, timex_written, select_written, mode_group, mode_written, plus_written, port_writes}

border : Apart border_written
border = record { apart = λ g pal v. refl }

timex : Apart timex_written
timex = record { apart = λ g pal v. refl }

select : Apart select_written
select = record { apart = λ g pal v. judged pal (select_fits v) (with_ports (bare g) (ports_with_select g.ports v)) (bare g) }

plus : Apart plus_written
plus = record {
  apart = λ g pal v. let s = state_with g pal in
      chosen pal (mode_group s) (mode_written s v) (done (with_plus s (set g.plus g.ports.select v))) (mode_written (bare g) v) (done (with_plus (bare g) (set g.plus g.ports.select v))) refl refl;
}

pub ports_apart : (g : Registers) (pal : Palettes) (n v : ℕ) → write_by port_writes (state_with g pal) n v ≡ answer_with (written_of (write_by port_writes (bare g) n v)) pal
ports_apart g pal n v = rows_apart pal n port_writes (border ▷ timex ▷ select ▷ plus ▷ none) g v
