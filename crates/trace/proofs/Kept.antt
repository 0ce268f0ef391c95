-- A lawful state stays lawful through every entry, so that a line of a run asks for nothing more. Every entry keeps it so, from the claim that
-- writes do.
use Prim.Native.Nat.{ℕ, ◌+◌, ◌*◌, ◌<◌}
use mathlib.Core.Path.{◌≡◌, sym, ap, ap₂, subst, ◌∙◌}
use mathlib.Core.List.{List}
use mathlib.Core.Bool.{true}
use lib.Dec.{leb}
use Rattle.lists.specs.Bytes.{Bytes}
use Rattle.state.specs.declared.State.{State}
use Rattle.state.specs.declared.Answer.{Answer}
use Rattle.state.specs.Lawful.{lawful_state}
use Rattle.state.specs.Typed.{Typed}
use Rattle.register_parts.specs.declared.Palettes.{Palettes}
use Rattle.register_parts.specs.Parts.{palettes_of}
use Rattle.register_answers.specs.Rows.{write_by}
use Rattle.register_ports.specs.Ports.{port_writes}
use Rattle.register_tables.specs.Tables.{register_writes}
use Rattle.register_laws.specs.Claims.{LawfulStays}
use Rattle.register_laws.proofs.Calls.{write-row, port-row}
use Rattle.register_laws.proofs.Claims.{lawful_stays}
use Rattle.trace_form.specs.Entries.{entry_count, entry_at}
use Rattle.trace_form.specs.Judged.{rising}
use Rattle.trace_runs.specs.declared.runs.Carried.{Carried}
use Rattle.trace_runs.specs.Runs.{Run, port_number, begun, after}
use Rattle.trace_runs.specs.Bounds.{run_with, begun_with, reach, first, Sound}
use Rattle.trace_runs.proofs.Through.{through-keeps, tried-by, after-reach}

-- lawful, and what the types give
abbrev pub Kept : State → Type 0
Kept s = (lawful_state s ≡ true) × Typed s

register-kept : (s : State) (n v : ℕ) → v < 256 → Kept s → Kept (write_by register_writes s n v).state
unfolding LawfulStays
register-kept s n v b (h, z) = subst (λ (a : Answer). Kept a.state) (write-row s n v h) (lawful_stays.0 s n v b z h)

port-kept : (s : State) (n v : ℕ) → v < 256 → Kept s → Kept (write_by port_writes s n v).state
unfolding LawfulStays
port-kept s n v b (h, z) = subst (λ (a : Answer). Kept a.state) (port-row s n v h) (lawful_stays.1 s n v b z h)

pub after_kept : (s : State) (t : List ℕ) (L : ℕ) → Bytes t → Kept s → Kept (after s t L).state
unfolding after
after_kept s t L b k =
    through-keeps (λ r. Kept r.state) (λ l. leb l L) t
    (λ i r h. let e = entry_at t i in tried-by (λ x. Kept x.state) e i r (register-kept r.state e.number e.value (b (i * 4 + 6)) h) (port-kept r.state (port_number e.number) e.value (b (i * 4 + 6)) h) h)
    (entry_count t) (begun s) k

-- ---- the run of a line

-- a run over parts begins as one over the state
pub begins : (s : State) (b : Carried) (p : Palettes) → b ≡ begun_with s → p ≡ palettes_of s → run_with b p ≡ begun s
begins s b p e f = ap₂ run_with e f

-- a run that has passed the entries as far as line L reaches is the run of line L
pub run_after : (s : State) (t : List ℕ) (L : ℕ) (run : Run) → rising t ≡ true → run ≡ first t (reach t L) (begun s) → run ≡ after s t L
run_after s t L run up r = r ∙ sym (after-reach s t L up)

-- and its state is lawful where the first was
pub run_lawful : (s : State) (t : List ℕ) (L : ℕ) (run : Run) → Sound t → lawful_state s ≡ true → Typed s → run ≡ after s t L → lawful_state run.state ≡ true
run_lawful s t L run ok h z e = ap (λ (r : Run). lawful_state r.state) e ∙ (after_kept s t L ok.bytes (h, z)).0
