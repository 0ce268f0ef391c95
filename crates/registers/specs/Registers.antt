-- Rules 1.3, 10.2 and 10.3: writing and reading by register number and by port. The tables are those of `register_tables` and
-- `register_ports`.
use Rattle.std.specs.Prelude.{ℕ}
use Rattle.state.specs.declared.State.{State}
use Rattle.state.specs.declared.Answer.{Answer}
use Rattle.register_answers.specs.Answers.{Reading, write_lawful, read_lawful}
use Rattle.register_answers.specs.Rows.{write_by, read_by}
use Rattle.register_ports.specs.Ports.{port_writes, port_reads}
use Rattle.register_tables.specs.Tables.{register_writes, register_reads}

-- writing: 4, 9, 10
unfoldable pub write_register : State → ℕ → ℕ → Answer
write_register s n v = write_lawful s (write_by register_writes s n v)

unfoldable pub write_port : State → ℕ → ℕ → Answer
write_port s n v = write_lawful s (write_by port_writes s n v)

-- reading: 4, 9
unfoldable pub read_register : State → ℕ → Reading
read_register s n = read_lawful s (read_by register_reads s n)

unfoldable pub read_port : State → ℕ → Reading
read_port s n = read_lawful s (read_by port_reads s n)
