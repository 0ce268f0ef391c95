-- The state that is read is lawful: that of a record, or the reset state.
use Prim.Native.Nat.{ℕ}
use mathlib.Core.Path.{◌≡◌, ap, ◌∙◌}
use mathlib.Core.List.{List}
use mathlib.Core.Bool.{true}
use lib.ListN.{length}
use Rattle.lists.specs.Bytes.{Bytes}
use Rattle.state.specs.Lawful.{lawful_state}
use Rattle.record_layout.specs.declared.RecordRead.{RecordRead}
use Rattle.record_layout.specs.Record.{version_of, read_record}
use Rattle.record_layout.proofs.Claims.{read_lawful}

pub read-lawful : (b : List ℕ) (r : RecordRead) → Bytes b → r ≡ read_record b → lawful_state r.state ≡ true
unfolding read_record
read-lawful b r y e = ap (λ (x : RecordRead). lawful_state x.state) e ∙ (read_lawful (version_of (length b)) b y).0
