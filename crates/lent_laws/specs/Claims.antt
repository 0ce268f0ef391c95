-- Rule 7.10, and what else no single call on a lent record states.
use Rattle.std.specs.Prelude.{ℕ, ◌≡◌, List, Err}
use Rattle.reply.specs.declared.Reply.TheVariants.{Done, NotLawful, WrongVersion}
use Rattle.lists.specs.Bytes.{Bytes}
use Rattle.surface.specs.declared.lines.LineNumber.{LineNumber}
use Rattle.record_layout.specs.declared.Version.TheVariants.{Version1}
use Rattle.record_layout.specs.Version.{kept_in}
use Rattle.record_layout.specs.Record.{passed, read_with, read_record}
use Rattle.record_layout.specs.Claims.{IsRecord}
use Rattle.lent.specs.declared.changes.Change.{Change}
use Rattle.lent.specs.declared.queries.Query.{Query}
use Rattle.lent.specs.Calls.{changed, asked, ByteWritten}
use Rattle.lent.specs.Lent.{lent_answer, lent_after, lent_reading}
use Rattle.lent_drawing.specs.Drawn.{lent_draw_reply}

-- a change that is done reads back as the answer's state
abbrev pub ChangeReadsBack : Type 0
ChangeReadsBack =
    (b : List ℕ) (c : Change) → Bytes b → ByteWritten c → (lent_answer (changed c) b).reply ≡ Done
    → read_record (lent_after b (lent_answer (changed c) b)) ≡ read_with passed (lent_answer (changed c) b).state

-- 4 never comes from a lent record, whatever is asked of it
pub record NeverNotLawful : Type 0 where
  pub changes : (b : List ℕ) (c : Change) → (lent_answer (changed c) b).reply ≡ NotLawful → ⊥
  pub queries : (b : List ℕ) (q : Query) → lent_reading (asked q) b ≡ Err NotLawful → ⊥
  pub drawings : (b : List ℕ) (line : LineNumber) (ula tile dots : ℕ) → lent_draw_reply line ula tile dots b ≡ NotLawful → ⊥

-- an old record: every change refuses it with 17 and leaves it; every question is answered on the state in it as if it were moved up
pub record OldLeft : Type 0 where
  pub changes : (b : List ℕ) (c : Change) → IsRecord Version1 b → ((lent_answer (changed c) b).reply ≡ WrongVersion) × (lent_after b (lent_answer (changed c) b) ≡ b)
  pub queries : (b : List ℕ) (q : Query) (r : IsRecord Version1 b) → lent_reading (asked q) b ≡ asked q (kept_in Version1 r.0)
