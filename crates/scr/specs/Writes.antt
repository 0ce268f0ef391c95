-- Rules 9.4, 10.9, 10.11 and 14.9: writing a screen file: the reply, its length, and the buffer afterwards.
use Rattle.std.specs.Prelude.{ℕ, List, [], ◌∷◌, ◌++◌, cond, length}
use Rattle.lists.specs.Placed.{placed}
use Rattle.reply.specs.declared.Reply.{Reply}
use Rattle.reply.specs.Reply.{is_done}
use Rattle.state.specs.declared.State.{State}
use Rattle.state.specs.Lawful.{lawful_reply}
use Rattle.ula_mode.specs.declared.modes.Mode.{Mode}
use Rattle.ula_mode.specs.Modes.{mode_of}
use Rattle.scr_forms.specs.Forms.{form_of, bytes_in}
use Rattle.scr_forms.specs.Files.{length_of}
use Rattle.scr.specs.declared.writing.Written.{Written}
use Rattle.scr_replies.specs.Judged.{write_judged}

-- the mode that a state draws in
abbrev pub mode_in : State → Mode
mode_in s = mode_of s.ula s.ports

-- the reply: 2, 3, 4, 14
abbrev pub write_reply : State → List ℕ → List ℕ → Reply
write_reply s bank file = write_judged (lawful_reply s) (length bank) (length file) (mode_in s)

-- the parts of the bank, the byte of port $FF where the form has it, the colours where ULAplus is on
unfoldable pub file_of : State → List ℕ → List ℕ
file_of s bank =
    bytes_in (form_of (mode_in s)).parts bank
    ++ (cond (form_of (mode_in s)).port (s.ports.timex ∷ []) [] ++ cond s.ports.plus s.plus [])

-- what writing answers after a reply: the file's length, or 0
abbrev pub written_answer : Reply → State → Written
written_answer r s = record { reply = r; length = cond (is_done r) (length_of (mode_in s) s.ports.plus) 0 }

-- the buffer after a reply: the file in its front; refused, as it was
abbrev pub file_after : Reply → State → List ℕ → List ℕ → List ℕ
file_after r s bank file = cond (is_done r) (placed file 0 (file_of s bank)) file
