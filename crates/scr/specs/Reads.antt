-- Rules 9.4, 10.9, 10.10 and 14.4 to 14.8: reading a screen file: the reply, the state, the bank and the colours.
use Rattle.std.specs.Prelude.{ℕ, List, [], cond, length}
use Rattle.reply.specs.declared.Reply.{Reply}
use Rattle.reply.specs.Reply.{is_done}
use Rattle.state.specs.declared.State.{State}
use Rattle.state.specs.declared.Answer.{Answer}
use Rattle.state.specs.Answer.{done, refused}
use Rattle.state.specs.Lawful.{lawful_reply}
use Rattle.scr_forms.specs.Forms.{form_of, filled}
use Rattle.scr_forms.specs.Files.{shape_of, port_in, colours_at, colours_in}
use Rattle.scr_state.specs.Screen.{with_screen}
use Rattle.scr_replies.specs.Judged.{read_judged}

-- the reply: 2, 4, 14
abbrev pub read_reply : State → List ℕ → List ℕ → Reply
read_reply s bank file = read_judged (lawful_reply s) (length bank) (shape_of file).mode

-- with colours ULAplus is on and has them, without it is off and keeps its registers
unfoldable pub state_read : State → List ℕ → State
state_read s file =
    with_screen s (port_in (shape_of file).mode file) (shape_of file).colours (cond (shape_of file).colours (colours_in file) s.plus)

-- the parts of the bank that the file's form names, filled from the file
abbrev pub bank_filled : List ℕ → List ℕ → List ℕ
bank_filled bank file = filled (form_of (shape_of file).mode).parts bank file

-- what reading answers; refused, the state as it was
abbrev pub read_answer : State → List ℕ → List ℕ → Answer
read_answer s bank file = cond (is_done (read_reply s bank file)) (done (state_read s file)) (refused (read_reply s bank file) s)

-- the bank after a reply to reading; refused, as it was
abbrev pub bank_after : Reply → List ℕ → List ℕ → List ℕ
bank_after r bank file = cond (is_done r) (bank_filled bank file) bank

-- the colours, a part of the file; refused, an empty part
abbrev pub colours_after : Reply → List ℕ → List ℕ
colours_after r file = cond (is_done r) (colours_in file) []

-- where that part starts in the file: an empty one at its end
abbrev pub colours_place : Reply → List ℕ → ℕ
colours_place r file = cond (is_done r) (colours_at file) (length file)
