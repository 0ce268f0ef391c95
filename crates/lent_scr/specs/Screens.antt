-- Rules 7.10 and 10.9 to 10.11 by a lent record: 16, 17 and 18 stand in the place of 4, after 2 and, in writing, 3. Reading a file changes the record,
-- which therefore is of the version that is written; writing one only reads it, and takes both.
use Rattle.std.specs.Prelude.{ℕ, List, cond, ◌&&◌, length}
use Rattle.reply.specs.declared.Reply.{Reply}
use Rattle.reply.specs.Reply.{is_done}
use Rattle.record_layout.specs.Record.{read_record, read_current}
use Rattle.lent.specs.Lent.{lent_after}
use Rattle.scr_forms.specs.Files.{shape_of, colours_at}
use Rattle.scr_replies.specs.Judged.{read_judged, write_judged}
use Rattle.scr.specs.Reads.{state_read}
use Rattle.scr.specs.Writes.{mode_in}
use Rattle.lent_scr.specs.declared.reading.ScreenRead.{ScreenRead}

-- reading: 2; 16, 17, 18; 14
abbrev pub lent_read_reply : List ℕ → List ℕ → List ℕ → Reply
lent_read_reply b bank file = read_judged (read_current b).reply (length bank) (shape_of file).mode

-- the record after a reply to reading: that of the state that shows the file; refused, as it was
abbrev pub record_after : Reply → List ℕ → List ℕ → List ℕ
record_after r b file = lent_after b (record { reply = r; state = state_read (read_current b).state file })

-- what reading answers: the reply, and the place of the colours in the file, 0 where there are none
abbrev pub screen_read : Reply → List ℕ → ScreenRead
screen_read r file = record { reply = r; colours = cond (is_done r && (shape_of file).colours) (colours_at file) 0 }

-- writing: 2; 3; 16, 17, 18; 14
abbrev pub lent_write_reply : List ℕ → List ℕ → List ℕ → Reply
lent_write_reply b bank file = write_judged (read_record b).reply (length bank) (length file) (mode_in (read_record b).state)
