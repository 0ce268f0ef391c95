-- Rules 9.2, 9.3, 9.14, 10.10, 10.11 and 14.1: what reading and writing a screen file are refused for. The state's own reply is handed in: 4
-- of a state, and of a lent record what stands in its place.
use Rattle.std.specs.Prelude.{ℕ, [], ◌∷◌, true, cond, eqb}
use Rattle.reply.specs.declared.Reply.{Reply}
use Rattle.reply.specs.declared.Reply.TheVariants.{Done, BankLength, BufferLength}
use Rattle.reply.specs.First.{first_hit}
use Rattle.line_replies.specs.Replies.{is_bank}
use Rattle.ula_mode.specs.declared.modes.Mode.{Mode}
use Rattle.ula_mode.specs.declared.modes.Mode.TheVariants.{HighResolution}
use Rattle.scr_forms.specs.Forms.{form_reply}
use Rattle.scr_forms.specs.Files.{length_of}

-- 2: the bank
abbrev pub bank_reply : ℕ → Reply
bank_reply bank = cond (is_bank bank) Done BankLength

-- the longest file, and the length of the buffer that one is written into
abbrev pub file_length : ℕ
file_length = length_of HighResolution true

-- 3: that buffer
abbrev pub file_reply : ℕ → Reply
file_reply file = cond (eqb file file_length) Done BufferLength

-- reading, by the bank's length and the file's form: 2, 4, 14
unfoldable pub read_judged : Reply → ℕ → Mode → Reply
read_judged state bank mode = first_hit (bank_reply bank ∷ state ∷ form_reply mode ∷ [])

-- writing, by the lengths of bank and buffer and the state's mode: 2, 3, 4, 14
unfoldable pub write_judged : Reply → ℕ → ℕ → Mode → Reply
write_judged state bank file mode = first_hit (bank_reply bank ∷ file_reply file ∷ state ∷ form_reply mode ∷ [])
