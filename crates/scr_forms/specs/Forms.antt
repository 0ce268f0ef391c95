-- Rules 9.14, 14.1, 14.2 and 14.5: the forms of a screen file, each by its mode, and parts of a bank.
use Rattle.std.specs.Prelude.{ℕ, ◌+◌, List, [], ◌∷◌, ◌++◌, Bool, true, false, cond, ◌&&◌, ◌||◌, take, drop, leb, ltb}
use Rattle.lists.specs.Placed.{placed}
use Rattle.reply.specs.declared.Reply.{Reply}
use Rattle.reply.specs.declared.Reply.TheVariants.{Done, NoForm}
use Rattle.ula_mode.specs.declared.modes.Mode.{Mode}
use Rattle.ula_mode.specs.declared.modes.Mode.TheVariants.{Lores, Standard, Second, HighColour, HighResolution, Missing}

-- a part of a bank: the address of its first byte, and how many bytes it has
pub record BankPart : Type 0 where
  pub at : ℕ
  pub size : ℕ

abbrev pub part : ℕ → ℕ → BankPart
part at size = record { at = at; size = size }

-- the low three bits of port $FF, the parts of the bank in the file's order, and whether the port's byte follows them
pub record Form : Type 0 where
  pub value : ℕ
  pub parts : List BankPart
  pub port : Bool

abbrev pub form : ℕ → List BankPart → Bool → Form
form value parts port = record { value = value; parts = parts; port = port }

-- mode 0: bitmap and attributes; mode 2: bitmap and attributes of its own; mode 6: both bitmaps and the port's byte. Other modes have
-- no bytes, and so no form
abbrev pub form_of : Mode → Form
form_of Standard = form 0 (part 0x0000 6912 ∷ []) false
form_of HighColour = form 2 (part 0x0000 6144 ∷ part 0x2000 6144 ∷ []) false
form_of HighResolution = form 6 (part 0x0000 6144 ∷ part 0x2000 6144 ∷ []) true
form_of Lores = form 0 [] false
form_of Second = form 0 [] false
form_of Missing = form 0 [] false

-- the modes with a row in it, in the order of the lengths
abbrev pub formed : List Mode
formed = Standard ∷ HighColour ∷ HighResolution ∷ []

-- how many bytes the parts have
abbrev pub sizes : List BankPart → ℕ
sizes [] = 0
sizes (p ∷ ps) = p.size + sizes ps

-- a mode has a form where its row names bytes of the bank
abbrev pub has_form : Mode → Bool
has_form m = ltb 0 (sizes (form_of m).parts)

-- 14: no form
abbrev pub form_reply : Mode → Reply
form_reply m = cond (has_form m) Done NoForm

-- the bytes of a bank in the parts, one part after the other
unfoldable pub bytes_in : List BankPart → List ℕ → List ℕ
bytes_in [] bank = []
bytes_in (p ∷ ps) bank = take p.size (drop p.at bank) ++ bytes_in ps bank

-- a bank with the parts filled from bytes, one part after the other
unfoldable pub filled : List BankPart → List ℕ → List ℕ → List ℕ
filled [] bank bytes = bank
filled (p ∷ ps) bank bytes = filled ps (placed bank p.at (take p.size bytes)) (drop p.size bytes)

-- address i is in one of the parts
unfoldable pub in_parts : List BankPart → ℕ → Bool
in_parts [] i = false
in_parts (p ∷ ps) i = (leb p.at i && ltb i (p.at + p.size)) || in_parts ps i
