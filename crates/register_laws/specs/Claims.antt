-- Rules 3.7 to 3.17 and 3.24 to 3.29, with the replies of 10.2 and 10.3: what writes and reads do together. A statement here is
-- proved by the law of its name in proofs/Claims.antt.
use Rattle.std.specs.Prelude.{ℕ, ◌+◌, ◌*◌, ◌/◌, ◌%◌, ◌≤◌, ◌<◌, ◌≡◌, List, [], ◌∷◌, Bool, true, false, cond, get_or, set, Ok, Err}
use Rattle.reply.specs.declared.Reply.TheVariants.{Done, NotLawful, NoRegister, OutOfBounds}
use Rattle.register_bounds.specs.Bounds.{offset_yfits, is_mask, is_choice, tile_transparent_fits, ula_control_fits, tile_control_fits, x_high_fits}
use Rattle.state.specs.declared.State.{State}
use Rattle.state.specs.declared.Answer.{Answer}
use Rattle.state.specs.Answer.{done, refused}
use Rattle.state_bits.specs.Bits.{timex_on}
use Rattle.state.specs.Lawful.{lawful_state}
use Rattle.state.specs.Typed.{Typed}
use Rattle.state.specs.Groups.{palette_with_index, palette_with_half, palette_without_half, ports_with_border, ports_with_timex, ports_with_select}
use Rattle.state.specs.With.{with_palette, with_ports}
use Rattle.colour.specs.Bytes.{widened}
use Rattle.register_colours.specs.Colours.{palette_at, with_palette_at, palette_choice, next_index}
use Rattle.registers.specs.Registers.{write_register, write_port, read_register, read_port}

-- P of each member of a list
pub data Each {A : Type 0} (P : A → Type 0) : List A → Type 0 where
  none : Each P []
  ◌▷◌ : {x : A} {xs : List A} → P x → Each P xs → Each P (x ∷ xs)

infixr 4 ◌▷◌
-- n is none of a list of numbers
abbrev pub NoneOf : List ℕ → ℕ → Type 0
NoneOf ks n = Each (λ k. n ≡ k → ⊥) ks

-- a write by number: of a register, or of a port
abbrev pub Write : Type 0
Write = State → ℕ → ℕ → Answer

-- ---- every write

-- whatever number and byte is written, a lawful and typed state stays lawful and typed
abbrev pub StaysLawful : Write → Type 0
StaysLawful write = (s : State) (n v : ℕ) → v < 256 → Typed s → lawful_state s ≡ true → (lawful_state (write s n v).state ≡ true) × Typed (write s n v).state

unfoldable pub LawfulStays : Type 0
LawfulStays = StaysLawful write_register × StaysLawful write_port

-- a refused write hands the same state back, held half included
abbrev pub HandsBack : Write → Type 0
HandsBack write = (s : State) (n v : ℕ) → ((write s n v).reply ≡ Done → ⊥) → (write s n v).state ≡ s

unfoldable pub RefusedSame : Type 0
RefusedSame = HandsBack write_register × HandsBack write_port

-- a lawful state is never refused as not lawful, whatever is written or read
pub record NeverFour : Type 0 where
  pub registers : (s : State) (n v : ℕ) → lawful_state s ≡ true → (write_register s n v).reply ≡ NotLawful → ⊥
  pub ports : (s : State) (n v : ℕ) → lawful_state s ≡ true → (write_port s n v).reply ≡ NotLawful → ⊥
  pub register-reads : (s : State) (n : ℕ) → lawful_state s ≡ true → read_register s n ≡ Err NotLawful → ⊥
  pub port-reads : (s : State) (n : ℕ) → lawful_state s ≡ true → read_port s n ≡ Err NotLawful → ⊥

-- ---- reading back

-- a register that is stored: the bytes that it takes, and what it keeps of one
pub record Stored : Type 0 where
  pub number : ℕ
  pub fits : ℕ → Bool
  pub kept : ℕ → ℕ

abbrev pub stores : ℕ → (ℕ → Bool) → (ℕ → ℕ) → Stored
stores n f k = record { number = n; fits = f; kept = k }

-- no bound
abbrev pub any_byte : ℕ → Bool
any_byte v = true

-- the byte as it is
abbrev pub whole : ℕ → ℕ
whole v = v

-- bits 7-6 dropped
abbrev pub low6 : ℕ → ℕ
low6 v = v % 64

-- the registers that are stored, each with its bound
abbrev pub stored_registers : List Stored
stored_registers =
    stores 0x08 any_byte whole ∷
    stores 0x14 any_byte whole ∷
    stores 0x15 any_byte whole ∷
    stores 0x26 any_byte whole ∷
    stores 0x27 offset_yfits whole ∷
    stores 0x2F x_high_fits whole ∷
    stores 0x30 any_byte whole ∷
    stores 0x31 any_byte whole ∷
    stores 0x32 any_byte whole ∷
    stores 0x33 offset_yfits whole ∷
    stores 0x40 any_byte whole ∷
    stores 0x42 is_mask whole ∷
    stores 0x43 is_choice whole ∷
    stores 0x4A any_byte whole ∷
    stores 0x4C tile_transparent_fits whole ∷
    stores 0x68 ula_control_fits whole ∷
    stores 0x6B tile_control_fits whole ∷
    stores 0x6C any_byte whole ∷
    stores 0x6E any_byte low6 ∷
    stores 0x6F any_byte low6 ∷
    []

-- a byte v written to register n of s: where it fits, the write is done and reads back as k; where not, it is 10 and the state is as it was
pub record Takes (s : State) (n v : ℕ) (fits : Bool) (k : ℕ) : Type 0 where
  pub inside : fits ≡ true → ((write_register s n v).reply ≡ Done) × (read_register (write_register s n v).state n ≡ Ok k)
  pub outside : fits ≡ false → write_register s n v ≡ refused OutOfBounds s

-- each stored register takes just the bytes in its bounds, and gives back what it keeps of them
unfoldable pub ReadsBack : Type 0
ReadsBack =
    (s : State) (v : ℕ) → v < 256 → Typed s → lawful_state s ≡ true → Each (λ r. Takes s r.number v (r.fits v) (r.kept v)) stored_registers

-- what a write of each port does: $FE keeps the low three bits, $BF3B takes bytes below 128, and $FF and $FF3B take any
pub record PortTakes (s : State) (v : ℕ) : Type 0 where
  pub border : write_port s 0x00FE v ≡ done (with_ports s (ports_with_border s.ports (v % 8)))
  pub timex : write_port s 0x00FF v ≡ done (with_ports s (ports_with_timex s.ports v))
  pub select : v < 128 → write_port s 0xBF3B v ≡ done (with_ports s (ports_with_select s.ports v))
  pub select-outside : 128 ≤ v → write_port s 0xBF3B v ≡ refused OutOfBounds s
  pub plus : (write_port s 0xFF3B v).reply ≡ Done

unfoldable pub PortsTake : Type 0
PortsTake = (s : State) (v : ℕ) → lawful_state s ≡ true → PortTakes s v

-- $FF gives its byte back while $08 bit 2 is set; $FF3B its byte for a ULAplus register, and bit 0 for the mode
unfoldable pub PortsReadBack : Type 0
PortsReadBack =
    (s : State) (v : ℕ) → v < 256 → Typed s → lawful_state s ≡ true
    → (timex_on s.ula ≡ true → read_port (write_port s 0x00FF v).state 0x00FF ≡ Ok v)
    × (s.ports.select < 64 → read_port (write_port s 0xFF3B v).state 0xFF3B ≡ Ok v)
    × (64 ≤ s.ports.select → read_port (write_port s 0xFF3B v).state 0xFF3B ≡ Ok (v % 2))

-- ---- colours, and the held half

-- colour c at the index in the palette written and nowhere else; the index moved, and no half held
abbrev pub with_colour : State → ℕ → State
with_colour s c =
    with_palette (with_palette_at (palette_choice s) s (set (palette_at (palette_choice s) s) s.palette.index c))
    (palette_without_half (palette_with_index s.palette (next_index s.palette.control s.palette.index)))

-- $41 stores the widened colour, whatever half is held
unfoldable pub EightOnce : Type 0
EightOnce = (s : State) (v : ℕ) → lawful_state s ≡ true → write_register s 0x41 v ≡ done (with_colour s (widened v))

-- $44 once from no held half holds the byte and changes nothing else
unfoldable pub NineOnce : Type 0
NineOnce =
    (s : State) (first : ℕ) → lawful_state s ≡ true → s.palette.held ≡ false
    → write_register s 0x44 first ≡ done (with_palette s (palette_with_half s.palette first))

-- $44 twice from no held half stores first × 2 + bit
unfoldable pub NineTwice : Type 0
NineTwice =
    (s : State) (first bit : ℕ) → first < 256 → bit ≤ 1 → Typed s → lawful_state s ≡ true → s.palette.held ≡ false
    → write_register (write_register s 0x44 first).state 0x44 bit ≡ done (with_colour s (first * 2 + bit))

-- a second $44 that is no bit is 10, and the half stays
unfoldable pub NineRefused : Type 0
NineRefused = (s : State) (v : ℕ) → 1 < v → lawful_state s ≡ true → s.palette.held ≡ true → write_register s 0x44 v ≡ refused OutOfBounds s

-- each of $40, $41, $43 drops the half
unfoldable pub HalfDropped : Type 0
HalfDropped =
    (s : State) (v : ℕ)
    → Each (λ n. (write_register s n v).reply ≡ Done → ((write_register s n v).state.palette.held ≡ false) × ((write_register s n v).state.palette.half ≡ 0))
    (0x40 ∷ 0x41 ∷ 0x43 ∷ [])

-- the half of s is held by t as well
abbrev pub SameHalf : State → State → Type 0
SameHalf s t = (t.palette.held ≡ s.palette.held) × (t.palette.half ≡ s.palette.half)

-- every other write of a register or port keeps it
unfoldable pub HalfKept : Type 0
HalfKept =
    (s : State) (n v : ℕ)
    → (NoneOf (0x40 ∷ 0x41 ∷ 0x43 ∷ 0x44 ∷ []) n → SameHalf s (write_register s n v).state)
    × SameHalf s (write_port s n v).state

-- ---- clips and turns

-- a clip takes any byte
unfoldable pub ClipsTake : Type 0
ClipsTake = (s : State) (v : ℕ) → lawful_state s ≡ true → ((write_register s 0x1A v).reply ≡ Done) × ((write_register s 0x1B v).reply ≡ Done)

-- x lies at coordinate i of a clip, from 0, counted on past the last from the first again
abbrev pub At : List ℕ → ℕ → ℕ → Type 0
At clip i x = get_or clip (i % 4) 0 ≡ x

abbrev pub four_writes : ℕ → State → ℕ → ℕ → ℕ → ℕ → State
four_writes n s a b c d = (write_register (write_register (write_register (write_register s n a).state n b).state n c).state n d).state

-- four clip writes set the four coordinates in order, from the turn on, and the turn is what it was
abbrev pub SetsFour : (State → List ℕ) → (State → ℕ) → ℕ → Type 0
SetsFour clip turn n =
    (s : State) (a b c d : ℕ) → a < 256 → b < 256 → c < 256 → d < 256 → Typed s → lawful_state s ≡ true
    → (turn (four_writes n s a b c d) ≡ turn s)
    × At (clip (four_writes n s a b c d)) (turn s) a
    × At (clip (four_writes n s a b c d)) (turn s + 1) b
    × At (clip (four_writes n s a b c d)) (turn s + 2) c
    × At (clip (four_writes n s a b c d)) (turn s + 3) d

unfoldable pub FourClipWrites : Type 0
FourClipWrites = SetsFour (λ s. s.ulaclip) (λ s. s.turns.ula) 0x1A × SetsFour (λ s. s.tileclip) (λ s. s.turns.tiles) 0x1B

-- $1C up to 15 restarts just the turns that its bits name, bit 3 the tilemap's and bit 2 the ULA's; from 16 on it is 10
pub record Restarts (s : State) (v : ℕ) : Type 0 where
  pub inside : v ≤ 15 → (write_register s 0x1C v).reply ≡ Done
  pub tiles : v ≤ 15 → v / 8 % 2 ≡ 1 → (write_register s 0x1C v).state.turns.tiles ≡ 0
  pub tiles-kept : v ≤ 15 → v / 8 % 2 ≡ 0 → (write_register s 0x1C v).state.turns.tiles ≡ s.turns.tiles
  pub ula : v ≤ 15 → v / 4 % 2 ≡ 1 → (write_register s 0x1C v).state.turns.ula ≡ 0
  pub ula-kept : v ≤ 15 → v / 4 % 2 ≡ 0 → (write_register s 0x1C v).state.turns.ula ≡ s.turns.ula
  pub outside : 16 ≤ v → write_register s 0x1C v ≡ refused OutOfBounds s

unfoldable pub TurnsRestarted : Type 0
TurnsRestarted = (s : State) (v : ℕ) → lawful_state s ≡ true → Restarts s v

-- ---- reads of a lawful state

-- a clip read gives the coordinate next to be written
unfoldable pub ClipReads : Type 0
ClipReads =
    (s : State) → lawful_state s ≡ true
    → (read_register s 0x1A ≡ Ok (get_or s.ulaclip s.turns.ula 0)) × (read_register s 0x1B ≡ Ok (get_or s.tileclip s.turns.tiles 0))

-- $1C reads as tilemap turn × 64 + ULA turn
unfoldable pub TurnsReads : Type 0
TurnsReads = (s : State) → lawful_state s ≡ true → read_register s 0x1C ≡ Ok (s.turns.tiles * 64 + s.turns.ula)

-- $41 reads colour div 2, $44 colour mod 2, of the palette written at the index
unfoldable pub ColourReads : Type 0
ColourReads =
    (s : State) → lawful_state s ≡ true
    → (read_register s 0x41 ≡ Ok (get_or (palette_at (palette_choice s) s) s.palette.index 0 / 2))
    × (read_register s 0x44 ≡ Ok (get_or (palette_at (palette_choice s) s) s.palette.index 0 % 2))

-- $FF3B in the mode group reads 1 or 0, as ULAplus is on or not
unfoldable pub ModeReads : Type 0
ModeReads = (s : State) → lawful_state s ≡ true → 64 ≤ s.ports.select → read_port s 0xFF3B ≡ Ok (cond s.ports.plus 1 0)

-- $FE and $BF3B cannot be read, nor $FF without $08 bit 2
unfoldable pub WriteOnly : Type 0
WriteOnly =
    (s : State) → lawful_state s ≡ true
    → (read_port s 0x00FE ≡ Err NoRegister)
    × (read_port s 0xBF3B ≡ Err NoRegister)
    × (timex_on s.ula ≡ false → read_port s 0x00FF ≡ Err NoRegister)

-- ---- every other number

abbrev pub register_numbers : List ℕ
register_numbers =
    0x08 ∷ 0x14 ∷ 0x15 ∷ 0x1A ∷ 0x1B ∷ 0x1C ∷ 0x26 ∷ 0x27 ∷ 0x2F ∷ 0x30 ∷ 0x31 ∷ 0x32 ∷ 0x33 ∷ 0x40 ∷ 0x41 ∷ 0x42 ∷ 0x43 ∷ 0x44 ∷ 0x4A ∷ 0x4C ∷ 0x68 ∷ 0x6B ∷ 0x6C ∷ 0x6E ∷ 0x6F ∷ []

abbrev pub port_numbers : List ℕ
port_numbers = 0x00FE ∷ 0x00FF ∷ 0xBF3B ∷ 0xFF3B ∷ []

-- a number that is none of these is 9: a write leaves the state, and a read gives no byte
pub record NoOther (s : State) (n v : ℕ) : Type 0 where
  pub register : NoneOf register_numbers n → (write_register s n v ≡ refused NoRegister s) × (read_register s n ≡ Err NoRegister)
  pub port : NoneOf port_numbers n → (write_port s n v ≡ refused NoRegister s) × (read_port s n ≡ Err NoRegister)

unfoldable pub OthersMissing : Type 0
OthersMissing = (s : State) (n v : ℕ) → lawful_state s ≡ true → NoOther s n v
