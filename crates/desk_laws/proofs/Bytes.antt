-- The record of a typed state is bytes, since each of its parts is; and so are the seats of a desk, and a new one.
use Prim.Native.Nat.{ℕ, suc, ◌+◌, ◌*◌, ◌/◌, ◌%◌, ◌<◌}
use mathlib.Core.Bool.{Bool}
use mathlib.Core.List.{List, [], ◌∷◌, ◌++◌}
use native.Mathlib.Omega.{arith}
use lib.ListN.{drop, get_or}
use lib.Dec.{lit<}
use Rattle.lists.specs.Bytes.{Bytes}
use Rattle.lists.proofs.Bytes.{bytes-none, bytes-one-more, bytes-append, bytes_take, bytes_drop}
use Rattle.lists.proofs.Cond.{either}
use Rattle.register_laws.specs.Claims.{Each, none, ◌▷◌}
use Rattle.state.specs.declared.State.{State}
use Rattle.state.specs.Typed.{Typed}
use Rattle.record_layout.specs.Fields.{byte, pair, field_bytes, row_bytes, flag_byte}
use Rattle.record_layout.specs.Parts.{Part, one, row, bytes_of}
use Rattle.record_layout.specs.Version.{version_number, current}
use Rattle.record_layout.specs.Layout.{layout}
use Rattle.record_layout.specs.Record.{following, record_of}
use Rattle.desk_seats.specs.Seats.{seat_length, seat_at, seat_of}

-- ---- a record

rows-byte : (xs : List ℕ) → Bytes xs → Bytes (row_bytes byte xs)
rows-byte [] y = bytes-none
rows-byte (x ∷ xs) y = bytes-one-more x (row_bytes byte xs) (y 0) (rows-byte xs (λ i. y (suc i)))

pair-more : (x : ℕ) (ys : List ℕ) → x < 65536 → Bytes ys → Bytes (field_bytes pair x ++ ys)
pair-more x ys l y = bytes-one-more (x / 256) (x % 256 ∷ ys) (omega (arith, l)) (bytes-one-more (x % 256) ys (omega arith) y)

rows-pair : (xs : List ℕ) → ((i : ℕ) → get_or xs i 0 < 65536) → Bytes (row_bytes pair xs)
rows-pair [] y = bytes-none
rows-pair (x ∷ xs) y = pair-more x (row_bytes pair xs) (y 0) (rows-pair xs (λ i. y (suc i)))

-- what a part holds of a state is of its type
abbrev PartTyped : Part → State → Type 0
PartTyped (one bound field) s = field s < 256
PartTyped (row byte n bound field) s = Bytes (field s)
PartTyped (row pair n bound field) s = (i : ℕ) → get_or (field s) i 0 < 65536

bytes-parts : (ps : List Part) (s : State) → Each (λ p. PartTyped p s) ps → Bytes (bytes_of ps s)
bytes-parts [] s none = bytes-none
bytes-parts (one bound field ∷ ps) s (x ▷ xs) = bytes-one-more (field s) (bytes_of ps s) x (bytes-parts ps s xs)
bytes-parts (row byte n bound field ∷ ps) s (x ▷ xs) =
    bytes-append (row_bytes byte (field s)) (bytes_of ps s) (rows-byte (field s) x) (bytes-parts ps s xs)
bytes-parts (row pair n bound field ∷ ps) s (x ▷ xs) =
    bytes-append (row_bytes pair (field s)) (bytes_of ps s) (rows-pair (field s) x) (bytes-parts ps s xs)

flag-byte : (f : Bool) → flag_byte f < 256
flag-byte f = either (λ n. n < 256) f 1 0 (lit< tt) (lit< tt)

parts_typed : (s : State) → Typed s → Each (λ p. PartTyped p s) (layout current)
parts_typed s z =
    let u = z.ula in
    let t = z.tiles in
    let p = z.palette in
    u.transparent ▷ u.layers ▷ u.peripheral ▷ p.control ▷ p.index ▷ p.mask ▷ u.fallback ▷ t.transparent ▷ u.control ▷ t.control
    ▷ t.attribute ▷ t.xhigh ▷ t.xlow ▷ t.y ▷ t.map ▷ t.definitions ▷ u.loresx ▷ u.loresy ▷ u.x ▷ u.y
    ▷ z.ulaclip.below ▷ z.tileclip.below ▷ z.turns.ula ▷ z.turns.tiles ▷ flag-byte s.palette.held ▷ p.half
    ▷ z.ports.border ▷ z.ports.timex ▷ z.ports.select ▷ flag-byte s.ports.plus ▷ z.frame ▷ z.plus.below
    ▷ z.ulafirst.below ▷ z.ulasecond.below ▷ z.tilefirst.below ▷ z.tilesecond.below ▷ none

pub bytes-record : (s : State) → Typed s → Bytes (record_of s)
unfolding record_of
bytes-record s z =
    pair-more (following current) (version_number current ∷ bytes_of (layout current) s) (lit< tt)
    (bytes-one-more (version_number current) (bytes_of (layout current) s) (lit< tt) (bytes-parts (layout current) s (parts_typed s z)))

-- ---- a seat

pub bytes-seat : (d : List ℕ) (i : ℕ) → Bytes d → Bytes (seat_at d i)
unfolding seat_at
bytes-seat d i y = bytes_take seat_length (drop (i * seat_length) d) (bytes_drop (i * seat_length) d y)

pub bytes-new : (m : ℕ) (b : List ℕ) → m < 65536 → Bytes b → Bytes (seat_of m b)
bytes-new m b l y = bytes-one-more 1 (field_bytes pair m ++ b) (lit< tt) (pair-more m b l y)
