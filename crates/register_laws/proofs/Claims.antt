-- The proofs of the statements in specs/Claims.antt, each under its statement's name.
use mathlib.Core.Path.{◌≡◌, refl, sym, ap, ◌∙◌}
use mathlib.Core.List.{List}
use mathlib.Core.Bool.{Bool, true, false}
use Prim.Native.Nat.{ℕ, ◌+◌, ◌*◌, ◌/◌, ◌%◌, ◌≤◌, ◌<◌}
use native.Mathlib.Omega.{arith}
use lib.ListN.{length, get_or}
use lib.Seq.{get_or-set_same}
use lib.Dec.{leb}
use borrow.Author.Tests.{le-leb, lt-leb, leb-true, lt-ltb, le-ltb}
use Rattle.std.specs.Prelude.{Ok, Err}
use Rattle.lists.proofs.Cond.{if-true, if-false, either}
use Rattle.reply.specs.declared.Reply.TheVariants.{Done, NotLawful, NoRegister, OutOfBounds}
use Rattle.reply.proofs.NotFour.{NotFour, other, same-not-four, done-not-four}
use Rattle.state.specs.declared.State.{State}
use Rattle.state.specs.declared.Answer.{Answer}
use Rattle.state.specs.Answer.{done, refused}
use Rattle.state_bits.specs.Bits.{timex_on}
use Rattle.register_bounds.specs.Bounds.{is_choice, select_fits}
use Rattle.state.specs.Lawful.{lawful_state}
use Rattle.state.specs.Typed.{Typed}
use Rattle.state.specs.Groups.{palette_with_half, turns_with_ula, turns_with_tiles}
use Rattle.state.specs.With.{with_palette, with_turns}
use Rattle.register_answers.specs.Answers.{Reading, if_fits, write_lawful}
use Rattle.reply.specs.Answered.{reply_of}
use Rattle.register_answers.specs.Rows.{WriteRow, write_by, read_by}
use Rattle.register_answers.proofs.Told.{Told}
use Rattle.register_clips.specs.Clips.{ula_clip_written, tile_clip_written, restarted}
use Rattle.register_colours.specs.Colours.{palette_at, palette_choice, colour_at}
use Rattle.register_palettes.specs.Palettes.{index_written, eight_written, control_written}
use Rattle.register_ports.specs.Ports.{mode_group, plus_written, plus_read, port_writes, port_reads}
use Rattle.register_tables.specs.Tables.{register_writes, register_reads}
use Rattle.registers.specs.Registers.{write_register, write_port, read_register, read_port}
use Rattle.register_laws.specs.Claims.{Each, none, ◌▷◌, NoneOf, LawfulStays, RefusedSame, NeverFour, Takes, ReadsBack, PortsTake, PortsReadBack, EightOnce, NineOnce, NineTwice, NineRefused, HalfDropped, HalfKept, four_writes, ClipsTake, FourClipWrites, TurnsRestarted, ClipReads, TurnsReads, ColourReads, ModeReads, WriteOnly, port_numbers, OthersMissing}
use Rattle.state.proofs.Colours.{colour-at}
use Rattle.register_laws.proofs.Parts.{Parts, join, split, apart, palette-lawful}
use Rattle.register_laws.proofs.Rows.{Sound, by_rows, by-reads, read_numbers, no-write-row, no-read-row}
use Rattle.register_laws.proofs.Effects.{registers-sound, ports-sound, ula-turn, tile-turn, ula-clip, tile-clip}
use Rattle.register_laws.proofs.Calls.{write-row, port-row, read-row, read-port-row, accepted, if-done}
use Rattle.register_laws.proofs.Half.{stored-over, lawful-same, registers-same, ports-same}
use Rattle.register_laws.proofs.Turns.{four, restart-set, restart-clear, bit-of}

-- ---- every write

no_register : NotFour NoRegister
no_register = other NoRegister refl

module _ (rows : List WriteRow) (sound : Each (λ r. Sound r.effect) rows) (s : State) (n v : ℕ) where
  written-parts : v < 256 → Parts s → Parts (write_lawful s (write_by rows s n v)).state
  written-parts b p =
      either (λ a. Parts a.state) (lawful_state s) (write_by rows s n v) (refused NotLawful s)
      (by_rows (λ a. Parts a.state) rows s n v p (λ f g. g.kept s v b p) sound) p

  stays : v < 256 → Typed s → lawful_state s ≡ true
      → (lawful_state (write_lawful s (write_by rows s n v)).state ≡ true) × Typed (write_lawful s (write_by rows s n v)).state
  stays b z h = let q = written-parts b (split s h z) in (join (write_lawful s (write_by rows s n v)).state q, q.2)

  hands-back : ((write_lawful s (write_by rows s n v)).reply ≡ Done → ⊥) → (write_lawful s (write_by rows s n v)).state ≡ s
  hands-back =
      either (λ a. (a.reply ≡ Done → ⊥) → a.state ≡ s) (lawful_state s) (write_by rows s n v) (refused NotLawful s)
      (by_rows (λ a. (a.reply ≡ Done → ⊥) → a.state ≡ s) rows s n v (λ h. refl) (λ f g. g.clean s v) sound) (λ h. refl)

  -- no row refuses by 4, of whatever state
  not-four : NotFour (write_by rows s n v).reply
  not-four = by_rows (λ a. NotFour a.reply) rows s n v no_register (λ f g. g.not-four s v) sound

pub lawful_stays : LawfulStays
unfolding LawfulStays write_register write_port
lawful_stays = (stays register_writes registers-sound, stays port_writes ports-sound)

pub refused_same : RefusedSame
unfolding RefusedSame write_register write_port
refused_same = (hands-back register_writes registers-sound, hands-back port_writes ports-sound)

-- a read that is not refused by 4, and is told by its reply and its value: it gives a byte, or is refused as no register
record Clear (a : Reading) : Type 0 where
  not-four : NotFour (reply_of a)
  told : Told a

gives : {v : ℕ} → Clear (Ok v)
gives = record { not-four = done-not-four; told = refl }

missing : Clear (Err NoRegister)
missing = record { not-four = no_register; told = refl }

register-reads-give : (s : State) → Each (λ r. Clear (r.reading s)) register_reads
register-reads-give s =
    gives ▷ gives ▷ gives ▷ gives ▷ gives ▷ gives ▷ gives ▷ gives ▷ gives ▷ gives ▷ gives ▷ gives ▷ gives
    ▷ gives ▷ gives ▷ gives ▷ gives ▷ gives ▷ gives ▷ gives ▷ gives ▷ gives ▷ gives ▷ gives ▷ gives ▷ none

port-reads-give : (s : State) → Each (λ r. Clear (r.reading s)) port_reads
port-reads-give s =
    either Clear (timex_on s.ula) _ _ gives missing ▷ either Clear (mode_group s) _ _ gives gives ▷ none

register-clear : (s : State) (n : ℕ) → Clear (read_by register_reads s n)
register-clear s n = by-reads Clear register_reads s n missing (register-reads-give s)

port-clear : (s : State) (n : ℕ) → Clear (read_by port_reads s n)
port-clear s n = by-reads Clear port_reads s n missing (port-reads-give s)

-- and so is a read of any state
pub register-told : (s : State) (n : ℕ) → Told (read_register s n)
unfolding read_register
register-told s n = either Told (lawful_state s) (read_by register_reads s n) (Err NotLawful) (register-clear s n).told refl

pub port-told : (s : State) (n : ℕ) → Told (read_port s n)
unfolding read_port
port-told s n = either Told (lawful_state s) (read_by port_reads s n) (Err NotLawful) (port-clear s n).told refl

pub register-not-four : (s : State) (n v : ℕ) → NotFour (write_by register_writes s n v).reply
register-not-four = not-four register_writes registers-sound

pub port-not-four : (s : State) (n v : ℕ) → NotFour (write_by port_writes s n v).reply
port-not-four = not-four port_writes ports-sound

pub never_four : NeverFour
never_four = record {
  registers = λ s n v h. same-not-four _ _ (ap (λ (x : Answer). x.reply) (write-row s n v h)) (register-not-four s n v);
  ports = λ s n v h. same-not-four _ _ (ap (λ (x : Answer). x.reply) (port-row s n v h)) (port-not-four s n v);
  register-reads = λ s n h e. (register-clear s n).not-four (ap reply_of (sym (read-row s n h) ∙ e));
  port-reads = λ s n h e. (port-clear s n).not-four (ap reply_of (sym (read-port-row s n h) ∙ e));
}

-- ---- reading back

module _ (s : State) (v : ℕ) (b : v < 256) (z : Typed s) (h : lawful_state s ≡ true) where
  -- a row that goes by ok, and whose changed state t reads as k
  takes : (n k : ℕ) (ok : Bool) (t : State) → write_by register_writes s n v ≡ if_fits ok t s → read_by register_reads t n ≡ Ok k → Takes s n v ok k
  unfolding LawfulStays
  takes n k ok t e g =
      let w : write_register s n v ≡ if_fits ok t s = write-row s n v h ∙ e in
      let back : read_register (write_register s n v).state n ≡ read_by register_reads (write_register s n v).state n =
      read-row (write_register s n v).state n (lawful_stays.0 s n v b z h).0 in
      record {
        inside = λ o.
            let d : write_register s n v ≡ done t = w ∙ if-true ok (done t) (refused OutOfBounds s) o in
            (ap (λ (a : Answer). a.reply) d, back ∙ ap (λ (a : Answer). read_by register_reads a.state n) d ∙ g);
        outside = λ o. w ∙ if-false ok (done t) (refused OutOfBounds s) o;
      }

pub reads_back : ReadsBack
unfolding ReadsBack
reads_back s v b z h =
    let row = takes s v b z h in
    row _ v _ _ refl refl
    ▷ row _ v _ _ refl refl
    ▷ row _ v _ _ refl refl
    ▷ row _ v _ _ refl refl
    ▷ row _ v _ _ refl refl
    ▷ row _ v _ _ refl refl
    ▷ row _ v _ _ refl refl
    ▷ row _ v _ _ refl refl
    ▷ row _ v _ _ refl refl
    ▷ row _ v _ _ refl refl
    ▷ row _ v _ _ refl refl
    ▷ row _ v _ _ refl refl
    ▷ row _ v _ _ refl refl
    ▷ row _ v _ _ refl refl
    ▷ row _ v _ _ refl refl
    ▷ row _ v _ _ refl refl
    ▷ row _ v _ _ refl refl
    ▷ row _ v _ _ refl refl
    ▷ row _ (v % 64) _ _ refl refl
    ▷ row _ (v % 64) _ _ refl refl
    ▷ none

abbrev Accepted : Answer → Type 0
Accepted a = a.reply ≡ Done

pub ports_take : PortsTake
unfolding PortsTake
ports_take s v h =
    record {
      border = port-row s 0x00FE v h;
      timex = port-row s 0x00FF v h;
      select = λ l. port-row s 0xBF3B v h ∙ if-true (select_fits v) _ _ (lt-ltb v 128 l);
      select-outside = λ l. port-row s 0xBF3B v h ∙ if-false (select_fits v) _ _ (le-ltb v 128 l);
      plus = ap (λ (a : Answer). a.reply) (port-row s 0xFF3B v h) ∙ either Accepted (mode_group s) _ _ refl refl;
    }

-- ---- reads of a lawful state

pub clip_reads : ClipReads
unfolding ClipReads
clip_reads s h =
    let g = (apart s h).0 in
    let u : s.turns.ula % 4 ≡ s.turns.ula = omega (arith, leb-true s.turns.ula 3 (ula-turn s.turns g.turns)) in
    let t : s.turns.tiles % 4 ≡ s.turns.tiles = omega (arith, leb-true s.turns.tiles 3 (tile-turn s.turns g.turns)) in
    (read-row s 0x1A h ∙ ap (λ (i : ℕ). Ok (get_or s.ulaclip i 0)) u, read-row s 0x1B h ∙ ap (λ (i : ℕ). Ok (get_or s.tileclip i 0)) t)

pub turns_reads : TurnsReads
unfolding TurnsReads
turns_reads s h =
    let g = (apart s h).0 in
    let e : s.turns.tiles % 4 * 64 + s.turns.ula % 4 ≡ s.turns.tiles * 64 + s.turns.ula =
    omega (arith, leb-true s.turns.ula 3 (ula-turn s.turns g.turns), leb-true s.turns.tiles 3 (tile-turn s.turns g.turns)) in
    read-row s 0x1C h ∙ ap Ok e

pub colour_reads : ColourReads
unfolding ColourReads
colour_reads s h =
    let l : colour_at s ≤ 511 = colour-at (palette_at (palette_choice s) s) s.palette.index (palette-lawful (palette_choice s) s (apart s h).1) in
    let e : colour_at s / 2 % 256 ≡ colour_at s / 2 = omega arith in
    (read-row s 0x41 h ∙ ap Ok e, read-row s 0x44 h)

pub mode_reads : ModeReads
unfolding ModeReads
mode_reads s h l = read-port-row s 0xFF3B h ∙ if-true (leb 64 s.ports.select) _ _ (le-leb 64 s.ports.select l)

pub write_only : WriteOnly
unfolding WriteOnly
write_only s h = (read-port-row s 0x00FE h, read-port-row s 0xBF3B h, λ e. read-port-row s 0x00FF h ∙ if-false (timex_on s.ula) _ _ e)

register-back : (s : State) (v : ℕ) → s.ports.select < 64 → length s.plus ≡ 64 → plus_read (plus_written s v).state ≡ Ok v
register-back s v l k =
    let m : mode_group s ≡ false = lt-leb 64 s.ports.select l in
    ap (λ (a : Answer). plus_read a.state) (if-false (mode_group s) _ _ m)
    ∙ if-false (mode_group s) _ _ m
    ∙ ap Ok (get_or-set_same s.plus s.ports.select v 0 (omega arith))

mode-back : (s : State) (v : ℕ) → 64 ≤ s.ports.select → plus_read (plus_written s v).state ≡ Ok (v % 2)
mode-back s v l =
    let m : mode_group s ≡ true = le-leb 64 s.ports.select l in
    ap (λ (a : Answer). plus_read a.state) (if-true (mode_group s) _ _ m)
    ∙ if-true (mode_group s) _ _ m
    ∙ ap Ok (bit-of (v % 2) (omega arith))

pub ports_read_back : PortsReadBack
unfolding PortsReadBack LawfulStays
ports_read_back s v b z h =
    let q = split s h z in
    let back : (n : ℕ) → read_port (write_port s n v).state n ≡ read_by port_reads (write_by port_writes s n v).state n =
    λ n. read-port-row (write_port s n v).state n (lawful_stays.1 s n v b z h).0 ∙ ap (λ (a : Answer). read_by port_reads a.state n) (port-row s n v h) in (
      λ e. back 0x00FF ∙ if-true (timex_on s.ula) _ _ e,
      λ l. back 0xFF3B ∙ register-back s v l z.plus.long,
      λ l. back 0xFF3B ∙ mode-back s v l,
    )

-- ---- colours, and the held half

pub eight_once : EightOnce
unfolding EightOnce
eight_once s v h = write-row s 0x41 v h

pub nine_once : NineOnce
unfolding NineOnce
nine_once s first h e = write-row s 0x44 first h ∙ if-false s.palette.held _ _ e

pub nine_refused : NineRefused
unfolding NineRefused
nine_refused s v l h e = write-row s 0x44 v h ∙ if-true s.palette.held _ _ e ∙ if-false (leb v 1) _ _ (lt-leb v 1 l)

pub nine_twice : NineTwice
unfolding NineTwice NineOnce LawfulStays
nine_twice s first bit b l z h e =
    let p = palette_with_half s.palette first in
    let s1 = with_palette s p in
    let o = nine_once s first h e in
    let h1 : lawful_state s1 ≡ true = sym (ap (λ (a : Answer). lawful_state a.state) o) ∙ (lawful_stays.0 s 0x44 first b z h).0 in
    ap (λ (a : Answer). write_register a.state 0x44 bit) o
    ∙ write-row s1 0x44 bit h1
    ∙ if-true (leb bit 1) _ _ (le-leb bit 1 l)
    ∙ ap done (stored-over s _ p (palette_choice s) s.palette.index (first * 2 + bit))

-- no half is held after it
abbrev Gone : Answer → Type 0
Gone a = (a.state.palette.held ≡ false) × (a.state.palette.half ≡ 0)

pub half_dropped : HalfDropped
unfolding HalfDropped write_register
half_dropped s v =
    if-done s (index_written s v) Gone (λ d. (refl, refl))
    ▷ if-done s (eight_written s v) Gone (λ d. (refl, refl))
    ▷ if-done s (control_written s v) Gone
    (λ d. let e = accepted (is_choice v) _ s d in (ap (λ (x : State). x.palette.held) e, ap (λ (x : State). x.palette.half) e))
    ▷ none

pub half_kept : HalfKept
unfolding HalfKept write_register write_port
half_kept s n v = (λ x. lawful-same s _ (registers-same s n v x), lawful-same s _ (ports-same s n v))

-- ---- clips and turns

-- four writes of one register, each by its row
module _ (f : State → ℕ → Answer) (sound : Sound f) (n : ℕ) (row : (s : State) (v : ℕ) → write_by register_writes s n v ≡ f s v) where
  one-write : (s : State) (v : ℕ) → Parts s → (write_register s n v).state ≡ (f s v).state
  one-write s v p = ap (λ (a : Answer). a.state) (write-row s n v (join s p) ∙ row s v)

  four-writes : (s : State) (a b c d : ℕ) → a < 256 → b < 256 → c < 256 → Parts s
      → four_writes n s a b c d ≡ (f (f (f (f s a).state b).state c).state d).state
  four-writes s a b c d la lb lc p =
      let s1 = (f s a).state in
      let s2 = (f s1 b).state in
      let p1 = sound.kept s a la p in
      let p2 = sound.kept s1 b lb p1 in
      ap (λ (x : State). (write_register (write_register (write_register x n b).state n c).state n d).state) (one-write s a p)
      ∙ ap (λ (x : State). (write_register (write_register x n c).state n d).state) (one-write s1 b p1)
      ∙ ap (λ (x : State). (write_register x n d).state) (one-write s2 c p2)
      ∙ one-write (f s2 c).state d (sound.kept s2 c lc p2)

pub four_clip_writes : FourClipWrites
unfolding FourClipWrites
four_clip_writes = (
  λ s a b c d la lb lc ld z h.
      let p = split s h z in
      rw (four-writes ula_clip_written ula-clip 0x1A (λ x v. refl) s a b c d la lb lc p)
      (four s.ulaclip s.turns.ula a b c d z.ulaclip.long (leb-true s.turns.ula 3 (ula-turn s.turns p.0.turns))),
  λ s a b c d la lb lc ld z h.
      let p = split s h z in
      rw (four-writes tile_clip_written tile-clip 0x1B (λ x v. refl) s a b c d la lb lc p)
      (four s.tileclip s.turns.tiles a b c d z.tileclip.long (leb-true s.turns.tiles 3 (tile-turn s.turns p.0.turns))),
)

pub clips_take : ClipsTake
unfolding ClipsTake
clips_take s v h = (ap (λ (a : Answer). a.reply) (write-row s 0x1A v h), ap (λ (a : Answer). a.reply) (write-row s 0x1B v h))

pub turns_restarted : TurnsRestarted
unfolding TurnsRestarted
turns_restarted s v h =
    let row = write-row s 0x1C v h in
    let w : v ≤ 15 → write_register s 0x1C v ≡ done (with_turns s (turns_with_tiles (turns_with_ula s.turns (restarted (v / 4 % 2) s.turns.ula)) (restarted (v / 8 % 2) s.turns.tiles))) =
    λ l. row ∙ if-true (leb v 15) _ _ (le-leb v 15 l) in
    record {
      inside = λ l. ap (λ (a : Answer). a.reply) (w l);
      tiles = λ l e. ap (λ (a : Answer). a.state.turns.tiles) (w l) ∙ restart-set (v / 8 % 2) s.turns.tiles e;
      tiles-kept = λ l e. ap (λ (a : Answer). a.state.turns.tiles) (w l) ∙ restart-clear (v / 8 % 2) s.turns.tiles e;
      ula = λ l e. ap (λ (a : Answer). a.state.turns.ula) (w l) ∙ restart-set (v / 4 % 2) s.turns.ula e;
      ula-kept = λ l e. ap (λ (a : Answer). a.state.turns.ula) (w l) ∙ restart-clear (v / 4 % 2) s.turns.ula e;
      outside = λ l. row ∙ if-false (leb v 15) _ _ (lt-leb v 15 l);
    }

-- ---- every other number

port-reads-other : (n : ℕ) → NoneOf port_numbers n → NoneOf (read_numbers port_reads) n
port-reads-other n (x ▷ y ▷ z ▷ w ▷ none) = y ▷ w ▷ none

pub others_missing : OthersMissing
unfolding OthersMissing
others_missing s n v h =
    record {
      register = λ x. (write-row s n v h ∙ no-write-row register_writes s n v x, read-row s n h ∙ no-read-row register_reads s n x);
      port = λ x. (port-row s n v h ∙ no-write-row port_writes s n v x, read-port-row s n h ∙ no-read-row port_reads s n (port-reads-other n x));
    }
