-- The laws of the paper's layout. That each part keeps apart from the others is by computation, version by version; only the two flags,
-- which the state keeps as truth values, want a law.
use mathlib.Core.Path.{◌≡◌, refl, ap, ◌∙◌}
use mathlib.Core.List.{List}
use mathlib.Core.Bool.{Bool, true, false}
use Prim.Native.Nat.{ℕ, zero, suc, ◌+◌}
use native.Mathlib.Omega.{arith}
use lib.ListN.{length, get_or}
use lib.Dec.{eqb}
use borrow.Author.Tests.{leb-true}
use Rattle.state.specs.declared.State.{State}
use Rattle.state.specs.Typed.{Typed}
use Rattle.record_layout.specs.declared.Version.{Version}
use Rattle.record_layout.specs.declared.Version.TheVariants.{Version1, Version2}
use Rattle.record_layout.specs.Fields.{flag_byte}
use Rattle.record_layout.specs.Parts.{bytes_of}
use Rattle.record_layout.specs.Version.{kept_in}
use Rattle.record_layout.specs.Layout.{is_flag, after_scrolls, layout, from_layout}
use Rattle.record_layout.specs.Places.{parts_place, held_place, plus_on_place}
use Rattle.record_layout.specs.Record.{following, head_of, record_in, record_length, state_as}
use Rattle.record_layout.proofs.Parts.{Fits, given, again, bytes-length, state-back}

flag-back : (f : Bool) → eqb (flag_byte f) 1 ≡ f
flag-back true = refl
flag-back false = refl

flag-forth : (x : ℕ) → is_flag x ≡ true → flag_byte (eqb x 1) ≡ x
flag-forth zero e = refl
flag-forth (suc zero) e = refl
flag-forth (suc (suc x)) e = absurd (omega (arith, leb-true (suc (suc x)) 1 e))

-- the rows of a state are as long as its types say; a part of one byte asks for nothing
rows_fit : (s : State) → Typed s → Fits after_scrolls s
rows_fit s z =
    (z.ulaclip.long, (z.tileclip.long, (z.plus.long, (z.ulafirst.long, (z.ulasecond.long, (z.tilefirst.long, (z.tilesecond.long, tt)))))))

pub fits : (v : Version) (s : State) → Typed s → Fits (layout v) s
fits Version1 s z = rows_fit s z
fits Version2 s z = rows_fit s z

-- the length of a record is that of the number and of what follows it
pub whole_length : (v : Version) → record_length v ≡ 2 + following v
whole_length Version1 = refl
whole_length Version2 = refl

pub record-length : (v : Version) (s : State) → Fits (layout v) s → length (record_in v s) ≡ record_length v
record-length Version1 s z = ap (λ (n : ℕ). suc (suc (suc n))) (bytes-length (layout Version1) s z)
record-length Version2 s z = ap (λ (n : ℕ). suc (suc (suc n))) (bytes-length (layout Version2) s z)

-- the parts hold what their version keeps of a state
given-all : (v : Version) (s : State) → given (layout v) (from_layout v) s ≡ kept_in v s
given-all Version1 s = rw (flag-back s.palette.held, flag-back s.ports.plus)
given-all Version2 s = rw (flag-back s.palette.held, flag-back s.ports.plus)

pub state-whole : (v : Version) (s : State) → Fits (layout v) s → state_as v (record_in v s) ≡ kept_in v s
unfolding state_as
state-whole Version1 s z = state-back (layout Version1) (from_layout Version1) s (head_of Version1) parts_place refl z ∙ given-all Version1 s
state-whole Version2 s z = state-back (layout Version2) (from_layout Version2) s (head_of Version2) parts_place refl z ∙ given-all Version2 s

-- the state that is read has the bytes that it is read from
pub bytes_whole : (v : Version) (b : List ℕ) → is_flag (get_or b (held_place v) 0) ≡ true → is_flag (get_or b (plus_on_place v) 0) ≡ true
    → bytes_of (layout v) (state_as v b) ≡ again (layout v) b parts_place
unfolding state_as
bytes_whole Version1 b h p = rw (flag-forth (get_or b (held_place Version1) 0) h, flag-forth (get_or b (plus_on_place Version1) 0) p)
bytes_whole Version2 b h p = rw (flag-forth (get_or b (held_place Version2) 0) h, flag-forth (get_or b (plus_on_place Version2) 0) p)
