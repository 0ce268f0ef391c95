-- The groups that the ULA shows are read of the record, and its dots are those of the state in it. That their bytes are below 256 is read
-- of their types.
use Prim.Native.Nat.{ℕ, ◌<◌}
use native.Mathlib.Omega.{arith}
use mir.Syntax.{w8}
use mir.Val.{Fits}
use Rattle.lists.specs.Tab.{tab}
use Rattle.lent_drawing.proofs.Drawn.{mask-read, border-read, ula-palette-read, ula-laid, bytes_read}
use borrow.Author.Rules.{rules}
use Rattle.lent_drawing.proofs.drawing.lay_ula.Goals as goal

byte : {x : ℕ} → Fits w8 x → x < 256
byte f = omega arith

pub ula_row-requires : goal.ula_row-requires
ula_row-requires c =
    (mask-read c.args.v c.args.bytes.now c.requires.0 _ c.palette_at-p.ensures, border-read c.args.v c.args.bytes.now c.requires.0 _ c.ports_at-ports.ensures, c.requires.1, c.requires.2, c.requires.3)

pub returns : goal.returns
unfolding tab
returns c =
    let a = c.args in
    let b = a.bytes.now in
    let p = c.palette_at-p in (
      ula-laid a.v b a.bank.now a.line _ _ _ _ _ _ _ _ c.ula_at-u.ensures p.ensures c.ports_at-ports.ensures c.frame_at-frame.ensures c.ula_clip_at-clip.ensures c.plus_at-plus.ensures
          (ula-palette-read a.v b _ _ c.colours_at-pal.ensures p.result p.ensures c.ula_place.ensures.0) c.ula_row.ensures,
      bytes_read a.v b _ _ c.ula_at-u.ensures c.plus_at-plus.ensures (let o = c.ula_at-u.type_inv in omega (arith, o.1.1.1.1.1.0)) (let o = c.plus_at-plus.type_inv in λ i. byte (search rules)),
    )
