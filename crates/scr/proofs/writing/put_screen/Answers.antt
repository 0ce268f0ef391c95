-- The parts, then the rest (Write).
use Prim.Native.Nat.{◌+◌, ◌≤◌}
use native.Mathlib.Omega.{arith}
use lib.ListN.{length}
use Rattle.scr_forms.specs.Files.{port_size, colours_size}
use Rattle.scr_forms.proofs.Shapes.{length_most}
use Rattle.scr.proofs.Write.{file-put, length-told}
use borrow.Author.Rules.{rules}
use Rattle.scr.proofs.writing.put_screen.Goals as goal

pub put_parts-at-requires : goal.put_parts-at-requires
put_parts-at-requires c = (c.requires.0, omega (arith, c.requires.1, length_most c.mode_of-mode.result c.args.s.ports.plus))

pub put_rest-requires : goal.put_rest-requires
put_rest-requires c =
    let p = c.put_parts-at in
    let m = c.mode_of-mode.result in
    let h : p.result + port_size m + colours_size c.args.s.ports.plus ≤ length c.args.file.now
    = omega (arith, p.ensures.0, c.requires.1, length_most m c.args.s.ports.plus) in
    search (rules, h)

pub returns : goal.returns
returns c =
    let m = c.mode_of-mode in
    let p = c.put_parts-at in
    let w = c.put_rest in (
      length-told c.args.s c.args.bank.now c.args.file.now m.result p.result m.ensures p.ensures.0 w.result w.ensures.0,
      file-put c.args.s c.args.bank.now c.args.file.now m.result p.result m.ensures p.ensures.0 _ _ c.requires.0 c.requires.1 p.ensures.1 w.ensures.1,
    )
