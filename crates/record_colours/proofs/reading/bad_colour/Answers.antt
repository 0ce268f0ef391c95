-- The high byte of a colour is the even one of its two bytes in the palette, and tells whether the colour is above 511.
use native.Mathlib.Omega.{arith}
use mathlib.Core.Path.{refl}
use Prim.Native.Nat.{ℕ, ◌+◌, ◌-◌, ◌*◌}
use Rattle.record_colours.proofs.FirstBad.{high_of, fits-here, found_here, found_none}
use Rattle.record_colours.proofs.reading.bad_colour.Goals as goal

pub returns-in-Some : goal.returns-in-Some
returns-in-Some c =
    let s = c.args in
    let i = c.in-Some.i in
    let w = c.in-Some.ensures in
    let n : ℕ = s.at + 512 - s.at in
    found_here s.b.now s.at i s.next (omega (arith, w.inside)) (omega (arith, w.inside, w.here, high_of s.b.now s.at n i (omega (arith, w.inside)))) (omega (arith, c.type_inv.b (s.at + 2 * i + 1)))
    (λ k l. fits-here s.b.now s.at k (omega (arith, w.before k l, high_of s.b.now s.at n k (omega (arith, w.inside, l)))) (omega (arith, c.type_inv.b (s.at + 2 * k + 1))))

pub returns-in-None : goal.returns-in-None
returns-in-None c =
    let s = c.args in
    let n : ℕ = s.at + 512 - s.at in
    found_none s.b.now s.at s.next
    (λ k l. fits-here s.b.now s.at k (omega (arith, c.in-None.ensures.none refl k l, high_of s.b.now s.at n k (omega (arith, l)))) (omega (arith, c.type_inv.b (s.at + 2 * k + 1))))
