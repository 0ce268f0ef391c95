-- What the type of a state that a function takes says of it: all of `Typed`. A function's proof has it at `.good`; the k-th
-- field stands there behind k + 2 second halves.
use Prim.Native.Nat.{ℕ, ◌<◌}
use mathlib.Core.List.{[], ◌∷◌}
use native.Mathlib.Omega.{arith}
use borrow.Author.Rules.{rules}
use denote.Laws.{Is}
use denote.Struct.Declared.{row}
use denote.Struct.Laws.{val}
use mir.Syntax.{w8, w16}
use mir.Val.{Fits}
use Rattle.state.specs.contracts.State.{the_type}
use Rattle.state.proofs.State.TheLaws.{the_laws}
use Rattle.state.specs.declared.State.{State}
use Rattle.state.specs.Typed.{Typed}

byte_fits : {x : ℕ} → Fits w8 x → x < 256
byte_fits f = omega arith

word_fits : {x : ℕ} → Fits w16 x → x < 65536
word_fits f = omega arith

pub argument-typed : (s : State) → Is (row the_type) s (val the_type the_laws s ∷ []) → Typed s
argument-typed s good =
    let groups = good.1.1 in
    let f = groups.1.1.1.1.1 in
    let a = f.1 in
    record {
      ula = let g = groups.0 in let h = g.1.1.1.1.1.1 in search rules;
      tiles = let g = groups.1.0 in let h = g.1.1.1.1.1 in search rules;
      palette = let g = groups.1.1.0 in let h = g.1.1.1 in search rules;
      turns = let g = groups.1.1.1.0 in search rules;
      ports = let g = groups.1.1.1.1.0 in search rules;
      frame = let g = f.0 in search rules;
      ulaclip = let g = a.0 in record { long = search rules; below = λ i. byte_fits (search rules) };
      tileclip = let g = a.1.0 in record { long = search rules; below = λ i. byte_fits (search rules) };
      plus = let g = a.1.1.0 in record { long = search rules; below = λ i. byte_fits (search rules) };
      ulafirst = let g = a.1.1.1.0 in record { long = search rules; below = λ i. word_fits (search rules) };
      ulasecond = let g = a.1.1.1.1.0 in record { long = search rules; below = λ i. word_fits (search rules) };
      tilefirst = let g = a.1.1.1.1.1.0 in record { long = search rules; below = λ i. word_fits (search rules) };
      tilesecond = let g = a.1.1.1.1.1.1.0 in record { long = search rules; below = λ i. word_fits (search rules) };
    }
