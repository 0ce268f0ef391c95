-- Writes that touch no palette: what one does to a state it does to the registers alone, and the palettes stay. For an effect, by
-- computation, and by cases on its test where it has one; for a table, by induction over its rows.
use mathlib.Core.Path.{◌≡◌, refl}
use mathlib.Core.List.{List, [], ◌∷◌}
use mathlib.Core.Bool.{Bool, true, false, cond}
use Prim.Native.Nat.{ℕ}
use lib.Dec.{eqb}
use Rattle.state.specs.declared.State.{State}
use Rattle.state.specs.declared.Answer.{Answer}
use Rattle.register_parts.specs.declared.Palettes.{Palettes}
use Rattle.register_parts.specs.declared.Registers.{Registers}
use Rattle.register_parts.specs.Parts.{state_with, bare, registers_of, written_of, answer_with}
use Rattle.register_answers.specs.Answers.{if_fits}
use Rattle.register_answers.specs.Rows.{WriteRow, write_by}

-- an effect on a whole state is its effect on the registers alone
pub record Apart (f : State → ℕ → Answer) : Type 0 where
  pub apart : (g : Registers) (pal : Palettes) (v : ℕ) → f (state_with g pal) v ≡ answer_with (written_of (f (bare g) v)) pal

infixr 4 ◌▷◌
infixr 4 ◌▸◌
-- each row that can be that of n is such an effect, or is not that of n
pub data Rows (n : ℕ) : List WriteRow → Type 0 where
  none : Rows n []
  ◌▷◌ : {r : WriteRow} {rs : List WriteRow} → Apart r.effect → Rows n rs → Rows n (r ∷ rs)
  ◌▸◌ : {r : WriteRow} {rs : List WriteRow} → eqb n r.number ≡ false → Rows n rs → Rows n (r ∷ rs)

module _ (pal : Palettes) where
  -- a choice of two answers, each told by its parts
  pub chosen : (t : Bool) (x y p q : Answer) → x ≡ answer_with (written_of p) pal → y ≡ answer_with (written_of q) pal
      → cond t x y ≡ answer_with (written_of (cond t p q)) pal
  chosen true x y p q e f = e
  chosen false x y p q e f = f

  -- a choice that takes the second
  passed : (t : Bool) (x y p q : Answer) → t ≡ false → y ≡ answer_with (written_of q) pal
      → cond t x y ≡ answer_with (written_of (cond t p q)) pal
  passed t x y p q e f = rw e f

  pub judged : (ok : Bool) (t s : State)
      → if_fits ok (state_with (registers_of t) pal) (state_with (registers_of s) pal) ≡ answer_with (written_of (if_fits ok t s)) pal
  judged true t s = refl
  judged false t s = refl

  pub rows_apart : (n : ℕ) (rows : List WriteRow) → Rows n rows → (g : Registers) (v : ℕ)
      → write_by rows (state_with g pal) n v ≡ answer_with (written_of (write_by rows (bare g) n v)) pal
  rows_apart n [] none g v = refl
  rows_apart n (r ∷ rs) (p ▷ ps) g v =
      chosen (eqb n r.number) (r.effect (state_with g pal) v) (write_by rs (state_with g pal) n v) (r.effect (bare g) v) (write_by rs (bare g) n v) (p.apart g pal v) (rows_apart n rs ps g v)
  rows_apart n (r ∷ rs) (p ▸ ps) g v =
      passed (eqb n r.number) (r.effect (state_with g pal) v) (write_by rs (state_with g pal) n v) (r.effect (bare g) v) (write_by rs (bare g) n v) p (rows_apart n rs ps g v)
