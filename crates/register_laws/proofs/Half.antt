-- What keeps a held half: every row but $40, $41, $43 and $44, row by row; and that a colour is stored whatever half is held.
use mathlib.Core.Path.{◌≡◌, refl}
use mathlib.Core.List.{[], ◌∷◌}
use mathlib.Core.Bool.{Bool, true, false}
use Prim.Native.Nat.{ℕ}
use lib.Dec.{leb, eqb}
use Rattle.lists.proofs.Cond.{either}
use Rattle.reply.specs.declared.Reply.TheVariants.{NotLawful, OutOfBounds}
use Rattle.state.specs.declared.State.{State}
use Rattle.state.specs.declared.Palette.{Palette}
use Rattle.state.specs.declared.Answer.{Answer}
use Rattle.state.specs.Answer.{done, refused}
use Rattle.register_bounds.specs.Bounds.{is_mask, offset_yfits, tile_transparent_fits, ula_control_fits, tile_control_fits, x_high_fits, select_fits}
use Rattle.state.specs.Lawful.{lawful_state}
use Rattle.state.specs.With.{with_palette}
use Rattle.register_answers.specs.Answers.{if_fits, write_lawful}
use Rattle.register_answers.specs.Rows.{write_by}
use Rattle.register_colours.specs.Colours.{colour_stored}
use Rattle.register_ports.specs.Ports.{mode_group, port_writes}
use Rattle.register_tables.specs.Tables.{register_writes}
use Rattle.register_laws.specs.Claims.{Each, none, ◌▷◌, SameHalf}
use Rattle.register_laws.proofs.Rows.{by_row}

-- a colour stored over another palette group
pub stored-over : (s : State) (p q : Palette) (n i c : ℕ) → with_palette (colour_stored (with_palette s q) n i c) p ≡ with_palette (colour_stored s n i c) p
stored-over s p q n i c = go (eqb n 0) refl (eqb n 4) refl (eqb n 3) refl
  where
    go : (x : Bool) → eqb n 0 ≡ x → (y : Bool) → eqb n 4 ≡ y → (z : Bool) → eqb n 3 ≡ z
        → with_palette (colour_stored (with_palette s q) n i c) p ≡ with_palette (colour_stored s n i c) p
    go true e y f z g = rw e
    go false e true f z g = rw (e, f)
    go false e false f true g = rw (e, f, g)
    go false e false f false g = rw (e, f, g)

abbrev Same : State → Answer → Type 0
Same s a = SameHalf s a.state

module _ (s : State) where
  same : SameHalf s s
  same = (refl, refl)

  judged-same : (ok : Bool) (t : State) → SameHalf s t → Same s (if_fits ok t s)
  judged-same ok t h = either (Same s) ok (done t) (refused OutOfBounds s) h same

  pub lawful-same : (a : Answer) → Same s a → Same s (write_lawful s a)
  lawful-same a h = either (Same s) (lawful_state s) a (refused NotLawful s) h same

  pub registers-same : (n v : ℕ) → Each (λ k. n ≡ k → ⊥) (0x40 ∷ 0x41 ∷ 0x43 ∷ 0x44 ∷ []) → Same s (write_by register_writes s n v)
  registers-same n v (x0 ▷ x1 ▷ x3 ▷ x4 ▷ none) =
      by_row (Same s) register_writes s n v same
      ((λ e. same)
      ▷ (λ e. same)
      ▷ (λ e. same)
      ▷ (λ e. same)
      ▷ (λ e. same)
      ▷ (λ e. judged-same (leb v 15) _ same)
      ▷ (λ e. same)
      ▷ (λ e. judged-same (offset_yfits v) _ same)
      ▷ (λ e. judged-same (x_high_fits v) _ same)
      ▷ (λ e. same)
      ▷ (λ e. same)
      ▷ (λ e. same)
      ▷ (λ e. judged-same (offset_yfits v) _ same)
      ▷ (λ e. absurd (x0 e))
      ▷ (λ e. absurd (x1 e))
      ▷ (λ e. judged-same (is_mask v) _ same)
      ▷ (λ e. absurd (x3 e))
      ▷ (λ e. absurd (x4 e))
      ▷ (λ e. same)
      ▷ (λ e. judged-same (tile_transparent_fits v) _ same)
      ▷ (λ e. judged-same (ula_control_fits v) _ same)
      ▷ (λ e. judged-same (tile_control_fits v) _ same)
      ▷ (λ e. same)
      ▷ (λ e. same)
      ▷ (λ e. same)
      ▷ none)

  pub ports-same : (n v : ℕ) → Same s (write_by port_writes s n v)
  ports-same n v =
      by_row (Same s) port_writes s n v same
      ((λ e. same) ▷ (λ e. same) ▷ (λ e. judged-same (select_fits v) _ same) ▷ (λ e. either (Same s) (mode_group s) _ _ same same) ▷ none)
