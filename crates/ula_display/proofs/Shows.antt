-- A row of the display by its mode and its clip, and a row of LoRes from its columns.
use Prim.Native.Nat.{ℕ, ◌/◌}
use mathlib.Core.Path.{◌≡◌, sym, ap, ◌∙◌}
use mathlib.Core.List.{List}
use mathlib.Core.Bool.{true, false}
use native.Mathlib.Omega.{arith}
use lib.ListN.{get_or}
use Rattle.lists.specs.Tab.{tab}
use Rattle.lists.proofs.Tab.{tab-ext, get_or-tab}
use Rattle.lists.proofs.Cond.{if-true, if-false}
use Rattle.surface.specs.Dots.{clipped}
use Rattle.ula_mode.specs.Modes.{is_lores, is_hires}
use Rattle.ula_scroll.specs.Scrolls.{lores_read}
use Rattle.ula_scheme.specs.declared.schemes.Colours.{Colours}
use Rattle.ula_view.specs.declared.views.View.{View}
use Rattle.ula_cell.specs.Cells.{pixel_dot, hires_dot}
use Rattle.ula_display.specs.Display.{lores_dot, mode_dot, display_dot}
use Rattle.ula_display.specs.Rows.{lores_shade}

-- a LoRes pixel is the dot of its column
pub lores-fill : (p : View) (l : Colours) (pal bank shades : List ℕ) (x : ℕ) → shades ≡ tab (lores_shade (p.row / 2) l.transparent pal bank) 128
    → get_or shades (lores_read x p.offset / 2) 0 ≡ lores_dot p l pal bank x
unfolding lores_shade lores_dot
lores-fill p l pal bank shades x e =
    ap (λ (r : List ℕ). get_or r (lores_read x p.offset / 2) 0) e
    ∙ get_or-tab (lores_shade (p.row / 2) l.transparent pal bank) 128 (lores_read x p.offset / 2) (omega arith)

module _ (p : View) (l : Colours) (pal plus bank : List ℕ) where
  pub shows-lores : is_lores p.mode ≡ true → tab (λ (d : ℕ). lores_dot p l pal bank (d / 2)) 512 ≡ tab (mode_dot p l pal plus bank) 512
  unfolding mode_dot
  shows-lores a = tab-ext _ _ 512 (λ d g. sym (if-true _ _ _ a))

  pub shows-hires : is_lores p.mode ≡ false → is_hires p.mode ≡ true → tab (hires_dot p l pal plus bank) 512 ≡ tab (mode_dot p l pal plus bank) 512
  unfolding mode_dot
  shows-hires a b = tab-ext _ _ 512 (λ d g. sym (if-false _ _ _ a ∙ if-true _ _ _ b))

  pub shows-pixels : is_lores p.mode ≡ false → is_hires p.mode ≡ false → tab (λ (d : ℕ). pixel_dot p l pal plus bank (d / 2)) 512 ≡ tab (mode_dot p l pal plus bank) 512
  unfolding mode_dot
  shows-pixels a b = tab-ext _ _ 512 (λ d g. sym (if-false _ _ _ a ∙ if-false _ _ _ b))

  pub shows-clipped : (row : List ℕ) → p.visible ≡ true → row ≡ tab (mode_dot p l pal plus bank) 512
      → tab (λ (d : ℕ). clipped (d / 2) p.left p.right (get_or row d 0)) 512 ≡ tab (display_dot p l pal plus bank) 512
  unfolding display_dot
  shows-clipped row v e =
      tab-ext _ _ 512 (λ d g.
      ap (λ (r : List ℕ). clipped (d / 2) p.left p.right (get_or r d 0)) e
      ∙ ap (clipped (d / 2) p.left p.right) (get_or-tab (mode_dot p l pal plus bank) 512 d g)
      ∙ sym (if-true _ _ _ v))

  pub shows_nothing : p.visible ≡ false → tab (λ (d : ℕ). 512) 512 ≡ tab (display_dot p l pal plus bank) 512
  unfolding display_dot
  shows_nothing v = tab-ext _ _ 512 (λ d g. sym (if-false _ _ _ v))
