-- The row of a mode: it sums up to the form's sizes, tells the port's byte, and is small. By cases on the mode.
use mathlib.Core.Path.{◌≡◌, refl, sym, ap, ◌∙◌}
use mathlib.Core.List.{List}
use mathlib.Core.Bool.{Bool, false}
use Prim.Native.Nat.{ℕ, ◌+◌, ◌%◌, ◌≤◌, ◌<◌}
use native.Mathlib.Omega.{arith}
use lib.ListN.{length, get_or}
use lib.Dec.{eqb}
use borrow.Author.Tests.{eq-eqb, ne_eqb}
use Rattle.reply.specs.declared.Reply.TheVariants.{Done, NoForm}
use Rattle.ula_mode.specs.declared.modes.Mode.{Mode}
use Rattle.ula_mode.specs.declared.modes.Mode.TheVariants.{Lores, Standard, Second, HighColour, HighResolution, Missing}
use Rattle.scr_forms.specs.declared.forms.Row.{Row}
use Rattle.scr_forms.specs.Forms.{form_of, sizes, form_reply}
use Rattle.scr_forms.specs.Files.{port_size, colours_size, length_of, port_agrees, is_file_of, port_in}
use Rattle.scr_forms.specs.Rows.{row_of}

bounds : (m : Mode) → ((row_of m).first ≤ 6912) × ((row_of m).second ≤ 6144) × ((row_of m).port ≤ 1)
bounds Lores = (omega arith, omega arith, omega arith)
bounds Standard = (omega arith, omega arith, omega arith)
bounds Second = (omega arith, omega arith, omega arith)
bounds HighColour = (omega arith, omega arith, omega arith)
bounds HighResolution = (omega arith, omega arith, omega arith)
bounds Missing = (omega arith, omega arith, omega arith)

-- the row of a mode, by the arm n that was taken
pub row_told : (m n : Mode) (r : Row) → m ≡ n → r ≡ row_of n → (r ≡ row_of m) × (r.first ≤ 6912) × (r.second ≤ 6144) × (r.port ≤ 1)
row_told m n r e h = let b = bounds m in rw (h, ← e) (refl, b.0, b.1, b.2)

both-sizes : (m : Mode) → (row_of m).first + (row_of m).second ≡ sizes (form_of m).parts
both-sizes Lores = refl
both-sizes Standard = refl
both-sizes Second = refl
both-sizes HighColour = refl
both-sizes HighResolution = refl
both-sizes Missing = refl

module _ (m : Mode) (r : Row) (e : r ≡ row_of m) where
  pub parts-size : r.first + r.second ≡ sizes (form_of m).parts
  parts-size = ap (λ (x : Row). x.first + x.second) e ∙ both-sizes m

  pub port-size : r.port ≡ port_size m
  port-size = ap (λ (x : Row). x.port) e

  pub row-length : (q : Bool) (k : ℕ) → k ≡ colours_size q → r.first + r.second + r.port + k ≡ length_of m q
  row-length q k f = let s = parts-size in let p = port-size in omega arith

  -- the port's byte lies in the file
  pub port-there : (n : ℕ) → r.port ≡ 1 → length_of m false ≤ n → r.first + r.second < n
  port-there n h l = let s = parts-size in let p = port-size in omega arith

  pub port-read : (file : List ℕ) → r.port ≡ 1 → get_or file (r.first + r.second) 0 ≡ port_in m file
  port-read file h = rw parts-size (go m (sym port-size ∙ h))
    where
      go : (m : Mode) → port_size m ≡ 1 → get_or file (sizes (form_of m).parts) 0 ≡ port_in m file
      go HighResolution h = refl
      go Lores h = absurd (omega arith)
      go Standard h = absurd (omega arith)
      go Second h = absurd (omega arith)
      go HighColour h = absurd (omega arith)
      go Missing h = absurd (omega arith)

  pub port-own : (file : List ℕ) → (r.port ≡ 1 → ⊥) → r.value ≡ port_in m file
  port-own file h = ap (λ (x : Row). x.value) e ∙ go m (λ k. h (port-size ∙ k))
    where
      go : (m : Mode) → (port_size m ≡ 1 → ⊥) → (form_of m).value ≡ port_in m file
      go HighResolution h = absurd (h refl)
      go Lores h = refl
      go Standard h = refl
      go Second h = refl
      go HighColour h = refl
      go Missing h = refl

  -- a row that has bytes is that of a form
  pub no-form : r.first ≡ 0 → NoForm ≡ form_reply m
  no-form h = go m (sym (ap (λ (x : Row). x.first) e) ∙ h)
    where
      go : (m : Mode) → (row_of m).first ≡ 0 → NoForm ≡ form_reply m
      go Lores h = refl
      go Standard h = absurd (omega arith)
      go Second h = refl
      go HighColour h = absurd (omega arith)
      go HighResolution h = absurd (omega arith)
      go Missing h = refl

  pub a-form : (r.first ≡ 0 → ⊥) → Done ≡ form_reply m
  a-form h = go m (λ k. h (ap (λ (x : Row). x.first) e ∙ k))
    where
      go : (m : Mode) → ((row_of m).first ≡ 0 → ⊥) → Done ≡ form_reply m
      go Lores h = absurd (h refl)
      go Standard h = refl
      go Second h = absurd (h refl)
      go HighColour h = refl
      go HighResolution h = refl
      go Missing h = absurd (h refl)

  -- the two exits of the test whether a file has a form
  pub file-by-port : (q : Bool) (file : List ℕ) (k p : ℕ) → k ≡ colours_size q → length file ≡ r.first + r.second + r.port + k → p ≡ port_in m file
      → eqb (p % 8) r.value ≡ is_file_of m q file
  file-by-port q file k p f l g =
      rw (g, e, eq-eqb (length file) (length_of m q) (l ∙ row-length q k f)) (go m)
    where
      go : (m : Mode) → eqb (port_in m file % 8) (form_of m).value ≡ port_agrees m file
      go HighResolution = refl
      go Lores = refl
      go Standard = refl
      go Second = refl
      go HighColour = refl
      go Missing = refl

  pub file-not : (q : Bool) (file : List ℕ) (k : ℕ) → k ≡ colours_size q → (length file ≡ r.first + r.second + r.port + k → ⊥) → false ≡ is_file_of m q file
  file-not q file k f l = rw (ne_eqb (length file) (length_of m q) (λ h. l (h ∙ sym (row-length q k f))))
