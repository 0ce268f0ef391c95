-- A file's form: what is known of a file that has one, that its length and port byte tell it, and where its colours are.
use mathlib.Core.Path.{◌≡◌, refl, sym, ap, ◌∙◌}
use mathlib.Core.List.{List, [], ◌∷◌}
use mathlib.Core.Bool.{Bool, true, false, cond}
use Prim.Native.Nat.{ℕ, ◌-◌, ◌≤◌}
use native.Mathlib.Omega.{arith}
use lib.ListN.{length, drop, length-drop}
use lib.Dec.{eqb}
use borrow.Author.Tests.{eqb-true}
use Rattle.lists.proofs.Search.{not-both}
use Rattle.lists.proofs.Cond.{left-true, right-true}
use Rattle.ula_mode.specs.declared.modes.Mode.{Mode}
use Rattle.ula_mode.specs.declared.modes.Mode.TheVariants.{Lores, Standard, Second, HighColour, HighResolution, Missing}
use Rattle.scr_forms.specs.declared.files.Shape.{Shape}
use Rattle.scr_forms.specs.Forms.{has_form, formed}
use Rattle.scr_forms.specs.Files.{shape, length_of, port_agrees, is_file_of, shape_among, shape_of, colours_size, colours_at, colours_in}

-- what holds of no form, and of each that the file has, holds of the file's
among : (P : Shape → Type 0) (ms : List Mode) (file : List ℕ) → P (shape Missing false)
    → ((m : Mode) (c : Bool) → is_file_of m c file ≡ true → P (shape m c)) → P (shape_among ms file)
among P [] file z h = z
among P (m ∷ ms) file z h = go (is_file_of m false file) refl (is_file_of m true file) refl (among P ms file z h)
  where
    go : (a : Bool) → is_file_of m false file ≡ a → (b : Bool) → is_file_of m true file ≡ b → P (shape_among ms file)
        → P (cond a (shape m false) (cond b (shape m true) (shape_among ms file)))
    go true e b f more = h m false e
    go false e true f more = h m true f
    go false e false f more = more

-- a file of a form
pub record Formed (file : List ℕ) (f : Shape) : Type 0 where
  pub size : length file ≡ length_of f.mode f.colours
  pub port : port_agrees f.mode file ≡ true

file-formed : (file : List ℕ) (m : Mode) (c : Bool) → is_file_of m c file ≡ true → Formed file (shape m c)
file-formed file m c e = record {
  size = eqb-true (length file) (length_of m c) (left-true (eqb (length file) (length_of m c)) (port_agrees m file) e);
  port = right-true (eqb (length file) (length_of m c)) (port_agrees m file) e;
}

pub known : (file : List ℕ) → has_form (shape_of file).mode ≡ true → Formed file (shape_of file)
unfolding shape_of
known file =
    among (λ f. has_form f.mode ≡ true → Formed file f) formed file (λ e. absurd (not-both e refl)) (λ m c e h. file-formed file m c e)

-- a file with colours is at least as long as they are
pub long : (file : List ℕ) → (shape_of file).colours ≡ true → 64 ≤ length file
unfolding shape_of
long file =
    among (λ f. f.colours ≡ true → 64 ≤ length file) formed file (λ e. absurd (not-both e refl)) (λ m c e h. at_least m c h (file-formed file m c e).size)
  where
    at_least : (m : Mode) (c : Bool) → c ≡ true → length file ≡ length_of m c → 64 ≤ length file
    at_least m true h e = omega (arith, e)
    at_least m false h e = absurd (not-both h refl)

-- no file is longer than mode 6 with colours
without-colours : (m : Mode) → length_of m false ≤ 12289
without-colours Standard = omega arith
without-colours HighColour = omega arith
without-colours HighResolution = omega arith
without-colours Lores = omega arith
without-colours Second = omega arith
without-colours Missing = omega arith

pub length_most : (m : Mode) (c : Bool) → length_of m c ≤ 12353
length_most m true = omega (arith, without-colours m)
length_most m false = omega (arith, without-colours m)

pub short : (file : List ℕ) → (shape_of file).colours ≡ true → length file ≤ 12353
unfolding shape_of
short file =
    among (λ f. f.colours ≡ true → length file ≤ 12353) formed file (λ e. absurd (not-both e refl))
    (λ m c e h. omega (arith, (file-formed file m c e).size, length_most m c))

-- a form's file without its colours
pub enough : (file : List ℕ) (f : Shape) → f ≡ shape_of file → has_form f.mode ≡ true → length_of f.mode false ≤ length file
enough file f e h = rw e (omega (arith, (known file (ap (λ (x : Shape). has_form x.mode) (sym e) ∙ h)).size))

-- a file as long as a form's, with its port byte, has that form
pub told : (m : Mode) (c : Bool) (file : List ℕ) → has_form m ≡ true → length file ≡ length_of m c → port_agrees m file ≡ true → shape_of file ≡ shape m c
unfolding shape_of
told Standard false file h e p = rw e
told Standard true file h e p = rw e
told HighColour false file h e p = rw e
told HighColour true file h e p = rw e
told HighResolution false file h e p = rw (e, p)
told HighResolution true file h e p = rw (e, p)
told Lores c file h e p = absurd (not-both h refl)
told Second c file h e p = absurd (not-both h refl)
told Missing c file h e p = absurd (not-both h refl)

-- ---- the colours

pub colours-there : (file : List ℕ) → (shape_of file).colours ≡ true → colours_at file ≡ length file - 64
colours-there file h = ap (λ (b : Bool). length file - colours_size b) h

pub colours-length : (file : List ℕ) → length (colours_in file) ≡ colours_size (shape_of file).colours
unfolding colours_in
colours-length file = go (shape_of file).colours refl
  where
    go : (b : Bool) → (shape_of file).colours ≡ b → length (drop (colours_at file) file) ≡ colours_size (shape_of file).colours
    go true e = let c : colours_size (shape_of file).colours ≡ 64 = ap colours_size e in simp length-drop (omega (arith, long file e))
    go false e = let c : colours_size (shape_of file).colours ≡ 0 = ap colours_size e in simp length-drop (omega arith)
