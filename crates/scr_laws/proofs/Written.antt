-- A file that is written: its length, its form and its pieces; and a file taken apart into them.
use Prim.Native.Nat.{ℕ, ◌+◌, ◌-◌, ◌%◌, ◌≤◌}
use mathlib.Core.Path.{◌≡◌, refl, sym, ap, ◌∙◌}
use mathlib.Core.List.{List, [], ◌∷◌, ◌++◌, append_assoc}
use mathlib.Core.Bool.{Bool, true, false, cond}
use native.Mathlib.Nat.{zero-add}
use native.Mathlib.Omega.{arith}
use lib.ListN.{length, take, drop, get_or, length-append, drop_of_length-le, take-append-drop}
use lib.Seq.{take_at, drop_at, get_or_at, drop-cons, drop-drop}
use lib.Dec.{eqb}
use borrow.Author.Tests.{eq-eqb}
use Rattle.lists.specs.Placed.{placed}
use Rattle.lists.proofs.Search.{not-both}
use Rattle.lists.proofs.Cond.{if-true}
use Rattle.state.specs.declared.State.{State}
use Rattle.ula_mode.specs.declared.modes.Mode.{Mode}
use Rattle.ula_mode.specs.declared.modes.Mode.TheVariants.{Lores, Standard, Second, HighColour, HighResolution, Missing}
use Rattle.ula_mode.specs.Modes.{is_hires}
use Rattle.scr_forms.specs.Forms.{form_of, has_form, sizes, bytes_in}
use Rattle.scr_forms.specs.Files.{shape, port_size, colours_size, length_of, port_byte, port_agrees, shape_of, port_in}
use Rattle.scr_forms.proofs.Parts.{ascending, bytes-length}
use Rattle.scr_forms.proofs.Shapes.{told}
use Rattle.scr.specs.Writes.{mode_in, file_of}
use Rattle.scr.proofs.Write.{one-length}
use Rattle.scr_laws.proofs.Shown.{hires-port}

-- the port's byte, or none
abbrev pub port_piece : Bool → ℕ → List ℕ
port_piece q v = cond q (v ∷ []) []

-- the colours, or none
abbrev pub colours_piece : Bool → List ℕ → List ℕ
colours_piece q plus = cond q plus []

colours-size : (q : Bool) (plus : List ℕ) → length plus ≡ 64 → length (colours_piece q plus) ≡ colours_size q
colours-size true plus h = h
colours-size false plus h = refl

-- the form with a port byte is that of mode 6
with-port : (m : Mode) → (form_of m).port ≡ true → (is_hires m ≡ true) × ((form_of m).value ≡ 6)
with-port HighResolution e = (refl, refl)
with-port Standard e = absurd (not-both e refl)
with-port HighColour e = absurd (not-both e refl)
with-port Lores e = absurd (not-both e refl)
with-port Second e = absurd (not-both e refl)
with-port Missing e = absurd (not-both e refl)

-- ---- a file made of its pieces

module _ (m : Mode) (bank : List ℕ) (v : ℕ) (q : Bool) (plus : List ℕ) (hb : length bank ≡ 16384) (hp : length plus ≡ 64) where
  abbrev made : List ℕ
  made = bytes_in (form_of m).parts bank ++ (port_piece (form_of m).port v ++ colours_piece q plus)

  parts-long : length (bytes_in (form_of m).parts bank) ≡ sizes (form_of m).parts
  parts-long = bytes-length (form_of m).parts (ascending m) bank hb

  made-length : length made ≡ length_of m q
  made-length =
      simp (length-append, parts-long, one-length (form_of m).port v, colours-size q plus hp) (omega arith)

  made-colours : q ≡ true → drop (length made - 64) made ≡ plus
  made-colours e =
      let l : length made ≡ sizes (form_of m).parts + port_size m + 64 = made-length ∙ ap (λ (b : Bool). length_of m b) e in
      let f : length (bytes_in (form_of m).parts bank ++ port_piece (form_of m).port v) ≡ length made - 64
      = length-append (bytes_in (form_of m).parts bank) (port_piece (form_of m).port v) ∙ omega (arith, l, parts-long, one-length (form_of m).port v) in
      ap (drop (length made - 64)) (sym (append_assoc (bytes_in (form_of m).parts bank) (port_piece (form_of m).port v) (colours_piece q plus)))
      ∙ drop_at (bytes_in (form_of m).parts bank ++ port_piece (form_of m).port v) (colours_piece q plus) (length made - 64) f ∙ if-true _ _ _ e

  made-port : (form_of m).port ≡ true → port_byte m made ≡ v
  made-port e = rw e (get_or_at (bytes_in (form_of m).parts bank) v (colours_piece q plus) 0 (sizes (form_of m).parts) parts-long)

  made-value : port_in m made ≡ cond (form_of m).port v (form_of m).value
  made-value = go (form_of m).port refl
    where
      go : (b : Bool) → (form_of m).port ≡ b → cond b (port_byte m made) (form_of m).value ≡ cond b v (form_of m).value
      go true e = made-port e
      go false e = refl

  made-agrees : (is_hires m ≡ true → v % 8 ≡ 6) → port_agrees m made ≡ true
  made-agrees h = go (form_of m).port refl
    where
      go : (b : Bool) → (form_of m).port ≡ b → cond b (eqb (port_byte m made % 8) (form_of m).value) true ≡ true
      go false e = refl
      go true e = eq-eqb _ _ (ap (λ (x : ℕ). x % 8) (made-port e) ∙ h (with-port m e).0 ∙ sym (with-port m e).1)

-- ---- the file of a state

module _ (s : State) (bank : List ℕ) (hb : length bank ≡ 16384) (hp : length s.plus ≡ 64) (h : has_form (mode_in s) ≡ true) where
  pub file-length : length (file_of s bank) ≡ length_of (mode_in s) s.ports.plus
  unfolding file_of
  file-length = made-length (mode_in s) bank s.ports.timex s.ports.plus s.plus hb hp

  file-agrees : port_agrees (mode_in s) (file_of s bank) ≡ true
  unfolding file_of
  file-agrees = made-agrees (mode_in s) bank s.ports.timex s.ports.plus s.plus hb hp (hires-port s.ula s.ports)

  pub file-shape : shape_of (file_of s bank) ≡ shape (mode_in s) s.ports.plus
  file-shape = told (mode_in s) s.ports.plus (file_of s bank) h file-length file-agrees

  pub file-port : port_in (mode_in s) (file_of s bank) ≡ cond (form_of (mode_in s)).port s.ports.timex (form_of (mode_in s)).value
  unfolding file_of
  file-port = made-value (mode_in s) bank s.ports.timex s.ports.plus s.plus hb hp

  pub file-colours : s.ports.plus ≡ true → drop (length (file_of s bank) - 64) (file_of s bank) ≡ s.plus
  unfolding file_of
  file-colours e = made-colours (mode_in s) bank s.ports.timex s.ports.plus s.plus hb hp e

  -- it is the buffer's front
  pub file-taken : (buffer : List ℕ) → take (length_of (mode_in s) s.ports.plus) (placed buffer 0 (file_of s bank)) ≡ file_of s bank
  unfolding placed
  file-taken buffer = take_at (file_of s bank) _ _ file-length

-- ---- a file taken apart

port-piece : (q : Bool) (v n : ℕ) (file : List ℕ) → n + cond q 1 0 ≤ length file → port_piece q (cond q (get_or file n 0) v) ≡ take (cond q 1 0) (drop n file)
port-piece true v n file h = rw (drop-cons file n 0 (omega arith))
port-piece false v n file h = refl

colours-piece : (q : Bool) (n : ℕ) (file own : List ℕ) → length file ≡ n + colours_size q
    → colours_piece q (cond q (drop (length file - colours_size q) file) own) ≡ drop n file
colours-piece true n file own e = let k : length file - 64 ≡ n = omega arith in ap (λ (x : ℕ). drop x file) k
colours-piece false n file own e = let l : length file ≤ n = omega arith in sym (drop_of_length-le file l)

pub apart : (m : Mode) (q : Bool) (file own bytes : List ℕ) → length file ≡ length_of m q → bytes ≡ take (sizes (form_of m).parts) file
    → bytes ++ (port_piece (form_of m).port (port_in m file) ++ colours_piece q (cond q (drop (length file - colours_size q) file) own)) ≡ file
apart m q file own bytes e b =
    let h : sizes (form_of m).parts + port_size m ≤ length file = omega arith in
    rw (
      b,
      port-piece (form_of m).port (form_of m).value (sizes (form_of m).parts) file h,
      colours-piece q (sizes (form_of m).parts + port_size m) file own e,
      ← drop-drop (port_size m) (sizes (form_of m).parts) file,
      take-append-drop (port_size m) (drop (sizes (form_of m).parts) file),
    )
    (take-append-drop (sizes (form_of m).parts) file)

pub front-placed : (buffer ys : List ℕ) → placed buffer 0 ys ≡ ys ++ drop (length ys) buffer
unfolding placed
front-placed buffer ys = rw (zero-add (length ys))
