-- Reading: the part of the file that is lent back, the registers filled from it, and the exits. `found` is the file's form as the code
-- has it, r the reply and n whether it is done.
use Prim.Native.Nat.{ℕ, ◌-◌, ◌≤◌}
use mathlib.Core.Path.{◌≡◌, refl, sym, ap, ◌∙◌}
use mathlib.Core.List.{List, [], ◌∷◌}
use mathlib.Core.Bool.{Bool, true, false, cond, ◌&&◌}
use native.Mathlib.Omega.{arith}
use lib.ListN.{length, take, drop, length-drop, drop_of_length-le}
use lib.Seq.{take_all}
use Rattle.lists.specs.Placed.{placed}
use Rattle.lists.proofs.Cond.{if-true, if-false}
use Rattle.lists.proofs.Placed.{placed-none, placed-whole}
use Rattle.reply.specs.declared.Reply.{Reply}
use Rattle.reply.specs.Reply.{is_done}
use Rattle.reply.proofs.Done.{is-done}
use Rattle.state.specs.declared.State.{State}
use Rattle.state.specs.Answer.{done, refused}
use Rattle.scr_forms.specs.declared.files.Shape.{Shape}
use Rattle.scr_forms.specs.Forms.{form_of, has_form, sizes, filled}
use Rattle.scr_forms.specs.Files.{colours_size, shape_of, port_in, colours_at, colours_in}
use Rattle.scr_forms.proofs.Shapes.{known, long, enough, colours-length}
use Rattle.scr_state.specs.Screen.{with_screen}
use Rattle.scr_replies.specs.Judged.{read_judged}
use Rattle.scr.specs.Reads.{read_reply, state_read, read_answer, bank_after, colours_after, colours_place}
use Rattle.scr_replies.proofs.Judged.{Readable, readable}

-- ---- a part at the file's end

pub part-told : (file : List ℕ) (q : Bool) (k : ℕ) → k ≡ colours_size q
    → take (length file - (length file - k)) (drop (length file - k) file) ≡ drop (length file - colours_size q) file
part-told file q k e =
    let l : length (drop (length file - k) file) ≤ length file - (length file - k) = simp length-drop (omega arith) in
    take_all (length file - (length file - k)) (drop (length file - k) file) l ∙ ap (λ (x : ℕ). drop (length file - x) file) e

size-most : (q : Bool) → colours_size q ≤ 64
size-most true = omega arith
size-most false = omega arith

pub part-short : (file part : List ℕ) (q : Bool) → part ≡ drop (length file - colours_size q) file → length part ≤ 64
part-short file part q e = rw e (simp length-drop (omega (arith, size-most q)))

-- ---- the state

nothing : (l : List ℕ) → length l ≡ 0 → l ≡ []
nothing [] e = refl
nothing (x ∷ xs) e = let w : length (x ∷ xs) ≡ 0 = e in absurd (omega arith)

registers-read : (file old : List ℕ) → length old ≡ 64 → placed old 0 (colours_in file) ≡ cond (shape_of file).colours (colours_in file) old
registers-read file old h = go (shape_of file).colours refl
  where
    go : (b : Bool) → (shape_of file).colours ≡ b → placed old 0 (colours_in file) ≡ cond b (colours_in file) old
    go true e =
        let l : length (colours_in file) ≡ 64 = colours-length file ∙ ap colours_size e in
        placed-whole old (colours_in file) (omega arith)
    go false e = ap (placed old 0) (nothing (colours_in file) (colours-length file ∙ ap colours_size e)) ∙ sym (placed-none old 0)

module _ (s : State) (file : List ℕ) (found : Shape) (e : found ≡ shape_of file) where
  pub colours-fit : has_form found.mode ≡ true → colours_size found.colours ≤ length file
  colours-fit h =
      rw e (omega (arith, (known file (ap (λ (x : Shape). has_form x.mode) (sym e) ∙ h)).size))

  pub read-state : (port : ℕ) (part : List ℕ) (t : State) → length s.plus ≡ 64 → port ≡ port_in found.mode file
      → part ≡ drop (length file - colours_size found.colours) file → t ≡ with_screen s port found.colours (placed s.plus 0 part) → t ≡ state_read s file
  unfolding state_read colours_in
  read-state port part t l p q h =
      let r : placed s.plus 0 part ≡ cond (shape_of file).colours (colours_in file) s.plus
      = ap (placed s.plus 0) (q ∙ ap (λ (x : Shape). drop (length file - colours_size x.colours) file) e) ∙ registers-read file s.plus l in
      h ∙ ap (with_screen s port found.colours) r
      ∙ ap (λ (x : ℕ). with_screen s x found.colours (cond (shape_of file).colours (colours_in file) s.plus)) p
      ∙ ap (λ (x : Shape). with_screen s (port_in x.mode file) x.colours (cond (shape_of file).colours (colours_in file) s.plus)) e

-- ---- the exits, whatever reply the state has

module _ (state : Reply) (bank file : List ℕ) (found : Shape) (r : Reply) (n : Bool) (ef : found ≡ shape_of file)
    (er : r ≡ read_judged state (length bank) found.mode) (en : n ≡ is_done r) where
  abbrev judged : Reply
  judged = read_judged state (length bank) (shape_of file).mode

  pub told : r ≡ judged
  told = er ∙ ap (λ (x : Shape). read_judged state (length bank) x.mode) ef

  pub accepted : n ≡ true → Readable state (length bank) found.mode
  accepted z = readable state (length bank) found.mode (sym er ∙ is-done r (sym en ∙ z))

  pub parts-there : n ≡ true → sizes (form_of found.mode).parts ≤ length file
  parts-there z = omega (arith, enough file found ef (accepted z).formed)

  pub told-done : n ≡ true → is_done judged ≡ true
  told-done z = sym (ap is_done told) ∙ sym en ∙ z

  pub told-not : (n ≡ false) → is_done judged ≡ false
  told-not z = sym (ap is_done told) ∙ sym en ∙ z

  pub bank-read : n ≡ true → (b : List ℕ) → b ≡ filled (form_of found.mode).parts bank file → b ≡ bank_after judged bank file
  bank-read z b e = e ∙ ap (λ (x : Shape). filled (form_of x.mode).parts bank file) ef ∙ sym (if-true _ _ _ (told-done z))

  pub bank-left : (n ≡ false) → bank ≡ bank_after judged bank file
  bank-left z = sym (if-false _ _ _ (told-not z))

-- the answer with its state
pub answer-done : (s t : State) (bank file : List ℕ) → is_done (read_reply s bank file) ≡ true → t ≡ state_read s file → done t ≡ read_answer s bank file
answer-done s t bank file d e = ap done e ∙ sym (if-true _ _ _ d)

pub answer-refused : (s : State) (bank file : List ℕ) (r : Reply) → r ≡ read_reply s bank file → is_done (read_reply s bank file) ≡ false
    → refused r s ≡ read_answer s bank file
answer-refused s bank file r e d = ap (λ (x : Reply). refused x s) e ∙ sym (if-false _ _ _ d)

-- ---- the colours

module _ (file : List ℕ) (q d : Bool) (eq : q ≡ (shape_of file).colours) where
  pub lent_fits : colours_size (d && q) ≤ length file
  lent_fits = go d q eq
    where
      go : (d q : Bool) → q ≡ (shape_of file).colours → colours_size (d && q) ≤ length file
      go true true e = long file (sym e)
      go true false e = omega arith
      go false q e = omega arith

  pub lent-place : (r : Reply) → d ≡ is_done r → length file - colours_size (d && q) ≡ colours_place r file
  lent-place r e = rw (← e, eq) (go d)
    where
      go : (d : Bool) → length file - colours_size (d && (shape_of file).colours) ≡ cond d (colours_at file) (length file)
      go true = refl
      go false = omega arith

  pub lent-part : (r : Reply) → d ≡ is_done r → drop (length file - colours_size (d && q)) file ≡ colours_after r file
  unfolding colours_in
  lent-part r e = rw (← e, eq) (go d)
    where
      go : (d : Bool) → drop (length file - colours_size (d && (shape_of file).colours)) file ≡ cond d (drop (colours_at file) file) []
      go true = refl
      go false = let l : length file ≤ length file - 0 = omega arith in drop_of_length-le file l
