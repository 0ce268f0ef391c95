-- Writing: the pieces placed one after the other are the file, and the exits. n is whether the reply is done.
use Prim.Native.Nat.{ℕ, ◌+◌, ◌-◌, ◌≤◌}
use mathlib.Core.Path.{◌≡◌, refl, sym, ap, ◌∙◌}
use mathlib.Core.List.{List, [], ◌∷◌, ◌++◌}
use mathlib.Core.Bool.{Bool, true, false, cond}
use native.Mathlib.Omega.{arith}
use lib.ListN.{length, take, drop}
use lib.Seq.{take_all}
use Rattle.lists.specs.Placed.{placed}
use Rattle.lists.proofs.Cond.{if-true, if-false}
use Rattle.lists.proofs.Placed.{placed-after}
use Rattle.reply.specs.declared.Reply.{Reply}
use Rattle.reply.specs.Reply.{is_done}
use Rattle.reply.proofs.Done.{is-done}
use Rattle.state.specs.declared.State.{State}
use Rattle.ula_mode.specs.declared.modes.Mode.{Mode}
use Rattle.scr_forms.specs.Forms.{form_of, sizes, bytes_in}
use Rattle.scr_forms.specs.Files.{port_size, colours_size, length_of}
use Rattle.scr_forms.proofs.Parts.{ascending, bytes-length}
use Rattle.scr_forms.proofs.Shapes.{length_most}
use Rattle.scr.specs.declared.writing.Written.{Written}
use Rattle.scr_replies.specs.Judged.{file_length, write_judged}
use Rattle.scr.specs.Writes.{mode_in, file_of, written_answer, file_after}
use Rattle.scr_replies.proofs.Judged.{writable}

-- ---- the port's byte and the colours

one_byte : (q : Bool) (v : ℕ) → take (cond q 1 0 - 0) (drop 0 (v ∷ [])) ≡ cond q (v ∷ []) []
one_byte true v = refl
one_byte false v = refl

pub one-length : (q : Bool) (v : ℕ) → length (cond q (v ∷ []) []) ≡ cond q 1 0
one-length true v = refl
one-length false v = refl

all-colours : (q : Bool) (plus : List ℕ) → length plus ≡ 64 → take (colours_size q - 0) (drop 0 plus) ≡ cond q plus []
all-colours true plus h = take_all 64 plus (omega arith)
all-colours false plus h = refl

pub rest_put : (m : Mode) (t plus : List ℕ) (at p k v : ℕ) (q : Bool) → p ≡ port_size m → k ≡ colours_size q → length plus ≡ 64 → at + port_size m + colours_size q ≤ length t
    → placed (placed t at (take (p - 0) (drop 0 (v ∷ [])))) (at + p) (take (k - 0) (drop 0 plus))
    ≡ placed t at (cond (form_of m).port (v ∷ []) [] ++ cond q plus [])
rest_put m t plus at p k v q e g hp ht =
    let l : at + port_size m ≡ at + length (cond (form_of m).port (v ∷ []) []) = ap (λ (x : ℕ). at + x) (sym (one-length (form_of m).port v)) in
    let o : at + port_size m ≤ length t = omega arith in
    rw (e, g, one_byte (form_of m).port v, all-colours q plus hp)
    (placed-after t (cond (form_of m).port (v ∷ []) []) (cond q plus []) at (at + port_size m) l o)

-- ---- the whole file

module _ (s : State) (bank t : List ℕ) (m : Mode) (at : ℕ) (e : m ≡ mode_in s) (a : at ≡ sizes (form_of m).parts) where
  pub file-put : (x y : List ℕ) → length bank ≡ 16384 → length t ≡ file_length → x ≡ placed t 0 (bytes_in (form_of m).parts bank)
      → y ≡ placed x at (cond (form_of m).port (s.ports.timex ∷ []) [] ++ cond s.ports.plus s.plus []) → y ≡ placed t 0 (file_of s bank)
  unfolding file_of
  file-put x y hb ht f g =
      let l : at ≡ 0 + length (bytes_in (form_of m).parts bank) = omega (arith, bytes-length (form_of m).parts (ascending m) bank hb) in
      let o : at ≤ length t = omega (arith, length_most m false) in
      g ∙ ap (λ (z : List ℕ). placed z at (cond (form_of m).port (s.ports.timex ∷ []) [] ++ cond s.ports.plus s.plus [])) f
      ∙ placed-after t (bytes_in (form_of m).parts bank) (cond (form_of m).port (s.ports.timex ∷ []) [] ++ cond s.ports.plus s.plus []) 0 at l o
      ∙ ap (λ (n : Mode). placed t 0 (bytes_in (form_of n).parts bank ++ (cond (form_of n).port (s.ports.timex ∷ []) [] ++ cond s.ports.plus s.plus []))) e

  pub length-told : (n : ℕ) → n ≡ at + port_size m + colours_size s.ports.plus → n ≡ length_of (mode_in s) s.ports.plus
  length-told n h =
      h ∙ ap (λ (k : ℕ). k + port_size m + colours_size s.ports.plus) a ∙ ap (λ (k : Mode). length_of k s.ports.plus) e

-- ---- the exits, whatever the reply r; n is whether it is done

module _ (r : Reply) (s : State) (bank file : List ℕ) (n : Bool) (en : n ≡ is_done r) where
  answered : (k : ℕ) → k ≡ cond (is_done r) (length_of (mode_in s) s.ports.plus) 0 → ◌≡◌ {A = Written} (record { reply = r; length = k }) (written_answer r s)
  answered k e = rw e

  pub written : n ≡ true → (k : ℕ) (t : List ℕ) → k ≡ length_of (mode_in s) s.ports.plus → t ≡ placed file 0 (file_of s bank)
      → (◌≡◌ {A = Written} (record { reply = r; length = k }) (written_answer r s)) × (t ≡ file_after r s bank file)
  written z k t e f =
      let d = sym en ∙ z in
      (answered k (e ∙ sym (if-true _ _ _ d)), f ∙ sym (if-true _ _ _ d))

  pub unwritten : n ≡ false → (◌≡◌ {A = Written} (record { reply = r; length = 0 }) (written_answer r s)) × (file ≡ file_after r s bank file)
  unwritten z =
      let d = sym en ∙ z in
      (answered 0 (sym (if-false _ _ _ d)), sym (if-false _ _ _ d))

-- the lengths that a reply was judged by, whatever reply the state has
pub judged-lengths : (state : Reply) (bank file : ℕ) (m : Mode) (r : Reply) → r ≡ write_judged state bank file m → is_done r ≡ true → (bank ≡ 16384) × (file ≡ file_length)
judged-lengths state bank file m r e d = let w = writable state bank file m (sym e ∙ is-done r d) in (w.sized, w.long)
