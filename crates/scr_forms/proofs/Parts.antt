-- Parts of a bank: what is taken out of them and filled in arrives, nothing else changes, and what is filled in can be taken out
-- again. By induction over the parts, which stand in ascending order.
use mathlib.Core.Path.{◌≡◌, refl, sym, ap, ◌∙◌}
use mathlib.Core.List.{List, [], ◌∷◌, ◌++◌, append_assoc}
use mathlib.Core.Bool.{Bool, true, false, cond, ◌&&◌, ◌||◌}
use Prim.Native.Nat.{ℕ, ◌+◌, ◌-◌, ◌≤◌, ◌<◌}
use native.Mathlib.Omega.{arith}
use lib.ListN.{length, take, drop, get_or, length-append, length-drop}
use lib.Seq.{length-take-le, take_at, drop_at, take-take, take-add, get_or-take, get_or-drop}
use lib.Dec.{leb, ltb}
use borrow.Author.Tests.{leb-true, leb-false, ltb-true, ltb-false}
use Rattle.lists.specs.Placed.{placed}
use Rattle.lists.proofs.Cuts.{cut-length, take-drop}
use Rattle.lists.proofs.Placed.{length-placed, placed-before, placed-here, get_or-before, get_or-here, get_d_beyond}
use Rattle.ula_mode.specs.declared.modes.Mode.{Mode}
use Rattle.ula_mode.specs.declared.modes.Mode.TheVariants.{Lores, Standard, Second, HighColour, HighResolution, Missing}
use Rattle.scr_forms.specs.Forms.{BankPart, part, form_of, sizes, bytes_in, filled, in_parts}

-- the parts start at lo or later, each where the one before it ends or later, and end with the bank or before
pub data Ascending : ℕ → List BankPart → Type 0 where
  none : {lo : ℕ} → lo ≤ 16384 → Ascending lo []
  next : {lo : ℕ} {p : BankPart} {ps : List BankPart} → lo ≤ p.at → Ascending (p.at + p.size) ps → Ascending lo (p ∷ ps)

one-part : (n : ℕ) → n ≤ 16384 → Ascending 0 (part 0 n ∷ [])
one-part n h = next {lo = 0} {p = part 0 n} (omega arith) (none {lo = 0 + n} (omega arith))

two-parts : (n at k : ℕ) → n ≤ at → at + k ≤ 16384 → Ascending 0 (part 0 n ∷ part at k ∷ [])
two-parts n at k h g = next {lo = 0} {p = part 0 n} (omega arith) (next {lo = 0 + n} {p = part at k} (omega arith) (none {lo = at + k} g))

pub ascending : (m : Mode) → Ascending 0 (form_of m).parts
ascending Standard = one-part 6912 (omega arith)
ascending HighColour = two-parts 6144 0x2000 6144 (omega arith) (omega arith)
ascending HighResolution = two-parts 6144 0x2000 6144 (omega arith) (omega arith)
ascending Lores = none {lo = 0} (omega arith)
ascending Second = none {lo = 0} (omega arith)
ascending Missing = none {lo = 0} (omega arith)

inside : {lo : ℕ} {ps : List BankPart} → Ascending lo ps → lo ≤ 16384
inside (none h) = h
inside {lo} (next {p = p} h a) = omega (arith, inside a)

pub bytes-length : {lo : ℕ} (ps : List BankPart) → Ascending lo ps → (bank : List ℕ) → length bank ≡ 16384 → length (bytes_in ps bank) ≡ sizes ps
unfolding bytes_in
bytes-length [] a bank h = refl
bytes-length {lo = lo} (p ∷ ps) (next l a) bank h =
    rw (length-append, cut-length bank p.at p.size (omega (arith, inside a)), bytes-length {lo = p.at + p.size} ps a bank h)

-- ---- from one bank to another

-- one part of another bank c, placed where it was
placed-bytes : (b c : List ℕ) (at n i : ℕ) → at + n ≤ length b → at + n ≤ length c
    → get_or (placed b at (take n (drop at c))) i 0 ≡ cond (leb at i && ltb i (at + n)) (get_or c i 0) (get_or b i 0)
placed-bytes b c at n i h k = go (leb at i) refl (ltb i (at + n)) refl
  where
    e : length (take n (drop at c)) ≡ n
    e = cut-length c at n k

    room-b : at + length (take n (drop at c)) ≤ length b
    room-b = omega (arith, e)

    go : (p : Bool) → leb at i ≡ p → (q : Bool) → ltb i (at + n) ≡ q
        → get_or (placed b at (take n (drop at c))) i 0 ≡ cond (p && q) (get_or c i 0) (get_or b i 0)
    go true f true g =
        let s : at + (i - at) ≡ i = omega (arith, leb-true at i f) in
        let l : i - at < n = omega (arith, leb-true at i f, ltb-true i (at + n) g) in
        ap (λ (k : ℕ). get_or (placed b at (take n (drop at c))) k 0) (sym s)
        ∙ get_or-here b (take n (drop at c)) at room-b (i - at) (omega (arith, e))
        ∙ get_or-take n (drop at c) (i - at) 0 l ∙ get_or-drop at c (i - at) 0 ∙ ap (λ (k : ℕ). get_or c k 0) s
    go true f false g = get_d_beyond b (take n (drop at c)) at room-b i (omega (arith, e, ltb-false i (at + n) g))
    go false f q g = get_or-before b (take n (drop at c)) at room-b i (leb-false at i f)

either-part : {A : Type 0} (p q : Bool) (x y : A) → cond q x (cond p x y) ≡ cond (p || q) x y
either-part true true x y = refl
either-part true false x y = refl
either-part false q x y = refl

-- what one bank has in the parts arrives in another, and nothing else of it changes
pub arrives : {lo : ℕ} (ps : List BankPart) → Ascending lo ps → (b c rest : List ℕ) → length b ≡ 16384 → length c ≡ 16384
    → (i : ℕ) → get_or (filled ps b (bytes_in ps c ++ rest)) i 0 ≡ cond (in_parts ps i) (get_or c i 0) (get_or b i 0)
unfolding filled bytes_in in_parts
arrives [] a b c rest hb hc i = refl
arrives {lo = lo} (p ∷ ps) (next l a) b c rest hb hc i =
    let k : p.at + p.size ≤ length b = omega (arith, inside a) in
    let j : p.at + p.size ≤ length c = omega (arith, inside a) in
    let e : length (take p.size (drop p.at c)) ≡ p.size = cut-length c p.at p.size j in
    let f : p.at + length (take p.size (drop p.at c)) ≤ length b = omega (arith, e) in
    rw (
      append_assoc (take p.size (drop p.at c)) (bytes_in ps c) rest,
      take_at (take p.size (drop p.at c)) (bytes_in ps c ++ rest) p.size e,
      drop_at (take p.size (drop p.at c)) (bytes_in ps c ++ rest) p.size e,
    )
    (arrives {lo = p.at + p.size} ps a (placed b p.at (take p.size (drop p.at c))) c rest (length-placed b _ p.at f ∙ hb) hc i
    ∙ ap (λ (z : ℕ). cond (in_parts ps i) (get_or c i 0) z) (placed-bytes b c p.at p.size i k j)
    ∙ either-part (leb p.at i && ltb i (p.at + p.size)) (in_parts ps i) (get_or c i 0) (get_or b i 0))

-- ---- filled from bytes, and taken out again

-- one part filled from the front of bytes
module _ (p : BankPart) (b f : List ℕ) (hb : length b ≡ 16384) (hp : p.at + p.size ≤ 16384) (hf : p.size ≤ length f) where
  abbrev after : List ℕ
  after = placed b p.at (take p.size f)

  taken : length (take p.size f) ≡ p.size
  taken = length-take-le p.size f hf

  room : p.at + length (take p.size f) ≤ length b
  room = omega (arith, taken)

  after-length : length after ≡ 16384
  after-length = length-placed b (take p.size f) p.at room ∙ hb

  after-below : (lo : ℕ) → lo ≤ p.at → take lo after ≡ take lo b
  after-below lo l = placed-before b (take p.size f) p.at room lo l

  after-here : take p.size (drop p.at after) ≡ take p.size f
  after-here = ap (λ (n : ℕ). take n (drop p.at after)) (sym taken) ∙ placed-here b (take p.size f) p.at room

pub filled-length : {lo : ℕ} (ps : List BankPart) → Ascending lo ps → (b f : List ℕ) → length b ≡ 16384 → sizes ps ≤ length f → length (filled ps b f) ≡ 16384
unfolding filled
filled-length [] a b f hb hf = hb
filled-length {lo = lo} (p ∷ ps) (next l a) b f hb hf =
    filled-length {lo = p.at + p.size} ps a _ (drop p.size f) (after-length p b f hb (inside a) (omega arith)) (simp length-drop (omega arith))

filled-below : {lo : ℕ} (ps : List BankPart) → Ascending lo ps → (b f : List ℕ) → length b ≡ 16384 → sizes ps ≤ length f → take lo (filled ps b f) ≡ take lo b
unfolding filled
filled-below [] a b f hb hf = refl
filled-below {lo = lo} (p ∷ ps) (next l a) b f hb hf =
    let m : lo ≤ p.at + p.size = omega arith in
    let k : p.size ≤ length f = omega arith in
    let ih = filled-below {lo = p.at + p.size} ps a (placed b p.at (take p.size f)) (drop p.size f) (after-length p b f hb (inside a) k) (simp length-drop (omega arith)) in
    sym (take-take lo (p.at + p.size) (filled ps (placed b p.at (take p.size f)) (drop p.size f)) m)
    ∙ ap (λ (x : List ℕ). take lo x) ih
    ∙ take-take lo (p.at + p.size) (placed b p.at (take p.size f)) m
    ∙ after-below p b f hb (inside a) k lo l

pub taken_out : {lo : ℕ} (ps : List BankPart) → Ascending lo ps → (b f : List ℕ) → length b ≡ 16384 → sizes ps ≤ length f
    → bytes_in ps (filled ps b f) ≡ take (sizes ps) f
unfolding filled bytes_in
taken_out [] a b f hb hf = refl
taken_out {lo = lo} (p ∷ ps) (next l a) b f hb hf =
    let k : p.size ≤ length f = omega arith in
    let j : sizes ps ≤ length (drop p.size f) = simp length-drop (omega arith) in
    let hb1 = after-length p b f hb (inside a) k in
    let w = filled-below {lo = p.at + p.size} ps a (placed b p.at (take p.size f)) (drop p.size f) hb1 j in
    let here : take p.size (drop p.at (filled ps (placed b p.at (take p.size f)) (drop p.size f))) ≡ take p.size f
    = take-drop p.at p.size _ ∙ ap (drop p.at) w ∙ sym (take-drop p.at p.size _) ∙ after-here p b f hb (inside a) k in
    rw (here, taken_out {lo = p.at + p.size} ps a (placed b p.at (take p.size f)) (drop p.size f) hb1 j) (sym (take-add p.size (sizes ps) f))
