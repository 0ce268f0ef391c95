-- The laws of a list of parts: the state that is written is given back part by part, the bytes that are read are those
-- that stand there, and no place is bad exactly where every field keeps its bound. Each by induction on the list.
use mathlib.Core.Path.{◌≡◌, refl, sym, ap, ◌∙◌}
use mathlib.Core.List.{List, [], ◌∷◌, ◌++◌, append_assoc}
use mathlib.Core.Bool.{Bool, true, false, not, ◌&&◌, ◌||◌}
use Prim.Native.Nat.{ℕ, zero, suc, ◌+◌, ◌*◌, ◌-◌, ◌≤◌, ◌<◌}
use native.Mathlib.Nat.{mul-lt-mul_of_pos_left}
use native.Mathlib.Numerals.{add-one}
use native.Mathlib.Omega.{arith}
use lib.ListN.{length, drop, get_or, length-append, drop_of_length-le, take-append-drop}
use lib.Seq.{get_or_at, drop-cons, drop-drop}
use lib.Dec.{eqb}
use borrow.Author.Tests.{le-ltb, eq-eqb, eqb-true}
use Rattle.lists.specs.Bytes.{Bytes}
use Rattle.lists.specs.Search.{least, some}
use Rattle.lists.proofs.Search.{least-none, some-not, not-both}
use Rattle.state.specs.declared.State.{State}
use Rattle.record_layout.specs.Fields.{Width, byte, pair, field_size, field_at, row_bytes, row_at}
use Rattle.record_layout.specs.Parts.{Part, one, row, size, sizes, bytes_of, FromParts, state_at, bad_part, bad}
use Rattle.record_layout.proofs.Fields.{row-length, row_back, row-forth}

-- the rows of a state are as long as the parts say
abbrev pub Fits : List Part → State → Type 0
Fits [] s = Unit
Fits (one bound field ∷ ps) s = Fits ps s
Fits (row w n bound field ∷ ps) s = (length (field s) ≡ n) × Fits ps s

pub bytes-length : (ps : List Part) (s : State) → Fits ps s → length (bytes_of ps s) ≡ sizes ps
bytes-length [] s z = refl
bytes-length (one bound field ∷ ps) s z = let e = bytes-length ps s z in omega arith
bytes-length (row w n bound field ∷ ps) s z =
    simp (length-append, row-length, z.0, bytes-length ps s z.1)

-- the state of what the parts hold of a state
abbrev pub given : (ps : List Part) → FromParts ps → State → State
given [] f s = f
given (one bound field ∷ ps) f s = given ps (f (field s)) s
given (row w n bound field ∷ ps) f s = given ps (f (field s)) s

-- what is written is given back
pub state-back : (ps : List Part) (f : FromParts ps) (s : State) (pre : List ℕ) (at : ℕ) → length pre ≡ at → Fits ps s
    → state_at ps f (pre ++ bytes_of ps s) at ≡ given ps f s
state-back [] f s pre at e z = refl
state-back (one bound field ∷ ps) f s pre at e z =
    let b : List ℕ = pre ++ (field s ∷ bytes_of ps s) in
    let v : get_or b at 0 ≡ field s = get_or_at pre (field s) (bytes_of ps s) 0 at e in
    let l : length (pre ++ (field s ∷ [])) ≡ at + 1 = simp length-append (omega arith) in
    let w : b ≡ (pre ++ (field s ∷ [])) ++ bytes_of ps s = sym (append_assoc pre (field s ∷ []) (bytes_of ps s)) in
    ap (λ (x : ℕ). state_at ps (f x) b (at + 1)) v
    ∙ ap (λ (c : List ℕ). state_at ps (f (field s)) c (at + 1)) w
    ∙ state-back ps (f (field s)) s (pre ++ (field s ∷ [])) (at + 1) l z
state-back (row w n bound field ∷ ps) f s pre at e z =
    let r : List ℕ = row_bytes w (field s) in
    let b : List ℕ = pre ++ (r ++ bytes_of ps s) in
    let v : row_at w n b at ≡ field s = row_back w (field s) pre (bytes_of ps s) at n e z.0 in
    let l : length (pre ++ r) ≡ at + field_size w * n = simp (length-append, row-length, z.0, e) in
    let d : b ≡ (pre ++ r) ++ bytes_of ps s = sym (append_assoc pre r (bytes_of ps s)) in
    ap (λ (x : List ℕ). state_at ps (f x) b (at + field_size w * n)) v
    ∙ ap (λ (c : List ℕ). state_at ps (f (field s)) c (at + field_size w * n)) d
    ∙ state-back ps (f (field s)) s (pre ++ r) (at + field_size w * n) l z.1

-- the bytes that the parts are read from, written again
abbrev pub again : List Part → List ℕ → ℕ → List ℕ
again [] b at = []
again (one bound field ∷ ps) b at = get_or b at 0 ∷ again ps b (at + 1)
again (row w n bound field ∷ ps) b at = row_bytes w (row_at w n b at) ++ again ps b (at + field_size w * n)

-- they are the bytes that stand there
pub bytes_back : (ps : List Part) (b : List ℕ) (at : ℕ) → Bytes b → length b ≡ at + sizes ps → again ps b at ≡ drop at b
bytes_back [] b at z e = let l : length b ≤ at = omega arith in sym (drop_of_length-le b l)
bytes_back (one bound field ∷ ps) b at z e =
    let l : at < length b = omega arith in
    rw (drop-cons b at 0 l, ← add-one at, bytes_back ps b (at + 1) z (omega arith))
bytes_back (row w n bound field ∷ ps) b at z e =
    rw (row-forth w n b at z (omega arith), bytes_back ps b (at + field_size w * n) z (omega arith), ← drop-drop (field_size w * n) at b)
    (take-append-drop (field_size w * n) (drop at b))

-- every field of the parts keeps its bound
abbrev pub Good : List Part → List ℕ → ℕ → Type 0
Good [] b at = Unit
Good (one bound field ∷ ps) b at = (bound (get_or b (at - 1) 0) (get_or b at 0) ≡ true) × Good ps b (at + 1)
Good (row w n bound field ∷ ps) b at = ((i : ℕ) → i < n → bound (field_at w b (at + field_size w * i)) ≡ true) × Good ps b (at + field_size w * n)

-- the place of the n-th part, and the fields from there on
abbrev pub place_of : ℕ → List Part → ℕ → ℕ
place_of zero ps at = at
place_of (suc n) [] at = at
place_of (suc n) (p ∷ ps) at = place_of n ps (at + size p)

pub later : (n : ℕ) (ps : List Part) (b : List ℕ) (at : ℕ) → Good ps b at → Good (drop n ps) b (place_of n ps at)
later zero ps b at g = g
later (suc n) [] b at g = g
later (suc n) (one bound field ∷ ps) b at g = later n ps b (at + 1) g.1
later (suc n) (row w m bound field ∷ ps) b at g = later n ps b (at + field_size w * m) g.1

-- the place after the parts; the fields of parts in a row are those of the first parts and of those after them
abbrev pub place_after : List Part → ℕ → ℕ
place_after [] at = at
place_after (p ∷ ps) at = place_after ps (at + size p)

pub good-apart : (ps qs : List Part) (b : List ℕ) (at : ℕ) → Good (ps ++ qs) b at → Good ps b at × Good qs b (place_after ps at)
good-apart [] qs b at g = (tt, g)
good-apart (one bound field ∷ ps) qs b at g = let h = good-apart ps qs b (at + 1) g.1 in ((g.0, h.0), h.1)
good-apart (row w n bound field ∷ ps) qs b at g = let h = good-apart ps qs b (at + field_size w * n) g.1 in ((g.0, h.0), h.1)

pub good-join : (ps qs : List Part) (b : List ℕ) (at : ℕ) → Good ps b at → Good qs b (place_after ps at) → Good (ps ++ qs) b at
good-join [] qs b at g h = h
good-join (one bound field ∷ ps) qs b at g h = (g.0, good-join ps qs b (at + 1) g.1 h)
good-join (row w n bound field ∷ ps) qs b at g h = (g.0, good-join ps qs b (at + field_size w * n) g.1 h)

pub either : (a b : Bool) → a ≡ false → b ≡ false → (a || b) ≡ false
either a b e f = cc

pub not_left : (a b : Bool) → (a || b) ≡ false → a ≡ false
not_left true b e = e
not_left false b e = refl

pub not_right : (a b : Bool) → (a || b) ≡ false → b ≡ false
not_right true b e = absurd (not-both refl e)
not_right false b e = e

pub kept : (a c : Bool) → (a ≡ true → c ≡ true) → (a && not c) ≡ false
kept true true h = refl
kept true false h = sym (h refl)
kept false c h = refl

pub unkept : (a c : Bool) → a ≡ true → (a && not c) ≡ false → c ≡ true
unkept true true h e = refl
unkept true false h e = sym e
unkept false c h e = absurd (not-both h refl)

pub none : (p : ℕ → Bool) (n : ℕ) → ((i : ℕ) → i < n → p i ≡ false) → some p n ≡ false
none p n h = le-ltb (least p n) n (omega (arith, least-none p n h))

pub good-clear : (ps : List Part) (b : List ℕ) (at : ℕ) → Good ps b at → (k : ℕ) → bad ps b at k ≡ false
good-clear [] b at g k = refl
good-clear (one bound field ∷ ps) b at g k = either _ _ (kept (eqb k at) _ (λ e. g.0)) (good-clear ps b (at + 1) g.1 k)
good-clear (row w n bound field ∷ ps) b at g k =
    either _ _
    (none (λ i. eqb k (at + field_size w * i) && not (bound (field_at w b k))) n
    (λ i l. kept (eqb k (at + field_size w * i)) (bound (field_at w b k)) (λ e. ap (λ (j : ℕ). bound (field_at w b j)) (eqb-true _ _ e) ∙ g.0 i l)))
    (good-clear ps b (at + field_size w * n) g.1 k)

size-some : (w : Width) → 0 < field_size w
size-some byte = omega arith
size-some pair = omega arith

pub clear-good : (ps : List Part) (b : List ℕ) (at : ℕ) → at + sizes ps ≤ length b → ((k : ℕ) → k < length b → bad ps b at k ≡ false) → Good ps b at
clear-good [] b at l h = tt
clear-good (one bound field ∷ ps) b at l h = (
  unkept (eqb at at) _ (eq-eqb at at refl) (not_left _ (bad ps b (at + 1) at) (h at (omega arith))),
  clear-good ps b (at + 1) (omega arith) (λ k m. not_right (bad_part (one bound field) b at k) _ (h k m)),
)
clear-good (row w n bound field ∷ ps) b at l h = (
  (λ i m.
      let lt : at + field_size w * i < length b = omega (arith, mul-lt-mul_of_pos_left m (size-some w)) in
      unkept (eqb (at + field_size w * i) (at + field_size w * i)) _ (eq-eqb (at + field_size w * i) (at + field_size w * i) refl)
      (some-not (λ j. eqb (at + field_size w * i) (at + field_size w * j) && not (bound (field_at w b (at + field_size w * i)))) n i
      (not_left _ (bad ps b (at + field_size w * n) (at + field_size w * i)) (h (at + field_size w * i) lt)) m)),
  clear-good ps b (at + field_size w * n) (omega arith) (λ k m. not_right (bad_part (row w n bound field) b at k) _ (h k m)),
)
