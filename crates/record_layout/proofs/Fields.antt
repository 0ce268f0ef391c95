-- The laws of fields in a row: numbers that are written read back, and bytes that are read write back. By induction on
-- the row, with one case for each width where the first field is read.
use mathlib.Core.Path.{◌≡◌, refl, sym, ap, ◌∙◌}
use mathlib.Core.List.{List, [], ◌∷◌, ◌++◌, append_assoc, append-nil}
use Prim.Native.Nat.{ℕ, zero, suc, ◌+◌, ◌*◌, ◌/◌, ◌%◌, ◌≤◌, ◌<◌}
use native.Mathlib.Nat.{add-zero, mul-zero, mul-suc}
use native.Mathlib.Numerals.{add-one}
use native.Mathlib.Omega.{arith}
use lib.ListN.{length, take, drop, get_or, length-append}
use lib.Seq.{get_or-append-add, drop-cons, drop-drop, take-add, ext_get_or}
use Rattle.lists.specs.Bytes.{Bytes}
use Rattle.lists.specs.Tab.{tab}
use Rattle.lists.proofs.Tab.{length-tab, get_or-tab}
use Rattle.record_layout.specs.Fields.{Width, byte, pair, field_size, field_bytes, field_at, row_bytes, row_at}

pub seam : (pre ys : List ℕ) (at k : ℕ) → length pre ≡ at → get_or (pre ++ ys) (at + k) 0 ≡ get_or ys k 0
seam pre ys at k e = rw (sym e) (get_or-append-add pre ys k 0)

pub field-length : (w : Width) (x : ℕ) → length (field_bytes w x) ≡ field_size w
field-length byte x = refl
field-length pair x = refl

pub row-length : (w : Width) (xs : List ℕ) → length (row_bytes w xs) ≡ field_size w * length xs
row-length byte [] = refl
row-length pair [] = refl
row-length byte (x ∷ xs) = let e = row-length byte xs in omega arith
row-length pair (x ∷ xs) = let e = row-length pair xs in omega arith

-- bytes in a row are themselves
pub row-byte : (xs : List ℕ) → row_bytes byte xs ≡ xs
row-byte [] = refl
row-byte (x ∷ xs) = ap (λ (l : List ℕ). x ∷ l) (row-byte xs)

-- a field that is written reads back
field_back : (w : Width) (x : ℕ) (pre post : List ℕ) (at : ℕ) → length pre ≡ at → field_at w (pre ++ (field_bytes w x ++ post)) at ≡ x
field_back byte x pre post at e = rw (sym (add-zero at)) (seam pre (x ∷ post) at 0 e)
field_back pair x pre post at e =
    let b : List ℕ = pre ++ (field_bytes pair x ++ post) in
    let high : get_or b at 0 ≡ x / 256 = rw (sym (add-zero at)) (seam pre (field_bytes pair x ++ post) at 0 e) in
    let low : get_or b (at + 1) 0 ≡ x % 256 = seam pre (field_bytes pair x ++ post) at 1 e in
    omega (arith, high, low)

fields_back : (w : Width) (xs pre post : List ℕ) (at i : ℕ) → length pre ≡ at → i < length xs
    → field_at w (pre ++ (row_bytes w xs ++ post)) (at + field_size w * i) ≡ get_or xs i 0
fields_back w [] pre post at i e h = absurd (omega arith)
fields_back w (x ∷ xs) pre post at zero e h =
    rw (mul-zero, add-zero, append_assoc (field_bytes w x)) (field_back w x pre (row_bytes w xs ++ post) at e)
fields_back w (x ∷ xs) pre post at (suc i) e h =
    let l : length (pre ++ field_bytes w x) ≡ at + field_size w = simp (length-append, field-length) (omega arith) in
    let p : at + field_size w * suc i ≡ at + field_size w + field_size w * i = omega (arith, mul-suc (field_size w) i) in
    rw (p, append_assoc (field_bytes w x), ← append_assoc pre)
    (fields_back w xs (pre ++ field_bytes w x) post (at + field_size w) i l (omega arith))

-- numbers that are written read back
pub row_back : (w : Width) (xs pre post : List ℕ) (at n : ℕ) → length pre ≡ at → length xs ≡ n → row_at w n (pre ++ (row_bytes w xs ++ post)) at ≡ xs
row_back w xs pre post at n e l =
    let f : ℕ → ℕ = λ i. field_at w (pre ++ (row_bytes w xs ++ post)) (at + field_size w * i) in
    let h : length (tab f n) ≡ length xs = length-tab f n ∙ sym l in
    ext_get_or 0 (tab f n) xs h
    (λ i k. let m : i < n = omega (arith, k, length-tab f n) in get_or-tab f n i m ∙ fields_back w xs pre post at i e (omega (arith, m)))

-- a field that is read writes back
field-forth : (w : Width) (b : List ℕ) (k : ℕ) → Bytes b → k + field_size w ≤ length b → field_bytes w (field_at w b k) ≡ take (field_size w) (drop k b)
field-forth byte b k z h = let l : k < length b = omega arith in rw (drop-cons b k 0 l)
field-forth pair b k z h =
    let l : k < length b = omega arith in
    let m : suc k < length b = omega arith in
    let low = z (k + 1) in
    let d : field_at pair b k / 256 ≡ get_or b k 0 = omega arith in
    let r : field_at pair b k % 256 ≡ get_or b (k + 1) 0 = omega arith in
    rw (d, r, drop-cons b k 0 l, drop-cons b (suc k) 0 m, add-one)

pub row-append : (w : Width) (xs ys : List ℕ) → row_bytes w (xs ++ ys) ≡ row_bytes w xs ++ row_bytes w ys
row-append w [] ys = refl
row-append w (x ∷ xs) ys = rw (row-append w xs ys, append_assoc)

-- bytes that are read write back
pub row-forth : (w : Width) (n : ℕ) (b : List ℕ) (at : ℕ) → Bytes b → at + field_size w * n ≤ length b
    → row_bytes w (row_at w n b at) ≡ take (field_size w * n) (drop at b)
unfolding tab
row-forth w zero b at z h = rw mul-zero
row-forth w (suc n) b at z h =
    let e : field_size w * suc n ≡ field_size w * n + field_size w = mul-suc (field_size w) n in
    let k : at + field_size w * n + field_size w ≤ length b = omega arith in
    let one : row_bytes w (field_at w b (at + field_size w * n) ∷ []) ≡ take (field_size w) (drop (at + field_size w * n) b) =
    append-nil (field_bytes w (field_at w b (at + field_size w * n))) ∙ field-forth w b (at + field_size w * n) z k in
    rw (e, row-append, row-forth w n b at z (omega arith), one, take-add, drop-drop)
