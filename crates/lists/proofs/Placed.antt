-- The laws of a part placed in a buffer: it grows by one store, what is placed right after a prefix or after another part
-- goes on with it, and what lies before, within and after it.
use mathlib.Core.Path.{◌≡◌, refl, sym, ap, ◌∙◌}
use mathlib.Core.List.{List, [], ◌∷◌, ◌++◌, append_assoc, append-nil}
use Prim.Native.Nat.{ℕ, ◌+◌, ◌-◌, ◌≤◌, ◌<◌}
use native.Mathlib.Nat.{add-zero, add_assoc}
use native.Mathlib.Numerals.{add-one}
use native.Mathlib.Omega.{arith}
use lib.ListN.{length, take, drop, set, get_or, length-append, length-drop, take-append-drop, drop_of_length-le}
use lib.Seq.{drop-cons, set_at, take_at, drop_at, drop-drop, take-add, take-suc, take-take, take-append-le, length-take-le, get_or-take, get_or-drop}
use Rattle.lists.specs.Placed.{placed}
use Rattle.lists.proofs.Cuts.{cut-front, cut-length}

put_one : (pre b : List ℕ) (n x : ℕ) → length pre ≡ n → n < length b → set (pre ++ drop n b) n x ≡ (pre ++ (x ∷ [])) ++ drop (n + 1) b
put_one pre b n x e h = rw (drop-cons b n 0 h) (set_at pre _ _ x n e ∙ simp (append_assoc, add-one))

-- a run of bytes that is placed one after the other
module _ (b : List ℕ) (at : ℕ) where
  pub placed-none : b ≡ placed b at []
  unfolding placed
  placed-none = sym (rw (append-nil, add-zero) (take-append-drop at b))

  module _ (ys : List ℕ) (n : ℕ) (e : n ≡ at + length ys) where
    pub placed_one : (x : ℕ) → n < length b → set (placed b at ys) n x ≡ placed b at (ys ++ (x ∷ []))
    unfolding placed
    placed_one x h =
        let t : length (take at b) ≡ at = length-take-le at b (omega arith) in
        let l : length (take at b ++ ys) ≡ at + length ys = length-append (take at b) ys ∙ ap (λ (k : ℕ). k + length ys) t in
        rw (e, put_one (take at b ++ ys) b (at + length ys) x l (omega arith), append_assoc (take at b), length-append ys, add_assoc)

  pub placed-two : (ys : List ℕ) (n x y : ℕ) → n ≡ at + length ys → n + 1 < length b
      → set (set (placed b at ys) n x) (n + 1) y ≡ placed b at (ys ++ (x ∷ y ∷ []))
  placed-two ys n x y e h =
      let l : n + 1 ≡ at + length (ys ++ (x ∷ [])) = omega (arith, length-append ys (x ∷ [])) in
      rw (placed_one ys n e x (omega arith), placed_one (ys ++ (x ∷ [])) (n + 1) l y h, append_assoc ys)

-- what is placed right after a prefix makes the prefix longer
pub placed-next : (pre b ys : List ℕ) (n m : ℕ) → length pre ≡ n → m ≡ n + length ys → placed (pre ++ drop n b) n ys ≡ (pre ++ ys) ++ drop m b
unfolding placed
placed-next pre b ys n m e f =
    rw (take_at pre (drop n b) n e, f, ← drop-drop (length ys) n (pre ++ drop n b), drop_at pre (drop n b) n e, drop-drop)

-- a part that is placed right after another
pub placed-after : (b xs ys : List ℕ) (at n : ℕ) → n ≡ at + length xs → n ≤ length b → placed (placed b at xs) n ys ≡ placed b at (xs ++ ys)
unfolding placed
placed-after b xs ys at n e h =
    let l : length (take at b ++ xs) ≡ n = simp length-append (omega (arith, length-take-le at b (omega arith))) in
    rw (← e, placed-next (take at b ++ xs) b ys n (n + length ys) l refl, append_assoc (take at b) xs ys, length-append, ← add_assoc, ← e)

-- a part as long as the whole
pub placed-whole : (b ys : List ℕ) → length ys ≡ length b → placed b 0 ys ≡ ys
unfolding placed
placed-whole b ys e = let l : length b ≤ 0 + length ys = omega arith in rw (drop_of_length-le b l) (append-nil ys)

-- a part that is lent and comes back with other bytes
pub placed-lent : (b ys : List ℕ) (at n : ℕ) → length ys ≡ n → take at b ++ (ys ++ drop n (drop at b)) ≡ placed b at ys
unfolding placed
placed-lent b ys at n e = rw (drop-drop n at b, ← e, append_assoc (take at b) ys (drop (at + length ys) b))

-- a part placed where it stands
pub placed_same : (b : List ℕ) (at n : ℕ) → at + n ≤ length b → placed b at (take n (drop at b)) ≡ b
unfolding placed
placed_same b at n h = rw (cut-length b at n h, ← take-add at n b) (take-append-drop (at + n) b)

-- the bytes of a list that a loop has passed
module _ (xs : List ℕ) (i : ℕ) (h : i < length xs) where
  pub take_more : take (i + 1) xs ≡ take i xs ++ (get_or xs i 0 ∷ [])
  take_more = rw (add-one, take-suc xs i 0 h)

  pub length_so_far : length (take i xs) ≡ i
  length_so_far = length-take-le i xs (omega arith)

  -- and one more of them placed
  pub placed-more : (b : List ℕ) (at : ℕ) → at + length xs ≤ length b
      → set (placed b at (take i xs)) (at + i) (get_or xs i 0) ≡ placed b at (take (i + 1) xs)
  placed-more b at l =
      let e : at + i ≡ at + length (take i xs) = omega (arith, length_so_far) in
      rw take_more (placed_one b at (take i xs) (at + i) e (get_or xs i 0) (omega arith))

-- what a buffer holds in which a part was placed
module _ (b ys : List ℕ) (at : ℕ) (h : at + length ys ≤ length b) where
  front_length : length (take at b) ≡ at
  front_length = length-take-le at b (omega arith)

  head-length : length (take at b ++ ys) ≡ at + length ys
  head-length = length-append (take at b) ys ∙ ap (λ (k : ℕ). k + length ys) front_length

  pub length-placed : length (placed b at ys) ≡ length b
  unfolding placed
  length-placed = omega (arith, length-append (take at b ++ ys) (drop (at + length ys) b), head-length, length-drop (at + length ys) b)

  pub placed-upto : take (at + length ys) (placed b at ys) ≡ take at b ++ ys
  unfolding placed
  placed-upto = take_at (take at b ++ ys) (drop (at + length ys) b) (at + length ys) head-length

  pub placed-before : (n : ℕ) → n ≤ at → take n (placed b at ys) ≡ take n b
  unfolding placed
  placed-before n l =
      rw (append_assoc (take at b) ys, take-append-le n (take at b) (ys ++ drop (at + length ys) b) (omega (arith, front_length)), take-take n at b l)

  pub placed-here : take (length ys) (drop at (placed b at ys)) ≡ ys
  unfolding placed
  placed-here =
      rw (
        append_assoc (take at b) ys,
        drop_at (take at b) (ys ++ drop (at + length ys) b) at front_length,
        take_at ys (drop (at + length ys) b) (length ys) refl,
      )

  pub placed-beyond : (n : ℕ) → at + length ys ≤ n → drop n (placed b at ys) ≡ drop n b
  unfolding placed
  placed-beyond n l =
      let e : n ≡ at + length ys + (n - (at + length ys)) = omega arith in
      rw (
        e,
        ← drop-drop (n - (at + length ys)) (at + length ys) ((take at b ++ ys) ++ drop (at + length ys) b),
        drop_at (take at b ++ ys) (drop (at + length ys) b) (at + length ys) head-length,
        drop-drop (n - (at + length ys)) (at + length ys) b,
      )

  -- a part cut out before it
  pub cut-before : (m n : ℕ) → m + n ≤ at → take n (drop m (placed b at ys)) ≡ take n (drop m b)
  unfolding placed
  cut-before m n l =
      let f : m + n ≤ length (take at b) = omega (arith, front_length) in
      rw (append_assoc (take at b) ys (drop (at + length ys) b))
      (cut-front (take at b) (ys ++ drop (at + length ys) b) m n f
      ∙ sym (cut-front (take at b) (drop at b) m n f)
      ∙ ap (λ (l : List ℕ). take n (drop m l)) (take-append-drop at b))

  -- its elements
  pub get_or-before : (i : ℕ) → i < at → get_or (placed b at ys) i 0 ≡ get_or b i 0
  get_or-before i l =
      sym (get_or-take at (placed b at ys) i 0 l) ∙ ap (λ (l : List ℕ). get_or l i 0) (placed-before at (omega arith)) ∙ get_or-take at b i 0 l

  pub get_or-here : (i : ℕ) → i < length ys → get_or (placed b at ys) (at + i) 0 ≡ get_or ys i 0
  get_or-here i l =
      sym (get_or-drop at (placed b at ys) i 0) ∙ sym (get_or-take (length ys) (drop at (placed b at ys)) i 0 l)
      ∙ ap (λ (l : List ℕ). get_or l i 0) placed-here

  pub get_d_beyond : (i : ℕ) → at + length ys ≤ i → get_or (placed b at ys) i 0 ≡ get_or b i 0
  get_d_beyond i l =
      let e : i ≡ i + 0 = sym (add-zero i) in
      rw e (sym (get_or-drop i (placed b at ys) 0 0) ∙ ap (λ (l : List ℕ). get_or l 0 0) (placed-beyond i l) ∙ get_or-drop i b 0 0)
