-- The laws of n values in a row that a filling loop cites: a store at i extends what is right, a part that is filled
-- by a call extends it, and the whole list is right at the end. Each goes by the definition of `tab`, which nothing else opens.
use Prim.Native.Nat.{ℕ, zero, suc, ◌+◌, ◌*◌, ◌/◌, ◌<◌, ◌≤◌}
use mathlib.Core.Path.{◌≡◌, refl, sym, ap, ◌∙◌}
use mathlib.Core.List.{List, [], ◌∷◌, ◌++◌, append_assoc, append-nil}
use mathlib.Core.Logic.{⊎_elim}
use native.Mathlib.Nat.{add-suc, add-zero, eq-or-lt_of_le, le_of_suc-le-suc}
use native.Mathlib.Numerals.{add-one}
use native.Mathlib.Omega.{arith}
use lib.ListN.{length, take, drop, set, get_or, replicate, length-append, length-set, replicate-append-replicate, get_or-append}
use lib.Seq.{take-suc-set, take_all, take_at, drop_at, drop-drop, length-take-le, get_or_at, ext_get_or}
use Rattle.lists.specs.Tab.{tab}

-- nothing stored yet
pub tab-none : (f : ℕ → ℕ) → [] ≡ tab f 0
unfolding tab
tab-none f = refl

-- one store more: the first i are right, f i is stored at i
pub tab-step : (f : ℕ → ℕ) (l : List ℕ) (i a : ℕ) → i < length l → take i l ≡ tab f i → a ≡ f i → take (i + 1) (set l i a) ≡ tab f (i + 1)
unfolding tab
tab-step f l i a h p q = rw (add-one, take-suc-set, p, q)

-- two stores at 2 x and 2 x + 1
pub tab-two : (f : ℕ → ℕ) (l : List ℕ) (x a b : ℕ) → x * 2 + 1 < length l → take (x * 2) l ≡ tab f (x * 2) → a ≡ f (x * 2) → b ≡ f (x * 2 + 1)
    → take ((x + 1) * 2) (set (set l (x * 2) a) (x * 2 + 1) b) ≡ tab f ((x + 1) * 2)
tab-two f l x a b h p q r =
    let e : (x + 1) * 2 ≡ x * 2 + 1 + 1 = omega arith in
    let h0 : x * 2 < length l = omega arith in
    rw e (tab-step f (set l (x * 2) a) (x * 2 + 1) b (simp length-set h) (tab-step f l (x * 2) a h0 p q) r)

-- the whole list is right
pub tab-done : (f : ℕ → ℕ) (l : List ℕ) (n : ℕ) → length l ≡ n → take n l ≡ tab f n → l ≡ tab f n
tab-done f l n e p = sym (take_all n l (omega arith)) ∙ p

pub length-tab : (f : ℕ → ℕ) (n : ℕ) → length (tab f n) ≡ n
unfolding tab
length-tab f zero = refl
length-tab f (suc n) = rw (length-append, length-tab f n, add-one)

-- the first m, and the n after them
pub tab-join : (f : ℕ → ℕ) (m n : ℕ) → tab f (m + n) ≡ tab f m ++ tab (λ (k : ℕ). f (m + k)) n
unfolding tab
tab-join f m zero = rw (add-zero, append-nil)
tab-join f m (suc n) = rw (add-suc, tab-join f m n, append_assoc)

-- a part of n elements from m is written, p, and the first m were right; r is what lies after it
pub tab-part : (f : ℕ → ℕ) (l p r : List ℕ) (m n j : ℕ) → m ≤ length l → take m l ≡ tab f m → p ≡ tab (λ (k : ℕ). f (m + k)) n → j ≡ m + n
    → take j (take m l ++ (p ++ r)) ≡ tab f j
tab-part f l p r m n j h e q s =
    let a : length (take m l ++ p) ≡ m + n = simp (length-append, length-take-le m l h, q, length-tab) in
    let w : take (m + n) (take m l ++ (p ++ r)) ≡ tab f (m + n) = rw (← append_assoc (take m l) p r, take_at (take m l ++ p) r (m + n) a, e, q, tab-join f m n) in
    rw s w

-- two tables that agree below n
pub tab-ext : (f g : ℕ → ℕ) (n : ℕ) → ((k : ℕ) → k < n → f k ≡ g k) → tab f n ≡ tab g n
unfolding tab
tab-ext f g zero h = refl
tab-ext f g (suc n) h =
    let e : tab f n ≡ tab g n = tab-ext f g n (λ k l. h k (omega arith)) in
    let d : f n ≡ g n = h n (omega arith) in
    rw (e, d)

-- an entry of a table
pub get_or-tab : (f : ℕ → ℕ) (n k : ℕ) → k < n → get_or (tab f n) k 0 ≡ f k
unfolding tab
get_or-tab f zero k l = absurd (omega arith)
get_or-tab f (suc n) k l =
    ⊎_elim
    (λ e. get_or_at (tab f n) (f n) [] 0 k (length-tab f n ∙ sym e) ∙ ap f (sym e))
    (λ lt. get_or-append (tab f n) (f n ∷ []) 0 k (rw length-tab lt) ∙ get_or-tab f n k lt)
    (eq-or-lt_of_le (le_of_suc-le-suc l))

-- a list is the table of its entries
pub tab-entries : (xs : List ℕ) → xs ≡ tab (λ (k : ℕ). get_or xs k 0) (length xs)
tab-entries xs =
    let f : ℕ → ℕ = λ (k : ℕ). get_or xs k 0 in
    ext_get_or 0 xs (tab f (length xs)) (sym (length-tab f (length xs))) (λ i h. sym (get_or-tab f (length xs) i h))

-- one value stored twice, at 2 x and 2 x + 1
pub tab-pair : (f : ℕ → ℕ) (l : List ℕ) (x v : ℕ) → x * 2 + 1 < length l → take (x * 2) l ≡ tab (λ (k : ℕ). f (k / 2)) (x * 2) → v ≡ f x
    → take ((x + 1) * 2) (set (set l (x * 2) v) (x * 2 + 1) v) ≡ tab (λ (k : ℕ). f (k / 2)) ((x + 1) * 2)
tab-pair f l x v h p q =
    let e0 : x ≡ x * 2 / 2 = omega arith in
    let e1 : x ≡ (x * 2 + 1) / 2 = omega arith in
    tab-two (λ (k : ℕ). f (k / 2)) l x v v h p (q ∙ ap f e0) (q ∙ ap f e1)

pub take-tab : (f : ℕ → ℕ) (m n : ℕ) → take m (tab f (m + n)) ≡ tab f m
take-tab f m n = rw (tab-join f m n, take_at (tab f m) (tab (λ (k : ℕ). f (m + k)) n) m (length-tab f m))

pub drop-tab : (f : ℕ → ℕ) (m n : ℕ) → drop m (tab f (m + n)) ≡ tab (λ (k : ℕ). f (m + k)) n
drop-tab f m n = rw (tab-join f m n, drop_at (tab f m) (tab (λ (k : ℕ). f (m + k)) n) m (length-tab f m))

-- a row f with n other values from a on
pub tab-patch : (f g h : ℕ → ℕ) (a n b : ℕ) → ((k : ℕ) → k < a → f k ≡ h k) → ((k : ℕ) → k < n → g k ≡ h (a + k))
    → ((k : ℕ) → k < b → f (a + n + k) ≡ h (a + n + k))
    → take a (tab f (a + n + b)) ++ (tab g n ++ drop n (drop a (tab f (a + n + b)))) ≡ tab h (a + n + b)
tab-patch f g h a n b p q r =
    let e : a + n + b ≡ a + (n + b) = omega arith in
    let t : take a (tab f (a + n + b)) ≡ tab h a = rw e (take-tab f a (n + b) ∙ tab-ext f h a p) in
    let m : tab g n ≡ tab (λ (k : ℕ). h (a + k)) n = tab-ext _ _ n q in
    let d : drop (a + n) (tab f (a + n + b)) ≡ tab (λ (k : ℕ). h (a + n + k)) b = drop-tab f (a + n) b ∙ tab-ext _ _ b r in
    rw (t, m, drop-drop n a (tab f (a + n + b)), d, tab-join h (a + n) b, tab-join h a n, append_assoc)

-- n times the same value
module _ (v : ℕ) where
  pub tab-constant : (n : ℕ) → tab (λ (k : ℕ). v) n ≡ replicate n v
  unfolding tab
  tab-constant zero = refl
  tab-constant (suc n) = rw (tab-constant n) (replicate-append-replicate {A = ℕ} n 1 v ∙ ap (λ (k : ℕ). replicate k v) (add-one n))

pub tab-zeros : (n : ℕ) → tab (λ (k : ℕ). 0) n ≡ replicate n 0
tab-zeros n = tab-constant 0 n
