-- The entries stamped L + 1 or less are those stamped L or less and then those stamped L + 1, where no line falls; and once an entry is refused
-- nothing is tried any more. By induction on the entries, and since each keeps it so.
use Prim.Native.Nat.{ℕ, zero, suc, ◌≤◌, ◌<◌}
use mathlib.Core.Path.{◌≡◌, refl, sym, ap, ◌∙◌}
use mathlib.Core.List.{List}
use mathlib.Core.Bool.{Bool, true, false, ◌||◌}
use native.Mathlib.Omega.{arith}
use lib.Dec.{leb, eqb}
use borrow.Author.Tests.{leb-true, leb-false, eqb-true, eqb-false, le-leb, lt-leb, ne_eqb}
use Rattle.lists.proofs.Cond.{if-true, if-false}
use Rattle.reply.specs.Reply.{is_done}
use Rattle.trace_form.specs.Entries.{entry_count, entry_at, line_at}
use Rattle.trace_runs.specs.Runs.{Run, tried, tried_if, through}
use Rattle.trace_runs.proofs.Through.{through-keeps, tried-by, none-due}

-- stamped L + 1 or less: L or less, or L + 1
next-line : (l L : ℕ) → leb l (suc L) ≡ (leb l L || eqb l (suc L))
next-line l L = go (leb l L) refl (eqb l (suc L)) refl
  where
    go : (a : Bool) → leb l L ≡ a → (b : Bool) → eqb l (suc L) ≡ b → leb l (suc L) ≡ (a || b)
    go true e b f = le-leb l (suc L) (omega (arith, leb-true l L e))
    go false e true f = le-leb l (suc L) (omega (arith, eqb-true l (suc L) f))
    go false e false f = lt-leb l (suc L) (omega (arith, leb-false l L e, eqb-false l (suc L) f))

module _ (t : List ℕ) (up : (i j : ℕ) → i ≤ j → j < entry_count t → line_at t i ≤ line_at t j) (L : ℕ) where
  -- entry n, after the lemma below for those before it
  one_entry : (n : ℕ) → n < entry_count t → (x y : Run) → x ≡ through (λ l. eqb l (suc L)) t n y
      → (a : Bool) → leb (line_at t n) L ≡ a → (b : Bool) → eqb (line_at t n) (suc L) ≡ b
      → tried_if (a || b) (entry_at t n) n x ≡ tried_if b (entry_at t n) n (through (λ l. eqb l (suc L)) t n (tried_if a (entry_at t n) n y))
  one_entry n h x y e true f true g = absurd (omega (arith, leb-true (line_at t n) L f, eqb-true (line_at t n) (suc L) g))
  one_entry n h x y e true f false g =
      let no : (i : ℕ) → i < n → eqb (line_at t i) (suc L) ≡ false = λ i l. ne_eqb (line_at t i) (suc L) (λ q. omega (arith, q, up i n (omega (arith, l)) h, leb-true (line_at t n) L f)) in
      ap (tried (entry_at t n) n) (e ∙ none-due _ t n y no) ∙ sym (none-due _ t n (tried (entry_at t n) n y) no)
  one_entry n h x y e false f true g = ap (tried (entry_at t n) n) e
  one_entry n h x y e false f false g = e

  -- the entries stamped L + 1 or less are those stamped L or less, and then those stamped L + 1
  pub one_more : (n : ℕ) → n ≤ entry_count t → (r : Run)
      → through (λ l. leb l (suc L)) t n r ≡ through (λ l. eqb l (suc L)) t n (through (λ l. leb l L) t n r)
  unfolding through
  one_more zero h r = refl
  one_more (suc n) h r =
      ap (λ (b : Bool). tried_if b (entry_at t n) n (through (λ l. leb l (suc L)) t n r)) (next-line (line_at t n) L)
      ∙ one_entry n h _ _ (one_more n (omega (arith, h)) r) (leb (line_at t n) L) refl (eqb (line_at t n) (suc L)) refl

-- nothing is tried after a refused entry
pub refused-run : (p : ℕ → Bool) (t : List ℕ) (n : ℕ) (r : Run) → is_done r.reply ≡ false → through p t n r ≡ r
unfolding tried
refused-run p t n r h =
    through-keeps (λ x. x ≡ r) p t (λ i x e. ap (tried (entry_at t i) i) e ∙ if-false (is_done r.reply) _ r h) n r refl

-- a run without a refused entry has place 0
abbrev Placed : Run → Type 0
Placed r = is_done r.reply ≡ true → r.place ≡ 0

pub done-place : (p : ℕ → Bool) (t : List ℕ) (n : ℕ) (r : Run) → Placed r → Placed (through p t n r)
done-place p t = through-keeps Placed p t (λ i r h. tried-by Placed (entry_at t i) i r (λ d. if-true _ 0 i d) (λ d. if-true _ 0 i d) h)
