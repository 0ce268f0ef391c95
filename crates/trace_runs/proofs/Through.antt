-- The laws of runs: what each entry keeps is kept, entries that are not due change nothing, and where no line falls the entries due at a line are the
-- first so many, so that a run can be carried from line to line. By induction on the entries.
use Prim.Native.Nat.{ℕ, zero, suc, ◌+◌, ◌-◌, ◌≤◌, ◌<◌}
use mathlib.Core.Path.{◌≡◌, refl, sym, ap, ◌∙◌}
use mathlib.Core.List.{List}
use mathlib.Core.Bool.{Bool, true, false}
use mathlib.Core.Logic.{⊎_elim}
use native.Mathlib.Nat.{le_refl, add-suc, add-zero, eq-or-lt_of_le, le_of_suc-le-suc}
use native.Mathlib.Numerals.{add-one}
use native.Mathlib.Omega.{arith}
use lib.Dec.{leb, ltb, eqb}
use borrow.Author.Tests.{leb-true, leb-false, le-leb, lt-leb, ltb-true, ltb-false, lt-ltb, le-ltb}
use Rattle.lists.proofs.Search.{least-found, all-at}
use Rattle.lists.proofs.Cond.{if-false, either}
use Rattle.reply.specs.Reply.{is_done}
use Rattle.state.specs.declared.State.{State}
use Rattle.register_answers.specs.Rows.{write_by}
use Rattle.register_ports.specs.Ports.{port_writes}
use Rattle.register_tables.specs.Tables.{register_writes}
use Rattle.trace_form.specs.declared.entries.Entry.{Entry}
use Rattle.trace_form.specs.Entries.{entry_count, entry_at, line_at}
use Rattle.trace_form.specs.Judged.{line_before, rising}
use Rattle.trace_runs.specs.Runs.{Run, port_number, applied, begun, outcome, tried, tried_if, through, after}
use Rattle.trace_runs.specs.Bounds.{reach, first}

-- ---- what entries keep

-- what each entry of a trace keeps, all that are due keep
pub through-keeps : (P : Run → Type 0) (p : ℕ → Bool) (t : List ℕ) → ((i : ℕ) (r : Run) → P r → P (tried (entry_at t i) i r)) → (n : ℕ) (r : Run) → P r → P (through p t n r)
unfolding through
through-keeps P p t k zero r h = h
through-keeps P p t k (suc n) r h =
    let q = through-keeps P p t k n r h in either P (p (line_at t n)) (tried (entry_at t n) n (through p t n r)) (through p t n r) (k n (through p t n r) q) q

-- an entry that is tried is a write to a register or to a port
pub tried-by : (P : Run → Type 0) (e : Entry) (i : ℕ) (r : Run) → P (outcome i (write_by register_writes r.state e.number e.value))
    → P (outcome i (write_by port_writes r.state (port_number e.number) e.value)) → P r → P (tried e i r)
unfolding tried applied
tried-by P e i r f g h =
    either P (is_done r.reply) (outcome i (applied r.state e)) r
    (either (λ a. P (outcome i a)) (eqb e.kind 0) (write_by register_writes r.state e.number e.value) (write_by port_writes r.state (port_number e.number) e.value) f g)
    h

-- ---- entries that are not due

-- where none of the first n is due, the run stays
pub none-due : (p : ℕ → Bool) (t : List ℕ) (n : ℕ) (r : Run) → ((i : ℕ) → i < n → p (line_at t i) ≡ false) → through p t n r ≡ r
unfolding through
none-due p t zero r h = refl
none-due p t (suc n) r h =
    if-false (p (line_at t n)) _ _ (h n (le_refl (suc n))) ∙ none-due p t n r (λ i l. h i (omega (arith, l)))

-- where none is due from m on, the first m are enough
pub due_below : (p : ℕ → Bool) (t : List ℕ) (m k : ℕ) (r : Run) → ((i : ℕ) → m ≤ i → i < m + k → p (line_at t i) ≡ false)
    → through p t (m + k) r ≡ through p t m r
unfolding through
due_below p t m zero r h = ap (λ (n : ℕ). through p t n r) (add-zero m)
due_below p t m (suc k) r h =
    ap (λ (n : ℕ). through p t n r) (add-suc m k) ∙ if-false (p (line_at t (m + k))) _ _ (h (m + k) (omega arith) (omega arith))
    ∙ due_below p t m k r (λ i a b. h i a (omega (arith, b)))

-- two ways to say which are due, and two traces with the same entries
pub same-due : (p q : ℕ → Bool) (t u : List ℕ) (n : ℕ) (r : Run) → ((i : ℕ) → i < n → entry_at t i ≡ entry_at u i)
    → ((i : ℕ) → i < n → p (line_at t i) ≡ q (line_at t i)) → through p t n r ≡ through q u n r
unfolding through
same-due p q t u zero r e h = refl
same-due p q t u (suc n) r e h =
    ap (λ (b : Bool). tried_if b (entry_at t n) n (through p t n r)) (h n (le_refl (suc n)))
    ∙ ap (λ (x : Entry). tried_if (q x.line) x n (through p t n r)) (e n (le_refl (suc n)))
    ∙ ap (tried_if (q (line_at u n)) (entry_at u n) n) (same-due p q t u n r (λ i l. e i (omega (arith, l))) (λ i l. h i (omega (arith, l))))

-- ---- lines that do not fall

pub rises : (t : List ℕ) → rising t ≡ true → (i j : ℕ) → i ≤ j → j < entry_count t → line_at t i ≤ line_at t j
unfolding rising
rises t e zero zero h l = le_refl (line_at t 0)
rises t e (suc i) zero h l = absurd (omega (arith, h))
rises t e i (suc j) h l =
    ⊎_elim
    (λ q. omega (arith, ap (line_at t) q))
    (λ w. omega (arith, rises t e i j (le_of_suc-le-suc w) (omega (arith, l)), leb-true (line_at t j) (line_at t (suc j)) (all-at (λ k. leb (line_before t k) (line_at t k)) (entry_count t) e (suc j) l)))
    (eq-or-lt_of_le h)

-- ---- as far as line L reaches

-- before the reach a line is L or less, and there it is above L
below-reach : (t : List ℕ) (L i : ℕ) → i < reach t L → line_at t i ≤ L
unfolding reach
below-reach t L i l = ltb-false L (line_at t i) ((least-found (λ k. ltb L (line_at t k)) (entry_count t)).before i l)

at-reach : (t : List ℕ) (L : ℕ) → reach t L < entry_count t → L < line_at t (reach t L)
unfolding reach
at-reach t L l = ltb-true L (line_at t (reach t L)) ((least-found (λ k. ltb L (line_at t k)) (entry_count t)).here l)

pub reach-within : (t : List ℕ) (L : ℕ) → reach t L ≤ entry_count t
unfolding reach
reach-within t L = (least-found (λ k. ltb L (line_at t k)) (entry_count t)).inside-or-end

-- the next line reaches no less far
pub reach-more : (t : List ℕ) (L : ℕ) → reach t L ≤ reach t (L + 1)
reach-more t L = go (leb (reach t L) (reach t (L + 1))) refl
  where
    go : (b : Bool) → leb (reach t L) (reach t (L + 1)) ≡ b → reach t L ≤ reach t (L + 1)
    go true e = leb-true (reach t L) (reach t (L + 1)) e
    go false e =
        let l = leb-false (reach t L) (reach t (L + 1)) e in
        absurd (omega (arith, at-reach t (L + 1) (omega (arith, l, reach-within t L)), below-reach t L (reach t (L + 1)) l))

-- below the end, an entry is due where it lies before the reach
pub due-by : (t : List ℕ) (L i : ℕ) → i ≤ reach t L → i < entry_count t → leb (line_at t i) L ≡ ltb i (reach t L)
due-by t L i h w = go (leb (line_at t i) L) refl
  where
    go : (b : Bool) → leb (line_at t i) L ≡ b → b ≡ ltb i (reach t L)
    go true e =
        ⊎_elim
        (λ q. let r : reach t L < entry_count t = omega (arith, w, q) in absurd (omega (arith, at-reach t L r, leb-true (line_at t i) L e, ap (line_at t) q)))
        (λ l. sym (lt-ltb i (reach t L) l))
        (eq-or-lt_of_le h)
    go false e =
        ⊎_elim
        (λ q. sym (le-ltb i (reach t L) (omega (arith, q))))
        (λ l. absurd (omega (arith, below-reach t L i l, leb-false (line_at t i) L e)))
        (eq-or-lt_of_le h)

-- at the end none is due
pub none_left : (t : List ℕ) (L i : ℕ) → entry_count t ≤ i → false ≡ ltb i (reach t L)
none_left t L i h = sym (le-ltb i (reach t L) (omega (arith, h, reach-within t L)))

-- where no line falls, the entries stamped L or less are the first ones up to the reach
pub after-reach : (s : State) (t : List ℕ) (L : ℕ) → rising t ≡ true → after s t L ≡ first t (reach t L) (begun s)
unfolding after
after-reach s t L e =
    let k = entry_count t - reach t L in
    let n : entry_count t ≡ reach t L + k = omega (arith, reach-within t L) in
    ap (λ (m : ℕ). through (λ l. leb l L) t m (begun s)) n
    ∙ due_below (λ l. leb l L) t (reach t L) k (begun s) (λ i a b. lt-leb (line_at t i) L (omega (arith, at-reach t L (omega (arith, a, b, n)), rises t e (reach t L) i a (omega (arith, b, n)))))
    ∙ same-due (λ l. leb l L) (λ l. true) t t (reach t L) (begun s) (λ i l. refl) (λ i l. le-leb (line_at t i) L (below-reach t L i l))

-- no entry yet, and one more
pub first-none : (t : List ℕ) (x : Run) → x ≡ first t 0 x
unfolding through
first-none t x = refl

pub first_more : (t : List ℕ) (i : ℕ) (x : Run) → first t (i + 1) x ≡ tried (entry_at t i) i (first t i x)
unfolding through
first_more t i x = ap (λ (n : ℕ). first t n x) (add-one i)
