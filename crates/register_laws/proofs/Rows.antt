-- What holds of a write to each row holds of every write. By induction over the rows of a table.
use mathlib.Core.Path.{◌≡◌, refl, ◌∙◌}
use mathlib.Core.List.{List, [], ◌∷◌}
use mathlib.Core.Bool.{Bool, true, false, cond}
use Prim.Native.Nat.{ℕ, ◌<◌}
use lib.Dec.{eqb}
use borrow.Author.Tests.{eqb-true, ne_eqb}
use Rattle.std.specs.Prelude.{Err}
use Rattle.lists.proofs.Cond.{if-false, either}
use Rattle.reply.specs.declared.Reply.TheVariants.{Done, NoRegister, OutOfBounds}
use Rattle.reply.proofs.NotFour.{NotFour, other, done-not-four}
use Rattle.state.specs.declared.State.{State}
use Rattle.state.specs.declared.Answer.{Answer}
use Rattle.state.specs.Answer.{done, refused}
use Rattle.register_answers.specs.Answers.{Reading, if_fits}
use Rattle.register_answers.specs.Rows.{WriteRow, write_by, ReadRow, read_by}
use Rattle.register_laws.specs.Claims.{Each, none, ◌▷◌, NoneOf}
use Rattle.register_laws.proofs.Parts.{Parts, Group}

-- a row's effect keeps a lawful state lawful, a refusal of it hands the same state back, and it is never 4
pub record Sound (f : State → ℕ → Answer) : Type 0 where
  pub kept : (s : State) (v : ℕ) → v < 256 → Parts s → Parts (f s v).state
  pub clean : (s : State) (v : ℕ) → ((f s v).reply ≡ Done → ⊥) → (f s v).state ≡ s
  pub not-four : (s : State) (v : ℕ) → NotFour (f s v).reply

-- a write that always changes the state
pub always : (t : State → ℕ → State) → ((s : State) (v : ℕ) → v < 256 → Parts s → Parts (t s v)) → Sound (λ s v. done (t s v))
always t k = record { kept = k; clean = λ s v h. absurd (h refl); not-four = λ s v. done-not-four }

-- a write that changes the state where its value fits
pub judged : (ok : ℕ → Bool) (t : State → ℕ → State) → ((s : State) (v : ℕ) → v < 256 → ok v ≡ true → Parts s → Parts (t s v))
    → Sound (λ s v. if_fits (ok v) (t s v) s)
judged ok t k = record { kept = λ s v b p. keep (ok v) (t s v) s (λ e. k s v b e p) p; clean = λ s v h. same (ok v) (t s v) s h; not-four = λ s v. fits-not-four (ok v) (t s v) s }
  where
    keep : (b : Bool) (x y : State) → (b ≡ true → Parts x) → Parts y → Parts (if_fits b x y).state
    keep true x y f p = f refl
    keep false x y f p = p

    same : (b : Bool) (x y : State) → ((if_fits b x y).reply ≡ Done → ⊥) → (if_fits b x y).state ≡ y
    same true x y h = absurd (h refl)
    same false x y h = refl

    fits-not-four : (b : Bool) (x y : State) → NotFour (if_fits b x y).reply
    fits-not-four true x y = done-not-four
    fits-not-four false x y = other OutOfBounds refl

-- the same of a write that changes one group alone
module _ {G : Type 0} {get : State → G} {put : State → G → State} {lawful : G → Bool} {Types : G → Type 0} (group : Group G get put lawful Types) where
  pub stored : (f : G → ℕ → G) → ((x : G) (v : ℕ) → lawful x ≡ true → lawful (f x v) ≡ true) → ((x : G) (v : ℕ) → v < 256 → Types x → Types (f x v))
      → Sound (λ s v. done (put s (f (get s) v)))
  stored f h t =
      always (λ s v. put s (f (get s) v))
      (λ s v b p. let x = get s in let q = group.has s p in group.takes s (f x v) p (h x v q.0) (t x v b q.1))

  pub stored-if : (ok : ℕ → Bool) (f : G → ℕ → G) → ((x : G) (v : ℕ) → ok v ≡ true → lawful x ≡ true → lawful (f x v) ≡ true)
      → ((x : G) (v : ℕ) → v < 256 → Types x → Types (f x v)) → Sound (λ s v. if_fits (ok v) (put s (f (get s) v)) s)
  stored-if ok f h t =
      judged ok (λ s v. put s (f (get s) v))
      (λ s v b e p. let x = get s in let q = group.has s p in group.takes s (f x v) p (h x v e q.0) (t x v b q.1))

-- one of two writes, as the state says
pub chosen : (b : State → Bool) (f g : State → ℕ → Answer) → Sound f → Sound g → Sound (λ s v. cond (b s) (f s v) (g s v))
chosen b f g p q =
    record {
      kept = λ s v l h. either (λ a. Parts a.state) (b s) (f s v) (g s v) (p.kept s v l h) (q.kept s v l h);
      clean = λ s v. either (λ a. (a.reply ≡ Done → ⊥) → a.state ≡ s) (b s) (f s v) (g s v) (p.clean s v) (q.clean s v);
      not-four = λ s v. either (λ a. NotFour a.reply) (b s) (f s v) (g s v) (p.not-four s v) (q.not-four s v);
    }

-- what holds where no row has the number, and of the row that has it, holds of the table
pub by_row : (P : Answer → Type 0) (rs : List WriteRow) (s : State) (n v : ℕ) → P (refused NoRegister s)
    → Each (λ r. n ≡ r.number → P (r.effect s v)) rs → P (write_by rs s n v)
by_row P [] s n v p none = p
by_row P (r ∷ rs) s n v p (k ▷ ks) = go (by_row P rs s n v p ks) (eqb n r.number) refl
  where
    go : P (write_by rs s n v) → (b : Bool) → eqb n r.number ≡ b → P (cond b (r.effect s v) (write_by rs s n v))
    go q true e = k (eqb-true n r.number e)
    go q false e = q

-- the same of a property that each row has
pub by_rows : (P : Answer → Type 0) (rs : List WriteRow) (s : State) (n v : ℕ) → P (refused NoRegister s)
    → ((f : State → ℕ → Answer) → Sound f → P (f s v)) → Each (λ r. Sound r.effect) rs → P (write_by rs s n v)
by_rows P [] s n v p h none = p
by_rows P (r ∷ rs) s n v p h (k ▷ ks) = either P (eqb n r.number) (r.effect s v) (write_by rs s n v) (h r.effect k) (by_rows P rs s n v p h ks)

-- what holds where no row has the number, and of each row, holds of a read
pub by-reads : (P : Reading → Type 0) (rs : List ReadRow) (s : State) (n : ℕ) → P (Err NoRegister) → Each (λ r. P (r.reading s)) rs → P (read_by rs s n)
by-reads P [] s n p none = p
by-reads P (r ∷ rs) s n p (k ▷ ks) = either P (eqb n r.number) (r.reading s) (read_by rs s n) k (by-reads P rs s n p ks)

-- ---- a number that no row has

abbrev pub write_numbers : List WriteRow → List ℕ
write_numbers [] = []
write_numbers (r ∷ rs) = r.number ∷ write_numbers rs

abbrev pub read_numbers : List ReadRow → List ℕ
read_numbers [] = []
read_numbers (r ∷ rs) = r.number ∷ read_numbers rs

pub no-write-row : (rs : List WriteRow) (s : State) (n v : ℕ) → NoneOf (write_numbers rs) n → write_by rs s n v ≡ refused NoRegister s
no-write-row [] s n v none = refl
no-write-row (r ∷ rs) s n v (x ▷ xs) = if-false (eqb n r.number) _ _ (ne_eqb n r.number x) ∙ no-write-row rs s n v xs

pub no-read-row : (rs : List ReadRow) (s : State) (n : ℕ) → NoneOf (read_numbers rs) n → read_by rs s n ≡ Err NoRegister
no-read-row [] s n none = refl
no-read-row (r ∷ rs) s n (x ▷ xs) = if-false (eqb n r.number) _ _ (ne_eqb n r.number x) ∙ no-read-row rs s n xs
