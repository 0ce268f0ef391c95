-- The laws of judging: one entry more, what is known once all are judged, and the verdict.
use Prim.Native.Nat.{ℕ, ◌+◌, ◌≤◌}
use mathlib.Core.Path.{◌≡◌, refl, sym, ap, ◌∙◌}
use mathlib.Core.List.{List}
use mathlib.Core.Bool.{Bool, true, false, cond, ◌&&◌}
use native.Mathlib.Numerals.{add-one}
use lib.ListN.{length}
use lib.Dec.{leb}
use borrow.Author.Tests.{leb-true}
use Rattle.lists.specs.Search.{all}
use Rattle.lists.proofs.Cond.{if-true, if-false, left-true}
use Rattle.lists.proofs.Loops.{all-next}
use Rattle.reply.specs.declared.Reply.{Reply}
use Rattle.reply.specs.declared.Reply.TheVariants.{Done, BadTrace, LinesFall}
use Rattle.trace_form.specs.declared.entries.Entry.{Entry}
use Rattle.trace_form.specs.Entries.{entry_count, entry_at, line_at}
use Rattle.trace_form.specs.Judged.{headed, known, all_known, line_before, rising, trace_reply}

-- the first i entries are known; none of the first i lines falls
abbrev pub known_below : List ℕ → ℕ → Bool
known_below t i = all (λ k. known (entry_at t k)) i

abbrev pub rising_below : List ℕ → ℕ → Bool
rising_below t i = all (λ k. leb (line_before t k) (line_at t k)) i

module _ (t : List ℕ) (i : ℕ) (e : Entry) (same : e ≡ entry_at t i) where
  pub known_more : (a b : Bool) → a ≡ known e → b ≡ known_below t i → (a && b) ≡ known_below t (i + 1)
  known_more a b f g = all-next (λ k. known (entry_at t k)) i a b (f ∙ ap known same) g

  pub rising_more : (last : ℕ) (b : Bool) → last ≡ line_before t i → b ≡ rising_below t i → (leb last e.line && b) ≡ rising_below t (i + 1)
  rising_more last b f g =
      all-next (λ k. leb (line_before t k) (line_at t k)) i (leb last e.line) b
      (ap (λ (x : ℕ). leb x e.line) f ∙ ap (λ (x : Entry). leb (line_before t i) x.line) same) g

  pub before_more : e.line ≡ line_before t (i + 1)
  before_more = ap (λ (x : Entry). x.line) same ∙ ap (line_before t) (sym (add-one i))

-- all entries are judged
pub all_judged : (t : List ℕ) (n i : ℕ) (a b : Bool) → n ≡ entry_count t → i ≡ n → a ≡ known_below t i → b ≡ rising_below t i
    → (a ≡ all_known t) × (b ≡ rising t)
unfolding all_known rising
all_judged t n i a b p q f g = (f ∙ ap (known_below t) (q ∙ p), g ∙ ap (rising_below t) (q ∙ p))

-- a whole head is long enough
pub long_enough : (t : List ℕ) → headed t ≡ true → 3 ≤ length t
unfolding headed
long_enough t e = leb-true 3 (length t) (left-true (leb 3 (length t)) _ (left-true _ _ (left-true _ _ e)))

-- one test after another with the same refusal is one test of both
both-tests : (a b : Bool) (x y : Reply) → cond a (cond b x y) y ≡ cond (a && b) x y
both-tests true b x y = refl
both-tests false b x y = refl

abbrev entries_reply : List ℕ → Reply
entries_reply t = cond (rising t) Done LinesFall

pub head_whole : (t : List ℕ) → headed t ≡ true → cond (all_known t) (entries_reply t) BadTrace ≡ trace_reply t
unfolding trace_reply
head_whole t e = sym (if-true (headed t) _ _ e) ∙ both-tests (headed t) (all_known t) (entries_reply t) BadTrace

pub head_broken : (t : List ℕ) → headed t ≡ false → BadTrace ≡ trace_reply t
unfolding trace_reply
head_broken t e = sym (if-false (headed t) (cond (all_known t) (entries_reply t) BadTrace) BadTrace e) ∙ both-tests (headed t) (all_known t) (entries_reply t) BadTrace
