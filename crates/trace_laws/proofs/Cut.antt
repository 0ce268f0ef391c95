-- A cut trace is not refused where the whole is not, and has its first entries.
use Prim.Native.Nat.{ℕ, zero, suc, ◌+◌, ◌*◌, ◌-◌, ◌%◌, ◌≤◌, ◌<◌}
use mathlib.Core.Path.{◌≡◌, refl, ap, ◌∙◌}
use mathlib.Core.List.{List}
use mathlib.Core.Bool.{true, cond, ◌&&◌}
use native.Mathlib.Omega.{arith}
use lib.ListN.{length, take, drop, get_or, length-drop}
use lib.Seq.{length-take-le, get_or-take, get_or-drop}
use lib.Dec.{leb, eqb}
use borrow.Author.Tests.{le-leb, eq-eqb}
use Rattle.lists.proofs.Cond.{if-true, left-true, right-true, both}
use Rattle.lists.proofs.Search.{all-at, all_of}
use Rattle.reply.specs.declared.Reply.TheVariants.{Done, BadTrace, LinesFall}
use Rattle.reply.proofs.Done.{test-met}
use Rattle.trace_form.specs.declared.entries.Entry.{Entry}
use Rattle.trace_form.specs.Entries.{entry_count, entry_at, line_at}
use Rattle.trace_form.specs.Judged.{headed, known, all_known, line_before, rising, trace_reply}
use Rattle.trace_form.proofs.Judged.{long_enough}
use Rattle.trace_laws.specs.Cut.{cut}

module _ (t : List ℕ) (n : ℕ) (long : 3 ≤ length t) (h : n ≤ entry_count t) where
  room : n * 4 ≤ length (drop 3 t)
  room = rw length-drop (omega (arith, h, long))

  rest-length : length (take (n * 4) (drop 3 t)) ≡ n * 4
  rest-length = length-take-le (n * 4) (drop 3 t) room

  pub cut-length : length (cut t n) ≡ n * 4 + 3
  cut-length = omega (arith, rest-length)

  pub cut-count : entry_count (cut t n) ≡ n
  cut-count = omega (arith, cut-length)

  -- the bytes after the head are those of the whole
  byte-same : (k m : ℕ) → m ≡ suc (suc (suc k)) → k < n * 4 → get_or (cut t n) m 0 ≡ get_or t m 0
  byte-same k m e l =
      ap (λ (j : ℕ). get_or (cut t n) j 0) e ∙ get_or-take (n * 4) (drop 3 t) k 0 l ∙ get_or-drop 3 t k 0
      ∙ ap (λ (j : ℕ). get_or t j 0) (omega (arith, e))

  -- and so its entries
  pub cut-entry : (i : ℕ) → i < n → entry_at (cut t n) i ≡ entry_at t i
  cut-entry i l =
      rw (
        byte-same (i * 4) (i * 4 + 3) (omega arith) (omega (arith, l)),
        byte-same (i * 4 + 1) (i * 4 + 4) (omega arith) (omega (arith, l)),
        byte-same (i * 4 + 2) (i * 4 + 5) (omega arith) (omega (arith, l)),
        byte-same (i * 4 + 3) (i * 4 + 6) (omega arith) (omega (arith, l)),
      )

  cut-headed : headed (cut t n) ≡ true
  unfolding headed
  cut-headed =
      let u = cut t n in
      let a = leb 3 (length u) in
      let b = eqb (get_or u 0 0 * 256 + get_or u 1 0) (length u - 2) in
      let d = eqb ((length u - 3) % 4) 0 in
      both ((a && b) && true) d (both (a && b) true (both a b (le-leb 3 (length u) (omega (arith, cut-length))) (eq-eqb (get_or u 0 0 * 256 + get_or u 1 0) (length u - 2) (omega (arith, cut-length)))) refl)
      (eq-eqb ((length u - 3) % 4) 0 (omega (arith, cut-length)))

  cut-known : all_known t ≡ true → all_known (cut t n) ≡ true
  unfolding all_known
  cut-known e =
      all_of (λ i. known (entry_at (cut t n) i)) (entry_count (cut t n)) (λ i l.
      ap known (cut-entry i (omega (arith, l, cut-count))) ∙ all-at (λ k. known (entry_at t k)) (entry_count t) e i (omega (arith, l, cut-count, h)))

  cut-before : (i : ℕ) → i < n → line_before (cut t n) i ≡ line_before t i
  cut-before zero l = refl
  cut-before (suc i) l = ap (λ (x : Entry). x.line) (cut-entry i (omega (arith, l)))

  cut-rising : rising t ≡ true → rising (cut t n) ≡ true
  unfolding rising
  cut-rising e =
      all_of (λ i. leb (line_before (cut t n) i) (line_at (cut t n) i)) (entry_count (cut t n)) (λ i l.
      let w : i < n = omega (arith, l, cut-count) in
      ap (λ (b : ℕ). leb b (line_at (cut t n) i)) (cut-before i w) ∙ ap (λ (x : Entry). leb (line_before t i) x.line) (cut-entry i w)
      ∙ all-at (λ k. leb (line_before t k) (line_at t k)) (entry_count t) e i (omega (arith, w, h)))

-- a cut trace is not refused
pub cut-done : (t : List ℕ) (n : ℕ) → n ≤ entry_count t → trace_reply t ≡ Done → trace_reply (cut t n) ≡ Done
unfolding trace_reply
cut-done t n h z =
    let m = test-met (headed t && all_known t) (cond (rising t) Done LinesFall) BadTrace refl z in
    let w = left-true (headed t) (all_known t) m.0 in
    let l = long_enough t w in
    if-true (headed (cut t n) && all_known (cut t n)) _ _ (both (headed (cut t n)) (all_known (cut t n)) (cut-headed t n l h) (cut-known t n l h (right-true (headed t) (all_known t) m.0)))
    ∙ if-true (rising (cut t n)) _ _ (cut-rising t n l h (test-met (rising t) Done LinesFall refl m.1).0)
