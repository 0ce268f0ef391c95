-- The bytes that are copied are the registers one by one.
use native.Mathlib.Omega.{arith}
use mathlib.Core.Path.{◌≡◌, sym, ap, ◌∙◌}
use mathlib.Core.List.{List}
use Prim.Native.Nat.{ℕ, ◌+◌, ◌-◌, ◌*◌, ◌≤◌, ◌<◌}
use lib.ListN.{length, take, drop, get_or}
use lib.Seq.{ext_get_or, get_or-take, get_or-drop}
use Rattle.lists.proofs.Tab.{length-tab, get_or-tab}
use Rattle.lists.proofs.Cuts.{cut-length}
use Rattle.record_layout.specs.Fields.{byte, row_at}
use Rattle.record_layout.proofs.Read.{plus-read}
use Rattle.record_groups.proofs.rows.plus_at.Goals as goal

cut-row : (b : List ℕ) (at n : ℕ) → at + n ≤ length b → take n (drop at b) ≡ row_at byte n b at
cut-row b at n h =
    let f : ℕ → ℕ = λ (i : ℕ). get_or b (at + 1 * i) 0 in
    let e : length (take n (drop at b)) ≡ n = cut-length b at n h in
    ext_get_or 0 (take n (drop at b)) (row_at byte n b at) (e ∙ sym (length-tab f n))
    (λ i k.
    let l : i < n = omega (arith, k, e) in
    let s : at + i ≡ at + 1 * i = omega arith in
    get_or-take n (drop at b) i 0 l ∙ get_or-drop at b i 0 ∙ ap (λ (j : ℕ). get_or b j 0) s ∙ sym (get_or-tab f n i l))

pub returns : goal.returns
returns c =
    let first = c.in_version-first.result in
    let h : first + 64 ≤ length c.args.b.now = omega arith in
    let e : first + 64 - first ≡ 64 = omega arith in
    c.copy_from_slice.ensures.after ∙ ap (λ (n : ℕ). take n (drop first c.args.b.now)) e ∙ cut-row c.args.b.now first 64 h
    ∙ ap (row_at byte 64 c.args.b.now) c.in_version-first.ensures ∙ plus-read _ _
