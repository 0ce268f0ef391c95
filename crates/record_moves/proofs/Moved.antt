-- The bytes of a moved record: in either version a record has the other's bytes but for its head and, in version 2, $26 and $27.
use mathlib.Core.Path.{◌≡◌, refl, sym, ap, ◌∙◌}
use mathlib.Core.List.{List, ◌++◌, append_assoc}
use mathlib.Core.Bool.{true}
use Prim.Native.Nat.{ℕ, ◌+◌, ◌-◌, ◌≤◌}
use native.Mathlib.Omega.{arith}
use lib.ListN.{length, take, drop, length-drop}
use lib.Seq.{length-take-le, take_all}
use lib.Dec.{eqb}
use borrow.Author.Tests.{eq-eqb, eqb-true}
use Rattle.lists.specs.Bytes.{Bytes}
use Rattle.lists.specs.Placed.{placed}
use Rattle.lists.proofs.Cond.{left-true, right-true}
use Rattle.lists.proofs.Placed.{placed-whole}
use Rattle.state.specs.declared.State.{State}
use Rattle.record_layout.specs.declared.Version.{Version}
use Rattle.record_layout.specs.declared.Version.TheVariants.{Version1, Version2}
use Rattle.record_layout.specs.Version.{added}
use Rattle.record_layout.specs.Places.{parts_place, lores_xplace, ula_clip_place}
use Rattle.record_layout.specs.Record.{head_of, record_in, record_length, accepted, state_as}
use Rattle.record_layout.proofs.Runs.{Run, run_on}
use Rattle.record_layout.proofs.RoundTrip.{long, same_bytes}
use Rattle.record_moves.specs.Moves.{pairs_agree}

-- the two pairs, one by one
pub agree : (s : State) → pairs_agree s ≡ true → (s.ula.x ≡ s.ula.loresx) × (s.ula.y ≡ s.ula.loresy)
agree s e = (
  eqb-true _ _ (left-true (eqb s.ula.x s.ula.loresx) (eqb s.ula.y s.ula.loresy) e),
  eqb-true _ _ (right-true (eqb s.ula.x s.ula.loresx) (eqb s.ula.y s.ula.loresy) e),
)

pub old-pairs : (b : List ℕ) → pairs_agree (state_as Version1 b) ≡ true
unfolding state_as
old-pairs b = rw (eq-eqb (state_as Version1 b).ula.loresx (state_as Version1 b).ula.loresx refl, eq-eqb (state_as Version1 b).ula.loresy (state_as Version1 b).ula.loresy refl)

-- the place of the ULA clip in version 1, and how many bytes of parts all versions have before it
abbrev clip : ℕ
clip = ula_clip_place Version1

abbrev shared : ℕ
shared = clip - parts_place

-- the bytes of a record in version w, by those in version v
abbrev pub bytes_in : Version → Version → List ℕ → List ℕ
bytes_in v w b = head_of w ++ (take shared (drop parts_place b) ++ (take (added w) (drop lores_xplace b) ++ drop (ula_clip_place v) b))

apart : (v w : Version) (s : State) → pairs_agree s ≡ true → record_in w s ≡ bytes_in v w (record_in v s)
apart Version1 Version1 s e = refl
apart Version1 Version2 s e = let p = agree s e in rw (p.0, p.1)
apart Version2 Version1 s e = refl
apart Version2 Version2 s e = let p = agree s e in rw (p.0, p.1)

head-length : (v : Version) → length (head_of v) ≡ parts_place
head-length Version1 = refl
head-length Version2 = refl

module _ (v w : Version) (b : List ℕ) (y : Bytes b) (e : accepted v b ≡ true) (p : pairs_agree (state_as v b) ≡ true) where
  pub moved-bytes : record_in w (state_as v b) ≡ bytes_in v w b
  moved-bytes = apart v w (state_as v b) p ∙ ap (bytes_in v w) (same_bytes v b e y)

  -- what is placed part after part is the record in version w; `n` is what that version adds
  pub moved_made : (t d1 d2 d3 d4 head : List ℕ) (n m r : ℕ) → length t ≡ record_length w → head ≡ head_of w → n ≡ added w → n ≤ 2 → m ≡ ula_clip_place w → r ≡ ula_clip_place v
      → d1 ≡ placed t 0 head → d2 ≡ placed d1 parts_place (take shared (drop parts_place b)) → d3 ≡ placed d2 clip (take (lores_xplace + n - lores_xplace) (drop lores_xplace b))
      → d4 ≡ placed d3 m (take (length b - r) (drop r b))
      → d4 ≡ record_in w (state_as v b)
  moved_made t d1 d2 d3 d4 head n m r lt eh en hn em er e1 e2 e3 e4 =
      let l : length b ≡ record_length v = long v b e in
      let H = head_of w in
      let A = take shared (drop parts_place b) in
      let B = take (added w) (drop lores_xplace b) in
      let C = drop (ula_clip_place v) b in
      let small : lores_xplace + n - lores_xplace ≡ added w = omega (arith, en) in
      let cut : take (length b - r) (drop r b) ≡ C = take_all (length b - r) (drop r b) (omega (arith, length-drop r b)) ∙ ap (λ (k : ℕ). drop k b) er in
      let r1 : Run t 0 d1 H parts_place = (e1 ∙ ap (placed t 0) eh, head-length w) in
      let r2 = run_on t d1 d2 H A 0 parts_place parts_place shared r1 e2 refl (length-take-le shared (drop parts_place b) (omega (arith, length-drop parts_place b, l))) (omega (arith, lt)) in
      let r3 = run_on t d2 d3 (H ++ A) B 0 clip clip (added w) r2 (e3 ∙ ap (λ (k : ℕ). placed d2 clip (take k (drop lores_xplace b))) small) refl (length-take-le (added w) (drop lores_xplace b) (omega (arith, length-drop lores_xplace b, l, en, hn))) (omega (arith, lt)) in
      let r4 = run_on t d3 d4 ((H ++ A) ++ B) C 0 (ula_clip_place w) m (record_length Version1 - clip) r3 (e4 ∙ ap (placed d3 m) cut) (omega (arith, em)) (omega (arith, length-drop (ula_clip_place v) b, l)) (omega (arith, lt, em)) in
      r4.0 ∙ placed-whole t (((H ++ A) ++ B) ++ C) (r4.1 ∙ omega (arith, lt))
      ∙ append_assoc (H ++ A) B C ∙ append_assoc H A (B ++ C) ∙ sym moved-bytes
