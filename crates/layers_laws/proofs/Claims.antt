-- The proofs of the statements in specs/Claims.antt, each under its statement's name. A row of the table of orders is three letters, and
-- each order has S, L and U among them.
use Prim.Native.Nat.{ℕ, zero, suc, ◌-◌, ◌%◌, ◌≤◌, ◌<◌}
use mathlib.Core.Path.{◌≡◌, refl, sym, ap, ap₂, subst, ◌∙◌}
use mathlib.Core.Logic.{◌⊎◌, inl, inr}
use mathlib.Core.List.{List, [], ◌∷◌, ◌++◌}
use mathlib.Core.Bool.{Bool, true, false, cond, ◌&&◌}
use native.Mathlib.Omega.{arith}
use lib.Dec.{eqb}
use lib.ListN.{length, get_or}
use borrow.Author.Tests.{eqb-true, eqb-false, leb-true}
use Rattle.lists.specs.Search.{all}
use Rattle.lists.proofs.Search.{all_of, all-at}
use Rattle.lists.proofs.Tab.{tab-ext, get_or-tab}
use Rattle.lists.proofs.Cond.{if-true, left-true, right-true}
use Rattle.reply.specs.Reply.{is_done}
use Rattle.reply.specs.First.{first_of, first_hit}
use Rattle.reply.specs.declared.Reply.{Reply}
use Rattle.reply.specs.declared.Reply.TheVariants.{Done, BufferLength, BadDot}
use Rattle.reply.proofs.Done.{is-done}
use Rattle.reply.proofs.Order.{first_done, first-refused, last_of, hit_later, hit-early}
use Rattle.colour.specs.Bytes.{widened}
use Rattle.state.specs.Lawful.{lawful_reply}
use Rattle.state.specs.declared.State.{State}
use Rattle.state_bits.specs.Bits.{layer_order}
use Rattle.surface.specs.Dots.{top_dot}
use Rattle.surface.specs.declared.lines.LineNumber.{LineNumber}
use Rattle.record_layout.specs.Record.{read_record}
use Rattle.layer_dots.specs.Orders.{Layer, S, L, U, letters_of, dot_of, top_shown, layered_dot, layered, layered_row}
use Rattle.layer_dots.specs.Numbers.{sprite_allowed, layer2_allowed, both_allowed, is_order, lent_reply, order_reply, numbers_reply}
use Rattle.layer_dots.proofs.Over.{by-priority}
use Rattle.line.specs.Lines.{composed_dot, composed_line, line_dot, drawn_line}
use Rattle.line_laws.proofs.Composed.{composed-most, typed-bytes}
use Rattle.line_replies.specs.Replies.{line_reply, lengths_reply, state_reply, draw_reply, drawn_if}
use Rattle.lent_drawing.specs.Drawn.{lent_draw_reply, lent_drawn}
use Rattle.layers.specs.Layers.{layered_line, layered_reply}
use Rattle.lent_layers.specs.Lent.{lent_layered}
use Rattle.layers_laws.specs.Claims.{Transparent, NothingLent, PriorityShows, Shows, OneOfThree}

-- what holds of each of the six orders
by_order : (P : List Layer → Type 0) (n : ℕ) → n ≤ 5 → P (S ∷ L ∷ U ∷ []) → P (L ∷ S ∷ U ∷ []) → P (S ∷ U ∷ L ∷ []) → P (L ∷ U ∷ S ∷ []) → P (U ∷ S ∷ L ∷ [])
    → P (U ∷ L ∷ S ∷ []) → P (letters_of n)
by_order P zero h a b c d e f = a
by_order P (suc zero) h a b c d e f = b
by_order P (suc (suc zero)) h a b c d e f = c
by_order P (suc (suc (suc zero))) h a b c d e f = d
by_order P (suc (suc (suc (suc zero)))) h a b c d e f = e
by_order P (suc (suc (suc (suc (suc zero))))) h a b c d e f = f
by_order P (suc (suc (suc (suc (suc (suc n)))))) h a b c d e f = absurd (omega arith)

-- ---- nothing lent

-- the first refusal of pieces is that of their two parts
joined : (rs ss : List Reply) → first_hit (rs ++ ss) ≡ first_of (first_hit rs) (first_hit ss)
joined rs ss = go (is_done (first_hit rs)) refl
  where
    go : (b : Bool) → is_done (first_hit rs) ≡ b → first_hit (rs ++ ss) ≡ first_of (first_hit rs) (first_hit ss)
    go true e = hit_later rs ss (is-done (first_hit rs) e) ∙ sym (first_done (first_hit rs) (first_hit ss) e)
    go false e = hit-early rs ss e ∙ sym (first-refused (first_hit rs) (first_hit ss) e)

-- where 19 is not, what comes before it is the answer
in_order : (s : State) (r : Reply) → is_order (layer_order s.ula) ≡ true → first_hit (r ∷ order_reply s.ula ∷ []) ≡ r
unfolding first_hit first_of order_reply
in_order s r o = ap (λ (q : Reply). first_of r (first_of q Done)) (if-true _ _ _ o) ∙ last_of r

bare-dot : (n fallback u : ℕ) → n ≤ 5 → layered_dot n fallback 512 512 u ≡ top_dot u fallback
unfolding layered_dot top_shown top_dot
bare-dot n fallback u h = by_order (λ (xs : List Layer). top_shown xs fallback 512 512 u ≡ top_dot u fallback) n h refl refl refl refl refl refl

module _ (layer2 sprites : List ℕ) (cl : Transparent layer2) (cs : Transparent sprites) where
  bare-allowed : all (both_allowed layer2 sprites) 640 ≡ true
  bare-allowed =
      all_of (both_allowed layer2 sprites) 640 (λ k h. ap₂ (λ (x y : ℕ). layer2_allowed x && sprite_allowed y) (cl.every k h) (cs.every k h))

  bare-numbers : numbers_reply layer2 sprites ≡ Done
  unfolding numbers_reply
  bare-numbers = if-true (all (both_allowed layer2 sprites) 640) Done BadDot bare-allowed

  bare-lengths : lent_reply (length layer2) (length sprites) ≡ Done
  unfolding lent_reply
  bare-lengths = ap₂ (λ (x y : ℕ). cond (eqb x 640 && eqb y 640) Done BufferLength) cl.long cs.long

  bare-line : (s : State) (ula tile : List ℕ) (line : LineNumber) → is_order (layer_order s.ula) ≡ true → layered_line s ula tile layer2 sprites line ≡ drawn_line s ula tile line
  unfolding layered_line layered_row layered composed_line drawn_line line_dot
  bare-line s ula tile line o =
      tab-ext _ _ 640 (λ k h.
      rw (cs.every k h, cl.every k h, get_or-tab (composed_dot s ula tile line) 640 k h)
      (bare-dot (layer_order s.ula) (widened s.ula.fallback) (composed_dot s ula tile line k) (leb-true (layer_order s.ula) 5 o)))

  -- two pieces are done, and 19 comes after the others
  bare-reply : (line : LineNumber) (ula tile out : ℕ) (lent : Reply) (s : State)
      → layered_reply line ula tile out lent s layer2 sprites
      ≡ first_hit (first_hit (line_reply line ∷ lengths_reply ula tile out ∷ lent ∷ state_reply s.ula s.tiles s.palette s.ports ∷ []) ∷ order_reply s.ula ∷ [])
  unfolding layered_reply first_hit first_of
  bare-reply line ula tile out lent s =
      rw (bare-lengths, bare-numbers)
      (joined (line_reply line ∷ lengths_reply ula tile out ∷ lent ∷ state_reply s.ula s.tiles s.palette s.ports ∷ []) (order_reply s.ula ∷ []))

pub nothing_lent : NothingLent
unfolding draw_reply lent_draw_reply lent_layered lent_drawn
nothing_lent =
    record {
      lines = λ s ula tile layer2 sprites line cl cs o. bare-line layer2 sprites cl cs s ula tile line o;
      replies = λ s layer2 sprites line ula tile out cl cs. bare-reply layer2 sprites cl cs line ula tile out (lawful_reply s) s;
      lent-lines = λ b ula tile layer2 sprites dots line cl cs o.
          ap₂ (λ (r : Reply) (row : List ℕ). drawn_if r row dots)
          (bare-reply layer2 sprites cl cs line (length ula) (length tile) (length dots) (read_record b).reply (read_record b).state ∙ in_order (read_record b).state _ o)
          (bare-line layer2 sprites cl cs (read_record b).state ula tile line o);
      lent-replies = λ b layer2 sprites line ula tile dots cl cs. bare-reply layer2 sprites cl cs line ula tile dots (read_record b).reply (read_record b).state;
    }

-- ---- what a dot shows

dot_at : (s : State) (ula tile layer2 sprites : List ℕ) (line : LineNumber) (k : ℕ) → k < 640
    → get_or (layered_line s ula tile layer2 sprites line) k 0
    ≡ layered_dot (layer_order s.ula) (widened s.ula.fallback) (get_or sprites k 0) (get_or layer2 k 0) (composed_dot s ula tile line k)
unfolding layered_line layered_row layered composed_line
dot_at s ula tile layer2 sprites line k h =
    get_or-tab _ 640 k h
    ∙ ap (layered_dot (layer_order s.ula) (widened s.ula.fallback) (get_or sprites k 0) (get_or layer2 k 0)) (get_or-tab (composed_dot s ula tile line) 640 k h)

pub priority_shows : PriorityShows
unfolding layered_dot
priority_shows s ula tile layer2 sprites line k h p = dot_at s ula tile layer2 sprites line k h ∙ if-true _ _ _ p

module _ (fallback s l u : ℕ) where
  -- one of the three dots is it, and a colour
  abbrev Tops : ℕ → Type 0
  Tops dot = ((dot ≡ s) × (s ≤ 511)) ⊎ (((dot ≡ l) × (l ≤ 511)) ⊎ ((dot ≡ u) × (u ≤ 511)))

  -- the dots of these letters are transparent
  abbrev Bare : List Layer → Type 0
  Bare [] = Unit {0}
  Bare (x ∷ xs) = (dot_of x s l u ≡ 512) × Bare xs

  module _ (hs : s ≤ 512) (hl : l ≤ 512) (hu : u ≤ 512) where
    opaque : (x : Layer) → eqb (dot_of x s l u) 512 ≡ false → Tops (dot_of x s l u)
    opaque S e = inl (refl, omega (arith, eqb-false s 512 e))
    opaque L e = inr (inl (refl, omega (arith, eqb-false l 512 e)))
    opaque U e = inr (inr (refl, omega (arith, eqb-false u 512 e)))

    -- the topmost that is not transparent, or the fallback below transparent ones alone
    tops : (xs : List Layer) → Tops (top_shown xs fallback s l u) ⊎ ((top_shown xs fallback s l u ≡ fallback) × Bare xs)
    unfolding top_shown top_dot
    tops [] = inr (refl, tt)
    tops (x ∷ xs) = go (tops xs) (eqb (dot_of x s l u) 512) refl
      where
        go : Tops (top_shown xs fallback s l u) ⊎ ((top_shown xs fallback s l u ≡ fallback) × Bare xs) → (b : Bool) → eqb (dot_of x s l u) 512 ≡ b
            → Tops (cond b (top_shown xs fallback s l u) (dot_of x s l u)) ⊎ ((cond b (top_shown xs fallback s l u) (dot_of x s l u) ≡ fallback) × Bare (x ∷ xs))
        go (inl t) true e = inl t
        go (inr q) true e = inr (q.0, (eqb-true (dot_of x s l u) 512 e, q.1))
        go r false e = inl (opaque x e)

    -- all three letters are in each order
    all-bare : (n : ℕ) → n ≤ 5 → Bare (letters_of n) → (s ≡ 512) × (l ≡ 512) × (u ≡ 512)
    all-bare n h =
        by_order (λ (xs : List Layer). Bare xs → (s ≡ 512) × (l ≡ 512) × (u ≡ 512)) n h (λ c. (c.0, c.1.0, c.1.1.0)) (λ c. (c.1.0, c.0, c.1.1.0)) (λ c. (c.0, c.1.1.0, c.1.0))
        (λ c. (c.1.1.0, c.0, c.1.0)) (λ c. (c.1.0, c.1.1.0, c.0)) (λ c. (c.1.1.0, c.1.0, c.0))

    plain-shows : (n : ℕ) → n ≤ 5 → Shows fallback s l u (top_shown (letters_of n) fallback s l u)
    plain-shows n h = go (tops (letters_of n))
      where
        go : Tops (top_shown (letters_of n) fallback s l u) ⊎ ((top_shown (letters_of n) fallback s l u ≡ fallback) × Bare (letters_of n)) → Shows fallback s l u (top_shown (letters_of n) fallback s l u)
        go (inl (inl t)) = inl t
        go (inl (inr (inl t))) =
            let m : l % 1024 ≡ l = omega arith in
            inr (inl (t.0 ∙ sym m, omega (arith, t.1)))
        go (inl (inr (inr t))) = inr (inr (inl t))
        go (inr q) = let c = all-bare n h q.1 in inr (inr (inr (q.0, c.0, c.1, c.2)))

  dot-shows : (n : ℕ) → n ≤ 5 → layer2_allowed l ≡ true → s ≤ 512 → u ≤ 512 → Shows fallback s l u (layered_dot n fallback s l u)
  unfolding layered_dot
  dot-shows n h a hs hu =
      by-priority (λ (p : Bool). Shows fallback s l u (cond p (l - 1024) (top_shown (letters_of n) fallback s l u))) l a
      (λ g m. inr (inl (omega arith, omega arith)))
      (λ hl. plain-shows hs hl hu n h)

pub one_of_three : OneOfThree
one_of_three s ula tile layer2 sprites line k h typed lawful o a =
    let both = all-at (both_allowed layer2 sprites) 640 a k h in
    let l = get_or layer2 k 0 in
    let p = get_or sprites k 0 in
    let u = composed_dot s ula tile line k in
    let fallback = widened s.ula.fallback in
    subst (λ (dot : ℕ). Shows fallback p l u dot) (sym (dot_at s ula tile layer2 sprites line k h))
    (dot-shows fallback p l u (layer_order s.ula) (leb-true (layer_order s.ula) 5 o) (left-true (layer2_allowed l) (sprite_allowed p) both)
    (leb-true p 512 (right-true (layer2_allowed l) (sprite_allowed p) both)) (composed-most s (typed-bytes s typed) lawful ula tile line k))
