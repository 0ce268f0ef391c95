-- A drawing with lent lines, of a state or of one in a record: what it has met that is not refused early or late, its reply by these two
-- parts, and the line that is laid.
use Prim.Native.Nat.{ℕ}
use mathlib.Core.Path.{◌≡◌, refl, sym, ap, ◌∙◌}
use mathlib.Core.List.{List}
use mathlib.Core.Bool.{Bool, true, false, ◌&&◌}
use lib.Dec.{eqb}
use lib.ListN.{length}
use borrow.Author.Tests.{eqb-true}
use Rattle.lists.specs.Search.{all}
use Rattle.lists.proofs.Tab.{get_or-tab, length-tab}
use Rattle.lists.proofs.Cond.{left-true, right-true}
use Rattle.reply.specs.Reply.{is_done}
use Rattle.reply.specs.First.{first_hit}
use Rattle.reply.specs.declared.Reply.{Reply}
use Rattle.reply.specs.declared.Reply.TheVariants.{Done, BufferLength, NoOrder, BadDot}
use Rattle.reply.proofs.Done.{is-done, refused, test-met}
use Rattle.reply.proofs.Order.{all_done, hit_later, hit-early}
use Rattle.state.specs.Lawful.{lawful_state}
use Rattle.state.specs.declared.State.{State}
use Rattle.state.specs.declared.Ula.{Ula}
use Rattle.state_bits.specs.Bits.{layer_order}
use Rattle.surface.specs.Lines.{is_line}
use Rattle.surface.specs.declared.lines.LineNumber.{LineNumber}
use Rattle.line_replies.proofs.Exits.{line-met, lengths-met}
use Rattle.layer_dots.specs.Orders.{layered_row}
use Rattle.layer_dots.specs.Numbers.{both_allowed, is_order, lent_reply, order_reply, numbers_reply}
use Rattle.layer_dots.specs.Laid.{LayerBounds}
use Rattle.line.specs.Lines.{composed_dot, composed_line}
use Rattle.line.specs.Shown.{ShownBytes}
use Rattle.line_laws.proofs.Composed.{composed-most}
use Rattle.layers.specs.Layers.{layered_line, early_pieces, late_pieces, layered_reply}

lent_met : (a b : ℕ) → lent_reply a b ≡ Done → (a ≡ 640) × (b ≡ 640)
unfolding lent_reply
lent_met a b d =
    let h = (test-met (eqb a 640 && eqb b 640) Done BufferLength refl d).0 in
    (eqb-true a 640 (left-true (eqb a 640) (eqb b 640) h), eqb-true b 640 (right-true (eqb a 640) (eqb b 640) h))

-- ---- the replies

-- what a drawing has met that is not refused early
module _ (line : LineNumber) (ula tile out layer2 sprites : ℕ) (state : Reply) (d : first_hit (early_pieces line ula tile out layer2 sprites state) ≡ Done) where
  pub lengths-known : (layer2 ≡ 640) × (sprites ≡ 640)
  lengths-known = lent_met layer2 sprites (all_done (early_pieces line ula tile out layer2 sprites state) d).1.1.0

  pub early-met : (is_line line ≡ true) × (ula ≡ 16384) × (tile ≡ 16384) × (out ≡ 640) × (state ≡ Done)
  early-met =
      let m = all_done (early_pieces line ula tile out layer2 sprites state) d in
      let q = lengths-met ula tile out m.1.0 in
      (line-met line m.0, q.0, q.1, q.2, m.1.1.1.0)

-- and not late
pub late-met : (s : State) (layer2 sprites : List ℕ) → first_hit (late_pieces s layer2 sprites) ≡ Done
    → (is_order (layer_order s.ula) ≡ true) × (all (both_allowed layer2 sprites) 640 ≡ true)
unfolding order_reply numbers_reply
late-met s layer2 sprites d =
    let m = all_done (late_pieces s layer2 sprites) d in
    ((test-met (is_order (layer_order s.ula)) Done NoOrder refl m.1.0).0, (test-met (all (both_allowed layer2 sprites) 640) Done BadDot refl m.1.1.0).0)

module _ (line : LineNumber) (ula tile out : ℕ) (state : Reply) (s : State) (layer2 sprites : List ℕ) where
  abbrev early : List Reply
  early = early_pieces line ula tile out (length layer2) (length sprites) state

  abbrev late : List Reply
  late = late_pieces s layer2 sprites

  abbrev reply : Reply
  reply = layered_reply line ula tile out state s layer2 sprites

  -- the reply is what is refused early, or else late
  pub refused-late : first_hit early ≡ Done → reply ≡ first_hit late
  unfolding layered_reply
  refused-late d = hit_later early late d

  pub refused-early : is_done (first_hit early) ≡ false → reply ≡ first_hit early
  unfolding layered_reply
  refused-early d = hit-early early late d

  -- a drawing that is not refused is refused neither early nor late
  pub both-met : reply ≡ Done → (first_hit early ≡ Done) × (first_hit late ≡ Done)
  both-met d = go (is_done (first_hit early)) refl
    where
      go : (b : Bool) → is_done (first_hit early) ≡ b → (first_hit early ≡ Done) × (first_hit late ≡ Done)
      go true e = let h = is-done (first_hit early) e in (h, sym (refused-late h) ∙ d)
      go false e = absurd (refused (first_hit early) e (sym (refused-early e) ∙ d))

-- ---- the line

module _ (s : State) (ula tile layer2 sprites row : List ℕ) (line : LineNumber) (u : Ula) (eu : u ≡ s.ula) (er : row ≡ composed_line s ula tile line) where
  pub row-bounds : ShownBytes s → lawful_state s ≡ true → length layer2 ≡ 640 → length sprites ≡ 640 → is_order (layer_order s.ula) ≡ true
      → all (both_allowed layer2 sprites) 640 ≡ true → LayerBounds (layer_order u) layer2 sprites row
  unfolding composed_line
  row-bounds b w l2 sp o a =
      record {
        is-order = ap (λ (x : Ula). is_order (layer_order x)) eu ∙ o;
        layer2-long = l2;
        sprites-long = sp;
        row-long = ap length er ∙ length-tab (composed_dot s ula tile line) 640;
        allowed = a;
        dots = λ k h. rw (er, get_or-tab (composed_dot s ula tile line) 640 k h) (composed-most s b w ula tile line k);
      }

  pub line-laid : (out : List ℕ) → out ≡ layered_row u sprites layer2 row → out ≡ layered_line s ula tile layer2 sprites line
  unfolding layered_line
  line-laid out d = d ∙ rw (eu, er)
