-- Rules 15.4 to 15.6: what no single call states of a line with lent layers, once over the six orders. A statement here is proved by the
-- law of its name in proofs/Claims.antt.
use Rattle.std.specs.Prelude.{ℕ, ◌-◌, ◌%◌, ◌≤◌, ◌<◌, ◌≡◌, ◌⊎◌, List, [], ◌∷◌, true, length, get_or}
use Rattle.lists.specs.Search.{all}
use Rattle.reply.specs.First.{first_hit}
use Rattle.colour.specs.Bytes.{widened}
use Rattle.state.specs.Lawful.{lawful_state}
use Rattle.state.specs.Typed.{Typed}
use Rattle.state.specs.declared.State.{State}
use Rattle.state_bits.specs.Bits.{layer_order}
use Rattle.surface.specs.declared.lines.LineNumber.{LineNumber}
use Rattle.record_layout.specs.Record.{read_record}
use Rattle.layer_dots.specs.Orders.{is_priority}
use Rattle.layer_dots.specs.Numbers.{both_allowed, is_order, order_reply}
use Rattle.line.specs.Lines.{composed_dot, drawn_line}
use Rattle.line_replies.specs.Replies.{draw_reply}
use Rattle.lent_drawing.specs.Drawn.{lent_draw_reply, lent_drawn}
use Rattle.layers.specs.Layers.{layered_line, layers_reply}
use Rattle.lent_layers.specs.Lent.{lent_layers_reply, lent_layered}

-- a line of transparent dots
pub record Transparent (dots : List ℕ) : Type 0 where
  pub long : length dots ≡ 640
  pub every : (k : ℕ) → k < 640 → get_or dots k 0 ≡ 512

-- both lent lines transparent: the line of a drawing in each of the six orders, and its reply, which 19 comes after
pub record NothingLent : Type 0 where
  pub lines : (s : State) (ula tile layer2 sprites : List ℕ) (line : LineNumber) → Transparent layer2 → Transparent sprites → is_order (layer_order s.ula) ≡ true
      → layered_line s ula tile layer2 sprites line ≡ drawn_line s ula tile line
  pub replies : (s : State) (layer2 sprites : List ℕ) (line : LineNumber) (ula tile out : ℕ) → Transparent layer2 → Transparent sprites
      → layers_reply line ula tile out s layer2 sprites ≡ first_hit (draw_reply line ula tile out s ∷ order_reply s.ula ∷ [])
  -- and so by a record
  pub lent-lines : (b ula tile layer2 sprites dots : List ℕ) (line : LineNumber) → Transparent layer2 → Transparent sprites → is_order (layer_order (read_record b).state.ula) ≡ true
      → lent_layered line ula tile dots b layer2 sprites ≡ lent_drawn line ula tile dots b
  pub lent-replies : (b layer2 sprites : List ℕ) (line : LineNumber) (ula tile dots : ℕ) → Transparent layer2 → Transparent sprites
      → lent_layers_reply line ula tile dots b layer2 sprites ≡ first_hit (lent_draw_reply line ula tile dots b ∷ order_reply (read_record b).state.ula ∷ [])

-- a priority dot is shown, whatever the order and the other two dots
abbrev pub PriorityShows : Type 0
PriorityShows =
    (s : State) (ula tile layer2 sprites : List ℕ) (line : LineNumber) (k : ℕ) → k < 640 → is_priority (get_or layer2 k 0) ≡ true
    → get_or (layered_line s ula tile layer2 sprites line) k 0 ≡ get_or layer2 k 0 - 1024

-- a dot shows the sprite's colour, or Layer 2's, or the composed one; the fallback only where all three are transparent
abbrev pub Shows : ℕ → ℕ → ℕ → ℕ → ℕ → Type 0
Shows fallback s l u dot =
    ((dot ≡ s) × (s ≤ 511))
    ⊎ (((dot ≡ l % 1024) × (l % 1024 ≤ 511))
    ⊎ (((dot ≡ u) × (u ≤ 511))
    ⊎ ((dot ≡ fallback) × (s ≡ 512) × (l ≡ 512) × (u ≡ 512))))

-- every dot of a line of a lawful and typed state in one of the six orders, whatever the banks hold
abbrev pub OneOfThree : Type 0
OneOfThree =
    (s : State) (ula tile layer2 sprites : List ℕ) (line : LineNumber) (k : ℕ) → k < 640 → Typed s → lawful_state s ≡ true → is_order (layer_order s.ula) ≡ true
    → all (both_allowed layer2 sprites) 640 ≡ true
    → Shows (widened s.ula.fallback) (get_or sprites k 0) (get_or layer2 k 0) (composed_dot s ula tile line k) (get_or (layered_line s ula tile layer2 sprites line) k 0)
