-- Rules 9.3, 9.19, 9.20 and 15.1: what a lent line may hold, and what refuses one.
use Rattle.std.specs.Prelude.{ℕ, List, Bool, cond, ◌&&◌, ◌||◌, leb, eqb, get_or}
use Rattle.lists.specs.Search.{all}
use Rattle.reply.specs.declared.Reply.{Reply}
use Rattle.reply.specs.declared.Reply.TheVariants.{Done, BufferLength, NoOrder, BadDot}
use Rattle.state.specs.declared.Ula.{Ula}
use Rattle.state_bits.specs.Bits.{layer_order}

-- sprites: a colour, or 512 for transparent
abbrev pub sprite_allowed : ℕ → Bool
sprite_allowed n = leb n 512

-- Layer 2: besides, a colour plus 1,024
abbrev pub layer2_allowed : ℕ → Bool
layer2_allowed n = leb n 512 || leb 1024 n && leb n 1535

-- both numbers at a place of the two lines
abbrev pub both_allowed : List ℕ → List ℕ → ℕ → Bool
both_allowed layer2 sprites k = layer2_allowed (get_or layer2 k 0) && sprite_allowed (get_or sprites k 0)

-- 3: one of the two lent lines is not 640 long
unfoldable pub lent_reply : ℕ → ℕ → Reply
lent_reply layer2 sprites = cond (eqb layer2 640 && eqb sprites 640) Done BufferLength

-- one of the six orders
abbrev pub is_order : ℕ → Bool
is_order n = leb n 5

-- 19: $15 bits 4-2 are 110 or 111
unfoldable pub order_reply : Ula → Reply
order_reply u = cond (is_order (layer_order u)) Done NoOrder

-- 20: a number not allowed, whether it shows or not
unfoldable pub numbers_reply : List ℕ → List ℕ → Reply
numbers_reply layer2 sprites = cond (all (both_allowed layer2 sprites) 640) Done BadDot
