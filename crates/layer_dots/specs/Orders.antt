-- Rules 15.2 and 15.3: a dot of the sprites, of Layer 2 and of the composed line by the order of the layers.
use Rattle.std.specs.Prelude.{ℕ, zero, suc, ◌-◌, List, [], ◌∷◌, Bool, cond, leb, get_or}
use Rattle.lists.specs.Tab.{tab}
use Rattle.colour.specs.Bytes.{widened}
use Rattle.state.specs.declared.Ula.{Ula}
use Rattle.state_bits.specs.Bits.{layer_order}
use Rattle.surface.specs.Dots.{top_dot}

-- S the sprites, L Layer 2, U the composed line before the fallback
pub data Layer : Type 0 where
  S : Layer
  L : Layer
  U : Layer

-- the orders by number, topmost layer first: 000 SLU, 001 LSU, 010 SUL, 011 LUS, 100 USL, 101 ULS
abbrev pub orders : List (List Layer)
orders =
    (S ∷ L ∷ U ∷ [])
    ∷ (L ∷ S ∷ U ∷ [])
    ∷ (S ∷ U ∷ L ∷ [])
    ∷ (L ∷ U ∷ S ∷ [])
    ∷ (U ∷ S ∷ L ∷ [])
    ∷ (U ∷ L ∷ S ∷ [])
    ∷ []

-- the row of a table at a number; past its end there is none
abbrev pub order_at : List (List Layer) → ℕ → List Layer
order_at [] n = []
order_at (row ∷ rows) zero = row
order_at (row ∷ rows) (suc n) = order_at rows n

-- the letters of $15 bits 4-2; 110 and 111 are no order
abbrev pub letters_of : ℕ → List Layer
letters_of order = order_at orders order

-- the dot of a layer, of the three that lie over each other
abbrev pub dot_of : Layer → ℕ → ℕ → ℕ → ℕ
dot_of S s l u = s
dot_of L s l u = l
dot_of U s l u = u

-- the topmost that is not transparent; the fallback only where all are
unfoldable pub top_shown : List Layer → ℕ → ℕ → ℕ → ℕ → ℕ
top_shown [] fallback s l u = fallback
top_shown (x ∷ xs) fallback s l u = top_dot (dot_of x s l u) (top_shown xs fallback s l u)

-- a priority dot of Layer 2: a colour plus 1,024
abbrev pub is_priority : ℕ → Bool
is_priority l = leb 1024 l

-- a priority dot is above all and shows its colour; else the order decides
unfoldable pub layered_dot : ℕ → ℕ → ℕ → ℕ → ℕ → ℕ
layered_dot order fallback s l u = cond (is_priority l) (l - 1024) (top_shown (letters_of order) fallback s l u)

-- the lines of the sprites and of Layer 2 with a composed row
unfoldable pub layered : ℕ → ℕ → List ℕ → List ℕ → List ℕ → List ℕ
layered order fallback sprites layer2 row =
    tab (λ (k : ℕ). layered_dot order fallback (get_or sprites k 0) (get_or layer2 k 0) (get_or row k 0)) 640

-- by the ULA's registers: the order of $15, and the fallback, widened as $41 does
unfoldable pub layered_row : Ula → List ℕ → List ℕ → List ℕ → List ℕ
layered_row u sprites layer2 row = layered (layer_order u) (widened u.fallback) sprites layer2 row
