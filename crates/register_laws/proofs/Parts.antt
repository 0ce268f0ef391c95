-- A lawful and typed state taken apart into its groups and put together again, and what replacing one group or palette of it needs.
use mathlib.Core.Path.{◌≡◌, refl}
use mathlib.Core.List.{List, [], ◌∷◌}
use mathlib.Core.Bool.{Bool, true}
use Prim.Native.Nat.{ℕ, zero, suc, ◌≤◌}
use lib.ListN.{set}
use lib.Dec.{eqb}
use borrow.Author.Tests.{le-leb}
use Rattle.lists.proofs.Cond.{either, both, left-true, right-true}
use Rattle.lists.proofs.Chain.{chain, chain-apart}
use Rattle.state.specs.declared.State.{State}
use Rattle.state.specs.declared.Ula.{Ula}
use Rattle.state.specs.declared.Tiles.{Tiles}
use Rattle.state.specs.declared.Palette.{Palette}
use Rattle.state.specs.declared.Turns.{Turns}
use Rattle.state.specs.declared.Ports.{Ports}
use Rattle.register_bounds.specs.Bounds.{colour_fits}
use Rattle.state.specs.Lawful.{lawful_ula, lawful_palette, lawful_tiles, lawful_turns, lawful_ports, all_colours, lawful_state}
use Rattle.state.specs.Typed.{Numbers, UlaTyped, TilesTyped, PaletteTyped, TurnsTyped, PortsTyped, Typed}
use Rattle.state.specs.With.{with_ula, with_tiles, with_palette, with_turns, with_ports}
use Rattle.state.proofs.Kept.{groups, colours}
use Rattle.state.proofs.Typed as typed
use Rattle.register_colours.specs.Colours.{palette_at, with_palette_at}

-- the groups of a lawful state, its palettes, and what its types give
pub record Groups (u : Ula) (p : Palette) (t : Tiles) (r : Turns) (o : Ports) : Type 0 where
  pub ula : lawful_ula u ≡ true
  pub palette : lawful_palette p ≡ true
  pub tiles : lawful_tiles t ≡ true
  pub turns : lawful_turns r ≡ true
  pub ports : lawful_ports o ≡ true

pub record Colours (a b c d : List ℕ) : Type 0 where
  pub ulafirst : all_colours a ≡ true
  pub ulasecond : all_colours b ≡ true
  pub tilefirst : all_colours c ≡ true
  pub tilesecond : all_colours d ≡ true

abbrev pub Parts : State → Type 0
Parts s =
    Groups s.ula s.palette s.tiles s.turns s.ports
    × Colours s.ulafirst s.ulasecond s.tilefirst s.tilesecond
    × Typed s

pub join : (s : State) → Parts s → lawful_state s ≡ true
unfolding lawful_state
join s (g, k, z) =
    both _ _ (both _ _ (both _ _ (both _ _ (both _ _ (both _ _ (both _ _ (both _ _ g.ula g.palette) g.tiles) g.turns) g.ports) k.ulafirst) k.ulasecond) k.tilefirst) k.tilesecond

pub apart : (s : State) → lawful_state s ≡ true
    → Groups s.ula s.palette s.tiles s.turns s.ports × Colours s.ulafirst s.ulasecond s.tilefirst s.tilesecond
unfolding lawful_state
apart s h =
    let all = chain-apart (chain (lawful_ula s.ula) (groups s)) (colours s) h in
    let g = chain-apart (lawful_ula s.ula) (groups s) all.0 in
    let k = all.1 in (
      record { ula = g.0; palette = g.1.0; tiles = g.1.1.0; turns = g.1.1.1.0; ports = g.1.1.1.1.0 },
      record { ulafirst = k.0; ulasecond = k.1.0; tilefirst = k.1.1.0; tilesecond = k.1.1.1.0 },
    )

pub split : (s : State) → lawful_state s ≡ true → Typed s → Parts s
split s h z = let a = apart s h in (a.0, a.1, z)

-- ---- one group replaced

-- a group of a state, its lawful values and its types: a state's own has both, and one that has both may take its place
pub record Group (G : Type 0) (get : State → G) (put : State → G → State) (lawful : G → Bool) (Types : G → Type 0) : Type 0 where
  pub has : (s : State) → Parts s → (lawful (get s) ≡ true) × Types (get s)
  pub takes : (s : State) (x : G) → Parts s → lawful x ≡ true → Types x → Parts (put s x)

pub ula-group : Group Ula (λ s. s.ula) with_ula lawful_ula UlaTyped
ula-group = record {
  has = λ s p. (p.0.ula, p.2.ula);
  takes = λ s x p h t. (record { ula = h; palette = p.0.palette; tiles = p.0.tiles; turns = p.0.turns; ports = p.0.ports }, p.1, typed.with-ula s p.2 x t);
}

pub tiles-group : Group Tiles (λ s. s.tiles) with_tiles lawful_tiles TilesTyped
tiles-group = record {
  has = λ s p. (p.0.tiles, p.2.tiles);
  takes = λ s x p h t. (record { ula = p.0.ula; palette = p.0.palette; tiles = h; turns = p.0.turns; ports = p.0.ports }, p.1, typed.with-tiles s p.2 x t);
}

pub palette-group : Group Palette (λ s. s.palette) with_palette lawful_palette PaletteTyped
palette-group = record {
  has = λ s p. (p.0.palette, p.2.palette);
  takes = λ s x p h t. (record { ula = p.0.ula; palette = h; tiles = p.0.tiles; turns = p.0.turns; ports = p.0.ports }, p.1, typed.with-palette s p.2 x t);
}

pub turns-group : Group Turns (λ s. s.turns) with_turns lawful_turns TurnsTyped
turns-group = record {
  has = λ s p. (p.0.turns, p.2.turns);
  takes = λ s x p h t. (record { ula = p.0.ula; palette = p.0.palette; tiles = p.0.tiles; turns = h; ports = p.0.ports }, p.1, typed.with-turns s p.2 x t);
}

pub ports-group : Group Ports (λ s. s.ports) with_ports lawful_ports PortsTyped
ports-group = record {
  has = λ s p. (p.0.ports, p.2.ports);
  takes = λ s x p h t. (record { ula = p.0.ula; palette = p.0.palette; tiles = p.0.tiles; turns = p.0.turns; ports = h }, p.1, typed.with-ports s p.2 x t);
}

-- ---- one palette replaced

pub set-colours : (l : List ℕ) (i c : ℕ) → all_colours l ≡ true → c ≤ 511 → all_colours (set l i c) ≡ true
set-colours [] i c h k = refl
set-colours (x ∷ xs) zero c h k = both _ _ (le-leb c 511 k) (right-true (colour_fits x) (all_colours xs) h)
set-colours (x ∷ xs) (suc i) c h k =
    both _ _ (left-true (colour_fits x) (all_colours xs) h) (set-colours xs i c (right-true (colour_fits x) (all_colours xs) h) k)

-- what holds of the four palettes holds of the one chosen
palette-at : (P : List ℕ → Type 0) (n : ℕ) (s : State) → P s.ulafirst → P s.ulasecond → P s.tilefirst → P s.tilesecond
    → P (palette_at n s)
palette-at P n s a b c d = either P (eqb n 0) _ _ a (either P (eqb n 4) _ _ b (either P (eqb n 3) _ _ c d))

abbrev Lawful : List ℕ → Type 0
Lawful l = all_colours l ≡ true

pub palette-lawful : (n : ℕ) (s : State) → Colours s.ulafirst s.ulasecond s.tilefirst s.tilesecond → all_colours (palette_at n s) ≡ true
palette-lawful n s k = palette-at Lawful n s k.ulafirst k.ulasecond k.tilefirst k.tilesecond

pub palette-typed : (n : ℕ) (s : State) → Typed s → Numbers 256 65536 (palette_at n s)
palette-typed n s z = palette-at (Numbers 256 65536) n s z.ulafirst z.ulasecond z.tilefirst z.tilesecond

pub with-palette-at : (n : ℕ) (s : State) (l : List ℕ) → Parts s → all_colours l ≡ true → Numbers 256 65536 l → Parts (with_palette_at n s l)
with-palette-at n s l (g, k, z) h m =
    either Parts (eqb n 0) _ _
    (g, record { ulafirst = h; ulasecond = k.ulasecond; tilefirst = k.tilefirst; tilesecond = k.tilesecond }, typed.with-ulafirst s z l m)
    (either Parts (eqb n 4) _ _
    (g, record { ulafirst = k.ulafirst; ulasecond = h; tilefirst = k.tilefirst; tilesecond = k.tilesecond }, typed.with-ulasecond s z l m)
    (either Parts (eqb n 3) _ _
    (g, record { ulafirst = k.ulafirst; ulasecond = k.ulasecond; tilefirst = h; tilesecond = k.tilesecond }, typed.with-tilefirst s z l m)
    (g, record { ulafirst = k.ulafirst; ulasecond = k.ulasecond; tilefirst = k.tilefirst; tilesecond = h }, typed.with-tilesecond s z l m)))
