-- What the types of a state's fields give: a byte is below 256, and an array has its length and the bound of its elements.
-- Numbers in definitions are unbounded, so a claim over states takes this of them.
use Rattle.std.specs.Prelude.{ℕ, ◌<◌, ◌≡◌, List, length, get_or}
use Rattle.state.specs.declared.State.{State}
use Rattle.state.specs.declared.Ula.{Ula}
use Rattle.state.specs.declared.Tiles.{Tiles}
use Rattle.state.specs.declared.Palette.{Palette}
use Rattle.state.specs.declared.Turns.{Turns}
use Rattle.state.specs.declared.Ports.{Ports}

-- n numbers below a bound
pub record Numbers (n bound : ℕ) (xs : List ℕ) : Type 0 where
  pub long : length xs ≡ n
  pub below : (i : ℕ) → get_or xs i 0 < bound

pub record UlaTyped (u : Ula) : Type 0 where
  pub transparent : u.transparent < 256
  pub layers : u.layers < 256
  pub peripheral : u.peripheral < 256
  pub fallback : u.fallback < 256
  pub control : u.control < 256
  pub x : u.x < 256
  pub y : u.y < 256
  pub loresx : u.loresx < 256
  pub loresy : u.loresy < 256

pub record TilesTyped (t : Tiles) : Type 0 where
  pub transparent : t.transparent < 256
  pub control : t.control < 256
  pub attribute : t.attribute < 256
  pub xhigh : t.xhigh < 256
  pub xlow : t.xlow < 256
  pub y : t.y < 256
  pub map : t.map < 256
  pub definitions : t.definitions < 256

pub record PaletteTyped (p : Palette) : Type 0 where
  pub control : p.control < 256
  pub index : p.index < 256
  pub mask : p.mask < 256
  pub half : p.half < 256

pub record TurnsTyped (t : Turns) : Type 0 where
  pub ula : t.ula < 256
  pub tiles : t.tiles < 256

pub record PortsTyped (p : Ports) : Type 0 where
  pub border : p.border < 256
  pub timex : p.timex < 256
  pub select : p.select < 256

pub record Typed (s : State) : Type 0 where
  pub ula : UlaTyped s.ula
  pub tiles : TilesTyped s.tiles
  pub palette : PaletteTyped s.palette
  pub turns : TurnsTyped s.turns
  pub ports : PortsTyped s.ports
  pub frame : s.frame < 256
  pub ulaclip : Numbers 4 256 s.ulaclip
  pub tileclip : Numbers 4 256 s.tileclip
  pub plus : Numbers 64 256 s.plus
  pub ulafirst : Numbers 256 65536 s.ulafirst
  pub ulasecond : Numbers 256 65536 s.ulasecond
  pub tilefirst : Numbers 256 65536 s.tilefirst
  pub tilesecond : Numbers 256 65536 s.tilesecond
