-- The reset state is lawful and typed: its tests are computed.
use Prim.Native.Nat.{ℕ}
use mathlib.Core.Path.{◌≡◌, refl}
use mathlib.Core.Bool.{true}
use lib.Dec.{lit<}
use lib.ListN.{replicate}
use Rattle.state.specs.Lawful.{lawful_state}
use Rattle.state.specs.Typed.{Numbers, Typed}
use Rattle.state.specs.Reset.{reset_state}
use Rattle.state.specs.Claims.{ResetLawful}
use Rattle.state.proofs.Typed.{numbers-zeros, numbers-four}

zeros : (n : ℕ) → Numbers n 65536 (replicate n 0)
zeros n = numbers-zeros n 65536 (lit< tt)

reset-typed : Typed reset_state
unfolding reset_state
reset-typed = record {
  ula = record { transparent = lit< tt; layers = lit< tt; peripheral = lit< tt; fallback = lit< tt; control = lit< tt; x = lit< tt; y = lit< tt; loresx = lit< tt; loresy = lit< tt };
  tiles = record { transparent = lit< tt; control = lit< tt; attribute = lit< tt; xhigh = lit< tt; xlow = lit< tt; y = lit< tt; map = lit< tt; definitions = lit< tt };
  palette = record { control = lit< tt; index = lit< tt; mask = lit< tt; half = lit< tt };
  turns = record { ula = lit< tt; tiles = lit< tt };
  ports = record { border = lit< tt; timex = lit< tt; select = lit< tt };
  frame = lit< tt;
  ulaclip = numbers-four 256 _ _ _ _ (lit< tt) (lit< tt) (lit< tt) (lit< tt);
  tileclip = numbers-four 256 _ _ _ _ (lit< tt) (lit< tt) (lit< tt) (lit< tt);
  plus = numbers-zeros 64 256 (lit< tt);
  ulafirst = zeros 256;
  ulasecond = zeros 256;
  tilefirst = zeros 256;
  tilesecond = zeros 256;
}

reset-lawful : lawful_state reset_state ≡ true
unfolding lawful_state reset_state
reset-lawful = refl

pub reset_lawful : ResetLawful
reset_lawful = (reset-lawful, reset-typed)
