-- The groups and the tables that the callees read are those of the layout.
use mathlib.Core.Path.{ap, ◌∙◌}
use Prim.Native.Nat.{ℕ, ◌+◌}
use Rattle.record_layout.specs.declared.Version.TheVariants.{Version1}
use Rattle.record_layout.specs.Fields.{pair, row_at}
use Rattle.record_layout.specs.Places.{ula_first_place, ula_second_place, tile_first_place, tile_second_place}
use Rattle.record_layout.proofs.Read.{ulafirst-read, ulasecond-read, tilefirst-read, tilesecond-read}
use borrow.Author.Rules.{rules}
use Rattle.record_parts.proofs.reading.state_at.Goals as goal

pub returns : goal.returns
returns c =
    let a = c.args in
    let b = a.b.now in
    let v = a.v in
    let n = c.added-n.ensures.0 in
    rw (
      c.ula_at-ula.ensures,
      c.tiles_at-tiles.ensures v,
      c.palette_at-palette.ensures,
      c.turns_at-turns.ensures,
      c.ports_at-ports.ensures,
      c.frame_at-frame.ensures,
      c.ula_clip_at-ulaclip.ensures,
      c.tile_clip_at-tileclip.ensures,
      c.plus_at-plus.ensures,
      c.colours_at-ulafirst.ensures ∙ ap (λ (k : ℕ). row_at pair 256 b (ula_first_place Version1 + k)) n ∙ ulafirst-read b v,
      c.colours_at-ulasecond.ensures ∙ ap (λ (k : ℕ). row_at pair 256 b (ula_second_place Version1 + k)) n ∙ ulasecond-read b v,
      c.colours_at-tilefirst.ensures ∙ ap (λ (k : ℕ). row_at pair 256 b (tile_first_place Version1 + k)) n ∙ tilefirst-read b v,
      c.colours_at-tilesecond.ensures ∙ ap (λ (k : ℕ). row_at pair 256 b (tile_second_place Version1 + k)) n ∙ tilesecond-read b v,
    )
