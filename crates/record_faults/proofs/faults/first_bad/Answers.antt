-- Each group of parts tells its first bad field, or what the parts behind it tell.
use mathlib.Core.Path.{ap, ◌∙◌}
use lib.ListN.{take, drop}
use Rattle.record_layout.specs.declared.Version.TheVariants.{Version1}
use Rattle.record_layout.specs.Parts.{first_bad_in}
use Rattle.record_layout.specs.Layout.{before_scrolls, scrolls, after_scrolls}
use Rattle.record_layout.specs.Places.{parts_place, ula_clip_place, ula_turn_place}
use Rattle.record_faults.proofs.Walks.{whole-walk}
use borrow.Author.Rules.{rules}
use Rattle.record_faults.proofs.faults.first_bad.Goals as goal

pub returns : goal.returns
returns c =
    let a = c.args in
    let clips =
    c.bad_after_clips-next.ensures
    ∙ ap (first_bad_in (take 9 (drop 2 after_scrolls)) a.b.now (ula_turn_place a.v)) c.bad_palettes-next.ensures in
    let scroll = c.bad_scrolls-next.ensures ∙ ap (first_bad_in (scrolls a.v) a.b.now (ula_clip_place Version1)) clips in
    c.bad_before_scrolls.ensures ∙ ap (first_bad_in before_scrolls a.b.now parts_place) scroll ∙ whole-walk a.v a.b.now
