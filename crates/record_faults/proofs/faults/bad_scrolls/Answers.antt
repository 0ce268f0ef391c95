-- Version 1 has no part here; of version 2's two parts the first may be any byte.
use mathlib.Core.Path.{sym, ap}
use Rattle.record_layout.specs.declared.Version.{Version}
use Rattle.record_layout.specs.declared.Version.TheVariants.{Version1}
use Rattle.record_layout.specs.Parts.{first_bad_in}
use Rattle.record_layout.specs.Layout.{scrolls}
use Rattle.record_layout.specs.Places.{ula_clip_place}
use borrow.Author.Rules.{rules}
use Rattle.record_faults.proofs.faults.bad_scrolls.Goals as goal

pub returns-in-Version2 : goal.returns-in-Version2
returns-in-Version2 c =
    let a = c.args in
    rw (c.unless.ensures, c.offset_y_fits.ensures, c.added-place.ensures.0)
    (ap (λ (v : Version). first_bad_in (scrolls v) a.b.now (ula_clip_place Version1) a.next) (sym c.in-Version2.is))
