-- A place of a version, by the tests of the code.
use mathlib.Core.Path.{◌≡◌, sym, ap, ◌∙◌}
use Prim.Native.Nat.{ℕ, ◌+◌, ◌-◌, ◌≤◌, ◌<◌}
use lib.Dec.{ltb}
use borrow.Author.Tests.{lt-ltb, le-ltb}
use Rattle.lists.proofs.Cond.{if-true, if-false}
use Rattle.record_layout.specs.declared.Version.{Version}
use Rattle.record_layout.specs.Version.{current, added}
use Rattle.record_layout.specs.Places.{ula_clip_place}
use Rattle.record_fields.specs.Parts.{current_place}

module _ (v : Version) (place clip : ℕ) (e : clip ≡ ula_clip_place v) where
  pub place-stays : place < clip → place ≡ current_place v place
  place-stays l = sym (if-true (ltb place (ula_clip_place v)) place (place + (added current - added v)) (ap (ltb place) (sym e) ∙ lt-ltb place clip l))

  pub place-moves : (x y : ℕ) → clip ≤ place → x ≡ added current → y ≡ added v → place + (x - y) ≡ current_place v place
  place-moves x y l ex ey =
      rw (ex, ey) (sym (if-false (ltb place (ula_clip_place v)) place (place + (added current - added v)) (ap (ltb place) (sym e) ∙ le-ltb place clip l)))
