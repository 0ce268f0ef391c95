-- The claims on the packing, from its laws.
use mathlib.Core.Path.{refl, sym, ap₂, ◌∙◌}
use mathlib.Core.Logic.{inl, inr, ⊎_elim}
use native.Mathlib.Nat.{le_antisymm}
use native.Mathlib.Omega.{arith}
use lib.Dec.{eqb}
use Rattle.lists.proofs.Search.{firsts-within}
use Rattle.pack_rule.specs.Sheet.{low_byte, named}
use Rattle.pack_rule.specs.Claims.{FewestOrNone, SettingExists, EntryParts, DefinitionUpright, SheetRead, NamedByLowBytes}
use Rattle.pack_rule.proofs.Banked.{read, setting}
use Rattle.pack_rule.proofs.Greedy.{turn-for}
use Rattle.pack_rule.proofs.Packed.{attribute-is, def_is}
use Rattle.pack_rule.proofs.Answers.{demanded, decided}

pub fewest_or_none : FewestOrNone
fewest_or_none pic allowed offset long bytes a o =
    let d = demanded pic allowed offset 2560 8192 bytes in
    ⊎_elim (λ e. inl (e, d.accepted e)) (λ e. inr (e, d.refused e))
    (decided pic allowed offset 2560 8192 (record { pic-length = long; map-length = refl; defs-length = refl; allowed-small = a; offset-small = o }))

pub setting_exists : SettingExists
setting_exists = setting

pub entry_parts : EntryParts
entry_parts pic offset c l =
    let e = attribute-is pic offset c l in
    let t = (turn-for pic c).0 in
    (omega arith, omega arith, omega arith)

pub definition_upright : DefinitionUpright
definition_upright pic n x y fits = def_is pic fits n x y

pub sheet_read : SheetRead
sheet_read = read

pub named_by_low_bytes : NamedByLowBytes
unfolding named low_byte
named_by_low_bytes map others h =
    le_antisymm
    (firsts-within (λ i j. eqb (low_byte map i) (low_byte map j)) (λ i j. eqb (low_byte others i) (low_byte others j)) 1280
    (λ i j l k e. ap₂ eqb (h i (omega (arith, l, k))) (h j k) ∙ e))
    (firsts-within (λ i j. eqb (low_byte others i) (low_byte others j)) (λ i j. eqb (low_byte map i) (low_byte map j)) 1280
    (λ i j l k e. ap₂ eqb (sym (h i (omega (arith, l, k)))) (sym (h j k)) ∙ e))
