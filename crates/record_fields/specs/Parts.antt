-- Rule 7.15: the part of a record that a place stands in.
use Rattle.std.specs.Prelude.{ℕ, ◌+◌, ◌-◌, cond, List, [], ◌∷◌, ◌++◌, drop, ltb, nat_lt}
use Rattle.std.specs.List.{position}
use Rattle.std.specs.Option.{unwrap_or}
use Rattle.record_layout.specs.declared.Version.{Version}
use Rattle.record_layout.specs.Version.{current, added}
use Rattle.record_layout.specs.Places.{ula_clip_place, named_places}
use Rattle.record_layout.specs.Record.{record_length}

-- the place in version 2 of what stands at a place of a version
abbrev pub current_place : Version → ℕ → ℕ
current_place v k = cond (ltb k (ula_clip_place v)) k (k + (added current - added v))

-- where the parts of version 2 end: each where the next one starts, the last with the record
abbrev pub part_ends : List ℕ
part_ends = drop 1 (named_places current) ++ (record_length current ∷ [])

-- the number of the part, counted from 0 in the order of the layout of version 2: the first that ends behind the place, 36 past the end
unfoldable pub part_at : ℕ → ℕ
part_at k = unwrap_or (position (λ end. nat_lt k end) part_ends) 36
