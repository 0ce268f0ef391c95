-- Rules 1.6 to 1.8, 8.5, 8.8, 9.3, 9.11, 9.12, 10.0 and 10.5: the answer of a packing, and what demand 3 asks of it.
use Rattle.std.specs.Prelude.{◌≡◌, List, cond, ◌&&◌, ℕ, ◌≤◌, length, eqb, leb, Result, Ok, Err}
use Rattle.reply.specs.declared.Reply.{Reply}
use Rattle.reply.specs.declared.Reply.TheVariants.{Done, BufferLength, TooManyTiles, PackingBounds}
use Rattle.reply.specs.Reply.{is_done}
use Rattle.reply.specs.Answered.{reply_of, value_of}
use Rattle.pack_rule.specs.Sheet.{named, SetIn, DrawsAlways, Draws}
use Rattle.pack_rule.specs.Greedy.{tile_count}

-- 3, a lent buffer of the wrong length; 12, allowed above 256, or offset above 15
unfoldable pub judged : ℕ → ℕ → ℕ → ℕ → ℕ → Reply
judged pic map defs allowed offset =
    cond (eqb pic 40960 && eqb map 2560 && eqb defs 8192) (cond (leb allowed 256 && leb offset 15) Done PackingBounds) BufferLength

-- 11 comes after them, where there are more than allowed
unfoldable pub answered : ℕ → ℕ → Result ℕ Reply
answered n allowed = cond (leb n allowed) (Ok n) (Err TooManyTiles)

-- the answer, for a map and definitions of these lengths
unfoldable pub pack_answer : List ℕ → ℕ → ℕ → ℕ → ℕ → Result ℕ Reply
pack_answer pic allowed offset map defs =
    let early = judged (length pic) map defs allowed offset in
    cond (is_done early) (answered (tile_count pic) allowed) (Err early)

-- the answer without lent buffers: 256 allowed, palette offset 0, a map and definitions of the right lengths
abbrev pub fewest_answer : List ℕ → Result ℕ Reply
fewest_answer pic = pack_answer pic 256 0 2560 8192

-- no map naming at most the number allowed draws the picture
abbrev pub NoneDraws : List ℕ → ℕ → ℕ → Type 0
NoneDraws pic allowed offset = (map defs : List ℕ) → Draws pic offset map defs → named map ≤ allowed → ⊥

-- a map and definitions are set in a bank in some way
pub record Setting (map defs : List ℕ) : Type 0 where
  pub bank : List ℕ
  pub map_base : ℕ
  pub def_base : ℕ
  pub set : SetIn map defs bank map_base def_base

-- an accepted packing draws the picture in every setting, of which there is one; its count is the number of tiles its map names, and
-- none that draws names fewer
pub record Fewest (pic : List ℕ) (offset count : ℕ) (map defs : List ℕ) : Type 0 where
  pub draws : DrawsAlways pic offset map defs
  pub setting : Setting map defs
  pub counts : count ≡ named map
  pub fewest : (others theirs : List ℕ) → Draws pic offset others theirs → count ≤ named others

-- demand 3 of an answer: accepted, this map and these definitions draw with the fewest; refused 11, none draws
pub record Demanded (pic : List ℕ) (allowed offset : ℕ) (map defs : List ℕ) (answer : Result ℕ Reply) : Type 0 where
  pub accepted : reply_of answer ≡ Done → Fewest pic offset (value_of answer) map defs
  pub refused : reply_of answer ≡ TooManyTiles → NoneDraws pic allowed offset
