-- Rules 1.2, 1.6 to 1.8, 8.8, 9.11 and 10.9: packing into a lent map and definitions: the answer, what both hold afterwards, and demand 3
-- of them; and the fewest without these.
use Rattle.std.specs.Prelude.{◌≡◌, List, cond, ℕ, ◌≤◌, length, Result}
use Rattle.reply.specs.declared.Reply.{Reply}
use Rattle.reply.specs.declared.Reply.TheVariants.{TooManyTiles}
use Rattle.reply.specs.Reply.{is_done}
use Rattle.pack_rule.specs.Greedy.{packed_map, packed_defs}
use Rattle.pack_rule.specs.Answer.{pack_answer, fewest_answer, NoneDraws, Demanded}
use Rattle.reply.specs.Answered.{reply_of}
use Rattle.pack_rule.specs.Claims.{SettingExists}

-- a packing: its answer, the map and the definitions before (map, defs) and after (map', defs')
pub record Packs (pic : List ℕ) (allowed offset : ℕ) (map defs map' defs' : List ℕ) (answer : Result ℕ Reply) : Type 0 where
  pub answer-is : answer ≡ pack_answer pic allowed offset (length map) (length defs)
  -- a refused packing touches neither
  pub map_is : map' ≡ cond (is_done (reply_of answer)) (packed_map pic offset) map
  pub defs-is : defs' ≡ cond (is_done (reply_of answer)) (packed_defs pic) defs
  pub demand : Demanded pic allowed offset map' defs' answer
  -- refused 11 exactly when none draws
  pub only : length pic ≡ 40960 → length map ≡ 2560 → length defs ≡ 8192 → allowed ≤ 256 → offset ≤ 15 → NoneDraws pic allowed offset
      → reply_of answer ≡ TooManyTiles
  -- there is a setting for every map and definitions
  pub settings : SettingExists

-- the fewest of a picture without lent buffers: its answer, and demand 3 for the map and the definitions that a packing would write
pub record CountsFewest (pic : List ℕ) (answer : Result ℕ Reply) : Type 0 where
  pub answer-is : answer ≡ fewest_answer pic
  pub demand : Demanded pic 256 0 (packed_map pic 0) (packed_defs pic) answer
