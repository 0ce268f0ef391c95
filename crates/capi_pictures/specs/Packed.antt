-- Rules 1.6 to 1.8 by the exported calls: packing into lent buffers, and the fewest without them, the packer's promises with its answer
-- taken apart.
use Rattle.std.specs.Prelude.{ℕ, ◌≡◌, List, length, Result}
use Rattle.reply.specs.declared.Reply.{Reply}
use Rattle.reply.specs.Reply.{reply_number}
use Rattle.pack_rule.specs.Answer.{pack_answer, fewest_answer}
use Rattle.reply.specs.Answered.{reply_of, value_of}
use Rattle.pack_rule.specs.Packs.{Packs, CountsFewest}

-- what the packer answers for lent buffers of these lengths
abbrev pub packed : List ℕ → ℕ → ℕ → List ℕ → List ℕ → Result ℕ Reply
packed pic allowed offset map defs = pack_answer pic allowed offset (length map) (length defs)

-- the reply r and the count, and the map and the definitions before (map, defs) and after (map', defs')
pub record LentPacked (pic : List ℕ) (allowed offset : ℕ) (map defs map' defs' : List ℕ) (count r : ℕ) : Type 0 where
  pub reply-is : r ≡ reply_number (reply_of (packed pic allowed offset map defs))
  pub count-is : count ≡ value_of (packed pic allowed offset map defs)
  -- all that the packer promises of them
  pub packs : Packs pic allowed offset map defs map' defs' (packed pic allowed offset map defs)

-- the reply r and the count of a picture
pub record LentFewest (pic : List ℕ) (count r : ℕ) : Type 0 where
  pub reply-is : r ≡ reply_number (reply_of (fewest_answer pic))
  pub count-is : count ≡ value_of (fewest_answer pic)
  -- all that the packer promises of it
  pub counts : CountsFewest pic (fewest_answer pic)
