-- A packing that the packer answers at each of its ends goes with the definitions: refused early, or written and answered.
use mathlib.Core.Path.{◌≡◌, refl, sym, ap, ◌∙◌}
use mathlib.Core.List.{List}
use Prim.Native.Nat.{ℕ}
use lib.ListN.{length}
use borrow.Author.Tests.{ne_eqb}
use Rattle.std.specs.Prelude.{Option, Some, None, Result, Ok, Err, ok_or}
use Rattle.lists.proofs.Cond.{if-false}
use Rattle.lists.specs.Bytes.{Bytes}
use Rattle.reply.specs.declared.Reply.{Reply}
use Rattle.reply.specs.declared.Reply.TheVariants.{Done, TooManyTiles}
use Rattle.reply.specs.Reply.{reply_number}
use Rattle.pack_rule.specs.Greedy.{tile_count, packed_map, packed_defs}
use Rattle.pack_rule.specs.Answer.{judged, answered, fewest_answer, pack_answer}
use Rattle.pack_rule.specs.Packs.{Packs, CountsFewest}
use Rattle.pack_rule.proofs.Answers.{answer-early, answer-judged, answered-done, answered-many, demanded, packs}
use Rattle.pack_entries.specs.Bounds.{PackedSoFar, Stepped}
use Rattle.packer.specs.Bounds.{Counted, Written}

-- the number that the packing of all cells answers
pub counted-of : (pic : List ℕ) (offset : ℕ) (cells map : List ℕ) (allowed : ℕ) (r : Option ℕ)
    → Stepped (λ n. PackedSoFar pic offset cells map n 1280) pic allowed 1280 r → Counted pic allowed r
counted-of pic offset cells map allowed None w = w
counted-of pic offset cells map allowed (Some n) w = (w.0, w.1.count)

-- a count of at most the number allowed, or none, gives the answer
pub answered-same : (pic : List ℕ) (allowed : ℕ) (r : Option ℕ) → Counted pic allowed r → ok_or r TooManyTiles ≡ answered (tile_count pic) allowed
answered-same pic allowed None w = sym (answered-many (tile_count pic) allowed w)
answered-same pic allowed (Some n) w = sym (rw (← w.1) (answered-done n allowed w.0))

module _ (pic : List ℕ) (allowed offset : ℕ) (map defs : List ℕ) (bytes : Bytes pic) where
  pub early : (r : Reply) → r ≡ judged (length pic) (length map) (length defs) allowed offset → (reply_number r ≡ 0 → ⊥)
      → Packs pic allowed offset map defs map defs (Err r)
  early r e n =
      let f = ne_eqb (reply_number r) 0 n in
      packs pic allowed offset map defs map defs (Err r) bytes
      (answer-early pic allowed offset (length map) (length defs) r e n) (sym (if-false _ _ _ f)) (sym (if-false _ _ _ f))

  pub packed : judged (length pic) (length map) (length defs) allowed offset ≡ Done → (map' defs' : List ℕ) (r : Option ℕ)
      → Written pic allowed offset map defs map' defs' r → Packs pic allowed offset map defs map' defs' (ok_or r TooManyTiles)
  packed z map' defs' None w =
      packs pic allowed offset map defs map' defs' (Err TooManyTiles) bytes
      (answered-same pic allowed None w.0 ∙ answer-judged pic allowed offset (length map) (length defs) (ap reply_number z)) w.1 w.2
  packed z map' defs' (Some n) w =
      packs pic allowed offset map defs map' defs' (Ok n) bytes
      (answered-same pic allowed (Some n) (w.0, w.1) ∙ answer-judged pic allowed offset (length map) (length defs) (ap reply_number z)) w.2 w.3

-- the same without lent buffers
module _ (pic : List ℕ) (bytes : Bytes pic) where
  counted : (a : Result ℕ Reply) → a ≡ fewest_answer pic → CountsFewest pic a
  counted a e = record { answer-is = e; demand = rw e (demanded pic 256 0 2560 8192 bytes) }

  pub early-fewest : (r : Reply) → r ≡ judged (length pic) 2560 8192 256 0 → (reply_number r ≡ 0 → ⊥) → CountsFewest pic (Err r)
  early-fewest r e n = counted (Err r) (answer-early pic 256 0 2560 8192 r e n)

  pub counts-fewest : judged (length pic) 2560 8192 256 0 ≡ Done → (r : Option ℕ) → Counted pic 256 r → CountsFewest pic (ok_or r TooManyTiles)
  counts-fewest z r w = counted (ok_or r TooManyTiles) (answered-same pic 256 r w ∙ answer-judged pic 256 0 2560 8192 (ap reply_number z))
