-- A record's own reply is never 4. Each reply that it can be has another number.
use Prim.Native.Nat.{ℕ}
use mathlib.Core.Path.{refl}
use mathlib.Core.List.{List}
use lib.ListN.{length}
use Rattle.lists.proofs.Cond.{either}
use Rattle.reply.specs.declared.Reply.TheVariants.{WrongCount, WrongVersion, BadField}
use Rattle.reply.proofs.NotFour.{NotFour, other, done-not-four}
use Rattle.record_layout.specs.declared.Version.{Version}
use Rattle.record_layout.specs.declared.Judgement.{Judgement}
use Rattle.record_layout.specs.Places.{count_place, version_place}
use Rattle.record_layout.specs.Record.{version_of, counted, versioned, first_bad, sound, told, passed, judged_fields, judged_version, judged, read_as, read_record}

pub read-not-four : (v : Version) (b : List ℕ) → NotFour (read_as v b).reply
unfolding judged
read-not-four v b =
    either (λ (j : Judgement). NotFour j.reply) (counted b) (judged_version v b) (told WrongCount count_place)
    (either (λ (j : Judgement). NotFour j.reply) (versioned v b) (judged_fields v b) (told WrongVersion version_place)
    (either (λ (j : Judgement). NotFour j.reply) (sound v b) passed (told BadField (first_bad v b)) done-not-four (other BadField refl))
    (other WrongVersion refl))
    (other WrongCount refl)

pub record-not-four : (b : List ℕ) → NotFour (read_record b).reply
unfolding read_record
record-not-four b = read-not-four (version_of (length b)) b
