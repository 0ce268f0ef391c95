-- Rule 10.0: where several replies apply, the first of the call's order is the answer.
use Rattle.std.specs.Prelude.{List, [], ◌∷◌, cond}
use Rattle.reply.specs.Reply.{is_done}
use Rattle.reply.specs.declared.Reply.{Reply}
use Rattle.reply.specs.declared.Reply.TheVariants.{Done}

-- the first of two that refuses
unfoldable pub first_of : Reply → Reply → Reply
first_of first next = cond (is_done first) next first

-- the first of a list that refuses
unfoldable pub first_hit : List Reply → Reply
first_hit [] = Done
first_hit (r ∷ rs) = first_of r (first_hit rs)
