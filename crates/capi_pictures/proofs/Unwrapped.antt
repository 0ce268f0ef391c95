-- What `unwrap_or(0)` takes out of an answer is its value.
use Prim.Native.Nat.{ℕ}
use mathlib.Core.Path.{◌≡◌, refl}
use Rattle.std.specs.Prelude.{Result, Ok, Err}
use Rattle.std.specs.Result.{result_unwrap_or}
use Rattle.reply.specs.declared.Reply.{Reply}
use Rattle.reply.specs.Answered.{value_of}

pub unwrapped : (a : Result ℕ Reply) → result_unwrap_or a 0 ≡ value_of a
unwrapped (Ok v) = refl
unwrapped (Err r) = refl
