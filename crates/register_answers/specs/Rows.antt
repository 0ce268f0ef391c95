-- Rule 9.9: tables of registers or ports, a row for each number, with what writing it or reading it does.
use Rattle.std.specs.Prelude.{ℕ, List, [], ◌∷◌, cond, eqb, Err}
use Rattle.reply.specs.declared.Reply.TheVariants.{NoRegister}
use Rattle.state.specs.declared.State.{State}
use Rattle.state.specs.declared.Answer.{Answer}
use Rattle.state.specs.Answer.{refused}
use Rattle.register_answers.specs.Answers.{Reading}

pub record WriteRow : Type 0 where
  pub number : ℕ
  pub effect : State → ℕ → Answer

abbrev pub writes : ℕ → (State → ℕ → Answer) → WriteRow
writes n f = record { number = n; effect = f }

-- 9, no such register or port, or not that way: leaves the state
abbrev pub write_by : List WriteRow → State → ℕ → ℕ → Answer
write_by [] s n v = refused NoRegister s
write_by (r ∷ rs) s n v = cond (eqb n r.number) (r.effect s v) (write_by rs s n v)

pub record ReadRow : Type 0 where
  pub number : ℕ
  pub reading : State → Reading

abbrev pub reads : ℕ → (State → Reading) → ReadRow
reads n f = record { number = n; reading = f }

-- 9, no such register or port, or not that way
abbrev pub read_by : List ReadRow → State → ℕ → Reading
read_by [] s n = Err NoRegister
read_by (r ∷ rs) s n = cond (eqb n r.number) (r.reading s) (read_by rs s n)
