-- The two exits of start, which the length alone decides.
use Prim.Native.Nat.{ℕ}
use mathlib.Core.Path.{◌≡◌, refl, ap, ◌∙◌}
use mathlib.Core.List.{List}
use lib.ListN.{length}
use borrow.Author.Tests.{eq-eqb, ne_eqb}
use Rattle.lists.specs.Tab.{tab}
use Rattle.lists.proofs.Tab.{tab-zeros}
use Rattle.reply.specs.declared.Reply.TheVariants.{Done, BufferLength}
use Rattle.desk_seats.specs.Seats.{desk_length, zeros}
use Rattle.desk_places.specs.Desks.{start_reply, started}

pub start-done : (d e : List ℕ) → length d ≡ desk_length → e ≡ tab (λ (i : ℕ). 0) (length d) → (Done ≡ start_reply d) × (e ≡ started d)
start-done d e l z = rw (eq-eqb (length d) desk_length l) (refl, z ∙ tab-zeros (length d) ∙ ap (λ (n : ℕ). zeros n) l)

pub start-refused : (d : List ℕ) → (length d ≡ desk_length → ⊥) → (BufferLength ≡ start_reply d) × (d ≡ started d)
start-refused d n = rw (ne_eqb (length d) desk_length n) (refl, refl)
