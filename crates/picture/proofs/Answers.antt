-- The answers of `line_pixels`, one law for each exit.
use mathlib.Core.Path.{◌≡◌, refl}
use mathlib.Core.List.{List}
use mathlib.Core.Bool.{true, false}
use Prim.Native.Nat.{ℕ}
use lib.ListN.{length}
use borrow.Author.Tests.{eq-eqb, ne_eqb}
use Rattle.lists.specs.Tab.{tab}
use Rattle.lists.specs.Search.{all}
use Rattle.reply.specs.declared.Reply.{Reply}
use Rattle.reply.specs.declared.Reply.TheVariants.{Done, BufferLength, OutOfBounds}
use Rattle.picture.specs.Pixels.{is_colour, pixel_byte, pixels_reply, pixels_in}

-- the reply r is the definition's, and the buffer is b afterwards
abbrev Answers : List ℕ → List ℕ → Reply → List ℕ → Type 0
Answers dots out r b = (r ≡ pixels_reply dots out) × (b ≡ pixels_in dots out)

module _ (dots out : List ℕ) where
  pub wrong-dots : (length dots ≡ 640 → ⊥) → Answers dots out BufferLength out
  unfolding pixels_reply pixels_in
  wrong-dots h = (rw (ne_eqb _ _ h) refl, rw (ne_eqb _ _ h) refl)

  module _ (hd : length dots ≡ 640) where
    pub wrong-buffer : (length out ≡ 1920 → ⊥) → Answers dots out BufferLength out
    unfolding pixels_reply pixels_in
    wrong-buffer h = (rw (eq-eqb _ _ hd, ne_eqb _ _ h) refl, rw (eq-eqb _ _ hd, ne_eqb _ _ h) refl)

    module _ (ho : length out ≡ 1920) where
      pub no-colour : all (is_colour dots) 640 ≡ false → Answers dots out OutOfBounds out
      unfolding pixels_reply pixels_in
      no-colour h = (rw (eq-eqb _ _ hd, eq-eqb _ _ ho, h) refl, rw (eq-eqb _ _ hd, eq-eqb _ _ ho, h) refl)

      pub filled : (b : List ℕ) → all (is_colour dots) 640 ≡ true → b ≡ tab (pixel_byte dots) 1920 → Answers dots out Done b
      unfolding pixels_reply pixels_in
      filled b h e = (rw (eq-eqb _ _ hd, eq-eqb _ _ ho, h) refl, rw (eq-eqb _ _ hd, eq-eqb _ _ ho, h) e)
