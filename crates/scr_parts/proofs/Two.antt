-- Two parts one after the other are those of a form, the second with no bytes where the form has one part or none. By cases on the
-- mode.
use mathlib.Core.Path.{◌≡◌, refl, sym, ap, ◌∙◌}
use mathlib.Core.List.{List, [], ◌++◌, append-nil}
use Prim.Native.Nat.{ℕ, ◌+◌, ◌-◌, ◌≤◌}
use native.Mathlib.Omega.{arith}
use lib.ListN.{length, take, drop}
use Rattle.lists.specs.Placed.{placed}
use Rattle.lists.proofs.Placed.{placed-none, placed-after}
use Rattle.lists.proofs.Cuts.{cut-length}
use Rattle.ula_mode.specs.declared.modes.Mode.{Mode}
use Rattle.ula_mode.specs.declared.modes.Mode.TheVariants.{Lores, Standard, Second, HighColour, HighResolution, Missing}
use Rattle.scr_forms.specs.declared.forms.Row.{Row}
use Rattle.scr_forms.specs.Forms.{form_of, sizes, bytes_in, filled}
use Rattle.scr_forms.specs.Rows.{row_of}

-- the bank with both parts placed, as the code does it
abbrev filled_by : Row → List ℕ → List ℕ → List ℕ
filled_by r b file = placed (placed b 0 (take (r.first - 0) (drop 0 file))) 0x2000 (take (r.first + r.second - r.first) (drop r.first file))

none_filled : (b : List ℕ) → b ≡ placed (placed b 0 []) 0x2000 []
none_filled b = placed-none b 0 ∙ placed-none (placed b 0 []) 0x2000

fill-row : (m : Mode) (b file : List ℕ) → filled_by (row_of m) b file ≡ filled (form_of m).parts b file
unfolding filled
fill-row Standard b file = sym (placed-none (placed b 0 (take 6912 file)) 0x2000)
fill-row HighColour b file = refl
fill-row HighResolution b file = refl
fill-row Lores b file = sym (none_filled b)
fill-row Second b file = sym (none_filled b)
fill-row Missing b file = sym (none_filled b)

pub filled-two : (m : Mode) (r : Row) → r ≡ row_of m → (b file : List ℕ) → filled_by r b file ≡ filled (form_of m).parts b file
filled-two m r e b file = rw e (fill-row m b file)

-- the target with both parts placed, as the code does it
abbrev put_by : Row → List ℕ → List ℕ → List ℕ
put_by r t bank = placed (placed t 0 (take (r.first - 0) (drop 0 bank))) r.first (take (0x2000 + r.second - 0x2000) (drop 0x2000 bank))

both-put : (t bank : List ℕ) → length bank ≡ 16384 → 12288 ≤ length t
    → placed (placed t 0 (take 6144 bank)) 6144 (take 6144 (drop 0x2000 bank)) ≡ placed t 0 (take 6144 bank ++ (take 6144 (drop 0x2000 bank) ++ []))
both-put t bank h l =
    placed-after t (take 6144 bank) (take 6144 (drop 0x2000 bank)) 0 6144 (omega (arith, cut-length bank 0 6144 (omega arith))) (omega arith)
    ∙ ap (λ (x : List ℕ). placed t 0 (take 6144 bank ++ x)) (sym (append-nil (take 6144 (drop 0x2000 bank))))

none-put : (t : List ℕ) → placed (placed t 0 []) 0 [] ≡ placed t 0 []
none-put t = placed-after t [] [] 0 0 refl (omega arith)

put-row : (m : Mode) (t bank : List ℕ) → length bank ≡ 16384 → sizes (form_of m).parts ≤ length t
    → put_by (row_of m) t bank ≡ placed t 0 (bytes_in (form_of m).parts bank)
unfolding bytes_in
put-row Standard t bank h l =
    placed-after t (take 6912 bank) [] 0 6912 (omega (arith, cut-length bank 0 6912 (omega arith))) (omega arith)
put-row HighColour t bank h l = both-put t bank h l
put-row HighResolution t bank h l = both-put t bank h l
put-row Lores t bank h l = none-put t
put-row Second t bank h l = none-put t
put-row Missing t bank h l = none-put t

pub put_two : (m : Mode) (r : Row) → r ≡ row_of m → (t bank : List ℕ) → length bank ≡ 16384 → sizes (form_of m).parts ≤ length t
    → put_by r t bank ≡ placed t 0 (bytes_in (form_of m).parts bank)
put_two m r e t bank h l = rw e (put-row m t bank h l)
