-- Why it holds: A word without its blanks is made letter by letter, and is no longer than the word.
-- What would break it: A blank kept, or a letter left out, would be caught here.
use mathlib.Core.Path.{◌≡◌, refl, ◌∙◌}
use mathlib.Core.Logic.{inl, inr}
use mathlib.Core.Bool.{not}
use mathlib.Core.List.{List, [], ◌∷◌, ◌++◌, append-nil}
use Prim.Native.Nat.{ℕ, ◌+◌, ◌≤◌, ◌<◌, zero-le}
use native.Mathlib.Omega.{arith}
use native.Mathlib.Numerals.{add-one}
use lib.Dec.{eqb}
use lib.ListN.{length, get_or, take}
use lib.Seq.{take-suc}
use borrow.Author.Tests.{eq-eqb, ne_eqb}
use Rattle.laws.specs.Choose.{keep}
use Rattle.laws.proofs.Tests.{either}
use Rattle.laws.proofs.Choices.{keep_append}
use Rattle.lines.specs.Line.{BLANK, unfilled}

-- A word without its blanks is no longer than the word.
pub unfilled_few : (letters : List ℕ) → length (unfilled letters) ≤ length letters
unfolding unfilled keep
unfilled_few [] = zero-le
unfilled_few (b ∷ letters) =
    let few = unfilled_few letters in
    elim (either (not (eqb b BLANK))) [ inl h ↦ rw h (omega arith) | inr h ↦ rw h (omega arith) ]

-- A letter that is no blank is put after those before it, and a blank is left out.
module _ (letters : List ℕ) (i : ℕ) (l : i < length letters) where
  one_letter : unfilled (take (i + 1) letters) ≡ unfilled (take i letters) ++ unfilled (get_or letters i 0 ∷ [])
  unfolding unfilled
  one_letter = rw (add-one i, take-suc letters i 0 l) (keep_append (λ b. not (eqb b BLANK)) (take i letters) (get_or letters i 0 ∷ []))

  pub unfilled_letter : (get_or letters i 0 ≡ BLANK → ⊥) → unfilled (take (i + 1) letters) ≡ unfilled (take i letters) ++ get_or letters i 0 ∷ []
  unfolding unfilled keep
  unfilled_letter h = one_letter ∙ rw (ne_eqb (get_or letters i 0) BLANK h) refl

  pub unfilled_blank : get_or letters i 0 ≡ BLANK → unfilled (take (i + 1) letters) ≡ unfilled (take i letters)
  unfolding unfilled keep
  unfilled_blank h = one_letter ∙ rw (eq-eqb (get_or letters i 0) BLANK h) (append-nil _)
