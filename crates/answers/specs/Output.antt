-- docs/SCOPE.md, "Answer numbers": a call writes its result at the beginning of the output and
-- alters no word beyond it. Where the output is shorter than the result, or the call has another
-- fault, it alters no word.
use Rattle.std.specs.Prelude.{ℕ, cond, ltb, eqb, length, drop}
use mathlib.Core.List.{List, ◌++◌, flat_map}
use Rattle.answers.specs.Answer.{TAKEN, ROOM}

-- The words of all items, one item after the other.
unfoldable pub words_in : {A : Type 0} → (A → List ℕ) → List A → List ℕ
words_in words xs = flat_map words xs

-- The output with its first words replaced by `words`.
unfoldable pub written : List ℕ → List ℕ → List ℕ
written words out = words ++ drop (length words) out

-- A call that would write `result` into `out`. `fault` is what its own checks found: an answer
-- number, or TAKEN where they found none.
module _ (fault : ℕ) (result out : List ℕ) where
  -- Its answer: the fault, or else ROOM where the output is shorter than the result, or else TAKEN.
  unfoldable pub answer_of : ℕ
  answer_of = cond (eqb fault TAKEN) (cond (ltb (length out) (length result)) ROOM TAKEN) fault

  -- `taken` where the call is taken, `refused` where it is refused.
  unfoldable pub if_taken : {A : Type 0} → A → A → A
  if_taken taken refused = cond (eqb answer_of TAKEN) taken refused

  -- The output on return: with the result at its beginning, or as it was where the call is refused.
  unfoldable pub output_of : List ℕ
  output_of = if_taken (written result out) out
