-- What a walk along a book's lists has shown of them.
use Rattle.std.specs.Prelude.{ℕ, ◌≡◌, Bool, cond, ◌&&◌, List, [], ◌∷◌, eqb, Result}
use Rattle.answers.specs.declared.refusal.Refusal.{Refusal}
use Rattle.answers.specs.Answer.{TAKEN, CONTENTS}
use Rattle.contents.specs.declared.entry.Entry.{Entry}
use Rattle.contents.specs.declared.step.ContentsPlace.{ContentsPlace}
use Rattle.contents.specs.Passing.{passesb, after_entry, step_answer}

-- All lists from a place on keep the rules, and the book ends with the last.
unfoldable pub keepsb : ContentsPlace → List Entry → ℕ → Bool
keepsb p [] size = eqb p.end size
keepsb p (e ∷ es) size = passesb p e && keepsb (after_entry p e) es size

-- A walk along the lists `es` from a place on ended with the step `r`, whose answer holds for all
-- of them, whatever the book's size.
abbrev pub Kept : ContentsPlace → List Entry → Result ContentsPlace Refusal → Type 0
Kept p es r = (size : ℕ) → cond (keepsb p es size) TAKEN CONTENTS ≡ step_answer r size
