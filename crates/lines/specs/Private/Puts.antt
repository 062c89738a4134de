-- What a writer puts.
use Rattle.std.specs.Prelude.{ℕ, ◌+◌, ◌≡◌, List, length}
use Rattle.std.proofs.lemmas.List.Edits.{sets}
use Rattle.lines.specs.declared.text.Writer.{Writer}

-- A writer puts some bytes at its place in its text, which stays as long as it was. Then its place
-- is after them.
pub record Puts (before : Writer) (us : List ℕ) (after : Writer) : Type 0 where
  pub same : after.text.ghost_name ≡ before.text.ghost_name
  pub long : length after.text.now ≡ length before.text.now
  pub next : after.at ≡ before.at + length us
  pub shows : after.text.now ≡ sets before.text.now before.at us
