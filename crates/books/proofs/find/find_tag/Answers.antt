-- Function: `find_tag` (src/find.rt).
-- Why it holds: In a book that is taken, the tag is sought among all its entries, and its list lies
-- at the index found. A refused book has no list at any position.
-- What would break it: A tag sought among too few entries, or beyond the contents, would be caught
-- at its return.
use mathlib.Core.Path.{◌≡◌, sym, ◌∙◌}
use native.Mathlib.Omega.{arith}
use Prim.Native.Nat.{ℕ}
use Rattle.std.specs.Prelude.{Option, None, Some, Result, Ok, Err}
use Rattle.std.specs.Option.{ok_or}
use Rattle.std.proofs.lemmas.Result.{err_from_is_err_and}
use Rattle.answers.specs.declared.refusal.Refusal.{Refusal}
use Rattle.answers.specs.declared.refusal.Refusal.TheVariants.{Absent}
use Rattle.books.proofs.FindLaws.{no_tag_found, tag_absent, tag_present}
use Rattle.books.proofs.find.find_tag.Goals as goal

pub returns-in_err-lists : goal.returns-in_err-lists
returns-in_err-lists c =
    let p = err_from_is_err_and c.from_residual.result c.from_residual.ensures.1 in
    rw (p.1, p.2) (no_tag_found _ _ c.in_err-lists.ensures _)

was_none : (o : Option ℕ) (r : Refusal) → Err r ≡ ok_or o Absent → (o ≡ None) × (r ≡ Absent)
was_none o r q = grind arith

was_some : (o : Option ℕ) (i : ℕ) → ◌≡◌ {A = Result ℕ Refusal} (Ok i) (ok_or o Absent) → o ≡ Some i
was_some o i q = grind arith

pub returns-in_err-position : goal.returns-in_err-position
returns-in_err-position c =
    let p = err_from_is_err_and c.from_residual-in_err-position.result c.from_residual-in_err-position.ensures.1 in
    let n = was_none _ _ c.in_err-position.ensures.value in
    rw (p.1, p.2, n.1) (tag_absent _ _ c.in_ok-lists.ensures _ (sym n.0 ∙ c.tag_at.ensures))

pub returns : goal.returns
returns c =
    rw c.body_at.ensures (tag_present _ _ c.in_ok-lists.ensures _ _ (sym (was_some _ _ c.in_ok-position.ensures.value) ∙ c.tag_at.ensures))
