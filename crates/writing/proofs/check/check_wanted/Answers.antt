-- Function: `check_wanted` (src/check.rt).
-- Why it holds: The tests come as in `check_wanted`: ragged entries, ragged nodes, a fault of the
-- contents, and then the bodies.
-- What would break it: A test out of its turn, or a fault passed over, would be caught at its
-- return.
use mathlib.Core.Path.{◌≡◌, refl, ◌∙◌}
use mathlib.Core.List.{List}
use Prim.Native.Nat.{ℕ, ◌%◌}
use native.Mathlib.Omega.{arith}
use lib.ListN.{length}
use borrow.Author.Tests.{eq-eqb, ne_eqb}
use Rattle.std.proofs.lemmas.Result.{err_from_is_err_and}
use Rattle.answers.specs.Answer.{TAKEN}
use Rattle.answers.proofs.RefusalLaws.{never_taken}
use Rattle.nodes.specs.Words.{NODE_WORDS, nodes}
use Rattle.answers.specs.declared.verdict.Verdict.{Verdict}
use Rattle.answers.specs.Verdict.{ANCESTORS, verdict}
use Rattle.books.specs.Book.{check_bodies, check_parts}
use Rattle.writing.specs.Wanted.{WANTED_WORDS, wanted, bodies_for, wanted_fault}
use Rattle.writing.specs.WriteCall.{check_wanted}
use Rattle.writing.proofs.Checking.{entries_ragged, nodes_ragged, whole_checked, parts}
use Rattle.writing.proofs.check.check_wanted.Goals as goal

module _ (entries list : List ℕ) (e : length entries % WANTED_WORDS ≡ 0) (l : length list % NODE_WORDS ≡ 0)
    (fault : ℕ) (q : fault ≡ wanted_fault (wanted entries) (nodes list)) where
  broken : (fault ≡ TAKEN → ⊥) → verdict fault ANCESTORS 0 ≡ check_wanted entries list
  unfolding check_parts
  broken h = (let p : verdict fault ANCESTORS 0 ≡ parts entries list = rw (← q, ne_eqb fault TAKEN h) refl in p) ∙ whole_checked entries list e l

  kept : fault ≡ TAKEN → (r : Verdict) → r ≡ check_bodies 0 (bodies_for (wanted entries) (nodes list)) → r ≡ check_wanted entries list
  unfolding check_parts
  kept h r s = (let p : r ≡ parts entries list = rw (← q, eq-eqb fault TAKEN h) s in p) ∙ whole_checked entries list e l

pub returns-then-entries-ne0 : goal.returns-then-entries-ne0
returns-then-entries-ne0 c = let a = c.args in rw c.into.ensures (entries_ragged a.entries.now a.list.now c.if-entries-ne0.true)

pub returns-then-list-ne0 : goal.returns-then-list-ne0
returns-then-list-ne0 c =
    let a = c.args in
    rw c.into-then-list-ne0.ensures (nodes_ragged a.entries.now a.list.now (omega arith) c.if-list-ne0.true)

pub returns-in_err-check_entries : goal.returns-in_err-check_entries
returns-in_err-check_entries c =
    let a = c.args in
    let p = err_from_is_err_and c.from_residual.result c.from_residual.ensures.1 in
    rw (p.1, p.2)
    (broken a.entries.now a.list.now (omega arith) (omega arith) _ c.in_err-check_entries.ensures (never_taken c.in_err-check_entries.field-0.0))

pub returns : goal.returns
returns c =
    let a = c.args in
    kept a.entries.now a.list.now (omega arith) (omega arith) _ c.in_ok-check_entries.ensures refl _ c.check_bodies.ensures
