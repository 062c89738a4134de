-- Function: `is_fitting` (src/unnumber.rt).
-- Why it holds: The tests are those of `fitsb` for a mark that is no close, one by one.
-- What would break it: A comparison with a row that isn't the last one left, or a faulty mark let
-- through, would be caught at its return.
use mathlib.Core.Path.{◌≡◌, refl, sym, ◌∙◌}
use mathlib.Core.Logic.{inl, inr}
use mathlib.Core.Bool.{true, false, ◌||◌}
use mathlib.Core.List.{List}
use Prim.Native.Nat.{ℕ, ◌-◌, ◌<◌}
use lib.Dec.{ltb}
use borrow.Author.Tests.{ltb-true, eqb-true, ne_eqb}
use Rattle.std.specs.Prelude.{Result, Ok, Err, is_ok}
use Rattle.answers.specs.Answer.{TAKEN}
use Rattle.answers.specs.Refusal.{answer_in}
use Rattle.answers.specs.declared.refusal.Refusal.{Refusal}
use Rattle.answers.proofs.RefusalLaws.{never_taken}
use Rattle.laws.proofs.Tests.{or_read}
use Rattle.marks.specs.declared.mark.MarkPlace.{MarkPlace}
use Rattle.marks.specs.declared.row.Row.{Row}
use Rattle.marks.specs.Back.{same_rowb}
use Rattle.marks.specs.Mark.{CLOSE, TEXT, textb, mark_fault}
use Rattle.marks.specs.Table.{row_in}
use Rattle.marks.specs.Private.Walk.{open_before, row_here, fitsb}
use Rattle.marks.proofs.unnumber.is_fitting.Goals as goal
use Rattle.marks.proofs.unnumber.is_fitting.Goals.{then-is_opened, else-is_opened}

opened : (depth mark : ℕ) → true ≡ (textb mark || ltb 0 depth) → (mark ≡ TEXT → ⊥) → 0 < depth
opened depth mark e t = elim (or_read (textb mark) (sym e)) [ inl k ↦ absurd (t (eqb-true _ _ k)) | inr k ↦ ltb-true _ _ k ]

module _ (rs : List Row) (document position : ℕ) (kept : List ℕ) (q : MarkPlace) (mark : ℕ) (n : mark ≡ CLOSE → ⊥) where
  unopened : false ≡ (textb mark || ltb 0 q.depth) → false ≡ fitsb rs document position kept q mark
  unfolding fitsb
  unopened e = rw (ne_eqb mark CLOSE n, ← e)

  module _ (e : true ≡ (textb mark || ltb 0 q.depth)) (before : ℕ) (eb : before ≡ open_before q.depth mark) where
    faulty : (r : Result (Unit {0}) Refusal) → answer_in r ≡ mark_fault position before mark → is_ok r ≡ false
        → false ≡ fitsb rs document position kept q mark
    unfolding fitsb
    faulty (Ok _) f k = cc
    faulty (Err r) f k = rw (ne_eqb mark CLOSE n, ← e, ← eb, ← f, ne_eqb _ TAKEN (never_taken r))

    compared : (r : Result (Unit {0}) Refusal) → answer_in r ≡ mark_fault position before mark → is_ok r ≡ true
        → (x y : Row) → x ≡ row_here document position kept q.depth mark → y ≡ row_in rs (q.rows - 1) → same_rowb x y ≡ fitsb rs document position kept q mark
    unfolding fitsb
    compared (Ok _) f k x y ex ey = rw (ne_eqb mark CLOSE n, ← e, ← eb, ← f, ← ex, ← ey) refl
    compared (Err r) f k x y ex ey = cc

pub open_before-requires : goal.open_before-requires
open_before-requires c = (c.requires.0, opened _ _ c.if-is_opened.ensures)

pub row_here-requires : goal.row_here-requires
row_here-requires c =
    let p = c.requires in
    elim c.if-is_opened.branch [
      | then-is_opened w ↦ (p.0, opened _ _ w.if-is_opened.ensures, p.1)
      | else-is_opened w ↦ cc
    ]

pub returns-then-is_ok : goal.returns-then-is_ok
returns-then-is_ok c =
    elim c.if-is_opened.branch [
      | then-is_opened w ↦ c.is_same_row.ensures
          ∙ compared _ _ _ _ _ _ c.requires.0 w.if-is_opened.ensures _ w.open_before.ensures _ w.check_mark.ensures
          (sym w.is_ok.ensures.value ∙ sym w.value-is ∙ c.if-is_ok.true) _ _ c.row_here.ensures c.row_at.ensures
      | else-is_opened w ↦ cc
    ]

pub returns-else-is_ok : goal.returns-else-is_ok
returns-else-is_ok c =
    c.if-is_ok.false
    ∙ elim c.if-is_opened.branch [
      | then-is_opened w ↦ faulty _ _ _ _ _ _ c.requires.0 w.if-is_opened.ensures _ w.open_before.ensures _ w.check_mark.ensures
          (sym w.is_ok.ensures.value ∙ sym w.value-is ∙ c.if-is_ok.false)
      | else-is_opened w ↦ unopened _ _ _ _ _ _ c.requires.0 w.if-is_opened.ensures
    ]
