-- Function: `step_back` (src/unnumber.rt).
-- Why it holds: The mark that the rows tell is a close, which has room or not, or another, which
-- fits or doesn't.
-- What would break it: A close kept with 64 elements open, or a mark passed whose row differs,
-- would be caught at its return.
use mathlib.Core.Path.{◌≡◌, refl, sym, ◌∙◌}
use mathlib.Core.Bool.{Bool, true, false}
use mathlib.Core.List.{List}
use Prim.Native.Nat.{ℕ, ◌<◌}
use native.Mathlib.Omega.{arith}
use borrow.Author.Tests.{lt-ltb, le-ltb, ne_eqb}
use Rattle.std.specs.Prelude.{Some}
use Rattle.nodes.specs.Node.{MOST_LEVELS}
use Rattle.marks.specs.declared.mark.MarkPlace.{MarkPlace}
use Rattle.marks.specs.declared.row.Row.{Row}
use Rattle.marks.specs.Mark.{CLOSE, TEXT}
use Rattle.marks.specs.Private.Walk.{before_mark, closes_before, mark_here, fitsb, SteppedBack}
use Rattle.marks.proofs.ReadBack.{told_some, fits_read}
use Rattle.marks.proofs.unnumber.step_back.Goals as goal

module _ (rs : List Row) (document position : ℕ) (kept : List ℕ) (q : MarkPlace) (mark : ℕ) (m : mark ≡ mark_here rs q.rows position) where
  full : mark ≡ CLOSE → q.depth ≡ MOST_LEVELS → fitsb rs document position kept q (mark_here rs q.rows position) ≡ false
  unfolding fitsb
  full h d = rw (sym m ∙ h) (le-ltb q.depth MOST_LEVELS (omega arith))

  closed : mark ≡ CLOSE → q.depth < MOST_LEVELS → (p : MarkPlace) → p ≡ before_mark q CLOSE → (after : List ℕ)
      → after ≡ closes_before kept position q.depth CLOSE → SteppedBack rs document position kept q (Some p) after
  unfolding fitsb
  closed h d p ep after ea = rw (sym m ∙ h) (lt-ltb q.depth MOST_LEVELS d, ep, ea)

  module _ (b : Bool) (e : b ≡ fitsb rs document position kept q mark) where
    unfit : b ≡ false → fitsb rs document position kept q (mark_here rs q.rows position) ≡ false
    unfit h = rw (← m) (sym e ∙ h)

    fit : b ≡ true → (mark ≡ CLOSE → ⊥) → (p : MarkPlace) → p ≡ before_mark q mark → SteppedBack rs document position kept q (Some p) kept
    unfolding closes_before
    fit h n p ep = rw (← m, ne_eqb mark CLOSE n) (sym e ∙ h, ep, refl)

some_left : (rs : List Row) (count position mark : ℕ) → mark ≡ mark_here rs count position → (mark ≡ CLOSE → ⊥) → 0 < count
some_left rs count position mark m n = told_some rs count position (λ h. n (m ∙ h))

some_open : (rs : List Row) (document position : ℕ) (kept : List ℕ) (q : MarkPlace) (mark : ℕ) (b : Bool)
    → b ≡ fitsb rs document position kept q mark → b ≡ true → (mark ≡ CLOSE → ⊥) → (mark ≡ TEXT → ⊥) → 0 < q.depth
some_open rs document position kept q mark b e h = (fits_read rs document position kept q mark (sym e ∙ h)).inner

pub returns-then-place-eq-MOST_LEVELS : goal.returns-then-place-eq-MOST_LEVELS
returns-then-place-eq-MOST_LEVELS c = full _ _ _ _ _ _ c.mark_here-mark.ensures c.if-mark-eq-CLOSE.true (omega arith)

pub returns-then-mark-eq-CLOSE : goal.returns-then-mark-eq-CLOSE
returns-then-mark-eq-CLOSE c =
    closed _ _ _ _ _ _ c.mark_here-mark.ensures c.if-mark-eq-CLOSE.true (omega arith) _ c.keep_close.ensures.answer _
    c.keep_close.ensures.closes

pub is_fitting-requires : goal.is_fitting-requires
is_fitting-requires c =
    let p = c.requires in
    let n = c.if-mark-eq-CLOSE.false in
    (n, p.0, some_left _ _ _ _ c.mark_here-mark.ensures n, p.1)

pub returns-then-not-is_fitting : goal.returns-then-not-is_fitting
returns-then-not-is_fitting c =
    unfit _ _ _ _ _ _ c.mark_here-mark.ensures _ c.is_fitting.ensures c.if-not-is_fitting.true

pub before_node-requires : goal.before_node-requires
before_node-requires c =
    let n = c.if-mark-eq-CLOSE.false in
    let m = c.mark_here-mark.ensures in
    (n, some_open _ _ _ _ _ _ _ c.is_fitting.ensures c.if-not-is_fitting.false n, some_left _ _ _ _ m n)

pub returns : goal.returns
returns c =
    fit _ _ _ _ _ _ c.mark_here-mark.ensures _ c.is_fitting.ensures
    c.if-not-is_fitting.false c.if-mark-eq-CLOSE.false _ c.before_node.ensures
