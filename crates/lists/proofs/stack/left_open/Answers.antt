-- Function: `left_open` (src/stack.rt).
-- Why it holds: Before each turn, the chain from the word `left` down leaves the same nodes open as
-- the whole chain. A head that has ended is taken off, and one that hasn't ends the loop. The
-- bottom never ends.
-- Measure: `left`, the words of the stack still to look at.
-- What would break it: A step of another width, or a test of another word than the end, would be
-- caught at the next turn or at the return.
use mathlib.Core.Path.{◌≡◌, ap, ◌∙◌}
use mathlib.Core.Logic.{inl, inr}
use mathlib.Core.List.{List}
use lib.Dec.{ltb}
use lib.ListN.{get_or}
use borrow.Author.Tests.{ltb-true, ltb-false}
use Rattle.laws.proofs.Tests.{either}
use Prim.Native.Nat.{ℕ, ◌%◌, ◌≤◌, ◌<◌}
use native.Mathlib.Omega.{arith}
use Rattle.lists.specs.Private.Open.{LAST_END}
use Rattle.lists.proofs.StackLaws.{peeled_start, peeled_on, peeled_end}
use Rattle.lists.proofs.stack.left_open.Goals as goal

-- A word whose node ends before a start isn't the bottom's.
deep : (stack : List ℕ) (left start : ℕ) → left % 2 ≡ 0 → get_or stack 0 0 ≡ LAST_END → get_or stack left 0 < start → start ≤ LAST_END → 2 ≤ left
deep stack left start m q l low =
    elim (either (ltb 1 left)) [
      | inl z ↦ let o : 1 < left = ltb-true 1 left z in omega arith
      | inr z ↦ let o : left ≤ 1 = ltb-false 1 left z in
          let b : get_or stack left 0 ≡ LAST_END = ap (λ k. get_or stack k 0) (omega arith) ∙ q in absurd (omega arith)
    ]

pub loop-left-init : goal.loop-left-init
loop-left-init c = (c.requires.0, omega arith, λ n s q a h. peeled_start n s _ _ a h)

pub loop-left-smaller : goal.loop-left-smaller
loop-left-smaller c =
    let l = c.loop-left in
    let a = c.args in
    let d = deep a.stack.now l.left a.start l.invariant.0 c.requires.2 (omega arith) (omega arith) in omega arith

pub loop-left-preserved : goal.loop-left-preserved
loop-left-preserved c =
    let l = c.loop-left in
    let a = c.args in (
      omega arith,
      omega arith,
      λ n s q w h. peeled_on n s l.left a.stack.now (omega arith) (omega arith) (l.invariant.2 n s q w h),
    )

pub returns : goal.returns
returns c =
    let l = c.loop-left in
    let a = c.args in
    record { even = l.invariant.0; under = l.invariant.1; left = λ n s q w h. peeled_end n s l.left a.stack.now (omega arith) (l.invariant.2 n s q w h) }
