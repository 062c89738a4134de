-- Function: `next_document` (src/both.rt).
-- Why it holds: Each return gives the document of one list's next node, which is no later than the
-- other's, or the other list is at its end.
-- What would break it: The later of two documents would be caught at its return.
use mathlib.Core.Path.{refl}
use mathlib.Core.Logic.{inl, inr, ⊎_elim}
use native.Mathlib.Omega.{arith}
use lib.Dec.{ltb}
use lib.ListN.{get_or}
use borrow.Author.Tests.{ltb-true, ltb-false}
use Rattle.laws.proofs.Tests.{either}
use Rattle.lists.specs.Private.Walk.{node_from}
use Rattle.lists.proofs.both.next_document.Goals as goal

pub bounds-first-i : goal.bounds-first-i
bounds-first-i c = ⊎_elim (λ l. l) (λ l. absurd (omega arith)) c.requires.2

pub returns-then-second-j : goal.returns-then-second-j
unfolding node_from
returns-then-second-j c = record {
  upcoming = inl (⊎_elim (λ l. l) (λ l. absurd (omega arith)) c.requires.2, refl);
  first_on = λ l. omega arith;
  second_on = λ l. absurd (omega arith);
}

pub returns-then-first-i : goal.returns-then-first-i
unfolding node_from
returns-then-first-i c = record { upcoming = inr (omega arith, refl); first_on = λ l. absurd (omega arith); second_on = λ l. omega arith }

pub returns : goal.returns
unfolding node_from
returns c =
    let a = c.args in
    let f = get_or a.first.now a.i 0 in
    let g = get_or a.second.now a.j 0 in
    elim (either (ltb g f)) [
      | inl l ↦ let h = ltb-true g f l in record { upcoming = inr (omega arith, omega arith); first_on = λ _. omega arith; second_on = λ _. omega arith }
      | inr l ↦ let h = ltb-false g f l in record { upcoming = inl (omega arith, omega arith); first_on = λ _. omega arith; second_on = λ _. omega arith }
    ]
