-- Function: `pass_mark` (src/mark.rt).
-- Why it holds: A mark without a fault is passed, and one with a fault is refused with it.
-- What would break it: A fault passed over, or another number, would be caught at its return.
use mathlib.Core.Path.{◌≡◌, sym}
use Prim.Native.Nat.{ℕ, ◌<◌}
use borrow.Author.Tests.{ne_eqb}
use Rattle.std.specs.Prelude.{Ok, Err}
use Rattle.std.proofs.lemmas.Result.{err_from_is_err_and}
use Rattle.answers.specs.Answer.{TAKEN}
use Rattle.answers.specs.Refusal.{number_of}
use Rattle.answers.specs.declared.refusal.Refusal.{Refusal}
use Rattle.answers.proofs.RefusalLaws.{never_taken}
use Rattle.marks.specs.declared.mark.MarkPlace.{MarkPlace}
use Rattle.marks.specs.Mark.{CLOSE, mark_fault}
use Rattle.marks.specs.Private.Walk.{Step, after_mark, passed}
use Rattle.marks.proofs.MarkLaws.{in_place, closes_some}
use Rattle.marks.proofs.mark.pass_mark.Goals as goal

module _ (position : ℕ) (p : MarkPlace) (mark : ℕ) where
  refused_with : (r : Refusal) → number_of r ≡ mark_fault position p.depth mark → ◌≡◌ {A = Step} (Err (number_of r)) (passed position p mark)
  unfolding passed
  refused_with r e = rw (← e, ne_eqb (number_of r) TAKEN (never_taken r))

  module _ (e : TAKEN ≡ mark_fault position p.depth mark) where
    reaches : (q : MarkPlace) → q ≡ after_mark p mark → ◌≡◌ {A = Step} (Ok q) (passed position p mark)
    unfolding passed
    reaches q k = rw (← e, k)

    open_there : mark ≡ CLOSE → 0 < p.depth
    open_there = closes_some position p.depth mark (in_place position p.depth mark (sym e))

pub returns-in_err-check_mark : goal.returns-in_err-check_mark
returns-in_err-check_mark c =
    let p = err_from_is_err_and c.from_residual.result c.from_residual.ensures.1 in
    rw (p.1, p.2) (refused_with _ _ _ _ c.in_err-check_mark.ensures)

pub place_after-requires : goal.place_after-requires
place_after-requires c = (c.requires.0, c.requires.1, open_there _ c.args.place _ c.in_ok-check_mark.ensures)

pub returns : goal.returns
returns c = reaches _ _ _ c.in_ok-check_mark.ensures _ c.place_after.ensures
