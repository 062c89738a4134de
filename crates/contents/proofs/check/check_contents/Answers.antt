-- Function: `check_contents` (src/check.rt).
-- Why it holds: A book with too many lists, or too short for its contents, breaks a rule. For any
-- other book the walk along its entries checks the rules, and its last step answers for all of
-- them.
-- What would break it: A limit one off, or an answer other than that step's, would be caught at its
-- return.
use mathlib.Core.Path.{◌≡◌, sym, ap, ◌∙◌}
use mathlib.Core.List.{List}
use Prim.Native.Nat.{ℕ, ◌≤◌, ◌<◌}
use native.Mathlib.Omega.{arith}
use lib.ListN.{length, take}
use Rattle.std.specs.Prelude.{Result}
use Rattle.answers.specs.declared.refusal.Refusal.{Refusal}
use Rattle.answers.specs.Answer.{CONTENTS}
use Rattle.numbers.specs.Little.{number_at}
use Rattle.contents.specs.declared.step.ContentsPlace.{ContentsPlace}
use Rattle.contents.specs.Contents.{MOST_LISTS, lists_in, entries_in, contents_of, contents_end, contents_fault_up_to, contents_fault}
use Rattle.contents.specs.Passing.{start_of, step_answer}
use Rattle.contents.specs.Private.Walk.{Kept}
use Rattle.contents.proofs.ContentLaws.{walk_answers, short_broken, many_broken, fault_broken}
use Rattle.contents.proofs.check.check_contents.Goals as goal
use Rattle.contents.proofs.check.check_contents.Goals.{then-lists-gt-MOST_LISTS-via-then-lists-gt-MOST_LISTS, then-lists-gt-MOST_LISTS-via-else-lists-gt-MOST_LISTS+then-book-contents_end}

module _ (book : List ℕ) (lists : ℕ) (n : lists ≡ number_at book 0) where
  too_many_lem : MOST_LISTS < lists → ◌≡◌ {A = ℕ} CONTENTS (contents_fault book)
  unfolding lists_in
  too_many_lem h = sym (fault_broken book MOST_LISTS (many_broken MOST_LISTS (number_at book 0) (contents_of book) (length book) (omega arith)))

  too_short : (end : ℕ) → end ≡ contents_end lists → length book < end → ◌≡◌ {A = ℕ} CONTENTS (contents_fault book)
  unfolding lists_in
  too_short end e h =
      sym (fault_broken book MOST_LISTS (short_broken MOST_LISTS (number_at book 0) (contents_of book) (length book) (omega (arith, e, ap contents_end n))))

  walked : lists ≤ MOST_LISTS → (r : Result ContentsPlace Refusal) → Kept (start_of lists) (take lists (entries_in book)) r
      → step_answer r (length book) ≡ contents_fault book
  unfolding contents_fault_up_to lists_in contents_of
  walked few r k = rw (← n) (walk_answers MOST_LISTS lists (take lists (entries_in book)) (length book) few r k)

pub returns-then-lists-gt-MOST_LISTS : goal.returns-then-lists-gt-MOST_LISTS
returns-then-lists-gt-MOST_LISTS c =
    elim c.then-lists-gt-MOST_LISTS.branch [
      | then-lists-gt-MOST_LISTS-via-then-lists-gt-MOST_LISTS w ↦ too_many_lem _ _ c.number_at-lists.ensures (omega arith)
      | then-lists-gt-MOST_LISTS-via-else-lists-gt-MOST_LISTS+then-book-contents_end w ↦
          too_short _ _ c.number_at-lists.ensures _ w.contents_end.ensures (omega arith)
    ]

pub returns : goal.returns
returns c =
    c.check_end.ensures
    ∙ walked _ _ c.number_at-lists.ensures (omega arith) c.pass_contents.result c.pass_contents.ensures
