-- Function: `are_agreeing` (src/two.rt).
-- Why it holds: Words at fault are refused. For whole words, the merge is taken exactly when both
-- lists are and none of their nodes are at odds.
-- What would break it: A list that isn't tested, or another merge, would be caught at its return.
use mathlib.Core.Path.{◌≡◌, sym, ◌∙◌}
use mathlib.Core.Bool.{true, false, not, not-not, true≢false}
use mathlib.Core.List.{List}
use Prim.Native.Nat.{ℕ}
use lib.Dec.{eqb}
use borrow.Author.Tests.{eq-eqb, ne_eqb, eqb-true}
use Rattle.std.specs.Prelude.{Result, Ok, Err, is_ok}
use Rattle.answers.specs.Answer.{TAKEN}
use Rattle.answers.specs.declared.refusal.Refusal.{Refusal}
use Rattle.answers.specs.Refusal.{answer_in}
use Rattle.answers.proofs.RefusalLaws.{never_taken}
use Rattle.nodes.specs.Words.{nodes}
use Rattle.laws.proofs.Tests.{same_test}
use Rattle.lists.specs.Check.{word_fault}
use Rattle.lists.specs.Private.Both.{whole_of}
use Rattle.lists.specs.Two.{check_two}
use Rattle.answers.specs.Verdict.{refusedb}
use Rattle.lists.proofs.Merging.{joint_iff, merge_taken_iff}
use Rattle.lists.proofs.Pairing.{two_taken_iff}
use Rattle.lists.proofs.Taken.{whole_words, words_check}
use Rattle.lists.proofs.two.are_agreeing.Goals.{Then-is_ok-2, then-is_ok, else-is_ok}
use Rattle.lists.proofs.two.are_agreeing.Goals as goal

module _ (xs ys : List ℕ) where
  answers : eqb (check_two xs ys).answer TAKEN ≡ not (refusedb (check_two xs ys))
  unfolding refusedb
  answers = sym (not-not _)

  no : ((check_two xs ys).answer ≡ TAKEN → ⊥) → false ≡ not (refusedb (check_two xs ys))
  no h = sym (ne_eqb (check_two xs ys).answer TAKEN h) ∙ answers

  no_first : (word_fault xs ≡ TAKEN → ⊥) → false ≡ not (refusedb (check_two xs ys))
  no_first h = no (λ t. h ((words_check xs).0 ((two_taken_iff xs ys).0 t).0).0)

  no_second : (word_fault ys ≡ TAKEN → ⊥) → false ≡ not (refusedb (check_two xs ys))
  no_second h = no (λ t. h ((words_check ys).0 ((two_taken_iff xs ys).0 t).1).0)

  -- The merge is taken exactly when the two lists are.
  merged : word_fault xs ≡ TAKEN → word_fault ys ≡ TAKEN
      → eqb (whole_of xs ys).answer TAKEN ≡ not (refusedb (check_two xs ys))
  merged f g = same_test there back ∙ answers
    where
      there : eqb (whole_of xs ys).answer TAKEN ≡ true → eqb (check_two xs ys).answer TAKEN ≡ true
      there h =
          let m = (merge_taken_iff (nodes xs) (nodes ys)).0 (eqb-true _ _ h) in
          eq-eqb _ _ ((two_taken_iff xs ys).1 ((words_check xs).1 (f, m.0), (words_check ys).1 (g, m.1), (joint_iff _ _).0 m.2))

      back : eqb (check_two xs ys).answer TAKEN ≡ true → eqb (whole_of xs ys).answer TAKEN ≡ true
      back h =
          let t = (two_taken_iff xs ys).0 (eqb-true _ _ h) in
          eq-eqb _ _ ((merge_taken_iff (nodes xs) (nodes ys)).1 (((words_check xs).0 t.0).1, ((words_check ys).0 t.1).1, (joint_iff _ _).1 t.2))

-- What the check of the words answers tells their fault.
no_fault : (ws : List ℕ) (r : Result (Unit {0}) Refusal) → answer_in r ≡ word_fault ws → is_ok r ≡ true → word_fault ws ≡ TAKEN
no_fault ws (Ok _) q h = sym q
no_fault ws (Err f) q h = absurd (true≢false (sym h))

a_fault : (ws : List ℕ) (r : Result (Unit {0}) Refusal) → answer_in r ≡ word_fault ws → is_ok r ≡ false → word_fault ws ≡ TAKEN → ⊥
a_fault ws (Ok _) q h t = absurd (true≢false h)
a_fault ws (Err f) q h t = never_taken f (q ∙ t)

-- Where both are tested and neither has a fault, both lists are whole.
both_whole : (c : Then-is_ok-2) → (word_fault c.args.ancestors.now ≡ TAKEN) × (word_fault c.args.descendants.now ≡ TAKEN)
both_whole c =
    elim c.if-is_ok.branch [
      | then-is_ok w ↦ (
        no_fault _ _ c.check_whole.ensures (sym w.if-is_ok.ensures.value),
        no_fault _ _ w.check_whole-then-is_ok.ensures (sym w.is_ok-then-is_ok.ensures.value ∙ sym w.value-is ∙ c.if-is_ok-2.true),
      )
      | else-is_ok w ↦ absurd (true≢false (sym c.if-is_ok-2.true ∙ w.value-is ∙ w.if-is_ok.false))
    ]

pub returns-then-is_ok-2 : goal.returns-then-is_ok-2
returns-then-is_ok-2 c =
    let w = both_whole (goal.at.returns-then-is_ok-2 c).Then-is_ok-2 in
    c.pass_both.ensures ∙ merged c.args.ancestors.now c.args.descendants.now w.0 w.1

pub returns-else-is_ok-2 : goal.returns-else-is_ok-2
returns-else-is_ok-2 c =
    let a = c.args in
    c.if-is_ok-2.false
    ∙ elim c.if-is_ok.branch [
      | then-is_ok w ↦ no_second a.ancestors.now a.descendants.now
          (a_fault _ _ w.check_whole-then-is_ok.ensures (sym w.is_ok-then-is_ok.ensures.value ∙ sym w.value-is ∙ c.if-is_ok-2.false))
      | else-is_ok w ↦ no_first a.ancestors.now a.descendants.now (a_fault _ _ c.check_whole.ensures (sym w.if-is_ok.ensures.value))
    ]

pub pass_both-requires : goal.pass_both-requires
pass_both-requires c =
    let a = c.args in
    let w = both_whole (goal.at.pass_both-requires c).Then-is_ok-2 in
    ((whole_words a.ancestors.now).0 w.0, (whole_words a.descendants.now).0 w.1)
