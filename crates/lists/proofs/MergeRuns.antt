-- Why it holds: The merge takes the next node of whichever list starts earlier. So a run of one
-- list, up to where the other's next node starts, is a run of the merge. Sound nodes of both lists
-- that start together are identical or at odds.
-- What would break it: A run past the other list's next node would be caught at `draws_first` or
-- `draws_second`. A node of both lists that came twice would be caught at `same_rest`.
use mathlib.Core.Path.{◌≡◌, refl, sym, ap, subst, ◌∙◌}
use mathlib.Core.Bool.{true, false}
use mathlib.Core.Logic.{◌⊎◌, inl, inr, ⊎_elim}
use mathlib.Core.List.{List, ◌∷◌}
use Prim.Native.Nat.{ℕ, ◌+◌, ◌≤◌, ◌<◌}
use native.Mathlib.Omega.{arith}
use lib.Dec.{ltb}
use lib.ListN.{length, drop}
use borrow.Author.Tests.{ltb-true, ltb-false}
use Rattle.nodes.specs.declared.node.Node.{Node}
use Rattle.nodes.specs.Node.{afterb, sameb}
use Rattle.nodes.specs.Words.{nodes}
use Rattle.nodes.proofs.NodeLaws.{after_document, after_start, after_starts, after_read, after_self, same_read, same_self}
use Rattle.answers.specs.Answer.{TAKEN}
use Rattle.laws.specs.Choose.{All}
use Rattle.laws.proofs.Tests.{either, not_so}
use Rattle.lists.specs.Two.{oddsb}
use Rattle.lists.specs.Private.Merge.{merge, Cut}
use Rattle.lists.specs.Private.Walk.{node_from}
use Rattle.lists.specs.Private.Both.{Ahead, Draws, rest_of, whole_of}
use Rattle.lists.proofs.Faults.{Sound}
use Rattle.lists.proofs.MergeSteps.{merge_nil, merge_left, merge_both, merge_right}
use Rattle.lists.proofs.Merging.{Even, joint_iff, tied, merge_taken_iff}
use Rattle.lists.proofs.Runs.{all_from}
use Rattle.lists.proofs.Taken.{taken_iff}
use Rattle.lists.proofs.WalkLaws.{head_from, none_from}

module _ (first second : List ℕ) (i j : ℕ) where
  -- The first list's node at i comes next in the merge where the second list's, if there is one,
  -- stands after it.
  left_drawn : i + 3 < length first → (j + 3 < length second) ⊎ (length second ≤ j)
      → (j < length second → afterb (node_from second j) (node_from first i) ≡ true)
      → rest_of first i second j ≡ node_from first i ∷ rest_of first (i + 4) second j
  left_drawn l (inl m) t =
      let x = node_from first i in
      let y = node_from second j in
      let at_y : nodes (drop j second) ≡ y ∷ nodes (drop (j + 4) second) = head_from second j m in
      let heads : rest_of first i second j ≡ merge (x ∷ nodes (drop (i + 4) first)) (y ∷ nodes (drop (j + 4) second)) =
      rw (head_from first i l, at_y) refl in
      heads ∙ merge_left x y _ _ (t (omega arith)) ∙ ap (λ ns. x ∷ merge (nodes (drop (i + 4) first)) ns) (sym at_y)
  left_drawn l (inr m) t = rw (none_from second j m, merge_nil (nodes (drop i first)), merge_nil (nodes (drop (i + 4) first))) (head_from first i l)

  -- The second list's node at j comes next where the first list's doesn't come before it, and isn't
  -- the same.
  right_drawn : j + 3 < length second → (i + 3 < length first) ⊎ (length first ≤ i)
      → (i < length first → (afterb (node_from second j) (node_from first i) ≡ false) × (sameb (node_from first i) (node_from second j) ≡ false))
      → rest_of first i second j ≡ node_from second j ∷ rest_of first i second (j + 4)
  unfolding merge
  right_drawn l (inl m) t =
      let x = node_from first i in
      let y = node_from second j in
      let at_x : nodes (drop i first) ≡ x ∷ nodes (drop (i + 4) first) = head_from first i m in
      let heads : rest_of first i second j ≡ merge (x ∷ nodes (drop (i + 4) first)) (y ∷ nodes (drop (j + 4) second)) =
      rw (at_x, head_from second j l) refl in
      let f = t (omega arith) in
      heads ∙ merge_right x y _ _ f.0 f.1 ∙ ap (λ ns. y ∷ merge ns (nodes (drop (j + 4) second))) (sym at_x)
  right_drawn l (inr m) t = rw (none_from first i m) (head_from second j l)

-- From a word on there is a whole node, or the list is at its end.
whole_or_end : (words : List ℕ) (at : ℕ) → Cut at words → (at + 3 < length words) ⊎ (length words ≤ at)
whole_or_end words at cut =
    elim (either (ltb at (length words))) [
      | inl l ↦ let h : at < length words = ltb-true at (length words) l in inl (omega arith)
      | inr l ↦ inr (ltb-false at (length words) l)
    ]

module _ (first second : List ℕ) (d limit : ℕ) where
  -- A node of d in one list, before the limit, stands before the other list's next node.
  pub draws_first : (j : ℕ) → Cut j second → Ahead second j d limit → Draws first d limit (λ i. rest_of first i second j)
  draws_first j cut (inl h) i l q s =
      left_drawn first second i j l (whole_or_end second j cut) (λ m. let e = h.1 m in after_document (node_from second j) (node_from first i) (omega arith))
  draws_first j cut (inr h) i l q s =
      let e = h.3 in
      left_drawn first second i j l (whole_or_end second j cut) (λ m. after_start (node_from second j) (node_from first i) (h.2 ∙ sym q) (omega arith))

  pub draws_second : (i : ℕ) → Cut i first → Ahead first i d limit → Draws second d limit (λ j. rest_of first i second j)
  draws_second i cut (inl h) j l q s =
      let x = node_from first i in
      let y = node_from second j in
      right_drawn first second i j l (whole_or_end first i cut) (λ m. let e = h.1 m in (
        not_so (λ a. ⊎_elim (λ p. omega arith) (λ p. let z = p.0 in omega arith) (after_read y x a)),
        not_so (λ a. let z = ap (λ (n : Node). n.document) (same_read x y a) in omega arith),
      ))
  draws_second i cut (inr h) j l q s =
      let x = node_from first i in
      let y = node_from second j in
      let e = h.3 in
      right_drawn first second i j l (whole_or_end first i cut) (λ m. (
        not_so (λ a. let p = after_starts y x a (h.2 ∙ sym q) in omega arith),
        not_so (λ a. let z = ap (λ (n : Node). n.start) (same_read x y a) in omega arith),
      ))

-- A node of both lists comes once, so the second list may go on after it.
pub same_rest : (first second : List ℕ) (i j : ℕ) → i + 3 < length first → j + 3 < length second → Cut (j + 4) second
    → node_from first i ≡ node_from second j → (j + 4 < length second → afterb (node_from second (j + 4)) (node_from first i) ≡ true)
    → rest_of first i second j ≡ rest_of first i second (j + 4)
same_rest first second i j l m cut q t =
    let x = node_from first i in
    let y = node_from second j in
    let heads : rest_of first i second j ≡ merge (x ∷ nodes (drop (i + 4) first)) (y ∷ nodes (drop (j + 4) second)) =
    rw (head_from first i l, head_from second j m) refl in
    let a : afterb y x ≡ false = subst (λ n. afterb n x ≡ false) q (after_self x) in
    let s : sameb x y ≡ true = subst (λ n. sameb x n ≡ true) q (same_self x) in
    heads ∙ merge_both x y _ _ a s ∙ sym (left_drawn first second i (j + 4) l (whole_or_end second (j + 4) cut) t)

-- If the whole merge is accepted, nodes of both lists that start together are identical.
pub same_start : (first second : List ℕ) (i j : ℕ) → Cut i first → Cut j second → i + 3 < length first → j + 3 < length second
    → (node_from first i).document ≡ (node_from second j).document → (node_from first i).start ≡ (node_from second j).start
    → (whole_of first second).answer ≡ TAKEN → node_from first i ≡ node_from second j
same_start first second i j cut cut' l m d s h =
    let x = node_from first i in
    let y = node_from second j in
    let t = (merge_taken_iff (nodes first) (nodes second)).0 h in
    let at_x : nodes (drop i first) ≡ x ∷ nodes (drop (i + 4) first) = head_from first i l in
    let at_y : nodes (drop j second) ≡ y ∷ nodes (drop (j + 4) second) = head_from second j m in
    let sound-x = subst (All Sound) at_x (all_from Sound first i cut.1 ((taken_iff (nodes first)).0 t.0).0) in
    let sound-y = subst (All Sound) at_y (all_from Sound second j cut'.1 ((taken_iff (nodes second)).0 t.1).0) in
    let even : Even (x ∷ nodes (drop (i + 4) first)) (nodes second) =
    subst (λ ns. Even ns (nodes second)) at_x
    (all_from (λ n. All (λ k. oddsb n k ≡ false) (nodes second)) first i cut.1 ((joint_iff (nodes first) (nodes second)).0 t.2)) in
    let odds = subst (All (λ k. oddsb x k ≡ false)) at_y (all_from (λ k. oddsb x k ≡ false) second j cut'.1 even.0) in
    elim (either (sameb x y)) [
      | inl e ↦ same_read x y e
      | inr e ↦ absurd (tied x y sound-x.0 sound-y.0 (sym d) (sym s) e odds.0)
    ]
