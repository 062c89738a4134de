-- Why it holds: A mark is a close, a text or an opening, and each definition about marks says one
-- thing of each of the three.
-- What would break it: A mark counted as two kinds, a close that opened something or a faulty mark
-- passed over would be caught here.
use mathlib.Core.Path.{◌≡◌, refl}
use mathlib.Core.Logic.{inl, inr}
use mathlib.Core.Bool.{false, ◌||◌}
use mathlib.Core.List.{List, [], ◌∷◌}
use Prim.Native.Nat.{ℕ, suc, ◌+◌, ◌-◌, ◌≤◌, ◌<◌, zero}
use native.Mathlib.Numerals.{sub-one}
use native.Mathlib.Omega.{arith}
use lib.Dec.{ltb, eqb, eqb-suc-zero}
use lib.ListN.{length}
use borrow.Author.Tests.{ltb-false, eqb-true, eqb-false, le-ltb, eq-eqb, ne_eqb}
use Rattle.answers.specs.Answer.{TAKEN}
use Rattle.nodes.specs.Node.{MOST_LEVELS}
use Rattle.nodes.specs.Words.{MOST_NODES, node}
use Rattle.laws.proofs.Tests.{either, or_none}
use Rattle.lists.proofs.Faults.{skip}
use Rattle.marks.specs.Mark.{CLOSE, TEXT, closeb, textb, open_after, strayb, deepb, mark_fault, unclosedb, fault_from, check_marks}
use Rattle.marks.specs.Table.{row, close_at, end_of, rows_from}

-- The three kinds of mark.
pub data Kind (mark : ℕ) : Type 0 where
  closes : mark ≡ CLOSE → Kind mark
  is_text : mark ≡ TEXT → Kind mark
  opens : (mark ≡ CLOSE → ⊥) → (mark ≡ TEXT → ⊥) → Kind mark

pub kind_of : (mark : ℕ) → Kind mark
kind_of mark =
    elim (either (closeb mark)) [
      | inl h ↦ closes (eqb-true _ _ h)
      | inr h ↦ elim (either (textb mark)) [ inl k ↦ is_text (eqb-true _ _ k) | inr k ↦ opens (eqb-false _ _ h) (eqb-false _ _ k) ]
    ]

module _ (depth mark : ℕ) where
  pub open_closes : mark ≡ CLOSE → open_after depth mark ≡ depth - 1
  unfolding open_after
  open_closes h = rw (eq-eqb mark CLOSE h)

  pub open_text : mark ≡ TEXT → open_after depth mark ≡ depth
  unfolding open_after
  open_text h = rw h

  pub open_opens : (mark ≡ CLOSE → ⊥) → (mark ≡ TEXT → ⊥) → open_after depth mark ≡ depth + 1
  unfolding open_after
  open_opens h k = rw (ne_eqb mark CLOSE h, ne_eqb mark TEXT k)

-- The close of an element, mark by mark.
module _ (inner position mark : ℕ) (marks : List ℕ) where
  pub close_here : mark ≡ CLOSE → close_at 0 position (mark ∷ marks) ≡ position
  unfolding close_at
  close_here h = rw (eq-eqb mark CLOSE h)

  pub close_closes : mark ≡ CLOSE → close_at (suc inner) position (mark ∷ marks) ≡ close_at inner (position + 1) marks
  unfolding close_at open_after
  close_closes h = rw (eq-eqb mark CLOSE h, eqb-suc-zero inner, sub-one (suc inner))

  pub close_text : mark ≡ TEXT → close_at inner position (mark ∷ marks) ≡ close_at inner (position + 1) marks
  unfolding close_at open_after
  close_text h = rw h

  pub close_opens : (mark ≡ CLOSE → ⊥) → (mark ≡ TEXT → ⊥) → close_at inner position (mark ∷ marks) ≡ close_at (inner + 1) (position + 1) marks
  unfolding close_at open_after
  close_opens h k = rw (ne_eqb mark CLOSE h, ne_eqb mark TEXT k)

-- The rows, mark by mark.
module _ (document position depth mark : ℕ) (marks : List ℕ) where
  pub rows_closes : mark ≡ CLOSE → rows_from document position depth (mark ∷ marks) ≡ rows_from document (position + 1) (depth - 1) marks
  unfolding rows_from open_after
  rows_closes h = rw (eq-eqb mark CLOSE h)

  pub rows_node : (mark ≡ CLOSE → ⊥) → rows_from document position depth (mark ∷ marks)
      ≡ row (node document position (end_of position mark marks) (depth + 1)) mark ∷ rows_from document (position + 1) (open_after depth mark) marks
  unfolding rows_from
  rows_node h = rw (ne_eqb mark CLOSE h)

module _ (position mark : ℕ) (marks : List ℕ) where
  pub end_text_lem : mark ≡ TEXT → end_of position mark marks ≡ position
  unfolding end_of
  end_text_lem h = rw (eq-eqb mark TEXT h)

  pub end_opens : (mark ≡ TEXT → ⊥) → end_of position mark marks ≡ close_at 0 (position + 1) marks
  unfolding end_of
  end_opens h = rw (ne_eqb mark TEXT h)

-- A mark at a position is in its place, where `depth` elements are open.
pub record InPlace (position depth mark : ℕ) : Type 0 where
  pub known : mark ≤ TEXT
  pub rooted : depth ≡ 0 → (mark ≡ CLOSE → ⊥) × (mark ≡ TEXT → ⊥) × (position ≤ 1)
  pub level : (mark ≡ CLOSE → ⊥) → depth < MOST_LEVELS

module _ (position depth mark : ℕ) where
  stray_rooted : strayb position depth mark ≡ false → depth ≡ 0 → (mark ≡ CLOSE → ⊥) × (mark ≡ TEXT → ⊥) × (position ≤ 1)
  unfolding strayb
  stray_rooted h z =
      let p = or_none (closeb mark || textb mark) (rw (eq-eqb depth 0 z) at h) in
      let q = or_none (closeb mark) p.0 in
      (eqb-false _ _ q.0, eqb-false _ _ q.1, ltb-false _ _ p.1)

  rooted_stray : (depth ≡ 0 → (mark ≡ CLOSE → ⊥) × (mark ≡ TEXT → ⊥) × (position ≤ 1)) → strayb position depth mark ≡ false
  unfolding strayb
  rooted_stray h =
      elim (either (eqb depth 0)) [
        | inl z ↦ let r = h (eqb-true _ _ z) in rw (z, ne_eqb mark CLOSE r.0, ne_eqb mark TEXT r.1, le-ltb 1 position r.2)
        | inr z ↦ rw z
      ]

  deep_level : deepb depth mark ≡ false → (mark ≡ CLOSE → ⊥) → depth < MOST_LEVELS
  unfolding deepb
  deep_level h c = let l : depth + 1 ≤ MOST_LEVELS = ltb-false _ _ (rw (ne_eqb mark CLOSE c) at h) in omega arith

  level_deep : ((mark ≡ CLOSE → ⊥) → depth < MOST_LEVELS) → deepb depth mark ≡ false
  unfolding deepb
  level_deep h =
      elim (either (closeb mark)) [
        | inl c ↦ rw c
        | inr c ↦ let l = h (eqb-false _ _ c) in rw (c, le-ltb MOST_LEVELS (depth + 1) (omega arith))
      ]

  pub in_place : mark_fault position depth mark ≡ TAKEN → InPlace position depth mark
  unfolding mark_fault
  in_place h =
      let p = (skip (ltb TEXT mark) _ _).0 h in
      let q = (skip (strayb position depth mark) _ _).0 p.1 in
      let r = (skip (deepb depth mark) _ _).0 q.1 in
      record { known = ltb-false _ _ p.0; rooted = stray_rooted q.0; level = deep_level r.0 }

  pub place_in : InPlace position depth mark → mark_fault position depth mark ≡ TAKEN
  unfolding mark_fault
  place_in h = rw (le-ltb TEXT mark h.known, rooted_stray h.rooted, level_deep h.level)

-- A close that is in its place has an element to close.
pub closes_some : (position depth mark : ℕ) → InPlace position depth mark → mark ≡ CLOSE → 0 < depth
closes_some position zero mark i h = absurd ((i.rooted refl).0 h)
closes_some position (suc depth) mark i h = omega arith

-- Marks that are taken, mark by mark.
pub fault_read : (position depth mark : ℕ) (marks : List ℕ) → fault_from position depth (mark ∷ marks) ≡ TAKEN
    → InPlace position depth mark × (fault_from (position + 1) (open_after depth mark) marks ≡ TAKEN)
unfolding fault_from
fault_read position depth mark marks h =
    elim (either (eqb (mark_fault position depth mark) TAKEN)) [
      | inl e ↦ (in_place position depth mark (eqb-true _ _ e), rw e at h)
      | inr e ↦ absurd (eqb-false _ _ e (rw e at h))
    ]

pub fault_make : (position depth mark : ℕ) (marks : List ℕ) → InPlace position depth mark
    → fault_from (position + 1) (open_after depth mark) marks ≡ TAKEN → fault_from position depth (mark ∷ marks) ≡ TAKEN
unfolding fault_from
fault_make position depth mark marks p h = rw (eq-eqb (mark_fault position depth mark) TAKEN (place_in position depth mark p)) h

-- Taken marks end with nothing open, and not at the first position.
pub end_read : (position depth : ℕ) → fault_from position depth [] ≡ TAKEN → (depth ≡ 0) × (position ≡ 1 → ⊥)
unfolding fault_from unclosedb
end_read position depth h =
    let p = or_none (ltb 0 depth) ((skip (ltb 0 depth || eqb position 1) _ _).0 h).0 in
    let z : depth ≤ 0 = ltb-false _ _ p.0 in
    (omega arith, eqb-false _ _ p.1)

pub end_make : (position depth : ℕ) → depth ≡ 0 → (position ≡ 1 → ⊥) → fault_from position depth [] ≡ TAKEN
unfolding fault_from unclosedb
end_make position depth z p = rw (z, ne_eqb position 1 p)

-- A list of marks is taken when it isn't too long and no mark is faulty.
pub check_read : (marks : List ℕ) → check_marks marks ≡ TAKEN → (length marks ≤ MOST_NODES) × (fault_from 1 0 marks ≡ TAKEN)
unfolding check_marks
check_read marks h = let p = (skip (ltb MOST_NODES (length marks)) _ _).0 h in (ltb-false _ _ p.0, p.1)

pub check_make : (marks : List ℕ) → length marks ≤ MOST_NODES → fault_from 1 0 marks ≡ TAKEN → check_marks marks ≡ TAKEN
unfolding check_marks
check_make marks l h = rw (le-ltb MOST_NODES (length marks) l) h
