-- Why it holds: After a mark the closes kept are those of the elements open there. A close adds its
-- own position, and an opening takes the innermost's as its end.
-- What would break it: A close kept at another place than its element's, or an end read from
-- another element's close, would be caught here.
use mathlib.Core.Path.{◌≡◌, refl, sym, ap, ◌∙◌}
use mathlib.Core.List.{List, ◌∷◌}
use Prim.Native.Nat.{ℕ, zero, suc, ◌+◌, ◌-◌, ◌≤◌, ◌<◌}
use native.Mathlib.Nat.{not-suc-le-zero}
use native.Mathlib.Omega.{arith}
use lib.ListN.{length, get_or, set, length-set}
use lib.Seq.{get_or-set_same, get_or-set_other}
use borrow.Author.Tests.{eq-eqb, ne_eqb}
use Rattle.nodes.specs.Words.{node}
use Rattle.marks.specs.Mark.{CLOSE, TEXT, open_after, closeb}
use Rattle.marks.specs.Table.{row, end_of, rows_from}
use Rattle.marks.specs.Private.Walk.{open_before, closes_before, Kept, row_here}
use mathlib.Core.Logic.{inl, inr}
use Rattle.laws.proofs.Tests.{either}
use Rattle.marks.proofs.MarkLaws.{closes, is_text, opens, kind_of, open_closes, open_text, open_opens, InPlace, closes_some, close_here, close_closes, close_text, close_opens, rows_node, end_text_lem, end_opens}

module _ (depth mark : ℕ) where
  pub before_closes : mark ≡ CLOSE → open_before depth mark ≡ depth + 1
  unfolding open_before
  before_closes h = rw (eq-eqb mark CLOSE h)

  pub before_text : mark ≡ TEXT → open_before depth mark ≡ depth
  unfolding open_before
  before_text h = rw h

  pub before_opens : (mark ≡ CLOSE → ⊥) → (mark ≡ TEXT → ⊥) → open_before depth mark ≡ depth - 1
  unfolding open_before
  before_opens h k = rw (ne_eqb mark CLOSE h, ne_eqb mark TEXT k)

  -- An opening or a text closes nothing, so no more elements are open before it than after.
  pub before_low : (mark ≡ CLOSE → ⊥) → open_before depth mark ≤ depth
  before_low h =
      elim (kind_of mark) [
        | closes c ↦ absurd (h c)
        | is_text t ↦ rw (before_text t) (omega arith)
        | opens c t ↦ rw (before_opens c t) (omega arith)
      ]

  -- A step back and a step forth lead to the same depth.
  pub open_back : ((mark ≡ CLOSE → ⊥) → (mark ≡ TEXT → ⊥) → 0 < depth) → open_after (open_before depth mark) mark ≡ depth
  open_back some =
      elim (kind_of mark) [
        | closes h ↦ rw (before_closes h, open_closes (depth + 1) mark h) (omega arith)
        | is_text h ↦ rw (before_text h, open_text depth mark h) refl
        | opens h k ↦ let s = some h k in rw (before_opens h k, open_opens (depth - 1) mark h k) (omega arith)
      ]

-- A step forth and a step back do too, where a mark is in its place.
pub open_forth : (position depth mark : ℕ) → InPlace position depth mark → open_before (open_after depth mark) mark ≡ depth
open_forth position depth mark i =
    elim (kind_of mark) [
      | closes h ↦ let s = closes_some position depth mark i h in
          rw (open_closes depth mark h, before_closes (depth - 1) mark h) (omega arith)
      | is_text h ↦ rw (open_text depth mark h, before_text depth mark h) refl
      | opens h k ↦ rw (open_opens depth mark h k, before_opens (depth + 1) mark h k) (omega arith)
    ]

-- As many closes are kept as before.
pub length_kept : (kept : List ℕ) (position depth mark : ℕ) → length (closes_before kept position depth mark) ≡ length kept
unfolding closes_before
length_kept kept position depth mark =
    elim (either (closeb mark)) [ inl h ↦ rw h (length-set kept depth position) | inr h ↦ rw h refl ]

-- At the end of the marks nothing is open.
pub kept_none : (kept : List ℕ) (position : ℕ) (marks : List ℕ) → Kept kept position 0 marks
kept_none kept position marks inner i = absurd (not-suc-le-zero i)

-- The closes kept, one mark further back.
module _ (kept : List ℕ) (position depth mark : ℕ) (marks : List ℕ) (k : Kept kept (position + 1) depth marks) where
  kept_closes : mark ≡ CLOSE → depth < length kept → Kept (set kept depth position) position (depth + 1) (mark ∷ marks)
  kept_closes h l zero i =
      let e : depth + 1 - 1 - 0 ≡ depth = omega arith in
      ap (λ at. get_or (set kept depth position) at 0) e ∙ get_or-set_same kept depth position 0 l ∙ sym (close_here 0 position mark marks h)
  kept_closes h l (suc inner) i =
      let e : depth + 1 - 1 - suc inner ≡ depth - 1 - inner = omega arith in
      ap (λ at. get_or (set kept depth position) at 0) e
      ∙ get_or-set_other kept depth (depth - 1 - inner) position 0 (omega arith)
      ∙ k inner (omega arith)
      ∙ sym (close_closes inner position mark marks h)

  kept_text : mark ≡ TEXT → Kept kept position depth (mark ∷ marks)
  kept_text h inner i = k inner i ∙ sym (close_text inner position mark marks h)

  kept_opens : (mark ≡ CLOSE → ⊥) → (mark ≡ TEXT → ⊥) → Kept kept position (depth - 1) (mark ∷ marks)
  kept_opens h t inner i =
      let e : depth - 1 - 1 - inner ≡ depth - 1 - (inner + 1) = omega arith in
      ap (λ at. get_or kept at 0) e ∙ k (inner + 1) (omega arith) ∙ sym (close_opens inner position mark marks h t)

  pub kept_before : (mark ≡ CLOSE → depth < length kept)
      → Kept (closes_before kept position depth mark) position (open_before depth mark) (mark ∷ marks)
  unfolding closes_before
  kept_before room =
      elim (kind_of mark) [
        | closes h ↦ rw (before_closes depth mark h, eq-eqb mark CLOSE h) (kept_closes h (room h))
        | is_text h ↦ rw (before_text depth mark h, h) (rw h at (kept_text h))
        | opens h t ↦ rw (before_opens depth mark h t, ne_eqb mark CLOSE h) (kept_opens h t)
      ]

  -- The row of the node that the mark begins: the innermost of the closes kept is an element's end.
  here_ends : (document : ℕ) → (mark ≡ CLOSE → ⊥) → ((mark ≡ TEXT → ⊥) → 0 < depth)
      → row_here document position kept depth mark ≡ row (node document position (end_of position mark marks) (open_before depth mark + 1)) mark
  unfolding row_here
  here_ends document h some =
      elim (kind_of mark) [
        | closes c ↦ absurd (h c)
        | is_text t ↦ rw (eq-eqb mark TEXT t, end_text_lem position mark marks t) refl
        | opens c t ↦ let e : depth - 1 ≡ depth - 1 - 0 = omega arith in
            rw (ne_eqb mark TEXT t, end_opens position mark marks t, ap (λ at. get_or kept at 0) e ∙ k 0 (some t)) refl
      ]

  -- So the rows from a mark on begin with its own.
  pub rows_here : (document : ℕ) → (mark ≡ CLOSE → ⊥) → ((mark ≡ TEXT → ⊥) → 0 < depth)
      → rows_from document position (open_before depth mark) (mark ∷ marks)
      ≡ row_here document position kept depth mark ∷ rows_from document (position + 1) depth marks
  rows_here document h some =
      rows_node document position (open_before depth mark) mark marks h
      ∙ ap (λ r. r ∷ rows_from document (position + 1) (open_after (open_before depth mark) mark) marks) (sym (here_ends document h some))
      ∙ ap (λ d. row_here document position kept depth mark ∷ rows_from document (position + 1) d marks) (open_back depth mark (λ c. some))
