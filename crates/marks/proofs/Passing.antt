-- Why it holds: A walk that reaches the end has met no fault and counted each mark that isn't a
-- close. A walk that is refused names the first fault.
-- What would break it: A mark passed over, or a row counted twice, would be caught here.
use mathlib.Core.Path.{◌≡◌, refl, sym, ap, subst}
use mathlib.Core.Logic.{inl, inr}
use mathlib.Core.Bool.{cond}
use mathlib.Core.List.{List, [], ◌∷◌}
use Prim.Native.Nat.{ℕ, suc, ◌+◌, ◌≤◌, ◌<◌}
use native.Mathlib.Numerals.{add-one}
use native.Mathlib.Omega.{arith}
use lib.Dec.{ltb, eqb}
use lib.ListN.{length, get_or, drop, drop_of_length-le}
use lib.Seq.{drop-cons}
use borrow.Author.Tests.{eqb-true, eqb-false, eq-eqb, ne_eqb, lt-ltb, le-ltb}
use Rattle.std.specs.Prelude.{Ok, Err}
use Rattle.answers.specs.Answer.{TAKEN, UNCLOSED}
use Rattle.laws.specs.Choose.{keep}
use Rattle.laws.proofs.Tests.{either, or_right}
use Rattle.marks.specs.declared.mark.MarkPlace.{MarkPlace}
use Rattle.marks.specs.Mark.{CLOSE, closeb, open_after, mark_fault, unclosedb, fault_from}
use Rattle.marks.specs.Table.{rows_from}
use Rattle.marks.specs.Private.Walk.{mark_place, row_count, Step, after_mark, passed, walked}
use Rattle.marks.proofs.MarkLaws.{closes, is_text, opens, kind_of, open_closes, open_text, open_opens}

-- How many rows the marks make, mark by mark.
module _ (mark : ℕ) (marks : List ℕ) where
  pub count_closes : mark ≡ CLOSE → row_count (mark ∷ marks) ≡ row_count marks
  unfolding row_count keep
  count_closes h = rw (eq-eqb mark CLOSE h)

  pub count_node : (mark ≡ CLOSE → ⊥) → row_count (mark ∷ marks) ≡ row_count marks + 1
  unfolding row_count keep
  count_node h = rw (ne_eqb mark CLOSE h) (omega arith)

-- A mark makes at most one row.
count_high : (mark : ℕ) → row_count (mark ∷ []) ≤ 1
unfolding row_count keep
count_high mark = elim (either (closeb mark)) [ inl h ↦ rw h (omega arith) | inr h ↦ rw h (omega arith) ]

-- The table has as many rows.
pub length_table : (document position depth : ℕ) (marks : List ℕ) → length (rows_from document position depth marks) ≡ row_count marks
unfolding rows_from row_count keep
length_table document position depth [] = refl
length_table document position depth (mark ∷ marks) =
    let later = length_table document (position + 1) (open_after depth mark) marks in
    elim (either (closeb mark)) [ inl h ↦ rw h later | inr h ↦ rw h (ap suc later) ]

-- The rows counted and those to come are as many after a mark as before it.
rows_after : (p : MarkPlace) (mark : ℕ) (marks : List ℕ) → (after_mark p mark).rows + row_count marks ≡ p.rows + row_count (mark ∷ marks)
unfolding after_mark
rows_after p mark marks =
    elim (either (closeb mark)) [
      | inl h ↦ rw (h, count_closes mark marks (eqb-true _ _ h)) refl
      | inr h ↦ rw (h, count_node mark marks (eqb-false _ _ h)) (omega arith)
    ]

-- What a walk's answer says of the marks' fault and of the rows.
Told : ℕ → ℕ → Step → Type 0
Told fault rows (Ok p) = (fault ≡ TAKEN) × (p.rows ≡ rows)
Told fault rows (Err answer) = (answer ≡ fault) × (fault ≡ TAKEN → ⊥)

told : (position : ℕ) (p : MarkPlace) (marks : List ℕ) → Told (fault_from position p.depth marks) (p.rows + row_count marks) (walked position p marks)
unfolding fault_from walked after_mark row_count keep Told
told position p [] =
    elim (either (unclosedb position p.depth)) [ inl h ↦ rw h (refl, λ z. omega arith) | inr h ↦ rw h (refl, omega arith) ]
told position p (mark ∷ marks) =
    elim (either (eqb (mark_fault position p.depth mark) TAKEN)) [
      | inl h ↦ rw (h, ← rows_after p mark marks) (told (position + 1) (after_mark p mark) marks)
      | inr h ↦ rw h (refl, eqb-false _ _ h)
    ]

module _ (marks : List ℕ) where
  pub all_passed : (p : MarkPlace) → ◌≡◌ {A = Step} (Ok p) (walked 1 (mark_place 0 0) marks) → (fault_from 1 0 marks ≡ TAKEN) × (p.rows ≡ row_count marks)
  unfolding Told
  all_passed p e = let t = subst (Told (fault_from 1 0 marks) (0 + row_count marks)) (sym e) (told 1 (mark_place 0 0) marks) in (t.0, omega arith)

  pub one_refused : (answer : ℕ) → ◌≡◌ {A = Step} (Err answer) (walked 1 (mark_place 0 0) marks) → (answer ≡ fault_from 1 0 marks) × (fault_from 1 0 marks ≡ TAKEN → ⊥)
  unfolding Told
  one_refused answer e = subst (Told (fault_from 1 0 marks) (0 + row_count marks)) (sym e) (told 1 (mark_place 0 0) marks)

-- A walk that has passed `count` marks. What it has left to walk leads to the answer of the whole
-- walk, and it has opened and begun no more than it has passed.
pub record Walk (count : ℕ) (p : MarkPlace) (rest : List ℕ) (whole : Step) : Type 0 where
  pub depth : p.depth ≤ count
  pub rows : p.rows ≤ count
  pub same : walked (count + 1) p rest ≡ whole

pub walk_start : (marks : List ℕ) → Walk 0 (mark_place 0 0) marks (walked 1 (mark_place 0 0) marks)
walk_start marks = record { depth = omega arith; rows = omega arith; same = refl }

-- What a step's answer says of the walk.
Steps : ℕ → List ℕ → Step → Step → Type 0
Steps count rest whole (Ok p) = Walk count p rest whole
Steps count rest whole (Err answer) = ◌≡◌ {A = Step} (Err answer) whole

-- A mark opens at most one element.
open_high : (depth mark : ℕ) → open_after depth mark ≤ depth + 1
open_high depth mark =
    elim (kind_of mark) [
      | closes h ↦ rw (open_closes depth mark h) (omega arith)
      | is_text h ↦ rw (open_text depth mark h) (omega arith)
      | opens h k ↦ rw (open_opens depth mark h k) (omega arith)
    ]

-- The marks from an index on begin with the one there.
from_here : (marks : List ℕ) (i : ℕ) → i < length marks → drop i marks ≡ get_or marks i 0 ∷ drop (i + 1) marks
from_here marks i h = rw (add-one i) (drop-cons marks i 0 h)

module _ {count : ℕ} {p : MarkPlace} (marks : List ℕ) {whole : Step} (w : Walk count p (drop count marks) whole) where
  module _ (i : count < length marks) where
    steps : Steps (count + 1) (drop (count + 1) marks) whole (passed (count + 1) p (get_or marks count 0))
    unfolding Steps passed walked after_mark
    steps =
        let d = w.depth in
        let e = w.rows in
        let f = rows_after p (get_or marks count 0) [] in
        let g = count_high (get_or marks count 0) in
        let same = rw (from_here marks count i) at w.same in
        elim (either (eqb (mark_fault (count + 1) p.depth (get_or marks count 0)) TAKEN)) [
          | inl h ↦ rw h (record { depth = omega (arith, open_high p.depth (get_or marks count 0)); rows = omega arith; same = rw h at same })
          | inr h ↦ rw h (rw h at same)
        ]

    pub walk_on : (q : MarkPlace) → ◌≡◌ {A = Step} (Ok q) (passed (count + 1) p (get_or marks count 0)) → Walk (count + 1) q (drop (count + 1) marks) whole
    unfolding Steps
    walk_on q e = subst (Steps (count + 1) (drop (count + 1) marks) whole) (sym e) steps

    pub walk_stop : (answer : ℕ) → ◌≡◌ {A = Step} (Err answer) (passed (count + 1) p (get_or marks count 0)) → ◌≡◌ {A = Step} (Err answer) whole
    unfolding Steps
    walk_stop answer e = subst (Steps (count + 1) (drop (count + 1) marks) whole) (sym e) steps

  -- At the end the root must have been opened and closed, else the answer is UNCLOSED.
  module _ (i : length marks ≤ count) where
    walk_end : cond (unclosedb (count + 1) p.depth) (Err UNCLOSED) (Ok p) ≡ whole
    unfolding walked
    walk_end = rw (drop_of_length-le marks {i = count} i) at w.same

    pub none_passed : count ≡ 0 → ◌≡◌ {A = Step} (Err UNCLOSED) whole
    unfolding unclosedb
    none_passed z = rw (or_right (ltb 0 p.depth) (eq-eqb (count + 1) 1 (omega arith))) at walk_end

    pub left_open : 0 < p.depth → ◌≡◌ {A = Step} (Err UNCLOSED) whole
    unfolding unclosedb
    left_open h = rw (lt-ltb 0 p.depth h) at walk_end

    pub all_closed : (count ≡ 0 → ⊥) → p.depth ≤ 0 → ◌≡◌ {A = Step} (Ok p) whole
    unfolding unclosedb
    all_closed z h = rw (le-ltb 0 p.depth h, ne_eqb (count + 1) 1 (omega arith)) at walk_end
