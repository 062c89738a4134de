-- Why it holds: A row's end is the position of a close that comes after it. The closes of elements
-- inside one another come in turn. So of two rows the later starts after the earlier one's end, or
-- ends before it and stands deeper.
-- What would break it: A close taken for another's, or a level one off, would be caught here.
use mathlib.Core.Path.{◌≡◌, refl, sym, subst}
use mathlib.Core.Logic.{◌⊎◌, inl, inr, ⊎_elim}
use mathlib.Core.List.{List, [], ◌∷◌}
use Prim.Native.Nat.{ℕ, zero, suc, ◌+◌, ◌-◌, ◌≤◌, ◌<◌}
use native.Mathlib.Numerals.{add-one}
use native.Mathlib.Omega.{arith}
use lib.ListN.{length}
use Rattle.answers.specs.Answer.{TAKEN}
use Rattle.laws.specs.Choose.{All, EveryTwo}
use Rattle.nodes.specs.Node.{MOST_LEVELS}
use Rattle.nodes.specs.Words.{node}
use Rattle.laws.proofs.Choices.{all_map, all_both}
use Rattle.laws.proofs.Tests.{either}
use Rattle.marks.specs.declared.row.Row.{Row}
use Rattle.marks.specs.Mark.{CLOSE, TEXT, closeb, open_after, fault_from}
use Rattle.marks.specs.Table.{row, close_at, end_of, rows_from}
use Rattle.marks.proofs.MarkLaws.{closes, is_text, opens, kind_of, open_closes, open_text, open_opens, close_here, close_closes, close_text, close_opens, rows_closes, rows_node, end_text_lem, end_opens, InPlace, fault_read, end_read}

-- A close doesn't come before the position from which it is looked for.
pub close_from : (inner position : ℕ) (marks : List ℕ) → position ≤ close_at inner position marks
unfolding close_at
close_from inner position [] = omega arith
close_from inner position (mark ∷ marks) =
    elim (kind_of mark) [
      | closes h ↦ close_first inner h (λ k. close_from k (position + 1) marks)
      | is_text h ↦ let r = close_from inner (position + 1) marks in rw (close_text inner position mark marks h) (omega arith)
      | opens h k ↦ let r = close_from (inner + 1) (position + 1) marks in rw (close_opens inner position mark marks h k) (omega arith)
    ]
  where
    close_first : (inner : ℕ) → mark ≡ CLOSE → ((k : ℕ) → position + 1 ≤ close_at k (position + 1) marks)
        → position ≤ close_at inner position (mark ∷ marks)
    close_first zero h later = rw (close_here 0 position mark marks h) (omega arith)
    close_first (suc inner) h later = let r = later inner in rw (close_closes inner position mark marks h) (omega arith)

-- Accepted marks close an element before the one around it.
pub closes_in_turn : (inner position depth : ℕ) (marks : List ℕ) → fault_from position depth marks ≡ TAKEN → suc inner < depth
    → close_at inner position marks < close_at (suc inner) position marks
closes_in_turn inner position depth [] f h = absurd (omega (arith, (end_read position depth f).0))
closes_in_turn inner position depth (mark ∷ marks) f h =
    elim (kind_of mark) [
      | closes e ↦ close_turn inner e h (λ k l. closes_in_turn k (position + 1) (depth - 1) marks (rw (open_closes depth mark e) at r).1 (omega arith))
      | is_text e ↦ rw (close_text inner position mark marks e, close_text (suc inner) position mark marks e)
          (closes_in_turn inner (position + 1) depth marks (rw (open_text depth mark e) at r).1 h)
      | opens e k ↦ rw (close_opens inner position mark marks e k, close_opens (suc inner) position mark marks e k, add-one inner, add-one (suc inner))
          (closes_in_turn (suc inner) (position + 1) (depth + 1) marks (rw (open_opens depth mark e k) at r).1 (omega arith))
    ]
  where
    r : InPlace position depth mark × (fault_from (position + 1) (open_after depth mark) marks ≡ TAKEN)
    r = fault_read position depth mark marks f

    close_turn : (inner : ℕ) → mark ≡ CLOSE → suc inner < depth
        → ((k : ℕ) → suc k < depth - 1 → close_at k (position + 1) marks < close_at (suc k) (position + 1) marks)
        → close_at inner position (mark ∷ marks) < close_at (suc inner) position (mark ∷ marks)
    close_turn zero e h later =
        let l = close_from 0 (position + 1) marks in
        rw (close_here 0 position mark marks e, close_closes 0 position mark marks e) (omega arith)
    close_turn (suc inner) e h later =
        rw (close_closes inner position mark marks e, close_closes (suc inner) position mark marks e) (later inner (omega arith))

-- So the innermost element closes first.
pub innermost_first : (inner position depth : ℕ) (marks : List ℕ) → fault_from position depth marks ≡ TAKEN → suc inner < depth
    → close_at 0 position marks < close_at (suc inner) position marks
innermost_first zero position depth marks f h = closes_in_turn 0 position depth marks f h
innermost_first (suc inner) position depth marks f h =
    let r = innermost_first inner position depth marks f (omega arith) in
    let t = closes_in_turn (suc inner) position depth marks f h in
    omega arith

-- What every row of accepted marks has, where the rows are made from a position on.
pub record Made (document position : ℕ) (r : Row) : Type 0 where
  pub of_document : r.node.document ≡ document
  pub begins : position ≤ r.node.start
  pub span : r.node.start ≤ r.node.end
  pub lowest : 1 ≤ r.node.level
  pub highest : r.node.level ≤ MOST_LEVELS

later_made : (document position : ℕ) (r : Row) → Made document (position + 1) r → Made document position r
later_made document position r m =
    let b = m.begins in
    record { of_document = m.of_document; begins = omega arith; span = m.span; lowest = m.lowest; highest = m.highest }

end_after : (position mark : ℕ) (marks : List ℕ) → position ≤ end_of position mark marks
unfolding end_of
end_after position mark marks =
    elim (kind_of mark) [
      | closes h ↦ opened (λ t. omega arith)
      | is_text h ↦ rw (end_text_lem position mark marks h) (omega arith)
      | opens h k ↦ opened k
    ]
  where
    opened : (mark ≡ TEXT → ⊥) → position ≤ end_of position mark marks
    opened k = let r = close_from 0 (position + 1) marks in rw (end_opens position mark marks k) (omega arith)

pub all_made : (document position depth : ℕ) (marks : List ℕ) → fault_from position depth marks ≡ TAKEN
    → All (Made document position) (rows_from document position depth marks)
unfolding rows_from
all_made document position depth [] f = tt
all_made document position depth (mark ∷ marks) f =
    elim (kind_of mark) [
      | closes h ↦ rw (rows_closes document position depth mark marks h)
          (all_map (later_made document position) (rows_from document (position + 1) (depth - 1) marks)
          (all_made document (position + 1) (depth - 1) marks (rw (open_closes depth mark h) at r).1))
      | is_text h ↦ made (λ c. omega arith) (all_made document (position + 1) (open_after depth mark) marks r.1)
      | opens h k ↦ made h (all_made document (position + 1) (open_after depth mark) marks r.1)
    ]
  where
    r : InPlace position depth mark × (fault_from (position + 1) (open_after depth mark) marks ≡ TAKEN)
    r = fault_read position depth mark marks f

    made : (mark ≡ CLOSE → ⊥) → All (Made document (position + 1)) (rows_from document (position + 1) (open_after depth mark) marks)
        → All (Made document position) (rows_from document position depth (mark ∷ marks))
    made h later =
        let l = r.0.level h in
        rw (rows_node document position depth mark marks h) (
          record { of_document = refl; begins = omega arith; span = end_after position mark marks; lowest = omega arith; highest = omega arith },
          all_map (later_made document position) (rows_from document (position + 1) (open_after depth mark) marks) later,
        )

-- A row begins after the close of an element that is open, or ends before that close and stands
-- deeper than the element.
abbrev Beside : ℕ → ℕ → Row → Type 0
Beside close level r = (close < r.node.start) ⊎ ((r.node.end < close) × (level < r.node.level))

pub all_beside : (document position depth inner : ℕ) (marks : List ℕ) → fault_from position depth marks ≡ TAKEN → inner < depth
    → All (Beside (close_at inner position marks) (depth - inner)) (rows_from document position depth marks)
unfolding rows_from
all_beside document position depth inner [] f l = tt
all_beside document position depth inner (mark ∷ marks) f l =
    elim (kind_of mark) [
      | closes h ↦ rw (rows_closes document position depth mark marks h)
          (closed inner h l (all_made document (position + 1) (depth - 1) marks (rw (open_closes depth mark h) at r).1)
          (λ k m. all_beside document (position + 1) (depth - 1) k marks (rw (open_closes depth mark h) at r).1 m))
      | is_text h ↦ let c = close_from inner (position + 1) marks in
          let later = all_beside document (position + 1) depth inner marks (rw (open_text depth mark h) at r).1 l in
          node_beside _ (close_text inner position mark marks h) (λ c. omega arith)
          (rw (end_text_lem position mark marks h) (inr (omega arith, omega arith))) (rw (open_text depth mark h) later)
      | opens h k ↦ let turn = innermost_first inner (position + 1) (depth + 1) marks (rw (open_opens depth mark h k) at r).1 (omega arith) in
          let later = all_beside document (position + 1) (depth + 1) (inner + 1) marks (rw (open_opens depth mark h k) at r).1 (omega arith) in
          let e : depth + 1 - (inner + 1) ≡ depth - inner = omega arith in
          node_beside _ (close_opens inner position mark marks h k) h
          (rw (end_opens position mark marks k) (inr (rw (add-one inner) turn, omega arith))) (rw (open_opens depth mark h k) (rw e at later))
    ]
  where
    r : InPlace position depth mark × (fault_from (position + 1) (open_after depth mark) marks ≡ TAKEN)
    r = fault_read position depth mark marks f

    node_beside : (close : ℕ) → close_at inner position (mark ∷ marks) ≡ close → (mark ≡ CLOSE → ⊥)
        → Beside close (depth - inner) (row (node document position (end_of position mark marks) (depth + 1)) mark)
        → All (Beside close (depth - inner)) (rows_from document (position + 1) (open_after depth mark) marks)
        → All (Beside (close_at inner position (mark ∷ marks)) (depth - inner)) (rows_from document position depth (mark ∷ marks))
    node_beside close e h first later =
        subst (λ c. All (Beside c (depth - inner)) (rows_from document position depth (mark ∷ marks))) (sym e)
        (rw (rows_node document position depth mark marks h) (first, later))

    rest : List Row
    rest = rows_from document (position + 1) (depth - 1) marks

    closed : (inner : ℕ) → mark ≡ CLOSE → inner < depth → All (Made document (position + 1)) rest
        → ((k : ℕ) → k < depth - 1 → All (Beside (close_at k (position + 1) marks) (depth - 1 - k)) rest)
        → All (Beside (close_at inner position (mark ∷ marks)) (depth - inner)) rest
    closed zero h l made later =
        rw (close_here 0 position mark marks h)
        (all_map (λ y (m : Made document (position + 1) y). let b = m.begins in inl (omega arith)) rest made)
    closed (suc inner) h l made later =
        let e : depth - 1 - inner ≡ depth - suc inner = omega arith in
        rw (close_closes inner position mark marks h) (rw e at (later inner (omega arith)))

-- Of two rows of one document the later one starts later; it starts after the earlier one's end, or
-- ends before it and stands deeper.
pub record Settled (x y : Row) : Type 0 where
  pub document : y.node.document ≡ x.node.document
  pub start : x.node.start < y.node.start
  pub ends : (x.node.end < y.node.start) ⊎ ((y.node.end < x.node.end) × (x.node.level < y.node.level))

pub all_settled : (document position depth : ℕ) (marks : List ℕ) → fault_from position depth marks ≡ TAKEN
    → EveryTwo Settled (rows_from document position depth marks)
unfolding rows_from
all_settled document position depth [] f = tt
all_settled document position depth (mark ∷ marks) f =
    elim (kind_of mark) [
      | closes h ↦ rw (rows_closes document position depth mark marks h)
          (all_settled document (position + 1) (depth - 1) marks (rw (open_closes depth mark h) at r).1)
      | is_text h ↦ rw (rows_node document position depth mark marks (λ c. omega arith), end_text_lem position mark marks h) (
        all_map (λ y (m : Made document (position + 1) y). let b = m.begins in
            record { document = m.of_document; start = omega arith; ends = inl (omega arith) })
            (rows_from document (position + 1) (open_after depth mark) marks) (all_made document (position + 1) (open_after depth mark) marks r.1),
        all_settled document (position + 1) (open_after depth mark) marks r.1,
      )
      | opens h k ↦ let g : fault_from (position + 1) (depth + 1) marks ≡ TAKEN = (rw (open_opens depth mark h k) at r).1 in
          rw (rows_node document position depth mark marks h, end_opens position mark marks k, open_opens depth mark h k) (
            all_both (λ y (m : Made document (position + 1) y) (e : Beside (close_at 0 (position + 1) marks) (depth + 1 - 0) y).
                let b = m.begins in
                record { document = m.of_document; start = omega arith; ends = ⊎_elim (λ p. inl p) (λ p. inr (p.0, omega (arith, p.1))) e })
                (rows_from document (position + 1) (depth + 1) marks) (all_made document (position + 1) (depth + 1) marks g)
                (all_beside document (position + 1) (depth + 1) 0 marks g (omega arith)),
            all_settled document (position + 1) (depth + 1) marks g,
          )
    ]
  where
    r : InPlace position depth mark × (fault_from (position + 1) (open_after depth mark) marks ≡ TAKEN)
    r = fault_read position depth mark marks f

-- There are no more rows than marks.
pub few_rows : (document position depth : ℕ) (marks : List ℕ) → length (rows_from document position depth marks) ≤ length marks
unfolding rows_from
few_rows document position depth [] = omega arith
few_rows document position depth (mark ∷ marks) =
    let r = few_rows document (position + 1) (open_after depth mark) marks in
    elim (either (closeb mark)) [ inl h ↦ rw h (omega arith) | inr h ↦ rw h (omega arith) ]
