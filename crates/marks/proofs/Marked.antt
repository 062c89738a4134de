-- Why it holds: A row is made at the position of its mark, and its end is found among the marks
-- after it. So the mark at a row's start is its tag, and the one at an element's end is a close.
-- What would break it: A row one position off would be caught here. So would an element that ended
-- where nothing closes, or where the marks have ended.
use mathlib.Core.Path.{◌≡◌, ap, ◌∙◌, refl}
use mathlib.Core.List.{List, [], ◌∷◌}
use Prim.Native.Nat.{ℕ, zero, suc, ◌+◌, ◌-◌, ◌<◌}
use native.Mathlib.Omega.{arith}
use lib.ListN.{get_or}
use Rattle.answers.specs.Answer.{TAKEN}
use Rattle.laws.specs.Choose.{All}
use Rattle.laws.proofs.Choices.{all_map}
use Rattle.marks.specs.declared.row.Row.{Row}
use Rattle.marks.specs.Mark.{CLOSE, open_after, fault_from, check_marks}
use Rattle.marks.specs.Table.{MarkAt, Marked, close_at, rows_from, table_of}
use Rattle.marks.proofs.MarkLaws.{closes, is_text, opens, kind_of, open_closes, open_text, open_opens, close_here, close_closes, close_text, close_opens, rows_closes, rows_node, end_text_lem, end_opens, InPlace, fault_read, end_read, check_read}
use Rattle.marks.proofs.Numbered.{close_from}

-- The first mark is the one at the first position,
mark_first : (position mark : ℕ) (marks : List ℕ) → MarkAt position (mark ∷ marks) position mark
mark_first position mark marks =
    let e : position - position ≡ 0 = omega arith in
    record { reached = omega arith; present = omega arith; read = ap (λ k. get_or (mark ∷ marks) k 0) e }

-- And a mark after the first is one of the others.
mark_later : (first position at mark : ℕ) (marks : List ℕ) → MarkAt (position + 1) marks at mark → MarkAt position (first ∷ marks) at mark
mark_later first position at mark marks m =
    let r = m.reached in
    let p = m.present in
    let e : at - position ≡ suc (at - (position + 1)) = omega arith in
    record { reached = omega arith; present = omega arith; read = ap (λ k. get_or (first ∷ marks) k 0) e ∙ m.read }

-- The mark at the position of an open element's close is a close.
close_mark : (inner position depth : ℕ) (marks : List ℕ) → fault_from position depth marks ≡ TAKEN → inner < depth
    → MarkAt position marks (close_at inner position marks) CLOSE
close_mark inner position depth [] f l = absurd (omega (arith, (end_read position depth f).0))
close_mark inner position depth (mark ∷ marks) f l =
    elim (kind_of mark) [
      | closes h ↦ at_close inner h l (λ k m. close_mark k (position + 1) (depth - 1) marks (rw (open_closes depth mark h) at r).1 m)
      | is_text h ↦ rw (close_text inner position mark marks h)
          (mark_later mark position _ CLOSE marks (close_mark inner (position + 1) depth marks (rw (open_text depth mark h) at r).1 l))
      | opens h k ↦ rw (close_opens inner position mark marks h k) (mark_later mark position _ CLOSE marks
          (close_mark (inner + 1) (position + 1) (depth + 1) marks (rw (open_opens depth mark h k) at r).1 (omega arith)))
    ]
  where
    r : InPlace position depth mark × (fault_from (position + 1) (open_after depth mark) marks ≡ TAKEN)
    r = fault_read position depth mark marks f

    at_close : (inner : ℕ) → mark ≡ CLOSE → inner < depth
        → ((k : ℕ) → k < depth - 1 → MarkAt (position + 1) marks (close_at k (position + 1) marks) CLOSE)
        → MarkAt position (mark ∷ marks) (close_at inner position (mark ∷ marks)) CLOSE
    at_close zero h l later = rw (close_here 0 position mark marks h, h) (mark_first position CLOSE marks)
    at_close (suc inner) h l later =
        rw (close_closes inner position mark marks h) (mark_later mark position _ CLOSE marks (later inner (omega arith)))

-- What holds of the marks after the first holds with the first before them.
later_marked : (position mark : ℕ) (marks : List ℕ) (r : Row) → Marked (position + 1) marks r → Marked position (mark ∷ marks) r
later_marked position mark marks r k =
    record {
      tag_at = mark_later mark position _ _ marks k.tag_at;
      no_close = k.no_close;
      one_position = k.one_position;
      closed_after = k.closed_after;
      closed_at = λ t. mark_later mark position _ CLOSE marks (k.closed_at t);
    }

all_marked : (document position depth : ℕ) (marks : List ℕ) → fault_from position depth marks ≡ TAKEN
    → All (Marked position marks) (rows_from document position depth marks)
unfolding rows_from
all_marked document position depth [] f = tt
all_marked document position depth (mark ∷ marks) f =
    elim (kind_of mark) [
      | closes h ↦ let g : fault_from (position + 1) (depth - 1) marks ≡ TAKEN = (rw (open_closes depth mark h) at r).1 in
          rw (rows_closes document position depth mark marks h)
          (all_map (later_marked position mark marks) (rows_from document (position + 1) (depth - 1) marks)
          (all_marked document (position + 1) (depth - 1) marks g))
      | is_text h ↦ rw (rows_node document position depth mark marks (λ c. omega arith), end_text_lem position mark marks h) (
        record {
          tag_at = mark_first position mark marks;
          no_close = λ c. omega (arith, c, h);
          one_position = λ t. refl;
          closed_after = λ t. absurd (t h);
          closed_at = λ t. absurd (t h);
        },
        later (all_marked document (position + 1) (open_after depth mark) marks r.1),
      )
      | opens h k ↦ let g : fault_from (position + 1) (depth + 1) marks ≡ TAKEN = (rw (open_opens depth mark h k) at r).1 in
          rw (rows_node document position depth mark marks h, end_opens position mark marks k) (
            record {
              tag_at = mark_first position mark marks;
              no_close = h;
              one_position = λ t. absurd (k t);
              closed_after = λ t. let c = close_from 0 (position + 1) marks in omega (arith, c);
              closed_at = λ t. mark_later mark position _ CLOSE marks (close_mark 0 (position + 1) (depth + 1) marks g (omega arith));
            },
            later (all_marked document (position + 1) (open_after depth mark) marks r.1),
          )
    ]
  where
    r : InPlace position depth mark × (fault_from (position + 1) (open_after depth mark) marks ≡ TAKEN)
    r = fault_read position depth mark marks f

    rest : List Row
    rest = rows_from document (position + 1) (open_after depth mark) marks

    later : All (Marked (position + 1) marks) rest → All (Marked position (mark ∷ marks)) rest
    later m = all_map (later_marked position mark marks) rest m

-- The rows of accepted marks stand where their marks do.
pub table_marked : (document : ℕ) (marks : List ℕ) → check_marks marks ≡ TAKEN → All (Marked 1 marks) (table_of document marks)
unfolding table_of
table_marked document marks taken = all_marked document 1 0 marks (check_read marks taken).1
