-- Function: `write_mark` (src/number.rt).
-- Why it holds: A close is kept and changes no word. Any other mark's row is stored as the last one
-- still to be written.
-- What would break it: A row stored one place off, or a row written for a close, would be caught at
-- its return.
use mathlib.Core.Path.{◌≡◌, refl}
use mathlib.Core.List.{List}
use Prim.Native.Nat.{ℕ, ◌-◌, ◌*◌}
use native.Mathlib.Omega.{arith}
use lib.Seq.{sets}
use borrow.Author.Tests.{ne_eqb}
use Rattle.marks.specs.declared.mark.MarkPlace.{MarkPlace}
use Rattle.marks.specs.declared.row.Row.{Row}
use Rattle.marks.specs.Mark.{CLOSE}
use Rattle.marks.specs.Table.{ROW_WORDS, row_words}
use Rattle.marks.specs.Private.Walk.{before_mark, closes_before, row_here, output_before}
use Rattle.marks.proofs.number.write_mark.Goals as goal

module _ (document position mark : ℕ) (kept : List ℕ) (p : MarkPlace) (out : List ℕ) (q : MarkPlace) where
  abbrev Marked : List ℕ → List ℕ → Type 0
  Marked kept' out' = record {
    answer : q ≡ before_mark p mark;
    output : out' ≡ output_before document position kept p mark out;
    closes : kept' ≡ closes_before kept position p.depth mark;
  }

  closing : (kept' : List ℕ) → mark ≡ CLOSE
      → record { answer : q ≡ before_mark p CLOSE; closes : kept' ≡ closes_before kept position p.depth CLOSE }
      → Marked kept' out
  unfolding output_before
  closing kept' h e = rw h (record { answer = e.answer; output = refl; closes = e.closes })

  beginning : (r : Row) (out' : List ℕ) → (mark ≡ CLOSE → ⊥) → q ≡ before_mark p mark → r ≡ row_here document position kept p.depth mark
      → out' ≡ sets out (ROW_WORDS * (p.rows - 1)) (row_words r)
      → Marked kept out'
  unfolding closes_before output_before
  beginning r out' h e f g = rw (ne_eqb mark CLOSE h, g, f) (record { answer = e; output = refl; closes = refl })

pub keep_close-requires : goal.keep_close-requires
keep_close-requires c = c.requires.0 c.if-mark-eq-CLOSE.true

pub returns-then-mark-eq-CLOSE : goal.returns-then-mark-eq-CLOSE
returns-then-mark-eq-CLOSE c = closing _ _ _ _ _ _ _ _ c.if-mark-eq-CLOSE.true c.keep_close.ensures

pub overflow_sub-place : goal.overflow_sub-place
overflow_sub-place c = (c.requires.1 c.if-mark-eq-CLOSE.false).0

pub row_here-requires : goal.row_here-requires
row_here-requires c =
    let f = c.requires in
    let l = c.if-mark-eq-CLOSE.false in
    (l, (f.1 l).1, f.2)

pub put_row-requires : goal.put_row-requires
put_row-requires c =
    let f = c.requires in
    let some = (f.1 c.if-mark-eq-CLOSE.false).0 in
    omega (arith, f.3)

pub before_node-requires : goal.before_node-requires
before_node-requires c =
    let f = c.requires in
    let l = c.if-mark-eq-CLOSE.false in
    (l, (f.1 l).1, (f.1 l).0)

pub returns : goal.returns
returns c =
    beginning _ _ _ _ _ _ _ _ _ c.if-mark-eq-CLOSE.false c.before_node.ensures
    c.row_here.ensures c.put_row.ensures
