-- Function: `reads_back` (src/unnumber.rt).
-- Why it holds: At each turn the rows left read back from the position exactly if all rows do.
-- What would break it: A mark passed that doesn't fit, or a walk that ends with a row or an element
-- left, would be caught at its return.
use mathlib.Core.Path.{◌≡◌, refl, sym, ap, ◌∙◌}
use mathlib.Core.Logic.{inl, inr}
use mathlib.Core.Bool.{true, false}
use mathlib.Core.List.{List}
use Prim.Native.Nat.{ℕ, zero, suc, ◌-◌, ◌/◌, ◌≤◌, ◌<◌, zero-le}
use native.Mathlib.Nat.{not-suc-le-zero}
use native.Mathlib.Numerals.{sub-one}
use native.Mathlib.Omega.{arith}
use lib.Dec.{eqb}
use lib.ListN.{length, replicate}
use borrow.Author.Tests.{eqb-true, eqb-false, eq-eqb, ne_eqb}
use Rattle.std.specs.Prelude.{Some}
use Rattle.nodes.specs.Node.{MOST_LEVELS}
use Rattle.laws.proofs.Tests.{either}
use Rattle.marks.specs.declared.mark.MarkPlace.{MarkPlace}
use Rattle.marks.specs.declared.row.Row.{Row}
use Rattle.marks.specs.Mark.{CLOSE, closeb}
use Rattle.marks.specs.Table.{ROW_WORDS, rows}
use Rattle.marks.specs.Private.Walk.{mark_place, before_mark, mark_here, fitsb, SteppedBack, reads_back, all_read_back}
use Rattle.marks.proofs.Keeping.{before_closes, before_low}
use Rattle.marks.proofs.ReadBack.{fits_read}
use Rattle.marks.proofs.RowLaws.{length_rows}
use Rattle.marks.proofs.unnumber.reads_back.Invariants.{Reads}
use Rattle.marks.proofs.unnumber.reads_back.Goals as goal

-- The place before a mark that fits.
module _ (rs : List Row) (document position : ℕ) (kept : List ℕ) (q : MarkPlace) (mark : ℕ) where
  still_low : fitsb rs document position kept q mark ≡ true → q.depth ≤ MOST_LEVELS → (before_mark q mark).depth ≤ MOST_LEVELS
  unfolding before_mark
  still_low f l =
      elim (either (closeb mark)) [
        | inl c ↦ let e : mark ≡ CLOSE = eqb-true _ _ c in
            omega (arith, before_closes q.depth mark e, (fits_read rs document position kept q mark f).room e)
        | inr c ↦ omega (arith, before_low q.depth mark (eqb-false _ _ c))
      ]

  fewer_rows : (before_mark q mark).rows ≤ q.rows
  unfolding before_mark
  fewer_rows = elim (either (closeb mark)) [ inl c ↦ rw c (omega arith) | inr c ↦ rw c (omega arith) ]

-- What is left to read, step by step.
module _ (rs : List Row) (document : ℕ) (kept : List ℕ) (q : MarkPlace) where
  read_on : (position here : ℕ) → here ≡ position → 0 < position → (p : MarkPlace) (after : List ℕ)
      → SteppedBack rs document here kept q (Some p) after
      → reads_back rs document (position - 1) after p ≡ reads_back rs document position kept q
  unfolding reads_back
  read_on zero here e h p after s = absurd (not-suc-le-zero h)
  read_on (suc before) here e h p after s = rw (sub-one (suc before)) (let t = rw e at s in rw (t.0, t.1, t.2) refl)

  read_stop : (position here : ℕ) → here ≡ position → 0 < position → fitsb rs document here kept q (mark_here rs q.rows here) ≡ false
      → false ≡ reads_back rs document position kept q
  unfolding reads_back
  read_stop zero here e h f = absurd (not-suc-le-zero h)
  read_stop (suc before) here e h f = rw (rw e at f) refl

  read_end : (position : ℕ) → position ≤ 0 → (q.depth ≡ 0 → ⊥) → false ≡ reads_back rs document position kept q
  unfolding reads_back
  read_end zero h d = rw (ne_eqb q.depth 0 d) refl
  read_end (suc before) h d = absurd (not-suc-le-zero h)

  read_all : (position : ℕ) → position ≤ 0 → q.depth ≡ 0 → eqb q.rows 0 ≡ reads_back rs document position kept q
  unfolding reads_back
  read_all zero h d = rw (eq-eqb q.depth 0 d) refl
  read_all (suc before) h d = absurd (not-suc-le-zero h)

reads_start : (ws : List ℕ) (document last count : ℕ) → count ≡ length ws / ROW_WORDS
    → Reads (rows ws) document last (replicate MOST_LEVELS 0) (mark_place 0 count) last
unfolding all_read_back
reads_start ws document last count e =
    let l : count ≡ length (rows ws) = e ∙ sym (length_rows ws) in
    record { low = zero-le; few = omega arith; same = ap (λ n. reads_back (rows ws) document last (replicate MOST_LEVELS 0) (mark_place 0 n)) l }

module _ {rs : List Row} {document last : ℕ} {kept : List ℕ} {q : MarkPlace} {position : ℕ} (r : Reads rs document last kept q position)
    (h : 0 < position) (here : ℕ) (e : here ≡ position) where
  reads_on : (p : MarkPlace) (after : List ℕ) → SteppedBack rs document here kept q (Some p) after → Reads rs document last after p (position - 1)
  reads_on p after t =
      let mark = mark_here rs q.rows here in
      record {
        low = rw t.1 (still_low rs document here kept q mark t.0 r.low);
        few = rw t.1 (omega (arith, fewer_rows rs document here kept q mark, r.few));
        same = read_on rs document kept q position here e h p after t ∙ r.same;
      }

  reads_stop : fitsb rs document here kept q (mark_here rs q.rows here) ≡ false → false ≡ all_read_back rs document last
  reads_stop s = read_stop rs document kept q position here e h s ∙ r.same

pub loop-before-init : goal.loop-before-init
loop-before-init c = reads_start _ _ _ _ c.row_count.ensures

pub step_back-requires : goal.step_back-requires
step_back-requires c =
    let r = c.loop-before.invariant in
    (r.low, omega (arith, r.few, length_rows c.args.table.now))

pub returns-in_default : goal.returns-in_default
returns-in_default c = reads_stop c.loop-before.invariant (omega arith) _ (omega arith) c.in_default.ensures

pub loop-before-preserved : goal.loop-before-preserved
loop-before-preserved c = reads_on c.loop-before.invariant (omega arith) _ (omega arith) _ _ c.in-Some.ensures

pub returns-then-place-eq0 : goal.returns-then-place-eq0
returns-then-place-eq0 c =
    let l = c.loop-before in
    read_all _ _ _ _ _ (omega arith) (omega arith) ∙ l.invariant.same

pub returns-else-place-eq0 : goal.returns-else-place-eq0
returns-else-place-eq0 c =
    let l = c.loop-before in
    ne_eqb _ 0 c.if-place-eq0.false ∙ read_end _ _ _ _ _ (omega arith) c.if-place-eq0.false ∙ l.invariant.same
