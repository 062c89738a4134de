-- Why it holds: Going back over taken marks, each close is kept until its opening comes. Each row
-- is stored right before those already written.
-- What would break it: A row stored over another, or a row with another's end or level, would be
-- caught at `back_on`.
use mathlib.Core.Path.{◌≡◌, refl, sym, ap, ◌∙◌}
use mathlib.Core.Logic.{inl, inr}
use mathlib.Core.List.{List, [], ◌∷◌, ◌++◌, flat_map}
use Prim.Native.Nat.{ℕ, zero, suc, ◌+◌, ◌-◌, ◌*◌, ◌≤◌, ◌<◌}
use native.Mathlib.Nat.{not-suc-le-zero}
use native.Mathlib.Numerals.{add-one, sub-one}
use native.Mathlib.Omega.{arith}
use lib.ListN.{length, get_or, take, drop, take-append-drop}
use lib.Seq.{sets, length-sets, drop-length, drop-cons}
use borrow.Author.Tests.{eqb-true, eqb-false}
use Rattle.laws.proofs.Tests.{either}
use Rattle.answers.specs.Answer.{TAKEN}
use Rattle.laws.specs.Choose.{keep}
use Rattle.nodes.specs.Node.{MOST_LEVELS}
use Rattle.nodes.specs.Words.{words_of}
use Rattle.answers.specs.Output.{words_in, written}
use Rattle.answers.proofs.OutputLaws.{sets_before}
use Rattle.marks.specs.declared.mark.MarkPlace.{MarkPlace}
use Rattle.marks.specs.declared.row.Row.{Row}
use Rattle.marks.specs.Mark.{CLOSE, TEXT, closeb, open_after, fault_from}
use Rattle.marks.specs.Table.{ROW_WORDS, row_words, rows_from, table_of, table_words}
use Rattle.marks.specs.Private.Walk.{mark_place, row_count, open_before, before_mark, closes_before, Kept, row_here, output_before}
use Rattle.marks.proofs.MarkLaws.{closes, is_text, opens, kind_of, open_closes, open_text, open_opens, rows_closes, closes_some, InPlace, fault_read, end_read}
use Rattle.marks.proofs.Keeping.{before_closes, kept_none, kept_before, rows_here, open_forth, length_kept}
use Rattle.marks.proofs.Passing.{count_closes, count_node}

-- A row stored right before those that were written.
row_before : (out₀ out : List ℕ) (count : ℕ) (r : Row) (later : List Row) → 0 < count → ROW_WORDS * count ≤ length out₀
    → out ≡ take (ROW_WORDS * count) out₀ ++ written (words_in row_words later) (drop (ROW_WORDS * count) out₀)
    → sets out (ROW_WORDS * (count - 1)) (row_words r)
    ≡ take (ROW_WORDS * (count - 1)) out₀ ++ written (words_in row_words (r ∷ later)) (drop (ROW_WORDS * (count - 1)) out₀)
unfolding words_in flat_map row_words words_of
row_before out₀ out count r later h room e =
    let f : 5 * count ≡ 5 * (count - 1) + 5 = omega arith in
    ap (λ words. sets words (5 * (count - 1)) (row_words r)) (e ∙ ap (λ n. take n out₀ ++ written (words_in row_words later) (drop n out₀)) f)
    ∙ sets_before out₀ (5 * (count - 1)) (row_words r) (words_in row_words later) (omega arith)

-- The place and the output, one mark further back.
module _ (p : MarkPlace) (mark : ℕ) (rest : List ℕ) (some : (mark ≡ CLOSE → ⊥) → (0 < p.rows) × ((mark ≡ TEXT → ⊥) → 0 < p.depth)) where
  rows_back : {total : ℕ} → p.rows + row_count rest ≡ total → (before_mark p mark).rows + row_count (mark ∷ rest) ≡ total
  unfolding before_mark
  rows_back e =
      elim (either (closeb mark)) [
        | inl h ↦ rw (h, count_closes mark rest (eqb-true _ _ h)) e
        | inr h ↦ let s = (some (eqb-false _ _ h)).0 in rw (h, count_node mark rest (eqb-false _ _ h)) (omega arith)
      ]

  output_back : (document position : ℕ) (kept out₀ out : List ℕ) → ROW_WORDS * p.rows ≤ length out₀ → Kept kept (position + 1) p.depth rest
      → out ≡ take (ROW_WORDS * p.rows) out₀
      ++ written (words_in row_words (rows_from document (position + 1) p.depth rest)) (drop (ROW_WORDS * p.rows) out₀)
      → output_before document position kept p mark out
      ≡ take (ROW_WORDS * (before_mark p mark).rows) out₀
      ++ written (words_in row_words (rows_from document position (open_before p.depth mark) (mark ∷ rest)))
      (drop (ROW_WORDS * (before_mark p mark).rows) out₀)
  unfolding before_mark output_before
  output_back document position kept out₀ out room k e =
      elim (either (closeb mark)) [
        | inl h ↦ let c : mark ≡ CLOSE = eqb-true _ _ h in
            let f : open_before p.depth mark - 1 ≡ p.depth = omega (arith, before_closes p.depth mark c) in
            rw (h, rows_closes document position (open_before p.depth mark) mark rest c, f) e
        | inr h ↦ let s = some (eqb-false _ _ h) in
            let here = row_here document position kept p.depth mark in
            rw (h, rows_here kept position p.depth mark rest k document (eqb-false _ _ h) s.1)
            (row_before out₀ out p.rows here (rows_from document (position + 1) p.depth rest) s.0 room e)
      ]

-- The output keeps its length.
length_output : (document position : ℕ) (kept : List ℕ) (p : MarkPlace) (mark : ℕ) (out : List ℕ)
    → length (output_before document position kept p mark out) ≡ length out
unfolding output_before
length_output document position kept p mark out =
    elim (either (closeb mark)) [
      | inl h ↦ rw h refl
      | inr h ↦ rw h (length-sets out (5 * (p.rows - 1)) (row_words (row_here document position kept p.depth mark)))
    ]

-- How many elements are open after the marks before an index.
pub open_at : List ℕ → ℕ → ℕ
open_at marks zero = 0
open_at marks (suc k) = open_after (open_at marks k) (get_or marks k 0)

module _ (marks : List ℕ) (taken : fault_from 1 0 marks ≡ TAKEN) where
  -- Taken marks are taken from each position on.
  rest_taken : (k : ℕ) → k ≤ length marks → fault_from (k + 1) (open_at marks k) (drop k marks) ≡ TAKEN
  unfolding open_at
  rest_taken zero i = taken
  rest_taken (suc k) i =
      let h = rw (drop-cons marks k 0 i) at (rest_taken k (omega arith)) in
      rw (add-one (suc k)) (rw (add-one (k + 1), add-one k) at (fault_read (k + 1) (open_at marks k) (get_or marks k 0) (drop (suc k) marks) h).1)

  in_place_at : (k : ℕ) → k < length marks → InPlace (k + 1) (open_at marks k) (get_or marks k 0)
  in_place_at k i =
      (fault_read (k + 1) (open_at marks k) (get_or marks k 0) (drop (suc k) marks) (rw (drop-cons marks k 0 i) at (rest_taken k (omega arith)))).0

  low_at : (k : ℕ) → k ≤ length marks → open_at marks k ≤ MOST_LEVELS
  unfolding open_at
  low_at zero i = omega arith
  low_at (suc k) i =
      let below = low_at k (omega arith) in
      elim (kind_of (get_or marks k 0)) [
        | closes h ↦ rw (open_closes (open_at marks k) (get_or marks k 0) h) (omega arith)
        | is_text h ↦ rw (open_text (open_at marks k) (get_or marks k 0) h) (omega arith)
        | opens h t ↦ let l = (in_place_at k i).level h in rw (open_opens (open_at marks k) (get_or marks k 0) h t) (omega arith)
      ]

-- The marks from a position on make no more rows than all.
count_rest : (marks : List ℕ) (k : ℕ) → row_count (drop k marks) ≤ row_count marks
count_rest marks zero = omega arith
count_rest [] (suc k) = omega arith
count_rest (mark ∷ marks) (suc k) =
    let below = count_rest marks k in
    elim (kind_of mark) [
      | closes h ↦ rw (count_closes mark marks h) below
      | is_text h ↦ rw (count_node mark marks (λ z. omega arith)) (omega arith)
      | opens h t ↦ rw (count_node mark marks h) (omega arith)
    ]

-- A walk back to a position, which keeps the closes of the elements open there and has written the
-- rows that begin after it.
pub record Back (document : ℕ) (marks out₀ : List ℕ) (position : ℕ) (kept : List ℕ) (p : MarkPlace) (out : List ℕ) : Type 0 where
  pub long : length kept ≡ MOST_LEVELS
  pub same : length out ≡ length out₀
  pub depth : p.depth ≡ open_at marks position
  pub rows : p.rows + row_count (drop position marks) ≡ row_count marks
  pub closes : Kept kept (position + 1) p.depth (drop position marks)
  pub output : out ≡ take (ROW_WORDS * p.rows) out₀
      ++ written (words_in row_words (rows_from document (position + 1) p.depth (drop position marks))) (drop (ROW_WORDS * p.rows) out₀)

-- What has to hold where a mark is passed on the way back.
pub record MarkNeeds (marks : List ℕ) (p : MarkPlace) (mark : ℕ) : Type 0 where
  pub low : p.depth ≤ MOST_LEVELS
  pub few : p.rows ≤ row_count marks
  pub closes : mark ≡ CLOSE → p.depth < MOST_LEVELS
  pub some : (mark ≡ CLOSE → ⊥) → (0 < p.rows) × ((mark ≡ TEXT → ⊥) → 0 < p.depth)

module _ (document : ℕ) (marks out₀ : List ℕ) (taken : fault_from 1 0 marks ≡ TAKEN) where
  -- At the end of the marks nothing is open, and nothing is written.
  pub back_start : (kept : List ℕ) (total : ℕ) → length kept ≡ MOST_LEVELS → total ≡ row_count marks
      → Back document marks out₀ (length marks) kept (mark_place 0 total) out₀
  unfolding rows_from words_in flat_map written row_count keep
  back_start kept total long e =
      let none = rw (drop-length marks) at (rest_taken marks taken (length marks) (omega arith)) in
      let z = end_read (length marks + 1) (open_at marks (length marks)) none in
      record {
        long = long;
        same = refl;
        depth = sym z.0;
        rows = rw (drop-length marks) (omega arith);
        closes = kept_none kept (length marks + 1) (drop (length marks) marks);
        output = rw (drop-length marks) (sym (take-append-drop (5 * total) out₀));
      }

  -- At the first position all rows are written.
  pub back_end : (kept : List ℕ) (p : MarkPlace) (out : List ℕ) (position : ℕ) → position ≤ 0 → Back document marks out₀ position kept p out
      → out ≡ written (table_words document marks) out₀
  unfolding table_words table_of open_at
  back_end kept p out zero h b =
      let r = b.rows in
      let z : p.rows ≡ 0 = omega arith in
      b.output ∙ rw (z, b.depth) refl
  back_end kept p out (suc k) h b = absurd (not-suc-le-zero h)

  -- What has to hold for the mark before a position.
  asks_at : (kept : List ℕ) (p : MarkPlace) (out : List ℕ) (k : ℕ) → k < length marks → Back document marks out₀ (suc k) kept p out
      → MarkNeeds marks p (get_or marks k 0)
  unfolding open_at
  asks_at kept p out k i b =
      let d = b.depth in
      let r = b.rows in
      let below = low_at marks taken k (omega arith) in
      let here = low_at marks taken (suc k) i in
      let place = in_place_at marks taken k i in
      let fewer = rw (drop-cons marks k 0 i) at (count_rest marks k) in
      record {
        low = omega arith;
        few = omega arith;
        closes = λ c. let s = closes_some (k + 1) (open_at marks k) (get_or marks k 0) place c in
            let o = open_closes (open_at marks k) (get_or marks k 0) c in
            omega arith;
        some = λ c. let n = count_node (get_or marks k 0) (drop (suc k) marks) c in
            (omega arith, λ t. let o = open_opens (open_at marks k) (get_or marks k 0) c t in omega arith);
      }

  pub back_asks : (kept : List ℕ) (p : MarkPlace) (out : List ℕ) (position : ℕ) → 0 < position → position ≤ length marks
      → Back document marks out₀ position kept p out → MarkNeeds marks p (get_or marks (position - 1) 0)
  back_asks kept p out zero h i b = absurd (not-suc-le-zero h)
  back_asks kept p out (suc k) h i b = rw (sub-one (suc k)) (asks_at kept p out k i b)

  -- One mark further back, where there is room for all rows.
  module _ (kept : List ℕ) (p : MarkPlace) (out : List ℕ) (room : ROW_WORDS * row_count marks ≤ length out₀) where
    back_to : (k : ℕ) → k < length marks → Back document marks out₀ (suc k) kept p out
        → Back document marks out₀ k (closes_before kept (suc k) p.depth (get_or marks k 0)) (before_mark p (get_or marks k 0))
        (output_before document (suc k) kept p (get_or marks k 0) out)
    unfolding open_at before_mark
    back_to k i b =
        let asks = asks_at kept p out k i b in
        let few = asks.few in
        let long = b.long in
        let f = open_forth (k + 1) (open_at marks k) (get_or marks k 0) (in_place_at marks taken k i) in
        record {
          long = length_kept kept (suc k) p.depth (get_or marks k 0) ∙ long;
          same = length_output document (suc k) kept p (get_or marks k 0) out ∙ b.same;
          depth = ap (λ d. open_before d (get_or marks k 0)) b.depth ∙ f;
          rows = rw (drop-cons marks k 0 i) (rows_back p (get_or marks k 0) (drop (suc k) marks) asks.some b.rows);
          closes = rw (add-one k, drop-cons marks k 0 i)
              (kept_before kept (suc k) p.depth (get_or marks k 0) (drop (suc k) marks) b.closes (λ c. let l = asks.closes c in omega arith));
          output = rw (add-one k, drop-cons marks k 0 i)
              (output_back p (get_or marks k 0) (drop (suc k) marks) asks.some document (suc k) kept out₀ out (omega arith) b.closes b.output);
        }

    pub back_on : (position here : ℕ) → here ≡ position → 0 < position → position ≤ length marks → Back document marks out₀ position kept p out
        → (q : MarkPlace) (kept' out' : List ℕ) → q ≡ before_mark p (get_or marks (position - 1) 0)
        → kept' ≡ closes_before kept here p.depth (get_or marks (position - 1) 0)
        → out' ≡ output_before document here kept p (get_or marks (position - 1) 0) out → Back document marks out₀ (position - 1) kept' q out'
    back_on zero here s h i b q kept' out' e f g = absurd (not-suc-le-zero h)
    back_on (suc k) here s h i b q kept' out' e f g = rw (e, f, g, s, sub-one (suc k)) (back_to k i b)
