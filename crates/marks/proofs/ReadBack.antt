-- Why it holds: Walked back from the root's end, the rows tell one mark after the other. The last
-- row left starts at the position, or a close stands there. So the walk ends with no row left
-- exactly where the rows are a table.
-- What would break it: A row that differs from its mark's, in any of its five words, would be
-- caught here.
use mathlib.Core.Path.{◌≡◌, refl, sym, ap, ◌∙◌}
use mathlib.Core.Logic.{inl, inr}
use mathlib.Core.Bool.{true, ◌||◌}
use mathlib.Core.List.{List, [], ◌∷◌, reverse, reverse_aux, reverse-reverse}
use Prim.Native.Nat.{ℕ, zero, suc, ◌+◌, ◌-◌, ◌≤◌, ◌<◌, zero-le}
use native.Mathlib.Nat.{not-suc-le-zero}
use native.Mathlib.Numerals.{add-one, sub-one}
use native.Mathlib.Omega.{arith}
use lib.Dec.{ltb, eqb}
use lib.ListN.{length, drop, get_or, replicate, length-drop, length-reverse}
use lib.Seq.{drop-cons, drop-drop, get_or-drop, drop-length}
use borrow.Author.Tests.{ltb-true, eqb-true, eqb-false, lt-ltb, eq-eqb, ne_eqb}
use Rattle.answers.specs.Answer.{TAKEN}
use Rattle.nodes.specs.Node.{MOST_LEVELS}
use Rattle.nodes.specs.Words.{MOST_NODES, node}
use Rattle.laws.proofs.Tests.{either, and_read, and_make, or_read, or_left, or_right, same_test}
use Rattle.marks.specs.declared.mark.MarkPlace.{MarkPlace}
use Rattle.marks.specs.declared.row.Row.{Row}
use Rattle.marks.specs.Back.{document_of, numberedb}
use Rattle.marks.specs.Mark.{CLOSE, TEXT, closeb, textb, open_after, mark_fault, fault_from}
use Rattle.marks.specs.Table.{row, end_of, rows_from, table_of, row_in}
use Rattle.marks.specs.Private.Walk.{mark_place, after_mark, open_before, before_mark, closes_before, Kept, row_here, mark_here, fitsb, reads_back, all_read_back}
use Rattle.marks.proofs.Inverse.{tell_some, tell_last, tell_document, same_row, row_itself, numbered_read, numbered_make}
use Rattle.marks.proofs.Keeping.{before_closes, open_back, kept_none, kept_before, rows_here, open_forth, length_kept}
use Rattle.marks.proofs.MarkLaws.{closes, is_text, opens, kind_of, open_closes, open_text, open_opens, rows_closes, rows_node, closes_some, InPlace, in_place, place_in, fault_read, fault_make, end_read, end_make, check_read, check_make}

-- A mark fits the last of the rows left: there is room to keep a close, and any other mark is in
-- its place and has that row.
pub record Fits (rs : List Row) (document position : ℕ) (kept : List ℕ) (q : MarkPlace) (mark : ℕ) : Type 0 where
  pub room : mark ≡ CLOSE → q.depth < MOST_LEVELS
  pub inner : (mark ≡ CLOSE → ⊥) → (mark ≡ TEXT → ⊥) → 0 < q.depth
  pub right : (mark ≡ CLOSE → ⊥) → InPlace position (open_before q.depth mark) mark
  pub same : (mark ≡ CLOSE → ⊥) → row_here document position kept q.depth mark ≡ row_in rs (q.rows - 1)

module _ (rs : List Row) (document position : ℕ) (kept : List ℕ) (q : MarkPlace) (mark : ℕ) where
  pub fits_read : fitsb rs document position kept q mark ≡ true → Fits rs document position kept q mark
  unfolding fitsb
  fits_read h =
      elim (either (closeb mark)) [
        | inl c ↦ let e : mark ≡ CLOSE = eqb-true _ _ c in
            record { room = λ _. ltb-true _ _ (rw c at h); inner = λ n. absurd (n e); right = λ n. absurd (n e); same = λ n. absurd (n e) }
        | inr c ↦ let p = and_read (textb mark || ltb 0 q.depth) (rw c at h) in
            let r = and_read (eqb (mark_fault position (open_before q.depth mark) mark) TAKEN) p.1 in
            record {
              room = λ e. absurd (eqb-false _ _ c e);
              inner = λ n t. elim (or_read (textb mark) p.0) [ inl k ↦ absurd (t (eqb-true _ _ k)) | inr k ↦ ltb-true _ _ k ];
              right = λ _. in_place position (open_before q.depth mark) mark (eqb-true _ _ r.0);
              same = λ _. same_row _ _ r.1;
            }
      ]

  pub fits_make : Fits rs document position kept q mark → fitsb rs document position kept q mark ≡ true
  unfolding fitsb
  fits_make f =
      elim (either (closeb mark)) [
        | inl c ↦ rw c (lt-ltb _ _ (f.room (eqb-true _ _ c)))
        | inr c ↦ let n : mark ≡ CLOSE → ⊥ = eqb-false _ _ c in
            let d : (textb mark || ltb 0 q.depth) ≡ true =
            elim (either (textb mark)) [ inl t ↦ or_left _ t | inr t ↦ or_right (textb mark) (lt-ltb _ _ (f.inner n (eqb-false _ _ t))) ] in
            rw (c, d, eq-eqb _ _ (place_in position (open_before q.depth mark) mark (f.right n)), f.same n) (row_itself (row_in rs (q.rows - 1)))
      ]

-- The rows from an index on.
module _ (rs : List Row) (k : ℕ) {x : Row} {xs : List Row} (h : drop k rs ≡ x ∷ xs) where
  row_first : row_in rs k ≡ x
  unfolding row_in
  row_first =
      let e : k ≡ k + 0 = omega arith in
      ap (λ i. get_or rs i (row (node 0 0 0 0) 0)) e ∙ sym (get_or-drop k rs 0 (row (node 0 0 0 0) 0)) ∙ ap (λ ys. get_or ys 0 (row (node 0 0 0 0) 0)) h

  rows_next : drop (k + 1) rs ≡ xs
  rows_next = sym (drop-drop 1 k rs) ∙ ap (drop 1) h

  rows_in : k < length rs
  rows_in = omega (arith, length-drop k rs, ap length h)

rows_last : (rs : List Row) (k : ℕ) → 0 < k → k ≤ length rs → drop (k - 1) rs ≡ row_in rs (k - 1) ∷ drop k rs
unfolding row_in
rows_last rs zero p h = absurd (not-suc-le-zero p)
rows_last rs (suc k) p h = rw (sub-one (suc k)) (drop-cons rs k (row (node 0 0 0 0) 0) h)

-- A mark that fits is in its place.
right_place : (rs : List Row) (document position : ℕ) (kept : List ℕ) (q : MarkPlace) (mark : ℕ) → Fits rs document position kept q mark
    → InPlace position (open_before q.depth mark) mark
right_place rs document position kept q mark f =
    elim (either (closeb mark)) [
      | inl c ↦ let e : mark ≡ CLOSE = eqb-true _ _ c in
          record { known = omega arith; rooted = λ z. absurd (omega (arith, before_closes q.depth mark e)); level = λ n. absurd (n e) }
      | inr c ↦ f.right (eqb-false _ _ c)
    ]

-- The rows from index `count` on are those of marks that are taken after position `p`, where
-- `depth` elements are open.
record Part (rs : List Row) (document p depth count : ℕ) (marks : List ℕ) : Type 0 where
  fault : fault_from (p + 1) depth marks ≡ TAKEN
  beyond : drop count rs ≡ rows_from document (p + 1) depth marks
  within : count ≤ length rs

-- One mark further back, which fits.
module _ (rs : List Row) (document p : ℕ) (kept : List ℕ) (q : MarkPlace) (mark : ℕ) (marks : List ℕ)
    (a : Part rs document (suc p) q.depth q.rows marks) (k : Kept kept (suc p + 1) q.depth marks)
    (f : Fits rs document (suc p) kept q mark) where
  fault_back : fault_from (p + 1) (open_before q.depth mark) (mark ∷ marks) ≡ TAKEN
  fault_back =
      rw (add-one p)
      (fault_make (suc p) (open_before q.depth mark) mark marks (right_place rs document (suc p) kept q mark f)
      (rw (open_back q.depth mark f.inner) a.fault))

  part_back : ((mark ≡ CLOSE → ⊥) → 0 < q.rows) → Part rs document p (open_before q.depth mark) (before_mark q mark).rows (mark ∷ marks)
  unfolding before_mark
  part_back some =
      elim (either (closeb mark)) [
        | inl c ↦ let e : mark ≡ CLOSE = eqb-true _ _ c in
            rw c
            (record {
              fault = fault_back;
              beyond = a.beyond
                  ∙ ap (λ d. rows_from document (suc p + 1) d marks) (omega (arith, before_closes q.depth mark e))
                  ∙ sym (rows_closes document (suc p) (open_before q.depth mark) mark marks e)
                  ∙ ap (λ i. rows_from document i (open_before q.depth mark) (mark ∷ marks)) (sym (add-one p));
              within = a.within;
            })
        | inr c ↦ let n : mark ≡ CLOSE → ⊥ = eqb-false _ _ c in
            rw c
            (record {
              fault = fault_back;
              beyond = rows_last rs q.rows (some n) a.within
                  ∙ ap (λ r. r ∷ drop q.rows rs) (sym (f.same n))
                  ∙ ap (λ ys. row_here document (suc p) kept q.depth mark ∷ ys) a.beyond
                  ∙ sym (rows_here kept (suc p) q.depth mark marks k document n (f.inner n))
                  ∙ ap (λ i. rows_from document i (open_before q.depth mark) (mark ∷ marks)) (sym (add-one p));
              within = omega (arith, a.within);
            })
      ]

-- The mark told is the last row's tag if that row starts at the position, else a close.
module _ (rs : List Row) (count position : ℕ) where
  pub told_close : (0 < count → (row_in rs (count - 1)).node.start ≡ position → ⊥) → mark_here rs count position ≡ CLOSE
  unfolding mark_here
  told_close h =
      elim (either (ltb 0 count)) [
        | inl l ↦ rw (l, ne_eqb (row_in rs (count - 1)).node.start position (h (ltb-true _ _ l))) refl
        | inr l ↦ rw l refl
      ]

  pub told_tag : 0 < count → (row_in rs (count - 1)).node.start ≡ position → mark_here rs count position ≡ (row_in rs (count - 1)).tag
  unfolding mark_here
  told_tag l h = rw (lt-ltb 0 count l, eq-eqb (row_in rs (count - 1)).node.start position h) refl

-- A mark told that is no close begins the last row.
pub told_some : (rs : List Row) (count position : ℕ) → (mark_here rs count position ≡ CLOSE → ⊥) → 0 < count
unfolding mark_here
told_some rs zero position n = absurd (n refl)
told_some rs (suc count) position n = omega arith

-- `count` marks that are taken and have the rows.
record Marks (rs : List Row) (document count : ℕ) : Type 0 where
  marks : List ℕ
  fault : fault_from 1 0 marks ≡ TAKEN
  table : rows_from document 1 0 marks ≡ rs
  long : length marks ≡ count

-- Rows that read back are the table of the marks told.
sound : (rs : List Row) (document p : ℕ) (kept : List ℕ) (q : MarkPlace) (marks : List ℕ) (count : ℕ) → count ≡ p + length marks
    → Part rs document p q.depth q.rows marks → Kept kept (p + 1) q.depth marks → length kept ≡ MOST_LEVELS
    → reads_back rs document p kept q ≡ true → Marks rs document count
unfolding reads_back before_mark
sound rs document zero kept q marks count e a k l h =
    let r = and_read (eqb q.depth 0) h in
    let d : q.depth ≡ 0 = eqb-true _ _ r.0 in
    let z : q.rows ≡ 0 = eqb-true _ _ r.1 in
    record {
      marks = marks;
      fault = rw d at a.fault;
      table = sym (rw (d, z) at a.beyond);
      long = omega arith;
    }
sound rs document (suc p) kept q marks count e a k l h =
    let mark = mark_here rs q.rows (suc p) in
    let r = and_read (fitsb rs document (suc p) kept q mark) h in
    let f = fits_read rs document (suc p) kept q mark r.0 in
    sound rs document p (closes_before kept (suc p) q.depth mark) (before_mark q mark) (mark ∷ marks) count (omega arith)
    (part_back rs document p kept q mark marks a k f (told_some rs q.rows (suc p)))
    (rw (add-one p) (kept_before kept (suc p) q.depth mark marks k (λ c. omega (arith, f.room c))))
    (length_kept kept (suc p) q.depth mark ∙ l)
    r.1

-- The place after marks; the last mark comes first in the list.
place_of : List ℕ → MarkPlace
place_of [] = mark_place 0 0
place_of (mark ∷ marks) = after_mark (place_of marks) mark

back_one : (n : ℕ) → n + 1 - 1 ≡ n
back_one n = omega arith

-- What holds at a place in marks that are taken and have the rows: the rows left start before it.
record Before (rs : List Row) (document p : ℕ) (q : MarkPlace) (marks : List ℕ) : Type 0 where
  part : Part rs document p q.depth q.rows marks
  deep : q.depth ≤ MOST_LEVELS
  starts : 0 < q.rows → (row_in rs (q.rows - 1)).node.start ≤ p

module _ (rs : List Row) (document p : ℕ) (q : MarkPlace) (mark : ℕ) (marks : List ℕ) (b : Before rs document p q (mark ∷ marks)) where
  here : InPlace (suc p) q.depth mark × (fault_from (suc p + 1) (open_after q.depth mark) marks ≡ TAKEN)
  here = fault_read (suc p) q.depth mark marks (rw (add-one p) at b.part.fault)

  -- The first row after the place is the node's own.
  own : (mark ≡ CLOSE → ⊥) → drop q.rows rs
      ≡ row (node document (suc p) (end_of (suc p) mark marks) (q.depth + 1)) mark ∷ rows_from document (suc p + 1) (open_after q.depth mark) marks
  own n = (rw (add-one p) at b.part.beyond) ∙ rows_node document (suc p) q.depth mark marks n

  deep_on : open_after q.depth mark ≤ MOST_LEVELS
  deep_on =
      elim (kind_of mark) [
        | closes c ↦ omega (arith, open_closes q.depth mark c, b.deep)
        | is_text t ↦ omega (arith, open_text q.depth mark t, b.deep)
        | opens c t ↦ omega (arith, open_opens q.depth mark c t, here.0.level c)
      ]

  before_on : Before rs document (suc p) (after_mark q mark) marks
  unfolding after_mark
  before_on =
      elim (either (closeb mark)) [
        | inl c ↦ let e : mark ≡ CLOSE = eqb-true _ _ c in
            rw c
            (record {
              part = record {
                fault = here.1;
                beyond = (rw (add-one p) at b.part.beyond)
                    ∙ rows_closes document (suc p) q.depth mark marks e
                    ∙ ap (λ d. rows_from document (suc p + 1) d marks) (sym (open_closes q.depth mark e));
                within = b.part.within;
              };
              deep = deep_on;
              starts = λ s. omega (arith, b.starts s);
            })
        | inr c ↦ let n : mark ≡ CLOSE → ⊥ = eqb-false _ _ c in
            rw c
            (record {
              part = record { fault = here.1; beyond = rows_next rs q.rows (own n); within = omega (arith, rows_in rs q.rows (own n)) };
              deep = deep_on;
              starts = λ s. rw (back_one q.rows, row_first rs q.rows (own n)) (omega arith);
            })
      ]

  -- The rows tell the mark.
  told : mark_here rs (after_mark q mark).rows (suc p) ≡ mark
  unfolding after_mark
  told =
      elim (either (closeb mark)) [
        | inl c ↦ rw c (told_close rs q.rows (suc p) (λ s e. omega (arith, b.starts s)) ∙ sym (eqb-true mark CLOSE c))
        | inr c ↦ let e = back_one q.rows in
            let f = ap (row_in rs) e ∙ row_first rs q.rows (own (eqb-false mark CLOSE c)) in
            rw c (told_tag rs (q.rows + 1) (suc p) (omega arith) (ap (λ r. r.node.start) f) ∙ ap (λ r. r.tag) f)
      ]

  forth : open_before (open_after q.depth mark) mark ≡ q.depth
  forth = open_forth (suc p) q.depth mark here.0

  place_back : before_mark (after_mark q mark) mark ≡ q
  unfolding before_mark after_mark
  place_back = elim (either (closeb mark)) [ inl c ↦ rw (forth, c) refl | inr c ↦ rw (forth, c, back_one q.rows) refl ]

  fits : (kept : List ℕ) → Kept kept (suc p + 1) (open_after q.depth mark) marks → Fits rs document (suc p) kept (after_mark q mark) mark
  unfolding after_mark
  fits kept k =
      let inner : (mark ≡ CLOSE → ⊥) → (mark ≡ TEXT → ⊥) → 0 < open_after q.depth mark = λ n t. omega (arith, open_opens q.depth mark n t) in
      record {
        room = λ c. omega (arith, b.deep, closes_some (suc p) q.depth mark here.0 c, open_closes q.depth mark c);
        inner = inner;
        right = λ n. rw forth here.0;
        same = λ n. rw (ne_eqb mark CLOSE n, back_one q.rows)
            (sym (row_first rs q.rows ((rw (add-one p) at b.part.beyond)
            ∙ ap (λ d. rows_from document (suc p) d (mark ∷ marks)) (sym forth)
            ∙ rows_here kept (suc p) (open_after q.depth mark) mark marks k document n (inner n))));
      }

-- What holds where marks that are taken and have the rows are cut in two.
cut : (rs : List Row) (document : ℕ) (passed marks : List ℕ) → fault_from 1 0 (reverse_aux passed marks) ≡ TAKEN
    → rows_from document 1 0 (reverse_aux passed marks) ≡ rs → Before rs document (length passed) (place_of passed) marks
unfolding place_of
cut rs document [] marks f t =
    record { part = record { fault = f; beyond = sym t; within = zero-le }; deep = zero-le; starts = λ s. absurd (not-suc-le-zero s) }
cut rs document (mark ∷ passed) marks f t =
    before_on rs document (length passed) (place_of passed) mark marks (cut rs document passed (mark ∷ marks) f t)

-- The table of such marks reads back.
complete : (rs : List Row) (document : ℕ) (passed marks kept : List ℕ) → fault_from 1 0 (reverse_aux passed marks) ≡ TAKEN
    → rows_from document 1 0 (reverse_aux passed marks) ≡ rs → Kept kept (length passed + 1) (place_of passed).depth marks → length kept ≡ MOST_LEVELS
    → reads_back rs document (length passed) kept (place_of passed) ≡ true
unfolding reads_back place_of after_mark
complete rs document [] marks kept f t k l = refl
complete rs document (mark ∷ passed) marks kept f t k l =
    let p = length passed in
    let q = place_of passed in
    let b = cut rs document passed (mark ∷ marks) f t in
    let fit = fits rs document p q mark marks b kept k in
    let on = kept_before kept (suc p) (open_after q.depth mark) mark marks k (λ c. omega (arith, fit.room c)) in
    rw (told rs document p q mark marks b)
    (and_make (fits_make rs document (suc p) kept (after_mark q mark) mark fit)
    (rw (place_back rs document p q mark marks b)
    (complete rs document passed (mark ∷ marks) (closes_before kept (suc p) (open_after q.depth mark) mark) f t
    (rw (add-one p) (rw (forth rs document p q mark marks b) at on))
    (length_kept kept (suc p) (open_after q.depth mark) mark ∙ l))))

module _ (rs : List Row) (document last : ℕ) where
  read_sound : 0 < length rs → last ≤ MOST_NODES → all_read_back rs document last ≡ true → numberedb rs ≡ true
  unfolding all_read_back reads_back rows_from table_of
  read_sound some long h =
      elim (either (eqb last 0)) [
        | inl z ↦ let e : last ≡ 0 = eqb-true _ _ z in
            let n : length rs ≡ 0 = eqb-true _ _ (rw e at h) in
            absurd (omega arith)
        | inr z ↦ let e = eqb-false last 0 z in
            let m = sound rs document last (replicate MOST_LEVELS 0) (mark_place 0 (length rs)) [] last (omega arith)
            (record { fault = end_make (last + 1) 0 refl (λ i. e (omega arith)); beyond = drop-length rs; within = omega arith })
            (kept_none (replicate MOST_LEVELS 0) (last + 1) [])
            refl
            h in
            let t = check_make m.marks (omega (arith, m.long)) m.fault in
            numbered_make rs (record { document = document; marks = m.marks; taken = t; table = m.table })
      ]

  read_complete : (marks : List ℕ) → fault_from 1 0 marks ≡ TAKEN → rows_from document 1 0 marks ≡ rs → last ≡ length marks
      → all_read_back rs document last ≡ true
  unfolding all_read_back rows_from
  read_complete marks f t e =
      let passed = reverse marks in
      let g : fault_from 1 0 (reverse passed) ≡ TAKEN = ap (fault_from 1 0) (reverse-reverse marks) ∙ f in
      let u : rows_from document 1 0 (reverse passed) ≡ rs = ap (rows_from document 1 0) (reverse-reverse marks) ∙ t in
      let a = (cut rs document passed [] g u).part in
      let l : last ≡ length passed = e ∙ sym (length-reverse marks) in
      let d : 0 ≡ (place_of passed).depth = sym (end_read (length passed + 1) (place_of passed).depth a.fault).0 in
      let n : length rs ≡ (place_of passed).rows = omega (arith, length-drop (place_of passed).rows rs, ap length a.beyond, a.within) in
      (λ i. reads_back rs document (l i) (replicate MOST_LEVELS 0) (mark_place (d i) (n i)))
      ∙ complete rs document passed [] (replicate MOST_LEVELS 0) g u (rw (← d) (kept_none (replicate MOST_LEVELS 0) (length passed + 1) [])) refl

-- A table has a row, and at most 4,096 marks.
pub table_tells : (rs : List Row) → numberedb rs ≡ true → (0 < length rs) × ((row_in rs 0).node.end ≤ MOST_NODES)
table_tells rs h =
    let n = numbered_read rs h in
    (tell_some rs n, omega (arith, (check_read n.marks n.taken).0, tell_last rs n))

-- Rows of at most 4,096 marks read back exactly where they are a table.
pub reads_back_lem : (rs : List Row) → 0 < length rs → (row_in rs 0).node.end ≤ MOST_NODES
    → all_read_back rs (document_of rs) (row_in rs 0).node.end ≡ numberedb rs
unfolding table_of
reads_back_lem rs some long =
    same_test
    (read_sound rs (document_of rs) (row_in rs 0).node.end some long)
    (λ h. let n = numbered_read rs h in
    let t : rows_from (document_of rs) 1 0 n.marks ≡ rs = ap (λ d. rows_from d 1 0 n.marks) (tell_document rs n) ∙ n.table in
    read_complete rs (document_of rs) (row_in rs 0).node.end n.marks (check_read n.marks n.taken).1 t (tell_last rs n))
