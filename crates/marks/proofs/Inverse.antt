-- Why it holds: Of accepted marks only the last closes the root, so the first row's end is their
-- number. Every mark that is no close is the tag of the row that starts at its position.
-- What would break it: A row's start or the root's end one off would shift the marks or cut them
-- short, and would be caught here.
use mathlib.Core.Path.{◌≡◌, refl, sym, ap, ◌∙◌}
use mathlib.Core.Logic.{inl, inr}
use mathlib.Core.Bool.{true}
use mathlib.Core.List.{List, [], ◌∷◌, ◌++◌}
use Prim.Native.Nat.{ℕ, zero, suc, ◌+◌, ◌-◌, ◌≤◌, ◌<◌}
use native.Mathlib.Omega.{arith}
use lib.Dec.{eqb}
use lib.ListN.{length, replicate, length-append}
use lib.Seq.{append_snoc, set_at}
use borrow.Author.Tests.{eqb-true, eq-eqb}
use Rattle.answers.specs.Answer.{TAKEN}
use Rattle.nodes.specs.Node.{sameb}
use Rattle.nodes.proofs.NodeLaws.{same_read, same_self}
use Rattle.laws.proofs.Tests.{either, never, and_read, and_make}
use Rattle.marks.specs.declared.row.Row.{Row}
use Rattle.marks.specs.Back.{Numbering, tagged, marks_of, document_of, same_rowb, same_rowsb, numberedb}
use Rattle.marks.specs.Mark.{CLOSE, closeb, open_after, fault_from, check_marks}
use Rattle.marks.specs.Table.{row, close_at, rows_from, table_of, row_in}
use Rattle.marks.proofs.MarkLaws.{closes, is_text, opens, kind_of, open_closes, open_text, open_opens, close_here, close_closes, close_text, close_opens, rows_node, end_opens, fault_read, end_read, check_read}

-- Each tag comes to its mark's place, and what is no row's start stays a close.
tags_back : (document position depth : ℕ) (front marks : List ℕ) → position ≡ length front + 1
    → tagged (rows_from document position depth marks) (front ++ replicate (length marks) CLOSE) ≡ front ++ marks
unfolding rows_from tagged
tags_back document position depth front [] e = refl
tags_back document position depth front (mark ∷ marks) e =
    let later = rows_from document (position + 1) (open_after depth mark) marks in
    let rest = replicate (length marks) CLOSE in
    let on = tags_back document (position + 1) (open_after depth mark) (front ++ (mark ∷ [])) marks (omega (arith, length-append front (mark ∷ []))) in
    let next : tagged later (front ++ mark ∷ rest) ≡ front ++ mark ∷ marks = rw (append_snoc front mark rest, append_snoc front mark marks) at on in
    elim (either (closeb mark)) [
      | inl h ↦ rw h (ap (λ m. tagged later (front ++ m ∷ rest)) (sym (eqb-true mark CLOSE h)) ∙ next)
      | inr h ↦ rw h (ap (tagged later) (set_at front CLOSE rest mark (position - 1) (omega arith)) ∙ next)
    ]

-- Nothing follows the root's close.
none_follow : (position depth : ℕ) (marks : List ℕ) → 2 ≤ position → depth ≡ 0 → fault_from position depth marks ≡ TAKEN → length marks ≡ 0
none_follow position depth [] p z h = refl
none_follow position depth (mark ∷ marks) p z h = let r = (fault_read position depth mark marks h).0.rooted z in absurd (omega (arith, r.2))

-- So the root closes at the last mark.
root_closes : (inner position depth : ℕ) (marks : List ℕ) → depth ≡ inner + 1 → 1 ≤ position → fault_from position depth marks ≡ TAKEN
    → close_at inner position marks + 1 ≡ position + length marks
root_closes inner position depth [] d p h = absurd (omega (arith, (end_read position depth h).0))
root_closes inner position depth (mark ∷ marks) d p h =
    let f = (fault_read position depth mark marks h).1 in
    let on : (i : ℕ) → open_after depth mark ≡ i + 1 → close_at i (position + 1) marks + 1 ≡ position + 1 + length marks =
    λ i e. root_closes i (position + 1) (open_after depth mark) marks e (omega arith) f in
    elim (kind_of mark) [
      | closes k ↦ closed inner d k f on
      | is_text k ↦ rw (close_text inner position mark marks k) (omega (arith, on inner (open_text depth mark k ∙ d)))
      | opens k l ↦ rw (close_opens inner position mark marks k l) (omega (arith, on (inner + 1) (omega (arith, open_opens depth mark k l))))
    ]
  where
    closed : (i : ℕ) → depth ≡ i + 1 → mark ≡ CLOSE → fault_from (position + 1) (open_after depth mark) marks ≡ TAKEN
        → ((j : ℕ) → open_after depth mark ≡ j + 1 → close_at j (position + 1) marks + 1 ≡ position + 1 + length marks)
        → close_at i position (mark ∷ marks) + 1 ≡ position + length (mark ∷ marks)
    closed zero e k f on =
        rw (close_here 0 position mark marks k)
        (omega (arith, none_follow (position + 1) (open_after depth mark) marks (omega arith) (omega (arith, open_closes depth mark k)) f))
    closed (suc i) e k f on = rw (close_closes i position mark marks k) (omega (arith, on i (omega (arith, open_closes depth mark k))))

-- The first row of accepted marks is the root's: it ends at the last of them, and tells the
-- document.
root : (document : ℕ) (marks : List ℕ) → fault_from 1 0 marks ≡ TAKEN
    → (0 < length (rows_from document 1 0 marks)) × ((row_in (rows_from document 1 0 marks) 0).node.end ≡ length marks)
    × ((row_in (rows_from document 1 0 marks) 0).node.document ≡ document)
unfolding row_in
root document [] h = absurd ((end_read 1 0 h).1 refl)
root document (mark ∷ marks) h =
    let r = fault_read 1 0 mark marks h in
    let k = r.0.rooted refl in
    rw (rows_node document 1 0 mark marks k.0, end_opens 1 mark marks k.1)
    (omega arith, omega (arith, root_closes 0 2 (open_after 0 mark) marks (open_opens 0 mark k.0 k.1) (omega arith) r.1), refl)

module _ (document : ℕ) (marks : List ℕ) (h : fault_from 1 0 marks ≡ TAKEN) where
  some_row : 0 < length (table_of document marks)
  unfolding table_of
  some_row = (root document marks h).0

  last_back : (row_in (table_of document marks) 0).node.end ≡ length marks
  unfolding table_of
  last_back = (root document marks h).1

  pub document_back : document_of (table_of document marks) ≡ document
  unfolding document_of table_of
  document_back = (root document marks h).2

  pub marks_back : marks_of (table_of document marks) ≡ marks
  unfolding marks_of table_of
  marks_back =
      ap (λ n. tagged (rows_from document 1 0 marks) (replicate n CLOSE)) (root document marks h).1 ∙ tags_back document 1 0 [] marks (omega arith)

-- The rows tell the marks and the document.
module _ (rs : List Row) (n : Numbering rs) where
  pub tell_some : 0 < length rs
  tell_some = rw (← n.table) (some_row n.document n.marks (check_read n.marks n.taken).1)

  pub tell_last : (row_in rs 0).node.end ≡ length n.marks
  tell_last = rw (← n.table) (last_back n.document n.marks (check_read n.marks n.taken).1)

  pub tell_document : document_of rs ≡ n.document
  tell_document = rw (← n.table) (document_back n.document n.marks (check_read n.marks n.taken).1)

  pub tell_marks : marks_of rs ≡ n.marks
  tell_marks = rw (← n.table) (marks_back n.document n.marks (check_read n.marks n.taken).1)

-- Rows that are the same are equal.
pub same_row : (x y : Row) → same_rowb x y ≡ true → x ≡ y
unfolding same_rowb
same_row x y h =
    let p = and_read (sameb x.node y.node) h in
    let n = same_read x.node y.node p.0 in
    let t : x.tag ≡ y.tag = eqb-true _ _ p.1 in
    λ i. row (n i) (t i)

pub row_itself : (x : Row) → same_rowb x x ≡ true
unfolding same_rowb
row_itself x = and_make (same_self x.node) (eq-eqb x.tag x.tag refl)

same_rows : (xs ys : List Row) → same_rowsb xs ys ≡ true → xs ≡ ys
unfolding same_rowsb
same_rows [] [] h = refl
same_rows [] (y ∷ ys) h = absurd (never h refl)
same_rows (x ∷ xs) [] h = absurd (never h refl)
same_rows (x ∷ xs) (y ∷ ys) h = let p = and_read (same_rowb x y) h in λ i. same_row x y p.0 i ∷ same_rows xs ys p.1 i

rows_themselves : (xs : List Row) → same_rowsb xs xs ≡ true
unfolding same_rowsb
rows_themselves [] = refl
rows_themselves (x ∷ xs) = and_make (row_itself x) (rows_themselves xs)

-- Rows are numbered exactly where some accepted marks have them as their table.
pub numbered_read : (rs : List Row) → numberedb rs ≡ true → Numbering rs
unfolding numberedb
numbered_read rs h =
    let p = and_read (eqb (check_marks (marks_of rs)) TAKEN) h in
    record { document = document_of rs; marks = marks_of rs; taken = eqb-true _ _ p.0; table = same_rows _ _ p.1 }

pub numbered_make : (rs : List Row) → Numbering rs → numberedb rs ≡ true
unfolding numberedb
numbered_make rs n =
    rw (tell_document rs n, tell_marks rs n, n.table) (and_make (eq-eqb _ _ n.taken) (rows_themselves rs))
