-- Demand 2 for marks: numbering and writing back marks return each other, and the numbering says
-- what contains what. `number` and `unnumber` promise these outcomes and outputs. A mark, a row or
-- a document number that didn't come back would be caught here.
use mathlib.Core.Path.{◌≡◌, ap}
use mathlib.Core.Logic.{◌↔◌}
use mathlib.Core.Bool.{true}
use mathlib.Core.List.{List}
use Prim.Native.Nat.{ℕ, ◌≤◌, ◌<◌}
use lib.ListN.{length}
use Rattle.answers.specs.Answer.{TAKEN, TABLE}
use Rattle.answers.specs.Output.{written}
use Rattle.laws.specs.Choose.{All, In}
use Rattle.nodes.specs.Node.{insideb, directlyb}
use Rattle.lists.specs.Two.{check_two}
use Rattle.marks.specs.declared.row.Row.{Row}
use Rattle.marks.specs.Back.{document_of, Numbering, check_table}
use Rattle.marks.specs.Mark.{check_marks}
use Rattle.marks.specs.Outcome.{outcome, number_outcome, number_output, unnumbered, table_marks, unnumber_outcome, unnumber_output, picked_words}
use Rattle.marks.specs.Table.{Marked, table_of, table_words, rows, row_fault}
use Rattle.marks.proofs.Contained.{inside_between, directly_stands, ends_differ}
use Rattle.marks.proofs.Exact.{refused_exact}
use Rattle.marks.proofs.Marked.{table_marked}
use Rattle.marks.proofs.Picked.{tags_agree}
use Rattle.marks.proofs.Returned.{number_taken, unnumber_taken, marks_return, table_returns}
use Rattle.rules.specs.Rule.{strictb}
use Rattle.rules.proofs.Kept.{differ_agree}

-- Of accepted marks, with any document number:
module _ (document : ℕ) (marks : List ℕ) (taken : check_marks marks ≡ TAKEN) where
  -- They are numbered into the words of their table,
  pub marks_are_numbered : (out : List ℕ) → length (table_words document marks) ≤ length out
      → (number_outcome document marks out ≡ outcome TAKEN (length (table_of document marks)))
      × (number_output document marks out ≡ written (table_words document marks) out)
  marks_are_numbered out l = number_taken document marks out taken l

  -- and those words are turned back into the marks and the document number.
  pub numbered_marks_come_back : (out : List ℕ) → length marks ≤ length out
      → (unnumber_outcome (table_words document marks) out ≡ unnumbered TAKEN document (length marks))
      × (unnumber_output (table_words document marks) out ≡ written marks out)
  numbered_marks_come_back out l = marks_return document marks out taken l

  -- A row's tag is the mark at its start. A text ends there, and an element at a close after it.
  pub rows_stand_at_their_marks : All (Marked 1 marks) (table_of document marks)
  rows_stand_at_their_marks = table_marked document marks taken

  -- y is inside x exactly when y's first mark comes after x's opening and before x's close.
  pub inside_exactly_between : (x y : Row) → In x (table_of document marks) → In y (table_of document marks)
      → (insideb y.node x.node ≡ true) ↔ ((x.node.start < y.node.start) × (y.node.start < x.node.end))
  inside_exactly_between x y i j = inside_between document marks taken x y i j

  -- y is directly inside x exactly when x is the element that y stands in: y is inside x, and
  -- nothing that contains y is inside x.
  pub directly_exactly_in : (x y : Row) → In x (table_of document marks) → In y (table_of document marks)
      → (directlyb y.node x.node ≡ true) ↔ ((insideb y.node x.node ≡ true)
      × ((z : Row) → In z (table_of document marks) → insideb y.node z.node ≡ true → insideb z.node x.node ≡ true → ⊥))
  directly_exactly_in x y i j = directly_stands document marks taken x y i j

  -- No two of their nodes end at one position.
  pub no_two_end_together : (x y : Row) → In x (table_of document marks) → In y (table_of document marks) → x.node.end ≡ y.node.end → x ≡ y
  no_two_end_together x y i j e = ends_differ document marks taken x y i j e

  -- So y is inside x exactly when it is strictly inside, ending before x ends.
  pub inside_is_strictly_inside : (x y : Row) → In x (table_of document marks) → In y (table_of document marks)
      → insideb y.node x.node ≡ strictb y.node x.node
  inside_is_strictly_inside x y i j = differ_agree x.node y.node (λ e. ap (λ r. r.node) (ends_differ document marks taken x y i j e))

  -- The lists of any two tags are accepted together, so that pages can always be made of them.
  pub any_two_tags_are_accepted : (s t : ℕ)
      → (check_two (picked_words s (table_words document marks)) (picked_words t (table_words document marks))).answer ≡ TAKEN
  any_two_tags_are_accepted s t = tags_agree document marks taken s t

-- Of any table:
module _ (table : List ℕ) where
  -- One that is accepted gives back its marks and its document number,
  pub taken_table_is_unnumbered : check_table table ≡ TAKEN → (out : List ℕ) → length (table_marks table) ≤ length out
      → (unnumber_outcome table out ≡ unnumbered TAKEN (document_of (rows table)) (length (table_marks table)))
      × (unnumber_output table out ≡ written (table_marks table) out)
  taken_table_is_unnumbered h out l = unnumber_taken table out h l

  -- and those marks are numbered again into the same words, row for row.
  pub taken_table_comes_back : check_table table ≡ TAKEN → (out : List ℕ) → length table ≤ length out
      → (number_outcome (document_of (rows table)) (table_marks table) out ≡ outcome TAKEN (length (rows table)))
      × (number_output (document_of (rows table)) (table_marks table) out ≡ written table out)
  taken_table_comes_back h out l = table_returns table out h l

  -- TABLE is answered exactly when the words make whole rows, not too many, and no accepted marks
  -- have this table.
  pub refused_as_no_table : (check_table table ≡ TABLE) ↔ ((row_fault table ≡ TAKEN) × (Numbering (rows table) → ⊥))
  refused_as_no_table = refused_exact table
