-- Demand 1 for the other calls that write: `number`, `unnumber`, `pick`, `link_list`,
-- `write_sheet`, `write_book`, `copy_lists` and `ask`. A refusal counts nothing and alters nothing,
-- and no call alters a word after those that it counts. A call that did otherwise would be caught
-- here.
use mathlib.Core.Path.{◌≡◌, refl}
use mathlib.Core.List.{List}
use mathlib.Core.Logic.{inl, inr}
use mathlib.Core.Bool.{true, false}
use Prim.Native.Nat.{ℕ, ◌*◌, ◌≤◌}
use native.Mathlib.Omega.{arith}
use lib.ListN.{length, drop, length-append, length-drop}
use lib.Dec.{leb}
use lib.Seq.{drop-append_seam}
use borrow.Author.Tests.{leb-true}
use Rattle.answers.specs.Answer.{TAKEN}
use Rattle.std.specs.Prelude.{Result}
use Rattle.answers.specs.declared.refusal.Refusal.{Refusal}
use Rattle.answers.specs.declared.verdict.Counted.{Counted}
use Rattle.answers.specs.Refusal.{answer_in}
use Rattle.answers.proofs.OutputLaws.{refused_alters_nothing, beyond_unaltered, output_length}
use Rattle.answers.specs.Output.{written}
use Rattle.laws.proofs.Tests.{either, and_read}
use Rattle.nodes.specs.Words.{NODE_WORDS, nodes}
use Rattle.nodes.proofs.WordLaws.{length_nodes}
use Rattle.lists.specs.Check.{check_words}
use Rattle.marks.specs.declared.unnumber.Unnumbered.{Unnumbered}
use Rattle.marks.specs.Back.{document_of, check_table}
use Rattle.marks.specs.Mark.{check_marks}
use Rattle.marks.specs.Outcome.{outcome_of, number_outcome, number_output, table_marks, unnumber_outcome, unnumber_output}
use Rattle.marks.specs.Outcome.{nodes_with, picked_words, pick_outcome, pick_output}
use Rattle.marks.specs.Table.{ROW_WORDS, table_of, table_words, rows, row_fault}
use Rattle.marks.proofs.Picking.{length_picked}
use Rattle.marks.proofs.RowLaws.{length_words}
use Rattle.forest.specs.Linked.{links_in, linked_of, links_output}
use Rattle.forest.specs.Links.{LINK_WORDS}
use Rattle.forest.proofs.LinkLaws.{links_length}
use Rattle.tickets.specs.PairWords.{PAIR_WORDS}
use Rattle.sheets.specs.Sheet.{SUBTOTAL_WORDS, sheet_in, check_sheet, sheet_of, sheet_output}
use Rattle.sheets.proofs.Answered.{sheet_length}
use Rattle.writing.specs.WriteCall.{check_wanted, bytes_for, written_of_up_to, written_of, written_output_up_to, written_output}
use Rattle.joins.specs.declared.copy.Lengths.{Lengths}
use Rattle.joins.specs.Join.{tag_words, ancestors_in, descendants_in, thereb, fitb, copy_answer, lengths_of, first_after, second_after}
use Rattle.questions.specs.declared.ask.Pages.{Pages}
use Rattle.questions.specs.Ask.{ask_of, ask_output}
use Rattle.questions.specs.Demanded.{count_in}
use Rattle.questions.proofs.Answered.{ask_keeps_beyond, refused_counted, refused_output}

-- A call whose answer isn't TAKEN counts nothing, and its output on return is the output it was
-- lent.
abbrev AltersNothing : (answer count : ℕ) (out after : List ℕ) → Type 0
AltersNothing answer count out after = (answer ≡ TAKEN → ⊥) → (count ≡ 0) × (after ≡ out)

-- Refused or not, a call alters no word after those that it counts, adds none and takes none away.
abbrev KeepsBeyond : (counted : ℕ) (out after : List ℕ) → Type 0
KeepsBeyond counted out after = (drop counted after ≡ drop counted out) × (length after ≡ length out)

-- Numbering marks:
module _ (document : ℕ) (marks out : List ℕ) where
  abbrev numbering : Counted
  numbering = number_outcome document marks out

  -- a refusal counts no row and alters no word,
  pub refused_number_alters_nothing : AltersNothing numbering.verdict.answer numbering.count out (number_output document marks out)
  unfolding number_outcome outcome_of number_output
  refused_number_alters_nothing = refused_alters_nothing (check_marks marks) (table_words document marks) out (length (table_of document marks))

  -- and no word after the rows that it counts is altered.
  pub number_keeps_beyond : KeepsBeyond (ROW_WORDS * numbering.count) out (number_output document marks out)
  unfolding number_outcome outcome_of number_output table_words
  number_keeps_beyond =
      let fault = check_marks marks in
      let words = table_words document marks in
      let rs = table_of document marks in
      (beyond_unaltered fault words out ROW_WORDS (length rs) _ (length_words rs) refl, output_length fault words out)

-- Turning a table back into marks:
module _ (table out : List ℕ) where
  abbrev unnumbering : Unnumbered
  unnumbering = unnumber_outcome table out

  -- a refusal counts no mark and alters no word,
  pub refused_unnumber_alters_nothing : AltersNothing unnumbering.answer unnumbering.count out (unnumber_output table out)
  unfolding unnumber_outcome unnumber_output
  refused_unnumber_alters_nothing = refused_alters_nothing (check_table table) (table_marks table) out (length (table_marks table))

  -- and returns document 0;
  pub refused_unnumber_tells_no_document : (unnumbering.answer ≡ TAKEN → ⊥) → unnumbering.document ≡ 0
  unfolding unnumber_outcome
  refused_unnumber_tells_no_document h = (refused_alters_nothing (check_table table) (table_marks table) out (document_of (rows table)) h).0

  -- no word after the marks that it counts is altered.
  pub unnumber_keeps_beyond : KeepsBeyond unnumbering.count out (unnumber_output table out)
  unfolding unnumber_outcome unnumber_output
  unnumber_keeps_beyond =
      let fault = check_table table in
      let marks = table_marks table in
      (beyond_unaltered fault marks out 1 (length marks) unnumbering.count (omega arith) (omega arith), output_length fault marks out)

-- Picking a tag out of a table:
module _ (table out : List ℕ) (tag : ℕ) where
  abbrev picking : Counted
  picking = pick_outcome table tag out

  -- a refusal counts no node and alters no word,
  pub refused_pick_alters_nothing : AltersNothing picking.verdict.answer picking.count out (pick_output table tag out)
  unfolding pick_outcome outcome_of pick_output
  refused_pick_alters_nothing = refused_alters_nothing (row_fault table) (picked_words tag table) out (length (nodes_with tag (rows table)))

  -- and no word after the nodes that it counts is altered.
  pub pick_keeps_beyond : KeepsBeyond (NODE_WORDS * picking.count) out (pick_output table tag out)
  unfolding pick_outcome outcome_of pick_output
  pick_keeps_beyond =
      let fault = row_fault table in
      let words = picked_words tag table in
      (beyond_unaltered fault words out NODE_WORDS _ _ (length_picked tag table) refl, output_length fault words out)

-- Linking a list:
module _ (list out : List ℕ) where
  abbrev linking : Counted
  linking = linked_of list out

  -- a refusal counts no node and alters no word,
  pub refused_links_alter_nothing : AltersNothing linking.verdict.answer linking.count out (links_output list out)
  unfolding linked_of links_output
  refused_links_alter_nothing = refused_alters_nothing (check_words list).answer (links_in list) out (length (nodes list))

  -- and no word after the links that it counts is altered.
  pub links_keep_beyond : KeepsBeyond (LINK_WORDS * linking.count) out (links_output list out)
  unfolding linked_of links_output
  links_keep_beyond =
      let fault = (check_words list).answer in
      let words = links_in list in (
        beyond_unaltered fault words out LINK_WORDS (length (nodes list)) _ (omega (arith, links_length list, length_nodes list)) refl,
        output_length fault words out,
      )

-- Writing a zone sheet:
module _ (zones samples hundredths out : List ℕ) where
  abbrev sheet : Counted
  sheet = sheet_of zones samples hundredths out

  -- a refusal counts no zone and alters no word,
  pub refused_sheet_alters_nothing : AltersNothing sheet.verdict.answer sheet.count out (sheet_output zones samples hundredths out)
  unfolding sheet_of sheet_output
  refused_sheet_alters_nothing =
      refused_alters_nothing (check_sheet zones samples hundredths).answer (sheet_in zones samples hundredths) out (length (nodes zones))

  -- and no word after the rows that it counts is altered.
  pub sheet_keeps_beyond : KeepsBeyond (SUBTOTAL_WORDS * sheet.count) out (sheet_output zones samples hundredths out)
  unfolding sheet_of sheet_output
  sheet_keeps_beyond =
      let fault = (check_sheet zones samples hundredths).answer in
      let words = sheet_in zones samples hundredths in
      let long = sheet_length zones samples hundredths in
      (beyond_unaltered fault words out SUBTOTAL_WORDS (length (nodes zones)) _ (omega (arith, long, length_nodes zones)) refl, output_length fault words out)

-- Writing a book:
module _ (entries list out : List ℕ) where
  abbrev writing : Counted
  writing = written_of entries list out

  -- a refusal counts no byte and alters none,
  pub refused_book_alters_nothing : AltersNothing writing.verdict.answer writing.count out (written_output entries list out)
  unfolding written_of_up_to written_output_up_to
  refused_book_alters_nothing =
      refused_alters_nothing (check_wanted entries list).answer (bytes_for entries list) out (length (bytes_for entries list))

  -- and no byte after those that it counts is altered.
  pub book_keeps_beyond : KeepsBeyond writing.count out (written_output entries list out)
  unfolding written_of_up_to written_output_up_to
  book_keeps_beyond =
      let fault = (check_wanted entries list).answer in
      let bytes = bytes_for entries list in
      (beyond_unaltered fault bytes out 1 (length bytes) writing.count (omega arith) (omega arith), output_length fault bytes out)

kept : (words out : List ℕ) → length words ≤ length out → KeepsBeyond (length words) out (written words out)
unfolding written
kept words out l = (
  drop-append_seam words (drop (length words) out),
  omega (arith, length-append words (drop (length words) out), length-drop (length words) out),
)

-- Copying the lists under two tags of a book into two outputs:
module _ (book : List ℕ) (lists ancestors descendants : ℕ) (first second : List ℕ) where
  abbrev copying : Result Lengths Refusal
  copying = lengths_of book lists ancestors descendants first second

  abbrev first_copy : List ℕ
  first_copy = first_after book lists ancestors descendants first second

  abbrev second_copy : List ℕ
  second_copy = second_after book lists ancestors descendants first second

  -- Both lists are copied, or they don't fit, or one isn't there.
  by_copy : {P : Type 0} → (thereb book lists ancestors descendants ≡ true → fitb book lists ancestors descendants first second ≡ true → P)
      → (thereb book lists ancestors descendants ≡ true → fitb book lists ancestors descendants first second ≡ false → P)
      → (thereb book lists ancestors descendants ≡ false → P) → P
  by_copy copied full absent =
      elim (either (thereb book lists ancestors descendants)) [
        | inl t ↦ elim (either (fitb book lists ancestors descendants first second)) [ inl f ↦ copied t f | inr f ↦ full t f ]
        | inr t ↦ absent t
      ]

  -- a refusal counts no word and alters none of the first output,
  pub refused_copy_keeps_the_first : AltersNothing (answer_in copying) (ancestors_in copying) first first_copy
  unfolding lengths_of first_after copy_answer
  refused_copy_keeps_the_first r =
      by_copy (λ t f. absurd (r (rw (t, f) refl))) (λ t f. rw (t, f) (refl, refl)) (λ t. rw t (refl, refl))

  -- nor of the second;
  pub refused_copy_keeps_the_second : AltersNothing (answer_in copying) (descendants_in copying) second second_copy
  unfolding lengths_of second_after copy_answer
  refused_copy_keeps_the_second r =
      by_copy (λ t f. absurd (r (rw (t, f) refl))) (λ t f. rw (t, f) (refl, refl)) (λ t. rw t (refl, refl))

  fits : fitb book lists ancestors descendants first second ≡ true
      → (length (tag_words book lists ancestors) ≤ length first) × (length (tag_words book lists descendants) ≤ length second)
  unfolding fitb
  fits f =
      let p = and_read (leb (length (tag_words book lists ancestors)) (length first)) f in
      (leb-true _ _ p.0, leb-true _ _ p.1)

  -- no word of the first output after those that it counts is altered,
  pub copy_keeps_beyond_the_first : KeepsBeyond (ancestors_in copying) first first_copy
  unfolding lengths_of first_after copy_answer
  copy_keeps_beyond_the_first =
      by_copy (λ t f. rw (t, f) (kept (tag_words book lists ancestors) first (fits f).0)) (λ t f. rw (t, f) (refl, refl)) (λ t. rw t (refl, refl))

  -- nor of the second.
  pub copy_keeps_beyond_the_second : KeepsBeyond (descendants_in copying) second second_copy
  unfolding lengths_of second_after copy_answer
  copy_keeps_beyond_the_second =
      by_copy (λ t f. rw (t, f) (kept (tag_words book lists descendants) second (fits f).1)) (λ t f. rw (t, f) (refl, refl)) (λ t. rw t (refl, refl))

-- Asking a book several questions:
module _ (book words out : List ℕ) where
  abbrev asking : Pages
  asking = ask_of book words out

  -- a call that is refused as a whole counts no pair and alters no word,
  pub refused_questions_alter_nothing : AltersNothing asking.answer (count_in asking.pages) out (ask_output book words out)
  refused_questions_alter_nothing r = (refused_counted book words out r, refused_output book words out r)

  -- and no word after the pairs that the pages count is altered.
  pub questions_keep_beyond : KeepsBeyond (PAIR_WORDS * count_in asking.pages) out (ask_output book words out)
  questions_keep_beyond = ask_keeps_beyond book words out
