-- Why it holds: The checker computes the test over the whole table, and one lemma reads the
-- equations off it.
-- What would break it: A row that states anything else than what the definitions compute would be
-- caught at `computed`.
use mathlib.Core.Path.{◌≡◌, refl}
use mathlib.Core.Bool.{true}
use mathlib.Core.List.{List, [], ◌∷◌, flat_map}
use lib.Ieee.{of_int, of_bits, to_bits, div, lt}
use Rattle.laws.specs.Choose.{All, any, keep, first_at, equalb}
use Rattle.nodes.specs.Node.{endsb, insideb, deeperb, directlyb, apartb, afterb, openb, sameb}
use Rattle.nodes.specs.Words.{nodes, node_at, words_of}
use Rattle.lists.specs.Check.{check_from, check_nodes, raggedb, longb, word_fault, check_words}
use Rattle.lists.specs.Fault.{levelb, spanb, orderb, crossb, depthb, fault}
use Rattle.lists.specs.Two.{nestedb, agreeb, oddsb, jointb, check_two}
use Rattle.answers.specs.Verdict.{refusedb}
use Rattle.paging.specs.Key.{aboveb}
use Rattle.paging.specs.Page.{pastb, remains, handed, doneb, reached}
use Rattle.answers.specs.Output.{words_in, written, answer_of, if_taken, output_of}
use Rattle.tickets.specs.Listing.{relatedb, key_of, leaders, followers, pair_of, every_pair, listing}
use Rattle.tickets.specs.PairWords.{pair_words, pairs_in}
use Rattle.pairs.specs.Page.{handed_out, says_done, ticket_after, page_of, output_after}
use Rattle.marks.specs.Back.{tagged, marks_of, document_of, same_rowb, same_rowsb, numberedb, check_table}
use Rattle.marks.specs.Mark.{open_after, strayb, deepb, mark_fault, unclosedb, fault_from, check_marks}
use Rattle.marks.specs.Outcome.{outcome_of, number_outcome, number_output, table_marks, unnumber_outcome, unnumber_output, nodes_with, picked_words, pick_outcome, pick_output}
use Rattle.marks.specs.Table.{close_at, end_of, rows_from, table_of, row_words, table_words, rows, row_in, row_fault}
use Rattle.forest.specs.Linked.{links_in, linked_of, links_output}
use Rattle.forest.specs.Links.{up_to, first_of, node_in, indices, innermostb, parent_of, child_of, siblingb, next_of, link_of, links_of, link_words}
use Rattle.linked.specs.Check.{linkedb, check_links}
use Rattle.linked.specs.Following.{answer_with, output_with}
use Rattle.linked.specs.Page.{unlinkedb, linked_page, linked_output}
use Rattle.trees.specs.Tree.{labels, list_of, tree_words}
use Rattle.readings.specs.Reading.{withinb, decode}
use Rattle.readings.specs.Sample.{sampled, pairedb, in_zone, present}
use Rattle.ranges.specs.Range.{unbeaten, low_of, high_of, range_of, zone_range}
use Rattle.sheets.specs.Hundredths.{missingb, faulty_wordb}
use Rattle.sheets.specs.Sheet.{lab_samples, inside_zone, sum_of, subtotal_over, subtotal_words, sheet_subtotals, sheet_in, matchedb, check_sheet, sheet_of, sheet_output}
use Rattle.numbers.specs.Little.{little, bytes_of, numbers, number_at}
use Rattle.numbers.specs.Part.{part_of}
use Rattle.contents.specs.Contents.{entries, entry_numbers, lists_in, entries_in, entry_at, contents_of, contents_end, ascendb, laidb, brokenb, contents_fault_up_to}
use Rattle.books.specs.Book.{body_of, nodes_of, check_bodies, check_parts, book_verdict_up_to, check_book_up_to}
use Rattle.books.specs.Find.{tag_at, has_tag, tag_entry, tag_body}
use Rattle.writing.specs.Wanted.{wanted, ragged_entries, laid_out, contents_for, bodies_for, size_for, wanted_fault_up_to, book_numbers, book_bytes}
use Rattle.writing.specs.WriteCall.{bytes_for, check_wanted_up_to, written_of_up_to, written_output_up_to}
use Rattle.joins.specs.Join.{tag_words, thereb}
use Rattle.ticket_words.specs.Page.{shown_page}
use Rattle.ticket_words.specs.Words.{relation_of, order_of, place_of, ticket_of, ticket_back}
use Rattle.questions.specs.Question.{questions_in, check_questions}
use Rattle.questions.specs.Ask.{find_lists_up_to, page_to_up_to, output_to_up_to, words_taken_up_to, pages_to_up_to, output_after_all_up_to, refused_pages, padded, ask_of_up_to, ask_output_up_to}
use Rattle.laws.proofs.Equal.{equal_read}
use Rattle.laws.proofs.Tests.{and_read}
use Rattle.figures.specs.Figures.{Figure, figures, heldb}

-- Rows that pass the test have found what is stated.
held : (rows : List Figure) → heldb rows ≡ true → All (λ r. r.found ≡ r.stated) rows
unfolding heldb
held [] h = tt
held (r ∷ rows) h = let p = and_read (equalb r.found r.stated) h in (equal_read r.found r.stated p.0, held rows p.1)

-- The table passes the test.
computed : heldb figures ≡ true
unfolding figures equalb heldb check_words word_fault raggedb longb nodes check_nodes check_from fault levelb spanb orderb crossb depthb any
    endsb insideb afterb openb check_two refusedb jointb oddsb agreeb nestedb apartb sameb keep deeperb directlyb words_of aboveb pastb remains
    handed doneb reached words_in written relatedb key_of leaders followers pair_of every_pair listing pair_words pairs_in handed_out says_done
    ticket_after page_of output_after flat_map answer_of if_taken output_of tagged marks_of document_of same_rowb same_rowsb numberedb check_table
    open_after strayb deepb mark_fault unclosedb fault_from check_marks outcome_of number_outcome number_output table_marks unnumber_outcome
    unnumber_output nodes_with picked_words pick_outcome pick_output close_at end_of rows_from table_of row_words table_words rows row_in row_fault
    links_in linked_of links_output up_to first_of node_in indices innermostb parent_of child_of siblingb next_of link_of links_of link_words
    linkedb check_links answer_with output_with unlinkedb linked_page linked_output
    labels list_of tree_words of_int of_bits to_bits div lt node_at first_at withinb decode sampled pairedb in_zone present unbeaten low_of high_of range_of zone_range
    missingb faulty_wordb lab_samples inside_zone sum_of subtotal_over subtotal_words sheet_subtotals sheet_in matchedb check_sheet sheet_of sheet_output
    little bytes_of numbers number_at part_of entries entry_numbers lists_in entries_in entry_at contents_of contents_end ascendb laidb brokenb
    contents_fault_up_to body_of nodes_of check_bodies check_parts book_verdict_up_to check_book_up_to tag_at has_tag tag_entry tag_body wanted ragged_entries laid_out contents_for
    bodies_for size_for wanted_fault_up_to book_numbers book_bytes check_wanted_up_to written_of_up_to written_output_up_to
    bytes_for tag_words thereb shown_page relation_of order_of place_of ticket_of ticket_back questions_in check_questions find_lists_up_to page_to_up_to output_to_up_to words_taken_up_to
    pages_to_up_to output_after_all_up_to refused_pages padded ask_of_up_to ask_output_up_to
computed = refl

-- Each row's numbers are those that docs/SCOPE.md states.
pub figures_hold : All (λ r. r.found ≡ r.stated) figures
figures_hold = held figures computed
