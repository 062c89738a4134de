-- Why it holds: Any two rows of a numbered document are apart or lie one inside the other at a
-- deeper level. So the list of all their nodes is accepted. Picking leaves rows out and changes
-- none, so two tags' lists are parts of that list.
-- What would break it: Numbers that made a list CROSS or two lists JOINT would be caught here.
use mathlib.Core.Path.{◌≡◌, sym, subst, ap, ◌∙◌}
use mathlib.Core.Logic.{⊎_elim}
use mathlib.Core.List.{List, map}
use Prim.Native.Nat.{ℕ, ◌%◌}
use native.Mathlib.Nat.{le_of_lt}
use native.Mathlib.Omega.{arith}
use lib.Dec.{eqb}
use lib.ListN.{length, length-map}
use Rattle.answers.specs.Answer.{TAKEN}
use Rattle.nodes.specs.Words.{NODE_WORDS, nodes, words_of}
use Rattle.answers.specs.Output.{words_in}
use Rattle.laws.proofs.Choices.{all_map, all_mapped, every_two_map, every_two_mapped}
use Rattle.laws.specs.Choose.{Part}
use Rattle.laws.proofs.Parts.{kept_part, part_mapped}
use Rattle.nodes.proofs.NodeLaws.{inside_make, apart_ahead, after_start}
use Rattle.nodes.proofs.WordLaws.{nodes_of_words, length_words}
use Rattle.lists.specs.Check.{check_words}
use Rattle.lists.specs.Two.{check_two}
use Rattle.lists.proofs.Faults.{Sound}
use Rattle.lists.proofs.Leaving.{parts_two_taken}
use Rattle.lists.proofs.Taken.{Fine, nested_make, agree_apart, agree_nested, sound_taken}
use Rattle.marks.specs.declared.row.Row.{Row}
use Rattle.marks.specs.Mark.{check_marks}
use Rattle.marks.specs.Outcome.{nodes_with, picked_words}
use Rattle.marks.specs.Table.{rows, table_of, table_words}
use Rattle.marks.proofs.Contained.{table_made, table_settled}
use Rattle.marks.proofs.MarkLaws.{check_read}
use Rattle.marks.proofs.Numbered.{Made, Settled, few_rows}
use Rattle.marks.proofs.RowLaws.{rows_of_words}

settled_fine : (x y : Row) → Settled x y → Fine x.node y.node
settled_fine x y s = record {
  after = after_start y.node x.node s.document s.start;
  agree = λ d. ⊎_elim (λ p. agree_apart x.node y.node (apart_ahead x.node y.node p))
      (λ p. agree_nested x.node y.node (nested_make y.node x.node (inside_make y.node x.node s.document s.start (le_of_lt p.0)) p.1))
      s.ends;
}

module _ (document : ℕ) (marks : List ℕ) (taken : check_marks marks ≡ TAKEN) where
  -- The words of the nodes of all rows.
  abbrev every_node : List ℕ
  every_node = words_in words_of (map (λ r. r.node) (table_of document marks))

  every_taken : (check_words every_node).answer ≡ TAKEN
  unfolding table_of
  every_taken =
      let table = table_of document marks in
      let few = few_rows document 1 0 marks in
      let many = (check_read marks taken).0 in
      sound_taken (map (λ r. r.node) table) (omega (arith, length-map table (λ r. r.node)))
      (all_mapped (λ r. r.node) Sound table (all_map sound table (table_made document marks taken)))
      (every_two_mapped (λ r. r.node) Fine table (every_two_map settled_fine table (table_settled document marks taken)))
    where
      sound : (r : Row) → Made document 1 r → Sound r.node
      sound r m = record { lowest = m.lowest; highest = m.highest; span = m.span }

  module _ (tag : ℕ) where
    -- What picking a tag finds in the words that numbering wrote is a part of these nodes.
    picked_part : Part (nodes (picked_words tag (table_words document marks))) (nodes every_node)
    unfolding picked_words table_words nodes_with
    picked_part =
        let table = table_of document marks in
        subst (λ ns. Part ns (nodes every_node)) (sym (nodes_of_words _ ∙ ap (nodes_with tag) (rows_of_words table)))
        (subst (Part (nodes_with tag table)) (sym (nodes_of_words (map (λ r. r.node) table)))
        (part_mapped (λ r. r.node) (kept_part (λ r. eqb r.tag tag) table)))

    picked_whole : length (picked_words tag (table_words document marks)) % NODE_WORDS ≡ 0
    unfolding picked_words
    picked_whole = omega (arith, length_words (nodes_with tag (rows (table_words document marks))))

  -- The lists of any two tags of a numbered document are accepted together.
  pub tags_agree : (s t : ℕ) → (check_two (picked_words s (table_words document marks)) (picked_words t (table_words document marks))).answer ≡ TAKEN
  tags_agree s t =
      parts_two_taken every_node (picked_words s (table_words document marks)) (picked_words t (table_words document marks)) (picked_whole s) (picked_part s)
      (picked_whole t) (picked_part t) every_taken
