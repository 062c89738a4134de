-- docs/SCOPE.md, "The containment forest": what the call answers and writes. The list's checks come
-- first, then ROOM.
use Rattle.std.specs.Prelude.{ℕ, List, length}
use Rattle.nodes.specs.Words.{nodes}
use Rattle.answers.specs.Output.{words_in, answer_of, if_taken, output_of}
use Rattle.lists.specs.Check.{check_words}
use Rattle.answers.specs.Verdict.{ANCESTORS, verdict}
use Rattle.answers.specs.declared.verdict.Counted.{Counted}
use Rattle.forest.specs.Links.{links_of, link_words}

-- The words of a list's links.
unfoldable pub links_in : List ℕ → List ℕ
links_in list = words_in link_words (links_of (nodes list))

module _ (list out : List ℕ) where
  -- The call answers the list's own refusal with the faulty node's index, then ROOM, or else TAKEN,
  -- both with index 0; it counts the nodes that got their links.
  unfoldable pub linked_of : Counted
  linked_of =
      let checked = check_words list in
      record {
        verdict = verdict (answer_of checked.answer (links_in list) out) ANCESTORS checked.index;
        count = if_taken checked.answer (links_in list) out (length (nodes list)) 0;
      }

  -- The call writes the words of the list's links; on refusal the output is as it was.
  unfoldable pub links_output : List ℕ
  links_output = output_of (check_words list).answer (links_in list) out
