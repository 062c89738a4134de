-- docs/SCOPE.md, "Answer numbers", last paragraph: the part at the faulty node, and where it
-- lies.
use Rattle.std.specs.Prelude.{ℕ, ◌*◌, Bool, cond, ◌&&◌, List, [], leb, eqb, length, drop}
use Rattle.answers.specs.Answer.{LEVEL, DEPTH}
use Rattle.nodes.specs.Words.{NODE_WORDS}
use Rattle.numbers.specs.Little.{NUMBER_BYTES, NODE_BYTES}
use Rattle.numbers.specs.Part.{place_in}
use Rattle.answers.specs.declared.verdict.Verdict.{Verdict}
use Rattle.lists.specs.Two.{check_two}
use Rattle.answers.specs.Verdict.{DESCENDANTS}

-- Whether the answer is one of 3 to 7, which carry a node's index.
unfoldable pub showsb : Verdict → Bool
showsb v = leb LEVEL v.answer && leb v.answer DEPTH

-- The part that a verdict shows: from the faulty node to the end of the list that has it, or
-- nothing.
unfoldable pub part_at : Verdict → List ℕ → List ℕ → List ℕ
part_at v ancestors descendants =
    cond (showsb v) (drop (NODE_WORDS * v.index) (cond (eqb v.list DESCENDANTS) descendants ancestors)) []

-- The part that the check of these two lists shows.
unfoldable pub faulty_part : List ℕ → List ℕ → List ℕ
faulty_part ancestors descendants = part_at (check_two ancestors descendants) ancestors descendants

-- Where the part of a list from the node at `index` on lies, given where the list begins.
unfoldable pub place_from : ℕ × ℕ → List ℕ → ℕ → ℕ × ℕ
place_from start words index = place_in start (NUMBER_BYTES * length words) (NODE_BYTES * index)

-- Where the part that a verdict shows lies: at the faulty node, in the list that has it. Where no
-- node is at fault, it lies at the beginning of the ancestors.
unfoldable pub place_at : Verdict → ℕ × ℕ → ℕ × ℕ → List ℕ → List ℕ → ℕ × ℕ
place_at v of_ancestors of_descendants ancestors descendants =
    cond (showsb v)
    (cond (eqb v.list DESCENDANTS) (place_from of_descendants descendants v.index) (place_from of_ancestors ancestors v.index))
    of_ancestors

-- Where the part that the check of these two lists shows lies, given where each list begins.
unfoldable pub faulty_place : ℕ × ℕ → ℕ × ℕ → List ℕ → List ℕ → ℕ × ℕ
faulty_place of_ancestors of_descendants ancestors descendants =
    place_at (check_two ancestors descendants) of_ancestors of_descendants ancestors descendants
