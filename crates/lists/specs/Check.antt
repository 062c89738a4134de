-- docs/SCOPE.md, "Answer numbers": the answer for one list.
use Rattle.std.specs.Prelude.{ℕ, suc, ◌%◌, Bool, cond, not, List, [], ◌∷◌, ltb, eqb, length}
use Rattle.nodes.specs.declared.node.Node.{Node}
use Rattle.answers.specs.Answer.{TAKEN, RAGGED, LONG}
use Rattle.nodes.specs.Words.{NODE_WORDS, MOST_NODES, nodes, count}
use Rattle.numbers.specs.Little.{NUMBER_BYTES, numbers}
use Rattle.answers.specs.declared.verdict.Verdict.{Verdict}
use Rattle.lists.specs.Fault.{fault}
use Rattle.answers.specs.Verdict.{ANCESTORS, verdict, taken}

-- The verdict on the nodes left: the first fault, with the node's index, or TAKEN where there is
-- none; `before` holds the nodes already passed, the last one first.
unfoldable pub check_from : List Node → ℕ → List Node → Verdict
check_from before index [] = taken
check_from before index (n ∷ later) =
    cond (eqb (fault before n) TAKEN) (check_from (n ∷ before) (suc index) later) (verdict (fault before n) ANCESTORS index)

-- The verdict on a list of nodes.
unfoldable pub check_nodes : List Node → Verdict
check_nodes ns = check_from [] 0 ns

-- RAGGED: the words don't make whole nodes.
unfoldable pub raggedb : List ℕ → Bool
raggedb words = not (eqb (length words % NODE_WORDS) 0)

-- LONG: more nodes than 4,096.
unfoldable pub longb : List ℕ → Bool
longb words = ltb MOST_NODES (count words)

-- The fault of the words, whatever their nodes are: RAGGED, LONG, or TAKEN where there is none.
unfoldable pub word_fault : List ℕ → ℕ
word_fault words = cond (raggedb words) RAGGED (cond (longb words) LONG TAKEN)

-- The verdict on a list of words.
unfoldable pub check_words : List ℕ → Verdict
check_words words = cond (eqb (word_fault words) TAKEN) (check_nodes (nodes words)) (verdict (word_fault words) ANCESTORS 0)

-- The verdict on a list that lies in bytes: the one on its words, or RAGGED where the bytes don't
-- make whole words.
unfoldable pub check_bytes : List ℕ → Verdict
check_bytes bytes = cond (eqb (length bytes % NUMBER_BYTES) 0) (check_words (numbers bytes)) (verdict RAGGED ANCESTORS 0)
