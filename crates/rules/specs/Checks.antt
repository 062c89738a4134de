-- docs/SCOPE.md, "Answer numbers": the answers for one list, for two and for a book, over any rule
-- of what is inside. They are the words of `lists` and `books` with the rule for `insideb`.
use Rattle.std.specs.Prelude.{ℕ, suc, Bool, cond, not, ◌&&◌, ◌||◌, List, [], ◌∷◌, map, ltb, eqb}
use Rattle.answers.specs.Answer.{TAKEN, LEVEL, SPAN, ORDER, CROSS, DEPTH, JOINT}
use Rattle.answers.specs.declared.verdict.Verdict.{Verdict}
use Rattle.answers.specs.Verdict.{ANCESTORS, DESCENDANTS, verdict, taken, refusedb, in_list}
use Rattle.laws.specs.Choose.{any}
use Rattle.nodes.specs.declared.node.Node.{Node}
use Rattle.nodes.specs.Node.{apartb, openb, sameb}
use Rattle.nodes.specs.Words.{nodes}
use Rattle.lists.specs.Check.{word_fault}
use Rattle.lists.specs.Fault.{levelb, spanb, orderb}
use Rattle.contents.specs.Contents.{contents_of, contents_fault}
use Rattle.books.specs.Book.{nodes_of}
use Rattle.rules.specs.Rule.{Rule}

module _ (inside : Rule) where
  -- CROSS: an earlier node is still open at this one, which isn't inside it.
  unfoldable pub cross_by : List Node → Node → Bool
  cross_by before n = any (λ e. openb n e && not (inside n e)) before

  -- DEPTH: an earlier node contains this one, but its level isn't lower.
  unfoldable pub depth_by : List Node → Node → Bool
  depth_by before n = any (λ e. inside n e && not (ltb e.level n.level)) before

  -- The first fault of a node, given the nodes before it, or TAKEN where there is none.
  unfoldable pub fault_by : List Node → Node → ℕ
  fault_by before n =
      cond (levelb n) LEVEL
      (cond (spanb n) SPAN
      (cond (orderb before n) ORDER
      (cond (cross_by before n) CROSS
      (cond (depth_by before n) DEPTH TAKEN))))

  -- The verdict on the nodes left, given those already passed.
  unfoldable pub check_from_by : List Node → ℕ → List Node → Verdict
  check_from_by before index [] = taken
  check_from_by before index (n ∷ later) =
      cond (eqb (fault_by before n) TAKEN) (check_from_by (n ∷ before) (suc index) later) (verdict (fault_by before n) ANCESTORS index)

  -- The verdict on a list of nodes, and on a list of words.
  unfoldable pub check_nodes_by : List Node → Verdict
  check_nodes_by ns = check_from_by [] 0 ns

  unfoldable pub check_words_by : List ℕ → Verdict
  check_words_by words = cond (eqb (word_fault words) TAKEN) (check_nodes_by (nodes words)) (verdict (word_fault words) ANCESTORS 0)

  -- y is inside x, and its level is higher.
  unfoldable pub nested_by : Node → Node → Bool
  nested_by y x = inside y x && ltb x.level y.level

  -- x and y are of one document, and neither identical, nor apart, nor nested one in the other.
  unfoldable pub odds_by : Node → Node → Bool
  odds_by x y = eqb x.document y.document && not (sameb x y || (apartb x y || (nested_by x y || nested_by y x)))

  -- The verdict on two lists: each list's own, then JOINT.
  unfoldable pub check_two_by : List ℕ → List ℕ → Verdict
  check_two_by ancestors descendants =
      cond (refusedb (check_words_by ancestors)) (in_list ANCESTORS (check_words_by ancestors))
      (cond (refusedb (check_words_by descendants)) (in_list DESCENDANTS (check_words_by descendants))
      (cond (any (λ x. any (λ y. odds_by x y) (nodes descendants)) (nodes ancestors)) (verdict JOINT ANCESTORS 0) taken))

  -- The verdict on the bodies of a book, and on a book: the contents first, then the bodies.
  unfoldable pub check_bodies_by : ℕ → List (List Node) → Verdict
  check_bodies_by list [] = taken
  check_bodies_by list (ns ∷ later) = cond (refusedb (check_nodes_by ns)) (in_list list (check_nodes_by ns)) (check_bodies_by (suc list) later)

  unfoldable pub book_verdict_by : List ℕ → Verdict
  book_verdict_by book =
      cond (eqb (contents_fault book) TAKEN) (check_bodies_by 0 (map (nodes_of book) (contents_of book))) (verdict (contents_fault book) ANCESTORS 0)
