-- docs/SCOPE.md, "Answer numbers", row 8 and the paragraph below the table: the answer for two
-- lists.
use Rattle.std.specs.Prelude.{ℕ, Bool, cond, not, ◌&&◌, ◌||◌, List, ltb, eqb}
use Rattle.nodes.specs.declared.node.Node.{Node}
use Rattle.answers.specs.Answer.{JOINT}
use Rattle.laws.specs.Choose.{any}
use Rattle.nodes.specs.Node.{insideb, apartb, sameb}
use Rattle.nodes.specs.Words.{nodes}
use Rattle.answers.specs.declared.verdict.Verdict.{Verdict}
use Rattle.lists.specs.Check.{check_words}
use Rattle.answers.specs.Verdict.{ANCESTORS, DESCENDANTS, verdict, taken, refusedb, in_list}

-- y is nested in x: it is inside x, and its level is higher.
unfoldable pub nestedb : Node → Node → Bool
nestedb y x = insideb y x && ltb x.level y.level

-- x and y, of one document, agree: they are apart, or one is nested in the other.
unfoldable pub agreeb : Node → Node → Bool
agreeb x y = apartb x y || (nestedb x y || nestedb y x)

-- x and y are at odds: they are of one document, and neither identical in all four words nor in
-- agreement.
unfoldable pub oddsb : Node → Node → Bool
oddsb x y = eqb x.document y.document && not (sameb x y || agreeb x y)

-- JOINT: some node of one list and some node of the other are at odds.
unfoldable pub jointb : List Node → List Node → Bool
jointb xs ys = any (λ x. any (λ y. oddsb x y) ys) xs

-- The verdict on two lists: the ancestors' own fault first, then the descendants', then JOINT.
unfoldable pub check_two : List ℕ → List ℕ → Verdict
check_two ancestors descendants =
    cond (refusedb (check_words ancestors)) (in_list ANCESTORS (check_words ancestors))
    (cond (refusedb (check_words descendants)) (in_list DESCENDANTS (check_words descendants))
    (cond (jointb (nodes ancestors) (nodes descendants)) (verdict JOINT ANCESTORS 0) taken))
