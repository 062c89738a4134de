-- docs/SCOPE.md, "Nodes and lists": how two nodes lie to one another.
use Rattle.std.specs.Prelude.{Bool, ◌&&◌, ◌||◌, ℕ, ◌+◌, ltb, leb, eqb}
use Rattle.nodes.specs.declared.node.Node.{Node}

-- The greatest level.
abbrev pub MOST_LEVELS : ℕ
MOST_LEVELS = 64

-- y ends within x: no later than x does.
unfoldable pub endsb : Node → Node → Bool
endsb y x = leb y.end x.end

-- y is inside x: in the same document, y starts after x starts and ends no later than x ends.
unfoldable pub insideb : Node → Node → Bool
insideb y x = eqb y.document x.document && (ltb x.start y.start && endsb y x)

-- y is one level deeper than x.
unfoldable pub deeperb : Node → Node → Bool
deeperb y x = eqb y.level (x.level + 1)

-- y is directly inside x: it is inside, and one level deeper.
unfoldable pub directlyb : Node → Node → Bool
directlyb y x = insideb y x && deeperb y x

-- x and y, of one document, are apart: one ends before the other starts.
unfoldable pub apartb : Node → Node → Bool
apartb x y = ltb x.end y.start || ltb y.end x.start

-- y stands after x: in a later document, or later in the same one.
unfoldable pub afterb : Node → Node → Bool
afterb y x = ltb x.document y.document || (eqb y.document x.document && ltb x.start y.start)

-- e is open at n: both are of one document, and e doesn't end before n starts.
unfoldable pub openb : Node → Node → Bool
openb n e = eqb e.document n.document && leb n.start e.end

-- x and y are identical in all four words.
unfoldable pub sameb : Node → Node → Bool
sameb x y = eqb x.document y.document && (eqb x.start y.start && (eqb x.end y.end && eqb x.level y.level))
