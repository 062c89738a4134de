-- A rule of what is inside, and the stricter one, by which no node ends where one around it ends.
use Rattle.std.specs.Prelude.{Bool, ◌&&◌, ltb, eqb}
use Rattle.nodes.specs.declared.node.Node.{Node}

-- A rule says of nodes y and x whether y is inside x.
abbrev pub Rule : Type 0
Rule = Node → Node → Bool

-- y is strictly inside x: in the same document, y starts after x starts and ends before x ends.
unfoldable pub strictb : Rule
strictb y x = eqb y.document x.document && (ltb x.start y.start && ltb y.end x.end)
