-- What lies on the stack of open nodes, for the contracts of private functions: the end and the
-- level of each, the innermost on top. No public contract cites this file.
use Rattle.std.specs.Prelude.{ℕ, ◌+◌, ◌*◌, ◌-◌, ◌≤◌, ◌<◌, ◌≡◌, List, [], ◌∷◌, get_or}
use Rattle.nodes.specs.declared.node.Node.{Node}
use Rattle.laws.specs.Choose.{All}
use Rattle.nodes.specs.Node.{MOST_LEVELS}
use Rattle.lists.specs.Private.Walk.{Chain}

-- How many words an open node takes on the stack: its end and its level.
abbrev pub OPEN_WORDS : ℕ
OPEN_WORDS = 2

-- The greatest end that a node can have.
abbrev pub LAST_END : ℕ
LAST_END = 4294967295

-- The chain s lies on a stack, and its head at word `top`. Under the chain lies the bottom, which
-- ends as late as a node can and has level 0.
abbrev pub Laid : List Node → ℕ → List ℕ → Type 0
Laid [] top stack = (top ≡ 0) × (get_or stack 0 0 ≡ LAST_END) × (get_or stack 1 0 ≡ 0)
Laid (e ∷ s) top stack =
    (OPEN_WORDS ≤ top) × (get_or stack top 0 ≡ e.end) × (get_or stack (top + 1) 0 ≡ e.level) × Laid s (top - OPEN_WORDS) stack

-- A node of document d that starts before `from`.
abbrev pub Earlier : ℕ → ℕ → Node → Type 0
Earlier d from e = (e.document ≡ d) × (e.start < from)

-- The open nodes of document d are the chain s, which lies on the stack. All of them start before
-- `from`.
pub record Holds (d from top : ℕ) (stack : List ℕ) (s : List Node) : Type 0 where
  pub linked : Chain s
  pub within : All (Earlier d from) s
  pub laid : Laid s top stack
  pub fits : top ≤ OPEN_WORDS * MOST_LEVELS

-- Some chain of open nodes of document d, or an empty one, lies on the stack.
pub record Held (d from top : ℕ) (stack : List ℕ) : Type 0 where
  pub chain : List Node
  pub holds : Holds d from top stack chain
