-- What the walk along two lists keeps, for the contracts of private functions. No public contract
-- cites this file.
use Rattle.std.specs.Prelude.{ℕ, ◌+◌, ◌≤◌, ◌<◌, ◌≡◌, ◌⊎◌, false, List, [], ◌∷◌, length, drop, Option, None, Some}
use Rattle.nodes.specs.declared.node.Node.{Node}
use Rattle.answers.specs.Answer.{TAKEN}
use Rattle.answers.specs.declared.verdict.Verdict.{Verdict}
use Rattle.nodes.specs.Words.{NODE_WORDS, nodes}
use Rattle.lists.specs.Check.{check_from, check_nodes}
use Rattle.lists.specs.declared.both.RunPlace.{RunPlace}
use Rattle.lists.specs.declared.both.BothPlace.{BothPlace}
use Rattle.lists.specs.Private.Merge.{merge, Cut}
use Rattle.lists.specs.Private.Open.{Laid, Holds}
use Rattle.lists.specs.Private.Walk.{node_from, nextb, node_fault, unended, Kept}

-- Past every start of a document.
abbrev pub PAST : ℕ
PAST = 4294967296

-- `start` is where the next node of document d starts in a list that goes on at word `at`. It is
-- PAST where the list has no more nodes of d; then it ends there, or goes on with a later document.
abbrev pub Ahead : List ℕ → ℕ → ℕ → ℕ → Type 0
Ahead words at d start =
    ((start ≡ PAST) × (at < length words → d < (node_from words at).document))
    ⊎ ((at < length words) × (start < PAST) × ((node_from words at).document ≡ d) × ((node_from words at).start ≡ start))

-- The list goes on at word `at` with a node that isn't in order: it is of an earlier document than
-- d, or starts in d before `from`.
abbrev pub Disordered : List ℕ → ℕ → ℕ → ℕ → Type 0
Disordered words at d from = (at < length words) × (nextb d from (node_from words at) ≡ false)

-- What `reach` answers at word `at`. A place reached has the start of the list's next node in d, at
-- `from` or later, or PAST. Otherwise the node there isn't in order.
abbrev pub ReachedAt : List ℕ → ℕ → ℕ → ℕ → ℕ → Option RunPlace → Type 0
ReachedAt words at d from top (Some p) = (p.at ≡ at) × (p.top ≡ top) × (from ≤ p.start) × Ahead words at d p.start
ReachedAt words at d from top None = Disordered words at d from

-- A step past the node n at a place of a run. Where it reaches the next place, nothing is wrong at
-- n, which lies on top of the nodes left. Otherwise n has a fault, or the node after it isn't in
-- order.
abbrev pub PassedNext : List ℕ → ℕ → RunPlace → List Node → Option RunPlace → List ℕ → Type 0
PassedNext words d place s (Some p) stack =
    (node_fault s (node_from words place.at) ≡ TAKEN)
    × Holds d (place.start + 1) p.top stack (node_from words place.at ∷ unended (node_from words place.at) s)
    × ReachedAt words (place.at + NODE_WORDS) d (place.start + 1) p.top (Some p)
PassedNext words d place s None stack =
    (node_fault s (node_from words place.at) ≡ TAKEN → ⊥) ⊎ Disordered words (place.at + NODE_WORDS) d (place.start + 1)

-- A walk in document d, whose next nodes start at x and at y in the two lists. Its open nodes lie
-- on the stack, and the check of the rest says what the whole check says.
pub record Amid (d x y top : ℕ) (stack : List ℕ) (rest : List Node) (whole : Verdict) : Type 0 where
  pub chain : List Node
  pub before : List Node
  pub index : ℕ
  pub from : ℕ
  pub first_next : from ≤ x
  pub second_next : from ≤ y
  pub holds : Holds d from top stack chain
  pub kept : Kept before chain d from
  pub same : check_from before index rest ≡ whole

-- Nodes of document d that start before a limit come next in the merge, one after the other. What
-- is left of the merge is `rest at` where the list goes on at word `at`.
abbrev pub Draws : List ℕ → ℕ → ℕ → (ℕ → List Node) → Type 0
Draws words d limit rest =
    (at : ℕ) → at + 3 < length words → (node_from words at).document ≡ d → (node_from words at).start < limit
    → rest at ≡ node_from words at ∷ rest (at + NODE_WORDS)

-- How far a run has come: no node of the document starts before the limit there.
abbrev pub RunPast : RunPlace → ℕ → RunPlace → Type 0
RunPast begun limit p = (limit ≤ p.start) × (begun.at ≤ p.at) × (begun.start < limit → begun.at < p.at)

-- Where a run has come to in its list.
abbrev pub RunTo : List ℕ → ℕ → RunPlace → ℕ → Option RunPlace → Type 0
RunTo words d begun limit (Some p) =
    Cut p.at words × Ahead words p.at d p.start × RunPast begun limit p
RunTo words d begun limit None = Unit {0}

-- A run of one list takes each walk along both lists with it, whatever the other list is. For a
-- walk at the run's beginning, `gives` says what comes of it. It is known that the list is accepted
-- where the whole is.
abbrev pub TakesAlong : List ℕ → ℕ → ℕ → RunPlace → List ℕ → ((ℕ → List Node) → Verdict → Type 0) → Type 0
TakesAlong words d limit begun stack gives =
    (rest : ℕ → List Node) (whole : Verdict) → Draws words d limit rest
    → (whole.answer ≡ TAKEN → (check_nodes (nodes words)).answer ≡ TAKEN)
    → Amid d begun.start limit begun.top stack (rest begun.at) whole → gives rest whole

-- What a run gives: the walk at the place reached, or that the whole check has a fault.
abbrev pub Ran : ℕ → ℕ → (ℕ → List Node) → Verdict → Option RunPlace → List ℕ → Type 0
Ran d limit rest whole (Some p) stack = Amid d p.start limit p.top stack (rest p.at) whole
Ran d limit rest whole None stack = whole.answer ≡ TAKEN → ⊥

-- What `pass_same` answers. Where the next nodes start apart, the second list stays. Where they are
-- identical, it goes on after its own. At a fault they start together, and they differ or the
-- second list goes on with a node that isn't in order.
abbrev pub SameTo : List ℕ → RunPlace → List ℕ → RunPlace → ℕ → Option RunPlace → Type 0
SameTo first a second b d (Some p) =
    ((p ≡ b) × (a.start ≡ b.start → ⊥))
    ⊎ ((a.start ≡ b.start) × (node_from first a.at ≡ node_from second b.at)
    × ReachedAt second (b.at + NODE_WORDS) d (b.start + 1) b.top (Some p))
SameTo first a second b d None =
    (a.start ≡ b.start)
    × ((node_from first a.at ≡ node_from second b.at → ⊥) ⊎ Disordered second (b.at + NODE_WORDS) d (b.start + 1))

-- Document d is that of the first list's next node, or of the second's.
abbrev pub Upcoming : List ℕ → ℕ → List ℕ → ℕ → ℕ → Type 0
Upcoming first i second j d =
    ((i < length first) × ((node_from first i).document ≡ d)) ⊎ ((j < length second) × ((node_from second j).document ≡ d))

-- d is the document that comes next: neither list goes on with an earlier one.
pub record NextDocument (first : List ℕ) (i : ℕ) (second : List ℕ) (j d : ℕ) : Type 0 where
  pub upcoming : Upcoming first i second j d
  pub first_on : i < length first → d ≤ (node_from first i).document
  pub second_on : j < length second → d ≤ (node_from second j).document

-- What is left of the merge where the lists go on at words i and j, and what the check of the whole
-- merge says.
abbrev pub rest_of : List ℕ → ℕ → List ℕ → ℕ → List Node
rest_of first i second j = merge (nodes (drop i first)) (nodes (drop j second))

abbrev pub whole_of : List ℕ → List ℕ → Verdict
whole_of first second = check_nodes (merge (nodes first) (nodes second))

-- Between two documents, where the lists go on at words i and j. At the next document nothing is
-- open, and the check of the rest says what the whole check says.
pub record BetweenDocuments (first : List ℕ) (i : ℕ) (second : List ℕ) (j : ℕ) (stack : List ℕ) : Type 0 where
  pub first_cut : Cut i first
  pub second_cut : Cut j second
  pub bottom : Laid [] 0 stack
  pub before : List Node
  pub index : ℕ
  pub kept : (d : ℕ) → Upcoming first i second j d → Kept before [] d 0
  pub same : check_from before index (rest_of first i second j) ≡ whole_of first second

-- A document was passed, and the walk stands between two documents again. Otherwise the whole check
-- has a fault.
abbrev pub DocumentTo : List ℕ → List ℕ → BothPlace → Option BothPlace → List ℕ → Type 0
DocumentTo first second begun (Some p) stack =
    (begun.first + begun.second < p.first + p.second) × BetweenDocuments first p.first second p.second stack
DocumentTo first second begun None stack = (whole_of first second).answer ≡ TAKEN → ⊥
