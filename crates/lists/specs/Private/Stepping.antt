-- What a step past a node answers, for the contracts of private functions. No public contract cites
-- this file.
use Rattle.std.specs.Prelude.{ℕ, ◌+◌, ◌<◌, ◌≡◌, List, ◌∷◌, length, drop, Result, Ok, Err}
use Rattle.nodes.specs.declared.node.Node.{Node}
use Rattle.answers.specs.Answer.{TAKEN}
use Rattle.answers.specs.declared.refusal.Fault.{Fault}
use Rattle.answers.specs.Refusal.{verdict_of}
use Rattle.answers.specs.Verdict.{ANCESTORS, verdict}
use Rattle.lists.specs.declared.walk.ListPlace.{ListPlace}
use Rattle.lists.specs.Private.Open.{Holds}
use Rattle.lists.specs.Private.Walk.{unended, head_fault, step_fault}

-- The place before the first node of a list, at which any node may come next.
abbrev pub first_place : ListPlace
first_place = record { index = 0; top = 0; document = 0; from = 0 }

-- The place after n: `index` nodes were passed, and n lies at word `top` of the stack.
abbrev pub place_after : Node → ℕ → ℕ → ListPlace
place_after n index top = record { index = index; top = top; document = n.document; from = n.start + 1 }

-- A step past n, at an index, where `wrong` is the fault at n. Where that is TAKEN, n lies on top
-- of the nodes left. Otherwise the step is a refusal with that fault.
abbrev pub Passed : ℕ → List Node → Node → ℕ → Result ListPlace Fault → List ℕ → Type 0
Passed wrong left n index (Ok reached) stack =
    (wrong ≡ TAKEN) × (reached ≡ place_after n (index + 1) reached.top) × Holds n.document (n.start + 1) reached.top stack (n ∷ left)
Passed wrong left n index (Err refusal) stack = (wrong ≡ TAKEN → ⊥) × (verdict_of refusal ≡ verdict wrong ANCESTORS index)

-- A step past n, from the place before it and the chain that was open there.
abbrev pub SteppedPast : ListPlace → List Node → Node → Result ListPlace Fault → List ℕ → Type 0
SteppedPast place s n step stack = Passed (step_fault place.document place.from s n) (unended n s) n place.index step stack

-- A step that puts n onto the nodes that are left.
abbrev pub SteppedOnto : List Node → Node → ℕ → Result ListPlace Fault → List ℕ → Type 0
SteppedOnto left n index step stack = Passed (head_fault left n) left n index step stack

-- What hands out the nodes ns: whatever it gives at an index is the node there.
abbrev pub HandsOut : (ℕ → Node → Type 0) → List Node → Type 0
HandsOut gives ns = (i : ℕ) (n : Node) → i < length ns → gives i n → drop i ns ≡ n ∷ drop (i + 1) ns
