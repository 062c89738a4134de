-- Why it holds: A body is checked node by node, and the contents settle its length. So a book draws
-- CONTENTS or a node's own answer, or is taken.
-- What would break it: RAGGED or LONG drawn by a body would be caught here.
use mathlib.Core.Path.{◌≡◌, refl}
use mathlib.Core.Logic.{◌⊎◌, inl, inr}
use mathlib.Core.Bool.{Bool, cond}
use mathlib.Core.List.{List, [], ◌∷◌, map}
use Prim.Native.Nat.{ℕ, suc, ◌≤◌}
use native.Mathlib.Omega.{arith}
use lib.Dec.{eqb}
use lib.ListN.{length}
use borrow.Author.Tests.{eqb-true, eqb-false}
use Rattle.nodes.specs.declared.node.Node.{Node}
use Rattle.answers.specs.Answer.{TAKEN, RAGGED, LONG, LEVEL, DEPTH, CONTENTS}
use Rattle.laws.proofs.Tests.{either, chosen}
use Rattle.contents.specs.Contents.{MOST_LISTS, lists_in, contents_of, brokenb, contents_fault_up_to, contents_fault}
use Rattle.answers.specs.declared.verdict.Verdict.{Verdict}
use Rattle.lists.specs.Check.{check_from, check_nodes}
use Rattle.lists.specs.Fault.{levelb, spanb, orderb, crossb, depthb, fault}
use Rattle.answers.specs.Verdict.{refusedb}
use Rattle.books.specs.Book.{nodes_of, check_bodies, check_parts, book_verdict_up_to, book_verdict}

-- TAKEN, or an answer that a node draws.
abbrev pub ByNode : ℕ → Type 0
ByNode a = (a ≡ TAKEN) ⊎ ((LEVEL ≤ a) × (a ≤ DEPTH))

node_draws : (before : List Node) (n : Node) → ByNode (fault before n)
unfolding fault
node_draws before n =
    chosen ByNode (levelb n) (inr (omega arith, omega arith))
    (chosen ByNode (spanb n) (inr (omega arith, omega arith))
    (chosen ByNode (orderb before n) (inr (omega arith, omega arith))
    (chosen ByNode (crossb before n) (inr (omega arith, omega arith))
    (chosen ByNode (depthb before n) (inr (omega arith, omega arith)) (inl refl)))))

nodes_draw : (before : List Node) (index : ℕ) (ns : List Node) → ByNode (check_from before index ns).answer
unfolding check_from
nodes_draw before index [] = inl refl
nodes_draw before index (n ∷ ns) =
    chosen (λ (v : Verdict). ByNode v.answer) (eqb (fault before n) TAKEN) (nodes_draw (n ∷ before) (suc index) ns) (node_draws before n)

bodies_draw : (list : ℕ) (bodies : List (List Node)) → ByNode (check_bodies list bodies).answer
unfolding check_bodies check_nodes
bodies_draw list [] = inl refl
bodies_draw list (ns ∷ bodies) =
    chosen (λ (v : Verdict). ByNode v.answer) (refusedb (check_nodes ns)) (nodes_draw [] 0 ns) (bodies_draw (suc list) bodies)

-- One of these, or CONTENTS.
abbrev pub ByBook : ℕ → Type 0
ByBook a = ByNode a ⊎ (a ≡ CONTENTS)

pub parts_draw : (fault : ℕ) (bodies : List (List Node)) → ByBook fault → ByBook (check_parts fault bodies).answer
unfolding check_parts
parts_draw fault bodies h = chosen (λ (v : Verdict). ByBook v.answer) (eqb fault TAKEN) (inl (bodies_draw 0 bodies)) h

pub fault_draws : (broken : Bool) → ByBook (cond broken CONTENTS TAKEN)
fault_draws broken = chosen ByBook broken (inr refl) (inl (inl refl))

pub book_draws : (book : List ℕ) → ByBook (book_verdict book).answer
unfolding book_verdict_up_to contents_fault_up_to
book_draws book =
    parts_draw (contents_fault book) (map (nodes_of book) (contents_of book)) (fault_draws (brokenb MOST_LISTS (lists_in book) (contents_of book) (length book)))

-- None of these lies between TAKEN and LEVEL, where RAGGED and LONG lie.
pub from_level : (a : ℕ) → ByBook a → 1 ≤ a → LEVEL ≤ a
from_level a h l = elim h [ inl p ↦ elim p [ inl q ↦ omega arith | inr q ↦ q.0 ] | inr p ↦ omega arith ]

pub book_never_ragged : (book : List ℕ) → (book_verdict book).answer ≡ RAGGED → ⊥
book_never_ragged book h = let l = from_level (book_verdict book).answer (book_draws book) (omega arith) in omega arith

pub book_never_long : (book : List ℕ) → (book_verdict book).answer ≡ LONG → ⊥
book_never_long book h = let l = from_level (book_verdict book).answer (book_draws book) (omega arith) in omega arith

-- What is taken has no fault before its bodies.
pub parts_faultless : (fault : ℕ) (bodies : List (List Node)) → (check_parts fault bodies).answer ≡ TAKEN → fault ≡ TAKEN
unfolding check_parts
parts_faultless fault bodies t =
    elim (either (eqb fault TAKEN)) [ inl h ↦ eqb-true fault TAKEN h | inr h ↦ absurd (eqb-false fault TAKEN h (rw h at t)) ]
