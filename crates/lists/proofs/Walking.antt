-- Why it holds: At each place of the walk, checking the rest after the nodes before gives the whole
-- check's answer. So the walk's last answer is the whole check's.
-- What would break it: A step that passed a faulty node, or named another index, would be caught at
-- `walk_on` or `walk_stop`.
use mathlib.Core.Path.{◌≡◌, refl, sym, ap, ◌∙◌, subst}
use mathlib.Core.Logic.{inl, inr}
use mathlib.Core.Bool.{true, not}
use mathlib.Core.List.{List, [], ◌∷◌}
use Prim.Native.Nat.{ℕ, ◌+◌, zero-le}
use native.Mathlib.Omega.{arith}
use lib.Dec.{ltb}
use borrow.Author.Tests.{ltb-true, ltb-false}
use Rattle.answers.specs.Answer.{TAKEN}
use Rattle.std.specs.Prelude.{Result, Ok, Err}
use Rattle.answers.specs.declared.refusal.Fault.{Fault}
use Rattle.answers.specs.declared.verdict.Verdict.{Verdict}
use Rattle.answers.specs.Refusal.{verdict_of as fault_verdict}
use Rattle.answers.specs.Verdict.{ANCESTORS, verdict, taken}
use Rattle.laws.proofs.Tests.{either, not_none}
use Rattle.nodes.specs.declared.node.Node.{Node}
use Rattle.lists.specs.declared.walk.ListPlace.{ListPlace}
use Rattle.lists.specs.Check.{check_from, check_nodes}
use Rattle.lists.specs.Fault.{levelb, spanb, orderb, fault}
use Rattle.lists.specs.Step.{verdict_of}
use Rattle.lists.specs.Private.Open.{Laid, Holds, Held}
use Rattle.lists.specs.Private.Stepping.{first_place, SteppedPast}
use Rattle.lists.specs.Private.Walk.{nextb, Kept, step_fault}
use Rattle.lists.proofs.Faults.{skip}
use Rattle.lists.proofs.Keeping.{next_there, next_beyond, next_from, fault_told, step_told, kept_none, kept_next, goes_past, stops_at}

-- A walk at a place: the open nodes lie on the stack, and `rest` is still to come. `whole` is what
-- the check of all nodes says. A node is in order exactly where it comes next.
pub record Walk (place : ListPlace) (stack : List ℕ) (rest : List Node) (whole : Verdict) : Type 0 where
  pub chain : List Node
  pub before : List Node
  pub holds : Holds place.document place.from place.top stack chain
  pub kept : Kept before chain place.document place.from
  pub last : (n : Node) → orderb before n ≡ not (nextb place.document place.from n)
  pub same : check_from before place.index rest ≡ whole

-- Every node comes next at the first place.
first_next : (n : Node) → nextb 0 0 n ≡ true
first_next n =
    elim (either (ltb 0 n.document)) [
      | inl l ↦ next_beyond 0 0 n (ltb-true 0 n.document l)
      | inr l ↦ let h = ltb-false 0 n.document l in next_there 0 0 n (omega arith) zero-le
    ]

pub walk_start : (ns : List Node) (stack : List ℕ) (place : ListPlace) → place ≡ first_place → Laid [] 0 stack → Walk place stack ns (check_nodes ns)
unfolding check_nodes orderb
walk_start ns stack place q h =
    subst (λ (p : ListPlace). Walk p stack ns (check_nodes ns)) (sym q)
    (record {
      chain = [];
      before = [];
      holds = record { linked = tt; within = tt; laid = h; fits = zero-le };
      kept = kept_none 0 0;
      last = λ n. sym (ap not (first_next n));
      same = refl;
    })

-- The same walk, with an equal list of nodes as its rest.
pub walk_as : {place : ListPlace} {stack : List ℕ} {ns ms : List Node} {whole : Verdict} → ns ≡ ms → Walk place stack ns whole → Walk place stack ms whole
walk_as {place} {stack} {whole = whole} e w = subst (λ rest. Walk place stack rest whole) e w

-- At the end nothing was wrong.
pub walk_end : {place : ListPlace} {stack : List ℕ} {whole : Verdict} → Walk place stack [] whole → taken ≡ whole
unfolding check_from
walk_end w = w.same

module _ {place : ListPlace} {stack : List ℕ} {n : Node} {rest : List Node} {whole : Verdict} (w : Walk place stack (n ∷ rest) whole) where
  -- What is wrong at n, given all nodes before, is what the step tells.
  told : fault w.before n ≡ step_fault place.document place.from w.chain n
  unfolding fault step_fault
  told =
      elim (either (nextb place.document place.from n)) [
        | inl h ↦ fault_told w.before w.chain place.document place.from n w.kept h
            ∙ sym (step_told place.document place.from w.chain n h)
        | inr h ↦ rw (w.last n, h) refl
      ]

  -- A node at which nothing is wrong comes next.
  comes : step_fault place.document place.from w.chain n ≡ TAKEN → nextb place.document place.from n ≡ true
  unfolding step_fault
  comes h = not_none _ ((skip (not (nextb place.document place.from n)) _ _).0 ((skip (spanb n) _ _).0 ((skip (levelb n) _ _).0 h).1).1).0

  -- The check of the rest goes past such a node.
  passed_on : (words : List ℕ) (p : ListPlace) → SteppedPast place w.chain n (Ok p) words → Walk p words rest whole
  unfolding orderb
  passed_on words p h =
      let next = comes h.0 in
      let clean = sym (step_told place.document place.from w.chain n next) ∙ h.0 in
      subst (λ (q : ListPlace). Walk q words rest whole) (sym h.1)
      (record {
        chain = _;
        before = n ∷ w.before;
        holds = h.2;
        kept = kept_next w.before w.chain _ _ w.kept w.holds.within n next clean;
        last = λ m. ap not (sym (next_from n m));
        same = goes_past w.before place.index n rest whole w.same (told ∙ h.0);
      })

  -- And it ends at the first node at which something is wrong.
  stopped : (words : List ℕ) (f : Fault) → SteppedPast place w.chain n (Err f) words → fault_verdict f ≡ whole
  stopped words f h =
      h.1 ∙ ap (λ (f : ℕ). verdict f ANCESTORS place.index) (sym told)
      ∙ stops_at w.before place.index n rest whole w.same (λ z. h.0 (sym told ∙ z))

  -- A place reached is the walk one node further; a refusal is the whole check's answer.
  module _ (words : List ℕ) (r : Result ListPlace Fault)
      (h : (s : List Node) → Holds place.document place.from place.top stack s → SteppedPast place s n r words) where
    stepped : (step : Result ListPlace Fault) → r ≡ step → SteppedPast place w.chain n step words
    stepped step e = subst (λ (x : Result ListPlace Fault). SteppedPast place w.chain n x words) e (h w.chain w.holds)

    pub walk_on : (p : ListPlace) → r ≡ Ok p → (p.index ≡ place.index + 1) × Walk p words rest whole
    walk_on p e = let g = stepped (Ok p) e in (ap (λ (q : ListPlace). q.index) g.1, passed_on words p g)

    pub walk_stop : (f : Fault) → r ≡ Err f → verdict_of r ≡ whole
    walk_stop f e = ap verdict_of e ∙ stopped words f (stepped (Err f) e)

-- Whatever nodes come, some chain lies on the stack: an empty one before the first node,
pub held_start : (stack : List ℕ) (place : ListPlace) → place ≡ first_place → Laid [] 0 stack → Held place.document place.from place.top stack
held_start stack place q h =
    subst (λ (p : ListPlace). Held p.document p.from p.top stack) (sym q)
    (record { chain = []; holds = record { linked = tt; within = tt; laid = h; fits = zero-le } })

-- and one more after each step.
pub held_on : (place : ListPlace) (stack : List ℕ) (n : Node) (words : List ℕ) (r : Result ListPlace Fault)
    → Held place.document place.from place.top stack
    → ((s : List Node) → Holds place.document place.from place.top stack s → SteppedPast place s n r words)
    → (p : ListPlace) → r ≡ Ok p → (p.index ≡ place.index + 1) × Held p.document p.from p.top words
held_on place stack n words r k h p e =
    let g : SteppedPast place k.chain n (Ok p) words = subst (λ (x : Result ListPlace Fault). SteppedPast place k.chain n x words) e (h k.chain k.holds) in
    (ap (λ (q : ListPlace). q.index) g.1, subst (λ (q : ListPlace). Held q.document q.from q.top words) (sym g.1) (record { chain = _; holds = g.2 }))
