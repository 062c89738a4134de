-- Why it holds: A chain lies on the stack two words a node, its head on top. So a push adds a head,
-- a pop takes one off, and the word at the top tells where the head ends.
-- What would break it: A word written one off would be caught at `laid_put`. One read one off, or a
-- bottom that ends too early, would be caught at `cross_told`, `depth_told` or `taken_told`.
use mathlib.Core.Path.{◌≡◌, refl, sym, ap, ◌∙◌, subst}
use mathlib.Core.Bool.{false}
use mathlib.Core.List.{List, [], ◌∷◌}
use Prim.Native.Nat.{ℕ, ◌+◌, ◌*◌, ◌-◌, ◌%◌, ◌≤◌, ◌<◌}
use native.Mathlib.Omega.{arith}
use lib.ListN.{length, get_or, set, length-set}
use lib.Seq.{get_or-set_same, get_or-set_other}
use borrow.Author.Tests.{lt-ltb, le-ltb, le-leb, lt-leb}
use Rattle.answers.specs.Answer.{TAKEN, CROSS, DEPTH}
use Rattle.nodes.specs.declared.node.Node.{Node}
use Rattle.nodes.specs.Node.{endsb, insideb, openb, MOST_LEVELS}
use Rattle.nodes.proofs.NodeLaws.{inside_by_end, open_read, open_make}
use Rattle.laws.specs.Choose.{All}
use Rattle.laws.proofs.Choices.{all_map}
use Rattle.laws.proofs.Tests.{not_so}
use Rattle.lists.specs.Private.Open.{OPEN_WORDS, LAST_END, Laid, Holds, Held}
use Rattle.lists.specs.Private.Walk.{unended, Upon, head_fault}
use Rattle.lists.proofs.WalkLaws.{chain_length, chain_left, all_left}

-- Where the head lies tells how many nodes there are.
laid_top : (s : List Node) (top : ℕ) (stack : List ℕ) → Laid s top stack → top ≡ 2 * length s
laid_top [] top stack h = h.0
laid_top (e ∷ s) top stack h = let p = laid_top s (top - 2) stack h.3 in let q = h.0 in omega arith

-- The bottom lies under every chain.
pub laid_bottom : (s : List Node) (top : ℕ) (stack : List ℕ) → Laid s top stack → Laid [] 0 stack
laid_bottom [] top stack h = (refl, h.1, h.2)
laid_bottom (e ∷ s) top stack h = laid_bottom s (top - 2) stack h.3

-- A word stored above the head leaves the chain as it lies.
laid_set : (s : List Node) (top : ℕ) (stack : List ℕ) (k v : ℕ) → top + 1 < k → Laid s top stack → Laid s top (set stack k v)
laid_set [] top stack k v l h = (
  h.0,
  get_or-set_other stack k 0 v 0 (omega arith) ∙ h.1,
  get_or-set_other stack k 1 v 0 (omega arith) ∙ h.2,
)
laid_set (e ∷ s) top stack k v l h = let two = h.0 in (
  h.0,
  get_or-set_other stack k top v 0 (omega arith) ∙ h.1,
  get_or-set_other stack k (top + 1) v 0 (omega arith) ∙ h.2,
  laid_set s (top - 2) stack k v (omega arith) h.3,
)

-- The end and the level of a node, stored above the head, make it the new head.
pub laid_put : (left : ℕ) (stack us : List ℕ) (n : Node) → left + 3 < length stack
    → us ≡ set (set stack (left + 2) n.end) (left + 2 + 1) n.level → (s : List Node) → Laid s left stack → Laid (n ∷ s) (left + 2) us
laid_put left stack us n room q s h =
    let one : List ℕ = set stack (left + 2) n.end in
    let back : left + 2 - 2 ≡ left = omega arith in
    subst (Laid (n ∷ s) (left + 2)) (sym q) (
      omega arith,
      get_or-set_other one (left + 2 + 1) (left + 2) n.level 0 (omega arith) ∙ get_or-set_same stack (left + 2) n.end 0 (omega arith),
      get_or-set_same one (left + 2 + 1) n.level 0 (omega (arith, length-set stack (left + 2) n.end)),
      subst (λ k. Laid s k (set one (left + 2 + 1) n.level)) (sym back)
          (laid_set s left one (left + 2 + 1) n.level (omega arith) (laid_set s left stack (left + 2) n.end (omega arith) h)),
    )

-- From word `left` down lies a chain of n's document, of which n leaves what it leaves of s.
pub record Peeled (n : Node) (s : List Node) (left : ℕ) (stack : List ℕ) : Type 0 where
  pub chain : List Node
  pub within : All (λ e. e.document ≡ n.document) chain
  pub laid : Laid chain left stack
  pub same : unended n chain ≡ unended n s

module _ (n : Node) (s : List Node) (left : ℕ) (stack : List ℕ) where
  pub peeled_start : All (λ e. e.document ≡ n.document) s → Laid s left stack → Peeled n s left stack
  peeled_start a h = record { chain = s; within = a; laid = h; same = refl }

  -- A head that ends before n starts is taken off. The bottom ends too late for that.
  peel : (c : List Node) → All (λ e. e.document ≡ n.document) c → Laid c left stack → unended n c ≡ unended n s
      → n.start ≤ LAST_END → get_or stack left 0 < n.start → Peeled n s (left - 2) stack
  unfolding unended
  peel [] a h q low l = let z : get_or stack left 0 ≡ LAST_END = ap (λ k. get_or stack k 0) h.0 ∙ h.1 in absurd (omega arith)
  peel (e ∷ c) a h q low l =
      let z = h.1 in
      let o : openb n e ≡ false = not_so (λ o. let r = (open_read n e o).reaches in omega arith) in
      record { chain = c; within = a.1; laid = h.3; same = rw o at q }

  pub peeled_on : n.start ≤ LAST_END → get_or stack left 0 < n.start → Peeled n s left stack → Peeled n s (left - 2) stack
  peeled_on low l p = peel p.chain p.within p.laid p.same low l

  -- Where the head ends at n's start or later, the whole chain is left.
  stays : (c : List Node) → All (λ e. e.document ≡ n.document) c → Laid c left stack → n.start ≤ get_or stack left 0 → unended n c ≡ c
  unfolding unended
  stays [] a h l = refl
  stays (e ∷ c) a h l = let q = h.1 in rw (open_make n e a.0 (omega arith))

  pub peeled_end : n.start ≤ get_or stack left 0 → Peeled n s left stack → Laid (unended n s) left stack
  peeled_end l p = subst (λ c. Laid c left stack) (sym (stays p.chain p.within p.laid l) ∙ p.same) p.laid

-- What is left of the open nodes at n, which comes next in their document.
pub holds_left : (d from top left : ℕ) (stack : List ℕ) (s : List Node) (n : Node) → n.document ≡ d → from ≤ n.start → left ≤ top
    → Holds d from top stack s → (All (λ e. e.document ≡ n.document) s → Laid s top stack → Laid (unended n s) left stack)
    → Holds d n.start left stack (unended n s)
holds_left d from top left stack s n q l u h g = record {
  linked = chain_left n s h.linked;
  within = all_map (λ e w. let b = w.1 in (w.0, omega arith)) (unended n s) (all_left _ n s h.within);
  laid = g (all_map (λ e w. w.0 ∙ sym q) s h.within) h.laid;
  fits = let f = h.fits in omega arith;
}

-- At the first node of a document nothing is open there.
pub holds_none : (d from top from' d' : ℕ) (stack : List ℕ) (s : List Node) → Holds d from top stack s → Holds d' from' 0 stack []
holds_none d from top from' d' stack s h = record { linked = tt; within = tt; laid = laid_bottom s top stack h.laid; fits = omega arith }

-- What a search for the nodes left asks of the stack.
pub held_asks : (d from top : ℕ) (stack : List ℕ) → Held d from top stack
    → (top % OPEN_WORDS ≡ 0) × (top ≤ OPEN_WORDS * MOST_LEVELS) × (get_or stack 0 0 ≡ LAST_END)
held_asks d from top stack h =
    let t = laid_top h.chain top stack h.holds.laid in
    (omega arith, h.holds.fits, (laid_bottom h.chain top stack h.holds.laid).1)

-- The head of the open nodes tells the fault at n, and the word at the top tells of the head.
module _ (d left : ℕ) (stack : List ℕ) (n : Node) (same : n.document ≡ d) where
  -- Of the head, which starts before n in its document, only the end decides whether n is inside.
  by_end : (e : Node) → (e.document ≡ d) × (e.start < n.start) → endsb n e ≡ insideb n e
  by_end e w = inside_by_end n e (same ∙ sym w.0) w.1

  pub cross_told : (s : List Node) → Holds d n.start left stack s → n.end ≤ LAST_END → get_or stack left 0 < n.end → head_fault s n ≡ CROSS
  unfolding head_fault endsb
  cross_told [] h most l = let q : get_or stack left 0 ≡ LAST_END = ap (λ k. get_or stack k 0) h.laid.0 ∙ h.laid.1 in absurd (omega arith)
  cross_told (e ∷ s) h most l = let q = h.laid.1 in rw (← by_end e h.within.0, lt-leb n.end e.end (omega arith)) refl

  module _ (within : n.end ≤ get_or stack left 0) where
    pub depth_told : (s : List Node) → Holds d n.start left stack s → 1 ≤ n.level → n.level ≤ get_or stack (left + 1) 0 → head_fault s n ≡ DEPTH
    unfolding head_fault endsb
    depth_told [] h low l = let q : get_or stack (left + 1) 0 ≡ 0 = ap (λ k. get_or stack (k + 1) 0) h.laid.0 ∙ h.laid.2 in absurd (omega arith)
    depth_told (e ∷ s) h low l =
        let q = h.laid.1 in let p = h.laid.2 in
        rw (← by_end e h.within.0, le-leb n.end e.end (omega arith), le-ltb e.level n.level (omega arith)) refl

    pub taken_told : (s : List Node) → Holds d n.start left stack s → get_or stack (left + 1) 0 < n.level → head_fault s n ≡ TAKEN
    unfolding head_fault endsb
    taken_told [] h l = refl
    taken_told (e ∷ s) h l =
        let q = h.laid.1 in let p = h.laid.2 in
        rw (← by_end e h.within.0, le-leb n.end e.end (omega arith), lt-ltb e.level n.level (omega arith)) refl

    -- So n lies on the head.
    pub upon_head : (s : List Node) → Holds d n.start left stack s → get_or stack (left + 1) 0 < n.level → Upon n s
    unfolding endsb
    upon_head [] h l = tt
    upon_head (e ∷ s) h l =
        let q = h.laid.1 in let p = h.laid.2 in
        (sym (by_end e h.within.0) ∙ le-leb n.end e.end (omega arith), omega arith)

  -- A chain is no longer than its head is deep, so below the greatest level there is room for n.
  pub room_told : (s : List Node) → Holds d n.start left stack s → get_or stack (left + 1) 0 < n.level → n.level ≤ MOST_LEVELS → left + 2 ≤ 2 * MOST_LEVELS
  room_told [] h l most = let q = h.laid.0 in omega arith
  room_told (e ∷ s) h l most =
      let q = h.laid.2 in let t = laid_top (e ∷ s) left stack h.laid in let c = chain_length e s h.linked in
      omega arith

  -- n becomes the head of the open nodes.
  pub holds_push : (s : List Node) (us : List ℕ) → Holds d n.start left stack s → 1 ≤ n.level → left + 2 ≤ 2 * MOST_LEVELS → Upon n s
      → Laid (n ∷ s) (left + 2) us → Holds n.document (n.start + 1) (left + 2) us (n ∷ s)
  holds_push s us h low room u g = record {
    linked = (low, u, h.linked);
    within = ((refl, omega arith), all_map (λ e w. let b = w.1 in (w.0 ∙ sym same, omega arith)) s h.within);
    laid = g;
    fits = room;
  }
