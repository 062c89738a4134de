-- Why it holds: The open nodes lie one inside the other, so what the head of the chain tells holds
-- of all of them. A node that has ended is open at no later one.
-- What would break it: An open node lost, or an ended node kept in its place, would be caught at
-- `stands_pop` or `top_tells`.
use mathlib.Core.Path.{◌≡◌, refl, sym, ap, ◌∙◌}
use mathlib.Core.Logic.{◌⊎◌, inl, inr, ⊎_elim}
use mathlib.Core.Bool.{Bool, true, false, cond, not, ◌||◌}
use mathlib.Core.List.{List, [], ◌∷◌}
use Prim.Native.Nat.{ℕ, ◌+◌, ◌≤◌, ◌<◌}
use native.Mathlib.Numerals.{add-one}
use native.Mathlib.Omega.{arith}
use lib.Dec.{ltb, eqb}
use borrow.Author.Tests.{lt-ltb, ltb-true, leb-true, le-leb, eqb-true, eq-eqb, ne_eqb}
use Rattle.nodes.specs.declared.node.Node.{Node}
use Rattle.answers.specs.Answer.{TAKEN, CROSS, DEPTH}
use Rattle.answers.specs.declared.verdict.Verdict.{Verdict}
use Rattle.answers.specs.Verdict.{ANCESTORS, verdict}
use Rattle.laws.specs.Choose.{All, any, keep}
use Rattle.nodes.specs.Node.{insideb, openb, afterb}
use Rattle.laws.proofs.Choices.{all_map, none_any, any_same, keep_failed}
use Rattle.nodes.proofs.NodeLaws.{inside_trans, inside_open, after_document, after_start, open_read, shut_later}
use Rattle.laws.proofs.Tests.{either, never, not_so, and_read, and_make, or_read, or_left, or_right, not_read, not_none}
use Rattle.lists.specs.Check.{check_from}
use Rattle.lists.specs.Fault.{levelb, spanb, orderb, crossb, depthb, fault}
use Rattle.lists.specs.Private.Open.{Earlier}
use Rattle.lists.specs.Private.Walk.{Stands, unended, Upon, Chain, nextb, Kept, head_fault, node_fault, step_fault}
use Rattle.lists.proofs.Faults.{Sound, skip, level_sound, span_sound, crosses, rises}

module _ {P : Node → Type 0} {before s : List Node} where
  -- A chain that stands for the nodes before still does where fewer nodes may come next.
  pub stands_later : {Q : Node → Type 0} → ((n : Node) → Q n → P n) → Stands P before s → Stands Q before s
  stands_later f k = record { chain = k.chain; keeps = λ n q. k.keeps n (f n q) }

  -- A new node that lies inside the head becomes the head of the new chain.
  pub stands_push : (e : Node) → 1 ≤ e.level → Upon e s → Stands P before s → Stands P (e ∷ before) (e ∷ s)
  unfolding keep
  stands_push e l u k = record {
    chain = (l, u, k.chain);
    keeps = λ n p test only. ap (λ ns. cond (test e) (e ∷ ns) ns) (k.keeps n p test only);
  }

-- A head that is open at none of the nodes that may come is taken off.
stands_pop : {P : Node → Type 0} {before s : List Node} (e : Node) → ((n : Node) → P n → openb n e ≡ false) → Stands P before (e ∷ s)
    → Stands P before s
stands_pop e shut k = record {
  chain = k.chain.2;
  keeps = λ n p test only. k.keeps n p test only ∙ keep_failed test e _ (not_so (λ h. never (only e h) (shut n p)));
}

-- All nodes that ended before n are taken off, where they are open at none of the nodes that may
-- come.
pub stands_left : {P : Node → Type 0} {before : List Node} (n : Node)
    → ((m e : Node) → P m → openb n e ≡ false → afterb n e ≡ true → openb m e ≡ false)
    → (s : List Node) → All (λ e. afterb n e ≡ true) s → Stands P before s → Stands P before (unended n s)
unfolding unended
stands_left n shut [] a k = k
stands_left n shut (e ∷ s) a k =
    elim (either (openb n e))
    [ inl o ↦ rw o k | inr o ↦ rw o (stands_left n shut s a.1 (stands_pop e (λ m p. shut m e p o a.0) k)) ]

-- Everything under a head that contains n also contains n, and has a lower level than the head.
pub chain_contains : (n e : Node) (s : List Node) → Chain (e ∷ s) → insideb n e ≡ true → All (λ f. insideb n f ≡ true) s
chain_contains n e [] ch h = tt
chain_contains n e (f ∷ s) ch h = let p = inside_trans n e f h ch.1.0 in (p, chain_contains n f s ch.2 p)

pub chain_levels : (l : ℕ) (e : Node) (s : List Node) → Chain (e ∷ s) → e.level < l → All (λ f. f.level < l) s
chain_levels l e [] ch h = tt
chain_levels l e (f ∷ s) ch h = let u = ch.1.1 in let p : f.level < l = omega arith in (p, chain_levels l f s ch.2 p)

uncrossed : (n e : Node) → insideb n e ≡ true → crosses n e ≡ false
uncrossed n e h = not_so (λ c. never h (not_read _ (and_read (openb n e) c).1))

deeper : (n e : Node) → e.level < n.level → rises n e ≡ false
deeper n e h = not_so (λ c. never (lt-ltb _ _ h) (not_read _ (and_read (insideb n e) c).1))

-- The head of what is left tells what is wrong over the whole chain.
top_tells : (n : Node) → n.start ≤ n.end → (s : List Node) → Chain s
    → cond (crossb s n) CROSS (cond (depthb s n) DEPTH TAKEN) ≡ head_fault (unended n s) n
unfolding crossb depthb any unended head_fault
top_tells n span [] ch = refl
top_tells n span (e ∷ s) ch = elim (either (openb n e)) [ inl o ↦ opened o (either (insideb n e)) | inr o ↦ ended o (top_tells n span s ch.2) ]
  where
    opened : openb n e ≡ true → (insideb n e ≡ true) ⊎ (insideb n e ≡ false)
        → cond (crossb (e ∷ s) n) CROSS (cond (depthb (e ∷ s) n) DEPTH TAKEN) ≡ head_fault (unended n (e ∷ s)) n
    opened o (inr h) = rw (o, h) refl
    opened o (inl h) = rw (o, h, none_any (crosses n) s (all_map (λ f. uncrossed n f) s (chain_contains n e s ch h))) (levels (either (ltb e.level n.level)))
      where
        levels : (ltb e.level n.level ≡ true) ⊎ (ltb e.level n.level ≡ false)
            → cond (not (ltb e.level n.level) || any (rises n) s) DEPTH TAKEN ≡ cond (not (ltb e.level n.level)) DEPTH TAKEN
        levels (inl l) = rw (l, none_any (rises n) s (all_map (λ f. deeper n f) s (chain_levels n.level e s ch (ltb-true _ _ l)))) refl
        levels (inr l) = rw l refl

    ended : openb n e ≡ false → cond (crossb s n) CROSS (cond (depthb s n) DEPTH TAKEN) ≡ head_fault (unended n s) n
        → cond (crossb (e ∷ s) n) CROSS (cond (depthb (e ∷ s) n) DEPTH TAKEN) ≡ head_fault (unended n (e ∷ s)) n
    ended o h = rw (o, not_so (λ i. never (inside_open n e span i) o)) h

-- CROSS and DEPTH are tests that only open nodes pass, so they say the same of the chain.
same_crosses : (before s : List Node) (n : Node)
    → ((test : Node → Bool) → ((e : Node) → test e ≡ true → openb n e ≡ true) → keep test before ≡ keep test s) → crossb before n ≡ crossb s n
unfolding crossb
same_crosses before s n keeps = any_same (crosses n) before s (keeps (crosses n) (λ e h. (and_read (openb n e) h).0))

same_rises : (before s : List Node) (n : Node) → n.start ≤ n.end
    → ((test : Node → Bool) → ((e : Node) → test e ≡ true → openb n e ≡ true) → keep test before ≡ keep test s) → depthb before n ≡ depthb s n
unfolding depthb
same_rises before s n span keeps = any_same (rises n) before s (keeps (rises n) (λ e h. inside_open n e span (and_read (insideb n e) h).0))

-- n comes next in document d: what that says of its words.
next_read : (d from : ℕ) (n : Node) → nextb d from n ≡ true → (d < n.document) ⊎ ((n.document ≡ d) × (from ≤ n.start))
unfolding nextb
next_read d from n h =
    elim (or_read (ltb d n.document) h) [
      | inl l ↦ inl (ltb-true d n.document l)
      | inr r ↦ let p = and_read (eqb n.document d) r in inr (eqb-true n.document d p.0, leb-true from n.start p.1)
    ]

pub next_there : (d from : ℕ) (n : Node) → n.document ≡ d → from ≤ n.start → nextb d from n ≡ true
unfolding nextb
next_there d from n q l = or_right (ltb d n.document) (and_make (eq-eqb n.document d q) (le-leb from n.start l))

pub next_beyond : (d from : ℕ) (n : Node) → d < n.document → nextb d from n ≡ true
unfolding nextb
next_beyond d from n l = or_left _ (lt-ltb d n.document l)

-- A node of an earlier document doesn't come next, nor one that starts too early in the document.
module _ (d from : ℕ) (n : Node) where
  pub next_passed : n.document < d → nextb d from n ≡ false
  next_passed l = not_so (λ h. ⊎_elim (λ p. omega arith) (λ p. let q = p.0 in omega arith) (next_read d from n h))

  pub next_begun : n.document ≡ d → n.start < from → nextb d from n ≡ false
  next_begun q l = not_so (λ h. ⊎_elim (λ p. omega arith) (λ p. let s = p.1 in omega arith) (next_read d from n h))

-- A node that comes next stands after every open node.
next_after : (d from : ℕ) (n e : Node) → nextb d from n ≡ true → Earlier d from e → afterb n e ≡ true
next_after d from n e h w =
    let q = w.0 in let s = w.1 in
    elim (next_read d from n h) [ inl l ↦ after_document n e (omega arith) | inr p ↦ after_start n e (p.0 ∙ sym q) (omega (arith, p.1)) ]

-- After n, the nodes that come next are those that stand after it.
pub next_from : (n m : Node) → nextb n.document (n.start + 1) m ≡ afterb m n
unfolding nextb afterb
next_from n m = rw (add-one n.start) refl

-- What is wrong at a node that comes next, given all nodes before, is what the chain tells.
pub fault_told : (before s : List Node) (d from : ℕ) (n : Node) → Kept before s d from → nextb d from n ≡ true → fault before n ≡ node_fault s n
unfolding fault node_fault
fault_told before s d from n k h =
    elim (either (levelb n)) [
      | inl l ↦ rw l refl
      | inr l ↦ rw l (elim (either (spanb n)) [ inl p ↦ rw p refl | inr p ↦ rw (p, k.next n h, same_cross, same_depth p) (top_tells n (span p) s k.stands.chain) ])
    ]
  where
    span : spanb n ≡ false → n.start ≤ n.end
    span p = (span_sound n).0 p

    same_cross : crossb before n ≡ crossb s n
    same_cross = same_crosses before s n (k.stands.keeps n h)

    same_depth : spanb n ≡ false → depthb before n ≡ depthb s n
    same_depth p = same_rises before s n (span p) (k.stands.keeps n h)

-- For a node that comes next, ORDER is out of the question.
pub step_told : (d from : ℕ) (s : List Node) (n : Node) → nextb d from n ≡ true → step_fault d from s n ≡ node_fault s n
unfolding step_fault node_fault
step_told d from s n h = rw h refl

-- A node at which the head tells of nothing wrong lies inside the head and is deeper.
head_taken : (n : Node) (s : List Node) → head_fault s n ≡ TAKEN → Upon n s
unfolding head_fault
head_taken n [] h = tt
head_taken n (e ∷ s) h =
    let p = (skip (not (insideb n e)) _ _).0 h in
    let q = (skip (not (ltb e.level n.level)) _ _).0 p.1 in
    (not_none _ p.0, ltb-true _ _ (not_none _ q.0))

-- The chain tells of nothing wrong at n: n is sound, and the head of what is left tells of nothing
-- wrong.
pub clean : (s : List Node) (n : Node) → node_fault s n ≡ TAKEN → Sound n × (head_fault (unended n s) n ≡ TAKEN)
unfolding node_fault
clean s n h =
    let p = (skip (levelb n) _ _).0 h in
    let q = (skip (spanb n) _ _).0 p.1 in
    let l = (level_sound n).0 p.0 in
    (record { lowest = l.0; highest = l.1; span = (span_sound n).0 q.0 }, q.1)

module _ (before s : List Node) (d from : ℕ) (k : Kept before s d from) where
  module _ (w : All (Earlier d from) s) where
    -- A node after one that comes next comes next as well.
    onward : (n m : Node) → nextb d from n ≡ true → nextb n.document (n.start + 1) m ≡ true → nextb d from m ≡ true
    onward n m h g =
        elim (next_read d from n h) [
          | inl l ↦ elim (next_read n.document (n.start + 1) m g)
              [ inl p ↦ next_beyond d from m (omega arith) | inr p ↦ let q = p.0 in next_beyond d from m (omega arith) ]
          | inr r ↦ let z = r.0 in elim (next_read n.document (n.start + 1) m g) [
            | inl p ↦ next_beyond d from m (omega arith)
            | inr p ↦ next_there d from m (p.0 ∙ r.0) (omega (arith, r.1, p.1))
          ]
        ]

    -- After a node at which nothing is wrong, the chain is that node upon what is left.
    pub kept_next : (n : Node) → nextb d from n ≡ true → node_fault s n ≡ TAKEN → Kept (n ∷ before) (n ∷ unended n s) n.document (n.start + 1)
    unfolding orderb
    kept_next n h f =
        let c = clean s n f in
        record {
          stands =
              stands_push n c.0.lowest (head_taken n (unended n s) c.1)
              (stands_left n (λ m e p o a. shut_later m n e o a (sym (next_from n m) ∙ p)) s (all_map (λ e. next_after d from n e h) s w)
              (stands_later (λ m g. onward n m h g) k.stands));
          next = λ m g. ap not (sym (next_from n m) ∙ g);
        }

    -- In a later document nothing is open yet.
    pub kept_later : (d' : ℕ) → d < d' → Kept before [] d' 0
    unfolding keep
    kept_later d' l = record {
      stands = record { chain = tt; keeps = λ n h test only. k.stands.keeps n (beyond n h) test only ∙ none n h test only s w };
      next = λ n h. k.next n (beyond n h);
    }
      where
        later : (n : Node) → nextb d' 0 n ≡ true → d < n.document
        later n h = elim (next_read d' 0 n h) [ inl p ↦ omega arith | inr p ↦ let q = p.0 in omega arith ]

        beyond : (n : Node) → nextb d' 0 n ≡ true → nextb d from n ≡ true
        beyond n h = next_beyond d from n (later n h)

        none : (n : Node) → nextb d' 0 n ≡ true → (test : Node → Bool) → ((e : Node) → test e ≡ true → openb n e ≡ true)
            → (es : List Node) → All (Earlier d from) es → keep test es ≡ []
        none n h test only [] a = refl
        none n h test only (e ∷ es) a =
            let q = a.0.0 in
            let g = later n h in
            keep_failed test e es (not_so (λ t. let o = (open_read n e (only e t)).document in omega arith)) ∙ none n h test only es a.1

-- Before any node nothing is open, and every node is in order.
pub kept_none : (d from : ℕ) → Kept [] [] d from
unfolding orderb
kept_none d from = record { stands = record { chain = tt; keeps = λ n p test only. refl }; next = λ n h. refl }

-- The check of the rest goes past a node at which nothing is wrong, and ends at one at which
-- something is.
module _ (before : List Node) (index : ℕ) (n : Node) (rest : List Node) (whole : Verdict) (same : check_from before index (n ∷ rest) ≡ whole) where
  pub goes_past : fault before n ≡ TAKEN → check_from (n ∷ before) (index + 1) rest ≡ whole
  unfolding check_from
  goes_past f = rw (add-one index) (rw (eq-eqb _ _ f) at same)

  pub stops_at : (fault before n ≡ TAKEN → ⊥) → verdict (fault before n) ANCESTORS index ≡ whole
  unfolding check_from
  stops_at f = rw (ne_eqb _ _ f) at same
