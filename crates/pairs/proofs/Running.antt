-- Why it holds: The descendants inside an ancestor are a run: they begin with the first that stands
-- after it and end with the first at which it isn't open.
-- What would break it: A run that began late or ended early would leave out a pair, and one that
-- went on would take a node outside. Either would be caught here.
use mathlib.Core.Path.{◌≡◌, refl, ap, sym, subst, ◌∙◌}
use mathlib.Core.Logic.{◌⊎◌, inl, inr, ⊎_elim}
use mathlib.Core.Bool.{Bool, true, false, not}
use mathlib.Core.List.{List, [], ◌∷◌, ◌++◌}
use Prim.Native.Nat.{ℕ, zero, suc, ◌+◌, ◌-◌, ◌/◌, ◌%◌, ◌≤◌, ◌<◌}
use native.Mathlib.Nat.{not-suc-le-zero}
use native.Mathlib.Omega.{arith}
use lib.Dec.{ltb}
use lib.ListN.{length, get_or, take, drop, take-append-drop, length-drop}
use lib.Seq.{get_or-drop, drop-drop}
use borrow.Author.Tests.{lt-ltb, le-ltb, ltb-true, ltb-false}
use Rattle.nodes.specs.declared.node.Node.{Node}
use Rattle.laws.specs.Choose.{All, EveryTwo, keep, first_at}
use Rattle.nodes.specs.Node.{insideb, afterb, openb}
use Rattle.nodes.specs.Words.{node, nodes, count, node_at}
use Rattle.laws.proofs.Choices.{all_map, all_both, keep_append, keep_none, all_at, all_drop, every_two_drop}
use Rattle.nodes.proofs.NodeLaws.{after_trans, inside_after, inside_open, open_read, shut_later}
use Rattle.laws.proofs.Tests.{either, never, not_so, not_none, and_read}
use Rattle.nodes.proofs.WordLaws.{length_nodes, nodes_from_lem, nodes_beyond}
use Rattle.lists.proofs.Faults.{Sound}
use Rattle.lists.proofs.Merging.{even_fine}
use Rattle.lists.proofs.Taken.{Fine, nested_read, fine_settles, words_taken_iff}
use Rattle.tickets.specs.declared.ticket.Order.TheVariants.{Ancestor}
use Rattle.tickets.specs.declared.ticket.Relation.{Relation}
use Rattle.tickets.specs.declared.ticket.Relation.TheVariants.{Inside}
use Rattle.tickets.specs.Listing.{relatedb, pair_of}
use Rattle.tickets.specs.Private.Group.{matches}
use Rattle.laws.proofs.First.{first_in, first_failed, first_from, before_first}
use Rattle.tickets.proofs.Listed.{related_inside}
use Rattle.tickets.specs.Ticket.{asked}
use Rattle.pairs.specs.Private.Sweep.{Running, Further, runningb, run_end, stretch}

-- Nodes that ascend after an ancestor, each fine with it.
pub record Run (a : Node) (zs : List Node) : Type 0 where
  pub sound : All Sound zs
  pub fine : All (Fine a) zs
  pub pairs : EveryTwo Fine zs

module _ (a : Node) where
  run_next : (d : Node) (zs : List Node) → Run a (d ∷ zs) → Run a zs
  run_next d zs r = record { sound = r.sound.1; fine = r.fine.1; pairs = r.pairs.1 }

  -- A later node at which the ancestor is open lies inside it.
  open_inside : (d : Node) → Sound d → Fine a d → openb d a ≡ true → insideb d a ≡ true
  open_inside d s f o =
      let p = open_read d a o in
      ⊎_elim (λ q. absurd (omega (arith, p))) (λ q. (nested_read d a q).0) (fine_settles d a s.span f p.document)

  pub match_append : (relation : Relation) (xs ys : List Node)
      → matches (asked relation Ancestor) a (xs ++ ys) ≡ matches (asked relation Ancestor) a xs ++ matches (asked relation Ancestor) a ys
  unfolding matches
  match_append relation xs ys = keep_append _ xs ys

  -- Nodes of which none lies inside don't match.
  pub match_none : (relation : Relation) (zs : List Node) → All (λ z. insideb z a ≡ false) zs → matches (asked relation Ancestor) a zs ≡ []
  unfolding matches pair_of
  match_none relation zs h = keep_none _ zs (all_map (λ z n. not_so (λ m. never (related_inside relation _ m) n)) zs h)

  -- Where the ancestor isn't open at a node, it isn't open at a later one.
  later_shut : (d : Node) (zs : List Node) → Run a (d ∷ zs) → openb d a ≡ false → All (λ z. openb z a ≡ false) zs
  later_shut d zs r o = all_map (λ z g. shut_later z d a o r.fine.0.after g.after) zs r.pairs.0

  -- So a search that knows of a node at which it is open has passed all up to that one.
  run_past : (zs : List Node) (i : ℕ) → Run a zs → i < length zs → openb (get_or zs i (node 0 0 0 0)) a ≡ true
      → first_at (λ d. not (openb d a)) (drop (suc i) zs) + suc i ≡ first_at (λ d. not (openb d a)) zs
  unfolding first_at
  run_past [] i r l o = absurd (not-suc-le-zero l)
  run_past (d ∷ zs) zero r l o = rw o (omega arith)
  run_past (d ∷ zs) (suc i) r l o =
      elim (either (openb d a)) [
        | inl h ↦ rw h (let p = run_past zs i (run_next d zs r) (omega arith) o in omega arith)
        | inr h ↦ absurd (never o (all_at (λ z. openb z a ≡ false) zs i (node 0 0 0 0) (omega arith) (later_shut d zs r h)))
      ]

  -- At all nodes from the run's end on it isn't open.
  run_rest : (zs : List Node) → Run a zs → All (λ z. openb z a ≡ false) (drop (first_at (λ d. not (openb d a)) zs) zs)
  unfolding first_at
  run_rest [] r = tt
  run_rest (d ∷ zs) r =
      elim (either (openb d a)) [ inl o ↦ rw o (run_rest zs (run_next d zs r)) | inr o ↦ rw o (o, later_shut d zs r o) ]

  -- Nodes at which it isn't open don't match.
  shut_none : (relation : Relation) (zs : List Node) → All Sound zs → All (λ z. openb z a ≡ false) zs → matches (asked relation Ancestor) a zs ≡ []
  shut_none relation zs t o =
      match_none relation zs (all_both (λ z s p. not_so (λ h. never (inside_open z a s.span h) p)) zs t o)

  -- All nodes of the run lie inside.
  run_inside : (zs : List Node) → Run a zs → matches (asked Inside Ancestor) a zs ≡ take (first_at (λ d. not (openb d a)) zs) zs
  unfolding matches relatedb pair_of keep first_at
  run_inside [] r = refl
  run_inside (d ∷ zs) r =
      elim (either (openb d a)) [
        | inl o ↦ rw (o, open_inside d r.sound.0 r.fine.0 o) (ap (λ ds. d ∷ ds) (run_inside zs (run_next d zs r)))
        | inr o ↦ shut_none Inside (d ∷ zs) r.sound (o, later_shut d zs r o) ∙ rw o refl
      ]

  -- Of nodes that ascend, from the first one after the ancestor on all stand after it.
  pub first_after_lem : (ds : List Node) → EveryTwo Fine ds → All (λ d. afterb d a ≡ true) (drop (first_at (λ d. afterb d a) ds) ds)
  unfolding first_at
  first_after_lem [] f = tt
  first_after_lem (d ∷ ds) f =
      elim (either (afterb d a)) [
        | inl h ↦ rw h (h, all_map (λ z g. after_trans z d a g.after h) ds f.0)
        | inr h ↦ rw h (first_after_lem ds f.1)
      ]

  -- No node before it matches.
  pub match_after : (relation : Relation) (ds : List Node)
      → matches (asked relation Ancestor) a (drop (first_at (λ d. afterb d a) ds) ds) ≡ matches (asked relation Ancestor) a ds
  match_after relation ds =
      let k : ℕ = first_at (λ d. afterb d a) ds in
      let none : matches (asked relation Ancestor) a (take k ds) ≡ [] =
      match_none relation (take k ds) (all_map (λ d b. not_so (λ h. never (inside_after d a h) b)) (take k ds) (first_failed (λ d. afterb d a) ds)) in
      ap (λ zs. zs ++ matches (asked relation Ancestor) a (drop k ds)) (sym none) ∙ sym (match_append relation (take k ds) (drop k ds))
      ∙ ap (matches (asked relation Ancestor) a) (take-append-drop k ds)

module _ (ws : List ℕ) (a : Node) where
  pub running_run : (k : ℕ) → Running ws a k → Run a (drop k (nodes ws))
  running_run k r =
      let t = (words_taken_iff ws).0 r.accepted in
      record {
        sound = all_drop Sound k (nodes ws) t.2;
        fine = all_both (λ d h o. even_fine a d h o) (drop k (nodes ws)) r.after (all_drop _ k (nodes ws) r.even);
        pairs = every_two_drop Fine k (nodes ws) t.3;
      }

  -- What holds from an index on holds from a later one on.
  pub running_from : (k m : ℕ) → k ≤ m → m ≤ count ws → Running ws a k → Running ws a m
  running_from k m l h r =
      let e : k + (m - k) ≡ m = omega arith in
      record {
        accepted = r.accepted;
        whole = r.whole;
        even = r.even;
        from_in = h;
        after =
            subst (λ i. All (λ d. afterb d a ≡ true) (drop i (nodes ws))) e
            (subst (All (λ d. afterb d a ≡ true)) (drop-drop (m - k) k (nodes ws)) (all_drop _ (m - k) (drop k (nodes ws)) r.after));
      }

  -- Makes and reads the test whether there is a descendant at an index and the ancestor is open at
  -- it.
  pub running_none : (k : ℕ) → count ws ≤ k → false ≡ runningb ws a k
  unfolding runningb
  running_none k h = rw (le-ltb _ _ h)

  pub running_node : (k : ℕ) (d : Node) (b : Bool) → k < count ws → d ≡ node_at ws k → b ≡ openb d a → b ≡ runningb ws a k
  unfolding runningb
  running_node k d b h q e = rw (lt-ltb _ _ h, ← q) e

  running_read : (k : ℕ) → runningb ws a k ≡ true → (k < count ws) × (openb (node_at ws k) a ≡ true)
  unfolding runningb
  running_read k h = let p = and_read (ltb k (count ws)) h in (ltb-true _ _ p.0, p.1)

  -- The run ends at a descendant at which the ancestor isn't open, and with the list.
  pub run_stops : (k : ℕ) → runningb ws a k ≡ false → run_end ws a k ≡ k
  unfolding runningb first_at
  run_stops k h = let z : first_at (λ d. not (openb d a)) (drop k (nodes ws)) ≡ 0 = ends (either (ltb k (count ws))) in omega arith
    where
      ends : (ltb k (count ws) ≡ true) ⊎ (ltb k (count ws) ≡ false) → first_at (λ d. not (openb d a)) (drop k (nodes ws)) ≡ 0
      ends (inl t) = rw (nodes_from_lem ws k (ltb-true _ _ t), rw t at h) refl
      ends (inr t) = rw (nodes_beyond ws k (ltb-false _ _ t)) refl

  -- After a descendant at which it is open, from some index on, the search for the run's end finds
  -- the same.
  further_to : (k n : ℕ) → k ≤ n → Running ws a k → runningb ws a n ≡ true → Running ws a (n + 1) × (run_end ws a (n + 1) ≡ run_end ws a k)
  unfolding node_at
  further_to k n h r o =
      let p = running_read n o in
      let l = p.0 in
      let zs : List Node = drop k (nodes ws) in
      let here : k + (n - k) ≡ n = omega arith in
      let beyond : k + suc (n - k) ≡ n + 1 = omega arith in
      let rest : drop (n + 1) (nodes ws) ≡ drop (suc (n - k)) zs =
      sym (drop-drop (suc (n - k)) k (nodes ws) ∙ ap (λ i. drop i (nodes ws)) beyond) in
      let there : get_or zs (n - k) (node 0 0 0 0) ≡ get_or (nodes ws) n (node 0 0 0 0) =
      get_or-drop k (nodes ws) (n - k) (node 0 0 0 0) ∙ ap (λ i. get_or (nodes ws) i (node 0 0 0 0)) here in
      let q = run_past a zs (n - k) (running_run k r) (omega (arith, length-drop k (nodes ws), length_nodes ws)) (ap (λ z. openb z a) there ∙ p.1) in
      (running_from k (n + 1) (omega arith) (omega arith) r, rw rest (omega arith))

  -- The run doesn't end before an index up to which it goes on.
  pub end_from : (k m : ℕ) → k ≤ m → m ≤ run_end ws a k → run_end ws a m ≡ run_end ws a k
  end_from k m l h =
      let e : k + (m - k) ≡ m = omega arith in
      let p = first_from (λ d. not (openb d a)) (m - k) (drop k (nodes ws)) (omega arith) in
      let q : drop m (nodes ws) ≡ drop (m - k) (drop k (nodes ws)) = sym (drop-drop (m - k) k (nodes ws) ∙ ap (λ i. drop i (nodes ws)) e) in
      rw q (omega arith)

  -- The run ends in the list or at its end.
  pub end_in : (k : ℕ) → k ≤ count ws → run_end ws a k ≤ count ws
  end_in k h = omega (arith, first_in (λ d. not (openb d a)) (drop k (nodes ws)), length-drop k (nodes ws), length_nodes ws)

  -- Each descendant before its end lies inside the ancestor.
  pub inside_run : (k j : ℕ) → Running ws a k → k ≤ j → j < run_end ws a k → insideb (node_at ws j) a ≡ true
  unfolding node_at
  inside_run k j r l h =
      let zs : List Node = drop k (nodes ws) in
      let here : k + (j - k) ≡ j = omega arith in
      let run = running_run k r in
      let in' = first_in (λ d. not (openb d a)) zs in
      let there : get_or zs (j - k) (node 0 0 0 0) ≡ get_or (nodes ws) j (node 0 0 0 0) =
      get_or-drop k (nodes ws) (j - k) (node 0 0 0 0) ∙ ap (λ i. get_or (nodes ws) i (node 0 0 0 0)) here in
      let o = not_none _ (before_first (λ d. not (openb d a)) zs (j - k) (node 0 0 0 0) (omega arith)) in
      subst (λ d. insideb d a ≡ true) there
      (open_inside a (get_or zs (j - k) (node 0 0 0 0)) (all_at Sound zs (j - k) (node 0 0 0 0) (omega arith) run.sound)
      (all_at (Fine a) zs (j - k) (node 0 0 0 0) (omega arith) run.fine) o)

  -- The same with places in words: a place goes on to the next, and from there to one further.
  pub further_none : (k : ℕ) → k % 4 ≡ 0 → Running ws a (k / 4) → Further ws a k k
  further_none k m r = (m, omega arith, r, refl)

  pub further_next : (k n m : ℕ) → k % 4 ≡ 0 → n % 4 ≡ 0 → k ≤ n → m ≡ n + 4 → Running ws a (k / 4) → runningb ws a (n / 4) ≡ true → Further ws a k m
  further_next k n m p q l e r o =
      let t : n / 4 + 1 ≡ m / 4 = omega arith in
      let f = further_to (k / 4) (n / 4) (omega arith) r o in
      (omega arith, omega arith, subst (Running ws a) t f.0, ap (run_end ws a) (sym t) ∙ f.1)

  pub further_trans : (k m n : ℕ) → Further ws a k m → Further ws a m n → Further ws a k n
  further_trans k m n f g = let h = f.1 in let i = g.1 in (g.0, omega arith, g.2, g.3 ∙ f.3)

  pub further_stops : (k m : ℕ) → Further ws a k m → runningb ws a (m / 4) ≡ false → m / 4 ≡ run_end ws a (k / 4)
  further_stops k m f o = sym (run_stops (m / 4) o) ∙ f.3

  -- From the run's end on nothing lies inside.
  pub none_match : (relation : Relation) (k m : ℕ) → Running ws a k → run_end ws a k ≤ m → matches (asked relation Ancestor) a (drop m (nodes ws)) ≡ []
  none_match relation k m r h =
      let zs : List Node = drop k (nodes ws) in
      let e : k + (m - k) ≡ m = omega arith in
      let n : ℕ = first_at (λ d. not (openb d a)) zs in
      let f : n + (m - k - n) ≡ m - k = omega arith in
      let run = running_run k r in
      let rest : drop (m - k - n) (drop n zs) ≡ drop m (nodes ws) =
      drop-drop (m - k - n) n zs ∙ ap (λ i. drop i zs) f ∙ drop-drop (m - k) k (nodes ws) ∙ ap (λ i. drop i (nodes ws)) e in
      subst (λ xs. matches (asked relation Ancestor) a xs ≡ []) rest
      (shut_none a relation (drop (m - k - n) (drop n zs)) (all_drop Sound (m - k - n) (drop n zs) (all_drop Sound n zs run.sound))
      (all_drop _ (m - k - n) (drop n zs) (run_rest a zs run)))

  -- The descendants inside the ancestor are those from a place to the run's end.
  pub run_stretch : (from to : ℕ) → Running ws a (from / 4) → to / 4 ≡ run_end ws a (from / 4)
      → stretch ws from to ≡ matches (asked Inside Ancestor) a (drop (from / 4) (nodes ws))
  run_stretch from to r q =
      let zs : List Node = drop (from / 4) (nodes ws) in
      let width : to / 4 - from / 4 ≡ first_at (λ d. not (openb d a)) zs = omega arith in
      ap (λ n. take n zs) width ∙ sym (run_inside a zs (running_run (from / 4) r))
