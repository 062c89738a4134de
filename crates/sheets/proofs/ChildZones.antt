-- Why it holds: A sample inside a zone has that zone as its innermost one, or is inside exactly one
-- of its child zones, and not both. A sample inside any zone is inside exactly one outermost zone.
-- What would break it: A sample that two child zones had, or that none had although an inner zone
-- does, would be caught here.
use mathlib.Core.Path.{◌≡◌, refl, sym, subst, ◌∙◌}
use mathlib.Core.Logic.{inl, inr}
use mathlib.Core.Bool.{Bool, true, false, ◌&&◌, ◌||◌}
use mathlib.Core.List.{List}
use Prim.Native.Nat.{ℕ, ◌≤◌, ◌<◌}
use native.Mathlib.Omega.{arith}
use lib.Dec.{eqb}
use lib.ListN.{length}
use borrow.Author.Tests.{ltb-true, eqb-true, eq-eqb}
use Rattle.laws.specs.Choose.{All, EveryTwo, In, any, first_at}
use Rattle.laws.proofs.Choices.{all_at, all_both, all_in, all_map, any_none, any_some, every_two_map, keep_all_of, keep_every_two, keep_in, keep_past, none_any, pairs_passed}
use Rattle.laws.proofs.First.{first_there, first_passes}
use Rattle.laws.proofs.Tests.{either, never, so, not_so, and_read, and_make, or_read, or_left, or_right, not_read, not_none, same_test}
use Rattle.nodes.specs.declared.node.Node.{Node}
use Rattle.nodes.specs.Node.{insideb}
use Rattle.nodes.specs.Words.{node}
use Rattle.nodes.proofs.NodeLaws.{inside_trans}
use Rattle.forest.specs.Links.{NONE, node_in, indices, innermostb, parent_of, link_of}
use Rattle.forest.proofs.Containing.{AcceptedList}
use Rattle.forest.proofs.FirstAndLast.{all_up, in_up, up_rises}
use Rattle.forest.proofs.Parents.{holds, parent_last}
use Rattle.sheets.specs.Demanded.{children_of}
use Rattle.sheets.proofs.Around.{ChildAround, one_child, child_around}

-- Whether a node is inside a child zone of i. NONE asks for the outermost zones.
abbrev pub in_child : List Node → ℕ → Node → Bool
in_child ns i n = any (λ c. insideb n (node_in ns c)) (children_of ns i)

module _ (ns : List Node) (i : ℕ) where
  -- The child zones are the zones with that parent, and their indices rise.
  pub children_all : All (λ c. (c < length ns) × (parent_of ns c ≡ i)) (children_of ns i)
  unfolding children_of link_of indices
  children_all =
      let test : ℕ → Bool = λ j. eqb (parent_of ns j) i in
      all_both (λ c l e. (l, eqb-true (parent_of ns c) i e)) (children_of ns i)
      (keep_all_of (λ c. c < length ns) test (indices ns) (all_up (λ c. c < length ns) (length ns) (λ j l. l))) (keep_past test (indices ns))

  children_rise : EveryTwo (λ a b. a < b) (children_of ns i)
  unfolding children_of indices
  children_rise = keep_every_two (λ a b. a < b) (λ j. eqb (link_of ns j).parent i) (indices ns) (up_rises (length ns))

  child_in : (c : ℕ) → c < length ns → parent_of ns c ≡ i → In c (children_of ns i)
  unfolding children_of link_of indices
  child_in c l p = keep_in (λ j. eqb (parent_of ns j) i) (indices ns) c (in_up (length ns) c l) (eq-eqb (parent_of ns c) i p)

  -- A node is inside a child zone where one around it is known.
  in_child_lem : (n : Node) → ChildAround ns n i → in_child ns i n ≡ true
  in_child_lem n h =
      so (λ none. never h.around
      (all_in (λ c. insideb n (node_in ns c) ≡ false) (children_of ns i) (any_none (λ c. insideb n (node_in ns c)) (children_of ns i) none)
      (child_in h.child h.there h.parent)))

-- Where some zone passes a test, one at an index does.
zone_found : (ns : List Node) (test : Node → Bool) → any test ns ≡ true → (j : ℕ) × (j < length ns) × (test (node_in ns j) ≡ true)
unfolding node_in
zone_found ns test h =
    let there = ltb-true (first_at test ns) (length ns) (first_there test ns ∙ h) in
    (first_at test ns, there, first_passes test ns (node 0 0 0 0) there)

zone_passes : (ns : List Node) (test : Node → Bool) (j : ℕ) → j < length ns → test (node_in ns j) ≡ true → any test ns ≡ true
unfolding node_in
zone_passes ns test j l h = so (λ none. never h (all_at (λ z. test z ≡ false) ns j (node 0 0 0 0) l (any_none test ns none)))

module _ (ns : List Node) (ok : AcceptedList ns) (n : Node) (span : n.start ≤ n.end) where
  -- It is inside no more than one.
  pub in_one : (i : ℕ) → EveryTwo (λ a b. insideb n (node_in ns a) ≡ true → insideb n (node_in ns b) ≡ false) (children_of ns i)
  in_one i =
      pairs_passed (λ c. (c < length ns) × (parent_of ns c ≡ i)) _ (children_of ns i) (children_all ns i)
      (every_two_map (λ a b l p q. one_child ns ok n span a b l q.0 (p.1 ∙ sym q.1)) (children_of ns i) (children_rise ns i))

  -- A node inside any zone is inside an outermost one.
  pub any_outermost : any (λ zone. insideb n zone) ns ≡ in_child ns NONE n
  any_outermost =
      same_test
      (λ h. let f = zone_found ns (λ zone. insideb n zone) h in
      in_child_lem ns NONE n (child_around ns ok n span f.0 NONE f.1 f.2 (λ z. absurd (z refl))))
      (λ h. any_some (λ c. insideb n (node_in ns c)) (children_of ns NONE) h
      (λ c m k. zone_passes ns (λ zone. insideb n zone) c (all_in _ (children_of ns NONE) (children_all ns NONE) m).0 k))

  module _ (i : ℕ) (l : i < length ns) where
    -- A child zone is inside its parent.
    child_inside : (c : ℕ) → c < length ns → parent_of ns c ≡ i → holds ns c i ≡ true
    child_inside c m p =
        subst (λ j. holds ns c j ≡ true) p ((parent_last ns ok c m).found (λ z. omega (arith, ok.short, p, z))).1

    -- A node whose innermost zone it is, is inside no child zone,
    pub own_apart : innermostb ns n (node_in ns i) ≡ true → in_child ns i n ≡ false
    unfolding innermostb
    own_apart h =
        let none = not_read _ (and_read (insideb n (node_in ns i)) h).1 in
        none_any (λ c. insideb n (node_in ns c)) (children_of ns i)
        (all_map (λ c p. not_so (λ k. never
        (zone_passes ns (λ z. insideb n z && insideb z (node_in ns i)) c p.0 (and_make k (child_inside c p.0 p.1))) none))
        (children_of ns i) (children_all ns i))

    -- and a node inside the zone is one or the other.
    pub own_or_child : insideb n (node_in ns i) ≡ (innermostb ns n (node_in ns i) || in_child ns i n)
    unfolding innermostb
    own_or_child = same_test apart together
      where
        apart : insideb n (node_in ns i) ≡ true → (innermostb ns n (node_in ns i) || in_child ns i n) ≡ true
        apart h = elim (either (innermostb ns n (node_in ns i))) [
          | inl m ↦ or_left _ m
          | inr m ↦ let f = zone_found ns (λ z. insideb n z && insideb z (node_in ns i)) (not_none _ (rw h at m)) in
              let p = and_read (insideb n (node_in ns f.0)) f.2 in
              or_right (innermostb ns n (node_in ns i)) (in_child_lem ns i n (child_around ns ok n span f.0 i f.1 p.0 (λ z. (l, p.1))))
        ]

        together : (innermostb ns n (node_in ns i) || in_child ns i n) ≡ true → insideb n (node_in ns i) ≡ true
        together h = elim (or_read (innermostb ns n (node_in ns i)) h) [
          | inl m ↦ (and_read (insideb n (node_in ns i)) m).0
          | inr m ↦ any_some (λ c. insideb n (node_in ns c)) (children_of ns i) m (λ c k t.
              let p = all_in _ (children_of ns i) (children_all ns i) k in
              inside_trans n (node_in ns c) (node_in ns i) t (child_inside c p.0 p.1))
        ]
