-- Why it holds: The nodes of an accepted list that follow a zone run on inside it up to its end. So
-- where a zone has ended, or holds no descendant, the same is true of all that lie inside it.
-- What would break it: A zone passed that is open at a descendant, or a jump past a node outside
-- the zone, would be caught here.
use mathlib.Core.Path.{◌≡◌, refl, ap, sym, subst, ◌∙◌}
use mathlib.Core.Logic.{inl, inr}
use mathlib.Core.Bool.{Bool, true, false, cond}
use mathlib.Core.List.{List, [], ◌∷◌}
use Prim.Native.Nat.{ℕ, zero, suc, ◌+◌, ◌-◌, ◌/◌, ◌%◌, ◌≤◌, ◌<◌}
use native.Mathlib.Omega.{arith}
use native.Mathlib.Numerals.{add-one}
use lib.Dec.{ltb}
use lib.ListN.{length, drop}
use borrow.Author.Tests.{ltb-true, ltb-false}
use Rattle.nodes.specs.declared.node.Node.{Node}
use Rattle.answers.specs.Answer.{TAKEN}
use Rattle.laws.specs.Choose.{All, EveryTwo, any, keep, first_at}
use Rattle.nodes.specs.Node.{insideb, afterb, openb}
use Rattle.nodes.specs.Words.{node, nodes, count, node_at}
use Rattle.laws.proofs.Choices.{all_map, any_none, any_same, at_all, every_two_drop}
use Rattle.laws.proofs.First.{before_first}
use Rattle.laws.proofs.Tests.{either, never, not_so}
use Rattle.nodes.proofs.NodeLaws.{within, inside_trans, inside_after, after_read, after_document, after_start, open_read, open_make, shut_read}
use Rattle.nodes.proofs.WordLaws.{length_nodes, nodes_from_lem}
use Rattle.lists.specs.Check.{check_words}
use Rattle.lists.specs.Two.{oddsb, check_two}
use Rattle.lists.proofs.Faults.{Sound}
use Rattle.lists.proofs.Merging.{self_even}
use Rattle.lists.proofs.Taken.{Fine, words_taken_iff}
use Rattle.paging.specs.Page.{remains}
use Rattle.tickets.specs.declared.ticket.Order.TheVariants.{Ancestor}
use Rattle.tickets.specs.declared.ticket.Place.{Place}
use Rattle.tickets.specs.declared.ticket.Relation.{Relation}
use Rattle.tickets.specs.declared.ticket.Relation.TheVariants.{Inside}
use Rattle.tickets.specs.Listing.{relatedb, pair_of}
use Rattle.tickets.specs.Private.Group.{group, matches}
use Rattle.tickets.specs.Ticket.{asked}
use Rattle.tickets.proofs.Groups.{rest_of}
use Rattle.pairs.specs.Private.Stack.{firsts, opened, Fits}
use Rattle.pairs.specs.Private.Sweep.{Placed, Open, Opening, Running, runningb, run_end, Jumped}
use Rattle.pairs.proofs.Children.{node_all}
use Rattle.pairs.proofs.ListingGroups.{rest_group, sweep_end}
use Rattle.pairs.proofs.OpenNodes.{open_skip}
use Rattle.pairs.proofs.Running.{match_none, match_after, run_stops, end_in, inside_run, none_match}
use Rattle.pairs.proofs.StackNodes.{length_firsts}
use Rattle.pairs.proofs.Zones.{Reached, found, sweep_running, sweep_next}

-- What lies inside a zone that ended before d stands before d and isn't open at it either.
inside_shut : (d n a : Node) → n.start ≤ n.end → insideb n a ≡ true → afterb d a ≡ true → openb d a ≡ false
    → (afterb d n ≡ true) × (openb d n ≡ false)
inside_shut d n a s h b o =
    let w = within n a h in (
      elim (after_read d a b) [
        | inl p ↦ after_document d n (omega arith)
        | inr p ↦ let e = shut_read d a o (sym p.0) in after_start d n (omega arith) (omega arith)
      ],
      not_so (λ u. let p = open_read d n u in never (open_make d a (omega arith) (omega arith)) o),
    )

-- Where the stack doesn't grow by an ancestor, that one isn't open at d.
not_grown : (d a : Node) (used r : ℕ) (stack after : List ℕ) → r ≡ used
    → opened r after ≡ cond (openb d a) (a ∷ opened used stack) (opened used stack) → openb d a ≡ false
not_grown d a used r stack after q e =
    not_so (λ o. let n = ap length (rw o at e) in omega (arith, length_firsts (r / 4) (nodes after), length_firsts (used / 4) (nodes stack)))

module _ (ws : List ℕ) where
  -- An ancestor is always passed by itself.
  pub jump_one : (i : ℕ) → Placed ws i → i < length ws → Jumped ws i (i + 4)
  jump_one i p l = record { placed = (p.0, omega arith, omega arith); later = omega arith; inside = λ j u v. absurd (omega arith) }

  -- Ancestors that stand before d and aren't open at it are left out, one after the other.
  skip_all : (d : Node) (s : List Node) (n i r : ℕ) → i + n ≡ r
      → ((j : ℕ) → i ≤ j → j < r → (afterb d (node_at ws j) ≡ true) × (openb d (node_at ws j) ≡ false))
      → Open d (firsts i (nodes ws)) s → Open d (firsts r (nodes ws)) s
  unfolding firsts node_at
  skip_all d s zero i r q f k = let e : i ≡ r = omega arith in subst (λ m. Open d (firsts m (nodes ws)) s) e k
  skip_all d s (suc n) i r q f k =
      let h = f i (omega arith) (omega arith) in
      skip_all d s n (i + 1) r (omega arith) (λ j u v. f j (omega arith) v) (rw (add-one i) (open_skip d (node_at ws i) (firsts i (nodes ws)) s h.0 k h.1))

module _ (ws : List ℕ) (taken : (check_words ws).answer ≡ TAKEN) where
  module _ (i : ℕ) (a : Node) (p : Placed ws i) (l : i < length ws) (q : a ≡ node_at ws (i / 4)) where
    -- From the node after a zone on, the nodes of its own list stand after it, and none is at odds
    -- with it.
    pub own_run : Running ws a ((i + 4) / 4)
    own_run =
        let t = (words_taken_iff ws).0 taken in
        let one : (i + 4) / 4 ≡ i / 4 + 1 = omega arith in
        let m : i / 4 < count ws = omega (arith, p) in
        let later = subst (EveryTwo Fine) (nodes_from_lem ws (i / 4) m) (every_two_drop Fine (i / 4) (nodes ws) t.3) in
        rw (q, one)
        (record {
          accepted = taken;
          whole = t.0;
          even = node_all ws (λ x. All (λ d. oddsb x d ≡ false) (nodes ws)) (i / 4) m (self_even (nodes ws) t.3);
          from_in = omega arith;
          after = all_map (λ d f. f.after) (drop (i / 4 + 1) (nodes ws)) later.0;
        })

    -- So the zone may be passed up to any place in that run.
    pub jump_run : (r : ℕ) → r % 4 ≡ 0 → i + 4 ≤ r → r / 4 ≤ run_end ws a ((i + 4) / 4) → Jumped ws i r
    jump_run r m h e =
        let n = end_in ws a ((i + 4) / 4) (omega (arith, p)) in
        record {
          placed = (p.0, m, omega (arith, p));
          later = omega arith;
          inside = λ j u v. subst (λ n. insideb (node_at ws j) n ≡ true) q (inside_run ws a ((i + 4) / 4) j own_run (omega arith) (omega arith));
        }

  -- An ancestor by which the stack doesn't grow may be passed together with everything inside it.
  pub jump_passed : (d : Node) (used i : ℕ) (stack : List ℕ) (a : Node) → Opening ws d used i stack → All (λ e. openb d e ≡ true) (opened used stack)
      → a ≡ node_at ws (i / 4) → afterb d a ≡ true → (r next : ℕ) (after : List ℕ) → Fits r → r ≡ used
      → opened r after ≡ cond (openb d a) (a ∷ opened used stack) (opened used stack) → Jumped ws i next
      → Opening ws d r next after × All (λ e. openb d e ≡ true) (opened r after)
  jump_passed d used i stack a k o q h r next after m g e jumped =
      let same : opened r after ≡ opened used stack = e ∙ rw shut refl in (
        record {
          used_in = m;
          passed_in = jumped.placed;
          held = rw same (skip_all ws d (opened used stack) (next / 4 - i / 4) (i / 4) (next / 4) (omega (arith, jumped.later)) passed k.held);
        },
        rw same o,
      )
    where
      shut : openb d a ≡ false
      shut = not_grown d a used r stack after g e

      passed : (j : ℕ) → i / 4 ≤ j → j < next / 4 → (afterb d (node_at ws j) ≡ true) × (openb d (node_at ws j) ≡ false)
      passed j u v =
          elim (either (ltb (i / 4) j)) [
            | inl t ↦ inside_shut d (node_at ws j) (node_at ws (i / 4)) (node_all ws Sound j (omega (arith, jumped.placed)) ((words_taken_iff ws).0 taken).2).span
                (jumped.inside j (ltb-true _ _ t) v) (rw (← q) h) (rw (← q) shut)
            | inr t ↦ let c : j ≤ i / 4 = ltb-false _ _ t in
                let same : i / 4 ≡ j = omega arith in
                rw (← same, ← q) (h, shut)
          ]

-- What matches none of some nodes contains none of them.
none_inside : (a : Node) (ds : List Node) → matches (asked Inside Ancestor) a ds ≡ [] → All (λ d. insideb d a ≡ false) ds
unfolding matches relatedb pair_of keep any
none_inside a ds e = any_none (λ d. insideb d a) ds (any_same (λ d. insideb d a) ds [] e)

module _ (as' ws : List ℕ) where
  -- Ancestors that contain no descendant leave what remains as it is.
  rest_passed : (relation : Relation) (place : Place) (n i r : ℕ) → i + n ≡ r
      → ((j : ℕ) → i ≤ j → j < r → j < count as' → All (λ d. insideb d (node_at as' j) ≡ false) (nodes ws))
      → rest_of relation Ancestor place (drop i (nodes as')) (nodes ws) ≡ rest_of relation Ancestor place (drop r (nodes as')) (nodes ws)
  unfolding group remains keep
  rest_passed relation place zero i r q f = let e : i ≡ r = omega arith in ap (λ m. rest_of relation Ancestor place (drop m (nodes as')) (nodes ws)) e
  rest_passed relation place (suc n) i r q f =
      elim (either (ltb i (count as'))) [
        | inl t ↦ let l : i < count as' = ltb-true _ _ t in
            ap (λ ns. rest_of relation Ancestor place ns (nodes ws)) (nodes_from_lem as' i l)
            ∙ rest_group relation Ancestor (node_at as' i) place (drop (i + 1) (nodes as')) (nodes ws)
            ∙ rw (match_none (node_at as' i) relation (nodes ws) (f i (omega arith) (omega arith) l))
            (rest_passed relation place n (i + 1) r (omega arith) (λ j u v. f j (omega arith) v))
        | inr t ↦ let l : count as' ≤ i = ltb-false _ _ t in
            sweep_end relation Ancestor place as' (nodes ws) i l ∙ sym (sweep_end relation Ancestor place as' (nodes ws) r (omega arith))
      ]

  module _ (taken : (check_two as' ws).answer ≡ TAKEN) (i from to : ℕ) (a : Node) (l : i / 4 < count as') (q : a ≡ node_at as' (i / 4))
      (p : Reached as' ws (i / 4) from) (e : to ≡ first_at (λ d. afterb d a) (drop from (nodes ws)) + from) where
    -- A zone that isn't open at the first descendant after it contains none.
    zone_empty : runningb ws (node_at as' (i / 4)) to ≡ false → All (λ d. insideb d (node_at as' (i / 4)) ≡ false) (nodes ws)
    zone_empty o =
        let x = node_at as' (i / 4) in
        let run = sweep_running as' ws taken (i / 4) from to a l q p e in
        let stop = run_stops ws x to o in
        none_inside x (nodes ws)
        (sym (match_after x Inside (nodes ws))
        ∙ ap (λ k. matches (asked Inside Ancestor) x (drop k (nodes ws))) (sym (found as' ws taken (i / 4) from to a l q p e))
        ∙ none_match ws x Inside to to run (omega arith))

    -- So what remains there remains past everything inside it.
    pub jump_rest : (b : Bool) (x : Node) → x ≡ node_at as' (i / 4) → b ≡ runningb ws x to → b ≡ false → (r : ℕ) → Jumped as' i r → (relation : Relation) (place : Place)
        → rest_of relation Ancestor place (drop (i / 4) (nodes as')) (nodes ws) ≡ rest_of relation Ancestor place (drop (r / 4) (nodes as')) (nodes ws)
    jump_rest b x h o n r jumped relation place =
        rest_passed relation place (r / 4 - i / 4) (i / 4) (r / 4) (omega (arith, jumped.later)) none
      where
        empty : All (λ d. insideb d (node_at as' (i / 4)) ≡ false) (nodes ws)
        empty = zone_empty (ap (λ z. runningb ws z to) (sym h) ∙ sym o ∙ n)

        none : (j : ℕ) → i / 4 ≤ j → j < r / 4 → j < count as' → All (λ d. insideb d (node_at as' j) ≡ false) (nodes ws)
        none j u v w =
            elim (either (ltb (i / 4) j)) [
              | inl t ↦ all_map (λ d m. not_so (λ c. never (inside_trans d (node_at as' j) (node_at as' (i / 4)) c (jumped.inside j (ltb-true _ _ t) v)) m)) (nodes ws) empty
              | inr t ↦ let c : j ≤ i / 4 = ltb-false _ _ t in
                  let same : i / 4 ≡ j = omega arith in
                  rw (← same) empty
            ]

    -- Where no descendant is left after an ancestor, nothing remains.
    pub none_left : count ws ≤ to → (relation : Relation) (place : Place) → rest_of relation Ancestor place (drop (i / 4) (nodes as')) (nodes ws) ≡ []
    none_left h relation place =
        rest_passed relation place (count as' - i / 4) (i / 4) (count as') (omega arith) none
        ∙ sweep_end relation Ancestor place as' (nodes ws) (count as') (omega arith)
      where
        late : (j : ℕ) → i / 4 ≤ j → j < count as' → to ≤ first_at (λ d. afterb d (node_at as' j)) (nodes ws)
        late j u w =
            elim (either (ltb (i / 4) j)) [
              | inl t ↦ sweep_next as' ws taken (i / 4) from to a l q p e j (ltb-true _ _ t) w
              | inr t ↦ let c : j ≤ i / 4 = ltb-false _ _ t in
                  let same : i / 4 ≡ j = omega arith in
                  rw (← same) (omega (arith, found as' ws taken (i / 4) from to a l q p e))
            ]

        none : (j : ℕ) → i / 4 ≤ j → j < count as' → j < count as' → All (λ d. insideb d (node_at as' j) ≡ false) (nodes ws)
        none j u v w =
            at_all (λ d. insideb d (node_at as' j) ≡ false) (nodes ws) (node 0 0 0 0) (λ k m. not_so (λ c. never (inside_after _ (node_at as' j) c)
            (before_first (λ d. afterb d (node_at as' j)) (nodes ws) k (node 0 0 0 0) (omega (arith, late j u w, length_nodes ws)))))
