-- Why it holds: At each descendant the ancestors on the stack are those that started before it and
-- have not ended. They stand for the ancestors passed at the descendants to come.
-- What would break it: A zone taken off the stack while it is still open would be caught here. So
-- would one that is joined only while it is the innermost.
use mathlib.Core.Path.{◌≡◌, refl, ap, subst, ◌∙◌}
use mathlib.Core.Bool.{true, false, Bool}
use mathlib.Core.List.{List, ◌++◌, reverse}
use Prim.Native.Nat.{ℕ, ◌+◌, ◌*◌, ◌/◌, ◌%◌, ◌≤◌, ◌<◌, zero-le}
use native.Mathlib.Omega.{arith}
use lib.ListN.{length, drop}
use Rattle.nodes.specs.declared.node.Node.{Node}
use Rattle.answers.specs.Answer.{TAKEN}
use Rattle.laws.specs.Choose.{All, EveryTwo}
use Rattle.nodes.specs.Node.{afterb, openb}
use Rattle.nodes.specs.Words.{node, nodes, count, node_at}
use Rattle.nodes.proofs.WordLaws.{length_nodes, nodes_from_lem}
use Rattle.lists.specs.Check.{check_words}
use Rattle.lists.specs.Two.{check_two}
use Rattle.lists.specs.Private.Walk.{unended, Upon}
use Rattle.lists.proofs.Faults.{Sound}
use Rattle.lists.proofs.Pairing.{two_taken_iff}
use Rattle.lists.proofs.Taken.{Fine, words_taken_iff}
use Rattle.paging.specs.Page.{remains}
use Rattle.paging.specs.Private.Serve.{serve}
use Rattle.paging.proofs.Serving.{left_on, left_stop}
use Rattle.tickets.specs.declared.ticket.Order.TheVariants.{Descendant}
use Rattle.tickets.specs.declared.ticket.Place.{Place}
use Rattle.tickets.specs.declared.ticket.Relation.{Relation}
use Rattle.tickets.specs.Listing.{sort_key}
use Rattle.tickets.specs.Private.Group.{group, matches}
use Rattle.tickets.specs.PairWords.{PAIR_WORDS, pair_words}
use Rattle.tickets.specs.Ticket.{spot_of, asked}
use Rattle.tickets.proofs.Groups.{rest_of, group_past}
use Rattle.pairs.specs.Private.Stack.{firsts, opened, Fits}
use Rattle.pairs.specs.Private.Sweep.{Placed, Opening, from_start, served_group}
use Rattle.laws.proofs.Choices.{all_at}
use Rattle.pairs.proofs.Accepted.{accepted, fine_with}
use Rattle.pairs.proofs.Matching.{matches_open}
use Rattle.pairs.proofs.OpenNodes.{all_among, upon_open, left_open, open_none, open_left, open_later}
use Rattle.pairs.proofs.ListingGroups.{matches_rise, rest_group}
use Rattle.pairs.proofs.SweepStart.{Tells, after_later}

module _ (as' ds : List ℕ) where
  -- At a descendant: the stack holds the ancestors that are open at it, and no ancestor before it
  -- is left.
  pub record At (d : Node) (used passed : ℕ) (stack : List ℕ) : Type 0 where
    pub opening : Opening as' d used passed stack
    pub none : All (λ a. afterb d a ≡ false) (drop (passed / 4) (nodes as'))
    pub upon : Upon d (opened used stack)

  -- The stack stands for the ancestors passed at the descendant to come.
  pub record Ready (j used passed : ℕ) (stack : List ℕ) : Type 0 where
    pub at : Placed ds j
    pub stands : j < length ds → Opening as' (node_at ds (j / 4)) used passed stack

  module _ (taken : (check_two as' ds).answer ≡ TAKEN) where
    -- Each list alone is accepted.
    pub taken_as : (check_words as').answer ≡ TAKEN
    taken_as = ((two_taken_iff as' ds).0 taken).0

    pub taken_ds : (check_words ds).answer ≡ TAKEN
    taken_ds = ((two_taken_iff as' ds).0 taken).1

    whole : (length as' % 4 ≡ 0) × (length ds % 4 ≡ 0)
    whole = (((words_taken_iff as').0 taken_as).0, ((words_taken_iff ds).0 taken_ds).0)

    -- Before the first descendant of a sweep nothing is passed.
    pub ready_start : (first : ℕ) (stack : List ℕ) → first ≤ count ds → Ready (4 * first) 0 0 stack
    unfolding firsts
    ready_start first stack h =
        let w = whole in
        record {
          at = (w.1, omega arith, omega arith);
          stands = λ m. record { used_in = (refl, zero-le); passed_in = (w.0, refl, zero-le); held = open_none _ };
        }

    module _ (j : ℕ) (l : j < length ds) where
      sound_at : Sound (node_at ds (j / 4))
      unfolding node_at
      sound_at =
          let w = whole in
          all_at Sound (nodes ds) (j / 4) (node 0 0 0 0) (omega (arith, length_nodes ds)) (accepted as' ds taken).sound_ds

      -- The ancestors that stand before a descendant are fine with it.
      fine_at : (passed : ℕ) → passed ≤ length as' → All (λ e. afterb (node_at ds (j / 4)) e ≡ true) (firsts (passed / 4) (nodes as'))
          → All (λ e. Fine e (node_at ds (j / 4))) (firsts (passed / 4) (nodes as'))
      unfolding node_at
      fine_at passed p h =
          let w = whole in
          fine_with (nodes as') (nodes ds) (accepted as' ds taken).even (passed / 4) (j / 4) (omega (arith, length_nodes as'))
          (omega (arith, length_nodes ds)) h

      module _ (d : Node) (q : d ≡ node_at ds (j / 4)) where
        -- Once those that ended are taken off, all that are left on the stack are open at the
        -- descendant.
        pub left_at : (used passed left : ℕ) (stack : List ℕ) → Ready j used passed stack → Fits left
            → opened left stack ≡ unended d (opened used stack) → Opening as' d left passed stack × All (λ e. openb d e ≡ true) (opened left stack)
        left_at used passed left stack r f e =
            let o : Opening as' d used passed stack = rw q (r.stands l) in (
              record { used_in = f; passed_in = o.passed_in; held = rw e (open_left d _ _ o.held) },
              rw e (left_open d (opened used stack) o.held.stands.chain),
            )

        -- Once those that started before it are put on, it lies inside all of the stack.
        pub at_descendant : (used passed : ℕ) (stack : List ℕ) → Opening as' d used passed stack → All (λ e. openb d e ≡ true) (opened used stack)
            → All (λ a. afterb d a ≡ false) (drop (passed / 4) (nodes as')) → At (node_at ds (j / 4)) used passed stack
        at_descendant used passed stack o b none = subst (λ n. At n used passed stack) q (record {
          opening = o;
          none = none;
          upon = upon_open d (opened used stack) (rw q sound_at) (all_among (λ f. Fine f d) o.held
              (rw q (fine_at passed o.passed_in.2 (rw q at o.held.beyond)))) b;
        })

      module _ (used passed : ℕ) (stack : List ℕ) (h : At (node_at ds (j / 4)) used passed stack) where
        -- What matches among all ancestors matches on the stack, and its starts rise.
        at_matches : (relation : Relation)
            → matches (asked relation Descendant) (node_at ds (j / 4)) (nodes as') ≡ reverse (matches (asked relation Descendant) (node_at ds (j / 4)) (opened used stack))
        at_matches relation =
            matches_open (node_at ds (j / 4)) relation (nodes as') (passed / 4) (opened used stack) sound_at
            (let p = h.opening.passed_in in omega (arith, length_nodes as')) h.none h.opening.held

        at_rises : (relation : Relation)
            → EveryTwo (λ x y. x.start < y.start) (reverse (matches (asked relation Descendant) (node_at ds (j / 4)) (opened used stack)))
        at_rises relation =
            subst (EveryTwo (λ x y. x.start < y.start)) (at_matches relation)
            (matches_rise relation Descendant (node_at ds (j / 4)) (nodes as') (accepted as' ds taken).fine_as)

        -- The descendant's group comes first of what remains, from the start on that tells what
        -- lies past the place.
        descend_group : (relation : Relation) (place : Place) (past : ℕ) → Tells place ds past j
            → rest_of relation Descendant place (drop (j / 4) (nodes ds)) (nodes as')
            ≡ group Descendant (node_at ds (j / 4)) (from_start past (reverse (matches (asked relation Descendant) (node_at ds (j / 4)) (opened used stack))))
            ++ rest_of relation Descendant place (drop ((j + 4) / 4) (nodes ds)) (nodes as')
        unfolding from_start
        descend_group relation place past p =
            let w = whole in
            let next : (j + 4) / 4 ≡ j / 4 + 1 = omega arith in
            rw next
            (ap (λ ns. rest_of relation Descendant place ns (nodes as')) (nodes_from_lem ds (j / 4) (omega arith))
            ∙ rest_group relation Descendant (node_at ds (j / 4)) place (drop (j / 4 + 1) (nodes ds)) (nodes as')
            ∙ ap (λ ps. ps ++ rest_of relation Descendant place (drop (j / 4 + 1) (nodes ds)) (nodes as'))
            (ap (λ zs. remains (sort_key Descendant) (spot_of place) (group Descendant (node_at ds (j / 4)) zs)) (at_matches relation)
            ∙ group_past Descendant place past (node_at ds (j / 4)) _ (p l) (at_rises relation)))

        -- So a group that found room leaves those after it to serve, and one that didn't ends the
        -- page.
        pub descend_on : (relation : Relation) (place : Place) (past : ℕ) → Tells place ds past j → (out : List ℕ) (n : ℕ) {o : List ℕ} {d : ℕ} {b : Bool} {whole : List ℕ × ℕ × Bool}
            → (o, d, b) ≡ served_group Descendant out n (node_at ds (j / 4)) (from_start past (reverse (matches (asked relation Descendant) (node_at ds (j / 4)) (opened used stack)))) → b ≡ true
            → serve pair_words PAIR_WORDS out n (rest_of relation Descendant place (drop (j / 4) (nodes ds)) (nodes as')) ≡ whole → serve pair_words PAIR_WORDS o d (rest_of relation Descendant place (drop ((j + 4) / 4) (nodes ds)) (nodes as')) ≡ whole
        descend_on relation place past p out n s t e = left_on pair_words PAIR_WORDS out n _ _ s t (descend_group relation place past p) e

        pub descend_stop : (relation : Relation) (place : Place) (past : ℕ) → Tells place ds past j → (out : List ℕ) (n : ℕ) {o : List ℕ} {d : ℕ} {b : Bool} {whole : List ℕ × ℕ × Bool}
            → (o, d, b) ≡ served_group Descendant out n (node_at ds (j / 4)) (from_start past (reverse (matches (asked relation Descendant) (node_at ds (j / 4)) (opened used stack)))) → b ≡ false
            → serve pair_words PAIR_WORDS out n (rest_of relation Descendant place (drop (j / 4) (nodes ds)) (nodes as')) ≡ whole → (o, d, b) ≡ whole
        descend_stop relation place past p out n s t e = left_stop pair_words PAIR_WORDS out n _ _ s t (descend_group relation place past p) e

        -- And the stack is ready for the next one.
        pub ready_next : Placed ds j → Ready (j + 4) used passed stack
        ready_next at = record {
          at = (at.0, omega arith, omega arith);
          stands = λ m. record {
            used_in = h.opening.used_in;
            passed_in = h.opening.passed_in;
            held = open_later (node_at ds (j / 4)) (node_at ds ((j + 4) / 4)) _ _ (after_later ds taken_ds j (j + 4) (omega arith) m) h.opening.held;
          };
        }
