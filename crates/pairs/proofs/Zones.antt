-- Why it holds: A sweep along the ancestors hands out each one's run past the place, and where the
-- runs begin only moves on.
-- What would break it: A descendant passed before an ancestor that contains it, or a follower
-- handed out before the place, would be caught here.
use mathlib.Core.Path.{◌≡◌, refl, ap, sym, subst, ◌∙◌}
use mathlib.Core.Logic.{inl, inr}
use mathlib.Core.Bool.{Bool, true, false, not}
use mathlib.Core.List.{List, [], ◌∷◌, ◌++◌, append-nil}
use Prim.Native.Nat.{ℕ, zero, suc, ◌+◌, ◌-◌, ◌/◌, ◌%◌, ◌≤◌, ◌<◌}
use native.Mathlib.Omega.{arith}
use lib.Dec.{leb}
use lib.ListN.{length, take, drop, take-append-drop}
use lib.Seq.{drop-drop}
use borrow.Author.Tests.{le-leb, leb-true}
use Rattle.nodes.specs.declared.node.Node.{Node}
use Rattle.answers.specs.Answer.{TAKEN}
use Rattle.laws.specs.Choose.{All, EveryTwo, keep, first_at}
use Rattle.nodes.specs.Node.{afterb, openb}
use Rattle.nodes.specs.Words.{nodes, count, node_at}
use Rattle.laws.proofs.Choices.{all_map, take_all_of, keep_all_of}
use Rattle.nodes.proofs.NodeLaws.{after_trans, open_read}
use Rattle.laws.proofs.Tests.{either, not_none}
use Rattle.nodes.proofs.WordLaws.{length_nodes, nodes_from_lem}
use Rattle.lists.specs.Check.{check_words}
use Rattle.lists.specs.Two.{check_two}
use Rattle.lists.proofs.Pairing.{two_taken_iff}
use Rattle.lists.proofs.Taken.{Fine, words_taken_iff}
use Rattle.paging.specs.Private.Serve.{serve}
use Rattle.paging.proofs.Serving.{left_on, left_stop}
use Rattle.tickets.specs.declared.ticket.Order.TheVariants.{Ancestor}
use Rattle.tickets.specs.declared.ticket.Place.{Place}
use Rattle.tickets.specs.declared.ticket.Relation.{Relation}
use Rattle.tickets.specs.Listing.{relatedb, sort_key, pair_of}
use Rattle.tickets.specs.Private.Group.{group, matches}
use Rattle.tickets.specs.PairWords.{PAIR_WORDS, pair_words}
use Rattle.tickets.specs.Ticket.{spot_of, asked}
use Rattle.paging.specs.Page.{remains}
use Rattle.laws.proofs.First.{first_in, first_failed, first_from, first_earlier}
use Rattle.tickets.proofs.Places.{Past}
use Rattle.tickets.proofs.Groups.{rest_of, group_past}
use Rattle.pairs.specs.Private.Sweep.{Placed, Running, run_end, stretch, starts_from, from_start, served_group}
use Rattle.pairs.proofs.Accepted.{accepted}
use Rattle.pairs.proofs.Children.{node_pair, even_at}
use Rattle.pairs.proofs.ListingGroups.{rising, matches_rise, rest_group}
use Rattle.pairs.proofs.Running.{first_after_lem, match_append, match_after, running_run, running_from, end_from, end_in, none_match}
use Rattle.pairs.proofs.Stretches.{stretch_ahead, ahead_in, served_as}

every_two_take : (R : Node → Node → Type 0) (n : ℕ) (xs : List Node) → EveryTwo R xs → EveryTwo R (take n xs)
every_two_take R zero xs h = tt
every_two_take R (suc n) [] h = tt
every_two_take R (suc n) (x ∷ xs) h = (take_all_of (R x) n xs h.0, every_two_take R n xs h.1)

-- Nodes that all start late enough are left as they are.
from_all : (past : ℕ) (zs : List Node) → All (λ z. leb past z.start ≡ true) zs → from_start past zs ≡ zs
unfolding from_start first_at
from_all past [] h = refl
from_all past (z ∷ zs) h = rw h.0 refl

-- Where the starts of nodes rise, a test and a cut at a start can be applied in either order.
keep_from : (test : Node → Bool) (past : ℕ) (zs : List Node) → EveryTwo (λ y z. y.start < z.start) zs
    → keep test (from_start past zs) ≡ from_start past (keep test zs)
unfolding from_start first_at keep
keep_from test past [] h = refl
keep_from test past (z ∷ zs) h =
    elim (either (leb past z.start)) [
      | inl t ↦ rw t (sym (from_all past (keep test (z ∷ zs)) (keep_all_of (λ y. leb past y.start ≡ true) test (z ∷ zs)
          (t, all_map (λ y s. le-leb past y.start (let l : past ≤ z.start = leb-true _ _ t in omega arith)) zs h.0))))
      | inr t ↦ rw t (keep_from test past zs h.1 ∙ elim (either (test z)) [ inl u ↦ rw (u, t) refl | inr u ↦ rw u refl ])
    ]

module _ (ws : List ℕ) (a : Node) where
  -- What matches lies in the run.
  run_matches : (relation : Relation) (from to : ℕ) → Running ws a (from / 4) → to / 4 ≡ run_end ws a (from / 4)
      → matches (asked relation Ancestor) a (drop (from / 4) (nodes ws)) ≡ matches (asked relation Ancestor) a (stretch ws from to)
  run_matches relation from to r q =
      let zs : List Node = drop (from / 4) (nodes ws) in
      let n : ℕ = to / 4 - from / 4 in
      let e : from / 4 + n ≡ to / 4 = omega arith in
      let rest : drop n zs ≡ drop (to / 4) (nodes ws) = drop-drop n (from / 4) (nodes ws) ∙ ap (λ i. drop i (nodes ws)) e in
      let none : matches (asked relation Ancestor) a (drop n zs) ≡ [] =
      ap (matches (asked relation Ancestor) a) rest ∙ none_match ws a relation (from / 4) (to / 4) r (omega arith) in
      ap (matches (asked relation Ancestor) a) (sym (take-append-drop n zs)) ∙ match_append a relation (take n zs) (drop n zs)
      ∙ ap (λ ms. matches (asked relation Ancestor) a (take n zs) ++ ms) none ∙ append-nil _

  run_rises : (from to : ℕ) → Running ws a (from / 4) → to / 4 ≡ run_end ws a (from / 4) → EveryTwo (λ y z. y.start < z.start) (stretch ws from to)
  run_rises from to r q =
      let zs : List Node = drop (from / 4) (nodes ws) in
      let width : to / 4 - from / 4 ≡ first_at (λ d. not (openb d a)) zs = omega arith in
      subst (λ n. EveryTwo (λ y z. y.start < z.start) (take n zs)) (sym width)
      (rising a (take (first_at (λ d. not (openb d a)) zs) zs) (every_two_take Fine (first_at (λ d. not (openb d a)) zs) zs (running_run ws a (from / 4) r).pairs)
      (all_map (λ z o. (open_read z a (not_none _ o)).document) (take (first_at (λ d. not (openb d a)) zs) zs) (first_failed (λ d. not (openb d a)) zs)))

  -- From the first descendant of the run that starts late enough on lies what is left of what
  -- matches.
  run_ahead : (relation : Relation) (from to ahead past : ℕ) → Running ws a (from / 4) → to / 4 ≡ run_end ws a (from / 4)
      → Running ws a (ahead / 4) → to / 4 ≡ run_end ws a (ahead / 4) → ahead / 4 ≡ first_at (starts_from past) (stretch ws from to) + from / 4
      → matches (asked relation Ancestor) a (drop (ahead / 4) (nodes ws)) ≡ from_start past (matches (asked relation Ancestor) a (drop (from / 4) (nodes ws)))
  unfolding matches
  run_ahead relation from to ahead past r q r' q' e =
      run_matches relation ahead to r' q' ∙ ap (matches (asked relation Ancestor) a) (stretch_ahead ws from to ahead past e)
      ∙ keep_from (λ n. relatedb relation (pair_of Ancestor a n)) past (stretch ws from to) (run_rises from to r q)
      ∙ ap (from_start past) (sym (run_matches relation from to r q))

  -- The run of an ancestor that is open there, and what is left of it from the first that starts
  -- late enough on.
  module _ (from to ahead past : ℕ) (x : Node) (p : Placed ws from) (r : Running ws a (from / 4)) (q : x ≡ a) (m : to % 4 ≡ 0)
      (e : to / 4 ≡ run_end ws x (from / 4)) where
    end_at : to / 4 ≡ run_end ws a (from / 4)
    end_at = e ∙ ap (λ z. run_end ws z (from / 4)) q

    pub end_placed : Placed ws to × (from ≤ to)
    end_placed = let h = end_in ws a (from / 4) (omega (arith, p)) in ((p.0, m, omega (arith, p, end_at)), omega (arith, p, end_at))

    pub ahead_placed : (n : ahead % 4 ≡ 0) → ahead / 4 ≡ first_at (starts_from past) (stretch ws from to) + from / 4
        → Placed ws ahead × Running ws a (ahead / 4) × (to / 4 ≡ run_end ws a (ahead / 4))
    ahead_placed n s =
        let t = end_placed in
        let h = ahead_in ws from to ahead past s t.1 m n in
        let i = t.0 in
        let l : from / 4 ≤ ahead / 4 = omega arith in (
          (p.0, n, omega (arith, i)),
          running_from ws a (from / 4) (ahead / 4) l (omega (arith, i)) r,
          end_at ∙ sym (end_from ws a (from / 4) (ahead / 4) l (omega (arith, end_at))),
        )

    -- So serving what matches from there on serves what is left of what matches.
    pub serve_run : (relation : Relation) (n : ahead % 4 ≡ 0) → ahead / 4 ≡ first_at (starts_from past) (stretch ws from to) + from / 4
        → (out : List ℕ) (written : ℕ) {r : List ℕ × ℕ × Bool}
        → r ≡ served_group Ancestor out written a (matches (asked relation Ancestor) a (drop (ahead / 4) (nodes ws)))
        → r ≡ served_group Ancestor out written a (from_start past (matches (asked relation Ancestor) a (drop (from / 4) (nodes ws))))
    serve_run relation n s out written h =
        let t = ahead_placed n s in
        served_as Ancestor out written a h (run_ahead relation from to ahead past r end_at t.1 t.2 s)

-- A sweep along the ancestors stands at one: no descendant before an index stands after it.
abbrev pub Reached : List ℕ → List ℕ → ℕ → ℕ → Type 0
Reached as' ws i from = i < count as' → from ≤ first_at (λ d. afterb d (node_at as' i)) (nodes ws)

module _ (as' ws : List ℕ) (taken : (check_two as' ws).answer ≡ TAKEN) where
  -- The ancestors alone are accepted, and both lists are of whole nodes.
  pub first_taken : ((check_words as').answer ≡ TAKEN) × (length as' % 4 ≡ 0) × (length ws % 4 ≡ 0)
  first_taken =
      let t = (two_taken_iff as' ws).0 taken in
      (t.0, ((words_taken_iff as').0 t.0).0, ((words_taken_iff ws).0 t.1).0)

  module _ (i from to : ℕ) (a : Node) (l : i < count as') (q : a ≡ node_at as' i) (p : Reached as' ws i from)
      (e : to ≡ first_at (λ d. afterb d a) (drop from (nodes ws)) + from) where
    -- The search from the index on finds the first descendant after the ancestor.
    pub found : to ≡ first_at (λ d. afterb d (node_at as' i)) (nodes ws)
    found =
        e ∙ ap (λ n. first_at (λ d. afterb d n) (drop from (nodes ws)) + from) q ∙ first_from (λ d. afterb d (node_at as' i)) from (nodes ws) (p l)

    pub sweep_running : Running ws (node_at as' i) to
    sweep_running =
        let t = ((two_taken_iff as' ws).0 taken).1 in
        let w = (words_taken_iff ws).0 t in
        record {
          accepted = t;
          whole = w.0;
          even = even_at as' ws taken i l;
          from_in = omega (arith, found, first_in (λ d. afterb d (node_at as' i)) (nodes ws), length_nodes ws);
          after = rw found (first_after_lem (node_at as' i) (nodes ws) w.3);
        }

    -- Each later ancestor stands after this one.
    pub sweep_next : (j : ℕ) → i < j → Reached as' ws j to
    sweep_next j s m =
        let fine : Fine (node_at as' i) (node_at as' j) = node_pair as' Fine i j s m (accepted as' ws taken).fine_as in
        rw found
        (first_earlier (λ d. afterb d (node_at as' i)) (λ d. afterb d (node_at as' j)) (λ d h. after_trans d (node_at as' j) (node_at as' i) h fine.after) (nodes ws))

    -- What remains of this ancestor's group comes next.
    sweep_group : (relation : Relation) (place : Place) (past j : ℕ) → Past place past (node_at as' i) → j ≡ i + 1
        → rest_of relation Ancestor place (drop i (nodes as')) (nodes ws)
        ≡ group Ancestor (node_at as' i) (from_start past (matches (asked relation Ancestor) (node_at as' i) (drop to (nodes ws))))
        ++ rest_of relation Ancestor place (drop j (nodes as')) (nodes ws)
    unfolding from_start
    sweep_group relation place past j h s =
        let x = node_at as' i in
        let later = drop (i + 1) (nodes as') in
        let ms : List Node = matches (asked relation Ancestor) x (nodes ws) in
        let mine : remains (sort_key Ancestor) (spot_of place) (group Ancestor x ms) ≡ group Ancestor x (drop (first_at (starts_from past) ms) ms) =
        group_past Ancestor place past x ms h (matches_rise relation Ancestor x (nodes ws) (accepted as' ws taken).fine_ds) in
        rw (s, found, match_after x relation (nodes ws), nodes_from_lem as' i l)
        (rest_group relation Ancestor x place later (nodes ws) ∙ ap (λ ps. ps ++ rest_of relation Ancestor place later (nodes ws)) mine)

    -- So a group that found room leaves those after it to serve, and one that didn't ends the page.
    pub sweep_on : (relation : Relation) (place : Place) (past j : ℕ) → Past place past (node_at as' i) → j ≡ i + 1 → (out : List ℕ) (n : ℕ) {o : List ℕ} {d : ℕ} {b : Bool} {whole : List ℕ × ℕ × Bool}
        → (o, d, b) ≡ served_group Ancestor out n (node_at as' i) (from_start past (matches (asked relation Ancestor) (node_at as' i) (drop to (nodes ws)))) → b ≡ true
        → serve pair_words PAIR_WORDS out n (rest_of relation Ancestor place (drop i (nodes as')) (nodes ws)) ≡ whole → serve pair_words PAIR_WORDS o d (rest_of relation Ancestor place (drop j (nodes as')) (nodes ws)) ≡ whole
    sweep_on relation place past j h q out n s t e = left_on pair_words PAIR_WORDS out n _ _ s t (sweep_group relation place past j h q) e

    pub sweep_stop : (relation : Relation) (place : Place) (past j : ℕ) → Past place past (node_at as' i) → j ≡ i + 1 → (out : List ℕ) (n : ℕ) {o : List ℕ} {d : ℕ} {b : Bool} {whole : List ℕ × ℕ × Bool}
        → (o, d, b) ≡ served_group Ancestor out n (node_at as' i) (from_start past (matches (asked relation Ancestor) (node_at as' i) (drop to (nodes ws)))) → b ≡ false
        → serve pair_words PAIR_WORDS out n (rest_of relation Ancestor place (drop i (nodes as')) (nodes ws)) ≡ whole → (o, d, b) ≡ whole
    sweep_stop relation place past j h q out n s t e = left_stop pair_words PAIR_WORDS out n _ _ s t (sweep_group relation place past j h q) e
