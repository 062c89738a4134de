-- Why it holds: A child of an ancestor lies in its run and is one level deeper. What a zone after
-- it holds lies deeper still, so it is passed unseen.
-- What would break it: A child passed over with an inner zone, or a grandchild taken for a child,
-- would be caught here.
use mathlib.Core.Path.{◌≡◌, refl, ap, sym, subst, ◌∙◌}
use mathlib.Core.Logic.{inl, inr, ⊎_elim}
use mathlib.Core.Bool.{true, false, Bool}
use mathlib.Core.List.{List, [], ◌∷◌, ◌++◌, map-append}
use Prim.Native.Nat.{ℕ, zero, suc, ◌+◌, ◌-◌, ◌/◌, ◌%◌, ◌≤◌, ◌<◌}
use native.Mathlib.Omega.{arith}
use lib.Dec.{ltb}
use lib.ListN.{length, drop}
use borrow.Author.Tests.{ltb-true, ltb-false}
use Rattle.nodes.specs.declared.node.Node.{Node}
use Rattle.answers.specs.Answer.{TAKEN}
use Rattle.laws.specs.Choose.{All, EveryTwo, keep}
use Rattle.nodes.specs.Node.{insideb, directlyb, afterb, MOST_LEVELS}
use Rattle.nodes.specs.Words.{node, nodes, count, node_at}
use Rattle.laws.proofs.Choices.{all_map, keep_failed, all_at, every_two_at, every_two_drop}
use Rattle.nodes.proofs.NodeLaws.{within, directly_inside, directly_make, inside_after, after_trans}
use Rattle.laws.proofs.Tests.{either, not_so}
use Rattle.nodes.proofs.WordLaws.{length_nodes, nodes_from_lem, nodes_beyond}
use Rattle.lists.specs.Two.{oddsb, check_two}
use Rattle.lists.proofs.Faults.{Sound}
use Rattle.lists.proofs.Merging.{even_fine}
use Rattle.lists.proofs.Pairing.{two_taken_iff}
use Rattle.lists.proofs.Taken.{Fine, nested_read, fine_settles, words_taken_iff}
use Rattle.paging.specs.Private.Serve.{serve}
use Rattle.paging.proofs.Serving.{left_on, left_stop}
use Rattle.tickets.specs.declared.ticket.Order.TheVariants.{Ancestor}
use Rattle.tickets.specs.declared.ticket.Relation.TheVariants.{Directly}
use Rattle.tickets.specs.Listing.{relatedb, pair_of}
use Rattle.tickets.specs.Private.Group.{group, matches}
use Rattle.tickets.specs.PairWords.{PAIR_WORDS, pair_words}
use Rattle.tickets.specs.Ticket.{asked}
use Rattle.pairs.specs.Private.Sweep.{Placed, stretch, Running, Further, runningb, run_end, served_group}
use Rattle.pairs.proofs.Accepted.{Accepted, accepted}
use Rattle.pairs.proofs.Running.{running_from, end_from, inside_run, further_next}
use Rattle.pairs.proofs.Stretches.{stretch_next, stretch_none}

-- What holds of all nodes of the words, or of all pairs of them, holds at each index.
pub node_all : (ws : List ℕ) (P : Node → Type 0) (i : ℕ) → i < count ws → All P (nodes ws) → P (node_at ws i)
unfolding node_at
node_all ws P i l h = all_at P (nodes ws) i (node 0 0 0 0) (omega (arith, length_nodes ws)) h

pub node_pair : (ws : List ℕ) (R : Node → Node → Type 0) (k i : ℕ) → k < i → i < count ws → EveryTwo R (nodes ws) → R (node_at ws k) (node_at ws i)
unfolding node_at
node_pair ws R k i m l h = every_two_at R (nodes ws) k i (node 0 0 0 0) m (omega (arith, length_nodes ws)) h

-- No followers make no group.
pub group_none : (a : Node) {ns : List Node} → ns ≡ [] → group Ancestor a ns ≡ []
unfolding group
group_none a q = rw q refl

module _ (ws : List ℕ) (a : Node) where
  -- Descendants of which none is a child are passed.
  none_from : (n k r : ℕ) → k + n ≡ r → ((j : ℕ) → k ≤ j → j < r → directlyb (node_at ws j) a ≡ false)
      → matches (asked Directly Ancestor) a (drop k (nodes ws)) ≡ matches (asked Directly Ancestor) a (drop r (nodes ws))
  unfolding matches relatedb pair_of keep
  none_from zero k r q f = let e : k ≡ r = omega arith in ap (λ i. keep (λ d. directlyb d a) (drop i (nodes ws))) e
  none_from (suc n) k r q f =
      elim (either (ltb k (count ws))) [
        | inl t ↦ ap (keep (λ d. directlyb d a)) (nodes_from_lem ws k (ltb-true _ _ t))
            ∙ keep_failed (λ d. directlyb d a) (node_at ws k) (drop (k + 1) (nodes ws)) (f k (omega arith) (omega arith))
            ∙ none_from n (k + 1) r (omega arith) (λ j l m. f j (omega arith) m)
        | inr t ↦ let h : count ws ≤ k = ltb-false _ _ t in rw (nodes_beyond ws k h, nodes_beyond ws r (omega arith)) refl
      ]

  none_passed : (k r : ℕ) → k ≤ r → ((j : ℕ) → k ≤ j → j < r → directlyb (node_at ws j) a ≡ false)
      → matches (asked Directly Ancestor) a (drop k (nodes ws)) ≡ matches (asked Directly Ancestor) a (drop r (nodes ws))
  none_passed k r h f = none_from (r - k) k r (omega arith) f

  -- A descendant of the run that is one level deeper comes first of what is left.
  child_next : (k m : ℕ) (d : Node) → Running ws a k → k < count ws → k < run_end ws a k → d ≡ node_at ws k → d.level ≡ a.level + 1 → m ≡ k + 1
      → matches (asked Directly Ancestor) a (drop k (nodes ws)) ≡ (node_at ws k ∷ []) ++ matches (asked Directly Ancestor) a (drop m (nodes ws))
  unfolding matches relatedb pair_of keep
  child_next k m d r l h q e s =
      let t : directlyb (node_at ws k) a ≡ true = directly_make (node_at ws k) a (inside_run ws a k k r (omega arith) h) (rw (← q) e) in
      rw (nodes_from_lem ws k l, t, s) refl

  -- A descendant that isn't one level deeper is no child.
  not_deeper : (d : Node) → (d.level ≡ a.level + 1 → ⊥) → directlyb d a ≡ false
  not_deeper d n = not_so (λ h. n (directly_inside d a h).1)

  -- The same with places in words: the child's group comes first of what is left.
  child_group : (from k level : ℕ) (d : Node) → Placed ws k → k < length ws → Running ws a (from / 4) → from ≤ k → k / 4 < run_end ws a (from / 4)
      → d ≡ node_at ws (k / 4) → d.level ≡ level → level ≡ a.level + 1
      → group Ancestor a (matches (asked Directly Ancestor) a (drop (k / 4) (nodes ws)))
      ≡ group Ancestor a (stretch ws k (k + 4)) ++ group Ancestor a (matches (asked Directly Ancestor) a (drop ((k + 4) / 4) (nodes ws)))
  unfolding group
  child_group from k level d p l r h e q u v =
      let ms : List Node = matches (asked Directly Ancestor) a (drop ((k + 4) / 4) (nodes ws)) in
      let one : stretch ws k (k + 4) ≡ node_at ws (k / 4) ∷ [] =
      stretch_next ws k (k + 4) p (p.0, omega (arith, p), omega (arith, p)) (omega arith)
      ∙ ap (λ ns. node_at ws (k / 4) ∷ ns) (stretch_none ws (k + 4) (k + 4) (omega arith)) in
      let same = end_from ws a (from / 4) (k / 4) (omega arith) (omega arith) in
      ap (group Ancestor a)
      (child_next (k / 4) ((k + 4) / 4) d (running_from ws a (from / 4) (k / 4) (omega arith) (omega (arith, p)) r) (omega (arith, p)) (omega (arith, same)) q
      (omega arith) (omega arith))
      ∙ map-append (pair_of Ancestor a) (node_at ws (k / 4) ∷ []) ms ∙ ap (λ ns. group Ancestor a ns ++ group Ancestor a ms) (sym one)

  -- A group that found room leaves those after it to serve, and one that didn't ends the page.
  pub child_on : (from k level : ℕ) (d : Node) → Placed ws k → k < length ws → Running ws a (from / 4) → from ≤ k
      → k / 4 < run_end ws a (from / 4) → d ≡ node_at ws (k / 4) → d.level ≡ level → level ≡ a.level + 1 → (out : List ℕ) (n : ℕ) {o : List ℕ} {m : ℕ} {b : Bool} {whole : List ℕ × ℕ × Bool}
      → (o, m, b) ≡ served_group Ancestor out n a (stretch ws k (k + 4)) → b ≡ true
      → serve pair_words PAIR_WORDS out n (group Ancestor a (matches (asked Directly Ancestor) a (drop (k / 4) (nodes ws)))) ≡ whole → serve pair_words PAIR_WORDS o m (group Ancestor a (matches (asked Directly Ancestor) a (drop ((k + 4) / 4) (nodes ws)))) ≡ whole
  child_on from k level d p l r h e q u v out n s t w = left_on pair_words PAIR_WORDS out n _ _ s t (child_group from k level d p l r h e q u v) w

  pub child_stop : (from k level : ℕ) (d : Node) → Placed ws k → k < length ws → Running ws a (from / 4) → from ≤ k
      → k / 4 < run_end ws a (from / 4) → d ≡ node_at ws (k / 4) → d.level ≡ level → level ≡ a.level + 1 → (out : List ℕ) (n : ℕ) {o : List ℕ} {m : ℕ} {b : Bool} {whole : List ℕ × ℕ × Bool}
      → (o, m, b) ≡ served_group Ancestor out n a (stretch ws k (k + 4)) → b ≡ false
      → serve pair_words PAIR_WORDS out n (group Ancestor a (matches (asked Directly Ancestor) a (drop (k / 4) (nodes ws)))) ≡ whole → (o, m, b) ≡ whole
  child_stop from k level d p l r h e q u v out n s t w = left_stop pair_words PAIR_WORDS out n _ _ s t (child_group from k level d p l r h e q u v) w

module _ (as' ws : List ℕ) (taken : (check_two as' ws).answer ≡ TAKEN) where
  -- One more than a level is a number of 32 bits.
  pub level_fits : (i : ℕ) (x : Node) → i < count as' → x ≡ node_at as' i → x.level ≤ MOST_LEVELS
  level_fits i x l q = rw q (node_all as' Sound i l (accepted as' ws taken).sound_as).highest

  pub even_at : (z : ℕ) → z < count as' → All (λ d. oddsb (node_at as' z) d ≡ false) (nodes ws)
  even_at z l = node_all as' (λ x. All (λ d. oddsb x d ≡ false) (nodes ws)) z l (accepted as' ws taken).even

  -- If a descendant stands after a zone, so do all descendants from there on.
  zone_running : (z k : ℕ) (x d : Node) → z < count as' → k < count ws → x ≡ node_at as' z → d ≡ node_at ws k → afterb d x ≡ true → Running ws x k
  zone_running z k x d l m p q h =
      let t = ((two_taken_iff as' ws).0 taken).1 in
      let w = (words_taken_iff ws).0 t in
      let e = nodes_from_lem ws k m in
      let f = subst (EveryTwo Fine) e (every_two_drop Fine k (nodes ws) w.3) in
      let g : afterb (node_at ws k) x ≡ true = rw (← q) h in
      record {
        accepted = t;
        whole = w.0;
        even = rw p (even_at z l);
        from_in = omega arith;
        after = rw e (g, all_map (λ n s. after_trans n (node_at ws k) x s.after g) (drop (k + 1) (nodes ws)) f.0);
      }

  -- What lies inside a later zone lies too deep to be a child.
  no_child : (i z j : ℕ) → i < z → z < count as' → j < count ws → insideb (node_at ws j) (node_at as' z) ≡ true
      → directlyb (node_at ws j) (node_at as' i) ≡ false
  no_child i z j l m n h =
      not_so (λ c.
      let p = directly_inside d a c in
      let wz = within d x h in
      let wa = within d a p.0 in
      ⊎_elim (λ q. omega (arith, sd.span))
      (λ q. let lower = (nested_read x a q).1 in
      ⊎_elim (λ r. omega (arith, sd.span)) (λ r. let deeper = (nested_read d x r).1 in let level = p.1 in omega arith)
      (fine_settles d x sd.span (even_fine x d (inside_after d x h) (node_all ws (λ e. oddsb x e ≡ false) j n (even_at z m))) (sym wz.document)))
      (fine_settles x a (node_all as' Sound z m both.sound_as).span (node_pair as' Fine i z l m both.fine_as) (omega arith)))
    where
      a : Node
      a = node_at as' i

      x : Node
      x = node_at as' z

      d : Node
      d = node_at ws j

      both : Accepted (nodes as') (nodes ws)
      both = accepted as' ws taken

      sd : Sound d
      sd = node_all ws Sound j n both.sound_ds

  -- A zone that is open at a descendant after it holds those up to a place further on.
  module _ (zone k : ℕ) (x d : Node) (l : zone / 4 < count as') (m : k / 4 < count ws) (p : x ≡ node_at as' (zone / 4)) (q : d ≡ node_at ws (k / 4))
      (h : afterb d x ≡ true) where
    pub held_running : Running ws x ((k + 4) / 4)
    held_running = running_from ws x (k / 4) ((k + 4) / 4) (omega arith) (omega arith) (zone_running (zone / 4) (k / 4) x d l m p q h)

    -- Where its run goes on there, it holds the next one too.
    pub two_held : k % 4 ≡ 0 → runningb ws x ((k + 4) / 4) ≡ true → Further ws x (k + 4) (k + 4 + 4)
    two_held e r = further_next ws x (k + 4) (k + 4) (k + 4 + 4) (omega (arith, e)) (omega (arith, e)) (omega arith) (omega arith) held_running r

    pub held : (r : ℕ) → Further ws x (k + 4) r → (j : ℕ) → k / 4 < j → j < r / 4
        → (zone / 4 < count as') × (insideb (node_at ws j) (node_at as' (zone / 4)) ≡ true)
    held r f j a b =
        let e = f.3 in
        (l, subst (λ n. insideb (node_at ws j) n ≡ true) p (inside_run ws x ((k + 4) / 4) j held_running (omega arith) (omega arith)))

  -- So a descendant that isn't one level deeper is passed with what the zone after it holds.
  pub inner_passed : (i zone k next level : ℕ) (d : Node) → i / 4 < zone / 4 → k < next → Placed ws next → d ≡ node_at ws (k / 4)
      → (d.level ≡ level → ⊥) → level ≡ (node_at as' (i / 4)).level + 1
      → ((j : ℕ) → k / 4 < j → j < next / 4 → (zone / 4 < count as') × (insideb (node_at ws j) (node_at as' (zone / 4)) ≡ true))
      → matches (asked Directly Ancestor) (node_at as' (i / 4)) (drop (k / 4) (nodes ws)) ≡ matches (asked Directly Ancestor) (node_at as' (i / 4)) (drop (next / 4) (nodes ws))
  inner_passed i zone k next level d l h p q n v f = none_passed ws (node_at as' (i / 4)) (k / 4) (next / 4) (omega arith) none
    where
      none : (j : ℕ) → k / 4 ≤ j → j < next / 4 → directlyb (node_at ws j) (node_at as' (i / 4)) ≡ false
      none j a b =
          elim (either (ltb (k / 4) j)) [
            | inl t ↦ let g = f j (ltb-true _ _ t) b in no_child (i / 4) (zone / 4) j l g.0 (omega (arith, p)) g.1
            | inr t ↦ let c : j ≤ k / 4 = ltb-false _ _ t in
                let e : k / 4 ≡ j = omega arith in
                not_deeper ws (node_at as' (i / 4)) (node_at ws j) (λ u. n (omega (arith, ap (λ (x : Node). x.level) q, ap (λ m. (node_at ws m).level) e)))
          ]
