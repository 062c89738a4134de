-- Why it holds: A zone stands once in its list. So in either order the pairs with it as ancestor
-- are those with each sample in turn, and the listed ones are those with the samples inside it. A
-- sample's node stands once too, so its word is found by its node.
-- What would break it: A row over other samples than those of the zone's pairs would be caught
-- here, in either order.
use mathlib.Core.Path.{◌≡◌, refl, ap, sym, subst, ◌∙◌}
use mathlib.Core.Logic.{inl, inr}
use mathlib.Core.Bool.{Bool, true, false}
use mathlib.Core.List.{List, [], ◌∷◌, ◌++◌, map, append-nil}
use Prim.Native.Nat.{ℕ, zero, suc, ◌<◌}
use native.Mathlib.Nat.{not-suc-le-zero}
use native.Mathlib.Omega.{arith}
use lib.ListN.{length, get_or}
use Rattle.answers.specs.Answer.{TAKEN}
use Rattle.laws.specs.Choose.{All, EveryTwo, keep}
use Rattle.laws.proofs.Choices.{all_at, all_map, all_mapped, all_of, every_two_map, keep_all, keep_all_of, keep_append, keep_mapped, keep_none, keep_swapped}
use Rattle.laws.proofs.Tests.{either, never, not_so}
use Rattle.nodes.specs.declared.node.Node.{Node}
use Rattle.nodes.specs.Node.{insideb, afterb, sameb}
use Rattle.nodes.specs.Words.{node, nodes, node_at, count}
use Rattle.nodes.proofs.NodeLaws.{after_self, same_read, same_self}
use Rattle.nodes.proofs.WordLaws.{length_nodes}
use Rattle.lists.specs.Check.{check_words}
use Rattle.lists.proofs.Pairing.{two_taken_iff}
use Rattle.lists.proofs.Taken.{words_taken_iff}
use Rattle.tickets.specs.declared.ticket.Order.{Order}
use Rattle.tickets.specs.declared.ticket.Order.TheVariants.{Descendant, Ancestor}
use Rattle.tickets.specs.declared.ticket.Relation.TheVariants.{Inside}
use Rattle.tickets.specs.Listing.{Pair, relatedb, leaders, followers, pair_of, every_pair, listing}
use Rattle.tickets.specs.Ticket.{asked}
use Rattle.sheets.specs.Demanded.{AcceptedSheet, subtotal_in, zone_pairs, word_for, descendants_of}
use Rattle.sheets.specs.Sheet.{LabSample, inside_zone, subtotal_over, sheet_samples, sheet_output}
use Rattle.sheets.proofs.Answered.{accepted_iff}
use Rattle.sheets.proofs.LabSamples.{lab_nodes, lab_nodes_lem}
use Rattle.sheets.proofs.Rows.{row_told}

-- Each node stands after all before it in the list.
abbrev NodesAscend : List Node → Type 0
NodesAscend ns = EveryTwo (λ e n. afterb n e ≡ true) ns

after_differs : (n e : Node) → afterb n e ≡ true → sameb e n ≡ false
after_differs n e h = not_so (λ s. never (subst (λ m. afterb n m ≡ true) (same_read e n s) h) (after_self n))

after_differs_too : (n e : Node) → afterb n e ≡ true → sameb n e ≡ false
after_differs_too n e h = not_so (λ s. never (subst (λ m. afterb m e ≡ true) (same_read n e s) h) (after_self e))

-- A node of an ascending list stands in it once.
stands_once : (ns : List Node) (i : ℕ) (d : Node) → i < length ns → NodesAscend ns → keep (λ n. sameb n (get_or ns i d)) ns ≡ get_or ns i d ∷ []
unfolding keep
stands_once [] i d l h = absurd (not-suc-le-zero l)
stands_once (n ∷ ns) zero d l h =
    rw (same_self n) (ap (λ ms. n ∷ ms) (keep_none (λ m. sameb m n) ns (all_map (λ m a. after_differs_too m n a) ns h.0)))
stands_once (n ∷ ns) (suc i) d l h =
    let k : i < length ns = omega arith in
    rw (after_differs (get_or ns i d) n (all_at (λ m. afterb m n ≡ true) ns i d k h.0)) (stands_once ns i d k h.1)

-- The pair of a zone and a node.
abbrev zone_pair : Node → Node → Pair
zone_pair zone n = record { ancestor = zone; descendant = n }

module _ (zone : Node) where
  abbrev of_zone : Pair → Bool
  of_zone p = sameb p.ancestor zone

  -- Among every pair, those of the zone are those that are made with it alone.
  by_ancestor : (xs ds : List Node) → keep of_zone (every_pair Ancestor xs ds) ≡ every_pair Ancestor (keep (λ x. sameb x zone) xs) ds
  unfolding every_pair pair_of keep
  by_ancestor [] ds = refl
  by_ancestor (x ∷ xs) ds =
      let group = map (pair_of Ancestor x) ds in
      let apart = keep_append of_zone group (every_pair Ancestor xs ds) in
      let r = by_ancestor xs ds in
      elim (either (sameb x zone)) [
        | inl h ↦ rw h (apart ∙ λ t. keep_all of_zone group (all_mapped (pair_of Ancestor x) _ ds (all_of (λ d. h) ds)) t ++ r t)
        | inr h ↦ rw h (apart ∙ λ t. keep_none of_zone group (all_mapped (pair_of Ancestor x) _ ds (all_of (λ d. h) ds)) t ++ r t)
      ]

  by_descendant : (ds xs : List Node) → keep of_zone (every_pair Descendant ds xs) ≡ every_pair Descendant ds (keep (λ x. sameb x zone) xs)
  unfolding every_pair pair_of keep
  by_descendant [] xs = refl
  by_descendant (d ∷ ds) xs =
      keep_append of_zone (map (pair_of Descendant d) xs) (every_pair Descendant ds xs)
      ∙ λ t. keep_mapped (pair_of Descendant d) of_zone xs t ++ by_descendant ds xs t

  -- With the zone as the only ancestor, these are it with each descendant in turn.
  one_descendant : (ds : List Node) → every_pair Descendant ds (zone ∷ []) ≡ map (zone_pair zone) ds
  unfolding every_pair pair_of
  one_descendant [] = refl
  one_descendant (d ∷ ds) = ap (λ ps. zone_pair zone d ∷ ps) (one_descendant ds)

  pairs_made : (order : Order) (xs ds : List Node) → keep (λ x. sameb x zone) xs ≡ zone ∷ []
      → keep of_zone (every_pair order (leaders order xs ds) (followers order xs ds)) ≡ map (zone_pair zone) ds
  unfolding leaders followers every_pair pair_of
  pairs_made Descendant xs ds h = by_descendant ds xs ∙ ap (every_pair Descendant ds) h ∙ one_descendant ds
  pairs_made Ancestor xs ds h = by_ancestor xs ds ∙ ap (λ ys. every_pair Ancestor ys ds) h ∙ append-nil (map (zone_pair zone) ds)

  -- The zone's pairs in the listing are it with the descendants inside it.
  pairs_listed : (order : Order) (xs ds : List Node) → keep (λ x. sameb x zone) xs ≡ zone ∷ []
      → zone_pairs zone (listing (asked Inside order) xs ds) ≡ map (zone_pair zone) (keep (λ d. insideb d zone) ds)
  unfolding zone_pairs listing relatedb
  pairs_listed order xs ds h =
      keep_swapped of_zone (relatedb Inside) (every_pair order (leaders order xs ds) (followers order xs ds))
      ∙ ap (keep (relatedb Inside)) (pairs_made order xs ds h)
      ∙ keep_mapped (zone_pair zone) (relatedb Inside) ds

-- A sample's word is found by its node, where the nodes ascend.
later_words : (s : LabSample) (ss ts : List LabSample) → All (λ n. afterb n s.node ≡ true) (lab_nodes ts)
    → All (λ t. word_for ss t.node ≡ t.word) ts
    → All (λ t. word_for (s ∷ ss) t.node ≡ t.word) ts
unfolding word_for
later_words s ss [] a w = tt
later_words s ss (t ∷ ts) a w = (rw (after_differs t.node s.node a.0) w.0, later_words s ss ts a.1 w.1)

word_found : (ss : List LabSample) → NodesAscend (lab_nodes ss) → All (λ s. word_for ss s.node ≡ s.word) ss
unfolding word_for
word_found [] h = tt
word_found (s ∷ ss) h = (rw (same_self s.node) refl, later_words s ss ss h.0 (word_found ss h.1))

-- So the descendants of a zone's pairs, each with its word, are the samples.
found_samples : (zone : Node) (ss ts : List LabSample) → All (λ t. word_for ss t.node ≡ t.word) ts
    → descendants_of ss (map (zone_pair zone) (lab_nodes ts)) ≡ ts
unfolding descendants_of
found_samples zone ss [] h = refl
found_samples zone ss (t ∷ ts) h = λ k. record { node = t.node; word = h.0 k } ∷ found_samples zone ss ts h.1 k

inside_listed : (order : Order) (zone : Node) (xs : List Node) (ss : List LabSample)
    → keep (λ x. sameb x zone) xs ≡ zone ∷ [] → NodesAscend (lab_nodes ss)
    → descendants_of ss (zone_pairs zone (listing (asked Inside order) xs (lab_nodes ss))) ≡ inside_zone zone ss
unfolding inside_zone
inside_listed order zone xs ss once ascends =
    ap (descendants_of ss)
    (pairs_listed zone order xs (lab_nodes ss) once ∙ ap (map (zone_pair zone)) (keep_mapped (λ s. s.node) (λ n. insideb n zone) ss))
    ∙ found_samples zone ss (inside_zone zone ss)
    (keep_all_of (λ s. word_for ss s.node ≡ s.word) (λ s. insideb s.node zone) ss (word_found ss ascends))

-- The nodes of an accepted list ascend.
taken_ascends : (ws : List ℕ) → (check_words ws).answer ≡ TAKEN → NodesAscend (nodes ws)
taken_ascends ws h = every_two_map (λ e n f. f.after) (nodes ws) ((words_taken_iff ws).0 h).3

module _ (zones samples hundredths out : List ℕ) (accepted : AcceptedSheet zones samples hundredths out)
    (order : Order) (i : ℕ) (there : i < count zones) where
  abbrev ss : List LabSample
  ss = sheet_samples samples hundredths

  abbrev pairs : List Pair
  pairs = zone_pairs (node_at zones i) (listing (asked Inside order) (nodes zones) (nodes samples))

  -- The samples inside a zone are the descendants of its pairs,
  pub inside_zone_lem : inside_zone (node_at zones i) ss ≡ descendants_of ss pairs
  unfolding node_at
  inside_zone_lem =
      let p = (accepted_iff zones samples hundredths out).0 accepted in
      let t = (two_taken_iff zones samples).0 p.0 in
      let same = lab_nodes_lem (nodes samples) hundredths (omega (arith, length_nodes samples, p.1)) in
      let once = stands_once (nodes zones) i (node 0 0 0 0) (omega (arith, length_nodes zones)) (taken_ascends zones t.0) in
      sym (inside_listed order (node_at zones i) (nodes zones) ss once (subst NodesAscend (sym same) (taken_ascends samples t.1)))
      ∙ ap (λ ds. descendants_of ss (zone_pairs (node_at zones i) (listing (asked Inside order) (nodes zones) ds))) same

  -- so its row is over these.
  pub row_listed : subtotal_in (sheet_output zones samples hundredths out) i ≡ subtotal_over (descendants_of ss pairs)
  row_listed = row_told zones samples hundredths out accepted i there ∙ ap subtotal_over inside_zone_lem
