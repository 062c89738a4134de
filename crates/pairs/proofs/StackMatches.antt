-- Why it holds: On the stack, what matches a descendant is all of it, the innermost alone, or
-- nothing. Each is a stretch that ends at the top.
-- What would break it: A stretch that began one node off, or that took an ancestor two levels up
-- for a parent, would be caught here.
use mathlib.Core.Path.{◌≡◌, refl, ap, sym, ◌∙◌}
use mathlib.Core.Bool.{Bool, true, false, cond}
use mathlib.Core.List.{List, [], ◌∷◌, reverse}
use Prim.Native.Nat.{ℕ, ◌+◌, ◌-◌, ◌/◌, ◌%◌, ◌≤◌, ◌<◌}
use native.Mathlib.Nat.{sub-zero, le_refl}
use native.Mathlib.Omega.{arith}
use Rattle.nodes.specs.declared.node.Node.{Node}
use Rattle.laws.specs.Choose.{first_at, keep}
use Rattle.nodes.specs.Node.{deeperb}
use Rattle.nodes.specs.Words.{nodes, node_at}
use Rattle.nodes.proofs.WordLaws.{length_nodes, nodes_from_lem}
use Rattle.lists.specs.Private.Walk.{Chain, Upon}
use Rattle.tickets.specs.declared.ticket.Order.TheVariants.{Descendant}
use Rattle.tickets.specs.declared.ticket.Relation.{Relation}
use Rattle.tickets.specs.declared.ticket.Relation.TheVariants.{Inside, Directly}
use Rattle.tickets.specs.Private.Group.{matches}
use Rattle.tickets.specs.Ticket.{asked}
use Rattle.pairs.specs.Private.Stack.{firsts, opened}
use Rattle.pairs.specs.Private.Sweep.{Placed, stretch, starts_from, from_start, served_group}
use Rattle.pairs.proofs.StackNodes.{top_at}
use Rattle.pairs.proofs.Matching.{firsts_turned, inside_all, directly_top}
use Rattle.pairs.proofs.Stretches.{stretch_ahead, served_as}

-- What matches lies on the stack from r on up to the top.
abbrev Stretch : Relation → Node → List ℕ → ℕ → ℕ → Type 0
Stretch relation d ws used r = record {
  aligned : r % 4 ≡ 0;
  within : r ≤ used;
  matches : reverse (matches (asked relation Descendant) d (opened used ws)) ≡ stretch ws r used;
}

module _ (relation : Relation) (d : Node) (ws : List ℕ) (used : ℕ) where
  -- On an empty stack nothing matches.
  pub match_none : used ≡ 0 → Stretch relation d ws used 0
  unfolding matches keep firsts
  match_none q = record { aligned = refl; within = omega arith; matches = rw q refl }

  module _ (l : Placed ws used) (c : Chain (opened used ws)) (u : Upon d (opened used ws)) where
    -- The descendant lies inside all of them.
    pub match_all : relation ≡ Inside → Stretch relation d ws used 0
    match_all q = record {
      aligned = refl;
      within = omega arith;
      matches = rw q (ap reverse (inside_all d (opened used ws) c u)
          ∙ firsts_turned (used / 4) (nodes ws) (omega (arith, length_nodes ws)) ∙ rw (sub-zero (used / 4)) refl);
    }

    module _ (e : Node) (q : relation ≡ Directly) (p : 0 < used) (h : e ≡ node_at ws ((used - 4) / 4)) where
      at_top : opened used ws ≡ e ∷ opened (used - 4) ws
      at_top =
          let one : used / 4 - 1 ≡ (used - 4) / 4 = omega arith in
          top_at used ws p l.1 ∙ ap (λ n. n ∷ opened (used - 4) ws) (ap (node_at ws) one ∙ sym h)

      top_matches : matches (asked Directly Descendant) d (opened used ws) ≡ cond (deeperb d e) (e ∷ []) []
      top_matches =
          ap (matches (asked Directly Descendant) d) at_top ∙ directly_top d e (opened (used - 4) ws) (rw at_top at c) (rw at_top at u)

      -- It lies directly inside the innermost.
      pub match_top : deeperb d e ≡ true → Stretch relation d ws used (used - 4)
      match_top t =
          let one : used / 4 - (used - 4) / 4 ≡ 1 = omega arith in
          record {
            aligned = omega arith;
            within = omega arith;
            matches = rw (q, top_matches, t, one, nodes_from_lem ws ((used - 4) / 4) (omega arith), ← h) refl;
          }

      -- It lies directly inside none.
      pub match_past : deeperb d e ≡ false → Stretch relation d ws used used
      match_past t =
          let none : used / 4 - used / 4 ≡ 0 = omega arith in
          record { aligned = l.1; within = le_refl used; matches = rw (q, top_matches, t, none) refl }

-- What is left of what matches lies from the first node on that starts late enough, so serving from
-- there on serves it.
module _ (ws : List ℕ) (from to ahead past : ℕ) (q : ahead / 4 ≡ first_at (starts_from past) (stretch ws from to) + from / 4)
    (relation : Relation) (d e : Node) (h : e ≡ d) (m : reverse (matches (asked relation Descendant) e (opened to ws)) ≡ stretch ws from to) where
  match_ahead : stretch ws ahead to ≡ from_start past (reverse (matches (asked relation Descendant) d (opened to ws)))
  match_ahead = stretch_ahead ws from to ahead past q ∙ ap (from_start past) (sym m ∙ ap (λ n. reverse (matches (asked relation Descendant) n (opened to ws))) h)

  pub serve_ahead : (out : List ℕ) (written : ℕ) {r : List ℕ × ℕ × Bool} → r ≡ served_group Descendant out written d (stretch ws ahead to)
      → r ≡ served_group Descendant out written d (from_start past (reverse (matches (asked relation Descendant) d (opened to ws))))
  serve_ahead out written s = served_as Descendant out written d s match_ahead
