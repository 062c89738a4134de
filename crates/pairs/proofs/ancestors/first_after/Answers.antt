-- Function: `first_after` (src/ancestors.rt).
-- Why it holds: At each turn, the search through what is left finds what the search from the first
-- place on finds.
-- Measure: `length descendants - k`, the words of the descendants still to search.
-- What would break it: A descendant passed that stands after the ancestor, or a place one off,
-- would be caught at the next turn.
use Prim.Native.Nat.{◌+◌, ◌/◌}
use mathlib.Core.Path.{◌≡◌, sym, subst, ◌∙◌}
use native.Mathlib.Omega.{arith}
use lib.ListN.{drop}
use Rattle.laws.specs.Choose.{first_at}
use Rattle.nodes.specs.Node.{afterb}
use Rattle.nodes.specs.Words.{nodes}
use Rattle.tickets.proofs.Search.{Searched, search_from, search_found, search_on, search_end}
use Rattle.pairs.proofs.ancestors.first_after.Goals as goal

pub loop-k-init : goal.loop-k-init
loop-k-init c =
    let a = c.args in
    let p = c.requires in
    (p, search_from (λ d. afterb d a.ancestor) a.descendants.now (a.from / 4) (omega arith))

pub returns-then-is_after : goal.returns-then-is_after
returns-then-is_after c =
    let a = c.args in
    let l = c.loop-k in record {
      aligned = l.invariant.0.1;
      index = search_found (λ d. afterb d a.ancestor) a.descendants.now _ (l.k / 4) _ l.invariant.1 (omega arith)
          c.node_from.ensures (sym c.is_after.ensures ∙ c.if-is_after.true);
    }

pub loop-k-preserved : goal.loop-k-preserved
loop-k-preserved c =
    let a = c.args in
    let l = c.loop-k in
    let e : l.k / 4 + 1 ≡ (l.k + 4) / 4 = omega arith in (
      (omega arith, omega arith, omega arith),
      subst (Searched (λ d. afterb d a.ancestor) a.descendants.now (first_at (λ d. afterb d a.ancestor) (drop (a.from / 4) (nodes a.descendants.now)) + a.from / 4)) e
          (search_on (λ d. afterb d a.ancestor) a.descendants.now _ (l.k / 4) _ l.invariant.1 (omega arith)
          c.node_from.ensures (sym c.is_after.ensures ∙ c.if-is_after.false)),
    )

pub returns : goal.returns
returns c =
    let a = c.args in
    let l = c.loop-k in
    record { aligned = l.invariant.0.1; index = search_end (λ d. afterb d a.ancestor) a.descendants.now _ (l.k / 4) l.invariant.1 (omega arith) }
