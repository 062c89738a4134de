-- Why it holds: Only open ancestors contain a descendant, so the chain of open ones answers for
-- all. Each of them contains it, and only the innermost can contain it directly.
-- What would break it: A join with the innermost alone, or a direct join that ignores the level,
-- would be caught here.
use mathlib.Core.Path.{◌≡◌, refl, ap, sym, ◌∙◌}
use mathlib.Core.Logic.{inl}
use mathlib.Core.Bool.{Bool, true, false, cond}
use mathlib.Core.List.{List, [], ◌∷◌, ◌++◌, reverse, reverse-cons, append-nil}
use Prim.Native.Nat.{ℕ, zero, suc, ◌≤◌, ◌<◌}
use native.Mathlib.Omega.{arith}
use lib.ListN.{length, get_or, take, drop, take-append-drop}
use lib.Seq.{take-suc}
use Rattle.nodes.specs.declared.node.Node.{Node}
use Rattle.laws.specs.Choose.{All, keep}
use Rattle.nodes.specs.Node.{insideb, deeperb, directlyb, afterb}
use Rattle.nodes.specs.Words.{node}
use Rattle.laws.proofs.Choices.{all_map, keep_append, keep_none, keep_all, keep_turned}
use Rattle.nodes.proofs.NodeLaws.{directly_inside, inside_after, inside_open}
use Rattle.laws.proofs.Tests.{never, not_so}
use Rattle.lists.specs.Private.Walk.{Upon, Chain}
use Rattle.lists.proofs.Faults.{Sound}
use Rattle.lists.proofs.Keeping.{chain_contains, chain_levels}
use Rattle.tickets.specs.declared.ticket.Order.TheVariants.{Descendant}
use Rattle.tickets.specs.declared.ticket.Relation.{Relation}
use Rattle.tickets.specs.declared.ticket.Relation.TheVariants.{Inside, Directly}
use Rattle.tickets.specs.Listing.{relatedb, pair_of}
use Rattle.tickets.specs.Private.Group.{matches}
use Rattle.tickets.proofs.Listed.{related_inside}
use Rattle.tickets.specs.Ticket.{asked}
use Rattle.pairs.specs.Private.Stack.{firsts}
use Rattle.pairs.specs.Private.Sweep.{Open}

-- The first k nodes, turned round, are the first k in their order.
pub firsts_turned : (k : ℕ) (ns : List Node) → k ≤ length ns → reverse (firsts k ns) ≡ take k ns
unfolding firsts
firsts_turned zero ns l = refl
firsts_turned (suc k) ns l =
    reverse-cons (get_or ns k (node 0 0 0 0)) (firsts k ns)
    ∙ ap (λ xs. xs ++ (get_or ns k (node 0 0 0 0) ∷ [])) (firsts_turned k ns (omega arith))
    ∙ sym (take-suc ns k (node 0 0 0 0) (omega arith))

-- Everything under the innermost of a chain has a lower level.
less_deep : (e : Node) (s : List Node) → Chain (e ∷ s) → All (λ f. f.level < e.level) s
less_deep e [] c = tt
less_deep e (f ∷ s) c = (c.1.1, chain_levels e.level f s c.2 c.1.1)

module _ (d : Node) where
  -- A test that only nodes which contain d pass keeps of all ancestors what it keeps of the chain.
  kept_open : (as' : List Node) (i : ℕ) (s : List Node) → Sound d → i ≤ length as' → All (λ a. afterb d a ≡ false) (drop i as') → Open d (firsts i as') s
      → (test : Node → Bool) → ((e : Node) → test e ≡ true → insideb d e ≡ true) → keep test as' ≡ reverse (keep test s)
  kept_open as' i s t l none k test only =
      let rest : keep test (drop i as') ≡ [] =
      keep_none test (drop i as') (all_map (λ a b. not_so (λ h. never (inside_after d a (only a h)) b)) (drop i as') none) in
      let first : keep test (take i as') ≡ reverse (keep test s) =
      ap (keep test) (sym (firsts_turned i as' l)) ∙ keep_turned test (firsts i as')
      ∙ ap reverse (k.stands.keeps d (inl refl) test (λ e h. inside_open d e t.span (only e h))) in
      ap (keep test) (sym (take-append-drop i as')) ∙ keep_append test (take i as') (drop i as') ∙ rw (first, rest) (append-nil _)

  pub matches_open : (relation : Relation) (as' : List Node) (i : ℕ) (s : List Node) → Sound d → i ≤ length as'
      → All (λ a. afterb d a ≡ false) (drop i as') → Open d (firsts i as') s
      → matches (asked relation Descendant) d as' ≡ reverse (matches (asked relation Descendant) d s)
  unfolding matches pair_of
  matches_open relation as' i s t l none k = kept_open as' i s t l none k _ (λ e h. related_inside relation _ h)

  -- Every node of a chain onto which d would fit contains it.
  pub inside_all : (s : List Node) → Chain s → Upon d s → matches (asked Inside Descendant) d s ≡ s
  unfolding matches relatedb pair_of keep
  inside_all [] c u = refl
  inside_all (e ∷ s) c u = rw u.0 (ap (λ es. e ∷ es) (keep_all _ s (chain_contains d e s c u.0)))

  -- Of a chain onto which d would fit only the innermost can contain it directly: the others are
  -- less deep by two or more.
  pub directly_top : (e : Node) (s : List Node) → Chain (e ∷ s) → Upon d (e ∷ s)
      → matches (asked Directly Descendant) d (e ∷ s) ≡ cond (deeperb d e) (e ∷ []) []
  unfolding matches relatedb pair_of keep directlyb
  directly_top e s c u =
      let none : keep (λ f. directlyb d f) s ≡ [] =
      keep_none _ s (all_map (λ f l. not_so (λ h. let p = directly_inside d f h in let q = u.1 in omega arith)) s (less_deep e s c)) in
      rw (u.0, none) refl
