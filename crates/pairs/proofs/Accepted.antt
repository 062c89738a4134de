-- Why it holds: Two lists that are accepted together are sound and ascend, and no node of one is at
-- odds with a node of the other. So each earlier node is fine with each later one, at any index.
-- What would break it: An accepted pair of lists with a crossing would be caught here.
use mathlib.Core.Path.{◌≡◌}
use mathlib.Core.Bool.{true, false}
use mathlib.Core.List.{List, [], ◌∷◌}
use Prim.Native.Nat.{ℕ, zero, suc, ◌≤◌, ◌<◌}
use native.Mathlib.Omega.{arith}
use lib.ListN.{length, get_or, drop}
use lib.Seq.{drop-nil}
use Rattle.nodes.specs.declared.node.Node.{Node}
use Rattle.answers.specs.Answer.{TAKEN}
use Rattle.laws.specs.Choose.{All, EveryTwo}
use Rattle.nodes.specs.Node.{afterb}
use Rattle.nodes.specs.Words.{node, nodes}
use Rattle.laws.proofs.Choices.{all_map, all_both, all_at, every_two_at}
use Rattle.nodes.proofs.NodeLaws.{after_trans}
use Rattle.laws.proofs.Tests.{never, not_so}
use Rattle.lists.specs.Two.{check_two}
use Rattle.lists.proofs.Faults.{Sound}
use Rattle.lists.proofs.Merging.{Even, even_fine}
use Rattle.lists.proofs.Pairing.{two_taken_iff}
use Rattle.lists.proofs.Taken.{Fine, words_taken_iff}
use Rattle.pairs.specs.Private.Stack.{firsts}

-- What is known of two lists that are accepted together.
pub record Accepted (as' ds : List Node) : Type 0 where
  pub sound_as : All Sound as'
  pub fine_as : EveryTwo Fine as'
  pub sound_ds : All Sound ds
  pub fine_ds : EveryTwo Fine ds
  pub even : Even as' ds

pub accepted : (as' ds : List ℕ) → (check_two as' ds).answer ≡ TAKEN → Accepted (nodes as') (nodes ds)
accepted as' ds h =
    let t = (two_taken_iff as' ds).0 h in
    let p = (words_taken_iff as').0 t.0 in
    let q = (words_taken_iff ds).0 t.1 in
    record { sound_as = p.2; fine_as = p.3; sound_ds = q.2; fine_ds = q.3; even = t.2 }

-- What holds at each index below k holds of the first k nodes.
all_firsts : (P : Node → Type 0) (k : ℕ) (ns : List Node) → ((i : ℕ) → i < k → P (get_or ns i (node 0 0 0 0))) → All P (firsts k ns)
unfolding firsts
all_firsts P zero ns f = tt
all_firsts P (suc k) ns f = (f k (omega arith), all_firsts P k ns (λ i l. f i (omega arith)))

-- The nodes before an index are fine with the one there.
pub fine_before : (ns : List Node) → EveryTwo Fine ns → (i : ℕ) → i < length ns → All (λ e. Fine e (get_or ns i (node 0 0 0 0))) (firsts i ns)
fine_before ns f i l = all_firsts _ i ns (λ k m. every_two_at Fine ns k i (node 0 0 0 0) m l f)

-- The first ancestors that stand before a descendant are fine with it.
pub fine_with : (as' ds : List Node) → Even as' ds → (i j : ℕ) → i ≤ length as' → j < length ds
    → All (λ e. afterb (get_or ds j (node 0 0 0 0)) e ≡ true) (firsts i as') → All (λ e. Fine e (get_or ds j (node 0 0 0 0))) (firsts i as')
fine_with as' ds even i j l m h =
    all_both (λ e a o. even_fine e (get_or ds j (node 0 0 0 0)) a o) (firsts i as') h
    (all_firsts _ i as' (λ k n. all_at _ ds j (node 0 0 0 0) m (all_at _ as' k (node 0 0 0 0) (omega arith) even)))

-- Of an ascending list, all that stand at or after one that isn't before d aren't before d.
pub none_before : (d : Node) (ns : List Node) → EveryTwo Fine ns → (i : ℕ) → (i < length ns → afterb d (get_or ns i (node 0 0 0 0)) ≡ false)
    → All (λ a. afterb d a ≡ false) (drop i ns)
none_before d [] f i h = rw (drop-nil {A = Node} i) tt
none_before d (n ∷ ns) f zero h =
    let p = h (omega arith) in
    (p, all_map (λ a g. not_so (λ b. never (after_trans d a n b g.after) p)) ns f.0)
none_before d (n ∷ ns) f (suc i) h = none_before d ns f.1 i (λ l. h (omega arith))
