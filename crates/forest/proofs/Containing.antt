-- Why it holds: An accepted list ascends. Of two nodes of one document the later is inside the
-- earlier or starts after its end. So what contains a node contains all nodes between the two.
-- What would break it: A list in which a node outside the container could stand between a node and
-- its container would be caught here.
use mathlib.Core.Path.{◌≡◌}
use mathlib.Core.Logic.{inl, inr, ⊎_elim}
use mathlib.Core.Bool.{true, false}
use mathlib.Core.List.{List}
use Prim.Native.Nat.{ℕ, ◌≤◌, ◌<◌}
use native.Mathlib.Nat.{eq-or-lt_of_le}
use native.Mathlib.Omega.{arith}
use lib.Dec.{ltb}
use lib.ListN.{length}
use borrow.Author.Tests.{ltb-true, ltb-false}
use Rattle.nodes.specs.declared.node.Node.{Node}
use Rattle.answers.specs.Answer.{TAKEN}
use Rattle.laws.specs.Choose.{All, EveryTwo}
use Rattle.nodes.specs.Node.{insideb}
use Rattle.nodes.specs.Words.{MOST_NODES, node, nodes, node_at}
use Rattle.nodes.proofs.NodeLaws.{within, inside_self, after_read, after_starts}
use Rattle.laws.proofs.Tests.{either, never, not_so}
use Rattle.nodes.proofs.WordLaws.{length_nodes}
use Rattle.lists.specs.Check.{check_words}
use Rattle.lists.proofs.Faults.{Sound}
use Rattle.lists.proofs.Taken.{Fine, fine_settles, nested_read, words_taken_iff}
use Rattle.forest.specs.Links.{node_in}
use Rattle.laws.proofs.Choices.{all_at, every_two_at}

-- What is known of an accepted list.
pub record AcceptedList (ns : List Node) : Type 0 where
  pub short : length ns ≤ MOST_NODES
  pub sound : All Sound ns
  pub fine : EveryTwo Fine ns

pub accepted_list : (ws : List ℕ) → (check_words ws).answer ≡ TAKEN → AcceptedList (nodes ws)
accepted_list ws h = let t = (words_taken_iff ws).0 h in record { short = omega (arith, length_nodes ws, t.1); sound = t.2; fine = t.3 }

-- A node read out of the words is that node of the list.
pub node_in_lem : (ws : List ℕ) (i : ℕ) (n : Node) → n ≡ node_at ws i → n ≡ node_in (nodes ws) i
unfolding node_at node_in
node_in_lem ws i n q = q

module _ (ns : List Node) (ok : AcceptedList ns) where
  pub sound_at : (i : ℕ) → i < length ns → Sound (node_in ns i)
  unfolding node_in
  sound_at i l = all_at Sound ns i (node 0 0 0 0) l ok.sound

  pub fine_at : (e i : ℕ) → e < i → i < length ns → Fine (node_in ns e) (node_in ns i)
  unfolding node_in
  fine_at e i k l = every_two_at Fine ns e i (node 0 0 0 0) k l ok.fine

  -- Documents never descend.
  pub documents : (e i : ℕ) → e ≤ i → i < length ns → (node_in ns e).document ≤ (node_in ns i).document
  documents e i k l =
      elim (eq-or-lt_of_le k) [
        | inl q ↦ rw q (omega arith)
        | inr q ↦ ⊎_elim (λ p. omega arith) (λ p. omega arith) (after_read _ _ (fine_at e i q l).after)
      ]

  -- Of two nodes of one document the later is inside the earlier, unless that one ended before it.
  pub inside_unended : (e i : ℕ) → e < i → i < length ns → (node_in ns e).document ≡ (node_in ns i).document
      → (node_in ns i).start ≤ (node_in ns e).end → insideb (node_in ns i) (node_in ns e) ≡ true
  inside_unended e i k l d s =
      ⊎_elim (λ q. absurd (omega arith)) (λ q. (nested_read _ _ q).0)
      (fine_settles (node_in ns i) (node_in ns e) (sound_at i l).span (fine_at e i k l) d)

  pub outside_ended : (e i : ℕ) → i < length ns → (node_in ns e).end < (node_in ns i).start → insideb (node_in ns i) (node_in ns e) ≡ false
  outside_ended e i l s = not_so (λ h. let w = within _ _ h in omega (arith, (sound_at i l).span, w.end))

  -- What contains a node stands before it.
  pub contains_before : (i e : ℕ) → e < length ns → insideb (node_in ns i) (node_in ns e) ≡ true → e < i
  contains_before i e l h =
      elim (either (ltb e i)) [
        | inl k ↦ ltb-true e i k
        | inr k ↦ let w = within _ _ h in
            elim (eq-or-lt_of_le (ltb-false e i k)) [
              | inl q ↦ absurd (never (rw q at h) (inside_self (node_in ns e)))
              | inr q ↦ absurd (omega (arith, after_starts _ _ (fine_at i e q l).after w.document))
            ]
      ]

  -- And it contains all nodes between the two.
  pub contains_between : (i j e : ℕ) → e < j → j < i → i < length ns → insideb (node_in ns i) (node_in ns e) ≡ true
      → insideb (node_in ns j) (node_in ns e) ≡ true
  contains_between i j e k m l h =
      let w = within _ _ h in
      let d : (node_in ns e).document ≡ (node_in ns j).document =
      omega (arith, documents e j (omega arith) (omega arith), documents j i (omega arith) l) in
      let s = after_starts _ _ (fine_at j i m l).after (omega arith) in
      let u = (sound_at i l).span in
      inside_unended e j k (omega arith) d (omega arith)
