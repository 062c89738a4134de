-- Why it holds: Of two nodes of a taken list that contain the same node, the later is nested in the
-- earlier, for they aren't apart. So the levels of all that contain a node rise from 1 to below its
-- own.
-- What would break it: A check that let a level stay or fall from a node to one inside it would be
-- caught here. Then no bound on the stack of open nodes would hold.
use mathlib.Core.Path.{◌≡◌}
use mathlib.Core.Logic.{inl, inr, ⊎_elim}
use mathlib.Core.Bool.{true, false}
use mathlib.Core.List.{List, [], ◌∷◌}
use Prim.Native.Nat.{ℕ, suc, ◌+◌, ◌≤◌, ◌<◌}
use native.Mathlib.Omega.{arith}
use lib.ListN.{length}
use Rattle.nodes.specs.declared.node.Node.{Node}
use Rattle.answers.specs.Answer.{TAKEN}
use Rattle.laws.specs.Choose.{All, EveryTwo, In, keep}
use Rattle.nodes.specs.Node.{insideb, MOST_LEVELS}
use Rattle.nodes.specs.Words.{nodes}
use Rattle.laws.proofs.Choices.{all_map, all_both, all_in}
use Rattle.laws.proofs.Tests.{either, never}
use Rattle.nodes.proofs.NodeLaws.{within, inside_self, text_empty, after_starts}
use Rattle.lists.specs.Check.{check_nodes, check_words}
use Rattle.lists.proofs.Faults.{Sound}
use Rattle.lists.proofs.Taken.{Fine, nested_read, fine_settles, taken_iff, words_taken_iff}

-- If e contains n, its level is at least b and below n's.
abbrev Between : ℕ → Node → Node → Type 0
Between b n e = insideb n e ≡ true → (b ≤ e.level) × (e.level < n.level)

-- No earlier node lies inside a later one.
none_later : (e n : Node) → Fine e n → insideb e n ≡ true → ⊥
none_later e n f h = let w = within e n h in omega (arith, after_starts n e f.after w.document)

-- A later node that starts before an earlier one has ended has a higher level.
climbs : (e f : Node) → Fine e f → f.start ≤ f.end → e.document ≡ f.document → f.start ≤ e.end → e.level < f.level
climbs e f g span d s = ⊎_elim (λ q. omega arith) (λ q. (nested_read f e q).1) (fine_settles f e span g d)

-- Of any two nodes of a taken list the outer one has the lower level, whichever comes first.
all_between : (ns : List Node) → All Sound ns → EveryTwo Fine ns → All (λ n. All (Between 1 n) ns) ns
all_between [] s p = tt
all_between (m ∷ ns) s p =
    let outer : All (λ n. Between 1 n m) ns =
    all_both (λ n t f h. let w = within n m h in (s.0.lowest, climbs m n f t.span (omega arith) (omega arith))) ns s.1 p.0 in (
      (λ h. absurd (never h (inside_self m)), all_map (λ e f h. absurd (none_later m e f h)) ns p.0),
      all_both (λ n b r. (b, r)) ns outer (all_between ns s.1 p.1),
    )

module _ (n : Node) (span : n.start ≤ n.end) where
  -- Each node that contains n has a level of its own.
  levels : (b : ℕ) (ns : List Node) → b ≤ n.level → EveryTwo Fine ns → All (Between b n) ns → length (keep (insideb n) ns) + b ≤ n.level
  unfolding keep
  levels b [] l p h = omega arith
  levels b (e ∷ ns) l p h =
      elim (either (insideb n e)) [
        | inl k ↦ let v = within n e k in
            let higher : All (Between (suc e.level) n) ns =
            all_both (λ f g u i. let w = within n f i in (climbs e f g (omega arith) (omega arith) (omega arith), (u i).1)) ns p.0 h.1 in
            let r = levels (suc e.level) ns (h.0 k).1 p.1 higher in
            rw k (omega (arith, h.0 k))
        | inr k ↦ rw k (levels b ns l p.1 h.1)
      ]

-- Fewer nodes than there are levels contain a given node of a taken list.
pub containers : (ns : List Node) → (check_nodes ns).answer ≡ TAKEN → All (λ n. length (keep (insideb n) ns) < MOST_LEVELS) ns
containers ns h =
    let t = (taken_iff ns).0 h in
    all_both (λ n s b. omega (arith, levels n s.span 1 ns s.lowest t.1 b)) ns t.0 (all_between ns t.0 t.1)

-- A text contains no node of an accepted list, since none of them ends before it starts.
pub text_contains_nothing : (words : List ℕ) → (check_words words).answer ≡ TAKEN → (x y : Node) → In y (nodes words) → x.end ≡ x.start
    → insideb y x ≡ false
text_contains_nothing words h x y m t = text_empty y x (all_in Sound (nodes words) ((words_taken_iff words).0 h).2 m).span t
