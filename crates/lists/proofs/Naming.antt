-- Why it holds: The check of two lists has four answers. The check of each list, and whether any of
-- their nodes are at odds, tell them apart.
-- What would break it: A wrong list named, or JOINT where the lists agree, would be caught at its
-- case.
use mathlib.Core.Path.{◌≡◌, refl}
use mathlib.Core.Logic.{inl, inr}
use mathlib.Core.Bool.{Bool, true, false, cond}
use mathlib.Core.List.{List, [], ◌∷◌}
use Prim.Native.Nat.{ℕ, suc}
use lib.Dec.{eqb}
use borrow.Author.Tests.{eqb-false, eq-eqb, ne_eqb}
use Rattle.nodes.specs.declared.node.Node.{Node}
use Rattle.answers.specs.Answer.{TAKEN, JOINT}
use Rattle.nodes.specs.Words.{nodes}
use Rattle.laws.proofs.Tests.{either, so}
use Rattle.answers.specs.declared.verdict.Verdict.{Verdict}
use Rattle.lists.specs.Check.{check_from, check_nodes, check_words, word_fault}
use Rattle.lists.specs.Fault.{fault}
use Rattle.lists.specs.Two.{jointb, check_two}
use Rattle.answers.specs.Verdict.{refusedb, in_list, ANCESTORS, DESCENDANTS, verdict, taken}
use Rattle.lists.proofs.Merging.{joint_iff}
use Rattle.lists.proofs.Pairing.{two_taken_iff}

-- A verdict on one list names the ancestors, and has index 0 where the list is taken.
abbrev Single : Verdict → Type 0
Single v = (v.list ≡ ANCESTORS) × (v.answer ≡ TAKEN → v.index ≡ 0)

single_from : (before : List Node) (index : ℕ) (ns : List Node) → Single (check_from before index ns)
unfolding check_from
single_from before index [] = (refl, λ h. refl)
single_from before index (n ∷ ns) =
    elim (either (eqb (fault before n) TAKEN)) [
      | inl h ↦ rw h (single_from (n ∷ before) (suc index) ns)
      | inr h ↦ rw h (refl, λ q. absurd (eqb-false (fault before n) TAKEN h q))
    ]

pub single : (ws : List ℕ) → Single (check_words ws)
unfolding check_words check_nodes
single ws =
    elim (either (eqb (word_fault ws) TAKEN)) [
      | inl h ↦ rw h (single_from [] 0 (nodes ws))
      | inr h ↦ rw h (refl, λ q. absurd (eqb-false (word_fault ws) TAKEN h q))
    ]

module _ (ancestors descendants : List ℕ) where
  -- The four answers of the check of two lists: the first list's, the second's, JOINT and TAKEN.
  pub two_first : ((check_words ancestors).answer ≡ TAKEN → ⊥) → check_words ancestors ≡ check_two ancestors descendants
  unfolding check_two refusedb
  two_first h =
      rw (ne_eqb (check_words ancestors).answer TAKEN h)
      (λ k. verdict (check_words ancestors).answer ((single ancestors).0 k) (check_words ancestors).index)

  module _ (f : (check_words ancestors).answer ≡ TAKEN) where
    pub two_second : ((check_words descendants).answer ≡ TAKEN → ⊥) → in_list DESCENDANTS (check_words descendants) ≡ check_two ancestors descendants
    unfolding check_two refusedb
    two_second h = rw (eq-eqb (check_words ancestors).answer TAKEN f, ne_eqb (check_words descendants).answer TAKEN h)

    module _ (s : (check_words descendants).answer ≡ TAKEN) where
      joined : (b : Bool) → jointb (nodes ancestors) (nodes descendants) ≡ b
          → cond b (verdict JOINT ANCESTORS 0) taken ≡ check_two ancestors descendants
      unfolding check_two refusedb
      joined b h = rw (eq-eqb (check_words ancestors).answer TAKEN f, eq-eqb (check_words descendants).answer TAKEN s, h)

      pub two_joint : ((check_two ancestors descendants).answer ≡ TAKEN → ⊥) → verdict JOINT ANCESTORS 0 ≡ check_two ancestors descendants
      two_joint h = joined true (so (λ j. h ((two_taken_iff ancestors descendants).1 (f, s, (joint_iff _ _).0 j))))

  pub two_taken : (check_two ancestors descendants).answer ≡ TAKEN → taken ≡ check_two ancestors descendants
  two_taken h = let t = (two_taken_iff ancestors descendants).0 h in joined t.0 t.1 false ((joint_iff _ _).1 t.2)
