-- Why it holds: A sweep passes the ancestors in their order. Each that stands before the descendant
-- and is open at it fits onto the stack; the others are left out.
-- What would break it: A stack that could overflow, or an open ancestor that is passed without
-- being put on it, would be caught here.
use mathlib.Core.Path.{◌≡◌}
use mathlib.Core.Logic.{inl, inr}
use mathlib.Core.Bool.{true, false, cond}
use mathlib.Core.List.{List, ◌∷◌}
use Prim.Native.Nat.{ℕ, ◌+◌, ◌/◌, ◌≤◌, ◌<◌}
use native.Mathlib.Omega.{arith}
use native.Mathlib.Numerals.{add-one}
use lib.ListN.{length, drop}
use Rattle.nodes.specs.declared.node.Node.{Node}
use Rattle.answers.specs.Answer.{TAKEN}
use Rattle.laws.specs.Choose.{All}
use Rattle.nodes.specs.Node.{afterb, openb, MOST_LEVELS}
use Rattle.nodes.specs.Words.{node, nodes, count, node_at}
use Rattle.laws.proofs.Tests.{either}
use Rattle.nodes.proofs.WordLaws.{length_nodes}
use Rattle.lists.specs.Check.{check_words}
use Rattle.lists.specs.Private.Walk.{Chain}
use Rattle.lists.proofs.Faults.{Sound}
use Rattle.lists.proofs.Taken.{words_taken_iff}
use Rattle.pairs.specs.Private.Stack.{firsts, opened, Fits}
use Rattle.pairs.specs.Private.Sweep.{Open, Opening}
use Rattle.laws.proofs.Choices.{all_at}
use Rattle.pairs.proofs.Accepted.{fine_before, none_before}
use Rattle.pairs.proofs.OpenNodes.{open_push, open_skip}

module _ (ws : List ℕ) (d : Node) (taken : (check_words ws).answer ≡ TAKEN) where
  module _ (used i : ℕ) (stack : List ℕ) (a : Node) (k : Opening ws d used i stack) (o : All (λ e. openb d e ≡ true) (opened used stack))
      (l : i < length ws) (q : a ≡ node_at ws (i / 4)) (h : afterb d a ≡ true) where
    sound_next : Sound a
    unfolding node_at
    sound_next =
        let p = k.passed_in in
        rw q (all_at Sound (nodes ws) (i / 4) (node 0 0 0 0) (omega (arith, length_nodes ws)) ((words_taken_iff ws).0 taken).2)

    -- The next ancestor, which stands before d, fits onto the stack.
    pushed : Open d (a ∷ firsts (i / 4) (nodes ws)) (a ∷ opened used stack)
    unfolding node_at
    pushed =
        let p = k.passed_in in
        open_push d a (firsts (i / 4) (nodes ws)) (opened used stack) h k.held sound_next
        (rw q (fine_before (nodes ws) ((words_taken_iff ws).0 taken).3 (i / 4) (omega (arith, length_nodes ws)))) o

    -- The words in use fit, the next ancestor's level is no higher than it may be, and where it is
    -- open it makes a chain with the stack.
    pub next_fits : Fits used × (a.level ≤ MOST_LEVELS) × (openb d a ≡ true → Chain (a ∷ opened used stack))
    next_fits = (k.used_in, sound_next.highest, λ b. pushed.stands.chain)

    -- Once it is on top, or left out as it has ended, the sweep has passed one more, and all on the
    -- stack are open at d.
    passed_group : Open d (firsts ((i + 4) / 4) (nodes ws)) (cond (openb d a) (a ∷ opened used stack) (opened used stack))
        × All (λ e. openb d e ≡ true) (cond (openb d a) (a ∷ opened used stack) (opened used stack))
    unfolding firsts node_at
    passed_group =
        let one : (i + 4) / 4 ≡ i / 4 + 1 = omega arith in
        rw (one, add-one (i / 4), ← q)
        (elim (either (openb d a)) [
          | inl b ↦ rw b (pushed, (b, o))
          | inr b ↦ rw b (open_skip d a _ _ h k.held b, o)
        ])

    pub next_passed : (r : ℕ) (after : List ℕ) → Fits r
        → opened r after ≡ cond (openb d a) (a ∷ opened used stack) (opened used stack)
        → Opening ws d r (i + 4) after × All (λ e. openb d e ≡ true) (opened r after)
    next_passed r after m e =
        let p = k.passed_in in
        (record { used_in = m; passed_in = (p.0, omega arith, omega arith); held = rw e passed_group.0 }, rw e passed_group.1)

  -- An ancestor that doesn't stand before d ends the passing, as none after it does; so does the
  -- end of the list.
  pub passing_ends : (i : ℕ) (a : Node) → a ≡ node_at ws i → afterb d a ≡ false → All (λ e. afterb d e ≡ false) (drop i (nodes ws))
  unfolding node_at
  passing_ends i a q h = none_before d (nodes ws) ((words_taken_iff ws).0 taken).3 i (λ l. rw q at h)

  pub passing_done : (i : ℕ) → count ws ≤ i → All (λ e. afterb d e ≡ false) (drop i (nodes ws))
  passing_done i l = none_before d (nodes ws) ((words_taken_iff ws).0 taken).3 i (λ m. absurd (omega (arith, length_nodes ws)))
