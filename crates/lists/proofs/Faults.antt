-- Why it holds: Each test of `fault` is read by itself, and says what a node has where that test
-- doesn't apply.
-- What would break it: A limit one off, or a test tried out of its turn, would be caught here
-- first.
use mathlib.Core.Path.{◌≡◌, refl}
use mathlib.Core.Logic.{◌↔◌}
use mathlib.Core.Bool.{Bool, true, false, cond, not, ◌&&◌}
use Prim.Native.Nat.{ℕ, suc, ◌≤◌}
use native.Mathlib.Omega.{arith}
use lib.Dec.{ltb, eqb}
use borrow.Author.Tests.{ltb-false, eqb-false, le-ltb, ne_eqb}
use Rattle.nodes.specs.declared.node.Node.{Node}
use Rattle.answers.specs.Answer.{TAKEN}
use Rattle.nodes.specs.Node.{insideb, openb, MOST_LEVELS}
use Rattle.laws.proofs.Tests.{never, or_none}
use Rattle.lists.specs.Fault.{levelb, spanb}

-- A node's level is from 1 to 64, and it doesn't end before it starts.
pub record Sound (n : Node) : Type 0 where
  pub lowest : 1 ≤ n.level
  pub highest : n.level ≤ MOST_LEVELS
  pub span : n.start ≤ n.end

-- Where the first test doesn't apply, the answer is what the later tests say.
pub skip : (b : Bool) (k rest : ℕ) → (cond b (suc k) rest ≡ TAKEN) ↔ ((b ≡ false) × (rest ≡ TAKEN))
skip true k rest = (λ h. absurd (omega arith), λ h. absurd (never refl h.0))
skip false k rest = (λ h. (refl, h), λ h. h.1)

pub level_sound : (n : Node) → (levelb n ≡ false) ↔ ((1 ≤ n.level) × (n.level ≤ MOST_LEVELS))
unfolding levelb
level_sound n = (
  λ h. let p = or_none (eqb n.level 0) h in
      let low = eqb-false n.level 0 p.0 in
      let high : n.level ≤ MOST_LEVELS = ltb-false _ _ p.1 in
      (omega arith, high),
  λ h. rw (ne_eqb n.level 0 (omega arith), le-ltb MOST_LEVELS n.level h.1),
)

pub span_sound : (n : Node) → (spanb n ≡ false) ↔ (n.start ≤ n.end)
unfolding spanb
span_sound n = (λ h. ltb-false _ _ h, λ h. le-ltb _ _ h)

-- The tests of CROSS and of DEPTH, for a later node n and one earlier node e.
abbrev pub crosses : Node → Node → Bool
crosses n e = openb n e && not (insideb n e)

abbrev pub rises : Node → Node → Bool
rises n e = insideb n e && not (ltb e.level n.level)
