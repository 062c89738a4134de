-- Function: `check_whole` (src/list.rt).
-- Why it holds: The two tests are those of `word_fault`, in its order.
-- What would break it: A limit one off, or LONG before RAGGED, would be caught at its return.
use mathlib.Core.Path.{◌≡◌}
use mathlib.Core.List.{List}
use Prim.Native.Nat.{ℕ, ◌%◌, ◌≤◌, ◌<◌}
use native.Mathlib.Omega.{arith}
use lib.ListN.{length}
use borrow.Author.Tests.{eq-eqb, ne_eqb, lt-ltb, le-ltb}
use Rattle.answers.specs.Answer.{TAKEN, RAGGED, LONG}
use Rattle.nodes.specs.Words.{NODE_WORDS, MOST_NODES, count}
use Rattle.lists.specs.Check.{raggedb, longb, word_fault}
use Rattle.lists.proofs.list.check_whole.Goals as goal

module _ (ws : List ℕ) where
  ragged : (length ws % NODE_WORDS ≡ 0 → ⊥) → RAGGED ≡ word_fault ws
  unfolding raggedb word_fault
  ragged h = rw (ne_eqb _ _ h)

  long : length ws % NODE_WORDS ≡ 0 → MOST_NODES < count ws → LONG ≡ word_fault ws
  unfolding raggedb longb word_fault
  long h l = rw (eq-eqb _ _ h, lt-ltb _ _ l)

  whole : length ws % NODE_WORDS ≡ 0 → count ws ≤ MOST_NODES → TAKEN ≡ word_fault ws
  unfolding raggedb longb word_fault
  whole h l = rw (eq-eqb _ _ h, le-ltb _ _ l)

pub returns-then-words-ne0 : goal.returns-then-words-ne0
returns-then-words-ne0 c = ragged _ c.if-words-ne0.true

pub returns-then-node_count-gt-MOST_NODES : goal.returns-then-node_count-gt-MOST_NODES
returns-then-node_count-gt-MOST_NODES c = long _ (omega arith) (omega arith)

pub returns : goal.returns
returns c = whole _ (omega arith) (omega arith)
