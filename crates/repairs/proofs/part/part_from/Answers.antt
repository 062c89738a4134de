-- Function: `part_from` (src/part.rt).
-- Why it holds: Up to the number of nodes, the part is what is left after the words before the
-- index. It lies as many bytes further on as those words take. For any greater index nothing is
-- left.
-- What would break it: A part that starts one word off would be caught at the second return.
use mathlib.Core.Path.{◌≡◌, sym}
use mathlib.Core.List.{List, []}
use Prim.Native.Nat.{ℕ, ◌+◌, ◌*◌, ◌-◌, ◌≤◌, ◌<◌}
use native.Mathlib.Omega.{arith}
use lib.ListN.{length, take, drop, length-drop, drop_of_length-le}
use lib.Seq.{take_all}
use Rattle.nodes.specs.Words.{NODE_WORDS, count}
use Rattle.numbers.specs.Little.{NODE_BYTES}
use Rattle.numbers.proofs.Places.{before_the_end, at_the_beginning}
use Rattle.repairs.specs.Part.{place_from}
use Rattle.repairs.proofs.part.part_from.Goals as goal

beyond : (ws : List ℕ) (i : ℕ) → count ws < i → [] ≡ drop (NODE_WORDS * i) ws
beyond ws i h = sym (drop_of_length-le ws {i = NODE_WORDS * i} (omega arith))

rest : (ws : List ℕ) (i : ℕ) → take (length ws - NODE_WORDS * i) (drop (NODE_WORDS * i) ws) ≡ drop (NODE_WORDS * i) ws
rest ws i = take_all (length ws - NODE_WORDS * i) (drop (NODE_WORDS * i) ws) (omega (arith, length-drop (NODE_WORDS * i) ws))

at_node : (start : ℕ × ℕ) (ws : List ℕ) (i at : ℕ) → i ≤ count ws → at ≡ start.1 + NODE_BYTES * i → (start.0, at) ≡ place_from start ws i
unfolding place_from
at_node start ws i at h q = before_the_end start _ _ at (omega arith) q

at_front : (start : ℕ × ℕ) (ws : List ℕ) (i : ℕ) → count ws < i → start ≡ place_from start ws i
unfolding place_from
at_front start ws i h = at_the_beginning start _ _ (omega arith)

pub returns-then-node_count-index : goal.returns-then-node_count-index
returns-then-node_count-index c =
    let a = c.args in
    record {
      contents = beyond a.words.now a.index (omega arith);
      place = at_front a.words.ref_ptr a.words.now a.index (omega arith);
    }

pub returns : goal.returns
returns c =
    let a = c.args in
    record {
      contents = rest a.words.now a.index;
      place = at_node a.words.ref_ptr a.words.now a.index _ (omega arith) (omega arith);
    }
