-- Function: `check_bytes` (src/bytes.rt).
-- Why it holds: Bytes that make no whole nodes, or too many, are answered at once. Otherwise the
-- walk along the nodes gives the answer for their words.
-- What would break it: A limit one off, LONG before RAGGED, or a refusal given as TAKEN would be
-- caught at its return.
use mathlib.Core.Path.{◌≡◌, sym, ap, ◌∙◌}
use mathlib.Core.List.{List, ◌∷◌}
use Prim.Native.Nat.{ℕ, ◌+◌, ◌/◌, ◌<◌}
use lib.ListN.{length, drop}
use Rattle.std.proofs.Common.{rules}
use Rattle.nodes.specs.declared.node.Node.{Node}
use Rattle.nodes.specs.Words.{nodes}
use Rattle.numbers.specs.Little.{NODE_BYTES, numbers, node_in}
use Rattle.numbers.proofs.LittleLaws.{nodes_in, node_in_from}
use native.Mathlib.Omega.{arith}
use Rattle.std.proofs.lemmas.Result.{err_from_is_err_and}
use Rattle.answers.specs.Refusal.{verdict_of, verdict_in}
use Rattle.lists.proofs.InBytes.{ragged_bytes, long_bytes, whole_bytes}
use Rattle.lists.proofs.bytes.check_bytes.Goals as goal

pub returns-then-bytes-ne0 : goal.returns-then-bytes-ne0
returns-then-bytes-ne0 c = ap verdict_of c.into.ensures ∙ sym (ragged_bytes _ c.if-bytes-ne0.true)

pub returns-then-bytes-gt-MOST_NODES : goal.returns-then-bytes-gt-MOST_NODES
returns-then-bytes-gt-MOST_NODES c = ap verdict_of c.into-then-bytes-gt-MOST_NODES.ensures ∙ sym (long_bytes _ (omega arith) (omega arith))

-- The nodes are handed out as they lie in the bytes.
handed : (bs : List ℕ) (i : ℕ) (n : Node) → n ≡ node_in bs i → i < length bs / NODE_BYTES
    → drop i (nodes (numbers bs)) ≡ n ∷ drop (i + 1) (nodes (numbers bs))
handed bs i n q h = rw q (node_in_from bs i h)

pub returns-in_err-pass_nodes : goal.returns-in_err-pass_nodes
returns-in_err-pass_nodes c =
    let bs = c.args.bytes.now in
    let e = err_from_is_err_and _ c.from_residual.ensures.1 in
    ap verdict_in e.1 ∙ ap verdict_of e.2 ∙ sym (ap verdict_in c.in_err-pass_nodes.was)
    ∙ c.pass_nodes.ensures (nodes (numbers bs)) (nodes_in bs) (λ i n l p. handed bs i n (search rules) (omega (arith, nodes_in bs)))
    ∙ sym (whole_bytes bs (omega arith) (omega arith))

pub returns : goal.returns
returns c =
    let bs = c.args.bytes.now in
    sym (ap verdict_in c.in_ok-pass_nodes.was)
    ∙ c.pass_nodes.ensures (nodes (numbers bs)) (nodes_in bs) (λ i n l p. handed bs i n (search rules) (omega (arith, nodes_in bs)))
    ∙ sym (whole_bytes bs (omega arith) (omega arith))
