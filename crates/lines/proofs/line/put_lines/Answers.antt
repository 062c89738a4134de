-- Function: `put_lines` (src/line.rt).
-- Why it holds: The text begins with the lines of the pairs passed, none longer than its room. Each
-- turn puts the next one right after them.
-- What would break it: A line of other nodes would be caught at the next turn. A loop that ends too
-- early would be caught at its return.
use mathlib.Core.Path.{◌≡◌, refl, sym, subst, ◌∙◌}
use mathlib.Core.List.{List}
use Prim.Native.Nat.{ℕ, ◌+◌, ◌*◌, ◌/◌, ◌≤◌, ◌<◌}
use native.Mathlib.Omega.{arith}
use borrow.Author.Rules.{rules}
use lib.ListN.{length}
use Rattle.nodes.specs.declared.node.Node.{Node}
use Rattle.nodes.specs.Words.{count, node_at}
use Rattle.lines.specs.declared.text.Writer.{Writer}
use Rattle.lines.specs.Line.{LINE_BYTES, pair_with, pair_line, lines_for}
use Rattle.lines.specs.Private.Puts.{Puts}
use Rattle.lines.proofs.Putting.{puts_none, put_next, Begins, put_written}
use Rattle.lines.proofs.PairLines.{first_lines, lines_none, lines_more, lines_least}
use Rattle.lines.proofs.Fields.{line_few}
use Rattle.lines.proofs.line.put_lines.Invariants.{Lined}
use Rattle.lines.proofs.line.put_lines.Goals as goal

starts : (pairs : List ℕ) (before : Writer) → before.at ≡ 0 → Lined pairs before 0 before
starts pairs before e =
    record { few = omega arith; puts = subst (λ us. Puts before us before) (sym (lines_none pairs)) (puts_none before) }

one_more : {pairs : List ℕ} {index : ℕ} {before after later : Writer} → Lined pairs before index after → (x y : Node)
    → index < count pairs / 2 → x ≡ node_at pairs (2 * index) → y ≡ node_at pairs (2 * index + 1)
    → length (pair_line (pair_with x y)) ≤ LINE_BYTES → Puts after (pair_line (pair_with x y)) later
    → Lined pairs before (index + 1) later
one_more {pairs} {index} {before} {later = later} p x y h f g w q =
    let few = p.few in
    let place = q.next in
    record {
      few = omega arith;
      puts = subst (λ us. Puts before us later) (sym (lines_more pairs index x y h f g)) (put_next p.puts (pair_line (pair_with x y)) q);
    }

ends : {pairs : List ℕ} {before after : Writer} {index : ℕ} → Lined pairs before index after → first_lines pairs index ≡ lines_for pairs before.text.now
    → before.at ≡ 0 → after.at ≤ length before.text.now → Begins before.text.now (lines_for pairs before.text.now) after.text.now after.at
ends {pairs} {before} {after} p e z h =
    put_written (lines_for pairs before.text.now) z h (subst (λ us. Puts before us after) e p.puts)

pub loop-index-init : goal.loop-index-init
loop-index-init c = record { same = refl; lined = starts _ _ refl }

pub put_line-requires : goal.put_line-requires
put_line-requires c =
    let p = c.loop-index.invariant.lined in
    omega (arith, p.few, p.puts.long)

pub loop-index-preserved : goal.loop-index-preserved
loop-index-preserved c =
    let x = c.node_at in
    let y = c.node_at-in-loop-index in
    let few = line_few x.result y.result (omega arith) (omega arith) (omega arith) in
    record { same = c.put_line.ensures.same ∙ c.loop-index.invariant.same; lined = one_more c.loop-index.invariant.lined x.result y.result (omega arith) x.ensures y.ensures few c.put_line.ensures }

pub returns : goal.returns
returns c =
    let i = c.loop-index.invariant in
    let p = i.lined in
    let least = lines_least c.args.pairs.now c.args.text.now c.loop-index.index (omega arith) in
    search (rules, ends p least, sym i.same)
