-- Function: `check_on` (src/list.rt).
-- Why it holds: Words at fault are answered at once, and whole words are walked.
-- What would break it: A fault of the words passed over, or a refusal given as TAKEN, would be
-- caught at its return.
use mathlib.Core.Path.{◌≡◌, refl, sym, ap, ◌∙◌}
use mathlib.Core.List.{List, ◌∷◌}
use Prim.Native.Nat.{ℕ, ◌+◌, ◌*◌, ◌<◌}
use native.Mathlib.Omega.{arith}
use lib.ListN.{length, drop}
use Rattle.std.proofs.Common.{rules}
use Rattle.nodes.specs.declared.node.Node.{Node}
use borrow.Author.Tests.{eq-eqb, ne_eqb}
use Rattle.std.proofs.lemmas.Result.{err_from_is_err_and}
use Rattle.answers.specs.Answer.{TAKEN}
use Rattle.answers.specs.Refusal.{verdict_of, verdict_in}
use Rattle.answers.specs.Verdict.{ANCESTORS, verdict}
use Rattle.answers.proofs.RefusalLaws.{never_taken}
use Rattle.nodes.specs.Words.{NODE_WORDS, nodes}
use Rattle.nodes.proofs.WordLaws.{length_nodes, nodes_drop}
use Rattle.lists.specs.Private.Walk.{node_from}
use Rattle.lists.proofs.WalkLaws.{head_from}
use Rattle.lists.specs.Check.{check_nodes, check_words, word_fault}
use Rattle.lists.proofs.Taken.{whole_words}
use Rattle.lists.proofs.list.check_on.Goals as goal

module _ (ws : List ℕ) (f : ℕ) (q : f ≡ word_fault ws) where
  faulty : (f ≡ TAKEN → ⊥) → verdict f ANCESTORS 0 ≡ check_words ws
  unfolding check_words
  faulty h = rw (← q, ne_eqb _ _ h)

  whole : f ≡ TAKEN → check_nodes (nodes ws) ≡ check_words ws
  unfolding check_words
  whole h = rw (← q, eq-eqb _ _ h) refl

pub returns-in_err-check_whole : goal.returns-in_err-check_whole
returns-in_err-check_whole c =
    let e = err_from_is_err_and _ c.from_residual.ensures.1 in
    ap verdict_in e.1 ∙ ap verdict_of e.2
    ∙ faulty c.args.words.now _ c.in_err-check_whole.ensures (never_taken _)

-- The nodes are handed out as their words lie in the list.
handed : (ws : List ℕ) (i : ℕ) (n : Node) → n ≡ node_from ws (NODE_WORDS * i) → NODE_WORDS * i + 3 < length ws
    → drop i (nodes ws) ≡ n ∷ drop (i + 1) (nodes ws)
handed ws i n q h =
    let next : NODE_WORDS * i + 4 ≡ NODE_WORDS * (i + 1) = omega arith in
    rw q (sym (nodes_drop ws i) ∙ head_from ws (NODE_WORDS * i) h ∙ ap (λ ns. node_from ws (NODE_WORDS * i) ∷ ns) (ap (λ k. nodes (drop k ws)) next ∙ nodes_drop ws (i + 1)))

pub pass_nodes-requires : goal.pass_nodes-requires
pass_nodes-requires c =
    let w = (whole_words c.args.words.now).0 (sym c.in_ok-check_whole.ensures) in
    (omega arith, λ i l. (λ κs at passed kept size u. omega arith, λ κs at passed kept size u held. omega arith))

pub returns-in_err-pass_nodes : goal.returns-in_err-pass_nodes
returns-in_err-pass_nodes c =
    let ws = c.args.words.now in
    let e = err_from_is_err_and _ c.from_residual-in_err-pass_nodes.ensures.1 in
    ap verdict_in e.1 ∙ ap verdict_of e.2 ∙ sym (ap verdict_in c.in_err-pass_nodes.was)
    ∙ c.pass_nodes.ensures (nodes ws) (length_nodes ws ∙ sym c.node_count.ensures) (λ i n l p. handed ws i n (search rules) (omega (arith, length_nodes ws)))
    ∙ whole ws _ c.in_ok-check_whole.ensures refl

pub returns : goal.returns
returns c =
    let ws = c.args.words.now in
    sym (ap verdict_in c.in_ok-pass_nodes.was)
    ∙ c.pass_nodes.ensures (nodes ws) (length_nodes ws ∙ sym c.node_count.ensures) (λ i n l p. handed ws i n (search rules) (omega (arith, length_nodes ws)))
    ∙ whole ws _ c.in_ok-check_whole.ensures refl
