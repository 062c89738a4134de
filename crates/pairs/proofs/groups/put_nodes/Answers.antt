-- Function: `put_nodes` (src/groups.rt).
-- Why it holds: The ancestor's four words are stored from eight times the index on, and the
-- descendant's right after them, which is the pair.
-- What would break it: A node stored one word off would be caught at the return.
use Prim.Native.Nat.{ℕ, ◌+◌, ◌*◌}
use mathlib.Core.Path.{◌≡◌, refl, ap, ◌∙◌}
use mathlib.Core.List.{List}
use lib.Seq.{sets}
use Rattle.answers.proofs.OutputLaws.{sets_more}
use Rattle.nodes.specs.declared.node.Node.{Node}
use Rattle.nodes.specs.Words.{words_of}
use Rattle.paging.specs.Private.Serve.{store}
use Rattle.tickets.specs.PairWords.{PAIR_WORDS, pair_words}
use Rattle.pairs.proofs.groups.put_nodes.Goals as goal

two_nodes : (ws us vs : List ℕ) (i : ℕ) (x y : Node) → us ≡ sets ws (8 * i) (words_of x) → vs ≡ sets us (8 * i + 4) (words_of y)
    → vs ≡ store pair_words PAIR_WORDS ws i (record { ancestor = x; descendant = y })
unfolding store pair_words words_of
two_nodes ws us vs i x y e f =
    f ∙ ap (λ ts. sets ts (8 * i + 4) (words_of y)) e ∙ sets_more (words_of x) (words_of y) ws (8 * i) (8 * i + 4) refl

pub returns : goal.returns
returns c = two_nodes _ _ _ _ _ _ c.put_words.ensures c.put_words-2.ensures
