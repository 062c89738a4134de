-- docs/SCOPE.md, "Listings and tickets": the words of a pair, and the room of an output.
use Rattle.std.specs.Prelude.{ℕ, ◌/◌, List, [], ◌∷◌, ◌++◌, length}
use Rattle.nodes.specs.declared.node.Node.{Node}
use Rattle.nodes.specs.Words.{words_of}
use Rattle.tickets.specs.Listing.{Pair}

-- The number of words that a pair takes: the ancestor's four and then the descendant's four.
abbrev pub PAIR_WORDS : ℕ
PAIR_WORDS = 8

-- The words of a pair.
unfoldable pub pair_words : Pair → List ℕ
pair_words p = words_of p.ancestor ++ words_of p.descendant

-- The pairs that the nodes make when they are read two at a time: an ancestor and then a
-- descendant.
unfoldable pub pairs_in : List Node → List Pair
pairs_in [] = []
pairs_in (x ∷ []) = []
pairs_in (x ∷ y ∷ ns) = record { ancestor = x; descendant = y } ∷ pairs_in ns

-- The room of an output, in pairs: how often eight words fit into it.
abbrev pub room : List ℕ → ℕ
room out = length out / PAIR_WORDS
