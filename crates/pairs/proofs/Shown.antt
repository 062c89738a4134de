-- Why it holds: A pair's eight words are its two nodes, and each pair's words follow those of the
-- pair before. So the output, read two nodes at a time, begins with the pairs.
-- What would break it: A pair written one word off, nodes in the wrong order, or a place that isn't
-- that of the last pair written would be caught here.
use mathlib.Core.Path.{◌≡◌, refl, sym, ap, ◌∙◌}
use mathlib.Core.List.{List, [], ◌∷◌, ◌++◌, flat_map, append-nil}
use Prim.Native.Nat.{ℕ, suc, ◌+◌, ◌*◌, ◌-◌}
use native.Mathlib.Omega.{arith}
use lib.Dec.{eqb-suc-zero}
use lib.ListN.{length, take, get_or}
use lib.Seq.{take-append_seam}
use Rattle.nodes.specs.declared.node.Node.{Node}
use Rattle.nodes.specs.Words.{node, nodes, words_of}
use Rattle.paging.specs.Page.{reached}
use Rattle.answers.specs.Output.{words_in, written}
use Rattle.tickets.specs.declared.ticket.Order.{Order}
use Rattle.tickets.specs.declared.ticket.Place.{Place}
use Rattle.tickets.specs.declared.ticket.Place.TheVariants.{After}
use Rattle.tickets.specs.declared.ticket.Ticket.{Ticket}
use Rattle.tickets.specs.Listing.{Pair, key_of}
use Rattle.tickets.specs.PairWords.{pair_words, pairs_in}
use Rattle.pairs.specs.Calls.{Call, shown}
use Rattle.pairs.specs.Page.{handed_out, page_of, output_after}
use Rattle.pairs.specs.Private.Sweep.{key_in, place_reached}

-- Words that begin with those of pairs, read two nodes at a time, begin with the pairs.
pub pairs_first : (ps : List Pair) (rest : List ℕ) → pairs_in (nodes (words_in pair_words ps ++ rest)) ≡ ps ++ pairs_in (nodes rest)
unfolding words_in flat_map pair_words words_of nodes pairs_in
pairs_first [] rest = refl
pairs_first (p ∷ ps) rest = ap (λ qs. p ∷ qs) (pairs_first ps rest)

-- The words of some pairs, read back, are the pairs.
pub pairs_read : (ps : List Pair) → pairs_in (nodes (words_in pair_words ps)) ≡ ps
unfolding nodes pairs_in
pairs_read ps = ap (λ words. pairs_in (nodes words)) (sym (append-nil (words_in pair_words ps))) ∙ pairs_first ps [] ∙ append-nil ps

-- What the output shows is what the call hands out.
pub shown_is : (t : Ticket) (c : Call) → shown t c ≡ handed_out c.ancestors c.descendants t c.out
unfolding page_of output_after written
shown_is t c =
    let given = handed_out c.ancestors c.descendants t c.out in
    ap (take (length given)) (pairs_first given _) ∙ take-append_seam given _

-- After two nodes, the node at an index is the one two places earlier in the rest.
beyond : (x y : Node) (ns : List Node) {k m : ℕ} → m ≡ suc (suc k) → get_or (x ∷ y ∷ ns) m (node 0 0 0 0) ≡ get_or ns k (node 0 0 0 0)
beyond x y ns q = rw q

key_beyond : (order : Order) (x y : Node) (ns : List Node) (k : ℕ) → key_in order (x ∷ y ∷ ns) (suc k) ≡ key_in order ns k
unfolding key_in
key_beyond order x y ns k =
    λ i. key_of order (record {
      ancestor = beyond x y ns {k = 2 * k} {m = 2 * suc k} (omega arith) i;
      descendant = beyond x y ns {k = 2 * k + 1} {m = 2 * suc k + 1} (omega arith) i;
    })

-- Where pairs were handed out, the place is the key of the last.
place_last : (order : Order) (place : Place) (ns : List Node) (k : ℕ) → place_reached order place ns (suc k) ≡ After (key_in order ns k)
unfolding place_reached
place_last order place ns k = let e : suc k - 1 ≡ k = omega arith in rw (eqb-suc-zero k, e)

-- The key of the last pair, read off the output, is the place that the pairs reach.
pub last_place : (order : Order) (place : Place) (ps : List Pair) (rest : List ℕ)
    → place_reached order place (nodes (words_in pair_words ps ++ rest)) (length ps) ≡ reached (λ p. After (key_of order p)) place ps
unfolding place_reached key_in reached words_in flat_map pair_words words_of nodes
last_place order place [] rest = refl
last_place order place (p ∷ []) rest = refl
last_place order place (p ∷ q ∷ ps) rest =
    let ns = nodes (words_in pair_words (q ∷ ps) ++ rest) in
    place_last order place (p.ancestor ∷ p.descendant ∷ ns) (length (q ∷ ps))
    ∙ ap After (key_beyond order p.ancestor p.descendant ns (length ps))
    ∙ sym (place_last order (After (key_of order p)) ns (length ps))
    ∙ last_place order (After (key_of order p)) (q ∷ ps) rest
