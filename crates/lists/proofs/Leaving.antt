-- Why it holds: Each fault of a list is one of a node or of two nodes. JOINT is one of two nodes,
-- one from each list. So leaving nodes out takes faults away and adds none.
-- What would break it: An answer that a node draws by not being there would be caught here.
use mathlib.Core.Path.{◌≡◌}
use mathlib.Core.Bool.{false}
use mathlib.Core.List.{List}
use Prim.Native.Nat.{ℕ, ◌%◌, ◌≤◌}
use native.Mathlib.Omega.{arith}
use lib.ListN.{length}
use Rattle.answers.specs.Answer.{TAKEN}
use Rattle.laws.specs.Choose.{All, EveryTwo, Part}
use Rattle.laws.proofs.Choices.{all_map}
use Rattle.laws.proofs.Parts.{part_all, part_every_two, part_fewer}
use Rattle.nodes.specs.declared.node.Node.{Node}
use Rattle.nodes.specs.Words.{NODE_WORDS, MOST_NODES, nodes, count}
use Rattle.nodes.proofs.WordLaws.{length_nodes}
use Rattle.lists.specs.Check.{check_words}
use Rattle.lists.specs.Two.{oddsb, check_two}
use Rattle.lists.proofs.Faults.{Sound}
use Rattle.lists.proofs.Merging.{Even, self_even}
use Rattle.lists.proofs.Pairing.{two_taken_iff}
use Rattle.lists.proofs.Taken.{Fine, words_taken_iff}

-- Two lists without nodes at odds have none either where nodes are left out.
part_even : {xs ys xs' ys' : List Node} → Part xs' xs → Part ys' ys → Even xs ys → Even xs' ys'
part_even {xs} {ys} {xs'} {ys'} p q h =
    part_all (λ x. All (λ y. oddsb x y ≡ false) ys') p (all_map (λ x k. part_all (λ y. oddsb x y ≡ false) q k) xs h)

-- Of nodes without a fault, however many they are:
module _ (ns : List Node) (sound : All Sound ns) (fine : EveryTwo Fine ns) where
  -- A list of some of them is accepted, where it isn't too long.
  some_taken : (vs : List ℕ) → length vs % NODE_WORDS ≡ 0 → count vs ≤ MOST_NODES → Part (nodes vs) ns → (check_words vs).answer ≡ TAKEN
  some_taken vs whole few part = (words_taken_iff vs).1 (whole, few, part_all Sound part sound, part_every_two Fine part fine)

  -- And any two such lists are accepted together.
  pub some_two_taken : (as' ds : List ℕ) → length as' % NODE_WORDS ≡ 0 → count as' ≤ MOST_NODES → Part (nodes as') ns
      → length ds % NODE_WORDS ≡ 0 → count ds ≤ MOST_NODES → Part (nodes ds) ns → (check_two as' ds).answer ≡ TAKEN
  some_two_taken as' ds w f p v g q =
      (two_taken_iff as' ds).1 (some_taken as' w f p, some_taken ds v g q, part_even p q (self_even ns fine))

part_few : (ws vs : List ℕ) → Part (nodes vs) (nodes ws) → count ws ≤ MOST_NODES → count vs ≤ MOST_NODES
part_few ws vs part few = omega (arith, length_nodes ws, length_nodes vs, part_fewer part)

-- An accepted list with some nodes left out is accepted.
part_taken : (ws vs : List ℕ) → length vs % NODE_WORDS ≡ 0 → Part (nodes vs) (nodes ws)
    → (check_words ws).answer ≡ TAKEN → (check_words vs).answer ≡ TAKEN
part_taken ws vs whole part h =
    let t = (words_taken_iff ws).0 h in
    some_taken (nodes ws) t.2 t.3 vs whole (part_few ws vs part t.1) part

-- So are two accepted lists, each with some nodes left out.
pub part_two_taken : (as' ds as'' ds'' : List ℕ) → length as'' % NODE_WORDS ≡ 0 → Part (nodes as'') (nodes as')
    → length ds'' % NODE_WORDS ≡ 0 → Part (nodes ds'') (nodes ds) → (check_two as' ds).answer ≡ TAKEN → (check_two as'' ds'').answer ≡ TAKEN
part_two_taken as' ds as'' ds'' w p v q h =
    let t = (two_taken_iff as' ds).0 h in
    (two_taken_iff as'' ds'').1 (part_taken as' as'' w p t.0, part_taken ds ds'' v q t.1, part_even p q t.2)

-- And so are any two parts of one accepted list.
pub parts_two_taken : (ws as' ds : List ℕ) → length as' % NODE_WORDS ≡ 0 → Part (nodes as') (nodes ws)
    → length ds % NODE_WORDS ≡ 0 → Part (nodes ds) (nodes ws) → (check_words ws).answer ≡ TAKEN → (check_two as' ds).answer ≡ TAKEN
parts_two_taken ws as' ds w p v q h =
    let t = (words_taken_iff ws).0 h in
    some_two_taken (nodes ws) t.2 t.3 as' ds w (part_few ws as' p t.1) p v (part_few ws ds q t.1) q
