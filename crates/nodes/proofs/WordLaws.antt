-- Why it holds: Each further node is four further words, so node number i begins at word 4 * i.
-- What would break it: A node read one word off, or written over its neighbour, would be caught
-- here.
use mathlib.Core.Path.{◌≡◌, refl, ap, sym, ◌∙◌}
use mathlib.Core.List.{List, [], ◌∷◌, flat_map}
use Prim.Native.Nat.{ℕ, zero, suc, ◌+◌, ◌*◌, ◌%◌, ◌≤◌, ◌<◌}
use native.Mathlib.Omega.{arith}
use native.Mathlib.Nat.{not-suc-le-zero}
use lib.ListN.{length, get_or, set, take, drop, drop_of_length-le}
use lib.Seq.{sets, take_all, take-nil, drop-nil, drop-cons}
use native.Mathlib.Numerals.{add-one, towards_suc}
use borrow.Author.Tests.{lt-ltb}
use Rattle.nodes.specs.declared.node.Node.{Node}
use Rattle.nodes.specs.Words.{node, nodes, count, node_at, words_of, put_node}
use Rattle.answers.specs.Output.{words_in}
use Rattle.answers.proofs.OutputLaws.{length_items}

pub length_nodes : (ws : List ℕ) → length (nodes ws) ≡ count ws
unfolding nodes
length_nodes [] = refl
length_nodes (d ∷ []) = refl
length_nodes (d ∷ s ∷ []) = refl
length_nodes (d ∷ s ∷ e ∷ []) = refl
length_nodes (d ∷ s ∷ e ∷ l ∷ ws) = let h = length_nodes ws in omega arith

beyond : (d s e l : ℕ) (ws : List ℕ) {k m : ℕ} → m ≡ suc (suc (suc (suc k))) → get_or (d ∷ s ∷ e ∷ l ∷ ws) m 0 ≡ get_or ws k 0
beyond d s e l ws q = rw q

-- A node's words are those at four times its index.
pub node_words : (ws : List ℕ) (i : ℕ) → i < count ws
    → node_at ws i ≡ node (get_or ws (4 * i) 0) (get_or ws (4 * i + 1) 0) (get_or ws (4 * i + 2) 0) (get_or ws (4 * i + 3) 0)
unfolding nodes node_at
node_words [] i h = absurd (not-suc-le-zero h)
node_words (d ∷ []) i h = absurd (not-suc-le-zero h)
node_words (d ∷ s ∷ []) i h = absurd (not-suc-le-zero h)
node_words (d ∷ s ∷ e ∷ []) i h = absurd (not-suc-le-zero h)
node_words (d ∷ s ∷ e ∷ l ∷ ws) zero h = refl
node_words (d ∷ s ∷ e ∷ l ∷ ws) (suc i) h =
    node_words ws i (omega arith)
    ∙ λ k. node
    (sym (beyond d s e l ws {k = 4 * i} {m = 4 * suc i} (omega arith)) k)
    (sym (beyond d s e l ws {k = 4 * i + 1} {m = 4 * suc i + 1} (omega arith)) k)
    (sym (beyond d s e l ws {k = 4 * i + 2} {m = 4 * suc i + 2} (omega arith)) k)
    (sym (beyond d s e l ws {k = 4 * i + 3} {m = 4 * suc i + 3} (omega arith)) k)

-- A node of four zeros, as the default node is.
pub zeros : (n : Node) → (n.document ≡ 0) × ((n.start ≡ 0) × ((n.end ≡ 0) × (n.level ≡ 0))) → n ≡ node 0 0 0 0
zeros n h = λ k. node (h.0 k) (h.1.0 k) (h.1.1.0 k) (h.1.1.1 k)

-- Storing words past the first node stores them into the rest.
past : (d s e l : ℕ) (ws : List ℕ) {k m : ℕ} (vs : List ℕ) → m ≡ suc (suc (suc (suc k)))
    → sets (d ∷ s ∷ e ∷ l ∷ ws) m vs ≡ d ∷ s ∷ e ∷ l ∷ sets ws k vs
past d s e l ws [] q = refl
past d s e l ws {k} (v ∷ vs) q = rw q (past d s e l (set ws k v) vs refl)

-- Storing a node's four words at four times its index stores the node there.
stored : (ws : List ℕ) (i : ℕ) (n : Node) → i < count ws → nodes (sets ws (4 * i) (words_of n)) ≡ set (nodes ws) i n
unfolding nodes words_of
stored [] i n h = absurd (not-suc-le-zero h)
stored (d ∷ []) i n h = absurd (not-suc-le-zero h)
stored (d ∷ s ∷ []) i n h = absurd (not-suc-le-zero h)
stored (d ∷ s ∷ e ∷ []) i n h = absurd (not-suc-le-zero h)
stored (d ∷ s ∷ e ∷ l ∷ ws) zero n h = refl
stored (d ∷ s ∷ e ∷ l ∷ ws) (suc i) n h =
    ap nodes (past d s e l ws {k = 4 * i} {m = 4 * suc i} (words_of n) (omega arith)) ∙ ap (λ ns. node d s e l ∷ ns) (stored ws i n (omega arith))

-- Four stores in a row write a node's words, at any place.
pub four_words : (ws : List ℕ) (w : ℕ) (n : Node)
    → set (set (set (set ws w n.document) (w + 1) n.start) (w + 2) n.end) (w + 3) n.level ≡ sets ws w (words_of n)
unfolding words_of
four_words ws w n = simp towards_suc

-- Writing a node's words where node i begins is `put_node` at i.
pub words_put : (ws : List ℕ) (w i : ℕ) (n : Node) → w ≡ 4 * i → i < count ws → sets ws w (words_of n) ≡ put_node ws i n
unfolding put_node
words_put ws w i n q h = rw (q, lt-ltb _ _ h) refl

pub four_stores : (ws : List ℕ) (w i : ℕ) (n : Node) → w ≡ 4 * i → i < count ws
    → set (set (set (set ws w n.document) (w + 1) n.start) (w + 2) n.end) (w + 3) n.level ≡ put_node ws i n
four_stores ws w i n q h = four_words ws w n ∙ words_put ws w i n q h

-- After `put_node` at i the nodes are those from before, with node i replaced.
pub nodes_put : (ws : List ℕ) (i : ℕ) (n : Node) → i < count ws → nodes (put_node ws i n) ≡ set (nodes ws) i n
unfolding put_node
nodes_put ws i n h = rw (lt-ltb i (count ws) h) (stored ws i n h)

-- The nodes from an index on begin with the one there; from the count on there are none.
pub nodes_from_lem : (ws : List ℕ) (i : ℕ) → i < count ws → drop i (nodes ws) ≡ node_at ws i ∷ drop (i + 1) (nodes ws)
unfolding node_at
nodes_from_lem ws i h = rw (add-one i) (drop-cons (nodes ws) i (node 0 0 0 0) (omega (arith, length_nodes ws)))

pub nodes_beyond : (ws : List ℕ) (i : ℕ) → count ws ≤ i → drop i (nodes ws) ≡ []
nodes_beyond ws i h = drop_of_length-le (nodes ws) {i = i} (omega (arith, length_nodes ws))

-- Dropping or taking k nodes is dropping or taking 4 * k words.
beyond_four : (d s e l : ℕ) (ws : List ℕ) {k m : ℕ} → m ≡ suc (suc (suc (suc k))) → drop m (d ∷ s ∷ e ∷ l ∷ ws) ≡ drop k ws
beyond_four d s e l ws q = rw q

pub nodes_drop : (ws : List ℕ) (k : ℕ) → nodes (drop (4 * k) ws) ≡ drop k (nodes ws)
unfolding nodes
nodes_drop [] k = ap nodes (drop-nil (4 * k)) ∙ sym (drop-nil k)
nodes_drop (d ∷ []) zero = refl
nodes_drop (d ∷ []) (suc k) = ap nodes (drop_of_length-le (d ∷ []) {i = 4 * suc k} (omega arith))
nodes_drop (d ∷ s ∷ []) zero = refl
nodes_drop (d ∷ s ∷ []) (suc k) = ap nodes (drop_of_length-le (d ∷ s ∷ []) {i = 4 * suc k} (omega arith))
nodes_drop (d ∷ s ∷ e ∷ []) zero = refl
nodes_drop (d ∷ s ∷ e ∷ []) (suc k) = ap nodes (drop_of_length-le (d ∷ s ∷ e ∷ []) {i = 4 * suc k} (omega arith))
nodes_drop (d ∷ s ∷ e ∷ l ∷ ws) zero = refl
nodes_drop (d ∷ s ∷ e ∷ l ∷ ws) (suc k) = ap nodes (beyond_four d s e l ws {k = 4 * k} {m = 4 * suc k} (omega arith)) ∙ nodes_drop ws k

up_to_four : (d s e l : ℕ) (ws : List ℕ) {k m : ℕ} → m ≡ suc (suc (suc (suc k))) → take m (d ∷ s ∷ e ∷ l ∷ ws) ≡ d ∷ s ∷ e ∷ l ∷ take k ws
up_to_four d s e l ws q = rw q

pub nodes_take : (ws : List ℕ) (k : ℕ) → nodes (take (4 * k) ws) ≡ take k (nodes ws)
unfolding nodes
nodes_take [] k = ap nodes (take-nil (4 * k)) ∙ sym (take-nil k)
nodes_take (d ∷ []) zero = refl
nodes_take (d ∷ []) (suc k) = ap nodes (take_all (4 * suc k) (d ∷ []) (omega arith))
nodes_take (d ∷ s ∷ []) zero = refl
nodes_take (d ∷ s ∷ []) (suc k) = ap nodes (take_all (4 * suc k) (d ∷ s ∷ []) (omega arith))
nodes_take (d ∷ s ∷ e ∷ []) zero = refl
nodes_take (d ∷ s ∷ e ∷ []) (suc k) = ap nodes (take_all (4 * suc k) (d ∷ s ∷ e ∷ []) (omega arith))
nodes_take (d ∷ s ∷ e ∷ l ∷ ws) zero = refl
nodes_take (d ∷ s ∷ e ∷ l ∷ ws) (suc k) =
    ap nodes (up_to_four d s e l ws {k = 4 * k} {m = 4 * suc k} (omega arith)) ∙ ap (λ ns. node d s e l ∷ ns) (nodes_take ws k)

-- Nodes written as words are read as the same nodes.
pub nodes_of_words : (ns : List Node) → nodes (words_in words_of ns) ≡ ns
unfolding nodes words_in flat_map words_of
nodes_of_words [] = refl
nodes_of_words (n ∷ ns) = ap (λ ms. n ∷ ms) (nodes_of_words ns)

-- And words that make whole nodes, read as nodes, are written as the same words.
pub words_of_nodes : (ws : List ℕ) → length ws % 4 ≡ 0 → words_in words_of (nodes ws) ≡ ws
unfolding nodes words_in flat_map words_of
words_of_nodes [] h = refl
words_of_nodes (d ∷ []) h = absurd (omega arith)
words_of_nodes (d ∷ s ∷ []) h = absurd (omega arith)
words_of_nodes (d ∷ s ∷ e ∷ []) h = absurd (omega arith)
words_of_nodes (d ∷ s ∷ e ∷ l ∷ ws) h = ap (λ vs. d ∷ s ∷ e ∷ l ∷ vs) (words_of_nodes ws (omega arith))

pub length_words : (ns : List Node) → length (words_in words_of ns) ≡ 4 * length ns
unfolding words_of
length_words ns = length_items words_of 4 (λ n. refl) ns
