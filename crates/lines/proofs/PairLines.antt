-- Why it holds: Two more nodes are one more pair, so a pair's nodes lie at twice its index. The
-- lines grow pair by pair.
-- What would break it: A pair of other nodes, or a line one pair off, would be caught here.
use mathlib.Core.Path.{◌≡◌, refl, sym, ap, ◌∙◌}
use mathlib.Core.Logic.{inl, inr}
use mathlib.Core.List.{List, [], ◌∷◌, ◌++◌, flat_map}
use Prim.Native.Nat.{ℕ, zero, suc, ◌+◌, ◌*◌, ◌/◌, ◌≤◌, ◌<◌, min}
use native.Mathlib.Nat.{not-suc-le-zero}
use native.Mathlib.Numerals.{add-one}
use native.Mathlib.Omega.{arith}
use lib.Dec.{ltb}
use lib.ListN.{length, get_or, take}
use lib.Seq.{take_all, take-suc}
use borrow.Author.Tests.{ltb-true, ltb-false}
use Rattle.laws.proofs.Tests.{either}
use Rattle.nodes.specs.declared.node.Node.{Node}
use Rattle.nodes.specs.Words.{node, nodes, count, node_at}
use Rattle.answers.specs.Output.{words_in}
use Rattle.nodes.proofs.WordLaws.{length_nodes}
use Rattle.tickets.specs.Listing.{Pair}
use Rattle.tickets.specs.PairWords.{pairs_in}
use Rattle.answers.proofs.OutputLaws.{words_one_more}
use Rattle.lines.specs.Line.{LINE_BYTES, pair_with, pair_line, lines_for}

length_pairs : (ns : List Node) → length (pairs_in ns) ≡ length ns / 2
unfolding pairs_in
length_pairs [] = refl
length_pairs (x ∷ []) = refl
length_pairs (x ∷ y ∷ ns) = let h = length_pairs ns in omega arith

beyond : (x y : Node) (ns : List Node) (d : Node) {k m : ℕ} → m ≡ suc (suc k) → get_or (x ∷ y ∷ ns) m d ≡ get_or ns k d
beyond x y ns d q = rw q

pair_there : (ns : List Node) (i : ℕ) (d : Node) (p : Pair) → i < length ns / 2
    → get_or (pairs_in ns) i p ≡ pair_with (get_or ns (2 * i) d) (get_or ns (2 * i + 1) d)
unfolding pairs_in
pair_there [] i d p h = absurd (not-suc-le-zero h)
pair_there (x ∷ []) i d p h = absurd (not-suc-le-zero h)
pair_there (x ∷ y ∷ ns) zero d p h = refl
pair_there (x ∷ y ∷ ns) (suc i) d p h =
    pair_there ns i d p (omega arith)
    ∙ λ k. pair_with
    (sym (beyond x y ns d {k = 2 * i} {m = 2 * suc i} (omega arith)) k)
    (sym (beyond x y ns d {k = 2 * i + 1} {m = 2 * suc i + 1} (omega arith)) k)

-- The lines of the first `index` pairs.
abbrev pub first_lines : List ℕ → ℕ → List ℕ
first_lines pairs index = words_in pair_line (take index (pairs_in (nodes pairs)))

pub lines_none : (pairs : List ℕ) → first_lines pairs 0 ≡ []
unfolding words_in flat_map
lines_none pairs = refl

pub lines_more : (pairs : List ℕ) (i : ℕ) (x y : Node) → i < count pairs / 2 → x ≡ node_at pairs (2 * i) → y ≡ node_at pairs (2 * i + 1)
    → first_lines pairs (i + 1) ≡ first_lines pairs i ++ pair_line (pair_with x y)
unfolding node_at
lines_more pairs i x y h p q =
    let ns = nodes pairs in
    let d = node 0 0 0 0 in
    let l = length_nodes pairs in
    let m = length_pairs ns in
    let e = pair_there ns i d (pair_with d d) (omega arith) ∙ (λ k. pair_with (sym p k) (sym q k)) in
    ap (words_in pair_line) (ap (λ k. take k (pairs_in ns)) (add-one i) ∙ take-suc (pairs_in ns) i (pair_with d d) (omega arith)
    ∙ ap (λ pair. take i (pairs_in ns) ++ pair ∷ []) e)
    ∙ words_one_more pair_line (take i (pairs_in ns)) (pair_with x y)

-- The first `i` pairs are those that the text has room for, if it has room for no more or there are
-- no more.
module _ (pairs text : List ℕ) (i : ℕ) where
  pub lines_fit : i ≡ length text / LINE_BYTES → first_lines pairs i ≡ lines_for pairs text
  unfolding lines_for
  lines_fit h = ap (first_lines pairs) h

  pub lines_all : i ≤ length text / LINE_BYTES → count pairs / 2 ≤ i → first_lines pairs i ≡ lines_for pairs text
  unfolding lines_for
  lines_all h k =
      let ps = pairs_in (nodes pairs) in
      let l = length_nodes pairs in
      let m = length_pairs (nodes pairs) in
      ap (words_in pair_line) (take_all i ps (omega arith) ∙ sym (take_all (length text / LINE_BYTES) ps (omega arith)))

  -- So are those up to the least of the two numbers.
  pub lines_least : i ≡ min (length text / LINE_BYTES) (count pairs / 2) → first_lines pairs i ≡ lines_for pairs text
  lines_least h =
      let room = length text / LINE_BYTES in
      elim (either (ltb room (count pairs / 2))) [
        | inl l ↦ let less = ltb-true room (count pairs / 2) l in lines_fit (omega arith)
        | inr l ↦ let less = ltb-false room (count pairs / 2) l in lines_all (omega arith) (omega arith)
      ]
