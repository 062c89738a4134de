-- Why it holds: Of each further row either the node is picked or nothing is. So what is picked
-- grows row by row and is never more than what all rows give.
-- What would break it: A row of another tag picked, or one passed over, would be caught here.
use mathlib.Core.Path.{◌≡◌, refl, sym, ap, ◌∙◌}
use mathlib.Core.Logic.{inl, inr}
use mathlib.Core.List.{List, [], ◌∷◌, ◌++◌, append-nil}
use Prim.Native.Nat.{ℕ, ◌+◌, ◌*◌, ◌/◌, ◌≤◌, ◌<◌}
use native.Mathlib.Numerals.{add-one}
use native.Mathlib.Omega.{arith}
use lib.Dec.{ltb, eqb}
use lib.ListN.{length, take, drop, length-append, length-take, take-append-drop}
use lib.Seq.{length-sets, take-suc, take_all}
use borrow.Author.Tests.{eq-eqb, ne_eqb, lt-ltb}
use Rattle.nodes.specs.declared.node.Node.{Node}
use Rattle.laws.specs.Choose.{keep}
use Rattle.nodes.specs.Words.{NODE_WORDS, node, words_of, count, put_node}
use Rattle.answers.specs.Output.{words_in, written}
use Rattle.laws.proofs.Tests.{either}
use Rattle.answers.proofs.OutputLaws.{written_more, words_one_more}
use Rattle.marks.specs.declared.row.Row.{Row}
use Rattle.marks.specs.Outcome.{nodes_with, picked_words}
use Rattle.marks.specs.Table.{ROW_WORDS, row, rows, row_in}
use Rattle.nodes.proofs.WordLaws.{length_words}
use Rattle.marks.proofs.RowLaws.{length_rows}

-- The nodes picked of some rows and of one row more.
module _ (tag : ℕ) where
  picked_append : (rs qs : List Row) → nodes_with tag (rs ++ qs) ≡ nodes_with tag rs ++ nodes_with tag qs
  unfolding nodes_with keep
  picked_append [] qs = refl
  picked_append (r ∷ rs) qs =
      elim (either (eqb r.tag tag)) [
        | inl h ↦ rw h (ap (λ ns. r.node ∷ ns) (picked_append rs qs))
        | inr h ↦ rw h (picked_append rs qs)
      ]

  picked_yes : (rs : List Row) (r : Row) → r.tag ≡ tag → nodes_with tag (rs ++ (r ∷ [])) ≡ nodes_with tag rs ++ (r.node ∷ [])
  unfolding nodes_with keep
  picked_yes rs r h = picked_append rs (r ∷ []) ∙ rw (eq-eqb r.tag tag h) refl

  picked_no : (rs : List Row) (r : Row) → (r.tag ≡ tag → ⊥) → nodes_with tag (rs ++ (r ∷ [])) ≡ nodes_with tag rs
  unfolding nodes_with keep
  picked_no rs r h = picked_append rs (r ∷ []) ∙ rw (ne_eqb r.tag tag h) (append-nil (nodes_with tag rs))

  picked_few : (rs : List Row) → length (nodes_with tag rs) ≤ length rs
  unfolding nodes_with keep
  picked_few [] = omega arith
  picked_few (r ∷ rs) = let h = picked_few rs in elim (either (eqb r.tag tag)) [ inl k ↦ rw k (omega arith) | inr k ↦ rw k (omega arith) ]

-- The nodes picked of the first rows of a table.
abbrev pub firsts_with : ℕ → List ℕ → ℕ → List Node
firsts_with tag table index = nodes_with tag (take index (rows table))

pub firsts_none : (tag : ℕ) (table : List ℕ) → firsts_with tag table 0 ≡ []
unfolding nodes_with keep
firsts_none tag table = refl

module _ (tag : ℕ) (table : List ℕ) (index : ℕ) where
  pub firsts_few : length (firsts_with tag table index) ≤ index
  firsts_few = omega (arith, picked_few tag (take index (rows table)), length-take index (rows table))

  pub firsts_all : length table / ROW_WORDS ≤ index → firsts_with tag table index ≡ nodes_with tag (rows table)
  firsts_all h = ap (nodes_with tag) (take_all index (rows table) (omega (arith, length_rows table)))

  -- The first rows never give more nodes than all rows.
  pub firsts_part : length (firsts_with tag table index) ≤ length (nodes_with tag (rows table))
  firsts_part =
      let e = ap (λ rs. length (nodes_with tag rs)) (take-append-drop index (rows table)) in
      let f = ap length (picked_append tag (take index (rows table)) (drop index (rows table))) in
      omega (arith, length-append (firsts_with tag table index) (nodes_with tag (drop index (rows table))))

  module _ (h : index < length table / ROW_WORDS) (r : Row) (e : r ≡ row_in (rows table) index) where
    one_more : take (index + 1) (rows table) ≡ take index (rows table) ++ (r ∷ [])
    unfolding row_in
    one_more = rw (add-one index, e) (take-suc (rows table) index (row (node 0 0 0 0) 0) (omega (arith, length_rows table)))

    pub firsts_yes : r.tag ≡ tag → firsts_with tag table (index + 1) ≡ firsts_with tag table index ++ (r.node ∷ [])
    firsts_yes k = ap (nodes_with tag) one_more ∙ picked_yes tag (take index (rows table)) r k

    pub firsts_no : (r.tag ≡ tag → ⊥) → firsts_with tag table (index + 1) ≡ firsts_with tag table index
    firsts_no k = ap (nodes_with tag) one_more ∙ picked_no tag (take index (rows table)) r k

-- A node put after those already written.
pub put_beyond : (ns : List Node) (n : Node) (out₀ out : List ℕ) (found : ℕ) → found ≡ length ns → found < count out
    → length out ≡ length out₀ → out ≡ written (words_in words_of ns) out₀ → put_node out found n ≡ written (words_in words_of (ns ++ (n ∷ []))) out₀
unfolding put_node words_of
put_beyond ns n out₀ out found e h l f =
    let at : 4 * found ≡ length (words_in words_of ns) = omega (arith, length_words ns) in
    rw (lt-ltb found (count out) h, at, f) (written_more (words_in words_of ns) (words_of n) out₀ (omega arith))
    ∙ ap (λ ws. written ws out₀) (sym (words_one_more words_of ns n))

pub length_put : (ws : List ℕ) (i : ℕ) (n : Node) → length (put_node ws i n) ≡ length ws
unfolding put_node
length_put ws i n = elim (either (ltb i (count ws))) [ inl h ↦ rw h (length-sets ws (4 * i) (words_of n)) | inr h ↦ rw h refl ]

pub length_picked : (tag : ℕ) (table : List ℕ) → length (picked_words tag table) ≡ NODE_WORDS * length (nodes_with tag (rows table))
unfolding picked_words
length_picked tag table = length_words (nodes_with tag (rows table))
