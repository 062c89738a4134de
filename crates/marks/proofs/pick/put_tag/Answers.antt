-- Function: `put_tag` (src/pick.rt).
-- Why it holds: The words written are those of the nodes picked from the rows passed. Each row with
-- the tag adds its own.
-- What would break it: A node of another tag copied, or one written over another, would be caught
-- at the loop.
use mathlib.Core.Path.{◌≡◌, refl, sym, ap, ◌∙◌}
use mathlib.Core.List.{List, [], ◌∷◌, flat_map}
use Prim.Native.Nat.{ℕ, ◌+◌, ◌/◌, ◌≤◌, ◌<◌}
use native.Mathlib.Omega.{arith}
use lib.ListN.{length, length-append}
use Rattle.nodes.specs.Words.{words_of, count, put_node}
use Rattle.answers.specs.Output.{words_in, written}
use Rattle.marks.specs.declared.row.Row.{Row}
use Rattle.marks.specs.Outcome.{nodes_with, picked_words}
use Rattle.marks.specs.Table.{ROW_WORDS, rows, row_in}
use Rattle.marks.proofs.Picking.{firsts_with, firsts_none, firsts_few, firsts_all, firsts_part, firsts_yes, firsts_no, put_beyond, length_put}
use Rattle.marks.proofs.pick.put_tag.Invariants.{Puts}
use Rattle.marks.proofs.pick.put_tag.Goals as goal
use Rattle.marks.proofs.pick.put_tag.Goals.{then-row-tag, else-row-tag}

module _ (tag : ℕ) (table out₀ : List ℕ) (index : ℕ) (h : index < length table / ROW_WORDS) (r : Row) (e : r ≡ row_in (rows table) index)
    (found : ℕ) (out : List ℕ) (p : Puts tag table out₀ index found out) where
  added_yes : (out' : List ℕ) (found' : ℕ) → length (nodes_with tag (rows table)) ≤ count out₀ → r.tag ≡ tag → out' ≡ put_node out found r.node
      → found' ≡ found + 1 → Puts tag table out₀ (index + 1) found' out'
  added_yes out' found' room k f g =
      let more = firsts_yes tag table index h r e k in
      let few = p.few in
      let same = p.same in
      let one = length-append (firsts_with tag table index) (r.node ∷ []) in
      let part = firsts_part tag table (index + 1) in
      let so = ap length more in
      record {
        few = omega arith;
        same = ap length f ∙ length_put out found r.node ∙ same;
        output = f ∙ put_beyond (firsts_with tag table index) r.node out₀ out found few (omega arith) same p.output
            ∙ ap (λ ns. written (words_in words_of ns) out₀) (sym more);
      }

  added_no : (out' : List ℕ) (found' : ℕ) → (r.tag ≡ tag → ⊥) → out' ≡ out → found' ≡ found → Puts tag table out₀ (index + 1) found' out'
  added_no out' found' k f g =
      let as_before = firsts_no tag table index h r e k in
      record {
        few = g ∙ p.few ∙ ap length (sym as_before);
        same = ap length f ∙ p.same;
        output = f ∙ p.output ∙ ap (λ ns. written (words_in words_of ns) out₀) (sym as_before);
      }

starts : (tag : ℕ) (table out₀ : List ℕ) → Puts tag table out₀ 0 0 out₀
unfolding words_in flat_map written
starts tag table out₀ =
    let e = firsts_none tag table in
    record { few = sym (ap length e); same = refl; output = sym (ap (λ ns. written (words_in words_of ns) out₀) e) }

ends : (tag : ℕ) (table out₀ : List ℕ) (index found : ℕ) (out : List ℕ) → length table / ROW_WORDS ≤ index → Puts tag table out₀ index found out
    → out ≡ written (picked_words tag table) out₀
unfolding picked_words
ends tag table out₀ index found out h p = p.output ∙ ap (λ ns. written (words_in words_of ns) out₀) (firsts_all tag table index h)

pub loop-index-init : goal.loop-index-init
loop-index-init c = starts _ _ _

pub overflow_add-found : goal.overflow_add-found
overflow_add-found c =
    let a = c.args in
    let l = c.loop-index in
    omega (arith, firsts_few a.tag a.table.now l.index, l.invariant.few)

pub loop-index-preserved : goal.loop-index-preserved
loop-index-preserved c =
    let l = c.loop-index in
    let s = c in
    let table = s.args.table.now in
    let out = s.args.out.now in
    let q = c.row_at-row.ensures in
    let i = l.index in
    let p = l.invariant in
    elim c.if-row-tag.branch [
      | then-row-tag w ↦ added_yes s.args.tag table out i (omega arith) _ q _ _ p _ _ s.requires w.if-row-tag.true (w.out-is ∙ w.put_node.ensures) w.found-is
      | else-row-tag w ↦ added_no s.args.tag table out i (omega arith) _ q _ _ p _ _ w.if-row-tag.false w.out-is w.found-is
    ]

pub shape_of-out : goal.shape_of-out
shape_of-out c = c.loop-index.invariant.same

pub returns : goal.returns
returns c =
    let a = c.args in
    ends a.tag a.table.now a.out.now _ _ _ (omega arith) c.loop-index.invariant
