-- Function: `check_bodies` (src/check.rt).
-- Why it holds: The verdict on the bodies still to be checked is the verdict on all. Each turn
-- checks the first of them, which the contents keep short and within the nodes.
-- What would break it: A body cut one node off, or one checked out of turn, would be caught at the
-- next turn. A wrong list named would be caught at its return.
use borrow.Author.Rules.{rules}
use mathlib.Core.Path.{◌≡◌, refl, sym, ap, subst, ◌∙◌}
use mathlib.Core.Bool.{true}
use mathlib.Core.List.{List, ◌∷◌}
use Prim.Native.Nat.{ℕ, ◌+◌, ◌*◌, ◌-◌, ◌/◌, ◌%◌, ◌≤◌, ◌<◌}
use native.Mathlib.Omega.{arith}
use lib.ListN.{length, get_or, take, drop, length-drop, drop_of_length-le}
use lib.Seq.{drop-drop, length-take-le}
use borrow.Author.Tests.{eq-eqb}
use Rattle.std.proofs.lemmas.Result.{err_from_is_err_and}
use Rattle.answers.specs.Answer.{TAKEN}
use Rattle.nodes.specs.Words.{NODE_WORDS, MOST_NODES, nodes}
use Rattle.nodes.proofs.WordLaws.{length_nodes, nodes_take, nodes_drop}
use Rattle.numbers.specs.Little.{NODE_BYTES}
use Rattle.contents.specs.Contents.{entry, laidb}
use Rattle.answers.specs.declared.verdict.Verdict.{Verdict}
use Rattle.lists.specs.Check.{check_nodes, check_words}
use Rattle.answers.specs.Verdict.{in_list, taken}
use Rattle.lists.proofs.Taken.{whole_words}
use Rattle.books.specs.Book.{check_bodies}
use Rattle.books.proofs.BookLaws.{bodies_on, bodies_stop, bodies_end, Named, passed_on, named_in}
use Rattle.writing.specs.declared.wanted.Wanted.{Wanted}
use Rattle.writing.specs.Wanted.{WANTED_WORDS, want, wanted, laid_out, contents_for, bodies_for, size_for, wanted_fault}
use Rattle.writing.proofs.BodyOffsets.{laid_first, laid_end}
use Rattle.writing.proofs.Rules.{Rules, rules_written, wanted_short, wanted_few}
use Rattle.writing.proofs.WantedLaws.{length_wanted, wanted_from, wanted_at}
use Rattle.writing.proofs.check.check_bodies.Invariants.{start, Checks}
use Rattle.writing.proofs.check.check_bodies.Goals as goal

module _ (entries list : List ℕ) (whole : length list % NODE_WORDS ≡ 0) (good : wanted_fault (wanted entries) (nodes list) ≡ TAKEN) where
  kept : Rules (length (wanted entries)) (contents_for (wanted entries)) (size_for (wanted entries) (nodes list))
  kept = rules_written (wanted entries) (nodes list) good

  starts : Checks entries list 0 0
  unfolding size_for contents_for
  starts =
      let l = length_nodes list in
      let e : start entries + 4 * 0 ≡ start entries = omega arith in
      let s : start entries + 4 * length list ≡ size_for (wanted entries) (nodes list) = omega arith in
      record { fit = (λ k. laidb (e k) (laid_out (e k) (wanted entries)) (s k)) ∙ kept.laid; left = refl }

  module _ (from index : ℕ) (p : Checks entries list from index) (h : index < length entries / WANTED_WORDS)
      (w : Wanted) (q : w ≡ get_or (wanted entries) index (want 0 0)) where
    at : ℕ
    at = start entries + 4 * from

    first : drop index (wanted entries) ≡ w ∷ drop (index + 1) (wanted entries)
    first = wanted_from entries index h w q

    short : w.count ≤ MOST_NODES
    short = wanted_at entries index h w q (λ v. v.count ≤ MOST_NODES) (wanted_short (wanted entries) (nodes list) good)

    on : laidb (at + NODE_BYTES * w.count) (laid_out (at + NODE_BYTES * w.count) (drop (index + 1) (wanted entries)))
        (start entries + 4 * length list) ≡ true
    unfolding at laid_out
    on =
        (laid_first at (entry w.tag at w.count) (laid_out (at + NODE_BYTES * w.count) (drop (index + 1) (wanted entries))) _
        (subst (λ ws. laidb at (laid_out at ws) (start entries + 4 * length list) ≡ true) first p.fit)).1

    within : from + 4 * w.count ≤ length list
    unfolding at
    within =
        let e = laid_end (at + NODE_BYTES * w.count) (laid_out (at + NODE_BYTES * w.count) (drop (index + 1) (wanted entries))) _ on in
        omega arith

    -- The words of the next body; the verdict on them is that on its nodes.
    abbrev part : List ℕ
    part = take (from + 4 * w.count - from) (drop from list)

    part_nodes : nodes part ≡ take w.count (nodes (drop from list))
    part_nodes =
        let e : from + 4 * w.count - from ≡ 4 * w.count = omega arith in
        ap (λ m. nodes (take m (drop from list))) e ∙ nodes_take (drop from list) w.count

    part_checked : check_words part ≡ check_nodes (take w.count (nodes (drop from list)))
    unfolding check_words
    part_checked =
        let b = within in
        let s = short in
        let d = length-drop from list in
        let l = length-take-le (from + 4 * w.count - from) (drop from list) (omega arith) in
        rw (eq-eqb _ _ ((whole_words part).1 (omega arith, omega arith))) (ap check_nodes part_nodes)

    -- The bodies left are the next one's nodes and those after it.
    split : bodies_for (drop index (wanted entries)) (nodes (drop from list))
        ≡ take w.count (nodes (drop from list)) ∷ bodies_for (drop (index + 1) (wanted entries)) (nodes (drop (from + 4 * w.count) list))
    unfolding bodies_for
    split =
        ap (λ ws. bodies_for ws (nodes (drop from list))) first
        ∙ ap (λ ns. take w.count (nodes (drop from list)) ∷ bodies_for (drop (index + 1) (wanted entries)) ns)
        (sym (nodes_drop (drop from list) w.count) ∙ ap nodes (drop-drop (4 * w.count) from list))

    module _ (v : Verdict) (c : v ≡ check_words part) where
      one_more : v.answer ≡ TAKEN → Checks entries list (from + 4 * w.count) (index + 1)
      unfolding at
      one_more t =
          let e : at + NODE_BYTES * w.count ≡ start entries + 4 * (from + 4 * w.count) = omega arith in
          record {
            fit = subst (λ k. laidb k (laid_out k (drop (index + 1) (wanted entries))) (start entries + 4 * length list) ≡ true)
                e on;
            left = bodies_on index (take w.count (nodes (drop from list))) _ _ (ap (check_bodies index) (sym split) ∙ p.left)
                v (c ∙ part_checked) t;
          }

      stopped : (v.answer ≡ TAKEN → ⊥) → in_list index v ≡ check_bodies 0 (bodies_for (wanted entries) (nodes list))
      stopped d =
          bodies_stop index (take w.count (nodes (drop from list))) _ _ (ap (check_bodies index) (sym split) ∙ p.left) v (c ∙ part_checked) d

  all_checked : (from index : ℕ) → Checks entries list from index → length entries / WANTED_WORDS ≤ index
      → taken ≡ check_bodies 0 (bodies_for (wanted entries) (nodes list))
  unfolding bodies_for
  all_checked from index p h =
      let l = length_wanted entries in
      let none = drop_of_length-le (wanted entries) {i = index} (omega arith) in
      bodies_end index _ (ap (λ ws. check_bodies index (bodies_for ws (nodes (drop from list)))) (sym none) ∙ p.left)

pub loop-index-init : goal.loop-index-init
loop-index-init c = starts c.args.entries.now c.args.list.now c.requires.0 c.requires.1

pub overflow_add-to : goal.overflow_add-to
overflow_add-to c =
    let l = c.loop-index in
    let b = within c.args.entries.now c.args.list.now c.requires.0 c.requires.1 l.from l.index l.invariant (omega arith)
    _ c.wanted_at-wanted.ensures in
    search rules

pub offset_bounds-list-from : goal.offset_bounds-list-from
offset_bounds-list-from c =
    let l = c.loop-index in
    let b = within c.args.entries.now c.args.list.now c.requires.0 c.requires.1 l.from l.index l.invariant (omega arith)
    _ c.wanted_at-wanted.ensures in
    search rules

pub slice_bounds-check_list-end : goal.slice_bounds-check_list-end
slice_bounds-check_list-end c =
    let l = c.loop-index in
    let b = within c.args.entries.now c.args.list.now c.requires.0 c.requires.1 l.from l.index l.invariant (omega arith)
    _ c.wanted_at-wanted.ensures in
    search rules

pub overflow_cast-number : goal.overflow_cast-number
overflow_cast-number c =
    let m = wanted_few c.args.entries.now (nodes c.args.list.now) c.requires.1 in
    search rules

pub returns-in_err-map_err : goal.returns-in_err-map_err
returns-in_err-map_err c =
    let l = c.loop-index in
    let p = err_from_is_err_and c.from_residual.result c.from_residual.ensures.1 in
    let n : Named l.index c.check_list.result c.map_err.result = search rules in
    let f = named_in l.index _ _ n _ c.in_err-map_err.was in
    rw (p.1, p.2)
    (f.0 ∙ stopped c.args.entries.now c.args.list.now c.requires.0 c.requires.1 l.from l.index l.invariant (omega arith)
    _ c.wanted_at-wanted.ensures _ c.check_list.ensures f.1)

pub loop-index-preserved : goal.loop-index-preserved
loop-index-preserved c =
    let l = c.loop-index in
    let n : Named l.index c.check_list.result c.map_err.result = search rules in
    one_more c.args.entries.now c.args.list.now c.requires.0 c.requires.1 l.from l.index l.invariant (omega arith)
    _ c.wanted_at-wanted.ensures _ c.check_list.ensures (passed_on l.index _ _ n _ c.in_ok-map_err.was)

pub returns : goal.returns
returns c =
    let l = c.loop-index in
    all_checked c.args.entries.now c.args.list.now c.requires.0 c.requires.1 l.from l.index l.invariant (omega arith)
