-- Function: `check_bodies` (src/book.rt).
-- Why it holds: Before each turn, checking the bodies from `list` on gives the whole check's
-- answer. Each turn checks the body of the next list.
-- What would break it: A body passed over would be caught at the next turn, and a body named by
-- another number at the first return.
use mathlib.Core.Path.{◌≡◌, refl, ap, ◌∙◌}
use mathlib.Core.List.{List, ◌∷◌, map}
use Prim.Native.Nat.{ℕ, ◌+◌, ◌≤◌, ◌<◌}
use native.Mathlib.Omega.{arith}
use lib.ListN.{drop, drop_of_length-le}
use Rattle.std.proofs.Common.{rules}
use Rattle.std.proofs.lemmas.Result.{err_from_is_err_and}
use Rattle.answers.specs.Answer.{TAKEN}
use Rattle.answers.specs.declared.verdict.Verdict.{Verdict}
use Rattle.answers.specs.Verdict.{in_list, taken}
use Rattle.numbers.specs.Little.{number_at}
use Rattle.contents.specs.declared.entry.Entry.{Entry}
use Rattle.contents.specs.Contents.{lists_in, entry_at, contents_of, contents_fault}
use Rattle.contents.proofs.ContentLaws.{count_contents, contents_from}
use Rattle.lists.specs.Check.{check_nodes, check_bytes}
use Rattle.books.specs.Book.{body_of, nodes_of, check_bodies}
use Rattle.books.proofs.BookLaws.{bodies_on, bodies_stop, bodies_end, Named, passed_on, named_in, whole_body}
use Rattle.books.proofs.book.check_bodies.Invariants.{whole, Checked}
use Rattle.books.proofs.book.check_bodies.Goals as goal

module _ (book : List ℕ) (good : contents_fault book ≡ TAKEN) (lists list : ℕ) (n : lists ≡ number_at book 0) (l : Checked book list) where
  module _ (h : list < lists) (e : Entry) (q : e ≡ entry_at book list) (body : List ℕ) (b : body ≡ body_of book e)
      (v : Verdict) (c : v ≡ check_bytes body) where
    there : list < lists_in book
    unfolding lists_in
    there = omega arith

    judged : v ≡ check_nodes (nodes_of book (entry_at book list))
    judged = c ∙ ap check_bytes (b ∙ ap (body_of book) q) ∙ whole_body book good list there

    next : check_bodies list (nodes_of book (entry_at book list) ∷ map (nodes_of book) (drop (list + 1) (contents_of book))) ≡ whole book
    next = rw (contents_from book good list there) at l

    passed : v.answer ≡ TAKEN → Checked book (list + 1)
    passed = bodies_on list (nodes_of book (entry_at book list)) (map (nodes_of book) (drop (list + 1) (contents_of book))) (whole book) next v judged

    refused : (v.answer ≡ TAKEN → ⊥) → in_list list v ≡ whole book
    refused = bodies_stop list (nodes_of book (entry_at book list)) (map (nodes_of book) (drop (list + 1) (contents_of book))) (whole book) next v judged

  all_passed : lists ≤ list → taken ≡ whole book
  unfolding lists_in
  all_passed h =
      let none = drop_of_length-le (contents_of book) {i = list} (omega (arith, count_contents book good)) in
      bodies_end list (whole book) (rw none at l)

pub loop-list-init : goal.loop-list-init
loop-list-init c = refl

pub returns-in_err-map_err : goal.returns-in_err-map_err
returns-in_err-map_err c =
    let l = c.loop-list in
    let p = err_from_is_err_and c.from_residual.result c.from_residual.ensures.1 in
    let n : Named l.list-counter c.check_bytes.result c.map_err.result = search rules in
    let f = named_in l.list-counter _ _ n _ c.in_err-map_err.was in
    rw (p.1, p.2)
    (f.0 ∙ refused c.args.book.now c.requires _ l.list-counter c.number_at-list-end.ensures l.invariant c.loop-list-test.true
    _ c.entry_at.ensures _ c.body_of-body.ensures.contents _ c.check_bytes.ensures f.1)

pub loop-list-preserved : goal.loop-list-preserved
loop-list-preserved c =
    let l = c.loop-list in
    let n : Named l.list-counter c.check_bytes.result c.map_err.result = search rules in
    passed c.args.book.now c.requires _ l.list-counter c.number_at-list-end.ensures l.invariant c.loop-list-test.true
    _ c.entry_at.ensures _ c.body_of-body.ensures.contents _ c.check_bytes.ensures
    (passed_on l.list-counter _ _ n _ c.in_ok-map_err.was)

pub returns : goal.returns
returns c = let l = c.loop-list in all_passed c.args.book.now c.requires _ l.list-counter c.number_at-list-end.ensures l.invariant c.loop-list-test.false
