-- Function: `check_entries` (src/check.rt).
-- Why it holds: Too many lists break a rule. For any other lists the rules are those of the walk
-- along the contents laid out for them. Its last step answers for the size that the book will have.
-- What would break it: A limit one off, or a size that isn't where the nodes end, would be caught
-- at its return.
use borrow.Author.Rules.{rules}
use mathlib.Core.Path.{◌≡◌, sym, ap, ◌∙◌}
use mathlib.Core.List.{List}
use Prim.Native.Nat.{ℕ, ◌+◌, ◌*◌, ◌/◌, ◌%◌, ◌≤◌, ◌<◌}
use native.Mathlib.Omega.{arith}
use lib.ListN.{length}
use Rattle.answers.specs.Answer.{CONTENTS}
use Rattle.nodes.specs.Words.{NODE_WORDS, nodes}
use Rattle.nodes.proofs.WordLaws.{length_nodes}
use Rattle.std.specs.Prelude.{Result}
use Rattle.answers.specs.declared.refusal.Refusal.{Refusal}
use Rattle.contents.specs.declared.step.ContentsPlace.{ContentsPlace}
use Rattle.contents.specs.Contents.{MOST_LISTS, contents_end}
use Rattle.contents.specs.Passing.{start_of, step_answer}
use Rattle.contents.specs.Private.Walk.{Kept}
use Rattle.contents.proofs.ContentLaws.{walk_answers, many_broken}
use Rattle.writing.specs.Wanted.{WANTED_WORDS, wanted, contents_for, size_for, wanted_fault_up_to, wanted_fault}
use Rattle.writing.proofs.WantedLaws.{length_wanted}
use Rattle.writing.proofs.check.check_entries.Goals as goal

module _ (entries list : List ℕ) (lists : ℕ) (n : lists ≡ length entries / WANTED_WORDS) where
  same_lists : lists ≡ length (wanted entries)
  same_lists = n ∙ sym (length_wanted entries)

  too_many_lem : MOST_LISTS < lists → ◌≡◌ {A = ℕ} CONTENTS (wanted_fault (wanted entries) (nodes list))
  unfolding wanted_fault_up_to
  too_many_lem h =
      let e = same_lists in
      rw (many_broken MOST_LISTS (length (wanted entries)) (contents_for (wanted entries)) (size_for (wanted entries) (nodes list)) (omega arith))

  -- The size that the book will have.
  sized : length list % NODE_WORDS ≡ 0 → (end : ℕ) → end ≡ contents_end lists → end + 4 * length list ≡ size_for (wanted entries) (nodes list)
  unfolding size_for
  sized whole end e =
      let l = length_nodes list in
      let m = ap contents_end same_lists in
      omega arith

  module _ (few : lists ≤ MOST_LISTS) (r : Result ContentsPlace Refusal) (k : Kept (start_of (length entries / WANTED_WORDS)) (contents_for (wanted entries)) r) where
    answers : (size : ℕ) → size ≡ size_for (wanted entries) (nodes list) → step_answer r size ≡ wanted_fault (wanted entries) (nodes list)
    unfolding wanted_fault_up_to
    answers size q =
        let l = same_lists in
        rw q (walk_answers MOST_LISTS (length (wanted entries)) (contents_for (wanted entries)) _ (omega arith) r (rw (← length_wanted entries) at k))

pub returns-then-lists : goal.returns-then-lists
returns-then-lists c =
    too_many_lem _ c.args.list.now _ c.wanted_count-lists.ensures (omega arith)

pub overflow_add-size : goal.overflow_add-size
unfolding contents_end
overflow_add-size c = search rules

pub returns : goal.returns
returns c =
    let q = sized c.args.entries.now c.args.list.now _ c.wanted_count-lists.ensures c.requires _ c.contents_end.ensures in
    c.check_end.ensures
    ∙ answers c.args.entries.now c.args.list.now _ c.wanted_count-lists.ensures (omega arith) c.pass_wanted.result
    c.pass_wanted.ensures _ q
