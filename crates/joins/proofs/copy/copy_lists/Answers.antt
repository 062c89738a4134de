-- Function: `copy_lists` (src/copy.rt).
-- Why it holds: Each return answers by the first check that refuses, with the words as they were.
-- After all checks both lists are copied whole.
-- What would break it: A check left out, or a list copied into the other one's words, would be
-- caught at its return.
use mathlib.Core.Path.{sym, ◌∙◌}
use native.Mathlib.Omega.{arith}
use Rattle.joins.proofs.Copying.{absent_first, absent_second, full_first, full_second, copies}
use Rattle.joins.proofs.copy.copy_lists.Goals as goal

pub returns-then-not-has_tag : goal.returns-then-not-has_tag
returns-then-not-has_tag c =
    let a = c.args in
    absent_first a.book.now a.lists a.ancestors a.descendants a.first.now a.second.now
    (sym c.has_tag.ensures ∙ c.if-not-has_tag.true)

pub returns-then-not-has_tag-2 : goal.returns-then-not-has_tag-2
returns-then-not-has_tag-2 c =
    let a = c.args in
    absent_second a.book.now a.lists a.ancestors a.descendants a.first.now a.second.now
    (sym c.has_tag.ensures ∙ c.if-not-has_tag.false) (sym c.has_tag-2.ensures ∙ c.if-not-has_tag-2.true)

pub returns-then-first-lengths : goal.returns-then-first-lengths
returns-then-first-lengths c =
    let a = c.args in
    full_first a.book.now a.lists a.ancestors a.descendants a.first.now a.second.now
    (sym c.has_tag.ensures ∙ c.if-not-has_tag.false) (sym c.has_tag-2.ensures ∙ c.if-not-has_tag-2.false)
    _ _ c.tag_body-one.ensures.contents c.tag_body-two.ensures.contents
    (omega arith)

pub returns-then-second-lengths : goal.returns-then-second-lengths
returns-then-second-lengths c =
    let a = c.args in
    full_second a.book.now a.lists a.ancestors a.descendants a.first.now a.second.now
    (sym c.has_tag.ensures ∙ c.if-not-has_tag.false) (sym c.has_tag-2.ensures ∙ c.if-not-has_tag-2.false)
    _ _ c.tag_body-one.ensures.contents c.tag_body-two.ensures.contents
    (omega arith) (omega arith)

pub returns : goal.returns
returns c =
    let a = c.args in
    let m = copies a.book.now a.lists a.ancestors a.descendants a.first.now a.second.now
    (sym c.has_tag.ensures ∙ c.if-not-has_tag.false) (sym c.has_tag-2.ensures ∙ c.if-not-has_tag-2.false)
    _ _ c.tag_body-one.ensures.contents c.tag_body-two.ensures.contents
    (omega arith) (omega arith) in
    record {
      answer = m.answer;
      first_output = c.copy_numbers.ensures ∙ m.first_output;
      second_output = c.copy_numbers-2.ensures ∙ m.second_output;
    }
