-- Function: `first_match` (src/descendants.rt).
-- Why it holds: Every ancestor on the stack contains the descendant, and only the innermost can be
-- one level above it.
-- What would break it: A test of another ancestor than the innermost, or one that ignores its
-- level, would be caught at its return.
use mathlib.Core.Path.{sym, ◌∙◌}
use native.Mathlib.Omega.{arith}
use Rattle.pairs.proofs.StackMatches.{match_none, match_all, match_top, match_past}
use Rattle.pairs.proofs.descendants.first_match.Goals as goal

pub returns-then-used-eq0 : goal.returns-then-used-eq0
returns-then-used-eq0 c =
    let a = c.args in
    match_none a.relation a.descendant a.stack.now a.used (omega arith)

pub returns-then-is_one_deeper : goal.returns-then-is_one_deeper
returns-then-is_one_deeper c =
    let a = c.args in
    let p = c.requires in
    match_top a.relation a.descendant a.stack.now a.used p.0 p.1 p.2 _
    c.in-Directly.is (omega arith) c.node_from.ensures
    (sym c.is_one_deeper.ensures ∙ c.if-is_one_deeper.true)

pub returns-in-Inside : goal.returns-in-Inside
returns-in-Inside c =
    let a = c.args in
    let p = c.requires in
    match_all a.relation a.descendant a.stack.now a.used p.0 p.1 p.2 c.in-Inside.is

pub returns-else-is_one_deeper : goal.returns-else-is_one_deeper
returns-else-is_one_deeper c =
    let a = c.args in
    let p = c.requires in
    match_past a.relation a.descendant a.stack.now a.used p.0 p.1 p.2 _
    c.in-Directly.is (omega arith) c.node_from.ensures
    (sym c.is_one_deeper.ensures ∙ c.if-is_one_deeper.false)
