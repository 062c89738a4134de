-- Function: `link_list` (src/forest.rt).
-- Why it holds: The call returns before it writes where the list is faulty or the room too small.
-- Otherwise all links are written and the nodes counted.
-- What would break it: A count on refusal, or room counted in nodes and not in links, would be
-- caught at its return.
use mathlib.Core.Path.{refl, sym, ap}
use native.Mathlib.Omega.{arith}
use Rattle.std.specs.Prelude.{Err}
use Rattle.std.proofs.lemmas.Result.{err_from_is_err_and}
use Rattle.answers.specs.Refusal.{counted_in}
use Rattle.answers.specs.declared.refusal.Fault.{Fault}
use Rattle.answers.proofs.RefusalLaws.{never_taken}
use Rattle.forest.proofs.Answering.{refused, no_room, all_linked}
use Rattle.forest.proofs.forest.link_list.Goals as goal

pub returns-in_err-check_list : goal.returns-in_err-check_list
returns-in_err-check_list c =
    let a = c.args in
    let p = err_from_is_err_and c.from_residual.result c.from_residual.ensures.1 in
    rw (p.1, p.2) (refused a.list.now a.out.now _ c.in_err-check_list.ensures (never_taken _))

pub returns-then-out-linked : goal.returns-then-out-linked
returns-then-out-linked c =
    let a = c.args in
    no_room a.list.now a.out.now _ c.in_ok-check_list.ensures refl _ (omega arith) (ap (λ (f : Fault). counted_in (Err f)) c.into.ensures)

pub link_all-requires : goal.link_all-requires
link_all-requires c = (sym (ap (λ w. w.answer) c.in_ok-check_list.ensures), omega arith)

pub returns : goal.returns
returns c =
    let a = c.args in
    all_linked a.list.now a.out.now _ c.in_ok-check_list.ensures refl (omega arith) _ c.node_count-linked.ensures _ refl _ c.link_all.ensures
