-- Function: `put_bottom` (src/stack.rt).
-- Why it holds: The two words written are the bottom's end and level.
-- What would break it: A bottom that ended earlier, or lay elsewhere, would be caught at the
-- return.
use mathlib.Core.Path.{◌≡◌, refl, ap, ◌∙◌}
use mathlib.Core.List.{List, []}
use Prim.Native.Nat.{ℕ, ◌<◌}
use native.Mathlib.Omega.{arith}
use lib.ListN.{length, get_or, set, length-set}
use lib.Seq.{get_or-set_same, get_or-set_other}
use Rattle.lists.specs.Private.Open.{LAST_END, Laid}
use Rattle.lists.proofs.stack.put_bottom.Goals as goal

bottom : (stack us : List ℕ) → 1 < length stack → us ≡ set (set stack 0 LAST_END) 1 0 → Laid [] 0 us
bottom stack us room q = (
  refl,
  ap (λ ws. get_or ws 0 0) q ∙ get_or-set_other (set stack 0 LAST_END) 1 0 0 0 (omega arith) ∙ get_or-set_same stack 0 LAST_END 0 (omega arith),
  ap (λ ws. get_or ws 1 0) q ∙ get_or-set_same (set stack 0 LAST_END) 1 0 0 (omega (arith, length-set stack 0 LAST_END)),
)

pub returns : goal.returns
returns c = bottom c.args.stack.now _ (omega arith) c.put_open.ensures
