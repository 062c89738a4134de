-- Function: `is_sibling_told` (src/told.rt).
-- Why it holds: Both comparisons must succeed, and the second one is returned where the first did.
-- What would break it: Another word of the links compared would be caught at a return.
use Prim.Native.Nat.{ℕ, ◌+◌, ◌*◌}
use mathlib.Core.Path.{◌≡◌, refl}
use mathlib.Core.List.{List}
use lib.Dec.{eqb}
use lib.ListN.{get_or}
use borrow.Author.Tests.{eq-eqb, ne_eqb}
use Rattle.linked.specs.Private.Told.{sibling_toldb}
use Rattle.linked.proofs.told.is_sibling_told.Goals as goal

module _ (links : List ℕ) (e i : ℕ) where
  not_next : (get_or links (3 * e + 2) 0 ≡ i → ⊥) → eqb (get_or links (3 * e + 2) 0) i ≡ sibling_toldb links e i
  unfolding sibling_toldb
  not_next h = rw (ne_eqb (get_or links (3 * e + 2) 0) i h) refl

  parents_left : get_or links (3 * e + 2) 0 ≡ i → eqb (get_or links (3 * i) 0) (get_or links (3 * e) 0) ≡ sibling_toldb links e i
  unfolding sibling_toldb
  parents_left h = rw (eq-eqb (get_or links (3 * e + 2) 0) i h) refl

pub returns-then-links-elder : goal.returns-then-links-elder
returns-then-links-elder c =
    let a = c.args in
    parents_left a.links.now a.elder a.index c.if-links-elder.true

pub returns-else-links-elder : goal.returns-else-links-elder
returns-else-links-elder c =
    let a = c.args in
    not_next a.links.now a.elder a.index c.if-links-elder.false
