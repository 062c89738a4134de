-- Function: `put_link` (src/link.rt).
-- Why it holds: The three stores are those of the node's links, at three times its index.
-- What would break it: A word stored one off would be caught at the return. An index too large
-- would be caught at a store.
use Prim.Native.Nat.{ℕ, ◌+◌, ◌*◌}
use mathlib.Core.Path.{◌≡◌}
use mathlib.Core.List.{List}
use native.Mathlib.Numerals.{towards_suc}
use lib.ListN.{set}
use lib.Seq.{sets}
use Rattle.forest.specs.declared.link.Link.{Link}
use Rattle.forest.specs.Links.{link_words}
use Rattle.forest.proofs.link.put_link.Goals as goal

three_stores : (ws : List ℕ) (i : ℕ) (l : Link)
    → set (set (set ws (3 * i) l.parent) (3 * i + 1) l.child) (3 * i + 2) l.next ≡ sets ws (3 * i) (link_words l)
unfolding link_words
three_stores ws i l = simp towards_suc

pub returns : goal.returns
returns c = three_stores _ _ _
