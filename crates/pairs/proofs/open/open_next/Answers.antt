-- Function: `open_next` (src/open.rt).
-- Why it holds: The ancestors on the stack and the new one make a chain, and a chain has no more
-- nodes than the level of its head. So there is a place for the head on the stack.
-- What would break it: An ancestor stored one place off, or one put on the stack although it has
-- ended, would be caught at the return.
use borrow.Author.Rules.{rules}
use mathlib.Core.Path.{◌≡◌, refl, sym, ap, ◌∙◌}
use mathlib.Core.Bool.{true, false, cond}
use mathlib.Core.List.{List, ◌∷◌}
use Prim.Native.Nat.{ℕ, ◌+◌, ◌*◌, ◌/◌, ◌≤◌, ◌<◌}
use lib.ListN.{length}
use lib.Seq.{sets, length-sets}
use native.Mathlib.Omega.{arith}
use Rattle.nodes.specs.declared.node.Node.{Node}
use Rattle.nodes.specs.Node.{openb, MOST_LEVELS}
use Rattle.nodes.specs.Words.{nodes, count, words_of}
use Rattle.nodes.proofs.WordLaws.{words_put}
use Rattle.lists.specs.Private.Walk.{Chain}
use Rattle.lists.proofs.WalkLaws.{chain_length}
use Rattle.pairs.specs.Private.Stack.{opened, Fits}
use Rattle.pairs.proofs.StackNodes.{length_firsts, top_put}
use Rattle.pairs.proofs.open.open_next.Goals as goal

module _ (ws : List ℕ) (used : ℕ) (d a : Node) where
  -- Where the stack makes a chain with the ancestor, there is a place for it.
  room_on : Fits used → a.level ≤ MOST_LEVELS → (openb d a ≡ true → Chain (a ∷ opened used ws)) → openb d a ≡ true → Fits (used + 4)
  room_on f l c o =
      let h = chain_length a (opened used ws) (c o) in
      (omega arith, omega (arith, length_firsts (used / 4) (nodes ws)))

  opened_shut : openb d a ≡ false → opened used ws ≡ cond (openb d a) (a ∷ opened used ws) (opened used ws)
  opened_shut o = rw o

  opened_on : (us : List ℕ) → used ≡ 4 * (used / 4) → used / 4 < count ws → us ≡ sets ws used (words_of a) → openb d a ≡ true
      → opened (used + 4) us ≡ cond (openb d a) (a ∷ opened used ws) (opened used ws)
  opened_on us m h e o = rw o (top_put ws us used a h (e ∙ words_put ws used (used / 4) a m h))

pub returns-then-not-is_open : goal.returns-then-not-is_open
returns-then-not-is_open c =
    let a = c.args in record {
      fits = c.requires.0;
      long = refl;
      stack = opened_shut a.stack.now a.used a.descendant a.ancestor
          (sym c.is_open.ensures ∙ c.if-not-is_open.true);
    }

pub put_words-requires : goal.put_words-requires
put_words-requires c =
    let a = c.args in
    let p = c.requires in
    let o = sym c.is_open.ensures ∙ c.if-not-is_open.false in
    let r = room_on a.stack.now a.used a.descendant a.ancestor p.0 p.1 p.2 o in
    search rules

pub returns : goal.returns
returns c =
    let a = c.args in
    let p = c.requires in
    let o = sym c.is_open.ensures ∙ c.if-not-is_open.false in
    let r = room_on a.stack.now a.used a.descendant a.ancestor p.0 p.1 p.2 o in
    record {
      fits = r;
      long = ap length c.put_words.ensures ∙ length-sets a.stack.now a.used (words_of a.ancestor);
      stack = opened_on a.stack.now a.used a.descendant a.ancestor _ (omega arith) (omega arith) c.put_words.ensures o;
    }
