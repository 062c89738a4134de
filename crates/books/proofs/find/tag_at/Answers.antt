-- Function: `tag_at` (src/find.rt).
-- Why it holds: The entries before the index have other tags, so the answer is the index plus the
-- tag's place among the rest. The loop ends where the lists or the entries end.
-- What would break it: A place one off would be caught at the first return, and a list passed over
-- at the next turn.
use mathlib.Core.Path.{◌≡◌, refl}
use mathlib.Core.List.{List, ◌∷◌}
use Prim.Native.Nat.{ℕ, ◌+◌, ◌≤◌, ◌<◌, min}
use native.Mathlib.Omega.{arith}
use lib.Dec.{eqb}
use lib.ListN.{length, take, drop, length-take, drop_of_length-le}
use borrow.Author.Tests.{eq-eqb, ne_eqb, lt-ltb, le-ltb}
use Rattle.std.specs.Prelude.{None, Some}
use Rattle.laws.specs.Choose.{first_at}
use Rattle.contents.specs.declared.entry.Entry.{Entry}
use Rattle.contents.specs.Contents.{entries_in, entry_count, entry_at}
use Rattle.contents.proofs.ContentLaws.{count_entries, entry_from}
use Rattle.books.specs.Find.{tag_at, tag_index}
use Rattle.books.proofs.find.tag_at.Invariants.{Sought}
use Rattle.books.proofs.find.tag_at.Goals as goal

module _ (book : List ℕ) (lists tag total count : ℕ) (m : total ≡ entry_count book) (n : count ≡ min total lists) where
  abbrev looked : List Entry
  looked = take lists (entries_in book)

  all_looked : length looked ≡ count
  all_looked = let l = length-take lists (entries_in book) in omega (arith, l, m, n, count_entries book)

  none_yet : Sought book lists tag 0
  none_yet = omega arith

  module _ (i : ℕ) (l : Sought book lists tag i) where
    module _ (h : i < count) (e : Entry) (q : e ≡ entry_at book i) where
      next : i + tag_at tag (e ∷ drop (i + 1) looked) ≡ tag_at tag looked
      next = rw (q, ← entry_from book lists i (omega (arith, n)) (omega (arith, m, n))) l

      met : e.tag ≡ tag → i ≡ tag_at tag looked
      unfolding tag_at first_at
      met t = let k = rw (eq-eqb e.tag tag t) at next in omega arith

      found : e.tag ≡ tag → Some i ≡ tag_index tag looked
      unfolding tag_index
      found t =
          let k = met t in
          rw (← k, lt-ltb i (length looked) (omega (arith, all_looked))) refl

      other : (e.tag ≡ tag → ⊥) → Sought book lists tag (i + 1)
      unfolding tag_at first_at
      other t = let k = rw (ne_eqb e.tag tag t) at next in omega arith

    all_other : count ≤ i → None ≡ tag_index tag looked
    unfolding tag_index tag_at first_at
    all_other h =
        let k = rw (drop_of_length-le looked {i = i} (omega (arith, all_looked))) at l in
        rw (le-ltb (first_at (λ e. eqb e.tag tag) looked) (length looked) (omega (arith, all_looked))) refl

pub loop-index-init : goal.loop-index-init
loop-index-init c = none_yet _ _ _ _ _ c.entry_count.ensures c.min-count.ensures

pub returns-then-entry_at-tag : goal.returns-then-entry_at-tag
returns-then-entry_at-tag c =
    let l = c.loop-index in
    found _ _ _ _ _ c.entry_count.ensures c.min-count.ensures l.index l.invariant c.loop-index-test.true _ c.entry_at.ensures c.if-entry_at-tag.true

pub loop-index-preserved : goal.loop-index-preserved
loop-index-preserved c =
    let l = c.loop-index in
    other _ _ _ _ _ c.entry_count.ensures c.min-count.ensures l.index l.invariant c.loop-index-test.true _ c.entry_at.ensures c.if-entry_at-tag.false

pub returns : goal.returns
returns c =
    let l = c.loop-index in
    all_other _ _ _ _ _ c.entry_count.ensures c.min-count.ensures l.index l.invariant c.loop-index-test.false
