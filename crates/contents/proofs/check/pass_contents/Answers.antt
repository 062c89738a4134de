-- Function: `pass_contents` (src/check.rt).
-- Why it holds: The lists from the place reached on keep the rules exactly when all lists do. Each
-- turn passes the next entry.
-- What would break it: An entry passed over, or a place that doesn't move on, would be caught at
-- the next turn. A walk that ends too early would be caught at its return.
use mathlib.Core.Path.{◌≡◌, refl}
use mathlib.Core.List.{List, ◌∷◌}
use Prim.Native.Nat.{ℕ, ◌+◌, ◌≤◌, ◌<◌}
use native.Mathlib.Omega.{arith}
use lib.ListN.{length, take, drop, drop_of_length-le}
use Rattle.std.specs.Prelude.{Result, Ok, Err}
use Rattle.answers.specs.declared.refusal.Refusal.{Refusal}
use Rattle.contents.specs.declared.entry.Entry.{Entry}
use Rattle.contents.specs.declared.step.ContentsPlace.{ContentsPlace}
use Rattle.contents.specs.Contents.{entries_in, entry_at, contents_end}
use Rattle.contents.specs.Passing.{start_of, step_of}
use Rattle.contents.specs.Private.Walk.{Kept}
use Rattle.contents.proofs.ContentLaws.{length_contents, entries_from_lem, Left, kept_on, kept_stop, kept_end}
use Rattle.contents.proofs.check.pass_contents.Goals as goal

abbrev Passed : List ℕ → ℕ → ℕ → ContentsPlace → Type 0
Passed book lists i p = Left p (drop i (take lists (entries_in book))) (start_of lists) (take lists (entries_in book))

none_yet : (book : List ℕ) (lists : ℕ) (p : ContentsPlace) → p ≡ start_of lists → Passed book lists 0 p
none_yet book lists p e = rw e (λ size. refl)

module _ (book : List ℕ) (lists : ℕ) (whole : contents_end lists ≤ length book) (i : ℕ) (p : ContentsPlace) (l : Passed book lists i p) where
  module _ (h : i < lists) (e : Entry) (q : e ≡ entry_at book i) (r : Result ContentsPlace Refusal) (s : r ≡ step_of p e) where
    next : Left p (e ∷ drop (i + 1) (take lists (entries_in book))) (start_of lists) (take lists (entries_in book))
    next = rw (q, ← entries_from_lem book lists whole i h) l

    one_more : (reached : ContentsPlace) → r ≡ Ok reached → Passed book lists (i + 1) reached
    one_more = kept_on (start_of lists) (take lists (entries_in book)) p e (drop (i + 1) (take lists (entries_in book))) next r s

    stopped : (refusal : Refusal) → r ≡ Err refusal → Kept (start_of lists) (take lists (entries_in book)) r
    stopped = kept_stop (start_of lists) (take lists (entries_in book)) p e (drop (i + 1) (take lists (entries_in book))) next r s

  all_passed : lists ≤ i → Kept (start_of lists) (take lists (entries_in book)) (Ok p)
  all_passed h =
      let none = drop_of_length-le (take lists (entries_in book)) {i = i} (omega (arith, length_contents book lists whole)) in
      kept_end (start_of lists) (take lists (entries_in book)) p (rw (← none) l)

pub loop-index-init : goal.loop-index-init
loop-index-init c = none_yet _ _ _ c.start_of-place.ensures

pub returns-in_default : goal.returns-in_default
returns-in_default c =
    let l = c.loop-index in
    stopped c.args.book.now c.args.lists c.requires l.index l.place l.invariant c.loop-index-test.true
    _ c.entry_at.ensures _ c.pass_entry-step.ensures _ c.in_default.is

pub loop-index-preserved : goal.loop-index-preserved
loop-index-preserved c =
    let l = c.loop-index in
    one_more c.args.book.now c.args.lists c.requires l.index l.place l.invariant c.loop-index-test.true
    _ c.entry_at.ensures _ c.pass_entry-step.ensures _ c.in-Ok.is

pub returns : goal.returns
returns c =
    let l = c.loop-index in
    all_passed c.args.book.now c.args.lists c.requires l.index l.place l.invariant c.loop-index-test.false
