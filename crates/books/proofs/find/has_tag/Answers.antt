-- Function: `has_tag` (src/find.rt).
-- Why it holds: A tag has an index among the entries exactly where one of them has it.
-- What would break it: A tag said to be there that no list has, or the other way round, would be
-- caught at the return.
use Rattle.std.proofs.Common.{arith}
use Rattle.std.proofs.lemmas.Bool.Decides.{nat_tests}
use mathlib.Core.Path.{◌≡◌, refl, ap, ◌∙◌}
use mathlib.Core.Logic.{inl, inr}
use mathlib.Core.List.{List}
use Prim.Native.Nat.{ℕ}
use lib.Dec.{ltb, eqb}
use lib.ListN.{length, take}
use Rattle.std.specs.Option.{is_some}
use Rattle.laws.proofs.First.{first_there}
use Rattle.laws.proofs.Tests.{either}
use Rattle.contents.specs.declared.entry.Entry.{Entry}
use Rattle.contents.specs.Contents.{entries_in}
use Rattle.books.specs.Find.{tag_at, tag_index, has_tag}
use Rattle.books.proofs.find.has_tag.Goals as goal

indexed : (tag : ℕ) (es : List Entry) → is_some (tag_index tag es) ≡ ltb (tag_at tag es) (length es)
unfolding tag_index
indexed tag es = elim (either (ltb (tag_at tag es) (length es))) [ inl h ↦ rw h refl | inr h ↦ rw h refl ]

there : (book : List ℕ) (lists tag : ℕ) → is_some (tag_index tag (take lists (entries_in book))) ≡ has_tag book lists tag
unfolding has_tag tag_at
there book lists tag =
    indexed tag (take lists (entries_in book)) ∙ first_there (λ e. eqb e.tag tag) (take lists (entries_in book))

pub returns : goal.returns
returns c =
    let e = c.is_some.ensures ∙ ap is_some c.tag_at.ensures ∙ there c.args.book.now c.args.lists c.args.tag in
    grind (arith, nat_tests, e)
