-- Function: `tag_body` (src/find.rt).
-- Why it holds: For a tag that no list has, the definition gives an entry of zeros, whose body is
-- empty and lies at the book's beginning.
-- What would break it: The body of another list, or a body for a tag that no list has, would be
-- caught at its return.
use mathlib.Core.Path.{◌≡◌, refl, sym, ap, ◌∙◌}
use mathlib.Core.List.{List, []}
use Prim.Native.Nat.{ℕ, zero-le}
use native.Mathlib.Omega.{arith}
use lib.ListN.{length, get_or, take, get_or-eq_default}
use lib.Seq.{get_or-take}
use Rattle.std.specs.Prelude.{None, Some}
use Rattle.numbers.specs.Part.{part_of}
use Rattle.numbers.proofs.Places.{before_the_end}
use Rattle.contents.specs.declared.entry.Entry.{Entry}
use Rattle.contents.specs.Contents.{entry, entries_in, entry_at}
use Rattle.contents.proofs.ContentLaws.{few_entries}
use Rattle.books.specs.Book.{body_of, body_place}
use Rattle.books.specs.Find.{tag_at, tag_index, tag_entry, tag_body, tag_place}
use Rattle.books.proofs.FindLaws.{index_some, index_none}
use Rattle.books.proofs.find.tag_body.Goals as goal

module _ (start : ℕ × ℕ) (book : List ℕ) (lists tag : ℕ) where
  abbrev looked : List Entry
  looked = take lists (entries_in book)

  -- The body of an entry, at its place.
  abbrev Body : Entry → List ℕ → ℕ × ℕ → Type 0
  Body e r at = record { contents : r ≡ body_of book e; place : at ≡ body_place start book e }

  -- The body of the tag, at its place.
  abbrev Wanted : List ℕ → ℕ × ℕ → Type 0
  Wanted r at = record { contents : r ≡ tag_body book lists tag; place : at ≡ tag_place start book lists tag }

  of_entry : (e : Entry) → e ≡ tag_entry book lists tag → (r : List ℕ) (at : ℕ × ℕ) → Body e r at → Wanted r at
  unfolding tag_body tag_place
  of_entry e w r at s = record { contents = s.contents ∙ ap (body_of book) w; place = s.place ∙ ap (body_place start book) w }

  no_bytes : Body (entry 0 0 0) [] start
  unfolding body_of part_of body_place
  no_bytes = record { contents = refl; place = before_the_end start (length book) 0 start.1 zero-le (omega arith) }

  none : None ≡ tag_index tag looked → Wanted [] start
  unfolding tag_entry
  none q = of_entry (entry 0 0 0) (sym (get_or-eq_default looked (entry 0 0 0) {n = tag_at tag looked} (index_none tag looked q))) [] start no_bytes

  some : (i : ℕ) → Some i ≡ tag_index tag looked → (e : Entry) → e ≡ entry_at book i → (r : List ℕ) (at : ℕ × ℕ) → Body e r at → Wanted r at
  unfolding tag_entry entry_at
  some i q e w =
      let s = index_some tag looked i q in
      let there = get_or-take lists (entries_in book) i (entry 0 0 0) (omega (arith, s.1, few_entries book lists)) in
      of_entry e (w ∙ sym there ∙ ap (λ k. get_or looked k (entry 0 0 0)) s.0)

pub returns-in-Some : goal.returns-in-Some
returns-in-Some c = some _ _ _ _ _ c.in-Some.ensures _ c.entry_at.ensures _ _ c.body_of.ensures

pub returns-in-None : goal.returns-in-None
returns-in-None c = none _ _ _ _ c.in-None.ensures
