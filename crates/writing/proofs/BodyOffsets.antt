-- Why it holds: If bodies lie one after the other, an offset is the contents' end and sixteen bytes
-- for each node before it. So each body is the next part of the nodes after the contents.
-- What would break it: A body that starts elsewhere, or a count that takes a node too many, would
-- be caught here.
use mathlib.Core.Path.{◌≡◌, refl, ap, sym, ◌∙◌}
use mathlib.Core.Bool.{true}
use mathlib.Core.List.{List, [], ◌∷◌, ◌++◌, map, flat_map}
use Prim.Native.Nat.{ℕ, ◌+◌, ◌*◌}
use native.Mathlib.Omega.{arith}
use lib.Dec.{eqb}
use lib.ListN.{length, take, drop, take-append-drop, drop_of_length-le}
use lib.Seq.{drop-drop}
use borrow.Author.Tests.{eqb-true}
use Rattle.nodes.specs.declared.node.Node.{Node}
use Rattle.nodes.specs.Words.{nodes}
use Rattle.answers.specs.Output.{words_in}
use Rattle.laws.proofs.Tests.{and_read}
use Rattle.nodes.proofs.WordLaws.{nodes_take, nodes_drop}
use Rattle.answers.proofs.OutputLaws.{length_items}
use Rattle.numbers.specs.Little.{NODE_BYTES, numbers}
use Rattle.numbers.specs.Part.{part_of}
use Rattle.numbers.proofs.LittleLaws.{numbers_take, numbers_drop}
use Rattle.contents.specs.declared.entry.Entry.{Entry}
use Rattle.contents.specs.Contents.{entry, entry_numbers, contents_end, laidb}
use Rattle.books.specs.Book.{body_of, nodes_of}
use Rattle.writing.specs.declared.wanted.Wanted.{Wanted}
use Rattle.writing.specs.Wanted.{want, laid_out, contents_for, bodies_for}

-- The tags and counts of entries.
abbrev pub wants : List Entry → List Wanted
wants es = map (λ e. want e.tag e.count) es

pub wants_laid : (at : ℕ) (ws : List Wanted) → wants (laid_out at ws) ≡ ws
unfolding laid_out
wants_laid at [] = refl
wants_laid at (w ∷ ws) = ap (λ vs. w ∷ vs) (wants_laid (at + NODE_BYTES * w.count) ws)

pub length_laid : (at : ℕ) (ws : List Wanted) → length (laid_out at ws) ≡ length ws
unfolding laid_out
length_laid at [] = refl
length_laid at (w ∷ ws) = let h = length_laid (at + NODE_BYTES * w.count) ws in omega arith

-- Each entry of the contents has three numbers.
pub length_contents : (ws : List Wanted) → length (words_in entry_numbers (contents_for ws)) ≡ 3 * length ws
unfolding contents_for entry_numbers
length_contents ws = length_items entry_numbers 3 (λ e. refl) (contents_for ws) ∙ ap (λ k. 3 * k) (length_laid (contents_end (length ws)) ws)

-- Where bodies lie one after the other, the first starts at the place `at` and the others after it.
pub laid_first : (at : ℕ) (e : Entry) (es : List Entry) (size : ℕ) → laidb at (e ∷ es) size ≡ true
    → (e.offset ≡ at) × (laidb (at + NODE_BYTES * e.count) es size ≡ true)
unfolding laidb
laid_first at e es size h = let p = and_read (eqb e.offset at) h in (eqb-true _ _ p.0, p.1)

-- How many nodes the entries count.
pub total : List Entry → ℕ
total [] = 0
total (e ∷ es) = e.count + total es

-- The last body ends where the book does.
pub laid_end : (at : ℕ) (es : List Entry) (size : ℕ) → laidb at es size ≡ true → size ≡ at + NODE_BYTES * total es
unfolding laidb total
laid_end at [] size h = let e : at ≡ size = eqb-true _ _ h in omega arith
laid_end at (e ∷ es) size h =
    let l = laid_end (at + NODE_BYTES * e.count) es size (laid_first at e es size h).1 in
    omega arith

-- Bodies that lie one after the other are laid out as their tags and counts say.
pub laid_wants : (at : ℕ) (es : List Entry) (size : ℕ) → laidb at es size ≡ true → laid_out at (wants es) ≡ es
unfolding laid_out
laid_wants at [] size h = refl
laid_wants at (e ∷ es) size h =
    let p = laid_first at e es size h in
    let later = laid_wants (at + NODE_BYTES * e.count) es size p.1 in
    λ k. entry e.tag (sym p.0 k) e.count ∷ later k

-- The nodes after the contents of a book of `lists` lists.
abbrev pub beyond : ℕ → List ℕ → List Node
beyond lists book = nodes (drop (1 + 3 * lists) (numbers book))

module _ (book : List ℕ) (lists : ℕ) where
  -- The body that starts `k` nodes after the contents.
  body_there : (k : ℕ) (e : Entry) → e.offset ≡ contents_end lists + NODE_BYTES * k → nodes_of book e ≡ take e.count (drop k (beyond lists book))
  unfolding nodes_of body_of part_of contents_end
  body_there k e h =
      let ns = numbers book in
      let from : e.offset ≡ 4 * (1 + 3 * lists + 4 * k) = omega arith in
      let long : NODE_BYTES * e.count ≡ 4 * (4 * e.count) = omega arith in
      ap (λ n. nodes (numbers (take (NODE_BYTES * e.count) (drop n book)))) from
      ∙ ap (λ n. nodes (numbers (take n (drop (4 * (1 + 3 * lists + 4 * k)) book)))) long
      ∙ ap nodes (numbers_take (drop (4 * (1 + 3 * lists + 4 * k)) book) (4 * e.count))
      ∙ ap (λ xs. nodes (take (4 * e.count) xs)) (numbers_drop book (1 + 3 * lists + 4 * k) ∙ sym (drop-drop (4 * k) (1 + 3 * lists) ns))
      ∙ nodes_take (drop (4 * k) (drop (1 + 3 * lists) ns)) e.count
      ∙ ap (take e.count) (nodes_drop (drop (1 + 3 * lists) ns) k)

  -- The bodies that start `k` nodes after the contents and later are those of their tags and
  -- counts.
  pub bodies_laid : (k at : ℕ) (es : List Entry) (size : ℕ) → at ≡ contents_end lists + NODE_BYTES * k → laidb at es size ≡ true
      → map (nodes_of book) es ≡ bodies_for (wants es) (drop k (beyond lists book))
  unfolding bodies_for
  bodies_laid k at [] size q h = refl
  bodies_laid k at (e ∷ es) size q h =
      let p = laid_first at e es size h in
      let later = bodies_laid (k + e.count) (at + NODE_BYTES * e.count) es size (omega arith) p.1 in
      let rest = later ∙ ap (bodies_for (wants es)) (sym (drop-drop e.count k (beyond lists book))) in
      λ t. body_there k e (p.0 ∙ q) t ∷ rest t

  -- And put one after the other they are all those nodes.
  pub nodes_laid : (k at : ℕ) (es : List Entry) (size : ℕ) → at ≡ contents_end lists + NODE_BYTES * k → laidb at es size ≡ true
      → size ≡ contents_end lists + NODE_BYTES * length (beyond lists book) → flat_map (nodes_of book) es ≡ drop k (beyond lists book)
  unfolding flat_map laidb
  nodes_laid k at [] size q h s =
      let e : at ≡ size = eqb-true _ _ h in
      sym (drop_of_length-le (beyond lists book) {i = k} (omega arith))
  nodes_laid k at (e ∷ es) size q h s =
      let p = laid_first at e es size h in
      let later = nodes_laid (k + e.count) (at + NODE_BYTES * e.count) es size (omega arith) p.1 s in
      let rest = later ∙ sym (drop-drop e.count k (beyond lists book)) in
      (λ t. body_there k e (p.0 ∙ q) t ++ rest t) ∙ take-append-drop e.count (drop k (beyond lists book))
