-- Why it holds: A book whose contents keep the rules reads as the tags and counts of its contents
-- and the nodes after them. Whole numbers, entries and nodes are written as they were read. So its
-- bytes come back.
-- What would break it: A byte that no number, entry or node held would be caught here.
use mathlib.Core.Path.{◌≡◌, refl, ap, sym, ◌∙◌}
use mathlib.Core.List.{List, [], ◌∷◌, ◌++◌, flat_map}
use Prim.Native.Nat.{ℕ, zero, suc, ◌+◌, ◌*◌, ◌≤◌, ◌<◌}
use native.Mathlib.Omega.{arith}
use lib.ListN.{length, get_or, take, drop, length-drop, length-map, take-append-drop}
use lib.Seq.{drop-cons, drop-drop}
use Rattle.nodes.specs.declared.node.Node.{Node}
use Rattle.answers.specs.Answer.{TAKEN}
use Rattle.laws.specs.Choose.{All}
use Rattle.nodes.specs.Words.{words_of}
use Rattle.answers.specs.Output.{words_in}
use Rattle.nodes.proofs.WordLaws.{length_nodes, words_of_nodes}
use Rattle.numbers.specs.Little.{NODE_BYTES, bytes_of, numbers, number_at}
use Rattle.numbers.proofs.LittleLaws.{length_numbers, bytes_of_numbers}
use Rattle.contents.specs.Contents.{entries, entry_numbers, lists_in, entries_in, contents_of, contents_end, contents_fault}
use Rattle.contents.proofs.ContentLaws.{count_contents}
use Rattle.writing.specs.declared.wanted.Wanted.{Wanted}
use Rattle.writing.specs.Back.{wanted_in}
use Rattle.writing.specs.Wanted.{laid_out, contents_for, size_for, book_numbers, book_bytes}
use Rattle.writing.proofs.BodyOffsets.{laid_end, laid_wants, beyond}
use Rattle.writing.proofs.Reading.{Reads}
use Rattle.writing.proofs.Rules.{Rules, rules_read}

-- A book whose contents keep the rules reads as its own tags, counts and nodes.
module _ (book : List ℕ) (good : contents_fault book ≡ TAKEN) where
  kept : Rules (lists_in book) (contents_of book) (length book)
  kept = rules_read book good

  lists_read : length (wanted_in book) ≡ lists_in book
  unfolding wanted_in
  lists_read = length-map (contents_of book) _ ∙ count_contents book good

  contents_read : contents_of book ≡ contents_for (wanted_in book)
  unfolding wanted_in contents_for
  contents_read =
      sym (laid_wants (contents_end (lists_in book)) (contents_of book) (length book) kept.laid)
      ∙ ap (λ n. laid_out (contents_end n) (wanted_in book)) (sym lists_read)

  size_read : length book ≡ contents_end (lists_in book) + NODE_BYTES * length (beyond (lists_in book) book)
  unfolding contents_end
  size_read =
      let ns = numbers book in
      let l = length_numbers book in
      let d = length-drop (1 + 3 * lists_in book) ns in
      let n = length_nodes (drop (1 + 3 * lists_in book) ns) in
      let e = laid_end (contents_end (lists_in book)) (contents_of book) (length book) kept.laid in
      omega arith

  pub reads_read : Reads book (wanted_in book) (beyond (lists_in book) book)
  unfolding size_for
  reads_read = record {
    lists = sym lists_read;
    contents = contents_read;
    size = size_read ∙ ap (λ n. contents_end n + NODE_BYTES * length (beyond (lists_in book) book)) (sym lists_read);
    nodes_beyond = ap (λ n. beyond n book) lists_read;
  }

-- The numbers of entries are written as they were read.
numbers_of_entries : (n : ℕ) (ns : List ℕ) → 3 * n ≤ length ns → words_in entry_numbers (take n (entries ns)) ≡ take (3 * n) ns
unfolding entries words_in flat_map entry_numbers
numbers_of_entries zero ns h = refl
numbers_of_entries (suc n) [] h = absurd (omega arith)
numbers_of_entries (suc n) (t ∷ []) h = absurd (omega arith)
numbers_of_entries (suc n) (t ∷ o ∷ []) h = absurd (omega arith)
numbers_of_entries (suc n) (t ∷ o ∷ c ∷ ns) h =
    let e : 3 * suc n ≡ suc (suc (suc (3 * n))) = omega arith in
    ap (λ xs. t ∷ o ∷ c ∷ xs) (numbers_of_entries n ns (omega arith)) ∙ ap (λ m. take m (t ∷ o ∷ c ∷ ns)) (sym e)

-- So the numbers and the bytes of a book are those of what it reads as.
module _ (book : List ℕ) (ws : List Wanted) (ns : List Node) (r : Reads book ws ns) where
  entries_again : words_in entry_numbers (contents_for ws) ≡ take (3 * length ws) (drop 1 (numbers book))
  unfolding contents_of entries_in size_for contents_end
  entries_again =
      let s = r.size in
      let l = length_numbers book in
      let d = length-drop 1 (numbers book) in
      ap (words_in entry_numbers) (sym r.contents ∙ ap (λ n. take n (entries (drop 1 (numbers book)))) r.lists)
      ∙ numbers_of_entries (length ws) (drop 1 (numbers book)) (omega arith)

  nodes_again : words_in words_of ns ≡ drop (3 * length ws) (drop 1 (numbers book))
  unfolding size_for contents_end
  nodes_again =
      let s = r.size in
      let l = length_numbers book in
      let d = length-drop (1 + 3 * length ws) (numbers book) in
      ap (words_in words_of) (sym r.nodes_beyond)
      ∙ words_of_nodes (drop (1 + 3 * length ws) (numbers book)) (omega arith)
      ∙ sym (drop-drop (3 * length ws) 1 (numbers book))

  numbers_again : book_numbers ws ns ≡ numbers book
  unfolding book_numbers lists_in number_at size_for contents_end
  numbers_again =
      let s = r.size in
      let l = length_numbers book in
      (λ k. sym r.lists k ∷ (entries_again k ++ nodes_again k))
      ∙ ap (λ xs. get_or (numbers book) 0 0 ∷ xs) (take-append-drop (3 * length ws) (drop 1 (numbers book)))
      ∙ sym (drop-cons (numbers book) 0 0 (omega arith))

  pub same_bytes : All (λ b. b < 256) book → book_bytes ws ns ≡ book
  unfolding book_bytes size_for contents_end
  same_bytes small = let s = r.size in ap (words_in bytes_of) numbers_again ∙ bytes_of_numbers book (omega arith) small
