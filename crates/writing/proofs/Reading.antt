-- Why it holds: A book reads as lists and nodes if its first number counts the lists, its contents
-- are laid out for them, and the nodes lie after. Then reading and writing answer the same.
-- What would break it: A number, an entry or a node that reading and writing took differently would
-- be caught here.
use mathlib.Core.Path.{◌≡◌, ap, ◌∙◌}
use mathlib.Core.Bool.{cond}
use mathlib.Core.List.{List, map, flat_map}
use Prim.Native.Nat.{ℕ, suc, ◌+◌, ◌*◌}
use native.Mathlib.Omega.{arith}
use lib.ListN.{length, get_or, take, drop, length-append}
use lib.Seq.{take_at, drop_at}
use Rattle.nodes.specs.declared.node.Node.{Node}
use Rattle.answers.specs.Answer.{TAKEN, CONTENTS}
use Rattle.laws.specs.Choose.{All}
use Rattle.nodes.specs.Words.{nodes, words_of}
use Rattle.answers.specs.Output.{words_in}
use Rattle.nodes.proofs.WordLaws.{nodes_of_words, length_words}
use Rattle.numbers.specs.Little.{numbers, number_at}
use Rattle.numbers.proofs.LittleLaws.{numbers_of_bytes, length_bytes}
use Rattle.contents.specs.Contents.{MOST_LISTS, entries, entry_numbers, lists_in, entries_in, contents_of, contents_end, brokenb, contents_fault_up_to, contents_fault}
use Rattle.contents.proofs.ContentLaws.{entries_of}
use Rattle.books.specs.Book.{nodes_of, check_parts, book_verdict_up_to, book_verdict}
use Rattle.writing.specs.declared.wanted.Wanted.{Wanted}
use Rattle.writing.specs.Back.{wanted_in, bodies_in}
use Rattle.writing.specs.Wanted.{contents_for, bodies_for, size_for, wanted_fault_up_to, wanted_fault, book_numbers, book_bytes}
use Rattle.writing.proofs.BodyOffsets.{wants, wants_laid, length_laid, length_contents, beyond, bodies_laid, nodes_laid}
use Rattle.writing.proofs.Rules.{Rules, Small}

pub record Reads (book : List ℕ) (ws : List Wanted) (ns : List Node) : Type 0 where
  pub lists : lists_in book ≡ length ws
  pub contents : contents_of book ≡ contents_for ws
  pub size : length book ≡ size_for ws ns
  pub nodes_beyond : beyond (length ws) book ≡ ns

-- What is read of such a book.
module _ (book : List ℕ) (ws : List Wanted) (ns : List Node) (r : Reads book ws ns) where
  pub same_wanted : wanted_in book ≡ ws
  unfolding wanted_in contents_for
  same_wanted = ap wants r.contents ∙ wants_laid (contents_end (length ws)) ws

  pub same_fault : contents_fault book ≡ wanted_fault ws ns
  unfolding contents_fault_up_to wanted_fault_up_to
  same_fault = λ k. cond (brokenb MOST_LISTS (r.lists k) (r.contents k) (r.size k)) CONTENTS TAKEN

  module _ (k : Rules (length ws) (contents_for ws) (size_for ws ns)) where
    pub same_bodies : bodies_in book ≡ bodies_for ws ns
    unfolding bodies_in contents_for
    same_bodies =
        ap (map (nodes_of book)) r.contents
        ∙ bodies_laid book (length ws) 0 (contents_end (length ws)) (contents_for ws) (size_for ws ns) (omega arith) k.laid
        ∙ (λ t. bodies_for (wants_laid (contents_end (length ws)) ws t) (r.nodes_beyond t))

    pub same_nodes : flat_map (nodes_of book) (contents_of book) ≡ ns
    unfolding size_for
    same_nodes =
        let e = ap length r.nodes_beyond in
        ap (flat_map (nodes_of book)) r.contents
        ∙ nodes_laid book (length ws) 0 (contents_end (length ws)) (contents_for ws) (size_for ws ns) (omega arith) k.laid (omega arith)
        ∙ r.nodes_beyond

    pub same_check : book_verdict book ≡ check_parts (wanted_fault ws ns) (bodies_for ws ns)
    unfolding book_verdict_up_to bodies_in
    same_check = λ t. check_parts (same_fault t) (same_bodies t)

-- A written book has as many bytes as its lists and nodes take.
pub size_written : (ws : List Wanted) (ns : List Node) → length (book_bytes ws ns) ≡ size_for ws ns
unfolding book_bytes book_numbers size_for contents_end
size_written ws ns =
    let l = length-append (words_in entry_numbers (contents_for ws)) (words_in words_of ns) in
    let f = length_contents ws in
    let n = length_words ns in
    length_bytes (book_numbers ws ns) ∙ omega arith

-- A book that was written reads as what it was written from.
module _ (ws : List Wanted) (ns : List Node) (small : All Small (book_numbers ws ns)) where
  numbers_written : numbers (book_bytes ws ns) ≡ book_numbers ws ns
  unfolding book_bytes
  numbers_written = numbers_of_bytes (book_numbers ws ns) small

  lists_written : lists_in (book_bytes ws ns) ≡ length ws
  unfolding lists_in number_at book_numbers
  lists_written = ap (λ xs. get_or xs 0 0) numbers_written

  contents_written : contents_of (book_bytes ws ns) ≡ contents_for ws
  unfolding contents_of entries_in book_numbers contents_for
  contents_written =
      (λ k. take (lists_written k) (entries (drop 1 (numbers_written k))))
      ∙ ap (take (length ws)) (entries_of (contents_for ws) (words_in words_of ns))
      ∙ take_at (contents_for ws) (entries (words_in words_of ns)) (length ws) (length_laid (contents_end (length ws)) ws)

  beyond_written : beyond (length ws) (book_bytes ws ns) ≡ ns
  unfolding book_numbers
  beyond_written =
      let one : 1 + 3 * length ws ≡ suc (3 * length ws) = omega arith in
      (λ k. nodes (drop (one k) (numbers_written k)))
      ∙ ap nodes (drop_at (words_in entry_numbers (contents_for ws)) (words_in words_of ns) (3 * length ws) (length_contents ws))
      ∙ nodes_of_words ns

  pub reads_written : Reads (book_bytes ws ns) ws ns
  reads_written = record { lists = lists_written; contents = contents_written; size = size_written ws ns; nodes_beyond = beyond_written }
