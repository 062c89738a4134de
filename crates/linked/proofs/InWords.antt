-- Why it holds: A node's links stand at three times its index, and its own words at four times. So
-- words of the right length are the links exactly if three words at each node are.
-- What would break it: A word read one off, or words after the last node that nobody compares,
-- would be caught here.
use mathlib.Core.Path.{◌≡◌, refl, sym, ap, ◌∙◌}
use mathlib.Core.Bool.{true, false}
use mathlib.Core.List.{List}
use Prim.Native.Nat.{ℕ, zero, suc, ◌+◌, ◌*◌, ◌/◌, ◌%◌, ◌<◌}
use native.Mathlib.Omega.{arith}
use lib.ListN.{length, get_or}
use lib.Seq.{ext_get_or}
use Rattle.nodes.specs.Words.{nodes, count}
use Rattle.nodes.proofs.WordLaws.{length_nodes, node_words}
use Rattle.laws.specs.Choose.{equalb}
use Rattle.laws.proofs.Equal.{equal_read, equal_self}
use Rattle.laws.proofs.Tests.{never, not_so}
use Rattle.forest.specs.Linked.{links_in}
use Rattle.forest.specs.Links.{LINK_WORDS, node_in, link_words, link_of}
use Rattle.forest.proofs.Containing.{node_in_lem}
use Rattle.forest.proofs.LinkLaws.{links_length, link_word}
use Rattle.linked.specs.Check.{linkedb}
use Rattle.linked.specs.Private.Told.{AllTold}

-- The words of a node that are compared.
module _ (list : List ℕ) (i : ℕ) (l : i < count list) where
  pub document_word : get_or list (4 * i) 0 ≡ (node_in (nodes list) i).document
  document_word = sym (ap (λ n. n.document) (node_words list i l)) ∙ ap (λ n. n.document) (node_in_lem list i _ refl)

  pub start_word : get_or list (4 * i + 1) 0 ≡ (node_in (nodes list) i).start
  start_word = sym (ap (λ n. n.start) (node_words list i l)) ∙ ap (λ n. n.start) (node_in_lem list i _ refl)

  pub end_word : get_or list (4 * i + 2) 0 ≡ (node_in (nodes list) i).end
  end_word = sym (ap (λ n. n.end) (node_words list i l)) ∙ ap (λ n. n.end) (node_in_lem list i _ refl)

-- The words are tested to be the list's links exactly if they are.
module _ (list links : List ℕ) where
  pub linked_read : linkedb list links ≡ true → links ≡ links_in list
  unfolding linkedb
  linked_read h = equal_read links (links_in list) h

  pub linked_make : links ≡ links_in list → linkedb list links ≡ true
  unfolding linkedb
  linked_make q = ap (λ ws. equalb ws (links_in list)) q ∙ equal_self (links_in list)

  pub unlinked_read : linkedb list links ≡ false → links ≡ links_in list → ⊥
  unlinked_read h q = never (linked_make q) h

  pub unlinked_make : (links ≡ links_in list → ⊥) → linkedb list links ≡ false
  unlinked_make h = not_so (λ t. h (linked_read t))

  -- Words of another length aren't the list's links.
  pub another_length : (length links ≡ LINK_WORDS * count list → ⊥) → links ≡ links_in list → ⊥
  another_length h q = h (ap length q ∙ links_length list)

  -- If the words are the list's links, all of them are told.
  words_told : links ≡ links_in list → AllTold (nodes list) links (length (nodes list))
  unfolding link_words link_of
  words_told q =
      let few = length_nodes list in
      record {
        parents = λ j a. ap (λ m. get_or links m 0) (start j) ∙ ap (λ ws. get_or ws (3 * j + 0) 0) q ∙ link_word list j 0 (omega arith) (omega arith);
        children = λ j a. ap (λ ws. get_or ws (3 * j + 1) 0) q ∙ link_word list j 1 (omega arith) (omega arith);
        nexts = λ j a. ap (λ ws. get_or ws (3 * j + 2) 0) q ∙ link_word list j 2 (omega arith) (omega arith);
      }
    where
      start : (j : ℕ) → 3 * j ≡ 3 * j + 0
      start j = omega arith

  module _ (t : AllTold (nodes list) links (length (nodes list))) where
    told_word : (j c : ℕ) → j < count list → c < 3 → get_or links (3 * j + c) 0 ≡ get_or (link_words (link_of (nodes list) j)) c 0
    unfolding link_words link_of
    told_word j zero l b = let z : 3 * j + 0 ≡ 3 * j = omega arith in ap (λ m. get_or links m 0) z ∙ t.parents j (omega (arith, length_nodes list))
    told_word j (suc zero) l b = t.children j (omega (arith, length_nodes list))
    told_word j (suc (suc zero)) l b = t.nexts j (omega (arith, length_nodes list))
    told_word j (suc (suc (suc c))) l b = absurd (omega arith)

    told_words : length links ≡ 3 * count list → links ≡ links_in list
    told_words l = ext_get_or 0 links (links_in list) (l ∙ sym (links_length list)) same
      where
        same : (k : ℕ) → k < length links → get_or links k 0 ≡ get_or (links_in list) k 0
        same k m =
            let at : k ≡ 3 * (k / 3) + k % 3 = omega arith in
            ap (λ x. get_or links x 0) at ∙ told_word (k / 3) (k % 3) (omega arith) (omega arith)
            ∙ sym (link_word list (k / 3) (k % 3) (omega arith) (omega arith)) ∙ ap (λ x. get_or (links_in list) x 0) (sym at)

    -- The answer of the test, by what was told.
    pub all_linked : length links ≡ 3 * count list → true ≡ linkedb list links
    all_linked l = sym (linked_make (told_words l))

  pub not_linked : (AllTold (nodes list) links (length (nodes list)) → ⊥) → false ≡ linkedb list links
  not_linked h = sym (unlinked_make (λ q. h (words_told q)))

  pub other_length : (length links ≡ 3 * count list → ⊥) → false ≡ linkedb list links
  other_length h = sym (unlinked_make (another_length h))
