-- Why it holds: Three more words are one more node's links. So a node's links stand at three times
-- its index, and one store alters one link alone.
-- What would break it: A link stored one word off, or over another node's, would be caught here.
use mathlib.Core.Path.{◌≡◌, refl, sym, ap, ◌∙◌}
use mathlib.Core.Logic.{inl, inr}
use mathlib.Core.Bool.{false}
use mathlib.Core.List.{List, [], ◌∷◌, ◌++◌, map, flat_map, append_assoc}
use Prim.Native.Nat.{ℕ, zero, suc, ◌+◌, ◌*◌, ◌/◌, ◌≤◌, ◌<◌}
use native.Mathlib.Nat.{not-suc-le-zero, suc-add}
use native.Mathlib.Numerals.{add-one}
use native.Mathlib.Omega.{arith}
use lib.ListN.{length, get_or, set, drop, length-append, get_or-append}
use lib.Seq.{sets, sets-eq, set-append_left, get_or-append-add, get_or-take, take_at}
use lib.Dec.{eqb}
use borrow.Author.Tests.{eqb-true, eqb-false}
use Rattle.std.specs.Prelude.{Some, None}
use Rattle.std.proofs.lemmas.Slice.{drop-append-drop}
use Rattle.laws.proofs.Tests.{either}
use Rattle.nodes.specs.declared.node.Node.{Node}
use Rattle.nodes.specs.Words.{nodes, count}
use Rattle.answers.specs.Output.{words_in, written}
use Rattle.nodes.proofs.WordLaws.{length_nodes}
use Rattle.forest.specs.declared.link.Link.{Link}
use Rattle.forest.specs.Private.Climb.{index_in, word_of, Elder, Linking, link, child_to, next_to, link_to, links_to}
use Rattle.forest.specs.Linked.{links_in}
use Rattle.forest.specs.Links.{NONE, up_to, link_words, indices, parent_of, child_of, next_of, siblingb, link_of, links_of}
use Rattle.forest.proofs.FirstAndLast.{last_or_below}
use Rattle.forest.proofs.Containing.{AcceptedList}
use Rattle.forest.proofs.OneMoreNode.{alone, elder_gets, elder_only, parent_only, parent_gets}

-- An index read from a word is the word, and only NONE is read as no index. Written again, it is
-- the same word.
module _ (word : ℕ) where
  pub index_read : (index : ℕ) → Some index ≡ index_in word → (index ≡ word) × (index ≡ NONE → ⊥)
  index_read index s =
      elim (either (eqb word NONE)) [
        | inl h ↦ let t = rw h at s in cc
        | inr h ↦ let t = rw h at s in let e : index ≡ word = cc in (e, λ z. eqb-false word NONE h (sym e ∙ z))
      ]

  pub index_none : None ≡ index_in word → word ≡ NONE
  index_none s = elim (either (eqb word NONE)) [ inl h ↦ eqb-true word NONE h | inr h ↦ let t = rw h at s in cc ]

  pub word_back : word_of (index_in word) ≡ word
  word_back = elim (either (eqb word NONE)) [ inl h ↦ rw h (sym (eqb-true word NONE h)) | inr h ↦ rw h refl ]

-- The words of the links of the first `k` nodes.
abbrev words : (ℕ → Link) → ℕ → List ℕ
words f k = words_in link_words (map f (up_to k))

module _ (f : ℕ → Link) where
  words_append : (xs : List ℕ) (x : ℕ) → flat_map link_words (map f (xs ++ x ∷ [])) ≡ flat_map link_words (map f xs) ++ link_words (f x)
  unfolding flat_map link_words
  words_append [] x = refl
  words_append (y ∷ xs) x = ap (λ ws. link_words (f y) ++ ws) (words_append xs x)

  words_next : (k : ℕ) → words f (suc k) ≡ words f k ++ link_words (f k)
  unfolding words_in up_to
  words_next k = words_append (up_to k) k

  words_length : (k : ℕ) → length (words f k) ≡ 3 * k
  unfolding words_in up_to link_words flat_map
  words_length zero = refl
  words_length (suc k) = ap length (words_next k) ∙ omega (arith, words_length k, length-append (words f k) (link_words (f k)))

  -- Word `c` of the links of node `j` stands at `3 * j + c`.
  words_at_lem : (k j c : ℕ) → j < k → c < 3 → get_or (words f k) (3 * j + c) 0 ≡ get_or (link_words (f j)) c 0
  words_at_lem zero j c l b = absurd (not-suc-le-zero l)
  words_at_lem (suc k) j c l b =
      rw (words_next k)
      (elim (last_or_below l) [
        | inl e ↦ let at : 3 * j + c ≡ length (words f k) + c = omega (arith, words_length k) in
            ap (λ m. get_or (words f k ++ link_words (f k)) m 0) at ∙ get_or-append-add (words f k) (link_words (f k)) c 0
            ∙ ap (λ m. get_or (link_words (f m)) c 0) (sym e)
        | inr m ↦ get_or-append (words f k) (link_words (f k)) 0 (3 * j + c) (omega (arith, words_length k)) ∙ words_at_lem k j c m b
      ])

-- A store after some words.
set_beyond : (xs ys : List ℕ) (m c v : ℕ) → m ≡ length xs + c → set (xs ++ ys) m v ≡ xs ++ set ys c v
set_beyond [] ys m c v q = ap (λ k. set ys k v) (omega arith)
set_beyond (x ∷ xs) ys m c v q =
    ap (λ k. set (x ∷ (xs ++ ys)) k v) (q ∙ suc-add (length xs) c) ∙ ap (λ zs. x ∷ zs) (set_beyond xs ys (length xs + c) c v refl)

module _ (f g : ℕ → Link) where
  words_same : (k : ℕ) → ((j : ℕ) → j < k → g j ≡ f j) → words f k ≡ words g k
  unfolding up_to
  words_same zero h = refl
  words_same (suc k) h =
      rw (words_next f k, words_next g k, h k (omega arith)) (ap (λ ws. ws ++ link_words (f k)) (words_same k (λ j l. h j (omega arith))))

  -- One store turns the links of one node into others.
  words_set : (k e c v : ℕ) → e < k → c < 3 → ((j : ℕ) → j < k → (j ≡ e → ⊥) → g j ≡ f j) → set (link_words (f e)) c v ≡ link_words (g e)
      → set (words f k) (3 * e + c) v ≡ words g k
  words_set zero e c v l b h s = absurd (not-suc-le-zero l)
  words_set (suc k) e c v l b h s =
      let long = words_length f k in
      rw (words_next f k, words_next g k)
      (elim (last_or_below l) [
        | inl q ↦ let at : set (link_words (f k)) c v ≡ link_words (g k) = rw q at s in
            let same = words_same k (λ j m. h j (omega arith) (λ z. omega arith)) in
            set_beyond (words f k) (link_words (f k)) (3 * e + c) c v (omega arith) ∙ λ t. same t ++ at t
        | inr q ↦ let last = h k (omega arith) (λ z. omega arith) in
            let rest = words_set k e c v q b (λ j m. h j (omega arith)) s in
            set-append_left (words f k) (link_words (f k)) (3 * e + c) v (omega arith) ∙ λ t. rest t ++ link_words (sym last t)
      ])

module _ (ns : List Node) (ok : AcceptedList ns) (i : ℕ) (l : i < length ns) (out : List ℕ) (m : i < length out / 3) (h : Linking ns i out) where
  abbrev f : ℕ → Link
  f = link_to ns i

  abbrev g : ℕ → Link
  g = link_to ns (suc i)

  -- The words with the node's own links written after those of the nodes before.
  abbrev own : List ℕ
  own = sets out (3 * i) (link_words (link (parent_of ns i) NONE NONE))

  -- A change that gives the nodes before the links that they have with the node makes the links of
  -- one node more.
  joined : (change : List ℕ → List ℕ) → ((tail : List ℕ) → change (words f i ++ tail) ≡ words g i ++ tail)
      → change own ≡ written (links_to ns (i + 1)) out
  unfolding links_to written link_words
  joined change turns =
      let vs = link_words (link (parent_of ns i) NONE NONE) in
      let tail = drop (3 * i + 3) out in
      let last : vs ≡ link_words (g i) = sym (ap link_words (alone ns ok i l)) in
      let put : own ≡ words f i ++ (vs ++ tail) =
      sets-eq vs out (3 * i) (omega arith) ∙ ap (λ ws. ws ++ vs ++ tail) h ∙ append_assoc (words f i) vs tail in
      let all : words g i ++ (vs ++ tail) ≡ words g (suc i) ++ tail =
      sym (append_assoc (words g i) vs tail) ∙ ap (λ ws. words g i ++ ws ++ tail) last ∙ ap (λ ws. ws ++ tail) (sym (words_next g i)) in
      let long : 3 * i + 3 ≡ length (words g (suc i)) = omega (arith, words_length g (suc i)) in
      rw (add-one i)
      (ap change put ∙ turns (vs ++ tail) ∙ all ∙ ap (λ n. words g (suc i) ++ drop n out) long)

  -- One store into the links of a node before.
  stored : (e c : ℕ) → e < i → c < 3 → ((j : ℕ) → j < i → (j ≡ e → ⊥) → g j ≡ f j) → set (link_words (f e)) c i ≡ link_words (g e)
      → set own (3 * e + c) i ≡ written (links_to ns (i + 1)) out
  stored e c b t only gets =
      joined (λ ws. set ws (3 * e + c) i) (λ tail.
      set-append_left (words f i) tail (3 * e + c) i (omega (arith, words_length f i))
      ∙ ap (λ ws. ws ++ tail) (words_set f g i e c i b t only gets))

  -- A node with an elder becomes the elder's next sibling.
  pub joined_next : (e : ℕ) → Elder ns i e → set own (3 * e + 2) i ≡ written (links_to ns (i + 1)) out
  unfolding link_to link_words
  joined_next e k =
      stored e 2 k.before (omega arith) (elder_only ns ok i l e k) (sym (ap link_words (elder_gets ns ok i l e k)))

  module _ (none : (j : ℕ) → j < i → siblingb ns i j ≡ false) where
    -- A node without an elder becomes the first child of its parent.
    pub joined_child : (p : ℕ) → parent_of ns i ≡ p → p < i → set own (3 * p + 1) i ≡ written (links_to ns (i + 1)) out
    unfolding link_to link_words
    joined_child p q b =
        stored p 1 b (omega arith) (λ j c d. parent_only ns ok i l none j c (λ z. d (z ∙ q)))
        (sym (ap link_words (parent_gets ns ok i l none p q b)))

    -- And if it has no parent either, nothing else changes.
    pub joined_alone : parent_of ns i ≡ NONE → own ≡ written (links_to ns (i + 1)) out
    joined_alone q =
        joined (λ ws. ws) (λ tail. ap (λ ws. ws ++ tail) (words_same f g i
        (λ j b. parent_only ns ok i l none j b (λ z. omega (arith, ok.short)))))

-- The links of the first nodes, as they are written in an output.
module _ (ns : List Node) where
  pub linking : (k : ℕ) (base out : List ℕ) → out ≡ written (links_to ns k) base → Linking ns k out
  unfolding links_to written
  linking k base out q = rw q (take_at (words (link_to ns k) k) (drop (length (words (link_to ns k) k)) base) (3 * k) (words_length (link_to ns k) k))

  pub parent_word : (k j : ℕ) (out : List ℕ) → j < k → Linking ns k out → get_or out (3 * j) 0 ≡ parent_of ns j
  unfolding links_to link_to link_words
  parent_word k j out l h =
      let at : 3 * j ≡ 3 * j + 0 = omega arith in
      ap (λ m. get_or out m 0) at ∙ sym (get_or-take (3 * k) out (3 * j + 0) 0 (omega arith)) ∙ ap (λ ws. get_or ws (3 * j + 0) 0) h
      ∙ words_at_lem (link_to ns k) k j 0 l (omega arith)

  pub links_none : (out : List ℕ) → out ≡ written (links_to ns 0) out
  unfolding links_to written up_to words_in flat_map
  links_none out = refl

  -- Links of more nodes cover those of fewer.
  pub links_over : (k m : ℕ) (base out : List ℕ) → k ≤ m → out ≡ written (links_to ns k) base
      → written (links_to ns m) out ≡ written (links_to ns m) base
  unfolding links_to written
  links_over k m base out l p =
      let ws = words (link_to ns k) k in
      let more = words (link_to ns m) m in
      let covers : length ws ≤ length more = omega (arith, words_length (link_to ns k) k, words_length (link_to ns m) m) in
      ap (λ zs. more ++ drop (length more) zs) p ∙ ap (λ zs. more ++ zs) (drop-append-drop (length ws) base ws (length more) covers refl)

  pub links_more : (k : ℕ) (base out after : List ℕ) → out ≡ written (links_to ns k) base → after ≡ written (links_to ns (k + 1)) out
      → after ≡ written (links_to ns (k + 1)) base
  links_more k base out after p q = q ∙ links_over k (k + 1) base out (omega arith) p

-- The links of all nodes.
pub links_all : (list : List ℕ) (k : ℕ) → k ≡ count list → links_to (nodes list) k ≡ links_in list
unfolding links_to links_in links_of link_to link_of child_to next_to child_of next_of indices
links_all list k q = rw (q ∙ sym (length_nodes list)) refl

pub links_length : (list : List ℕ) → length (links_in list) ≡ 3 * count list
unfolding links_in links_of indices
links_length list = words_length (link_of (nodes list)) (length (nodes list)) ∙ ap (λ k. 3 * k) (length_nodes list)

pub link_word : (list : List ℕ) (j c : ℕ) → j < count list → c < 3 → get_or (links_in list) (3 * j + c) 0 ≡ get_or (link_words (link_of (nodes list) j)) c 0
unfolding links_in links_of indices
link_word list j c l b = words_at_lem (link_of (nodes list)) (length (nodes list)) j c (omega (arith, length_nodes list)) b
