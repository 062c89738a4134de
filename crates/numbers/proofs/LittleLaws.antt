-- Why it holds: Each further number is four further bytes, just as each further node is four
-- further words. So the laws of nodes in words also serve for numbers in bytes.
-- What would break it: A number read one byte off, or with its bytes in another order, would be
-- caught here.
use mathlib.Core.Path.{◌≡◌, refl, ap, sym, ◌∙◌}
use mathlib.Core.List.{List, [], ◌∷◌, ◌++◌, map, flat_map, append_assoc}
use Prim.Native.Nat.{ℕ, ◌+◌, ◌*◌, ◌/◌, ◌%◌, ◌≤◌, ◌<◌}
use native.Mathlib.Omega.{arith}
use lib.ListN.{length, get_or, take, drop, set, length-map, get_or-map, get_or-eq_default}
use native.Mathlib.Numerals.{towards_suc}
use borrow.Author.Tests.{lt-ltb}
use borrow.Rule.Slice.PartMut.{put_mid}
use Rattle.nodes.specs.declared.node.Node.{Node}
use Rattle.laws.specs.Choose.{All}
use Rattle.nodes.specs.Words.{node, nodes, node_at}
use Rattle.answers.specs.Output.{words_in, written}
use Rattle.nodes.proofs.WordLaws.{length_nodes, node_words, nodes_drop, nodes_take, nodes_from_lem, nodes_beyond}
use Rattle.answers.proofs.OutputLaws.{length_items}
use Rattle.laws.proofs.Choices.{map_drop, map_take}
use lib.Seq.{take_all, sets-eq, drop-drop}
use Rattle.numbers.specs.Part.{copied}
use Rattle.numbers.specs.Little.{NODE_BYTES, little, bytes_of, numbers, number_count, number_at, put_number, node_in}

-- Four bytes, read as if they were a node's words, give this number.
four : Node → ℕ
four n = little n.document n.start n.end n.level

by_fours : (bs : List ℕ) → numbers bs ≡ map four (nodes bs)
unfolding numbers nodes four
by_fours [] = refl
by_fours (a ∷ []) = refl
by_fours (a ∷ b ∷ []) = refl
by_fours (a ∷ b ∷ c ∷ []) = refl
by_fours (a ∷ b ∷ c ∷ d ∷ bs) = ap (λ ns. little a b c d ∷ ns) (by_fours bs)

pub length_numbers : (bs : List ℕ) → length (numbers bs) ≡ number_count bs
length_numbers bs = ap length (by_fours bs) ∙ length-map (nodes bs) four ∙ length_nodes bs

-- Number i has the bytes from 4 * i on.
pub number_bytes : (bs : List ℕ) (i : ℕ) → i < number_count bs
    → number_at bs i ≡ little (get_or bs (4 * i) 0) (get_or bs (4 * i + 1) 0) (get_or bs (4 * i + 2) 0) (get_or bs (4 * i + 3) 0)
unfolding number_at node_at four little
number_bytes bs i h = ap (λ ns. get_or ns i 0) (by_fours bs) ∙ get_or-map four (nodes bs) i (node 0 0 0 0) ∙ ap four (node_words bs i h)

pub number_beyond : (bs : List ℕ) (i : ℕ) → number_count bs ≤ i → number_at bs i ≡ 0
unfolding number_at
number_beyond bs i h = get_or-eq_default (numbers bs) 0 (omega (arith, length_numbers bs))

-- Dropping or taking k numbers is dropping or taking 4 * k bytes.
pub numbers_drop : (bs : List ℕ) (k : ℕ) → numbers (drop (4 * k) bs) ≡ drop k (numbers bs)
numbers_drop bs k = by_fours (drop (4 * k) bs) ∙ ap (map four) (nodes_drop bs k) ∙ map_drop four k (nodes bs) ∙ ap (drop k) (sym (by_fours bs))

pub numbers_take : (bs : List ℕ) (k : ℕ) → numbers (take (4 * k) bs) ≡ take k (numbers bs)
numbers_take bs k = by_fours (take (4 * k) bs) ∙ ap (map four) (nodes_take bs k) ∙ map_take four k (nodes bs) ∙ ap (take k) (sym (by_fours bs))

pub numbers_append : (xs ys : List ℕ) → length xs % 4 ≡ 0 → numbers (xs ++ ys) ≡ numbers xs ++ numbers ys
unfolding numbers
numbers_append [] ys h = refl
numbers_append (a ∷ []) ys h = absurd (omega arith)
numbers_append (a ∷ b ∷ []) ys h = absurd (omega arith)
numbers_append (a ∷ b ∷ c ∷ []) ys h = absurd (omega arith)
numbers_append (a ∷ b ∷ c ∷ d ∷ xs) ys h = ap (λ ns. little a b c d ∷ ns) (numbers_append xs ys (omega arith))

-- A number is the sum of its four digits to the base 256, and each digit is read off with `%`.
digits : (n one two three : ℕ) → one ≡ n / 256 → two ≡ one / 256 → three ≡ two / 256 → three < 256
    → n % 256 + 256 * (one % 256) + 65536 * (two % 256) + 16777216 * (three % 256) ≡ n
digits n one two three p q r h = omega arith

digit : (a m n : ℕ) → a < 256 → n ≡ a + 256 * m → n % 256 ≡ a
digit a m n h e = omega arith

-- A number written as bytes is read as the same number, and bytes read as a number are written as
-- the same bytes.
pub number_of_bytes : (n : ℕ) → n < 4294967296 → little (n % 256) (n / 256 % 256) (n / 65536 % 256) (n / 16777216 % 256) ≡ n
unfolding little
number_of_bytes n h = digits n (n / 256) (n / 65536) (n / 16777216) refl (omega arith) (omega arith) (omega arith)

pub bytes_of_number : (a b c d : ℕ) → a < 256 → b < 256 → c < 256 → d < 256 → bytes_of (little a b c d) ≡ a ∷ b ∷ c ∷ d ∷ []
unfolding little bytes_of
bytes_of_number a b c d p q r s =
    let n = a + 256 * b + 65536 * c + 16777216 * d in
    rw (
      digit a (b + 256 * c + 65536 * d) n p (omega arith),
      digit b (c + 256 * d) (n / 256) q (omega arith),
      digit c d (n / 65536) r (omega arith),
      digit d 0 (n / 16777216) s (omega arith),
    )

-- The same holds of lists of numbers and of bytes.
pub numbers_of_bytes : (ns : List ℕ) → All (λ n. n < 4294967296) ns → numbers (words_in bytes_of ns) ≡ ns
unfolding numbers words_in flat_map bytes_of
numbers_of_bytes [] h = refl
numbers_of_bytes (n ∷ ns) h =
    λ k. number_of_bytes n h.0 k ∷ numbers_of_bytes ns h.1 k

pub bytes_of_numbers : (bs : List ℕ) → length bs % 4 ≡ 0 → All (λ b. b < 256) bs → words_in bytes_of (numbers bs) ≡ bs
unfolding numbers words_in flat_map
bytes_of_numbers [] h s = refl
bytes_of_numbers (a ∷ []) h s = absurd (omega arith)
bytes_of_numbers (a ∷ b ∷ []) h s = absurd (omega arith)
bytes_of_numbers (a ∷ b ∷ c ∷ []) h s = absurd (omega arith)
bytes_of_numbers (a ∷ b ∷ c ∷ d ∷ bs) h s =
    let e = bytes_of_number a b c d s.0 s.1.0 s.1.1.0 s.1.1.1.0 in
    λ k. e k ++ bytes_of_numbers bs (omega arith) s.1.1.1.1 k

pub length_bytes : (ns : List ℕ) → length (words_in bytes_of ns) ≡ 4 * length ns
unfolding bytes_of
length_bytes ns = length_items bytes_of 4 (λ n. refl) ns

-- Four stores in a row write a number.
pub four_bytes : (bs : List ℕ) (i n : ℕ) → i < number_count bs
    → set (set (set (set bs (4 * i) (n % 256)) (4 * i + 1) (n / 256 % 256)) (4 * i + 2) (n / 65536 % 256)) (4 * i + 3) (n / 16777216 % 256)
    ≡ put_number bs i n
unfolding put_number bytes_of
four_bytes bs i n h = rw (lt-ltb _ _ h) (simp towards_suc)

-- So does a copy of its four bytes over the part where it lies.
pub part_put : (bs part : List ℕ) (i n k : ℕ) → i < number_count bs → k ≡ 4 → part ≡ bytes_of n → put_mid (4 * i) k bs part ≡ put_number bs i n
unfolding put_number bytes_of
part_put bs part i n k h q e =
    rw (e, q, lt-ltb i (number_count bs) h, drop-drop 4 (4 * i) bs)
    (sym (append_assoc (take (4 * i) bs) (bytes_of n) (drop (4 * i + 4) bs)) ∙ sym (sets-eq (bytes_of n) bs (4 * i) (omega arith)))

-- The nodes of a list that lies in bytes.
pub nodes_in : (bs : List ℕ) → length (nodes (numbers bs)) ≡ length bs / NODE_BYTES
nodes_in bs = length_nodes (numbers bs) ∙ ap (λ k. k / 4) (length_numbers bs) ∙ omega arith

pub node_in_from : (bs : List ℕ) (i : ℕ) → i < length bs / NODE_BYTES
    → drop i (nodes (numbers bs)) ≡ node_in bs i ∷ drop (i + 1) (nodes (numbers bs))
unfolding node_in
node_in_from bs i h = nodes_from_lem (numbers bs) i (omega (arith, length_numbers bs))

pub node_in_beyond : (bs : List ℕ) (i : ℕ) → length bs / NODE_BYTES ≤ i → drop i (nodes (numbers bs)) ≡ []
node_in_beyond bs i h = nodes_beyond (numbers bs) i (omega (arith, length_numbers bs))

-- The number that the four bytes from `at` on make.
abbrev number_from : List ℕ → ℕ → ℕ
number_from bs at = little (get_or bs at 0) (get_or bs (at + 1) 0) (get_or bs (at + 2) 0) (get_or bs (at + 3) 0)

number_there : (bs : List ℕ) (i at : ℕ) → at ≡ 4 * i → i < number_count bs → get_or (numbers bs) i 0 ≡ number_from bs at
unfolding number_at
number_there bs i at e h = rw e (number_bytes bs i h)

-- Node i has the four numbers of the bytes from 16 * i on.
pub node_numbers : (bs : List ℕ) (i d s e l : ℕ) → i < length bs / NODE_BYTES
    → d ≡ number_from bs (16 * i) → s ≡ number_from bs (16 * i + 4) → e ≡ number_from bs (16 * i + 8) → l ≡ number_from bs (16 * i + 12)
    → node d s e l ≡ node_in bs i
unfolding node_in
node_numbers bs i d s e l h p q r t =
    let one = p ∙ sym (number_there bs (4 * i) (16 * i) (omega arith) (omega arith)) in
    let two = q ∙ sym (number_there bs (4 * i + 1) (16 * i + 4) (omega arith) (omega arith)) in
    let three = r ∙ sym (number_there bs (4 * i + 2) (16 * i + 8) (omega arith) (omega arith)) in
    let last = t ∙ sym (number_there bs (4 * i + 3) (16 * i + 12) (omega arith) (omega arith)) in
    (λ k. node (one k) (two k) (three k) (last k)) ∙ sym (node_words (numbers bs) i (omega (arith, length_numbers bs)))

-- Where the words have room for all numbers, `copied` writes all of them.
pub copied_whole : (bytes words : List ℕ) → number_count bytes ≤ length words → copied bytes words ≡ written (numbers bytes) words
unfolding copied
copied_whole bytes words h = ap (λ ns. written ns words) (take_all (length words) (numbers bytes) (omega (arith, length_numbers bytes)))
