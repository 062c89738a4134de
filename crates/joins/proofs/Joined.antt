-- Why it holds: In a checked book each list lies under its own tag and has at most 4,096 nodes, so
-- it is copied whole.
-- What would break it: A list that was cut short, or another list's words, would be caught here.
use mathlib.Core.Path.{◌≡◌, refl, sym, ap, ◌∙◌}
use mathlib.Core.Bool.{true, false}
use mathlib.Core.Logic.{inl, inr}
use mathlib.Core.List.{List}
use Prim.Native.Nat.{ℕ, ◌*◌, ◌≤◌, ◌<◌}
use native.Mathlib.Omega.{arith}
use lib.Dec.{eqb}
use lib.ListN.{length, take, drop, length-take}
use borrow.Author.Tests.{le-leb, ltb-true}
use Rattle.laws.proofs.First.{first_there}
use Rattle.laws.proofs.Tests.{either, and_read}
use Rattle.answers.specs.Answer.{TAKEN}
use Rattle.nodes.specs.Words.{NODE_WORDS, MOST_NODES}
use Rattle.answers.specs.Output.{written}
use Rattle.answers.proofs.OutputLaws.{written_begins}
use Rattle.numbers.specs.Little.{NODE_BYTES, numbers}
use Rattle.numbers.specs.Part.{part_of}
use Rattle.numbers.proofs.LittleLaws.{length_numbers}
use Rattle.contents.specs.Contents.{lists_in, contents_of, entry_at}
use Rattle.contents.proofs.ContentLaws.{count_contents, entry_of, entry_within}
use Rattle.std.specs.Prelude.{Ok}
use Rattle.std.proofs.lemmas.Result.{IfOk-at_ok}
use Rattle.answers.specs.declared.refusal.Refusal.TheVariants.{Absent}
use Rattle.answers.specs.Refusal.{answer_in}
use Rattle.books.specs.Book.{body_of, list_at, book_verdict}
use Rattle.books.specs.Find.{tag_at, has_tag, tag_entry, tag_body}
use Rattle.books.proofs.FindLaws.{book_faultless, tag_body_at}
use Rattle.joins.specs.declared.copy.Lengths.{Lengths}
use Rattle.joins.specs.Join.{tag_words, lengths, refused, thereb, fitb, copy_answer, lengths_of, first_after, second_after, ancestors_in, descendants_in}

module _ (book : List ℕ) (good : (book_verdict book).answer ≡ TAKEN) where
  -- Under a list's tag are its words, at most as many as the longest list has.
  pub own_words : (position : ℕ) → position < lists_in book → tag_words book (lists_in book) (entry_at book position).tag ≡ list_at book position
  unfolding tag_words list_at
  own_words position h = ap numbers (tag_body_at book good position h)

  few_words : (position : ℕ) → position < lists_in book → length (list_at book position) ≤ NODE_WORDS * MOST_NODES
  unfolding list_at body_of part_of
  few_words position h =
      let e = entry_at book position in
      let m = (entry_within book (book_faultless book good) position h).0 in
      let l = length_numbers (body_of book e) in
      let t = length-take (NODE_BYTES * e.count) (drop e.offset book) in
      omega arith

  -- A tag that is there belongs to the list at some position, and the words under it are that
  -- list's.
  pub under_tag : (tag : ℕ) → has_tag book (lists_in book) tag ≡ true
      → let position = tag_at tag (contents_of book) in
      (position < lists_in book) × (tag_words book (lists_in book) tag ≡ list_at book position)
  unfolding has_tag tag_at tag_words tag_body tag_entry list_at contents_of
  under_tag tag h =
      let rules = book_faultless book good in
      let l = count_contents book rules in
      let position = tag_at tag (contents_of book) in
      let there : position < length (contents_of book) = ltb-true _ _ (first_there (λ e. eqb e.tag tag) (contents_of book) ∙ h) in
      let inner : position < lists_in book = omega arith in
      (inner, ap (λ e. numbers (body_of book e)) (entry_of book rules position inner))

  -- So they are at most as many as the longest list has.
  few_under : (tag : ℕ) → has_tag book (lists_in book) tag ≡ true → length (tag_words book (lists_in book) tag) ≤ NODE_WORDS * MOST_NODES
  few_under tag h = let u = under_tag tag h in rw u.1 (few_words (tag_at tag (contents_of book)) u.0)

  -- Two lists by their tags, into words that have room for the longest list.
  module _ (ancestors descendants : ℕ) (both : thereb book (lists_in book) ancestors descendants ≡ true) (first second : List ℕ)
      (room : NODE_WORDS * MOST_NODES ≤ length first) (more : NODE_WORDS * MOST_NODES ≤ length second) where
    abbrev copy_of : {A : Type 0} → ℕ → (List ℕ → ℕ → ℕ → ℕ → List ℕ → List ℕ → A) → A
    copy_of lists f = f book lists ancestors descendants first second

    abbrev under : ℕ → List ℕ
    under tag = tag_words book (lists_in book) tag

    few_of_both : (length (under ancestors) ≤ NODE_WORDS * MOST_NODES) × (length (under descendants) ≤ NODE_WORDS * MOST_NODES)
    unfolding thereb
    few_of_both =
        let there = and_read (has_tag book (lists_in book) ancestors) both in
        (few_under ancestors there.0, few_under descendants there.1)

    takes : copy_of (lists_in book) copy_answer ≡ TAKEN
    unfolding copy_answer fitb
    takes =
        let few = few_of_both in
        rw (
          both,
          le-leb (length (under ancestors)) (length first) (omega arith),
          le-leb (length (under descendants)) (length second) (omega arith),
        ) refl

    -- Both lists are copied, whole.
    pub lists_copied : (copy_of (lists_in book) lengths_of ≡ Ok (lengths (length (under ancestors)) (length (under descendants))))
        × (copy_of (lists_in book) first_after ≡ written (under ancestors) first)
        × (copy_of (lists_in book) second_after ≡ written (under descendants) second)
    unfolding lengths_of first_after second_after fitb
    lists_copied =
        let few = few_of_both in
        rw (
          takes,
          both,
          le-leb (length (under ancestors)) (length first) (omega arith),
          le-leb (length (under descendants)) (length second) (omega arith),
        ) (refl, refl, refl)

    -- So the words copied are the lists'.
    words_copied : (take (ancestors_in (copy_of (lists_in book) lengths_of)) (copy_of (lists_in book) first_after) ≡ under ancestors)
        × (take (descendants_in (copy_of (lists_in book) lengths_of)) (copy_of (lists_in book) second_after) ≡ under descendants)
    words_copied =
        rw (lists_copied.0, lists_copied.1, lists_copied.2)
        (written_begins (under ancestors) first, written_begins (under descendants) second)

    -- What a caller knows who was told `lists`, the number of lists, and was answered `l`.
    module _ (lists : ℕ) (own : lists ≡ lists_in book) (l : Lengths) (e : Ok l ≡ copy_of lists lengths_of) where
      own_lengths : l ≡ lengths (length (under ancestors)) (length (under descendants))
      own_lengths =
          IfOk-at_ok (λ x. x ≡ lengths (length (under ancestors)) (length (under descendants)))
          (sym (rw own at e)) (rw lists_copied.0 refl)

      pub copies_fit : (l.ancestors ≤ NODE_WORDS * MOST_NODES) × (l.descendants ≤ NODE_WORDS * MOST_NODES)
      copies_fit = rw own_lengths few_of_both

      -- And the words copied are those that the caller takes.
      pub copies_taken : (f s : List ℕ) → f ≡ copy_of lists first_after → s ≡ copy_of lists second_after
          → (n m : ℕ) → n ≡ l.ancestors → m ≡ l.descendants → (take n f ≡ under ancestors) × (take m s ≡ under descendants)
      copies_taken f s x y n m u v = rw (u, v, x, y, ap ancestors_in e, ap descendants_in e, own) words_copied

-- If one of the tags isn't there, no word is copied, and the answer is ABSENT, which names no list
-- and no node.
module _ (book : List ℕ) (lists ancestors descendants : ℕ) (none : thereb book lists ancestors descendants ≡ false)
    (first second : List ℕ) where
  pub none_copied : (lengths_of book lists ancestors descendants first second ≡ refused Absent)
      × (first_after book lists ancestors descendants first second ≡ first)
      × (second_after book lists ancestors descendants first second ≡ second)
  unfolding lengths_of first_after second_after copy_answer
  none_copied = rw none (refl, refl, refl)

-- The number of a refusal, and TAKEN where both lists are copied, is the answer.
module _ (book : List ℕ) (lists ancestors descendants : ℕ) (first second : List ℕ) where
  pub copy_answered : answer_in (lengths_of book lists ancestors descendants first second) ≡ copy_answer book lists ancestors descendants first second
  unfolding lengths_of copy_answer
  copy_answered =
      elim (either (thereb book lists ancestors descendants)) [
        | inl h ↦ elim (either (fitb book lists ancestors descendants first second)) [ inl f ↦ rw (h, f) refl | inr f ↦ rw (h, f) refl ]
        | inr h ↦ rw h refl
      ]
