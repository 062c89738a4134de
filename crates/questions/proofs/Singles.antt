-- Why it holds: A question writes at the beginning of the output that it is lent, and keeps what is
-- after its pairs. So the next one is lent what a single call with that room would be.
-- What would break it: A question that was lent the wrong part of the output, or that altered a
-- word after its own pairs, would be caught here.
use mathlib.Core.Path.{◌≡◌, refl, sym, ap, ◌∙◌}
use mathlib.Core.Logic.{inl, inr}
use mathlib.Core.List.{List, [], ◌∷◌, ◌++◌, append_assoc, flat_map}
use Prim.Native.Nat.{ℕ, zero, suc, ◌+◌, ◌*◌, ◌≤◌, ◌<◌}
use native.Mathlib.Nat.{not-suc-le-zero}
use native.Mathlib.Omega.{arith}
use lib.ListN.{length, take, drop, get_or, length-append, length-drop}
use lib.Seq.{drop-drop, drop-append_seam}
use Rattle.answers.specs.Output.{words_in, written}
use Rattle.answers.specs.Verdict.{refusedb}
use Rattle.answers.proofs.OutputLaws.{words_append, written_begins, written_beyond}
use Rattle.laws.proofs.Tests.{either}
use Rattle.tickets.specs.Listing.{Pair}
use Rattle.tickets.specs.PairWords.{PAIR_WORDS, pair_words, room}
use Rattle.pairs.specs.Calls.{Call}
use Rattle.pairs.specs.Page.{page_of, output_after}
use Rattle.pairs.proofs.Answered.{given_fits, words_length}
use Rattle.ticket_words.specs.declared.page.PageWords.{PageWords}
use Rattle.ticket_words.specs.Page.{shown_page}
use Rattle.ticket_words.specs.Words.{ticket_of}
use Rattle.questions.specs.declared.question.Question.{Question}
use Rattle.questions.specs.Ask.{list_under, find_lists, page_to_up_to, page_to, output_to_up_to, output_to, words_taken_up_to, words_taken, pages_to_up_to, pages_to, output_after_all_up_to, output_after_all}
use Rattle.questions.specs.Demanded.{count_in, single_page, single_pairs, single_pages, pairs_in_turn}

-- One question, lent what is left of the output after `at` pairs.
module _ (book out : List ℕ) (at : ℕ) (q : Question) where
  abbrev left : List ℕ
  left = drop (PAIR_WORDS * at) out

  abbrev single : PageWords
  single = single_page book out at q

  abbrev given : List Pair
  given = single_pairs book out at q

  -- Its page is that of a single call.
  page_single : page_to book q left ≡ single
  unfolding page_to_up_to single_page
  page_single = refl

  -- It counts the pairs that it hands out,
  pub count_single : single.count ≡ length given
  unfolding single_page single_pairs shown_page page_of
  count_single = elim (either (refusedb (find_lists book q.ancestors q.descendants))) [ inl h ↦ rw h refl | inr h ↦ rw h refl ]

  -- takes the words of these pairs,
  taken_single : words_taken book q left ≡ length (words_in pair_words given)
  unfolding words_taken_up_to
  taken_single = ap (λ p. PAIR_WORDS * p.count) page_single ∙ ap (λ k. PAIR_WORDS * k) count_single ∙ sym (words_length given)

  -- and writes them.
  output_single : output_to book q left ≡ written (words_in pair_words given) left
  unfolding output_to_up_to single_pairs output_after written words_in flat_map
  output_single = elim (either (refusedb (find_lists book q.ancestors q.descendants))) [ inl h ↦ rw h refl | inr h ↦ rw h refl ]

  -- It has room for them,
  fits_single : length given ≤ room left
  unfolding single_pairs
  fits_single =
      let c : Call = record { ancestors = list_under book q.ancestors; descendants = list_under book q.descendants; out = left } in
      elim (either (refusedb (find_lists book q.ancestors q.descendants))) [
        | inl h ↦ rw h (omega arith)
        | inr h ↦ rw h (given_fits (ticket_of q.ticket) c)
      ]

  -- and the next question is lent what is left of the output after them.
  left_single : drop (length (words_in pair_words given)) left ≡ drop (PAIR_WORDS * (at + single.count)) out
  left_single =
      let ws = words_in pair_words given in
      let n : PAIR_WORDS * at + length ws ≡ PAIR_WORDS * (at + single.count) = omega (arith, words_length given, count_single) in
      drop-drop (length ws) (PAIR_WORDS * at) out ∙ ap (λ k. drop k out) n

  rest_single : drop (words_taken book q left) (output_to book q left) ≡ drop (PAIR_WORDS * (at + single.count)) out
  unfolding written
  rest_single =
      let ws = words_in pair_words given in
      ap (λ k. drop k (output_to book q left)) taken_single
      ∙ ap (drop (length ws)) output_single
      ∙ drop-append_seam ws (drop (length ws) left)
      ∙ left_single

  begins_single : take (words_taken book q left) (output_to book q left) ≡ words_in pair_words given
  begins_single =
      let ws = words_in pair_words given in
      ap (λ k. take k (output_to book q left)) taken_single ∙ ap (take (length ws)) output_single ∙ written_begins ws left

module _ (book out : List ℕ) where
  -- The pages are those of single calls.
  pub pages_single : (at : ℕ) (qs : List Question) → pages_to book qs (drop (PAIR_WORDS * at) out) ≡ single_pages book out at qs
  unfolding pages_to_up_to single_pages
  pages_single at [] = refl
  pages_single at (q ∷ qs) =
      (λ i. page_single book out at q i ∷ pages_to book qs (rest_single book out at q i))
      ∙ ap (λ ps. single_page book out at q ∷ ps) (pages_single (at + (single_page book out at q).count) qs)

  -- The output begins with the pairs that these calls hand out, and keeps what is after them.
  pub output_in_turn : (at : ℕ) (qs : List Question)
      → output_after_all book qs (drop (PAIR_WORDS * at) out) ≡ written (words_in pair_words (pairs_in_turn book out at qs)) (drop (PAIR_WORDS * at) out)
  unfolding output_after_all_up_to pairs_in_turn written words_in flat_map
  output_in_turn at [] = refl
  output_in_turn at (q ∷ qs) =
      let next = at + (single_page book out at q).count in
      let ws = words_in pair_words (single_pairs book out at q) in
      let more = words_in pair_words (pairs_in_turn book out next qs) in
      let left = drop (PAIR_WORDS * at) out in
      (λ i. begins_single book out at q i ++ output_after_all book qs (rest_single book out at q i))
      ∙ ap (λ zs. ws ++ zs) (output_in_turn next qs)
      ∙ ap (λ zs. ws ++ written more zs) (sym (left_single book out at q))
      ∙ written_beyond ws more left
      ∙ ap (λ zs. written zs left) (sym (words_append pair_words (single_pairs book out at q) (pairs_in_turn book out next qs)))

  -- There are as many pairs as the pages count.
  pub counted_in_turn : (at : ℕ) (qs : List Question) → length (pairs_in_turn book out at qs) ≡ count_in (single_pages book out at qs)
  unfolding pairs_in_turn count_in single_pages
  counted_in_turn at [] = refl
  counted_in_turn at (q ∷ qs) =
      let next = at + (single_page book out at q).count in
      length-append (single_pairs book out at q) (pairs_in_turn book out next qs)
      ∙ omega (arith, count_single book out at q, counted_in_turn next qs)

  -- And there is room for them.
  pub room_in_turn : (at : ℕ) (qs : List Question) → length (words_in pair_words (pairs_in_turn book out at qs)) ≤ length (drop (PAIR_WORDS * at) out)
  unfolding pairs_in_turn words_in flat_map
  room_in_turn at [] = omega arith
  room_in_turn at (q ∷ qs) =
      let next = at + (single_page book out at q).count in
      let given = single_pairs book out at q in
      let more = pairs_in_turn book out next qs in
      omega (
        arith,
        ap length (words_append pair_words given more),
        length-append (words_in pair_words given) (words_in pair_words more),
        words_length given,
        count_single book out at q,
        fits_single book out at q,
        room_in_turn next qs,
        length-drop (PAIR_WORDS * at) out,
        length-drop (PAIR_WORDS * next) out,
      )

  -- Each question has a page.
  pub length_singles : (at : ℕ) (qs : List Question) → length (single_pages book out at qs) ≡ length qs
  unfolding single_pages
  length_singles at [] = refl
  length_singles at (q ∷ qs) = ap suc (length_singles (at + (single_page book out at q).count) qs)

  -- What holds of the page of a question, wherever it writes, holds of the page at its index.
  pub single_at : (P : PageWords → Type 0) (at : ℕ) (qs : List Question) (i : ℕ) (d : Question) (none : PageWords) → i < length qs
      → ((k : ℕ) → P (single_page book out k (get_or qs i d))) → P (get_or (single_pages book out at qs) i none)
  unfolding single_pages
  single_at P at [] i d none l f = absurd (not-suc-le-zero l)
  single_at P at (q ∷ qs) zero d none l f = f at
  single_at P at (q ∷ qs) (suc i) d none l f = single_at P (at + (single_page book out at q).count) qs i d none (omega arith) f

  -- Questions after others write after the pairs that the pages before count.
  pub singles_append : (at : ℕ) (before after : List Question) → single_pages book out at (before ++ after)
      ≡ single_pages book out at before ++ single_pages book out (at + count_in (single_pages book out at before)) after
  unfolding single_pages count_in
  singles_append at [] after = let e : at + 0 ≡ at = omega arith in ap (λ k. single_pages book out k after) (sym e)
  singles_append at (q ∷ before) after =
      let n = (single_page book out at q).count in
      let m = count_in (single_pages book out (at + n) before) in
      let e : at + n + m ≡ at + (n + m) = omega arith in
      ap (λ ps. single_page book out at q ∷ ps) (singles_append (at + n) before after)
      ∙ ap (λ k. single_page book out at q ∷ single_pages book out (at + n) before ++ single_pages book out k after) e

  pub turn_append : (at : ℕ) (before after : List Question) → pairs_in_turn book out at (before ++ after)
      ≡ pairs_in_turn book out at before ++ pairs_in_turn book out (at + count_in (single_pages book out at before)) after
  unfolding pairs_in_turn single_pages count_in
  turn_append at [] after = let e : at + 0 ≡ at = omega arith in ap (λ k. pairs_in_turn book out k after) (sym e)
  turn_append at (q ∷ before) after =
      let n = (single_page book out at q).count in
      let m = count_in (single_pages book out (at + n) before) in
      let e : at + n + m ≡ at + (n + m) = omega arith in
      ap (λ ps. single_pairs book out at q ++ ps) (turn_append (at + n) before after)
      ∙ ap (λ k. single_pairs book out at q ++ (pairs_in_turn book out (at + n) before ++ pairs_in_turn book out k after)) e
      ∙ sym (append_assoc (single_pairs book out at q) (pairs_in_turn book out (at + n) before) _)
