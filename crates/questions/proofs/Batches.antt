-- Why it holds: A question that is accepted answers as a single call does on the lists under its
-- tags. One that is refused hands out nothing and keeps its ticket. So calls that are followed for
-- one question are single calls, and what is proved of those holds here.
-- What would break it: A pair of another question taken for this one's, or a ticket that a refusal
-- moved, would be caught here.
use mathlib.Core.Path.{◌≡◌, refl, sym, ap, subst, ◌∙◌}
use mathlib.Core.Logic.{inl, inr}
use mathlib.Core.Bool.{Bool, true, false, cond}
use mathlib.Core.List.{List, [], ◌∷◌, ◌++◌, map, append_assoc, map-append}
use Prim.Native.Nat.{ℕ, suc, ◌+◌, ◌≤◌, ◌<◌}
use native.Mathlib.Omega.{arith}
use lib.Dec.{leb, eqb}
use lib.ListN.{length, get_or, take, drop, length-append}
use lib.Seq.{take_at, drop_at, get_or_at}
use borrow.Author.Tests.{eqb-true, eqb-false, leb-true, leb-false, eq-eqb, ne_eqb, le-leb, lt-leb}
use Rattle.answers.specs.Answer.{TAKEN, LONG}
use Rattle.answers.specs.Output.{words_in, written}
use Rattle.answers.specs.declared.verdict.Verdict.{Verdict}
use Rattle.answers.specs.Verdict.{ANCESTORS, verdict, refusedb}
use Rattle.laws.specs.Choose.{All, EveryTwo, In, keep}
use Rattle.laws.proofs.Choices.{all_both, all_mapped, keep_all_of, keep_append, keep_past}
use Rattle.laws.proofs.Tests.{either}
use Rattle.nodes.specs.Words.{nodes}
use Rattle.tickets.specs.Listing.{Pair, askedb}
use Rattle.tickets.specs.PairWords.{pair_words, pairs_in, room}
use Rattle.tickets.specs.Ticket.{fresh_ticket, Asked, asked_by}
use Rattle.pairs.specs.Calls.{Call, AcceptedCall, StandsIn, SameStarts, answer, shown, ticket_through, shown_through}
use Rattle.pairs.proofs.Following.{none_lost, none_twice, own_lists, fills_room}
use Rattle.pairs.proofs.Shown.{pairs_first, shown_is}
use Rattle.ticket_words.specs.declared.page.PageWords.{PageWords}
use Rattle.ticket_words.specs.declared.words.TicketWords.{TicketWords}
use Rattle.ticket_words.specs.Following.{answer_to_c, words_through, read_through}
use Rattle.ticket_words.specs.Page.{shown_page}
use Rattle.ticket_words.specs.Words.{place_of, ticket_of}
use Rattle.ticket_words.proofs.Followed.{same_ticket, same_pairs}
use Rattle.questions.specs.declared.question.Question.{Question}
use Rattle.questions.specs.Ask.{refused_page, find_lists, pages_to, no_page, padded}
use Rattle.questions.specs.Demanded.{verdict_on, count_in, single_page, single_pairs, single_pages, pairs_in_turn}
use Rattle.questions.specs.Following.{Batch, questions_with, words_with, answer_with, output_with, page_in, shown_in, verdict_in, AcceptedIn, call_in, ticket_after_batches, shown_in_batches}
use Rattle.questions.specs.Question.{MOST_QUESTIONS, question, ticket_words, question_count, question_at}
use Rattle.questions.proofs.Answered.{ask_long_iff, refused_page_at, words_taken_lem, words_pages, words_output}
use Rattle.questions.proofs.Padding.{padded_there, padded_first}
use Rattle.questions.proofs.QuestionLaws.{questions_back, length_question_words}
use Rattle.questions.proofs.Refusals.{accepted_question, lists_found, page_verdict, page_refused}
use Rattle.questions.proofs.Singles.{count_single, counted_in_turn, length_singles, pages_single, singles_append, turn_append}

-- The middle of three lists in a row, found by the lengths of the first and of itself.
middle : {A : Type 0} (xs ys zs rest : List A) (from count : ℕ) → length xs ≡ from → length ys ≡ count
    → take count (drop from (xs ++ (ys ++ zs) ++ rest)) ≡ ys
middle xs ys zs rest from count f c =
    ap (λ ws. take count (drop from ws)) (append_assoc xs (ys ++ zs) rest)
    ∙ ap (take count) (drop_at xs (ys ++ zs ++ rest) from f ∙ append_assoc ys zs rest)
    ∙ take_at ys (zs ++ rest) count c

-- One call, in which the question that is followed has the ticket w.
module _ (w : TicketWords) (b : Batch) where
  abbrev followed : Question
  followed = question b.ancestors b.descendants w

  abbrev many : ℕ
  many = length b.before + suc (length b.after)

  abbrev own : Verdict
  own = verdict_on b.book b.ancestors b.descendants

  -- How many pairs the questions before it hand out.
  abbrev passed : ℕ
  passed = count_in (pages_to b.book b.before b.out)

  asked_many : length (questions_with w b) ≡ many
  asked_many = length-append b.before (followed ∷ b.after)

  -- It has at most 32 questions, and is taken as a whole.
  module _ (few : many ≤ MOST_QUESTIONS) where
    few_asked : length (questions_with w b) ≤ MOST_QUESTIONS
    few_asked = omega (arith, asked_many)

    taken_whole : (answer_with w b).answer ≡ TAKEN
    taken_whole = words_taken_lem b.book (questions_with w b) b.out few_asked

    -- The pages of the questions before it, its own, and those of the questions after it.
    abbrev earlier : List PageWords
    earlier = single_pages b.book b.out 0 b.before

    abbrev mine : PageWords
    mine = single_page b.book b.out passed followed

    abbrev later : List PageWords
    later = single_pages b.book b.out (passed + mine.count) b.after

    counted_earlier : count_in earlier ≡ passed
    counted_earlier = ap count_in (sym (pages_single b.book b.out 0 b.before))

    after_earlier : 0 + count_in earlier ≡ passed
    after_earlier = omega (arith, counted_earlier)

    pages_split : single_pages b.book b.out 0 (questions_with w b) ≡ earlier ++ mine ∷ later
    unfolding single_pages
    pages_split =
        singles_append b.book b.out 0 b.before (followed ∷ b.after)
        ∙ ap (λ k. earlier ++ single_pages b.book b.out k (followed ∷ b.after)) after_earlier

    pages_are : (answer_with w b).pages ≡ padded (earlier ++ mine ∷ later)
    pages_are = words_pages b.book (questions_with w b) b.out few_asked ∙ ap padded pages_split

    -- So its page is that of a single call after the pairs of the questions before it,
    page_in_lem : page_in w b ≡ mine
    unfolding page_in
    page_in_lem =
        let i = length b.before in
        let l = length_singles b.book b.out 0 b.before in
        let there : i < length (earlier ++ mine ∷ later) = omega (arith, length-append earlier (mine ∷ later)) in
        rw (eq-eqb (answer_with w b).answer TAKEN taken_whole)
        (ap (λ ps. get_or ps i no_page) pages_are
        ∙ padded_there (earlier ++ mine ∷ later) i (omega arith) there no_page
        ∙ get_or_at earlier mine later no_page i l)

    pairs_split : pairs_in_turn b.book b.out 0 (questions_with w b)
        ≡ pairs_in_turn b.book b.out 0 b.before
        ++ (single_pairs b.book b.out passed followed ++ pairs_in_turn b.book b.out (passed + mine.count) b.after)
    unfolding pairs_in_turn
    pairs_split =
        turn_append b.book b.out 0 b.before (followed ∷ b.after)
        ∙ ap (λ k. pairs_in_turn b.book b.out 0 b.before ++ pairs_in_turn b.book b.out k (followed ∷ b.after)) after_earlier

    counted_before : count_in (take (length b.before) (answer_with w b).pages) ≡ passed
    counted_before =
        let l = length_singles b.book b.out 0 b.before in
        let few_pages : length (earlier ++ mine ∷ later) ≤ MOST_QUESTIONS =
        omega (arith, length-append earlier (mine ∷ later), length_singles b.book b.out (passed + mine.count) b.after) in
        ap (λ ps. count_in (take (length b.before) ps)) pages_are
        ∙ ap count_in (padded_first earlier (mine ∷ later) few_pages (length b.before) l)
        ∙ counted_earlier

    -- and the pairs found for it are those that this call hands out.
    shown_in_lem : shown_in w b ≡ single_pairs b.book b.out passed followed
    unfolding shown_in written
    shown_in_lem =
        let xs = pairs_in_turn b.book b.out 0 b.before in
        let ys = single_pairs b.book b.out passed followed in
        let zs = pairs_in_turn b.book b.out (passed + mine.count) b.after in
        let ps = pairs_in_turn b.book b.out 0 (questions_with w b) in
        let rest = pairs_in (nodes (drop (length (words_in pair_words ps)) b.out)) in
        let written-pairs : pairs_in (nodes (output_with w b)) ≡ xs ++ (ys ++ zs) ++ rest =
        ap (λ ws. pairs_in (nodes ws)) (words_output b.book (questions_with w b) b.out few_asked)
        ∙ pairs_first ps (drop (length (words_in pair_words ps)) b.out)
        ∙ ap (λ qs. qs ++ rest) pairs_split in
        (λ i. take (page_in_lem i).count (drop (counted_before i) (written-pairs i)))
        ∙ middle xs ys zs rest passed mine.count (counted_in_turn b.book b.out 0 b.before ∙ counted_earlier)
        (sym (count_single b.book b.out passed followed))

  -- It has more questions than 32, and is refused as a whole.
  module _ (long : MOST_QUESTIONS < many) where
    long_whole : (answer_with w b).answer ≡ LONG
    long_whole =
        let l = length_question_words (questions_with w b) in
        let m = asked_many in
        (ask_long_iff b.book (words_with w b) b.out).1 (omega arith, omega arith)

    refused_whole : (answer_with w b).answer ≡ TAKEN → ⊥
    refused_whole t = let l = long_whole in omega arith

    page_long : page_in w b ≡ refused_page (verdict (answer_with w b).answer ANCESTORS 0) w
    unfolding page_in
    page_long = rw (ne_eqb (answer_with w b).answer TAKEN refused_whole) refl

    verdict_long : verdict_in b ≡ verdict LONG ANCESTORS 0
    unfolding verdict_in
    verdict_long = rw (lt-leb many MOST_QUESTIONS long) refl

  verdict_few : many ≤ MOST_QUESTIONS → verdict_in b ≡ own
  unfolding verdict_in
  verdict_few few = rw (le-leb many MOST_QUESTIONS few) refl

  -- Its verdict and its page, whatever its ticket.
  pub verdict_in_lem : (page_in w b).verdict ≡ verdict_in b
  verdict_in_lem =
      elim (either (leb many MOST_QUESTIONS)) [
        | inl h ↦ let few = leb-true many MOST_QUESTIONS h in
            ap (λ p. p.verdict) (page_in_lem few) ∙ page_verdict b.book b.out passed followed ∙ sym (verdict_few few)
        | inr h ↦ let long = leb-false many MOST_QUESTIONS h in
            ap (λ p. p.verdict) (page_long long) ∙ ap (λ a. verdict a ANCESTORS 0) (long_whole long) ∙ sym (verdict_long long)
      ]

  pub page_at_index : length b.before < MOST_QUESTIONS → get_or (answer_with w b).pages (length b.before) no_page ≡ page_in w b
  unfolding page_in question_at
  page_at_index most =
      elim (either (leb many MOST_QUESTIONS)) [
        | inl h ↦ rw (eq-eqb (answer_with w b).answer TAKEN (taken_whole (leb-true many MOST_QUESTIONS h))) refl
        | inr h ↦ let long = leb-false many MOST_QUESTIONS h in
            let i = length b.before in
            let there : i < question_count (words_with w b) = omega (arith, length_question_words (questions_with w b), asked_many) in
            refused_page_at b.book (words_with w b) b.out (refused_whole long) i there most
            ∙ ap (λ qs. refused_page (verdict (answer_with w b).answer ANCESTORS 0) (get_or qs i (question 0 0 (ticket_words 0 0 0 0 0 0))).ticket)
            (questions_back (questions_with w b))
            ∙ ap (λ q. refused_page (verdict (answer_with w b).answer ANCESTORS 0) q.ticket)
            (get_or_at b.before followed b.after (question 0 0 (ticket_words 0 0 0 0 0 0)) i refl)
            ∙ sym (page_long long)
      ]

  -- Where it is refused, it hands out nothing and returns its ticket.
  module _ (refused : AcceptedIn b → ⊥) where
    pub refused_in : page_in w b ≡ refused_page (verdict_in b) w
    refused_in =
        elim (either (leb many MOST_QUESTIONS)) [
          | inl h ↦ let few = leb-true many MOST_QUESTIONS h in
              page_in_lem few
              ∙ page_refused b.book b.out passed followed (λ t. refused (ap (λ v. v.answer) (verdict_few few) ∙ t))
              ∙ ap (λ v. refused_page v w) (sym (verdict_few few))
          | inr h ↦ let long = leb-false many MOST_QUESTIONS h in
              page_long long ∙ ap (λ a. refused_page (verdict a ANCESTORS 0) w) (long_whole long) ∙ ap (λ v. refused_page v w) (sym (verdict_long long))
        ]

    pub none_in : shown_in w b ≡ []
    unfolding shown_in
    none_in = ap (λ p. take p.count (drop (count_in (take (length b.before) (answer_with w b).pages)) (pairs_in (nodes (output_with w b))))) refused_in

  -- Where it is accepted, it is a single call.
  module _ (accepted : AcceptedIn b) where
    own_accepted : (many ≤ MOST_QUESTIONS) × (own.answer ≡ TAKEN)
    own_accepted =
        elim (either (leb many MOST_QUESTIONS)) [
          | inl h ↦ let few = leb-true many MOST_QUESTIONS h in (few, sym (ap (λ v. v.answer) (verdict_few few)) ∙ accepted)
          | inr h ↦ let e : LONG ≡ TAKEN = sym (ap (λ v. v.answer) (verdict_long (leb-false many MOST_QUESTIONS h))) ∙ accepted in absurd (omega arith)
        ]

    call_accepted : AcceptedCall (call_in b)
    call_accepted = (accepted_question b.book b.ancestors b.descendants own_accepted.1).2

    found : refusedb (find_lists b.book b.ancestors b.descendants) ≡ false
    found = lists_found b.book b.ancestors b.descendants own_accepted.1

    page_accepted : page_in w b ≡ answer_to_c w (call_in b)
    unfolding single_page
    page_accepted = page_in_lem own_accepted.0 ∙ rw found refl

    shown_accepted : shown_in w b ≡ shown (ticket_of w) (call_in b)
    unfolding single_pairs
    shown_accepted = shown_in_lem own_accepted.0 ∙ rw found (sym (shown_is (ticket_of w) (call_in b)))

-- Whether the question is accepted, and the single calls that several calls amount to for it. Those
-- that refuse it are passed over.
abbrev acceptedb : Batch → Bool
acceptedb b = eqb (verdict_in b).answer TAKEN

abbrev calls : List Batch → List Call
calls bs = map call_in (keep acceptedb bs)

-- The ticket moves as it does through those calls,
followed_ticket : (w : TicketWords) (bs : List Batch) → ticket_after_batches w bs ≡ words_through w (calls bs)
unfolding ticket_after_batches words_through keep
followed_ticket w [] = refl
followed_ticket w (b ∷ bs) =
    elim (either (acceptedb b)) [
      | inl h ↦ rw h (ap (λ p. ticket_after_batches p.ticket bs) (page_accepted w b (eqb-true (verdict_in b).answer TAKEN h))
          ∙ followed_ticket (answer_to_c w (call_in b)).ticket bs)
      | inr h ↦ rw h (ap (λ p. ticket_after_batches p.ticket bs) (refused_in w b (eqb-false (verdict_in b).answer TAKEN h)) ∙ followed_ticket w bs)
    ]

-- and the pairs are those that these calls show.
followed_pairs : (w : TicketWords) (bs : List Batch) → shown_in_batches w bs ≡ read_through w (calls bs)
unfolding shown_in_batches read_through keep shown_page
followed_pairs w [] = refl
followed_pairs w (b ∷ bs) =
    elim (either (acceptedb b)) [
      | inl h ↦ let a = eqb-true (verdict_in b).answer TAKEN h in
          rw h ((λ i. shown_accepted w b a i ++ shown_in_batches (page_accepted w b a i).ticket bs)
          ∙ ap (λ ps. shown (ticket_of w) (call_in b) ++ ps) (followed_pairs (answer_to_c w (call_in b)).ticket bs))
      | inr h ↦ let r = eqb-false (verdict_in b).answer TAKEN h in
          rw h ((λ i. none_in w b r i ++ shown_in_batches (refused_in w b r i).ticket bs) ∙ followed_pairs w bs)
    ]

is_done : (d : Bool) → ◌≡◌ {A = ℕ} (cond d 1 0) 1 → d ≡ true
is_done true h = refl
is_done false h = absurd (omega arith)

not_done_lem : (d : Bool) → ◌≡◌ {A = ℕ} (cond d 1 0) 0 → d ≡ false
not_done_lem true h = absurd (omega arith)
not_done_lem false h = refl

-- From words that stand for a fresh ticket on:
module _ (w : TicketWords) (fresh : w.placed ≡ 0) where
  abbrev wanted : Asked
  wanted = asked_by (ticket_of w)

  starts : ticket_of w ≡ fresh_ticket wanted
  unfolding ticket_of place_of
  starts = rw (eq-eqb w.placed 0 fresh) refl

  followed_shown : (bs : List Batch) → shown_in_batches w bs ≡ shown_through (fresh_ticket wanted) (calls bs)
  followed_shown bs = followed_pairs w bs ∙ same_pairs w (calls bs) ∙ ap (λ t. shown_through t (calls bs)) starts

  followed_answer : (bs : List Batch) (b : Batch) (accepted : AcceptedIn b)
      → page_in (ticket_after_batches w bs) b ≡ shown_page (ticket_after_batches w bs) (answer (ticket_through (fresh_ticket wanted) (calls bs)) (call_in b))
  followed_answer bs b accepted =
      page_accepted (ticket_after_batches w bs) b accepted
      ∙ ap (λ t. shown_page (ticket_after_batches w bs) (answer t (call_in b)))
      (ap ticket_of (followed_ticket w bs) ∙ same_ticket w (calls bs) ∙ ap (λ t. ticket_through t (calls bs)) starts)

  one_more : (bs : List Batch) (b : Batch) → AcceptedIn b → calls (bs ++ b ∷ []) ≡ calls bs ++ call_in b ∷ []
  unfolding keep
  one_more bs b accepted =
      let kept : keep acceptedb (b ∷ []) ≡ b ∷ [] = rw (eq-eqb (verdict_in b).answer TAKEN accepted) refl in
      ap (map call_in) (keep_append acceptedb bs (b ∷ []) ∙ ap (λ ks. keep acceptedb bs ++ ks) kept)
      ∙ map-append call_in (keep acceptedb bs) (b ∷ [])

  -- Each related pair that stood in the lists whenever the question was accepted, up to a call that
  -- says done, has been handed out.
  pub none_lost_in : (bs : List Batch) (b : Batch) → AcceptedIn b → (page_in (ticket_after_batches w bs) b).done ≡ 1
      → (p : Pair) → askedb wanted p ≡ true → All (λ k. AcceptedIn k → StandsIn p (call_in k)) bs → StandsIn p (call_in b)
      → In p (shown_in_batches w (bs ++ b ∷ []))
  unfolding shown_page
  none_lost_in bs b accepted done p related stood stands =
      let ended = is_done _ (sym (ap (λ r. r.done) (followed_answer bs b accepted)) ∙ done) in
      let through : All (λ c. AcceptedCall c → StandsIn p c) (calls bs) =
      all_mapped call_in (λ c. AcceptedCall c → StandsIn p c) (keep acceptedb bs)
      (all_both (λ k s a t. s (eqb-true (verdict_in k).answer TAKEN a)) (keep acceptedb bs)
      (keep_all_of (λ k. AcceptedIn k → StandsIn p (call_in k)) acceptedb bs stood) (keep_past acceptedb bs)) in
      subst (In p) (sym (followed_shown (bs ++ b ∷ []) ∙ ap (shown_through (fresh_ticket wanted)) (one_more bs b accepted)))
      (none_lost wanted (calls bs) (call_in b) (call_accepted w b accepted) ended p related through stands)

  -- No two pairs with the same starts are handed out.
  pub none_twice_in : (bs : List Batch) → EveryTwo (λ p q. SameStarts p q → ⊥) (shown_in_batches w bs)
  none_twice_in bs = subst (EveryTwo (λ p q. SameStarts p q → ⊥)) (sym (followed_shown bs)) (none_twice wanted (calls bs))

module _ (w : TicketWords) (b : Batch) where
  -- The pairs are of the question's own lists.
  pub own_lists_in : All (λ p. StandsIn p (call_in b) × (askedb (asked_by (ticket_of w)) p ≡ true)) (shown_in w b)
  own_lists_in =
      let Own : List Pair → Type 0 = All (λ p. StandsIn p (call_in b) × (askedb (asked_by (ticket_of w)) p ≡ true)) in
      elim (either (acceptedb b)) [
        | inl h ↦ subst Own (sym (shown_accepted w b (eqb-true (verdict_in b).answer TAKEN h))) (own_lists (ticket_of w) (call_in b))
        | inr h ↦ subst Own (sym (none_in w b (eqb-false (verdict_in b).answer TAKEN h))) tt
      ]

  -- An accepted question that isn't done fills its room.
  pub fills_room_in : AcceptedIn b → (page_in w b).done ≡ 0 → (page_in w b).count ≡ room (call_in b).out
  unfolding shown_page
  fills_room_in accepted done =
      let e = page_accepted w b accepted in
      ap (λ p. p.count) e
      ∙ fills_room (ticket_of w) (call_in b) (call_accepted w b accepted) (not_done_lem _ (sym (ap (λ p. p.done) e) ∙ done))
