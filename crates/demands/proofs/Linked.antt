-- The demands on links that a caller lends (docs/SCOPE.md, "Links that are lent"). Each clause is a
-- comment in words and, below it, the theorem that says it. `check_links` is what the contract of
-- `check_links` promises, and `linked_page` and `linked_output` are what that of `linked_page`
-- does. `links_in` has the links that `link_list` writes. A definition by which links changed a
-- page, or other words were taken for them, would be caught here. Code that passed over a zone in
-- spite of a sample would be caught in `pairs`, at `jumping_page`.
use mathlib.Core.Path.{◌≡◌, sym, ◌∙◌}
use mathlib.Core.Logic.{◌↔◌, ◌⊎◌}
use mathlib.Core.Bool.{true, false}
use mathlib.Core.List.{List, [], ◌∷◌, ◌++◌}
use Prim.Native.Nat.{ℕ, ◌*◌}
use lib.ListN.{length, take, drop}
use Rattle.answers.specs.Answer.{TAKEN, LINKS}
use Rattle.answers.specs.Verdict.{ANCESTORS, verdict}
use Rattle.laws.specs.Choose.{All, EveryTwo, In}
use Rattle.nodes.specs.Words.{nodes, count}
use Rattle.lists.specs.Check.{check_words}
use Rattle.lists.specs.Refusal.{Faulty, AtOdds}
use Rattle.lists.specs.Two.{check_two}
use Rattle.forest.specs.Linked.{links_in, linked_of, links_output}
use Rattle.forest.specs.Links.{LINK_WORDS}
use Rattle.tickets.specs.declared.ticket.Ticket.{Ticket}
use Rattle.tickets.specs.Listing.{Pair, askedb}
use Rattle.tickets.specs.PairWords.{PAIR_WORDS, room}
use Rattle.tickets.specs.Ticket.{fresh_ticket, Asked, asked_by}
use Rattle.pairs.specs.Calls.{StandsIn, SameStarts}
use Rattle.pairs.specs.Page.{page_of, output_after}
use Rattle.ticket_words.specs.declared.words.TicketWords.{TicketWords}
use Rattle.ticket_words.specs.Page.{shown_page}
use Rattle.ticket_words.specs.Words.{ticket_of}
use Rattle.linked.specs.Check.{check_links}
use Rattle.linked.specs.Following.{LentCall, AcceptedLent, answer_lent, output_lent, shown_lent, ticket_through_lent, shown_through_lent}
use Rattle.linked.specs.Following.{answer_lent_to_c, words_through_lent, read_through_lent}
use Rattle.linked.specs.Page.{unlinked_page, linked_page, linked_output}
use Rattle.linked.proofs.Answered.{links_own, links_taken_iff, links_refused_iff, links_other, linked_accepted, links_written}
use Rattle.linked.proofs.FromC.{same_ticket_from_c, same_pairs_from_c, same_answer_from_c, refusal_keeps_words_lent}
use Rattle.linked.proofs.InWords.{another_length}
use Rattle.linked.proofs.Mixed.{taken_lent_iff, refusal_lent, count_lent, beyond_lent, own_lists_lent, fills_room_lent, none_lost_lent, none_twice_lent}
use Rattle.linked.proofs.Refusing.{plain_with_links, plain_if_refused, refused_with_links, linked_refused_iff}

-- The check of a list's links:
module _ (list links : List ℕ) where
  -- A list that is refused draws its own answer, whatever the words are.
  pub list_answers_first : ((check_words list).answer ≡ TAKEN → ⊥) → check_links list links ≡ check_words list
  list_answers_first = links_own list links

  -- The check takes the words exactly when the list is accepted and they are its links.
  pub links_taken_exactly_when : ((check_links list links).answer ≡ TAKEN) ↔ (((check_words list).answer ≡ TAKEN) × (links ≡ links_in list))
  links_taken_exactly_when = links_taken_iff list links

  -- It answers LINKS exactly when the list is accepted and they aren't.
  pub links_refused_exactly_when : ((check_links list links).answer ≡ LINKS) ↔ (((check_words list).answer ≡ TAKEN) × (links ≡ links_in list → ⊥))
  links_refused_exactly_when = links_refused_iff list links

  -- LINKS names list 0 and index 0;
  pub links_names_no_node : (check_words list).answer ≡ TAKEN → (links ≡ links_in list → ⊥) → check_links list links ≡ verdict LINKS ANCESTORS 0
  links_names_no_node = links_other list links

  -- and more or fewer than three words for each node draw it too.
  pub another_length_draws_links : (check_words list).answer ≡ TAKEN → (length links ≡ LINK_WORDS * count list → ⊥)
      → check_links list links ≡ verdict LINKS ANCESTORS 0
  another_length_draws_links accepted other = links_other list links accepted (another_length list links other)

  -- The check takes exactly what `link_list` writes, into any output that has room for it.
  pub check_takes_what_linking_writes : (out : List ℕ) → (linked_of list out).verdict.answer ≡ TAKEN
      → ((check_links list links).answer ≡ TAKEN) ↔ (links ≡ take (LINK_WORDS * (linked_of list out).count) (links_output list out))
  check_takes_what_linking_writes out room =
      let w = links_written list out room in
      let i = links_taken_iff list links in
      (λ h. (i.0 h).1 ∙ sym w, λ e. i.1 (linked_accepted list out room, e ∙ w))

-- A page call that is lent links, with any ticket and any output:
module _ (ancestors descendants links : List ℕ) (t : Ticket) (out : List ℕ) where
  -- Lent the links of the ancestors, it answers and writes as the plain call, for both relations
  -- and both orders.
  pub linked_page_is_the_plain_page : links ≡ links_in ancestors
      → (linked_page ancestors descendants links t out ≡ page_of ancestors descendants t out)
      × (linked_output ancestors descendants links t out ≡ output_after ancestors descendants t out)
  linked_page_is_the_plain_page = plain_with_links ancestors descendants links t out

  -- If the two lists are refused, JOINT included, it is refused as the plain call is, whatever the
  -- words are.
  pub lists_answer_first : ((check_two ancestors descendants).answer ≡ TAKEN → ⊥)
      → (linked_page ancestors descendants links t out ≡ page_of ancestors descendants t out)
      × (linked_output ancestors descendants links t out ≡ output_after ancestors descendants t out)
  lists_answer_first = plain_if_refused ancestors descendants links t out

  -- If they are accepted and the words aren't the ancestors' links, it is refused with LINKS. It
  -- hands out nothing, returns its ticket and alters no word.
  pub other_words_refuse_the_page : (check_two ancestors descendants).answer ≡ TAKEN → (links ≡ links_in ancestors → ⊥)
      → (linked_page ancestors descendants links t out ≡ unlinked_page t) × (linked_output ancestors descendants links t out ≡ out)
  other_words_refuse_the_page = refused_with_links ancestors descendants links t out

  -- So it is refused exactly when a list has a fault, two nodes, one of each list, are at odds, or
  -- the words aren't the ancestors' links.
  pub linked_refused_exactly_when : ((linked_page ancestors descendants links t out).verdict.answer ≡ TAKEN → ⊥)
      ↔ (Faulty ancestors ⊎ (Faulty descendants ⊎ (AtOdds (nodes ancestors) (nodes descendants) ⊎ (links ≡ links_in ancestors → ⊥))))
  linked_refused_exactly_when = linked_refused_iff ancestors descendants links t out

-- One call k, plain or lent links, with any ticket t:
module _ (t : Ticket) (k : LentCall) where
  -- Its answer is TAKEN exactly when it is accepted.
  pub taken_exactly_when_accepted : ((answer_lent t k).verdict.answer ≡ TAKEN) ↔ AcceptedLent k
  taken_exactly_when_accepted = taken_lent_iff t k

  -- A refused call hands out nothing, isn't done, returns its ticket and alters no word.
  pub refused_with_or_without_links_alters_nothing : (AcceptedLent k → ⊥)
      → ((answer_lent t k).count ≡ 0) × ((answer_lent t k).done ≡ false) × ((answer_lent t k).ticket ≡ t) × (output_lent t k ≡ k.call.out)
  refused_with_or_without_links_alters_nothing = refusal_lent t k

  -- Refused or not, no word after the pairs that it counts is altered, the length stays, and the
  -- count is the number of pairs that its output shows.
  pub beyond-is-unaltered-with-or-without-links :
      (drop (PAIR_WORDS * (answer_lent t k).count) (output_lent t k) ≡ drop (PAIR_WORDS * (answer_lent t k).count) k.call.out)
      × (length (output_lent t k) ≡ length k.call.out) × ((answer_lent t k).count ≡ length (shown_lent t k))
  beyond-is-unaltered-with-or-without-links = let b = beyond_lent t k in (b.0, b.1, count_lent t k)

  -- It hands out pairs of its own lists alone, and only those asked for.
  pub own_pairs_with_or_without_links : All (λ p. StandsIn p k.call × (askedb (asked_by t) p ≡ true)) (shown_lent t k)
  own_pairs_with_or_without_links = own_lists_lent t k

  -- If it is accepted and isn't done, it has filled its room.
  pub full_unless_done_with_or_without_links : AcceptedLent k → (answer_lent t k).done ≡ false → (answer_lent t k).count ≡ room k.call.out
  full_unless_done_with_or_without_links = fills_room_lent t k

-- Demand 3 for a listing whose calls are sometimes lent links and sometimes not. It is followed
-- from a fresh ticket through any calls ks and then k. Each takes the ticket that the last one
-- returned, and lists and links are edited at will in between.
module _ (ask : Asked) where
  -- When k is accepted and done, each related pair that stood unaltered in the lists of every
  -- accepted call has been handed out.
  pub no_pair_lost_with_or_without_links : (ks : List LentCall) (k : LentCall) → AcceptedLent k
      → (answer_lent (ticket_through_lent (fresh_ticket ask) ks) k).done ≡ true
      → (p : Pair) → askedb ask p ≡ true → All (λ j. AcceptedLent j → StandsIn p j.call) ks → StandsIn p k.call
      → In p (shown_through_lent (fresh_ticket ask) (ks ++ k ∷ []))
  no_pair_lost_with_or_without_links = none_lost_lent ask

  -- No pair is handed out twice, nor are two with the same document and the same two starts.
  pub no_pair_twice_with_or_without_links : (ks : List LentCall) → EveryTwo (λ p q. SameStarts p q → ⊥) (shown_through_lent (fresh_ticket ask) ks)
  no_pair_twice_with_or_without_links = none_twice_lent ask

-- The C interface. Such a listing followed from C, from any six words and through any calls,
module _ (w : TicketWords) (ks : List LentCall) where
  -- ends with words that stand for the ticket with which the library's own following ends,
  pub c_keeps_the_ticket_with_or_without_links : ticket_of (words_through_lent w ks) ≡ ticket_through_lent (ticket_of w) ks
  c_keeps_the_ticket_with_or_without_links = same_ticket_from_c w ks

  -- reads the pairs that the library's own following shows,
  pub c_reads_the_same_pairs_with_or_without_links : read_through_lent w ks ≡ shown_through_lent (ticket_of w) ks
  c_reads_the_same_pairs_with_or_without_links = same_pairs_from_c w ks

  -- and is answered as the library's next call answers.
  pub c_is_answered_alike_with_or_without_links : (k : LentCall)
      → answer_lent_to_c (words_through_lent w ks) k ≡ shown_page (words_through_lent w ks) (answer_lent (ticket_through_lent (ticket_of w) ks) k)
  c_is_answered_alike_with_or_without_links = same_answer_from_c w ks

-- A refusal returns all six words as they were.
pub c_refusal_keeps_words_with_or_without_links : (w : TicketWords) (k : LentCall) → (AcceptedLent k → ⊥) → (answer_lent_to_c w k).ticket ≡ w
c_refusal_keeps_words_with_or_without_links = refusal_keeps_words_lent
