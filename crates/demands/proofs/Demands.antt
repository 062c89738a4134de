-- The customer's three demands on listings (docs/SCOPE.md). Each clause is a comment in words and,
-- below it, the theorem that says it. The lines after its claim only cite the proof.
-- docs/READING.md says how to read them. A change that lost a sample would be caught here.
-- `answer` and `output` are what the contract of `next_page` promises; `shown` is the pairs that
-- its caller finds in the output.
use mathlib.Core.Path.{◌≡◌, refl}
use mathlib.Core.Logic.{◌↔◌, ◌⊎◌}
use mathlib.Core.Bool.{true, false}
use mathlib.Core.List.{List, [], ◌∷◌, ◌++◌, map}
use Prim.Native.Nat.{◌+◌, ◌*◌, ◌≤◌}
use lib.ListN.{length, drop}
use Rattle.answers.specs.Answer.{TAKEN}
use Rattle.laws.specs.Choose.{All, EveryTwo, In}
use Rattle.nodes.specs.Words.{nodes}
use Rattle.lists.specs.Refusal.{Faulty, AtOdds}
use Rattle.lists.specs.Two.{check_two}
use Rattle.lists.proofs.Refused.{refused_iff}
use Rattle.paging.specs.Calls.{total}
use Rattle.paging.specs.Key.{aboveb}
use Rattle.tickets.specs.declared.ticket.Ticket.{Ticket}
use Rattle.tickets.specs.Listing.{Pair, sort_key, askedb}
use Rattle.tickets.specs.PairWords.{PAIR_WORDS, room}
use Rattle.tickets.specs.Ticket.{fresh_ticket, Asked, asked_by}
use Rattle.tickets.proofs.Listed.{listed_iff, listing_ascends, listed_once}
use Rattle.pairs.specs.Calls.{Call, AcceptedCall, full_listing, SameLists, StandsIn, SameStarts, answer, output, shown, ticket_through, shown_through}
use Rattle.pairs.specs.Page.{handed_out, page_of}
use Rattle.pairs.proofs.Answered.{lists_ascend, refusal, count_shown, beyond_kept, whole_listing, output_length}
use Rattle.pairs.proofs.Following.{none_lost, none_twice, own_lists, fills_room}
use Rattle.pairs.proofs.Shown.{shown_is}
use Rattle.pairs.proofs.Unaltered.{whole_through, ends_through}

-- Demand 1. A call c takes any two lists, any ticket t and any output. It is refused exactly as the
-- table of answers says, and alters nothing but what it hands out.
module _ (t : Ticket) (c : Call) where
  -- `Refused` is short for: its answer isn't TAKEN.
  abbrev Refused : Type 0
  Refused = (answer t c).verdict.answer ≡ TAKEN → ⊥

  -- The number, the list and the index are what `check_two` says, which follows the table.
  pub answered_as_tabled : (answer t c).verdict ≡ check_two c.ancestors c.descendants
  unfolding page_of
  answered_as_tabled = refl

  -- It is refused exactly when a list has a fault, or two nodes, one of each list, are at odds.
  pub refused_exactly_when : Refused ↔ (Faulty c.ancestors ⊎ (Faulty c.descendants ⊎ AtOdds (nodes c.ancestors) (nodes c.descendants)))
  unfolding page_of
  refused_exactly_when = refused_iff c.ancestors c.descendants

  -- A refused call hands out nothing, isn't done, returns its ticket and alters no word.
  pub refused_alters_nothing : Refused → ((answer t c).count ≡ 0) × ((answer t c).done ≡ false) × ((answer t c).ticket ≡ t) × (output t c ≡ c.out)
  unfolding page_of
  refused_alters_nothing r = refusal t c r

  -- Refused or not, no word after the pairs that it counts is altered, and the length stays.
  pub beyond_is_never_altered : (drop (PAIR_WORDS * (answer t c).count) (output t c) ≡ drop (PAIR_WORDS * (answer t c).count) c.out)
      × (length (output t c) ≡ length c.out)
  beyond_is_never_altered = (beyond_kept t c, output_length t c)

  -- The output shows just the pairs that it hands out, and the count is their number.
  pub shows_what_it_hands_out : (shown t c ≡ handed_out c.ancestors c.descendants t c.out) × ((answer t c).count ≡ length (shown t c))
  shows_what_it_hands_out = (shown_is t c, count_shown t c)

-- Demand 2. Two accepted lists have a full listing: all pairs with the wanted relation, each once,
-- in the wanted order.
module _ (ask : Asked) (c : Call) where
  -- A pair is listed exactly when both its nodes stand in their lists and the relation holds.
  pub listed_exactly_when : (p : Pair) → In p (full_listing ask c)
      ↔ (In p.ancestor (nodes c.ancestors) × In p.descendant (nodes c.descendants) × (askedb ask p ≡ true))
  listed_exactly_when p = listed_iff ask (nodes c.ancestors) (nodes c.descendants) p

  -- No pair is listed twice.
  pub no_pair_listed_twice : AcceptedCall c → EveryTwo (λ p q. p ≡ q → ⊥) (full_listing ask c)
  no_pair_listed_twice a = let l = lists_ascend c a in listed_once ask (nodes c.ancestors) (nodes c.descendants) l.0 l.1

  -- Keys strictly increase from pair to pair.
  pub listed_in_order : AcceptedCall c → EveryTwo (λ p q. aboveb (sort_key ask.order q) (sort_key ask.order p) ≡ true) (full_listing ask c)
  listed_in_order a = let l = lists_ascend c a in listing_ascends ask (nodes c.ancestors) (nodes c.descendants) l.0 l.1

  -- A call with a fresh ticket and enough room hands out exactly the full listing, and is done.
  pub listing_is_handed_out : AcceptedCall c → length (full_listing ask c) ≤ room c.out
      → (shown (fresh_ticket ask) c ≡ full_listing ask c) × ((answer (fresh_ticket ask) c).done ≡ true)
  listing_is_handed_out a l = whole_listing ask c a l

  -- Calls on the same lists, whatever their rooms, have handed out the full listing when the last
  -- of them says done.
  pub pages_are_the_listing : AcceptedCall c → (cs : List Call) → All (λ k. SameLists k c) cs
      → (answer (ticket_through (fresh_ticket ask) cs) c).done ≡ true → shown_through (fresh_ticket ask) (cs ++ c ∷ []) ≡ full_listing ask c
  pages_are_the_listing a cs s d = whole_through ask c a cs s d

  -- The last of them is done as soon as all their rooms together are enough.
  pub pages_come_to_an_end : AcceptedCall c → (cs : List Call) → All (λ k. SameLists k c) cs
      → length (full_listing ask c) ≤ total (map (λ k. room k.out) cs) + room c.out → (answer (ticket_through (fresh_ticket ask) cs) c).done ≡ true
  pages_come_to_an_end a cs s enough = ends_through ask c a cs s enough

-- Demand 3. A listing is followed from a fresh ticket through any calls cs and then c. Each takes
-- the ticket that the last one returned, and the lists are edited at will in between.
module _ (ask : Asked) where
  -- When c is accepted and done, each related pair that stood unaltered in the lists of every
  -- accepted call has been handed out.
  pub no_pair_lost : (cs : List Call) (c : Call) → AcceptedCall c → (answer (ticket_through (fresh_ticket ask) cs) c).done ≡ true
      → (p : Pair) → askedb ask p ≡ true → All (λ k. AcceptedCall k → StandsIn p k) cs → StandsIn p c
      → In p (shown_through (fresh_ticket ask) (cs ++ c ∷ []))
  no_pair_lost cs c a d p r s m = none_lost ask cs c a d p r s m

  -- No pair is handed out twice, nor are two with the same document and the same two starts.
  pub no_pair_handed_out_twice : (cs : List Call) → EveryTwo (λ p q. SameStarts p q → ⊥) (shown_through (fresh_ticket ask) cs)
  no_pair_handed_out_twice cs = none_twice ask cs

module _ (t : Ticket) (c : Call) where
  -- Every call, with any ticket, hands out pairs of its own lists alone, and only those asked for.
  pub pairs_of_its_own_lists : All (λ p. StandsIn p c × (askedb (asked_by t) p ≡ true)) (shown t c)
  pairs_of_its_own_lists = own_lists t c

  -- An accepted call that isn't done has filled its room.
  pub full_unless_done : AcceptedCall c → (answer t c).done ≡ false → (answer t c).count ≡ room c.out
  full_unless_done a d = fills_room t c a d
