-- Why it holds: Calls on the same two lists have the same full listing, so paging's pages of one
-- listing are theirs, whatever the room of each. Each call leaves what it did not hand out.
-- What would break it: A listing that is not whole or not in order once a call is done would be
-- caught here. So would a call that isn't done although the rooms suffice.
use mathlib.Core.Path.{◌≡◌, refl, sym, ap, ◌∙◌}
use mathlib.Core.Bool.{true}
use mathlib.Core.List.{List, [], ◌∷◌, ◌++◌, map, map-append}
use Prim.Native.Nat.{ℕ, ◌+◌, ◌*◌, ◌≤◌}
use native.Mathlib.Omega.{arith}
use lib.ListN.{length, take, drop, length-take, length-drop}
use borrow.Author.Tests.{eqb-true}
use Rattle.laws.specs.Choose.{All}
use Rattle.nodes.specs.Words.{MOST_NODES, nodes}
use Rattle.nodes.proofs.WordLaws.{length_nodes}
use Rattle.lists.specs.Two.{check_two}
use Rattle.lists.proofs.Pairing.{two_taken_iff}
use Rattle.lists.proofs.Taken.{words_taken_iff}
use Rattle.paging.specs.Calls.{accepted, total, moved, all_given, place_after}
use Rattle.paging.specs.Page.{fresh, remains, handed, doneb}
use Rattle.paging.proofs.Demand.{Ascends}
use Rattle.paging.proofs.Whole.{page_rest, pages_whole, pages_end}
use Rattle.tickets.specs.declared.ticket.Place.TheVariants.{Fresh}
use Rattle.tickets.specs.declared.ticket.Ticket.{Ticket}
use Rattle.tickets.specs.Listing.{Pair, sort_key, listing}
use Rattle.tickets.specs.PairWords.{room}
use Rattle.tickets.specs.Ticket.{fresh_ticket, spot_of, Asked, asked_by}
use Rattle.tickets.proofs.Listed.{listing_ascends, few_listed}
use Rattle.pairs.specs.Calls.{Call, AcceptedCall, full_listing, SameLists, answer, ticket_through, shown_through}
use Rattle.pairs.specs.Page.{remaining, handed_out, says_done, ticket_after, page_of}
use Rattle.pairs.proofs.Answered.{not_refused, lists_ascend}
use Rattle.pairs.proofs.Following.{call_of, called, moves, shown_through_lem, done_through}

module _ (ask : Asked) (c : Call) (a : AcceptedCall c) where
  abbrev whole : List Pair
  whole = full_listing ask c

  ascends : Ascends (sort_key ask.order) whole
  ascends = let l = lists_ascend c a in listing_ascends ask (nodes c.ancestors) (nodes c.descendants) l.0 l.1

  -- Two accepted lists have so few nodes that their listing has at most 16,777,216 pairs.
  pub whole_few : length whole ≤ MOST_NODES * MOST_NODES
  whole_few =
      let t = (two_taken_iff c.ancestors c.descendants).0 a in
      few_listed ask (nodes c.ancestors) (nodes c.descendants)
      (omega (arith, length_nodes c.ancestors, ((words_taken_iff c.ancestors).0 t.0).1))
      (omega (arith, length_nodes c.descendants, ((words_taken_iff c.descendants).0 t.1).1))

  -- A call on the same lists is one with the same listing and its own room.
  same_call : (k : Call) → SameLists k c → call_of ask k ≡ accepted whole (room k.out)
  same_call k s =
      called ask k (ap (λ xs. (check_two xs k.descendants).answer) s.0 ∙ ap (λ ys. (check_two c.ancestors ys).answer) s.1 ∙ a)
      ∙ λ i. accepted (listing ask (nodes (s.0 i)) (nodes (s.1 i))) (room k.out)

  same_calls : (cs : List Call) → All (λ k. SameLists k c) cs
      → map (call_of ask) cs ≡ map (accepted whole) (map (λ k. room k.out) cs)
  same_calls [] s = refl
  same_calls (k ∷ cs) s = λ i. same_call k s.0 i ∷ same_calls cs s.1 i

  -- From a fresh ticket until a call is done, calls on lists that nobody alters hand out the full
  -- listing, in its order.
  pub whole_through : (cs : List Call) → All (λ k. SameLists k c) cs → (answer (ticket_through (fresh_ticket ask) cs) c).done ≡ true
      → shown_through (fresh_ticket ask) (cs ++ c ∷ []) ≡ whole
  whole_through cs s d =
      let rooms : List ℕ = map (λ k. room k.out) cs in
      let full : doneb (sort_key ask.order) (place_after (sort_key ask.order) fresh (map (accepted whole) rooms)) (room c.out) whole ≡ true =
      ap (λ ks. doneb (sort_key ask.order) (place_after (sort_key ask.order) fresh ks) (room c.out) whole) (sym (same_calls cs s))
      ∙ sym (done_through ask Fresh cs c a) ∙ d in
      shown_through_lem ask Fresh (cs ++ c ∷ [])
      ∙ ap (all_given (sort_key ask.order) fresh) (map-append (call_of ask) cs (c ∷ [])
      ∙ λ i. same_calls cs s i ++ called ask c a i ∷ [])
      ∙ pages_whole (sort_key ask.order) whole ascends rooms (room c.out) full

  -- And where the rooms together are enough for it, the last call is done.
  pub ends_through : (cs : List Call) → All (λ k. SameLists k c) cs → length whole ≤ total (map (λ k. room k.out) cs) + room c.out
      → (answer (ticket_through (fresh_ticket ask) cs) c).done ≡ true
  ends_through cs s enough =
      done_through ask Fresh cs c a
      ∙ ap (λ ks. doneb (sort_key ask.order) (place_after (sort_key ask.order) fresh ks) (room c.out) whole) (same_calls cs s)
      ∙ pages_end (sort_key ask.order) whole ascends (map (λ k. room k.out) cs) (room c.out) enough

-- One accepted call, with any ticket.
module _ (t : Ticket) (c : Call) (a : AcceptedCall c) where
  -- What remains for a ticket of the call's lists.
  abbrev left : Ticket → List Pair
  left u = remaining u c.ancestors c.descendants

  -- The ticket that comes back leaves what the call had no room for.
  page_leaves : left (answer t c).ticket ≡ drop (room c.out) (left t)
  unfolding page_of ticket_after
  page_leaves =
      let xs = full_listing (asked_by t) c in
      let key = sort_key t.order in
      ap (λ s. remains key s xs) (moves (asked_by t) t.place c
      ∙ ap (moved key (spot_of t.place)) (called (asked_by t) c a))
      ∙ page_rest key (spot_of t.place) xs (ascends (asked_by t) c a) (room c.out)

  handed_first : (answer t c).count ≡ length (take (room c.out) (left t))
  unfolding page_of handed_out handed
  handed_first = rw (not_refused c a)

  -- So that each pair which remained was handed out or remains.
  pub left_after : length (left t) ≡ (answer t c).count + length (left (answer t c).ticket)
  left_after =
      let n = room c.out in
      omega (arith, handed_first, ap length page_leaves, length-take n (left t), length-drop n (left t))

  -- And a call that is done leaves nothing.
  pub none_left : (answer t c).done ≡ true → length (left (answer t c).ticket) ≡ 0
  unfolding page_of says_done doneb handed
  none_left d =
      let n = room c.out in
      let e = eqb-true (length (take n (left t))) (length (left t)) (rw (not_refused c a) at d) in
      omega (arith, e, ap length page_leaves, length-take n (left t), length-drop n (left t))
