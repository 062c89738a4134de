-- Why it holds: The ticket keeps the relation, the order and the key of the last pair. So a
-- sequence of calls is one of paging's, with the listing of each call's own lists.
-- What would break it: A pair that is lost or handed out twice between pages, for any edits in
-- between, would be caught here.
use mathlib.Core.Path.{◌≡◌, refl, sym, ap, subst, ◌∙◌}
use mathlib.Core.Logic.{inl, inr}
use mathlib.Core.Bool.{true, false, cond}
use mathlib.Core.List.{List, [], ◌∷◌, ◌++◌, map, map-append}
use Rattle.laws.specs.Choose.{All, EveryTwo, In}
use Rattle.nodes.specs.Words.{nodes}
use Rattle.laws.proofs.Choices.{all_of, all_map, every_two_map, all_append, pairs_passed, all_mapped}
use Rattle.laws.proofs.Tests.{either}
use Rattle.answers.specs.Verdict.{refusedb}
use Rattle.lists.specs.Two.{check_two}
use Rattle.paging.specs.Calls.{Call as PagingCall, refused, accepted, given, moved, place_after, all_given}
use Rattle.paging.specs.Page.{after, handed, doneb, reached}
use Rattle.paging.proofs.Demand.{Ascending, Stood, none_lost as none-lost-of, no_key_twice, own_listing, fills_room as fills-room-of}
use Rattle.paging.proofs.PageLaws.{reached_map}
use Rattle.tickets.specs.declared.ticket.Order.{Order}
use Rattle.tickets.specs.declared.ticket.Order.TheVariants.{Descendant, Ancestor}
use Rattle.tickets.specs.declared.ticket.Place.{Place}
use Rattle.tickets.specs.declared.ticket.Place.TheVariants.{Fresh, After}
use Rattle.tickets.specs.declared.ticket.Relation.{Relation}
use Rattle.tickets.specs.declared.ticket.Ticket.{Ticket}
use Rattle.tickets.specs.Listing.{Pair, relatedb, key_of, sort_key, askedb}
use Rattle.tickets.specs.PairWords.{room}
use Rattle.tickets.specs.Ticket.{fresh_ticket, spot_of, ticket_at, Asked, asked_by}
use Rattle.tickets.proofs.Listed.{listed_iff, related_document, listing_ascends}
use Rattle.pairs.specs.Calls.{Call, AcceptedCall, full_listing, StandsIn, SameStarts, answer, shown, ticket_through, shown_through}
use Rattle.pairs.specs.Page.{listing_of, handed_out, says_done, ticket_after, page_of}
use Rattle.pairs.proofs.Answered.{not_refused, is_accepted, lists_ascend}
use Rattle.pairs.proofs.Shown.{shown_is}

-- Related pairs with the same starts have the same key.
pub same_key : (relation : Relation) (order : Order) (p q : Pair) → relatedb relation p ≡ true → relatedb relation q ≡ true → SameStarts p q
    → sort_key order p ≡ sort_key order q
unfolding key_of
same_key relation Descendant p q r s e =
    let d : p.descendant.document ≡ q.descendant.document = related_document relation p r ∙ e.0 ∙ sym (related_document relation q s) in
    λ i. d i ∷ e.2 i ∷ e.1 i ∷ []
same_key relation Ancestor p q r s e = λ i. e.0 i ∷ e.1 i ∷ e.2 i ∷ []

handed_own : (t : Ticket) (c : Call)
    → All (λ p. StandsIn p c × (askedb (asked_by t) p ≡ true)) (handed_out c.ancestors c.descendants t c.out)
unfolding handed_out
handed_own t c =
    let xs = listing_of t c.ancestors c.descendants in
    let own : (p : Pair) → In p xs → StandsIn p c × (askedb (asked_by t) p ≡ true) = λ p m.
    let l = (listed_iff (asked_by t) (nodes c.ancestors) (nodes c.descendants) p).0 m in ((l.0, l.1), l.2) in
    elim (either (refusedb (check_two c.ancestors c.descendants))) [
      | inl h ↦ rw h tt
      | inr h ↦ rw h (all_map own (handed (sort_key t.order) (spot_of t.place) (room c.out) xs)
          (own_listing (sort_key t.order) (spot_of t.place) xs (room c.out)))
    ]

-- A call hands out only related pairs of its own two lists.
pub own_lists : (t : Ticket) (c : Call) → All (λ p. StandsIn p c × (askedb (asked_by t) p ≡ true)) (shown t c)
own_lists t c = subst (All (λ p. StandsIn p c × (askedb (asked_by t) p ≡ true))) (sym (shown_is t c)) (handed_own t c)

-- An accepted call that isn't done fills its room.
pub fills_room : (t : Ticket) (c : Call) → AcceptedCall c → (answer t c).done ≡ false → (answer t c).count ≡ room c.out
unfolding page_of says_done handed_out
fills_room t c a d =
    rw (not_refused c a) (fills-room-of (sort_key t.order) (spot_of t.place) (listing_of t c.ancestors c.descendants) (room c.out)
    (rw (not_refused c a) at d))

module _ (ask : Asked) where
  -- A call in the terms of the crate `paging`.
  pub call_of : Call → PagingCall Pair
  call_of c = cond (refusedb (check_two c.ancestors c.descendants)) refused (accepted (full_listing ask c) (room c.out))

  pub called : (c : Call) → AcceptedCall c → call_of c ≡ accepted (full_listing ask c) (room c.out)
  unfolding call_of
  called c a = rw (not_refused c a)

  ascending : (c : Call) → Ascending (sort_key ask.order) (call_of c)
  unfolding call_of
  ascending c =
      elim (either (refusedb (check_two c.ancestors c.descendants))) [
        | inl h ↦ rw h tt
        | inr h ↦ let p = lists_ascend c (is_accepted c h) in
            rw h (listing_ascends ask (nodes c.ancestors) (nodes c.descendants) p.0 p.1)
      ]

  stood : (p : Pair) → askedb ask p ≡ true → (c : Call) → (AcceptedCall c → StandsIn p c) → Stood (sort_key ask.order) p (call_of c)
  unfolding call_of
  stood p r c s =
      elim (either (refusedb (check_two c.ancestors c.descendants))) [
        | inl h ↦ rw h tt
        | inr h ↦ let m = s (is_accepted c h) in rw h ((listed_iff ask _ _ p).1 (m.0, m.1, r))
      ]

  module _ (place : Place) (c : Call) where
    handed_given : handed_out c.ancestors c.descendants (ticket_at ask place) c.out ≡ given (sort_key ask.order) (spot_of place) (call_of c)
    unfolding call_of handed_out given
    handed_given = elim (either (refusedb (check_two c.ancestors c.descendants))) [ inl h ↦ rw h refl | inr h ↦ rw h refl ]

    -- A call moves the ticket as it moves paging's place.
    pub moves : spot_of (answer (ticket_at ask place) c).ticket.place ≡ moved (sort_key ask.order) (spot_of place) (call_of c)
    unfolding page_of ticket_after moved
    moves =
        reached_map spot_of (λ p. After (key_of ask.order p)) place (handed_out c.ancestors c.descendants (ticket_at ask place) c.out)
        ∙ ap (reached (λ p. after (sort_key ask.order p)) (spot_of place)) handed_given

  -- What a sequence of calls shows is what paging's calls hand out.
  pub shown_through_lem : (place : Place) (cs : List Call)
      → shown_through (ticket_at ask place) cs ≡ all_given (sort_key ask.order) (spot_of place) (map call_of cs)
  unfolding shown_through page_of ticket_after all_given
  shown_through_lem place [] = refl
  shown_through_lem place (c ∷ cs) =
      let t = ticket_at ask place in
      (λ i. (shown_is t c ∙ handed_given place c) i ++ shown_through_lem (answer t c).ticket.place cs i)
      ∙ ap (λ s. given (sort_key ask.order) (spot_of place) (call_of c) ++ all_given (sort_key ask.order) s (map call_of cs)) (moves place c)

  pub done_through : (place : Place) (cs : List Call) (c : Call) → AcceptedCall c → (answer (ticket_through (ticket_at ask place) cs) c).done
      ≡ doneb (sort_key ask.order) (place_after (sort_key ask.order) (spot_of place) (map call_of cs)) (room c.out) (full_listing ask c)
  unfolding ticket_through page_of ticket_after says_done place_after
  done_through place [] c a = rw (not_refused c a)
  done_through place (k ∷ cs) c a =
      done_through (answer (ticket_at ask place) k).ticket.place cs c a
      ∙ ap (λ s. doneb (sort_key ask.order) (place_after (sort_key ask.order) s (map call_of cs)) (room c.out) (full_listing ask c)) (moves place k)

  related_through : (place : Place) (cs : List Call) → All (λ p. askedb ask p ≡ true) (shown_through (ticket_at ask place) cs)
  unfolding shown_through page_of ticket_after
  related_through place [] = tt
  related_through place (c ∷ cs) =
      let t = ticket_at ask place in
      let own : All (λ p. askedb ask p ≡ true) (shown t c) =
      all_map {P = λ p. StandsIn p c × (askedb ask p ≡ true)} (λ p h. h.1) (shown t c) (own_lists t c) in
      all_append (λ p. askedb ask p ≡ true) (shown t c) _ own (related_through (answer t c).ticket.place cs)

  -- A related pair that stands unaltered in the lists of every accepted call, up to one that is
  -- done, has been handed out.
  pub none_lost : (cs : List Call) (c : Call) → AcceptedCall c → (answer (ticket_through (fresh_ticket ask) cs) c).done ≡ true
      → (p : Pair) → askedb ask p ≡ true → All (λ k. AcceptedCall k → StandsIn p k) cs → StandsIn p c
      → In p (shown_through (fresh_ticket ask) (cs ++ c ∷ []))
  none_lost cs c a d p r s m =
      rw (shown_through_lem Fresh (cs ++ c ∷ []), map-append call_of cs (c ∷ []), called c a)
      (none-lost-of (sort_key ask.order) (map call_of cs) (full_listing ask c) (room c.out) (all_mapped call_of _ cs (all_of ascending cs))
      (sym (done_through Fresh cs c a) ∙ d) p (all_mapped call_of _ cs (all_map (stood p r) cs s))
      ((listed_iff ask _ _ p).1 (m.0, m.1, r)))

  -- No two pairs with the same starts are handed out.
  pub none_twice : (cs : List Call) → EveryTwo (λ p q. SameStarts p q → ⊥) (shown_through (fresh_ticket ask) cs)
  none_twice cs =
      let ps = shown_through (fresh_ticket ask) cs in
      let keys = no_key_twice (sort_key ask.order) (map call_of cs) (all_mapped call_of _ cs (all_of ascending cs)) in
      pairs_passed (λ p. askedb ask p ≡ true) (λ p q. SameStarts p q → ⊥) ps (related_through Fresh cs)
      (every_two_map (λ p q h r s e. h (same_key ask.relation ask.order p q r s e)) ps
      (subst (EveryTwo (λ p q. sort_key ask.order p ≡ sort_key ask.order q → ⊥)) (sym (shown_through_lem Fresh cs)) keys))
