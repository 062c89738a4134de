-- Why it holds: A call that is refused with LINKS hands out nothing and returns its ticket, as a
-- plain call does that is refused for its lists. Every other call is the plain one. So a sequence
-- of calls, with links or without, is a sequence of plain calls.
-- What would break it: A pair that was lost or came twice because links came or went would be
-- caught here.
use mathlib.Core.Path.{◌≡◌, refl, sym, ap, subst, ◌∙◌}
use mathlib.Core.Logic.{◌↔◌, inl, inr}
use mathlib.Core.Bool.{true, false, cond}
use mathlib.Core.List.{List, [], ◌∷◌, ◌++◌, map, map-append}
use Prim.Native.Nat.{ℕ, ◌*◌}
use native.Mathlib.Omega.{arith}
use lib.ListN.{length, take, drop}
use Rattle.answers.specs.Answer.{TAKEN}
use Rattle.laws.specs.Choose.{All, EveryTwo, In}
use Rattle.laws.proofs.Choices.{all_map, all_mapped}
use Rattle.laws.proofs.Tests.{either}
use Rattle.nodes.specs.Words.{nodes}
use Rattle.answers.specs.Verdict.{refusedb}
use Rattle.answers.proofs.VerdictLaws.{is_taken, not_taken}
use Rattle.lists.specs.Two.{check_two}
use Rattle.lists.proofs.Pairing.{two_taken_iff}
use Rattle.lists.proofs.Taken.{words_taken_iff}
use Rattle.tickets.specs.declared.ticket.Ticket.{Ticket}
use Rattle.tickets.specs.Listing.{Pair, askedb}
use Rattle.tickets.specs.PairWords.{PAIR_WORDS, pairs_in, room}
use Rattle.tickets.specs.Ticket.{fresh_ticket, Asked, asked_by}
use Rattle.pairs.specs.declared.page.Page.{Page}
use Rattle.pairs.specs.Calls.{Call, AcceptedCall, StandsIn, SameStarts, answer, output, shown, ticket_through, shown_through}
use Rattle.pairs.specs.Page.{page_of}
use Rattle.pairs.proofs.Answered.{refusal, count_shown, beyond_kept, output_length}
use Rattle.pairs.proofs.Following.{none_lost, none_twice, own_lists, fills_room}
use Rattle.linked.specs.Following.{Lent, LentCall, FitFor, AcceptedLent, answer_with, output_with, answer_lent, output_lent, shown_lent, ticket_through_lent, shown_through_lent}
use Rattle.linked.specs.Following.Lent.{nothing, words}
use Rattle.linked.specs.Page.{unlinkedb}
use Rattle.linked.proofs.Lending.{lent_plain, lent_refused}
use Rattle.linked.proofs.Refusing.{right_links, links_right, linked_taken_iff}

-- A plain call that is refused for its ancestors, with this output.
refused_call : Call → Call
refused_call c = record { ancestors = 0 ∷ []; descendants = c.descendants; out = c.out }

is_refused : (c : Call) → AcceptedCall (refused_call c) → ⊥
unfolding refused_call
is_refused c h = let e = ((words_taken_iff (0 ∷ [])).0 ((two_taken_iff (0 ∷ []) c.descendants).0 h).0).0 in omega (arith, e)

-- The plain call that does the same.
plain_with : Lent → Call → Call
plain_with nothing c = c
plain_with (words links) c = cond (unlinkedb c.ancestors c.descendants links) (refused_call c) c

-- What two calls do to their caller is the same: all but the verdict.
pub record Alike (p q : Page) (o o' : List ℕ) : Type 0 where
  pub count : p.count ≡ q.count
  pub done : p.done ≡ q.done
  pub ticket : p.ticket ≡ q.ticket
  pub output : o ≡ o'

alike : (l : Lent) (t : Ticket) (c : Call) → Alike (answer_with l t c) (answer t (plain_with l c)) (output_with l t c) (output t (plain_with l c))
unfolding answer_with output_with plain_with refused_call
alike nothing t c = record { count = refl; done = refl; ticket = refl; output = refl }
alike (words links) t c =
    elim (either (unlinkedb c.ancestors c.descendants links)) [
      | inl u ↦ let q = lent_refused c.ancestors c.descendants links t c.out u in
          let r = refusal t (refused_call c) (is_refused c) in
          rw u (record {
            count = ap (λ x. x.count) q.answer ∙ sym r.0;
            done = ap (λ x. x.done) q.answer ∙ sym r.1;
            ticket = ap (λ x. x.ticket) q.answer ∙ sym r.2;
            output = q.output ∙ sym r.3;
          })
      | inr u ↦ let q = lent_plain c.ancestors c.descendants links t c.out u in
          rw u (record {
            count = ap (λ x. x.count) q.answer;
            done = ap (λ x. x.done) q.answer;
            ticket = ap (λ x. x.ticket) q.answer;
            output = q.output;
          })
    ]

-- It is accepted exactly if the call is, and then it is that call.
plain_taken : (l : Lent) (c : Call) → AcceptedCall (plain_with l c) → AcceptedCall c × FitFor l c × (plain_with l c ≡ c)
unfolding plain_with FitFor
plain_taken nothing c a = (a, tt, refl)
plain_taken (words links) c a =
    elim (either (unlinkedb c.ancestors c.descendants links)) [
      | inl u ↦ absurd (is_refused c (rw u at a))
      | inr u ↦ let b : AcceptedCall c = rw u at a in
          (b, links_right c.ancestors c.descendants links b u, rw u refl)
    ]

taken_plain : (l : Lent) (c : Call) → AcceptedCall c → FitFor l c → plain_with l c ≡ c
unfolding plain_with FitFor
taken_plain nothing c a f = refl
taken_plain (words links) c a f = rw (right_links c.ancestors c.descendants links f) refl

-- It has the same output.
same_out : (l : Lent) (c : Call) → (plain_with l c).out ≡ c.out
unfolding plain_with refused_call
same_out nothing c = refl
same_out (words links) c = elim (either (unlinkedb c.ancestors c.descendants links)) [ inl u ↦ rw u refl | inr u ↦ rw u refl ]

pub plain_of : LentCall → Call
plain_of k = plain_with k.links k.call

module _ (t : Ticket) (k : LentCall) where
  pub same : Alike (answer_lent t k) (answer t (plain_of k)) (output_lent t k) (output t (plain_of k))
  unfolding plain_of
  same = alike k.links t k.call

  same_shown : shown_lent t k ≡ shown t (plain_of k)
  same_shown = λ i. take (same.count i) (pairs_in (nodes (same.output i)))

-- A sequence of calls, with links or without, moves the ticket as the plain calls do, and shows
-- what they show.
same_ticket : (t : Ticket) (ks : List LentCall) → ticket_through_lent t ks ≡ ticket_through t (map plain_of ks)
unfolding ticket_through_lent ticket_through
same_ticket t [] = refl
same_ticket t (k ∷ ks) = same_ticket (answer_lent t k).ticket ks ∙ ap (λ (s : Ticket). ticket_through s (map plain_of ks)) (same t k).ticket

same_pairs : (t : Ticket) (ks : List LentCall) → shown_through_lent t ks ≡ shown_through t (map plain_of ks)
unfolding shown_through_lent shown_through
same_pairs t [] = refl
same_pairs t (k ∷ ks) =
    (λ i. same_shown t k i ++ same_pairs (answer_lent t k).ticket ks i)
    ∙ ap (λ (s : Ticket). shown t (plain_of k) ++ shown_through s (map plain_of ks)) (same t k).ticket

-- Its answer is TAKEN exactly if the call is accepted.
taken_with : (l : Lent) (t : Ticket) (c : Call) → ((answer_with l t c).verdict.answer ≡ TAKEN) ↔ (AcceptedCall c × FitFor l c)
unfolding answer_with FitFor page_of
taken_with nothing t c = (λ h. (h, tt), λ p. p.0)
taken_with (words links) t c = linked_taken_iff c.ancestors c.descendants links t c.out

pub taken_lent_iff : (t : Ticket) (k : LentCall) → ((answer_lent t k).verdict.answer ≡ TAKEN) ↔ AcceptedLent k
taken_lent_iff t k = taken_with k.links t k.call

module _ (t : Ticket) (k : LentCall) where
  -- A refused call counts nothing, isn't done, returns its ticket, and leaves the output as it was.
  pub refusal_lent : (AcceptedLent k → ⊥)
      → ((answer_lent t k).count ≡ 0) × ((answer_lent t k).done ≡ false) × ((answer_lent t k).ticket ≡ t) × (output_lent t k ≡ k.call.out)
  unfolding plain_of
  refusal_lent f =
      let s = same t k in
      let r = refusal t (plain_of k) (λ a. let p = plain_taken k.links k.call a in f (p.0, p.1)) in
      (s.count ∙ r.0, s.done ∙ r.1, s.ticket ∙ r.2, s.output ∙ r.3 ∙ same_out k.links k.call)

  -- What it counts is what its output shows, and after that the output's words are those it had.
  pub count_lent : (answer_lent t k).count ≡ length (shown_lent t k)
  count_lent = (same t k).count ∙ count_shown t (plain_of k) ∙ sym (ap length (same_shown t k))

  pub beyond_lent : (drop (PAIR_WORDS * (answer_lent t k).count) (output_lent t k) ≡ drop (PAIR_WORDS * (answer_lent t k).count) k.call.out)
      × (length (output_lent t k) ≡ length k.call.out)
  unfolding plain_of
  beyond_lent =
      let s = same t k in
      let o = same_out k.links k.call in (
        (λ i. drop (PAIR_WORDS * s.count i) (s.output i)) ∙ beyond_kept t (plain_of k)
            ∙ (λ i. drop (PAIR_WORDS * sym s.count i) (o i)),
        ap length s.output ∙ output_length t (plain_of k) ∙ ap length o,
      )

  -- A call hands out only related pairs of its own two lists.
  pub own_lists_lent : All (λ p. StandsIn p k.call × (askedb (asked_by t) p ≡ true)) (shown_lent t k)
  unfolding plain_of
  own_lists_lent =
      let P : Call → Pair → Type 0 = λ c p. StandsIn p c × (askedb (asked_by t) p ≡ true) in
      elim (either (refusedb (check_two (plain_of k).ancestors (plain_of k).descendants))) [
        | inl h ↦ let r = refusal t (plain_of k) (not_taken (check_two (plain_of k).ancestors (plain_of k).descendants) h) in
            subst (All (P k.call)) (sym (ap (λ n. take n (pairs_in (nodes (output_lent t k)))) ((same t k).count ∙ r.0))) tt
        | inr h ↦ let q = plain_taken k.links k.call (is_taken (check_two (plain_of k).ancestors (plain_of k).descendants) h) in
            subst (All (P k.call)) (sym (same_shown t k)) (subst (λ c. All (P c) (shown t (plain_of k))) q.2 (own_lists t (plain_of k)))
      ]

  -- An accepted call that isn't done fills its room.
  pub fills_room_lent : AcceptedLent k → (answer_lent t k).done ≡ false → (answer_lent t k).count ≡ room k.call.out
  unfolding plain_of
  fills_room_lent a d =
      let s = same t k in
      let e = taken_plain k.links k.call a.0 a.1 in
      s.count ∙ fills_room t (plain_of k) (subst AcceptedCall (sym e) a.0) (sym s.done ∙ d) ∙ ap (λ c. room c.out) e

module _ (ask : Asked) where
  -- A related pair that stands unaltered in the lists of every accepted call, up to one that is
  -- done, has been handed out.
  pub none_lost_lent : (ks : List LentCall) (k : LentCall) → AcceptedLent k → (answer_lent (ticket_through_lent (fresh_ticket ask) ks) k).done ≡ true
      → (p : Pair) → askedb ask p ≡ true → All (λ j. AcceptedLent j → StandsIn p j.call) ks → StandsIn p k.call
      → In p (shown_through_lent (fresh_ticket ask) (ks ++ k ∷ []))
  unfolding plain_of
  none_lost_lent ks k a d p r s m =
      let t = fresh_ticket ask in
      let e = taken_plain k.links k.call a.0 a.1 in
      let done : (answer (ticket_through t (map plain_of ks)) (plain_of k)).done ≡ true =
      ap (λ (u : Ticket). (answer u (plain_of k)).done) (sym (same_ticket t ks)) ∙ sym (same (ticket_through_lent t ks) k).done ∙ d in
      let stood : All (λ c. AcceptedCall c → StandsIn p c) (map plain_of ks) =
      all_mapped plain_of (λ c. AcceptedCall c → StandsIn p c) ks (all_map (λ j f b.
      let q = plain_taken j.links j.call b in subst (StandsIn p) (sym q.2) (f (q.0, q.1))) ks s) in
      subst (In p) (sym (same_pairs t (ks ++ k ∷ []) ∙ ap (shown_through t) (map-append plain_of ks (k ∷ []))))
      (none_lost ask (map plain_of ks) (plain_of k) (subst AcceptedCall (sym e) a.0) done p r stood (subst (StandsIn p) (sym e) m))

  -- No two pairs with the same starts are handed out.
  pub none_twice_lent : (ks : List LentCall) → EveryTwo (λ p q. SameStarts p q → ⊥) (shown_through_lent (fresh_ticket ask) ks)
  none_twice_lent ks =
      subst (EveryTwo (λ p q. SameStarts p q → ⊥)) (sym (same_pairs (fresh_ticket ask) ks)) (none_twice ask (map plain_of ks))
