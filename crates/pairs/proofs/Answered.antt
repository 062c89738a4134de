-- Why it holds: A refused call has nothing to hand out, and an accepted one hands out no more than
-- fits. So what it writes stays within the output and ends where it counts.
-- What would break it: A refusal that moved the ticket, or a word altered after the last pair,
-- would be caught here. So would a first page that left out a pair in spite of room.
use mathlib.Core.Path.{◌≡◌, refl, sym, ap, ◌∙◌}
use mathlib.Core.Logic.{inl, inr}
use mathlib.Core.Bool.{true, false}
use mathlib.Core.List.{List, [], flat_map}
use Prim.Native.Nat.{◌*◌, ◌≤◌}
use native.Mathlib.Omega.{arith}
use lib.ListN.{length, take, drop, length-append, length-take, length-drop}
use lib.Seq.{take_all, take-append_seam, drop-append_seam}
use borrow.Author.Tests.{eq-eqb}
use Rattle.nodes.specs.declared.node.Node.{Node}
use Rattle.laws.specs.Choose.{EveryTwo}
use Rattle.nodes.specs.Node.{afterb}
use Rattle.nodes.specs.Words.{nodes, words_of}
use Rattle.laws.proofs.Choices.{all_of, keep_all, every_two_map}
use Rattle.laws.proofs.Tests.{either, so}
use Rattle.answers.specs.Verdict.{refusedb}
use Rattle.answers.proofs.VerdictLaws.{accepts, is_taken}
use Rattle.lists.specs.Two.{check_two}
use Rattle.lists.proofs.Taken.{Fine}
use Rattle.paging.specs.Page.{fresh, pastb, remains, handed, doneb, reached}
use Rattle.answers.specs.Output.{words_in, written}
use Rattle.tickets.specs.declared.ticket.Place.TheVariants.{After}
use Rattle.tickets.specs.declared.ticket.Ticket.{Ticket}
use Rattle.tickets.specs.Listing.{Pair, key_of, sort_key}
use Rattle.tickets.specs.PairWords.{PAIR_WORDS, pair_words, room}
use Rattle.tickets.specs.Ticket.{fresh_ticket, asked_by, ticket_at, Asked}
use Rattle.pairs.specs.Calls.{Call, AcceptedCall, full_listing, answer, output, shown}
use Rattle.pairs.specs.Page.{remaining, handed_out, says_done, ticket_after, page_of, output_after}
use Rattle.answers.proofs.OutputLaws.{length_items}
use Rattle.pairs.proofs.Accepted.{accepted}
use Rattle.pairs.proofs.Shown.{shown_is}

ascend : (ns : List Node) → EveryTwo Fine ns → EveryTwo (λ e n. afterb n e ≡ true) ns
ascend ns h = every_two_map (λ e n f. f.after) ns h

module _ (c : Call) where
  -- A call is accepted exactly if it isn't refused.
  pub not_refused : AcceptedCall c → refusedb (check_two c.ancestors c.descendants) ≡ false
  not_refused a = accepts (check_two c.ancestors c.descendants) a

  pub is_accepted : refusedb (check_two c.ancestors c.descendants) ≡ false → AcceptedCall c
  is_accepted h = is_taken (check_two c.ancestors c.descendants) h

  -- Each of two accepted lists ascends.
  pub lists_ascend : AcceptedCall c
      → EveryTwo (λ e n. afterb n e ≡ true) (nodes c.ancestors) × EveryTwo (λ e n. afterb n e ≡ true) (nodes c.descendants)
  lists_ascend a =
      let t = accepted c.ancestors c.descendants a in
      (ascend (nodes c.ancestors) t.fine_as, ascend (nodes c.descendants) t.fine_ds)

pub words_length : (ps : List Pair) → length (words_in pair_words ps) ≡ PAIR_WORDS * length ps
unfolding pair_words words_of
words_length ps = length_items pair_words PAIR_WORDS (λ p. refl) ps

module _ (t : Ticket) (c : Call) where
  -- What the call hands out.
  abbrev given : List Pair
  given = handed_out c.ancestors c.descendants t c.out

  nothing : (AcceptedCall c → ⊥) → given ≡ []
  unfolding handed_out
  nothing f = rw (so (λ h. f (is_accepted c h)))

  -- A refused call counts nothing, isn't done, returns its ticket, and leaves the output as it was.
  pub refusal : (AcceptedCall c → ⊥) → ((answer t c).count ≡ 0) × ((answer t c).done ≡ false) × ((answer t c).ticket ≡ t) × (output t c ≡ c.out)
  unfolding page_of says_done ticket_after output_after written words_in flat_map reached
  refusal f = (
    ap length (nothing f),
    rw (so (λ h. f (is_accepted c h))),
    ap (λ ps. ticket_at (asked_by t) (reached (λ p. After (key_of t.order p)) t.place ps)) (nothing f),
    ap (λ ps. written (words_in pair_words ps) c.out) (nothing f),
  )

  -- What it counts is what it hands out, which is what its output shows.
  pub count_given : (answer t c).count ≡ length given
  unfolding page_of
  count_given = refl

  pub count_shown : (answer t c).count ≡ length (shown t c)
  count_shown = count_given ∙ ap length (sym (shown_is t c))

  -- It hands out no more pairs than there is room for,
  pub given_fits : length given ≤ room c.out
  unfolding handed_out handed
  given_fits =
      let left = remaining t c.ancestors c.descendants in
      elim (either (refusedb (check_two c.ancestors c.descendants))) [
        | inl h ↦ rw h (omega arith)
        | inr h ↦ rw h (omega (arith, length-take (room c.out) left))
      ]

  -- Its output begins with their words,
  pub output_begins : take (PAIR_WORDS * length given) (output t c) ≡ words_in pair_words given
  unfolding output_after written
  output_begins = ap (λ k. take k (output t c)) (sym (words_length given)) ∙ take-append_seam (words_in pair_words given) _

  -- And after them the output's words are those it had.
  pub beyond_kept : drop (PAIR_WORDS * (answer t c).count) (output t c) ≡ drop (PAIR_WORDS * (answer t c).count) c.out
  unfolding page_of output_after written
  beyond_kept =
      rw (sym (words_length given)) (drop-append_seam (words_in pair_words given) (drop (length (words_in pair_words given)) c.out))

  pub output_length : length (output t c) ≡ length c.out
  unfolding output_after written
  output_length =
      let ws = words_in pair_words given in
      omega (arith, length-append ws (drop (length ws) c.out), length-drop (length ws) c.out, words_length given, given_fits)

module _ (ask : Asked) (c : Call) where
  abbrev listed : List Pair
  listed = full_listing ask c

  all_handed : length listed ≤ room c.out → handed (sort_key ask.order) fresh (room c.out) listed ≡ listed
  unfolding handed remains pastb
  all_handed l = rw (keep_all (λ p. true) listed (all_of (λ p. refl) listed)) (take_all (room c.out) listed l)

  -- A first call with room for the full listing hands out exactly it, and is done.
  pub whole_listing : AcceptedCall c → length listed ≤ room c.out
      → (shown (fresh_ticket ask) c ≡ listed) × ((answer (fresh_ticket ask) c).done ≡ true)
  unfolding page_of handed_out says_done doneb remains pastb
  whole_listing a l = (
    shown_is (fresh_ticket ask) c ∙ rw (not_refused c a) (all_handed l),
    rw (not_refused c a, all_handed l, keep_all (λ p. true) listed (all_of (λ p. refl) listed)) (eq-eqb (length listed) (length listed) refl),
  )
