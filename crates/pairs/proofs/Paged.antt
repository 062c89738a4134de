-- Why it holds: Serving what remains from the beginning writes the first of it that fits, and the
-- place of the last pair can be read off the output. The page call cites it.
-- What would break it: A call that is done although its room ran out, or whose place lies past what
-- it wrote, would be caught here.
use mathlib.Core.Path.{◌≡◌, refl, sym, ap, ◌∙◌}
use mathlib.Core.Bool.{Bool, false}
use mathlib.Core.List.{List, flat_map}
use Prim.Native.Nat.{ℕ, ◌≤◌, zero-le}
use lib.Dec.{eqb}
use lib.ListN.{length, take}
use borrow.Author.Tests.{eq-eqb, ne_eqb}
use Rattle.answers.specs.Answer.{TAKEN}
use Rattle.nodes.specs.Words.{nodes, words_of}
use Rattle.answers.specs.declared.verdict.Verdict.{Verdict}
use Rattle.answers.specs.Verdict.{refusedb, taken}
use Rattle.lists.specs.Two.{check_two}
use Rattle.lists.proofs.Naming.{two_taken}
use Rattle.paging.specs.Page.{handed, doneb, reached}
use Rattle.paging.specs.Private.Serve.{serve}
use Rattle.answers.specs.Output.{words_in, written}
use Rattle.paging.proofs.Serving.{serve_count, serve_length, serve_shows}
use Rattle.tickets.specs.declared.ticket.Order.{Order}
use Rattle.tickets.specs.declared.ticket.Ticket.{Ticket}
use Rattle.tickets.specs.PairWords.{PAIR_WORDS, pair_words, room}
use Rattle.tickets.specs.Ticket.{asked, asked_by, ticket_at}
use Rattle.pairs.specs.declared.page.Page.{Page}
use Rattle.pairs.specs.Page.{remaining, handed_out, says_done, ticket_after, page_of, output_after}
use Rattle.pairs.specs.Private.Sweep.{place_reached, served_all}
use Rattle.pairs.proofs.Shown.{last_place}

abbrev pub answered : Verdict → ℕ → Bool → Ticket → Page
answered v count done t = record { verdict = v; count = count; done = done; ticket = t }

-- Two lists are accepted if the verdict on them says so.
pub lists_taken : (as' ds : List ℕ) (v : Verdict) → v ≡ check_two as' ds → v.answer ≡ TAKEN → (check_two as' ds).answer ≡ TAKEN
lists_taken as' ds v q h = sym (ap (λ w. w.answer) q) ∙ h

module _ (as' ds : List ℕ) (t : Ticket) (out : List ℕ) where
  -- What the sweep in the ticket's order serves is what remains of the listing asked for.
  pub in_order : (order : Order) {r : List ℕ × ℕ × Bool} → t.order ≡ order
      → r ≡ served_all (asked t.relation order) t.place out as' ds → r ≡ served_all (asked_by t) t.place out as' ds
  in_order order q p = p ∙ ap (λ o. served_all (asked t.relation o) t.place out as' ds) (sym q)

  -- A refused call answers nothing but the verdict.
  pub page_refused : (v : Verdict) → v ≡ check_two as' ds → (v.answer ≡ TAKEN → ⊥)
      → record { answer : answered v 0 false t ≡ page_of as' ds t out; output : out ≡ output_after as' ds t out }
  unfolding page_of output_after handed_out says_done ticket_after refusedb reached words_in written flat_map
  page_refused v q h =
      let r = ne_eqb (check_two as' ds).answer TAKEN (λ e. h (ap (λ w. w.answer) q ∙ e)) in
      record { answer = ap (λ w. answered w 0 false t) q ∙ rw r refl; output = rw r refl }

  module _ (yes : (check_two as' ds).answer ≡ TAKEN) where
    -- An accepted call hands out the first that remain, as many as fit, and is done if that is all.
    handed_first : handed_out as' ds t out ≡ take (room out) (remaining t as' ds)
    unfolding handed_out refusedb handed
    handed_first = rw (eq-eqb (check_two as' ds).answer TAKEN yes) refl

    done_all : says_done as' ds t out ≡ eqb (length (take (room out) (remaining t as' ds))) (length (remaining t as' ds))
    unfolding says_done refusedb doneb handed
    done_all = rw (eq-eqb (check_two as' ds).answer TAKEN yes) refl

    -- The place read off the output is the one that the pairs reach.
    place_read : (u : Ticket)
        → u ≡ ticket_at (asked_by t) (place_reached t.order t.place (nodes (output_after as' ds t out)) (length (handed_out as' ds t out)))
        → u ≡ ticket_after as' ds t out
    unfolding output_after ticket_after written
    place_read u p = p ∙ ap (ticket_at (asked_by t)) (last_place t.order t.place (handed_out as' ds t out) _)

  module _ (out' : List ℕ) (count : ℕ) (done : Bool) (s : (out', count, done) ≡ serve pair_words PAIR_WORDS out 0 (remaining t as' ds)) where
    -- No more was written than there is room for.
    pub written_in : count ≤ room out'
    written_in =
        let kept : length out' ≡ length out = ap (λ r. length r.0) s ∙ serve_length pair_words PAIR_WORDS out 0 (remaining t as' ds) in
        rw (kept, ap (λ r. r.1) s) (serve_count pair_words PAIR_WORDS out 0 (remaining t as' ds) zero-le)

    module _ (checked : Verdict) (q : checked ≡ check_two as' ds) (h : checked.answer ≡ TAKEN) where
      yes : (check_two as' ds).answer ≡ TAKEN
      yes = lists_taken as' ds checked q h

      all_shown : ◌≡◌ {A = List ℕ × ℕ × Bool} (out', count, done) (output_after as' ds t out, length (handed_out as' ds t out), says_done as' ds t out)
      unfolding output_after pair_words words_of
      all_shown = s ∙ serve_shows pair_words PAIR_WORDS (λ p. refl) out (remaining t as' ds) ∙ rw (handed_first yes, done_all yes) refl

      pub page_made : (v : Verdict) (u : Ticket) → v ≡ taken
          → u ≡ ticket_at (asked_by t) (place_reached t.order t.place (nodes out') count)
          → record { answer : answered v count done u ≡ page_of as' ds t out; output : out' ≡ output_after as' ds t out }
      unfolding page_of
      page_made v u r p =
          let e = all_shown in
          let w = place_read yes u (p ∙ ap (λ r. ticket_at (asked_by t) (place_reached t.order t.place (nodes r.0) r.1)) e) in
          record { answer = λ i. answered ((r ∙ two_taken as' ds yes) i) (e i).1 (e i).2 (w i); output = ap (λ r. r.0) e }
