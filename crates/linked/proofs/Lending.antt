-- Why it holds: Of two accepted lists the ancestors are accepted, so the test of their links can be
-- trusted. Otherwise the plain call is refused, and its answer doesn't depend on the links.
-- What would break it: LINKS before the refusal of a list, or a page for links that were not
-- compared, would be caught here.
use mathlib.Core.Path.{◌≡◌, refl, sym, ap, ◌∙◌}
use mathlib.Core.Logic.{◌↔◌, inl, inr}
use mathlib.Core.Bool.{Bool, true, false, cond, not}
use mathlib.Core.List.{List}
use Prim.Native.Nat.{ℕ}
use Rattle.answers.specs.Answer.{TAKEN}
use Rattle.answers.specs.Verdict.{refusedb}
use Rattle.answers.specs.declared.verdict.Verdict.{Verdict}
use Rattle.answers.proofs.VerdictLaws.{accepts, not_taken, is_taken}
use Rattle.laws.proofs.Tests.{either, not_so, and_read, and_make, not_read}
use Rattle.lists.specs.Check.{check_words}
use Rattle.lists.specs.Two.{check_two}
use Rattle.lists.proofs.Pairing.{two_taken_iff}
use Rattle.forest.specs.Linked.{links_in}
use Rattle.tickets.specs.declared.ticket.Ticket.{Ticket}
use Rattle.pairs.specs.declared.page.Page.{Page}
use Rattle.pairs.specs.Page.{page_of, output_after}
use Rattle.pairs.proofs.Paged.{answered, page_refused}
use Rattle.linked.specs.Check.{linkedb, unlinked}
use Rattle.linked.specs.Page.{unlinked_page, unlinkedb, linked_page, linked_output}
use Rattle.linked.proofs.InWords.{linked_read, unlinked_read, unlinked_make}

module _ (as' ds links : List ℕ) where
  -- A call is refused with LINKS exactly if the lists are accepted together and the words aren't
  -- the links of the ancestors.
  pub unlinked_iff : (unlinkedb as' ds links ≡ true) ↔ (((check_two as' ds).answer ≡ TAKEN) × (links ≡ links_in as' → ⊥))
  unfolding unlinkedb
  unlinked_iff = (
    λ h. let p = and_read (not (refusedb (check_two as' ds))) h in
        (is_taken (check_two as' ds) (not_read _ p.0), unlinked_read as' links (not_read _ p.1)),
    λ p. and_make (ap not (accepts (check_two as' ds) p.0)) (ap not (unlinked_make as' links p.1)),
  )

  module _ (t : Ticket) (out : List ℕ) where
    -- What a call answers, and its output on return.
    abbrev Answers : Page → List ℕ → Type 0
    Answers p last = record { answer : p ≡ linked_page as' ds links t out; output : last ≡ linked_output as' ds links t out }

    -- A call that is not refused with LINKS is the plain call.
    pub lent_plain : unlinkedb as' ds links ≡ false
        → record { answer : linked_page as' ds links t out ≡ page_of as' ds t out; output : linked_output as' ds links t out ≡ output_after as' ds t out }
    unfolding linked_page linked_output
    lent_plain h = record { answer = rw h refl; output = rw h refl }

    -- One that is hands out nothing, and leaves ticket and output as they were.
    pub lent_refused : unlinkedb as' ds links ≡ true
        → record { answer : linked_page as' ds links t out ≡ unlinked_page t; output : linked_output as' ds links t out ≡ out }
    unfolding linked_page linked_output
    lent_refused h = record { answer = rw h refl; output = rw h refl }

    as_plain : unlinkedb as' ds links ≡ false → (p : Page) (last : List ℕ)
        → record { answer : p ≡ page_of as' ds t out; output : last ≡ output_after as' ds t out } → Answers p last
    as_plain h p last e = let f = lent_plain h in record { answer = e.answer ∙ sym f.answer; output = e.output ∙ sym f.output }

    -- The two ways of the call, by what the test of the links says if the ancestors are accepted.
    module _ (r : Bool) (f : (check_words as').answer ≡ TAKEN → r ≡ linkedb as' links) where
      pub page_told : r ≡ true → (p : Page) (last : List ℕ)
          → record { answer : p ≡ page_of as' ds t out; output : last ≡ output_after as' ds t out } → Answers p last
      page_told h =
          as_plain (not_so (λ u.
          let q = unlinked_iff.0 u in
          q.1 (linked_read as' links (sym (f ((two_taken_iff as' ds).0 q.0).0) ∙ h))))

      pub page_untold : r ≡ false → (v : Verdict) → v ≡ cond (refusedb (check_two as' ds)) (check_two as' ds) unlinked → Answers (answered v 0 false t) out
      page_untold h v q =
          elim (either (refusedb (check_two as' ds))) [
            | inl z ↦ let n = not_taken (check_two as' ds) z in
                let e : v ≡ check_two as' ds = q ∙ rw z refl in
                as_plain (not_so (λ u. n (unlinked_iff.0 u).0)) _ _
                (page_refused as' ds t out v e (λ y. n (sym (ap (λ w. w.answer) e) ∙ y)))
            | inr z ↦ let y = is_taken (check_two as' ds) z in
                let e : v ≡ unlinked = q ∙ rw z refl in
                let w = lent_refused (unlinked_iff.1 (y, unlinked_read as' links (sym (f ((two_taken_iff as' ds).0 y).0) ∙ h))) in
                record { answer = ap (λ x. answered x 0 false t) e ∙ sym w.answer; output = sym w.output }
          ]
