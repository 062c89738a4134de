-- Why it holds: The list's own refusal comes first. Of an accepted list the links are compared word
-- by word. These are theorems for the reader.
-- What would break it: LINKS for a list that is refused itself, or right links refused, would be
-- caught here.
use mathlib.Core.Path.{◌≡◌, refl, sym, ap, subst, ◌∙◌}
use mathlib.Core.Logic.{◌↔◌, inl, inr}
use mathlib.Core.Bool.{true, false}
use mathlib.Core.List.{List}
use Prim.Native.Nat.{ℕ, ◌*◌}
use native.Mathlib.Omega.{arith}
use lib.ListN.{length, take}
use Rattle.answers.specs.Answer.{TAKEN, LINKS}
use Rattle.answers.specs.Output.{written, output_of}
use Rattle.answers.specs.Verdict.{refusedb}
use Rattle.answers.specs.declared.verdict.Verdict.{Verdict}
use Rattle.answers.proofs.OutputLaws.{written_begins, answer_fault, if_taken_lem}
use Rattle.answers.proofs.VerdictLaws.{refuses, accepts, not_taken, is_taken}
use Rattle.laws.proofs.Tests.{either}
use Rattle.nodes.specs.Words.{nodes}
use Rattle.nodes.proofs.WordLaws.{length_nodes}
use Rattle.lists.specs.Check.{check_words}
use Rattle.lists.proofs.Drawn.{two_draws}
use Rattle.lists.proofs.Naming.{two_first}
use Rattle.forest.specs.Links.{LINK_WORDS}
use Rattle.forest.specs.Linked.{links_in, linked_of, links_output}
use Rattle.forest.proofs.LinkLaws.{links_length}
use Rattle.linked.specs.Check.{linkedb, unlinked, check_links}
use Rattle.linked.proofs.InWords.{linked_read, linked_make, unlinked_read, unlinked_make}

-- The three answers of a check of links: the list's own refusal, TAKEN and LINKS.
module _ (list links : List ℕ) where
  pub links_own : ((check_words list).answer ≡ TAKEN → ⊥) → check_links list links ≡ check_words list
  unfolding check_links
  links_own h = rw (refuses (check_words list) h) refl

  module _ (h : (check_words list).answer ≡ TAKEN) where
    pub links_right : linkedb list links ≡ true → check_links list links ≡ check_words list
    unfolding check_links
    links_right t = rw (accepts (check_words list) h, t) refl

    pub links_wrong : linkedb list links ≡ false → check_links list links ≡ unlinked
    unfolding check_links
    links_wrong t = rw (accepts (check_words list) h, t) refl

    pub links_other : (links ≡ links_in list → ⊥) → check_links list links ≡ unlinked
    links_other f = links_wrong (unlinked_make list links f)

  -- Whichever answer it is, if the list is taken or not, and the links are right or not.
  by_answer : (P : Verdict → Type 0) → (((check_words list).answer ≡ TAKEN → ⊥) → P (check_words list))
      → ((check_words list).answer ≡ TAKEN → links ≡ links_in list → P (check_words list))
      → ((check_words list).answer ≡ TAKEN → (links ≡ links_in list → ⊥) → P unlinked) → P (check_links list links)
  by_answer P own right wrong =
      elim (either (refusedb (check_words list))) [
        | inl r ↦ let n = not_taken (check_words list) r in subst P (sym (links_own n)) (own n)
        | inr r ↦ let h = is_taken (check_words list) r in
            elim (either (linkedb list links)) [
              | inl t ↦ subst P (sym (links_right h t)) (right h (linked_read list links t))
              | inr t ↦ subst P (sym (links_wrong h t)) (wrong h (unlinked_read list links t))
            ]
      ]

  -- Links are taken exactly if the list is, and they are its links.
  pub links_taken_iff : ((check_links list links).answer ≡ TAKEN) ↔ (((check_words list).answer ≡ TAKEN) × (links ≡ links_in list))
  links_taken_iff = (
    by_answer (λ v. v.answer ≡ TAKEN → ((check_words list).answer ≡ TAKEN) × (links ≡ links_in list)) (λ n q. absurd (n q)) (λ h e q. (h, e))
        (λ h n q. absurd (omega arith)),
    λ p. ap (λ v. v.answer) (links_right p.0 (linked_make list links p.1)) ∙ p.0,
  )

  -- They are refused with LINKS exactly if the list is taken and they aren't its links.
  pub links_refused_iff : ((check_links list links).answer ≡ LINKS) ↔ (((check_words list).answer ≡ TAKEN) × (links ≡ links_in list → ⊥))
  links_refused_iff = (
    by_answer (λ v. v.answer ≡ LINKS → ((check_words list).answer ≡ TAKEN) × (links ≡ links_in list → ⊥))
        (λ n q. absurd (omega (arith, q, two_draws list list, ap (λ v. v.answer) (two_first list list n)))) (λ h e q. absurd (omega (arith, h, q)))
        (λ h n q. (h, n)),
    λ p. ap (λ v. v.answer) (links_other p.0 p.1),
  )

module _ (list out : List ℕ) (h : (linked_of list out).verdict.answer ≡ TAKEN) where
  -- A list that a call has linked is accepted,
  pub linked_accepted : (check_words list).answer ≡ TAKEN
  unfolding linked_of
  linked_accepted =
      elim (either (refusedb (check_words list))) [
        | inl r ↦ let f = not_taken (check_words list) r in absurd (f (sym (answer_fault (check_words list).answer (links_in list) out f) ∙ h))
        | inr r ↦ is_taken (check_words list) r
      ]

  -- and what it writes are its links.
  pub links_written : take (LINK_WORDS * (linked_of list out).count) (links_output list out) ≡ links_in list
  unfolding linked_of links_output output_of
  links_written =
      let fault = (check_words list).answer in
      let ws = links_in list in
      let counted = if_taken_lem fault ws out (length (nodes list)) 0 h in
      let put = if_taken_lem fault ws out (written ws out) out h in
      let long : length ws ≡ 3 * length (nodes list) = links_length list ∙ ap (λ n. 3 * n) (sym (length_nodes list)) in
      ap (λ n. take (3 * n) (output_of fault ws out)) counted ∙ ap (take (3 * length (nodes list))) put
      ∙ ap (λ n. take n (written ws out)) (sym long) ∙ written_begins ws out
