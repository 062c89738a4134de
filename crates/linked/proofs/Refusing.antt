-- Why it holds: The call is refused with LINKS where the lists are accepted and the words aren't
-- the ancestors' links. Everywhere else it is the plain call. These are theorems for the reader.
-- What would break it: LINKS given to lists that are refused, or a page that wrote in spite of it,
-- would be caught here.
use mathlib.Core.Path.{◌≡◌, sym, ap, ◌∙◌}
use mathlib.Core.Logic.{◌↔◌, ◌⊎◌, inl, inr, ⊎_elim}
use mathlib.Core.Bool.{false}
use mathlib.Core.List.{List}
use Prim.Native.Nat.{ℕ}
use native.Mathlib.Omega.{arith}
use Rattle.answers.specs.Answer.{TAKEN}
use Rattle.answers.specs.Verdict.{refusedb}
use Rattle.answers.proofs.VerdictLaws.{is_taken, not_taken}
use Rattle.nodes.specs.Words.{nodes}
use Rattle.lists.specs.Refusal.{Faulty, AtOdds}
use Rattle.lists.specs.Two.{check_two}
use Rattle.lists.proofs.Refused.{refused_iff}
use Rattle.laws.proofs.Tests.{either, never, so, not_so}
use Rattle.forest.specs.Linked.{links_in}
use Rattle.tickets.specs.declared.ticket.Ticket.{Ticket}
use Rattle.pairs.specs.Page.{page_of, output_after}
use Rattle.linked.specs.Page.{unlinked_page, unlinkedb, linked_page, linked_output}
use Rattle.linked.proofs.InWords.{linked_read, unlinked_read}
use Rattle.linked.proofs.Lending.{unlinked_iff, lent_plain, lent_refused}

module _ (ancestors descendants links : List ℕ) where
  abbrev Accepted : Type 0
  Accepted = (check_two ancestors descendants).answer ≡ TAKEN

  abbrev Right : Type 0
  Right = links ≡ links_in ancestors

  -- LINKS isn't given to right links,
  pub right_links : Right → unlinkedb ancestors descendants links ≡ false
  right_links r = not_so (λ h. ((unlinked_iff ancestors descendants links).0 h).1 r)

  -- and if it isn't given to accepted lists, the links are right.
  pub links_right : Accepted → unlinkedb ancestors descendants links ≡ false → Right
  links_right a h =
      linked_read ancestors links (so (λ u. never ((unlinked_iff ancestors descendants links).1 (a, unlinked_read ancestors links u)) h))

  module _ (t : Ticket) (out : List ℕ) where
    -- The call answers and writes as the plain one.
    abbrev Plain : Type 0
    Plain =
        (linked_page ancestors descendants links t out ≡ page_of ancestors descendants t out)
        × (linked_output ancestors descendants links t out ≡ output_after ancestors descendants t out)

    plain : unlinkedb ancestors descendants links ≡ false → Plain
    plain h = let p = lent_plain ancestors descendants links t out h in (p.answer, p.output)

    -- So it does with the ancestors' links, and where the lists are refused.
    pub plain_with_links : Right → Plain
    plain_with_links r = plain (right_links r)

    pub plain_if_refused : (Accepted → ⊥) → Plain
    plain_if_refused f = plain (not_so (λ h. f ((unlinked_iff ancestors descendants links).0 h).0))

    -- With other words and accepted lists it is refused with LINKS, and leaves the output as it
    -- was.
    pub refused_with_links : Accepted → (Right → ⊥)
        → (linked_page ancestors descendants links t out ≡ unlinked_page t) × (linked_output ancestors descendants links t out ≡ out)
    refused_with_links a f =
        let p = lent_refused ancestors descendants links t out ((unlinked_iff ancestors descendants links).1 (a, f)) in
        (p.answer, p.output)

    -- It isn't refused exactly if the lists are accepted and the words are the links.
    pub linked_taken_iff : ((linked_page ancestors descendants links t out).verdict.answer ≡ TAKEN) ↔ (Accepted × Right)
    unfolding page_of
    linked_taken_iff = (
      λ h. elim (either (unlinkedb ancestors descendants links)) [
        | inl u ↦ let p = (unlinked_iff ancestors descendants links).0 u in
            absurd (omega (arith, ap (λ q. q.verdict.answer) (refused_with_links p.0 p.1).0, h))
        | inr u ↦ let a : Accepted = sym (ap (λ q. q.verdict.answer) (plain u).0) ∙ h in (a, links_right a u)
      ],
      λ p. ap (λ q. q.verdict.answer) (plain_with_links p.1).0 ∙ p.0,
    )

    -- So it is refused exactly if a list has a fault, two nodes are at odds, or the words aren't
    -- the links.
    pub linked_refused_iff : ((linked_page ancestors descendants links t out).verdict.answer ≡ TAKEN → ⊥)
        ↔ (Faulty ancestors ⊎ (Faulty descendants ⊎ (AtOdds (nodes ancestors) (nodes descendants) ⊎ (Right → ⊥))))
    linked_refused_iff = (
      λ r. elim (either (refusedb (check_two ancestors descendants))) [
        | inl h ↦ elim ((refused_iff ancestors descendants).0 (not_taken (check_two ancestors descendants) h)) [
          | inl f ↦ inl f
          | inr f ↦ inr (⊎_elim (λ g. inl g) (λ g. inr (inl g)) f)
        ]
        | inr h ↦ inr (inr (inr (λ e. r (linked_taken_iff.1 (is_taken (check_two ancestors descendants) h, e)))))
      ],
      λ f e. let p = linked_taken_iff.0 e in
          elim f [
            | inl g ↦ (refused_iff ancestors descendants).1 (inl g) p.0
            | inr g ↦ elim g [
              | inl k ↦ (refused_iff ancestors descendants).1 (inr (inl k)) p.0
              | inr k ↦ ⊎_elim (λ o. (refused_iff ancestors descendants).1 (inr (inr o)) p.0) (λ n. n p.1) k
            ]
          ],
    )
