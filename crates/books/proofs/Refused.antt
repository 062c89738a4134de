-- Why it holds: The bodies are checked one by one, and each is judged as the words of its list are.
-- So the first one that isn't taken is a list with a fault.
-- What would break it: A list passed over by the check, or one refused without a fault, would be
-- caught here.
use mathlib.Core.Path.{◌≡◌, refl, sym, ap, subst, ◌∙◌}
use mathlib.Core.Logic.{◌↔◌, ◌⊎◌, inl, inr}
use mathlib.Core.List.{List, [], ◌∷◌, map}
use Prim.Native.Nat.{ℕ, suc, ◌<◌}
use native.Mathlib.Omega.{arith}
use lib.Dec.{eqb}
use lib.ListN.{length, get_or}
use borrow.Author.Tests.{eqb-true, eqb-false, eq-eqb}
use Rattle.answers.specs.Answer.{TAKEN}
use Rattle.answers.proofs.VerdictLaws.{not_taken}
use Rattle.answers.specs.Verdict.{refusedb}
use Rattle.laws.proofs.Tests.{either}
use Rattle.laws.specs.Choose.{All}
use Rattle.laws.proofs.Choices.{all_at}
use Rattle.contents.specs.declared.entry.Entry.{Entry}
use Rattle.contents.specs.Contents.{entry, lists_in, entry_at, contents_of, contents_fault}
use Rattle.contents.proofs.ContentLaws.{count_contents, entry_of, entry_within}
use Rattle.numbers.specs.Little.{numbers}
use Rattle.numbers.proofs.LittleLaws.{length_numbers}
use Rattle.lists.specs.Check.{check_nodes, check_words}
use Rattle.lists.proofs.Pairing.{list_passes}
use Rattle.lists.proofs.Refused.{list_refused_iff}
use Rattle.lists.proofs.Taken.{whole_words, words_check}
use Rattle.books.specs.Book.{body_of, list_at, nodes_of, check_bodies, check_parts, book_verdict_up_to, book_verdict}
use Rattle.books.specs.Refusal.{HasFaultyList}
use Rattle.books.proofs.BookLaws.{length_body}
use Rattle.books.proofs.FindLaws.{book_faultless}

-- The nodes of the body that an entry names are accepted.
abbrev Passes : List ℕ → Entry → Type 0
Passes book e = (check_nodes (nodes_of book e)).answer ≡ TAKEN

-- The bodies pass together exactly if each of them does.
bodies_iff : (book : List ℕ) (list : ℕ) (es : List Entry)
    → ((check_bodies list (map (nodes_of book) es)).answer ≡ TAKEN) ↔ All (Passes book) es
unfolding check_bodies
bodies_iff book list [] = (λ h. tt, λ h. refl)
bodies_iff book list (e ∷ es) =
    let p = list_passes list (check_nodes (nodes_of book e)) (check_bodies (suc list) (map (nodes_of book) es)) in
    let later = bodies_iff book (suc list) es in
    (λ h. let b = p.0 h in (b.0, later.0 b.1), λ h. p.1 (h.0, later.1 h.1))

module _ (book : List ℕ) (rules : contents_fault book ≡ TAKEN) where
  -- The book is its bodies' verdict, where its contents keep the rules.
  by_bodies : book_verdict book ≡ check_bodies 0 (map (nodes_of book) (contents_of book))
  unfolding book_verdict_up_to check_parts
  by_bodies = rw (eq-eqb (contents_fault book) TAKEN rules)

  module _ (position : ℕ) (there : position < lists_in book) where
    -- The nodes of a list are judged as its words are.
    list_judged : ((check_words (list_at book position)).answer ≡ TAKEN) ↔ Passes book (entry_at book position)
    unfolding list_at nodes_of
    list_judged =
        let e = entry_at book position in
        let w = entry_within book rules position there in
        let l = length_body book e w.1 in
        let n = length_numbers (body_of book e) in
        let c = words_check (numbers (body_of book e)) in
        (λ h. (c.0 h).1, λ h. c.1 ((whole_words (numbers (body_of book e))).1 (omega arith, omega arith), h))

-- A list of an accepted book is accepted.
pub list_taken : (book : List ℕ) → (book_verdict book).answer ≡ TAKEN → (position : ℕ) → position < lists_in book
    → (check_words (list_at book position)).answer ≡ TAKEN
list_taken book t position there =
    let rules = book_faultless book t in
    let each = (bodies_iff book 0 (contents_of book)).0 (rw (by_bodies book rules) at t) in
    let own = all_at (Passes book) (contents_of book) position (entry 0 0 0) (omega (arith, count_contents book rules)) each in
    (list_judged book rules position there).1 (subst (Passes book) (entry_of book rules position there) own)

-- Bodies that don't pass together have one among them that doesn't pass.
body_found : {P : Type 0} (book : List ℕ) (list : ℕ) (es : List Entry) → ((check_bodies list (map (nodes_of book) es)).answer ≡ TAKEN → ⊥)
    → ((i : ℕ) → i < length es → (Passes book (get_or es i (entry 0 0 0)) → ⊥) → P) → P
unfolding check_bodies
body_found book list [] h f = absurd (h refl)
body_found book list (e ∷ es) h f =
    elim (either (refusedb (check_nodes (nodes_of book e)))) [
      | inl r ↦ f 0 (omega arith) (not_taken (check_nodes (nodes_of book e)) r)
      | inr r ↦ body_found book (suc list) es (rw r at h) (λ i l n. f (suc i) (omega arith) n)
    ]

-- A book is refused exactly when its contents break a rule, or one of its lists has a fault.
pub book_refused_iff : (book : List ℕ) → ((book_verdict book).answer ≡ TAKEN → ⊥) ↔ ((contents_fault book ≡ TAKEN → ⊥) ⊎ HasFaultyList book)
book_refused_iff book = (
  λ h. elim (either (eqb (contents_fault book) TAKEN)) [
    | inr c ↦ inl (eqb-false (contents_fault book) TAKEN c)
    | inl c ↦ let rules = eqb-true (contents_fault book) TAKEN c in
        body_found book 0 (contents_of book) (λ t. h (ap (λ v. v.answer) (by_bodies book rules) ∙ t)) (λ i l n.
        let there : i < lists_in book = omega (arith, count_contents book rules) in
        let refused : (check_words (list_at book i)).answer ≡ TAKEN → ⊥ =
        λ t. n (subst (Passes book) (sym (entry_of book rules i there)) ((list_judged book rules i there).0 t)) in
        inr (record { position = i; there = there; faulty = (list_refused_iff (list_at book i)).0 refused }))
  ],
  λ f t. elim f [
    | inl c ↦ c (book_faultless book t)
    | inr l ↦ (list_refused_iff (list_at book l.position)).1 l.faulty (list_taken book t l.position l.there)
  ],
)
