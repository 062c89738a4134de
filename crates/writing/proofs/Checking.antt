-- Why it holds: The check of what is to be written asks first for whole entries and nodes. Then it
-- asks for the contents and the bodies, as reading a book does.
-- What would break it: LONG, which the contents rule out, or a taken book that named a list would
-- be caught here.
use mathlib.Core.Path.{◌≡◌, ap, sym, ◌∙◌}
use mathlib.Core.Logic.{inl, inr}
use mathlib.Core.Bool.{◌||◌}
use mathlib.Core.List.{List}
use Prim.Native.Nat.{ℕ, ◌%◌}
use native.Mathlib.Omega.{arith}
use lib.Dec.{eqb}
use lib.ListN.{length}
use borrow.Author.Tests.{eqb-true, eq-eqb, ne_eqb}
use Rattle.answers.specs.Answer.{TAKEN, RAGGED, LONG}
use Rattle.nodes.specs.Words.{NODE_WORDS, nodes}
use Rattle.laws.proofs.Tests.{either}
use Rattle.contents.specs.Contents.{MOST_LISTS, brokenb}
use Rattle.lists.specs.Check.{raggedb}
use Rattle.answers.specs.declared.verdict.Verdict.{Verdict}
use Rattle.answers.specs.Verdict.{ANCESTORS, verdict, taken}
use Rattle.books.specs.Book.{check_parts}
use Rattle.books.proofs.Answers.{parts_draw, parts_faultless, fault_draws, from_level}
use Rattle.books.proofs.BookLaws.{parts_taken}
use Rattle.writing.specs.Wanted.{WANTED_WORDS, wanted, ragged_entries, contents_for, bodies_for, size_for, wanted_fault_up_to, wanted_fault}
use Rattle.writing.specs.WriteCall.{check_wanted_up_to, check_wanted}

module _ (entries list : List ℕ) where
  -- Words that don't make whole entries, or whole nodes.
  pub entries_ragged : (length entries % WANTED_WORDS ≡ 0 → ⊥) → verdict RAGGED ANCESTORS 0 ≡ check_wanted entries list
  unfolding check_wanted_up_to ragged_entries
  entries_ragged h = rw (ne_eqb (length entries % WANTED_WORDS) 0 h)

  pub nodes_ragged : length entries % WANTED_WORDS ≡ 0 → (length list % NODE_WORDS ≡ 0 → ⊥) → verdict RAGGED ANCESTORS 0 ≡ check_wanted entries list
  unfolding check_wanted_up_to ragged_entries raggedb
  nodes_ragged e h = rw (eq-eqb (length entries % WANTED_WORDS) 0 e, ne_eqb (length list % NODE_WORDS) 0 h)

  -- The verdict on whole entries and nodes.
  abbrev pub parts : Verdict
  parts = check_parts (wanted_fault (wanted entries) (nodes list)) (bodies_for (wanted entries) (nodes list))

  pub whole_checked : length entries % WANTED_WORDS ≡ 0 → length list % NODE_WORDS ≡ 0 → parts ≡ check_wanted entries list
  unfolding check_wanted_up_to ragged_entries raggedb
  whole_checked e l = rw (eq-eqb (length entries % WANTED_WORDS) 0 e, eq-eqb (length list % NODE_WORDS) 0 l)

  -- LONG is never given: a list that is too long breaks a rule of the contents.
  pub wanted_never_long : (check_wanted entries list).answer ≡ LONG → ⊥
  unfolding check_wanted_up_to wanted_fault_up_to
  wanted_never_long h =
      let fault = fault_draws (brokenb MOST_LISTS (length (wanted entries)) (contents_for (wanted entries)) (size_for (wanted entries) (nodes list))) in
      let l = from_level parts.answer (parts_draw (wanted_fault (wanted entries) (nodes list)) (bodies_for (wanted entries) (nodes list)) fault) in
      elim (either (ragged_entries entries || raggedb list)) [
        | inl r ↦ (let e = rw r at h in omega arith)
        | inr r ↦ (let e = rw r at h in let m = l (omega arith) in omega arith)
      ]

  -- What is taken is whole, has no fault in its contents, and names no list.
  module _ (t : (check_wanted entries list).answer ≡ TAKEN) where
    pub taken_whole : (length entries % WANTED_WORDS ≡ 0) × (length list % NODE_WORDS ≡ 0)
    unfolding check_wanted_up_to ragged_entries raggedb
    taken_whole =
        elim (either (eqb (length entries % WANTED_WORDS) 0)) [
          | inl e ↦ elim (either (eqb (length list % NODE_WORDS) 0)) [
            | inl l ↦ (eqb-true _ _ e, eqb-true _ _ l)
            | inr l ↦ (let z = rw (e, l) at t in absurd (omega arith))
          ]
          | inr e ↦ (let z = rw e at t in absurd (omega arith))
        ]

    checked : parts ≡ check_wanted entries list
    checked = whole_checked taken_whole.0 taken_whole.1

    pub taken_fault : wanted_fault (wanted entries) (nodes list) ≡ TAKEN
    taken_fault =
        parts_faultless (wanted_fault (wanted entries) (nodes list)) (bodies_for (wanted entries) (nodes list)) (ap (λ v. v.answer) checked ∙ t)

    pub taken_parts : parts ≡ taken
    taken_parts = parts_taken (wanted_fault (wanted entries) (nodes list)) (bodies_for (wanted entries) (nodes list)) (ap (λ v. v.answer) checked ∙ t)

    pub taken_all : check_wanted entries list ≡ taken
    taken_all = sym checked ∙ taken_parts
