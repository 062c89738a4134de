-- Why it holds: Only one rule of the contents speaks of the limit. Lists within two limits are
-- written the same under both, and under a limit that they exceed nothing is written.
-- What would break it: A second place that asks about the limit, or a byte that depends on it,
-- would be caught here.
use mathlib.Core.Path.{◌≡◌, refl, sym, ◌∙◌}
use mathlib.Core.Bool.{◌||◌}
use mathlib.Core.Logic.{inl, inr}
use mathlib.Core.List.{List}
use Prim.Native.Nat.{ℕ, ◌%◌, ◌≤◌, ◌<◌}
use native.Mathlib.Omega.{arith}
use lib.Dec.{ltb}
use lib.ListN.{length}
use borrow.Author.Tests.{ltb-true, ltb-false, eq-eqb}
use Rattle.answers.specs.Answer.{TAKEN, CONTENTS}
use Rattle.answers.specs.Output.{written, answer_of, if_taken, output_of}
use Rattle.answers.specs.Verdict.{ANCESTORS, verdict, counted}
use Rattle.answers.proofs.OutputLaws.{answer_fault, if_refused}
use Rattle.laws.proofs.Tests.{either}
use Rattle.nodes.specs.Words.{NODE_WORDS, nodes}
use Rattle.lists.specs.Check.{raggedb}
use Rattle.contents.proofs.ContentLaws.{many_broken, broken_alike}
use Rattle.books.specs.Book.{check_parts}
use Rattle.writing.specs.Wanted.{WANTED_WORDS, wanted, ragged_entries, contents_for, size_for, wanted_fault_up_to}
use Rattle.writing.specs.WriteCall.{bytes_for, check_wanted_up_to, written_of_up_to, written_output_up_to}

-- More lists than the limit:
module _ (most : ℕ) (entries list : List ℕ) (h : most < length (wanted entries)) where
  many_fault : wanted_fault_up_to most (wanted entries) (nodes list) ≡ CONTENTS
  unfolding wanted_fault_up_to
  many_fault = rw (many_broken most (length (wanted entries)) (contents_for (wanted entries)) (size_for (wanted entries) (nodes list)) h)

  many_untaken : (check_wanted_up_to most entries list).answer ≡ TAKEN → ⊥
  unfolding check_wanted_up_to check_parts
  many_untaken t =
      elim (either (ragged_entries entries || raggedb list)) [
        | inl r ↦ (let e = rw r at t in omega arith)
        | inr r ↦ (let e = rw (r, many_fault) at t in omega arith)
      ]

  -- Nothing is written, whatever the words are.
  pub many_unwritten : (out : List ℕ) → written_output_up_to most entries list out ≡ out
  unfolding written_output_up_to output_of
  many_unwritten out =
      let fault = (check_wanted_up_to most entries list).answer in
      let book = bytes_for entries list in
      if_refused fault book out (written book out) out (λ t. many_untaken (sym (answer_fault fault book out many_untaken) ∙ t))

  -- In whole entries, with whole nodes, they are refused with CONTENTS.
  module _ (whole : length entries % WANTED_WORDS ≡ 0) (full : length list % NODE_WORDS ≡ 0) where
    many_checked : check_wanted_up_to most entries list ≡ verdict CONTENTS ANCESTORS 0
    unfolding check_wanted_up_to check_parts ragged_entries raggedb
    many_checked = rw (eq-eqb (length entries % WANTED_WORDS) 0 whole, eq-eqb (length list % NODE_WORDS) 0 full, many_fault)

    pub many_answered : (out : List ℕ) → written_of_up_to most entries list out ≡ counted (verdict CONTENTS ANCESTORS 0) 0
    unfolding written_of_up_to if_taken answer_of
    many_answered out = rw many_checked

-- So what is taken has no more lists than the limit.
pub written_few : (most : ℕ) (entries list : List ℕ) → (check_wanted_up_to most entries list).answer ≡ TAKEN → length (wanted entries) ≤ most
written_few most entries list t =
    elim (either (ltb most (length (wanted entries)))) [
      | inl h ↦ absurd (many_untaken most entries list (ltb-true _ _ h) t)
      | inr h ↦ ltb-false _ _ h
    ]

-- Lists within two limits:
module _ (fewer more : ℕ) (entries list : List ℕ) (h : length (wanted entries) ≤ fewer) (k : length (wanted entries) ≤ more) where
  fault_alike : wanted_fault_up_to fewer (wanted entries) (nodes list) ≡ wanted_fault_up_to more (wanted entries) (nodes list)
  unfolding wanted_fault_up_to
  fault_alike = rw (broken_alike fewer more (length (wanted entries)) (contents_for (wanted entries)) (size_for (wanted entries) (nodes list)) h k)

  pub check_alike : check_wanted_up_to fewer entries list ≡ check_wanted_up_to more entries list
  unfolding check_wanted_up_to
  check_alike = rw fault_alike

  pub written_alike : (out : List ℕ) → (written_of_up_to fewer entries list out ≡ written_of_up_to more entries list out)
      × (written_output_up_to fewer entries list out ≡ written_output_up_to more entries list out)
  unfolding written_of_up_to written_output_up_to
  written_alike out = rw check_alike (refl, refl)
