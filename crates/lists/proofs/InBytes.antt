-- Why it holds: Each further node is sixteen further bytes. So bytes are RAGGED or LONG exactly
-- when the words that they make are, or when they make no whole words.
-- What would break it: A limit taken from the bytes or from the words instead of the nodes would be
-- caught here.
use mathlib.Core.Path.{◌≡◌, ap, ◌∙◌}
use mathlib.Core.Logic.{◌↔◌, inl, inr}
use mathlib.Core.List.{List}
use Prim.Native.Nat.{ℕ, ◌%◌, ◌/◌, ◌≤◌, ◌<◌}
use native.Mathlib.Omega.{arith}
use lib.Dec.{eqb}
use lib.ListN.{length}
use borrow.Author.Tests.{eq-eqb, ne_eqb, lt-ltb, eqb-true}
use Rattle.answers.specs.Answer.{TAKEN, RAGGED, LONG}
use Rattle.laws.specs.Choose.{All, EveryTwo}
use Rattle.nodes.specs.Words.{NODE_WORDS, MOST_NODES, nodes, count}
use Rattle.laws.proofs.Tests.{either}
use Rattle.numbers.specs.Little.{NUMBER_BYTES, NODE_BYTES, numbers}
use Rattle.numbers.proofs.LittleLaws.{length_numbers}
use Rattle.answers.specs.declared.verdict.Verdict.{Verdict}
use Rattle.lists.specs.Check.{check_nodes, raggedb, longb, word_fault, check_words, check_bytes}
use Rattle.answers.specs.Verdict.{ANCESTORS, verdict}
use Rattle.lists.proofs.Faults.{Sound}
use Rattle.lists.proofs.Taken.{Fine, whole_words, taken_iff, words_taken_iff}

module _ (bs : List ℕ) where
  -- The length of the bytes decides: they are RAGGED, or LONG, or their nodes are checked.
  pub ragged_bytes : (length bs % NODE_BYTES ≡ 0 → ⊥) → check_bytes bs ≡ verdict RAGGED ANCESTORS 0
  unfolding check_bytes check_words word_fault raggedb
  ragged_bytes h =
      elim (either (eqb (length bs % NUMBER_BYTES) 0)) [
        | inl p ↦ let e : length bs % NUMBER_BYTES ≡ 0 = eqb-true _ _ p in
            rw (p, ne_eqb (length (numbers bs) % NODE_WORDS) 0 (λ q. h (omega (arith, length_numbers bs))))
        | inr p ↦ rw p
      ]

  module _ (h : length bs % NODE_BYTES ≡ 0) where
    pub long_bytes : MOST_NODES < length bs / NODE_BYTES → check_bytes bs ≡ verdict LONG ANCESTORS 0
    unfolding check_bytes check_words word_fault raggedb longb
    long_bytes l =
        let q = length_numbers bs in
        rw (
          eq-eqb (length bs % NUMBER_BYTES) 0 (omega arith),
          eq-eqb (length (numbers bs) % NODE_WORDS) 0 (omega arith),
          lt-ltb MOST_NODES (count (numbers bs)) (omega arith),
        )

    pub whole_bytes : length bs / NODE_BYTES ≤ MOST_NODES → check_bytes bs ≡ check_nodes (nodes (numbers bs))
    unfolding check_bytes check_words
    whole_bytes l =
        let q = length_numbers bs in
        rw (eq-eqb (length bs % NUMBER_BYTES) 0 (omega arith), eq-eqb _ _ ((whole_words (numbers bs)).1 (omega arith, omega arith)))

  -- Bytes are taken exactly when they make whole nodes, not too many, and the list of these is
  -- taken.
  pub bytes_taken_iff : ((check_bytes bs).answer ≡ TAKEN)
      ↔ ((length bs % NODE_BYTES ≡ 0) × (length bs / NODE_BYTES ≤ MOST_NODES) × All Sound (nodes (numbers bs)) × EveryTwo Fine (nodes (numbers bs)))
  unfolding check_bytes
  bytes_taken_iff = (
    λ t. elim (either (eqb (length bs % NUMBER_BYTES) 0)) [
      | inl p ↦ let e : length bs % NUMBER_BYTES ≡ 0 = eqb-true _ _ p in
          let w = (words_taken_iff (numbers bs)).0 (rw p at t) in
          let q = length_numbers bs in
          (omega (arith, w.0), omega (arith, w.1), w.2, w.3)
      | inr p ↦ let e : RAGGED ≡ TAKEN = rw p at t in absurd (omega arith)
    ],
    λ h. ap (λ (v : Verdict). v.answer) (whole_bytes h.0 h.1) ∙ (taken_iff (nodes (numbers bs))).1 (h.2, h.3),
  )
