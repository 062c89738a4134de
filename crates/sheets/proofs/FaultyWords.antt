-- Why it holds: A word is tested against the most hundredths and the word for missing. A search
-- along the words stops at the first faulty one.
-- What would break it: A limit that is one off, or a faulty word passed over, would be caught here.
use mathlib.Core.Path.{◌≡◌, refl, sym, ap, ◌∙◌}
use mathlib.Core.Logic.{◌↔◌, inl, inr}
use mathlib.Core.Bool.{Bool, true, false, cond}
use mathlib.Core.List.{List}
use Prim.Native.Nat.{ℕ, ◌≤◌, ◌<◌}
use native.Mathlib.Omega.{arith}
use lib.Dec.{leb, ltb}
use lib.ListN.{length, get_or}
use borrow.Author.Tests.{leb-true, leb-false, ltb-true, lt-leb, eqb-false, ne_eqb}
use Rattle.std.specs.Prelude.{Some, None, position}
use Rattle.std.specs.List.{position_or_len}
use Rattle.std.proofs.lemmas.List.Recursion.{is_position_or_len}
use Rattle.laws.specs.Choose.{any, first_at}
use Rattle.laws.proofs.Choices.{all_at, any_none}
use Rattle.laws.proofs.First.{first_there, first_passes, before_first}
use Rattle.laws.proofs.Tests.{never, so, or_none, or_read, not_read, not_none}
use Rattle.sheets.specs.Hundredths.{MOST_HUNDREDTHS, NO_HUNDREDTHS, missingb, faulty_wordb}

pub word_faulty_iff : (word : ℕ) → (faulty_wordb word ≡ true) ↔ ((MOST_HUNDREDTHS < word) × (word ≡ NO_HUNDREDTHS → ⊥))
unfolding faulty_wordb missingb
word_faulty_iff word = (
  λ h. let p = or_none (leb word MOST_HUNDREDTHS) (not_read _ h) in (leb-false _ _ p.0, eqb-false _ _ p.1),
  λ h. rw (lt-leb word MOST_HUNDREDTHS h.0, ne_eqb word NO_HUNDREDTHS h.1),
)

-- A word that is neither faulty nor missing is a number of hundredths.
pub hundredths_few : (word : ℕ) → faulty_wordb word ≡ false → missingb word ≡ false → word ≤ MOST_HUNDREDTHS
unfolding faulty_wordb
hundredths_few word f m =
    elim (or_read (leb word MOST_HUNDREDTHS) (not_none _ f)) [ inl h ↦ leb-true _ _ h | inr h ↦ absurd (never h m) ]

search_same : (words : List ℕ) → first_at faulty_wordb words ≡ position_or_len faulty_wordb words
unfolding first_at
search_same words =
    is_position_or_len (first_at faulty_wordb) faulty_wordb refl (λ x xs. ap (cond (faulty_wordb x) 0) (omega arith)) words

some_told : (b : Bool) (n i : ℕ) → Some i ≡ cond b (Some n) None → (b ≡ true) × (i ≡ n)
some_told true n i q = (refl, cc)
some_told false n i q = absurd (cc)

none_told : (b : Bool) (n : ℕ) → None ≡ cond b (Some n) None → b ≡ false
none_told true n q = absurd (cc)
none_told false n q = refl

module _ (words : List ℕ) where
  -- The word at the index is faulty, and none before it is.
  abbrev pub FirstFaultyWord : ℕ → Type 0
  FirstFaultyWord i =
      (i < length words) × (faulty_wordb (get_or words i 0) ≡ true) × ((k : ℕ) → k < i → faulty_wordb (get_or words k 0) ≡ false)

  -- Where a word is faulty, the search finds the first,
  pub search_finds : any faulty_wordb words ≡ true → FirstFaultyWord (first_at faulty_wordb words)
  search_finds h =
      let there = ltb-true (first_at faulty_wordb words) (length words) (first_there faulty_wordb words ∙ h) in
      (there, first_passes faulty_wordb words 0 there, λ k l. before_first faulty_wordb words k 0 l)

  -- The library's search says whether there is one, and where.
  position_told : position faulty_wordb words ≡ cond (any faulty_wordb words) (Some (first_at faulty_wordb words)) None
  position_told =
      ap (λ n. cond (ltb n (length words)) (Some n) None) (sym (search_same words))
      ∙ ap (λ b. cond b (Some (first_at faulty_wordb words)) None) (first_there faulty_wordb words)

  pub position_some : (i : ℕ) → Some i ≡ position faulty_wordb words → (any faulty_wordb words ≡ true) × (i ≡ first_at faulty_wordb words)
  position_some i q = some_told (any faulty_wordb words) (first_at faulty_wordb words) i (q ∙ position_told)

  pub position_none : None ≡ position faulty_wordb words → any faulty_wordb words ≡ false
  position_none q = none_told (any faulty_wordb words) (first_at faulty_wordb words) (q ∙ position_told)

  -- and no other is the first.
  pub first_found : (i : ℕ) → FirstFaultyWord i → (any faulty_wordb words ≡ true) × (first_at faulty_wordb words ≡ i)
  first_found i h =
      let some = so (λ none. never h.1 (all_at (λ w. faulty_wordb w ≡ false) words i 0 h.0 (any_none faulty_wordb words none))) in
      let found = search_finds some in
      let later : first_at faulty_wordb words < i → ⊥ = λ l. never found.1 (h.2 _ l) in
      let earlier : i < first_at faulty_wordb words → ⊥ = λ l. never h.1 (found.2 i l) in
      (some, omega (arith, later, earlier))
