-- Why it holds: The checks go from one test to the next while nothing is wrong, and the room comes
-- last. So TAKEN means that every test has passed, and a refusal names the first that hasn't.
-- What would break it: A test left out, or one tried out of its turn, would be caught here.
use mathlib.Core.Path.{◌≡◌, refl, ap, sym, subst, ◌∙◌}
use mathlib.Core.Logic.{◌↔◌, inl, inr}
use mathlib.Core.Bool.{true, false}
use mathlib.Core.List.{List}
use Prim.Native.Nat.{ℕ, ◌*◌, ◌≤◌, ◌<◌}
use native.Mathlib.Omega.{arith}
use lib.Dec.{ltb, eqb}
use lib.ListN.{length}
use borrow.Author.Tests.{ltb-true, ltb-false, eqb-true, eqb-false, eq-eqb, ne_eqb}
use Rattle.answers.specs.Answer.{TAKEN, RAGGED, ROOM, READING}
use Rattle.answers.specs.declared.verdict.Verdict.{Verdict}
use Rattle.answers.specs.Output.{written, answer_of, output_of}
use Rattle.answers.specs.Verdict.{ANCESTORS, verdict, taken, counted}
use Rattle.answers.proofs.OutputLaws.{answer_fault, answer_room, answer_taken, if_taken_lem}
use Rattle.answers.proofs.VerdictLaws.{refuses, accepts}
use Rattle.laws.specs.Choose.{All, any, first_at}
use Rattle.laws.proofs.Choices.{any_none, none_any}
use Rattle.laws.proofs.Tests.{either}
use Rattle.nodes.specs.Words.{nodes, count}
use Rattle.nodes.proofs.WordLaws.{length_nodes}
use Rattle.lists.specs.Two.{check_two}
use Rattle.lists.proofs.Drawn.{two_draws}
use Rattle.sheets.specs.Demanded.{AcceptedSheet}
use Rattle.sheets.specs.Hundredths.{faulty_wordb}
use Rattle.sheets.specs.Sheet.{SUBTOTAL_WORDS, sheet_subtotals, sheet_in, matchedb, check_sheet, sheet_of, sheet_output}
use Rattle.sheets.proofs.FaultyWords.{FirstFaultyWord, search_finds, first_found}
use Rattle.sheets.proofs.RowPlaces.{length_subtotals, rows_many}

module _ (zones samples hundredths : List ℕ) where
  -- The tests before the room have passed.
  abbrev pub Checked : Type 0
  Checked =
      ((check_two zones samples).answer ≡ TAKEN) × (length hundredths ≡ count samples) × All (λ w. faulty_wordb w ≡ false) hundredths

  pub sheet_length : length (sheet_in zones samples hundredths) ≡ SUBTOTAL_WORDS * count zones
  unfolding sheet_in
  sheet_length = length_subtotals (sheet_subtotals zones samples hundredths) ∙ ap (λ n. SUBTOTAL_WORDS * n) (rows_many zones samples hundredths)

  abbrev checked : Verdict
  checked = check_sheet zones samples hundredths

  -- The verdict of each test that fails, and of none.
  pub lists_fail : ((check_two zones samples).answer ≡ TAKEN → ⊥) → checked ≡ check_two zones samples
  unfolding check_sheet
  lists_fail h = rw (refuses (check_two zones samples) h) refl

  module _ (t : (check_two zones samples).answer ≡ TAKEN) where
    pub count_fails : (length hundredths ≡ count samples → ⊥) → checked ≡ verdict RAGGED ANCESTORS 0
    unfolding check_sheet matchedb
    count_fails h = rw (accepts (check_two zones samples) t, ne_eqb (length hundredths) (count samples) h) refl

    module _ (m : length hundredths ≡ count samples) where
      pub word_fails : any faulty_wordb hundredths ≡ true → checked ≡ verdict READING ANCESTORS (first_at faulty_wordb hundredths)
      unfolding check_sheet matchedb
      word_fails f = rw (accepts (check_two zones samples) t, eq-eqb (length hundredths) (count samples) m, f) refl

      pub none_fails : any faulty_wordb hundredths ≡ false → checked ≡ taken
      unfolding check_sheet matchedb
      none_fails f = rw (accepts (check_two zones samples) t, eq-eqb (length hundredths) (count samples) m, f) refl

  -- What the checks answer, one case for each test.
  data CheckedBy (v : Verdict) : Type 0 where
    lists_wrong : ((check_two zones samples).answer ≡ TAKEN → ⊥) → v ≡ check_two zones samples → CheckedBy v
    count_wrong : (check_two zones samples).answer ≡ TAKEN → (length hundredths ≡ count samples → ⊥) → v ≡ verdict RAGGED ANCESTORS 0 → CheckedBy v
    word_wrong : (check_two zones samples).answer ≡ TAKEN → length hundredths ≡ count samples → any faulty_wordb hundredths ≡ true
        → v ≡ verdict READING ANCESTORS (first_at faulty_wordb hundredths) → CheckedBy v
    nothing_wrong : Checked → v ≡ taken → CheckedBy v

  checked_by : CheckedBy checked
  checked_by =
      elim (either (eqb (check_two zones samples).answer TAKEN)) [
        | inr c ↦ let h = eqb-false (check_two zones samples).answer TAKEN c in lists_wrong h (lists_fail h)
        | inl c ↦ let t = eqb-true (check_two zones samples).answer TAKEN c in
            elim (either (eqb (length hundredths) (count samples))) [
              | inr d ↦ let h = eqb-false (length hundredths) (count samples) d in count_wrong t h (count_fails t h)
              | inl d ↦ let m = eqb-true (length hundredths) (count samples) d in
                  elim (either (any faulty_wordb hundredths)) [
                    | inl f ↦ word_wrong t m f (word_fails t m f)
                    | inr f ↦ nothing_wrong (t, m, any_none faulty_wordb hundredths f) (none_fails t m f)
                  ]
            ]
      ]

  -- Where they answer TAKEN, every test has passed.
  pub check_taken : checked.answer ≡ TAKEN → Checked × (checked ≡ taken)
  check_taken a =
      elim checked_by [
        | lists_wrong n e ↦ absurd (n (ap (λ v. v.answer) (sym e) ∙ a))
        | count_wrong t n e ↦ let z = ap (λ v. v.answer) e in absurd (omega (arith, a, z))
        | word_wrong t m f e ↦ let z = ap (λ v. v.answer) e in absurd (omega (arith, a, z))
        | nothing_wrong c e ↦ (c, e)
      ]

  module _ (out : List ℕ) where
    -- All tests have passed.
    abbrev pub Passed : Type 0
    Passed = ((check_two zones samples).answer ≡ TAKEN) × (length hundredths ≡ count samples)
        × All (λ w. faulty_wordb w ≡ false) hundredths × (SUBTOTAL_WORDS * count zones ≤ length out)

    abbrev answered : Verdict
    answered = (sheet_of zones samples hundredths out).verdict

    abbrev rows : List ℕ
    rows = sheet_in zones samples hundredths

    -- A fault is answered as it was found. Without one, the room decides.
    pub fault_answered : (checked.answer ≡ TAKEN → ⊥) → answered ≡ checked
    unfolding sheet_of
    fault_answered h = let a = answer_fault checked.answer rows out h in λ t. verdict (a t) checked.list checked.index

    module _ (e : checked ≡ taken) where
      pub room_told : length out < SUBTOTAL_WORDS * count zones → answered ≡ verdict ROOM ANCESTORS 0
      unfolding sheet_of
      room_told l =
          let a = answer_room checked.answer rows out (ap (λ v. v.answer) e) (omega (arith, sheet_length)) in
          λ t. verdict (a t) (e t).list (e t).index

      module _ (l : SUBTOTAL_WORDS * count zones ≤ length out) where
        none_wrong : answer_of checked.answer rows out ≡ TAKEN
        none_wrong = answer_taken checked.answer rows out (ap (λ v. v.answer) e) (omega (arith, sheet_length))

        pub taken_told : sheet_of zones samples hundredths out ≡ counted taken (count zones)
        unfolding sheet_of
        taken_told =
            let k = if_taken_lem checked.answer rows out (length (nodes zones)) 0 none_wrong ∙ length_nodes zones in
            λ t. counted (verdict (none_wrong t) (e t).list (e t).index) (k t)

        pub rows_written : sheet_output zones samples hundredths out ≡ written rows out
        unfolding sheet_output output_of
        rows_written = if_taken_lem checked.answer rows out (written rows out) out none_wrong

    -- What the call answers, one case for each test.
    data AnsweredBy (v : Verdict) : Type 0 where
      by_lists : ((check_two zones samples).answer ≡ TAKEN → ⊥) → v ≡ check_two zones samples → AnsweredBy v
      by_count : (check_two zones samples).answer ≡ TAKEN → (length hundredths ≡ count samples → ⊥) → v ≡ verdict RAGGED ANCESTORS 0 → AnsweredBy v
      by_word : (check_two zones samples).answer ≡ TAKEN → length hundredths ≡ count samples → any faulty_wordb hundredths ≡ true
          → v ≡ verdict READING ANCESTORS (first_at faulty_wordb hundredths) → AnsweredBy v
      by_room : Checked → length out < SUBTOTAL_WORDS * count zones → v ≡ verdict ROOM ANCESTORS 0 → AnsweredBy v
      by_none : Passed → v ≡ taken → AnsweredBy v

    fault_as : (v : Verdict) → checked ≡ v → (v.answer ≡ TAKEN → ⊥) → answered ≡ v
    fault_as v e h = fault_answered (λ t. h (ap (λ w. w.answer) (sym e) ∙ t)) ∙ e

    answered_by : AnsweredBy answered
    answered_by =
        elim checked_by [
          | lists_wrong n e ↦ by_lists n (fault_as _ e n)
          | count_wrong t n e ↦ by_count t n (fault_as _ e (λ z. omega (arith, z)))
          | word_wrong t m f e ↦ by_word t m f (fault_as _ e (λ z. omega (arith, z)))
          | nothing_wrong c e ↦ elim (either (ltb (length out) (SUBTOTAL_WORDS * count zones))) [
            | inl l ↦ by_room c (ltb-true _ _ l) (room_told e (ltb-true _ _ l))
            | inr l ↦ let fits = ltb-false (length out) (SUBTOTAL_WORDS * count zones) l in
                by_none (c.0, c.1, c.2, fits) (ap (λ r. r.verdict) (taken_told e fits))
          ]
        ]

    -- A call is accepted exactly when all tests have passed.
    pub accepted_iff : AcceptedSheet zones samples hundredths out ↔ Passed
    accepted_iff = (
      λ a. elim answered_by [
        | by_lists n e ↦ absurd (n (ap (λ v. v.answer) (sym e) ∙ a))
        | by_count t n e ↦ let z = ap (λ v. v.answer) e in absurd (omega (arith, a, z))
        | by_word t m f e ↦ let z = ap (λ v. v.answer) e in absurd (omega (arith, a, z))
        | by_room c l e ↦ let z = ap (λ v. v.answer) e in absurd (omega (arith, a, z))
        | by_none p e ↦ p
      ],
      λ p. ap (λ r. r.verdict.answer) (taken_told (none_fails p.0 p.1 (none_any faulty_wordb hundredths p.2)) p.3),
    )

    -- Then it counts the zones, and writes the sheet.
    module _ (a : AcceptedSheet zones samples hundredths out) where
      none_faulty : checked ≡ taken
      none_faulty = let p = accepted_iff.0 a in none_fails p.0 p.1 (none_any faulty_wordb hundredths p.2)

      pub accepted_answer : sheet_of zones samples hundredths out ≡ counted taken (count zones)
      accepted_answer = taken_told none_faulty (accepted_iff.0 a).3

      pub accepted_output : sheet_output zones samples hundredths out ≡ written (sheet_in zones samples hundredths) out
      accepted_output = rows_written none_faulty (accepted_iff.0 a).3

    -- A fault of the lists is the answer, before all others.
    pub lists_told : ((check_two zones samples).answer ≡ TAKEN → ⊥) → answered ≡ check_two zones samples
    lists_told h = fault_as _ (lists_fail h) h

    -- Past it, RAGGED is answered where the words aren't as many as the samples.
    pub ragged_iff : (check_two zones samples).answer ≡ TAKEN → (answered ≡ verdict RAGGED ANCESTORS 0) ↔ (length hundredths ≡ count samples → ⊥)
    ragged_iff t = (
      λ h. elim answered_by [
        | by_lists n e ↦ absurd (n t)
        | by_count u n e ↦ n
        | by_word u m f e ↦ let z = ap (λ v. v.answer) (sym e ∙ h) in absurd (omega (arith, z))
        | by_room c l e ↦ let z = ap (λ v. v.answer) (sym e ∙ h) in absurd (omega (arith, z))
        | by_none p e ↦ let z = ap (λ v. v.answer) (sym e ∙ h) in absurd (omega (arith, z))
      ],
      λ n. fault_as _ (count_fails t n) (λ z. omega (arith, z)),
    )

    -- READING is answered past the first two tests, at the first faulty word,
    reading_told : answered.answer ≡ READING → (answered ≡ verdict READING ANCESTORS answered.index)
        × ((check_two zones samples).answer ≡ TAKEN) × (length hundredths ≡ count samples) × FirstFaultyWord hundredths answered.index
    reading_told h =
        elim answered_by [
          | by_lists n e ↦ let z = ap (λ v. v.answer) e in absurd (omega (arith, z, h, two_draws zones samples))
          | by_count t n e ↦ let z = ap (λ v. v.answer) e in absurd (omega (arith, z, h))
          | by_word t m f e ↦ let i = ap (λ v. v.index) e in
              (e ∙ ap (verdict READING ANCESTORS) (sym i), t, m, subst (FirstFaultyWord hundredths) (sym i) (search_finds hundredths f))
          | by_room c l e ↦ let z = ap (λ v. v.answer) e in absurd (omega (arith, z, h))
          | by_none p e ↦ let z = ap (λ v. v.answer) e in absurd (omega (arith, z, h))
        ]

    pub reading_iff : (i : ℕ) → (answered ≡ verdict READING ANCESTORS i)
        ↔ (((check_two zones samples).answer ≡ TAKEN) × (length hundredths ≡ count samples) × FirstFaultyWord hundredths i)
    reading_iff i = (
      λ h. let r = reading_told (ap (λ v. v.answer) h) in (r.1, r.2, subst (FirstFaultyWord hundredths) (ap (λ v. v.index) h) r.3),
      λ h. let f = first_found hundredths i h.2 in
          fault_as _ (word_fails h.0 h.1 f.0) (λ z. omega (arith, z)) ∙ ap (verdict READING ANCESTORS) f.1,
    )

    -- and no other refusal has that answer.
    pub reading_named : answered.answer ≡ READING → answered ≡ verdict READING ANCESTORS answered.index
    reading_named h = (reading_told h).0

    -- ROOM is answered past all other tests, where the output is too short.
    pub room_iff : (answered ≡ verdict ROOM ANCESTORS 0) ↔ (((check_two zones samples).answer ≡ TAKEN)
        × (length hundredths ≡ count samples) × All (λ w. faulty_wordb w ≡ false) hundredths × (length out < SUBTOTAL_WORDS * count zones))
    room_iff = (
      λ h. elim answered_by [
        | by_lists n e ↦ let z = ap (λ v. v.answer) (sym e ∙ h) in absurd (omega (arith, z, two_draws zones samples))
        | by_count t n e ↦ let z = ap (λ v. v.answer) (sym e ∙ h) in absurd (omega (arith, z))
        | by_word t m f e ↦ let z = ap (λ v. v.answer) (sym e ∙ h) in absurd (omega (arith, z))
        | by_room c l e ↦ (c.0, c.1, c.2, l)
        | by_none p e ↦ let z = ap (λ v. v.answer) (sym e ∙ h) in absurd (omega (arith, z))
      ],
      λ h. room_told (none_fails h.0 h.1 (none_any faulty_wordb hundredths h.2)) h.3,
    )
