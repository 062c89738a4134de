-- Why it holds: A subtotal is added up sample by sample. So where no sample passes two tests, the
-- samples that pass either have the two subtotals' sum.
-- What would break it: A sample counted twice, or left out of a column, would be caught here.
use mathlib.Core.Path.{◌≡◌, refl, ap, sym, ◌∙◌}
use mathlib.Core.Logic.{inl, inr}
use mathlib.Core.Bool.{Bool, true, false, ◌||◌}
use mathlib.Core.List.{List, [], ◌∷◌, map}
use native.Mathlib.Omega.{arith}
use Rattle.laws.specs.Choose.{All, EveryTwo, any, keep}
use Rattle.laws.proofs.Choices.{all_map, all_of, keep_none, none_any}
use Rattle.laws.proofs.Tests.{either}
use Rattle.sheets.specs.declared.subtotal.Subtotal.{Subtotal}
use Rattle.sheets.specs.Demanded.{total_of}
use Rattle.sheets.specs.Sheet.{LabSample, sum_of, subtotal_over, plus}
use Rattle.sheets.proofs.Subtotals.{columns, over_append}

-- They are added in any order.
plus_grouped : (t u v : Subtotal) → plus t (plus u v) ≡ plus (plus t u) v
plus_grouped t u v = columns (omega arith) (omega arith) (omega arith)

plus_second : (t u v : Subtotal) → plus t (plus u v) ≡ plus u (plus t v)
plus_second t u v = columns (omega arith) (omega arith) (omega arith)

-- One sample more adds its own subtotal.
one_more : (s : LabSample) (ss : List LabSample) → subtotal_over (s ∷ ss) ≡ plus (subtotal_over (s ∷ [])) (subtotal_over ss)
one_more s ss = over_append (s ∷ []) ss

-- Where no sample passes both tests, the samples that pass either have the sum.
pub either_adds : (f g : LabSample → Bool) (ss : List LabSample) → All (λ s. f s ≡ true → g s ≡ false) ss
    → subtotal_over (keep (λ s. f s || g s) ss) ≡ plus (subtotal_over (keep f ss)) (subtotal_over (keep g ss))
unfolding keep subtotal_over sum_of
either_adds f g [] h = refl
either_adds f g (s ∷ ss) h =
    let one = subtotal_over (s ∷ []) in
    let fs = subtotal_over (keep f ss) in
    let gs = subtotal_over (keep g ss) in
    let more = one_more s (keep (λ t. f t || g t) ss) ∙ ap (plus one) (either_adds f g ss h.1) in
    elim (either (f s)) [
      | inl a ↦ rw (a, h.0 a) (more ∙ plus_grouped one fs gs ∙ ap (λ t. plus t gs) (sym (one_more s (keep f ss))))
      | inr a ↦ elim (either (g s)) [
        | inl b ↦ rw (a, b) (more ∙ plus_second one fs gs ∙ ap (plus fs) (sym (one_more s (keep g ss))))
        | inr b ↦ rw (a, b) (either_adds f g ss h.1)
      ]
    ]

-- Where no sample passes two of some tests, their subtotals add up to that of the samples that pass
-- any.
pub any_adds : {A : Type 0} (test : A → LabSample → Bool) (xs : List A) (ss : List LabSample)
    → All (λ s. EveryTwo (λ x y. test x s ≡ true → test y s ≡ false) xs) ss
    → total_of (map (λ x. subtotal_over (keep (test x) ss)) xs) ≡ subtotal_over (keep (λ s. any (λ x. test x s) xs) ss)
unfolding total_of any subtotal_over keep sum_of
any_adds test [] ss h = sym (ap subtotal_over (keep_none (λ s. false) ss (all_of (λ s. refl) ss)))
any_adds test (x ∷ xs) ss h =
    ap (plus (subtotal_over (keep (test x) ss))) (any_adds test xs ss (all_map (λ s k. k.1) ss h))
    ∙ sym (either_adds (test x) (λ s. any (λ y. test y s) xs) ss
    (all_map (λ s k t. none_any (λ y. test y s) xs (all_map (λ y f. f t) xs k.0)) ss h))
