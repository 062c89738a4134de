-- Why it holds: Nodes and words that are equally many make one sample at each index. A stretch of
-- samples with one more has the subtotal of the stretch and of that sample.
-- What would break it: A word given to another sample than its own would be caught here.
use mathlib.Core.Path.{◌≡◌, refl, sym, ap, subst, ◌∙◌}
use mathlib.Core.Logic.{inl, inr}
use mathlib.Core.Bool.{false}
use mathlib.Core.List.{List, [], ◌∷◌}
use Prim.Native.Nat.{ℕ, zero, suc, ◌+◌, ◌≤◌, ◌<◌}
use native.Mathlib.Nat.{eq-or-lt_of_le}
use native.Mathlib.Omega.{arith}
use lib.ListN.{length, length-map, get_or}
use lib.Seq.{slice, slice_empty, length-slice}
use Rattle.laws.specs.Choose.{keep}
use Rattle.laws.proofs.Choices.{all_at, all_drop, take_all_of}
use Rattle.nodes.specs.declared.node.Node.{Node}
use Rattle.nodes.specs.Node.{afterb}
use Rattle.nodes.specs.Words.{node, nodes, node_at, count}
use Rattle.nodes.proofs.WordLaws.{length_nodes}
use Rattle.sheets.specs.declared.subtotal.Subtotal.{Subtotal}
use Rattle.sheets.specs.Hundredths.{faulty_wordb}
use Rattle.sheets.specs.Private.Walk.{SmallSubtotal, Measured, NoneAfter, of_word}
use Rattle.sheets.specs.Sheet.{LabSample, lab_samples, plus, sum_of, subtotal_over}
use Rattle.sheets.proofs.LabSamples.{lab_nodes_lem, labs_words}
use Rattle.laws.proofs.Slices.{slice_more, slice_join}
use Rattle.sheets.proofs.Subtotals.{over_append, over_one, over_small}

-- What stands for a sample past the end.
abbrev pub none : LabSample
none = record { node = node 0 0 0 0; word = 0 }

length_lab : (ns : List Node) (ws : List ℕ) → length ws ≡ length ns → length (lab_samples ns ws) ≡ length ns
length_lab ns ws e = sym (length-map (lab_samples ns ws) (λ s. s.node)) ∙ ap length (lab_nodes_lem ns ws e)

lab_at : (ns : List Node) (ws : List ℕ) → length ws ≡ length ns → (k : ℕ)
    → get_or (lab_samples ns ws) k none ≡ record { node = get_or ns k (node 0 0 0 0); word = get_or ws k 0 }
unfolding lab_samples
lab_at [] [] e k = refl
lab_at [] (w ∷ ws) e k = absurd (omega arith)
lab_at (n ∷ ns) [] e k = absurd (omega arith)
lab_at (n ∷ ns) (w ∷ ws) e zero = refl
lab_at (n ∷ ns) (w ∷ ws) e (suc k) = lab_at ns ws (omega arith) k

-- No sample up to and with the index stands after `limit`.
pub by_more : (samples : List ℕ) (limit : Node) (index : ℕ) → NoneAfter samples limit index → afterb (node_at samples index) limit ≡ false
    → NoneAfter samples limit (index + 1)
by_more samples limit index h e k l =
    let j : k ≤ index = omega arith in
    elim (eq-or-lt_of_le j) [ inl q ↦ ap (λ j. afterb (node_at samples j) limit) q ∙ e | inr q ↦ h k q ]

-- A row of zeros is that of no samples.
pub no_row : (t : Subtotal) → t.samples ≡ 0 → t.present ≡ 0 → t.sum ≡ 0 → t ≡ subtotal_over []
unfolding subtotal_over keep sum_of
no_row t n p s = λ k. record { samples = n k; present = p k; sum = s k }

module _ (samples hundredths : List ℕ) where
  abbrev ss : List LabSample
  ss = lab_samples (nodes samples) hundredths

  -- The subtotal of a stretch of samples.
  abbrev pub stretch_of : ℕ → ℕ → Subtotal
  stretch_of from to = subtotal_over (slice from to ss)

  pub no_stretch : (from : ℕ) → subtotal_over [] ≡ stretch_of from from
  no_stretch from = ap subtotal_over (sym (slice_empty from ss))

  module _ (ok : Measured samples hundredths) where
    as_many : length hundredths ≡ length (nodes samples)
    as_many = ok.matched ∙ sym (length_nodes samples)

    pub length_ss : length ss ≡ count samples
    length_ss = length_lab (nodes samples) hundredths as_many ∙ length_nodes samples

    pub node_of : (k : ℕ) → (get_or ss k none).node ≡ node_at samples k
    unfolding node_at
    node_of k = ap (λ s. s.node) (lab_at (nodes samples) hundredths as_many k)

    word_of : (k : ℕ) → (get_or ss k none).word ≡ get_or hundredths k 0
    word_of k = ap (λ s. s.word) (lab_at (nodes samples) hundredths as_many k)

    pub stretch_small : (from to : ℕ) {t : Subtotal} → to ≤ count samples → t ≡ stretch_of from to → SmallSubtotal t
    stretch_small from to l q =
        subst SmallSubtotal (sym q) (over_small (slice from to ss) (omega (arith, length-slice from to ss (omega (arith, length_ss)), ok.few))
        (all_drop _ from _ (take_all_of _ to ss (labs_words (λ w. faulty_wordb w ≡ false) (nodes samples) hundredths ok.words))))

    pub stretch_more : (from to w : ℕ) → from ≤ to → to < count samples → w ≡ get_or hundredths to 0
        → plus (stretch_of from to) (of_word w) ≡ stretch_of from (to + 1)
    stretch_more from to w l h q =
        let s = get_or ss to none in
        let e : suc to ≡ to + 1 = omega arith in
        ap (λ v. plus (stretch_of from to) (of_word v)) (q ∙ sym (word_of to))
        ∙ ap (plus (stretch_of from to)) (sym (over_one s))
        ∙ sym (over_append (slice from to ss) (s ∷ []))
        ∙ ap subtotal_over (sym (slice_more ss from to none l (omega (arith, length_ss)))) ∙ ap (stretch_of from) e

    -- A stretch and the one that follows it.
    pub stretch_join : (from mid to : ℕ) {t u r : Subtotal} → from ≤ mid → mid ≤ to → to ≤ count samples → t ≡ stretch_of from mid → u ≡ stretch_of mid to
        → r ≡ plus t u → r ≡ stretch_of from to
    stretch_join from mid to {u = u} k l h p q e =
        e ∙ ap (λ x. plus x u) p ∙ ap (plus (stretch_of from mid)) q ∙ sym (over_append (slice from mid ss) (slice mid to ss))
        ∙ ap subtotal_over (slice_join ss from mid to k l (omega (arith, length_ss)))

    -- The subtotal of one word is small.
    pub word_small : (k w : ℕ) → k < count samples → w ≡ get_or hundredths k 0 → SmallSubtotal (of_word w)
    word_small k w l q =
        subst SmallSubtotal (ap of_word (word_of k ∙ sym q))
        (subst SmallSubtotal (over_one (get_or ss k none)) (over_small (get_or ss k none ∷ []) (omega arith) (
          all_at (λ s. faulty_wordb s.word ≡ false) ss k none (omega (arith, length_ss)) (labs_words (λ w. faulty_wordb w ≡ false) (nodes samples) hundredths ok.words),
          tt,
        )))
