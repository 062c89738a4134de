-- Why it holds: With as many words as nodes, each sample has one of each, in order. So what is
-- known of all nodes or of all words is known of all samples.
-- What would break it: A sample with its neighbour's word, or one left out, would be caught here.
use mathlib.Core.Path.{◌≡◌, refl, ap}
use mathlib.Core.List.{List, [], ◌∷◌, map}
use Prim.Native.Nat.{ℕ, ◌≤◌}
use native.Mathlib.Omega.{arith}
use lib.ListN.{length}
use Rattle.laws.specs.Choose.{All}
use Rattle.nodes.specs.declared.node.Node.{Node}
use Rattle.sheets.specs.Sheet.{LabSample, lab_samples}

-- The nodes of some samples.
abbrev pub lab_nodes : List LabSample → List Node
lab_nodes ss = map (λ s. s.node) ss

pub lab_nodes_lem : (ns : List Node) (words : List ℕ) → length words ≡ length ns → lab_nodes (lab_samples ns words) ≡ ns
unfolding lab_samples
lab_nodes_lem [] words e = refl
lab_nodes_lem (n ∷ ns) [] e = absurd (omega arith)
lab_nodes_lem (n ∷ ns) (w ∷ words) e = ap (λ ms. n ∷ ms) (lab_nodes_lem ns words (omega arith))

-- There are no more samples than nodes.
pub labs_few : (ns : List Node) (words : List ℕ) → length (lab_samples ns words) ≤ length ns
unfolding lab_samples
labs_few [] words = omega arith
labs_few (n ∷ ns) [] = omega arith
labs_few (n ∷ ns) (w ∷ words) = let h = labs_few ns words in omega arith

-- What holds of all words or of all nodes holds of those of the samples.
pub labs_words : (P : ℕ → Type 0) (ns : List Node) (words : List ℕ) → All P words → All (λ s. P s.word) (lab_samples ns words)
unfolding lab_samples
labs_words P [] words h = tt
labs_words P (n ∷ ns) [] h = tt
labs_words P (n ∷ ns) (w ∷ words) h = (h.0, labs_words P ns words h.1)

pub labs_nodes : (P : Node → Type 0) (ns : List Node) (words : List ℕ) → All P ns → All (λ s. P s.node) (lab_samples ns words)
unfolding lab_samples
labs_nodes P [] words h = tt
labs_nodes P (n ∷ ns) [] h = tt
labs_nodes P (n ∷ ns) (w ∷ words) h = (h.0, labs_nodes P ns words h.1)
