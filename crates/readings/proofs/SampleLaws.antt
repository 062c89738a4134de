-- Why it holds: A node is taken with the next two words, so the sample at an index has the words at
-- twice that index.
-- What would break it: A reading of another sample would be caught at `sample_at_lem`.
use Prim.Native.Nat.{ℕ, zero, suc, ◌+◌, ◌*◌, ◌<◌}
use native.Mathlib.Nat.{not-suc-le-zero}
use native.Mathlib.Omega.{arith}
use mathlib.Core.Path.{◌≡◌, refl, sym, ap, ◌∙◌}
use mathlib.Core.List.{List, [], ◌∷◌, map}
use lib.ListN.{length, get_or, length-map}
use Rattle.nodes.specs.declared.node.Node.{Node}
use Rattle.nodes.specs.Words.{node}
use Rattle.readings.specs.Sample.{Sample, READING_WORDS, sampled}

-- Where there are two words for each node, the samples have just these nodes.
pub sampled_nodes : (ns : List Node) (words : List ℕ) → length words ≡ READING_WORDS * length ns → map (λ s. s.node) (sampled ns words) ≡ ns
unfolding sampled
sampled_nodes [] words h = refl
sampled_nodes (n ∷ ns) [] h = absurd (omega arith)
sampled_nodes (n ∷ ns) (k ∷ []) h = absurd (omega arith)
sampled_nodes (n ∷ ns) (k ∷ b ∷ words) h = ap (λ ms. n ∷ ms) (sampled_nodes ns words (omega arith))

pub sampled_length : (ns : List Node) (words : List ℕ) → length words ≡ READING_WORDS * length ns → length (sampled ns words) ≡ length ns
sampled_length ns words h = sym (length-map (sampled ns words) (λ s. s.node)) ∙ ap length (sampled_nodes ns words h)

-- The sample at an index.
abbrev pub sample_at : List Node → List ℕ → ℕ → Sample
sample_at ns words i = record { node = get_or ns i (node 0 0 0 0); kind = get_or words (READING_WORDS * i) 0; bits = get_or words (READING_WORDS * i + 1) 0 }

two_more : (k b : ℕ) (words : List ℕ) (i : ℕ) (j : ℕ) → j ≡ suc (suc i) → get_or (k ∷ b ∷ words) j 0 ≡ get_or words i 0
two_more k b words i j e = ap (λ (m : ℕ). get_or (k ∷ b ∷ words) m 0) e

pub sample_at_lem : (ns : List Node) (words : List ℕ) (i : ℕ) (d : Sample) → i < length ns → length words ≡ READING_WORDS * length ns
    → get_or (sampled ns words) i d ≡ sample_at ns words i
unfolding sampled
sample_at_lem [] words i d l h = absurd (not-suc-le-zero l)
sample_at_lem (n ∷ ns) [] i d l h = absurd (omega arith)
sample_at_lem (n ∷ ns) (k ∷ []) i d l h = absurd (omega arith)
sample_at_lem (n ∷ ns) (k ∷ b ∷ words) zero d l h = refl
sample_at_lem (n ∷ ns) (k ∷ b ∷ words) (suc i) d l h =
    sample_at_lem ns words i d (omega arith) (omega arith)
    ∙ rw (two_more k b words (2 * i) (2 * suc i) (omega arith), two_more k b words (2 * i + 1) (2 * suc i + 1) (omega arith)) refl
