-- Why it holds: A search along the samples stops at the first faulty one. So it splits the list
-- there, and its index is how many come before.
-- What would break it: An index one off, or a faulty sample passed over, would be caught here.
use mathlib.Core.Path.{◌≡◌, ap, ◌∙◌}
use mathlib.Core.Bool.{true, false}
use mathlib.Core.List.{List, []}
use Prim.Native.Nat.{ℕ, suc, ◌<◌}
use native.Mathlib.Nat.{le_of_lt}
use lib.ListN.{length, get_or, take, drop}
use lib.Seq.{length-take-le, split_at}
use borrow.Author.Tests.{ltb-true}
use Rattle.laws.specs.Choose.{All, any, first_at}
use Rattle.laws.proofs.First.{first_failed, first_passes, first_there, first_split}
use Rattle.readings.specs.Sample.{Sample, faultyb}
use Rattle.readings.proofs.SampleLaws.{sample_at}
use Rattle.ranges.specs.Demanded.{FirstFaulty}

-- A faulty sample at an index is the first, if all before it are sound.
pub faulty_at : (ss : List Sample) (i : ℕ) (d : Sample) → i < length ss → All (λ s. faultyb s ≡ false) (take i ss)
    → faultyb (get_or ss i d) ≡ true → FirstFaulty ss i
faulty_at ss i d there sound faulty = record {
  sample = get_or ss i d;
  earlier = take i ss;
  later = drop (suc i) ss;
  split = split_at ss i d there;
  index = length-take-le i ss (le_of_lt there);
  faulty = faulty;
  sound = sound;
}

pub first_faulty : (ss : List Sample) → any faultyb ss ≡ true → FirstFaulty ss (first_at faultyb ss)
first_faulty ss h =
    let there = ltb-true (first_at faultyb ss) (length ss) (first_there faultyb ss ∙ h) in
    faulty_at ss (first_at faultyb ss) (sample_at [] [] 0) there (first_failed faultyb ss) (first_passes faultyb ss (sample_at [] [] 0) there)

pub faulty_first : (ss : List Sample) {i : ℕ} → FirstFaulty ss i → (any faultyb ss ≡ true) × (first_at faultyb ss ≡ i)
faulty_first ss h =
    let r = first_split faultyb h.earlier h.sample h.later h.sound h.faulty in
    (ap (any faultyb) h.split ∙ r.0, ap (first_at faultyb) h.split ∙ r.1 ∙ h.index)
