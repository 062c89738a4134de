-- Function: `put_numbers` (src/put.rt).
-- Why it holds: At each turn the words still to be stored complete the whole, and each store takes
-- the first of them.
-- What would break it: A word stored one place off would be caught at the next turn. A loop that
-- ends too early would be caught at its return.
use mathlib.Core.Path.{◌≡◌, refl, sym, ap, ◌∙◌}
use mathlib.Core.List.{List, ◌∷◌, flat_map}
use Prim.Native.Nat.{ℕ, ◌+◌, ◌*◌, ◌≤◌, ◌<◌}
use native.Mathlib.Numerals.{add-one}
use native.Mathlib.Omega.{arith}
use lib.ListN.{length, get_or, drop, drop_of_length-le}
use lib.Seq.{sets, drop-cons}
use Rattle.answers.specs.Output.{words_in}
use Rattle.numbers.specs.Little.{bytes_of, number_count, put_number}
use Rattle.writing.proofs.Putting.{put_on, length_put}
use Rattle.writing.proofs.put.put_numbers.Invariants.{Puts}
use Rattle.writing.proofs.put.put_numbers.Goals as goal

starts : (words out₀ : List ℕ) (from : ℕ) → Puts words out₀ from 0 out₀
starts words out₀ from =
    let e : from + 0 ≡ from = omega arith in
    record { same = refl; whole = ap (λ k. sets out₀ (4 * k) (words_in bytes_of words)) e }

module _ (words out₀ : List ℕ) (from index : ℕ) (out : List ℕ) (p : Puts words out₀ from index out) where
  one_more : (w : ℕ) (out' : List ℕ) → index < length words → from + index < number_count out₀ → w ≡ get_or words index 0
      → out' ≡ put_number out (from + index) w → Puts words out₀ from (index + 1) out'
  unfolding words_in flat_map
  one_more w out' h r q e =
      let same = p.same in
      let at : 4 * (from + (index + 1)) ≡ 4 * (from + index) + 4 = omega arith in
      let first : drop index words ≡ w ∷ drop (index + 1) words = rw (add-one index, q) (drop-cons words index 0 h) in
      record {
        same = ap length e ∙ length_put out (from + index) w (omega arith) ∙ same;
        whole = ap (λ o. sets o (4 * (from + (index + 1))) (words_in bytes_of (drop (index + 1) words))) e
            ∙ put_on out (from + index) w (4 * (from + (index + 1))) (words_in bytes_of (drop (index + 1) words)) (omega arith) at
            ∙ ap (λ ws. sets out (4 * (from + index)) (words_in bytes_of ws)) (sym first)
            ∙ p.whole;
      }

  ends : length words ≤ index → out ≡ sets out₀ (4 * from) (words_in bytes_of words)
  unfolding words_in flat_map
  ends h =
      ap (λ ws. sets out (4 * (from + index)) (words_in bytes_of ws)) (sym (drop_of_length-le words {i = index} h)) ∙ p.whole

pub loop-index-init : goal.loop-index-init
loop-index-init c = starts _ _ _

pub loop-index-preserved : goal.loop-index-preserved
loop-index-preserved c =
    let l = c.loop-index in
    let a = c.args in
    one_more a.words.now a.out.now a.from l.index l.out l.invariant _ _ (omega arith) (omega arith) refl c.put_number.ensures

pub shape_of-out : goal.shape_of-out
shape_of-out c = c.loop-index.invariant.same

pub returns : goal.returns
returns c =
    let l = c.loop-index in
    let a = c.args in
    ends a.words.now a.out.now a.from l.index l.out l.invariant (omega arith)
