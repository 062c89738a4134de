-- Function: `copy_numbers` (src/part.rt).
-- Why it holds: The words begin with the numbers read so far, and each store adds the next number
-- to them. The loop ends where the numbers or the words end.
-- What would break it: A number stored one place off would be caught at the next turn, and a loop
-- that ends too early at its return.
use mathlib.Core.Path.{◌≡◌, refl, sym, ap, ◌∙◌}
use mathlib.Core.List.{List, [], ◌∷◌}
use Prim.Native.Nat.{ℕ, ◌+◌, ◌<◌, min}
use native.Mathlib.Numerals.{add-one}
use native.Mathlib.Omega.{arith}
use lib.ListN.{length, take, set, length-set}
use lib.Seq.{take-suc, length-take-le}
use Rattle.std.proofs.lemmas.List.{take_min}
use Rattle.answers.specs.Output.{written}
use Rattle.answers.proofs.OutputLaws.{written_more}
use Rattle.numbers.specs.Little.{numbers, number_count, number_at}
use Rattle.numbers.specs.Part.{copied}
use Rattle.numbers.proofs.LittleLaws.{length_numbers}
use Rattle.numbers.proofs.part.copy_numbers.Goals as goal

none_yet : (bs ws : List ℕ) → ws ≡ written (take 0 (numbers bs)) ws
unfolding written
none_yet bs ws = refl

one_more : (bs out ws : List ℕ) (i n : ℕ) → i < number_count bs → i < length out → n ≡ number_at bs i
    → ws ≡ written (take i (numbers bs)) out → set ws i n ≡ written (take (i + 1) (numbers bs)) out
unfolding number_at
one_more bs out ws i n h r q e =
    let l = length_numbers bs in
    let t : length (take i (numbers bs)) ≡ i = length-take-le i (numbers bs) (omega arith) in
    let m = written_more (take i (numbers bs)) (number_at bs i ∷ []) out (omega arith) in
    rw (e, q, add-one i, take-suc (numbers bs) i 0 (omega arith)) (rw t at m)

all_written : (bs out ws : List ℕ) (i n : ℕ) → n ≡ min (length out) (number_count bs) → i ≡ n
    → ws ≡ written (take i (numbers bs)) out → ws ≡ copied bs out
unfolding copied
all_written bs out ws i n q h e =
    let all = ap (λ k. take k (numbers bs)) (h ∙ q ∙ ap (min (length out)) (sym (length_numbers bs))) ∙ take_min (length out) (numbers bs) in
    e ∙ ap (λ ns. written ns out) all

pub loop-index-init : goal.loop-index-init
loop-index-init c = (refl, none_yet c.args.bytes.now c.args.words.now)

pub loop-index-preserved : goal.loop-index-preserved
loop-index-preserved c =
    let l = c.loop-index in
    let a = c.args in
    let e = c.min-index-end.ensures in (
      length-set l.words l.index c.number_at.result ∙ l.invariant.0,
      one_more a.bytes.now a.words.now l.words l.index _ (omega arith) (omega arith) c.number_at.ensures l.invariant.1,
    )

pub returns : goal.returns
returns c =
    let l = c.loop-index in
    let a = c.args in
    all_written a.bytes.now a.words.now l.words l.index _ c.min-index-end.ensures (omega arith) l.invariant.1
