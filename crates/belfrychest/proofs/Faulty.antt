-- Why it holds: A part that isn't empty starts at the node that the verdict names and goes to the
-- end of the list that it names. An empty part has no words.
-- What would break it: A place or a length with which C would read other words would be caught
-- here.
use mathlib.Core.Path.{◌≡◌, refl}
use mathlib.Core.Logic.{inl, inr}
use mathlib.Core.Bool.{Bool, true, false, cond}
use mathlib.Core.List.{List, [], ◌∷◌}
use Prim.Native.Nat.{ℕ, ◌*◌}
use native.Mathlib.Omega.{arith}
use lib.Dec.{eqb}
use lib.ListN.{length, take, drop}
use lib.Seq.{take-length}
use borrow.Author.Tests.{eqb-true}
use Rattle.nodes.specs.Words.{NODE_WORDS}
use Rattle.laws.proofs.Tests.{either}
use Rattle.lists.specs.Two.{check_two}
use Rattle.answers.specs.Verdict.{DESCENDANTS}
use Rattle.repairs.specs.Part.{showsb, part_at, faulty_part}
use Rattle.belfrychest.specs.Shown.{shown_part}

no_words : (part list : List ℕ) → length part ≡ 0 → take (length part) list ≡ part
no_words [] list e = refl
no_words (w ∷ part) list e = absurd (omega (arith, e))

-- The words of a list from a place on, as many as the part has, are the part; the place is 0 where
-- there are none.
part_of_lem : (b : Bool) (list : List ℕ) (at : ℕ)
    → take (length (cond b (drop at list) [])) (drop (cond (eqb (length (cond b (drop at list) [])) 0) 0 at) list) ≡ cond b (drop at list) []
part_of_lem false list at = refl
part_of_lem true list at =
    elim (either (eqb (length (drop at list)) 0)) [
      | inl e ↦ rw e (no_words (drop at list) list (eqb-true _ 0 e))
      | inr e ↦ rw e (take-length (drop at list))
    ]

-- The words that C reads where the answer says are the part that the library gives.
pub faulty_words : (ancestors descendants : List ℕ) → let p = shown_part ancestors descendants in
    take p.words (drop p.from (cond (eqb p.verdict.list DESCENDANTS) descendants ancestors)) ≡ faulty_part ancestors descendants
unfolding shown_part faulty_part part_at
faulty_words ancestors descendants =
    let v = check_two ancestors descendants in
    part_of_lem (showsb v) (cond (eqb v.list DESCENDANTS) descendants ancestors) (NODE_WORDS * v.index)
