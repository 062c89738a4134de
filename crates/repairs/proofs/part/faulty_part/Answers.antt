-- Function: `faulty_part` (src/part.rt).
-- Why it holds: The fault is `check_two`'s, so the tests of its refusal and list pick the case of
-- `part_at` and of `place_at`.
-- What would break it: A part of the other list, even an empty one, or a part shown for another
-- answer would be caught at its return.
use mathlib.Core.Path.{◌≡◌, refl, sym, ap, ◌∙◌}
use mathlib.Core.Bool.{true, false}
use mathlib.Core.List.{List, []}
use Prim.Native.Nat.{ℕ, ◌*◌}
use lib.ListN.{drop}
use borrow.Author.Tests.{eq-eqb, ne_eqb}
use Rattle.std.specs.Prelude.{Result, Ok, Err}
use Rattle.answers.specs.declared.refusal.Fault.{Fault}
use Rattle.answers.specs.Refusal.{verdict_in}
use Rattle.nodes.specs.Words.{NODE_WORDS}
use Rattle.answers.specs.declared.verdict.Verdict.{Verdict}
use Rattle.repairs.specs.Part.{showsb, part_at, faulty_part, place_from, place_at, faulty_place}
use Rattle.lists.specs.Two.{check_two}
use Rattle.answers.specs.Verdict.{DESCENDANTS}
use Rattle.repairs.proofs.part.faulty_part.Goals.{in_default-via-in-Err+else-is_at_node, in_default-via-in_default}
use Rattle.repairs.proofs.part.faulty_part.Goals as goal

module _ (xs ys : List ℕ) (v : Verdict) (q : v ≡ check_two xs ys) (a d : ℕ × ℕ) where
  shown : (part_at v xs ys ≡ faulty_part xs ys) × (place_at v a d xs ys ≡ faulty_place a d xs ys)
  unfolding faulty_part faulty_place
  shown = (ap (λ (w : Verdict). part_at w xs ys) q, ap (λ (w : Verdict). place_at w a d xs ys) q)

  -- What is returned is the faulty part, and lies where that lies.
  abbrev Right : List ℕ → ℕ × ℕ → Type 0
  Right words at = record { contents : words ≡ faulty_part xs ys; place : at ≡ faulty_place a d xs ys }

  outside : showsb v ≡ false → Right [] a
  unfolding part_at place_at
  outside h = rw (← shown.0, ← shown.1, h) (record { contents = refl; place = refl })

  module _ (shows : showsb v ≡ true) where
    in_second : v.list ≡ DESCENDANTS → Right (drop (NODE_WORDS * v.index) ys) (place_from d ys v.index)
    unfolding part_at place_at
    in_second h = rw (← shown.0, ← shown.1, shows, eq-eqb v.list DESCENDANTS h) (record { contents = refl; place = refl })

    in_first : (v.list ≡ DESCENDANTS → ⊥) → Right (drop (NODE_WORDS * v.index) xs) (place_from a xs v.index)
    unfolding part_at place_at
    in_first h = rw (← shown.0, ← shown.1, shows, ne_eqb v.list DESCENDANTS h) (record { contents = refl; place = refl })

-- Where no fault comes back, none is shown.
not_shown : (d : Result (Unit {0}) Fault) → ((f : Fault) → d ≡ Err f → ⊥) → showsb (verdict_in d) ≡ false
unfolding showsb
not_shown (Ok _) h = refl
not_shown (Err f) h = absurd (h f refl)

pub returns-then-fault-eq-DESCENDANTS : goal.returns-then-fault-eq-DESCENDANTS
returns-then-fault-eq-DESCENDANTS c =
    let a = c.args in
    let e = in_second a.ancestors.now a.descendants.now _ c.in-Err.ensures a.ancestors.ref_ptr a.descendants.ref_ptr
    (sym c.if-is_at_node.ensures) c.if-fault-eq-DESCENDANTS.true in
    record { contents = c.part_from.ensures.contents ∙ e.contents; place = c.part_from.ensures.place ∙ e.place }

pub returns-else-fault-eq-DESCENDANTS : goal.returns-else-fault-eq-DESCENDANTS
returns-else-fault-eq-DESCENDANTS c =
    let a = c.args in
    let part = c.part_from-else-fault-eq-DESCENDANTS in
    let e = in_first a.ancestors.now a.descendants.now _ c.in-Err.ensures a.ancestors.ref_ptr a.descendants.ref_ptr
    (sym c.if-is_at_node.ensures) c.if-fault-eq-DESCENDANTS.false in
    record { contents = part.ensures.contents ∙ e.contents; place = part.ensures.place ∙ e.place }

pub returns-in_default : goal.returns-in_default
returns-in_default c =
    let a = c.args in
    elim c.in_default.branch [
      | in_default-via-in-Err+else-is_at_node w ↦ outside a.ancestors.now a.descendants.now _ w.in-Err.ensures a.ancestors.ref_ptr a.descendants.ref_ptr
          (sym w.if-is_at_node.ensures)
      | in_default-via-in_default w ↦ outside a.ancestors.now a.descendants.now _ c.check_two.ensures a.ancestors.ref_ptr a.descendants.ref_ptr
          (not_shown c.check_two.result w.in_default.not-Err)
    ]
