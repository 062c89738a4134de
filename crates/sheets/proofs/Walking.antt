-- Why it holds: Between two children of a zone stand samples of its own. When a child's walk ends,
-- the next child and the zone's end are still to come. So the walk passes each zone and each sample
-- inside it once. The level rises with each step down, so 64 steps are enough.
-- What would break it: A child that was walked twice, samples left between two children, or a depth
-- that ran out, would be caught here.
use mathlib.Core.Path.{◌≡◌, sym, ap, subst, ◌∙◌}
use mathlib.Core.Logic.{inl, inr}
use mathlib.Core.Bool.{Bool, true, false, ◌&&◌}
use mathlib.Core.List.{List}
use Prim.Native.Nat.{ℕ, ◌+◌, ◌-◌, ◌≤◌, ◌<◌}
use native.Mathlib.Nat.{eq-or-lt_of_le}
use native.Mathlib.Omega.{arith}
use lib.Dec.{ltb}
use borrow.Author.Tests.{ltb-true, ltb-false, lt-ltb}
use Rattle.answers.specs.Answer.{TAKEN}
use Rattle.laws.proofs.Tests.{either, never, not_so, and_read}
use Rattle.nodes.specs.declared.node.Node.{Node}
use Rattle.nodes.specs.Node.{MOST_LEVELS, insideb, openb}
use Rattle.nodes.specs.Words.{node_at, count}
use Rattle.nodes.proofs.NodeLaws.{inside_trans, inside_open, open_read}
use Rattle.lists.specs.Two.{check_two}
use Rattle.sheets.specs.Private.Walk.{NoneAfter, FirstAfter, InsideUpTo, end_text}
use Rattle.sheets.proofs.Limits.{not_after_later, end_start, end_inside, sound_word, later_after, reached_inside, outside_after, zones_ok}

-- Where the walk of a zone stands. The zones before `next` are inside it. No sample before `place`
-- stands after its end, nor after the zone that comes next.
pub record Walking (zones samples : List ℕ) (zone sample next place : ℕ) : Type 0 where
  pub later : zone < next
  pub end : next ≤ count zones
  pub inside : (k : ℕ) → zone < k → k < next → insideb (node_at zones k) (node_at zones zone) ≡ true
  pub from : sample ≤ place
  pub few : place ≤ count samples
  pub by_end : NoneAfter samples (end_text (node_at zones zone)) place
  pub by_next : next < count zones → NoneAfter samples (node_at zones next) place

-- The zone at `next` is inside the one at `zone`, with a higher level.
pub record Child (zones : List ℕ) (zone next : ℕ) : Type 0 where
  pub there : next < count zones
  pub inside : insideb (node_at zones next) (node_at zones zone) ≡ true
  pub level : (node_at zones zone).level < (node_at zones next).level

module _ (zones samples : List ℕ) (lists : (check_two zones samples).answer ≡ TAKEN) where
  -- The samples up to a zone's end don't stand after a later zone outside it.
  by_outside : (zone next place : ℕ) → zone < next → next < count zones → insideb (node_at zones next) (node_at zones zone) ≡ false
      → NoneAfter samples (end_text (node_at zones zone)) place → NoneAfter samples (node_at zones next) place
  by_outside zone next place l h o b k m =
      not_after_later (node_at samples k) (node_at zones next) (end_text (node_at zones zone)) (b k m)
      (outside_after zones (zones_ok zones samples lists) zone next l h o)

  -- After a zone's walk the samples passed don't stand after the zone that comes next.
  pub by_left : (zone next place : ℕ) → InsideUpTo zones zone next → FirstAfter samples (end_text (node_at zones zone)) place → next < count zones
      → NoneAfter samples (node_at zones next) place
  by_left zone next place f u h = by_outside zone next place f.later h (f.stop h) u.by

  -- The depth that is left to a child is enough for it, and less than that of the zone.
  pub child_deep : (zone next depth : ℕ) → zone < count zones → MOST_LEVELS < (node_at zones zone).level + depth → Child zones zone next
      → (1 ≤ depth) × (MOST_LEVELS < (node_at zones next).level + (depth - 1))
  child_deep zone next depth l h c =
      let s = sound_word zones (zones_ok zones samples lists) zone l in (omega (arith, s.highest), omega (arith, s.highest, c.level))

  module _ (zone sample : ℕ) (l : zone < count zones) where
    abbrev around : Node
    around = node_at zones zone

    pub walk_start : FirstAfter samples around sample → (next : ℕ) → next ≡ zone + 1 → Walking zones samples zone sample next sample
    walk_start u next q = record {
      later = omega arith;
      end = omega arith;
      inside = λ k a b. absurd (omega arith);
      from = omega arith;
      few = u.end;
      by_end = λ k m. not_so (λ t. never (end_start (node_at samples k) around (sound_word zones (zones_ok zones samples lists) zone l).span t) (u.by k m));
      by_next = λ h k m.
          not_after_later (node_at samples k) (node_at zones next) around (u.by k m) (later_after zones (zones_ok zones samples lists) zone next (omega arith) h);
    }

    module _ (next place : ℕ) (w : Walking zones samples zone sample next place) where
      -- The test for one more child tells that there is one.
      pub child_read : (x : Node) (b : Bool) → x ≡ around → b ≡ (ltb next (count zones) && openb (node_at zones next) x) → b ≡ true → Child zones zone next
      child_read x b q e t =
          let p = and_read (ltb next (count zones)) (sym e ∙ t) in
          let h = ltb-true next (count zones) p.0 in
          let o = open_read (node_at zones next) x p.1 in
          let d : around.document ≡ (node_at zones next).document = ap (λ n. n.document) (sym q) ∙ o.document in
          let r : (node_at zones next).start ≤ around.end = subst (λ n. (node_at zones next).start ≤ n.end) q o.reaches in
          let i = reached_inside zones (zones_ok zones samples lists) zone next w.later h d r in
          record { there = h; inside = i.0; level = i.1 }

      -- Where it fails, the zones inside the zone have all been walked.
      pub child_none : (x : Node) (b : Bool) → x ≡ around → b ≡ (ltb next (count zones) && openb (node_at zones next) x) → b ≡ false → InsideUpTo zones zone next
      child_none x b q e t = record {
        later = w.later;
        end = w.end;
        inside = w.inside;
        stop = λ h. not_so (λ i.
            let o = inside_open (node_at zones next) around (sound_word zones (zones_ok zones samples lists) next h).span i in
            never (rw (q, lt-ltb next (count zones) h) o) (sym e ∙ t));
      }

      -- Once the child has been walked, the walk goes on after it.
      pub walk_child : Child zones zone next → (mid n p : ℕ) → place ≤ mid → InsideUpTo zones next n → mid ≤ p → FirstAfter samples (end_text (node_at zones next)) p
          → Walking zones samples zone sample n p
      walk_child c mid n p a f b u = record {
        later = omega (arith, w.later, f.later);
        end = f.end;
        inside = λ k i j. elim (either (ltb k next)) [
          | inl q ↦ w.inside k i (ltb-true k next q)
          | inr q ↦ elim (eq-or-lt_of_le (ltb-false k next q)) [
            | inl e ↦ ap (λ m. insideb (node_at zones m) around) (sym e) ∙ c.inside
            | inr e ↦ inside_trans (node_at zones k) (node_at zones next) around (f.inside k e j) c.inside
          ]
        ];
        from = omega (arith, w.from);
        few = u.end;
        by_end = λ k m. not_so (λ t. never (end_inside (node_at samples k) (node_at zones next) around c.inside t) (u.by k m));
        by_next = by_left next n p f u;
      }
