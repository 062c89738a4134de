-- Why it holds: Of two accepted lists a sample that stands after a zone's start and not after its
-- end is inside it, and no other is. The samples ascend, so these are a stretch of them. A zone
-- after another one that isn't inside it stands after its end.
-- What would break it: A sample that could reach out of a zone, or zones that could cross, would be
-- caught here.
use mathlib.Core.Path.{◌≡◌, sym, ap, ◌∙◌}
use mathlib.Core.Logic.{inl, inr, ⊎_elim}
use mathlib.Core.Bool.{true, false}
use mathlib.Core.List.{List}
use Prim.Native.Nat.{ℕ, ◌≤◌, ◌<◌}
use native.Mathlib.Nat.{eq-or-lt_of_le}
use native.Mathlib.Omega.{arith}
use lib.ListN.{length, get_or}
use Rattle.answers.specs.Answer.{TAKEN}
use Rattle.laws.proofs.Choices.{all_at}
use Rattle.laws.proofs.Tests.{never, not_so}
use Rattle.nodes.specs.declared.node.Node.{Node}
use Rattle.nodes.specs.Node.{insideb, afterb}
use Rattle.nodes.specs.Words.{node, nodes, node_at, count}
use Rattle.nodes.proofs.NodeLaws.{within, after_read, after_document, after_start, after_trans, inside_after}
use Rattle.nodes.proofs.WordLaws.{length_nodes}
use Rattle.lists.specs.Two.{check_two, oddsb}
use Rattle.lists.proofs.Faults.{Sound}
use Rattle.lists.proofs.Merging.{even_fine}
use Rattle.lists.proofs.Pairing.{two_taken_iff}
use Rattle.lists.proofs.Taken.{Fine, fine_settles, nested_read}
use Rattle.forest.specs.Links.{node_in}
use Rattle.forest.proofs.Containing.{AcceptedList, accepted_list, sound_at, fine_at}
use Rattle.sheets.specs.Private.Walk.{Measured, FirstAfter, end_text}
use Rattle.sheets.specs.Sheet.{lab_samples, inside_zone, subtotal_over, row_of}
use Rattle.sheets.proofs.SampleLaws.{none, length_ss, node_of, stretch_of}
use Rattle.laws.proofs.Slices.{keep_slice}

-- What doesn't stand after a node doesn't stand after a later one.
pub not_after_later : (n m l : Node) → afterb n l ≡ false → afterb m l ≡ true → afterb n m ≡ false
not_after_later n m l h k = not_so (λ t. never (after_trans n m l t k) h)

-- What stands after the end of a node stands after its start,
pub end_start : (n z : Node) → z.start ≤ z.end → afterb n (end_text z) ≡ true → afterb n z ≡ true
end_start n z l h =
    ⊎_elim (λ d. after_document n z d) (λ d. after_start n z d.0 (omega (arith, d.1))) (after_read n (end_text z) h)

-- and after the end of whatever is inside it.
pub end_inside : (n y z : Node) → insideb y z ≡ true → afterb n (end_text z) ≡ true → afterb n (end_text y) ≡ true
end_inside n y z i h =
    let w = within y z i in
    ⊎_elim (λ d. after_document n (end_text y) (omega (arith, w.document)))
    (λ d. after_start n (end_text y) (omega (arith, w.document, d.0)) (omega (arith, w.end, d.1))) (after_read n (end_text z) h)

-- A list that is accepted, by its words.
module _ (words : List ℕ) (ok : AcceptedList (nodes words)) where
  abbrev there : ℕ → Type 0
  there i = i < count words

  index : (i : ℕ) → there i → i < length (nodes words)
  index i l = omega (arith, length_nodes words)

  pub sound_word : (i : ℕ) → there i → Sound (node_at words i)
  unfolding node_at node_in
  sound_word i l = sound_at (nodes words) ok i (index i l)

  pub later_after : (i j : ℕ) → i < j → there j → afterb (node_at words j) (node_at words i) ≡ true
  unfolding node_at node_in
  later_after i j k l = (fine_at (nodes words) ok i j k (index j l)).after

  fine_word : (i j : ℕ) → i < j → there j → Fine (node_at words i) (node_at words j)
  unfolding node_at node_in
  fine_word i j k l = fine_at (nodes words) ok i j k (index j l)

  -- A later node that starts by the end of an earlier one is inside it, with a higher level.
  pub reached_inside : (i j : ℕ) → i < j → there j → (node_at words i).document ≡ (node_at words j).document
      → (node_at words j).start ≤ (node_at words i).end → (insideb (node_at words j) (node_at words i) ≡ true) × ((node_at words i).level < (node_at words j).level)
  reached_inside i j k l d s =
      ⊎_elim (λ q. absurd (omega arith)) (λ q. nested_read _ _ q)
      (fine_settles (node_at words j) (node_at words i) (sound_word j l).span (fine_word i j k l) d)

  -- One that isn't inside it stands after its end.
  pub outside_after : (i j : ℕ) → i < j → there j → insideb (node_at words j) (node_at words i) ≡ false
      → afterb (node_at words j) (end_text (node_at words i)) ≡ true
  outside_after i j k l o =
      let x = node_at words i in
      let y = node_at words j in
      ⊎_elim (λ d. after_document y (end_text x) d)
      (λ d. ⊎_elim (λ q. after_start y (end_text x) d.0 q) (λ q. absurd (never (nested_read _ _ q).0 o))
      (fine_settles y x (sound_word j l).span (fine_word i j k l) (sym d.0)))
      (after_read y x (later_after i j k l))

  -- Once a node stands after a limit, all later ones do.
  beyond : (limit : Node) (i : ℕ) → FirstAfter words limit i → (k : ℕ) → i ≤ k → there k → afterb (node_at words k) limit ≡ true
  beyond limit i u k l h =
      elim (eq-or-lt_of_le l) [
        | inl q ↦ ap (λ j. afterb (node_at words j) limit) (sym q) ∙ u.stop (omega arith)
        | inr q ↦ after_trans (node_at words k) (node_at words i) limit (later_after i k q h) (u.stop (omega arith))
      ]

module _ (zones samples : List ℕ) (lists : (check_two zones samples).answer ≡ TAKEN) where
  pub zones_ok : AcceptedList (nodes zones)
  zones_ok = accepted_list zones ((two_taken_iff zones samples).0 lists).0

  samples_ok : AcceptedList (nodes samples)
  samples_ok = accepted_list samples ((two_taken_iff zones samples).0 lists).1

  even_at : (i k : ℕ) → i < count zones → k < count samples → oddsb (node_at zones i) (node_at samples k) ≡ false
  unfolding node_at
  even_at i k l h =
      all_at _ (nodes samples) k (node 0 0 0 0) (omega (arith, length_nodes samples))
      (all_at _ (nodes zones) i (node 0 0 0 0) (omega (arith, length_nodes zones)) ((two_taken_iff zones samples).0 lists).2)

  module _ (i : ℕ) (l : i < count zones) where
    abbrev zone : Node
    zone = node_at zones i

    -- A sample inside the zone stands after its start;
    outside_start : (k : ℕ) → afterb (node_at samples k) zone ≡ false → insideb (node_at samples k) zone ≡ false
    outside_start k h = not_so (λ t. never (inside_after (node_at samples k) zone t) h)

    -- it doesn't stand after its end;
    outside_end : (k : ℕ) → k < count samples → afterb (node_at samples k) (end_text zone) ≡ true → insideb (node_at samples k) zone ≡ false
    outside_end k m h =
        not_so (λ t. let w = within (node_at samples k) zone t in
        ⊎_elim (λ d. omega (arith, w.document, d)) (λ d. omega (arith, w.end, d.1, (sound_word samples samples_ok k m).span))
        (after_read (node_at samples k) (end_text zone) h))

    -- and one between the two is inside.
    inside_bounds : (k : ℕ) → k < count samples → afterb (node_at samples k) zone ≡ true → afterb (node_at samples k) (end_text zone) ≡ false
        → insideb (node_at samples k) zone ≡ true
    inside_bounds k m h e =
        let s = node_at samples k in
        ⊎_elim (λ d. absurd (never (after_document s (end_text zone) d) e))
        (λ d. ⊎_elim (λ q. absurd (never (after_start s (end_text zone) d.0 q) e)) (λ q. (nested_read _ _ q).0)
        (fine_settles s zone (sound_word samples samples_ok k m).span (even_fine zone s h (even_at i k l m)) (sym d.0)))
        (after_read s zone h)

    -- So the zone's row is that of the stretch from its start to its end.
    pub row_stretch : (hundredths : List ℕ) (ok : Measured samples hundredths) (from to : ℕ) → FirstAfter samples zone from → FirstAfter samples (end_text zone) to
        → from ≤ to → stretch_of samples hundredths from to ≡ row_of (lab_samples (nodes samples) hundredths) zone
    unfolding inside_zone
    row_stretch hundredths ok from to u v k =
        let ss = lab_samples (nodes samples) hundredths in
        let few = length_ss samples hundredths ok in
        let is : (j : ℕ) → insideb (get_or ss j none).node zone ≡ insideb (node_at samples j) zone =
        λ j. ap (λ n. insideb n zone) (node_of samples hundredths ok j) in
        ap subtotal_over (sym (keep_slice ss (λ s. insideb s.node zone) from to none k (omega (arith, few, v.end))
        (λ j m. is j ∙ outside_start j (u.by j m))
        (λ j a b. let m : j < count samples = omega (arith, v.end) in
        is j ∙ inside_bounds j m (beyond samples samples_ok zone from u j a m) (v.by j b))
        (λ j a b. let m : j < count samples = omega (arith, few) in
        is j ∙ outside_end j m (beyond samples samples_ok (end_text zone) to v j a m))))
