-- Why it holds: A zone's own samples and those of its child zones are its samples, each once. The
-- samples of the outermost zones are those inside any zone, each once. So the subtotals add up.
-- What would break it: A sample that is counted twice, or not at all, would be caught here.
use mathlib.Core.Path.{◌≡◌, ap, sym, ◌∙◌}
use mathlib.Core.Bool.{Bool, ◌||◌}
use mathlib.Core.List.{List, map}
use Prim.Native.Nat.{ℕ, ◌<◌}
use native.Mathlib.Omega.{arith}
use lib.ListN.{length}
use Rattle.laws.specs.Choose.{All, any, keep}
use Rattle.laws.proofs.Choices.{all_map, keep_alike, map_alike}
use Rattle.nodes.specs.declared.node.Node.{Node}
use Rattle.nodes.specs.Node.{insideb}
use Rattle.nodes.specs.Words.{nodes, node_at, count}
use Rattle.nodes.proofs.WordLaws.{length_nodes}
use Rattle.lists.proofs.Faults.{Sound}
use Rattle.lists.proofs.Pairing.{two_taken_iff}
use Rattle.forest.specs.Links.{NONE, node_in, innermostb}
use Rattle.forest.proofs.Containing.{AcceptedList, accepted_list}
use Rattle.sheets.specs.Demanded.{AcceptedSheet, subtotal_in, total_of, own_samples, children_of, outermost, inside_any}
use Rattle.sheets.specs.declared.subtotal.Subtotal.{Subtotal}
use Rattle.sheets.specs.Sheet.{LabSample, inside_zone, subtotal_over, plus, row_of, sheet_samples, sheet_output}
use Rattle.sheets.proofs.Adding.{either_adds, any_adds}
use Rattle.sheets.proofs.Answered.{accepted_iff}
use Rattle.sheets.proofs.ChildZones.{in_child, in_one, any_outermost, own_apart, own_or_child, children_all}
use Rattle.sheets.proofs.LabSamples.{labs_nodes}
use Rattle.sheets.proofs.Rows.{row_told}

module _ (ns : List Node) (ok : AcceptedList ns) (ss : List LabSample) (sound : All (λ s. Sound s.node) ss) where
  abbrev row_at : ℕ → Subtotal
  row_at c = row_of ss (node_in ns c)

  -- The rows of a zone's children, or of the outermost zones, add up to the samples inside any of
  -- them.
  children_add : (i : ℕ) → total_of (map row_at (children_of ns i)) ≡ subtotal_over (keep (λ s. in_child ns i s.node) ss)
  unfolding inside_zone
  children_add i =
      any_adds (λ c s. insideb s.node (node_in ns c)) (children_of ns i) ss (all_map (λ s h. in_one ns ok s.node h.span i) ss sound)

  -- A zone's row is that of its own samples, and the rows of its child zones.
  zone_adds : (i : ℕ) → i < length ns
      → row_at i ≡ plus (subtotal_over (own_samples ns (node_in ns i) ss)) (total_of (map row_at (children_of ns i)))
  unfolding inside_zone own_samples
  zone_adds i l =
      let own : LabSample → Bool = λ s. innermostb ns s.node (node_in ns i) in
      let below : LabSample → Bool = λ s. in_child ns i s.node in
      ap subtotal_over (keep_alike (λ s. insideb s.node (node_in ns i)) (λ s. own s || below s) ss
      (all_map (λ s h. own_or_child ns ok s.node h.span i l) ss sound))
      ∙ either_adds own below ss (all_map (λ s h. own_apart ns ok s.node h.span i l) ss sound)
      ∙ ap (plus (subtotal_over (keep own ss))) (sym (children_add i))

  -- The outermost zones' rows are that of the samples inside any zone.
  outermost_add : total_of (map row_at (outermost ns)) ≡ subtotal_over (inside_any ns ss)
  unfolding outermost inside_any
  outermost_add =
      children_add NONE
      ∙ sym (ap subtotal_over (keep_alike (λ s. any (λ zone. insideb s.node zone) ns) (λ s. in_child ns NONE s.node) ss
      (all_map (λ s h. any_outermost ns ok s.node h.span) ss sound)))

-- An accepted call writes these rows, so the same holds of them as they are read.
module _ (zones samples hundredths out : List ℕ) (accepted : AcceptedSheet zones samples hundredths out) where
  abbrev ns : List Node
  ns = nodes zones

  abbrev ss : List LabSample
  ss = sheet_samples samples hundredths

  abbrev sheet_row : ℕ → Subtotal
  sheet_row i = subtotal_in (sheet_output zones samples hundredths out) i

  ok : AcceptedList ns
  ok = accepted_list zones ((two_taken_iff zones samples).0 ((accepted_iff zones samples hundredths out).0 accepted).0).0

  sound : All (λ s. Sound s.node) ss
  sound =
      let t = (two_taken_iff zones samples).0 ((accepted_iff zones samples hundredths out).0 accepted).0 in
      labs_nodes Sound (nodes samples) hundredths (accepted_list samples t.1).sound

  row_read : (i : ℕ) → i < length ns → sheet_row i ≡ row_of ss (node_in ns i)
  unfolding node_in node_at
  row_read i l = row_told zones samples hundredths out accepted i (omega (arith, length_nodes zones))

  rows_read : (i : ℕ) → map sheet_row (children_of ns i) ≡ map (λ c. row_of ss (node_in ns c)) (children_of ns i)
  rows_read i =
      map_alike sheet_row (λ c. row_of ss (node_in ns c)) (children_of ns i)
      (all_map (λ c p. row_read c p.0) (children_of ns i) (children_all ns i))

  pub row_adds : (i : ℕ) → i < count zones
      → sheet_row i ≡ plus (subtotal_over (own_samples ns (node_in ns i) ss)) (total_of (map sheet_row (children_of ns i)))
  row_adds i l =
      let m : i < length ns = omega (arith, length_nodes zones) in
      row_read i m ∙ zone_adds ns ok ss sound i m
      ∙ ap (λ ts. plus (subtotal_over (own_samples ns (node_in ns i) ss)) (total_of ts)) (sym (rows_read i))

  pub rows_outermost : total_of (map sheet_row (outermost ns)) ≡ subtotal_over (inside_any ns ss)
  unfolding outermost
  rows_outermost = ap total_of (rows_read NONE) ∙ outermost_add ns ok ss sound
