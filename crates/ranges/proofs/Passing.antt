-- Why it holds: The low and the high carried are those of the present readings passed so far. One
-- more sample adds one percentage or none, and a faulty one ends the pass at its index.
-- What would break it: A missing reading taken for a number, or a sample of another zone taken in,
-- would be caught at `pass_none`. The later of two equal values would be caught at `pass_some`.
use Prim.Native.Nat.{ℕ, suc, ◌+◌, ◌*◌, ◌<◌, ◌≤◌}
use native.Mathlib.Omega.{arith}
use mathlib.Core.Path.{◌≡◌, refl, sym, ap, ◌∙◌, subst}
use mathlib.Core.Bool.{true, false}
use mathlib.Core.List.{List, [], ◌∷◌, ◌++◌, flat_map, append_assoc, append-nil}
use lib.ListN.{length, get_or, take}
use lib.Seq.{take-suc, take_all}
use lib.Ieee.{Float}
use Rattle.std.specs.Prelude.{Option, None, Some, Ok, Err}
use Rattle.laws.specs.Choose.{All, keep}
use Rattle.laws.proofs.Choices.{all_append, none_any, keep_append}
use Rattle.answers.specs.Answer.{READING}
use Rattle.answers.specs.Verdict.{ANCESTORS, verdict}
use Rattle.nodes.specs.declared.node.Node.{Node}
use Rattle.nodes.specs.Node.{insideb}
use Rattle.nodes.specs.Words.{nodes, node_at, count}
use Rattle.nodes.proofs.WordLaws.{length_nodes}
use Rattle.readings.specs.declared.reading.Reading.{Reading}
use Rattle.readings.specs.Reading.{decode, percent_of}
use Rattle.readings.specs.Sample.{Sample, READING_WORDS, samples_in, fault_in, faultyb, in_zone, present, reading_of, values_of, percent_in}
use Rattle.readings.proofs.SampleLaws.{sample_at, sample_at_lem, sampled_length}
use Rattle.readings.proofs.Values.{Within, present_within, not_both_below, below_between, above_between}
use Rattle.ranges.specs.declared.range.Range.{Range}
use Rattle.ranges.specs.Private.Passing.{lower, higher, taken_in, passed}
use Rattle.ranges.specs.Range.{ZoneRange, below, above, low_of, high_of, range_of}
use Rattle.ranges.proofs.Cases.{same_range, found_not_none}
use Rattle.ranges.proofs.Faults.{faulty_at, faulty_first}
use Rattle.ranges.proofs.Unbeaten.{unbeaten_one, unbeaten_more}

-- The low and the high of one value more.
low_one : (p : Float) → low_of (p ∷ []) ≡ p
unfolding low_of
low_one p = unbeaten_one below Within not_both_below below_between p

high_one : (p : Float) → high_of (p ∷ []) ≡ p
unfolding high_of
high_one p = unbeaten_one above Within (λ p q h. not_both_below q p h) above_between p

module _ (q : Float) (qs : List Float) (p : Float) (w : All Within (q ∷ qs)) (v : Within p) where
  low_more : low_of (q ∷ qs ++ (p ∷ [])) ≡ lower (low_of (q ∷ qs)) p
  unfolding low_of
  low_more = unbeaten_more below Within not_both_below below_between q qs p w v

  high_more : high_of (q ∷ qs ++ (p ∷ [])) ≡ higher (high_of (q ∷ qs)) p
  unfolding high_of
  high_more = unbeaten_more above Within (λ p q h. not_both_below q p h) above_between q qs p w v

-- What is carried along: the low and the high, if a reading is present.
abbrev pub carried : Option Range → ZoneRange
carried range = Ok range

one_more : (range : Option Range) (ps : List Float) (p : Float) → All Within ps → Within p → carried range ≡ range_of ps
    → carried (Some (taken_in range p)) ≡ range_of (ps ++ (p ∷ []))
unfolding range_of
one_more None [] p w v e = rw (low_one p, high_one p) refl
one_more None (q ∷ qs) p w v e = absurd (found_not_none (sym e))
one_more (Some range) [] p w v e = absurd (found_not_none e)
one_more (Some range) (q ∷ qs) p w v e =
    let same : range ≡ record { low = low_of (q ∷ qs); high = high_of (q ∷ qs) } = same_range e in
    rw (same, low_more q qs p w v, high_more q qs p w v) refl

-- The percentages of two lists of samples, one after the other.
present_append : (xs ys : List Sample) → present (xs ++ ys) ≡ present xs ++ present ys
unfolding present flat_map
present_append [] ys = refl
present_append (x ∷ xs) ys =
    ap (λ ps. percent_in (reading_of x) ++ ps) (present_append xs ys) ∙ sym (append_assoc (percent_in (reading_of x)) (present xs) (present ys))

present_both : (zone : Node) (xs ys : List Sample) → present (in_zone zone (xs ++ ys)) ≡ present (in_zone zone xs) ++ present (in_zone zone ys)
unfolding in_zone
present_both zone xs ys = ap present (keep_append (λ s. insideb s.node zone) xs ys) ∙ present_append _ _

module _ (zone : Node) (ss : List Sample) where
  -- The percentages of the samples before an index that lie inside the zone.
  abbrev sofar : ℕ → List Float
  sofar i = present (in_zone zone (take i ss))

  -- A pass has reached an index: no reading before it is faulty, and what is carried is the range
  -- of those before it.
  pub record Reached (range : Option Range) (i : ℕ) : Type 0 where
    pub sound : All (λ s. faultyb s ≡ false) (take i ss)
    pub range_is : carried range ≡ range_of (sofar i)

  pub pass_start : Reached None 0
  unfolding range_of present in_zone keep flat_map
  pass_start = record { sound = tt; range_is = refl }

  module _ (range : Option Range) (i : ℕ) (r : Reached range i) (d : Sample) (there : i < length ss) where
    abbrev s : Sample
    s = get_or ss i d

    more : take (suc i) ss ≡ take i ss ++ (s ∷ [])
    more = take-suc ss i d there

    sound_more : faultyb s ≡ false → All (λ s. faultyb s ≡ false) (take (suc i) ss)
    sound_more h = subst (All (λ s. faultyb s ≡ false)) (sym more) (all_append (λ s. faultyb s ≡ false) (take i ss) (s ∷ []) r.sound (h, tt))

    values_more : sofar (suc i) ≡ sofar i ++ present (in_zone zone (s ∷ []))
    values_more = ap (λ xs. present (in_zone zone xs)) more ∙ present_both zone (take i ss) (s ∷ [])

    -- A sample that gives no percentage inside the zone changes nothing.
    pub pass_none : faultyb s ≡ false → present (in_zone zone (s ∷ [])) ≡ [] → Reached range (suc i)
    pass_none h e = record {
      sound = sound_more h;
      range_is = r.range_is ∙ ap range_of (sym (values_more ∙ ap (λ ps. sofar i ++ ps) e ∙ append-nil (sofar i)));
    }

    -- A sample inside the zone with a percentage takes it in.
    pub pass_some : (p : Float) → faultyb s ≡ false → present (in_zone zone (s ∷ [])) ≡ p ∷ [] → Reached (Some (taken_in range p)) (suc i)
    pass_some p h e = record {
      sound = sound_more h;
      range_is =
          one_more range (sofar i) p (present_within (in_zone zone (take i ss)))
          (subst (All Within) e (present_within (in_zone zone (s ∷ [])))).0 r.range_is
          ∙ ap range_of (sym (values_more ∙ ap (λ ps. sofar i ++ ps) e));
    }

    -- A faulty reading ends the pass.
    pub pass_stop : faultyb s ≡ true → Err (verdict READING ANCESTORS i) ≡ passed zone ss
    unfolding passed
    pass_stop h =
        let first = faulty_first ss (faulty_at ss i d there r.sound h) in
        rw (first.0, first.1) refl

  -- After the last sample the pass has its answer.
  pub pass_end : (range : Option Range) (i : ℕ) → Reached range i → length ss ≤ i → carried range ≡ passed zone ss
  unfolding passed
  pass_end range i r l =
      let all = take_all i ss l in
      r.range_is ∙ ap (λ xs. range_of (present (in_zone zone xs))) all ∙ sym (rw (none_any faultyb ss (subst (All (λ s. faultyb s ≡ false)) all r.sound)) refl)

-- The same for a pass along words: the sample at an index, its reading decoded from two words.
module _ (zone : Node) (samples readings : List ℕ) (paired : length readings ≡ READING_WORDS * count samples) where
  abbrev all : List Sample
  all = samples_in samples readings

  as_many : length readings ≡ READING_WORDS * length (nodes samples)
  as_many = paired ∙ ap (λ n. READING_WORDS * n) (sym (length_nodes samples))

  pub samples_count : length all ≡ count samples
  samples_count = sampled_length (nodes samples) readings as_many ∙ length_nodes samples

  -- What the two words of the sample at an index stand for.
  abbrev decoded_at : ℕ → Option Reading
  decoded_at i = decode (get_or readings (READING_WORDS * i) 0) (get_or readings (READING_WORDS * i + 1) 0)

  module _ (range : Option Range) (i : ℕ) (r : Reached zone all range i) (there : i < count samples) where
    abbrev t : Sample
    t = sample_at (nodes samples) readings i

    at : get_or all i t ≡ t
    at = sample_at_lem (nodes samples) readings i t (subst (λ n. i < n) (sym (length_nodes samples)) there) as_many

    in_all : i < length all
    in_all = subst (λ n. i < n) (sym samples_count) there

    sound_at : (read : Reading) → decoded_at i ≡ Some read → faultyb (get_or all i t) ≡ false
    sound_at read e = ap faultyb at ∙ ap fault_in e

    -- What the sample gives inside the zone.
    gives : (ps : List Float) → insideb (node_at samples i) zone ≡ true → percent_in (decoded_at i) ≡ ps → present (in_zone zone (get_or all i t ∷ [])) ≡ ps
    unfolding present in_zone keep flat_map node_at
    gives ps h e = rw (at, h) (append-nil (percent_in (decoded_at i)) ∙ e)

    pub outside_turn : (read : Reading) → decoded_at i ≡ Some read → insideb (node_at samples i) zone ≡ false → Reached zone all range (i + 1)
    unfolding present in_zone keep flat_map node_at
    outside_turn read e h = subst (Reached zone all range) (omega arith) (pass_none zone all range i r t in_all (sound_at read e) (rw (at, h) refl))

    pub missing_turn : (read : Reading) → decoded_at i ≡ Some read → insideb (node_at samples i) zone ≡ true → percent_of read ≡ None
        → Reached zone all range (i + 1)
    missing_turn read e h m =
        subst (Reached zone all range) (omega arith)
        (pass_none zone all range i r t in_all (sound_at read e) (gives [] h (ap percent_in e ∙ ap values_of m)))

    pub percent_turn : (read : Reading) (p : Float) → decoded_at i ≡ Some read → insideb (node_at samples i) zone ≡ true → percent_of read ≡ Some p
        → Reached zone all (Some (taken_in range p)) (i + 1)
    percent_turn read p e h m =
        subst (Reached zone all (Some (taken_in range p))) (omega arith)
        (pass_some zone all range i r t in_all p (sound_at read e) (gives (p ∷ []) h (ap percent_in e ∙ ap values_of m)))

    pub faulty_turn : decoded_at i ≡ None → Err (verdict READING ANCESTORS i) ≡ passed zone all
    faulty_turn e = pass_stop zone all range i r t in_all (ap faultyb at ∙ ap fault_in e)
