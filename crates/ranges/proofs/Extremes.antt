-- Why it holds: Each present percentage is given by one sample inside the zone, in the samples'
-- order. So a place among the percentages is a place among the samples.
-- What would break it: A percentage of no sample, or one of a sample outside the zone, would be
-- caught here.
use mathlib.Core.Path.{◌≡◌, refl, ap, sym, subst, ◌∙◌}
use mathlib.Core.Logic.{◌↔◌, ◌⊎◌, inl, inr}
use mathlib.Core.Bool.{Bool, true, false}
use mathlib.Core.List.Memᴰ
use mathlib.Core.List.{List, [], ◌∷◌, ◌++◌, flat_map, cons-ne-nil, head-eq_of_cons-eq, tail-eq_of_cons-eq}
use lib.Ieee.{Float, eq}
use Rattle.laws.specs.Choose.{All, In, keep}
use Rattle.laws.proofs.Choices.{all_in}
use Rattle.laws.proofs.Tests.{either, never}
use Rattle.nodes.specs.declared.node.Node.{Node}
use Rattle.nodes.specs.Node.{insideb}
use Rattle.std.specs.Prelude.{Option, None, Some}
use Rattle.readings.specs.declared.reading.Reading.{Reading}
use Rattle.readings.specs.declared.reading.Reading.TheVariants.{Percent, Grams, Missing}
use Rattle.readings.specs.Sample.{Sample, reading_of, percent_in, in_zone, present}
use Rattle.ranges.specs.Demanded.{Gives, GivesNone, Extreme}
use Rattle.ranges.proofs.Unbeaten.{Unbeaten}

-- Two words give one percentage or none.
one_or_none : (d : Option Reading) → (percent_in d ≡ []) ⊎ ((p : Float) × (percent_in d ≡ p ∷ []))
one_or_none (Some (Percent p)) = inr (_, refl)
one_or_none (Some (Grams g)) = inr (_, refl)
one_or_none (Some Missing) = inl refl
one_or_none None = inl refl

module _ (zone : Node) where
  -- The percentages that are present inside the zone.
  abbrev percentages : List Sample → List Float
  percentages ss = present (in_zone zone ss)

  none_at_all : percentages [] ≡ []
  unfolding present in_zone keep flat_map
  none_at_all = refl

  -- One sample more: outside the zone, or inside with nothing or with a percentage.
  module _ (s : Sample) (ss : List Sample) where
    outside : insideb s.node zone ≡ false → percentages (s ∷ ss) ≡ percentages ss
    unfolding present in_zone keep flat_map
    outside h = rw h

    inside : insideb s.node zone ≡ true → percentages (s ∷ ss) ≡ percent_in (reading_of s) ++ percentages ss
    unfolding present in_zone keep flat_map
    inside h = rw h

    inside_none : insideb s.node zone ≡ true → GivesNone s → percentages (s ∷ ss) ≡ percentages ss
    inside_none h g = inside h ∙ ap (λ ps. ps ++ percentages ss) g

    inside_one : (p : Float) → insideb s.node zone ≡ true → Gives s p → percentages (s ∷ ss) ≡ p ∷ percentages ss
    inside_one p h g = inside h ∙ ap (λ ps. ps ++ percentages ss) g

  -- What a sample inside the zone gives is among the percentages.
  given_in : (ss : List Sample) (s : Sample) (q : Float) → In s ss → insideb s.node zone ≡ true → Gives s q → In q (percentages ss)
  given_in [] s q m i g = absurd (Memᴰ.not-nil m)
  given_in (t ∷ ss) s q m i g =
      elim (Memᴰ.cases_cons m) [
        | inl e ↦ subst (λ u. In q (percentages (u ∷ ss))) e (subst (In q) (sym (inside_one s ss q i g)) (Memᴰ.head refl))
        | inr k ↦ elim (either (insideb t.node zone)) [
          | inl j ↦ subst (In q) (sym (inside t ss j)) (Memᴰ.append_right (percent_in (reading_of t)) (given_in ss s q k i g))
          | inr j ↦ subst (In q) (sym (outside t ss j)) (given_in ss s q k i g)
        ]
      ]

  -- A sample that gives the percentage between two others, with the percentages before it.
  record Giver (ss : List Sample) (before : List Float) (p : Float) : Type 0 where
    sample : Sample
    earlier : List Sample
    later : List Sample
    split : ss ≡ earlier ++ (sample ∷ later)
    within : insideb sample.node zone ≡ true
    gives : Gives sample p
    given : percentages earlier ≡ before

  -- One sample more before it.
  giver_later : (s : Sample) (ss : List Sample) (before before' : List Float) (p : Float)
      → ((ts : List Sample) → percentages ts ≡ before → percentages (s ∷ ts) ≡ before') → Giver ss before p → Giver (s ∷ ss) before' p
  giver_later s ss before before' p f g = record {
    sample = g.sample;
    earlier = s ∷ g.earlier;
    later = g.later;
    split = ap (λ ts. s ∷ ts) g.split;
    within = g.within;
    gives = g.gives;
    given = f g.earlier g.given;
  }

  -- The sample itself is the giver where nothing comes before; else the giver is one of the rest.
  giver_one : (s : Sample) (ss : List Sample) (p : Float) (before : List Float) (u : Float) (after : List Float)
      → insideb s.node zone ≡ true → Gives s p → p ∷ percentages ss ≡ before ++ (u ∷ after)
      → ((bs : List Float) → percentages ss ≡ bs ++ (u ∷ after) → Giver ss bs u) → Giver (s ∷ ss) before u
  giver_one s ss p [] u after i g h rest = record {
    sample = s;
    earlier = [];
    later = ss;
    split = refl;
    within = i;
    gives = subst (Gives s) (head-eq_of_cons-eq h) g;
    given = none_at_all;
  }
  giver_one s ss p (b ∷ before) u after i g h rest =
      giver_later s ss before (b ∷ before) u (λ ts e. inside_one s ts p i g ∙ (λ k. head-eq_of_cons-eq h k ∷ e k)) (rest before (tail-eq_of_cons-eq h))

  giver : (ss : List Sample) (before : List Float) (u : Float) (after : List Float) → percentages ss ≡ before ++ (u ∷ after) → Giver ss before u
  giver [] [] u after h = absurd (cons-ne-nil _ _ (sym h ∙ none_at_all))
  giver [] (b ∷ before) u after h = absurd (cons-ne-nil _ _ (sym h ∙ none_at_all))
  giver (s ∷ ss) before u after h =
      elim (either (insideb s.node zone)) [
        | inr o ↦ giver_later s ss before before u (λ ts e. outside s ts o ∙ e) (giver ss before u after (sym (outside s ss o) ∙ h))
        | inl i ↦ elim (one_or_none (reading_of s)) [
          | inl n ↦ giver_later s ss before before u (λ ts e. inside_none s ts i n ∙ e) (giver ss before u after (sym (inside_none s ss i n) ∙ h))
          | inr (p, g) ↦ giver_one s ss p before u after i g (sym (inside_one s ss p i g) ∙ h) (λ bs e. giver ss bs u after e)
        ]
      ]

  -- What no percentage beats, and what beats all before it, is an extreme in the samples' terms.
  pub extreme : (beats : Float → Float → Bool) → ((u q : Float) → beats u q ≡ true → eq q u ≡ false)
      → (ss : List Sample) (u : Float) → Unbeaten beats (present (in_zone zone ss)) u → Extreme beats zone ss u
  extreme beats differ ss u b =
      let g = giver ss b.before u b.after b.split in
      record {
        sample = g.sample;
        earlier = g.earlier;
        later = g.later;
        split = g.split;
        inside = g.within;
        gives = g.gives;
        none_beyond = λ s q m i k. all_in (λ p. beats p u ≡ false) (percentages ss) b.none (given_in ss s q m i k);
        first = λ s q m i k. differ u q
            (all_in (λ p. beats u p ≡ true) b.before b.first (subst (In q) g.given (given_in g.earlier s q m i k)));
      }

  -- There are no percentages exactly when no sample inside the zone gives one.
  none_given : (ss : List Sample) → present (in_zone zone ss) ≡ [] → All (λ s. insideb s.node zone ≡ true → GivesNone s) ss
  none_given [] h = tt
  none_given (s ∷ ss) h =
      elim (either (insideb s.node zone)) [
        | inr o ↦ (λ i. absurd (never i o), none_given ss (sym (outside s ss o) ∙ h))
        | inl i ↦ elim (one_or_none (reading_of s)) [
          | inl n ↦ (λ j. n, none_given ss (sym (inside_none s ss i n) ∙ h))
          | inr (p, g) ↦ absurd (cons-ne-nil _ _ (sym (inside_one s ss p i g) ∙ h))
        ]
      ]

  given_none : (ss : List Sample) → All (λ s. insideb s.node zone ≡ true → GivesNone s) ss → present (in_zone zone ss) ≡ []
  given_none [] h = none_at_all
  given_none (s ∷ ss) h =
      elim (either (insideb s.node zone)) [
        | inr o ↦ outside s ss o ∙ given_none ss h.1
        | inl i ↦ inside_none s ss i (h.0 i) ∙ given_none ss h.1
      ]

  pub none_iff : (ss : List Sample) → (present (in_zone zone ss) ≡ []) ↔ All (λ s. insideb s.node zone ≡ true → GivesNone s) ss
  none_iff ss = (none_given ss, given_none ss)
