-- Why it holds: Only one value is beaten by none and beats all before it, and the search finds it.
-- One more value either leaves it in its place or beats it. A value that beats it also beats every
-- value that doesn't.
-- What would break it: A search that took a later one of several equal values, or that passed over
-- a value, would be caught here. Where two values beat each other, there may be no such value.
use mathlib.Core.Path.{◌≡◌, refl, sym, ap, subst, ◌∙◌}
use mathlib.Core.Logic.{inl, inr}
use mathlib.Core.Bool.{Bool, true, false, not, cond}
use mathlib.Core.List.Memᴰ
use mathlib.Core.List.{List, [], ◌∷◌, ◌++◌, append_assoc, append-nil}
use lib.ListN.{get_or}
use lib.Seq.{get_or_at}
use lib.Ieee.{Float, nan}
use Rattle.laws.specs.Choose.{All, In, any, first_at}
use Rattle.laws.proofs.Choices.{all_map, all_both, all_in, all_append, any_none, none_any}
use Rattle.laws.proofs.First.{first_split}
use Rattle.laws.proofs.Tests.{either, never, so, not_so}
use Rattle.ranges.specs.Range.{unbeaten}

-- u stands in the list, none beats it, and it beats each one before it.
pub record Unbeaten (beats : Float → Float → Bool) (ps : List Float) (u : Float) : Type 0 where
  pub before : List Float
  pub after : List Float
  pub split : ps ≡ before ++ (u ∷ after)
  pub none : All (λ q. beats q u ≡ false) ps
  pub first : All (λ q. beats u q ≡ true) before

stands : (beats : Float → Float → Bool) (ps : List Float) (u : Float) → Unbeaten beats ps u → In u ps
stands beats ps u b = subst (In u) (sym b.split) (Memᴰ.append_right b.before (Memᴰ.head refl))

-- There is no second such value, and `unbeaten` finds it.
unbeaten_found : (beats : Float → Float → Bool) (ps : List Float) (u : Float) → Unbeaten beats ps u → unbeaten beats ps ≡ u
unfolding unbeaten
unbeaten_found beats ps u b =
    subst (λ qs. get_or qs (first_at test qs) nan ≡ u) (sym b.split)
    (get_or_at b.before u b.after nan _ (sym (first_split test b.before u b.after failed passed).1))
  where
    test : Float → Bool
    test p = not (any (λ q. beats q p) ps)

    passed : test u ≡ true
    passed = ap not (none_any (λ q. beats q u) ps b.none)

    failed : All (λ x. test x ≡ false) b.before
    failed = all_map (λ x h. ap not (so (λ f. never h (all_in (λ q. beats q x ≡ false) ps (any_none (λ q. beats q x) ps f) (stands beats ps u b))))) b.before b.first

module _ (beats : Float → Float → Bool) (P : Float → Type 0)
    (asymmetric : (p q : Float) → beats p q ≡ true → beats q p ≡ false)
    (weak : (p q r : Float) → P p → P q → P r → beats p q ≡ true → beats r q ≡ false → beats p r ≡ true) where
  itself : (p : Float) → beats p p ≡ false
  itself p = not_so (λ h. never h (asymmetric p p h))

  one : (p : Float) → Unbeaten beats (p ∷ []) p
  one p = record { before = []; after = []; split = refl; none = (itself p, tt); first = tt }

  -- One more value replaces the one that none beats exactly when it beats that one.
  more : (ps : List Float) (u q : Float) → All P ps → P q → Unbeaten beats ps u → Unbeaten beats (ps ++ (q ∷ [])) (cond (beats q u) q u)
  more ps u q all pq b = elim (either (beats q u)) [ inl t ↦ rw t (replaced t) | inr f ↦ rw f (kept f) ]
    where
      pu : P u
      pu = all_in P ps all (stands beats ps u b)

      replaced : beats q u ≡ true → Unbeaten beats (ps ++ (q ∷ [])) q
      replaced t = record {
        before = ps;
        after = [];
        split = refl;
        none = all_append (λ x. beats x q ≡ false) ps (q ∷ [])
            (all_both (λ x px n. not_so (λ h. never (weak x q u px pq pu h (asymmetric q u t)) n)) ps all b.none) (itself q, tt);
        first = all_both (λ x px n. weak q u x pq pu px t n) ps all b.none;
      }

      kept : beats q u ≡ false → Unbeaten beats (ps ++ (q ∷ [])) u
      kept f = record {
        before = b.before;
        after = b.after ++ (q ∷ []);
        split = ap (λ xs. xs ++ (q ∷ [])) b.split ∙ append_assoc b.before (u ∷ b.after) (q ∷ []);
        none = all_append (λ x. beats x u ≡ false) ps (q ∷ []) b.none (f, tt);
        first = b.first;
      }

  -- With all of `rest` taken in, one by one, there is still such a value.
  along : (ps rest : List Float) (u : Float) → All P ps → All P rest → Unbeaten beats ps u → Unbeaten beats (ps ++ rest) (unbeaten beats (ps ++ rest))
  along ps [] u h k b = subst (λ xs. Unbeaten beats xs (unbeaten beats xs)) (sym (append-nil ps)) (subst (Unbeaten beats ps) (sym (unbeaten_found beats ps u b)) b)
  along ps (q ∷ rest) u h k b =
      subst (λ xs. Unbeaten beats xs (unbeaten beats xs)) (append_assoc ps (q ∷ []) rest)
      (along (ps ++ (q ∷ [])) rest (cond (beats q u) q u) (all_append P ps (q ∷ []) h (k.0, tt)) k.1 (more ps u q h k.0 b))

  pub unbeaten_one : (p : Float) → unbeaten beats (p ∷ []) ≡ p
  unbeaten_one p = unbeaten_found beats (p ∷ []) p (one p)

  -- What `unbeaten` finds stands in the list, none beats it, and it beats each one before it.
  pub unbeaten_is : (p : Float) (ps : List Float) → All P (p ∷ ps) → Unbeaten beats (p ∷ ps) (unbeaten beats (p ∷ ps))
  unbeaten_is p ps h = along (p ∷ []) ps p (h.0, tt) h.1 (one p)

  pub unbeaten_more : (p : Float) (ps : List Float) (q : Float) → All P (p ∷ ps) → P q
      → unbeaten beats ((p ∷ ps) ++ (q ∷ [])) ≡ cond (beats q (unbeaten beats (p ∷ ps))) q (unbeaten beats (p ∷ ps))
  unbeaten_more p ps q h k =
      unbeaten_found beats ((p ∷ ps) ++ (q ∷ [])) _ (more (p ∷ ps) (unbeaten beats (p ∷ ps)) q h k (unbeaten_is p ps h))
