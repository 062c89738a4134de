-- Why it holds: What a call hands out ascends past its place, and what it leaves lies past the
-- place that it reaches. So the place tells the two apart.
-- What would break it: A place that is not the last item's, or an equal key taken for one past the
-- place, would be caught here. With either, an item would be lost or come twice.
use mathlib.Core.Path.{◌≡◌, refl, subst}
use mathlib.Core.Logic.{◌⊎◌, inl, inr, ⊎_elim}
use mathlib.Core.Bool.{Bool, true, false}
use mathlib.Core.List.Memᴰ
use mathlib.Core.List.{List, [], ◌∷◌, ◌++◌}
use Prim.Native.Nat.{ℕ, zero, suc}
use native.Mathlib.Omega.{arith}
use lib.ListN.{length, take, length-take}
use lib.Seq.{take_all}
use borrow.Author.Tests.{eqb-true, eqb-false}
use Rattle.laws.specs.Choose.{All, EveryTwo, In, keep}
use Rattle.laws.proofs.Choices.{all_in, all_map, each_in, take_all_of, keep_in, keep_past, keep_every_two, keep_all_of, every_two_map}
use Rattle.laws.proofs.Tests.{never}
use Rattle.paging.specs.Calls.{Call, refused, accepted, given, moved, place_after, all_given}
use Rattle.paging.specs.Key.{aboveb}
use Rattle.paging.specs.Page.{Spot, fresh, after, pastb, remains, handed, doneb, reached}
use Rattle.paging.proofs.KeyLaws.{above_self, above_trans}

module _ {A : Type 0} (key : A → List ℕ) where
  -- The items ascend strictly by key.
  abbrev pub Ascends : List A → Type 0
  Ascends xs = EveryTwo (λ x y. aboveb (key y) (key x) ≡ true) xs

  -- The listing of an accepted call ascends.
  abbrev pub Ascending : Call A → Type 0
  Ascending refused = Unit {0}
  Ascending (accepted xs room) = Ascends xs

  -- x stands in the listing of an accepted call.
  abbrev pub Stood : A → Call A → Type 0
  Stood x refused = Unit {0}
  Stood x (accepted xs room) = In x xs

  -- Each item lies past the one before it, and the first past a place.
  abbrev pub Run : Spot → List A → Type 0
  Run place [] = Unit {0}
  Run place (x ∷ xs) = (pastb place (key x) ≡ true) × Run (after (key x)) xs

  -- What stands above a key past a place lies past it too.
  pub past_trans : (place : Spot) (j k : List ℕ) → pastb place j ≡ true → aboveb k j ≡ true → pastb place k ≡ true
  unfolding pastb
  past_trans fresh j k p q = refl
  past_trans (after i) j k p q = above_trans k j i q p

  -- All of a run lies past its place.
  pub run_past : (place : Spot) (xs : List A) → Run place xs → All (λ x. pastb place (key x) ≡ true) xs
  unfolding pastb
  run_past place [] r = tt
  run_past place (x ∷ xs) r = (r.0, all_map (λ y q. past_trans place (key x) (key y) r.0 q) xs (run_past (after (key x)) xs r.1))

  run_ascends : (place : Spot) (xs : List A) → Run place xs → Ascends xs
  unfolding pastb
  run_ascends place [] r = tt
  run_ascends place (x ∷ xs) r = (run_past (after (key x)) xs r.1, run_ascends (after (key x)) xs r.1)

  ascends_run : (place : Spot) (xs : List A) → All (λ x. pastb place (key x) ≡ true) xs → Ascends xs → Run place xs
  unfolding pastb
  ascends_run place [] p a = tt
  ascends_run place (x ∷ xs) p a = (p.0, ascends_run (after (key x)) xs a.0 a.1)

  run_append : (place : Spot) (xs ys : List A) → Run place xs → Run (reached (λ x. after (key x)) place xs) ys → Run place (xs ++ ys)
  unfolding reached
  run_append place [] ys r s = s
  run_append place (x ∷ xs) ys r s = (r.0, run_append (after (key x)) xs ys r.1 s)

  pub run_take : (place : Spot) (n : ℕ) (xs : List A) → Run place xs → Run place (take n xs)
  run_take place zero xs r = tt
  run_take place (suc n) [] r = tt
  run_take place (suc n) (x ∷ xs) r = (r.0, run_take (after (key x)) n xs r.1)

  -- What remains of an ascending listing is a run from the place on.
  pub run_remains : (place : Spot) (xs : List A) → Ascends xs → Run place (remains key place xs)
  unfolding remains
  run_remains place xs a =
      let test : A → Bool = λ x. pastb place (key x) in
      ascends_run place (keep test xs) (keep_past test xs) (keep_every_two (λ x y. aboveb (key y) (key x) ≡ true) test xs a)

  -- An item of a run is among the first n, or lies past the place that these reach.
  run_split : (place : Spot) (n : ℕ) (xs : List A) → Run place xs → (x : A) → In x xs
      → In x (take n xs) ⊎ (pastb (reached (λ y. after (key y)) place (take n xs)) (key x) ≡ true)
  unfolding reached
  run_split place zero xs r x m = inr (all_in (λ y. pastb place (key y) ≡ true) xs (run_past place xs r) m)
  run_split place (suc n) [] r x m = absurd (Memᴰ.not-nil m)
  run_split place (suc n) (y ∷ xs) r x m =
      elim (Memᴰ.cases_cons m) [
        | inl e ↦ inl (Memᴰ.head e)
        | inr k ↦ ⊎_elim (λ i. inl (Memᴰ.tail i)) inr (run_split (after (key y)) n xs r.1 x k)
      ]

  -- All that a call hands out is a run from its place on.
  given_run : (place : Spot) (call : Call A) → Ascending call → Run place (given key place call)
  unfolding given handed
  given_run place refused a = tt
  given_run place (accepted xs room) a = run_take place room (remains key place xs) (run_remains place xs a)

  calls_run : (place : Spot) (calls : List (Call A)) → All Ascending calls → Run place (all_given key place calls)
  unfolding all_given moved
  calls_run place [] a = tt
  calls_run place (call ∷ calls) a =
      run_append place (given key place call) _ (given_run place call a.0) (calls_run (moved key place call) calls a.1)

  -- An item past a call's place is handed out by it, or lies past the place that it reaches.
  given_split : (place : Spot) (call : Call A) → Ascending call → (x : A) → Stood x call → pastb place (key x) ≡ true
      → In x (given key place call) ⊎ (pastb (moved key place call) (key x) ≡ true)
  unfolding given handed moved reached remains
  given_split place refused a x s p = inr p
  given_split place (accepted xs room) a x s p =
      run_split place room (remains key place xs) (run_remains place xs a) x (keep_in (λ y. pastb place (key y)) xs x s p)

  -- Where a call is done, all that lies past its place is handed out.
  done_gives : (place : Spot) (xs : List A) (room : ℕ) → doneb key place room xs ≡ true → (x : A) → In x xs → pastb place (key x) ≡ true
      → In x (handed key place room xs)
  unfolding doneb handed remains
  done_gives place xs room d x s p =
      let kept = remains key place xs in
      let full : length (take room kept) ≡ length kept = eqb-true (length (take room kept)) (length kept) d in
      rw (take_all room kept (omega (arith, full, length-take room kept))) (keep_in (λ y. pastb place (key y)) xs x s p)

  -- The same from any place that lies before the item.
  none_lost_from : (place : Spot) (calls : List (Call A)) (xs : List A) (room : ℕ) → All Ascending calls
      → doneb key (place_after key place calls) room xs ≡ true → (x : A) → All (Stood x) calls → In x xs → pastb place (key x) ≡ true
      → In x (all_given key place (calls ++ accepted xs room ∷ []))
  unfolding place_after all_given given
  none_lost_from place [] xs room a d x s i p = Memᴰ.append_left [] (done_gives place xs room d x i p)
  none_lost_from place (call ∷ calls) xs room a d x s i p =
      elim (given_split place call a.0 x s.0 p) [
        | inl m ↦ Memᴰ.append_left _ m
        | inr q ↦ Memᴰ.append_right (given key place call) (none_lost_from (moved key place call) calls xs room a.1 d x s.1 i q)
      ]

  -- What stands in every listing of a done sequence of calls is handed out.
  pub none_lost : (calls : List (Call A)) (xs : List A) (room : ℕ) → All Ascending calls
      → doneb key (place_after key fresh calls) room xs ≡ true → (x : A) → All (Stood x) calls → In x xs
      → In x (all_given key fresh (calls ++ accepted xs room ∷ []))
  unfolding pastb
  none_lost calls xs room a d x s i = none_lost_from fresh calls xs room a d x s i refl

  -- No two items that a sequence of calls hands out have the same key.
  pub no_key_twice : (calls : List (Call A)) → All Ascending calls → EveryTwo (λ x y. key x ≡ key y → ⊥) (all_given key fresh calls)
  no_key_twice calls a =
      every_two_map (λ x y h e. never h (subst (λ k. aboveb k (key x) ≡ false) e (above_self (key x)))) (all_given key fresh calls)
      (run_ascends fresh (all_given key fresh calls) (calls_run fresh calls a))

  -- A call hands out only items of its own listing.
  pub own_listing : (place : Spot) (xs : List A) (room : ℕ) → All (λ x. In x xs) (handed key place room xs)
  unfolding handed remains
  own_listing place xs room =
      take_all_of (λ x. In x xs) room (remains key place xs) (keep_all_of (λ x. In x xs) (λ x. pastb place (key x)) xs (each_in xs))

  -- A call that isn't done fills its room.
  pub fills_room : (place : Spot) (xs : List A) (room : ℕ) → doneb key place room xs ≡ false → length (handed key place room xs) ≡ room
  unfolding doneb handed
  fills_room place xs room d =
      let kept = remains key place xs in
      let short : length (take room kept) ≡ length kept → ⊥ = eqb-false (length (take room kept)) (length kept) d in
      omega (arith, short, length-take room kept)
