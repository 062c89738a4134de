-- Why it holds: The place that a call reaches leaves of an unaltered listing just what the call did
-- not hand out. So the pages put together are the listing, and rooms that together suffice bring it
-- to its end.
-- What would break it: A page that began before or after where the last one ended, or that left
-- room unused, would be caught here.
use mathlib.Core.Path.{◌≡◌, refl, ap, ◌∙◌}
use mathlib.Core.Bool.{true, false}
use mathlib.Core.List.{List, [], ◌∷◌, ◌++◌, map, append-nil}
use Prim.Native.Nat.{ℕ, zero, suc, ◌+◌, ◌≤◌}
use native.Mathlib.Omega.{arith}
use lib.ListN.{length, take, drop, length-take, length-drop, take-append-drop}
use lib.Seq.{take_all}
use borrow.Author.Tests.{eqb-true, eq-eqb}
use Rattle.laws.specs.Choose.{keep}
use Rattle.laws.proofs.Choices.{keep_failed, keep_all, all_of, keep_kept}
use Rattle.laws.proofs.Tests.{never, not_so}
use Rattle.paging.specs.Calls.{accepted, total, given, moved, place_after, all_given}
use Rattle.paging.specs.Page.{Spot, fresh, after, pastb, remains, handed, doneb, reached}
use Rattle.paging.proofs.Demand.{Ascends, Run, past_trans, run_past, run_take, run_remains}
use Rattle.paging.proofs.KeyLaws.{above_self, above_trans}

module _ {A : Type 0} (key : A → List ℕ) where
  -- The place that a run reaches.
  abbrev end : Spot → List A → Spot
  end place xs = reached (λ x. after (key x)) place xs

  -- What lies past it lies past the place where the run began.
  end_past : (place : Spot) (xs : List A) → Run key place xs → (k : List ℕ) → pastb (end place xs) k ≡ true → pastb place k ≡ true
  unfolding reached pastb
  end_past place [] r k p = p
  end_past place (x ∷ xs) r k p = past_trans key place (key x) k r.0 (end_past (after (key x)) xs r.1 k p)

  -- And the key of the place where the run began doesn't.
  end_beyond : (j : List ℕ) (xs : List A) → Run key (after j) xs → pastb (end (after j) xs) j ≡ false
  unfolding reached pastb
  end_beyond j [] r = above_self j
  end_beyond j (x ∷ xs) r =
      not_so (λ p. never (above_trans j (key x) j (end_past (after (key x)) xs r.1 j p) r.0) (above_self j))

  -- All items of a run but its first n lie past the place that these reach.
  run_rest : (place : Spot) (n : ℕ) (xs : List A) → Run key place xs → remains key (end place (take n xs)) xs ≡ drop n xs
  unfolding remains reached keep
  run_rest place zero xs r = keep_all (λ x. pastb place (key x)) xs (run_past key place xs r)
  run_rest place (suc n) [] r = refl
  run_rest place (suc n) (x ∷ xs) r =
      keep_failed (λ y. pastb (end (after (key x)) (take n xs)) (key y)) x xs
      (end_beyond (key x) (take n xs) (run_take key (after (key x)) n xs r.1))
      ∙ run_rest (after (key x)) n xs r.1

  -- Past the place that a page reaches, there remains what it did not hand out.
  pub page_rest : (place : Spot) (xs : List A) → Ascends key xs → (room : ℕ)
      → remains key (moved key place (accepted xs room)) xs ≡ drop room (remains key place xs)
  unfolding moved given handed remains
  page_rest place xs a room =
      let rest = remains key place xs in
      let run : Run key place rest = run_remains key place xs a in
      keep_kept (λ x. pastb place (key x)) (λ x. pastb (end place (take room rest)) (key x))
      (λ x. end_past place (take room rest) (run_take key place room rest run) (key x)) xs
      ∙ run_rest place room rest run

  -- Pages of a listing that nobody alters, up to one that is done, are what remained of it.
  pages_from : (place : Spot) (xs : List A) → Ascends key xs → (rooms : List ℕ) (room : ℕ)
      → doneb key (place_after key place (map (accepted xs) rooms)) room xs ≡ true
      → all_given key place (map (accepted xs) rooms ++ accepted xs room ∷ []) ≡ remains key place xs
  unfolding place_after all_given given handed doneb
  pages_from place xs a [] room d =
      let rest = remains key place xs in
      let full : length (take room rest) ≡ length rest = eqb-true (length (take room rest)) (length rest) d in
      append-nil (take room rest) ∙ take_all room rest (omega (arith, full, length-take room rest))
  pages_from place xs a (r ∷ rooms) room d =
      let rest = remains key place xs in
      ap (λ ys. take r rest ++ ys) (pages_from (moved key place (accepted xs r)) xs a rooms room d ∙ page_rest place xs a r)
      ∙ take-append-drop r rest

  -- From a fresh start they are all of it, in its order.
  pub pages_whole : (xs : List A) → Ascends key xs → (rooms : List ℕ) (room : ℕ)
      → doneb key (place_after key fresh (map (accepted xs) rooms)) room xs ≡ true
      → all_given key fresh (map (accepted xs) rooms ++ accepted xs room ∷ []) ≡ xs
  unfolding remains pastb
  pages_whole xs a rooms room d = pages_from fresh xs a rooms room d ∙ keep_all (λ x. pastb fresh (key x)) xs (all_of (λ x. refl) xs)

  -- Where the rooms together are enough for what remains, the last page is done.
  ends_from : (place : Spot) (xs : List A) → Ascends key xs → (rooms : List ℕ) (room : ℕ)
      → length (remains key place xs) ≤ total rooms + room → doneb key (place_after key place (map (accepted xs) rooms)) room xs ≡ true
  unfolding place_after doneb handed
  ends_from place xs a [] room enough =
      let rest = remains key place xs in
      eq-eqb (length (take room rest)) (length rest) (omega (arith, length-take room rest))
  ends_from place xs a (r ∷ rooms) room enough =
      ends_from (moved key place (accepted xs r)) xs a rooms room
      (rw (page_rest place xs a r) (omega (arith, length-drop r (remains key place xs))))

  -- And from a fresh start where they are enough for all of it.
  pub pages_end : (xs : List A) → Ascends key xs → (rooms : List ℕ) (room : ℕ) → length xs ≤ total rooms + room
      → doneb key (place_after key fresh (map (accepted xs) rooms)) room xs ≡ true
  unfolding remains pastb
  pages_end xs a rooms room enough =
      ends_from fresh xs a rooms room (rw (keep_all (λ x. pastb fresh (key x)) xs (all_of (λ x. refl) xs)) enough)
