-- Why it holds: Each node of a merge stands before all that is left of both lists. So the pairs of
-- the merge are the pairs within each list and those across.
-- What would break it: A JOINT that let through a pair which no single list may hold, or a merge
-- that lost a node, would be caught here.
use mathlib.Core.Path.{◌≡◌, sym}
use mathlib.Core.Logic.{◌↔◌, ◌⊎◌, inl, inr, ⊎_elim}
use mathlib.Core.Bool.{true, false}
use mathlib.Core.List.{List, [], ◌∷◌}
use native.Mathlib.Omega.{arith}
use lib.Dec.{eqb}
use borrow.Author.Tests.{eqb-true, eq-eqb}
use Rattle.nodes.specs.declared.node.Node.{Node}
use Rattle.answers.specs.Answer.{TAKEN}
use Rattle.nodes.specs.Node.{afterb, sameb}
use Rattle.laws.proofs.Tests.{either, never, so, not_so, and_read, or_read, or_none, not_read, not_none}
use Rattle.laws.proofs.Choices.{all_of, all_map, all_both, any_none, none_any}
use Rattle.nodes.proofs.NodeLaws.{within, apart_read, apart_turned, after_trans, after_self, after_none, same_read, same_self}
use Rattle.lists.specs.Check.{check_nodes}
use Rattle.lists.specs.Private.Merge.{merge, merge_into}
use Rattle.lists.specs.Two.{agreeb, oddsb, jointb}
use Rattle.laws.specs.Choose.{All, EveryTwo}
use Rattle.lists.proofs.MergeSteps.{merge_left, merge_both, merge_right}
use Rattle.lists.proofs.Faults.{Sound}
use Rattle.lists.proofs.Taken.{Fine, nested_read, agree_apart, agree_nested, agree_nests, agree_read, taken_iff}

-- No node of the first list is at odds with one of the second.
abbrev pub Even : List Node → List Node → Type 0
Even xs ys = All (λ x. All (λ y. oddsb x y ≡ false) ys) xs

pub joint_iff : (xs ys : List Node) → (jointb xs ys ≡ false) ↔ Even xs ys
unfolding jointb
joint_iff xs ys = (
  λ h. all_map (λ x k. any_none (oddsb x) ys k) xs (any_none _ xs h),
  λ h. none_any _ xs (all_map (λ x k. none_any (oddsb x) ys k) xs h),
)

-- How two lists make a merge, one node at a time.
data Merged : List Node → List Node → List Node → Type 0 where
  no_first : {ys : List Node} → Merged [] ys ys
  no_second : {x : Node} {xs : List Node} → Merged (x ∷ xs) [] (x ∷ xs)
  left : {x y : Node} {xs ys ms : List Node} → afterb y x ≡ true → Merged xs (y ∷ ys) ms → Merged (x ∷ xs) (y ∷ ys) (x ∷ ms)
  both : {x : Node} {xs ys ms : List Node} → Merged xs ys ms → Merged (x ∷ xs) (x ∷ ys) (x ∷ ms)
  right : {x y : Node} {xs ys ms : List Node} → afterb y x ≡ false → sameb x y ≡ false
      → Merged (x ∷ xs) ys ms → Merged (x ∷ xs) (y ∷ ys) (y ∷ ms)

merged_into : (x : Node) (xs : List Node) → ((ys : List Node) → Merged xs ys (merge xs ys))
    → (ys : List Node) → Merged (x ∷ xs) ys (merge (x ∷ xs) ys)
unfolding merge merge_into
merged_into x xs later [] = no_second
merged_into x xs later (y ∷ ys) =
    elim (either (afterb y x)) [
      | inl h ↦ rw (merge_left x y xs ys h) (left h (later (y ∷ ys)))
      | inr h ↦ elim (either (sameb x y)) [
        | inl s ↦ rw (merge_both x y xs ys h s, ← same_read x y s) (both (later ys))
        | inr s ↦ rw (merge_right x y xs ys h s) (right h s (merged_into x xs later ys))
      ]
    ]

merged : (xs ys : List Node) → Merged xs ys (merge xs ys)
unfolding merge
merged [] ys = no_first
merged (x ∷ xs) ys = merged_into x xs (merged xs) ys

agree_turned : (x y : Node) → agreeb x y ≡ true → agreeb y x ≡ true
agree_turned x y h =
    elim (agree_read x y h) [
      | inl p ↦ agree_apart y x (apart_turned x y p)
      | inr p ↦ elim p [ inl q ↦ agree_nested y x q | inr q ↦ agree_nests y x q ]
    ]

module _ (x y : Node) where
  even_read : oddsb x y ≡ false → x.document ≡ y.document → (sameb x y ≡ true) ⊎ (agreeb x y ≡ true)
  unfolding oddsb
  even_read h d = or_read (sameb x y) (not_none _ (rw (eq-eqb _ _ d) at h))

  even_make : (x.document ≡ y.document → (sameb x y ≡ true) ⊎ (agreeb x y ≡ true)) → oddsb x y ≡ false
  unfolding oddsb
  even_make f =
      not_so (λ h. let p = and_read (eqb x.document y.document) h in
      let q = or_none (sameb x y) (not_read _ p.1) in
      ⊎_elim (λ s. never s q.0) (λ a. never a q.1) (f (eqb-true _ _ p.0)))

  -- Two sound nodes that start at the same place and aren't the same are at odds.
  pub tied : Sound x → Sound y → y.document ≡ x.document → y.start ≡ x.start → sameb x y ≡ false → oddsb x y ≡ false → ⊥
  tied s t d e n o =
      elim (even_read o (sym d)) [
        | inl p ↦ never p n
        | inr a ↦ elim (agree_read x y a) [
          | inl p ↦ ⊎_elim (λ q. omega arith) (λ q. omega arith) (apart_read x y p)
          | inr p ↦ ⊎_elim (λ q. omega (arith, within x y (nested_read x y q).0)) (λ q. omega (arith, within y x (nested_read y x q).0)) p
        ]
      ]

  pub fine_even : Fine x y → oddsb x y ≡ false
  fine_even f = even_make (λ d. inr (f.agree d))

  pub even_fine : afterb y x ≡ true → oddsb x y ≡ false → Fine x y
  even_fine h o = record {
    after = h;
    agree = λ d. ⊎_elim (λ s. absurd (never (rw (same_read x y s) at h) (after_self y))) (λ a. a) (even_read o d);
  }

even_self : (x : Node) → oddsb x x ≡ false
even_self x = even_make x x (λ d. inl (same_self x))

even_turned : (x y : Node) → oddsb x y ≡ false → oddsb y x ≡ false
even_turned x y h =
    even_make y x (λ d. elim (even_read x y h (sym d)) [
      | inl s ↦ inl (rw (same_read x y s) (same_self y))
      | inr a ↦ inr (agree_turned x y a)
    ])

-- What holds of all nodes of a merge holds of all nodes of both lists, and the other way round.
module _ (P : Node → Type 0) where
  merged_all : {xs ys ms : List Node} → Merged xs ys ms → All P ms → All P xs × All P ys
  merged_all no_first h = (tt, h)
  merged_all no_second h = (h, tt)
  merged_all (left a m) h = let r = merged_all m h.1 in ((h.0, r.0), r.1)
  merged_all (both m) h = let r = merged_all m h.1 in ((h.0, r.0), (h.0, r.1))
  merged_all (right a s m) h = let r = merged_all m h.1 in (r.0, (h.0, r.1))

  all_merged : {xs ys ms : List Node} → Merged xs ys ms → All P xs → All P ys → All P ms
  all_merged no_first h k = k
  all_merged no_second h k = h
  all_merged (left a m) h k = (h.0, all_merged m h.1 k)
  all_merged (both m) h k = (h.0, all_merged m h.1 k.1)
  all_merged (right a s m) h k = (k.0, all_merged m h k.1)

-- A node is at odds with none of the nodes that it is fine with.
all_even : (e : Node) (ns : List Node) → All (Fine e) ns → All (λ n. oddsb e n ≡ false) ns
all_even e ns h = all_map (λ n f. fine_even e n f) ns h

-- A node that is fine with the first list may be added to the second.
even_more : (y : Node) (xs ys : List Node) → All (Fine y) xs → Even xs ys → Even xs (y ∷ ys)
even_more y xs ys h k = all_both (λ x f r. (even_turned y x (fine_even y x f), r)) xs h k

-- No two nodes of a list are at odds where each is fine with every later one.
pub self_even : (ns : List Node) → EveryTwo Fine ns → Even ns ns
self_even [] h = tt
self_even (n ∷ ns) h = ((even_self n, all_even n ns h.0), even_more n ns ns h.0 (self_even ns h.1))

-- Both lists are parts of the merge, and a pair across is one of its pairs or one and the same
-- node.
merged_pairs : {xs ys ms : List Node} → Merged xs ys ms → EveryTwo Fine ms → EveryTwo Fine xs × EveryTwo Fine ys × Even xs ys
merged_pairs no_first h = (tt, h, tt)
merged_pairs (no_second {x = x} {xs = xs}) h = (h, tt, all_of (λ x. tt) (x ∷ xs))
merged_pairs (left {x = x} {y = y} {ys = ys} a m) h =
    let f = merged_all (Fine x) m h.0 in
    let r = merged_pairs m h.1 in
    ((f.0, r.0), r.1, (all_even x (y ∷ ys) f.1, r.2))
merged_pairs (both {x = x} {xs = xs} {ys = ys} m) h =
    let f = merged_all (Fine x) m h.0 in
    let r = merged_pairs m h.1 in
    ((f.0, r.0), (f.1, r.1), ((even_self x, all_even x ys f.1), even_more x xs ys f.0 r.2))
merged_pairs (right {x = x} {y = y} {xs = xs} {ys = ys} a s m) h =
    let f = merged_all (Fine y) m h.0 in
    let r = merged_pairs m h.1 in
    (r.0, (f.1, r.1), even_more y (x ∷ xs) ys f.0 r.2)

-- A node before the head of a list, at odds with none of its nodes, is fine with all of them.
ahead : (e n : Node) (ns : List Node) → afterb n e ≡ true → All (Fine n) ns → All (λ m. oddsb e m ≡ false) (n ∷ ns) → All (Fine e) (n ∷ ns)
ahead e n ns a h o = (even_fine e n a o.0, all_both (λ m f k. even_fine e m (after_trans m n e f.after a) k) ns h o.1)

-- Each node that a merge takes stands before all that is left of both lists.
pairs_merged : {xs ys ms : List Node} → Merged xs ys ms → All Sound xs → All Sound ys
    → EveryTwo Fine xs → EveryTwo Fine ys → Even xs ys → EveryTwo Fine ms
pairs_merged no_first s t h k o = k
pairs_merged no_second s t h k o = h
pairs_merged (left {x = x} {y = y} {ys = ys} a m) s t h k o =
    (all_merged (Fine x) m h.0 (ahead x y ys a k.0 o.0), pairs_merged m s.1 t h.1 k o.1)
pairs_merged (both {x = x} {xs = xs} m) s t h k o =
    (all_merged (Fine x) m h.0 k.0, pairs_merged m s.1 t.1 h.1 k.1 (all_map (λ x r. r.1) xs o.1))
pairs_merged (right {x = x} {y = y} {xs = xs} a n m) s t h k o =
    let b : afterb x y ≡ true = so (λ c. let d = after_none y x a c in tied x y s.0 t.0 d.0 d.1 n o.0.0) in (
      all_merged (Fine y) m (ahead y x xs b h.0 (all_map (λ e r. even_turned e y r.0) (x ∷ xs) o)) k.0,
      pairs_merged m s t.1 h k.1 (all_map (λ e r. r.1) (x ∷ xs) o),
    )

-- A merge is taken exactly when both lists are taken and no pair across is at odds.
pub merge_taken_iff : (xs ys : List Node)
    → ((check_nodes (merge xs ys)).answer ≡ TAKEN) ↔ (((check_nodes xs).answer ≡ TAKEN) × ((check_nodes ys).answer ≡ TAKEN) × (jointb xs ys ≡ false))
merge_taken_iff xs ys =
    let m = merged xs ys in (
      λ h. let t = (taken_iff (merge xs ys)).0 h in
          let s = merged_all Sound m t.0 in
          let r = merged_pairs m t.1 in
          ((taken_iff xs).1 (s.0, r.0), (taken_iff ys).1 (s.1, r.1), (joint_iff xs ys).1 r.2),
      λ h. let p = (taken_iff xs).0 h.0 in
          let q = (taken_iff ys).0 h.1 in
          (taken_iff (merge xs ys)).1 (all_merged Sound m p.0 q.0, pairs_merged m p.0 q.0 p.1 q.1 ((joint_iff xs ys).0 h.2)),
    )
