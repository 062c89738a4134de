-- Why it holds: Every leader meets every follower once, in the order of both lists, and related
-- nodes are of one document, so what is listed ascends.
-- What would break it: A pair that is left out, listed twice or out of order would be caught here,
-- in either order and for either relation.
use Prim.Native.Nat.{ℕ, ◌*◌, ◌≤◌}
use mathlib.Core.Path.{◌≡◌, refl, sym, ap, subst, ◌∙◌}
use mathlib.Core.Bool.{true, false}
use mathlib.Core.List.Memᴰ
use mathlib.Core.List.{List, [], ◌∷◌, map}
use mathlib.Core.Logic.{◌↔◌, inl, inr}
use native.Mathlib.Omega.{arith}
use lib.Dec.{ltb}
use lib.ListN.{length, length-append, length-map}
use borrow.Author.Tests.{eq-eqb, lt-ltb}
use Rattle.nodes.specs.declared.node.Node.{Node}
use Rattle.laws.specs.Choose.{All, EveryTwo, In, keep}
use Rattle.nodes.specs.Node.{insideb, afterb}
use Rattle.nodes.specs.Words.{MOST_NODES}
use Rattle.laws.proofs.Choices.{all_in, all_map, each_in, keep_in, keep_past, keep_every_two, keep_all_of, keep_fewer, every_two_map, all_append, every_two_append, pairs_passed}
use Rattle.nodes.proofs.NodeLaws.{within, directly_inside, after_read, after_starts}
use Rattle.laws.proofs.Tests.{never, and_make, or_left, or_right}
use Rattle.paging.specs.Key.{aboveb}
use Rattle.paging.proofs.KeyLaws.{above_self}
use Rattle.tickets.specs.declared.ticket.Order.{Order}
use Rattle.tickets.specs.declared.ticket.Order.TheVariants.{Descendant, Ancestor}
use Rattle.tickets.specs.declared.ticket.Relation.{Relation}
use Rattle.tickets.specs.declared.ticket.Relation.TheVariants.{Inside, Directly}
use Rattle.tickets.specs.Listing.{Pair, relatedb, askedb, sort_key, leaders, followers, pair_of, every_pair, listing}
use Rattle.tickets.proofs.Places.{above_last}
use Rattle.tickets.proofs.Groups.{key_of_lem}
use Rattle.tickets.specs.Ticket.{Asked, asked}

-- The node of a pair that comes first in the order, and the other one.
abbrev leader : Order → Pair → Node
leader order p = leaders order p.ancestor p.descendant

abbrev follower : Order → Pair → Node
follower order p = followers order p.ancestor p.descendant

leader_of : (order : Order) (x y : Node) → leader order (pair_of order x y) ≡ x
unfolding leaders pair_of
leader_of Descendant x y = refl
leader_of Ancestor x y = refl

follower_of : (order : Order) (x y : Node) → follower order (pair_of order x y) ≡ y
unfolding followers pair_of
follower_of Descendant x y = refl
follower_of Ancestor x y = refl

pair_of_lem : (order : Order) (p : Pair) → p ≡ pair_of order (leader order p) (follower order p)
unfolding leaders followers pair_of
pair_of_lem Descendant p = refl
pair_of_lem Ancestor p = refl

-- A pair of a group consists of its leader and one of the followers.
group_in : (order : Order) (x : Node) (ys : List Node) (p : Pair) → In p (map (pair_of order x) ys) → (leader order p ≡ x) × In (follower order p) ys
group_in order x [] p m = absurd (Memᴰ.not-nil m)
group_in order x (y ∷ ys) p m =
    elim (Memᴰ.cases_cons m) [
      | inl e ↦ (ap (leader order) e ∙ leader_of order x y, Memᴰ.head (ap (follower order) e ∙ follower_of order x y))
      | inr k ↦ let q = group_in order x ys p k in (q.0, Memᴰ.tail q.1)
    ]

in_group : (order : Order) (x y : Node) (ys : List Node) → In y ys → In (pair_of order x y) (map (pair_of order x) ys)
in_group order x y [] m = absurd (Memᴰ.not-nil m)
in_group order x y (z ∷ ys) m =
    elim (Memᴰ.cases_cons m) [ inl e ↦ Memᴰ.head (ap (pair_of order x) e) | inr k ↦ Memᴰ.tail (in_group order x y ys k) ]

every_in : (order : Order) (xs ys : List Node) (p : Pair) → In p (every_pair order xs ys) → In (leader order p) xs × In (follower order p) ys
unfolding every_pair
every_in order [] ys p m = absurd (Memᴰ.not-nil m)
every_in order (x ∷ xs) ys p m =
    elim (Memᴰ.append_cases (map (pair_of order x) ys) m) [
      | inl k ↦ let q = group_in order x ys p k in (Memᴰ.head q.0, q.1)
      | inr k ↦ let q = every_in order xs ys p k in (Memᴰ.tail q.0, q.1)
    ]

in_every : (order : Order) (x y : Node) (xs ys : List Node) → In x xs → In y ys → In (pair_of order x y) (every_pair order xs ys)
unfolding every_pair
in_every order x y [] ys m n = absurd (Memᴰ.not-nil m)
in_every order x y (z ∷ xs) ys m n =
    elim (Memᴰ.cases_cons m) [
      | inl e ↦ Memᴰ.append_left _ (Memᴰ.cast (ap (λ w. pair_of order w y) e) (in_group order z y ys n))
      | inr k ↦ Memᴰ.append_right (map (pair_of order z) ys) (in_every order x y xs ys k n)
    ]

-- The order alone decides which of the two lists is the ancestors'.
sides : (order : Order) (as' ds : List Node) (p : Pair)
    → (In (leader order p) (leaders order as' ds) × In (follower order p) (followers order as' ds)) ↔ (In p.ancestor as' × In p.descendant ds)
unfolding leaders followers
sides Descendant as' ds p = (λ h. (h.1, h.0), λ h. (h.1, h.0))
sides Ancestor as' ds p = (λ h. h, λ h. h)

-- Every pair consists of an ancestor out of the one list and a descendant out of the other.
pub pair_sides : (order : Order) (as' ds : List Node) (p : Pair)
    → In p (every_pair order (leaders order as' ds) (followers order as' ds)) → In p.ancestor as' × In p.descendant ds
pair_sides order as' ds p m = (sides order as' ds p).0 (every_in order (leaders order as' ds) (followers order as' ds) p m)

-- The listing holds the pairs of an ancestor and a descendant with the relation asked for, and no
-- others.
pub listed_iff : (ask : Asked) (as' ds : List Node) (p : Pair)
    → In p (listing ask as' ds) ↔ (In p.ancestor as' × In p.descendant ds × (askedb ask p ≡ true))
unfolding listing
listed_iff ask as' ds p =
    let xs = leaders ask.order as' ds in
    let ys = followers ask.order as' ds in
    let every = every_pair ask.order xs ys in
    let kept = keep (askedb ask) every in (
      λ m.
          let i = all_in (λ q. In q every) kept (keep_all_of (λ q. In q every) (askedb ask) every (each_in every)) m in
          let s = pair_sides ask.order as' ds p i in
          (s.0, s.1, all_in (λ q. askedb ask q ≡ true) kept (keep_past (askedb ask) every) m),
      λ h.
          let s = (sides ask.order as' ds p).1 (h.0, h.1) in
          keep_in (askedb ask) every p (Memᴰ.cast (pair_of_lem ask.order p) (in_every ask.order (leader ask.order p) (follower ask.order p) xs ys s.0 s.1))
          h.2,
    )

-- Either relation is inside, and more; so related nodes are of one document.
pub related_inside : (relation : Relation) (p : Pair) → relatedb relation p ≡ true → insideb p.descendant p.ancestor ≡ true
unfolding relatedb
related_inside Inside p h = h
related_inside Directly p h = (directly_inside p.descendant p.ancestor h).0

pub related_document : (relation : Relation) (p : Pair) → relatedb relation p ≡ true → p.descendant.document ≡ p.ancestor.document
related_document relation p h = (within p.descendant p.ancestor (related_inside relation p h)).document

pub group_document : (relation : Relation) (order : Order) (x y : Node) → relatedb relation (pair_of order x y) ≡ true → y.document ≡ x.document
unfolding pair_of
group_document relation Descendant x y h = sym (related_document relation (record { ancestor = y; descendant = x }) h)
group_document relation Ancestor x y h = related_document relation (record { ancestor = x; descendant = y }) h

-- The key of a later leader stands above, whatever follows.
leader_above : (y x : Node) (j k : List ℕ) → afterb y x ≡ true → aboveb (y.document ∷ y.start ∷ j) (x.document ∷ x.start ∷ k) ≡ true
unfolding aboveb
leader_above y x j k h =
    elim (after_read y x h) [
      | inl d ↦ or_left _ (lt-ltb x.document y.document d)
      | inr q ↦ or_right (ltb x.document y.document)
          (and_make (eq-eqb y.document x.document q.0) (or_left _ (lt-ltb x.start y.start q.1)))
    ]

module _ (relation : Relation) (order : Order) where
  -- The key of the later of two pairs stands above that of the earlier.
  abbrev Above : Pair → Pair → Type 0
  Above p q = aboveb (sort_key order q) (sort_key order p) ≡ true

  -- The later key stands above if both pairs are related.
  abbrev Rises : Pair → Pair → Type 0
  Rises p q = relatedb relation p ≡ true → relatedb relation q ≡ true → Above p q

  -- This holds for pairs of a leader and of a later one.
  groups_rise : (x y v w : Node) → afterb v x ≡ true → Rises (pair_of order x y) (pair_of order v w)
  groups_rise x y v w h p q = rw (key_of_lem order x y, key_of_lem order v w) (leader_above v x (w.start ∷ []) (y.start ∷ []) h)

  -- And for two pairs of one leader.
  group_rise : (x y z : Node) → afterb z y ≡ true → Rises (pair_of order x y) (pair_of order x z)
  group_rise x y z h p q =
      rw (key_of_lem order x y, key_of_lem order x z)
      (above_last x.document x.start z.start y.start
      (after_starts z y h (group_document relation order x y p ∙ sym (group_document relation order x z q))))

  group_rises : (x : Node) (ys : List Node) → EveryTwo (λ e n. afterb n e ≡ true) ys → EveryTwo Rises (map (pair_of order x) ys)
  group_rises x [] h = tt
  group_rises x (y ∷ ys) h = (later ys h.0, group_rises x ys h.1)
    where
      later : (zs : List Node) → All (λ z. afterb z y ≡ true) zs → All (Rises (pair_of order x y)) (map (pair_of order x) zs)
      later [] k = tt
      later (z ∷ zs) k = (group_rise x y z k.0, later zs k.1)

  -- What holds of a leader's pairs holds of its group.
  group_of : (P : Pair → Type 0) (x : Node) → ((y : Node) → P (pair_of order x y)) → (ys : List Node) → All P (map (pair_of order x) ys)
  group_of P x f [] = tt
  group_of P x f (y ∷ ys) = (f y, group_of P x f ys)

  every_of : (P : Pair → Type 0) (xs ys : List Node) → All (λ x. (y : Node) → P (pair_of order x y)) xs → All P (every_pair order xs ys)
  unfolding every_pair
  every_of P [] ys h = tt
  every_of P (x ∷ xs) ys h = all_append P (map (pair_of order x) ys) _ (group_of P x h.0 ys) (every_of P xs ys h.1)

  every_rises : (xs ys : List Node) → EveryTwo (λ e n. afterb n e ≡ true) xs → EveryTwo (λ e n. afterb n e ≡ true) ys
      → EveryTwo Rises (every_pair order xs ys)
  unfolding every_pair
  every_rises [] ys h k = tt
  every_rises (x ∷ xs) ys h k =
      every_two_append Rises (map (pair_of order x) ys) _ (group_rises x ys k) (every_rises xs ys h.1 k)
      (group_of (λ p. All (Rises p) (every_pair order xs ys)) x
      (λ y. every_of (Rises (pair_of order x y)) xs ys (all_map (λ v a w. groups_rise x y v w a) xs h.0)) ys)

  every_ascends : (xs ys : List Node) → EveryTwo (λ e n. afterb n e ≡ true) xs → EveryTwo (λ e n. afterb n e ≡ true) ys
      → EveryTwo Above (keep (relatedb relation) (every_pair order xs ys))
  every_ascends xs ys h k =
      let every = every_pair order xs ys in
      pairs_passed (λ p. relatedb relation p ≡ true) Above (keep (relatedb relation) every) (keep_past (relatedb relation) every)
      (keep_every_two Rises (relatedb relation) every (every_rises xs ys h k))

-- The listing of two ascending lists ascends strictly.
ascends_in : (relation : Relation) (order : Order) (as' ds : List Node)
    → EveryTwo (λ e n. afterb n e ≡ true) as' → EveryTwo (λ e n. afterb n e ≡ true) ds
    → EveryTwo (λ p q. aboveb (sort_key order q) (sort_key order p) ≡ true) (listing (asked relation order) as' ds)
unfolding listing leaders followers
ascends_in relation Descendant as' ds a d = every_ascends relation Descendant ds as' d a
ascends_in relation Ancestor as' ds a d = every_ascends relation Ancestor as' ds a d

pub listing_ascends : (ask : Asked) (as' ds : List Node)
    → EveryTwo (λ e n. afterb n e ≡ true) as' → EveryTwo (λ e n. afterb n e ≡ true) ds
    → EveryTwo (λ p q. aboveb (sort_key ask.order q) (sort_key ask.order p) ≡ true) (listing ask as' ds)
listing_ascends ask as' ds a d = ascends_in ask.relation ask.order as' ds a d

-- So no pair is listed twice.
pub listed_once : (ask : Asked) (as' ds : List Node)
    → EveryTwo (λ e n. afterb n e ≡ true) as' → EveryTwo (λ e n. afterb n e ≡ true) ds → EveryTwo (λ p q. p ≡ q → ⊥) (listing ask as' ds)
listed_once ask as' ds a d =
    every_two_map (λ p q h e. never h (subst (λ r. aboveb (sort_key ask.order r) (sort_key ask.order p) ≡ false) e (above_self (sort_key ask.order p))))
    (listing ask as' ds) (listing_ascends ask as' ds a d)

-- With at most `MOST_NODES` followers, each leader makes at most `MOST_NODES` pairs.
few_made : (order : Order) (xs ys : List Node) → length ys ≤ MOST_NODES → length (every_pair order xs ys) ≤ MOST_NODES * length xs
unfolding every_pair
few_made order [] ys l = omega arith
few_made order (x ∷ xs) ys l =
    let group = map (pair_of order x) ys in
    omega (arith, length-append group (every_pair order xs ys), length-map ys (pair_of order x), few_made order xs ys l)

few_in : (relation : Relation) (order : Order) (as' ds : List Node) → length as' ≤ MOST_NODES → length ds ≤ MOST_NODES
    → length (listing (asked relation order) as' ds) ≤ MOST_NODES * MOST_NODES
unfolding listing leaders followers
few_in relation Descendant as' ds a d =
    omega (arith, keep_fewer (relatedb relation) (every_pair Descendant ds as'), few_made Descendant ds as' a)
few_in relation Ancestor as' ds a d =
    omega (arith, keep_fewer (relatedb relation) (every_pair Ancestor as' ds), few_made Ancestor as' ds d)

pub few_listed : (ask : Asked) (as' ds : List Node) → length as' ≤ MOST_NODES → length ds ≤ MOST_NODES → length (listing ask as' ds) ≤ MOST_NODES * MOST_NODES
few_listed ask as' ds a d = few_in ask.relation ask.order as' ds a d
