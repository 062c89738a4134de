-- Why it holds: What remains of a listing is what remains of its groups. Of a group there remains
-- what lies from its first follower past the place on.
-- What would break it: A group that is passed over although it has a pair past the place, or a
-- follower taken too early, would be caught here.
use Prim.Native.Nat.{ℕ, ◌≤◌, ◌<◌}
use mathlib.Core.Path.{◌≡◌, refl, ap, ◌∙◌}
use mathlib.Core.Bool.{Bool, true, false}
use mathlib.Core.List.{List, [], ◌∷◌, ◌++◌}
use mathlib.Core.Logic.{inl, inr}
use native.Mathlib.Omega.{arith}
use lib.Dec.{leb}
use lib.ListN.{drop}
use borrow.Author.Tests.{le-leb, leb-true}
use Rattle.nodes.specs.declared.node.Node.{Node}
use Rattle.laws.specs.Choose.{All, EveryTwo, first_at, keep}
use Rattle.laws.proofs.Choices.{all_map, all_of, keep_failed, keep_append, keep_none, keep_all, keep_all_of}
use Rattle.laws.proofs.Tests.{either}
use Rattle.paging.specs.Page.{pastb, remains}
use Rattle.paging.proofs.PageLaws.{remains_append}
use Rattle.tickets.specs.declared.ticket.Order.{Order}
use Rattle.tickets.specs.declared.ticket.Order.TheVariants.{Descendant, Ancestor}
use Rattle.tickets.specs.declared.ticket.Place.{Place}
use Rattle.tickets.specs.declared.ticket.Relation.{Relation}
use Rattle.tickets.specs.Listing.{Pair, relatedb, key_of, sort_key, pair_of, every_pair}
use Rattle.tickets.specs.Private.Group.{group}
use Rattle.tickets.specs.Leaders.{servedb, served_in}
use Rattle.tickets.specs.Ticket.{spot_of}
use Rattle.tickets.proofs.Places.{aheadb, Past, served_none}

-- In either order the key is the leader's document and start and the follower's start.
pub key_of_lem : (order : Order) (x y : Node) → sort_key order (pair_of order x y) ≡ x.document ∷ x.start ∷ y.start ∷ []
unfolding key_of pair_of
key_of_lem Descendant x y = refl
key_of_lem Ancestor x y = refl

-- What remains of the pairs of some leaders.
abbrev pub rest_of : Relation → Order → Place → List Node → List Node → List Pair
rest_of relation order place xs ys = remains (sort_key order) (spot_of place) (keep (relatedb relation) (every_pair order xs ys))

-- The first leader's group comes first.
pub rest_next : (relation : Relation) (order : Order) (place : Place) (x : Node) (xs ys : List Node)
    → rest_of relation order place (x ∷ xs) ys
    ≡ remains (sort_key order) (spot_of place) (keep (relatedb relation) (group order x ys)) ++ rest_of relation order place xs ys
unfolding every_pair group
rest_next relation order place x xs ys =
    ap (remains (sort_key order) (spot_of place)) (keep_append (relatedb relation) (group order x ys) (every_pair order xs ys))
    ∙ remains_append (sort_key order) (spot_of place) (keep (relatedb relation) (group order x ys)) (keep (relatedb relation) (every_pair order xs ys))

module _ (order : Order) (place : Place) (x : Node) where
  -- A pair of a group lies past the place or not, as its follower tells.
  group_told : (y : Node) → pastb (spot_of place) (sort_key order (pair_of order x y)) ≡ aheadb place x y
  unfolding aheadb
  group_told y = ap (pastb (spot_of place)) (key_of_lem order x y)

  group_all : (b : Bool) (ys : List Node) → All (λ y. aheadb place x y ≡ b) ys → All (λ p. pastb (spot_of place) (sort_key order p) ≡ b) (group order x ys)
  unfolding group
  group_all b [] h = tt
  group_all b (y ∷ ys) h = (group_told y ∙ h.0, group_all b ys h.1)

  -- Nothing remains of the group of a leader that stands before the place's.
  group_served : (test : Pair → Bool) (ys : List Node) → servedb place x ≡ true → remains (sort_key order) (spot_of place) (keep test (group order x ys)) ≡ []
  unfolding remains
  group_served test ys s =
      keep_none _ (keep test (group order x ys))
      (keep_all_of _ test (group order x ys) (group_all false ys (all_of (λ y. served_none place x y s) ys)))

-- Leaders that stand before the leader of the place have no pair past it, whatever the follower.
pub rest_served : (relation : Relation) (order : Order) (place : Place) (xs ys : List Node)
    → rest_of relation order place xs ys ≡ rest_of relation order place (drop (served_in place xs) xs) ys
unfolding served_in first_at
rest_served relation order place [] ys = refl
rest_served relation order place (x ∷ xs) ys =
    elim (either (servedb place x)) [
      | inl s ↦ rw s
          (rest_next relation order place x xs ys
          ∙ ap (λ ps. ps ++ rest_of relation order place xs ys) (group_served order place x (relatedb relation) ys s)
          ∙ rest_served relation order place xs ys)
      | inr s ↦ rw s refl
    ]

-- The followers' starts rise, so from the first that lies past the place on all do.
pub group_past : (order : Order) (place : Place) (past : ℕ) (x : Node) (zs : List Node) → Past place past x → EveryTwo (λ y z. y.start < z.start) zs
    → remains (sort_key order) (spot_of place) (group order x zs) ≡ group order x (drop (first_at (λ n. leb past n.start) zs) zs)
unfolding first_at remains keep group
group_past order place past x [] p h = refl
group_past order place past x (y ∷ zs) p h =
    elim (either (leb past y.start)) [
      | inl a ↦ rw a (keep_all _ (group order x (y ∷ zs)) (group_all order place x true (y ∷ zs)
          (p y ∙ a, all_map (λ z s. p z ∙ later z s (leb-true _ _ a)) zs h.0)))
      | inr a ↦ rw a (keep_failed _ (pair_of order x y) (group order x zs) (group_told order place x y ∙ p y ∙ a) ∙ group_past order place past x zs p h.1)
    ]
  where
    later : (z : Node) → y.start < z.start → past ≤ y.start → leb past z.start ≡ true
    later z s l = le-leb past z.start (omega arith)
