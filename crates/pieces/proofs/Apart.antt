-- Why it holds: Nodes of different documents are neither related nor at odds. So pieces that share
-- no document have no pairs, and are taken together where each is taken.
-- What would break it: A relation or a check that looked past a document's end would be caught
-- here.
use Prim.Native.Nat.{ℕ}
use mathlib.Core.Path.{◌≡◌, refl, sym}
use mathlib.Core.Bool.{false}
use mathlib.Core.List.Memᴰ
use mathlib.Core.List.{List, [], ◌∷◌}
use native.Mathlib.Omega.{arith}
use borrow.Author.Tests.{ne_eqb}
use Rattle.laws.specs.Choose.{All, In}
use Rattle.laws.proofs.Choices.{all_in, all_map}
use Rattle.nodes.specs.declared.node.Node.{Node}
use Rattle.nodes.specs.Words.{nodes}
use Rattle.nodes.proofs.NodeLaws.{after_document}
use Rattle.lists.specs.Two.{oddsb, jointb}
use Rattle.lists.proofs.Merging.{joint_iff}
use Rattle.lists.proofs.Pairing.{two_taken_iff}
use Rattle.tickets.specs.Listing.{listing}
use Rattle.tickets.specs.Ticket.{Asked}
use Rattle.tickets.proofs.Listed.{listed_iff, related_document}
use Rattle.pieces.specs.Checks.{Taken, TakenTogether, Across, StandsAfter, LowerDocuments, OtherDocuments}
use Rattle.pieces.proofs.Cutting.{all_turned}

-- Nodes of different documents are not at odds.
other_even : (x y : Node) → (x.document ≡ y.document → ⊥) → oddsb x y ≡ false
unfolding oddsb
other_even x y h = rw (ne_eqb x.document y.document h) refl

others_even : (v w : List ℕ) → OtherDocuments v w → Across (λ x y. oddsb x y ≡ false) v w
others_even v w h = all_map (λ x k. all_map (λ y d. other_even x y d) (nodes w) k) (nodes v) h

-- A list that has no member is empty.
none_in : {A : Type 0} (xs : List A) → ((x : A) → In x xs → ⊥) → xs ≡ []
none_in [] f = refl
none_in (x ∷ xs) f = absurd (f x (Memᴰ.head refl))

-- Two pieces that share no document have no pairs, and are taken together where each is taken.
module _ (v w : List ℕ) (apart : OtherDocuments v w) where
  pub nothing_listed : (ask : Asked) → listing ask (nodes v) (nodes w) ≡ []
  nothing_listed ask = none_in (listing ask (nodes v) (nodes w)) (λ p m.
      let l = (listed_iff ask (nodes v) (nodes w) p).0 m in
      let others = all_in (λ x. All (λ y. x.document ≡ y.document → ⊥) (nodes w)) (nodes v) apart l.0 in
      all_in (λ y. p.ancestor.document ≡ y.document → ⊥) (nodes w) others l.1 (sym (related_document ask.relation p l.2)))

  pub nothing_odd : jointb (nodes v) (nodes w) ≡ false
  nothing_odd = (joint_iff (nodes v) (nodes w)).1 (others_even v w apart)

  pub others_taken : Taken v → Taken w → TakenTogether v w
  others_taken s t = (two_taken_iff v w).1 (s, t, others_even v w apart)

-- Two pieces of which one has the lower documents share none, and stand one after the other.
module _ (v w : List ℕ) (lower : LowerDocuments v w) where
  pub lower_others : OtherDocuments v w
  lower_others = all_map (λ x k. all_map (λ y l e. omega (arith, l, e)) (nodes w) k) (nodes v) lower

  pub lower_taken : Taken v → Taken w → TakenTogether v w
  lower_taken s t = others_taken v w lower_others s t

  pub lower_after : StandsAfter w v
  lower_after = all_map (λ x k. all_map (λ y l. after_document y x l) (nodes w) k) (nodes v) lower

-- Two pieces share no document either where the second has the lower documents.
pub higher_others : (v w : List ℕ) → LowerDocuments w v → OtherDocuments v w
higher_others v w h =
    all_turned (λ y x. x.document ≡ y.document → ⊥) (nodes w) (nodes v)
    (all_map (λ y k. all_map (λ x l e. omega (arith, l, e)) (nodes v) k) (nodes w) h)
