-- Why it holds: The open ancestors lie one inside the other and stand for all ancestors before.
-- Those left out have ended before every node still to come.
-- What would break it: An open zone that is left out would be caught at `open_skip`. One taken off
-- for good while it is open would be caught at `open_left`.
use mathlib.Core.Path.{◌≡◌, refl, subst, sym, ◌∙◌}
use mathlib.Core.Logic.{inl, inr, ⊎_elim}
use mathlib.Core.Bool.{true, false}
use mathlib.Core.List.Memᴰ
use mathlib.Core.List.{List, [], ◌∷◌}
use native.Mathlib.Omega.{arith}
use Rattle.nodes.specs.declared.node.Node.{Node}
use Rattle.laws.specs.Choose.{All, In}
use Rattle.nodes.specs.Node.{afterb, openb}
use Rattle.laws.proofs.Choices.{all_in, all_map, all_both, keep_failed}
use Rattle.nodes.proofs.NodeLaws.{within, after_trans, open_read, open_make, shut_later}
use Rattle.laws.proofs.Tests.{either, never, so, not_so}
use Rattle.lists.specs.Private.Walk.{unended, Upon, Chain}
use Rattle.lists.proofs.Faults.{Sound}
use Rattle.lists.proofs.Keeping.{stands_later, stands_push, stands_left}
use Rattle.lists.proofs.Taken.{Fine, nested_read, fine_settles}
use Rattle.pairs.specs.Private.Sweep.{From, Open}

-- What holds of all ancestors before holds of the chain.
pub all_among : (P : Node → Type 0) {d : Node} {before s : List Node} → Open d before s → All P before → All P s
all_among P {before = before} {s = s} k h = all_map (λ e m. all_in P before h m) s k.among

-- A node that is fine with a chain, all of which is open at it, lies inside the innermost, and
-- deeper.
pub upon_open : (n : Node) (s : List Node) → Sound n → All (λ e. Fine e n) s → All (λ e. openb n e ≡ true) s → Upon n s
upon_open n [] t f o = tt
upon_open n (e ∷ s) t f o =
    let p = open_read n e o.0 in
    ⊎_elim (λ q. absurd (omega (arith, p))) (λ q. nested_read n e q) (fine_settles n e t.span f.0 p.document)

-- What lies under an open node contains it and is open too, so all that are left of a chain are
-- open.
under_open : (n e : Node) (s : List Node) → Chain (e ∷ s) → openb n e ≡ true → All (λ f. openb n f ≡ true) s
under_open n e [] c o = tt
under_open n e (f ∷ s) c o =
    let p = open_read n e o in
    let w = within e f c.1.0 in
    let q = open_make n f (omega arith) (omega arith) in
    (q, under_open n f s c.2 q)

pub left_open : (n : Node) (s : List Node) → Chain s → All (λ e. openb n e ≡ true) (unended n s)
unfolding unended
left_open n [] c = tt
left_open n (e ∷ s) c = elim (either (openb n e)) [ inl o ↦ rw o (o, under_open n e s c o) | inr o ↦ rw o (left_open n s c.2) ]

-- What is left of a chain stood in it before.
among_left : (n : Node) (before s : List Node) → All (λ e. In e before) s → All (λ e. In e before) (unended n s)
unfolding unended
among_left n before [] h = tt
among_left n before (e ∷ s) h = elim (either (openb n e)) [ inl o ↦ rw o h | inr o ↦ rw o (among_left n before s h.1) ]

-- An ancestor before d that isn't open at d is open at no node from d on.
shut_from : (d m e : Node) → From d m → openb d e ≡ false → afterb d e ≡ true → openb m e ≡ false
shut_from d m e p o b = ⊎_elim (λ q. subst (λ n. openb n e ≡ false) (sym q) o) (λ q. shut_later m d e o b q) p

-- Before any ancestor the chain is empty.
pub open_none : (d : Node) → Open d [] []
open_none d = record { stands = record { chain = tt; keeps = λ n p test only. refl }; among = tt; beyond = tt }

module _ (d a : Node) (before s : List Node) (h : afterb d a ≡ true) (k : Open d before s) where
  -- One more ancestor before d, fine with all before it, comes to lie on a chain all of which is
  -- open at d: it is open at the ancestor too.
  pub open_push : Sound a → All (λ e. Fine e a) before → All (λ e. openb d e ≡ true) s → Open d (a ∷ before) (a ∷ s)
  open_push t f o =
      let g : All (λ e. Fine e a) s = all_among (λ e. Fine e a) k f in
      let opened : All (λ e. openb a e ≡ true) s = all_both (λ e q b. so (λ shut. never b (shut_later d a e shut q.after h))) s g o in
      record {
        stands = stands_push a t.lowest (upon_open a s t g opened) k.stands;
        among = (Memᴰ.head refl, all_map (λ e m. Memᴰ.tail m) s k.among);
        beyond = (h, k.beyond);
      }

  -- One that isn't open at d is left out.
  pub open_skip : openb d a ≡ false → Open d (a ∷ before) s
  open_skip o = record {
    stands = record {
      chain = k.stands.chain;
      keeps = λ n p test only. keep_failed test a before (not_so (λ t. never (only a t) (shut_from d n a p o h))) ∙ k.stands.keeps n p test only;
    };
    among = all_map (λ e m. Memᴰ.tail m) s k.among;
    beyond = (h, k.beyond);
  }

-- Those that ended before d are taken off.
pub open_left : (d : Node) (before s : List Node) → Open d before s → Open d before (unended d s)
open_left d before s k = record {
  stands = stands_left d (λ m e p o b. shut_from d m e p o b) s (all_among (λ e. afterb d e ≡ true) k k.beyond) k.stands;
  among = among_left d before s k.among;
  beyond = k.beyond;
}

-- The chain stands at a later node too.
pub open_later : (d n : Node) (before s : List Node) → afterb n d ≡ true → Open d before s → Open n before s
open_later d n before s h k = record {
  stands = stands_later (λ m p. inr (⊎_elim (λ q. subst (λ x. afterb x d ≡ true) (sym q) h) (λ q. after_trans m n d q h) p)) k.stands;
  among = k.among;
  beyond = all_map (λ e b. after_trans n d e h b) before k.beyond;
}
