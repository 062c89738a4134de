-- Why it holds: Each test of two nodes is a test of their numbers, and becomes here the facts about
-- those numbers. Only here is `insideb` opened, so a changed test is proved again here and nowhere
-- else.
-- What would break it: A test of other numbers, or one that treats equal numbers otherwise than
-- the scope does, would be caught here.
use mathlib.Core.Path.{◌≡◌, refl, sym, ◌∙◌}
use mathlib.Core.Logic.{◌⊎◌, inl, inr, ⊎_elim}
use mathlib.Core.Bool.{true, false}
use Prim.Native.Nat.{◌+◌, ◌≤◌, ◌<◌}
use native.Mathlib.Omega.{arith}
use native.Mathlib.Nat.{lt_irrefl}
use lib.Dec.{ltb, eqb}
use borrow.Author.Tests.{ltb-true, ltb-false, leb-true, leb-false, eqb-true, lt-ltb, le-leb, eq-eqb}
use Rattle.nodes.specs.declared.node.Node.{Node}
use Rattle.nodes.specs.Node.{endsb, insideb, deeperb, directlyb, apartb, afterb, openb, sameb}
use Rattle.laws.proofs.Tests.{not_so, and_read, and_make, or_read, or_left, or_right, or_none}

-- A node that ends within another ends no later.
ends_read : (y x : Node) → endsb y x ≡ true → y.end ≤ x.end
unfolding endsb
ends_read y x h = leb-true _ _ h

ends_trans : (z y x : Node) → endsb z y ≡ true → endsb y x ≡ true → endsb z x ≡ true
unfolding endsb
ends_trans z y x h k = let p = ends_read z y h in let q = ends_read y x k in le-leb z.end x.end (omega arith)

-- What every layer above may use of a node inside another.
pub record Within (y x : Node) : Type 0 where
  pub document : y.document ≡ x.document
  pub start : x.start < y.start
  pub end : y.end ≤ x.end

inside_ends : (y x : Node) → insideb y x ≡ true → endsb y x ≡ true
unfolding insideb
inside_ends y x h = (and_read (ltb x.start y.start) (and_read (eqb y.document x.document) h).1).1

pub within : (y x : Node) → insideb y x ≡ true → Within y x
unfolding insideb
within y x h =
    let p = and_read (eqb y.document x.document) h in
    let q = and_read (ltb x.start y.start) p.1 in
    record { document = eqb-true _ _ p.0; start = ltb-true _ _ q.0; end = ends_read y x q.1 }

-- Of a later node of x's document only the end is left to compare.
pub inside_by_end : (y x : Node) → y.document ≡ x.document → x.start < y.start → endsb y x ≡ insideb y x
unfolding insideb
inside_by_end y x d s = rw (eq-eqb _ _ d, lt-ltb _ _ s)

-- A node that starts later in x's document and ends no later is inside x.
pub inside_make : (y x : Node) → y.document ≡ x.document → x.start < y.start → y.end ≤ x.end → insideb y x ≡ true
unfolding endsb
inside_make y x d s e = sym (inside_by_end y x d s) ∙ le-leb y.end x.end e

pub inside_trans : (z y x : Node) → insideb z y ≡ true → insideb y x ≡ true → insideb z x ≡ true
inside_trans z y x h k =
    let p = within z y h in
    let q = within y x k in
    sym (inside_by_end z x (omega arith) (omega arith)) ∙ ends_trans z y x (inside_ends z y h) (inside_ends y x k)

-- A node isn't inside itself.
pub inside_self : (x : Node) → insideb x x ≡ false
inside_self x = not_so (λ h. lt_irrefl _ (within x x h).start)

-- No node is inside a text, which ends where it starts, unless that node ends before its own start.
pub text_empty : (y x : Node) → y.start ≤ y.end → x.end ≡ x.start → insideb y x ≡ false
text_empty y x span t = not_so (λ h. let w = within y x h in omega arith)

pub directly_inside : (y x : Node) → directlyb y x ≡ true → (insideb y x ≡ true) × (y.level ≡ x.level + 1)
unfolding directlyb deeperb
directly_inside y x h = let p = and_read (insideb y x) h in (p.0, eqb-true _ _ p.1)

pub directly_make : (y x : Node) → insideb y x ≡ true → y.level ≡ x.level + 1 → directlyb y x ≡ true
unfolding directlyb deeperb
directly_make y x h l = and_make h (eq-eqb y.level (x.level + 1) l)

pub apart_read : (x y : Node) → apartb x y ≡ true → (x.end < y.start) ⊎ (y.end < x.start)
unfolding apartb
apart_read x y h = ⊎_elim (λ p. inl (ltb-true _ _ p)) (λ p. inr (ltb-true _ _ p)) (or_read (ltb x.end y.start) h)

pub apart_ahead : (x y : Node) → x.end < y.start → apartb x y ≡ true
unfolding apartb
apart_ahead x y h = or_left _ (lt-ltb _ _ h)

pub apart_beyond : (x y : Node) → y.end < x.start → apartb x y ≡ true
unfolding apartb
apart_beyond x y h = or_right (ltb x.end y.start) (lt-ltb _ _ h)

pub apart_turned : (x y : Node) → apartb x y ≡ true → apartb y x ≡ true
apart_turned x y h = ⊎_elim (apart_beyond y x) (apart_ahead y x) (apart_read x y h)

pub after_read : (y x : Node) → afterb y x ≡ true → (x.document < y.document) ⊎ ((y.document ≡ x.document) × (x.start < y.start))
unfolding afterb
after_read y x h =
    ⊎_elim (λ p. inl (ltb-true _ _ p))
    (λ p. let q = and_read (eqb y.document x.document) p in inr (eqb-true _ _ q.0, ltb-true _ _ q.1))
    (or_read (ltb x.document y.document) h)

-- Within one document, a node that stands after another starts after it.
pub after_starts : (y x : Node) → afterb y x ≡ true → x.document ≡ y.document → x.start < y.start
after_starts y x h d = ⊎_elim (λ p. omega arith) (λ p. p.1) (after_read y x h)

pub after_document : (y x : Node) → x.document < y.document → afterb y x ≡ true
unfolding afterb
after_document y x h = or_left _ (lt-ltb _ _ h)

pub after_start : (y x : Node) → y.document ≡ x.document → x.start < y.start → afterb y x ≡ true
unfolding afterb
after_start y x d h = or_right (ltb x.document y.document) (rw (eq-eqb _ _ d, lt-ltb _ _ h))

pub after_trans : (z y x : Node) → afterb z y ≡ true → afterb y x ≡ true → afterb z x ≡ true
after_trans z y x h k =
    ⊎_elim (λ p. ⊎_elim (λ q. after_document z x (omega arith)) (λ q. after_document z x (omega arith)) (after_read y x k))
    (λ p. ⊎_elim (λ q. after_document z x (omega arith)) (λ q. after_start z x (omega arith) (omega arith)) (after_read y x k))
    (after_read z y h)

pub after_self : (x : Node) → afterb x x ≡ false
after_self x = not_so (λ h. ⊎_elim (λ p. omega arith) (λ p. omega arith) (after_read x x h))

-- Of two nodes one stands after the other, or both have the same document and start.
pub after_none : (y x : Node) → afterb y x ≡ false → afterb x y ≡ false → (y.document ≡ x.document) × (y.start ≡ x.start)
unfolding afterb
after_none y x h k =
    let p = or_none (ltb x.document y.document) h in
    let q = or_none (ltb y.document x.document) k in
    let below : y.document ≤ x.document = ltb-false _ _ p.0 in
    let above : x.document ≤ y.document = ltb-false _ _ q.0 in
    let d : y.document ≡ x.document = omega arith in
    let u : y.start ≤ x.start = ltb-false _ _ (rw (eq-eqb _ _ d) at p.1) in
    let v : x.start ≤ y.start = ltb-false _ _ (rw (eq-eqb _ _ (sym d)) at q.1) in
    (d, omega arith)

-- A node inside another stands after it.
pub inside_after : (y x : Node) → insideb y x ≡ true → afterb y x ≡ true
inside_after y x h = after_start y x (within y x h).document (within y x h).start

-- What every layer above may use of a node e that is open at n.
pub record Open (n e : Node) : Type 0 where
  pub document : e.document ≡ n.document
  pub reaches : n.start ≤ e.end

pub open_read : (n e : Node) → openb n e ≡ true → Open n e
unfolding openb
open_read n e h = let p = and_read (eqb e.document n.document) h in record { document = eqb-true _ _ p.0; reaches = leb-true _ _ p.1 }

pub open_make : (n e : Node) → e.document ≡ n.document → n.start ≤ e.end → openb n e ≡ true
unfolding openb
open_make n e d h = and_make (eq-eqb _ _ d) (le-leb _ _ h)

-- A node of n's document that isn't open at n has ended before n.
pub shut_read : (n e : Node) → openb n e ≡ false → e.document ≡ n.document → e.end < n.start
unfolding openb
shut_read n e h d = leb-false _ _ (rw (eq-eqb _ _ d) at h)

-- A node that contains n is open at n, where n doesn't end before it starts.
pub inside_open : (n e : Node) → n.start ≤ n.end → insideb n e ≡ true → openb n e ≡ true
inside_open n e s h = let w = within n e h in open_make n e (omega arith) (omega arith)

pub same_read : (x y : Node) → sameb x y ≡ true → x ≡ y
unfolding sameb
same_read x y h =
    let p = and_read (eqb x.document y.document) h in
    let q = and_read (eqb x.start y.start) p.1 in
    let r = and_read (eqb x.end y.end) q.1 in
    let d : x.document ≡ y.document = eqb-true _ _ p.0 in
    let t : x.start ≡ y.start = eqb-true _ _ q.0 in
    let e : x.end ≡ y.end = eqb-true _ _ r.0 in
    let l : x.level ≡ y.level = eqb-true _ _ r.1 in
    λ i. record { document = d i; start = t i; end = e i; level = l i }

pub same_self : (x : Node) → sameb x x ≡ true
unfolding sameb
same_self x =
    rw (eq-eqb x.document x.document refl, eq-eqb x.start x.start refl, eq-eqb x.end x.end refl, eq-eqb x.level x.level refl)

-- A node e that n stands after and that isn't open at n isn't open at any later node either.
pub shut_later : (m n e : Node) → openb n e ≡ false → afterb n e ≡ true → afterb m n ≡ true → openb m e ≡ false
shut_later m n e h k l = not_so (λ o. let p = open_read m e o in clash p (after_read n e k) (after_read m n l))
  where
    clash : Open m e → (e.document < n.document) ⊎ ((n.document ≡ e.document) × (e.start < n.start))
        → (n.document < m.document) ⊎ ((m.document ≡ n.document) × (n.start < m.start)) → ⊥
    clash p (inl a) (inl b) = omega arith
    clash p (inl a) (inr b) = omega arith
    clash p (inr a) (inl b) = omega arith
    clash p (inr a) (inr b) = let s = shut_read n e h (omega arith) in omega arith
