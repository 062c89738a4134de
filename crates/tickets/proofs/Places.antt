-- Why it holds: A pair's key begins with its leader's document and start, so these two numbers
-- settle how all of the leader's pairs lie to a place.
-- What would break it: A leader that is passed too early would be caught here. So would a follower
-- that lay past the place while one with a later start didn't.
use Prim.Native.Nat.{ℕ, ◌+◌, ◌≤◌, ◌<◌, zero-le}
use mathlib.Core.Path.{◌≡◌, refl, sym, ◌∙◌}
use mathlib.Core.Bool.{Bool, true, false}
use mathlib.Core.List.{List, [], ◌∷◌, ◌++◌}
use mathlib.Core.Logic.{◌⊎◌, inl, inr}
use native.Mathlib.Omega.{arith}
use lib.Dec.{ltb, leb, eqb}
use lib.ListN.{length}
use borrow.Author.Tests.{eq-eqb, ne_eqb, eqb-true, eqb-false, lt-ltb, le-ltb, le-leb, lt-leb, ltb-true, ltb-false}
use Rattle.nodes.specs.declared.node.Node.{Node}
use Rattle.nodes.specs.Node.{afterb}
use Rattle.nodes.specs.Words.{node}
use Rattle.nodes.proofs.NodeLaws.{after_read}
use Rattle.laws.proofs.Tests.{either, never, not_so, and_read, and_make, or_read, or_left, or_right, or_none, or_end}
use Rattle.paging.specs.Key.{aboveb}
use Rattle.paging.specs.Page.{pastb}
use Rattle.paging.proofs.KeyLaws.{above_self, above_trans}
use Rattle.tickets.specs.declared.ticket.Key.{Key}
use Rattle.tickets.specs.declared.ticket.Place.{Place}
use Rattle.tickets.specs.declared.ticket.Place.TheVariants.{Fresh, After}
use Rattle.tickets.specs.Leaders.{past_from, servedb}
use Rattle.tickets.specs.Ticket.{spot_of}

-- The pair of a leader and a follower lies past a place: its document and two starts, the leader's
-- first, stand above the place's key.
unfoldable pub aheadb : Place → Node → Node → Bool
aheadb place leader follower = pastb (spot_of place) (leader.document ∷ leader.start ∷ follower.start ∷ [])

-- A key above another stays so, whatever follows the two.
above_longer : (i j k l : List ℕ) → length i ≡ length j → aboveb i j ≡ true → aboveb (i ++ k) (j ++ l) ≡ true
unfolding aboveb
above_longer [] j k l n h = absurd (never h refl)
above_longer (a ∷ i) [] k l n h = absurd (omega arith)
above_longer (a ∷ i) (b ∷ j) k l n h =
    elim (or_read (ltb b a) h) [
      | inl p ↦ or_left _ p
      | inr p ↦ let q = and_read (eqb a b) p in or_right (ltb b a) (and_make q.0 (above_longer i j k l (omega arith) q.1))
    ]

-- No pair of a leader that stands before the leader of a place lies past it.
pub served_none : (place : Place) (x y : Node) → servedb place x ≡ true → aheadb place x y ≡ false
unfolding servedb aheadb pastb
served_none Fresh x y h = absurd (never h refl)
served_none (After k) x y h =
    let key : List ℕ = k.document ∷ k.leader ∷ k.follower ∷ [] in
    let own : List ℕ = x.document ∷ x.start ∷ y.start ∷ [] in
    let over : aboveb key own ≡ true =
    above_longer (k.document ∷ k.leader ∷ []) (x.document ∷ x.start ∷ []) (k.follower ∷ []) (y.start ∷ []) refl h in
    not_so (λ a. never (above_trans own key own a over) (above_self own))

-- Where two keys differ in their last number alone, that number decides.
pub above_last : (d s m n : ℕ) → n < m → aboveb (d ∷ s ∷ m ∷ []) (d ∷ s ∷ n ∷ []) ≡ true
unfolding aboveb
above_last d s m n h = rw (le-ltb d d (omega arith), eq-eqb d d refl, le-ltb s s (omega arith), eq-eqb s s refl, lt-ltb n m h) refl

-- A number tells from which start on a leader's followers lie past a place.
abbrev pub Past : Place → ℕ → Node → Type 0
Past place past x = (y : Node) → aheadb place x y ≡ leb past y.start

-- A leader stands after the place's own.
abbrev Beyond : Key → Node → Type 0
Beyond k x = (k.document < x.document) ⊎ ((k.document ≡ x.document) × (k.leader < x.start))

-- All followers of a leader that stands after the place's own lie past the place; of the place's
-- own those do that start after the place's follower.
module _ (k : Key) (x y : Node) where
  ahead_all : Beyond k x → aheadb (After k) x y ≡ true
  unfolding aheadb pastb aboveb
  ahead_all (inl h) = rw (lt-ltb _ _ h) refl
  ahead_all (inr (d, h)) =
      rw (le-ltb k.document x.document (omega arith), eq-eqb x.document k.document (omega arith), lt-ltb _ _ h) refl

  ahead_own : k.document ≡ x.document → k.leader ≡ x.start → aheadb (After k) x y ≡ leb (k.follower + 1) y.start
  unfolding aheadb pastb aboveb
  ahead_own d s =
      rw (
        le-ltb k.document x.document (omega arith),
        eq-eqb x.document k.document (omega arith),
        le-ltb k.leader x.start (omega arith),
        eq-eqb x.start k.leader (omega arith),
        ← or_end (ltb k.follower y.start) (eqb y.start k.follower),
      )
      (elim (either (ltb k.follower y.start)) [
        | inl h ↦ rw h (let l : k.follower < y.start = ltb-true _ _ h in sym (le-leb (k.follower + 1) y.start (omega arith)))
        | inr h ↦ rw h (let l : y.start ≤ k.follower = ltb-false _ _ h in sym (lt-leb (k.follower + 1) y.start (omega arith)))
      ])

-- A leader that doesn't stand before the place's own stands after it, or is that one.
unserved : (k : Key) (x : Node) → servedb (After k) x ≡ false → Beyond k x ⊎ ((k.document ≡ x.document) × (k.leader ≡ x.start))
unfolding servedb aboveb
unserved k x h =
    let p = or_none (ltb x.document k.document) h in
    let l : k.document ≤ x.document = ltb-false _ _ p.0 in
    elim (either (eqb k.document x.document)) [
      | inr n ↦ let m : k.document ≡ x.document → ⊥ = eqb-false _ _ n in inl (inl (omega arith))
      | inl e ↦ let d : k.document ≡ x.document = eqb-true _ _ e in
          let q = or_none (ltb x.start k.leader) (rw e at p.1) in
          let m : k.leader ≤ x.start = ltb-false _ _ q.0 in
          elim (either (eqb k.leader x.start))
          [ inl s ↦ inr (d, eqb-true _ _ s) | inr s ↦ let n : k.leader ≡ x.start → ⊥ = eqb-false _ _ s in inl (inr (d, omega arith)) ]
    ]

-- The number that a place and a leader give: 0 where the place is fresh or the leader stands after
-- its own.
past_fresh : (x : Node) → past_from Fresh x ≡ 0
unfolding past_from
past_fresh x = refl

past_beyond : (k : Key) (x : Node) → Beyond k x → past_from (After k) x ≡ 0
unfolding past_from
past_beyond k x (inl h) = rw (ne_eqb k.document x.document (λ d. omega arith)) refl
past_beyond k x (inr (d, h)) = rw (eq-eqb k.document x.document d, ne_eqb k.leader x.start (λ s. omega arith)) refl

past_own : (k : Key) (x : Node) → k.document ≡ x.document → k.leader ≡ x.start → past_from (After k) x ≡ k.follower + 1
unfolding past_from
past_own k x d s = rw (eq-eqb k.document x.document d, eq-eqb k.leader x.start s) refl

-- Past a fresh place lies every pair.
ahead_fresh : (x y : Node) → aheadb Fresh x y ≡ true
unfolding aheadb pastb
ahead_fresh x y = refl

from_start_lem : (y : Node) → leb 0 y.start ≡ true
from_start_lem y = le-leb 0 y.start zero-le

-- The start from which on the followers of a leader that isn't served lie past the place.
pub past_first : (place : Place) (x : Node) (past : ℕ) → servedb place x ≡ false → past ≡ past_from place x → Past place past x
past_first Fresh x past h q y = ahead_fresh x y ∙ sym (rw (q, past_fresh x) (from_start_lem y))
past_first (After k) x past h q y =
    elim (unserved k x h) [
      | inl b ↦ ahead_all k x y b ∙ sym (rw (q, past_beyond k x b) (from_start_lem y))
      | inr (d, s) ↦ rw (q, past_own k x d s) (ahead_own k x y d s)
    ]

-- A pair's key stands above those of an earlier leader.
above_earlier : (x z : Node) (m n : ℕ) → (x.document < z.document) ⊎ ((z.document ≡ x.document) × (x.start < z.start))
    → aboveb (z.document ∷ z.start ∷ m ∷ []) (x.document ∷ x.start ∷ n ∷ []) ≡ true
unfolding aboveb
above_earlier x z m n (inl h) = rw (lt-ltb _ _ h) refl
above_earlier x z m n (inr (d, h)) = rw (le-ltb x.document z.document (omega arith), eq-eqb _ _ d, lt-ltb _ _ h) refl

ahead_above : (k : Key) (x z : Node) (past : ℕ) (y : Node) → aheadb (After k) x (node 0 past 0 0) ≡ true → afterb z x ≡ true
    → aheadb (After k) z y ≡ true
unfolding aheadb pastb
ahead_above k x z past y h a =
    above_trans (z.document ∷ z.start ∷ y.start ∷ []) (x.document ∷ x.start ∷ past ∷ []) (k.document ∷ k.leader ∷ k.follower ∷ [])
    (above_earlier x z y.start past (after_read z x a)) h

-- So all followers of a leader after one that has some past the place lie past it.
pub past_next : (place : Place) (x z : Node) (past : ℕ) → Past place past x → afterb z x ≡ true → Past place 0 z
past_next Fresh x z past p a y = ahead_fresh z y ∙ sym (from_start_lem y)
past_next (After k) x z past p a y = over ∙ sym (from_start_lem y)
  where
    ahead : aheadb (After k) x (node 0 past 0 0) ≡ true
    ahead = p (node 0 past 0 0) ∙ le-leb past past (omega arith)

    over : aheadb (After k) z y ≡ true
    over = ahead_above k x z past y ahead a
