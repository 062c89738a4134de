-- Why it holds: A group is served follower by follower. A pair that fits is stored; one that
-- doesn't fit ends the group, and so does the last follower.
-- What would break it: A pair stored one off, a skipped follower, or a count of what fits that is
-- one off would be caught here.
use Prim.Native.Nat.{ℕ, zero, suc, ◌+◌, ◌-◌, ◌*◌, ◌/◌, ◌%◌, ◌≤◌, ◌<◌, min, zero-le}
use mathlib.Core.Path.{◌≡◌, refl, sym, ap, subst, ◌∙◌}
use mathlib.Core.Bool.{Bool, true, false}
use mathlib.Core.List.{List, [], ◌∷◌, ◌++◌, map-append}
use mathlib.Core.Logic.{◌⊎◌, inl, inr}
use native.Mathlib.Nat.{not-suc-le-zero, sub-zero, zero-sub}
use native.Mathlib.Omega.{arith}
use lib.Dec.{eqb, ltb}
use lib.ListN.{length, take, drop, length-take, length-drop, take-append-drop, drop_of_length-le}
use lib.Seq.{length-take-le, take-nil, drop-drop}
use borrow.Author.Tests.{eq-eqb, ne_eqb, ltb-true, ltb-false, le-leb, lt-leb}
use Rattle.nodes.specs.declared.node.Node.{Node}
use Rattle.laws.specs.Choose.{first_at}
use Rattle.nodes.specs.Words.{nodes, count, node_at}
use Rattle.laws.proofs.Tests.{either}
use Rattle.nodes.proofs.WordLaws.{length_nodes, nodes_from_lem, nodes_beyond, nodes_drop, nodes_take}
use Rattle.paging.specs.Private.Serve.{serve, store}
use Rattle.paging.proofs.Serving.{serve_next, serve_full, serve_on, serve_length}
use Rattle.tickets.specs.declared.ticket.Order.{Order}
use Rattle.tickets.specs.Listing.{pair_of}
use Rattle.tickets.specs.PairWords.{PAIR_WORDS, pair_words, room}
use Rattle.tickets.specs.Private.Group.{group}
use Rattle.laws.proofs.First.{first_in}
use Rattle.pairs.specs.Private.Sweep.{Placed, stretch, starts_from, from_start, served_group}

-- A stretch begins with the node at its first place, and is empty where that isn't before its end.
pub stretch_next : (ws : List ℕ) (from to : ℕ) → Placed ws from → Placed ws to → from < to
    → stretch ws from to ≡ node_at ws (from / 4) ∷ stretch ws (from + 4) to
stretch_next ws from to p q h =
    let n : to / 4 - from / 4 ≡ suc (to / 4 - (from + 4) / 4) = omega arith in
    let e : from / 4 + 1 ≡ (from + 4) / 4 = omega arith in
    ap (λ m. take m (drop (from / 4) (nodes ws))) n
    ∙ ap (take (suc (to / 4 - (from + 4) / 4))) (nodes_from_lem ws (from / 4) (omega arith))
    ∙ ap (λ i. node_at ws (from / 4) ∷ take (to / 4 - (from + 4) / 4) (drop i (nodes ws))) e

pub stretch_none : (ws : List ℕ) (from to : ℕ) → to ≤ from → stretch ws from to ≡ []
stretch_none ws from to h = let n : to / 4 - from / 4 ≡ 0 = omega arith in ap (λ m. take m (drop (from / 4) (nodes ws))) n

take_less : (m n : ℕ) (xs : List Node) → m ≤ n → take m (take n xs) ≡ take m xs
take_less zero n xs h = refl
take_less (suc m) zero xs h = absurd (not-suc-le-zero h)
take_less (suc m) (suc n) [] h = refl
take_less (suc m) (suc n) (x ∷ xs) h = ap (λ ys. x ∷ ys) (take_less m n xs (omega arith))

module _ (order : Order) (x : Node) where
  -- Where the output is full, none of the nodes finds room.
  none_fit : (out : List ℕ) (n : ℕ) (ys : List Node) → room out ≤ n → 0 < length ys
      → ◌≡◌ {A = List ℕ × ℕ × Bool} (out, n, false) (served_group order out n x ys)
  unfolding group
  none_fit out n [] r h = absurd (not-suc-le-zero h)
  none_fit out n (y ∷ ys) r h = sym (serve_full pair_words PAIR_WORDS out n (pair_of order x y) (group order x ys) r)

  pub all_fit : (out : List ℕ) (n : ℕ) (ys : List Node) → ys ≡ [] → ◌≡◌ {A = List ℕ × ℕ × Bool} (out, n, true) (served_group order out n x ys)
  unfolding group serve
  all_fit out n ys q = rw q refl

  module _ (ws : List ℕ) where
    -- A loop along all followers stores the next one, and ends after the last.
    pub turned : (out us : List ℕ) (written k : ℕ) (y : Node) → k < count ws → y ≡ node_at ws k → written + k < room out
        → us ≡ store pair_words PAIR_WORDS out (written + k) (pair_of order x y)
        → served_group order us (written + (k + 1)) x (drop (k + 1) (nodes ws)) ≡ served_group order out (written + k) x (drop k (nodes ws))
    unfolding group
    turned out us written k y h q r e =
        let p : written + (k + 1) ≡ written + k + 1 = omega arith in
        rw (p, nodes_from_lem ws k h, ← q, e)
        (sym (serve_next pair_words PAIR_WORDS out (written + k) (pair_of order x y) (group order x (drop (k + 1) (nodes ws))) r))

    pub ended : (out : List ℕ) (n k : ℕ) → count ws ≤ k → ◌≡◌ {A = List ℕ × ℕ × Bool} (out, n, true) (served_group order out n x (drop k (nodes ws)))
    ended out n k h = all_fit out n (drop k (nodes ws)) (nodes_beyond ws k h)

    module _ (from to : ℕ) (p : Placed ws from) (q : Placed ws to) where
      -- The first pair of a stretch is stored.
      pub stored : (out us : List ℕ) (written : ℕ) (x₁ y : Node) → from < to → x₁ ≡ x → y ≡ node_at ws (from / 4) → written < room out
          → us ≡ store pair_words PAIR_WORDS out written (pair_of order x₁ y)
          → served_group order us (written + 1) x (stretch ws (from + 4) to) ≡ served_group order out written x (stretch ws from to)
      unfolding group
      stored out us written x₁ y h e₁ e r s =
          rw (stretch_next ws from to p q h, ← e, s, e₁)
          (sym (serve_next pair_words PAIR_WORDS out written (pair_of order x y) (group order x (stretch ws (from + 4) to)) r))

      -- What is served after it is served with it.
      pub continued : (t : List ℕ × ℕ × Bool) (out us : List ℕ) (written : ℕ) (x₁ x₂ y : Node)
          → t ≡ served_group order us (written + 1) x₂ (stretch ws (from + 4) to) → x₂ ≡ x → from < to → x₁ ≡ x → y ≡ node_at ws (from / 4)
          → written < room out → us ≡ store pair_words PAIR_WORDS out written (pair_of order x₁ y)
          → t ≡ served_group order out written x (stretch ws from to)
      continued t out us written x₁ x₂ y v e₂ h e₁ e r s =
          v ∙ ap (λ z. served_group order us (written + 1) z (stretch ws (from + 4) to)) e₂ ∙ stored out us written x₁ y h e₁ e r s

      -- The first pair finds no room, or it was the last.
      pub cut : (out : List ℕ) (written : ℕ) → from < to → room out ≤ written
          → ◌≡◌ {A = List ℕ × ℕ × Bool} (out, written, false) (served_group order out written x (stretch ws from to))
      cut out written h r = none_fit out written (stretch ws from to) r (subst (λ ys. 0 < length ys) (sym (stretch_next ws from to p q h)) (omega arith))

      pub none : (out : List ℕ) (written : ℕ) → to ≤ from
          → ◌≡◌ {A = List ℕ × ℕ × Bool} (out, written, true) (served_group order out written x (stretch ws from to))
      none out written h = all_fit out written (stretch ws from to) (stretch_none ws from to h)

  -- Of a stretch as many are served as fit: all of it, or until the room is full.
  module _ (zs : List Node) (out us : List ℕ) (written fit wanted : ℕ) (w : wanted ≤ length zs) (f : fit ≤ wanted)
      (s : ◌≡◌ {A = List ℕ × ℕ × Bool} (us, written + fit, true) (served_group order out written x (take fit zs))) where
    same_room : length us ≡ length out
    same_room = ap (λ (t : List ℕ × ℕ × Bool). length t.0) s ∙ serve_length pair_words PAIR_WORDS out written (group order x (take fit zs))

    parted : take wanted zs ≡ take fit zs ++ drop fit (take wanted zs)
    parted = sym (take-append-drop fit (take wanted zs)) ∙ ap (λ ys. ys ++ drop fit (take wanted zs)) (take_less fit wanted zs f)

    served_first : served_group order out written x (take wanted zs) ≡ served_group order us (written + fit) x (drop fit (take wanted zs))
    unfolding group
    served_first =
        ap (λ ys. served_group order out written x ys) parted
        ∙ ap (serve pair_words PAIR_WORDS out written) (map-append (pair_of order x) (take fit zs) (drop fit (take wanted zs)))
        ∙ serve_on pair_words PAIR_WORDS out written (group order x (take fit zs)) (group order x (drop fit (take wanted zs))) us (written + fit) (sym s)

    left : length (drop fit (take wanted zs)) ≡ wanted - fit
    left = length-drop fit (take wanted zs) ∙ ap (λ n. n - fit) (length-take-le wanted zs w)

    counted : min wanted (room out - written) ≤ fit
        → ◌≡◌ {A = List ℕ × ℕ × Bool} (us, written + fit, eqb fit wanted) (served_group order out written x (take wanted zs))
    counted g = last (either (ltb fit wanted)) ∙ sym served_first
      where
        last : (ltb fit wanted ≡ true) ⊎ (ltb fit wanted ≡ false)
            → ◌≡◌ {A = List ℕ × ℕ × Bool} (us, written + fit, eqb fit wanted) (served_group order us (written + fit) x (drop fit (take wanted zs)))
        last (inr l) =
            let m : wanted ≤ fit = ltb-false _ _ l in
            rw (eq-eqb fit wanted (omega arith))
            (all_fit us (written + fit) (drop fit (take wanted zs)) (drop_of_length-le (take wanted zs) {i = fit} (omega (arith, length-take-le wanted zs w))))
        last (inl l) =
            let m : fit < wanted = ltb-true _ _ l in
            rw (ne_eqb fit wanted (λ o. omega arith))
            (none_fit us (written + fit) (drop fit (take wanted zs)) (omega (arith, same_room)) (omega (arith, left)))

-- The followers of a group that is served may be written in another way.
pub served_as : (order : Order) (out : List ℕ) (written : ℕ) (x : Node) {ns ms : List Node} {r : List ℕ × ℕ × Bool}
    → r ≡ served_group order out written x ns → ns ≡ ms → r ≡ served_group order out written x ms
served_as order out written x p q = p ∙ ap (served_group order out written x) q

-- The same for a part of the words, whose length tells how many fit.
module _ (order : Order) (x : Node) (ws : List ℕ) (from to m fit : ℕ) (p : Placed ws from) (q : Placed ws to) (h : from ≤ to) (e : m ≡ 4 * fit)
    (f : fit ≤ (to - from) / 4) where
  part_nodes : nodes (take m (drop from ws)) ≡ take fit (drop (from / 4) (nodes ws))
  part_nodes =
      let d : from ≡ 4 * (from / 4) = omega arith in
      ap (λ n. nodes (take n (drop from ws))) e ∙ nodes_take (drop from ws) fit
      ∙ ap (λ n. take fit (nodes (drop n ws))) d ∙ ap (take fit) (nodes_drop ws (from / 4))

  part_length : length (take m (drop from ws)) ≡ m
  part_length = length-take-le m (drop from ws) (omega (arith, length-drop from ws))

  pub counted_in : (out us : List ℕ) (written : ℕ)
      → ◌≡◌ {A = List ℕ × ℕ × Bool} (us, written + count (take m (drop from ws)), true) (served_group order out written x (nodes (take m (drop from ws))))
      → min ((to - from) / 4) (room out - written) ≤ fit
      → ◌≡◌ {A = List ℕ × ℕ × Bool} (us, written + fit, eqb fit ((to - from) / 4)) (served_group order out written x (stretch ws from to))
  counted_in out us written s g =
      let n : count (take m (drop from ws)) ≡ fit = omega (arith, part_length) in
      let w : (to - from) / 4 ≡ to / 4 - from / 4 = omega arith in
      let t : ◌≡◌ {A = List ℕ × ℕ × Bool} (us, written + fit, true) (served_group order out written x (take fit (drop (from / 4) (nodes ws)))) =
      served_as order out written x (rw n at s) part_nodes in
      served_as order out written x
      (counted order x (drop (from / 4) (nodes ws)) out us written fit ((to - from) / 4)
      (omega (arith, length-drop (from / 4) (nodes ws), length_nodes ws)) f t g)
      (ap (λ k. take k (drop (from / 4) (nodes ws))) w)

-- Every node starts at 0 or later, so the search finds the first.
pub first_zero : (ns : List Node) → first_at (starts_from 0) ns ≡ 0
unfolding first_at
first_zero [] = refl
first_zero (n ∷ ns) = rw (le-leb 0 n.start zero-le) refl

-- A search along a stretch for a start ends at a node that has it, goes on after one that hasn't,
-- and ends with the stretch.
module _ (ws : List ℕ) (k to start answer : ℕ) (p : Placed ws k) (q : Placed ws to) (s : first_at (starts_from start) (stretch ws k to) + k / 4 ≡ answer) where
  pub start_found : (n : Node) → k < to → n ≡ node_at ws (k / 4) → start ≤ n.start → k / 4 ≡ answer
  unfolding first_at
  start_found n h e l =
      let z : first_at (starts_from start) (stretch ws k to) ≡ 0 = rw (stretch_next ws k to p q h, ← e, le-leb start n.start l) refl in
      omega arith

  pub start_later : (n : Node) → k < to → n ≡ node_at ws (k / 4) → n.start < start
      → first_at (starts_from start) (stretch ws (k + 4) to) + (k + 4) / 4 ≡ answer
  unfolding first_at
  start_later n h e l =
      let z : first_at (starts_from start) (stretch ws k to) ≡ suc (first_at (starts_from start) (stretch ws (k + 4) to)) =
      rw (stretch_next ws k to p q h, ← e, lt-leb start n.start l) refl in
      omega arith

  pub start_none : to ≤ k → k / 4 ≡ answer
  unfolding first_at
  start_none h =
      let z : first_at (starts_from start) (stretch ws k to) ≡ 0 = rw (stretch_none ws k to h) refl in
      omega arith

-- The first nodes without the first k of them are the first of those after k.
drop_take : (k m : ℕ) (ns : List Node) → drop k (take m ns) ≡ take (m - k) (drop k ns)
drop_take zero m ns = rw (sub-zero m) refl
drop_take (suc k) zero ns = rw (zero-sub (suc k)) refl
drop_take (suc k) (suc m) [] = sym (take-nil (suc m - suc k))
drop_take (suc k) (suc m) (n ∷ ns) =
    let less : suc m - suc k ≡ m - k = omega arith in
    rw less (drop_take k m ns)

later : (ns : List Node) (from to k ahead : ℕ) → ahead ≡ k + from → take (to - ahead) (drop ahead ns) ≡ drop k (take (to - from) (drop from ns))
later ns from to k ahead q =
    let less : to - (k + from) ≡ to - from - k = omega arith in
    let turned : k + from ≡ from + k = omega arith in
    rw (q, less, turned, drop_take k (to - from) (drop from ns), drop-drop k from ns) refl

-- From the first node that starts late enough on, a stretch is a stretch to the same end.
module _ (ws : List ℕ) (from to ahead past : ℕ) (q : ahead / 4 ≡ first_at (starts_from past) (stretch ws from to) + from / 4) where
  pub stretch_ahead : stretch ws ahead to ≡ from_start past (stretch ws from to)
  unfolding from_start
  stretch_ahead = later (nodes ws) (from / 4) (to / 4) _ (ahead / 4) q

  pub ahead_in : from ≤ to → to % 4 ≡ 0 → ahead % 4 ≡ 0 → ahead ≤ to
  ahead_in l m n =
      let h = first_in (starts_from past) (stretch ws from to) in
      let k = length-take (to / 4 - from / 4) (drop (from / 4) (nodes ws)) in
      omega arith
