-- Why it holds: A check that doesn't take a list has stopped at a test, and that test names the
-- nodes that draw its answer. A taken list has no such nodes.
-- What would break it: An answer drawn by nothing that the scope names, or a fault of its table
-- that draws no answer, would be caught here.
use mathlib.Core.Path.{◌≡◌, refl, sym, subst}
use mathlib.Core.Logic.{◌↔◌, ◌⊎◌, inl, inr, ⊎_elim}
use mathlib.Core.Bool.{true, false}
use mathlib.Core.List.Memᴰ
use mathlib.Core.List.{List, [], ◌∷◌, reverse_aux}
use Prim.Native.Nat.{ℕ, suc, ◌%◌, ◌<◌}
use native.Mathlib.Omega.{arith}
use lib.Dec.{ltb, eqb}
use lib.ListN.{length}
use borrow.Author.Tests.{ltb-true, ltb-false, eqb-true, eqb-false, eq-eqb}
use Rattle.nodes.specs.declared.node.Node.{Node}
use Rattle.answers.specs.Answer.{TAKEN}
use Rattle.nodes.specs.Node.{insideb, apartb, afterb, openb, sameb, MOST_LEVELS}
use Rattle.nodes.specs.Words.{NODE_WORDS, MOST_NODES, nodes, count}
use Rattle.laws.proofs.Choices.{all_in, any_some}
use Rattle.laws.proofs.Tests.{either, never, not_so, and_read, or_read, or_none, not_read}
use Rattle.nodes.proofs.NodeLaws.{within, open_read, same_read, same_self}
use Rattle.lists.specs.Check.{check_from, check_nodes, check_words}
use Rattle.lists.specs.Fault.{levelb, spanb, orderb, crossb, depthb, fault}
use Rattle.lists.specs.Refusal.{Neighbours, Follows, Faulty, AtOdds}
use Rattle.lists.specs.Refusal.Neighbours.{here as next_here, later as next_later}
use Rattle.lists.specs.Refusal.Follows.{here, later}
use Rattle.lists.specs.Refusal.Faulty.{ragged, long, level, span, order, cross, depth}
use Rattle.lists.specs.Two.{nestedb, agreeb, oddsb, jointb, check_two}
use Rattle.laws.specs.Choose.{All, EveryTwo, In}
use Rattle.lists.proofs.Faults.{Sound, crosses, rises}
use Rattle.lists.proofs.Merging.{joint_iff}
use Rattle.lists.proofs.Pairing.{two_taken_iff}
use Rattle.lists.proofs.Taken.{Fine, nested_read, fine_settles, whole_words, words_check, words_taken_iff}

module _ {e n : Node} where
  -- What holds of every earlier and later node of a list holds of e and n.
  pair_in : (R : Node → Node → Type 0) {ns : List Node} → EveryTwo R ns → Follows e n ns → R e n
  pair_in R h (here {x = x} {ns = ns} p m) = subst (λ z. R z n) (sym p) (all_in (R x) ns h.0 m)
  pair_in R h (later b) = pair_in R h.1 b

  beyond_in : {ns : List Node} → Follows e n ns → In n ns
  beyond_in (here p m) = Memᴰ.tail m
  beyond_in (later b) = Memᴰ.tail (beyond_in b)

  next_beyond : {ns : List Node} → Neighbours e n ns → Follows e n ns
  next_beyond (next_here p q) = here p (Memᴰ.head q)
  next_beyond (next_later b) = later (next_beyond b)

level_read : (n : Node) → levelb n ≡ true → (n.level ≡ 0) ⊎ (MOST_LEVELS < n.level)
unfolding levelb
level_read n h = ⊎_elim (λ p. inl (eqb-true _ _ p)) (λ p. inr (ltb-true _ _ p)) (or_read (eqb n.level 0) h)

span_read : (n : Node) → spanb n ≡ true → n.end < n.start
unfolding spanb
span_read n h = ltb-true _ _ h

-- A check that has passed the nodes `before`, kept with the last one first, and has ns left.
module _ (words : List ℕ) where
  -- What is found among the nodes left is found among all nodes.
  among : (P : List Node → Type 0) → ((x : Node) (ns : List Node) → P ns → P (x ∷ ns))
      → (before ns : List Node) → reverse_aux before ns ≡ nodes words → P ns → P (nodes words)
  among P more [] ns q h = subst P q h
  among P more (x ∷ before) ns q h = among P more before (x ∷ ns) q (more x ns h)

  beyond : {e n : Node} (before ns : List Node) → reverse_aux before ns ≡ nodes words → In e before → In n ns → Follows e n (nodes words)
  beyond [] ns q i j = absurd (Memᴰ.not-nil i)
  beyond {e} {n} (x ∷ before) ns q i j =
      elim (Memᴰ.cases_cons i) [
        | inl p ↦ among (Follows e n) (λ y ms b. later b) before (x ∷ ns) q (here p j)
        | inr k ↦ beyond before (x ∷ ns) q k (Memᴰ.tail j)
      ]

  module _ (n : Node) (ns : List Node) where
    order_found : (before : List Node) → reverse_aux before (n ∷ ns) ≡ nodes words → orderb before n ≡ true → Faulty words
    unfolding orderb
    order_found [] q h = absurd (never h refl)
    order_found (e ∷ before) q h =
        order e n (among (Neighbours e n) (λ y ms b. next_later b) before (e ∷ n ∷ ns) q (next_here refl refl)) (not_read (afterb n e) h)

    module _ (before : List Node) (q : reverse_aux before (n ∷ ns) ≡ nodes words) where
      cross_found : crossb before n ≡ true → Faulty words
      unfolding crossb
      cross_found h =
          any_some (crosses n) before h (λ e m t. let p = and_read (openb n e) t in
          let o = open_read n e p.0 in
          cross e n (beyond before (n ∷ ns) q m (Memᴰ.head refl)) o.document o.reaches (not_read (insideb n e) p.1))

      depth_found : depthb before n ≡ true → Faulty words
      unfolding depthb
      depth_found h =
          any_some (rises n) before h (λ e m t. let p = and_read (insideb n e) t in
          depth e n (beyond before (n ∷ ns) q m (Memᴰ.head refl)) p.0 (ltb-false _ _ (not_read (ltb e.level n.level) p.1)))

      fault_found : (fault before n ≡ TAKEN → ⊥) → Faulty words
      unfolding fault
      fault_found h =
          let m : In n (nodes words) = among (In n) (λ y ms i. Memᴰ.tail i) before (n ∷ ns) q (Memᴰ.head refl) in
          elim (either (levelb n)) [
            | inl l ↦ level n m (level_read n l)
            | inr l ↦ elim (either (spanb n)) [
              | inl s ↦ span n m (span_read n s)
              | inr s ↦ elim (either (orderb before n)) [
                | inl o ↦ order_found before q o
                | inr o ↦ elim (either (crossb before n)) [
                  | inl c ↦ cross_found c
                  | inr c ↦ elim (either (depthb before n)) [ inl d ↦ depth_found d | inr d ↦ absurd (h (rw (l, s, o, c, d))) ]
                ]
              ]
            ]
          ]

  check_found : (before : List Node) (index : ℕ) (ns : List Node) → reverse_aux before ns ≡ nodes words
      → ((check_from before index ns).answer ≡ TAKEN → ⊥) → Faulty words
  unfolding check_from
  check_found before index [] q h = absurd (h refl)
  check_found before index (n ∷ ns) q h =
      elim (either (eqb (fault before n) TAKEN)) [
        | inl e ↦ check_found (n ∷ before) (suc index) ns q (rw e at h)
        | inr e ↦ fault_found n ns before q (eqb-false (fault before n) TAKEN e)
      ]

  words_found : ((check_words words).answer ≡ TAKEN → ⊥) → Faulty words
  unfolding check_nodes
  words_found h =
      elim (either (eqb (length words % NODE_WORDS) 0)) [
        | inr r ↦ ragged (eqb-false (length words % NODE_WORDS) 0 r)
        | inl r ↦ elim (either (ltb MOST_NODES (count words))) [
          | inl l ↦ long (ltb-true MOST_NODES (count words) l)
          | inr l ↦ let w = (whole_words words).1 (eqb-true (length words % NODE_WORDS) 0 r, ltb-false MOST_NODES (count words) l) in
              check_found [] 0 (nodes words) refl (λ t. h ((words_check words).1 (w, t)))
        ]
      ]

  -- What a taken list has at each place where something is said to be wrong.
  module _ (t : (check_words words).answer ≡ TAKEN) where
    sound : {n : Node} → In n (nodes words) → Sound n
    sound m = all_in Sound (nodes words) ((words_taken_iff words).0 t).2 m

    fine : {e n : Node} → Follows e n (nodes words) → Fine e n
    fine b = pair_in Fine ((words_taken_iff words).0 t).3 b

    settled : (e n : Node) → Follows e n (nodes words) → e.document ≡ n.document → (e.end < n.start) ⊎ (nestedb n e ≡ true)
    settled e n b d = fine_settles n e (sound (beyond_in b)).span (fine b) d

    unfaulty : Faulty words → ⊥
    unfaulty (ragged f) = f ((words_taken_iff words).0 t).0
    unfaulty (long l) = let c = ((words_taken_iff words).0 t).1 in omega arith
    unfaulty (level n m l) = let s = sound m in ⊎_elim (λ p. omega arith) (λ p. omega arith) l
    unfaulty (span n m l) = let s = sound m in omega arith
    unfaulty (order e n b a) = never (fine (next_beyond b)).after a
    unfaulty (cross e n b d r i) = ⊎_elim (λ p. omega arith) (λ p. never (nested_read n e p).0 i) (settled e n b d)
    unfaulty (depth e n b i l) =
        let w = within n e i in
        let s = sound (beyond_in b) in
        ⊎_elim (λ p. omega arith) (λ p. omega (arith, nested_read n e p)) (settled e n b (sym w.document))

-- A list is refused exactly when its words or nodes have a fault of the scope's table.
pub list_refused_iff : (words : List ℕ) → ((check_words words).answer ≡ TAKEN → ⊥) ↔ Faulty words
list_refused_iff words = (λ h. words_found words h, λ f t. unfaulty words t f)

odds_read : (xs ys : List Node) {x y : Node} → In x xs → In y ys → oddsb x y ≡ true → AtOdds xs ys
unfolding oddsb agreeb
odds_read xs ys {x} {y} i j h =
    let p = and_read (eqb x.document y.document) h in
    let q = or_none (sameb x y) (not_read _ p.1) in
    let r = or_none (apartb x y) q.1 in
    record {
      x = x;
      y = y;
      x_in = i;
      y_in = j;
      document = eqb-true _ _ p.0;
      not_same = λ e. never (subst (λ z. sameb x z ≡ true) e (same_self x)) q.0;
      not_apart = r.0;
      not_nested = or_none (nestedb x y) r.1;
    }

odds_found : (xs ys : List Node) → jointb xs ys ≡ true → AtOdds xs ys
unfolding jointb
odds_found xs ys h = any_some _ xs h (λ x i k. any_some (oddsb x) ys k (λ y j o. odds_read xs ys i j o))

odds_make : {xs ys : List Node} (o : AtOdds xs ys) → oddsb o.x o.y ≡ true
unfolding oddsb agreeb
odds_make o =
    let s : sameb o.x o.y ≡ false = not_so (λ h. o.not_same (same_read o.x o.y h)) in
    rw (eq-eqb o.x.document o.y.document o.document, s, o.not_apart, o.not_nested.0, o.not_nested.1)

-- Two lists are refused exactly when one of them is, or when a node of one and a node of the other
-- are at odds.
pub refused_iff : (ancestors descendants : List ℕ) → ((check_two ancestors descendants).answer ≡ TAKEN → ⊥)
    ↔ (Faulty ancestors ⊎ (Faulty descendants ⊎ AtOdds (nodes ancestors) (nodes descendants)))
refused_iff ancestors descendants = (
  λ h. elim (either (eqb (check_words ancestors).answer TAKEN)) [
    | inr a ↦ inl (words_found ancestors (eqb-false (check_words ancestors).answer TAKEN a))
    | inl a ↦ elim (either (eqb (check_words descendants).answer TAKEN)) [
      | inr d ↦ inr (inl (words_found descendants (eqb-false (check_words descendants).answer TAKEN d)))
      | inl d ↦ elim (either (jointb (nodes ancestors) (nodes descendants))) [
        | inl j ↦ inr (inr (odds_found (nodes ancestors) (nodes descendants) j))
        | inr j ↦ absurd (h ((two_taken_iff ancestors descendants).1 (eqb-true _ _ a, eqb-true _ _ d, (joint_iff _ _).0 j)))
      ]
    ]
  ],
  λ f t. let p = (two_taken_iff ancestors descendants).0 t in
      elim f [
        | inl a ↦ unfaulty ancestors p.0 a
        | inr g ↦ elim g [
          | inl d ↦ unfaulty descendants p.1 d
          | inr o ↦ let even = all_in (λ x. All (λ y. oddsb x y ≡ false) (nodes descendants)) (nodes ancestors) p.2 o.x_in in
              never (odds_make o) (all_in (λ y. oddsb o.x y ≡ false) (nodes descendants) even o.y_in)
        ]
      ],
)
