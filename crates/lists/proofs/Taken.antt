-- Why it holds: A list is taken when no node has a fault, given the nodes before it. Along an
-- ascending list each fault is a fault of one node or of one pair.
-- What would break it: A check that looked at fewer pairs than all, or took a pair that crosses,
-- would be caught here.
use mathlib.Core.Path.{◌≡◌, refl, sym, subst}
use mathlib.Core.Logic.{◌↔◌, ◌⊎◌, inl, inr, ⊎_elim}
use mathlib.Core.Bool.{true, false, cond}
use mathlib.Core.List.{List, [], ◌∷◌}
use Prim.Native.Nat.{ℕ, suc, ◌%◌, ◌≤◌, ◌<◌}
use native.Mathlib.Omega.{arith}
use lib.Dec.{ltb, eqb}
use lib.ListN.{length}
use borrow.Author.Tests.{ltb-true, ltb-false, eqb-true, eqb-false, lt-ltb, le-ltb, eq-eqb}
use Rattle.nodes.specs.declared.node.Node.{Node}
use Rattle.answers.specs.Answer.{TAKEN}
use Rattle.nodes.specs.Node.{insideb, apartb, afterb, openb}
use Rattle.nodes.specs.Words.{NODE_WORDS, MOST_NODES, nodes, count, words_of}
use Rattle.laws.proofs.Tests.{either, never, not_so, and_read, and_make, or_read, or_left, or_right, not_read, not_none}
use Rattle.laws.proofs.Choices.{all_of, all_map, all_both, any_none, none_any}
use Rattle.nodes.proofs.NodeLaws.{within, apart_read, apart_ahead, after_starts, after_trans, open_read, shut_read}
use Rattle.nodes.proofs.WordLaws.{nodes_of_words, length_words}
use Rattle.answers.specs.declared.verdict.Verdict.{Verdict}
use Rattle.answers.specs.Output.{words_in}
use Rattle.lists.specs.Check.{check_from, check_nodes, raggedb, longb, word_fault, check_words}
use Rattle.lists.specs.Fault.{levelb, spanb, orderb, crossb, depthb, fault}
use Rattle.lists.specs.Two.{nestedb, agreeb}
use Rattle.answers.specs.Verdict.{ANCESTORS, verdict}
use Rattle.laws.specs.Choose.{All, EveryTwo}
use Rattle.lists.proofs.Faults.{Sound, skip, level_sound, span_sound, crosses, rises}

-- An earlier node e and a later one n are fine: n stands after e, and within one document they
-- agree.
pub record Fine (e n : Node) : Type 0 where
  pub after : afterb n e ≡ true
  pub agree : e.document ≡ n.document → agreeb e n ≡ true

-- In a list kept with the last node first, each node stands after all that follow in the list.
abbrev pub Descends : List Node → Type 0
Descends before = EveryTwo (λ n e. afterb n e ≡ true) before

pub nested_read : (y x : Node) → nestedb y x ≡ true → (insideb y x ≡ true) × (x.level < y.level)
unfolding nestedb
nested_read y x h = let p = and_read (insideb y x) h in (p.0, ltb-true _ _ p.1)

pub nested_make : (y x : Node) → insideb y x ≡ true → x.level < y.level → nestedb y x ≡ true
unfolding nestedb
nested_make y x h l = and_make h (lt-ltb _ _ l)

module _ (e n : Node) where
  pub agree_apart : apartb e n ≡ true → agreeb e n ≡ true
  unfolding agreeb
  agree_apart h = or_left _ h

  pub agree_nested : nestedb n e ≡ true → agreeb e n ≡ true
  unfolding agreeb
  agree_nested h = or_right (apartb e n) (or_right (nestedb e n) h)

  pub agree_nests : nestedb e n ≡ true → agreeb e n ≡ true
  unfolding agreeb
  agree_nests h = or_right (apartb e n) (or_left (nestedb n e) h)

  pub agree_read : agreeb e n ≡ true → (apartb e n ≡ true) ⊎ ((nestedb e n ≡ true) ⊎ (nestedb n e ≡ true))
  unfolding agreeb
  agree_read h = elim (or_read (apartb e n) h) [ inl p ↦ inl p | inr p ↦ inr (or_read (nestedb e n) p) ]

-- What stands after the head of a descending list stands after all of it.
order_all : (before : List Node) (n : Node) → Descends before → orderb before n ≡ false → All (λ e. afterb n e ≡ true) before
unfolding orderb
order_all [] n c h = tt
order_all (e ∷ before) n c h =
    let a = not_none (afterb n e) h in
    (a, all_map (λ f k. after_trans n e f a k) before c.0)

all_order : (before : List Node) (n : Node) → All (λ e. afterb n e ≡ true) before → orderb before n ≡ false
unfolding orderb
all_order [] n h = refl
all_order (e ∷ before) n h = rw h.0

pair_agrees : (n e : Node) → crosses n e ≡ false → rises n e ≡ false → e.document ≡ n.document → agreeb e n ≡ true
pair_agrees n e c r d =
    elim (either (openb n e)) [
      | inl o ↦ let i = not_none (insideb n e) (rw o at c) in
          agree_nested e n (nested_make n e i (ltb-true _ _ (not_none (ltb e.level n.level) (rw i at r))))
      | inr s ↦ agree_apart e n (apart_ahead e n (shut_read n e s d))
    ]

-- Within one document, the earlier node has ended or the later one is nested in it.
pub fine_settles : (n e : Node) → n.start ≤ n.end → Fine e n → e.document ≡ n.document → (e.end < n.start) ⊎ (nestedb n e ≡ true)
fine_settles n e span f d =
    let s = after_starts n e f.after d in
    elim (agree_read e n (f.agree d)) [
      | inl p ↦ elim (apart_read e n p) [ inl q ↦ inl q | inr q ↦ absurd (omega arith) ]
      | inr p ↦ elim p [ inl q ↦ let w = within e n (nested_read e n q).0 in absurd (omega arith) | inr q ↦ inr q ]
    ]

never_crosses : (n e : Node) → n.start ≤ n.end → Fine e n → crosses n e ≡ false
never_crosses n e span f =
    not_so (λ h. let p = and_read (openb n e) h in
    let o = open_read n e p.0 in
    ⊎_elim (λ q. omega arith) (λ q. never (nested_read n e q).0 (not_read (insideb n e) p.1)) (fine_settles n e span f o.document))

never_rises : (n e : Node) → n.start ≤ n.end → Fine e n → rises n e ≡ false
never_rises n e span f =
    not_so (λ h. let p = and_read (insideb n e) h in
    let w = within n e p.0 in
    let l : n.level ≤ e.level = ltb-false _ _ (not_read (ltb e.level n.level) p.1) in
    ⊎_elim (λ q. omega arith) (λ q. omega (arith, nested_read n e q)) (fine_settles n e span f (sym w.document)))

module _ (before : List Node) (n : Node) where
  -- No fault after a descending list: the node is sound, and fine with each node of the list.
  pub fault_fine : Descends before → fault before n ≡ TAKEN → Sound n × All (λ e. Fine e n) before
  unfolding fault crossb depthb
  fault_fine c h =
      let p = (skip (levelb n) _ _).0 h in
      let q = (skip (spanb n) _ _).0 p.1 in
      let r = (skip (orderb before n) _ _).0 q.1 in
      let s = (skip (crossb before n) _ _).0 r.1 in
      let t = (skip (depthb before n) _ _).0 s.1 in
      let l = (level_sound n).0 p.0 in (
        record { lowest = l.0; highest = l.1; span = (span_sound n).0 q.0 },
        all_both (λ e a g. record { after = a; agree = g }) before (order_all before n c r.0)
            (all_both (pair_agrees n) before (any_none (crosses n) before s.0) (any_none (rises n) before t.0)),
      )

  pub fine_fault : Sound n → All (λ e. Fine e n) before → fault before n ≡ TAKEN
  unfolding fault crossb depthb
  fine_fault s h =
      rw (
        (level_sound n).1 (s.lowest, s.highest),
        (span_sound n).1 s.span,
        all_order before n (all_map (λ e f. f.after) before h),
        none_any (crosses n) before (all_map (λ e. never_crosses n e s.span) before h),
        none_any (rises n) before (all_map (λ e. never_rises n e s.span) before h),
      )

-- A check goes on where it has found no fault.
pub goes_on : (f index : ℕ) (v : Verdict)
    → ((cond (eqb f TAKEN) v (verdict f ANCESTORS index)).answer ≡ TAKEN) ↔ ((f ≡ TAKEN) × (v.answer ≡ TAKEN))
goes_on f index v = (
  λ h. elim (either (eqb f TAKEN)) [ inl e ↦ (eqb-true _ _ e, rw e at h) | inr e ↦ absurd (eqb-false f TAKEN e (rw e at h)) ],
  λ h. rw (eq-eqb f TAKEN h.0) h.1,
)

-- The nodes are fine with one another, and with the list before them.
record Follows (before ns : List Node) : Type 0 where
  sound : All Sound ns
  pairs : EveryTwo Fine ns
  after : All (λ n. All (λ e. Fine e n) before) ns

check_follows : (before : List Node) (index : ℕ) (ns : List Node) → Descends before
    → (check_from before index ns).answer ≡ TAKEN → Follows before ns
unfolding check_from
check_follows before index [] c h = record { sound = tt; pairs = tt; after = tt }
check_follows before index (n ∷ later) c h =
    let p = (goes_on (fault before n) index (check_from (n ∷ before) (suc index) later)).0 h in
    let f = fault_fine before n c p.0 in
    let r = check_follows (n ∷ before) (suc index) later (all_map (λ e g. g.after) before f.1, c) p.1 in
    record {
      sound = (f.0, r.sound);
      pairs = (all_map (λ m g. g.0) later r.after, r.pairs);
      after = (f.1, all_map (λ m g. g.1) later r.after);
    }

follows_check : (before : List Node) (index : ℕ) (ns : List Node) → Follows before ns → (check_from before index ns).answer ≡ TAKEN
unfolding check_from
follows_check before index [] r = refl
follows_check before index (n ∷ later) r =
    (goes_on (fault before n) index (check_from (n ∷ before) (suc index) later)).1 (
      fine_fault before n r.sound.0 r.after.0,
      follows_check (n ∷ before) (suc index) later
          (record { sound = r.sound.1; pairs = r.pairs.1; after = all_both (λ m f g. (f, g)) later r.pairs.0 r.after.1 }),
    )

pub taken_iff : (ns : List Node) → ((check_nodes ns).answer ≡ TAKEN) ↔ (All Sound ns × EveryTwo Fine ns)
unfolding check_nodes
taken_iff ns = (
  λ h. let r = check_follows [] 0 ns tt h in (r.sound, r.pairs),
  λ h. follows_check [] 0 ns (record { sound = h.0; pairs = h.1; after = all_of (λ n. tt) ns }),
)

pub whole_words : (ws : List ℕ) → (word_fault ws ≡ TAKEN) ↔ ((length ws % NODE_WORDS ≡ 0) × (count ws ≤ MOST_NODES))
unfolding word_fault raggedb longb
whole_words ws = (
  λ h. let p = (skip (raggedb ws) _ _).0 h in
      let q = (skip (longb ws) _ _).0 p.1 in
      (eqb-true (length ws % NODE_WORDS) 0 (not_none (eqb (length ws % NODE_WORDS) 0) p.0), ltb-false MOST_NODES (count ws) q.0),
  λ h. rw (eq-eqb (length ws % NODE_WORDS) 0 h.0, le-ltb MOST_NODES (count ws) h.1),
)

pub words_check : (ws : List ℕ) → ((check_words ws).answer ≡ TAKEN) ↔ ((word_fault ws ≡ TAKEN) × ((check_nodes (nodes ws)).answer ≡ TAKEN))
unfolding check_words
words_check ws = goes_on (word_fault ws) 0 (check_nodes (nodes ws))

pub words_taken_iff : (ws : List ℕ)
    → ((check_words ws).answer ≡ TAKEN) ↔ ((length ws % NODE_WORDS ≡ 0) × (count ws ≤ MOST_NODES) × All Sound (nodes ws) × EveryTwo Fine (nodes ws))
words_taken_iff ws = (
  λ h. let p = (words_check ws).0 h in
      let w = (whole_words ws).0 p.0 in
      let t = (taken_iff (nodes ws)).0 p.1 in
      (w.0, w.1, t.0, t.1),
  λ h. (words_check ws).1 ((whole_words ws).1 (h.0, h.1), (taken_iff (nodes ws)).1 (h.2, h.3)),
)

-- Nodes written as words are accepted where they are few enough, sound and fine with one another.
pub sound_taken : (ns : List Node) → length ns ≤ MOST_NODES → All Sound ns → EveryTwo Fine ns → (check_words (words_in words_of ns)).answer ≡ TAKEN
sound_taken ns few sound fine =
    let long = length_words ns in
    let same = sym (nodes_of_words ns) in
    (words_taken_iff (words_in words_of ns)).1 (omega arith, omega arith, subst (All Sound) same sound, subst (EveryTwo Fine) same fine)
