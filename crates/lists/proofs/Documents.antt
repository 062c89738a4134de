-- Why it holds: A run of one list takes the walk along both lists with it. A node that stands in
-- both comes once, and nodes that start together and differ are at odds.
-- What would break it: A walk that went on where the lists differ would be caught at `same_stop`.
-- One that left a document too early would be caught at `document_ends`. One that began the next
-- document with nodes open would be caught at `document_begins`.
use mathlib.Core.Path.{◌≡◌, refl, sym, ap, subst, ◌∙◌}
use mathlib.Core.Bool.{true, false}
use mathlib.Core.Logic.{◌⊎◌, inl, inr, ⊎_elim}
use mathlib.Core.List.{List, []}
use Prim.Native.Nat.{ℕ, ◌+◌, ◌≤◌, ◌<◌}
use native.Mathlib.Omega.{arith}
use lib.Dec.{ltb, eqb}
use lib.ListN.{length}
use borrow.Author.Tests.{ltb-true, ltb-false, eq-eqb, ne_eqb}
use Rattle.nodes.specs.Node.{afterb}
use Rattle.nodes.specs.Words.{nodes}
use Rattle.nodes.proofs.NodeLaws.{after_document, after_start}
use Rattle.answers.specs.Answer.{TAKEN}
use Rattle.answers.specs.declared.verdict.Verdict.{Verdict}
use Rattle.laws.proofs.Tests.{either, never}
use Rattle.lists.specs.Check.{check_from, check_nodes}
use Rattle.lists.specs.declared.both.RunPlace.{RunPlace}
use Rattle.std.specs.Prelude.{Option, None, Some}
use Rattle.lists.specs.Private.Merge.{merge, Whole, Cut}
use Rattle.lists.specs.Private.Open.{Laid}
use Rattle.lists.specs.Private.Walk.{node_from}
use Rattle.lists.specs.Private.Both.{PAST, Ahead, Disordered, ReachedAt, Amid, RunPast, RunTo, TakesAlong, Ran, SameTo, Upcoming, NextDocument, rest_of, whole_of, BetweenDocuments}
use Rattle.lists.proofs.Keeping.{next_there, next_beyond, kept_later, kept_none}
use Rattle.lists.proofs.Merging.{merge_taken_iff}
use Rattle.lists.proofs.Runs.{ahead_there, ahead_soon, amid_turn, disordered_list}
use Rattle.lists.proofs.StackLaws.{laid_bottom}
use Rattle.lists.proofs.WalkLaws.{none_from}
use Rattle.lists.proofs.MergeRuns.{draws_first, draws_second, same_rest, same_start}

-- The walk along both lists stands in document d, where they go on at words i and j, with nodes of
-- the document that start at x and y.
pub record Standing (first second : List ℕ) (d i x j y top : ℕ) (stack : List ℕ) : Type 0 where
  pub first_cut : Cut i first
  pub first_ahead : Ahead first i d x
  pub second_cut : Cut j second
  pub second_ahead : Ahead second j d y
  pub amid : Amid d x y top stack (rest_of first i second j) (whole_of first second)

module _ {first second : List ℕ} {d i x j y top : ℕ} {stack : List ℕ} (s : Standing first second d i x j y top stack) where
  -- Where neither list has another node of the document, the walk stands between two documents.
  pub document_ends : x ≡ PAST → y ≡ PAST → BetweenDocuments first i second j stack
  document_ends p q = record {
    first_cut = s.first_cut;
    second_cut = s.second_cut;
    bottom = laid_bottom s.amid.chain top stack s.amid.holds.laid;
    before = s.amid.before;
    index = s.amid.index;
    kept = λ e up. kept_later s.amid.before s.amid.chain d s.amid.from s.amid.kept s.amid.holds.within e (later e up);
    same = s.amid.same;
  }
    where
      beyond : (words : List ℕ) (at z e : ℕ) → z ≡ PAST → Ahead words at d z → at < length words → (node_from words at).document ≡ e → d < e
      beyond words at z e o (inl h) l r = let f = h.1 l in omega arith
      beyond words at z e o (inr h) l r = let f = h.1 in absurd (omega arith)

      later : (e : ℕ) → Upcoming first i second j e → d < e
      later e (inl u) = beyond first i x e p s.first_ahead u.0 u.1
      later e (inr u) = beyond second j y e q s.second_ahead u.0 u.1

-- A run of the first list, up to where the second goes on.
module _ {first second : List ℕ} {d j y : ℕ} {stack : List ℕ} (a : RunPlace)
    (s : Standing first second d a.at a.start j y a.top stack) (r : Option RunPlace) (us : List ℕ)
    (g : TakesAlong first d y a stack (λ rest whole. Ran d y rest whole r us)) where
  first_ran : Ran d y (λ i. rest_of first i second j) (whole_of first second) r us
  first_ran =
      g (λ i. rest_of first i second j) (whole_of first second) (draws_first first second d y j s.second_cut s.second_ahead)
      (λ h. ((merge_taken_iff (nodes first) (nodes second)).0 h).0) s.amid

  pub first_run : RunTo first d a y r → (p : RunPlace) → r ≡ Some p
      → Standing first second d p.at p.start j y p.top us × RunPast a y p
  first_run m p q =
      let to = subst (RunTo first d a y) q m in (
        record {
          first_cut = to.0;
          first_ahead = to.1;
          second_cut = s.second_cut;
          second_ahead = s.second_ahead;
          amid = subst (λ step. Ran d y (λ i. rest_of first i second j) (whole_of first second) step us) q first_ran;
        },
        to.2,
      )

  pub first_stop : r ≡ None → (whole_of first second).answer ≡ TAKEN → ⊥
  first_stop q = subst (λ step. Ran d y (λ i. rest_of first i second j) (whole_of first second) step us) q first_ran

-- The same of the second list.
module _ {first second : List ℕ} {d i x : ℕ} {stack : List ℕ} (b : RunPlace)
    (s : Standing first second d i x b.at b.start b.top stack) (r : Option RunPlace) (us : List ℕ)
    (g : TakesAlong second d x b stack (λ rest whole. Ran d x rest whole r us)) where
  second_ran : Ran d x (λ j. rest_of first i second j) (whole_of first second) r us
  second_ran =
      g (λ j. rest_of first i second j) (whole_of first second) (draws_second first second d x i s.first_cut s.first_ahead)
      (λ h. ((merge_taken_iff (nodes first) (nodes second)).0 h).1)
      (amid_turn s.amid)

  pub second_run : RunTo second d b x r → (p : RunPlace) → r ≡ Some p
      → Standing first second d i x p.at p.start p.top us × RunPast b x p
  second_run m p q =
      let to = subst (RunTo second d b x) q m in (
        record {
          first_cut = s.first_cut;
          first_ahead = s.first_ahead;
          second_cut = to.0;
          second_ahead = to.1;
          amid = amid_turn (subst (λ step. Ran d x (λ j. rest_of first i second j) (whole_of first second) step us) q second_ran);
        },
        to.2,
      )

  pub second_stop : r ≡ None → (whole_of first second).answer ≡ TAKEN → ⊥
  second_stop q = subst (λ step. Ran d x (λ j. rest_of first i second j) (whole_of first second) step us) q second_ran

-- The two lists' next nodes, of which the second's starts no later, are compared.
module _ {first second : List ℕ} {d : ℕ} {stack : List ℕ} (a b : RunPlace)
    (s : Standing first second d a.at a.start b.at b.start b.top stack) (less : b.start < PAST) where
  second_stands : (b.at + 3 < length second) × ((node_from second b.at).document ≡ d) × ((node_from second b.at).start ≡ b.start)
  second_stands = ahead_there second b.at d b.start s.second_cut s.second_ahead less

  first_stands : a.start ≡ b.start
      → (a.at + 3 < length first) × ((node_from first a.at).document ≡ d) × ((node_from first a.at).start ≡ a.start)
  first_stands q = ahead_there first a.at d a.start s.first_cut s.first_ahead (omega arith)

  -- A node of the second list that comes next in document d, from the start of b on.
  follows : (k z : ℕ) → b.start + 1 ≤ z → Ahead second k d z → k < length second → afterb (node_from second k) (node_from second b.at) ≡ true
  follows k z l (inl h) m = let t = second_stands.1 in let e = h.1 m in after_document (node_from second k) (node_from second b.at) (omega arith)
  follows k z l (inr h) m =
      let t = second_stands.2 in
      let e = h.3 in
      after_start (node_from second k) (node_from second b.at) (h.2 ∙ sym second_stands.1) (omega arith)

  pub same_on : b.start ≤ a.start → (p : RunPlace) → SameTo first a second b d (Some p)
      → Standing first second d a.at a.start p.at p.start p.top stack × (b.at ≤ p.at) × ((b.at < p.at) ⊎ (p.start < a.start))
  same_on l p (inl h) =
      let q = h.0 in
      let at_b : p.at ≡ b.at = ap (λ (k : RunPlace). k.at) q in
      let start-b : p.start ≡ b.start = ap (λ (k : RunPlace). k.start) q in
      let apart = h.1 in
      (subst (λ (k : RunPlace). Standing first second d a.at a.start k.at k.start k.top stack) (sym q) s, omega arith, inr (omega arith))
  same_on l p (inr h) =
      let reached = h.2 in
      let at_p : p.at ≡ b.at + 4 = reached.0 in
      let e = h.0 in
      let next = reached.2 in
      let t = second_stands.0 in
      let cut = s.second_cut in
      let from = s.amid.first_next in
      let cut' : Cut (b.at + 4) second = (omega arith, omega arith, cut.2) in
      let rests : rest_of first a.at second b.at ≡ rest_of first a.at second (b.at + 4) =
      same_rest first second a.at b.at (first_stands e).0 t cut' h.1
      (λ m. subst (λ n. afterb (node_from second (b.at + 4)) n ≡ true) (sym h.1) (follows (b.at + 4) p.start next reached.3 m)) in
      let made : Standing first second d a.at a.start (b.at + 4) p.start b.top stack = record {
        first_cut = s.first_cut;
        first_ahead = s.first_ahead;
        second_cut = cut';
        second_ahead = reached.3;
        amid = record {
          chain = s.amid.chain;
          before = s.amid.before;
          index = s.amid.index;
          from = s.amid.from;
          first_next = from;
          second_next = omega arith;
          holds = s.amid.holds;
          kept = s.amid.kept;
          same = subst (λ ns. check_from s.amid.before s.amid.index ns ≡ whole_of first second) rests s.amid.same;
        };
      } in (
        subst (λ k. Standing first second d a.at a.start k p.start p.top stack) (sym at_p)
            (subst (λ k. Standing first second d a.at a.start (b.at + 4) p.start k stack) (sym reached.1) made),
        omega arith,
        inl (omega arith),
      )

  pub same_stop : SameTo first a second b d None → (whole_of first second).answer ≡ TAKEN → ⊥
  same_stop h w =
      let t = first_stands h.0 in
      let u = second_stands in
      let e = h.0 in
      let tx = t.2 in
      let ty = u.2 in
      ⊎_elim
      (λ f. f (same_start first second a.at b.at s.first_cut s.second_cut t.0 u.0 (t.1 ∙ sym u.1) (omega arith) w))
      (λ o. disordered_list second b.at d b.start s.second_cut u.0 u.1 u.2 o ((merge_taken_iff (nodes first) (nodes second)).0 w).1)
      h.1

-- The document that comes next begins: neither list goes on with a node before it.
pub begin_stop : (words : List ℕ) (at d : ℕ) → (at < length words → d ≤ (node_from words at).document) → Disordered words at d 0 → ⊥
begin_stop words at d l h =
    let n = node_from words at in
    let o = l h.0 in
    elim (either (ltb d n.document)) [
      | inl p ↦ never (next_beyond d 0 n (ltb-true d n.document p)) h.1
      | inr p ↦ let q : n.document ≤ d = ltb-false d n.document p in never (next_there d 0 n (omega arith) (omega arith)) h.1
    ]

module _ {first second : List ℕ} {i j d : ℕ} {stack : List ℕ} (w : BetweenDocuments first i second j stack) (n : NextDocument first i second j d)
    (a b : RunPlace) (f : ReachedAt first i d 0 0 (Some a)) (g : ReachedAt second j d 0 0 (Some b)) where
  pub document_begins : Standing first second d a.at a.start b.at b.start a.top stack
  document_begins =
      let made : Standing first second d i a.start j b.start 0 stack = record {
        first_cut = w.first_cut;
        first_ahead = f.3;
        second_cut = w.second_cut;
        second_ahead = g.3;
        amid = record {
          chain = [];
          before = w.before;
          index = w.index;
          from = 0;
          first_next = omega arith;
          second_next = omega arith;
          holds = record { linked = tt; within = tt; laid = w.bottom; fits = omega arith };
          kept = w.kept d n.upcoming;
          same = w.same;
        };
      } in
      subst (λ k. Standing first second d k a.start b.at b.start a.top stack) (sym f.0)
      (subst (λ k. Standing first second d i a.start k b.start a.top stack) (sym g.0)
      (subst (λ k. Standing first second d i a.start j b.start k stack) (sym f.1) made))

  -- One of the lists has a node of it.
  pub document_there : (a.start < PAST) ⊎ (b.start < PAST)
  document_there =
      elim n.upcoming [
        | inl u ↦ inl (ahead_soon first i d a.start f.3 u.0 u.1)
        | inr u ↦ inr (ahead_soon second j d b.start g.3 u.0 u.1)
      ]

-- Each document takes the walk on: one of the lists has come further.
pub document_moves : (begun a b p x y : ℕ) → begun ≤ a + b → (begun < a + b) ⊎ ((x < PAST) ⊎ (y < PAST)) → y ≡ PAST → a ≤ p → (x < y → a < p) → begun < p + b
document_moves begun a b p x y l (inl m) q h k = omega arith
document_moves begun a b p x y l (inr (inl m)) q h k = let o = k (omega arith) in omega arith
document_moves begun a b p x y l (inr (inr m)) q h k = absurd (omega arith)

-- At the start of both lists nothing has been passed.
pub both_start : (first second stack : List ℕ) → Whole first → Whole second → Laid [] 0 stack → BetweenDocuments first 0 second 0 stack
unfolding check_nodes
both_start first second stack f s bottom = record {
  first_cut = (omega arith, refl, f.0);
  second_cut = (omega arith, refl, s.0);
  bottom = bottom;
  before = [];
  index = 0;
  kept = λ d up. kept_none d 0;
  same = refl;
}

-- What the walk answers: no where the whole check has a fault, yes at the end of both lists.
module _ (first second : List ℕ) where
  pub both_stop : ((whole_of first second).answer ≡ TAKEN → ⊥) → false ≡ eqb (whole_of first second).answer TAKEN
  both_stop h = sym (ne_eqb (whole_of first second).answer TAKEN h)

  pub both_end : (i j : ℕ) (stack : List ℕ) → BetweenDocuments first i second j stack → length first ≤ i → length second ≤ j
      → true ≡ eqb (whole_of first second).answer TAKEN
  unfolding check_from merge
  both_end i j stack w l m =
      let none : rest_of first i second j ≡ [] = rw (none_from first i l, none_from second j m) refl in
      let same : check_from w.before w.index [] ≡ whole_of first second =
      subst (λ ns. check_from w.before w.index ns ≡ whole_of first second) none w.same in
      sym (eq-eqb (whole_of first second).answer TAKEN (sym (ap (λ (v : Verdict). v.answer) same)))
