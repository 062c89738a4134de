-- Why it holds: The innermost node left open tells whether the next node has a fault. An accepted
-- list ascends, so one that goes on with a node out of order isn't accepted.
-- What would break it: A fault let through would be caught at `no_fault` or `run_on`, a refusal
-- without a fault at `end_late`, `level_low` or `run_stop`.
use mathlib.Core.Path.{◌≡◌, refl, sym, ap, subst, ◌∙◌}
use mathlib.Core.Bool.{true}
use mathlib.Core.Logic.{◌⊎◌, inl, inr, ⊎_elim}
use mathlib.Core.List.{List, ◌∷◌}
use Prim.Native.Nat.{ℕ, ◌+◌, ◌*◌, ◌/◌, ◌%◌, ◌≤◌, ◌<◌}
use native.Mathlib.Omega.{arith}
use lib.ListN.{length, get_or, set, drop}
use Rattle.nodes.specs.declared.node.Node.{Node}
use Rattle.nodes.specs.Node.{MOST_LEVELS}
use Rattle.nodes.specs.Words.{NODE_WORDS, nodes}
use Rattle.nodes.proofs.WordLaws.{nodes_drop}
use Rattle.answers.specs.Answer.{TAKEN}
use Rattle.answers.specs.declared.verdict.Verdict.{Verdict}
use Rattle.laws.specs.Choose.{All, EveryTwo}
use Rattle.laws.proofs.Choices.{all_map, all_drop, every_two_drop}
use Rattle.laws.proofs.Tests.{never}
use Rattle.lists.specs.declared.both.RunPlace.{RunPlace}
use Rattle.std.specs.Prelude.{Option, None, Some}
use Rattle.lists.specs.Check.{check_from, check_nodes}
use Rattle.lists.specs.Private.Merge.{Cut}
use Rattle.lists.specs.Private.Open.{LAST_END, Laid, Holds, Held}
use Rattle.lists.specs.Private.Walk.{node_from, Upon, nextb, unended, node_fault, Kept}
use Rattle.lists.specs.Private.Both.{PAST, Ahead, Disordered, ReachedAt, PassedNext, Amid, Draws, TakesAlong, SameTo}
use Rattle.lists.proofs.Faults.{level_sound, span_sound}
use Rattle.lists.proofs.Keeping.{next_there, next_from, clean, fault_told, kept_next, goes_past, stops_at}
use Rattle.lists.proofs.Taken.{Fine, taken_iff}
use Rattle.lists.proofs.WalkLaws.{head_from}
use Rattle.lists.proofs.StackLaws.{laid_put, holds_left, cross_told, depth_told, taken_told, upon_head, room_told, holds_push}

-- A next node that starts before PAST stands whole at its word.
pub ahead_there : (words : List ℕ) (at d start : ℕ) → Cut at words → Ahead words at d start → start < PAST
    → (at + 3 < length words) × ((node_from words at).document ≡ d) × ((node_from words at).start ≡ start)
ahead_there words at d start cut (inl h) l = let q = h.0 in absurd (omega arith)
ahead_there words at d start cut (inr h) l = let q = h.0 in (omega arith, h.2, h.3)

-- No next node starts past PAST, and one that is there starts before it.
pub ahead_most : (words : List ℕ) (at d start : ℕ) → Ahead words at d start → start ≤ PAST
ahead_most words at d start h = ⊎_elim (λ p. let q = p.0 in omega arith) (λ p. let l = p.1 in omega arith) h

pub ahead_soon : (words : List ℕ) (at d start : ℕ) → Ahead words at d start → at < length words → (node_from words at).document ≡ d → start < PAST
ahead_soon words at d start (inl h) l q = let e = h.1 l in absurd (omega arith)
ahead_soon words at d start (inr h) l q = h.1

-- Two nodes with the same four words are the same node.
pub same_words : (x y : Node) → x.document ≡ y.document → x.start ≡ y.start → x.end ≡ y.end → x.level ≡ y.level → x ≡ y
same_words x y d s e l = λ i. record { document = d i; start = s i; end = e i; level = l i }

-- What a step past a node that stands in both lists says, where the second list goes on.
pub same_to : (first second : List ℕ) (a b : RunPlace) (d : ℕ) (r : Option RunPlace) → a.start ≡ b.start
    → node_from first a.at ≡ node_from second b.at → ReachedAt second (b.at + NODE_WORDS) d (b.start + 1) b.top r
    → SameTo first a second b d r
same_to first second a b d (Some p) q e h = inr (q, e, h)
same_to first second a b d None q e h = (q, inr h)

-- The node n comes next in document d, and starts at `start`. Of the open nodes s, which lie up to
-- the word `top` of the stack, n leaves those that lie up to the word `left`.
pub record Arriving (d start top left : ℕ) (stack : List ℕ) (s : List Node) (n : Node) : Type 0 where
  pub same : n.document ≡ d
  pub there : n.start ≡ start
  pub holds : Holds d start top stack s
  pub under : left ≤ top
  pub leaves : (m : Node) (es : List Node) → m.start ≡ start → All (λ e. e.document ≡ m.document) es → Laid es top stack
      → Laid (unended m es) left stack

module _ {d start top left : ℕ} {stack : List ℕ} {s : List Node} {n : Node} (a : Arriving d start top left stack s n) where
  left_holds : Holds d n.start left stack (unended n s)
  left_holds = let q = a.there in holds_left d start top left stack s n a.same (omega arith) a.under a.holds (a.leaves n s a.there)

  -- The innermost of those left ends before n does.
  pub end_late : n.end ≤ LAST_END → get_or stack left 0 < n.end → node_fault s n ≡ TAKEN → ⊥
  end_late most l f =
      let p = (clean s n f).1 in
      let q = cross_told d left stack n a.same (unended n s) left_holds most l in
      omega arith

  module _ (within : n.end ≤ get_or stack left 0) where
    -- Its level isn't lower than n's.
    pub level_low : n.level ≤ get_or stack (left + 1) 0 → node_fault s n ≡ TAKEN → ⊥
    level_low l f =
        let p = clean s n f in
        let h = p.1 in
        let q = depth_told d left stack n a.same within (unended n s) left_holds p.0.lowest l in
        omega arith

    -- Its level is lower. So nothing is wrong at n, which is put upon it.
    module _ (span : n.start ≤ n.end) (most : n.level ≤ MOST_LEVELS) (l : get_or stack (left + 1) 0 < n.level) where
      pub no_fault : node_fault s n ≡ TAKEN
      unfolding node_fault
      no_fault = rw ((level_sound n).1 (omega arith, most), (span_sound n).1 span) (taken_told d left stack n a.same within (unended n s) left_holds l)

      pub room_upon : left + 2 ≤ 2 * MOST_LEVELS
      room_upon = room_told d left stack n a.same (unended n s) left_holds l most

      pub put_upon : (us : List ℕ) → left + 3 < length stack → us ≡ set (set stack (left + 2) n.end) (left + 2 + 1) n.level
          → Holds d (start + 1) (left + 2) us (n ∷ unended n s)
      put_upon us room q =
          let g : Laid (n ∷ unended n s) (left + 2) us = laid_put left stack us n room q (unended n s) left_holds.laid in
          let u : Upon n (unended n s) = upon_head d left stack n a.same within (unended n s) left_holds l in
          subst (λ k. Holds k (start + 1) (left + 2) us (n ∷ unended n s)) a.same
          (subst (λ k. Holds n.document (k + 1) (left + 2) us (n ∷ unended n s)) a.there
          (holds_push d left stack n a.same (unended n s) us left_holds (omega arith) room_upon u g))

-- What a step past the node n says, where the list goes on.
pub passed_next : (words : List ℕ) (d : ℕ) (place : RunPlace) (s : List Node) (top : ℕ) (r : Option RunPlace) (us : List ℕ)
    → node_fault s (node_from words place.at) ≡ TAKEN
    → Holds d (place.start + 1) top us (node_from words place.at ∷ unended (node_from words place.at) s)
    → ReachedAt words (place.at + NODE_WORDS) d (place.start + 1) top r → PassedNext words d place s r us
passed_next words d place s top (Some p) us f h g =
    let n = node_from words place.at in
    (f, subst (λ t. Holds d (place.start + 1) t us (n ∷ unended n s)) (sym g.1) h, (g.0, refl, g.2, g.3))
passed_next words d place s top None us f h g = inr g

-- Open nodes that all start before `from` start before anything later.
holds_from : (d from from' top : ℕ) (stack : List ℕ) (s : List Node) → from ≤ from' → Holds d from top stack s → Holds d from' top stack s
holds_from d from from' top stack s l h = record {
  linked = h.linked;
  within = all_map (λ e w. let b = w.1 in (w.0, omega arith)) s h.within;
  laid = h.laid;
  fits = h.fits;
}

-- The nodes from a word on are those from an index on.
nodes_on : (words : List ℕ) (at : ℕ) → at % NODE_WORDS ≡ 0 → drop (at / 4) (nodes words) ≡ nodes (drop at words)
nodes_on words at m = let q : 4 * (at / 4) ≡ at = omega arith in sym (nodes_drop words (at / 4)) ∙ ap (λ k. nodes (drop k words)) q

-- What holds of all nodes of a list holds of those from a word on.
pub all_from : (P : Node → Type 0) (words : List ℕ) (at : ℕ) → at % NODE_WORDS ≡ 0 → All P (nodes words) → All P (nodes (drop at words))
all_from P words at m h = subst (All P) (nodes_on words at m) (all_drop P (at / 4) (nodes words) h)

-- A list in which the node after that of document d at x isn't in order isn't accepted.
pub disordered_list : (words : List ℕ) (at d x : ℕ) → Cut at words → at + 3 < length words → (node_from words at).document ≡ d
    → (node_from words at).start ≡ x → Disordered words (at + NODE_WORDS) d (x + 1) → (check_nodes (nodes words)).answer ≡ TAKEN → ⊥
disordered_list words at d x cut l q r o h =
    let n = node_from words at in
    let m = node_from words (at + 4) in
    let on = o.0 in
    let heads : nodes (drop at words) ≡ n ∷ m ∷ nodes (drop (at + 4 + 4) words) =
    head_from words at l ∙ ap (λ ns. n ∷ ns) (head_from words (at + 4) (omega arith)) in
    let f : EveryTwo Fine (n ∷ m ∷ nodes (drop (at + 4 + 4) words)) =
    subst (EveryTwo Fine) (nodes_on words at cut.1 ∙ heads) (every_two_drop Fine (at / 4) (nodes words) ((taken_iff (nodes words)).0 h).1) in
    never (subst (λ k. nextb k (x + 1) m ≡ true) q (subst (λ k. nextb n.document (k + 1) m ≡ true) r (next_from n m ∙ f.0.0.after))) o.1

-- The open nodes of a walk along both lists, at the first list's next node.
module _ {d x y top : ℕ} {stack : List ℕ} {rest : List Node} {whole : Verdict} (w : Amid d x y top stack rest whole) where
  amid_holds : Holds d x top stack w.chain
  amid_holds = holds_from d w.from x top stack w.chain w.first_next w.holds

  pub amid_held : Held d x top stack
  amid_held = record { chain = w.chain; holds = amid_holds }

  -- The walk is the same with the two lists exchanged.
  pub amid_turn : Amid d y x top stack rest whole
  amid_turn = record {
    chain = w.chain;
    before = w.before;
    index = w.index;
    from = w.from;
    first_next = w.second_next;
    second_next = w.first_next;
    holds = w.holds;
    kept = w.kept;
    same = w.same;
  }

-- One list's run in the walk along both lists, at a place with a next node before the limit.
module _ (words : List ℕ) (d limit : ℕ) (rest : ℕ → List Node) (whole : Verdict) (draws : Draws words d limit rest)
    (place : RunPlace) (stack : List ℕ) (cut : Cut place.at words) (ahead : Ahead words place.at d place.start)
    (less : place.start < limit) (most : limit ≤ PAST)
    (w : Amid d place.start limit place.top stack (rest place.at) whole) where
  abbrev n : Node
  n = node_from words place.at

  there : (place.at + 3 < length words) × (n.document ≡ d) × (n.start ≡ place.start)
  there = ahead_there words place.at d place.start cut ahead (omega arith)

  comes_next : nextb d w.from n ≡ true
  comes_next = let q = there.2 in let l = w.first_next in next_there d w.from n there.1 (omega arith)

  drawn : check_from w.before w.index (n ∷ rest (place.at + 4)) ≡ whole
  drawn =
      let q = there.2 in
      subst (λ ns. check_from w.before w.index ns ≡ whole) (draws place.at there.0 there.1 (omega arith)) w.same

  -- The node is passed.
  run_on : (p : RunPlace) (us : List ℕ) → PassedNext words d place w.chain (Some p) us → Amid d p.start limit p.top us (rest p.at) whole
  run_on p us g =
      let k : Kept (n ∷ w.before) (n ∷ unended n w.chain) n.document (n.start + 1) =
      kept_next w.before w.chain d w.from w.kept w.holds.within n comes_next g.0 in
      record {
        chain = n ∷ unended n w.chain;
        before = n ∷ w.before;
        index = w.index + 1;
        from = place.start + 1;
        first_next = g.2.2;
        second_next = omega arith;
        holds = g.1;
        kept = subst (λ x. Kept (n ∷ w.before) (n ∷ unended n w.chain) d (x + 1)) there.2
            (subst (λ e. Kept (n ∷ w.before) (n ∷ unended n w.chain) e (n.start + 1)) there.1 k);
        same = subst (λ at. check_from (n ∷ w.before) (w.index + 1) (rest at) ≡ whole) (sym g.2.0)
            (goes_past w.before w.index n (rest (place.at + 4)) whole drawn
            (fault_told w.before w.chain d w.from n w.kept comes_next ∙ g.0));
      }

  -- The node has a fault, or the one after it isn't in order.
  run_stop : (us : List ℕ) → (whole.answer ≡ TAKEN → (check_nodes (nodes words)).answer ≡ TAKEN)
      → PassedNext words d place w.chain None us → whole.answer ≡ TAKEN → ⊥
  run_stop us alone (inl f) h =
      let told = fault_told w.before w.chain d w.from n w.kept comes_next in
      let stop = stops_at w.before w.index n (rest (place.at + 4)) whole drawn (λ g. f (sym told ∙ g)) in
      f (sym told ∙ ap (λ (v : Verdict). v.answer) stop ∙ h)
  run_stop us alone (inr o) h = disordered_list words place.at d place.start cut there.0 there.1 there.2 o (alone h)

-- A run from `begun` on has come to `place`.
pub record RunAlong (words : List ℕ) (d limit : ℕ) (begun : RunPlace) (stack₀ : List ℕ) (place : RunPlace) (stack : List ℕ) : Type 0 where
  pub cut : Cut place.at words
  pub ahead : Ahead words place.at d place.start
  pub most : limit ≤ PAST
  pub held : Held d place.start place.top stack
  pub on : begun.at ≤ place.at
  pub moved : (begun.at < place.at) ⊎ (place.start ≡ begun.start)
  pub walked : TakesAlong words d limit begun stack₀ (λ rest whole. Amid d place.start limit place.top stack (rest place.at) whole)

-- What a step of the run gives, whatever the chain.
abbrev Stepped : List ℕ → ℕ → RunPlace → List ℕ → Option RunPlace → List ℕ → Type 0
Stepped words d place stack r us = (s : List Node) → Holds d place.start place.top stack s → PassedNext words d place s r us

module _ (words : List ℕ) (d limit : ℕ) (begun : RunPlace) (stack₀ : List ℕ) (place : RunPlace) (stack : List ℕ)
    (i : RunAlong words d limit begun stack₀ place stack) where
  module _ (less : place.start < limit) (r : Option RunPlace) (us : List ℕ) (g : Stepped words d place stack r us) where
    pub along_on : (p : RunPlace) → r ≡ Some p → (place.at < p.at) × RunAlong words d limit begun stack₀ p us
    along_on p q =
        let f : Stepped words d place stack (Some p) us = subst (λ step. Stepped words d place stack step us) q g in
        let c = i.cut in
        let m = i.most in
        let o = i.on in
        let t = ahead_there words place.at d place.start i.cut i.ahead (omega arith) in
        let h = f i.held.chain i.held.holds in
        let e = h.2.0 in (
          omega arith,
          record {
            cut = (omega arith, omega arith, c.2);
            ahead = subst (λ at. Ahead words at d p.start) (sym e) h.2.3;
            most = m;
            held = record { chain = _; holds = holds_from d (place.start + 1) p.start p.top us _ h.2.2 h.1 };
            on = omega arith;
            moved = inl (omega arith);
            walked = λ rest whole draws alone w.
                let v = i.walked rest whole draws alone w in
                run_on words d limit rest whole draws place stack c i.ahead less m v p us
                (f v.chain (amid_holds v));
          },
        )

    pub along_stop : r ≡ None → TakesAlong words d limit begun stack₀ (λ rest whole. whole.answer ≡ TAKEN → ⊥)
    along_stop q rest whole draws alone w =
        let f : Stepped words d place stack None us = subst (λ step. Stepped words d place stack step us) q g in
        let v = i.walked rest whole draws alone w in
        run_stop words d limit rest whole draws place stack i.cut i.ahead less i.most v us alone
        (f v.chain (amid_holds v))
