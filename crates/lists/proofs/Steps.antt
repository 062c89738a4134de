-- Why it holds: Each return of a step is one case of `step_fault` or `head_fault`, reached by the
-- tests that went before it.
-- What would break it: A test left out, or tried in another order than the scope's, would be caught
-- at the case that it changes.
use mathlib.Core.Path.{◌≡◌, refl, sym, ap, subst, ◌∙◌}
use mathlib.Core.Bool.{true, false}
use mathlib.Core.List.{List, [], ◌∷◌}
use Prim.Native.Nat.{ℕ, ◌+◌, ◌≤◌, ◌<◌}
use native.Mathlib.Omega.{arith}
use lib.ListN.{get_or}
use borrow.Author.Tests.{eq-eqb, ne_eqb, lt-ltb}
use Rattle.answers.specs.Answer.{TAKEN}
use Rattle.std.specs.Prelude.{Result, Ok, Err}
use Rattle.answers.specs.declared.refusal.Fault.{Fault}
use Rattle.answers.specs.declared.refusal.Refusal.{Refusal}
use Rattle.answers.specs.declared.refusal.Refusal.TheVariants.{Level, Span, Order, Cross, Depth}
use Rattle.answers.specs.Refusal.{number_of, fault}
use Rattle.answers.specs.Verdict.{ANCESTORS, verdict}
use Rattle.answers.proofs.RefusalLaws.{never_taken}
use Rattle.laws.specs.Choose.{All}
use Rattle.laws.proofs.Choices.{all_map}
use Rattle.nodes.specs.declared.node.Node.{Node}
use Rattle.nodes.specs.Node.{MOST_LEVELS}
use Rattle.lists.specs.declared.walk.ListPlace.{ListPlace}
use Rattle.lists.specs.Fault.{levelb, spanb}
use Rattle.lists.specs.Private.Open.{LAST_END, Laid, Holds}
use Rattle.lists.specs.Private.Stepping.{place_after, Passed, SteppedPast, SteppedOnto}
use Rattle.lists.specs.Private.Walk.{unended, nextb, head_fault, step_fault}
use Rattle.lists.proofs.Faults.{Sound, level_sound, span_sound}
use Rattle.lists.proofs.Keeping.{next_beyond}
use Rattle.lists.proofs.StackLaws.{holds_left, holds_none, holds_push, cross_told, depth_told, taken_told, upon_head, room_told}
use Rattle.lists.proofs.WalkLaws.{all_ended}

-- What `left_open` leaves at n, which comes next in the document of the open nodes.
pub left_held : (place : ListPlace) (left : ℕ) (stack : List ℕ) (n : Node) → n.document ≡ place.document → place.from ≤ n.start → left ≤ place.top
    → (s : List Node) → Holds place.document place.from place.top stack s
    → (All (λ e. e.document ≡ n.document) s → Laid s place.top stack → Laid (unended n s) left stack)
    → Holds n.document n.start left stack (unended n s)
left_held place left stack n q l u s h g =
    subst (λ d. Holds d n.start left stack (unended n s)) (sym q)
    (holds_left place.document place.from place.top left stack s n q l u h g)

-- The step's answer r, where `wrong` is the fault at n over the nodes that are left.
module _ (wrong : ℕ) (left : List Node) (n : Node) (i : ℕ) (ws : List ℕ) (r : Result ListPlace Fault) where
  refuse : (f : Refusal) → wrong ≡ number_of f → r ≡ Err (fault f ANCESTORS i) → Passed wrong left n i r ws
  refuse f q e =
      subst (λ (step : Result ListPlace Fault). Passed wrong left n i step ws) (sym e)
      ((λ t. never_taken f (sym q ∙ t)), ap (λ (k : ℕ). verdict k ANCESTORS i) (sym q))

  go_on : (top : ℕ) → wrong ≡ TAKEN → r ≡ Ok (place_after n (i + 1) top) → Holds n.document (n.start + 1) top ws (n ∷ left)
      → Passed wrong left n i r ws
  go_on top h e p = subst (λ (step : Result ListPlace Fault). Passed wrong left n i step ws) (sym e) (h, refl, p)

-- The returns of `pass_node`, where s is the chain that was open at the node before.
module _ (place : ListPlace) (s : List Node) (n : Node) (ws : List ℕ) (r : Result ListPlace Fault) where
  abbrev wrong : ℕ
  wrong = step_fault place.document place.from s n

  pub passed_low : n.level ≡ 0 → r ≡ Err (fault Level ANCESTORS place.index) → SteppedPast place s n r ws
  unfolding levelb step_fault
  passed_low h e = refuse wrong (unended n s) n place.index ws r Level (rw (eq-eqb _ _ h) refl) e

  pub passed_high : 1 ≤ n.level → MOST_LEVELS < n.level → r ≡ Err (fault Level ANCESTORS place.index) → SteppedPast place s n r ws
  unfolding levelb step_fault
  passed_high l h e = refuse wrong (unended n s) n place.index ws r Level (rw (ne_eqb n.level 0 (omega arith), lt-ltb MOST_LEVELS n.level h) refl) e

  pub passed_span : 1 ≤ n.level → n.level ≤ MOST_LEVELS → n.end < n.start → r ≡ Err (fault Span ANCESTORS place.index)
      → SteppedPast place s n r ws
  unfolding spanb step_fault
  passed_span l h d e =
      refuse wrong (unended n s) n place.index ws r Span (rw ((level_sound n).1 (l, h), lt-ltb n.end n.start d) refl) e

  module _ (g : Sound n) where
    pub passed_order : nextb place.document place.from n ≡ false → r ≡ Err (fault Order ANCESTORS place.index)
        → SteppedPast place s n r ws
    unfolding step_fault
    passed_order o e =
        refuse wrong (unended n s) n place.index ws r Order
        (rw ((level_sound n).1 (g.lowest, g.highest), (span_sound n).1 g.span, o) refl) e

    -- Nothing is wrong so far, and the head of those left tells the rest.
    pub passed_rest : nextb place.document place.from n ≡ true → (left : List Node) → unended n s ≡ left
        → SteppedOnto left n place.index r ws → SteppedPast place s n r ws
    unfolding step_fault
    passed_rest o left q h = rw ((level_sound n).1 (g.lowest, g.highest), (span_sound n).1 g.span, o, q) h

-- The returns of `put_on_top`, and what `push` answers: n lies on what lay at word `left`.
module _ (stack : List ℕ) (left : ℕ) (n : Node) (i : ℕ) (ws : List ℕ) (r : Result ListPlace Fault) where
  abbrev Pushed : Type 0
  Pushed = record {
    answer : r ≡ Ok (place_after n (i + 1) (left + 2));
    stack : (s : List Node) → Laid s left stack → Laid (n ∷ s) (left + 2) ws;
  }

  module _ (s : List Node) (h : Holds n.document n.start left stack s) where
    pub onto_cross : n.end ≤ LAST_END → get_or stack left 0 < n.end → r ≡ Err (fault Cross ANCESTORS i) → SteppedOnto s n i r ws
    onto_cross most l e = refuse (head_fault s n) s n i ws r Cross (cross_told n.document left stack n refl s h most l) e

    module _ (within : n.end ≤ get_or stack left 0) (low : 1 ≤ n.level) where
      pub onto_depth : n.level ≤ get_or stack (left + 1) 0 → r ≡ Err (fault Depth ANCESTORS i) → SteppedOnto s n i r ws
      onto_depth l e = refuse (head_fault s n) s n i ws r Depth (depth_told n.document left stack n refl within s h low l) e

      pub onto_head : get_or stack (left + 1) 0 < n.level → n.level ≤ MOST_LEVELS → Pushed → SteppedOnto s n i r ws
      onto_head l most p =
          go_on (head_fault s n) s n i ws r (left + 2) (taken_told n.document left stack n refl within s h l) p.answer
          (holds_push n.document left stack n refl s ws h low (room_told n.document left stack n refl s h l most)
          (upon_head n.document left stack n refl within s h l) (p.stack s h.laid))

-- The first node of a document becomes the only one on the stack.
pub passed_first : (place : ListPlace) (s : List Node) (n : Node) (stack ws : List ℕ) (r : Result ListPlace Fault) → Sound n
    → Holds place.document place.from place.top stack s → place.document < n.document → Pushed stack 0 n place.index ws r
    → SteppedPast place s n r ws
unfolding head_fault
passed_first place s n stack ws r g h l p =
    let none : Holds n.document n.start 0 stack [] = holds_none _ _ _ n.start n.document stack s h in
    passed_rest place s n ws r g (next_beyond _ _ n l) []
    (all_ended n place.document s l (all_map (λ e w. w.0) s h.within))
    (go_on (head_fault [] n) [] n place.index ws r 2 refl p.answer
    (holds_push n.document 0 stack n refl [] ws none g.lowest (omega arith) tt (p.stack [] none.laid)))
