-- Function: `pass_wanted` (src/check.rt).
-- Why it holds: The walk from the place reached answers as the whole walk does, and the next body
-- starts there. Each turn passes the list that comes next.
-- What would break it: A list passed over, or a body that starts elsewhere, would be caught at the
-- next turn. A walk that ends too early would be caught at its return.
use borrow.Author.Rules.{rules}
use mathlib.Core.Path.{◌≡◌, refl, sym, subst, ap, ◌∙◌}
use mathlib.Core.Logic.{inl, inr}
use mathlib.Core.List.{List, ◌∷◌}
use Prim.Native.Nat.{ℕ, ◌+◌, ◌*◌, ◌/◌, ◌≤◌, ◌<◌}
use native.Mathlib.Omega.{arith}
use lib.Dec.{eqb, leb}
use lib.ListN.{length, get_or, drop, drop_of_length-le}
use borrow.Author.Tests.{leb-true}
use Rattle.nodes.specs.Words.{MOST_NODES}
use Rattle.laws.proofs.Tests.{either, and_read}
use Rattle.numbers.specs.Little.{NODE_BYTES}
use Rattle.contents.specs.declared.entry.Entry.{Entry}
use Rattle.contents.specs.declared.step.ContentsPlace.{ContentsPlace}
use Rattle.std.specs.Prelude.{Result, Ok, Err}
use Rattle.answers.specs.declared.refusal.Refusal.{Refusal}
use Rattle.contents.specs.Contents.{entry, contents_end}
use Rattle.contents.specs.Passing.{start_of, passesb, after_entry, step_of}
use Rattle.contents.specs.Private.Walk.{Kept}
use Rattle.contents.proofs.ContentLaws.{Left, kept_on, kept_stop, kept_end}
use Rattle.writing.specs.declared.wanted.Wanted.{Wanted}
use Rattle.writing.specs.Wanted.{WANTED_WORDS, want, wanted, laid_out, contents_for}
use Rattle.writing.proofs.WantedLaws.{length_wanted, wanted_from}
use Rattle.writing.proofs.check.pass_wanted.Invariants.{Passed}
use Rattle.writing.proofs.check.pass_wanted.Goals as goal

-- If a list is passed, its body ends at the next place, and it isn't too long.
Ends : ContentsPlace → Entry → Result ContentsPlace Refusal → Type 0
Ends p e (Ok q) = (q.end ≡ p.end + NODE_BYTES * e.count) × (e.count ≤ MOST_NODES)
Ends p e (Err refusal) = Unit {0}

ends : (p : ContentsPlace) (e : Entry) → Ends p e (step_of p e)
unfolding Ends step_of after_entry passesb
ends p e =
    elim (either (passesb p e)) [
      | inl h ↦ rw h (refl, leb-true _ _ (and_read (leb e.count MOST_NODES) (and_read (eqb e.offset p.end) h).1).0)
      | inr h ↦ rw h tt
    ]

passed_ends : (p : ContentsPlace) (e : Entry) (r : Result ContentsPlace Refusal) → r ≡ step_of p e → (q : ContentsPlace) → r ≡ Ok q
    → (q.end ≡ p.end + NODE_BYTES * e.count) × (e.count ≤ MOST_NODES)
unfolding Ends
passed_ends p e r s q h = subst (Ends p e) (sym s ∙ h) (ends p e)

module _ (entries : List ℕ) (lists : ℕ) (n : lists ≡ length entries / WANTED_WORDS) where
  starts : (p : ContentsPlace) → p ≡ start_of lists → Passed entries lists 0 p
  unfolding start_of contents_for
  starts p e =
      let l = length_wanted entries in
      let k : lists ≡ length (wanted entries) = omega arith in
      let m : p.end ≡ contents_end lists = ap (λ q. q.end) e in
      record {
        most = omega arith;
        left = rw (e, k) (λ size. refl);
      }

  module _ (index : ℕ) (p : ContentsPlace) (l : Passed entries lists index p) where
    module _ (h : index < lists) (w : Wanted) (q : w ≡ get_or (wanted entries) index (want 0 0))
        (r : Result ContentsPlace Refusal) (s : r ≡ step_of p (entry w.tag p.end w.count)) where
      next : Left p (entry w.tag p.end w.count ∷ laid_out (p.end + NODE_BYTES * w.count) (drop (index + 1) (wanted entries)))
          (start_of lists) (contents_for (wanted entries))
      unfolding laid_out
      next = subst (λ ws. Left p (laid_out p.end ws) (start_of lists) (contents_for (wanted entries)))
          (wanted_from entries index (omega arith) w q) l.left

      one_more : (reached : ContentsPlace) → r ≡ Ok reached → Passed entries lists (index + 1) reached
      one_more reached k =
          let e = passed_ends p (entry w.tag p.end w.count) r s reached k in
          let far = l.most in
          let on = kept_on (start_of lists) (contents_for (wanted entries)) p (entry w.tag p.end w.count) _ next r s reached k in
          record {
            most = omega arith;
            left = subst (λ at. Left reached (laid_out at (drop (index + 1) (wanted entries))) (start_of lists) (contents_for (wanted entries)))
                (sym e.0) on;
          }

      stopped : (refusal : Refusal) → r ≡ Err refusal → Kept (start_of (length entries / WANTED_WORDS)) (contents_for (wanted entries)) r
      stopped refusal k =
          rw (← n) (kept_stop (start_of lists) (contents_for (wanted entries)) p (entry w.tag p.end w.count) _ next r s refusal k)

    all_passed : lists ≤ index → Kept (start_of (length entries / WANTED_WORDS)) (contents_for (wanted entries)) (Ok p)
    unfolding laid_out
    all_passed h =
        let c = length_wanted entries in
        let none = drop_of_length-le (wanted entries) {i = index} (omega arith) in
        rw (← n) (kept_end (start_of lists) (contents_for (wanted entries)) p
        (subst (λ ws. Left p (laid_out p.end ws) (start_of lists) (contents_for (wanted entries))) none l.left))

pub loop-index-init : goal.loop-index-init
loop-index-init c = starts c.args.entries.now _ c.wanted_count-lists.ensures _ c.start_of-place.ensures

pub overflow_cast-entry : goal.overflow_cast-entry
unfolding contents_end
overflow_cast-entry c = search rules

pub returns-in_default : goal.returns-in_default
returns-in_default c =
    let l = c.loop-index in
    stopped c.args.entries.now _ c.wanted_count-lists.ensures l.index l.place l.invariant (omega arith)
    _ c.wanted_at-wanted.ensures _ c.pass_entry-step.ensures _ c.in_default.is

pub loop-index-preserved : goal.loop-index-preserved
loop-index-preserved c =
    let l = c.loop-index in
    one_more c.args.entries.now _ c.wanted_count-lists.ensures l.index l.place l.invariant (omega arith)
    _ c.wanted_at-wanted.ensures _ c.pass_entry-step.ensures _ c.in-Ok.is

pub returns : goal.returns
returns c =
    let l = c.loop-index in
    all_passed c.args.entries.now _ c.wanted_count-lists.ensures l.index l.place l.invariant (omega arith)
