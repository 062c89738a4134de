-- Why it holds: A text put right after another makes one text with it, put where the first was. So
-- the lines are put together piece by piece.
-- What would break it: A piece put one place off, or over the one before it, would be caught here.
use mathlib.Core.Path.{◌≡◌, refl, ap, subst, ◌∙◌}
use mathlib.Core.List.{List, [], ◌∷◌, ◌++◌}
use Prim.Native.Nat.{ℕ, suc, ◌+◌, ◌≤◌}
use native.Mathlib.Omega.{arith}
use lib.ListN.{length, set, length-append}
use lib.Seq.{sets, set_comm, append_snoc}
use Rattle.answers.specs.Output.{written}
use Rattle.answers.proofs.OutputLaws.{sets_more, sets_written}
use Rattle.lines.specs.declared.text.Writer.{Writer}
use Rattle.lines.specs.Private.Puts.{Puts}

-- Nothing is put where nothing changes.
pub puts_none : (w : Writer) → Puts w [] w
puts_none w = record { same = refl; long = refl; next = omega arith; shows = refl }

-- The next text is put right after it.
pub put_next : {before after : Writer} {us : List ℕ} → Puts before us after → (vs : List ℕ) {later : Writer} → Puts after vs later
    → Puts before (us ++ vs) later
put_next {before} {us = us} p vs q = record {
  same = q.same ∙ p.same;
  long = q.long ∙ p.long;
  next = q.next ∙ ap (λ k. k + length vs) p.next ∙ omega (arith, length-append us vs);
  shows = q.shows ∙ (λ k. sets (p.shows k) (p.next k) vs) ∙ sets_more us vs before.text.now before.at (before.at + length us) refl;
}

-- The next text is put right after a byte that parts the two.
pub put_parted : {before after : Writer} (us : List ℕ) (a : ℕ) → Puts before (us ++ a ∷ []) after
    → (vs : List ℕ) {later : Writer} → Puts after vs later → Puts before (us ++ a ∷ vs) later
put_parted {before} us a p vs {later} q = subst (λ ws. Puts before ws later) (append_snoc us a vs) (put_next p vs q)

-- A text and what lies after it may be stored in either order.
set_apart : (ws : List ℕ) (at : ℕ) (us : List ℕ) (next v : ℕ) → at + length us ≤ next → sets (set ws next v) at us ≡ set (sets ws at us) next v
set_apart ws at [] next v h = refl
set_apart ws at (u ∷ us) next v h =
    ap (λ ds. sets ds (suc at) us) (set_comm ws next at v u (λ e. absurd (omega arith))) ∙ set_apart (set ws at u) (suc at) us next v (omega arith)

sets_apart : (ws : List ℕ) (at : ℕ) (us : List ℕ) (next : ℕ) (vs : List ℕ) → at + length us ≤ next
    → sets (sets ws next vs) at us ≡ sets (sets ws at us) next vs
sets_apart ws at us next [] h = refl
sets_apart ws at us next (v ∷ vs) h =
    sets_apart (set ws next v) at us (suc next) vs (omega arith) ∙ ap (λ ds. sets ds (suc next) vs) (set_apart ws at us next v h)

-- The last part of a text may be put first.
pub sets_last_first : (ws : List ℕ) (at : ℕ) (us : List ℕ) (next : ℕ) (vs : List ℕ) → next ≡ at + length us
    → sets (sets ws next vs) at us ≡ sets ws at (us ++ vs)
sets_last_first ws at us next vs e = sets_apart ws at us next vs (omega arith) ∙ sets_more us vs ws at next e

-- A text put at the beginning is what is written there.
abbrev pub Begins : List ℕ → List ℕ → List ℕ → ℕ → Type 0
Begins before us after to = record { length : to ≡ length us; text : after ≡ written us before }

pub put_written : {before after : Writer} (us : List ℕ) → before.at ≡ 0 → after.at ≤ length before.text.now → Puts before us after
    → Begins before.text.now us after.text.now after.at
put_written {before} us e h p =
    let place = p.next in
    record {
      length = omega arith;
      text = p.shows ∙ ap (λ k. sets before.text.now k us) e ∙ sets_written us before.text.now (omega arith);
    }
