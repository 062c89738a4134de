-- Function: `belfry_faulty` (src/list.rt).
-- Why it holds: The part has as many words as `faulty_part` returns. It begins at the node that the
-- verdict names, or at 0 where it is empty.
-- What would break it: A part of another length, or one that begins at another node, would be
-- caught at its return.
use mathlib.Core.Path.{◌≡◌, sym, ap, ◌∙◌}
use mathlib.Core.Bool.{cond}
use mathlib.Core.List.{List}
use Prim.Native.Nat.{ℕ, ◌*◌}
use lib.Dec.{eqb}
use lib.ListN.{length}
use borrow.Author.Tests.{eq-eqb, ne_eqb}
use Rattle.nodes.specs.Words.{NODE_WORDS}
use Rattle.answers.specs.declared.verdict.Verdict.{Verdict}
use Rattle.lists.specs.Two.{check_two}
use Rattle.repairs.specs.Part.{faulty_part}
use Rattle.belfrychest.specs.declared.list.BelfryPart.{BelfryPart}
use Rattle.belfrychest.specs.Shown.{shown_part}
use Rattle.belfrychest.proofs.list.belfry_faulty.Goals as goal

-- A verdict with a place and a length.
abbrev part : Verdict → ℕ → ℕ → BelfryPart
part v from words = record { verdict = v; from = from; words = words }

module _ (ancestors descendants : List ℕ) (v : Verdict) (q : v ≡ check_two ancestors descendants) (words : List ℕ)
    (e : words ≡ faulty_part ancestors descendants) where
  -- Where the verdict and the words are those of the library, the answer is the definition's.
  answered : part v (cond (eqb (length words) 0) 0 (NODE_WORDS * v.index)) (length words) ≡ shown_part ancestors descendants
  unfolding shown_part
  answered = λ k. part (q k) (cond (eqb (length (e k)) 0) 0 (NODE_WORDS * (q k).index)) (length (e k))

  begun : (length words ≡ 0 → ⊥) → part v (NODE_WORDS * v.index) (length words) ≡ shown_part ancestors descendants
  begun h = ap (λ b. part v (cond b 0 (NODE_WORDS * v.index)) (length words)) (sym (ne_eqb (length words) 0 h)) ∙ answered

  empty : length words ≡ 0 → part v 0 (length words) ≡ shown_part ancestors descendants
  empty h = ap (λ b. part v (cond b 0 (NODE_WORDS * v.index)) (length words)) (sym (eq-eqb (length words) 0 h)) ∙ answered

pub returns-then-words-eq0 : goal.returns-then-words-eq0
returns-then-words-eq0 c =
    empty _ _ _ (c.from-verdict.ensures ∙ c.check_two.ensures) _ c.faulty_part-words.ensures.contents c.if-words-eq0.true

pub returns-else-words-eq0 : goal.returns-else-words-eq0
returns-else-words-eq0 c =
    begun _ _ _ (c.from-verdict.ensures ∙ c.check_two.ensures) _ c.faulty_part-words.ensures.contents c.if-words-eq0.false
