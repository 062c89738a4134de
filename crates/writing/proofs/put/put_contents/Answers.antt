-- Function: `put_contents` (src/put.rt).
-- Why it holds: At each turn the entries still to be stored complete the whole. Each turn stores
-- the first of them, and the next body starts where the last ended.
-- What would break it: An offset that doesn't move on with the bodies, or an entry stored one place
-- off, would be caught at the next turn.
use borrow.Author.Rules.{rules}
use mathlib.Core.Path.{◌≡◌, refl, sym, ap, ◌∙◌}
use mathlib.Core.List.{List, ◌∷◌, flat_map}
use Prim.Native.Nat.{ℕ, ◌+◌, ◌*◌, ◌/◌, ◌≤◌, ◌<◌}
use native.Mathlib.Omega.{arith}
use lib.ListN.{length, get_or, drop, drop_of_length-le}
use lib.Seq.{sets, length-sets}
use Rattle.nodes.specs.Words.{MOST_NODES}
use Rattle.answers.specs.Output.{words_in, written}
use Rattle.numbers.specs.Little.{NODE_BYTES, bytes_of, number_count, put_number}
use Rattle.contents.specs.Contents.{entry, entry_numbers, contents_end}
use Rattle.answers.proofs.OutputLaws.{sets_written}
use Rattle.writing.specs.declared.wanted.Wanted.{Wanted}
use Rattle.writing.specs.Wanted.{WANTED_WORDS, want, wanted, laid_out, contents_for}
use Rattle.writing.proofs.Putting.{put_on, length_put, laid_bytes, laid_on, length_front}
use Rattle.writing.proofs.WantedLaws.{length_wanted, wanted_from, wanted_at}
use Rattle.writing.proofs.put.put_contents.Invariants.{Puts}
use Rattle.writing.proofs.put.put_contents.Goals as goal

starts : (entries out₀ : List ℕ) (end₀ : ℕ) → Puts entries out₀ end₀ 0 end₀ out₀
starts entries out₀ end₀ = record { same = refl; most = omega arith; whole = refl }

module _ (entries out₀ : List ℕ) (end₀ index end : ℕ) (out : List ℕ) (p : Puts entries out₀ end₀ index end out) where
  one_more : (w : Wanted) (out' : List ℕ) → index < length entries / WANTED_WORDS → w.count ≤ MOST_NODES
      → w ≡ get_or (wanted entries) index (want 0 0)
      → out' ≡ sets out (4 * (1 + 3 * index)) (words_in bytes_of (entry_numbers (entry w.tag end w.count)))
      → Puts entries out₀ end₀ (index + 1) (end + NODE_BYTES * w.count) out'
  one_more w out' h s q e =
      let most = p.most in
      let at : 4 * (1 + 3 * (index + 1)) ≡ 4 * (1 + 3 * index) + 12 = omega arith in
      let rest = laid_bytes (end + NODE_BYTES * w.count) (drop (index + 1) (wanted entries)) in
      record {
        same = ap length e ∙ length-sets out (4 * (1 + 3 * index)) (words_in bytes_of (entry_numbers (entry w.tag end w.count))) ∙ p.same;
        most = omega arith;
        whole = ap (λ o. sets o (4 * (1 + 3 * (index + 1))) rest) e
            ∙ laid_on out (4 * (1 + 3 * index)) (4 * (1 + 3 * (index + 1))) end w (drop (index + 1) (wanted entries)) at
            ∙ ap (λ ws. sets out (4 * (1 + 3 * index)) (laid_bytes end ws)) (sym (wanted_from entries index h w q))
            ∙ p.whole;
      }

  all_stored : length entries / WANTED_WORDS ≤ index → out ≡ sets out₀ 4 (laid_bytes end₀ (wanted entries))
  unfolding words_in flat_map laid_out
  all_stored h =
      let l = length_wanted entries in
      ap (λ ws. sets out (4 * (1 + 3 * index)) (laid_bytes end ws)) (sym (drop_of_length-le (wanted entries) {i = index} (omega arith))) ∙ p.whole

-- With the number of lists before them the entries are all that is to be written.
ends : (entries out₀ out : List ℕ) (lists end₀ : ℕ) (start : List ℕ) → lists ≡ length entries / WANTED_WORDS → end₀ ≡ contents_end lists
    → 1 + 3 * (length entries / WANTED_WORDS) ≤ number_count out₀ → start ≡ put_number out₀ 0 lists
    → out ≡ sets start 4 (laid_bytes end₀ (wanted entries))
    → out ≡ written (words_in bytes_of (length (wanted entries) ∷ words_in entry_numbers (contents_for (wanted entries)))) out₀
unfolding words_in flat_map contents_for contents_end
ends entries out₀ out lists end₀ start n e room s h =
    let l = length_wanted entries in
    let k : lists ≡ length (wanted entries) = omega arith in
    let f = length_front (wanted entries) in
    let m : end₀ ≡ contents_end (length (wanted entries)) = e ∙ ap contents_end k in
    h
    ∙ (λ t. sets (s t) 4 (laid_bytes (m t) (wanted entries)))
    ∙ put_on out₀ 0 lists 4 (laid_bytes (contents_end (length (wanted entries))) (wanted entries)) (omega arith) refl
    ∙ ap (λ j. sets out₀ 0 (words_in bytes_of (j ∷ words_in entry_numbers (contents_for (wanted entries))))) k
    ∙ sets_written (words_in bytes_of (length (wanted entries) ∷ words_in entry_numbers (contents_for (wanted entries)))) out₀ (omega arith)

pub loop-index-init : goal.loop-index-init
loop-index-init c = starts _ _ _

pub overflow_cast-end : goal.overflow_cast-end
unfolding contents_end
overflow_cast-end c = search rules

pub overflow_add-end : goal.overflow_add-end
unfolding contents_end
overflow_add-end c = search rules

pub loop-index-preserved : goal.loop-index-preserved
loop-index-preserved c =
    let l = c.loop-index in
    let entries = c.args.entries.now in
    let q = c.wanted_at-wanted.ensures in
    let w = wanted_at entries l.index (omega arith) _ q (λ w. w.count ≤ MOST_NODES) c.requires.1 in
    one_more entries _ _ l.index l.end l.out l.invariant _ _ (omega arith) w q c.put_entry.ensures

pub shape_of-out : goal.shape_of-out
shape_of-out c =
    c.loop-index.invariant.same ∙ ap length c.put_number.ensures ∙ length_put _ _ _ (omega arith)

pub returns : goal.returns
returns c =
    let l = c.loop-index in
    let a = c.args in
    ends a.entries.now a.out.now l.out _ _ _ c.wanted_count-lists.ensures c.contents_end-end.ensures
    (omega arith) c.put_number.ensures (all_stored _ _ _ l.index l.end l.out l.invariant (omega arith))
