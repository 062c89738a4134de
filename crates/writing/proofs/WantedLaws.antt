-- Why it holds: Two more words are one more entry, so an entry lies at twice its index in the
-- words.
-- What would break it: A tag or a count read one word off would be caught here.
use mathlib.Core.Path.{◌≡◌, refl, ap, sym, subst, ◌∙◌}
use mathlib.Core.List.{List, [], ◌∷◌, flat_map}
use Prim.Native.Nat.{ℕ, zero, suc, ◌+◌, ◌*◌, ◌/◌, ◌%◌, ◌<◌}
use native.Mathlib.Omega.{arith}
use native.Mathlib.Nat.{not-suc-le-zero}
use native.Mathlib.Numerals.{add-one}
use lib.ListN.{length, get_or, drop}
use lib.Seq.{drop-cons}
use Rattle.laws.specs.Choose.{All}
use Rattle.answers.specs.Output.{words_in}
use Rattle.laws.proofs.Choices.{all_at}
use Rattle.answers.proofs.OutputLaws.{length_items}
use Rattle.writing.specs.declared.wanted.Wanted.{Wanted}
use Rattle.writing.specs.Wanted.{WANTED_WORDS, want, wanted, wanted_words}

pub length_wanted : (ws : List ℕ) → length (wanted ws) ≡ length ws / WANTED_WORDS
unfolding wanted
length_wanted [] = refl
length_wanted (t ∷ []) = refl
length_wanted (t ∷ c ∷ ws) = let h = length_wanted ws in omega arith

beyond : (t c : ℕ) (ws : List ℕ) {k m : ℕ} → m ≡ suc (suc k) → get_or (t ∷ c ∷ ws) m 0 ≡ get_or ws k 0
beyond t c ws q = rw q

-- An entry's words are those at twice its index.
pub wanted_words_lem : (ws : List ℕ) (i : ℕ) → i < length ws / WANTED_WORDS
    → get_or (wanted ws) i (want 0 0) ≡ want (get_or ws (2 * i) 0) (get_or ws (2 * i + 1) 0)
unfolding wanted
wanted_words_lem [] i h = absurd (not-suc-le-zero h)
wanted_words_lem (t ∷ []) i h = absurd (not-suc-le-zero h)
wanted_words_lem (t ∷ c ∷ ws) zero h = refl
wanted_words_lem (t ∷ c ∷ ws) (suc i) h =
    wanted_words_lem ws i (omega arith)
    ∙ λ k. want
    (sym (beyond t c ws {k = 2 * i} {m = 2 * suc i} (omega arith)) k)
    (sym (beyond t c ws {k = 2 * i + 1} {m = 2 * suc i + 1} (omega arith)) k)

-- The entry at an index: the entries from there on begin with it, and what holds of all holds of
-- it.
module _ (ws : List ℕ) (i : ℕ) (h : i < length ws / WANTED_WORDS) (w : Wanted) (q : w ≡ get_or (wanted ws) i (want 0 0)) where
  pub wanted_from : drop i (wanted ws) ≡ w ∷ drop (i + 1) (wanted ws)
  wanted_from = rw (add-one i, q) (drop-cons (wanted ws) i (want 0 0) (omega (arith, length_wanted ws)))

  pub wanted_at : (P : Wanted → Type 0) → All P (wanted ws) → P w
  wanted_at P s = subst P (sym q) (all_at P (wanted ws) i (want 0 0) (omega (arith, length_wanted ws)) s)

-- Entries written as words are read as the same entries, and the words of whole entries are written
-- as they were.
pub wanted_of_words : (xs : List Wanted) → wanted (words_in wanted_words xs) ≡ xs
unfolding wanted words_in flat_map wanted_words
wanted_of_words [] = refl
wanted_of_words (x ∷ xs) = ap (λ ys. x ∷ ys) (wanted_of_words xs)

pub words_of_wanted : (ws : List ℕ) → length ws % WANTED_WORDS ≡ 0 → words_in wanted_words (wanted ws) ≡ ws
unfolding wanted words_in flat_map wanted_words
words_of_wanted [] h = refl
words_of_wanted (t ∷ []) h = absurd (omega arith)
words_of_wanted (t ∷ c ∷ ws) h = ap (λ vs. t ∷ c ∷ vs) (words_of_wanted ws (omega arith))

pub length_wanted_words : (xs : List Wanted) → length (words_in wanted_words xs) ≡ WANTED_WORDS * length xs
unfolding wanted_words
length_wanted_words xs = length_items wanted_words WANTED_WORDS (λ x. refl) xs

-- What holds of all words holds of all tags.
pub tags_of : (P : ℕ → Type 0) (ws : List ℕ) → All P ws → All (λ w. P w.tag) (wanted ws)
unfolding wanted
tags_of P [] h = tt
tags_of P (t ∷ []) h = tt
tags_of P (t ∷ c ∷ ws) h = (h.0, tags_of P ws h.1.1)
