-- Why it holds: Five more words are one more row, so a row lies at five times its index in the
-- words.
-- What would break it: A row read one word off, or cut at another width, would be caught here.
use mathlib.Core.Path.{◌≡◌, refl, ap, sym, ◌∙◌}
use mathlib.Core.List.{List, [], ◌∷◌, flat_map}
use Prim.Native.Nat.{ℕ, zero, suc, ◌+◌, ◌*◌, ◌/◌, ◌%◌, ◌≤◌, ◌<◌}
use native.Mathlib.Omega.{arith}
use native.Mathlib.Nat.{not-suc-le-zero}
use native.Mathlib.Numerals.{add-one}
use lib.ListN.{length, get_or, drop, drop_of_length-le}
use lib.Seq.{drop-cons}
use Rattle.nodes.specs.Words.{node, words_of}
use Rattle.answers.specs.Output.{words_in}
use Rattle.marks.specs.declared.row.Row.{Row}
use Rattle.marks.specs.Table.{ROW_WORDS, row, row_words, rows, row_in}
use Rattle.answers.proofs.OutputLaws.{length_items}

pub length_rows : (ws : List ℕ) → length (rows ws) ≡ length ws / ROW_WORDS
unfolding rows
length_rows [] = refl
length_rows (d ∷ []) = refl
length_rows (d ∷ s ∷ []) = refl
length_rows (d ∷ s ∷ e ∷ []) = refl
length_rows (d ∷ s ∷ e ∷ l ∷ []) = refl
length_rows (d ∷ s ∷ e ∷ l ∷ t ∷ ws) = let h = length_rows ws in omega arith

beyond : (d s e l t : ℕ) (ws : List ℕ) {k m : ℕ} → m ≡ suc (suc (suc (suc (suc k)))) → get_or (d ∷ s ∷ e ∷ l ∷ t ∷ ws) m 0 ≡ get_or ws k 0
beyond d s e l t ws q = rw q

-- A row's words are those at five times its index.
pub row_words_lem : (ws : List ℕ) (i : ℕ) → i < length ws / ROW_WORDS
    → row_in (rows ws) i
    ≡ row (node (get_or ws (5 * i) 0) (get_or ws (5 * i + 1) 0) (get_or ws (5 * i + 2) 0) (get_or ws (5 * i + 3) 0)) (get_or ws (5 * i + 4) 0)
unfolding rows row_in
row_words_lem [] i h = absurd (not-suc-le-zero h)
row_words_lem (d ∷ []) i h = absurd (not-suc-le-zero h)
row_words_lem (d ∷ s ∷ []) i h = absurd (not-suc-le-zero h)
row_words_lem (d ∷ s ∷ e ∷ []) i h = absurd (not-suc-le-zero h)
row_words_lem (d ∷ s ∷ e ∷ l ∷ []) i h = absurd (not-suc-le-zero h)
row_words_lem (d ∷ s ∷ e ∷ l ∷ t ∷ ws) zero h = refl
row_words_lem (d ∷ s ∷ e ∷ l ∷ t ∷ ws) (suc i) h =
    row_words_lem ws i (omega arith)
    ∙ λ k. row
    (node
    (sym (beyond d s e l t ws {k = 5 * i} {m = 5 * suc i} (omega arith)) k)
    (sym (beyond d s e l t ws {k = 5 * i + 1} {m = 5 * suc i + 1} (omega arith)) k)
    (sym (beyond d s e l t ws {k = 5 * i + 2} {m = 5 * suc i + 2} (omega arith)) k)
    (sym (beyond d s e l t ws {k = 5 * i + 3} {m = 5 * suc i + 3} (omega arith)) k))
    (sym (beyond d s e l t ws {k = 5 * i + 4} {m = 5 * suc i + 4} (omega arith)) k)

-- The rows from an index on begin with the one there, and after the last there is none.
pub rows_from_lem : (ws : List ℕ) (i : ℕ) → i < length ws / ROW_WORDS → drop i (rows ws) ≡ row_in (rows ws) i ∷ drop (i + 1) (rows ws)
unfolding row_in
rows_from_lem ws i h = rw (add-one i) (drop-cons (rows ws) i (row (node 0 0 0 0) 0) (omega (arith, length_rows ws)))

pub rows_beyond : (ws : List ℕ) (i : ℕ) → length ws / ROW_WORDS ≤ i → drop i (rows ws) ≡ []
rows_beyond ws i h = drop_of_length-le (rows ws) {i = i} (omega (arith, length_rows ws))

-- Rows written as words are read as the same rows, and the words of whole rows are written as they
-- were.
pub rows_of_words : (rs : List Row) → rows (words_in row_words rs) ≡ rs
unfolding rows words_in flat_map row_words words_of
rows_of_words [] = refl
rows_of_words (r ∷ rs) = ap (λ qs. r ∷ qs) (rows_of_words rs)

pub words_of_rows : (ws : List ℕ) → length ws % ROW_WORDS ≡ 0 → words_in row_words (rows ws) ≡ ws
unfolding rows words_in flat_map row_words words_of
words_of_rows [] h = refl
words_of_rows (d ∷ []) h = absurd (omega arith)
words_of_rows (d ∷ s ∷ []) h = absurd (omega arith)
words_of_rows (d ∷ s ∷ e ∷ []) h = absurd (omega arith)
words_of_rows (d ∷ s ∷ e ∷ l ∷ []) h = absurd (omega arith)
words_of_rows (d ∷ s ∷ e ∷ l ∷ t ∷ ws) h = ap (λ vs. d ∷ s ∷ e ∷ l ∷ t ∷ vs) (words_of_rows ws (omega arith))

pub length_words : (rs : List Row) → length (words_in row_words rs) ≡ ROW_WORDS * length rs
unfolding row_words words_of
length_words rs = length_items row_words ROW_WORDS (λ r. refl) rs
