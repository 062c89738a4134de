-- Why it holds: The pages so far are followed by zeros, so the next page is stored over the first
-- page of zeros. Zeros count no pair.
-- What would break it: A page stored at another index, or a page after the 32nd that counted, would
-- be caught here.
use mathlib.Core.Path.{◌≡◌, refl, sym, ap, ◌∙◌}
use mathlib.Core.List.{List, [], ◌∷◌, ◌++◌, append_assoc, append-nil}
use Prim.Native.Nat.{ℕ, zero, suc, ◌+◌, ◌-◌, ◌≤◌, ◌<◌}
use native.Mathlib.Nat.{not-suc-le-zero, le_of_suc-le-suc}
use native.Mathlib.Numerals.{add-one}
use native.Mathlib.Omega.{arith}
use lib.ListN.{length, get_or, take, drop, set, replicate, take-append-drop, length-append, length-replicate, get_or-replicate, replicate-append-replicate, get_or-append}
use lib.Seq.{length-take-le, take_at, drop_at, take-append-add, get_or-append-add, get_or-take}
use Rattle.laws.specs.Choose.{All}
use Rattle.ticket_words.specs.declared.page.PageWords.{PageWords}
use Rattle.questions.specs.Ask.{no_page, padded}
use Rattle.questions.specs.Demanded.{count_in}
use Rattle.questions.specs.Question.{MOST_QUESTIONS}

module _ {A : Type 0} where
  take_replicate : (n m : ℕ) (z : A) → n ≤ m → take n (replicate m z) ≡ replicate n z
  take_replicate zero m z h = refl
  take_replicate (suc n) zero z h = absurd (not-suc-le-zero h)
  take_replicate (suc n) (suc m) z h = ap (λ xs. z ∷ xs) (take_replicate n m z (le_of_suc-le-suc h))

  store_next : (xs : List A) (i n m : ℕ) (z : A) {x : A} {later : List A} → drop i xs ≡ x ∷ later → i < n → n ≤ m
      → set (take n (take i xs ++ replicate m z)) i x ≡ take n (take (suc i) xs ++ replicate m z)
  store_next xs i zero m z e h l = absurd (not-suc-le-zero h)
  store_next xs i (suc n) zero z e h l = absurd (not-suc-le-zero l)
  store_next xs zero (suc n) (suc m) z {x = x} e h l =
      rw e (ap (λ ys. x ∷ ys) (take_replicate n m z (omega arith) ∙ sym (take_replicate n (suc m) z (omega arith))))
  store_next [] (suc i) (suc n) (suc m) z e h l = absurd (omega (arith, ap length e))
  store_next (y ∷ ys) (suc i) (suc n) (suc m) z e h l = ap (λ zs. y ∷ zs) (store_next ys i n (suc m) z e (omega arith) (omega arith))

  -- Elements from an index on don't count in what is cut there.
  take_cut : (n i : ℕ) (xs ys : List A) → n ≤ i → take n (take i xs ++ ys) ≡ take n (xs ++ ys)
  take_cut zero i xs ys h = refl
  take_cut (suc n) zero xs ys h = absurd (not-suc-le-zero h)
  take_cut (suc n) (suc i) [] ys h = refl
  take_cut (suc n) (suc i) (x ∷ xs) ys h = ap (λ zs. x ∷ zs) (take_cut n i xs ys (omega arith))

-- Without a page there are just zeros.
pub padded_none : (z : PageWords) → z ≡ no_page → replicate MOST_QUESTIONS z ≡ padded []
unfolding padded
padded_none z e = ap (λ p. replicate MOST_QUESTIONS p) e

-- The next page is stored after the first ones.
pub padded_next : (ps : List PageWords) (i : ℕ) {p : PageWords} {later : List PageWords} → drop i ps ≡ p ∷ later → i < MOST_QUESTIONS
    → set (padded (take i ps)) i p ≡ padded (take (i + 1) ps)
unfolding padded
padded_next ps i e h = rw (add-one i) (store_next ps i MOST_QUESTIONS MOST_QUESTIONS no_page e h (omega arith))

-- All pages are there if none is left,
pub padded_all : (ps : List PageWords) (i : ℕ) → drop i ps ≡ [] → padded (take i ps) ≡ padded ps
padded_all ps i e = ap padded (sym (append-nil (take i ps)) ∙ ap (λ xs. take i ps ++ xs) (sym e) ∙ take-append-drop i ps)

-- and if there is no place for another.
pub padded_full : (ps : List PageWords) (i : ℕ) → MOST_QUESTIONS ≤ i → padded (take i ps) ≡ padded ps
unfolding padded
padded_full ps i h = take_cut MOST_QUESTIONS i ps (replicate MOST_QUESTIONS no_page) h

-- Pages filled up with pages of zeros.
module _ (ps : List PageWords) where
  pub length_padded : length (padded ps) ≡ MOST_QUESTIONS
  unfolding padded
  length_padded =
      length-take-le MOST_QUESTIONS (ps ++ replicate MOST_QUESTIONS no_page)
      (omega (arith, length-append ps (replicate MOST_QUESTIONS no_page), length-replicate MOST_QUESTIONS no_page))

  module _ (i : ℕ) (most : i < MOST_QUESTIONS) where
    pub padded_there : i < length ps → (d : PageWords) → get_or (padded ps) i d ≡ get_or ps i d
    unfolding padded
    padded_there h d =
        get_or-take MOST_QUESTIONS (ps ++ replicate MOST_QUESTIONS no_page) i d most
        ∙ get_or-append ps (replicate MOST_QUESTIONS no_page) d i h

    pub padded_beyond : length ps ≤ i → (d : PageWords) → get_or (padded ps) i d ≡ no_page
    unfolding padded
    padded_beyond h d =
        let n = i - length ps in
        let e : i ≡ length ps + n = omega arith in
        get_or-take MOST_QUESTIONS (ps ++ replicate MOST_QUESTIONS no_page) i d most
        ∙ ap (λ k. get_or (ps ++ replicate MOST_QUESTIONS no_page) k d) e
        ∙ get_or-append-add ps (replicate MOST_QUESTIONS no_page) n d
        ∙ get_or-replicate MOST_QUESTIONS n no_page d (omega arith)

  module _ (few : length ps ≤ MOST_QUESTIONS) where
    -- So they are these pages, and pages of zeros.
    padded_few : padded ps ≡ ps ++ replicate (MOST_QUESTIONS - length ps) no_page
    unfolding padded
    padded_few = filled MOST_QUESTIONS few
      where
        filled : (most : ℕ) → length ps ≤ most → take most (ps ++ replicate most no_page) ≡ ps ++ replicate (most - length ps) no_page
        filled most l =
            let n = most - length ps in
            let e : length ps + n ≡ most = omega arith in
            let s : n + length ps ≡ most = omega arith in
            ap (λ k. take k (ps ++ replicate most no_page)) (sym e)
            ∙ take-append-add ps (replicate most no_page) n
            ∙ ap (λ k. ps ++ take n (replicate k no_page)) (sym s)
            ∙ ap (λ zs. ps ++ take n zs) (sym (replicate-append-replicate n (length ps) no_page))
            ∙ ap (λ zs. ps ++ zs) (take_at (replicate n no_page) (replicate (length ps) no_page) n (length-replicate n no_page))

    pub begins_padded : (n : ℕ) → length ps ≡ n → take n (padded ps) ≡ ps
    begins_padded n e = ap (take n) padded_few ∙ take_at ps (replicate (MOST_QUESTIONS - length ps) no_page) n e

-- Of two lists in a row, the first list's pages and those after them.
module _ (ps qs : List PageWords) (few : length (ps ++ qs) ≤ MOST_QUESTIONS) (n : ℕ) (e : length ps ≡ n) where
  abbrev zeros : List PageWords
  zeros = replicate (MOST_QUESTIONS - length (ps ++ qs)) no_page

  in_a_row : padded (ps ++ qs) ≡ ps ++ (qs ++ zeros)
  in_a_row = padded_few (ps ++ qs) few ∙ append_assoc ps qs zeros

  pub padded_first : take n (padded (ps ++ qs)) ≡ ps
  padded_first = ap (take n) in_a_row ∙ take_at ps (qs ++ zeros) n e

  pub padded_rest : drop n (padded (ps ++ qs)) ≡ qs ++ zeros
  padded_rest = ap (drop n) in_a_row ∙ drop_at ps (qs ++ zeros) n e

-- What several pages count.
count_append : (ps qs : List PageWords) → count_in (ps ++ qs) ≡ count_in ps + count_in qs
unfolding count_in
count_append [] qs = omega arith
count_append (p ∷ ps) qs = omega (arith, count_append ps qs)

pub count_none : (ps : List PageWords) → All (λ p. p.count ≡ 0) ps → count_in ps ≡ 0
unfolding count_in
count_none [] h = refl
count_none (p ∷ ps) h = omega (arith, h.0, count_none ps h.1)

pub all_zeros : (n : ℕ) → All (λ p. p.count ≡ 0) (replicate n no_page)
all_zeros zero = tt
all_zeros (suc n) = (refl, all_zeros n)

pub count_padded : (ps : List PageWords) → length ps ≤ MOST_QUESTIONS → count_in (padded ps) ≡ count_in ps
count_padded ps few =
    let zeros = replicate (MOST_QUESTIONS - length ps) no_page in
    ap count_in (padded_few ps few) ∙ omega (arith, count_append ps zeros, count_none zeros (all_zeros (MOST_QUESTIONS - length ps)))
