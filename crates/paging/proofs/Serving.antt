-- Why it holds: Each item goes right after those stored before it, so the output begins with the
-- items that found room, and nothing after them changes.
-- What would break it: An item stored one place off, one too many or one too few would be caught
-- here.
use mathlib.Core.Path.{◌≡◌, refl, sym, ap, subst, ◌∙◌}
use mathlib.Core.Logic.{inl, inr}
use mathlib.Core.Bool.{Bool, true, false}
use mathlib.Core.List.{List, [], ◌∷◌, ◌++◌, flat_map, append_assoc}
use Prim.Native.Nat.{ℕ, zero, suc, ◌+◌, ◌*◌, ◌/◌, ◌≤◌, ◌<◌}
use native.Mathlib.Nat.{add-zero, zero-add, mul-zero, mul-add, mul-one, mul-le-mul_left, mul-div-le}
use native.Mathlib.Omega.{arith}
use lib.Dec.{ltb, eqb, eqb-zero-suc, eqb-suc-suc}
use lib.ListN.{length, take, drop, length-append}
use lib.Seq.{sets, length-sets, take-nil}
use borrow.Author.Tests.{ltb-true, lt-ltb, le-ltb}
use Rattle.laws.proofs.Tests.{either, never}
use Rattle.answers.proofs.OutputLaws.{sets_beyond, written_beyond}
use Rattle.paging.specs.Private.Serve.{store, serve}
use Rattle.answers.specs.Output.{words_in, written}

-- Answers equal in each part are equal.
same_answer : {o o' : List ℕ} {n n' : ℕ} {b b' : Bool} → o ≡ o' → n ≡ n' → b ≡ b' → ◌≡◌ {A = List ℕ × ℕ × Bool} (o, n, b) (o', n', b')
same_answer p q r = rw (p, q, r)

module _ {A : Type 0} (words : A → List ℕ) (width : ℕ) where
  -- While there is room, an item is stored.
  pub serve_next : (out : List ℕ) (count : ℕ) (x : A) (xs : List A) → count < length out / width
      → serve words width out count (x ∷ xs) ≡ serve words width (store words width out count x) (count + 1) xs
  unfolding serve
  serve_next out count x xs h = rw (lt-ltb count (length out / width) h)

  -- An item that finds no room ends the serving.
  pub serve_full : (out : List ℕ) (count : ℕ) (x : A) (xs : List A) → length out / width ≤ count
      → serve words width out count (x ∷ xs) ≡ (out, count, false)
  unfolding serve
  serve_full out count x xs h = rw (le-ltb count (length out / width) h)

  -- Where all items found room, the serving goes on with those that follow.
  pub serve_on : (out : List ℕ) (count : ℕ) (xs ys : List A) (o : List ℕ) (d : ℕ) → serve words width out count xs ≡ (o, d, true)
      → serve words width out count (xs ++ ys) ≡ serve words width o d ys
  unfolding serve
  serve_on out count [] ys o d e = ap (λ t. serve words width t.0 t.1 ys) e
  serve_on out count (x ∷ xs) ys o d e =
      elim (either (ltb count (length out / width))) [
        | inl h ↦ rw h (serve_on (store words width out count x) (count + 1) xs ys o d (rw h at e))
        | inr h ↦ absurd (never (ap (λ t. t.2) (rw h at e)) refl)
      ]

  -- Where an item found no room, nothing that follows changes the answer.
  pub serve_stop : (out : List ℕ) (count : ℕ) (xs ys : List A) (o : List ℕ) (d : ℕ) → serve words width out count xs ≡ (o, d, false)
      → serve words width out count (xs ++ ys) ≡ (o, d, false)
  unfolding serve
  serve_stop out count [] ys o d e = absurd (never refl (ap (λ t. t.2) e))
  serve_stop out count (x ∷ xs) ys o d e =
      elim (either (ltb count (length out / width))) [
        | inl h ↦ rw h (serve_stop (store words width out count x) (count + 1) xs ys o d (rw h at e))
        | inr h ↦ rw h (rw h at e)
      ]

  -- A loop hands out items part by part, and serving what is left gives what serving the whole
  -- gives: a part that found room leaves the others,
  pub left_on : (out : List ℕ) (n : ℕ) (xs ys : List A) {o : List ℕ} {d : ℕ} {b : Bool} {rest : List A} {whole : List ℕ × ℕ × Bool}
      → (o, d, b) ≡ serve words width out n xs → b ≡ true → rest ≡ xs ++ ys → serve words width out n rest ≡ whole → serve words width o d ys ≡ whole
  left_on out n xs ys {o} {d} p t r e =
      sym (serve_on out n xs ys o d (sym p ∙ same_answer refl refl t)) ∙ ap (serve words width out n) (sym r) ∙ e

  -- A part that didn't ends the loop,
  pub left_stop : (out : List ℕ) (n : ℕ) (xs ys : List A) {o : List ℕ} {d : ℕ} {b : Bool} {rest : List A} {whole : List ℕ × ℕ × Bool}
      → (o, d, b) ≡ serve words width out n xs → b ≡ false → rest ≡ xs ++ ys → serve words width out n rest ≡ whole → (o, d, b) ≡ whole
  left_stop out n xs ys {o} {d} p t r e =
      same_answer refl refl t ∙ sym (serve_stop out n xs ys o d (sym p ∙ same_answer refl refl t)) ∙ ap (serve words width out n) (sym r) ∙ e

  -- And so does the end of the parts.
  pub left_end : (out : List ℕ) (n : ℕ) {b : Bool} {rest : List A} {whole : List ℕ × ℕ × Bool}
      → b ≡ true → rest ≡ [] → serve words width out n rest ≡ whole → (out, n, b) ≡ whole
  unfolding serve
  left_end out n t r e = same_answer refl refl t ∙ ap (serve words width out n) (sym r) ∙ e

  -- Storing an item keeps the length of the output.
  pub store_length : (out : List ℕ) (count : ℕ) (x : A) → length (store words width out count x) ≡ length out
  unfolding store
  store_length out count x = length-sets out (width * count) (words x)

  -- Serving keeps the length of the output.
  pub serve_length : (out : List ℕ) (count : ℕ) (xs : List A) → length (serve words width out count xs).0 ≡ length out
  unfolding serve
  serve_length out count [] = refl
  serve_length out count (x ∷ xs) =
      elim (either (ltb count (length out / width))) [
        | inl h ↦ rw h (serve_length (store words width out count x) (count + 1) xs ∙ store_length out count x)
        | inr h ↦ rw h refl
      ]

  -- No more items are served than there is room for.
  pub serve_count : (out : List ℕ) (count : ℕ) (xs : List A) → count ≤ length out / width
      → (serve words width out count xs).1 ≤ length out / width
  unfolding serve
  serve_count out count [] l = l
  serve_count out count (x ∷ xs) l =
      elim (either (ltb count (length out / width))) [
        | inl h ↦ let k : count < length out / width = ltb-true _ _ h in
            let stored = store words width out count x in
            let r = serve_count stored (count + 1) xs (rw (store_length out count x) (omega arith)) in
            rw h (subst (λ n. (serve words width stored (count + 1) xs).1 ≤ n / width) (store_length out count x) r)
        | inr h ↦ rw h l
      ]

  -- An item is stored right after the words before it.
  store_beyond : (front rest : List ℕ) (count : ℕ) (x : A) → length (words x) ≡ width → length front ≡ width * count
      → count < length (front ++ rest) / width → store words width (front ++ rest) count x ≡ front ++ words x ++ drop (length (words x)) rest
  unfolding store
  store_beyond front rest count x w l h =
      let room : width * (count + 1) ≤ width * (length (front ++ rest) / width) = mul-le-mul_left width (omega arith) in
      let fits = mul-div-le (length (front ++ rest)) width in
      let one : width * (count + 1) ≡ width * count + width = mul-add width count 1 ∙ ap (λ n. width * count + n) (mul-one width) in
      ap (λ n. sets (front ++ rest) n (words x)) (sym l) ∙ sets_beyond front rest (words x) (omega arith)

  -- The items that find room follow the words that stand already.
  serve_beyond : ((x : A) → length (words x) ≡ width) → (front rest : List ℕ) (count room : ℕ) (xs : List A) → length front ≡ width * count
      → length (front ++ rest) / width ≡ count + room
      → serve words width (front ++ rest) count xs
      ≡ (front ++ written (words_in words (take room xs)) rest, count + length (take room xs), eqb (length (take room xs)) (length xs))
  unfolding serve words_in written flat_map
  serve_beyond w front rest count room [] l e = rw (take-nil {A = A} room, add-zero count)
  serve_beyond w front rest count zero (x ∷ xs) l e =
      rw (serve_full (front ++ rest) count x xs (omega arith), add-zero count, eqb-zero-suc (length xs))
  serve_beyond w front rest count (suc room) (x ∷ xs) l e =
      let later = serve_beyond w (front ++ words x) (drop (length (words x)) rest) (count + 1) room xs longer same in
      rw (serve_next (front ++ rest) count x xs next, beyond, later)
      (same_answer (append_assoc front (words x) _ ∙ ap (λ ws. front ++ ws) shown) (omega arith) (sym (eqb-suc-suc (length served) (length xs))))
    where
      served : List A
      served = take room xs

      next : count < length (front ++ rest) / width
      next = omega arith

      beyond : store words width (front ++ rest) count x ≡ front ++ words x ++ drop (length (words x)) rest
      beyond = store_beyond front rest count x (w x) l next

      longer : length (front ++ words x) ≡ width * (count + 1)
      longer = rw (length-append front (words x), l, w x, mul-add width count 1, mul-one width)

      same : length (front ++ words x ++ drop (length (words x)) rest) / width ≡ count + 1 + room
      same = rw (← beyond, store_length (front ++ rest) count x, e) (omega arith)

      shown : words x ++ written (words_in words served) (drop (length (words x)) rest) ≡ written (words x ++ words_in words served) rest
      shown = written_beyond (words x) (words_in words served) rest

  -- Serving from the beginning shows the first items, as many as find room.
  pub serve_shows : ((x : A) → length (words x) ≡ width) → (out : List ℕ) (xs : List A)
      → serve words width out 0 xs
      ≡ (
        written (words_in words (take (length out / width) xs)) out,
        length (take (length out / width) xs),
        eqb (length (take (length out / width) xs)) (length xs),
      )
  serve_shows w out xs =
      serve_beyond w [] out 0 (length out / width) xs (sym (mul-zero width)) (sym (zero-add (length out / width)))
      ∙ same_answer refl (zero-add (length (take (length out / width) xs))) refl
