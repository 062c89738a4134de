-- Why it holds: Words stored right after those already written, or right before them, lengthen what
-- is written. So an output is filled word by word, from either end.
-- What would break it: A store one place off, a store beyond the result, or a refusal that altered
-- a word would be caught here.
use mathlib.Core.Path.{◌≡◌, refl, sym, ap, ◌∙◌}
use mathlib.Core.Logic.{inl, inr}
use mathlib.Core.Bool.{true}
use mathlib.Core.List.{List, ◌++◌, append_assoc, append-nil, [], ◌∷◌, flat_map}
use Prim.Native.Nat.{ℕ, ◌+◌, ◌≤◌, ◌<◌, suc, ◌*◌}
use native.Mathlib.Nat.{mul-zero, mul-add, mul-one}
use native.Mathlib.Numerals.{add-one}
use native.Mathlib.Omega.{arith}
use lib.Dec.{ltb, eqb}
use lib.ListN.{length, take, drop, set, length-append, length-drop}
use lib.Seq.{sets, sets-eq, take-append_seam, take-append-le, take-take, length-take-le, drop-append-add, drop-append_seam, drop-drop}
use borrow.Author.Tests.{ltb-false, eqb-true, eqb-false, lt-ltb, le-ltb, eq-eqb, ne_eqb}
use Rattle.answers.specs.Answer.{TAKEN, ROOM}
use Rattle.answers.specs.Output.{written, answer_of, if_taken, output_of, words_in}
use Rattle.laws.proofs.Tests.{either}

-- Items of `width` words each have `width` times as many words as there are items.
module _ {A : Type 0} (words : A → List ℕ) (width : ℕ) (wide : (x : A) → length (words x) ≡ width) where
  pub length_items : (xs : List A) → length (words_in words xs) ≡ width * length xs
  unfolding words_in flat_map
  length_items [] = sym (mul-zero width)
  length_items (x ∷ xs) =
      let e = length-append (words x) (words_in words xs) in
      let w = wide x in
      let h = length_items xs in
      let one : width * suc (length xs) ≡ width * length xs + width =
      ap (λ k. width * k) (sym (add-one (length xs))) ∙ mul-add width (length xs) 1 ∙ ap (λ k. width * length xs + k) (mul-one width) in
      omega arith

-- The words of two lists of items in a row.
module _ {A : Type 0} (words : A → List ℕ) where
  pub words_append : (xs ys : List A) → words_in words (xs ++ ys) ≡ words_in words xs ++ words_in words ys
  unfolding words_in flat_map
  words_append [] ys = refl
  words_append (x ∷ xs) ys = ap (λ zs. words x ++ zs) (words_append xs ys) ∙ sym (append_assoc (words x) (words_in words xs) (words_in words ys))

  pub words_one_more : (xs : List A) (x : A) → words_in words (xs ++ x ∷ []) ≡ words_in words xs ++ words x
  unfolding words_in flat_map
  words_one_more xs x = words_append xs (x ∷ []) ∙ ap (λ zs. words_in words xs ++ zs) (append-nil (words x))

-- Storing some words and then others right after them is one store of both.
pub sets_more : (us vs ws : List ℕ) (at next : ℕ) → next ≡ at + length us → sets (sets ws at us) next vs ≡ sets ws at (us ++ vs)
sets_more [] vs ws at next q =
    let e : next ≡ at = omega arith in
    ap (λ k. sets ws k vs) e
sets_more (u ∷ us) vs ws at next q = sets_more us vs (set ws at u) (suc at) next (omega arith)

-- An output begins with the words written,
pub written_begins : (us out : List ℕ) → take (length us) (written us out) ≡ us
unfolding written
written_begins us out = take-append_seam us (drop (length us) out)

-- And the output is no shorter than it was.
pub no_shorter : (us out : List ℕ) → length out ≤ length (written us out)
unfolding written
no_shorter us out = omega (arith, length-append us (drop (length us) out), length-drop (length us) out)

-- Storing words at the beginning is writing them.
pub sets_written : (us out : List ℕ) → length us ≤ length out → sets out 0 us ≡ written us out
unfolding written
sets_written us out h =
    let e : 0 + length us ≡ length us = omega arith in
    sets-eq us out 0 (omega arith) ∙ ap (λ k. us ++ drop k out) e

-- Storing words right after a front part.
pub sets_beyond : (front rest vs : List ℕ) → length front + length vs ≤ length (front ++ rest)
    → sets (front ++ rest) (length front) vs ≡ front ++ vs ++ drop (length vs) rest
sets_beyond front rest vs h = rw (sets-eq vs (front ++ rest) (length front) h, take-append_seam front rest, drop-append-add front rest (length vs))

-- Writing words after others is one writing of both.
pub written_beyond : (us vs rest : List ℕ) → us ++ written vs (drop (length us) rest) ≡ written (us ++ vs) rest
unfolding written
written_beyond us vs rest = rw (drop-drop (length vs) (length us) rest, length-append us vs) (sym (append_assoc us vs _))

-- Storing words after those already written lengthens what is written.
pub written_more : (us vs out : List ℕ) → length us + length vs ≤ length out → sets (written us out) (length us) vs ≡ written (us ++ vs) out
unfolding written
written_more us vs out h =
    sets_beyond us (drop (length us) out) vs (omega (arith, length-append us (drop (length us) out), length-drop (length us) out))
    ∙ ap (λ rest. us ++ vs ++ rest) (drop-drop (length vs) (length us) out)
    ∙ ap (λ k. us ++ vs ++ drop k out) (sym (length-append us vs))

-- Storing words over the end of a front part.
sets_last : (front rest vs : List ℕ) (at : ℕ) → length front ≡ at + length vs → sets (front ++ rest) at vs ≡ take at front ++ vs ++ rest
sets_last front rest vs at e =
    sets-eq vs (front ++ rest) at (omega (arith, length-append front rest))
    ∙ rw (take-append-le at front rest (omega arith), ← e, drop-append_seam front rest) refl

-- Storing words right before those already written lengthens what is written.
pub sets_before : (out : List ℕ) (at : ℕ) (vs later : List ℕ) → at + length vs ≤ length out
    → sets (take (at + length vs) out ++ written later (drop (at + length vs) out)) at vs ≡ take at out ++ written (vs ++ later) (drop at out)
sets_before out at vs later h =
    sets_last (take (at + length vs) out) (written later (drop (at + length vs) out)) vs at (length-take-le (at + length vs) out h)
    ∙ ap (λ front. front ++ vs ++ written later (drop (at + length vs) out)) (take-take at (at + length vs) out (omega arith))
    ∙ ap (λ rest. take at out ++ vs ++ written later rest) (sym (drop-drop (length vs) at out))
    ∙ append_assoc (take at out) vs (written later (drop (length vs) (drop at out)))
    ∙ ap (λ words. take at out ++ words) (written_beyond vs later (drop at out))

-- What a call answers, by its fault and its room.
module _ (fault : ℕ) (result out : List ℕ) where
  pub answer_fault : (fault ≡ TAKEN → ⊥) → answer_of fault result out ≡ fault
  unfolding answer_of
  answer_fault h = rw (ne_eqb fault TAKEN h)

  pub answer_room : fault ≡ TAKEN → length out < length result → answer_of fault result out ≡ ROOM
  unfolding answer_of
  answer_room h l = rw (eq-eqb fault TAKEN h, lt-ltb (length out) (length result) l)

  pub answer_taken : fault ≡ TAKEN → length result ≤ length out → answer_of fault result out ≡ TAKEN
  unfolding answer_of
  answer_taken h l = rw (eq-eqb fault TAKEN h, le-ltb (length out) (length result) l)

  pub if_taken_lem : {A : Type 0} (x y : A) → answer_of fault result out ≡ TAKEN → if_taken fault result out x y ≡ x
  unfolding if_taken
  if_taken_lem x y h = rw (eq-eqb (answer_of fault result out) TAKEN h)

  pub if_refused : {A : Type 0} (x y : A) → (answer_of fault result out ≡ TAKEN → ⊥) → if_taken fault result out x y ≡ y
  unfolding if_taken
  if_refused x y h = rw (ne_eqb (answer_of fault result out) TAKEN h)

  -- A call that is taken has room for its result.
  pub taken_fits : answer_of fault result out ≡ TAKEN → length result ≤ length out
  unfolding answer_of
  taken_fits h =
      elim (either (eqb fault TAKEN)) [
        | inl f ↦ elim (either (ltb (length out) (length result))) [
          | inl l ↦ let e : ROOM ≡ TAKEN = rw (f, l) at h in absurd (omega (arith, e))
          | inr l ↦ ltb-false (length out) (length result) l
        ]
        | inr f ↦ absurd (eqb-false fault TAKEN f (rw f at h))
      ]

  -- A refused call counts nothing and alters no word;
  pub refused_alters_nothing : (count : ℕ) → (answer_of fault result out ≡ TAKEN → ⊥)
      → (if_taken fault result out count 0 ≡ 0) × (output_of fault result out ≡ out)
  unfolding output_of
  refused_alters_nothing count h = (if_refused count 0 h, if_refused (written result out) out h)

  -- No call alters a word beyond its result: after the items that it counts, of `width` words each,
  -- come the words that were there;
  pub beyond_unaltered : (width count words : ℕ) → length result ≡ width * count → words ≡ width * if_taken fault result out count 0
      → drop words (output_of fault result out) ≡ drop words out
  unfolding output_of if_taken written
  beyond_unaltered width count words wide w =
      elim (either (eqb (answer_of fault result out) TAKEN)) [
        | inl h ↦ rw h (ap (λ k. drop k (written result out)) (e h) ∙ drop-append_seam result (drop (length result) out) ∙ ap (λ k. drop k out) (sym (e h)))
        | inr h ↦ rw h refl
      ]
    where
      e : eqb (answer_of fault result out) TAKEN ≡ true → words ≡ length result
      e h = w ∙ rw h (sym wide)

  -- And no call makes the output longer or shorter.
  pub output_length : length (output_of fault result out) ≡ length out
  unfolding output_of if_taken written
  output_length =
      elim (either (eqb (answer_of fault result out) TAKEN)) [
        | inl h ↦ let l = taken_fits (eqb-true _ _ h) in
            rw h (omega (arith, l, length-append result (drop (length result) out), length-drop (length result) out))
        | inr h ↦ rw h refl
      ]
