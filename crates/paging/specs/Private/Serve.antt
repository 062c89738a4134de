-- What one step of a page writes. Items are handed out one by one into an output, after those that
-- it holds already, until one does not fit. A page call's own contract speaks of its page (`Page`,
-- and `answers: Output`). `Serving` proves that serving what remains shows that page.
use Rattle.std.specs.Prelude.{ℕ, ◌+◌, ◌*◌, ◌/◌, Bool, true, false, cond, List, [], ◌∷◌, ltb, length}
use Rattle.std.proofs.lemmas.List.Edits.{sets}

-- The items have `width` words each.
module _ {A : Type 0} (words : A → List ℕ) (width : ℕ) where
  -- The output once the item is stored after `count` others.
  unfoldable pub store : List ℕ → ℕ → A → List ℕ
  store out count x = sets out (width * count) (words x)

  -- The output, the count and whether all items found room, once the items are served from a count
  -- on.
  unfoldable pub serve : List ℕ → ℕ → List A → List ℕ × ℕ × Bool
  serve out count [] = (out, count, true)
  serve out count (x ∷ xs) = cond (ltb count (length out / width)) (serve (store out count x) (count + 1) xs) (out, count, false)
