-- Why it holds: A contract is an equation with a definition, and two things that equal a third are
-- equal.
-- What would break it: A contract that left a field open would be caught here: it has no such
-- equation to give to this law.
use mathlib.Core.Path.{◌≡◌, sym, ◌∙◌}

-- No second answer satisfies a contract: x and y both equal z, so they are equal.
pub only {ℓ} : {A : Type ℓ} {x y z : A} → x ≡ z → y ≡ z → x ≡ y
only p q = p ∙ sym q
