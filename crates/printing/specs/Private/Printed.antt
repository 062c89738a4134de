-- How many pairs were printed.
use Rattle.std.specs.Prelude.{ℕ, ◌≡◌, Option, Some, None, Result, Ok, Err}
use Rattle.answers.specs.declared.refusal.Refusal.{Refusal}

-- A count that is returned is that of all pairs.
abbrev pub CountsAll : Result (Option ℕ) Refusal → ℕ → Type 0
CountsAll (Ok (Some count)) all = count ≡ all
CountsAll (Ok None) all = Unit {0}
CountsAll (Err _) all = Unit {0}
