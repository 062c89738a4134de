-- One listing followed through calls. Each call has its own listing and room, or is refused, and
-- takes the place that the last one reached.
use Rattle.std.specs.Prelude.{ℕ, ◌+◌, List, [], ◌∷◌, ◌++◌}
use Rattle.paging.specs.Page.{Spot, after, handed, reached}

-- A call is refused, or it is accepted with its full listing and its room.
pub data Call (A : Type 0) : Type 0 where
  refused : Call A
  accepted : List A → ℕ → Call A

-- The sum of several rooms.
abbrev pub total : List ℕ → ℕ
total [] = 0
total (room ∷ rooms) = room + total rooms

module _ {A : Type 0} (key : A → List ℕ) where
  -- What a call hands out at a place. A refused call hands out nothing.
  unfoldable pub given : Spot → Call A → List A
  given place refused = []
  given place (accepted xs room) = handed key place room xs

  -- The place that a call reaches. A refused call stays at the place it was given.
  unfoldable pub moved : Spot → Call A → Spot
  moved place call = reached (λ x. after (key x)) place (given place call)

  -- The place after a sequence of calls.
  unfoldable pub place_after : Spot → List (Call A) → Spot
  place_after place [] = place
  place_after place (call ∷ calls) = place_after (moved place call) calls

  -- All that a sequence of calls hands out, in the order in which it came.
  unfoldable pub all_given : Spot → List (Call A) → List A
  all_given place [] = []
  all_given place (call ∷ calls) = given place call ++ all_given (moved place call) calls
