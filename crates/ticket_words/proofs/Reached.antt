-- Why it holds: A place reached lies after the last item that was handed out, and the words take
-- the three numbers of its key. Where nothing was handed out, the words stay.
-- What would break it: Words that stood for another place, or for another relation or order than
-- before, would be caught here.
use mathlib.Core.Path.{◌≡◌, refl}
use mathlib.Core.List.{List, [], ◌∷◌}
use Prim.Native.Nat.{suc}
use native.Mathlib.Omega.{arith}
use lib.ListN.{length}
use borrow.Author.Tests.{ne_eqb}
use Rattle.paging.specs.Page.{reached}
use Rattle.tickets.specs.declared.ticket.Key.{Key}
use Rattle.tickets.specs.declared.ticket.Place.{Place}
use Rattle.tickets.specs.declared.ticket.Place.TheVariants.{Fresh, After}
use Rattle.tickets.specs.Ticket.{asked, ticket_at}
use Rattle.ticket_words.specs.declared.words.TicketWords.{TicketWords}
use Rattle.ticket_words.specs.Words.{relation_of, order_of, place_of, ticket_of, moved_to, ticket_back}

-- The relation and the order stay.
pub kept : (w : TicketWords) (place : Place) → ((moved_to w place).relation ≡ w.relation) × ((moved_to w place).order ≡ w.order)
kept w Fresh = (refl, refl)
kept w (After k) = (refl, refl)

module _ {A : Type 0} (key : A → Key) (w : TicketWords) where
  -- The place after some items is after the last of them.
  moved : (k : Key) (xs : List A)
      → place_of (moved_to w (reached (λ x. After (key x)) (After k) xs)) ≡ reached (λ x. After (key x)) (After k) xs
  unfolding reached place_of
  moved k [] = refl
  moved k (x ∷ xs) = moved (key x) xs

  -- The words that come back stand for the place reached.
  pub back : (xs : List A)
      → ticket_of (ticket_back w (length xs) (reached (λ x. After (key x)) (place_of w) xs))
      ≡ ticket_at (asked (relation_of w.relation) (order_of w.order)) (reached (λ x. After (key x)) (place_of w) xs)
  unfolding reached ticket_of ticket_back
  back [] = refl
  back (x ∷ xs) =
      let same = kept w (reached (λ y. After (key y)) (After (key x)) xs) in
      rw (ne_eqb (suc (length xs)) 0 (λ e. absurd (omega (arith, e))))
      (λ k. ticket_at (asked (relation_of (same.0 k)) (order_of (same.1 k))) (moved (key x) xs k))
