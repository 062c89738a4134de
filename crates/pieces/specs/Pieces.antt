-- Lists of more nodes than one call takes, cut into pieces that calls take: their pairs and pages.
use Rattle.std.specs.Prelude.{ℕ, ◌%◌, ◌-◌, ◌≡◌, ◌↔◌, Bool, true, List, [], ◌∷◌, ◌++◌, length}
use Rattle.laws.specs.Choose.{EveryTwo, In}
use Rattle.nodes.specs.Words.{NODE_WORDS, nodes}
use Rattle.paging.specs.Key.{aboveb}
use Rattle.paging.specs.Page.{Spot, handed, doneb}
use Rattle.tickets.specs.Listing.{Pair, sort_key, listing}
use Rattle.tickets.specs.Ticket.{Asked}

-- The words of all pieces, one piece after the other.
unfoldable pub whole : List (List ℕ) → List ℕ
whole [] = []
whole (w ∷ ws) = w ++ whole ws

-- The words make whole nodes: no cut goes through a node.
abbrev pub WholeNodes : List ℕ → Type 0
WholeNodes w = length w % NODE_WORDS ≡ 0

-- What one ancestor piece makes with each descendant piece in turn, one after the other.
unfoldable pub with_each : (List ℕ → List ℕ → List Pair) → List ℕ → List (List ℕ) → List Pair
with_each make a [] = []
with_each make a (d ∷ ds) = make a d ++ with_each make a ds

-- What each ancestor piece makes with each descendant piece, one after the other.
unfoldable pub each_with_each : (List ℕ → List ℕ → List Pair) → List (List ℕ) → List (List ℕ) → List Pair
each_with_each make [] ds = []
each_with_each make (a ∷ as') ds = with_each make a ds ++ each_with_each make as' ds

-- The full listing of two lists of words.
abbrev pub pairs_of : Asked → List ℕ → List ℕ → List Pair
pairs_of ask a d = listing ask (nodes a) (nodes d)

-- The full listings of each ancestor piece with each descendant piece.
abbrev pub piece_pairs : Asked → List (List ℕ) → List (List ℕ) → List Pair
piece_pairs ask as' ds = each_with_each (pairs_of ask) as' ds

-- A page of two lists of words: the first `n` pairs of their full listing past a place.
abbrev pub page_for : Asked → Spot → ℕ → List ℕ → List ℕ → List Pair
page_for ask place n a d = handed (sort_key ask.order) place n (pairs_of ask a d)

-- The pages of each ancestor piece with each descendant piece, all past one place.
abbrev pub piece_pages : Asked → Spot → ℕ → List (List ℕ) → List (List ℕ) → List Pair
piece_pages ask place n as' ds = each_with_each (page_for ask place n) as' ds

-- `merged` is the pairs merged by key into one list: the same pairs, where the key of each later
-- one stands above that of each earlier one.
abbrev pub MergedFrom : Asked → List Pair → List Pair → Type 0
MergedFrom ask merged pairs =
    EveryTwo (λ p q. aboveb (sort_key ask.order q) (sort_key ask.order p) ≡ true) merged × ((p : Pair) → In p merged ↔ In p pairs)

-- The page is the last: nothing of the full listing is left past it.
abbrev pub is_last : Asked → Spot → ℕ → List ℕ → List ℕ → Bool
is_last ask place n a d = doneb (sort_key ask.order) place n (pairs_of ask a d)

-- Pages of the pieces in turn, all past one place. Each piece gives as many pairs as the pages
-- before it leave room for.
unfoldable pub in_turn : (ℕ → List ℕ → List Pair) → ℕ → List (List ℕ) → List Pair
in_turn page n [] = []
in_turn page n (w ∷ ws) = page n w ++ in_turn page (n - length (page n w)) ws
