-- Words of the contracts of private functions: what a sweep along the lists keeps. No public
-- contract cites this file.
use Rattle.std.specs.Prelude.{ℕ, ◌+◌, ◌*◌, ◌-◌, ◌/◌, ◌%◌, ◌≤◌, ◌<◌, ◌≡◌, ◌⊎◌, Bool, true, false, cond, not, ◌&&◌, List, eqb, ltb, leb, length, get_or, take, drop}
use Rattle.nodes.specs.declared.node.Node.{Node}
use Rattle.answers.specs.Answer.{TAKEN}
use Rattle.laws.specs.Choose.{All, In, first_at}
use Rattle.nodes.specs.Node.{insideb, afterb, openb}
use Rattle.nodes.specs.Words.{NODE_WORDS, node, nodes, count, node_at}
use Rattle.lists.specs.Check.{check_words}
use Rattle.lists.specs.Two.{oddsb, check_two}
use Rattle.lists.specs.Private.Walk.{Stands}
use Rattle.paging.specs.Page.{remains}
use Rattle.paging.specs.Private.Serve.{serve}
use Rattle.tickets.specs.declared.ticket.Key.{Key}
use Rattle.tickets.specs.declared.ticket.Order.{Order}
use Rattle.tickets.specs.declared.ticket.Order.TheVariants.{Ancestor}
use Rattle.tickets.specs.declared.ticket.Place.{Place}
use Rattle.tickets.specs.declared.ticket.Place.TheVariants.{After}
use Rattle.tickets.specs.declared.ticket.Relation.{Relation}
use Rattle.tickets.specs.Leaders.{past_from, served_in}
use Rattle.tickets.specs.Listing.{key_of, sort_key, listing}
use Rattle.tickets.specs.PairWords.{PAIR_WORDS, pair_words}
use Rattle.tickets.specs.Private.Group.{group, matches}
use Rattle.tickets.specs.Ticket.{spot_of, Asked, asked}
use Rattle.pairs.specs.Private.Stack.{firsts, opened, Fits}

-- `at` is a place in a list of whole nodes: a word at which a node starts, or the end of the list.
abbrev pub Placed : List ℕ → ℕ → Type 0
Placed words at = (length words % NODE_WORDS ≡ 0) × (at % NODE_WORDS ≡ 0) × (at ≤ length words)

-- The nodes from the place `from` up to the place `to`.
abbrev pub stretch : List ℕ → ℕ → ℕ → List Node
stretch words from to = take (to / NODE_WORDS - from / NODE_WORDS) (drop (from / NODE_WORDS) (nodes words))

-- The node starts at `start` or later.
abbrev pub starts_from : ℕ → Node → Bool
starts_from start n = leb start n.start

-- The nodes from the first one on that starts at `start` or later.
unfoldable pub from_start : ℕ → List Node → List Node
from_start start ns = drop (first_at (starts_from start) ns) ns

-- The output, the count and whether all found room, once a leader's pairs with some followers are
-- served. The count starts at `written`.
abbrev pub served_group : Order → List ℕ → ℕ → Node → List Node → List ℕ × ℕ × Bool
served_group order out written leader ns = serve pair_words PAIR_WORDS out written (group order leader ns)

-- The same, once what remains of the whole listing is served from the beginning.
abbrev pub served_all : Asked → Place → List ℕ → List ℕ → List ℕ → List ℕ × ℕ × Bool
served_all ask place out ancestors descendants =
    serve pair_words PAIR_WORDS out 0 (remains (sort_key ask.order) (spot_of place) (listing ask (nodes ancestors) (nodes descendants)))

-- A sweep for the place begins with the leader at the index `first`. Of that leader's group it
-- hands out only followers that start at `past` or later.
abbrev pub Started : Place → List ℕ → ℕ → ℕ → Type 0
Started place leaders first past = (first ≡ served_in place (nodes leaders)) × (past ≡ past_from place (node_at leaders first))

-- `n` comes from `d` on: it is `d`, or stands after it.
abbrev pub From : Node → Node → Type 0
From d n = (n ≡ d) ⊎ (afterb n d ≡ true)

-- The chain of ancestors `s`, the innermost first, stands for all the ancestors in `before`, at
-- every node from `d` on.
pub record Open (d : Node) (before s : List Node) : Type 0 where
  pub stands : Stands (From d) before s
  pub among : All (λ e. In e before) s
  pub beyond : All (λ e. afterb d e ≡ true) before

-- The ancestors up to the place `passed` are passed. Those that stand for them lie in the words of
-- the stack that are in use.
pub record Opening (ancestors : List ℕ) (d : Node) (used passed : ℕ) (stack : List ℕ) : Type 0 where
  pub used_in : Fits used
  pub passed_in : Placed ancestors passed
  pub held : Open d (firsts (passed / NODE_WORDS) (nodes ancestors)) (opened used stack)

-- From the index `from` on the descendants stand after the ancestor `a`, and none is at odds with
-- it.
pub record Running (descendants : List ℕ) (a : Node) (from : ℕ) : Type 0 where
  pub accepted : (check_words descendants).answer ≡ TAKEN
  pub whole : length descendants % NODE_WORDS ≡ 0
  pub even : All (λ d. oddsb a d ≡ false) (nodes descendants)
  pub from_in : from ≤ count descendants
  pub after : All (λ d. afterb d a ≡ true) (drop from (nodes descendants))

-- There is a descendant at the index `k`, and the ancestor is open at it.
unfoldable pub runningb : List ℕ → Node → ℕ → Bool
runningb descendants a k = ltb k (count descendants) && openb (node_at descendants k) a

-- The index of the first descendant, from the index `from` on, at which the ancestor isn't open.
abbrev pub run_end : List ℕ → Node → ℕ → ℕ
run_end descendants a from = first_at (λ d. not (openb d a)) (drop from (nodes descendants)) + from

-- The ancestor is open at every descendant from the place `from` up to the later place `to`. So a
-- search for the end of its run finds the same from either place.
abbrev pub Further : List ℕ → Node → ℕ → ℕ → Type 0
Further descendants a from to =
    (to % NODE_WORDS ≡ 0) × (from ≤ to) × Running descendants a (to / NODE_WORDS)
    × (run_end descendants a (to / NODE_WORDS) ≡ run_end descendants a (from / NODE_WORDS))

-- The place `to` comes after the place `i`, and every node between the two lies inside the node at
-- `i`.
pub record Jumped (words : List ℕ) (i to : ℕ) : Type 0 where
  pub placed : Placed words to
  pub later : i < to
  pub inside : (j : ℕ) → i / NODE_WORDS < j → j < to / NODE_WORDS → insideb (node_at words j) (node_at words (i / NODE_WORDS)) ≡ true

-- The two lists are accepted together, and the run of the ancestor at the word `i` goes from the
-- word `from` to the word `to`.
abbrev pub RunFrom : List ℕ → ℕ → List ℕ → ℕ → ℕ → Type 0
RunFrom ancestors i descendants from to =
    ((check_two ancestors descendants).answer ≡ TAKEN) × Placed ancestors i × (i < length ancestors) × Placed descendants from × Placed descendants to
    × Running descendants (node_at ancestors (i / NODE_WORDS)) (from / NODE_WORDS)
    × (to / NODE_WORDS ≡ run_end descendants (node_at ancestors (i / NODE_WORDS)) (from / NODE_WORDS))

-- The descendants, from the word `from` on, that have the relation with the ancestor at the word
-- `i`.
abbrev pub matches_from : Relation → List ℕ → ℕ → List ℕ → ℕ → List Node
matches_from relation ancestors i descendants from =
    matches (asked relation Ancestor) (node_at ancestors (i / NODE_WORDS)) (drop (from / NODE_WORDS) (nodes descendants))

-- The key of the pair at an index, where the nodes stand in twos.
unfoldable pub key_in : Order → List Node → ℕ → Key
key_in order ns index = key_of order (record { ancestor = get_or ns (2 * index) (node 0 0 0 0); descendant = get_or ns (2 * index + 1) (node 0 0 0 0) })

-- The place after the first `count` pairs are written.
unfoldable pub place_reached : Order → Place → List Node → ℕ → Place
place_reached order place ns count = cond (eqb count 0) place (After (key_in order ns (count - 1)))
