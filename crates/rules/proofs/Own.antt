-- Why it holds: Each definition over any rule follows the library's own, with the rule in the place
-- of `insideb`. So with `insideb` for the rule the two are the same.
-- What would break it: A test that is left out over any rule, or tried out of its turn, would be
-- caught here.
use mathlib.Core.Path.{◌≡◌, refl, ap}
use mathlib.Core.Bool.{cond}
use mathlib.Core.List.{List, [], ◌∷◌, map}
use Prim.Native.Nat.{ℕ, suc}
use lib.Dec.{eqb}
use Rattle.answers.specs.Answer.{TAKEN}
use Rattle.answers.specs.Verdict.{ANCESTORS, verdict}
use Rattle.laws.specs.Choose.{keep}
use Rattle.nodes.specs.declared.node.Node.{Node}
use Rattle.nodes.specs.Node.{insideb, directlyb}
use Rattle.nodes.specs.Words.{nodes}
use Rattle.lists.specs.Check.{check_from, check_nodes, word_fault, check_words}
use Rattle.lists.specs.Fault.{crossb, depthb, fault}
use Rattle.lists.specs.Two.{nestedb, agreeb, oddsb, jointb, check_two}
use Rattle.contents.specs.Contents.{contents_of}
use Rattle.books.specs.Book.{nodes_of, check_bodies, check_parts, book_verdict_up_to, book_verdict}
use Rattle.tickets.specs.declared.ticket.Relation.{Relation}
use Rattle.tickets.specs.declared.ticket.Relation.TheVariants.{Inside, Directly}
use Rattle.tickets.specs.Listing.{Pair, relatedb, leaders, followers, every_pair, listing}
use Rattle.tickets.specs.Ticket.{Asked}
use Rattle.forest.specs.Links.{innermostb, parent_of, child_of, siblingb, next_of, link_of, links_of}
use Rattle.rules.specs.Checks.{cross_by, depth_by, fault_by, check_from_by, check_nodes_by, check_words_by, nested_by, odds_by, check_two_by, check_bodies_by, book_verdict_by}
use Rattle.rules.specs.Forest.{innermost_by, parent_by, child_by, next_by, links_by}
use Rattle.rules.specs.Pairs.{related_by, listing_by}

own_from : (before : List Node) (index : ℕ) (ns : List Node) → check_from_by insideb before index ns ≡ check_from before index ns
unfolding check_from_by check_from fault_by fault cross_by crossb depth_by depthb
own_from before index [] = refl
own_from before index (n ∷ later) =
    ap (λ v. cond (eqb (fault before n) TAKEN) v (verdict (fault before n) ANCESTORS index)) (own_from (n ∷ before) (suc index) later)

pub own_nodes : (ns : List Node) → check_nodes_by insideb ns ≡ check_nodes ns
unfolding check_nodes_by check_nodes
own_nodes ns = own_from [] 0 ns

pub own_check : (words : List ℕ) → check_words_by insideb words ≡ check_words words
unfolding check_words_by check_words
own_check words = ap (λ v. cond (eqb (word_fault words) TAKEN) v (verdict (word_fault words) ANCESTORS 0)) (own_nodes (nodes words))

pub own_odds : (x y : Node) → odds_by insideb x y ≡ oddsb x y
unfolding odds_by oddsb agreeb nested_by nestedb
own_odds x y = refl

pub own_check_two : (ancestors descendants : List ℕ) → check_two_by insideb ancestors descendants ≡ check_two ancestors descendants
unfolding check_two_by check_two jointb odds_by oddsb agreeb nested_by nestedb
own_check_two ancestors descendants = rw (own_check ancestors, own_check descendants) refl

own_bodies : (list : ℕ) (bodies : List (List Node)) → check_bodies_by insideb list bodies ≡ check_bodies list bodies
unfolding check_bodies_by check_bodies
own_bodies list [] = refl
own_bodies list (ns ∷ later) = rw (own_nodes ns, own_bodies (suc list) later) refl

pub own_book : (book : List ℕ) → book_verdict_by insideb book ≡ book_verdict book
unfolding book_verdict_by book_verdict_up_to check_parts
own_book book = rw (own_bodies 0 (map (nodes_of book) (contents_of book))) refl

own_related : (relation : Relation) (p : Pair) → related_by insideb relation p ≡ relatedb relation p
unfolding related_by relatedb directlyb
own_related Inside p = refl
own_related Directly p = refl

pub own_listing : (ask : Asked) (xs ys : List Node) → listing_by insideb ask xs ys ≡ listing ask xs ys
unfolding listing_by listing
own_listing ask xs ys =
    λ i. keep (λ p. own_related ask.relation p i) (every_pair ask.order (leaders ask.order xs ys) (followers ask.order xs ys))

pub own_links : (ns : List Node) → links_by insideb ns ≡ links_of ns
unfolding links_by links_of link_of next_by next_of siblingb child_by child_of parent_by parent_of innermost_by innermostb
own_links ns = refl
