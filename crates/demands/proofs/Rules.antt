-- Lists and books made for the stricter rule of what is inside, by which a node ends before the
-- node around it ends (docs/SCOPE.md, "Order and size"). One that drew another answer, or got other
-- pairs or links, would be caught here. `check_two_by strictb` and the like are the library's
-- checks, listing and links with that rule for its own.
use mathlib.Core.Path.{◌≡◌}
use mathlib.Core.Logic.{◌↔◌}
use mathlib.Core.Bool.{true}
use mathlib.Core.List.{List}
use Prim.Native.Nat.{ℕ, ◌<◌}
use Rattle.answers.specs.Answer.{TAKEN}
use Rattle.laws.specs.Choose.{In}
use Rattle.nodes.specs.declared.node.Node.{Node}
use Rattle.nodes.specs.Node.{insideb}
use Rattle.nodes.specs.Words.{nodes}
use Rattle.lists.specs.Check.{check_words}
use Rattle.lists.specs.Two.{check_two}
use Rattle.numbers.specs.Little.{numbers}
use Rattle.contents.specs.declared.entry.Entry.{Entry}
use Rattle.contents.specs.Contents.{contents_of}
use Rattle.books.specs.Book.{body_of, nodes_of, book_verdict}
use Rattle.tickets.specs.Listing.{listing}
use Rattle.tickets.specs.Ticket.{Asked}
use Rattle.forest.specs.Links.{links_of}
use Rattle.rules.specs.Rule.{strictb}
use Rattle.rules.specs.Checks.{check_words_by, check_two_by, book_verdict_by}
use Rattle.rules.specs.Forest.{links_by}
use Rattle.rules.specs.Pairs.{listing_by}
use Rattle.rules.proofs.Own.{own_check, own_check_two, own_book, own_listing, own_links}
use Rattle.rules.proofs.Kept.{strict_taken, strict_two_taken, strict_book_taken, same_listing, same_links, book_links, two_agree, strict_taken_iff}

-- Where the rule is the library's own:
-- the check of a list over any rule is the library's,
pub own_rule_own_check : (words : List ℕ) → check_words_by insideb words ≡ check_words words
own_rule_own_check words = own_check words

-- so is the check of two lists,
pub own_rule_own_check_of_two : (ancestors descendants : List ℕ) → check_two_by insideb ancestors descendants ≡ check_two ancestors descendants
own_rule_own_check_of_two ancestors descendants = own_check_two ancestors descendants

-- so is the check of a book,
pub own_rule_own_book : (book : List ℕ) → book_verdict_by insideb book ≡ book_verdict book
own_rule_own_book book = own_book book

-- so is the listing,
pub own_rule_own_listing : (ask : Asked) (ancestors descendants : List Node) → listing_by insideb ask ancestors descendants ≡ listing ask ancestors descendants
own_rule_own_listing ask ancestors descendants = own_listing ask ancestors descendants

-- and so are the links.
pub own_rule_own_links : (list : List Node) → links_by insideb list ≡ links_of list
own_rule_own_links list = own_links list

-- Of a list that the stricter rule accepts:
module _ (words : List ℕ) (accepted : (check_words_by strictb words).answer ≡ TAKEN) where
  -- It is accepted,
  pub strict_list_is_accepted : (check_words words).answer ≡ TAKEN
  strict_list_is_accepted = strict_taken words accepted

  -- and has the same links by both rules.
  pub strict_list_has_its_links : links_of (nodes words) ≡ links_by strictb (nodes words)
  strict_list_has_its_links = same_links words accepted

-- Of two lists that the stricter rule accepts together:
module _ (ancestors descendants : List ℕ) (accepted : (check_two_by strictb ancestors descendants).answer ≡ TAKEN) where
  -- They are accepted together,
  pub strict_lists_are_accepted : (check_two ancestors descendants).answer ≡ TAKEN
  strict_lists_are_accepted = strict_two_taken ancestors descendants accepted

  -- both rules say the same of whether a descendant is inside an ancestor,
  pub rules_agree : (x y : Node) → In x (nodes ancestors) → In y (nodes descendants) → insideb y x ≡ strictb y x
  rules_agree x y i j = two_agree ancestors descendants accepted x y i j

  -- and so they have the same pairs by both rules, whatever is asked for.
  pub strict_lists_have_their_pairs : (ask : Asked) → listing ask (nodes ancestors) (nodes descendants) ≡ listing_by strictb ask (nodes ancestors) (nodes descendants)
  strict_lists_have_their_pairs ask = same_listing ancestors descendants accepted ask

-- Of a book that the stricter rule accepts:
module _ (book : List ℕ) (accepted : (book_verdict_by strictb book).answer ≡ TAKEN) where
  -- It is accepted,
  pub strict_book_is_accepted : (book_verdict book).answer ≡ TAKEN
  strict_book_is_accepted = strict_book_taken book accepted

  -- and each of its lists has the same links by both rules.
  pub strict_book_has_its_links : (e : Entry) → In e (contents_of book) → links_of (nodes_of book e) ≡ links_by strictb (nodes_of book e)
  strict_book_has_its_links e i = book_links book accepted e i

-- Any two lists of a book that the stricter rule accepts together have the same pairs by both
-- rules.
pub strict_book_has_its_pairs : (book : List ℕ) (e f : Entry) → (check_two_by strictb (numbers (body_of book e)) (numbers (body_of book f))).answer ≡ TAKEN
    → (ask : Asked) → listing ask (nodes_of book e) (nodes_of book f) ≡ listing_by strictb ask (nodes_of book e) (nodes_of book f)
unfolding nodes_of
strict_book_has_its_pairs book e f accepted ask = same_listing (numbers (body_of book e)) (numbers (body_of book f)) accepted ask

-- The stricter rule accepts exactly the accepted lists in which each node that is inside another
-- ends before that one ends.
pub accepted_by_the_stricter_rule : (words : List ℕ) → ((check_words_by strictb words).answer ≡ TAKEN)
    ↔ (((check_words words).answer ≡ TAKEN) × ((x y : Node) → In x (nodes words) → In y (nodes words) → insideb y x ≡ true → y.end < x.end))
accepted_by_the_stricter_rule words = strict_taken_iff words
