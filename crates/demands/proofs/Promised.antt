-- What else is promised: of one list, of the forest, of a book's answers, of the printing program
-- and of the C interface. Each clause is a comment in words, and below it the theorem that
-- says it. A change that broke one would be caught here.
use mathlib.Core.Path.{◌≡◌}
use mathlib.Core.Logic.{◌↔◌, ◌⊎◌}
use mathlib.Core.Bool.{true, false, cond, ◌&&◌}
use mathlib.Core.List.{List, [], ◌∷◌, ◌++◌}
use Prim.Native.Nat.{ℕ, ◌<◌}
use lib.Dec.{ltb, eqb}
use lib.ListN.{length, take, drop}
use Rattle.answers.specs.Answer.{TAKEN, RAGGED, LONG}
use Rattle.answers.specs.Output.{words_in}
use Rattle.answers.specs.Verdict.{DESCENDANTS}
use Rattle.laws.specs.Choose.{All, In, keep}
use Rattle.laws.proofs.Tests.{never}
use Rattle.nodes.specs.declared.node.Node.{Node}
use Rattle.nodes.specs.Node.{insideb, MOST_LEVELS}
use Rattle.nodes.specs.Words.{nodes}
use Rattle.lists.specs.Check.{check_words}
use Rattle.lists.specs.Refusal.{Faulty}
use Rattle.lists.proofs.Containers.{containers, text_contains_nothing}
use Rattle.lists.proofs.Pairing.{two_taken_iff}
use Rattle.lists.proofs.Refused.{list_refused_iff}
use Rattle.lists.proofs.Taken.{words_check}
use Rattle.repairs.specs.Part.{faulty_part}
use Rattle.tickets.specs.declared.ticket.Order.TheVariants.{Descendant}
use Rattle.tickets.specs.declared.ticket.Relation.TheVariants.{Inside}
use Rattle.tickets.specs.declared.ticket.Ticket.{Ticket}
use Rattle.tickets.specs.Listing.{Pair}
use Rattle.tickets.specs.Ticket.{Asked, asked, fresh_ticket}
use Rattle.tickets.proofs.Listed.{related_inside}
use Rattle.pairs.specs.Calls.{Call, AcceptedCall, SameLists, full_listing, answer, ticket_through, shown_through}
use Rattle.forest.specs.Follow.{followed}
use Rattle.forest.specs.Links.{NONE, node_in, indices, parent_of, child_of, next_of, siblingb}
use Rattle.forest.proofs.Families.{parent_contains, parent_innermost, parentless, parent_earlier, child_first, childless, children_followed, siblings_followed}
use Rattle.books.specs.Book.{book_verdict, list_at}
use Rattle.books.proofs.Answers.{book_never_ragged, book_never_long}
use Rattle.writing.specs.WriteCall.{check_wanted}
use Rattle.writing.proofs.Checking.{wanted_never_long}
use Rattle.lines.specs.Line.{pair_line, total_line}
use Rattle.printing.specs.Print.{printed_answer, printed}
use Rattle.printing.proofs.Printed.{pages_printed}
use Rattle.ticket_words.specs.declared.words.TicketWords.{TicketWords}
use Rattle.ticket_words.specs.Following.{answer_to_c, words_through, read_through}
use Rattle.ticket_words.specs.Page.{shown_page}
use Rattle.ticket_words.specs.Words.{ticket_of}
use Rattle.ticket_words.proofs.Followed.{same_ticket, same_pairs, same_answer, refusal_keeps_words}
use Rattle.belfrychest.specs.Shown.{shown_part}
use Rattle.belfrychest.proofs.Faulty.{faulty_words}
use Rattle.demands.proofs.Demands.{listed_exactly_when}

-- One list.
module _ (words : List ℕ) where
  -- It is refused exactly when it has a fault of the table.
  pub list_refused_exactly_when : ((check_words words).answer ≡ TAKEN → ⊥) ↔ Faulty words
  list_refused_exactly_when = list_refused_iff words

  module _ (accepted : (check_words words).answer ≡ TAKEN) where
    -- Of an accepted list at most 63 nodes contain any one node.
    pub few_contain_a_node : All (λ n. length (keep (insideb n) (nodes words)) < MOST_LEVELS) (nodes words)
    few_contain_a_node = containers (nodes words) ((words_check words).0 accepted).1

    -- None of its nodes is inside a text, which is a node that ends where it starts.
    pub nothing_in_a_text : (text n : Node) → In n (nodes words) → text.end ≡ text.start → insideb n text ≡ false
    nothing_in_a_text text n m t = text_contains_nothing words accepted text n m t

-- No text is the ancestor of a listed pair.
pub no_text_is_an_ancestor : (ask : Asked) (c : Call) → AcceptedCall c → (p : Pair) → In p (full_listing ask c)
    → p.ancestor.end ≡ p.ancestor.start → ⊥
no_text_is_an_ancestor ask c a p m t =
    let l = (listed_exactly_when ask c p).0 m in
    never (related_inside ask.relation p l.2)
    (nothing_in_a_text c.descendants ((two_taken_iff c.ancestors c.descendants).0 a).1 p.ancestor p.descendant l.1 t)

-- The forest. Of an accepted list and the index i of one of its nodes:
module _ (list : List ℕ) (taken : (check_words list).answer ≡ TAKEN) (i : ℕ) (there : i < length (nodes list)) where
  abbrev ns : List Node
  ns = nodes list

  -- where it has a parent, the parent contains it, comes before it, and is inside every other node
  -- that contains it;
  pub parent_is_innermost : (parent_of ns i ≡ NONE → ⊥) → (insideb (node_in ns i) (node_in ns (parent_of ns i)) ≡ true)
      × (parent_of ns i < i)
      × ((j : ℕ) → j < length ns → insideb (node_in ns i) (node_in ns j) ≡ true
      → (j ≡ parent_of ns i) ⊎ (insideb (node_in ns (parent_of ns i)) (node_in ns j) ≡ true))
  parent_is_innermost h = (parent_contains list taken i there h, parent_earlier list taken i there h, parent_innermost list taken i there h)

  -- where it has none, no node contains it;
  pub parentless_is_outermost : parent_of ns i ≡ NONE → (j : ℕ) → j < length ns → insideb (node_in ns i) (node_in ns j) ≡ false
  parentless_is_outermost = parentless list taken i there

  -- where it has a first child, that is the first node whose parent it is;
  pub child_is_first : (child_of ns i ≡ NONE → ⊥)
      → (child_of ns i < length ns) × (parent_of ns (child_of ns i) ≡ i) × ((j : ℕ) → j < child_of ns i → parent_of ns j ≡ i → ⊥)
  child_is_first = child_first list taken i

  -- where it has none, it is nobody's parent;
  pub childless_has_none : child_of ns i ≡ NONE → (j : ℕ) → j < length ns → parent_of ns j ≡ i → ⊥
  childless_has_none = childless list taken i

  -- from its first child on, following `next` leads through exactly its children, in their order;
  pub next_leads_through_children : followed ns (length ns) (child_of ns i) ≡ keep (λ j. eqb (parent_of ns j) i) (indices ns)
  next_leads_through_children = children_followed list taken i there

  -- and from its own next on, through exactly the later nodes with its parent in its document.
  pub next_leads_through_siblings : followed ns (length ns) (next_of ns i) ≡ keep (λ j. ltb i j && siblingb ns i j) (indices ns)
  next_leads_through_siblings = siblings_followed list taken i

-- A book is never refused as RAGGED or LONG,
pub book_is_never_ragged_or_long : (book : List ℕ) → ((book_verdict book).answer ≡ RAGGED → ⊥) × ((book_verdict book).answer ≡ LONG → ⊥)
book_is_never_ragged_or_long book = (book_never_ragged book, book_never_long book)

-- and lists to be written never as LONG.
pub writing_is_never_long : (entries list : List ℕ) → (check_wanted entries list).answer ≡ LONG → ⊥
writing_is_never_long entries list = wanted_never_long entries list

-- The printing program. Pages of a book's first two lists, from a fresh ticket until one is done,
-- make what is to be printed: their lines, and then the number of pairs.
module _ (book : List ℕ) (good : printed_answer book ≡ TAKEN) (cs : List Call) (c : Call) (one : c.ancestors ≡ list_at book 0)
    (two : c.descendants ≡ list_at book 1) (same : All (λ k. SameLists k c) cs) where
  abbrev first : Ticket
  first = fresh_ticket (asked Inside Descendant)

  pub pages_are_what_is_printed : (answer (ticket_through first cs) c).done ≡ true
      → let shown = shown_through first (cs ++ c ∷ []) in words_in pair_line shown ++ total_line (length shown) ≡ printed book
  pages_are_what_is_printed done = pages_printed book good cs c one two same done

-- The C interface. A listing followed from C, from any six words and through any calls,
module _ (w : TicketWords) (cs : List Call) where
  -- ends with words that stand for the ticket with which the library's own following ends,
  pub c_keeps_the_ticket : ticket_of (words_through w cs) ≡ ticket_through (ticket_of w) cs
  c_keeps_the_ticket = same_ticket w cs

  -- reads the pairs that the library's own following shows,
  pub c_reads_the_same_pairs : read_through w cs ≡ shown_through (ticket_of w) cs
  c_reads_the_same_pairs = same_pairs w cs

  -- and is answered as the library's next call answers.
  pub c_is_answered_alike : (c : Call) → answer_to_c (words_through w cs) c ≡ shown_page (words_through w cs) (answer (ticket_through (ticket_of w) cs) c)
  c_is_answered_alike = same_answer w cs

-- A refusal returns all six words as they were,
pub c_refusal_keeps_words : (w : TicketWords) (c : Call) → ((answer_to_c w c).verdict.answer ≡ TAKEN → ⊥) → (answer_to_c w c).ticket ≡ w
c_refusal_keeps_words = refusal_keeps_words

-- and the part at the faulty node lies where the answer says.
pub c_finds_the_faulty_part : (ancestors descendants : List ℕ) → let p = shown_part ancestors descendants in
    take p.words (drop p.from (cond (eqb p.verdict.list DESCENDANTS) descendants ancestors)) ≡ faulty_part ancestors descendants
c_finds_the_faulty_part = faulty_words
