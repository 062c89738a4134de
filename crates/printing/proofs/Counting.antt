-- Why it holds: A page counts the pairs that it hands out and leaves the others. So the pairs
-- counted and those that remain are always all of them. A page that isn't done leaves fewer than
-- there were.
-- What would break it: A page counted twice, or a page with room that handed out nothing, would be
-- caught here.
use mathlib.Core.Path.{◌≡◌, refl, sym, ap, ◌∙◌}
use mathlib.Core.Bool.{true, false}
use mathlib.Core.List.{List}
use Prim.Native.Nat.{ℕ, ◌+◌, ◌*◌, ◌≤◌, ◌<◌}
use native.Mathlib.Omega.{arith}
use lib.ListN.{length}
use Rattle.answers.specs.Answer.{TAKEN}
use Rattle.nodes.specs.Words.{MOST_NODES, nodes}
use Rattle.laws.proofs.Choices.{keep_all, all_of}
use Rattle.lists.specs.Two.{check_two}
use Rattle.paging.specs.Page.{fresh, pastb, remains}
use Rattle.tickets.specs.declared.ticket.Order.TheVariants.{Descendant}
use Rattle.tickets.specs.declared.ticket.Relation.TheVariants.{Inside}
use Rattle.tickets.specs.declared.ticket.Ticket.{Ticket}
use Rattle.tickets.specs.Listing.{Pair, sort_key, listing}
use Rattle.tickets.specs.PairWords.{room}
use Rattle.tickets.specs.Ticket.{fresh_ticket, asked}
use Rattle.pairs.specs.declared.page.Page.{Page}
use Rattle.pairs.specs.Calls.{Call}
use Rattle.pairs.specs.Page.{remaining, ticket_after, page_of}
use Rattle.pairs.proofs.Following.{fills_room}
use Rattle.pairs.proofs.Unaltered.{whole_few, left_after, none_left}

module _ (ancestors descendants : List ℕ) where
  -- The pairs that are to be printed.
  abbrev pub whole : List Pair
  whole = listing (asked Inside Descendant) (nodes ancestors) (nodes descendants)

  -- How many pairs remain for a ticket.
  abbrev pub left : Ticket → ℕ
  left t = length (remaining t ancestors descendants)

  -- A ticket of this listing, where `count` pairs were counted before.
  pub record Counted (t : Ticket) (count : ℕ) : Type 0 where
    pub relation : t.relation ≡ Inside
    pub order : t.order ≡ Descendant
    pub together : count + left t ≡ length whole

  pub counted_none : (t : Ticket) → t ≡ fresh_ticket (asked Inside Descendant) → Counted t 0
  unfolding remains pastb
  counted_none t e =
      let none : left (fresh_ticket (asked Inside Descendant)) ≡ length whole =
      ap length (keep_all (λ p. pastb fresh (sort_key Descendant p)) whole (all_of (λ p. refl) whole)) in
      rw e (record { relation = refl; order = refl; together = omega (arith, none) })

  -- A page of accepted lists.
  module _ (t : Ticket) (count : ℕ) (h : Counted t count) (out : List ℕ) (r : Page) (e : r ≡ page_of ancestors descendants t out)
      (a : (check_two ancestors descendants).answer ≡ TAKEN) where
    abbrev c : Call
    c = record { ancestors = ancestors; descendants = descendants; out = out }

    -- What remained is what the page counts and what remains for the ticket that it returns;
    pub counted_page : left t ≡ r.count + left r.ticket
    counted_page = left_after t c a ∙ ap (λ p. p.count + left p.ticket) (sym e)

    pub counted_more : Counted r.ticket (count + r.count)
    unfolding page_of ticket_after
    counted_more = record {
      relation = ap (λ p. p.ticket.relation) e ∙ h.relation;
      order = ap (λ p. p.ticket.order) e ∙ h.order;
      together = omega (arith, counted_page, h.together);
    }

    -- Nothing remains once the page is done,
    pub counted_all : r.done ≡ true → count + r.count ≡ length whole
    counted_all d =
        let none : left r.ticket ≡ 0 = ap (λ p. left p.ticket) e ∙ none_left t c a (sym (ap (λ p. p.done) e) ∙ d) in
        omega (arith, none, counted_more.together)

    -- And less than before remains if it isn't.
    pub counted_less : r.done ≡ false → 0 < room out → left r.ticket < left t
    counted_less d l =
        let full : r.count ≡ room out = ap (λ p. p.count) e ∙ fills_room t c a (sym (ap (λ p. p.done) e) ∙ d) in
        omega (arith, full, counted_page)

    pub counted_few : count + r.count ≤ MOST_NODES * MOST_NODES
    counted_few = omega (arith, counted_more.together, whole_few (asked Inside Descendant) c a)
