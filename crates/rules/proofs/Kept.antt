-- Why it holds: The two rules differ only on nodes of a document that end at one position. Where
-- the stricter rule finds no fault, two such nodes are identical, and no node is inside itself.
-- What would break it: If the library refused what the stricter rule takes, or gave it other pairs
-- or links, that would be caught here.
use mathlib.Core.Path.{◌≡◌, refl, sym, ap, subst, ◌∙◌}
use mathlib.Core.Logic.{◌↔◌, inl, inr, ⊎_elim}
use mathlib.Core.Bool.{true, false, not, ◌&&◌}
use mathlib.Core.List.{List, [], ◌∷◌, map}
use Prim.Native.Nat.{ℕ, suc, ◌≤◌, ◌<◌}
use native.Mathlib.Nat.{eq-or-lt_of_le}
use native.Mathlib.Omega.{arith}
use lib.Dec.{ltb, eqb}
use borrow.Author.Tests.{ltb-true, eqb-true, lt-ltb, eq-eqb}
use Rattle.answers.specs.Answer.{TAKEN}
use Rattle.answers.specs.declared.verdict.Verdict.{Verdict}
use Rattle.laws.specs.Choose.{All, EveryTwo, In}
use Rattle.laws.proofs.Choices.{all_map, all_both, all_in, any_none, every_two_in}
use Rattle.laws.proofs.Tests.{and_read, and_make, or_read, not_none, same_test}
use Rattle.nodes.specs.declared.node.Node.{Node}
use Rattle.nodes.specs.Node.{insideb, apartb, openb, sameb}
use Rattle.nodes.specs.Words.{nodes}
use Rattle.nodes.proofs.NodeLaws.{within, inside_make, apart_read, open_make, same_read}
use Rattle.lists.specs.Check.{word_fault, check_nodes, check_words}
use Rattle.lists.specs.Fault.{levelb, spanb, orderb}
use Rattle.lists.specs.Two.{oddsb, check_two}
use Rattle.lists.proofs.Faults.{skip, span_sound}
use Rattle.lists.proofs.Pairing.{list_passes, joint_passes, two_taken_iff}
use Rattle.lists.proofs.Taken.{goes_on, words_check, words_taken_iff}
use Rattle.contents.specs.declared.entry.Entry.{Entry}
use Rattle.contents.specs.Contents.{contents_of, contents_fault}
use Rattle.books.specs.Book.{nodes_of, check_bodies, check_parts, book_verdict_up_to, book_verdict}
use Rattle.tickets.specs.Listing.{listing}
use Rattle.tickets.specs.Ticket.{Asked}
use Rattle.forest.specs.Links.{links_of}
use Rattle.rules.specs.Rule.{strictb}
use Rattle.rules.specs.Checks.{cross_by, fault_by, check_from_by, check_nodes_by, check_words_by, nested_by, odds_by, check_two_by, check_bodies_by, book_verdict_by}
use Rattle.rules.specs.Forest.{links_by}
use Rattle.rules.specs.Pairs.{listing_by}
use Rattle.rules.proofs.Agreeing.{odds_agree, listing_agrees, nodes_agree, links_agree, check_agrees}
use Rattle.rules.proofs.Own.{own_nodes, own_check, own_odds, own_listing, own_links}

module _ (y x : Node) where
  strict_inside : strictb y x ≡ true → (insideb y x ≡ true) × (y.end < x.end)
  unfolding strictb
  strict_inside h =
      let p = and_read (eqb y.document x.document) h in
      let q = and_read (ltb x.start y.start) p.1 in
      let e : y.end < x.end = ltb-true _ _ q.1 in
      (inside_make y x (eqb-true _ _ p.0) (ltb-true _ _ q.0) (omega arith), e)

  inside_strict : insideb y x ≡ true → y.end < x.end → strictb y x ≡ true
  unfolding strictb
  inside_strict h e = let w = within y x h in and_make (eq-eqb _ _ w.document) (and_make (lt-ltb _ _ w.start) (lt-ltb _ _ e))

-- The rules agree on y and x if y, where it is inside x, ends before x.
ends_agree : (x y : Node) → (insideb y x ≡ true → y.end < x.end) → insideb y x ≡ strictb y x
ends_agree x y f = same_test (λ h. inside_strict y x h (f h)) (λ h. (strict_inside y x h).0)

-- Two nodes don't end at one position of a document, unless they are identical.
abbrev Differ : Node → Node → Type 0
Differ x y = x.document ≡ y.document → x.end ≡ y.end → x ≡ y

turned : (x y : Node) → Differ x y → Differ y x
turned x y f d e = sym (f (sym d) (sym e))

-- So the rules agree on them: a node that is inside another isn't identical to it.
agreed : (x y : Node) → Differ x y → insideb y x ≡ strictb y x
agreed x y f =
    ends_agree x y (λ h. let w = within y x h in
    elim (eq-or-lt_of_le w.end) [ inl e ↦ absurd (omega (arith, w.start, ap (λ (n : Node). n.start) (f (sym w.document) (sym e)))) | inr l ↦ l ])

-- The same of nodes that differ so, whatever their documents.
pub differ_agree : (x y : Node) → (x.end ≡ y.end → x ≡ y) → insideb y x ≡ strictb y x
differ_agree x y f = agreed x y (λ d. f)

-- A node without a fault is strictly inside each earlier node that is open at it, and one with the
-- same end would be open.
fault_differ : (before : List Node) (n : Node) → fault_by strictb before n ≡ TAKEN → All (λ e. Differ e n) before
unfolding fault_by cross_by
fault_differ before n h =
    let p = (skip (levelb n) _ _).0 h in
    let q = (skip (spanb n) _ _).0 p.1 in
    let r = (skip (orderb before n) _ _).0 q.1 in
    let s = (skip (cross_by strictb before n) _ _).0 r.1 in
    let span = (span_sound n).0 q.0 in
    all_map (λ e c d v.
    let i = not_none (strictb n e) (rw (open_make n e d (omega arith)) at c) in
    absurd (omega (arith, (strict_inside n e i).1)))
    before (any_none (λ e. openb n e && not (strictb n e)) before s.0)

from_differ : (before : List Node) (index : ℕ) (ns : List Node) → (check_from_by strictb before index ns).answer ≡ TAKEN
    → EveryTwo Differ ns × All (λ n. All (λ e. Differ e n) before) ns
unfolding check_from_by
from_differ before index [] h = (tt, tt)
from_differ before index (n ∷ later) h =
    let p = (goes_on (fault_by strictb before n) index (check_from_by strictb (n ∷ before) (suc index) later)).0 h in
    let r = from_differ (n ∷ before) (suc index) later p.1 in
    ((all_map (λ m g. g.0) later r.1, r.0), (fault_differ before n p.0, all_map (λ m g. g.1) later r.1))

module _ (ns : List Node) (h : (check_nodes_by strictb ns).answer ≡ TAKEN) where
  nodes_differ : (x y : Node) → In x ns → In y ns → Differ x y
  unfolding check_nodes_by
  nodes_differ x y m n =
      elim (every_two_in Differ ns x y (from_differ [] 0 ns h).0 m n) [
        | inl e ↦ λ d v. e
        | inr k ↦ elim k [ inl f ↦ f | inr f ↦ turned y x f ]
      ]

  list_agree : (x y : Node) → In x ns → In y ns → insideb y x ≡ strictb y x
  list_agree x y m n = agreed x y (nodes_differ x y m n)

  nodes_taken : (check_nodes ns).answer ≡ TAKEN
  nodes_taken = subst (λ (v : Verdict). v.answer ≡ TAKEN) (sym (nodes_agree insideb strictb ns list_agree) ∙ own_nodes ns) h

  nodes_links : links_of ns ≡ links_by strictb ns
  nodes_links = sym (own_links ns) ∙ links_agree insideb strictb ns list_agree

module _ (words : List ℕ) (h : (check_words_by strictb words).answer ≡ TAKEN) where
  words_read : (word_fault words ≡ TAKEN) × ((check_nodes_by strictb (nodes words)).answer ≡ TAKEN)
  unfolding check_words_by
  words_read = (goes_on (word_fault words) 0 (check_nodes_by strictb (nodes words))).0 h

  -- What the stricter rule takes, the library takes.
  pub strict_taken : (check_words words).answer ≡ TAKEN
  strict_taken = (words_check words).1 (words_read.0, nodes_taken (nodes words) words_read.1)

  -- And the links are the same.
  pub same_links : links_of (nodes words) ≡ links_by strictb (nodes words)
  same_links = nodes_links (nodes words) words_read.1

-- The stricter rule takes exactly those lists that the library takes and in which each node inside
-- another ends before it.
pub strict_taken_iff : (words : List ℕ) → ((check_words_by strictb words).answer ≡ TAKEN) ↔ (((check_words words).answer ≡ TAKEN)
    × ((x y : Node) → In x (nodes words) → In y (nodes words) → insideb y x ≡ true → y.end < x.end))
strict_taken_iff words = (
  λ h. (strict_taken words h, λ x y m n i. (strict_inside y x (sym (list_agree (nodes words) (words_read words h).1 x y m n) ∙ i)).1),
  λ h. subst (λ (v : Verdict). v.answer ≡ TAKEN)
      (sym (own_check words) ∙ check_agrees insideb strictb words (λ x y m n. ends_agree x y (h.1 x y m n))) h.0,
)

-- Two nodes that aren't at odds by the stricter rule, and don't end before they start, differ so
-- too.
even_differ : (x y : Node) → x.start ≤ x.end → y.start ≤ y.end → odds_by strictb x y ≡ false → Differ x y
unfolding odds_by nested_by
even_differ x y u v o d e =
    elim (or_read (sameb x y) (not_none _ (rw (eq-eqb _ _ d) at o))) [
      | inl s ↦ same_read x y s
      | inr a ↦ elim (or_read (apartb x y) a) [
        | inl p ↦ absurd (⊎_elim (λ q. omega arith) (λ q. omega arith) (apart_read x y p))
        | inr b ↦ elim (or_read (nested_by strictb x y) b) [
          | inl n ↦ absurd (omega (arith, (strict_inside x y (and_read (strictb x y) n).0).1))
          | inr n ↦ absurd (omega (arith, (strict_inside y x (and_read (strictb y x) n).0).1))
        ]
      ]
    ]

module _ (as' ds : List ℕ) (h : (check_two_by strictb as' ds).answer ≡ TAKEN) where
  two_read : ((check_words_by strictb as').answer ≡ TAKEN) × ((check_words_by strictb ds).answer ≡ TAKEN)
      × All (λ x. All (λ y. odds_by strictb x y ≡ false) (nodes ds)) (nodes as')
  unfolding check_two_by
  two_read =
      let p = (list_passes _ _ _).0 h in
      let q = (list_passes _ _ _).0 p.1 in
      (p.0, q.0, all_map (λ x k. any_none (odds_by strictb x) (nodes ds) k) (nodes as') (any_none _ (nodes as') ((joint_passes _).0 q.1)))

  two_differ : All (λ x. All (λ y. Differ x y × (odds_by strictb x y ≡ false)) (nodes ds)) (nodes as')
  two_differ =
      let s = ((words_taken_iff as').0 (strict_taken as' two_read.0)).2 in
      let t = ((words_taken_iff ds).0 (strict_taken ds two_read.1)).2 in
      all_both (λ x p k. all_both (λ y q o. (even_differ x y p.span q.span o, o)) (nodes ds) t k) (nodes as') s two_read.2

  -- What the stricter rule takes as two lists, the library takes.
  pub strict_two_taken : (check_two as' ds).answer ≡ TAKEN
  strict_two_taken =
      (two_taken_iff as' ds).1 (
        strict_taken as' two_read.0,
        strict_taken ds two_read.1,
        all_map (λ x k. all_map (λ y o. even x y o.0 ∙ o.1) (nodes ds) k) (nodes as') two_differ,
      )
    where
      even : (x y : Node) → Differ x y → oddsb x y ≡ odds_by strictb x y
      even x y f = sym (own_odds x y) ∙ odds_agree insideb strictb x y (agreed y x (turned x y f)) (agreed x y f)

  -- Both rules agree on each node of the one list and each node of the other.
  pub two_agree : (x y : Node) → In x (nodes as') → In y (nodes ds) → insideb y x ≡ strictb y x
  two_agree x y m n = agreed x y (all_in _ (nodes ds) (all_in _ (nodes as') two_differ m) n).0

  -- So every listing is the same.
  pub same_listing : (ask : Asked) → listing ask (nodes as') (nodes ds) ≡ listing_by strictb ask (nodes as') (nodes ds)
  same_listing ask =
      sym (own_listing ask (nodes as') (nodes ds)) ∙ listing_agrees insideb strictb ask (nodes as') (nodes ds) two_agree

module _ (book : List ℕ) where
  -- The stricter rule takes the body of an entry.
  abbrev Body : Entry → Type 0
  Body e = (check_nodes_by strictb (nodes_of book e)).answer ≡ TAKEN

  -- Where it takes the bodies one after the other, it takes each.
  each_body : (list : ℕ) (es : List Entry) → (check_bodies_by strictb list (map (nodes_of book) es)).answer ≡ TAKEN → All Body es
  unfolding check_bodies_by
  each_body list [] h = tt
  each_body list (e ∷ es) h =
      let p = (list_passes list (check_nodes_by strictb (nodes_of book e)) (check_bodies_by strictb (suc list) (map (nodes_of book) es))).0 h in
      (p.0, each_body (suc list) es p.1)

  bodies_taken : (list : ℕ) (es : List Entry) → All Body es → (check_bodies list (map (nodes_of book) es)).answer ≡ TAKEN
  unfolding check_bodies
  bodies_taken list [] h = refl
  bodies_taken list (e ∷ es) h =
      (list_passes list (check_nodes (nodes_of book e)) (check_bodies (suc list) (map (nodes_of book) es))).1
      (nodes_taken (nodes_of book e) h.0, bodies_taken (suc list) es h.1)

  module _ (h : (book_verdict_by strictb book).answer ≡ TAKEN) where
    book_read : (contents_fault book ≡ TAKEN) × All Body (contents_of book)
    unfolding book_verdict_by
    book_read =
        let p = (goes_on (contents_fault book) 0 (check_bodies_by strictb 0 (map (nodes_of book) (contents_of book)))).0 h in
        (p.0, each_body 0 (contents_of book) p.1)

    -- What the stricter rule takes as a book, the library takes.
    pub strict_book_taken : (book_verdict book).answer ≡ TAKEN
    unfolding book_verdict_up_to check_parts
    strict_book_taken =
        (goes_on (contents_fault book) 0 (check_bodies 0 (map (nodes_of book) (contents_of book)))).1
        (book_read.0, bodies_taken 0 (contents_of book) book_read.1)

    -- And the links of each of its lists are the same.
    pub book_links : (e : Entry) → In e (contents_of book) → links_of (nodes_of book e) ≡ links_by strictb (nodes_of book e)
    book_links e m = nodes_links (nodes_of book e) (all_in Body (contents_of book) book_read.1 m)
