-- Why it holds: Of two rows of a numbered document the later starts after the earlier one's end or
-- lies inside it. Each level above a row has an element around it. So where the marks stand decides
-- what contains what.
-- What would break it: A row that ended at another's close, or a level left out, would be caught
-- here.
use mathlib.Core.Path.{◌≡◌, refl, sym, subst, ap, ◌∙◌}
use mathlib.Core.Logic.{◌↔◌, ◌⊎◌, inl, inr, ⊎_elim}
use mathlib.Core.Bool.{true}
use mathlib.Core.List.Memᴰ
use mathlib.Core.List.{List, [], ◌∷◌}
use Prim.Native.Nat.{ℕ, ◌+◌, ◌-◌, ◌≤◌, ◌<◌}
use native.Mathlib.Nat.{le_of_lt}
use native.Mathlib.Omega.{arith}
use lib.Dec.{leb, eqb}
use borrow.Author.Tests.{leb-true, leb-false, eqb-true, eqb-false}
use Rattle.answers.specs.Answer.{TAKEN}
use Rattle.laws.specs.Choose.{All, EveryTwo, In}
use Rattle.nodes.specs.Node.{insideb, directlyb}
use Rattle.nodes.specs.Words.{node}
use Rattle.laws.proofs.Choices.{all_in, every_two_in}
use Rattle.nodes.proofs.NodeLaws.{within, inside_make, directly_inside, directly_make}
use Rattle.laws.proofs.Tests.{either}
use Rattle.marks.specs.declared.row.Row.{Row}
use Rattle.marks.specs.Mark.{CLOSE, TEXT, open_after, fault_from, check_marks}
use Rattle.marks.specs.Table.{row, close_at, end_of, rows_from, table_of}
use Rattle.marks.proofs.MarkLaws.{closes, is_text, opens, kind_of, open_closes, open_text, open_opens, close_closes, close_text, close_opens, rows_closes, rows_node, end_opens, InPlace, fault_read, check_read, closes_some}
use Rattle.marks.proofs.Numbered.{close_from, Made, all_made, Settled, all_settled}

-- A row of a level that contains another row.
pub record Around (rs : List Row) (level : ℕ) (y : Row) : Type 0 where
  pub outer : Row
  pub stands : In outer rs
  pub level_of : outer.node.level ≡ level
  pub contains : insideb y.node outer.node ≡ true

further : (r y : Row) (rs : List Row) (level : ℕ) → Around rs level y → Around (r ∷ rs) level y
further r y rs level a = record { outer = a.outer; stands = Memᴰ.tail a.stands; level_of = a.level_of; contains = a.contains }

-- A close comes after the opening or the text from which it is looked for.
close_beyond : (inner position mark : ℕ) (marks : List ℕ) → (mark ≡ CLOSE → ⊥) → position < close_at inner position (mark ∷ marks)
close_beyond inner position mark marks h =
    elim (kind_of mark) [
      | closes c ↦ absurd (h c)
      | is_text t ↦ rw (close_text inner position mark marks t) (omega (arith, close_from inner (position + 1) marks))
      | opens c t ↦ rw (close_opens inner position mark marks c t) (omega (arith, close_from (inner + 1) (position + 1) marks))
    ]

-- An element of a level is open at a position and still open at a row.
abbrev Open : ℕ → ℕ → ℕ → List ℕ → Row → Type 0
Open level depth position marks y = (level ≤ depth) × (y.node.start < close_at (depth - level) position marks)

-- The same, seen from before a mark.
module _ (level depth position mark : ℕ) (marks : List ℕ) (y : Row) where
  seen_from_close : mark ≡ CLOSE → 0 < depth → Open level (depth - 1) (position + 1) marks y → Open level depth position (mark ∷ marks) y
  seen_from_close h d o =
      let e : close_at (depth - level) position (mark ∷ marks) ≡ close_at (depth - 1 - level) (position + 1) marks =
      ap (λ k. close_at k position (mark ∷ marks)) (omega (arith, o.0)) ∙ close_closes (depth - 1 - level) position mark marks h in
      (omega (arith, o.0), rw e o.1)

  seen_from_text : mark ≡ TEXT → Open level depth (position + 1) marks y → Open level depth position (mark ∷ marks) y
  seen_from_text h o = (o.0, rw (close_text (depth - level) position mark marks h) o.1)

  seen_from_opening : (mark ≡ CLOSE → ⊥) → (mark ≡ TEXT → ⊥) → level ≤ depth → Open level (depth + 1) (position + 1) marks y
      → Open level depth position (mark ∷ marks) y
  seen_from_opening h k l o =
      let e : close_at (depth - level) position (mark ∷ marks) ≡ close_at (depth + 1 - level) (position + 1) marks =
      close_opens (depth - level) position mark marks h k ∙ ap (λ n. close_at n (position + 1) marks) (omega arith) in
      (l, rw e o.1)

-- An element that is still open at a later row contains it.
opened_contains : (x y : Row) → Settled x y → y.node.start < x.node.end → insideb y.node x.node ≡ true
opened_contains x y s l =
    ⊎_elim (λ p. absurd (omega arith)) (λ p. inside_make y.node x.node s.document s.start (le_of_lt p.0)) s.ends

-- Around a row stands an element of each level above its own: one of the rows, or one that was open
-- before them and is still open at the row.
all_around : (document position depth : ℕ) (marks : List ℕ) → fault_from position depth marks ≡ TAKEN → (y : Row) (level : ℕ)
    → In y (rows_from document position depth marks) → level < y.node.level
    → Around (rows_from document position depth marks) level y ⊎ Open level depth position marks y
unfolding rows_from
all_around document position depth [] f y level m l = absurd (Memᴰ.not-nil m)
all_around document position depth (mark ∷ marks) f y level m l =
    elim (kind_of mark) [
      | closes h ↦ let g : fault_from (position + 1) (depth - 1) marks ≡ TAKEN = (rw (open_closes depth mark h) at r).1 in
          rw (rows_closes document position depth mark marks h)
          (⊎_elim inl (λ o. inr (seen_from_close level depth position mark marks y h (closes_some position depth mark r.0 h) o))
          (all_around document (position + 1) (depth - 1) marks g y level (rw (rows_closes document position depth mark marks h) at m) l))
      | is_text h ↦ let g : fault_from (position + 1) depth marks ≡ TAKEN = (rw (open_text depth mark h) at r).1 in
          node_case (λ c. omega arith) (λ n. ⊎_elim (λ a. inl (rw (open_text depth mark h) a))
          (λ o. inr (inr (seen_from_text level depth position mark marks y h o)))
          (all_around document (position + 1) depth marks g y level (rw (open_text depth mark h) at n) l))
      | opens h k ↦ let g : fault_from (position + 1) (depth + 1) marks ≡ TAKEN = (rw (open_opens depth mark h k) at r).1 in
          node_case h (λ n. ⊎_elim (λ a. inl (rw (open_opens depth mark h k) a)) (λ o. in_opening h k n o)
          (all_around document (position + 1) (depth + 1) marks g y level (rw (open_opens depth mark h k) at n) l))
    ]
  where
    r : InPlace position depth mark × (fault_from (position + 1) (open_after depth mark) marks ≡ TAKEN)
    r = fault_read position depth mark marks f

    head : Row
    head = row (node document position (end_of position mark marks) (depth + 1)) mark

    rest : List Row
    rest = rows_from document (position + 1) (open_after depth mark) marks

    -- Of the elements that are open after an opening, the one that it opens is around the row, or
    -- one that was open before it still is.
    in_opening : (mark ≡ CLOSE → ⊥) → (mark ≡ TEXT → ⊥) → In y rest → Open level (depth + 1) (position + 1) marks y
        → Around rest level y ⊎ ((insideb y.node head.node ≡ true) × (level ≡ depth + 1)) ⊎ Open level depth position (mark ∷ marks) y
    in_opening h k n o =
        elim (either (leb level depth)) [
          | inl b ↦ inr (inr (seen_from_opening level depth position mark marks y h k (leb-true _ _ b) o))
          | inr b ↦ let u : depth < level = leb-false _ _ b in
              let e : level ≡ depth + 1 = omega (arith, o.0) in
              let t : y.node.start < end_of position mark marks =
              rw (end_opens position mark marks k) (subst (λ j. y.node.start < close_at j (position + 1) marks) (omega arith) o.1) in
              let all = subst (EveryTwo Settled) (rows_node document position depth mark marks h) (all_settled document position depth (mark ∷ marks) f) in
              let s = all_in (Settled head) rest all.0 n in
              inr (inl (opened_contains head y s t, e))
        ]

    node_case : (mark ≡ CLOSE → ⊥) → (In y rest
        → Around rest level y ⊎ ((insideb y.node head.node ≡ true) × (level ≡ depth + 1)) ⊎ Open level depth position (mark ∷ marks) y)
        → Around (rows_from document position depth (mark ∷ marks)) level y ⊎ Open level depth position (mark ∷ marks) y
    node_case h later =
        rw (rows_node document position depth mark marks h)
        (elim (Memᴰ.cases_cons (rw (rows_node document position depth mark marks h) at m)) [
          | inl e ↦ let s : y.node.start ≡ position = ap (λ q. q.node.start) e in
              let v : y.node.level ≡ depth + 1 = ap (λ q. q.node.level) e in
              inr (omega arith, rw s (close_beyond (depth - level) position mark marks h))
          | inr n ↦ elim (later n) [
            | inl a ↦ inl (further head y rest level a)
            | inr b ↦ elim b [
              | inl c ↦ inl (record { outer = head; stands = Memᴰ.head refl; level_of = sym c.1; contains = c.0 })
              | inr o ↦ inr o
            ]
          ]
        ])

-- What holds of all rows of a numbered document.
module _ (document : ℕ) (marks : List ℕ) (taken : check_marks marks ≡ TAKEN) where
  pub table_made : All (Made document 1) (table_of document marks)
  unfolding table_of
  table_made = all_made document 1 0 marks (check_read marks taken).1

  spans : (x : Row) → In x (table_of document marks) → x.node.start ≤ x.node.end
  spans x x_in = (all_in (Made document 1) (table_of document marks) table_made x_in).span

  pub table_settled : EveryTwo Settled (table_of document marks)
  unfolding table_of
  table_settled = all_settled document 1 0 marks (check_read marks taken).1

  table_around : (y : Row) (level : ℕ) → In y (table_of document marks) → 1 ≤ level → level < y.node.level → Around (table_of document marks) level y
  unfolding table_of
  table_around y level m low l =
      ⊎_elim (λ a. a) (λ o. absurd (omega (arith, o.0))) (all_around document 1 0 marks (check_read marks taken).1 y level m l)

  module _ (x y : Row) (x_in : In x (table_of document marks)) (y_in : In y (table_of document marks)) where
    settled : (x ≡ y) ⊎ (Settled x y ⊎ Settled y x)
    settled = every_two_in Settled (table_of document marks) x y table_settled x_in y_in

    -- No two rows end at one position.
    pub ends_differ : x.node.end ≡ y.node.end → x ≡ y
    ends_differ e =
        elim settled [
          | inl q ↦ q
          | inr s ↦ elim s [
            | inl s ↦ absurd (⊎_elim (λ p. omega (arith, spans y y_in)) (λ p. omega arith) s.ends)
            | inr s ↦ absurd (⊎_elim (λ p. omega (arith, spans x x_in)) (λ p. omega arith) s.ends)
          ]
        ]

    -- y is inside x exactly when its first mark comes after x's opening and before x's close.
    pub inside_between : (insideb y.node x.node ≡ true) ↔ ((x.node.start < y.node.start) × (y.node.start < x.node.end))
    inside_between = (
      λ h. let w = within y.node x.node h in
          let span = spans y y_in in
          elim settled [
            | inl e ↦ absurd (omega (arith, w.start, ap (λ r. r.node.start) e))
            | inr s ↦ elim s [
              | inl s ↦ (w.start, ⊎_elim (λ p. omega arith) (λ p. omega arith) s.ends)
              | inr s ↦ absurd (omega (arith, w.start, s.start))
            ]
          ],
      λ h. elim settled [
        | inl e ↦ absurd (omega (arith, h.0, ap (λ r. r.node.start) e))
        | inr s ↦ elim s [ inl s ↦ opened_contains x y s h.1 | inr s ↦ absurd (omega (arith, h.0, s.start)) ]
      ],
    )

    -- What is inside has a higher level.
    inside_deeper : insideb y.node x.node ≡ true → x.node.level < y.node.level
    inside_deeper h =
        let b = inside_between.0 h in
        elim settled [
          | inl e ↦ absurd (omega (arith, b.0, ap (λ r. r.node.start) e))
          | inr s ↦ elim s [ inl s ↦ ⊎_elim (λ p. absurd (omega (arith, b.1))) (λ p. p.1) s.ends | inr s ↦ absurd (omega (arith, b.0, s.start)) ]
        ]

  -- Of two rows around a third the deeper one is inside the other.
  around_nested : (x z y : Row) → In x (table_of document marks) → In z (table_of document marks) → In y (table_of document marks)
      → insideb y.node x.node ≡ true → insideb y.node z.node ≡ true → x.node.level < z.node.level → insideb z.node x.node ≡ true
  around_nested x z y x_in z-in y_in h k l =
      let b = (inside_between x y x_in y_in).0 h in
      let c = (inside_between z y z-in y_in).0 k in
      elim (settled x z x_in z-in) [
        | inl e ↦ absurd (omega (arith, ap (λ r. r.node.level) e))
        | inr s ↦ elim s [
          | inl s ↦ ⊎_elim (λ p. absurd (omega arith)) (λ p. inside_make z.node x.node s.document s.start (le_of_lt p.0)) s.ends
          | inr s ↦ ⊎_elim (λ p. absurd (omega arith)) (λ p. absurd (omega arith)) s.ends
        ]
      ]

  -- y is directly inside x exactly when x is the element that y stands in: it contains y, and
  -- nothing that contains y is inside it.
  pub directly_stands : (x y : Row) → In x (table_of document marks) → In y (table_of document marks)
      → (directlyb y.node x.node ≡ true) ↔ ((insideb y.node x.node ≡ true)
      × ((z : Row) → In z (table_of document marks) → insideb y.node z.node ≡ true → insideb z.node x.node ≡ true → ⊥))
  directly_stands x y x_in y_in = (
    λ h. let d = directly_inside y.node x.node h in
        (d.0, λ z z-in k i. omega (arith, d.1, inside_deeper z y z-in y_in k, inside_deeper x z x_in z-in i)),
    λ h. let l = inside_deeper x y x_in y_in h.0 in
        elim (either (eqb y.node.level (x.node.level + 1))) [
          | inl e ↦ directly_make y.node x.node h.0 (eqb-true _ _ e)
          | inr e ↦ let n = eqb-false y.node.level (x.node.level + 1) e in
              let a = table_around y (x.node.level + 1) y_in (omega arith) (omega arith) in
              let v = a.level_of in
              absurd (h.1 a.outer a.stands a.contains
              (around_nested x a.outer y x_in a.stands y_in h.0 a.contains (omega arith)))
        ],
  )
