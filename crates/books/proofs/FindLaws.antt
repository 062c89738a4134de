-- Why it holds: A book that is refused has no list anywhere. One that is taken has the lists that
-- its contents count, each the first of its tag, since tags ascend.
-- What would break it: A list found in a refused book, one after the last, or another list of the
-- same tag would be caught here.
use mathlib.Core.Path.{◌≡◌, refl, sym, ap, ◌∙◌}
use mathlib.Core.Bool.{true, false}
use mathlib.Core.Logic.{inl, inr}
use mathlib.Core.List.{List, [], ◌∷◌, map}
use Prim.Native.Nat.{ℕ, zero, suc, ◌*◌, ◌≤◌, ◌<◌}
use native.Mathlib.Omega.{arith}
use lib.Dec.{ltb, eqb}
use lib.ListN.{length, get_or, take}
use borrow.Author.Tests.{lt-ltb, le-ltb, ltb-true, ltb-false, eq-eqb, ne_eqb}
use Rattle.std.specs.Prelude.{Ok, Err, None, Some}
use Rattle.std.specs.Option.{MatchOption}
use Rattle.answers.specs.Answer.{TAKEN, ABSENT}
use Rattle.answers.specs.declared.refusal.Fault.{Fault}
use Rattle.answers.specs.declared.refusal.Refusal.TheVariants.{Absent}
use Rattle.answers.specs.Refusal.{at_no_node}
use Rattle.laws.specs.Choose.{first_at}
use Rattle.laws.proofs.Tests.{either, and_read}
use Rattle.numbers.specs.Little.{NODE_BYTES}
use Rattle.contents.specs.declared.entry.Entry.{Entry}
use Rattle.contents.specs.Contents.{entry, lists_in, entries_in, contents_of, entry_at, ascendb, contents_fault}
use Rattle.contents.proofs.ContentLaws.{tags_ascend, count_contents, entry_of}
use Rattle.answers.specs.declared.verdict.Verdict.{Verdict}
use Rattle.answers.specs.Verdict.{refusedb, ANCESTORS, verdict, taken}
use Rattle.answers.proofs.VerdictLaws.{refuses, accepts}
use Rattle.laws.proofs.First.{first_there}
use Rattle.books.specs.Book.{body_of, nodes_of, book_verdict_up_to, book_verdict, check_book, opened_in}
use Rattle.books.specs.Find.{tag_at, tag_index, body_at, found, found_in, verdict_at_up_to, verdict_at, found_at_up_to, found_at, found_tag_up_to, found_tag, has_tag, tag_entry, tag_body}
use Rattle.books.proofs.Answers.{parts_faultless}
use Rattle.books.proofs.BookLaws.{book_taken, opened_ok, opened_err}

module _ (book : List ℕ) (position : ℕ) where
  nowhere : (v : Verdict) → verdict_at book position ≡ v → refusedb v ≡ true → found_at book position ≡ found v 0 0
  unfolding found_at_up_to
  nowhere v q h = rw (q, h)

  there : (v : Verdict) → verdict_at book position ≡ v → refusedb v ≡ false
      → found_at book position ≡ found v (entry_at book position).offset (NODE_BYTES * (entry_at book position).count)
  unfolding found_at_up_to
  there v q h = rw (q, h)

  refused_at : ((book_verdict book).answer ≡ TAKEN → ⊥) → verdict_at book position ≡ book_verdict book
  unfolding verdict_at_up_to
  refused_at h = rw (refuses (book_verdict book) h)

  absent_at : (book_verdict book).answer ≡ TAKEN → lists_in book ≤ position → verdict_at book position ≡ verdict ABSENT ANCESTORS 0
  unfolding verdict_at_up_to
  absent_at t h = rw (accepts (book_verdict book) t, le-ltb position (lists_in book) h)

  taken_at : (book_verdict book).answer ≡ TAKEN → position < lists_in book → verdict_at book position ≡ taken
  unfolding verdict_at_up_to
  taken_at t h = rw (accepts (book_verdict book) t, lt-ltb position (lists_in book) h)

  pub book_refused : ((book_verdict book).answer ≡ TAKEN → ⊥) → found_at book position ≡ found (book_verdict book) 0 0
  book_refused h = nowhere (book_verdict book) (refused_at h) (refuses (book_verdict book) h)

  pub list_absent : (book_verdict book).answer ≡ TAKEN → lists_in book ≤ position → found_at book position ≡ found (verdict ABSENT ANCESTORS 0) 0 0
  list_absent t h = nowhere (verdict ABSENT ANCESTORS 0) (absent_at t h) (refuses (verdict ABSENT ANCESTORS 0) (λ e. omega arith))

  pub list_found : (book_verdict book).answer ≡ TAKEN → position < lists_in book
      → found_at book position ≡ found (book_verdict book) (entry_at book position).offset (NODE_BYTES * (entry_at book position).count)
  list_found t h = rw (book_taken book t) (there taken (taken_at t h) (accepts taken refl))

-- What a caller knows who looks for a list after opening the book: a refused book is the answer.
module _ (book : List ℕ) where
  pub nothing_found : (f : Fault) → opened_in (Err f) ≡ check_book book → (position : ℕ) → found_in (Err f) ≡ found_at book position
  nothing_found f e position =
      let r = opened_err book f e in
      ap (λ v. found v 0 0) r.0 ∙ sym (book_refused book position r.1)

  pub no_tag_found : (f : Fault) → opened_in (Err f) ≡ check_book book → (tag : ℕ) → found_in (Err f) ≡ found_tag book tag
  unfolding found_tag_up_to
  no_tag_found f e tag = nothing_found f e (tag_at tag (contents_of book))

  -- In a book that is taken, the list is there where the position is below the number of lists.
  module _ (lists : ℕ) (e : opened_in (Ok lists) ≡ check_book book) (position : ℕ) where
    pub none_there : lists ≤ position → found_in (Err (at_no_node Absent)) ≡ found_at book position
    none_there h = let o = opened_ok book lists e in sym (list_absent book position o.0 (omega (arith, o.1)))

    pub body_there : position < lists → found_in (Ok (body_at book position)) ≡ found_at book position
    body_there h =
        let o = opened_ok book lists e in
        ap (λ v. found v (entry_at book position).offset (NODE_BYTES * (entry_at book position).count)) (sym (book_taken book o.0))
        ∙ sym (list_found book position o.0 (omega (arith, o.1)))

-- The contents of a book that is taken keep the rules.
pub book_faultless : (book : List ℕ) → (book_verdict book).answer ≡ TAKEN → contents_fault book ≡ TAKEN
unfolding book_verdict_up_to
book_faultless book t = parts_faultless (contents_fault book) (map (nodes_of book) (contents_of book)) t

-- What the index of a tag's list says, where there is one and where there is none.
module _ (tag : ℕ) (es : List Entry) where
  by_index : MatchOption (tag_index tag es) (length es ≤ tag_at tag es) (λ i. (i ≡ tag_at tag es) × (i < length es))
  unfolding tag_index
  by_index =
      elim (either (ltb (tag_at tag es) (length es))) [
        | inl h ↦ rw h (refl, ltb-true (tag_at tag es) (length es) h)
        | inr h ↦ rw h (ltb-false (tag_at tag es) (length es) h)
      ]

  pub index_some : (i : ℕ) → Some i ≡ tag_index tag es → (i ≡ tag_at tag es) × (i < length es)
  index_some i q = rw (← q) at by_index

  pub index_none : None ≡ tag_index tag es → length es ≤ tag_at tag es
  index_none q = rw (← q) at by_index

-- So the index of a tag's list says where its body lies.
module _ (book : List ℕ) (lists : ℕ) (e : opened_in (Ok lists) ≡ check_book book) (tag : ℕ) where
  abbrev looked : List Entry
  looked = take lists (entries_in book)

  all_looked : (looked ≡ contents_of book) × (length looked ≡ lists)
  unfolding contents_of
  all_looked =
      let o = opened_ok book lists e in
      (ap (λ n. take n (entries_in book)) o.1, ap (λ n. length (take n (entries_in book))) o.1 ∙ count_contents book (book_faultless book o.0) ∙ sym o.1)

  pub tag_absent : None ≡ tag_index tag looked → found_in (Err (at_no_node Absent)) ≡ found_tag book tag
  unfolding found_tag_up_to
  tag_absent q =
      none_there book lists e (tag_at tag looked) (omega (arith, index_none tag looked q, all_looked.1))
      ∙ ap (λ es. found_at book (tag_at tag es)) all_looked.0

  pub tag_present : (i : ℕ) → Some i ≡ tag_index tag looked → found_in (Ok (body_at book i)) ≡ found_tag book tag
  unfolding found_tag_up_to
  tag_present i q =
      let s = index_some tag looked i q in
      body_there book lists e i (omega (arith, s.1, all_looked.1))
      ∙ ap (found_at book) s.0
      ∙ ap (λ es. found_at book (tag_at tag es)) all_looked.0

-- Where tags strictly ascend, a list's tag is below all later ones, so each list is the first of
-- its own tag.
above_all : (e : Entry) (es : List Entry) → ascendb (e ∷ es) ≡ true → (i : ℕ) → i < length es → e.tag < (get_or es i (entry 0 0 0)).tag
unfolding ascendb
above_all e [] a i h = absurd (omega arith)
above_all e (f ∷ es) a zero h = ltb-true e.tag f.tag (and_read (ltb e.tag f.tag) a).0
above_all e (f ∷ es) a (suc i) h =
    let p = and_read (ltb e.tag f.tag) a in
    let first = ltb-true e.tag f.tag p.0 in
    let later = above_all f es p.1 i (omega arith) in
    omega arith

later_ascend : (e : Entry) (es : List Entry) → ascendb (e ∷ es) ≡ true → ascendb es ≡ true
unfolding ascendb
later_ascend e [] a = refl
later_ascend e (f ∷ es) a = (and_read (ltb e.tag f.tag) a).1

first_of_tag : (es : List Entry) → ascendb es ≡ true → (i : ℕ) → i < length es → tag_at (get_or es i (entry 0 0 0)).tag es ≡ i
unfolding tag_at first_at
first_of_tag [] a i h = absurd (omega arith)
first_of_tag (e ∷ es) a zero h = rw (eq-eqb e.tag e.tag refl)
first_of_tag (e ∷ es) a (suc i) h =
    let tag = (get_or es i (entry 0 0 0)).tag in
    let below = above_all e es a i (omega arith) in
    rw (ne_eqb e.tag tag (λ q. omega arith)) (ap suc (first_of_tag es (later_ascend e es a) i (omega arith)))

-- In a book that is taken, looking for a list by its tag or by its position finds the same.
module _ (book : List ℕ) (t : (book_verdict book).answer ≡ TAKEN) (position : ℕ) (h : position < lists_in book) where
  good : contents_fault book ≡ TAKEN
  good = book_faultless book t

  own_tag : tag_at (entry_at book position).tag (contents_of book) ≡ position
  own_tag =
      let l = count_contents book good in
      ap (λ e. tag_at e.tag (contents_of book)) (sym (entry_of book good position h))
      ∙ first_of_tag (contents_of book) (tags_ascend book good) position (omega arith)

  pub tag_found : found_tag book (entry_at book position).tag ≡ found_at book position
  unfolding found_tag_up_to
  tag_found = ap (found_at book) own_tag

  pub tag_there : has_tag book (lists_in book) (entry_at book position).tag ≡ true
  unfolding has_tag tag_at contents_of
  tag_there =
      let own = own_tag in
      let l = count_contents book good in
      sym (first_there (λ e. eqb e.tag (entry_at book position).tag) (contents_of book))
      ∙ lt-ltb (tag_at (entry_at book position).tag (contents_of book)) (length (contents_of book)) (omega arith)

  tag_entry_lem : tag_entry book (lists_in book) (entry_at book position).tag ≡ entry_at book position
  unfolding tag_entry contents_of
  tag_entry_lem = ap (λ i. get_or (contents_of book) i (entry 0 0 0)) own_tag ∙ entry_of book good position h

  -- And its body is the one that its entry names.
  pub tag_body_at : tag_body book (lists_in book) (entry_at book position).tag ≡ body_of book (entry_at book position)
  unfolding tag_body
  tag_body_at = ap (body_of book) tag_entry_lem
