-- Why it holds: Each further entry is three further numbers. The rules of all lists are rules that
-- each next list keeps, so one walk along the entries settles them.
-- What would break it: An entry read one number off, a list that no rule looks at, or a book longer
-- than its lists would be caught here.
use mathlib.Core.Path.{◌≡◌, refl, ap, sym, subst, ◌∙◌}
use mathlib.Core.Logic.{◌⊎◌, inl, inr}
use mathlib.Core.Bool.{Bool, true, false, cond, not, ◌&&◌, ◌||◌}
use mathlib.Core.List.{List, [], ◌∷◌, ◌++◌, flat_map}
use Prim.Native.Nat.{ℕ, zero, suc, ◌+◌, ◌*◌, ◌/◌, ◌≤◌, ◌<◌}
use native.Mathlib.Omega.{arith}
use native.Mathlib.Nat.{not-suc-le-zero}
use native.Mathlib.Numerals.{add-one}
use lib.Dec.{ltb, leb, eqb}
use lib.ListN.{length, get_or, take, drop, length-drop, drop_of_length-le, get_or-eq_default}
use lib.Seq.{length-take-le, get_or-take, get_or-drop}
use borrow.Author.Tests.{lt-ltb, le-ltb, ne_eqb, le-leb, lt-leb, ltb-true, ltb-false, eqb-true}
use Rattle.std.specs.Prelude.{Option, None, Some, Result, Ok, Err}
use Rattle.answers.specs.declared.refusal.Refusal.{Refusal}
use Rattle.answers.specs.Answer.{TAKEN, CONTENTS}
use Rattle.laws.specs.Choose.{All, any}
use Rattle.nodes.specs.Words.{MOST_NODES}
use Rattle.answers.specs.Output.{words_in}
use Rattle.laws.proofs.Choices.{any_none, all_at, few_taken, taken_from}
use Rattle.laws.proofs.Tests.{either, never, and_read, or_left, or_right, or_none, not_none}
use Rattle.numbers.specs.Little.{NODE_BYTES, numbers, number_at}
use Rattle.numbers.proofs.LittleLaws.{length_numbers}
use Rattle.contents.specs.declared.entry.Entry.{Entry}
use Rattle.contents.specs.declared.step.ContentsPlace.{ContentsPlace}
use Rattle.contents.specs.Contents.{MOST_LISTS, entry, entries, entry_numbers, lists_in, entries_in, entry_count, entry_at, contents_of, contents_end, ascendb, laidb, brokenb, contents_fault_up_to, contents_fault}
use Rattle.contents.specs.Passing.{start_of, aboveb, passesb, after_entry, step_of, step_answer}
use Rattle.contents.specs.Private.Walk.{keepsb, Kept}

pub length_entries : (ns : List ℕ) → length (entries ns) ≡ length ns / 3
unfolding entries
length_entries [] = refl
length_entries (t ∷ []) = refl
length_entries (t ∷ o ∷ []) = refl
length_entries (t ∷ o ∷ c ∷ ns) = let h = length_entries ns in omega arith

beyond : (t o c : ℕ) (ns : List ℕ) {k m : ℕ} → m ≡ suc (suc (suc k)) → get_or (t ∷ o ∷ c ∷ ns) m 0 ≡ get_or ns k 0
beyond t o c ns q = rw q

-- Entry i has the numbers from 3 * i on.
pub entry_numbers_lem : (ns : List ℕ) (i : ℕ) → i < length ns / 3
    → get_or (entries ns) i (entry 0 0 0) ≡ entry (get_or ns (3 * i) 0) (get_or ns (3 * i + 1) 0) (get_or ns (3 * i + 2) 0)
unfolding entries
entry_numbers_lem [] i h = absurd (not-suc-le-zero h)
entry_numbers_lem (t ∷ []) i h = absurd (not-suc-le-zero h)
entry_numbers_lem (t ∷ o ∷ []) i h = absurd (not-suc-le-zero h)
entry_numbers_lem (t ∷ o ∷ c ∷ ns) zero h = refl
entry_numbers_lem (t ∷ o ∷ c ∷ ns) (suc i) h =
    entry_numbers_lem ns i (omega arith)
    ∙ λ k. entry
    (sym (beyond t o c ns {k = 3 * i} {m = 3 * suc i} (omega arith)) k)
    (sym (beyond t o c ns {k = 3 * i + 1} {m = 3 * suc i + 1} (omega arith)) k)
    (sym (beyond t o c ns {k = 3 * i + 2} {m = 3 * suc i + 2} (omega arith)) k)

-- Entries written as numbers are read as the same entries.
pub entries_of : (es : List Entry) (ns : List ℕ) → entries (words_in entry_numbers es ++ ns) ≡ es ++ entries ns
unfolding entries words_in flat_map entry_numbers
entries_of [] ns = refl
entries_of (e ∷ es) ns = ap (λ fs. e ∷ fs) (entries_of es ns)

-- The entries of a book, as they lie in its bytes.
module _ (book : List ℕ) where
  pub count_entries : length (entries_in book) ≡ entry_count book
  unfolding entries_in
  count_entries =
      let e = length-drop 1 (numbers book) in
      let l = length_numbers book in
      length_entries (drop 1 (numbers book)) ∙ ap (λ k. k / 3) (omega arith)

  pub entry_there : (i : ℕ) → i < entry_count book
      → entry_at book i ≡ entry (number_at book (1 + 3 * i)) (number_at book (1 + 3 * i + 1)) (number_at book (1 + 3 * i + 2))
  unfolding entry_at entries_in number_at
  entry_there i h =
      let e = length-drop 1 (numbers book) in
      let l = length_numbers book in
      let second : 1 + (3 * i + 1) ≡ 1 + 3 * i + 1 = omega arith in
      let third : 1 + (3 * i + 2) ≡ 1 + 3 * i + 2 = omega arith in
      entry_numbers_lem (drop 1 (numbers book)) i (omega arith)
      ∙ λ k. entry
      (get_or-drop 1 (numbers book) (3 * i) 0 k)
      ((get_or-drop 1 (numbers book) (3 * i + 1) 0 ∙ ap (λ at. get_or (numbers book) at 0) second) k)
      ((get_or-drop 1 (numbers book) (3 * i + 2) 0 ∙ ap (λ at. get_or (numbers book) at 0) third) k)

  pub entry_beyond : (i : ℕ) → entry_count book ≤ i → entry_at book i ≡ entry 0 0 0
  unfolding entry_at
  entry_beyond i h = get_or-eq_default (entries_in book) (entry 0 0 0) (omega (arith, count_entries))

  pub few_entries : (lists : ℕ) → length (take lists (entries_in book)) ≤ lists
  few_entries lists = (few_taken lists (entries_in book)).0

  -- The first `lists` entries, from an index on, begin with the entry there; after the last there
  -- is none.
  pub entry_from : (lists i : ℕ) → i < lists → i < entry_count book
      → drop i (take lists (entries_in book)) ≡ entry_at book i ∷ drop (i + 1) (take lists (entries_in book))
  unfolding entry_at
  entry_from lists i h l = rw (add-one i) (taken_from (entries_in book) lists i (entry 0 0 0) h (omega (arith, count_entries)))

  pub none_from : (lists i : ℕ) → (lists ≤ i) ⊎ (entry_count book ≤ i) → drop i (take lists (entries_in book)) ≡ []
  none_from lists i h =
      let f = few_taken lists (entries_in book) in
      let l = count_entries in
      drop_of_length-le (take lists (entries_in book)) {i = i} (elim h [ inl k ↦ omega (arith, f.0, k) | inr k ↦ omega (arith, f.1, k) ])

  -- A book that is long enough for its contents has an entry for each list.
  module _ (lists : ℕ) (whole : contents_end lists ≤ length book) where
    lists_fit : lists ≤ entry_count book
    unfolding contents_end
    lists_fit = omega arith

    pub length_contents : length (take lists (entries_in book)) ≡ lists
    length_contents = length-take-le lists (entries_in book) (omega (arith, lists_fit, count_entries))

    pub entries_from_lem : (i : ℕ) → i < lists
        → drop i (take lists (entries_in book)) ≡ entry_at book i ∷ drop (i + 1) (take lists (entries_in book))
    entries_from_lem i h = entry_from lists i h (omega (arith, lists_fit))

-- A number is up to the most exactly when it isn't above it.
up_to : (n most : ℕ) → leb n most ≡ not (ltb most n)
up_to n most =
    elim (either (ltb most n)) [
      | inl h ↦ rw h (lt-leb n most (ltb-true most n h))
      | inr h ↦ rw h (le-leb n most (ltb-false most n h))
    ]

-- The tags of the lists ascend, and the first is above that of the list passed last, if any.
ascend_from : Option ℕ → List Entry → Bool
ascend_from last [] = true
ascend_from last (e ∷ es) = aboveb last e.tag && ascend_from (Some e.tag) es

ascend_on : (e : Entry) (es : List Entry) → ascend_from (Some e.tag) es ≡ ascendb (e ∷ es)
unfolding ascend_from ascendb
ascend_on e [] = refl
ascend_on e (f ∷ es) = ap (λ b. ltb e.tag f.tag && b) (ascend_on f es)

ascend_all : (es : List Entry) → ascend_from None es ≡ ascendb es
unfolding ascend_from ascendb
ascend_all [] = refl
ascend_all (e ∷ es) = ascend_on e es

-- The three rules of the first list and those of the later lists, sorted by rule.
regroup : (a b c x y z : Bool) → (a && (not b && c)) && (not x && (y && z)) ≡ not (b || x) && ((c && y) && (a && z))
regroup true true c x y z = refl
regroup false true c x y z = refl
regroup true false true x y z = refl
regroup true false false true y z = refl
regroup true false false false y z = refl
regroup false false c true y z = refl
regroup false false true false true z = refl
regroup false false true false false z = refl
regroup false false false false y z = refl

rules_from : (p : ContentsPlace) (es : List Entry) (size : ℕ)
    → keepsb p es size ≡ not (any (λ e. ltb MOST_NODES e.count) es) && (ascend_from p.tag es && laidb p.end es size)
unfolding keepsb passesb after_entry any ascend_from laidb
rules_from p [] size = refl
rules_from p (e ∷ es) size =
    rw (rules_from (after_entry p e) es size, up_to e.count MOST_NODES)
    (regroup (eqb e.offset p.end) (ltb MOST_NODES e.count) (aboveb p.tag e.tag) _ _ _)

one_broken : (x y z : Bool) → x || (not y || not z) ≡ not (not x && (y && z))
one_broken true y z = refl
one_broken false true z = refl
one_broken false false z = refl

-- The scope's rules are those that the walk keeps to.
keeps_rules : (most lists : ℕ) (es : List Entry) (size : ℕ) → lists ≤ most → brokenb most lists es size ≡ not (keepsb (start_of lists) es size)
unfolding brokenb start_of
keeps_rules most lists es size h =
    rw (le-ltb most lists h, rules_from (start_of lists) es size, ascend_all es)
    (one_broken (any (λ e. ltb MOST_NODES e.count) es) (ascendb es) (laidb (contents_end lists) es size))

-- What the walk has still to find out at a place decides the whole: the lists left keep the rules
-- exactly when all lists do.
abbrev pub Left : ContentsPlace → List Entry → ContentsPlace → List Entry → Type 0
Left p rest start all = (size : ℕ) → keepsb p rest size ≡ keepsb start all size

-- What a step's answer says: at a place reached the rest decides, and a refusal decides at once.
Steps : List Entry → ContentsPlace → List Entry → Result ContentsPlace Refusal → Type 0
Steps rest start all (Ok q) = Left q rest start all
Steps rest start all (Err refusal) = Kept start all (Err refusal)

module _ (start : ContentsPlace) (all : List Entry) (p : ContentsPlace) (e : Entry) (rest : List Entry) (l : Left p (e ∷ rest) start all) where
  steps : Steps rest start all (step_of p e)
  unfolding Steps step_of keepsb
  steps =
      elim (either (passesb p e)) [
        | inl h ↦ rw h (λ size. sym (rw h at (sym (l size))))
        | inr h ↦ rw h (λ size. ap (λ b. cond b TAKEN CONTENTS) (rw h at (sym (l size))))
      ]

  module _ (r : Result ContentsPlace Refusal) (s : r ≡ step_of p e) where
    pub kept_on : (q : ContentsPlace) → r ≡ Ok q → Left q rest start all
    unfolding Steps
    kept_on q h = subst (Steps rest start all) (sym s ∙ h) steps

    pub kept_stop : (refusal : Refusal) → r ≡ Err refusal → Kept start all r
    unfolding Steps
    kept_stop refusal h = subst (Kept start all) (sym h) (subst (Steps rest start all) (sym s ∙ h) steps)

pub kept_end : (start : ContentsPlace) (all : List Entry) (q : ContentsPlace) → Left q [] start all → Kept start all (Ok q)
unfolding keepsb
kept_end start all q l = λ size. ap (λ b. cond b TAKEN CONTENTS) (sym (l size))

-- The last step's answer is CONTENTS exactly where a rule is broken.
pub walk_answers : (most lists : ℕ) (es : List Entry) (size : ℕ) → lists ≤ most → (r : Result ContentsPlace Refusal) → Kept (start_of lists) es r
    → step_answer r size ≡ cond (brokenb most lists es size) CONTENTS TAKEN
walk_answers most lists es size few r k =
    sym (k size) ∙ sym (turned (keepsb (start_of lists) es size)) ∙ ap (λ b. cond b CONTENTS TAKEN) (sym (keeps_rules most lists es size few))
  where
    turned : (b : Bool) → cond (not b) CONTENTS TAKEN ≡ cond b TAKEN CONTENTS
    turned true = refl
    turned false = refl

-- Bodies that would begin after the book's end don't end with it.
laid_beyond : (at : ℕ) (es : List Entry) (size : ℕ) → size < at → laidb at es size ≡ false
unfolding laidb
laid_beyond at [] size h = ne_eqb at size (λ e. omega arith)
laid_beyond at (e ∷ es) size h =
    elim (either (eqb e.offset at)) [
      | inl k ↦ rw k (laid_beyond (at + NODE_BYTES * e.count) es size (omega arith))
      | inr k ↦ rw k refl
    ]

laid_before : (at : ℕ) (es : List Entry) (size : ℕ) → laidb at es size ≡ true → at ≤ size
laid_before at es size t =
    elim (either (ltb size at)) [
      | inl h ↦ absurd (never t (laid_beyond at es size (ltb-true _ _ h)))
      | inr h ↦ ltb-false _ _ h
    ]

-- The body of an entry ends within the book.
within : ℕ → Entry → Type 0
within size e = e.offset + NODE_BYTES * e.count ≤ size

laid_within : (at : ℕ) (es : List Entry) (size : ℕ) → laidb at es size ≡ true → All (within size) es
unfolding laidb within
laid_within at [] size t = tt
laid_within at (e ∷ es) size t =
    let p = and_read (eqb e.offset at) t in
    let o : e.offset ≡ at = eqb-true _ _ p.0 in
    (omega (arith, laid_before (at + NODE_BYTES * e.count) es size p.1), laid_within (at + NODE_BYTES * e.count) es size p.1)

-- A book too short for its contents breaks a rule, and so does one with too many lists.
pub short_broken : (most lists : ℕ) (es : List Entry) (size : ℕ) → size < contents_end lists → brokenb most lists es size ≡ true
unfolding brokenb
short_broken most lists es size h =
    or_right (ltb most lists)
    (or_right (any (λ e. ltb MOST_NODES e.count) es)
    (or_right (not (ascendb es)) (rw (laid_beyond (contents_end lists) es size h))))

pub many_broken : (most lists : ℕ) (es : List Entry) (size : ℕ) → most < lists → brokenb most lists es size ≡ true
unfolding brokenb
many_broken most lists es size h = or_left _ (lt-ltb most lists h)

-- Under two limits that the lists are within, the same is broken.
pub broken_alike : (fewer more lists : ℕ) (es : List Entry) (size : ℕ) → lists ≤ fewer → lists ≤ more
    → brokenb fewer lists es size ≡ brokenb more lists es size
broken_alike fewer more lists es size h k = keeps_rules fewer lists es size h ∙ sym (keeps_rules more lists es size k)

-- What the check answers for a book.
module _ (book : List ℕ) where
  pub fault_broken : (most : ℕ) → brokenb most (lists_in book) (contents_of book) (length book) ≡ true → contents_fault_up_to most book ≡ CONTENTS
  unfolding contents_fault_up_to
  fault_broken most h = rw h

  -- It is CONTENTS under a limit that the book exceeds, and the same under two that it is within.
  pub fault_many : (most : ℕ) → most < lists_in book → contents_fault_up_to most book ≡ CONTENTS
  fault_many most h = fault_broken most (many_broken most (lists_in book) (contents_of book) (length book) h)

  pub fault_alike : (fewer more : ℕ) → lists_in book ≤ fewer → lists_in book ≤ more → contents_fault_up_to fewer book ≡ contents_fault_up_to more book
  unfolding contents_fault_up_to
  fault_alike fewer more h k = rw (broken_alike fewer more (lists_in book) (contents_of book) (length book) h k)

  -- What follows for a book whose contents keep the rules.
  module _ (good : contents_fault book ≡ TAKEN) where
    rules : brokenb MOST_LISTS (lists_in book) (contents_of book) (length book) ≡ false
    rules =
        elim (either (brokenb MOST_LISTS (lists_in book) (contents_of book) (length book))) [
          | inl h ↦ (let e = sym good ∙ fault_broken MOST_LISTS h in absurd (omega arith))
          | inr h ↦ h
        ]

    unbroken : (ltb MOST_LISTS (lists_in book) ≡ false)
        × (any (λ e. ltb MOST_NODES e.count) (contents_of book) ≡ false)
        × (ascendb (contents_of book) ≡ true)
        × (laidb (contents_end (lists_in book)) (contents_of book) (length book) ≡ true)
    unfolding brokenb
    unbroken =
        let p = or_none (ltb MOST_LISTS (lists_in book)) rules in
        let q = or_none (any (λ e. ltb MOST_NODES e.count) (contents_of book)) p.1 in
        let r = or_none (not (ascendb (contents_of book))) q.1 in
        (p.0, q.0, not_none _ r.0, not_none _ r.1)

    pub tags_ascend : ascendb (contents_of book) ≡ true
    tags_ascend = unbroken.2

    pub lists_most : lists_in book ≤ MOST_LISTS
    lists_most = ltb-false _ _ unbroken.0

    pub contents_within : contents_end (lists_in book) ≤ length book
    contents_within = laid_before (contents_end (lists_in book)) (contents_of book) (length book) unbroken.3

    pub count_contents : length (contents_of book) ≡ lists_in book
    unfolding contents_of
    count_contents = length_contents book (lists_in book) contents_within

    pub entry_of : (i : ℕ) → i < lists_in book → get_or (contents_of book) i (entry 0 0 0) ≡ entry_at book i
    unfolding contents_of entry_at
    entry_of i h = get_or-take (lists_in book) (entries_in book) i (entry 0 0 0) h

    pub contents_from : (i : ℕ) → i < lists_in book → drop i (contents_of book) ≡ entry_at book i ∷ drop (i + 1) (contents_of book)
    unfolding contents_of
    contents_from i h = entries_from_lem book (lists_in book) contents_within i h

    pub entry_within : (i : ℕ) → i < lists_in book
        → ((entry_at book i).count ≤ MOST_NODES) × ((entry_at book i).offset + NODE_BYTES * (entry_at book i).count ≤ length book)
    unfolding within
    entry_within i h =
        let e = entry_of i h in
        let l = count_contents in
        let short = all_at (λ e. ltb MOST_NODES e.count ≡ false) (contents_of book) i (entry 0 0 0) (omega arith)
        (any_none (λ e. ltb MOST_NODES e.count) (contents_of book) unbroken.1) in
        let inner = all_at (within (length book)) (contents_of book) i (entry 0 0 0) (omega arith)
        (laid_within (contents_end (lists_in book)) (contents_of book) (length book) unbroken.3) in
        (ltb-false _ _ (rw e at short), rw e at inner)
