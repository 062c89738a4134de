-- docs/SCOPE.md, "Figures to hold against it": the cases marked [P] and some of our own, as rows of
-- one table. Each row has its number above it.
use Rattle.std.specs.Prelude.{ℕ, zero, suc, ◌+◌, ◌*◌, ◌/◌, ◌%◌, Bool, true, cond, ◌&&◌, length, replicate, take, drop, set, Float, Option, None, Some, Ok, Err}
use mathlib.Core.List.{List, [], ◌∷◌, ◌++◌, map, flat_map}
use Rattle.std.specs.Float.{binary32}
use Rattle.std.specs.Float.Ieee.{to_bits}
use Rattle.answers.specs.Answer.{TAKEN, RAGGED, LONG, LEVEL, ORDER, CROSS, DEPTH, JOINT, ROOM, STRAY, UNCLOSED, CONTENTS, ABSENT, READING, LINKS}
use Rattle.laws.specs.Choose.{equalb}
use Rattle.nodes.specs.Words.{nodes}
use Rattle.answers.specs.declared.verdict.Verdict.{Verdict}
use Rattle.lists.specs.Check.{check_words}
use Rattle.lists.specs.Two.{check_two}
use Rattle.answers.specs.Verdict.{ANCESTORS, DESCENDANTS}
use Rattle.readings.specs.declared.reading.Reading.{Reading}
use Rattle.readings.specs.Reading.{MISSING, PERCENT, GRAMS, decode, percent_of}
use Rattle.ranges.specs.Range.{ZoneRange, zone_range}
use Rattle.tickets.specs.declared.ticket.Order.{Order}
use Rattle.tickets.specs.declared.ticket.Order.TheVariants.{Descendant, Ancestor}
use Rattle.tickets.specs.declared.ticket.Place.{Place}
use Rattle.tickets.specs.declared.ticket.Place.TheVariants.{Fresh, After}
use Rattle.tickets.specs.declared.ticket.Relation.{Relation}
use Rattle.tickets.specs.declared.ticket.Relation.TheVariants.{Inside, Directly}
use Rattle.tickets.specs.declared.ticket.Ticket.{Ticket}
use Rattle.tickets.specs.PairWords.{PAIR_WORDS, pairs_in}
use Rattle.tickets.specs.Ticket.{key_with, numbers_of, asked, ticket_at}
use Rattle.pairs.specs.Calls.{Call, answer, shown}
use Rattle.trees.specs.Example.{example}
use Rattle.trees.specs.Tree.{Label, Siblings, label, node_of, tree_words}
use Rattle.marks.specs.Mark.{TEXT}
use Rattle.marks.specs.Outcome.{number_outcome, number_output, unnumber_outcome, unnumber_output, pick_outcome, pick_output}
use Rattle.marks.specs.Table.{ROW_WORDS}
use Rattle.forest.specs.Linked.{linked_of, links_output}
use Rattle.forest.specs.Links.{NONE, LINK_WORDS}
use Rattle.linked.specs.Check.{check_links}
use Rattle.linked.specs.Following.{Lent, LentCall, answer_lent, output_lent, shown_lent}
use Rattle.linked.specs.Following.Lent.{nothing, words as lent}
use Rattle.sheets.specs.Hundredths.{NO_HUNDREDTHS}
use Rattle.sheets.specs.Sheet.{SUBTOTAL_WORDS, sheet_of, sheet_output}
use Rattle.contents.specs.Contents.{MOST_LISTS, EARLIER_LISTS}
use Rattle.books.specs.Book.{check_book_up_to}
use Rattle.writing.specs.WriteCall.{bytes_for, written_of_up_to, written_output_up_to}
use Rattle.ticket_words.specs.declared.page.PageWords.{PageWords}
use Rattle.questions.specs.Ask.{ask_of, ask_output}

-- A figure: what the definitions compute, and what docs/SCOPE.md states.
pub record Figure : Type 0 where
  pub found : List ℕ
  pub stated : List ℕ

-- The words of nodes of a document, each given as (start, end, level).
abbrev pub document_words : ℕ → List (ℕ × ℕ × ℕ) → List ℕ
document_words document [] = []
document_words document (n ∷ ns) = document ∷ n.0 ∷ n.1 ∷ n.2 ∷ document_words document ns

-- The words of nodes of document 5.
abbrev pub words : List (ℕ × ℕ × ℕ) → List ℕ
words list = document_words 5 list

-- A verdict as its three numbers.
abbrev pub verdict_numbers : Verdict → List ℕ
verdict_numbers v = v.answer ∷ v.list ∷ v.index ∷ []

-- The check of one list: the answer, and the index of the faulty node.
abbrev pub one : List (ℕ × ℕ × ℕ) → ℕ → ℕ → Figure
one list answer index = record { found = verdict_numbers (check_words (words list)); stated = answer ∷ ANCESTORS ∷ index ∷ [] }

-- The check of ancestors and descendants, with an answer that isn't one list's own.
abbrev pub two : List (ℕ × ℕ × ℕ) → List (ℕ × ℕ × ℕ) → ℕ → Figure
two ancestors descendants answer =
    record { found = verdict_numbers (check_two (words ancestors) (words descendants)); stated = answer ∷ ANCESTORS ∷ 0 ∷ [] }

-- A list of nodes, each given as (start, end, level).
abbrev pub Nodes : Type 0
Nodes = List (ℕ × ℕ × ℕ)

-- A page call with two lists and an output that has room for `room` pairs.
abbrev pub call : ℕ → Nodes → Nodes → Call
call room ancestors descendants =
    record { ancestors = words ancestors; descendants = words descendants; out = replicate (PAIR_WORDS * room) 0 }

-- The pairs as numbers: the starts of ancestor and descendant of each.
abbrev pub starts : List (ℕ × ℕ) → List ℕ
starts [] = []
starts (p ∷ ps) = p.0 ∷ p.1 ∷ starts ps

-- What a page call shows, as numbers: the answer, the number of pairs, the pairs by their starts,
-- and done as 1 or 0.
abbrev pub shows : ℕ → List (ℕ × ℕ) → ℕ → List ℕ
shows answer pairs done = answer ∷ length pairs ∷ starts pairs ++ (done ∷ [])

-- What a page of these pairs shows that isn't done.
abbrev pub not_done : List (ℕ × ℕ) → List ℕ
not_done pairs = shows TAKEN pairs 0

-- What a page of these pairs shows that is done.
abbrev pub done : List (ℕ × ℕ) → List ℕ
done pairs = shows TAKEN pairs 1

-- What a call shows by the definitions.
abbrev pub seen : Ticket → Call → List ℕ
seen t c =
    (answer t c).verdict.answer ∷ (answer t c).count
    ∷ starts (map (λ p. (p.ancestor.start, p.descendant.start)) (shown t c)) ++ (cond (answer t c).done 1 0 ∷ [])

-- What a sequence of calls shows, in which each call takes the ticket that the last one returned.
abbrev pub seen_through : Ticket → List Call → List ℕ
seen_through t [] = []
seen_through t (c ∷ cs) = seen t c ++ seen_through (answer t c).ticket cs

-- A figure of page calls that start with a fresh ticket.
abbrev pub calls : Relation → Order → List Call → List ℕ → Figure
calls relation order cs stated = record { found = seen_through (ticket_at (asked relation order) Fresh) cs; stated = stated }

-- A figure of page calls with the same two lists, one for each room.
abbrev pub page : Relation → Order → List ℕ → Nodes → Nodes → List ℕ → Figure
page relation order rooms ancestors descendants stated =
    calls relation order (map (λ room. call room ancestors descendants) rooms) stated

-- The numbers of a place.
abbrev pub place_numbers : Place → List ℕ
place_numbers Fresh = []
place_numbers (After k) = numbers_of k

-- A figure of a refused page call with room 1 and a ticket in document 5. It shows the answer, no
-- pair, not done, and the ticket's place again.
abbrev pub refused : Relation → Order → ℕ → ℕ → Nodes → Nodes → ℕ → Figure
refused relation order leader follower ancestors descendants stated =
    let t = ticket_at (asked relation order) (After (key_with 5 leader follower)) in
    let c = call 1 ancestors descendants in
    record { found = seen t c ++ place_numbers (answer t c).ticket.place; stated = shows stated [] 0 ++ (5 ∷ leader ∷ follower ∷ []) }

-- The scope's Z, the nodes of tag 2 in its example.
abbrev pub Z : Nodes
Z = (2, 10, 2) ∷ (3, 7, 3) ∷ []

-- The scope's S, the nodes of tag 3 in its example.
abbrev pub S : Nodes
S = (4, 6, 4) ∷ (8, 9, 3) ∷ []

-- The nodes of labels, each a label of order, size and level.
abbrev pub sized : List Label → Nodes
sized [] = []
sized (x ∷ xs) = ((node_of 5 x).start, (node_of 5 x).end, (node_of 5 x).level) ∷ sized xs

-- The scope's ranges and points, numbered by order and size.
abbrev pub ranges : Nodes
ranges = sized (label 1 8 1 ∷ label 4 2 2 ∷ label 7 2 2 ∷ [])

abbrev pub points : Nodes
points = sized (label 2 0 2 ∷ label 5 0 3 ∷ label 8 0 3 ∷ [])

-- The scope's E, of whose zones three end at 6, and T, of whose samples one starts there and one
-- where the outermost zone ends.
abbrev pub E : Nodes
E = (1, 9, 1) ∷ (2, 6, 2) ∷ (4, 6, 3) ∷ (5, 6, 4) ∷ []

abbrev pub T : Nodes
T = (3, 3, 3) ∷ (6, 6, 5) ∷ (9, 9, 2) ∷ []

-- A figure of a tree numbered by order and size: the check of its list, and the list's words.
abbrev pub tree : Siblings → Nodes → Figure
tree t list =
    record { found = verdict_numbers (check_words (tree_words 5 t)) ++ tree_words 5 t; stated = TAKEN ∷ ANCESTORS ∷ 0 ∷ words list }

-- What numbering marks of document 5 shows, with an output of `room` rows: the answer, the number
-- of rows, and the output.
abbrev pub numbered : List ℕ → ℕ → List ℕ
numbered marks room =
    let out : List ℕ = replicate (ROW_WORDS * room) 0 in
    (number_outcome 5 marks out).verdict.answer ∷ (number_outcome 5 marks out).count ∷ number_output 5 marks out

-- The words of rows of document 5, each given as (start, end, level, tag).
abbrev pub rows_of : List (ℕ × ℕ × ℕ × ℕ) → List ℕ
rows_of [] = []
rows_of (r ∷ rs) = 5 ∷ r.0 ∷ r.1 ∷ r.2 ∷ r.3 ∷ rows_of rs

-- A figure of marks that are taken, with an output that has room.
abbrev pub number : List ℕ → List (ℕ × ℕ × ℕ × ℕ) → Figure
number marks rows = record { found = numbered marks (length rows); stated = TAKEN ∷ length rows ∷ rows_of rows }

-- A figure of marks that are refused, with an output that has room.
abbrev pub faulty : List ℕ → ℕ → Figure
faulty marks answer = record { found = numbered marks 1; stated = answer ∷ 0 ∷ replicate ROW_WORDS 0 }

-- A figure of a table turned back into marks: the answer, the document, the number of marks, and
-- the output.
abbrev pub back : List (ℕ × ℕ × ℕ × ℕ) → List ℕ → Figure
back rows marks =
    let out : List ℕ = replicate (length marks) 0 in
    let r = unnumber_outcome (rows_of rows) out in
    record { found = r.answer ∷ r.document ∷ r.count ∷ unnumber_output (rows_of rows) out; stated = TAKEN ∷ 5 ∷ length marks ∷ marks }

-- A figure of a tag picked out of a table: the answer, the number of nodes, and the output.
abbrev pub pick : List (ℕ × ℕ × ℕ × ℕ) → ℕ → Nodes → Figure
pick rows tag picked =
    let out : List ℕ = replicate (length (words picked)) 0 in
    let r = pick_outcome (rows_of rows) tag out in
    record { found = r.verdict.answer ∷ r.count ∷ pick_output (rows_of rows) tag out; stated = TAKEN ∷ length picked ∷ words picked }

-- A figure of the links of a list: the answer, the number of nodes, and the output.
abbrev pub links : Nodes → List ℕ → Figure
links list stated =
    let out : List ℕ = replicate (LINK_WORDS * length list) 0 in
    let r = linked_of (words list) out in
    record { found = r.verdict.answer ∷ r.count ∷ links_output (words list) out; stated = TAKEN ∷ length list ∷ stated }

-- The scope's eleven marks.
abbrev pub eleven_marks : List ℕ
eleven_marks = 1 ∷ 2 ∷ 2 ∷ 3 ∷ TEXT ∷ 0 ∷ 0 ∷ 3 ∷ 0 ∷ 0 ∷ 0 ∷ []

-- The six rows of these marks.
abbrev pub six_rows : List (ℕ × ℕ × ℕ × ℕ)
six_rows = (1, 11, 1, 1) ∷ (2, 10, 2, 2) ∷ (3, 7, 3, 2) ∷ (4, 6, 4, 3) ∷ (5, 5, 5, TEXT) ∷ (8, 9, 3, 3) ∷ []

-- A percentage as numbers: 1 and the bits of its value, or 1 alone where it is missing.
abbrev pub percent_numbers : Option Float → List ℕ
percent_numbers (Some p) = 1 ∷ to_bits binary32 p ∷ []
percent_numbers None = 1 ∷ []

-- What two words stand for, as numbers: the percentage, or 0 for a fault.
abbrev pub decoded_numbers : Option Reading → List ℕ
decoded_numbers (Some reading) = percent_numbers (percent_of reading)
decoded_numbers None = 0 ∷ []

-- A figure of a reading in percent or in grams that is taken: the bits of its value in percent.
abbrev pub value : ℕ → ℕ → ℕ → Figure
value kind bits percent = record { found = decoded_numbers (decode kind bits); stated = 1 ∷ percent ∷ [] }

-- A figure of two words that stand for a missing reading.
abbrev pub missing : ℕ → ℕ → Figure
missing kind bits = record { found = decoded_numbers (decode kind bits); stated = 1 ∷ [] }

-- A figure of faulty readings, each given as (kind, bits).
abbrev pub unread : List (ℕ × ℕ) → Figure
unread pairs = record { found = flat_map (λ p. decoded_numbers (decode p.0 p.1)) pairs; stated = replicate (length pairs) 0 }

-- What a zone's range shows, as numbers: the verdict, then 1 with the bits of low and high, or 0
-- where there is neither.
abbrev pub range_numbers : ZoneRange → List ℕ
range_numbers (Ok (Some r)) = TAKEN ∷ ANCESTORS ∷ 0 ∷ 1 ∷ to_bits binary32 r.low ∷ to_bits binary32 r.high ∷ []
range_numbers (Ok None) = TAKEN ∷ ANCESTORS ∷ 0 ∷ 0 ∷ []
range_numbers (Err v) = verdict_numbers v ++ (0 ∷ [])

-- What a zone shows whose readings go from one value to another, both given by their bits.
abbrev pub from_to : ℕ → ℕ → List ℕ
from_to low high = TAKEN ∷ ANCESTORS ∷ 0 ∷ 1 ∷ low ∷ high ∷ []

-- What a zone shows in which no sample has a reading.
abbrev pub no_reading : List ℕ
no_reading = TAKEN ∷ ANCESTORS ∷ 0 ∷ 0 ∷ []

-- What a refused question about a zone shows.
abbrev pub refusal : ℕ → ℕ → List ℕ
refusal answer index = answer ∷ ANCESTORS ∷ index ∷ 0 ∷ []

-- A figure of the range of a zone, which is given by its index.
abbrev pub range : Nodes → Nodes → List ℕ → ℕ → List ℕ → Figure
range zones samples readings zone stated =
    record { found = range_numbers (zone_range (words zones) (words samples) readings zone); stated = stated }

-- Readings of S: 4.5 percent and 38 grams.
abbrev pub R : List ℕ
R = PERCENT ∷ 1083179008 ∷ GRAMS ∷ 1108869120 ∷ []

-- Readings of T: 10, 20 and 30 percent.
abbrev pub ten_to_thirty : List ℕ
ten_to_thirty = PERCENT ∷ 1092616192 ∷ PERCENT ∷ 1101004800 ∷ PERCENT ∷ 1106247680 ∷ []

-- Readings of S, of which the second is of kind 3, which isn't there.
abbrev pub second_faulty : List ℕ
second_faulty = PERCENT ∷ 1083179008 ∷ 3 ∷ 0 ∷ []

-- The word that fills an output before a sheet or pages are written into it.
abbrev pub UNTOUCHED : ℕ
UNTOUCHED = 4294967295

-- What the call for a sheet shows, with an output of `room` words: the verdict, the number of
-- zones, and the output.
abbrev pub sheet_numbers : List ℕ → List ℕ → List ℕ → ℕ → List ℕ
sheet_numbers zones samples hundredths room =
    let out : List ℕ = replicate room UNTOUCHED in
    let r = sheet_of zones samples hundredths out in
    verdict_numbers r.verdict ++ (r.count ∷ sheet_output zones samples hundredths out)

-- What a refused call for a sheet shows, with an output of `room` words.
abbrev pub no_sheet : ℕ → ℕ → ℕ → ℕ → List ℕ
no_sheet room answer list index = answer ∷ list ∷ index ∷ 0 ∷ replicate room UNTOUCHED

-- The words of subtotals, each given as (samples, present, sum).
abbrev pub subtotals : List (ℕ × ℕ × ℕ) → List ℕ
subtotals [] = []
subtotals (t ∷ ts) = t.0 ∷ t.1 ∷ t.2 ∷ subtotals ts

-- A figure of a sheet, with an output that has `spare` words beyond it.
abbrev pub sheet : List ℕ → List ℕ → List ℕ → List (ℕ × ℕ × ℕ) → ℕ → Figure
sheet zones samples hundredths stated spare = record {
  found = sheet_numbers zones samples hundredths (SUBTOTAL_WORDS * length stated + spare);
  stated = TAKEN ∷ ANCESTORS ∷ 0 ∷ length stated ∷ subtotals stated ++ replicate spare UNTOUCHED;
}

-- A figure of a sheet that is refused, with an output of `room` words: the answer, the list and the
-- index.
abbrev pub unwritten : List ℕ → List ℕ → List ℕ → ℕ → ℕ → ℕ → ℕ → Figure
unwritten zones samples hundredths room answer list index =
    record { found = sheet_numbers zones samples hundredths room; stated = no_sheet room answer list index }

-- A figure of faulty words, each tried as the word of the first sample of S and of the second, with
-- an output of `room` words.
abbrev pub misread : List ℕ → ℕ → List ℕ → Figure
misread zones room faulties = record {
  found =
      flat_map (λ w. sheet_numbers zones (words S) (w ∷ 450 ∷ []) room ++ sheet_numbers zones (words S) (450 ∷ w ∷ []) room) faulties;
  stated = flat_map (λ w. no_sheet room READING ANCESTORS 0 ++ no_sheet room READING ANCESTORS 1) faulties;
}

-- The faulty words right beside sound ones, and the greatest word.
abbrev pub faulty_hundredths : List ℕ
faulty_hundredths = 10001 ∷ 65534 ∷ 65536 ∷ 4294967295 ∷ []

-- Zones one inside the other that end at 200, as many as the second number says. The first is of
-- this level, and the level rises by one from each to the next.
abbrev pub nest : ℕ → ℕ → Nodes
nest level zero = []
nest level (suc n) = (2 * level, 200, level) ∷ nest (level + 1) n

-- A sample in each of these zones that isn't inside the next.
abbrev pub one_in_each : ℕ → ℕ → Nodes
one_in_each level zero = []
one_in_each level (suc n) = (2 * level + 1, 2 * level + 1, level + 1) ∷ one_in_each (level + 1) n

-- Subtotals of samples whose word is 1: those of this many samples, of one less, and so on to 0.
abbrev pub down_from : ℕ → List (ℕ × ℕ × ℕ)
down_from zero = (0, 0, 0) ∷ []
down_from (suc n) = (suc n, suc n, suc n) ∷ down_from n

-- The bytes of a book of lists, each given with its tag.
abbrev pub book_of : List (ℕ × Nodes) → List ℕ
book_of lists = bytes_for (flat_map (λ l. l.0 ∷ length l.1 ∷ []) lists) (flat_map (λ l. words l.1) lists)

-- Empty lists, `count` of them, under tags that go on after `tag`.
abbrev pub empty_after : ℕ → ℕ → List (ℕ × Nodes)
empty_after tag zero = []
empty_after tag (suc count) = (suc tag, []) ∷ empty_after (suc tag) count

-- The bytes that stand for such lists in a book's contents. For each there are the tag, the book's
-- `size` as the place of its body, and no nodes. Tags are below 256, and the size below 65,536.
abbrev pub empty_entries : ℕ → ℕ → ℕ → List ℕ
empty_entries size tag zero = []
empty_entries size tag (suc count) =
    suc tag ∷ 0 ∷ 0 ∷ 0 ∷ (size % 256) ∷ (size / 256) ∷ 0 ∷ 0 ∷ 0 ∷ 0 ∷ 0 ∷ 0 ∷ empty_entries size (suc tag) count

-- What is found of `count` empty lists where a book may have up to `most`. Opening their book,
-- which is made without a check, gives a verdict and a number of lists. Writing it gives a verdict,
-- a number of bytes, and the output, which has room for one byte more.
abbrev pub empty_lists : ℕ → ℕ → List ℕ
empty_lists most count =
    let entries = flat_map (λ l. l.0 ∷ 0 ∷ []) (empty_after 0 count) in
    let book = book_of (empty_after 0 count) in
    let out : List ℕ = replicate (length book + 1) UNTOUCHED in
    let o = check_book_up_to most book in
    let w = written_of_up_to most entries [] out in
    verdict_numbers o.verdict ++ (o.lists ∷ verdict_numbers w.verdict ++ (w.count ∷ written_output_up_to most entries [] out))

-- A figure of empty lists that are read and written, with their book's number of bytes,
abbrev pub many_taken : ℕ → ℕ → ℕ → Figure
many_taken most count size = record {
  found = empty_lists most count;
  stated =
      TAKEN ∷ ANCESTORS ∷ 0 ∷ count ∷ TAKEN ∷ ANCESTORS ∷ 0 ∷ size ∷ count ∷ 0 ∷ 0 ∷ 0 ∷ empty_entries size 0 count ++ (UNTOUCHED ∷ []);
}

-- and of empty lists that are refused in both.
abbrev pub many_refused : ℕ → ℕ → ℕ → Figure
many_refused most count size = record {
  found = empty_lists most count;
  stated = CONTENTS ∷ ANCESTORS ∷ 0 ∷ 0 ∷ CONTENTS ∷ ANCESTORS ∷ 0 ∷ 0 ∷ replicate (size + 1) UNTOUCHED;
}

-- The scope's book: Z and S under their tags, and under 4 a list that is JOINT with Z.
abbrev pub B : List ℕ
B = book_of ((2, Z) ∷ (3, S) ∷ (4, (4, 12, 2) ∷ []) ∷ [])

-- The words of a question with two tags and a fresh ticket, by a relation and in an order.
abbrev pub freshly : ℕ → ℕ → ℕ → ℕ → List ℕ
freshly relation order ancestors descendants = ancestors ∷ descendants ∷ relation ∷ order ∷ 0 ∷ 0 ∷ 0 ∷ 0 ∷ []

-- The same by inside, in descendant order.
abbrev pub asks : ℕ → ℕ → List ℕ
asks ancestors descendants = freshly 0 0 ancestors descendants

-- The same with a ticket that stands before all pairs of document 5.
abbrev pub placed : ℕ → ℕ → List ℕ
placed ancestors descendants = ancestors ∷ descendants ∷ 0 ∷ 0 ∷ 1 ∷ 5 ∷ 0 ∷ 0 ∷ []

-- A page as numbers: the verdict, done, the count, and the six words of its ticket.
abbrev pub page_numbers : PageWords → List ℕ
page_numbers p =
    let t = p.ticket in
    verdict_numbers p.verdict ++ (p.done ∷ p.count ∷ t.relation ∷ t.order ∷ t.placed ∷ t.document ∷ t.first ∷ t.second ∷ [])

-- What a page shows that reached the place after a pair of document 5, by the starts of its leader
-- and its follower. The question asks by a relation and in an order.
abbrev pub reached_page : ℕ → ℕ → ℕ → ℕ → ℕ → ℕ → List ℕ
reached_page relation order done count leader follower = TAKEN ∷ ANCESTORS ∷ 0 ∷ done ∷ count ∷ relation ∷ order ∷ 1 ∷ 5 ∷ leader ∷ follower ∷ []

-- The same by inside, in descendant order.
abbrev pub page_up_to : ℕ → ℕ → ℕ → ℕ → List ℕ
page_up_to done count leader follower = reached_page 0 0 done count leader follower

-- What a page shows that hands out nothing, for a question with a fresh ticket,
abbrev pub empty_page : ℕ → ℕ → ℕ → List ℕ
empty_page answer list index = answer ∷ list ∷ index ∷ 0 ∷ 0 ∷ 0 ∷ 0 ∷ 0 ∷ 0 ∷ 0 ∷ 0 ∷ []

-- and for one with a ticket that stands before all pairs of document 5.
abbrev pub kept_page : ℕ → ℕ → ℕ → List ℕ
kept_page answer list index = answer ∷ list ∷ index ∷ 0 ∷ 0 ∷ 0 ∷ 0 ∷ 1 ∷ 5 ∷ 0 ∷ 0 ∷ []

-- A figure of several questions to a book, with an output that has `spare` words beyond the pairs
-- stated. It shows the whole call's answer, how many questions it answers, the first pages, and the
-- output: the pairs in it by their starts, and the words after them.
abbrev pub batch : List ℕ → List (List ℕ) → ℕ → ℕ → ℕ → List (List ℕ) → List (ℕ × ℕ) → Figure
batch book questions spare answer count pages pairs =
    let out : List ℕ = replicate (PAIR_WORDS * length pairs + spare) UNTOUCHED in
    let lent = flat_map (λ q. q) questions in
    let r = ask_of book lent out in
    let last = ask_output book lent out in
    record {
      found =
          r.answer ∷ r.questions ∷ flat_map page_numbers (take (length pages) r.pages)
          ++ starts (map (λ p. (p.ancestor.start, p.descendant.start)) (pairs_in (nodes (take (PAIR_WORDS * length pairs) last))))
          ++ drop (PAIR_WORDS * length pairs) last;
      stated = answer ∷ count ∷ flat_map (λ p. p) pages ++ starts pairs ++ replicate spare UNTOUCHED;
    }

-- The links of Z and of S.
abbrev pub links_of_z : List ℕ
links_of_z = NONE ∷ 1 ∷ NONE ∷ 0 ∷ NONE ∷ NONE ∷ []

abbrev pub links_of_s : List ℕ
links_of_s = NONE ∷ NONE ∷ 1 ∷ NONE ∷ NONE ∷ NONE ∷ []

-- A figure of the check of links for a list, with an answer that points at no node.
abbrev pub told : List ℕ → List ℕ → ℕ → Figure
told list links answer = record { found = verdict_numbers (check_links list links); stated = answer ∷ ANCESTORS ∷ 0 ∷ [] }

-- A figure of the links of Z with `word` put at each place in turn, and the check's answer to each.
abbrev pub altered : ℕ → List ℕ → Figure
altered word answers = record {
  found = flat_map (λ place. (check_links (words Z) (set links_of_z place word)).answer ∷ []) (0 ∷ 1 ∷ 2 ∷ 3 ∷ 4 ∷ 5 ∷ []);
  stated = answers;
}

-- A page call with these lists, what it is lent as links, and room for `room` pairs.
abbrev pub lent_call : ℕ → List ℕ → List ℕ → Lent → LentCall
lent_call room ancestors descendants links =
    record { call = record { ancestors = ancestors; descendants = descendants; out = replicate (PAIR_WORDS * room) UNTOUCHED }; links = links }

-- What such a call shows, as numbers: as for a plain call, and then the words of the output after
-- the pairs.
abbrev pub seen_lent : Ticket → LentCall → List ℕ
seen_lent t k =
    (answer_lent t k).verdict.answer ∷ (answer_lent t k).count
    ∷ starts (map (λ p. (p.ancestor.start, p.descendant.start)) (shown_lent t k)) ++ (cond (answer_lent t k).done 1 0 ∷ [])
    ++ drop (PAIR_WORDS * (answer_lent t k).count) (output_lent t k)

-- What a sequence of such calls shows, in which each takes the ticket that the last one returned.
abbrev pub seen_through_lent : Ticket → List LentCall → List ℕ
seen_through_lent t [] = []
seen_through_lent t (k ∷ ks) = seen_lent t k ++ seen_through_lent (answer_lent t k).ticket ks

-- A figure of page calls, plain or lent links, that start with a fresh ticket.
abbrev pub jumps : Relation → Order → List LentCall → List ℕ → Figure
jumps relation order ks stated = record { found = seen_through_lent (ticket_at (asked relation order) Fresh) ks; stated = stated }

-- What a page call shows that is refused with this answer and has room for `room` pairs.
abbrev pub untouched : ℕ → ℕ → List ℕ
untouched answer room = shows answer [] 0 ++ replicate (PAIR_WORDS * room) UNTOUCHED

-- The table. A row's number and its meaning stand right above the row. A float is given by its
-- bits, and the line above says which number that is.
unfoldable pub figures : List Figure
figures =
    -- 1: a start at an end crosses.
    one ((1, 5, 1) ∷ (5, 7, 2) ∷ []) CROSS 1
    -- 2: zones side by side are taken.
    ∷ one ((1, 5, 1) ∷ (6, 7, 1) ∷ []) TAKEN 0
    -- 3: a zone that ends where the zone around it ends is taken.
    ∷ one ((1, 9, 1) ∷ (7, 9, 2) ∷ []) TAKEN 0
    -- 4: a zone that ends before the zone around it ends is taken.
    ∷ one ((1, 9, 1) ∷ (7, 8, 2) ∷ []) TAKEN 0
    -- 5: an inner level that is no deeper.
    ∷ one ((1, 9, 3) ∷ (2, 3, 3) ∷ []) DEPTH 1
    -- 6: level 64 is taken.
    ∷ one ((2, 2, 64) ∷ []) TAKEN 0
    -- 7: level 65 is refused.
    ∷ one ((2, 2, 65) ∷ []) LEVEL 0
    -- 8: nodes of two lists that cross.
    ∷ two ((1, 9, 1) ∷ []) ((4, 12, 2) ∷ []) JOINT
    -- 9: inside, descendant order. Shortcut 1 joins only with the innermost open zone and loses
    -- pair 2-4. Shortcut 2 leaves a zone when the ancestors run out and loses pair 2-8.
    ∷ page Inside Descendant (3 ∷ []) Z S (done ((2, 4) ∷ (3, 4) ∷ (2, 8) ∷ []))
    -- 10: inside, ancestor order. Shortcut 4 prints the pairs in the order found, as in row 9.
    ∷ page Inside Ancestor (3 ∷ []) Z S (done ((2, 4) ∷ (2, 8) ∷ (3, 4) ∷ []))
    -- 11: directly inside, descendant order.
    ∷ page Directly Descendant (2 ∷ []) Z S (done ((3, 4) ∷ (2, 8) ∷ []))
    -- 12: directly inside, ancestor order.
    ∷ page Directly Ancestor (2 ∷ []) Z S (done ((2, 8) ∷ (3, 4) ∷ []))
    -- 13: two pages with room for two pairs each.
    ∷ page Inside Descendant (2 ∷ 2 ∷ []) Z S (not_done ((2, 4) ∷ (3, 4) ∷ []) ++ done ((2, 8) ∷ []))
    -- 14: a list joined with itself.
    ∷ page Inside Descendant (3 ∷ []) Z Z (done ((2, 3) ∷ []))
    -- 15: a refused page keeps its ticket.
    ∷ refused Inside Descendant 4 2 ((1, 9, 1) ∷ []) ((4, 12, 2) ∷ []) JOINT
    -- 16: two empty lists.
    ∷ page Inside Descendant (1 ∷ []) [] [] (done [])
    -- 17: inside, with a level left out: the ancestors have no node of level 3.
    ∷ page Inside Descendant (1 ∷ []) ((2, 10, 2) ∷ []) ((4, 6, 4) ∷ []) (done ((2, 4) ∷ []))
    -- 18: directly inside, with a level left out, descendant order. Shortcut 3 takes "directly" for
    -- "innermost in the list" and hands out pair 2-4.
    ∷ page Directly Descendant (1 ∷ []) ((2, 10, 2) ∷ []) ((4, 6, 4) ∷ []) (done [])
    -- 19: directly inside, with a level left out, ancestor order.
    ∷ page Directly Ancestor (1 ∷ []) ((2, 10, 2) ∷ []) ((4, 6, 4) ∷ []) (done [])
    -- 20: a removal between two pages. Shortcut 5 keeps an index as the place and loses pair 2-8.
    ∷ calls Inside Descendant (call 2 Z S ∷ call 2 Z ((8, 9, 3) ∷ []) ∷ []) (not_done ((2, 4) ∷ (3, 4) ∷ []) ++ done ((2, 8) ∷ []))
    -- 21: an insertion between two pages. Shortcut 5 hands out pair 2-8 twice.
    ∷ calls Inside Ancestor (call 2 Z S ∷ call 2 Z ((4, 6, 4) ∷ (5, 5, 5) ∷ (8, 9, 3) ∷ []) ∷ [])
    (not_done ((2, 4) ∷ (2, 8) ∷ []) ++ done ((3, 4) ∷ (3, 5) ∷ []))
    -- 22: a node in both lists. Shortcut 6 takes it for JOINT, or for its own ancestor.
    ∷ page Inside Descendant (4 ∷ []) Z ((3, 7, 3) ∷ (4, 6, 4) ∷ []) (done ((2, 3) ∷ (2, 4) ∷ (3, 4) ∷ []))
    -- 23: eleven marks numbered.
    ∷ number eleven_marks six_rows
    -- 24: six rows turned back into marks.
    ∷ back six_rows eleven_marks
    -- 25: tag 2 picked.
    ∷ pick six_rows 2 Z
    -- 26: tag 3 picked.
    ∷ pick six_rows 3 S
    -- 27: the links of Z.
    ∷ links Z (NONE ∷ 1 ∷ NONE ∷ 0 ∷ NONE ∷ NONE ∷ [])
    -- 28: a close without an open.
    ∷ faulty (0 ∷ []) STRAY
    -- 29: no marks at all.
    ∷ faulty [] UNCLOSED
    -- 30: a second root.
    ∷ faulty (1 ∷ 0 ∷ 1 ∷ 0 ∷ []) STRAY
    -- 31: 100 percent is taken.
    ∷ value PERCENT 1120403456 1120403456
    -- 32: the next float above 100 percent is refused.
    ∷ unread ((PERCENT, 1120403457) ∷ [])
    -- 33: 1,000 grams are taken and are 100 percent.
    ∷ value GRAMS 1148846080 1120403456
    -- 34: the next float above 1,000 grams is refused.
    ∷ unread ((GRAMS, 1148846081) ∷ [])
    -- 35: 0 percent is taken.
    ∷ value PERCENT 0 0
    -- 36: the least float above zero is taken as percent.
    ∷ value PERCENT 1 1
    -- 37: as grams it is taken too, and its tenth is rounded to 0.
    ∷ value GRAMS 1 0
    -- 38: minus zero percent is taken and keeps its sign.
    ∷ value PERCENT 2147483648 2147483648
    -- 39: the same for minus zero grams.
    ∷ value GRAMS 2147483648 2147483648
    -- 40: 38 grams are 3.8 percent, rounded to the nearest float.
    ∷ value GRAMS 1108869120 1081291571
    -- 41: 42 grams are 4.2 percent. Multiplied by 0.1 they would give the next float above.
    ∷ value GRAMS 1109917696 1082549862
    -- 42: a missing reading.
    ∷ missing MISSING 0
    -- 43: a missing reading with the bits 1 is refused.
    ∷ unread ((MISSING, 1) ∷ [])
    -- 44: the greatest float below zero is refused.
    ∷ unread ((PERCENT, 2147483649) ∷ (GRAMS, 2147483649) ∷ [])
    -- 45: the greatest finite float is refused.
    ∷ unread ((PERCENT, 2139095039) ∷ (GRAMS, 2139095039) ∷ [])
    -- 46: both infinities are refused.
    ∷ unread ((PERCENT, 2139095040) ∷ (GRAMS, 2139095040) ∷ (PERCENT, 4286578688) ∷ (GRAMS, 4286578688) ∷ [])
    -- 47: NaNs without a sign are refused.
    ∷ unread ((PERCENT, 2139095041) ∷ (PERCENT, 2143289344) ∷ (PERCENT, 2147483647) ∷ (GRAMS, 2143289344) ∷ [])
    -- 48: NaNs with a sign are refused.
    ∷ unread ((PERCENT, 4286578689) ∷ (PERCENT, 4290772992) ∷ (PERCENT, 4294967295) ∷ (GRAMS, 4290772992) ∷ [])
    -- 49: the kinds 3 and 4,294,967,295 are refused.
    ∷ unread ((3, 0) ∷ (4294967295, 0) ∷ [])
    -- 50: the first zone of Z holds both samples: from 3.8 to 4.5 percent.
    ∷ range Z S R 0 (from_to 1081291571 1083179008)
    -- 51: the zone inside it holds the first sample alone: 4.5 percent is low and high.
    ∷ range Z S R 1 (from_to 1083179008 1083179008)
    -- 52: both readings are missing, and the first zone has none.
    ∷ range Z S (MISSING ∷ 0 ∷ MISSING ∷ 0 ∷ []) 0 no_reading
    -- 53: the first reading is missing, and the second is the first zone's low and high.
    ∷ range Z S (MISSING ∷ 0 ∷ GRAMS ∷ 1108869120 ∷ []) 0 (from_to 1081291571 1081291571)
    -- 54: the zone inside it then has no reading, and never a 0.
    ∷ range Z S (MISSING ∷ 0 ∷ GRAMS ∷ 1108869120 ∷ []) 1 no_reading
    -- 55: of minus zero and zero, which are equal, the first is low and high.
    ∷ range Z S (PERCENT ∷ 2147483648 ∷ PERCENT ∷ 0 ∷ []) 0 (from_to 2147483648 2147483648)
    -- 56: the same for zero and minus zero.
    ∷ range Z S (PERCENT ∷ 0 ∷ PERCENT ∷ 2147483648 ∷ []) 0 (from_to 0 0)
    -- 57: a faulty reading refuses, though its sample isn't inside the zone.
    ∷ range Z S second_faulty 1 (refusal READING 1)
    -- 58: READING comes before ABSENT.
    ∷ range Z S second_faulty 2 (refusal READING 1)
    -- 59: Z has no zone at index 2.
    ∷ range Z S R 2 (refusal ABSENT 0)
    -- 60: one reading too few.
    ∷ range Z S (PERCENT ∷ 1083179008 ∷ []) 0 (refusal RAGGED 0)
    -- 61: one word too many.
    ∷ range Z S (R ++ (0 ∷ [])) 0 (refusal RAGGED 0)
    -- 62: one reading too many.
    ∷ range Z S (R ++ (MISSING ∷ 0 ∷ [])) 0 (refusal RAGGED 0)
    -- 63: RAGGED comes before READING.
    ∷ range Z S (3 ∷ 0 ∷ []) 0 (refusal RAGGED 0)
    -- 64: a sample that stands in both lists. The first zone holds both, 10 and 20 percent.
    ∷ range Z ((3, 7, 3) ∷ (4, 6, 4) ∷ []) (PERCENT ∷ 1092616192 ∷ PERCENT ∷ 1101004800 ∷ []) 0 (from_to 1092616192 1101004800)
    -- 65: that sample isn't inside itself: as a zone it holds 20 percent alone.
    ∷ range Z ((3, 7, 3) ∷ (4, 6, 4) ∷ []) (PERCENT ∷ 1092616192 ∷ PERCENT ∷ 1101004800 ∷ []) 1 (from_to 1101004800 1101004800)
    -- 66: no samples at all.
    ∷ range Z [] [] 0 no_reading
    -- 67: no zones at all.
    ∷ range [] S R 0 (refusal ABSENT 0)
    -- 68: JOINT comes before RAGGED.
    ∷ range ((1, 9, 1) ∷ []) ((4, 12, 2) ∷ []) [] 0 (refusal JOINT 0)
    -- 69: ranges and points by order and size, descendant order.
    ∷ page Inside Descendant (5 ∷ []) ranges points (done ((1, 2) ∷ (1, 5) ∷ (4, 5) ∷ (1, 8) ∷ (7, 8) ∷ []))
    -- 70: the same in ancestor order.
    ∷ page Inside Ancestor (5 ∷ []) ranges points (done ((1, 2) ∷ (1, 5) ∷ (1, 8) ∷ (4, 5) ∷ (7, 8) ∷ []))
    -- 71: three zones that end at one position, and a sample there: inside, descendant order.
    ∷ page Inside Descendant (7 ∷ []) E T (done ((1, 3) ∷ (2, 3) ∷ (1, 6) ∷ (2, 6) ∷ (4, 6) ∷ (5, 6) ∷ (1, 9) ∷ []))
    -- 72: inside, ancestor order.
    ∷ page Inside Ancestor (7 ∷ []) E T (done ((1, 3) ∷ (1, 6) ∷ (1, 9) ∷ (2, 3) ∷ (2, 6) ∷ (4, 6) ∷ (5, 6) ∷ []))
    -- 73: directly inside, descendant order.
    ∷ page Directly Descendant (3 ∷ []) E T (done ((2, 3) ∷ (5, 6) ∷ (1, 9) ∷ []))
    -- 74: directly inside, ancestor order.
    ∷ page Directly Ancestor (3 ∷ []) E T (done ((1, 9) ∷ (2, 3) ∷ (5, 6) ∷ []))
    -- 75: a page that stops between two of these zones, descendant order.
    ∷ page Inside Descendant (4 ∷ 4 ∷ []) E T (not_done ((1, 3) ∷ (2, 3) ∷ (1, 6) ∷ (2, 6) ∷ []) ++ done ((4, 6) ∷ (5, 6) ∷ (1, 9) ∷ []))
    -- 76: the same in ancestor order.
    ∷ page Inside Ancestor (5 ∷ 5 ∷ []) E T (not_done ((1, 3) ∷ (1, 6) ∷ (1, 9) ∷ (2, 3) ∷ (2, 6) ∷ []) ++ done ((4, 6) ∷ (5, 6) ∷ []))
    -- 77: as in row 75, with the zone at which the page stopped removed before the next page.
    ∷ calls Inside Descendant (call 4 E T ∷ call 4 ((1, 9, 1) ∷ (4, 6, 3) ∷ (5, 6, 4) ∷ []) T ∷ [])
    (not_done ((1, 3) ∷ (2, 3) ∷ (1, 6) ∷ (2, 6) ∷ []) ++ done ((4, 6) ∷ (5, 6) ∷ (1, 9) ∷ []))
    -- 78: the links of E. Of the zones that end at 6 the innermost one around a zone is its parent.
    ∷ links E (NONE ∷ 1 ∷ NONE ∷ 0 ∷ 2 ∷ NONE ∷ 1 ∷ 3 ∷ NONE ∷ 2 ∷ NONE ∷ NONE ∷ [])
    -- 79: the outermost zone of E holds all samples, also the one at its end: 10 to 30 percent.
    ∷ range E T ten_to_thirty 0 (from_to 1092616192 1106247680)
    -- 80: the innermost zone holds the sample at its end alone: 20 percent.
    ∷ range E T ten_to_thirty 3 (from_to 1101004800 1101004800)
    -- 81: nodes of two lists that end at one position, the inner one at a higher level.
    ∷ two ((1, 9, 1) ∷ []) ((4, 9, 2) ∷ []) TAKEN
    -- 82: the same at equal levels.
    ∷ two ((1, 9, 1) ∷ []) ((4, 9, 1) ∷ []) JOINT
    -- 83: nodes of two lists that have start and end in common, and not the level.
    ∷ two ((1, 9, 1) ∷ []) ((1, 9, 2) ∷ []) JOINT
    -- 84: an inner zone with the same end and no deeper level.
    ∷ one ((1, 9, 2) ∷ (7, 9, 2) ∷ []) DEPTH 1
    -- 85: the tree of the ranges and points, as one list.
    ∷ tree example ((1, 9, 1) ∷ (2, 2, 2) ∷ (4, 6, 2) ∷ (5, 5, 3) ∷ (7, 9, 2) ∷ (8, 8, 3) ∷ [])
    -- 86: the sheet of Z and S: the first zone has both samples, and the second has one.
    ∷ sheet (words Z) (words S) (450 ∷ 380 ∷ []) ((2, 2, 830) ∷ (1, 1, 450) ∷ []) 0
    -- 87: the first reading is missing: its sample counts in both zones and adds nothing.
    ∷ sheet (words Z) (words S) (NO_HUNDREDTHS ∷ 380 ∷ []) ((2, 1, 380) ∷ (1, 0, 0) ∷ []) 0
    -- 88: the second reading is missing: only the first zone has its sample.
    ∷ sheet (words Z) (words S) (450 ∷ NO_HUNDREDTHS ∷ []) ((2, 1, 450) ∷ (1, 1, 450) ∷ []) 0
    -- 89: both readings are missing.
    ∷ sheet (words Z) (words S) (NO_HUNDREDTHS ∷ NO_HUNDREDTHS ∷ []) ((2, 0, 0) ∷ (1, 0, 0) ∷ []) 0
    -- 90: a sheet without samples.
    ∷ sheet (words Z) [] [] ((0, 0, 0) ∷ (0, 0, 0) ∷ []) 0
    -- 91: a sheet without zones writes nothing.
    ∷ sheet [] (words S) (450 ∷ 380 ∷ []) [] 3
    -- 92: a sheet without either, and an empty output.
    ∷ sheet [] [] [] [] 0
    -- 93: a sample outside every zone counts in none.
    ∷ sheet (words Z) (words (S ++ ((12, 12, 2) ∷ []))) (450 ∷ 380 ∷ 70 ∷ []) ((2, 2, 830) ∷ (1, 1, 450) ∷ []) 0
    -- 94: the zones as samples: the second counts in the first, and neither in itself.
    ∷ sheet (words Z) (words Z) (100 ∷ 20 ∷ []) ((1, 1, 20) ∷ (0, 0, 0) ∷ []) 0
    -- 95: a sample that is also a zone, with another sample inside it.
    ∷ sheet (words Z) (words ((3, 7, 3) ∷ (4, 6, 4) ∷ [])) (100 ∷ 20 ∷ []) ((2, 2, 120) ∷ (1, 1, 20) ∷ []) 0
    -- 96: a sample around both zones counts in neither.
    ∷ sheet (words Z) (words ((1, 11, 1) ∷ (4, 6, 4) ∷ [])) (100 ∷ 20 ∷ []) ((1, 1, 20) ∷ (1, 1, 20) ∷ []) 0
    -- 97: a sample between two zones counts in the outer one alone.
    ∷ sheet (words ((2, 10, 2) ∷ (4, 6, 4) ∷ [])) (words ((3, 7, 3) ∷ [])) (100 ∷ []) ((1, 1, 100) ∷ (0, 0, 0) ∷ []) 0
    -- 98: zones that end at one position, and a sample there.
    ∷ sheet (words E) (words T) (1000 ∷ 2000 ∷ 3000 ∷ []) ((3, 3, 6000) ∷ (2, 2, 3000) ∷ (1, 1, 2000) ∷ (1, 1, 2000) ∷ []) 0
    -- 99: zones six deep: each has its own sample and those of the zones inside it.
    ∷ sheet (words (nest 1 6)) (words (one_in_each 1 6)) (1 ∷ 2 ∷ 4 ∷ 8 ∷ 16 ∷ 32 ∷ [])
    ((6, 6, 63) ∷ (5, 5, 62) ∷ (4, 4, 60) ∷ (3, 3, 56) ∷ (2, 2, 48) ∷ (1, 1, 32) ∷ []) 0
    -- 100: zones 64 deep, the most that levels allow. The innermost can't have a sample.
    ∷ sheet (words (nest 1 64)) (words (one_in_each 1 63)) (replicate 63 1) (down_from 63) 0
    -- 101: zones of two documents.
    ∷ sheet (words Z ++ document_words 6 ((1, 8, 1) ∷ [])) (words S ++ document_words 6 ((2, 3, 2) ∷ (5, 6, 2) ∷ []))
    (NO_HUNDREDTHS ∷ 450 ∷ 380 ∷ 420 ∷ []) ((2, 1, 450) ∷ (1, 0, 0) ∷ (2, 2, 800) ∷ []) 0
    -- 102: samples of another document than the zones count in none.
    ∷ sheet (words Z) (document_words 6 S) (450 ∷ 380 ∷ []) ((0, 0, 0) ∷ (0, 0, 0) ∷ []) 0
    -- 103: the words 0 and 10,000 are taken, and both are present.
    ∷ sheet (words Z) (words S) (0 ∷ 10000 ∷ []) ((2, 2, 10000) ∷ (1, 1, 0) ∷ []) 0
    -- 104: 10,000 as the word of the first sample.
    ∷ sheet (words Z) (words S) (10000 ∷ 0 ∷ []) ((2, 2, 10000) ∷ (1, 1, 10000) ∷ []) 0
    -- 105: the other words are READING, with their index.
    ∷ misread (words Z) 6 faulty_hundredths
    -- 106: READING comes before ROOM.
    ∷ misread (words Z) 5 faulty_hundredths
    -- 107: READING where there are no zones.
    ∷ misread [] 0 faulty_hundredths
    -- 108: of two faulty words the first is named.
    ∷ unwritten (words Z) (words S) (10001 ∷ 65536 ∷ []) 6 READING ANCESTORS 0
    -- 109: a faulty word refuses, though its sample isn't inside any zone.
    ∷ unwritten (words Z) (words (S ++ ((12, 12, 2) ∷ []))) (450 ∷ 380 ∷ 10001 ∷ []) 6 READING ANCESTORS 2
    -- 110: an output that is one word too short.
    ∷ unwritten (words Z) (words S) (450 ∷ 380 ∷ []) 5 ROOM ANCESTORS 0
    -- 111: an output that is longer: the words beyond the sheet stay as they were.
    ∷ sheet (words Z) (words S) (450 ∷ 380 ∷ []) ((2, 2, 830) ∷ (1, 1, 450) ∷ []) 4
    -- 112: one word too few for the samples.
    ∷ unwritten (words Z) (words S) (450 ∷ []) 6 RAGGED ANCESTORS 0
    -- 113: one word too many.
    ∷ unwritten (words Z) (words S) (450 ∷ 380 ∷ 0 ∷ []) 6 RAGGED ANCESTORS 0
    -- 114: RAGGED comes before READING and before ROOM.
    ∷ unwritten (words Z) (words S) (10001 ∷ []) 5 RAGGED ANCESTORS 0
    -- 115: JOINT comes before RAGGED.
    ∷ unwritten (words ((1, 9, 1) ∷ [])) (words ((4, 12, 2) ∷ [])) [] 3 JOINT ANCESTORS 0
    -- 116: a fault of the samples' own list comes before RAGGED.
    ∷ unwritten (words Z) (words ((8, 9, 3) ∷ (4, 6, 4) ∷ [])) [] 6 ORDER DESCENDANTS 1
    -- 117: so does a fault of the zones' own list.
    ∷ unwritten (words ((3, 7, 3) ∷ (2, 10, 2) ∷ [])) (words S) [] 6 ORDER ANCESTORS 1
    -- 118: one question: the page and the pairs of a single call.
    ∷ batch B (asks 2 3 ∷ []) 0 TAKEN 1 (page_up_to 1 3 8 2 ∷ []) ((2, 4) ∷ (3, 4) ∷ (2, 8) ∷ [])
    -- 119: the same question twice.
    ∷ batch B (asks 2 3 ∷ asks 2 3 ∷ []) 0 TAKEN 2 (page_up_to 1 3 8 2 ∷ page_up_to 1 3 8 2 ∷ [])
    ((2, 4) ∷ (3, 4) ∷ (2, 8) ∷ (2, 4) ∷ (3, 4) ∷ (2, 8) ∷ [])
    -- 120: an output that is full after the first.
    ∷ batch B (asks 2 3 ∷ placed 2 3 ∷ []) 0 TAKEN 2 (page_up_to 1 3 8 2 ∷ kept_page TAKEN 0 0 ∷ []) ((2, 4) ∷ (3, 4) ∷ (2, 8) ∷ [])
    -- 121: an output that is full in the middle of the second.
    ∷ batch B (asks 2 3 ∷ asks 2 3 ∷ []) 0 TAKEN 2 (page_up_to 1 3 8 2 ∷ page_up_to 0 1 4 2 ∷ []) ((2, 4) ∷ (3, 4) ∷ (2, 8) ∷ (2, 4) ∷ [])
    -- 122: five words more, which make no room for another pair.
    ∷ batch B (asks 2 3 ∷ asks 2 3 ∷ []) 5 TAKEN 2 (page_up_to 1 3 8 2 ∷ page_up_to 0 1 4 2 ∷ []) ((2, 4) ∷ (3, 4) ∷ (2, 8) ∷ (2, 4) ∷ [])
    -- 123: a tag that isn't there, for the descendants of a question between two.
    ∷ batch B (asks 2 3 ∷ placed 2 5 ∷ asks 2 3 ∷ []) 0 TAKEN 3 (page_up_to 1 3 8 2 ∷ kept_page ABSENT 0 0 ∷ page_up_to 0 1 4 2 ∷ [])
    ((2, 4) ∷ (3, 4) ∷ (2, 8) ∷ (2, 4) ∷ [])
    -- 124: and for the ancestors.
    ∷ batch B (asks 5 3 ∷ asks 2 3 ∷ []) 2 TAKEN 2 (empty_page ABSENT 0 0 ∷ page_up_to 1 3 8 2 ∷ []) ((2, 4) ∷ (3, 4) ∷ (2, 8) ∷ [])
    -- 125: two lists that are JOINT, between two questions.
    ∷ batch B (asks 2 3 ∷ placed 2 4 ∷ asks 2 3 ∷ []) 0 TAKEN 3 (page_up_to 1 3 8 2 ∷ kept_page JOINT 0 0 ∷ page_up_to 0 1 4 2 ∷ [])
    ((2, 4) ∷ (3, 4) ∷ (2, 8) ∷ (2, 4) ∷ [])
    -- 126: one tag twice: Z joined with itself.
    ∷ batch B (asks 2 2 ∷ []) 0 TAKEN 1 (page_up_to 1 1 3 2 ∷ []) ((2, 3) ∷ [])
    -- 127: both relations and both orders.
    ∷ batch B (freshly 0 1 2 3 ∷ freshly 1 0 2 3 ∷ freshly 1 1 2 3 ∷ []) 0 TAKEN 3 (reached_page 0 1 1 3 3 4 ∷ reached_page 1 0 1 2 8 2 ∷ reached_page 1 1 1 2 3 4 ∷ [])
    ((2, 4) ∷ (2, 8) ∷ (3, 4) ∷ (3, 4) ∷ (2, 8) ∷ (2, 8) ∷ (3, 4) ∷ [])
    -- 128: a ticket that stands after 3-4.
    ∷ batch B ((2 ∷ 3 ∷ 0 ∷ 0 ∷ 1 ∷ 5 ∷ 4 ∷ 3 ∷ []) ∷ []) 0 TAKEN 1 (page_up_to 1 1 8 2 ∷ []) ((2, 8) ∷ [])
    -- 129: no question.
    ∷ batch B [] 8 TAKEN 0 (empty_page TAKEN 0 0 ∷ []) []
    -- 130: 32 questions.
    ∷ batch B (replicate 32 (placed 2 3)) 0 TAKEN 32 (replicate 32 (kept_page TAKEN 0 0)) []
    -- 131: 33 questions are LONG, and so is each of the first 32.
    ∷ batch B (replicate 33 (placed 2 3)) 8 LONG 0 (replicate 32 (kept_page LONG 0 0)) []
    -- 132: nine words are RAGGED, and so is the one question; the second page is zeros.
    ∷ batch B (placed 2 3 ∷ (2 ∷ []) ∷ []) 8 RAGGED 0 (kept_page RAGGED 0 0 ∷ empty_page TAKEN 0 0 ∷ []) []
    -- 133: RAGGED comes before LONG, and before a fault of the book.
    ∷ batch [] (replicate 33 (asks 2 3) ++ ((2 ∷ []) ∷ [])) 8 RAGGED 0 (replicate 32 (empty_page RAGGED 0 0)) []
    -- 134: LONG comes before a fault of the book.
    ∷ batch [] (replicate 33 (asks 2 3)) 8 LONG 0 (replicate 32 (empty_page LONG 0 0)) []
    -- 135: no bytes are no book: each question is CONTENTS.
    ∷ batch [] (asks 2 3 ∷ asks 2 2 ∷ []) 8 TAKEN 2 (empty_page CONTENTS 0 0 ∷ empty_page CONTENTS 0 0 ∷ []) []
    -- 136: a fault in a list that no question asks about, which comes before ABSENT.
    ∷ batch (book_of ((2, Z) ∷ (3, S) ∷ (7, (1, 9, 3) ∷ (2, 3, 3) ∷ []) ∷ [])) (placed 2 3 ∷ placed 2 5 ∷ []) 8 TAKEN 2
    (kept_page DEPTH 2 1 ∷ kept_page DEPTH 2 1 ∷ []) []
    -- 137: the links of Z are taken.
    ∷ told (words Z) links_of_z TAKEN
    -- 138: with 0 at each place in turn, only the fourth word, which is 0 already, leaves them
    -- right.
    ∷ altered 0 (LINKS ∷ LINKS ∷ LINKS ∷ TAKEN ∷ LINKS ∷ LINKS ∷ [])
    -- 139: the same with 1, which is the second word.
    ∷ altered 1 (LINKS ∷ TAKEN ∷ LINKS ∷ LINKS ∷ LINKS ∷ LINKS ∷ [])
    -- 140: and with the word for none.
    ∷ altered NONE (TAKEN ∷ LINKS ∷ TAKEN ∷ LINKS ∷ TAKEN ∷ TAKEN ∷ [])
    -- 141: the links of another list of two nodes.
    ∷ told (words Z) links_of_s LINKS
    -- 142: one word short.
    ∷ told (words Z) (take 5 links_of_z) LINKS
    -- 143: one word long.
    ∷ told (words Z) (links_of_z ++ (NONE ∷ [])) LINKS
    -- 144: no links for Z.
    ∷ told (words Z) [] LINKS
    -- 145: no links for an empty list.
    ∷ told [] [] TAKEN
    -- 146: one word for an empty list.
    ∷ told [] (NONE ∷ []) LINKS
    -- 147: a list that isn't accepted draws its own answer, whatever the words are.
    ∷ record { found = verdict_numbers (check_links (words ((1, 5, 1) ∷ (5, 7, 2) ∷ [])) []); stated = CROSS ∷ ANCESTORS ∷ 1 ∷ [] }
    -- 148: two documents with one root each: neither root comes next after the other.
    ∷ told (document_words 5 ((1, 9, 1) ∷ []) ++ document_words 6 ((1, 9, 1) ∷ [])) (replicate 6 NONE) TAKEN
    -- 149: next followed across documents.
    ∷ told (document_words 5 ((1, 9, 1) ∷ []) ++ document_words 6 ((1, 9, 1) ∷ [])) (set (replicate 6 NONE) 2 1) LINKS
    -- 150: lent the links of Z, the listing of Z and S, by inside in descendant order.
    ∷ jumps Inside Descendant (lent_call 3 (words Z) (words S) (lent links_of_z) ∷ []) (done ((2, 4) ∷ (3, 4) ∷ (2, 8) ∷ []))
    -- 151: in ancestor order.
    ∷ jumps Inside Ancestor (lent_call 3 (words Z) (words S) (lent links_of_z) ∷ []) (done ((2, 4) ∷ (2, 8) ∷ (3, 4) ∷ []))
    -- 152: directly inside, in descendant order.
    ∷ jumps Directly Descendant (lent_call 2 (words Z) (words S) (lent links_of_z) ∷ []) (done ((3, 4) ∷ (2, 8) ∷ []))
    -- 153: in ancestor order.
    ∷ jumps Directly Ancestor (lent_call 2 (words Z) (words S) (lent links_of_z) ∷ []) (done ((2, 8) ∷ (3, 4) ∷ []))
    -- 154: the only sample stands right after an inner zone, in descendant order.
    ∷ jumps Inside Descendant (lent_call 1 (words Z) (words ((8, 9, 3) ∷ [])) (lent links_of_z) ∷ []) (done ((2, 8) ∷ []))
    -- 155: and in ancestor order.
    ∷ jumps Inside Ancestor (lent_call 1 (words Z) (words ((8, 9, 3) ∷ [])) (lent links_of_z) ∷ []) (done ((2, 8) ∷ []))
    -- 156: room 2 with links, then the rest without.
    ∷ jumps Inside Descendant (lent_call 2 (words Z) (words S) (lent links_of_z) ∷ lent_call 1 (words Z) (words S) nothing ∷ [])
    (not_done ((2, 4) ∷ (3, 4) ∷ []) ++ done ((2, 8) ∷ []))
    -- 157: a call in between with links that aren't those of Z is refused, and changes nothing.
    ∷ jumps Inside Descendant
    (lent_call 2 (words Z) (words S) nothing ∷ lent_call 1 (words Z) (words S) (lent links_of_s) ∷ lent_call 1 (words Z) (words S) (lent links_of_z) ∷ [])
    (not_done ((2, 4) ∷ (3, 4) ∷ []) ++ untouched LINKS 1 ++ done ((2, 8) ∷ []))
    -- 158: JOINT comes before LINKS.
    ∷ jumps Inside Descendant (lent_call 1 (words ((1, 9, 1) ∷ [])) (words ((4, 12, 2) ∷ [])) (lent []) ∷ []) (untouched JOINT 1)
    -- 159: so does a fault of the descendants' own list.
    ∷ jumps Inside Descendant (lent_call 1 (words Z) (words ((8, 9, 3) ∷ (4, 6, 4) ∷ [])) (lent []) ∷ []) (untouched ORDER 1)
    -- 160: empty lists with empty links.
    ∷ jumps Inside Ancestor (lent_call 0 [] [] (lent []) ∷ []) (done [])
    -- 161: 16 empty lists are read and written.
    ∷ many_taken MOST_LISTS 16 196
    -- 162: so are 17,
    ∷ many_taken MOST_LISTS 17 208
    -- 163: and 64.
    ∷ many_taken MOST_LISTS 64 772
    -- 164: 65 are CONTENTS in both.
    ∷ many_refused MOST_LISTS 65 784
    -- 165: under the limit of earlier programs, 16 are read and written.
    ∷ many_taken EARLIER_LISTS 16 196
    -- 166: under that limit 17 are CONTENTS in both,
    ∷ many_refused EARLIER_LISTS 17 208
    -- 167: so are 64,
    ∷ many_refused EARLIER_LISTS 64 772
    -- 168: and 65.
    ∷ many_refused EARLIER_LISTS 65 784
    -- 169: Z and S as the first and the last of 64 lists.
    ∷ batch (book_of ((1, Z) ∷ empty_after 1 62 ++ ((64, S) ∷ []))) (asks 1 64 ∷ []) 8 TAKEN 1 (page_up_to 1 3 8 2 ∷ []) ((2, 4) ∷ (3, 4) ∷ (2, 8) ∷ [])
    ∷ []

-- Every row has found what is stated.
unfoldable pub heldb : List Figure → Bool
heldb [] = true
heldb (r ∷ rows) = equalb r.found r.stated && heldb rows
