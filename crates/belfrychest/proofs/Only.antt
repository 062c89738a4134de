-- Why it holds: Each contract equates the answer, and the output where there is one, with a
-- definition, and two things that equal a third are equal.
-- What would break it: A contract that left a field of the answer or a word of the output open
-- would be caught here.
use mathlib.Core.Path.{◌≡◌}
use Rattle.laws.proofs.Only.{only}
use Rattle.belfrychest.proofs.ask.belfry_ask.Reads as asking
use Rattle.belfrychest.proofs.book.belfry_book_body.Reads as book-body
use Rattle.belfrychest.proofs.book.belfry_book_check.Reads as book-check
use Rattle.belfrychest.proofs.book.belfry_book_write.Reads as book-write
use Rattle.belfrychest.proofs.lent.belfry_links_check.Reads as links-check
use Rattle.belfrychest.proofs.lent.belfry_list_linked.Reads as list-linked
use Rattle.belfrychest.proofs.list.belfry_check.Reads as check
use Rattle.belfrychest.proofs.list.belfry_check_two.Reads as check-two
use Rattle.belfrychest.proofs.list.belfry_faulty.Reads as faulty
use Rattle.belfrychest.proofs.name.belfry_name.Reads as name
use Rattle.belfrychest.proofs.page.belfry_list.Reads as list
use Rattle.belfrychest.proofs.range.BelfryRangeFromResultOptionRangeFault.from.Reads as range-from
use Rattle.belfrychest.proofs.range.belfry_zone_range.Reads as zone-range
use Rattle.belfrychest.proofs.sheet.belfry_sheet.Reads as sheet
use Rattle.belfrychest.proofs.table.belfry_links.Reads as links
use Rattle.belfrychest.proofs.table.belfry_number.Reads as number
use Rattle.belfrychest.proofs.table.belfry_pick.Reads as pick
use Rattle.belfrychest.proofs.table.belfry_unnumber.Reads as unnumber
use Rattle.belfrychest.proofs.version.belfry_version.Reads as version

pub check_only : (κs : _) (a : _) (r r' : _) (s s' : _) → check.Post κs a r s → check.Post κs a r' s' → r ≡ r'
check_only κs a r r' s s' p q = only p q

pub check_two_only : (κs : _) (a : _) (r r' : _) (s s' : _) → check-two.Post κs a r s → check-two.Post κs a r' s' → r ≡ r'
check_two_only κs a r r' s s' p q = only p q

pub faulty_only : (κs : _) (a : _) (r r' : _) (s s' : _) → faulty.Post κs a r s → faulty.Post κs a r' s' → r ≡ r'
faulty_only κs a r r' s s' p q = only p q

pub book_check_only : (κs : _) (a : _) (r r' : _) (s s' : _) → book-check.Post κs a r s → book-check.Post κs a r' s' → r ≡ r'
book_check_only κs a r r' s s' p q = only p q

pub book_body_only : (κs : _) (a : _) (r r' : _) (s s' : _) → book-body.Post κs a r s → book-body.Post κs a r' s' → r ≡ r'
book_body_only κs a r r' s s' p q = only p q

pub name_only : (κs : _) (a : _) (r r' : _) (s s' : _) → name.Post κs a r s → name.Post κs a r' s' → s.1.0.now ≡ s'.1.0.now
name_only κs a r r' s s' p q = only p q

pub list_only : (κs : _) (a : _) (r r' : _) (s s' : _) → list.Post κs a r s → list.Post κs a r' s'
    → (s.1.1.1.0.now ≡ s'.1.1.1.0.now) × (r ≡ r')
list_only κs a r r' s s' p q = (only p.output q.output, only p.answer q.answer)

pub number_only : (κs : _) (a : _) (r r' : _) (s s' : _) → number.Post κs a r s → number.Post κs a r' s'
    → (s.1.1.0.now ≡ s'.1.1.0.now) × (r ≡ r')
number_only κs a r r' s s' p q = (only p.output q.output, only p.answer q.answer)

pub unnumber_only : (κs : _) (a : _) (r r' : _) (s s' : _) → unnumber.Post κs a r s → unnumber.Post κs a r' s'
    → (s.1.0.now ≡ s'.1.0.now) × (r ≡ r')
unnumber_only κs a r r' s s' p q = (only p.output q.output, only p.answer q.answer)

pub pick_only : (κs : _) (a : _) (r r' : _) (s s' : _) → pick.Post κs a r s → pick.Post κs a r' s'
    → (s.1.1.0.now ≡ s'.1.1.0.now) × (r ≡ r')
pick_only κs a r r' s s' p q = (only p.output q.output, only p.answer q.answer)

pub links_only : (κs : _) (a : _) (r r' : _) (s s' : _) → links.Post κs a r s → links.Post κs a r' s'
    → (s.1.0.now ≡ s'.1.0.now) × (r ≡ r')
links_only κs a r r' s s' p q = (only p.output q.output, only p.answer q.answer)

pub links_check_only : (κs : _) (a : _) (r r' : _) (s s' : _) → links-check.Post κs a r s → links-check.Post κs a r' s' → r ≡ r'
links_check_only κs a r r' s s' p q = only p q

pub list_linked_only : (κs : _) (a : _) (r r' : _) (s s' : _) → list-linked.Post κs a r s → list-linked.Post κs a r' s'
    → (s.1.1.1.1.0.now ≡ s'.1.1.1.1.0.now) × (r ≡ r')
list_linked_only κs a r r' s s' p q = (only p.output q.output, only p.answer q.answer)

pub book_write_only : (κs : _) (a : _) (r r' : _) (s s' : _) → book-write.Post κs a r s → book-write.Post κs a r' s'
    → (s.1.1.0.now ≡ s'.1.1.0.now) × (r ≡ r')
book_write_only κs a r r' s s' p q = (only p.output q.output, only p.answer q.answer)

pub version_only : (κs : _) (a : _) (r r' : _) (s s' : _) → version.Post κs a r s → version.Post κs a r' s' → r ≡ r'
version_only κs a r r' s s' p q = only p q

pub zone_range_only : (κs : _) (a : _) (r r' : _) (s s' : _) → zone-range.Post κs a r s → zone-range.Post κs a r' s' → r ≡ r'
zone_range_only κs a r r' s s' p q = only p q

pub sheet_only : (κs : _) (a : _) (r r' : _) (s s' : _) → sheet.Post κs a r s → sheet.Post κs a r' s'
    → (s.1.1.1.0.now ≡ s'.1.1.1.0.now) × (r ≡ r')
sheet_only κs a r r' s s' p q = (only p.output q.output, only p.answer q.answer)

pub ask_only : (κs : _) (a : _) (r r' : _) (s s' : _) → asking.Post κs a r s → asking.Post κs a r' s'
    → (s.1.1.0.now ≡ s'.1.1.0.now) × (r ≡ r')
ask_only κs a r r' s s' p q = (only p.output q.output, only p.answer q.answer)

pub range_from_only : (κs : _) (a : _) (r r' : _) (s s' : _) → range-from.Post κs a r s → range-from.Post κs a r' s' → r ≡ r'
range_from_only κs a r r' s s' p q = only p q
