-- Why it holds: Each public contract is an equation with a definition, and two things that equal a
-- third are equal. So no second answer satisfies it.
-- What would break it: A contract that left open a field of its answer, or the place of a part,
-- would be caught here.
use mathlib.Core.Path.{◌≡◌, sym, ap}
use Prim.Native.Nat.{ℕ}
use Rattle.std.specs.Prelude.{Result, Ok, Err}
use Rattle.laws.proofs.Only.{only}
use Rattle.answers.specs.declared.refusal.Fault.{Fault}
use Rattle.answers.proofs.RefusalLaws.{fault_only, never_taken}
use Rattle.books.specs.declared.book.Opened.{Opened}
use Rattle.books.specs.declared.find.Body.{Body}
use Rattle.books.specs.declared.find.Found.{Found}
use Rattle.books.specs.Book.{opened_in}
use Rattle.books.specs.Find.{found_in}
use Rattle.books.proofs.book.check_book.Reads as check-book
use Rattle.books.proofs.find.find_list.Reads as find-list
use Rattle.books.proofs.find.find_tag.Reads as find-tag
use Rattle.books.proofs.find.has_tag.Reads as has-tag
use Rattle.books.proofs.find.tag_body.Reads as tag-body
use Rattle.books.proofs.book.OpenedFromResultU32Fault.from.Reads as opened-from
use Rattle.books.proofs.find.FoundFromResultBodyFault.from.Reads as found-from

-- What opening a book answers tells all of what the check returns,
pub opened_only : (r r' : Result ℕ Fault) → opened_in r ≡ opened_in r' → r ≡ r'
opened_only (Ok n) (Ok n') q = ap (λ k. Ok k) (ap (λ (o : Opened). o.lists) q)
opened_only (Ok n) (Err f) q = absurd (never_taken f.refusal (sym (ap (λ (o : Opened). o.verdict.answer) q)))
opened_only (Err f) (Ok n) q = absurd (never_taken f.refusal (ap (λ (o : Opened). o.verdict.answer) q))
opened_only (Err f) (Err f') q = ap (λ x. Err x) (fault_only f f' (ap (λ (o : Opened). o.verdict) q))

-- And what looking for a list answers tells all of what the search returns.
pub found_only : (r r' : Result Body Fault) → found_in r ≡ found_in r' → r ≡ r'
found_only (Ok b) (Ok b') q = ap (λ (x : Found). Ok (record { from = x.from; bytes = x.bytes })) q
found_only (Ok b) (Err f) q = absurd (never_taken f.refusal (sym (ap (λ (x : Found). x.verdict.answer) q)))
found_only (Err f) (Ok b) q = absurd (never_taken f.refusal (ap (λ (x : Found). x.verdict.answer) q))
found_only (Err f) (Err f') q = ap (λ x. Err x) (fault_only f f' (ap (λ (x : Found). x.verdict) q))

pub check_book_only : (κs : _) (a : _) (r r' : _) (s s' : _) → check-book.Post κs a r s → check-book.Post κs a r' s' → r ≡ r'
check_book_only κs a r r' s s' p q = opened_only r r' (only p q)

pub find_list_only : (κs : _) (a : _) (r r' : _) (s s' : _) → find-list.Post κs a r s → find-list.Post κs a r' s' → r ≡ r'
find_list_only κs a r r' s s' p q = found_only r r' (only p q)

pub find_tag_only : (κs : _) (a : _) (r r' : _) (s s' : _) → find-tag.Post κs a r s → find-tag.Post κs a r' s' → r ≡ r'
find_tag_only κs a r r' s s' p q = found_only r r' (only p q)

pub has_tag_only : (κs : _) (a : _) (r r' : _) (s s' : _) → has-tag.Post κs a r s → has-tag.Post κs a r' s' → r ≡ r'
has_tag_only κs a r r' s s' p q = only p q

pub tag_body_only : (κs : _) (a : _) (r r' : _) (s s' : _) → tag-body.Post κs a r s → tag-body.Post κs a r' s'
    → (r.now ≡ r'.now) × (r.ref_ptr ≡ r'.ref_ptr)
tag_body_only κs a r r' s s' p q = (only p.contents q.contents, only p.place q.place)

pub opened_from_only : (κs : _) (a : _) (r r' : _) (s s' : _) → opened-from.Post κs a r s → opened-from.Post κs a r' s' → r ≡ r'
opened_from_only κs a r r' s s' p q = only p q

pub found_from_only : (κs : _) (a : _) (r r' : _) (s s' : _) → found-from.Post κs a r s → found-from.Post κs a r' s' → r ≡ r'
found_from_only κs a r r' s s' p q = only p q
