-- Why it holds: Each contract equates its answer with a definition, and two things that equal a
-- third are equal. So no second answer satisfies it. This is said of the contract itself: in every
-- model, two answers that satisfy it are equal.
-- What would break it: A contract that left the slice or the number of a reader open would be
-- caught here.
use mathlib.Core.Path.{◌≡◌}
use seplogic.Ra.Ura.{Ura}
use base.Logic.{SProp, ent, sep, fst∗, snd∗}
use prog.Memory.{Memory}
use prog.Routine.{Routine}
use types.Logic.{Logic}
use contract.Lifetimes.{Lfts}
use contract.Monad.{Fun, fact, fact_i, fact_use}
use Rattle.laws.proofs.Only.{only}
use Rattle.readers.specs.contracts.reader.Reader.body as body
use Rattle.readers.specs.contracts.reader.body_in as body-in
use Rattle.readers.specs.contracts.reader.Reader.book as book
use Rattle.readers.specs.contracts.reader.Reader.lists as lists
use Rattle.readers.specs.contracts.reader.Reader.open as opening
use Rattle.readers.specs.contracts.reader.Reader.over as over

module _ {M : Type 1} {𝓤 : Ura M} (𝓛 : Logic 𝓤) (mem : Memory → SProp 𝓤) (run : Routine → Fun 𝓤) (κs : Lfts 1) where
  -- What follows from two facts holds where both hold.
  follows : {P Q R : Type 0} → (P → Q → R) → ent 𝓤 (sep 𝓤 (fact 𝓤 P) (fact 𝓤 Q)) (fact 𝓤 R)
  follows {P} {Q} {R} f =
      fact_use 𝓤 P (fst∗ 𝓤 (fact 𝓤 P) (fact 𝓤 Q)) (λ p.
      fact_use 𝓤 Q (snd∗ 𝓤 (fact 𝓤 P) (fact 𝓤 Q)) (λ q. fact_i 𝓤 R (sep 𝓤 (fact 𝓤 P) (fact 𝓤 Q)) (f p q)))

  pub lists_only : (a : _) (n n' : _) (s s' : _)
      → ent 𝓤 (sep 𝓤 ((lists.clauses 𝓛 mem run κs a).ensures tt n s) ((lists.clauses 𝓛 mem run κs a).ensures tt n' s')) (fact 𝓤 (n ≡ n'))
  lists_only a n n' s s' = follows (λ p q. only p q)

  pub book_only : (a : _) (b b' : _) (s s' : _)
      → ent 𝓤 (sep 𝓤 ((book.clauses 𝓛 mem run κs a).ensures tt b s) ((book.clauses 𝓛 mem run κs a).ensures tt b' s')) (fact 𝓤 (b ≡ b'))
  book_only a b b' s s' = follows (λ p q. only p q)

  pub body_only : (a : _) (b b' : _) (s s' : _)
      → ent 𝓤 (sep 𝓤 ((body.clauses 𝓛 mem run κs a).ensures tt b s) ((body.clauses 𝓛 mem run κs a).ensures tt b' s'))
      (fact 𝓤 ((b.now ≡ b'.now) × (b.ref_ptr ≡ b'.ref_ptr)))
  body_only a b b' s s' = follows (λ p q. (only p.contents q.contents, only p.place q.place))

  pub over_only : (a : _) (r r' : _) (s s' : _)
      → ent 𝓤 (sep 𝓤 ((over.clauses 𝓛 mem run κs a).ensures tt r s) ((over.clauses 𝓛 mem run κs a).ensures tt r' s'))
      (fact 𝓤 ((r.book ≡ r'.book) × (r.lists ≡ r'.lists)))
  over_only a r r' s s' = follows (λ p q. (only p.book q.book, only p.lists q.lists))

  pub open_only : (a : _) (r r' : _) (s s' : _)
      → ent 𝓤 (sep 𝓤 ((opening.clauses 𝓛 mem run κs a).ensures tt r s) ((opening.clauses 𝓛 mem run κs a).ensures tt r' s'))
      (fact 𝓤 ((r.book.now ≡ r'.book.now) × (r.book.ref_ptr ≡ r'.book.ref_ptr) × (r.lists ≡ r'.lists)))
  open_only a r r' s s' = follows (λ p q. (only p.contents q.contents, only p.place q.place, only p.lists q.lists))

  pub body_in_only : (a : _) (b b' : _) (s s' : _)
      → ent 𝓤 (sep 𝓤 ((body-in.clauses 𝓛 mem run κs a).ensures tt b s) ((body-in.clauses 𝓛 mem run κs a).ensures tt b' s'))
      (fact 𝓤 ((b.now ≡ b'.now) × (b.ref_ptr ≡ b'.ref_ptr)))
  body_in_only a b b' s s' = follows (λ p q. (only p.contents q.contents, only p.place q.place))
