-- Function: `shown_page` (src/page.rt).
-- Why it holds: The number `done` is 1 for true and 0 for false, and `ticket_back` makes the words.
-- The verdict and the count are the page's own.
-- What would break it: A page that says done too early, or other words, would be caught at the
-- return.
use mathlib.Core.Path.{◌≡◌, refl, ◌∙◌}
use mathlib.Core.Bool.{Bool, true, false, cond}
use Prim.Native.Nat.{ℕ}
use mir.Val.{bool_byte}
use Rattle.pairs.specs.declared.page.Page.{Page}
use Rattle.ticket_words.specs.declared.page.PageWords.{PageWords}
use Rattle.ticket_words.specs.declared.words.TicketWords.{TicketWords}
use Rattle.ticket_words.specs.Page.{shown_page}
use Rattle.ticket_words.specs.Words.{ticket_back}
use Rattle.ticket_words.proofs.page.shown_page.Goals as goal

byte_is : (done : Bool) → bool_byte done ≡ cond done 1 0
byte_is true = refl
byte_is false = refl

made : (w : TicketWords) (p : Page) (done : ℕ) (back : TicketWords) → done ≡ cond p.done 1 0 → back ≡ ticket_back w p.count p.ticket.place
    → ◌≡◌ {A = PageWords} (record { verdict = p.verdict; done = done; count = p.count; ticket = back }) (shown_page w p)
unfolding shown_page
made w p done back d b = λ k. record { verdict = p.verdict; done = d k; count = p.count; ticket = b k }

pub returns : goal.returns
returns c = made _ _ _ _ (c.from.ensures ∙ byte_is c.args.page.done) c.ticket_back.ensures
