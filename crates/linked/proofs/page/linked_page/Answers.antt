-- Function: `linked_page` (src/page.rt).
-- Why it holds: The page with jumps is the plain page. If the test of the links says no, the lists
-- are refused themselves, or the links are wrong.
-- What would break it: A page handed out for wrong links, or LINKS for refused lists, would be
-- caught at its return.
use borrow.Author.Rules.{rules}
use Rattle.linked.proofs.Lending.{page_told, page_untold}
use Rattle.linked.proofs.page.linked_page.Goals as goal

pub returns-then-are_links : goal.returns-then-are_links
returns-then-are_links c =
    let e = c.jumping_page.ensures in
    page_told _ _ _ _ _ _ c.are_links.ensures c.if-are_links.true _ _ (record { answer = e.answer; output = e.output })

pub returns : goal.returns
returns c =
    page_untold _ _ _ _ _ _ c.are_links.ensures c.if-are_links.false _ (search rules)
