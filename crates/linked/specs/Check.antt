-- docs/SCOPE.md, "Links that are lent": what the check of links answers. The list's own answers
-- come first, then LINKS.
use Rattle.std.specs.Prelude.{ℕ, Bool, cond, ◌||◌, List}
use Rattle.answers.specs.Answer.{LINKS}
use Rattle.answers.specs.declared.verdict.Verdict.{Verdict}
use Rattle.answers.specs.Verdict.{ANCESTORS, verdict, refusedb}
use Rattle.laws.specs.Choose.{equalb}
use Rattle.lists.specs.Check.{check_words}
use Rattle.forest.specs.Linked.{links_in}

-- The words are the links of the list.
unfoldable pub linkedb : List ℕ → List ℕ → Bool
linkedb list links = equalb links (links_in list)

-- LINKS belongs to no list and points at no node.
abbrev pub unlinked : Verdict
unlinked = verdict LINKS ANCESTORS 0

-- The verdict on links and their list: the list's own, or else LINKS where the words aren't its
-- links.
unfoldable pub check_links : List ℕ → List ℕ → Verdict
check_links list links = cond (refusedb (check_words list) || linkedb list links) (check_words list) unlinked
