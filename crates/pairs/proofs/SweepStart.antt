-- Why it holds: A sweep starts at the first leader that isn't before the place's own. There a
-- number tells which followers lie past the place; for every later leader all do.
-- What would break it: A sweep that started one leader late, or left out a follower of a leader
-- after the place's own, would be caught here.
use mathlib.Core.Path.{◌≡◌, refl, ap, ◌∙◌}
use mathlib.Core.Bool.{true, false, not}
use mathlib.Core.List.{List, [], ◌∷◌}
use Prim.Native.Nat.{ℕ, ◌*◌, ◌/◌, ◌≤◌, ◌<◌}
use native.Mathlib.Omega.{arith}
use lib.ListN.{length, get_or}
use Rattle.nodes.specs.declared.node.Node.{Node}
use Rattle.answers.specs.Answer.{TAKEN}
use Rattle.laws.specs.Choose.{first_at}
use Rattle.nodes.specs.Node.{afterb}
use Rattle.nodes.specs.Words.{node, nodes, count, node_at}
use Rattle.laws.proofs.Choices.{every_two_at}
use Rattle.laws.proofs.Tests.{not_read}
use Rattle.nodes.proofs.WordLaws.{length_nodes}
use Rattle.lists.specs.Check.{check_words}
use Rattle.lists.proofs.Taken.{Fine, words_taken_iff}
use Rattle.tickets.specs.declared.ticket.Place.{Place}
use Rattle.tickets.specs.declared.ticket.Place.TheVariants.{Fresh}
use Rattle.tickets.specs.Leaders.{past_from, servedb, served_in}
use Rattle.laws.proofs.First.{first_in, first_passes}
use Rattle.tickets.proofs.Places.{Past, past_first, past_next}
use Rattle.pairs.specs.Private.Sweep.{Started}

first_unserved : (place : Place) (ns : List Node) (n : Node) → served_in place ns < length ns → servedb place (get_or ns (served_in place ns) n) ≡ false
unfolding served_in
first_unserved place ns n l = not_read _ (first_passes _ ns n l)

-- There are no more leaders before the place's own than there are leaders.
pub served_in_lem : (place : Place) (ws : List ℕ) (first : ℕ) → first ≡ served_in place (nodes ws) → first ≤ count ws
unfolding served_in
served_in_lem place ws first q = let h = first_in (λ x. not (servedb place x)) (nodes ws) in omega (arith, length_nodes ws)

-- At the leader at the word j, the number `past` tells which followers lie past the place.
abbrev pub Tells : Place → List ℕ → ℕ → ℕ → Type 0
Tells place ws past j = j < length ws → Past place past (node_at ws (j / 4))

-- Of an accepted list each later node stands after this one.
pub after_later : (ws : List ℕ) → (check_words ws).answer ≡ TAKEN → (j m : ℕ) → j / 4 < m / 4 → m < length ws
    → afterb (node_at ws (m / 4)) (node_at ws (j / 4)) ≡ true
unfolding node_at
after_later ws taken j m h l =
    let t = (words_taken_iff ws).0 taken in
    let w = t.0 in
    (every_two_at Fine (nodes ws) (j / 4) (m / 4) (node 0 0 0 0) h (omega (arith, length_nodes ws)) t.3).after

-- For a fresh place no leader is served, so a sweep begins with the first leader and all its
-- followers.
none_served : (ns : List Node) → 0 ≡ served_in Fresh ns
unfolding served_in servedb first_at
none_served [] = refl
none_served (n ∷ ns) = refl

pub started_fresh : (place : Place) (ws : List ℕ) → place ≡ Fresh → Started place ws 0 0
unfolding past_from
started_fresh place ws q = rw q (none_served (nodes ws), refl)

module _ (place : Place) (ws : List ℕ) where
  pub started : (first past : ℕ) (x : Node) → first ≡ served_in place (nodes ws) → x ≡ node_at ws first → past ≡ past_from place x
      → Started place ws first past
  started first past x q n p = (q, p ∙ ap (past_from place) n)

  module _ (taken : (check_words ws).answer ≡ TAKEN) where
    -- The number that a sweep starts with tells it, and 0 does at each later leader.
    pub tells_first : (first past : ℕ) → Started place ws first past → Tells place ws past (4 * first)
    unfolding node_at
    tells_first first past s m =
        let w = ((words_taken_iff ws).0 taken).0 in
        let l = length_nodes ws in
        let q = s.0 in
        let same : 4 * first / 4 ≡ first = omega arith in
        rw same (past_first place (node_at ws first) past (rw q (first_unserved place (nodes ws) (node 0 0 0 0) (omega arith))) s.1)

    pub tells_later : (past j m : ℕ) → j / 4 < m / 4 → Tells place ws past j → Tells place ws 0 m
    tells_later past j m h p l =
        past_next place (node_at ws (j / 4)) (node_at ws (m / 4)) past (p (omega arith)) (after_later ws taken j m h l)
