-- `chains::follows_chain` meets its contract.
-- Assumes nothing.
use Prim.Native.Nat.{◌-◌, ◌≤◌}
use mathlib.Core.Path.{◌≡◌}
use Rattle.layout.specs.Places.{get, first}
use Rattle.sound.specs.CodeChained.{follows}
use Rattle.chains.proofs.follows_chain.Given as goal

abbrev pub invariant-loop-x : goal.invariant-loop-x
invariant-loop-x l =
    (l.ranks.start ≤ l.sizes.treelings)
    × (l.ranks.end ≡ l.sizes.treelings)
    × (l.x ≤ l.sizes.treelings)
    × (follows l.sizes l.state l.d (l.sizes.treelings - l.ranks.start) l.ranks.start l.before l.x ≡ follows l.sizes l.state l.d l.sizes.treelings 0 0 (get l.sizes l.state (first l.d)))

abbrev pub decreases-loop-x : goal.decreases-loop-x
decreases-loop-x l = l.sizes.treelings - l.ranks.start
