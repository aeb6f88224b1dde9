-- `gathering::regather` meets its contract.
-- Assumes nothing.
use Prim.Native.Nat.{ℕ, ◌*◌, ◌%◌, ◌^◌, ◌<◌}
use mathlib.Core.Path.{◌≡◌}
use native.Mathlib.Omega.{arith}
use Rattle.sound.proofs.BitLaws.{shifted_one}
use Rattle.gathering.proofs.GatherWholeLaws.{add_asks, settle_asks, regather_is}
use Rattle.gathering.proofs.regather.Goals as goal

-- The position as a bit.
shifted : (i : ℕ) → i < 8 → (1 * 2 ^ i) % 18446744073709551616 ≡ 2 ^ i
shifted i few = omega (arith, shifted_one i few)

pub add_above-requires : goal.add_above-requires
add_above-requires c =
    let a = c.args in
    let both = add_asks a.sizes a.state.now c.requires.sound a.d c.requires.d_lt_domains.0 a.node a.position c.requires.d_lt_domains.2 c.requires.d_lt_domains.3 c.requires.d_lt_domains.1 c.requires.node_value _ (shifted a.position c.requires.d_lt_domains.2) c.gather.ensures in
    record { laid = both.0; node_bound = both.1 }

pub settle-requires : goal.settle-requires
settle-requires c =
    let a = c.args in
    let both = settle_asks a.sizes a.state.now c.requires.sound a.d c.requires.d_lt_domains.0 a.node a.position c.requires.d_lt_domains.2 c.requires.d_lt_domains.3 c.requires.d_lt_domains.1 c.requires.node_value _ (shifted a.position c.requires.d_lt_domains.2) c.gather.ensures
    c.add_above.new.state c.add_above.ensures c.number_owned-treelings.result c.number_owned-treelings.ensures in
    record { chain = both.0; treelings_nonzero = both.1.0; by_index = both.1.1 }

pub returns : goal.returns
returns c =
    let a = c.args in
    regather_is a.sizes a.state.now c.requires.sound a.d c.requires.d_lt_domains.0 a.node a.position c.requires.d_lt_domains.2 c.requires.d_lt_domains.3 c.requires.d_lt_domains.1 c.requires.node_value _ (shifted a.position c.requires.d_lt_domains.2) c.gather.ensures
    c.add_above.new.state c.add_above.ensures c.number_owned-treelings.result c.number_owned-treelings.ensures c.settle.new.state c.settle.ensures
