-- `domains::closing::close_domain` meets its contract.
-- Assumes nothing.
use mathlib.Core.Path.{refl}
use native.Mathlib.Omega.{arith}
use lib.ListN.{get_or}
use Prim.Native.Nat.{◌+◌}
use mathlib.Core.Bool.{true}
use borrow.Author.Rules.{rules}
use Rattle.clearing.proofs.ClearCodeLaws.{cleared_by}
use Rattle.domains.proofs.CloseCodeLaws.{close_chain, close_right}
use Rattle.domains.proofs.closing.close_domain.Goals as goal

pub clear_treelings-requires-clause-chain : goal.clear_treelings-requires-clause-chain
clear_treelings-requires-clause-chain c =
    close_chain c.args.sizes c.args.state.now c.requires.sound c.args.d c.requires.d_lt_domains c.clear_leaves.new.state c.number_owned-treelings.result c.clear_leaves.ensures c.number_owned-treelings.ensures

pub clear_words-requires : goal.clear_words-requires
clear_words-requires c =
    omega (arith, c.clear_treelings.auto.state, c.clear_leaves.auto.state, c.domain-record.ensures, c.requires.sound.laid_out.laid.long, c.requires.d_lt_domains)

pub returns : goal.returns
returns c =
    let both = close_right c.args.sizes c.args.state.now c.requires.sound c.args.d c.requires.d_lt_domains
    c.clear_leaves.new.state c.clear_treelings.new.state c.clear_words.new.state c.number_owned-treelings.result c.domain-record.result (get_or c.args.state.now (c.domain-record.result + 5) 0)
    c.domain-record.ensures refl c.number_owned-treelings.ensures c.clear_leaves.ensures (cleared_by (λ _. true) c.clear_treelings.ensures (λ q b l given. search rules)) c.clear_words.ensures in
    record { state_after = both.0; sound_2 = both.1 }
