-- Demand 3, of every kind of entry: what is heard of it is a chain of deeds. A record for each case of `Entry`.
-- Assumes nothing.
use Prim.Native.Nat.{ℕ}
use mathlib.Core.List.{List, [], ◌∷◌}
use lib.ListN.{replicate}
use Rattle.layout.specs.declared.Sizes.{Sizes}
use Rattle.sound.specs.Sound.{Sound}
use Rattle.histories.specs.Histories.{Carried, Entry, batch, ours, effect_of, heard_from, state_from}
use Rattle.histories.proofs.Trace.{served_traced}
use Rattle.histories.proofs.EntriesKeep.{entry_keeps}
use Rattle.histories.proofs.Deeds.{Deeds, no_deed, deeds_append, requests_deeds}

pub record EntryApart (e : Entry) : Type 0 where
  pub deeds : (z : Sizes) (w : Carried) → Sound z w.state → Deeds z w.state (effect_of ours w e).heard (effect_of ours w e).after.state

-- ---- A batch: its requests, if it is served
batch_apart : (q : List ℕ) (room : ℕ) → EntryApart (batch q room)
unfolding effect_of
batch_apart q room =
    record { deeds = λ z w h. requests_deeds h (served_traced z w.state q (replicate room 0) h) }

-- ---- Each kind
entry_apart : (e : Entry) → EntryApart e
entry_apart (batch q room) = batch_apart q room

-- A list of entries.
pub all_deeds : (z : Sizes) (w : Carried) → Sound z w.state → (es : List Entry) → Deeds z w.state (heard_from ours w es) (state_from ours w es)
unfolding heard_from state_from
all_deeds z w h [] = no_deed
all_deeds z w h (e ∷ es) =
    deeds_append ((entry_apart e).deeds z w h) (all_deeds z (effect_of ours w e).after ((entry_keeps e).sound z w h) es)
