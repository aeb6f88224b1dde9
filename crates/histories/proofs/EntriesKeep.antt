-- Demand 2, of every kind of entry: it keeps a state sound, with its holes; and so does every list of entries. A record for each case of `Entry`.
-- Assumes nothing.
use Prim.Native.Nat.{ℕ}
use mathlib.Core.Path.{◌≡◌, refl, sym, subst, ◌∙◌}
use mathlib.Core.List.{List, [], ◌∷◌}
use mathlib.Core.Logic.{◌⊎◌}
use lib.ListN.{replicate}
use Rattle.layout.specs.declared.Sizes.{Sizes}
use Rattle.board.specs.Holes.{HolesAllowed}
use Rattle.layout.specs.Places.{Allowed}
use Rattle.board.proofs.HoleLaws.{HolesKept}
use Rattle.sound.specs.Contents.{sizes_in}
use Rattle.sound.specs.Audit.{audit_number}
use Rattle.sound.specs.Sound.{Sound}
use Rattle.sound.proofs.SoundLaws.{sound_number, number_sound}
use Rattle.sound.proofs.NewStateSound.{new_sound}
use Rattle.batch.specs.Batch.{serving}
use Rattle.histories.specs.Histories.{Carried, JustMade, Entry, batch, ours, effect_of, state_from}
use Rattle.histories.specs.Demands.{StaysSound}
use Rattle.histories.proofs.BatchSound.{served_sound, served_holes, only_5_or_6}

pub record EntryKeeps (e : Entry) : Type 0 where
  pub sound : (z : Sizes) (w : Carried) → Sound z w.state → Sound z (effect_of ours w e).after.state
  pub holes : (z : Sizes) (w : Carried) → Sound z w.state → HolesKept w.state (effect_of ours w e).after.state

-- ---- A batch
batch_keeps : (q : List ℕ) (room : ℕ) → EntryKeeps (batch q room)
unfolding effect_of
batch_keeps q room =
    record {
      sound = λ z w h. served_sound z w.state q (replicate room 0) h;
      holes = λ z w h. served_holes z w.state q (replicate room 0) h;
    }

-- ---- Each kind
pub entry_keeps : (e : Entry) → EntryKeeps e
entry_keeps (batch q room) = batch_keeps q room

-- ---- Lists of entries
pub from_sound : (z : Sizes) (w : Carried) (es : List Entry) → Sound z w.state → Sound z (state_from ours w es)
unfolding state_from
from_sound z w [] h = h
from_sound z w (e ∷ es) h = from_sound z (effect_of ours w e).after es ((entry_keeps e).sound z w h)

pub from_holes : (z : Sizes) (w : Carried) (es : List Entry) → Sound z w.state → HolesKept w.state (state_from ours w es)
unfolding state_from
from_holes z w [] h j low high = refl
from_holes z w (e ∷ es) h j low high =
    from_holes z (effect_of ours w e).after es ((entry_keeps e).sound z w h) j low high ∙ (entry_keeps e).holes z w h j low high

-- From any state that passes the audit, after any entries the state passes it.
pub stays_sound : StaysSound ours
stays_sound w passed es =
    sound_number (sizes_in w.state) (state_from ours w es) (from_sound (sizes_in w.state) w es (number_sound w.state passed))

-- ---- Histories
pub made_sound : (z : Sizes) → Allowed z → (holes : List ℕ) → HolesAllowed z holes → (w : Carried) → JustMade z holes w → Sound z w.state
made_sound z allow holes fit w made = subst (Sound z) (sym made) (new_sound z holes allow fit)

module _ (z : Sizes) (allow : Allowed z) (holes : List ℕ) (fit : HolesAllowed z holes) (w : Carried) (made : JustMade z holes w) (es : List Entry) where
  pub history_state : Sound z (state_from ours w es)
  history_state = from_sound z w es (made_sound z allow holes fit w made)

  pub history_sound : audit_number (state_from ours w es) ≡ 0
  history_sound = sound_number z (state_from ours w es) history_state

  -- The next batch is refused by 5 or 6 alone.
  pub history_only_5_or_6 : (q a : List ℕ) → ((serving (state_from ours w es) q a).number ≡ 0) ⊎ ((serving (state_from ours w es) q a).number ≡ 5) ⊎ ((serving (state_from ours w es) q a).number ≡ 6)
  history_only_5_or_6 q a = only_5_or_6 (state_from ours w es) q a history_sound
