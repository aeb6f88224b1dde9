-- Request M-101: the holes stay, and no frame in a hole is ever mapped, whatever is asked.
-- Assumes nothing.
use Prim.Native.Nat.{ℕ, ◌+◌, ◌-◌}
use mathlib.Core.Path.{◌≡◌, sym, ap, ◌∙◌}
use mathlib.Core.List.{List}
use mathlib.Core.Bool.{false, false≢true}
use native.Mathlib.Omega.{arith}
use Rattle.layout.specs.declared.Sizes.{Sizes}
use Rattle.board.specs.Holes.{HolesAllowed, hole_count, hole_first, hole_words, outside}
use Rattle.board.specs.NewState.{new_state}
use Rattle.layout.specs.Places.{Allowed, get, leaf}
use Rattle.board.proofs.HoleLaws.{HolesKept, lies_out, outside_kept}
use Rattle.sound.specs.Contents.{sizes_in}
use Rattle.sound.specs.Audit.{audit_number}
use Rattle.sound.specs.Sound.{Sound}
use Rattle.sound.proofs.SoundLaws.{number_sound}
use Rattle.world.proofs.FrameLaws.{either}
use Rattle.batch.specs.Batch.{state_after}
use Rattle.histories.specs.Histories.{Carried, JustMade, Entry, ours, state_from}
use Rattle.questions.specs.Questions.{answering}
use Rattle.requests.proofs.AnsweringSound.{answering_sound, answering_holes}
use Rattle.histories.specs.Demands.{NoHoleMapped, HolesStay, RequestNoHoleMapped, RequestHolesStay}
use Rattle.histories.proofs.BatchSound.{after_sound, after_holes}
use Rattle.histories.proofs.EntriesKeep.{from_sound, from_holes, made_sound}

-- The holes stay, after any entries and after each request.
pub holes_stay : HolesStay ours
holes_stay w passed es = from_holes (sizes_in w.state) w es (number_sound w.state passed)

pub request_holes_stay : RequestHolesStay answering
request_holes_stay = answering_holes

-- In a sound state a frame in a hole is unmapped.
sound_unmapped : (z : Sizes) (s : List ℕ) → Sound z s → (f : ℕ) → outside s f ≡ false → get z s (leaf f) ≡ 0
sound_unmapped z s h f inside =
    either (get z s (leaf f)) 0 (λ none. none) λ some.
    absurd (false≢true (sym inside ∙ lies_out (hole_count s) (hole_words s) f λ i l low high.
    let j = f - hole_first (hole_words s) i in
    let at : hole_first (hole_words s) i + j ≡ f = omega arith in
    some (sym (ap (λ (g : ℕ). get z s (leaf g)) at) ∙ h.hole_zero i j l (omega arith))))

-- And in one that has the same holes.
kept_unmapped : (z : Sizes) (s r : List ℕ) → Sound z s → HolesKept s r → Sound z r → (f : ℕ) → outside s f ≡ false → get z r (leaf f) ≡ 0
kept_unmapped z s r h kept after f inside =
    sound_unmapped z r after f (outside_kept s r kept h.laid_out.holes_fit_lem.at_most f ∙ inside)

-- From any state that passes the audit, after any entries,
pub no_hole_mapped : NoHoleMapped ours
no_hole_mapped w passed es f inside =
    let z = sizes_in w.state in
    let h = number_sound w.state passed in
    kept_unmapped z w.state (state_from ours w es) h (from_holes z w es h) (from_sound z w es h) f inside

-- after each request,
pub request_no_hole_mapped : RequestNoHoleMapped answering
request_no_hole_mapped z s c d f n h g inside =
    kept_unmapped z s (answering z s c d f n).words h (answering_holes z s c d f n h) (answering_sound z s c d f n h) g inside

pub requests_no_hole_mapped : (s q : List ℕ) → audit_number s ≡ 0 → (k f : ℕ) → outside s f ≡ false → get (sizes_in s) (state_after (sizes_in s) s q k) (leaf f) ≡ 0
requests_no_hole_mapped s q passed k f inside =
    let h = number_sound s passed in
    kept_unmapped (sizes_in s) s (state_after (sizes_in s) s q k) h (after_holes (sizes_in s) s q h k) (after_sound (sizes_in s) s q h k) f inside

-- and in every history.
pub history_no_hole_mapped : (z : Sizes) → Allowed z → (holes : List ℕ) → HolesAllowed z holes → (w : Carried) → JustMade z holes w → (es : List Entry) → (f : ℕ) → outside (new_state z holes) f ≡ false → get z (state_from ours w es) (leaf f) ≡ 0
history_no_hole_mapped z allow holes fit w made es f inside =
    let h = made_sound z allow holes fit w made in
    kept_unmapped z w.state (state_from ours w es) h (from_holes z w es h) (from_sound z w es h) f (ap (λ (s : List ℕ). outside s f) made ∙ inside)
