-- Placing by its cases, in an own entry, in a TreeLing taken, or not at all: it keeps a state sound, with its holes.
-- Assumes nothing.
use Prim.Native.Nat.{ℕ, ◌*◌, ◌/◌, ◌%◌, ◌<◌, ◌≤◌}
use mathlib.Core.Path.{◌≡◌, refl, ◌∙◌}
use mathlib.Core.List.{List}
use mathlib.Core.Bool.{true}
use native.Mathlib.Omega.{arith}
use Rattle.layout.specs.declared.Sizes.{Sizes}
use Rattle.layout.specs.Outcomes.{OutcomeOf}
use Rattle.layout.specs.Places.{get, leaf}
use Rattle.board.specs.Holes.{outside}
use Rattle.board.proofs.HoleLaws.{HolesKept}
use Rattle.sound.specs.Sound.{Sound, Ordinary}
use Rattle.sound.specs.Sentences.{of_rank}
use Rattle.world.specs.World.{world, owned}
use Rattle.taking.specs.Taking.{has_unowned, to_take, taking}
use Rattle.placing.specs.Placing.{place_entry, placing, after_giving}
use Rattle.std.specs.Prelude.{Option}
use Rattle.leaf_map.specs.declared.LeafId.{LeafId}
use Rattle.placing.proofs.DecisionLaws.{placing_by}
use Rattle.placing.proofs.PlacedSound.{Given, placed_given, placed_sound}
use Rattle.world.proofs.WorldLaws.{of_rank_lem}
use Rattle.placing.proofs.NoPlace.{sought_found}
use Rattle.taking.proofs.TakenLaws.{Taken, taken}
use Rattle.placing.proofs.TakenSound.{taken_sound}

module _ (z : Sizes) (s : List ℕ) (d f : ℕ) where
  abbrev j : ℕ
  j = place_entry (world z s d)

  -- The words that are left where entry j of the domain gives the place, and where a TreeLing is taken.
  abbrev pub own_placed : List ℕ
  own_placed = after_giving z s d f (of_rank z s d (j / 512)) (j % 512)

  abbrev pub taken_placed : List ℕ
  taken_placed = after_giving z (taking z s d (to_take z s d)) d f (to_take z s d) 0

  pub placing_cases : (P : List ℕ → Type 0) → (j < 512 * owned z s d → P own_placed) → (512 * owned z s d ≤ j → has_unowned z s ≡ true → P taken_placed) → P s → P (placing z s d f).words
  placing_cases P own take none = placing_by z s d f (λ (p : OutcomeOf (Option LeafId)). P p.words) own take (λ _ _. none)

  module _ (h : Sound z s) (hd : d < z.domains) (hf : f < z.frames) where
    -- What the words are then.
    pub own_given : j < 512 * owned z s d → Given z s own_placed d f (of_rank z s d (j / 512)) (j % 512)
    own_given l =
        let n = of_rank_lem z s h d hd (j / 512) (omega arith) in
        placed_given z s d f (of_rank z s d (j / 512)) (j % 512) h.laid_out.laid hd hf n.below (omega arith)

    module _ (some : has_unowned z s ≡ true) where
      pub took : Taken z s (taking z s d (to_take z s d)) d (to_take z s d)
      took = taken z s d (to_take z s d) h.laid_out.laid hd (sought_found z s d h hd d some).0 (λ v is. omega (arith, h.last_range d hd))

      pub taken_given : Given z (taking z s d (to_take z s d)) taken_placed d f (to_take z s d) 0
      taken_given =
          placed_given z (taking z s d (to_take z s d)) d f (to_take z s d) 0
          (record { sizes = h.laid_out.laid.sizes; long = took.long ∙ h.laid_out.laid.long }) hd hf (sought_found z s d h hd d some).0 (omega arith)

    -- Domain d is live, and frame f is unmapped and in no hole.
    pub placing_sound : outside s f ≡ true → Ordinary z s d → get z s (leaf f) ≡ 0 → Sound z (placing z s d f).words
    placing_sound out alive unmapped =
        placing_cases (Sound z)
        (placed_sound z s d f j h hd alive hf out unmapped refl)
        (λ past some.
        let w = sought_found z s d h hd d some in
        taken_sound z s d f (to_take z s d) h hd hf out alive unmapped w.0 w.1 past)
        h

    -- Placing keeps the holes.
    pub placing_holes : HolesKept s (placing z s d f).words
    placing_holes =
        placing_cases (HolesKept s)
        (λ l i low high. (own_given l).same_content i high)
        (λ _ some i low high. (taken_given some).same_content i high ∙ (took some).same_content i high (omega arith))
        (λ i low high. refl)
