-- Document 01, "Questions in sequence", of a request: the case of each number, a line or two each. 15 is retired and is not used again.
use Rattle.std.specs.Prelude.{ℕ, ◌+◌, ◌-◌, ◌<◌, ◌≤◌, ◌≡◌, List, Bool, true, false, ◌⊎◌}
use Rattle.layout.specs.declared.Sizes.{Sizes}
use Rattle.board.specs.Holes.{outside}
use Rattle.layout.specs.Places.{get, leaf}
use Rattle.sound.specs.Sound.{Live}
use Rattle.sound.specs.Sentences.{is_mapped_by}
use Rattle.calls.specs.Table.{Uses, DomainOnly, OneFrame, FrameAndCount, NoCall}
use Rattle.pages.specs.Mapping.{map_call}
use Rattle.runs.specs.Runs.{longest_run}
use Rattle.pages.specs.Unmapping.{unmap_call}
use Rattle.histories.specs.NoPlace.{Reaches, NoPlaceFor, ReachesNoPlace}

-- "Call 1 to 7": the numbers that are a call's, each with the words that it uses beside the domain word, and whether it opens the domain. A later request adds its line.
-- "(Calls 1 and 2 use neither frame nor count; 3, 4, 5 no count.)"
pub data IsCall : ℕ → Uses → Bool → Type 0 where
  call_1 : IsCall 1 DomainOnly true
  call_2 : IsCall 2 DomainOnly false
  call_3 : IsCall 3 OneFrame false
  call_4 : IsCall 4 OneFrame false
  call_5 : IsCall 5 OneFrame false
  call_6 : IsCall 6 FrameAndCount false
  call_7 : IsCall 7 FrameAndCount false
  -- Request M-100: "call 8 passes question 7."
  call_8 : IsCall 8 DomainOnly false
  -- Request M-107: "call 11 passes 7." "A call added later uses the domain word, and others only where its ticket names them."
  call_11 : IsCall 11 DomainOnly false

-- "and words it does not use 0?"
abbrev pub UnusedZero : Uses → ℕ → ℕ → Type 0
UnusedZero DomainOnly f n = (f ≡ 0) × (n ≡ 0)
UnusedZero OneFrame f n = n ≡ 0
UnusedZero FrameAndCount f n = Unit
UnusedZero NoCall f n = ⊥

pub record Formed (c f n : ℕ) : Type 0 where
  pub uses : Uses
  pub opens : Bool
  pub is_call : IsCall c uses opens
  pub unused_zero_lem : UnusedZero uses f n

-- "Frame below P; for runs count at least 1 and at most P − frame?", and, by request M-109, at most 2,048.
abbrev pub FramesFit : Sizes → Uses → ℕ → ℕ → Type 0
FramesFit z DomainOnly f n = Unit
FramesFit z OneFrame f n = f < z.frames
FramesFit z FrameAndCount f n = (f < z.frames) × (1 ≤ n) × (n ≤ z.frames - f) × (n ≤ longest_run)
FramesFit z NoCall f n = ⊥

-- Request M-101: "16, a named frame lies in a hole"; "for a run, any of its frames".
abbrev pub InNoHole : List ℕ → Uses → ℕ → ℕ → Type 0
InNoHole s DomainOnly f n = Unit
InNoHole s OneFrame f n = outside s f ≡ true
InNoHole s FrameAndCount f n = (i : ℕ) → i < n → outside s (f + i) ≡ true
InNoHole s NoCall f n = ⊥

-- Questions 7, 8, 9 and 16 are passed;
pub record WordsPass (z : Sizes) (s : List ℕ) (c d f n : ℕ) : Type 0 where
  pub formed : Formed c f n
  pub domain : d < z.domains
  pub frames : FramesFit z formed.uses f n
  pub in_no_hole : InNoHole s formed.uses f n

-- and the domain is live, as question 11 asks.
pub record LivePass (z : Sizes) (s : List ℕ) (c d f n : ℕ) : Type 0 where
  pub words_pass : WordsPass z s c d f n
  pub alive : Live z s d

-- Request c, d, f, n, call, domain, frame and count, is refused by a number.
pub data Refusal (z : Sizes) (s : List ℕ) (c d f n : ℕ) : ℕ → Type 0 where
  malformed : (Formed c f n → ⊥) → Refusal z s c d f n 7
  -- "Domain below D? No: 8."
  no_domain : Formed c f n → (d < z.domains → ⊥) → Refusal z s c d f n 8
  no_frames : (w : Formed c f n) → d < z.domains → (FramesFit z w.uses f n → ⊥) → Refusal z s c d f n 9
  -- Request M-101: "asked right after 9".
  in_hole : (w : Formed c f n) → d < z.domains → FramesFit z w.uses f n → (InNoHole s w.uses f n → ⊥) → Refusal z s c d f n 16
  -- "Open: domain not live? No: 10. Other calls: live? No: 11."
  live_already : (w : WordsPass z s c d f n) → w.formed.opens ≡ true → Live z s d → Refusal z s c d f n 10
  not_live : (w : WordsPass z s c d f n) → w.formed.opens ≡ false → (Live z s d → ⊥) → Refusal z s c d f n 11
  -- "Map: frame unmapped by anyone? No: 12. Place found? No: 13."
  mapped : LivePass z s c d f n → c ≡ 3 → (get z s (leaf f) ≡ 0 → ⊥) → Refusal z s c d f n 12
  mapped_in_run : LivePass z s c d f n → c ≡ 6 → Reaches (λ r. map_call z r d) s f n (λ r g. get z r (leaf g) ≡ 0 → ⊥) → Refusal z s c d f n 12
  no_place : LivePass z s c d f n → c ≡ 3 → NoPlaceFor z d s f → Refusal z s c d f n 13
  no_place_in_run : LivePass z s c d f n → c ≡ 6 → ReachesNoPlace z s d f n → Refusal z s c d f n 13
  -- "Unmap, path: mapped by this domain? No: 14."
  not_mapped : LivePass z s c d f n → (c ≡ 4) ⊎ (c ≡ 5) → is_mapped_by z s d f ≡ false → Refusal z s c d f n 14
  not_mapped_in_run : LivePass z s c d f n → c ≡ 7 → Reaches (λ r. unmap_call z r d) s f n (λ r g. is_mapped_by z r d g ≡ false) → Refusal z s c d f n 14
