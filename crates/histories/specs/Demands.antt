-- Demands 2 and 3, each as a statement about any controller: ours meets them, and wrong ones do not (crate worked).
use Rattle.std.specs.Prelude.{ℕ, suc, ◌+◌, ◌<◌, ◌≤◌, ◌≡◌, List, true, false, ◌⊎◌, ◌↔◌, get_or}
use Rattle.layout.specs.declared.Sizes.{Sizes}
use Rattle.board.specs.Holes.{HolesAllowed, outside}
use Rattle.layout.specs.Places.{Allowed, get, leaf, pages_mapped, owner, former}
use Rattle.sound.specs.Sentences.{true_number}
use Rattle.sound.specs.Contents.{sizes_in}
use Rattle.sound.specs.Audit.{audit_number}
use Rattle.sound.specs.Sound.{Sound, Live}
use Rattle.world.specs.Full.{AllInUse, AllOwned}
use Rattle.releasing.specs.MovingBack.{MovesBack, HasSpent}
use Rattle.pages.specs.Answers.{Refused, Outcome, Passed, page_at}
use Rattle.runs.specs.Runs.{longest_run}
use Rattle.domains.specs.Trimming.{GivesBack}
use Rattle.domains.specs.Filling.{Filled}
use Rattle.histories.specs.Histories.{Carried, JustMade, Entry, Controller, heard_from, state_from, own_in, asks, Fair, AllAgree}
use Rattle.histories.specs.Slots.{Agreeing}
use Rattle.histories.specs.Done.{pages_word, AllMapped, AllUnmapped}
use Rattle.histories.specs.NoPlace.{ReachesNoPlace}
use Rattle.histories.specs.Refusals.{Refusal}

-- ---- Demand 2, of a state: from any state that passes the audit, as a host may lend it, after any entries
-- it passes the audit,
abbrev pub StaysSound : Controller → Type 0
StaysSound c =
    (w : Carried) → audit_number w.state ≡ 0 → (es : List Entry) → audit_number (state_from c w es) ≡ 0

-- and slots and pages agree, in both directions, and a TreeLing has one owner.
abbrev pub SlotsAgree : Controller → Type 0
SlotsAgree c =
    (w : Carried) → audit_number w.state ≡ 0 → (es : List Entry) → Agreeing (sizes_in w.state) (state_from c w es)

-- Request M-110: "after a passed audit a block entered by moving back always has an entry without a free position, through every sequence of calls."
abbrev pub EnteredHasSpent : Controller → Type 0
EnteredHasSpent c =
    (w : Carried) → audit_number w.state ≡ 0 → (es : List Entry) → (d t b : ℕ) → d < (sizes_in w.state).domains
    → MovesBack (sizes_in w.state) (state_from c w es) d t b
    → HasSpent (sizes_in w.state) (state_from c w es) t b

-- Request M-101: no frame in a hole is ever mapped. The holes are those of the state at first.
abbrev pub NoHoleMapped : Controller → Type 0
NoHoleMapped c =
    (w : Carried) → audit_number w.state ≡ 0 → (es : List Entry) → (f : ℕ) → outside w.state f ≡ false
    → get (sizes_in w.state) (state_from c w es) (leaf f) ≡ 0

-- The holes stay: words 8 to 24.
abbrev pub HolesStay : Controller → Type 0
HolesStay c =
    (w : Carried) → audit_number w.state ≡ 0 → (es : List Entry) → (j : ℕ) → 8 ≤ j → j < 25 → get_or (state_from c w es) j 0 ≡ get_or w.state j 0

-- ---- Demand 2, of a request: call, domain, frame and count
abbrev pub Answerer : Type 0
Answerer = Sizes → List ℕ → ℕ → ℕ → ℕ → ℕ → Outcome

-- After every request a sound state is sound, and slots and pages agree.
abbrev pub RequestSound : Answerer → Type 0
RequestSound answer = (z : Sizes) (s : List ℕ) (c d f n : ℕ) → Sound z s → Sound z (answer z s c d f n).words

abbrev pub RequestSlotsAgree : Answerer → Type 0
RequestSlotsAgree answer = (z : Sizes) (s : List ℕ) (c d f n : ℕ) → Sound z s → Agreeing z (answer z s c d f n).words

-- A block entered by moving back has an entry without a free position, whichever domain's head moves.
abbrev pub RequestEnteredHasSpent : Answerer → Type 0
RequestEnteredHasSpent answer =
    (z : Sizes) (s : List ℕ) (c d f n : ℕ) → Sound z s → (e t b : ℕ) → e < z.domains
    → MovesBack z (answer z s c d f n).words e t b
    → HasSpent z (answer z s c d f n).words t b

-- No request maps a frame in a hole.
abbrev pub RequestNoHoleMapped : Answerer → Type 0
RequestNoHoleMapped answer =
    (z : Sizes) (s : List ℕ) (c d f n : ℕ) → Sound z s → (g : ℕ) → outside s g ≡ false
    → get z (answer z s c d f n).words (leaf g) ≡ 0

-- No request moves the holes.
abbrev pub RequestHolesStay : Answerer → Type 0
RequestHolesStay answer =
    (z : Sizes) (s : List ℕ) (c d f n : ℕ) → Sound z s → (j : ℕ) → 8 ≤ j → j < 25 → get_or (answer z s c d f n).words j 0 ≡ get_or s j 0

-- Request M-104: a TreeLing that is unowned after a request has the last owner that it had before,
abbrev pub RequestFormersKept : Answerer → Type 0
RequestFormersKept answer =
    (z : Sizes) (s : List ℕ) (c d f n : ℕ) → Sound z s → (t : ℕ) → t < z.treelings → get z (answer z s c d f n).words (owner t) ≡ 0
    → get z (answer z s c d f n).words (former t) ≡ get z s (former t)

-- and one that a map takes was last held by the domain, wherever an unowned one was.
abbrev pub MapTakesFormer : Answerer → Type 0
MapTakesFormer answer =
    (z : Sizes) (s : List ℕ) (d f t u : ℕ) → Sound z s → t < z.treelings → u < z.treelings
    → get z s (owner t) ≡ 0 → get z (answer z s 3 d f 0).words (owner t) ≡ suc d
    → get z s (owner u) ≡ 0 → get z s (former u) ≡ suc d
    → get z s (former t) ≡ suc d

-- Demand 1, "state unchanged": a refused request leaves every word.
abbrev pub RefusedSame : Answerer → Type 0
RefusedSame answer =
    (z : Sizes) (s : List ℕ) (c d f n j : ℕ) → (answer z s c d f n).answer ≡ Refused j → (answer z s c d f n).words ≡ s

-- Each number is answered precisely in its case,
abbrev pub RefusedExactly : Answerer → Type 0
RefusedExactly answer =
    (z : Sizes) (s : List ℕ) (c d f n k : ℕ) → Sound z s → ((answer z s c d f n).answer ≡ Refused k) ↔ Refusal z s c d f n k

-- and so a map of a legal, unmapped frame of a live domain is done or hears 13, nothing else.
abbrev pub MapDoneOr13 : Answerer → Type 0
MapDoneOr13 answer =
    (z : Sizes) (s : List ℕ) (d f : ℕ) → Sound z s → d < z.domains → f < z.frames → outside s f ≡ true → Live z s d → get z s (leaf f) ≡ 0
    → (j : ℕ) → (answer z s 3 d f 0).answer ≡ Refused j → j ≡ 13

-- A map of a legal, unmapped frame is answered 13 precisely where every slot of the domain's TreeLings is in use and every TreeLing is owned;
abbrev pub MapNoPlace : Answerer → Type 0
MapNoPlace answer =
    (z : Sizes) (s : List ℕ) (d f : ℕ) → Sound z s → d < z.domains → f < z.frames → outside s f ≡ true → Live z s d → get z s (leaf f) ≡ 0
    → ((answer z s 3 d f 0).answer ≡ Refused 13) ↔ (AllInUse z s d × AllOwned z s)

-- a run of maps of legal frames, where it is not too long and that holds of the frame it has reached.
abbrev pub MapRunNoPlace : Answerer → Type 0
MapRunNoPlace answer =
    (z : Sizes) (s : List ℕ) (d f n : ℕ) → Sound z s → d < z.domains → 1 ≤ n → f + n ≤ z.frames → ((i : ℕ) → i < n → outside s (f + i) ≡ true) → Live z s d
    → ((answer z s 6 d f n).answer ≡ Refused 13) ↔ ((n ≤ longest_run) × ReachesNoPlace z s d f n)

-- "Pages is the number of pages this request mapped or released": of the domain's record,
abbrev pub PagesMapped : Answerer → Type 0
PagesMapped answer =
    (z : Sizes) (s : List ℕ) (c d f n : ℕ) → Sound z s → (c ≡ 3) ⊎ (c ≡ 6)
    → get z (answer z s c d f n).words (pages_mapped d) ≡ get z s (pages_mapped d) + pages_word (answer z s c d f n).answer

abbrev pub PagesReleased : Answerer → Type 0
PagesReleased answer =
    (z : Sizes) (s : List ℕ) (c d f n : ℕ) → Sound z s → (c ≡ 2) ⊎ (c ≡ 4) ⊎ (c ≡ 7)
    → get z s (pages_mapped d) ≡ get z (answer z s c d f n).words (pages_mapped d) + pages_word (answer z s c d f n).answer

-- and of the pages that the leaf map has of the domain.
abbrev pub FramesMapped : Answerer → Type 0
FramesMapped answer =
    (z : Sizes) (s : List ℕ) (c d f n : ℕ) → Sound z s → d < z.domains → (c ≡ 3) ⊎ (c ≡ 6)
    → true_number z (answer z s c d f n).words d ≡ true_number z s d + pages_word (answer z s c d f n).answer

abbrev pub FramesReleased : Answerer → Type 0
FramesReleased answer =
    (z : Sizes) (s : List ℕ) (c d f n : ℕ) → Sound z s → d < z.domains → (c ≡ 2) ⊎ (c ≡ 4) ⊎ (c ≡ 7)
    → true_number z s d ≡ true_number z (answer z s c d f n).words d + pages_word (answer z s c d f n).answer

-- A done map has its frame mapped and no other changed, and answers the slot that the leaf map has for it;
abbrev pub MapDone : Answerer → Type 0
MapDone answer =
    (z : Sizes) (s : List ℕ) (c d f n : ℕ) → Sound z s → c ≡ 3 → Passed (answer z s c d f n)
    → AllMapped z s (answer z s c d f n).words d f 1
    × ((answer z s c d f n).answer ≡ page_at z (answer z s c d f n).words (get z (answer z s c d f n).words (leaf f)) 1)

-- a done map run has every one of its frames mapped; unmap and unmap run likewise.
abbrev pub MapRunDone : Answerer → Type 0
MapRunDone answer =
    (z : Sizes) (s : List ℕ) (c d f n : ℕ) → Sound z s → c ≡ 6 → Passed (answer z s c d f n) → AllMapped z s (answer z s c d f n).words d f n

abbrev pub UnmapDone : Answerer → Type 0
UnmapDone answer =
    (z : Sizes) (s : List ℕ) (c d f n : ℕ) → Sound z s → c ≡ 4 → Passed (answer z s c d f n) → AllUnmapped z s (answer z s c d f n).words f 1

abbrev pub UnmapRunDone : Answerer → Type 0
UnmapRunDone answer =
    (z : Sizes) (s : List ℕ) (c d f n : ℕ) → Sound z s → c ≡ 7 → Passed (answer z s c d f n) → AllUnmapped z s (answer z s c d f n).words f n

-- Request M-100: a trim of a live domain returns its TreeLings without a mapped page, counts them, renumbers the others in order, and leaves every page in its place.
abbrev pub TrimExact : Answerer → Type 0
TrimExact answer =
    (z : Sizes) (s : List ℕ) (d : ℕ) → Sound z s → d < z.domains → Live z s d → GivesBack z s d (answer z s 8 d 0 0)

-- Request M-107: a fill of a live domain is done with nothing rounded away, and leaves every word.
abbrev pub FillExact : Answerer → Type 0
FillExact answer =
    (z : Sizes) (s : List ℕ) (d : ℕ) → Sound z s → d < z.domains → Live z s d
    → Filled z s d (answer z s 11 d 0 0).answer × ((answer z s 11 d 0 0).words ≡ s)

-- ---- Demand 3
-- Two histories of equal sizes and equal holes in which a domain asks the same, the others' mappings name no frame that it names, and it never hears “no place”: all its answers agree that are compared.
-- Request M-104, "Two histories still agree in rank, node and position": which TreeLing is taken may depend on the domain's own past and on the others, and it shows in its number alone.
abbrev pub Isolated : Controller → Type 0
Isolated c =
    (z : Sizes) → Allowed z → (holes : List ℕ) → HolesAllowed z holes → (d : ℕ) → d < z.domains
    → (v w : Carried) → JustMade z holes v → JustMade z holes w → (g h : List Entry)
    → asks d (heard_from c v g) ≡ asks d (heard_from c w h)
    → Fair d (heard_from c v g)
    → Fair d (heard_from c w h)
    → AllAgree (own_in d (heard_from c v g)) (own_in d (heard_from c w h))
