-- A domain takes a TreeLing and places a page in it: the state is sound afterwards.
-- Assumes nothing.
use Prim.Native.Nat.{ℕ, suc, ◌+◌, ◌-◌, ◌*◌, ◌/◌, ◌^◌, ◌<◌, ◌≤◌}
use mathlib.Core.Path.{◌≡◌, refl, sym, ap, ap₂, subst, ◌∙◌}
use mathlib.Core.List.{List}
use mathlib.Core.Bool.{Bool, true, cond, false≢true}
use native.Mathlib.Omega.{arith}
use borrow.Author.Tests.{eq-eqb, ne_eqb}
use Rattle.layout.specs.declared.Sizes.{Sizes}
use Rattle.geometry.specs.Tables.{first_from, lowest_free}
use Rattle.geometry.specs.Entries.{entry_word, tag_of, availability_of}
use Rattle.layout.specs.Places.{Laid, get, entry, leaf, last, pages_mapped, owner}
use Rattle.board.specs.Holes.{outside}
use Rattle.sound.specs.Sentences.{is_ordinary, times_free, times_named, true_number}
use Rattle.sound.proofs.TestLaws.{ordinary_test, kind_kept}
use Rattle.leaf_map.specs.LeafIds.{LeafFits, leaf_fits}
use Rattle.sound.specs.Sound.{Sound, LeavesFit, HoleZero, Ordinary}
use Rattle.sound.proofs.HoleZeroLaws.{hole_kept}
use Rattle.world.specs.World.{world, owned}
use Rattle.taking.specs.Taking.{taking}
use Rattle.placing.specs.Placing.{position_given, after_giving, place_entry}
use Rattle.world.proofs.FrameLaws.{either}
use Rattle.placing.proofs.PlacedSound.{Given, placed_given, placed_range, placed_slots, placed_pages}
use Rattle.taking.proofs.TakenLaws.{Taken, taken}
use Rattle.taking.proofs.TakenSlots.{taken_once, taken_pages}
use Rattle.placing.proofs.NoPlace.{no_free}
use Rattle.world.proofs.GrownLaws.{Grown, grown_sound}

-- ---- The words
module _ (z : Sizes) (s m r : List ℕ) (d f t : ℕ) (hd : d < z.domains) (ht : t < z.treelings)
    (below : (v : ℕ) → get z s (last d) ≡ suc v → v < z.treelings) (w : Taken z s m d t) (g : Given z m r d f t 0) where
  -- The entry that gives the slot.
  entry_before : get z m (entry t 0) ≡ entry_word (512 * t) 255
  entry_before = w.fresh 0 (omega arith) ∙ ap (λ (n : ℕ). entry_word n 255) (omega arith)

  full_lowest : lowest_free 255 ≡ 0
  unfolding first_from
  full_lowest = refl

  entry_after : get z r (entry t 0) ≡ entry_word (512 * t) 254
  entry_after =
      let full : availability_of (entry_word (512 * t) 255) ≡ 255 = omega arith in
      let position : position_given z m t 0 ≡ 0 =
      ap (λ (v : ℕ). lowest_free (availability_of v)) entry_before ∙ ap lowest_free full ∙ full_lowest in
      let less : entry_word (512 * t) 255 - 2 ^ 0 ≡ entry_word (512 * t) 254 = omega arith in
      g.entry_is ∙ ap₂ (λ (v i : ℕ). v - 2 ^ i) entry_before position ∙ less

  -- Each entry of t has a free position.
  own_entry_lem : (k : ℕ) → k < 512 → (tag_of (get z r (entry t k)) ≡ 512 * t + k) × (0 < availability_of (get z r (entry t k)))
  own_entry_lem k l =
      either k 0
      (λ is.
      let word = ap (λ (i : ℕ). get z r (entry t i)) is ∙ entry_after in
      (omega arith, omega arith))
      (λ other.
      let word = g.same_entry t k ht l (λ e. other (cc)) ∙ w.fresh k l in
      (omega arith, omega arith))

  grown : Grown z s r d t
  grown =
      record {
        long = g.long ∙ w.long;
        same_content = λ i l apart. g.same_content i l ∙ w.same_content i l apart;
        hand_is = g.same_content 3 (omega arith) ∙ w.hand_is;
        same_domain = λ e j l n apart. g.same_domain e j l n (λ is. absurd (apart is)) ∙ w.same_domain e j l n apart;
        live_is = g.same_domain d 0 hd (omega arith) (λ _. omega arith) ∙ w.same_own 0 (omega arith) (omega arith) (omega arith);
        first_is = λ e. g.same_domain d 1 hd (omega arith) (λ _. omega arith) ∙ w.first_is e;
        same_first = λ v e. g.same_domain d 1 hd (omega arith) (λ _. omega arith) ∙ w.same_first v e;
        last_is = g.same_domain d 2 hd (omega arith) (λ _. omega arith) ∙ w.last_is;
        head_is = g.head_is;
        block_is = g.block_is;
        owner_is = g.same_treeling t 0 ht (omega arith) ∙ w.owner_is;
        previous_is = g.same_treeling t 1 ht (omega arith) ∙ w.previous_is;
        rank_is = g.same_treeling t 3 ht (omega arith) ∙ w.rank_is;
        former_is = g.same_treeling t 4 ht (omega arith) ∙ w.former_is;
        link_is = λ v e. g.same_treeling v 2 (below v e) (omega arith) ∙ w.link_is v e;
        same_next = λ u l apart. g.same_treeling u 2 l (omega arith) ∙ w.same_next u l apart;
        same_treeling = λ u j l n apart other. g.same_treeling u j l n ∙ w.same_treeling u j l n apart other;
        tag_is = λ k l. (own_entry_lem k l).0;
        some_free = λ k l. (own_entry_lem k l).1;
        same_entry = λ u k l n apart. g.same_entry u k l n (λ e. apart (cc)) ∙ w.same_entry u k l n apart;
      }

-- ---- Taking and placing
-- A live domain whose own entries have no free position takes an unowned TreeLing and places a page there: the state is sound.
module _ (z : Sizes) (s : List ℕ) (d f t : ℕ) (h : Sound z s) (hd : d < z.domains) (lf : f < z.frames) (out : outside s f ≡ true) (alive : Ordinary z s d)
    (unmapped : get z s (leaf f) ≡ 0) (ht : t < z.treelings) (unowned : get z s (owner t) ≡ 0) (past : 512 * owned z s d ≤ place_entry (world z s d)) where
  -- The words between and after.
  abbrev between : List ℕ
  between = taking z s d t

  abbrev after : List ℕ
  after = after_giving z between d f t 0

  last_below : (v : ℕ) → get z s (last d) ≡ suc v → v < z.treelings
  last_below v e = omega (arith, h.last_range d hd)

  took : Taken z s between d t
  took = taken z s d t h.laid_out.laid hd ht last_below

  laid : Laid z between
  laid = record { sizes = h.laid_out.laid.sizes; long = took.long ∙ h.laid_out.laid.long }

  gave : Given z between after d f t 0
  gave = placed_given z between d f t 0 laid hd lf ht (omega arith)

  -- The entry that gives the slot, before it does.
  free : 0 < availability_of (get z between (entry t 0))
  free = omega (arith, took.fresh 0 (omega arith))

  tag : tag_of (get z between (entry t 0)) ≡ 512 * t
  tag = omega (arith, took.fresh 0 (omega arith))

  own : get z between (owner (tag_of (get z between (entry t 0)) / 512)) ≡ suc d
  own = let node : tag_of (get z between (entry t 0)) / 512 ≡ t = omega (arith, tag) in ap (λ (u : ℕ). get z between (owner u)) node ∙ took.owner_is

  -- Leaf IDs are in range, each slot is free or named once, and pages mapped is the true number.
  leaves : LeavesFit z after
  leaves c l =
      either c f
      (λ is. subst (λ (x : ℕ). LeafFits z.treelings (get z after (leaf x))) (sym is) (placed_range z between after d f t 0 gave lf ht (omega arith) free (omega (arith, tag))))
      (λ other. ap (leaf_fits z.treelings) (gave.same_leaf c l other ∙ took.same_leaf c) ∙ h.leaf_range c l)

  owner_small : (u : ℕ) → u < z.treelings → get z between (owner u) - 1 < z.domains
  owner_small u l =
      either u t
      (λ is. omega (arith, ap (λ (v : ℕ). get z between (owner v)) is, took.owner_is))
      (λ apart. omega (arith, took.same_treeling u 0 l (omega arith) apart (omega arith), h.owner_range u l, h.laid_out.laid.sizes.some_domains))

  kinds : (u : ℕ) → u < z.treelings → is_ordinary z after u ≡ is_ordinary z between u
  kinds u l =
      kind_kept z between after u (gave.same_treeling u 0 l (omega arith))
      (gave.same_domain (get z between (owner u) - 1) 0 (owner_small u l) (omega arith) (λ _. omega arith))

  once : (y : ℕ) → y < 4096 * z.treelings → times_free z after y + times_named z after y ≡ cond (is_ordinary z after (y / 4096)) 1 0
  once y l =
      placed_slots z between after d f t 0 gave lf ht (omega arith) free kinds (ordinary_test z between t d took.owner_is (took.same_own 0 (omega arith) (omega arith) (omega arith) ∙ alive)) (took.same_leaf f ∙ unmapped) y
      ∙ taken_once z s between d t h alive unowned took y l
      ∙ ap (λ (b : Bool). cond {A = ℕ} b 1 0) (sym (kinds (y / 4096) (omega arith)))

  -- The hole words stay, and the frame lies in no hole.
  taken_grown : Grown z s after d t
  taken_grown = grown z s between after d f t hd ht last_below took gave

  holes : HoleZero z after
  holes =
      hole_kept z s after h.laid_out.holes_fit_lem (λ j low high. taken_grown.same_content j high (omega arith))
      (λ c l inside none.
      either c f
      (λ is. absurd (false≢true (sym inside ∙ ap (outside s) is ∙ out)))
      (λ other. gave.same_leaf c l other ∙ took.same_leaf c ∙ none))
      h.hole_zero

  pages : (e : ℕ) → e < z.domains → get z after (pages_mapped e) ≡ true_number z after e
  pages e l =
      let more = placed_pages z between after d f t 0 gave lf ht (omega arith) free laid (omega (arith, tag)) own (took.same_leaf f ∙ unmapped) (λ c m. ap (leaf_fits z.treelings) (took.same_leaf c) ∙ h.leaf_range c m) e in
      let same = taken_pages z s between d t h alive unowned took e in
      let was = h.pages_true_lem e l in
      either e d
      (λ is.
      omega (
        arith,
        ap (λ (b : Bool). cond {A = ℕ} b 1 0) (eq-eqb d e (sym is)),
        ap (λ (c : ℕ). get z after (pages_mapped c)) is,
        ap (λ (c : ℕ). get z s (pages_mapped c)) is,
        gave.pages_are,
        took.same_own 5 (omega arith) (omega arith) (omega arith),
      ))
      (λ other.
      omega (
        arith,
        ap (λ (b : Bool). cond {A = ℕ} b 1 0) (ne_eqb d e (λ is. other (sym is))),
        gave.same_domain e 5 l (omega arith) (λ is. absurd (other is)),
        took.same_domain e 5 l (omega arith) other,
      ))

  pub taken_sound : Sound z (after_giving z (taking z s d t) d f t 0)
  taken_sound =
      grown_sound z s after d t h hd ht unowned taken_grown (no_free z s d h hd alive past) alive leaves once holes pages
