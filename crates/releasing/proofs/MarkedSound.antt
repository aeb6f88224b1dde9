-- Releasing by marking an entry keeps a state sound: the entry gets a bit, or an entry without a free position gets another tag with that bit only, and its block is the head.
-- Assumes nothing.
use Prim.Native.Nat.{ℕ, suc, ◌+◌, ◌*◌, ◌/◌, ◌%◌, ◌^◌, ◌<◌, ◌≤◌}
use mathlib.Core.Path.{◌≡◌, refl, sym, ap, ap₂, subst, ◌∙◌}
use mathlib.Core.List.{List}
use mathlib.Core.Bool.{Bool, true, false, cond}
use native.Mathlib.Omega.{arith}
use borrow.Author.Tests.{eq-eqb, ne_eqb}
use lib.Dec.{eqb}
use lib.ListN.{length-set}
use lib.Seq.{get_or-set_other}
use Rattle.layout.specs.declared.Sizes.{Sizes}
use Rattle.leaf_map.specs.LeafIds.{node_of_leaf, position_of_leaf, slot_number, treeling_of}
use Rattle.geometry.specs.Tables.{bit}
use Rattle.geometry.specs.Entries.{entry_word, tag_of, availability_of}
use Rattle.layout.specs.Places.{address, get, put, leaf, owner}
use Rattle.sound.proofs.MappedLaws.{MappedBy, mapped_id, mapped_slot}
use Rattle.geometry.proofs.GeometryLaws.{entry_tag}
use Rattle.leaf_map.proofs.LeafIdLaws.{Names, names, node_treeling, position_below}
use Rattle.layout.proofs.PlaceLaws.{get-put_same}
use Rattle.sound.specs.Sentences.{marks_free, of_rank}
use Rattle.sound.specs.Sound.{Sound, Ordinary}
use Rattle.sound.proofs.BitLaws.{bit_most, bit_none, single_bit}
use Rattle.world.specs.World.{world, owned, entry_of}
use Rattle.gathering.specs.Regathering.{head_at}
use Rattle.releasing.specs.Releasing.{unmapped}
use Rattle.world.proofs.WorldLaws.{of_rank_lem}
use Rattle.world.proofs.FrameLaws.{either}
use Rattle.world.proofs.ChangeLaws.{count_change}
use Rattle.releasing.proofs.FreeBitLaws.{byte_added, bits_added, power_below, cond_add, marks_bit, slot_bit}
use Rattle.releasing.proofs.NeverStuck.{HeadFits}
use Rattle.releasing.proofs.RefillLaws.{one, own_free, Rewritten, Refilled, entry_within, entry_apart, not_marked, refilled_sound}

-- One entry of the domain's has another word.
pub one_rewritten : (z : Sizes) (s : List ℕ) (h : Sound z s) (d : ℕ) (l : d < z.domains) (j w : ℕ) → j < 512 * owned z s d → Rewritten z s d (put z s (entry_of z s d j) w)
one_rewritten z s h d l j w less =
    record {
      long = length-set s (address z (entry_of z s d j)) w;
      same = λ a apart. get_or-set_other s (address z (entry_of z s d j)) a w 0 (apart j less);
    }

module _ (z : Sizes) (s : List ℕ) (h : Sound z s) (d : ℕ) (l : d < z.domains) (o : Ordinary z s d) (f : ℕ) (k : f < z.frames) (m : MappedBy z s d f) where
  -- The page's slot, its node and its position.
  abbrev x : ℕ
  x = slot_number (get z s (leaf f))

  abbrev n : ℕ
  n = node_of_leaf (get z s (leaf f))

  abbrev i : ℕ
  i = position_of_leaf (get z s (leaf f))

  small : i < 8
  small = position_below (get z s (leaf f))

  named : Names (get z s (leaf f))
  named = names (get z s (leaf f)) (mapped_id z s d f h k m o)

  -- Entry j in rank order gets tag n and availability a, and marks the slot besides what it marked before.
  module _ (j a : ℕ) (less : j < 512 * owned z s d) (fits : HeadFits (world z s d) (j / 8)) (byte : a < 256)
      (marks : (y : ℕ) → one (marks_free z s y (entry_word n a)) ≡ one (marks_free z s y (get z s (entry_of z s d j))) + one (eqb x y)) where
    abbrev e : List ℕ
    e = put z s (entry_of z s d j) (entry_word n a)

    read_here : get z e (entry_of z s d j) ≡ entry_word n a
    read_here =
        get-put_same z s (entry_of z s d j) (entry_word n a) h.laid_out.laid (entry_within z s d h l j less)

    read_else : (c : ℕ) → c < 512 * owned z s d → (c ≡ j → ⊥) → get z e (entry_of z s d c) ≡ get z s (entry_of z s d c)
    read_else c lc apart =
        get_or-set_other s (address z (entry_of z s d j)) (address z (entry_of z s d c)) (entry_word n a) 0 (λ is. apart (entry_apart z s d h l c j lc less is))

    -- What holds of the new word and of each old one holds of all.
    each : (P : ℕ → Type 0) → P (entry_word n a) → (c : ℕ) → c < 512 * owned z s d → P (get z s (entry_of z s d c)) → P (get z e (entry_of z s d c))
    each P new c lc old =
        either c j
        (λ is. subst (λ (v : ℕ). P (get z e (entry_of z s d v))) (sym is) (subst P (sym read_here) new))
        (λ apart. subst P (sym (read_else c lc apart)) old)

    own : tag_of (entry_word n a) / 512 ≡ treeling_of (get z s (leaf f))
    own = omega (arith, entry_tag n a byte, node_treeling (get z s (leaf f)) (mapped_id z s d f h k m o))

    marked : Refilled z s d e (j / 8) x
    unfolding own_free
    marked =
        record {
          tag_range = λ c lc. each (λ w. tag_of w < 512 * z.treelings) (omega (arith, entry_tag n a byte, named.node_is, mapped_slot z s d f h k m o)) c lc
              (let t = of_rank_lem z s h d l (c / 512) (omega arith) in h.tag_range d (of_rank z s d (c / 512)) (c % 512) t.below (omega arith) t.owner_is o);
          tag_own = λ c lc. each (λ w. get z s (owner (tag_of w / 512)) ≡ suc d) (ap (λ (t : ℕ). get z s (owner t)) own ∙ m.own) c lc
              (let t = of_rank_lem z s h d l (c / 512) (omega arith) in h.tag_own d (of_rank z s d (c / 512)) (c % 512) t.below (omega arith) t.owner_is o);
          below = fits.below;
          before = λ c lc. ap availability_of (read_else c (omega arith) (λ is. omega arith)) ∙ fits.before c lc;
          after = λ c low lc. subst (λ (w : ℕ). 0 < availability_of w) (sym (read_else c lc (λ is. omega arith))) (fits.after c low lc);
          slots = λ y ly.
              let change = count_change (512 * owned z s d) j (λ c. marks_free z s y (get z s (entry_of z s d c))) (λ c. marks_free z s y (get z e (entry_of z s d c))) less (λ c lc apart. ap (marks_free z s y) (read_else c lc apart)) in
              omega (arith, marks y, ap (λ (w : ℕ). one (marks_free z s y w)) read_here);
        }

    pub marked_sound : Sound z (unmapped z s d f (head_at z s d (j / 8) e))
    marked_sound = refilled_sound z s h d l f k e (one_rewritten z s h d l j (entry_word n a) less) (j / 8) o m marked

  module _ (q c : ℕ) (fits : HeadFits (world z s d) q) (lc : c < 8) where
    -- Entry c of block q, its word and the new one with availability a.
    abbrev j : ℕ
    j = 8 * q + c

    abbrev w : ℕ
    w = get z s (entry_of z s d j)

    j_below : j < 512 * owned z s d
    j_below = omega (arith, fits.below)

    j_fits : HeadFits (world z s d) (j / 8)
    j_fits = let is : q ≡ j / 8 = omega arith in subst (HeadFits (world z s d)) is fits

    -- What it marks, by its bits: the slot is bit i of node n.
    new_marks : (a y : ℕ) → a < 256 → one (marks_free z s y (entry_word n a)) ≡ cond (eqb n (y / 8)) (bit (y % 8) a) 0
    new_marks a y byte =
        let tag : tag_of (entry_word n a) ≡ n = omega arith in
        let free : availability_of (entry_word n a) ≡ a = omega arith in
        marks_bit z s y (entry_word n a) ∙ ap₂ (λ (g v : ℕ). cond (eqb g (y / 8)) (bit (y % 8) v) 0) tag free

    slot_marks : (y : ℕ) → one (eqb x y) ≡ cond (eqb n (y / 8)) (bit (y % 8) (2 ^ i)) 0
    slot_marks y =
        let is : x ≡ 8 * n + i = omega (arith, named.node_is, named.position_is) in
        ap (λ (v : ℕ). one (eqb v y)) is ∙ slot_bit n i y small

    -- "gets bit i": an entry with tag n, which has not marked the slot.
    pub tagged_sound : tag_of w ≡ n → Sound z (unmapped z s d f (head_at z s d (j / 8) (put z s (entry_of z s d j) (entry_word n (availability_of w + 2 ^ i)))))
    tagged_sound tag = marked_sound j (availability_of w + 2 ^ i) j_below j_fits added marks
      where
        old_none : bit i (availability_of w) ≡ 0
        old_none =
            ap (λ (b : ℕ). bit b (availability_of w)) named.position_is
            ∙ sym (ap (λ (b : Bool). cond b (bit (x % 8) (availability_of w)) 0) (eq-eqb (tag_of w) (x / 8) (tag ∙ named.node_is)))
            ∙ sym (marks_bit z s x w)
            ∙ ap one (not_marked z s h d l o f k m j j_below)

        no_both : (v : ℕ) → v < 8 → bit v (availability_of w) + bit v (2 ^ i) ≤ 1
        no_both v lv =
            either v i
            (λ is. omega (arith, ap (λ (u : ℕ). bit u (availability_of w)) is, old_none, bit_most v (2 ^ i)))
            (λ apart. omega (arith, bit_most v (availability_of w), single_bit v i lv small, ap one (ne_eqb v i apart)))

        added : availability_of w + 2 ^ i < 256
        added = byte_added (availability_of w) (2 ^ i) (omega arith) (power_below i small) no_both

        marks : (y : ℕ) → one (marks_free z s y (entry_word n (availability_of w + 2 ^ i))) ≡ one (marks_free z s y w) + one (eqb x y)
        marks y =
            omega (
              arith,
              new_marks (availability_of w + 2 ^ i) y added,
              ap (λ (v : ℕ). cond (eqb n (y / 8)) v 0) (bits_added (availability_of w) (2 ^ i) (omega arith) (power_below i small) no_both (y % 8)),
              cond_add (eqb n (y / 8)) (bit (y % 8) (availability_of w)) (bit (y % 8) (2 ^ i)),
              slot_marks y,
              marks_bit z s y w,
              ap (λ (g : ℕ). cond (eqb g (y / 8)) (bit (y % 8) (availability_of w)) 0) tag,
            )

    -- "becomes tag N, bit i only": an entry that marked nothing.
    pub spent_sound : availability_of w ≡ 0 → Sound z (unmapped z s d f (head_at z s d (j / 8) (put z s (entry_of z s d j) (entry_word n (2 ^ i)))))
    spent_sound none =
        marked_sound j (2 ^ i) j_below j_fits (power_below i small) (λ y. omega (arith, new_marks (2 ^ i) y (power_below i small), slot_marks y, old_marks y))
      where
        old_marks : (y : ℕ) → one (marks_free z s y w) ≡ 0
        old_marks y =
            marks_bit z s y w ∙ ap (λ (v : ℕ). cond (eqb (tag_of w) (y / 8)) v 0) (ap (bit (y % 8)) none ∙ bit_none (y % 8)) ∙ no_bit (eqb (tag_of w) (y / 8))
          where
            no_bit : (b : Bool) → cond {A = ℕ} b 0 0 ≡ 0
            no_bit true = refl
            no_bit false = refl
