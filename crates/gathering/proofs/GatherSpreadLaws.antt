-- Laws of the passes that spread the leaf nodes over the entries, in order.
-- Assumes nothing.
use Prim.Native.Nat.{ℕ, suc, ◌+◌, ◌-◌, ◌*◌, ◌/◌, ◌%◌, ◌<◌, ◌≤◌}
use mathlib.Core.Path.{◌≡◌, refl, sym, ap, ap₂, subst, ◌∙◌}
use mathlib.Core.List.{List, [], ◌∷◌, ◌++◌}
use mathlib.Core.Bool.{Bool, true, false, cond, not, ◌&&◌, beq}
use mathlib.Core.Logic.{⊎_elim}
use native.Mathlib.Omega.{arith}
use borrow.Author.Tests.{lt-ltb, le-ltb, le-leb, lt-leb}
use lib.Dec.{eqb, ltb}
use lib.ListN.{length, get_or, length-append}
use lib.Seq.{get_or_at}
use Rattle.std.proofs.lemmas.Bool.{cases_lt}
use Rattle.std.proofs.Math.ListN.{get_or-append}
use Rattle.layout.specs.declared.Sizes.{Sizes}
use Rattle.layout.specs.Places.{Place, get, put, first}
use Rattle.layout.specs.Bounded.{count}
use Rattle.layout.proofs.BoundedLaws.{count_none, count_suc, count_mono}
use Rattle.world.specs.World.{entry_of}
use Rattle.gathering.specs.Regathering.{select}
use Rattle.sound.specs.Sentences.{link_of}
use Rattle.gathering.specs.CodeGathering.{Chain, Filled, Spreading, Ready, Stepped, entry_at, chosen, chosen_in, room, word_of, above_in, word_for, spread_word}
use Rattle.gathering.specs.declared.Walk.{Walk}
use Rattle.gathering.proofs.GatherListLaws.{select_yes, select_no, select-length, select_below}
use Rattle.gathering.proofs.GatherLaws.{fill_entry, fill_as, fill_none, fill_put, walk_entry, walk_node, walk_next, walk_ready, pass_begin, pass_ready, pass_next, pass_all}

-- The test of the code: is a node without a free position one of the spent?
pub chosen_is : (spent : Bool) (whole : ℕ) → chosen spent whole ≡ beq (eqb whole 0) spent
chosen_is spent whole = each spent (eqb whole 0)
  where
    each : (b e : Bool) → cond b e (not e) ≡ beq e b
    each true true = refl
    each true false = refl
    each false true = refl
    each false false = refl

module _ {z : Sizes} {s : List ℕ} {d m : ℕ} (h : Chain z s d m) (small : (q : ℕ) → q < 512 * m → above_in z s d q < 1073741824) where
  -- The word that a leaf node gets leaves the room above.
  pub word_for_small : (q : ℕ) → q < 512 * m → word_for z s d q < room
  word_for_small q l = omega (arith, small q l, h.below (q / 512) (omega arith), h.laid.sizes.max_treelings)

  -- ---- An entry among those written, and one that is not
  module _ (from : ℕ) (qs : List ℕ) (p : ℕ) where
    -- One among them has its leaf node's word; one before or after them has its own.
    pub spread_here : from ≤ p → p < from + length qs → spread_word z s d from qs p ≡ room * above_in z s d p + word_for z s d (get_or qs (p - from) 0)
    unfolding spread_word
    spread_here a b =
        ap₂ (λ (u v : Bool). room * above_in z s d p + cond (u && v) (word_for z s d (get_or qs (p - from) 0)) (word_of z s d p % room)) (le-leb from p a) (lt-ltb p (from + length qs) b)

    pub spread_before : p < from → spread_word z s d from qs p ≡ word_of z s d p
    unfolding spread_word
    spread_before a =
        ap (λ (u : Bool). room * above_in z s d p + cond (u && ltb p (from + length qs)) (word_for z s d (get_or qs (p - from) 0)) (word_of z s d p % room)) (lt-leb from p a)
        ∙ omega arith

    spread_after : from + length qs ≤ p → spread_word z s d from qs p ≡ word_of z s d p
    unfolding spread_word
    spread_after a =
        ap₂ (λ (u v : Bool). room * above_in z s d p + cond (u && v) (word_for z s d (get_or qs (p - from) 0)) (word_of z s d p % room)) (le-leb from p (omega arith)) (le-ltb p (from + length qs) a)
        ∙ omega arith

    -- What stands above stays.
    spread_above : p < 512 * m → ((e : ℕ) → e < length qs → get_or qs e 0 < 512 * m) → spread_word z s d from qs p / room ≡ above_in z s d p
    spread_above l inner =
        ⊎_elim
        (λ a. ap (λ (x : ℕ). x / room) (spread_before a))
        (λ a.
        ⊎_elim
        (λ b. omega (arith, spread_here a b, word_for_small (get_or qs (p - from) 0) (inner (p - from) (omega arith))))
        (λ b. ap (λ (x : ℕ). x / room) (spread_after b))
        (cases_lt p (from + length qs)))
        (cases_lt p from)

  -- One leaf node more.
  spread_more : (from : ℕ) (qs : List ℕ) (q p : ℕ) → (p ≡ from + length qs → ⊥) → spread_word z s d from qs p ≡ spread_word z s d from (qs ++ q ∷ []) p
  spread_more from qs q p apart =
      let long = length-append qs (q ∷ []) in
      ⊎_elim
      (λ a. spread_before from qs p a ∙ sym (spread_before from (qs ++ q ∷ []) p a))
      (λ a.
      ⊎_elim
      (λ b.
      spread_here from qs p a b
      ∙ ap (λ (e : ℕ). room * above_in z s d p + word_for z s d e) (sym (get_or-append qs (q ∷ []) 0 (p - from) (omega arith)))
      ∙ sym (spread_here from (qs ++ q ∷ []) p a (omega arith)))
      (λ b. spread_after from qs p b ∙ sym (spread_after from (qs ++ q ∷ []) p (omega arith)))
      (cases_lt p (from + length qs)))
      (cases_lt p from)

  -- ---- The pass
  module _ (from : ℕ) (t : ℕ → Bool) where
    -- Nothing is spread yet.
    spread_none : Filled z s d s m (spread_word z s d from (select t 0))
    unfolding select
    spread_none =
        fill_as h (fill_none h) λ p l.
        ⊎_elim (λ a. sym (spread_before from [] p a)) (λ a. sym (spread_after from [] p (omega arith))) (cases_lt p from)

    -- What stands above an entry, while the pass goes.
    spread_reads : (r : List ℕ) (j p : ℕ) → Filled z s d r m (spread_word z s d from (select t j)) → j ≤ 512 * m → p < 512 * m → get z r (entry_of z s d p) / room ≡ above_in z s d p
    spread_reads r j p f k l = ap (λ (x : ℕ). x / room) (f.inside p l) ∙ spread_above from (select t j) p l (λ e b. omega (arith, select_below t j e (omega (arith, select-length t j))))

    -- And after it.
    pub spread_keeps : {r : List ℕ} (j p : ℕ) → Filled z s d r m (spread_word z s d from (select t j)) → j ≤ 512 * m → p < 512 * m → above_in z r d p ≡ above_in z s d p
    spread_keeps {r} j p f k l = ap (λ (q : Place). get z r q / room) (fill_entry h f p l) ∙ spread_reads r j p f k l

    -- A leaf node that is not chosen, and one that is.
    spread_no : (r : List ℕ) (j : ℕ) → Filled z s d r m (spread_word z s d from (select t j)) → t j ≡ false → Filled z s d r m (spread_word z s d from (select t (suc j)))
    spread_no r j f e = rw (select_no t j e) f

    spread_yes : (r : List ℕ) (j k x : ℕ) → Filled z s d r m (spread_word z s d from (select t j)) → t j ≡ true → j < 512 * m
        → k ≡ from + count j t → k < 512 * m → x ≡ word_for z s d j
        → Filled z s d (put z r (entry_of z s d k) (room * (get z r (entry_of z s d k) / room) + x)) m (spread_word z s d from (select t (suc j)))
    spread_yes r j k x f e l at below is =
        rw (select_yes t j e)
        (fill_put h k (room * (get z r (entry_of z s d k) / room) + x) f below
        (λ p b apart. spread_more from (select t j) j p (λ q. apart (omega (arith, select-length t j))))
        here)
      where
        here : room * (get z r (entry_of z s d k) / room) + x ≡ spread_word z s d from (select t j ++ j ∷ []) k
        here =
            let long = length-append (select t j) (j ∷ []) in
            ap₂ (λ (u v : ℕ). room * u + v) (spread_reads r j k f (omega arith) below) is
            ∙ ap (λ (q : ℕ). room * above_in z s d k + word_for z s d q) (sym (get_or_at (select t j) j [] 0 (k - from) (omega (arith, select-length t j))))
            ∙ sym (spread_here from (select t j ++ j ∷ []) k (omega arith) (omega (arith, select-length t j)))

  -- ---- A turn, on a walk
  module _ {spent : Bool} {from : ℕ} (few : from + count (512 * m) (chosen_in z s d spent) ≤ 512 * m) where
    -- Where the pass begins, goes on and ends.
    pub spread_begin : {walk to : Walk} → (walk.link ≡ get z s (first d)) × (walk.at ≡ 0) → to.link ≡ link_of z s d (to.at / 512) → to.at ≡ from → Spreading z s d m spent from s walk to
    spread_begin e link at =
        record {
          walking = pass_begin h (spread_none from (chosen_in z s d spent)) e;
          to_at = omega (arith, at, ap (λ (n : ℕ). count n (chosen_in z s d spent)) e.1 ∙ count_none (chosen_in z s d spent));
          to_link = link;
        }

    pub spread_ready : {r : List ℕ} {walk to : Walk} → Spreading z s d m spent from r walk to → walk.at < 512 * m → Ready z r walk
    spread_ready k l = pass_ready h k.walking l

    pub spread_all : {r : List ℕ} {walk to : Walk} → Spreading z s d m spent from r walk to → 512 * m ≤ walk.at
        → (to.at ≡ from + count (512 * m) (chosen_in z s d spent)) × (to.link ≡ link_of z s d (to.at / 512)) × Filled z s d r m (spread_word z s d from (select (chosen_in z s d spent) (512 * m)))
    spread_all {walk = walk} k done =
        let all : walk.at ≡ 512 * m = omega (arith, k.walking.below) in
        (k.to_at ∙ ap (λ (j : ℕ). from + count j (chosen_in z s d spent)) all, k.to_link, pass_all h k.walking done)

    module _ {r : List ℕ} {walk to : Walk} (k : Spreading z s d m spent from r walk to) (l : walk.at < 512 * m) {x : ℕ} (is : x ≡ get z r (entry_at walk)) where
      -- What is read is the leaf node's whole availability.
      spread_whole : x / room ≡ above_in z s d walk.at
      spread_whole =
          ap (λ (y : ℕ). y / room) (is ∙ ap (get z r) (walk_entry h k.walking.link_is l))
          ∙ spread_reads from (chosen_in z s d spent) r walk.at walk.at k.walking.filled (omega arith) l

      -- A leaf node that is not chosen.
      pub spread_pass : {after : Walk} → chosen spent (x / room) ≡ false → Stepped z r walk after → Spreading z s d m spent from r after to
      spread_pass other stepped =
          let t = chosen_in z s d spent in
          let w = k.walking in
          let no_more : t walk.at ≡ false = ap (chosen spent) (sym spread_whole) ∙ other in
          let same : count (suc walk.at) t ≡ count walk.at t = count_suc walk.at t ∙ ap (λ (b : Bool). count walk.at t + cond b 1 0) no_more ∙ omega arith in
          record {
            walking = pass_next h w l (spread_no from t r walk.at w.filled no_more) w.filled stepped;
            to_at = k.to_at ∙ ap (λ (n : ℕ). from + n) (sym same) ∙ ap (λ (j : ℕ). from + count j t) (sym stepped.at_is);
            to_link = k.to_link;
          }

      -- A leaf node that is chosen has an entry to go to, and a word that fits.
      module _ (yes : chosen spent (x / room) ≡ true) (node : ℕ) (node_is : node ≡ 512 * (walk.link - 1) + walk.at % 512) where
        chosen_here : chosen_in z s d spent walk.at ≡ true
        chosen_here = ap (chosen spent) (sym spread_whole) ∙ yes

        one_more : count (suc walk.at) (chosen_in z s d spent) ≡ suc (count walk.at (chosen_in z s d spent))
        one_more =
            let t = chosen_in z s d spent in
            count_suc walk.at t ∙ ap (λ (b : Bool). count walk.at t + cond b 1 0) chosen_here ∙ omega arith

        to_below : to.at < 512 * m
        to_below =
            let t = chosen_in z s d spent in
            let rest = 512 * m - suc walk.at in
            let all : suc walk.at + rest ≡ 512 * m = omega arith in
            omega (arith, count_mono (suc walk.at) rest t, ap (λ (n : ℕ). count n t) all, one_more, k.to_at)

        pub to_ready : Ready z r to
        to_ready = walk_ready h k.to_link to_below k.walking.filled

        word_here : 256 * node + x / room ≡ word_for z s d walk.at
        word_here = ap₂ (λ (a b : ℕ). 256 * a + b) (node_is ∙ walk_node h k.walking.link_is l) spread_whole

        pub word_fits : 256 * node + x / room < room
        word_fits = rw word_here (word_for_small walk.at l)

        -- It is written there.
        pub spread_turn : {q : List ℕ} {after on : Walk}
            → q ≡ put z r (entry_at to) (room * (get z r (entry_at to) / room) + (256 * node + x / room))
            → Stepped z r walk after → Stepped z r to on → Spreading z s d m spent from q after on
        spread_turn {q} puts stepped moved =
            let t = chosen_in z s d spent in
            let w = k.walking in
            let at = walk_entry h k.to_link to_below in
            let word = 256 * node + x / room in
            let more : Filled z s d q m (spread_word z s d from (select t (suc walk.at))) =
            subst (λ (u : List ℕ). Filled z s d u m (spread_word z s d from (select t (suc walk.at)))) (sym (puts ∙ ap (λ (p : Place). put z r p (room * (get z r p / room) + word)) at))
            (spread_yes from t r walk.at to.at word w.filled chosen_here l k.to_at to_below word_here) in
            record {
              walking = pass_next h w l more w.filled stepped;
              to_at = moved.at_is ∙ ap suc k.to_at ∙ omega (arith, one_more, ap (λ (j : ℕ). count j t) stepped.at_is);
              to_link = walk_next h k.to_link to_below w.filled moved;
            }
