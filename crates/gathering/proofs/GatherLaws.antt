-- Laws of the passes of regathering: what a pass leaves in a domain's entries, and how passes follow one another.
-- Assumes nothing.
use Prim.Native.Nat.{ℕ, zero, suc, ◌+◌, ◌-◌, ◌*◌, ◌/◌, ◌%◌, ◌<◌, ◌≤◌}
use mathlib.Core.Path.{◌≡◌, refl, sym, ap, ap₂, subst, ◌∙◌}
use mathlib.Core.List.{List, ◌++◌}
use mathlib.Core.Bool.{Bool, true, false, cond}
use native.Mathlib.Nat.{zero-add}
use native.Mathlib.Numerals.{add-one}
use native.Mathlib.Omega.{arith}
use borrow.Author.Tests.{ltb-true, eqb-true, eqb-false, lt-ltb, le-ltb, eq-eqb, ne_eqb}
use lib.Dec.{eqb, ltb}
use borrow.Rule.Slice.PartMut.{mid_of, post_of, put_mid, put_same}
use lib.ListN.{length, get_or, set, take, drop, length-set}
use Rattle.std.proofs.lemmas.List.{get_or-take, get_or-drop, length-take-le, length-drop, set-append_left, set-append_right}
use lib.Seq.{get_or-set_same, get_or-set_other, ext_get_or}
use Rattle.layout.specs.declared.Sizes.{Sizes}
use Rattle.layout.specs.Places.{Place, address, domain, treeling, entry, get, put, first, last, owner, next, rank}
use Rattle.geometry.specs.Entries.{tag_of, availability_of}
use Rattle.sound.specs.Sound.{Sound, Ordinary}
use Rattle.layout.proofs.BoundedLaws.{sum_suc, sum_le, sum_const, sum_none}
use Rattle.sound.specs.Sentences.{of_rank, link_of}
use Rattle.world.specs.World.{owned, entry_of, node_of}
use Rattle.gathering.specs.CodeGathering.{Chain, Filled, Walking, Ready, Stepped, entry_at, up_to, room, lowered, home_of, word_of, gathered_above, gathering_word}
use Rattle.gathering.specs.declared.Walk.{Walk}
use Rattle.sound.proofs.TestLaws.{same_test}
use Rattle.world.proofs.WorldLaws.{of_rank_lem, last_none, last_some, rank_one, rank_below_owned, of_rank_back, first_none, next_none, entry_back, node_one, owned_most}

-- ---- Words lowered in a row
-- One that is not lowered yet.
lowered_later : (s : List ℕ) (at n j : ℕ) → n ≤ j → get_or (lowered s at n) (at + j) 0 ≡ get_or s (at + j) 0
unfolding lowered
lowered_later s at zero j l = refl
lowered_later s at (suc n) j l =
    get_or-set_other (lowered s at n) (at + n) (at + j) (get_or s (at + n) 0 % room) 0 (λ e. omega arith) ∙ lowered_later s at n j (omega arith)

pub lowered_none : (s : List ℕ) (at : ℕ) → s ≡ lowered s at 0
unfolding lowered
lowered_none s at = refl

pub lowered-length : (s : List ℕ) (at n : ℕ) → length (lowered s at n) ≡ length s
unfolding lowered
lowered-length s at zero = refl
lowered-length s at (suc n) = length-set (lowered s at n) (at + n) (get_or s (at + n) 0 % room) ∙ lowered-length s at n

-- The next one,
pub lowered-next : (s r : List ℕ) (at n : ℕ) → r ≡ lowered s at n → set r (at + n) (get_or r (at + n) 0 % room) ≡ lowered s at (n + 1)
unfolding lowered
lowered-next s r at n is =
    ap (λ (w : List ℕ). set w (at + n) (get_or w (at + n) 0 % room)) is
    ∙ ap (λ (x : ℕ). set (lowered s at n) (at + n) (x % room)) (lowered_later s at n n (omega arith))
    ∙ ap (lowered s at) (sym (add-one n))

-- and of words that stand alone.
pub lowered_alone : (s r : List ℕ) (n : ℕ) → r ≡ lowered s 0 n → set r n (get_or r n 0 % room) ≡ lowered s 0 (n + 1)
lowered_alone s r n is =
    ap₂ (λ (k i : ℕ). set r k (get_or r i 0 % room)) (sym (zero-add n)) (sym (zero-add n))
    ∙ lowered-next s r 0 n is

-- A word set in a part of the words.
set_part : (s w : List ℕ) (a k j v : ℕ) → a ≤ length s → j < length w → put_mid a k s (set w j v) ≡ set (put_mid a k s w) (a + j) v
set_part s w a k j v inside low =
    let at : j ≡ a + j - a = omega arith in
    ap (λ (u : List ℕ). take a s ++ u) (sym (set-append_left w (post_of a k s) j v low) ∙ ap (λ (i : ℕ). set (w ++ post_of a k s) i v) at)
    ∙ sym (set-append_right (take a s) (w ++ post_of a k s) a (a + j) v (length-take-le a s inside) (omega arith))

-- A part that is lowered.
pub lowered_part : (s : List ℕ) (a k n : ℕ) → a + k ≤ length s → n ≤ k → put_mid a k s (lowered (mid_of a k s) 0 n) ≡ lowered s a n
unfolding lowered
lowered_part s a k zero inside low = put_same a k s
lowered_part s a k (suc n) inside low =
    let w = lowered (mid_of a k s) 0 n in
    let word : get_or (mid_of a k s) (0 + n) 0 ≡ get_or s (a + n) 0 =
    ap (λ (i : ℕ). get_or (mid_of a k s) i 0) (zero-add n) ∙ get_or-take k (drop a s) n 0 (omega arith) ∙ get_or-drop a s n 0 in
    let long : length w ≡ k = lowered-length (mid_of a k s) 0 n ∙ length-take-le k (drop a s) (omega (arith, length-drop a s)) in
    ap₂ (λ (i x : ℕ). put_mid a k s (set w i (x % room))) (zero-add n) word
    ∙ set_part s w a k n (get_or s (a + n) 0 % room) (omega arith) (omega (arith, long))
    ∙ ap (λ (u : List ℕ). set u (a + n) (get_or s (a + n) 0 % room)) (lowered_part s a k n inside (omega arith))

module _ {z : Sizes} {s : List ℕ} {d m : ℕ} (h : Chain z s d m) where
  -- ---- Entries
  -- Two entries at one address are one.
  entry_apart : (j k : ℕ) → j < 512 * m → k < 512 * m → address z (entry_of z s d j) ≡ address z (entry_of z s d k) → j ≡ k
  entry_apart j k a b e =
      let same : of_rank z s d (j / 512) ≡ of_rank z s d (k / 512) = omega arith in
      let q = h.one (j / 512) (k / 512) (omega arith) (omega arith) same in
      omega arith

  -- Each is in the state.
  entry_in : (j : ℕ) → j < 512 * m → address z (entry_of z s d j) < length s
  entry_in j a = omega (arith, h.laid.long, h.below (j / 512) (omega arith))

  -- ---- What is filled
  -- Nothing yet.
  pub fill_none : Filled z s d s m (word_of z s d)
  fill_none = record { long = refl; inside = λ j l. refl; outside = λ a n. refl }

  -- Other words for the same.
  pub fill_as : {r : List ℕ} {w v : ℕ → ℕ} → Filled z s d r m w → ((j : ℕ) → j < 512 * m → w j ≡ v j) → Filled z s d r m v
  fill_as f e = record { long = f.long; inside = λ j l. f.inside j l ∙ e j l; outside = f.outside }

  -- One entry more.
  pub fill_put : {r : List ℕ} {w v : ℕ → ℕ} (k x : ℕ) → Filled z s d r m w → k < 512 * m → ((j : ℕ) → j < 512 * m → (j ≡ k → ⊥) → w j ≡ v j) → x ≡ v k → Filled z s d (put z r (entry_of z s d k) x) m v
  fill_put {r} {w} {v} k x f below same e =
      record {
        long = length-set r (address z (entry_of z s d k)) x ∙ f.long;
        inside = λ j l. by_test j l (eqb j k) refl;
        outside = λ a n. get_or-set_other r (address z (entry_of z s d k)) a x 0 (n k below) ∙ f.outside a n;
      }
    where
      by_test : (j : ℕ) → j < 512 * m → (b : Bool) → eqb j k ≡ b → get z (put z r (entry_of z s d k) x) (entry_of z s d j) ≡ v j
      by_test j l true is =
          let at = eqb-true j k is in
          let inner : address z (entry_of z s d k) < length r = omega (arith, f.long, entry_in k below) in
          rw at (get_or-set_same r (address z (entry_of z s d k)) x 0 inner ∙ e)
      by_test j l false is =
          let apart = eqb-false j k is in
          get_or-set_other r (address z (entry_of z s d k)) (address z (entry_of z s d j)) x 0 (λ q. apart (entry_apart j k l below q)) ∙ f.inside j l ∙ same j l apart

  -- The same words in the entries are the same words.
  pub fill_one : {r t : List ℕ} {w : ℕ → ℕ} → Filled z s d r m w → Filled z s d t m w → r ≡ t
  fill_one {r} {t} f g = ext_get_or 0 r t (f.long ∙ sym g.long) (λ a l. by_test a (eqb (get_or r a 0) (get_or t a 0)) refl)
    where
      by_test : (a : ℕ) → (b : Bool) → eqb (get_or r a 0) (get_or t a 0) ≡ b → get_or r a 0 ≡ get_or t a 0
      by_test a true k = eqb-true (get_or r a 0) (get_or t a 0) k
      by_test a false k =
          let apart = eqb-false (get_or r a 0) (get_or t a 0) k in
          let other : (j : ℕ) → j < 512 * m → a ≡ address z (entry_of z s d j) → ⊥ =
          λ j l e. apart (rw e (f.inside j l ∙ sym (g.inside j l))) in
          absurd (apart (f.outside a other ∙ sym (g.outside a other)))

  -- ---- The records
  -- Domains and TreeLings are as they were,
  pub fill_domain : {r : List ℕ} {w : ℕ → ℕ} → Filled z s d r m w → (e j : ℕ) → e < z.domains → j < 6 → get z r (domain e j) ≡ get z s (domain e j)
  fill_domain f e j a b = f.outside (address z (domain e j)) (λ k l q. omega arith)

  pub fill_treeling : {r : List ℕ} {w : ℕ → ℕ} → Filled z s d r m w → (t j : ℕ) → t < z.treelings → j < 5 → get z r (treeling t j) ≡ get z s (treeling t j)
  fill_treeling f t j a b = f.outside (address z (treeling t j)) (λ k l q. omega arith)

  -- and so are ranks and links,
  pub fill_ranks : {r : List ℕ} {w : ℕ → ℕ} → Filled z s d r m w → (q : ℕ) → q < m → of_rank z r d q ≡ of_rank z s d q
  unfolding link_of of_rank
  fill_ranks f zero l = ap (λ (x : ℕ). x - 1) (fill_domain f d 1 h.domain_below (omega arith))
  fill_ranks {r} f (suc q) l =
      ap (λ (t : ℕ). get z r (next t) - 1) (fill_ranks f q (omega arith))
      ∙ ap (λ (x : ℕ). x - 1) (fill_treeling f (of_rank z s d q) 2 (h.below q (omega arith)) (omega arith))

  pub fill_links : {r : List ℕ} {w : ℕ → ℕ} → Filled z s d r m w → (q : ℕ) → q ≤ m → link_of z r d q ≡ link_of z s d q
  unfolding link_of of_rank
  fill_links f zero l = fill_domain f d 1 h.domain_below (omega arith)
  fill_links {r} f (suc q) l =
      ap (λ (t : ℕ). get z r (next t)) (fill_ranks f q (omega arith))
      ∙ fill_treeling f (of_rank z s d q) 2 (h.below q (omega arith)) (omega arith)

  -- The chain is the same.
  pub fill_chain : {r : List ℕ} {w : ℕ → ℕ} → Filled z s d r m w → Chain z r d m
  fill_chain f =
      let same = fill_ranks f in
      record {
        laid = record { sizes = h.laid.sizes; long = f.long ∙ h.laid.long };
        domain_below = h.domain_below;
        most = h.most;
        below = λ q l. rw (same q l) (h.below q l);
        linked = λ q l. fill_links f q (omega arith) ∙ h.linked q l ∙ ap suc (sym (same q l));
        one = λ p q a b e. h.one p q a b (sym (same p a) ∙ e ∙ same q b);
      }

  -- and so are the places and numbers in rank order. The words are those filled.
  pub fill_entry : {r : List ℕ} {w : ℕ → ℕ} → Filled z s d r m w → (j : ℕ) → j < 512 * m → entry_of z r d j ≡ entry_of z s d j
  fill_entry f j l = ap (λ (t : ℕ). entry t (j % 512)) (fill_ranks f (j / 512) (omega arith))

  pub fill_node : {r : List ℕ} {w : ℕ → ℕ} → Filled z s d r m w → (j : ℕ) → j < 512 * m → node_of z r d j ≡ node_of z s d j
  fill_node f j l = ap (λ (t : ℕ). 512 * t + j % 512) (fill_ranks f (j / 512) (omega arith))

  pub fill_word : {r : List ℕ} {w : ℕ → ℕ} → Filled z s d r m w → (j : ℕ) → j < 512 * m → word_of z r d j ≡ w j
  fill_word {r} f j l = ap (get z r) (fill_entry f j l) ∙ f.inside j l

  -- One pass after another.
  pub fill_then : {r t : List ℕ} {w v : ℕ → ℕ} → Filled z s d r m w → Filled z r d t m v → Filled z s d t m v
  fill_then {t = t} f g =
      record {
        long = g.long ∙ f.long;
        inside = λ j l. ap (get z t) (sym (fill_entry f j l)) ∙ g.inside j l;
        outside = λ a n. g.outside a (λ j l e. n j l (e ∙ ap (address z) (fill_entry f j l))) ∙ f.outside a n;
      }

  -- ---- Filling entry by entry
  -- None, one more, and all.
  pub up_none : (v : ℕ → ℕ) → Filled z s d s m (up_to z s d 0 v)
  up_none v = fill_as fill_none λ p l. ap (λ (b : Bool). cond b (v p) (word_of z s d p)) (sym (le-ltb p 0 (omega arith)))

  pub up_next : {r : List ℕ} (v : ℕ → ℕ) (j x : ℕ) → Filled z s d r m (up_to z s d j v) → j < 512 * m → x ≡ v j → Filled z s d (put z r (entry_of z s d j) x) m (up_to z s d (suc j) v)
  up_next {r} v j x f l e = fill_put j x f l other (e ∙ ap (λ (b : Bool). cond b (v j) (word_of z s d j)) (sym (lt-ltb j (suc j) (omega arith))))
    where
      other : (p : ℕ) → p < 512 * m → (p ≡ j → ⊥) → up_to z s d j v p ≡ up_to z s d (suc j) v p
      other p k apart = ap (λ (b : Bool). cond b (v p) (word_of z s d p)) (same_test (ltb p j) (ltb p (suc j)) (λ a. lt-ltb p (suc j) (omega (arith, ltb-true p j a))) (λ a. lt-ltb p j (omega (arith, ltb-true p (suc j) a))))

  pub up_all : {r : List ℕ} (v : ℕ → ℕ) (j : ℕ) → Filled z s d r m (up_to z s d j v) → 512 * m ≤ j → Filled z s d r m v
  up_all v j f k = fill_as f λ p l. ap (λ (b : Bool). cond b (v p) (word_of z s d p)) (lt-ltb p j (omega arith))

  -- ---- Walking
  -- A pass that begins is at entry 0.
  pub walk_begin : {walk : Walk} → (walk.link ≡ get z s (first d)) × (walk.at ≡ 0) → walk.link ≡ link_of z s d (walk.at / 512)
  unfolding link_of of_rank
  walk_begin e = e.0 ∙ ap (λ (j : ℕ). link_of z s d (j / 512)) (sym e.1)

  pub pass_begin : {w : ℕ → ℕ → ℕ} {walk : Walk} → Filled z s d s m (w 0) → (walk.link ≡ get z s (first d)) × (walk.at ≡ 0) → Walking z s d m w s walk
  pass_begin {w} f e =
      record { below = omega (arith, e.1); link_is = walk_begin e; filled = subst (λ (j : ℕ). Filled z s d s m (w j)) (sym e.1) f }

  -- The entry of a walk, and that it can go on.
  module _ {walk : Walk} (e : walk.link ≡ link_of z s d (walk.at / 512)) (l : walk.at < 512 * m) where
    -- The link names the TreeLing,
    walk_link : walk.link ≡ suc (of_rank z s d (walk.at / 512))
    walk_link = e ∙ h.linked (walk.at / 512) (omega arith)

    -- the entry and the leaf node are those in rank order,
    pub walk_entry : entry_at walk ≡ entry_of z s d walk.at
    walk_entry = ap (λ (t : ℕ). entry t (walk.at % 512)) (omega (arith, walk_link))

    pub walk_node : 512 * (walk.link - 1) + walk.at % 512 ≡ node_of z s d walk.at
    walk_node = omega (arith, walk_link)

    -- the entry is in the state,
    pub walk_ready : {r : List ℕ} {w : ℕ → ℕ} → Filled z s d r m w → Ready z r walk
    walk_ready f =
        let k = h.below (walk.at / 512) (omega arith) in
        record {
          laid = record { sizes = h.laid.sizes; long = f.long ∙ h.laid.long };
          some = omega (arith, walk_link);
          most = omega (arith, walk_link);
          few = omega (arith, h.most, h.laid.sizes.max_treelings);
        }

    -- and one step further it is the same.
    pub walk_next : {r : List ℕ} {w : ℕ → ℕ} {after : Walk} → Filled z s d r m w → Stepped z r walk after → after.link ≡ link_of z s d (after.at / 512)
    unfolding link_of of_rank
    walk_next {r} f is = is.link_is ∙ by_test (eqb (walk.at % 512) 511) refl ∙ ap (λ (j : ℕ). link_of z s d (j / 512)) (sym is.at_is)
      where
        by_test : (b : Bool) → eqb (walk.at % 512) 511 ≡ b → cond b (get z r (next (walk.link - 1))) walk.link ≡ link_of z s d (suc walk.at / 512)
        by_test true k =
            let next-rank : suc walk.at / 512 ≡ suc (walk.at / 512) = omega (arith, eqb-true (walk.at % 512) 511 k) in
            let at : walk.link - 1 ≡ of_rank z s d (walk.at / 512) = omega (arith, walk_link) in
            ap (λ (t : ℕ). get z r (next t)) at
            ∙ fill_treeling f (of_rank z s d (walk.at / 512)) 2 (h.below (walk.at / 512) (omega arith)) (omega arith)
            ∙ ap (link_of z s d) (sym next-rank)
        by_test false k =
            let same : suc walk.at / 512 ≡ walk.at / 512 = omega (arith, eqb-false (walk.at % 512) 511 k) in
            e ∙ ap (link_of z s d) (sym same)

  -- The walk of a pass.
  pub pass_ready : {w : ℕ → ℕ → ℕ} {r : List ℕ} {walk : Walk} → Walking z s d m w r walk → walk.at < 512 * m → Ready z r walk
  pass_ready k l = walk_ready k.link_is l k.filled

  -- One more entry of a pass is done, which leaves words q; the step is made in words p.
  pub pass_next : {w : ℕ → ℕ → ℕ} {r q p : List ℕ} {v : ℕ → ℕ} {walk after : Walk} → Walking z s d m w r walk → walk.at < 512 * m
      → Filled z s d q m (w (suc walk.at)) → Filled z s d p m v → Stepped z p walk after → Walking z s d m w q after
  pass_next {w} {q = q} k l f g is =
      record { below = omega (arith, is.at_is); link_is = walk_next k.link_is l g is; filled = subst (λ (j : ℕ). Filled z s d q m (w j)) (sym is.at_is) f }

  -- And all of them.
  pub pass_all : {w : ℕ → ℕ → ℕ} {r : List ℕ} {walk : Walk} → Walking z s d m w r walk → 512 * m ≤ walk.at → Filled z s d r m (w (512 * m))
  pass_all {w} {r} k done = subst (λ (j : ℕ). Filled z s d r m (w j)) (omega (arith, k.below)) k.filled

  -- ---- Clearing
  abbrev pub clearing : ℕ → ℕ → ℕ
  clearing j = up_to z s d j (λ p. word_of z s d p % room)

  -- The entries of the TreeLing of rank q, the first k of them.
  row_up : {r : List ℕ} (q k at : ℕ) → Filled z s d r m (clearing (512 * q)) → q < m → at ≡ address z (entry (of_rank z s d q) 0) → k ≤ 512 → Filled z s d (lowered r at k) m (clearing (512 * q + k))
  unfolding lowered
  row_up {r} q zero at f l is low = subst (λ (j : ℕ). Filled z s d r m (clearing j)) (omega arith) f
  row_up {r} q (suc k) at f l is low =
      let j = 512 * q + k in
      let rank : j / 512 ≡ q = omega arith in
      let number : j % 512 ≡ k = omega arith in
      let place : at + k ≡ address z (entry_of z s d j) = omega (arith, is, ap (of_rank z s d) rank) in
      let word : get_or r (at + k) 0 ≡ word_of z s d j =
      ap (λ (i : ℕ). get_or r i 0) place
      ∙ f.inside j (omega arith)
      ∙ ap (λ (b : Bool). cond b (word_of z s d j % room) (word_of z s d j)) (le-ltb j (512 * q) (omega arith)) in
      let next = up_next (λ p. word_of z s d p % room) j (get_or r (at + k) 0 % room) (row_up q k at f l is (omega arith)) (omega arith) (ap (λ (x : ℕ). x % room) word) in
      subst (λ (i : ℕ). Filled z s d (set (lowered r at k) i (get_or r (at + k) 0 % room)) m (clearing (512 * q + suc k))) (sym place)
      (subst (λ (i : ℕ). Filled z s d (put z (lowered r at k) (entry_of z s d j) (get_or r (at + k) 0 % room)) m (clearing i)) (omega arith) next)

  -- All of them.
  pub row_clear : {r : List ℕ} (q t : ℕ) → Filled z s d r m (clearing (512 * q)) → q < m → t ≡ of_rank z s d q → Filled z s d (lowered r (address z (entry t 0)) 512) m (clearing (512 * (q + 1)))
  row_clear {r} q t f l is =
      let at = address z (entry t 0) in
      subst (λ (j : ℕ). Filled z s d (lowered r at 512) m (clearing j)) (omega arith) (row_up q 512 at f l (ap (λ (u : ℕ). address z (entry u 0)) is) (omega arith))

module _ (z : Sizes) (s : List ℕ) (h : Sound z s) (d : ℕ) (l : d < z.domains) where
  -- ---- In a sound state
  -- A domain's TreeLings can be walked through.
  pub own_chain : Chain z s d (owned z s d)
  unfolding link_of of_rank
  own_chain =
      record {
        laid = h.laid_out.laid;
        domain_below = l;
        most = owned_most z s h d l;
        below = λ r k. (of_rank_lem z s h d l r k).below;
        linked = linked;
        one = rank_one z s h d l;
      }
    where
      linked : (r : ℕ) → r < owned z s d → link_of z s d r ≡ suc (of_rank z s d r)
      linked zero k =
          let some : get z s (first d) ≡ 0 → ⊥ = λ e. omega (arith, first_none z s h d l e) in
          omega arith
      linked (suc r) k =
          let a = of_rank_lem z s h d l r (omega arith) in
          let some : get z s (next (of_rank z s d r)) ≡ 0 → ⊥ =
          λ e. omega (arith, next_none z s h d l (of_rank z s d r) a.below a.owner_is e, a.rank_is) in
          omega arith

  -- The last of them.
  pub own_last : 0 < owned z s d → get z s (last d) ≡ suc (of_rank z s d (owned z s d - 1))
  own_last some = go (get z s (last d)) refl
    where
      go : (x : ℕ) → get z s (last d) ≡ x → get z s (last d) ≡ suc (of_rank z s d (owned z s d - 1))
      go zero e = absurd (omega (arith, last_none z s h d l e))
      go (suc u) e =
          let at = last_some z s h d l u e in
          let q : owned z s d - 1 ≡ get z s (rank u) = omega (arith, at.1) in
          e ∙ ap suc (sym (ap (of_rank z s d) q ∙ of_rank_back z s h d l u at.0.below at.0.owner_is))

  -- An entry's word has its tag and its availability alone.
  pub word_small : Ordinary z s d → (j : ℕ) → j < 512 * owned z s d → word_of z s d j < 536870912
  word_small o j k =
      let t = of_rank_lem z s h d l (j / 512) (omega arith) in
      omega (arith, h.tag_range d (of_rank z s d (j / 512)) (j % 512) t.below (omega arith) t.owner_is o, h.laid_out.laid.sizes.max_treelings)

  -- A leaf node of the domain has a place in rank order.
  pub record Home (node p : ℕ) : Type 0 where
    pub below : p < 512 * owned z s d
    pub entry_is : entry_of z s d p ≡ home_of node
    pub node_is : node_of z s d p ≡ node

  pub home : (node : ℕ) → node < 512 * z.treelings → get z s (owner (node / 512)) ≡ suc d → (p : ℕ) × Home node p
  home node k o =
      let t = node / 512 in
      let p = 512 * get z s (rank t) + node % 512 in
      let q : p / 512 ≡ get z s (rank t) = omega arith in
      let e : of_rank z s d (p / 512) ≡ t = ap (of_rank z s d) q ∙ of_rank_back z s h d l t (omega arith) o in (
        p,
        record {
          below = omega (arith, rank_below_owned z s h d l t (omega arith) o);
          entry_is = entry_back z s h d l t (node % 512) (omega arith) o (omega arith);
          node_is = omega arith;
        },
      )

  -- Free positions added at a leaf node's own entry.
  pub fill_home : (r : List ℕ) (w v : ℕ → ℕ) (node p bits : ℕ) → Home node p → Filled z s d r (owned z s d) w
      → ((j : ℕ) → j < 512 * owned z s d → v j ≡ w j + room * cond (eqb node (node_of z s d j)) bits 0)
      → Filled z s d (put z r (home_of node) (get z r (home_of node) + room * bits)) (owned z s d) v
  fill_home r w v node p bits at f e =
      subst (λ (q : Place). Filled z s d (put z r q (get z r q + room * bits)) (owned z s d) v) at.entry_is
      (fill_put own_chain p (get z r (entry_of z s d p) + room * bits) f at.below other here)
    where
      other : (j : ℕ) → j < 512 * owned z s d → (j ≡ p → ⊥) → w j ≡ v j
      other j k apart =
          let differ = ne_eqb node (node_of z s d j) (λ q. apart (node_one z s h d l j p k at.below (sym q ∙ sym at.node_is))) in
          omega (arith, e j k ∙ ap (λ (b : Bool). w j + room * cond b bits 0) differ)

      here : get z r (entry_of z s d p) + room * bits ≡ v p
      here =
          ap (λ (x : ℕ). x + room * bits) (f.inside p at.below)
          ∙ sym (e p at.below ∙ ap (λ (b : Bool). w p + room * cond b bits 0) (eq-eqb node (node_of z s d p) (sym at.node_is)))

  -- ---- Gathering
  -- What is gathered is small.
  pub above_small : (j p : ℕ) → gathered_above z s d j p ≤ 255 * j
  unfolding gathered_above
  above_small j p =
      rw (← sum_const j 255)
      (sum_le j (λ q. cond (eqb (tag_of (word_of z s d q)) (node_of z s d p)) (availability_of (word_of z s d q)) 0) (λ _. 255)
      (λ q k. by_test (eqb (tag_of (word_of z s d q)) (node_of z s d p)) (word_of z s d q)))
    where
      by_test : (b : Bool) (x : ℕ) → cond b (availability_of x) 0 ≤ 255
      by_test true x = omega arith
      by_test false x = omega arith

  -- Nothing is gathered yet.
  pub gather_none : Filled z s d s (owned z s d) (gathering_word z s d 0)
  unfolding gathered_above
  gather_none =
      fill_as own_chain (fill_none own_chain) λ j k.
      omega (arith, sum_none (λ q. cond (eqb (tag_of (word_of z s d q)) (node_of z s d j)) (availability_of (word_of z s d q)) 0))

  -- The word of an entry, while the pass goes.
  gather_word : Ordinary z s d → (r : List ℕ) (j : ℕ) → Filled z s d r (owned z s d) (gathering_word z s d j) → j < 512 * owned z s d → get z r (entry_of z s d j) % room ≡ word_of z s d j
  gather_word o r j f k = omega (arith, f.inside j k, word_small o j k)

  -- The leaf node that an entry's tag names.
  tag_home : Ordinary z s d → (j x : ℕ) → j < 512 * owned z s d → x ≡ word_of z s d j → (p : ℕ) × (tag_of x < 512 * z.treelings) × Home (tag_of x) p
  tag_home o j x k e =
      let t = of_rank z s d (j / 512) in
      let a = of_rank_lem z s h d l (j / 512) (omega arith) in
      let below : tag_of x < 512 * z.treelings = rw e (h.tag_range d t (j % 512) a.below (omega arith) a.owner_is o) in
      let at = home (tag_of x) below (rw e (h.tag_own d t (j % 512) a.below (omega arith) a.owner_is o)) in
      (at.0, below, at.1)

  -- One entry's availability is added.
  gather_next : Ordinary z s d → (r : List ℕ) (j x : ℕ) → Filled z s d r (owned z s d) (gathering_word z s d j) → j < 512 * owned z s d → x ≡ word_of z s d j
      → Filled z s d (put z r (home_of (tag_of x)) (get z r (home_of (tag_of x)) + room * availability_of x)) (owned z s d) (gathering_word z s d (suc j))
  unfolding gathered_above
  gather_next o r j x f k e =
      let at = tag_home o j x k e in
      fill_home r (gathering_word z s d j) (gathering_word z s d (suc j)) (tag_of x) at.0 (availability_of x) at.2 f λ p q.
      omega (arith, sum_suc j (λ i. cond (eqb (tag_of (word_of z s d i)) (node_of z s d p)) (availability_of (word_of z s d i)) 0), ap (λ (y : ℕ). cond (eqb (tag_of y) (node_of z s d p)) (availability_of y) 0) e)

  -- There is room for what is added.
  pub home_small : Ordinary z s d → (r : List ℕ) (j node p : ℕ) → Home node p → Filled z s d r (owned z s d) (gathering_word z s d j) → j ≤ 512 * owned z s d → get z r (home_of node) < 9223372036854775808
  home_small o r j node p at f k =
      let word = ap (get z r) (sym at.entry_is) ∙ f.inside p at.below in
      omega (arith, word, word_small o p at.below, above_small j p, owned_most z s h d l, h.laid_out.laid.sizes.max_treelings)

  -- A turn of gathering, on a walk.
  module _ (o : Ordinary z s d) {r : List ℕ} {walk : Walk} (w : Walking z s d (owned z s d) (gathering_word z s d) r walk) (k : walk.at < 512 * owned z s d) {x : ℕ} (is : x ≡ get z r (entry_at walk)) where
    -- The word read is the entry's.
    gather_read : x % room ≡ word_of z s d walk.at
    gather_read =
        ap (λ (y : ℕ). y % room) (is ∙ ap (get z r) (walk_entry own_chain w.link_is k))
        ∙ gather_word o r walk.at w.filled k

    -- The leaf node is one of the domain's.
    pub gather_ready : (tag_of (x % room) < 512 * z.treelings) × (get z r (home_of (tag_of (x % room))) < 9223372036854775808)
    gather_ready =
        let at = tag_home o walk.at (x % room) k gather_read in
        (at.1, home_small o r walk.at (tag_of (x % room)) at.0 at.2 w.filled (omega arith))

    -- One entry more is gathered.
    pub gather_turn : {q : List ℕ} → q ≡ put z r (home_of (tag_of (x % room))) (get z r (home_of (tag_of (x % room))) + room * availability_of (x % room)) → Filled z s d q (owned z s d) (gathering_word z s d (suc walk.at))
    gather_turn to = rw to (gather_next o r walk.at (x % room) w.filled k gather_read)
