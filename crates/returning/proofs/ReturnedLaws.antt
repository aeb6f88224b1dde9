-- What every word is after a domain's TreeLings without a mapped page are returned and the others renumbered, and after a trim.
-- Assumes nothing.
use Prim.Native.Nat.{ℕ, zero, suc, ◌+◌, ◌-◌, ◌*◌, ◌/◌, ◌%◌, ◌<◌, ◌≤◌}
use mathlib.Core.Path.{◌≡◌, refl, sym, ap, ap₂, subst, ◌∙◌}
use mathlib.Core.List.{List, [], ◌∷◌, ◌++◌}
use mathlib.Core.Bool.{Bool, true, false, cond, not, false≢true}
use native.Mathlib.Omega.{arith}
use borrow.Author.Tests.{eq-eqb, ne_eqb}
use lib.Dec.{eqb, ltb}
use lib.ListN.{length, get_or, take, drop}
use Rattle.layout.specs.declared.Sizes.{Sizes}
use Rattle.geometry.specs.Entries.{entry_word}
use Rattle.layout.specs.Places.{Place, Within, address, get, content, domain, treeling, entry, leaf, live, first, last, head_treeling, head_block, pages_mapped, owner, previous, next, rank, former}
use Rattle.layout.proofs.BoundedLaws.{count_cong}
use Rattle.layout.proofs.PlaceLaws.{in_state, treeling_start}
use Rattle.sound.specs.Sentences.{link_of, of_rank}
use Rattle.sound.specs.Sound.{Sound}
use Rattle.world.specs.World.{world, owned, node_of}
use Rattle.world.proofs.WorldLaws.{of_rank_lem, of_rank_back, rank_below_owned}
use Rattle.world.proofs.FrameLaws.{either}
use Rattle.world.proofs.WriteLaws.{Write, write, written, Apart, written_length, read_apart, read_written}
use Rattle.gathering.specs.Regathering.{whole_of, is_spent, gathered, gathered_word, entries_gathered, head_gathered, regathered}
use Rattle.gathering.specs.CodeGathering.{Chain, Filled}
use Rattle.gathering.proofs.GatherListLaws.{select_cong}
use Rattle.gathering.proofs.SelectLaws.{parted}
use Rattle.gathering.proofs.SettleLaws.{gathered_filled, order_below, head_below}
use Rattle.clearing.specs.Clearing.{treelings_cleared}
use Rattle.returning.specs.Returning.{is_empty, goes, number_kept, kept_of, kept_link, kept_before, renumbered, returned_in, trimmed}
use Rattle.returning.proofs.TrimFacts.{Kept, Trimmed, kept_node, kept_whole, kept_spent, kept_order, kept_head}
use Rattle.returning.proofs.KeptLaws.{kept_link_lem, before-next, kept_most, kept_facts}
use Rattle.clearing.proofs.ClearingLaws.{cleared, Outside, cleared_record, cleared_entry, treelings_length, treelings_apart, treelings_in}

-- Words u after domain d's TreeLings without a mapped page in words s are returned and the others renumbered, in words r.
pub record Returned (z : Sizes) (s r u : List ℕ) (d : ℕ) : Type 0 where
  pub long : length u ≡ length r
  pub same_content : (i : ℕ) → i < 25 → get z u (content i) ≡ get z r (content i)
  pub same_leaf : (f : ℕ) → f < z.frames → get z u (leaf f) ≡ get z r (leaf f)
  -- The records of the other domains; of its own, live and pages mapped stay, and there is no head.
  pub same_domain : (e j : ℕ) → e < z.domains → j < 6 → (e ≡ d → ⊥) → get z u (domain e j) ≡ get z r (domain e j)
  pub same_live : get z u (live d) ≡ get z r (live d)
  pub same_pages : get z u (pages_mapped d) ≡ get z r (pages_mapped d)
  pub first_is : get z u (first d) ≡ kept_link z s d 0
  pub last_is : get z u (last d) ≡ kept_before z s d (number_kept z s d)
  pub no_head : get z u (head_treeling d) ≡ 0
  pub no_block : get z u (head_block d) ≡ 0
  -- The TreeLings that are not its own, and the last owners of all.
  pub same_treeling : (t j : ℕ) → t < z.treelings → j < 5 → (get z s (owner t) ≡ suc d → ⊥) → get z u (treeling t j) ≡ get z r (treeling t j)
  pub same_entry : (t k : ℕ) → t < z.treelings → k < 512 → (get z s (owner t) ≡ suc d → ⊥) → get z u (entry t k) ≡ get z r (entry t k)
  pub same_former : (t : ℕ) → t < z.treelings → get z u (former t) ≡ get z r (former t)
  -- Its own: those that go,
  pub gone_zero : (t j : ℕ) → t < z.treelings → j < 4 → get z s (owner t) ≡ suc d → is_empty z s t ≡ true → get z u (treeling t j) ≡ 0
  pub gone_entry : (t k : ℕ) → t < z.treelings → k < 512 → get z s (owner t) ≡ suc d → is_empty z s t ≡ true → get z u (entry t k) ≡ 0
  -- and those that stay.
  pub kept_owner : (q : ℕ) → q < number_kept z s d → get z u (owner (kept_of z s d q)) ≡ get z r (owner (kept_of z s d q))
  pub kept_previous : (q : ℕ) → q < number_kept z s d → get z u (previous (kept_of z s d q)) ≡ kept_before z s d q
  pub kept_next : (q : ℕ) → q < number_kept z s d → get z u (next (kept_of z s d q)) ≡ kept_link z s d (suc q)
  pub kept_rank : (q : ℕ) → q < number_kept z s d → get z u (rank (kept_of z s d q)) ≡ q
  pub kept_entry : (q k : ℕ) → q < number_kept z s d → k < 512 → get z u (entry (kept_of z s d q) k) ≡ get z r (entry (kept_of z s d q) k)

-- ---- The first n that stay, renumbered in words w
module _ (z : Sizes) (s : List ℕ) (d : ℕ) (w : List ℕ) where
  abbrev words : ℕ → List ℕ
  words n = renumbered z s d w n

  -- What the one that gets rank q is given, the last written first.
  abbrev given : ℕ → List Write
  given q =
      write (address z (rank (kept_of z s d q))) q
      ∷ write (address z (next (kept_of z s d q))) (kept_link z s d (suc q))
      ∷ write (address z (previous (kept_of z s d q))) (kept_before z s d q)
      ∷ []

  -- As many words.
  words-length : (n : ℕ) → length (words n) ≡ length w
  unfolding renumbered
  words-length zero = refl
  words-length (suc n) = written_length (words n) (given n) ∙ words-length n

  -- A word that none of them is given stays.
  words_apart : (n b : ℕ) → ((q j : ℕ) → q < n → 0 < j → j < 4 → b ≡ address z (treeling (kept_of z s d q) j) → ⊥) → get_or (words n) b 0 ≡ get_or w b 0
  unfolding renumbered
  words_apart zero b h = refl
  words_apart (suc n) b h =
      read_apart (words n) (given n) b (h n 3 (omega arith) (omega arith) (omega arith), (h n 2 (omega arith) (omega arith) (omega arith), (h n 1 (omega arith) (omega arith) (omega arith), tt)))
      ∙ words_apart n b (λ q j l. h q j (omega arith))

  module _ (o : Kept z s d) where
    -- Those after it leave the record of the one of rank q.
    words_still : (n q j : ℕ) → n ≤ number_kept z s d → q < n → j < 5 → get z (words n) (treeling (kept_of z s d q) j) ≡ get z (words (suc q)) (treeling (kept_of z s d q) j)
    unfolding renumbered
    words_still zero q j most k lj = absurd (omega arith)
    words_still (suc n) q j most k lj =
        either q n
        (λ is. ap (λ (i : ℕ). get z (words (suc i)) (treeling (kept_of z s d q) j)) (sym is))
        (λ apart.
        let other : (i : ℕ) → i < 5 → address z (treeling (kept_of z s d q) j) ≡ address z (treeling (kept_of z s d n) i) → ⊥ =
        λ i li is. apart (o.one q n (omega arith) (omega arith) (omega arith)) in
        read_apart (words n) (given n) (address z (treeling (kept_of z s d q) j)) (other 3 (omega arith), (other 2 (omega arith), (other 1 (omega arith), tt)))
        ∙ words_still n q j (omega arith) (omega arith) lj)

    -- So each word that it is given is there in the end.
    words_given : (q j v : ℕ) (later ws : List Write) → q < number_kept z s d → j < 5 → given q ≡ later ++ write (address z (treeling (kept_of z s d q) j)) v ∷ ws
        → Apart (address z (treeling (kept_of z s d q) j)) later → address z (treeling (kept_of z s d q) j) < length w → get z (words (number_kept z s d)) (treeling (kept_of z s d q) j) ≡ v
    unfolding renumbered
    words_given q j v later ws k lj is apart inner =
        let a = address z (treeling (kept_of z s d q) j) in
        words_still (number_kept z s d) q j (omega arith) k lj
        ∙ ap (λ (x : List Write). get_or (written (words q) x) a 0) is
        ∙ read_written (words q) later (write a v) ws apart (omega (arith, words-length q))

-- ---- Returned in words r
module _ (z : Sizes) (s : List ℕ) (h : Sound z s) (d : ℕ) (l : d < z.domains) (r : List ℕ) (long : length r ≡ length s) where
  kept : Kept z s d
  kept = kept_facts z s h d l

  -- The words with the TreeLings that go cleared, with the others renumbered, and with the domain's record written.
  abbrev clear : List ℕ
  clear = treelings_cleared z s d (goes z s d) r (owned z s d)

  abbrev numbered : List ℕ
  numbered = renumbered z s d clear (number_kept z s d)

  abbrev ends : List Write
  ends =
      write (address z (head_block d)) 0
      ∷ write (address z (head_treeling d)) 0
      ∷ write (address z (last d)) (kept_before z s d (number_kept z s d))
      ∷ write (address z (first d)) (kept_link z s d 0)
      ∷ []

  abbrev u : List ℕ
  u = returned_in z s d r

  u_is : u ≡ written numbered ends
  unfolding returned_in
  u_is = refl

  -- They are all as long, and each place lies in them.
  clear_length : length clear ≡ length r
  clear_length = treelings_length z s d (goes z s d) r (owned z s d)

  numbered_length : length numbered ≡ length r
  numbered_length = words-length z s d clear (number_kept z s d) ∙ clear_length

  inner : (p : Place) → Within z p → address z p < length r
  inner p w = rw (long, h.laid_out.laid.long) (in_state z p w)

  -- A word of the domain's record, and one that is not, or that stays in it;
  of_record : (p : Place) (v : ℕ) (later ws : List Write) → Within z p → ends ≡ later ++ write (address z p) v ∷ ws → Apart (address z p) later → get z u p ≡ v
  of_record p v later ws w is apart =
      ap (λ (x : List ℕ). get z x p) u_is
      ∙ ap (λ (x : List Write). get z (written numbered x) p) is
      ∙ read_written numbered later (write (address z p) v) ws apart (omega (arith, numbered_length, inner p w))

  not_record : (b : ℕ) → Apart b ends → get_or u b 0 ≡ get_or numbered b 0
  not_record b apart = ap (λ (x : List ℕ). get_or x b 0) u_is ∙ read_apart numbered ends b apart

  -- a word that no TreeLing that stays is given;
  abbrev NotGiven : ℕ → Type 0
  NotGiven b =
      (t j : ℕ) → t < z.treelings → get z s (owner t) ≡ suc d → is_empty z s t ≡ false → 0 < j → j < 4 → b ≡ address z (treeling t j) → ⊥

  not_given : (b : ℕ) → NotGiven b → get_or numbered b 0 ≡ get_or clear b 0
  not_given b other =
      words_apart z s d clear (number_kept z s d) b λ q j k.
      other (kept_of z s d q) j (kept.below q k) (kept.own q k) (kept.not_empty_lem q k)

  -- a word of no TreeLing that goes, and one that each clearing of TreeLing t clears.
  abbrev NotGone : ℕ → Type 0
  NotGone b = (t : ℕ) → t < z.treelings → get z s (owner t) ≡ suc d → is_empty z s t ≡ true → Outside z t b

  not_gone : (b : ℕ) → NotGone b → get_or clear b 0 ≡ get_or r b 0
  not_gone b other =
      treelings_apart z s d (goes z s d) r (owned z s d) b λ i m e.
      let a = of_rank_lem z s h d l i m in
      other (of_rank z s d i) a.below a.owner_is e

  of_gone : (t b : ℕ) → t < z.treelings → get z s (owner t) ≡ suc d → is_empty z s t ≡ true → b < length r
      → ((w : List ℕ) → length w ≡ length r → get_or (cleared z w t) b 0 ≡ 0) → get_or clear b 0 ≡ 0
  of_gone t b m o e k all =
      let back = of_rank_back z s h d l t m o in
      treelings_in z s d (goes z s d) r (owned z s d) (get z s (rank t)) b (rank_below_owned z s h d l t m o) (ap (is_empty z s) back ∙ e) k
      (λ w is. ap (λ (x : ℕ). get_or (cleared z w x) b 0) back ∙ all w is)

  -- A word before the TreeLings that the domain's record leaves, and a word after the domains that is none of these.
  record_apart : (b : ℕ) → treeling_start z 0 ≤ b → Apart b ends
  record_apart b low = (omega arith, (omega arith, (omega arith, (omega arith, tt))))

  same_before : (b : ℕ) → b < treeling_start z 0 → Apart b ends → get_or u b 0 ≡ get_or r b 0
  same_before b high apart =
      not_record b apart
      ∙ not_given b (λ t j lt _ _ lo hi is. omega arith)
      ∙ not_gone b (λ t lt _ _. (λ j lj is. omega arith, λ k lk is. omega arith))

  same_after : (b : ℕ) → treeling_start z 0 ≤ b → NotGiven b → NotGone b → get_or u b 0 ≡ get_or r b 0
  same_after b low other gone = not_record b (record_apart b low) ∙ not_given b other ∙ not_gone b gone

  pub returned_facts : Returned z s r (returned_in z s d r) d
  returned_facts =
      record {
        long = ap length u_is ∙ written_length numbered ends ∙ numbered_length;
        same_content = λ i m. same_before (address z (content i)) (omega arith) (omega arith, (omega arith, (omega arith, (omega arith, tt))));
        same_leaf = λ f m.
            same_after (address z (leaf f)) (omega arith)
            (λ t j lt _ _ lo hi is. omega arith)
            (λ t lt _ _. (λ j lj is. omega arith, λ k lk is. omega arith));
        same_domain = λ e j m n apart.
            let no : (x : ℕ) → x < 6 → address z (domain e j) ≡ address z (domain d x) → ⊥ = λ x lx is. apart (omega arith) in
            same_before (address z (domain e j)) (omega arith) (no 4 (omega arith), (no 3 (omega arith), (no 2 (omega arith), (no 1 (omega arith), tt))));
        same_live = same_before (address z (live d)) (omega arith) (omega arith, (omega arith, (omega arith, (omega arith, tt))));
        same_pages = same_before (address z (pages_mapped d)) (omega arith) (omega arith, (omega arith, (omega arith, (omega arith, tt))));
        first_is = of_record (first d) _ (take 3 ends) [] (l, omega arith) refl (omega arith, (omega arith, (omega arith, tt)));
        last_is = of_record (last d) _ (take 2 ends) (drop 3 ends) (l, omega arith) refl (omega arith, (omega arith, tt));
        no_head = of_record (head_treeling d) _ (take 1 ends) (drop 2 ends) (l, omega arith) refl (omega arith, tt);
        no_block = of_record (head_block d) _ [] (drop 1 ends) (l, omega arith) refl tt;
        same_treeling = λ t j m n apart.
            let no : (v : ℕ) → get z s (owner v) ≡ suc d → t ≡ v → ⊥ = λ v o is. apart (ap (λ (x : ℕ). get z s (owner x)) is ∙ o) in
            same_after (address z (treeling t j)) (omega arith)
            (λ v i lv o _ lo hi is. no v o (omega arith))
            (λ v lv o _. (λ i li is. no v o (omega arith), λ k lk is. omega arith));
        same_entry = λ t k m n apart.
            let no : (v : ℕ) → get z s (owner v) ≡ suc d → t ≡ v → ⊥ = λ v o is. apart (ap (λ (x : ℕ). get z s (owner x)) is ∙ o) in
            same_after (address z (entry t k)) (omega arith)
            (λ v i lv _ _ lo hi is. omega arith)
            (λ v lv o _. (λ i li is. omega arith, λ c lc is. no v o (omega arith)));
        same_former = λ t m.
            same_after (address z (former t)) (omega arith)
            (λ v i lv _ _ lo hi is. omega arith)
            (λ v lv _ _. (λ i li is. omega arith, λ k lk is. omega arith));
        gone_zero = λ t j m n o e.
            let b = address z (treeling t j) in
            not_record b (record_apart b (omega arith))
            ∙ not_given b (λ v i lv _ some lo hi is. let at : v ≡ t = omega arith in false≢true (sym some ∙ ap (is_empty z s) at ∙ e))
            ∙ of_gone t b m o e (inner (treeling t j) (m, omega arith)) (λ w is. cleared_record z w t j n (omega (arith, inner (treeling t j) (m, omega arith))));
        gone_entry = λ t k m n o e.
            let b = address z (entry t k) in
            not_record b (record_apart b (omega arith))
            ∙ not_given b (λ v i lv _ _ lo hi is. omega arith)
            ∙ of_gone t b m o e (inner (entry t k) (m, n)) (λ w is. cleared_entry z w t k n (omega (arith, inner (entry t k) (m, n))));
        kept_owner = λ q k.
            same_after (address z (owner (kept_of z s d q))) (omega arith)
            (λ v i lv _ _ lo hi is. omega arith)
            (λ v lv _ e. (λ i li is. not_both q k v e (omega arith), λ c lc is. omega (arith, kept.below q k)));
        kept_previous = λ q k. given_at q k 1 (kept_before z s d q) (take 2 (given z s d clear q)) [] (omega arith) refl (omega arith, (omega arith, tt));
        kept_next = λ q k. given_at q k 2 (kept_link z s d (suc q)) (take 1 (given z s d clear q)) (drop 2 (given z s d clear q)) (omega arith) refl (omega arith, tt);
        kept_rank = λ q k. given_at q k 3 q [] (drop 1 (given z s d clear q)) (omega arith) refl tt;
        kept_entry = λ q k m n.
            same_after (address z (entry (kept_of z s d q) k)) (omega arith)
            (λ v i lv _ _ lo hi is. omega arith)
            (λ v lv _ e. (λ i li is. omega arith, λ c lc is. not_both q m v e (omega arith)));
      }
    where
      -- One that stays does not go.
      not_both : (q : ℕ) → q < number_kept z s d → (v : ℕ) → is_empty z s v ≡ true → v ≡ kept_of z s d q → ⊥
      not_both q k v e is = false≢true (sym (kept.not_empty_lem q k) ∙ ap (is_empty z s) (sym is) ∙ e)

      -- What one that stays is given.
      given_at : (q : ℕ) → q < number_kept z s d → (j v : ℕ) (later ws : List Write) → j < 5 → given z s d clear q ≡ later ++ write (address z (treeling (kept_of z s d q) j)) v ∷ ws
          → Apart (address z (treeling (kept_of z s d q) j)) later → get z u (treeling (kept_of z s d q) j) ≡ v
      given_at q k j v later ws lj is apart =
          not_record (address z (treeling (kept_of z s d q) j)) (record_apart (address z (treeling (kept_of z s d q) j)) (omega arith))
          ∙ words_given z s d clear kept q j v later ws k lj is apart (omega (arith, clear_length, inner (treeling (kept_of z s d q) j) (kept.below q k, lj)))

-- ---- Their chain, in words u
module _ (z : Sizes) (s : List ℕ) (h : Sound z s) (d : ℕ) (l : d < z.domains) {r u : List ℕ} (long : length r ≡ length s) (f : Returned z s r u d) where
  -- Following next from first goes through those that stay, by their new ranks.
  pub returned_link : (q : ℕ) → q ≤ number_kept z s d → link_of z u d q ≡ kept_link z s d q
  unfolding link_of
  returned_link zero k = f.first_is
  returned_link (suc q) k =
      let is : link_of z u d q - 1 ≡ kept_of z s d q = omega (arith, returned_link q (omega arith), kept_link_lem z s d q (omega arith)) in
      ap (λ (t : ℕ). get z u (next t)) is ∙ f.kept_next q (omega arith)

  pub returned_rank : (q : ℕ) → q < number_kept z s d → of_rank z u d q ≡ kept_of z s d q
  unfolding of_rank
  returned_rank q k = omega (arith, returned_link q (omega arith), kept_link_lem z s d q k)

  -- They can be walked through.
  pub returned_chain : Chain z u d (number_kept z s d)
  returned_chain =
      let kept = kept_facts z s h d l in
      record {
        laid = record { sizes = h.laid_out.laid.sizes; long = f.long ∙ long ∙ h.laid_out.laid.long };
        domain_below = l;
        most = kept_most z s h d l;
        below = λ q k. rw (returned_rank q k) (kept.below q k);
        linked = λ q k. returned_link q (omega arith) ∙ kept_link_lem z s d q k ∙ ap suc (sym (returned_rank q k));
        one = λ p q a b e. kept.one p q a b (sym (returned_rank p a) ∙ e ∙ returned_rank q b);
      }

  -- The last of them.
  pub returned_last : 0 < number_kept z s d → get z u (last d) ≡ suc (of_rank z u d (number_kept z s d - 1))
  returned_last some =
      let q = number_kept z s d - 1 in
      let is : number_kept z s d ≡ suc q = omega arith in
      f.last_is
      ∙ ap (kept_before z s d) is
      ∙ before-next z s d q
      ∙ kept_link_lem z s d q (omega arith)
      ∙ ap suc (sym (returned_rank q (omega arith)))

-- ---- A trim
module _ (z : Sizes) (s : List ℕ) (h : Sound z s) (d : ℕ) (l : d < z.domains) where
  -- How many stay, and the words after those that go are returned.
  abbrev number : ℕ
  number = number_kept z s d

  abbrev back : List ℕ
  back = returned_in z s d s

  facts : Returned z s s back d
  facts = returned_facts z s h d l s refl

  -- Words v are those, but for the head words and the entries of the TreeLings that stay.
  record Rest (v : List ℕ) : Type 0 where
    long : length v ≡ length back
    same : (p : Place) → (address z p ≡ address z (head_treeling d) → ⊥) → (address z p ≡ address z (head_block d) → ⊥)
        → ((t k : ℕ) → t < z.treelings → k < 512 → get z s (owner t) ≡ suc d → is_empty z s t ≡ false → address z p ≡ address z (entry t k) → ⊥) → get z v p ≡ get z back p
    head_none : number ≡ 0 → (get z v (head_treeling d) ≡ 0) × (get z v (head_block d) ≡ 0)
    head_is : 0 < number → (get z v (head_treeling d) ≡ suc (kept_of z s d (kept_head z s d / 64))) × (get z v (head_block d) ≡ kept_head z s d % 64)
    kept_entry : (j : ℕ) → j < 512 * number → get z v (entry (kept_of z s d (j / 512)) (j % 512)) ≡ entry_word (kept_node z s d (kept_order z s d j)) (kept_whole z s d (kept_order z s d j))

  -- That is all that a trim leaves.
  rest_trimmed : (v : List ℕ) → Rest v → Trimmed z s v d
  rest_trimmed v w =
      record {
        long = w.long ∙ facts.long;
        same_content = λ i m. w.same (content i) (omega arith) (omega arith) (λ t k _ _ _ _ is. omega arith) ∙ facts.same_content i m;
        same_leaf = λ f m. w.same (leaf f) (omega arith) (omega arith) (λ t k lt lk _ _ is. omega arith) ∙ facts.same_leaf f m;
        same_domain = λ e j m n apart.
            w.same (domain e j) (λ is. apart (omega arith)) (λ is. apart (omega arith)) (λ t k _ _ _ _ is. omega arith) ∙ facts.same_domain e j m n apart;
        same_live = w.same (live d) (omega arith) (omega arith) (λ t k _ _ _ _ is. omega arith) ∙ facts.same_live;
        same_pages = w.same (pages_mapped d) (omega arith) (omega arith) (λ t k _ _ _ _ is. omega arith) ∙ facts.same_pages;
        first_is = w.same (first d) (omega arith) (omega arith) (λ t k _ _ _ _ is. omega arith) ∙ facts.first_is;
        last_is = w.same (last d) (omega arith) (omega arith) (λ t k _ _ _ _ is. omega arith) ∙ facts.last_is;
        head_none = w.head_none;
        head_is = w.head_is;
        same_treeling = λ t j m n apart. tree t j m n ∙ facts.same_treeling t j m n apart;
        same_entry = λ t k m n apart.
            w.same (entry t k) (omega arith) (omega arith) (λ v c _ lc o _ is. let at : t ≡ v = omega arith in apart (ap (λ (x : ℕ). get z s (owner x)) at ∙ o))
            ∙ facts.same_entry t k m n apart;
        same_former = λ t m. tree t 4 m (omega arith) ∙ facts.same_former t m;
        gone_zero = λ t j m n o e. tree t j m (omega arith) ∙ facts.gone_zero t j m n o e;
        gone_entry = λ t k m n o e.
            w.same (entry t k) (omega arith) (omega arith) (λ v c _ lc _ some is. let at : v ≡ t = omega arith in false≢true (sym some ∙ ap (is_empty z s) at ∙ e))
            ∙ facts.gone_entry t k m n o e;
        kept_owner = λ q k. of_kept q k 0 (omega arith) ∙ facts.kept_owner q k ∙ kept.own q k;
        kept_previous = λ q k. of_kept q k 1 (omega arith) ∙ facts.kept_previous q k;
        kept_next = λ q k. of_kept q k 2 (omega arith) ∙ facts.kept_next q k;
        kept_rank = λ q k. of_kept q k 3 (omega arith) ∙ facts.kept_rank q k;
        kept_entry = w.kept_entry;
      }
    where
      kept : Kept z s d
      kept = kept_facts z s h d l

      tree : (t j : ℕ) → t < z.treelings → j < 5 → get z v (treeling t j) ≡ get z back (treeling t j)
      tree t j m n = w.same (treeling t j) (omega arith) (omega arith) (λ c k _ _ _ _ is. omega arith)

      of_kept : (q : ℕ) → q < number → (j : ℕ) → j < 5 → get z v (treeling (kept_of z s d q) j) ≡ get z back (treeling (kept_of z s d q) j)
      of_kept q k j n = tree (kept_of z s d q) j (kept.below q k) n

  -- Where none stays, no more is written.
  rest_none : number ≡ 0 → Rest back
  rest_none e =
      record {
        long = refl;
        same = λ p _ _ _. refl;
        head_none = λ _. (facts.no_head, facts.no_block);
        head_is = λ some. absurd (omega arith);
        kept_entry = λ j k. absurd (omega arith);
      }

  abbrev whole : ℕ → ℕ
  whole = whole_of (world z s d)

  -- Where some stay they are regathered: the ranks in the words returned are the new ones,
  chain : Chain z back d number
  chain = returned_chain z s h d l refl facts

  ranks : (q : ℕ) → q < number → of_rank z back d q ≡ kept_of z s d q
  ranks = returned_rank z s h d l refl facts

  -- so the leaf nodes, their order, the head and the words are as named here.
  node_is : (p : ℕ) → p < 512 * number → node_of z back d p ≡ kept_node z s d p
  node_is p k = ap (λ (t : ℕ). 512 * t + p % 512) (ranks (p / 512) (omega arith))

  spent_is : (p : ℕ) → p < 512 * number → is_spent z back d number whole p ≡ kept_spent z s d p
  spent_is p k = ap (λ (g : ℕ). eqb (whole g) 0) (node_is p k)

  order_is : gathered z back d number whole ≡ parted (kept_spent z s d) (512 * number)
  unfolding gathered
  order_is =
      ap₂ ◌++◌
      (select_cong (is_spent z back d number whole) (kept_spent z s d) (512 * number) spent_is)
      (select_cong (λ p. not (is_spent z back d number whole p)) (λ p. not (kept_spent z s d p)) (512 * number) (λ p k. ap not (spent_is p k)))

  head_at_lem : head_gathered z back d number whole ≡ kept_head z s d
  unfolding head_gathered
  head_at_lem =
      ap (λ (c : ℕ). cond (ltb c (512 * number)) (c / 8) (64 * number - 1)) (count_cong (512 * number) (is_spent z back d number whole) (kept_spent z s d) spent_is)

  word_is : (j : ℕ) → j < 512 * number → gathered_word z back d number whole j ≡ entry_word (kept_node z s d (kept_order z s d j)) (kept_whole z s d (kept_order z s d j))
  word_is j k =
      ap (λ (g : ℕ). entry_word g (whole g)) (node_is (get_or (gathered z back d number whole) j 0) (order_below z back d number chain whole j k))
      ∙ ap (λ (x : List ℕ). entry_word (kept_node z s d (get_or x j 0)) (kept_whole z s d (get_or x j 0))) order_is

  -- The head, the words with the entries filled, and the two words written then.
  abbrev head : ℕ
  head = head_gathered z back d number whole

  abbrev filled : List ℕ
  filled = entries_gathered z back d number whole (512 * number)

  fill : Filled z back d filled number (gathered_word z back d number whole)
  fill = gathered_filled z back d number chain whole

  abbrev heads : List Write
  heads =
      write (address z (head_block d)) (head % 64)
      ∷ write (address z (head_treeling d)) (suc (of_rank z back d (head / 64)))
      ∷ []

  rest_some : 0 < number → Rest (regathered z back d number whole)
  rest_some some =
      record {
        long = written_length filled heads ∙ fill.long;
        same = λ p a b other.
            read_apart filled heads (address z p) (b, (a, tt))
            ∙ fill.outside (address z p) (λ j k is.
            let q : j / 512 < number = omega arith in
            let t = ranks (j / 512) q in
            other (kept_of z s d (j / 512)) (j % 512) (kept.below (j / 512) q) (omega arith) (kept.own (j / 512) q) (kept.not_empty_lem (j / 512) q) (is ∙ ap (λ (x : ℕ). address z (entry x (j % 512))) t));
        head_none = λ none. absurd (omega arith);
        head_is = λ _. (
          read_written filled (take 1 heads) (write (address z (head_treeling d)) (suc (of_rank z back d (head / 64)))) [] (omega arith, tt) (inner (head_treeling d) (l, omega arith))
              ∙ ap suc (ranks (head / 64) (omega (arith, head_below z back d number chain whole some)) ∙ ap (λ (q : ℕ). kept_of z s d (q / 64)) head_at_lem),
          read_written filled [] (write (address z (head_block d)) (head % 64)) (drop 1 heads) tt (inner (head_block d) (l, omega arith))
              ∙ ap (λ (q : ℕ). q % 64) head_at_lem,
        );
        kept_entry = λ j k.
            let t = ranks (j / 512) (omega arith) in
            read_apart filled heads (address z (entry (kept_of z s d (j / 512)) (j % 512))) (omega arith, (omega arith, tt))
            ∙ ap (λ (x : ℕ). get z filled (entry x (j % 512))) (sym t)
            ∙ fill.inside j k
            ∙ word_is j k;
      }
    where
      kept : Kept z s d
      kept = kept_facts z s h d l

      inner : (p : Place) → Within z p → address z p < length filled
      inner p w = omega (arith, fill.long, facts.long, h.laid_out.laid.long, in_state z p w)

  pub trimmed_facts : Trimmed z s (trimmed z s d) d
  unfolding trimmed
  trimmed_facts =
      either number 0
      (λ none.
      subst (λ (b : Bool). Trimmed z s (cond b back (regathered z back d number whole)) d) (sym (eq-eqb number 0 none)) (rest_trimmed back (rest_none none)))
      (λ apart.
      let some : 0 < number = omega arith in
      subst (λ (b : Bool). Trimmed z s (cond b back (regathered z back d number whole)) d) (sym (ne_eqb number 0 apart)) (rest_trimmed (regathered z back d number whole) (rest_some some)))
