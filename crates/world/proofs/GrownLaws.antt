-- A domain has one TreeLing more, at the end of its chain: its entries have free positions, its head is block 0 there, and every other record and entry stays. What is left to show for a sound state.
-- Assumes nothing.
use Prim.Native.Nat.{ℕ, zero, suc, ◌+◌, ◌-◌, ◌*◌, ◌/◌, ◌%◌, ◌<◌, ◌≤◌}
use mathlib.Core.Path.{◌≡◌, refl, sym, ap, subst, ◌∙◌}
use mathlib.Core.List.{List}
use mathlib.Core.Bool.{cond}
use mathlib.Core.Logic.{◌⊎◌, inl, inr, ⊎_elim}
use native.Mathlib.Nat.{mod-lt}
use native.Mathlib.Omega.{arith}
use lib.ListN.{length}
use Rattle.layout.specs.declared.Sizes.{Sizes}
use Rattle.geometry.specs.Entries.{tag_of, availability_of}
use Rattle.layout.specs.Places.{get, content, hand, domain, treeling, entry, live, first, last, head_treeling, head_block, pages_mapped, owner, previous, next, rank, former}
use Rattle.sound.specs.Sentences.{is_ordinary, block_in_order, head_in_order, times_free, times_named, true_number}
use Rattle.sound.specs.Sound.{Sound, LeavesFit, HoleZero, Linked, Follows, Ordinary}
use Rattle.sound.proofs.ContentsLaws.{laid_kept}
use Rattle.world.specs.World.{owned}
use Rattle.world.proofs.WorldLaws.{last_some, last_none, rank_below_owned, head_some}
use Rattle.world.proofs.FrameLaws.{either}

-- Words r after domain d has taken TreeLing t in words s and a frame has got its first slot: all but the pages and the leaf map.
pub record Grown (z : Sizes) (s r : List ℕ) (d t : ℕ) : Type 0 where
  pub long : length r ≡ length s
  -- The contents, with the hand.
  pub same_content : (i : ℕ) → i < 25 → (i ≡ 3 → ⊥) → get z r (content i) ≡ get z s (content i)
  pub hand_is : get z r hand ≡ suc t % z.treelings
  -- The records of the domains.
  pub same_domain : (e j : ℕ) → e < z.domains → j < 6 → (e ≡ d → ⊥) → get z r (domain e j) ≡ get z s (domain e j)
  pub live_is : get z r (live d) ≡ get z s (live d)
  pub first_is : get z s (last d) ≡ 0 → get z r (first d) ≡ suc t
  pub same_first : (v : ℕ) → get z s (last d) ≡ suc v → get z r (first d) ≡ get z s (first d)
  pub last_is : get z r (last d) ≡ suc t
  pub head_is : get z r (head_treeling d) ≡ suc t
  pub block_is : get z r (head_block d) ≡ 0
  -- Those of the TreeLings.
  pub owner_is : get z r (owner t) ≡ suc d
  pub previous_is : get z r (previous t) ≡ get z s (last d)
  pub rank_is : get z r (rank t) ≡ owned z s d
  pub former_is : get z r (former t) ≡ suc d
  pub link_is : (v : ℕ) → get z s (last d) ≡ suc v → get z r (next v) ≡ suc t
  pub same_next : (u : ℕ) → u < z.treelings → (get z s (last d) ≡ suc u → ⊥) → get z r (next u) ≡ get z s (next u)
  pub same_treeling : (u j : ℕ) → u < z.treelings → j < 5 → (u ≡ t → ⊥) → (j ≡ 2 → ⊥) → get z r (treeling u j) ≡ get z s (treeling u j)
  -- The entries.
  pub tag_is : (k : ℕ) → k < 512 → tag_of (get z r (entry t k)) ≡ 512 * t + k
  pub some_free : (k : ℕ) → k < 512 → 0 < availability_of (get z r (entry t k))
  pub same_entry : (u k : ℕ) → u < z.treelings → k < 512 → (u ≡ t → ⊥) → get z r (entry u k) ≡ get z s (entry u k)

module _ (z : Sizes) (s r : List ℕ) (d t : ℕ) (h : Sound z s) (hd : d < z.domains) (ht : t < z.treelings)
    (unowned : get z s (owner t) ≡ 0) (g : Grown z s r d t) where
  -- ---- What stays
  -- A TreeLing that was owned is not t.
  not_t : (v e : ℕ) → get z s (owner v) ≡ suc e → v ≡ t → ⊥
  not_t v e o is = let same = ap (λ (u : ℕ). get z s (owner u)) is in omega arith

  -- One that is not t, of the same owner as before.
  owner_back : (v e : ℕ) → v < z.treelings → (v ≡ t → ⊥) → get z r (owner v) ≡ suc e → get z s (owner v) ≡ suc e
  owner_back v e lv apart o = sym (g.same_treeling v 0 lv (omega arith) apart (omega arith)) ∙ o

  owner_kept : (v e : ℕ) → v < z.treelings → get z s (owner v) ≡ suc e → get z r (owner v) ≡ suc e
  owner_kept v e lv o = g.same_treeling v 0 lv (omega arith) (not_t v e o) (omega arith) ∙ o

  rank_kept : (v e : ℕ) → v < z.treelings → get z s (owner v) ≡ suc e → get z r (rank v) ≡ get z s (rank v)
  rank_kept v e lv o = g.same_treeling v 3 lv (omega arith) (not_t v e o) (omega arith)

  -- t is d's alone.
  d_alone : (e : ℕ) → get z r (owner t) ≡ suc e → e ≡ d
  d_alone e o = omega (arith, g.owner_is)

  linked : (e v before n : ℕ) → v < z.treelings → Linked z s e v before n → Linked z r e v before n
  linked e v before n lv k =
      record {
        owner_is = owner_kept v e lv k.owner_is;
        previous_is = g.same_treeling v 1 lv (omega arith) (not_t v e k.owner_is) (omega arith) ∙ k.previous_is;
        rank_is = rank_kept v e lv k.owner_is ∙ k.rank_is;
      }

  -- ---- The chain
  -- The last TreeLing so far.
  by_last : {P : Type 0} → (get z s (last d) ≡ 0 → P) → ((v : ℕ) → get z s (last d) ≡ suc v → P) → P
  by_last {P} none some = go (get z s (last d)) refl
    where
      go : (x : ℕ) → get z s (last d) ≡ x → P
      go zero e = none e
      go (suc v) e = some v e

  record Before (v : ℕ) : Type 0 where
    below : v < z.treelings
    own : get z s (owner v) ≡ suc d
    ends : get z s (next v) ≡ 0
    ranked : owned z s d ≡ suc (get z s (rank v))

  before : (v : ℕ) → get z s (last d) ≡ suc v → Before v
  before v e =
      let w = last_some z s h d hd v e in
      record { below = w.0.below; own = w.0.owner_is; ends = w.2; ranked = w.1 }

  -- It is not t.
  not_last : get z s (last d) ≡ suc t → ⊥
  not_last e = not_t t d (before t e).own refl

  -- t is linked from the last one, or from d's record.
  t_linked : (e u x n : ℕ) → e ≡ d → u ≡ t → get z s (last d) ≡ x → owned z s d ≡ n → Linked z r e u x n
  t_linked e u x n e_is u_is last ranked =
      record {
        owner_is = omega (arith, ap (λ (w : ℕ). get z r (owner w)) u_is, g.owner_is);
        previous_is = ap (λ (w : ℕ). get z r (previous w)) u_is ∙ g.previous_is ∙ last;
        rank_is = ap (λ (w : ℕ). get z r (rank w)) u_is ∙ g.rank_is ∙ ranked;
      }

  first_kept : (e u : ℕ) → e < z.domains → get z s (first e) ≡ suc u → Linked z r e u 0 0
  first_kept e u le is = linked e u 0 0 (omega (arith, h.first_range e le)) (h.at_first e u le is)

  first-grown : (e u : ℕ) → e < z.domains → get z r (first e) ≡ suc u → Linked z r e u 0 0
  first-grown e u le is =
      either e d
      (λ e_is.
      let is_d : get z r (first d) ≡ suc u = ap (λ (c : ℕ). get z r (first c)) (sym e_is) ∙ is in
      by_last
      (λ none. t_linked e u 0 0 e_is (omega (arith, g.first_is none)) none (last_none z s h d hd none))
      (λ v some. first_kept e u le (ap (λ (c : ℕ). get z s (first c)) e_is ∙ sym (g.same_first v some) ∙ is_d)))
      (λ apart. first_kept e u le (sym (g.same_domain e 1 le (omega arith) apart) ∙ is))

  next-grown : (e v u : ℕ) → e < z.domains → v < z.treelings → get z r (owner v) ≡ suc e → get z r (next v) ≡ suc u → Linked z r e u (suc v) (suc (get z r (rank v)))
  next-grown e v u le lv o is =
      either v t
      (λ v_is.
      let none : get z r (next t) ≡ 0 = g.same_next t ht not_last ∙ h.unowned_zero t 2 ht (omega arith) unowned in
      absurd (omega (arith, ap (λ (w : ℕ). get z r (next w)) v_is)))
      (λ apart. of_other (owner_back v e lv apart o))
    where
      of_other : get z s (owner v) ≡ suc e → Linked z r e u (suc v) (suc (get z r (rank v)))
      of_other o_s =
          let kept = rank_kept v e lv o_s in
          either (get z s (last d)) (suc v)
          (λ last.
          let b = before v last in
          t_linked e u (suc v) (suc (get z r (rank v))) (omega (arith, b.own)) (omega (arith, g.link_is v last)) last (omega (arith, b.ranked)))
          (λ inner.
          let is_s : get z s (next v) ≡ suc u = sym (g.same_next v lv inner) ∙ is in
          linked e u (suc v) (suc (get z r (rank v))) (omega (arith, h.next_range v lv))
          (subst (λ (x : ℕ). Linked z s e u (suc v) (suc x)) (sym kept) (h.at_next e v u le lv o_s is_s)))

  last-grown : (e v : ℕ) → e < z.domains → v < z.treelings → get z r (owner v) ≡ suc e → get z r (next v) ≡ 0 → get z r (last e) ≡ suc v
  last-grown e v le lv o is =
      either v t
      (λ v_is.
      let e_is = d_alone e (ap (λ (w : ℕ). get z r (owner w)) (sym v_is) ∙ o) in
      ap (λ (c : ℕ). get z r (last c)) e_is ∙ g.last_is ∙ ap suc (sym v_is))
      (λ apart. of_other (owner_back v e lv apart o))
    where
      of_other : get z s (owner v) ≡ suc e → get z r (last e) ≡ suc v
      of_other o_s =
          let inner : get z s (last d) ≡ suc v → ⊥ = λ last. omega (arith, g.link_is v last) in
          let last_s = h.at_last e v le lv o_s (sym (g.same_next v lv inner) ∙ is) in
          either e d
          (λ e_is. absurd (inner (ap (λ (c : ℕ). get z s (last c)) (sym e_is) ∙ last_s)))
          (λ apart. g.same_domain e 2 le (omega arith) apart ∙ last_s)

  followed_grown : (e v : ℕ) → e < z.domains → v < z.treelings → get z r (owner v) ≡ suc e → (get z r (first e) ≡ suc v) ⊎ ((p : ℕ) × (get z r (previous v) ≡ suc p) × Follows z r e v p)
  followed_grown e v le lv o =
      either v t
      (λ v_is. at_t v_is (d_alone e (ap (λ (w : ℕ). get z r (owner w)) (sym v_is) ∙ o)))
      (λ apart.
      let o_s = owner_back v e lv apart o in
      ⊎_elim (λ is. inl (first-stays o_s is)) (λ w. inr (w.0, g.same_treeling v 1 lv (omega arith) apart (omega arith) ∙ w.1, follows o_s w.0 w.1 w.2)) (h.followed e v le lv o_s))
    where
      at_t : v ≡ t → e ≡ d → (get z r (first e) ≡ suc v) ⊎ ((p : ℕ) × (get z r (previous v) ≡ suc p) × Follows z r e v p)
      at_t v_is e_is =
          by_last
          (λ none. inl (ap (λ (c : ℕ). get z r (first c)) e_is ∙ g.first_is none ∙ ap suc (sym v_is)))
          (λ p last.
          let b = before p last in
          inr (
            p,
            ap (λ (w : ℕ). get z r (previous w)) v_is ∙ g.previous_is ∙ last,
            record {
              owner_is = owner_kept p d b.below b.own ∙ ap suc (sym e_is);
              next_is = g.link_is p last ∙ ap suc (sym v_is);
              rank_is = omega (arith, rank_kept p d b.below b.own, b.ranked, g.rank_is, ap (λ (w : ℕ). get z r (rank w)) v_is);
            },
          ))

      first-stays : get z s (owner v) ≡ suc e → get z s (first e) ≡ suc v → get z r (first e) ≡ suc v
      first-stays o_s is =
          either e d
          (λ e_is.
          by_last
          (λ none. absurd (omega (arith, last_none z s h d hd none, rank_below_owned z s h d hd v lv (o_s ∙ ap suc e_is))))
          (λ p last. ap (λ (c : ℕ). get z r (first c)) e_is ∙ g.same_first p last ∙ ap (λ (c : ℕ). get z s (first c)) (sym e_is) ∙ is))
          (λ apart. g.same_domain e 1 le (omega arith) apart ∙ is)

      follows : get z s (owner v) ≡ suc e → (p : ℕ) → get z s (previous v) ≡ suc p → Follows z s e v p → Follows z r e v p
      follows o_s p is k =
          let lp : p < z.treelings = omega (arith, h.previous_range v lv) in
          record {
            owner_is = owner_kept p e lp k.owner_is;
            next_is = g.same_next p lp (λ last. omega (arith, (before p last).ends, k.next_is)) ∙ k.next_is;
            rank_is = omega (arith, rank_kept p e lp k.owner_is, rank_kept v e lv o_s, k.rank_is);
          }

  -- A live word of another domain, or of d, was the same.
  live_back : (e : ℕ) → e < z.domains → Ordinary z r e → Ordinary z s e
  live_back e le a =
      either e d
      (λ is. ap (λ (c : ℕ). get z s (live c)) is ∙ sym g.live_is ∙ ap (λ (c : ℕ). get z r (live c)) (sym is) ∙ a)
      (λ apart. sym (g.same_domain e 0 le (omega arith) apart) ∙ a)

  owner_below : (u e : ℕ) → u < z.treelings → (u ≡ t → ⊥) → get z r (owner u) ≡ suc e → e < z.domains
  owner_below u e lu apart o = omega (arith, owner_back u e lu apart o, h.owner_range u lu)

  -- ---- Ranges
  -- A word of each domain's record, or of each TreeLing's, is at most n where it was and where that of d, or of t, is.
  domains_most : (j n : ℕ) → j < 6 → get z r (domain d j) ≤ n → ((e : ℕ) → e < z.domains → get z s (domain e j) ≤ n) → (e : ℕ) → e < z.domains → get z r (domain e j) ≤ n
  domains_most j n lj own most e le =
      either e d
      (λ is. subst (λ (c : ℕ). get z r (domain c j) ≤ n) (sym is) own)
      (λ apart. omega (arith, g.same_domain e j le lj apart, most e le))

  treelings_most : (j n : ℕ) → j < 5 → (j ≡ 2 → ⊥) → get z r (treeling t j) ≤ n → ((u : ℕ) → u < z.treelings → get z s (treeling u j) ≤ n) → (u : ℕ) → u < z.treelings → get z r (treeling u j) ≤ n
  treelings_most j n lj other own most u lu =
      either u t
      (λ is. subst (λ (v : ℕ). get z r (treeling v j) ≤ n) (sym is) own)
      (λ apart. omega (arith, g.same_treeling u j lu lj apart other, most u lu))

  first_most : get z r (first d) ≤ z.treelings
  first_most = by_last (λ none. omega (arith, g.first_is none)) (λ v last. omega (arith, g.same_first v last, h.first_range d hd))

  next_range : (u : ℕ) → u < z.treelings → get z r (next u) ≤ z.treelings
  next_range u lu =
      either (get z s (last d)) (suc u)
      (λ last. omega (arith, g.link_is u last))
      (λ inner. omega (arith, g.same_next u lu inner, h.next_range u lu))

  tag_range : (e u k : ℕ) → u < z.treelings → k < 512 → get z r (owner u) ≡ suc e → Ordinary z r e → tag_of (get z r (entry u k)) < 512 * z.treelings
  tag_range e u k lu lk o a =
      either u t
      (λ is. omega (arith, ap (λ (v : ℕ). tag_of (get z r (entry v k))) is, g.tag_is k lk))
      (λ apart. subst (λ (w : ℕ). tag_of w < 512 * z.treelings) (sym (g.same_entry u k lu lk apart)) (h.tag_range e u k lu lk (owner_back u e lu apart o) (live_back e (owner_below u e lu apart o) a)))

  -- ---- Zeros
  -- A TreeLing without an owner is not t, and had none before.
  unowned_back : (u : ℕ) → u < z.treelings → get z r (owner u) ≡ 0 → (u ≡ t → ⊥) × (get z s (owner u) ≡ 0)
  unowned_back u lu o =
      let apart : u ≡ t → ⊥ = λ is. omega (arith, ap (λ (v : ℕ). get z r (owner v)) is, g.owner_is) in
      (apart, sym (g.same_treeling u 0 lu (omega arith) apart (omega arith)) ∙ o)

  unowned_record : (u j : ℕ) → u < z.treelings → j < 4 → get z r (owner u) ≡ 0 → get z r (treeling u j) ≡ 0
  unowned_record u j lu lj o =
      let b = unowned_back u lu o in
      either j 2
      (λ is.
      ap (λ (i : ℕ). get z r (treeling u i)) is
      ∙ g.same_next u lu (λ last. omega (arith, (before u last).own, b.1))
      ∙ h.unowned_zero u 2 lu (omega arith) b.1)
      (λ other. g.same_treeling u j lu (omega arith) b.0 other ∙ h.unowned_zero u j lu lj b.1)

  unowned_entries : (u k : ℕ) → u < z.treelings → k < 512 → get z r (owner u) ≡ 0 → get z r (entry u k) ≡ 0
  unowned_entries u k lu lk o =
      let b = unowned_back u lu o in
      g.same_entry u k lu lk b.0 ∙ h.unowned_entry u k lu lk b.1

  -- The last owner of an owned TreeLing.
  former-grown : (e u : ℕ) → u < z.treelings → get z r (owner u) ≡ suc e → get z r (former u) ≡ suc e
  former-grown e u lu o =
      either u t
      (λ is.
      ap (λ (v : ℕ). get z r (former v)) is
      ∙ g.former_is
      ∙ ap suc (sym (d_alone e (ap (λ (v : ℕ). get z r (owner v)) (sym is) ∙ o))))
      (λ apart. g.same_treeling u 4 lu (omega arith) apart (omega arith) ∙ h.former-owner e u lu (owner_back u e lu apart o))

  empty_record : (e j : ℕ) → e < z.domains → j < 5 → get z r (first e) ≡ 0 → get z r (domain e (suc j)) ≡ 0
  empty_record e j le lj is =
      either e d
      (λ e_is.
      let none : get z r (first d) ≡ 0 = ap (λ (c : ℕ). get z r (first c)) (sym e_is) ∙ is in
      by_last
      (λ last. absurd (omega (arith, g.first_is last)))
      (λ v last. absurd (omega (arith, h.empty_zero d 1 hd (omega arith) (sym (g.same_first v last) ∙ none)))))
      (λ apart.
      g.same_domain e (suc j) le (omega arith) apart
      ∙ h.empty_zero e j le lj (sym (g.same_domain e 1 le (omega arith) apart) ∙ is))

  -- ---- Heads and entries
  head_grown : (e u : ℕ) → e < z.domains → Ordinary z r e → get z r (first e) ≡ suc u → (v : ℕ) × (get z r (head_treeling e) ≡ suc v) × (get z r (owner v) ≡ suc e)
  head_grown e u le a is =
      either e d
      (λ e_is. (t, ap (λ (c : ℕ). get z r (head_treeling c)) e_is ∙ g.head_is, g.owner_is ∙ ap suc (sym e_is)))
      (λ apart.
      let w = h.head_own e u le (live_back e le a) (sym (g.same_domain e 1 le (omega arith) apart) ∙ is) in
      (w.0, g.same_domain e 3 le (omega arith) apart ∙ w.1, owner_kept w.0 e (omega (arith, w.1, h.head_range e le)) w.2))

  tags_grown : (e v k : ℕ) → v < z.treelings → k < 512 → get z r (owner v) ≡ suc e → Ordinary z r e → get z r (owner (tag_of (get z r (entry v k)) / 512)) ≡ suc e
  tags_grown e v k lv lk o a =
      either v t
      (λ is.
      let tag : tag_of (get z r (entry v k)) / 512 ≡ v = omega (arith, ap (λ (u : ℕ). tag_of (get z r (entry u k))) is, g.tag_is k lk) in
      ap (λ (u : ℕ). get z r (owner u)) tag ∙ o)
      (λ apart.
      let w = get z s (entry v k) in
      ap (λ (x : ℕ). get z r (owner (tag_of x / 512))) (g.same_entry v k lv lk apart)
      ∙ owner_kept (tag_of w / 512) e (omega (arith, h.tag_range e v k lv lk (owner_back v e lv apart o) (live_back e (owner_below v e lv apart o) a))) (h.tag_own e v k lv lk (owner_back v e lv apart o) (live_back e (owner_below v e lv apart o) a)))

  -- The head of d is block 0 of t, and that of another domain with a TreeLing v is as before.
  head_here : head_in_order z r d ≡ 64 * owned z s d
  head_here =
      let named : get z r (head_treeling d) - 1 ≡ t = omega (arith, g.head_is) in
      omega (arith, ap (λ (u : ℕ). get z r (rank u)) named, g.rank_is, g.block_is)

  head_there : (e v : ℕ) → e < z.domains → Ordinary z s e → (e ≡ d → ⊥) → v < z.treelings → get z s (owner v) ≡ suc e → head_in_order z r e ≡ head_in_order z s e
  head_there e v le a apart lv o =
      let w = head_some z s h e le a (omega (arith, rank_below_owned z s h e le v lv o)) in
      let a = w.2 in
      let now : get z r (head_treeling e) - 1 ≡ w.0 = omega (arith, g.same_domain e 3 le (omega arith) apart, w.1) in
      let then : get z s (head_treeling e) - 1 ≡ w.0 = omega (arith, w.1) in
      omega (
        arith,
        ap (λ (u : ℕ). get z r (rank u)) now,
        ap (λ (u : ℕ). get z s (rank u)) then,
        rank_kept w.0 e a.below a.owner_is,
        g.same_domain e 4 le (omega arith) apart,
      )

  -- No entry of d's other TreeLings has a free position, so that all before the head have none; entries of t have one.
  module _ (full : (v k : ℕ) → v < z.treelings → k < 512 → get z s (owner v) ≡ suc d → availability_of (get z s (entry v k)) ≡ 0) where
    before-grown : (e v k : ℕ) → v < z.treelings → k < 512 → get z r (owner v) ≡ suc e → Ordinary z r e → block_in_order z r v (k / 8) < head_in_order z r e → availability_of (get z r (entry v k)) ≡ 0
    before-grown e v k lv lk o a less =
        either v t
        (λ is.
        let e_is = d_alone e (ap (λ (u : ℕ). get z r (owner u)) (sym is) ∙ o) in
        absurd (omega (arith, ap (head_in_order z r) e_is, head_here, ap (λ (u : ℕ). get z r (rank u)) is, g.rank_is)))
        (λ apart.
        let o_s = owner_back v e lv apart o in
        ap availability_of (g.same_entry v k lv lk apart)
        ∙ either e d
        (λ e_is. full v k lv lk (o_s ∙ ap suc e_is))
        (λ other. let a_s = live_back e (owner_below v e lv apart o) a in h.before_head_lem e v k lv lk o_s a_s (omega (arith, less, head_there e v (omega (arith, h.owner_range v lv)) a_s other lv o_s, rank_kept v e lv o_s))))

    after-grown : (e v k : ℕ) → v < z.treelings → k < 512 → get z r (owner v) ≡ suc e → Ordinary z r e → head_in_order z r e < block_in_order z r v (k / 8) → 0 < availability_of (get z r (entry v k))
    after-grown e v k lv lk o a less =
        either v t
        (λ is. subst (λ (u : ℕ). 0 < availability_of (get z r (entry u k))) (sym is) (g.some_free k lk))
        (λ apart.
        let o_s = owner_back v e lv apart o in
        let kept = rank_kept v e lv o_s in
        subst (λ (w : ℕ). 0 < availability_of w) (sym (g.same_entry v k lv lk apart))
        (either e d
        (λ e_is. absurd (omega (arith, ap (head_in_order z r) e_is, head_here, rank_below_owned z s h d hd v lv (o_s ∙ ap suc e_is))))
        (λ other. let a_s = live_back e (owner_below v e lv apart o) a in h.after_head_lem e v k lv lk o_s a_s (omega (arith, less, head_there e v (omega (arith, h.owner_range v lv)) a_s other lv o_s)))))

    -- That is all but the leaf map and the pages.
    pub grown_sound : Ordinary z s d
        → LeavesFit z r
        → ((y : ℕ) → y < 4096 * z.treelings → times_free z r y + times_named z r y ≡ cond (is_ordinary z r (y / 4096)) 1 0)
        → HoleZero z r
        → ((e : ℕ) → e < z.domains → get z r (pages_mapped e) ≡ true_number z r e)
        → Sound z r
    grown_sound alive leaves once holes pages =
        record {
          laid_out =
              laid_kept z s r g.long g.same_content (subst (λ (x : ℕ). x < z.treelings) (sym g.hand_is) (mod-lt (suc t) (omega arith))) h.laid_out;
          live_range = domains_most 0 1 (omega arith) (omega (arith, g.live_is, alive)) h.live_range;
          first_range = domains_most 1 z.treelings (omega arith) first_most h.first_range;
          last_range = domains_most 2 z.treelings (omega arith) (omega (arith, g.last_is)) h.last_range;
          head_range = domains_most 3 z.treelings (omega arith) (omega (arith, g.head_is)) h.head_range;
          block_range = domains_most 4 63 (omega arith) (omega (arith, g.block_is)) h.block_range;
          owner_range = treelings_most 0 z.domains (omega arith) (omega arith) (omega (arith, g.owner_is)) h.owner_range;
          previous_range = treelings_most 1 z.treelings (omega arith) (omega arith) (omega (arith, g.previous_is, h.last_range d hd)) h.previous_range;
          next_range = next_range;
          former_range = treelings_most 4 z.domains (omega arith) (omega arith) (omega (arith, g.former_is)) h.former_range;
          tag_range = tag_range;
          leaf_range = leaves;
          dead_zero = λ e j le lj dead.
              either e d
              (λ is. absurd (omega (arith, ap (λ (c : ℕ). get z r (live c)) is, g.live_is)))
              (λ apart.
              g.same_domain e j le lj apart ∙ h.dead_zero e j le lj (sym (g.same_domain e 0 le (omega arith) apart) ∙ dead));
          unowned_zero = unowned_record;
          unowned_entry = unowned_entries;
          former-owner = former-grown;
          at_first = first-grown;
          at_next = next-grown;
          at_last = last-grown;
          followed = followed_grown;
          empty_zero = empty_record;
          head_own = head_grown;
          tag_own = tags_grown;
          before_head_lem = before-grown;
          after_head_lem = after-grown;
          slot_once = once;
          hole_zero = holes;
          pages_true_lem = pages;
        }
