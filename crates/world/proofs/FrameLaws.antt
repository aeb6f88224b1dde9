-- A write within one domain: its head words, its pages, its NFL entries and the leaf map change; every other record stays. What is left to show for a sound state.
-- Assumes nothing.
use Prim.Native.Nat.{ℕ, suc, ◌+◌, ◌-◌, ◌*◌, ◌/◌, ◌<◌, ◌≤◌}
use mathlib.Core.Path.{◌≡◌, refl, sym, ap, subst, ◌∙◌}
use mathlib.Core.List.{List}
use mathlib.Core.Bool.{Bool, true, false, cond}
use mathlib.Core.Logic.{◌⊎◌, ⊎_elim, inl, inr}
use native.Mathlib.Omega.{arith}
use borrow.Author.Tests.{eqb-true, eqb-false}
use lib.Dec.{eqb}
use lib.ListN.{length}
use Rattle.layout.specs.declared.Sizes.{Sizes}
use Rattle.geometry.specs.Entries.{tag_of, availability_of}
use Rattle.layout.specs.Places.{get, content, domain, treeling, entry, live, first, head_treeling, head_block, pages_mapped, owner, previous, next, rank}
use Rattle.sound.specs.Sentences.{is_ordinary, block_in_order, head_in_order, times_free, times_named, true_number}
use Rattle.sound.specs.Sound.{Sound, LeavesFit, HoleZero, Linked, Follows, Ordinary}
use Rattle.sound.proofs.ContentsLaws.{laid_kept}

-- Words r after words s differ in the head words, the pages and the entries of domain d and in the leaf map alone.
pub record Framed (z : Sizes) (s r : List ℕ) (d : ℕ) : Type 0 where
  pub long : length r ≡ length s
  pub same_content : (i : ℕ) → i < 25 → get z r (content i) ≡ get z s (content i)
  pub same_domain : (e j : ℕ) → e < z.domains → j < 6 → (e ≡ d → j < 3) → get z r (domain e j) ≡ get z s (domain e j)
  pub same_treeling : (t j : ℕ) → t < z.treelings → j < 5 → get z r (treeling t j) ≡ get z s (treeling t j)
  pub same_entry : (t k : ℕ) → t < z.treelings → k < 512 → (get z s (owner t) ≡ suc d → ⊥) → get z r (entry t k) ≡ get z s (entry t k)

-- What then is to be shown of r, for domain d and for the leaf map.
pub record Bodied (z : Sizes) (r : List ℕ) (d : ℕ) : Type 0 where
  pub head : ℕ
  pub head_is : get z r (head_treeling d) ≡ suc head
  pub head_below : head < z.treelings
  pub head_own : get z r (owner head) ≡ suc d
  pub block_range : get z r (head_block d) ≤ 63
  pub tag_range : (t k : ℕ) → t < z.treelings → k < 512 → get z r (owner t) ≡ suc d → tag_of (get z r (entry t k)) < 512 * z.treelings
  pub tag_own : (t k : ℕ) → t < z.treelings → k < 512 → get z r (owner t) ≡ suc d → get z r (owner (tag_of (get z r (entry t k)) / 512)) ≡ suc d
  pub before_head_lem : (t k : ℕ) → t < z.treelings → k < 512 → get z r (owner t) ≡ suc d → block_in_order z r t (k / 8) < head_in_order z r d → availability_of (get z r (entry t k)) ≡ 0
  pub after_head_lem : (t k : ℕ) → t < z.treelings → k < 512 → get z r (owner t) ≡ suc d → head_in_order z r d < block_in_order z r t (k / 8) → 0 < availability_of (get z r (entry t k))
  pub leaf_range : LeavesFit z r
  pub slot_once : (y : ℕ) → y < 4096 * z.treelings → times_free z r y + times_named z r y ≡ cond (is_ordinary z r (y / 4096)) 1 0
  pub hole_zero : HoleZero z r
  pub pages_true_lem : (e : ℕ) → e < z.domains → get z r (pages_mapped e) ≡ true_number z r e

-- Two numbers are the same or they are not.
pub either : {P : Type 0} (a b : ℕ) → (a ≡ b → P) → ((a ≡ b → ⊥) → P) → P
either {P} a b same apart = go (eqb a b) refl
  where
    go : (t : Bool) → eqb a b ≡ t → P
    go true e = same (eqb-true a b e)
    go false e = apart (eqb-false a b e)

-- What is known of d holds of e where it does for the others.
pub at_or_other : (P : ℕ → Type 0) (d e : ℕ) → P d → ((e ≡ d → ⊥) → P e) → P e
at_or_other P d e here there = either e d (λ is. subst P (sym is) here) there

module _ (z : Sizes) (s r : List ℕ) (d : ℕ) (h : Sound z s) (f : Framed z s r d) where
  -- The words that stay: of a domain's record up to last, of another domain's record, the owner of a TreeLing,
  up_to_last : (e j : ℕ) → e < z.domains → j < 3 → get z r (domain e j) ≡ get z s (domain e j)
  up_to_last e j m n = f.same_domain e j m (omega arith) (λ _. n)

  of_other : (e j : ℕ) → e < z.domains → j < 6 → (e ≡ d → ⊥) → get z r (domain e j) ≡ get z s (domain e j)
  of_other e j m n apart = f.same_domain e j m n (λ is. absurd (apart is))

  owner_back : (t e : ℕ) → t < z.treelings → get z r (owner t) ≡ suc e → get z s (owner t) ≡ suc e
  owner_back t e m o = sym (f.same_treeling t 0 m (omega arith)) ∙ o

  owner_below : (t e : ℕ) → t < z.treelings → get z r (owner t) ≡ suc e → e < z.domains
  owner_below t e m o = omega (arith, owner_back t e m o, h.owner_range t m)

  live_back : (e : ℕ) → e < z.domains → Ordinary z r e → Ordinary z s e
  live_back e m a = sym (up_to_last e 0 m (omega arith)) ∙ a

  -- the entries of another owner, and its head,
  other_entry : (t k e : ℕ) → t < z.treelings → k < 512 → get z s (owner t) ≡ suc e → (e ≡ d → ⊥) → get z r (entry t k) ≡ get z s (entry t k)
  other_entry t k e m n o apart = f.same_entry t k m n (λ is. apart (omega arith))

  other_head : (e : ℕ) → e < z.domains → (e ≡ d → ⊥) → head_in_order z r e ≡ head_in_order z s e
  other_head e m apart =
      let v = get z s (head_treeling e) - 1 in
      omega (
        arith,
        ap (λ (x : ℕ). get z r (rank (x - 1))) (of_other e 3 m (omega arith) apart),
        f.same_treeling v 3 (omega (arith, h.head_range e m, h.laid_out.laid.sizes.some_treelings)) (omega arith),
        of_other e 4 m (omega arith) apart,
      )

  -- and what is linked.
  linked : (e v before n : ℕ) → v < z.treelings → Linked z s e v before n → Linked z r e v before n
  linked e v before n m k =
      record {
        owner_is = f.same_treeling v 0 m (omega arith) ∙ k.owner_is;
        previous_is = f.same_treeling v 1 m (omega arith) ∙ k.previous_is;
        rank_is = f.same_treeling v 3 m (omega arith) ∙ k.rank_is;
      }

  follows : (e t p : ℕ) → t < z.treelings → p < z.treelings → Follows z s e t p → Follows z r e t p
  follows e t p m n k =
      record {
        owner_is = f.same_treeling p 0 n (omega arith) ∙ k.owner_is;
        next_is = f.same_treeling p 2 n (omega arith) ∙ k.next_is;
        rank_is = omega (arith, f.same_treeling p 3 n (omega arith), f.same_treeling t 3 m (omega arith), k.rank_is);
      }

  followed_same : (e t : ℕ) → e < z.domains → t < z.treelings → get z s (owner t) ≡ suc e → (get z r (first e) ≡ suc t) ⊎ ((p : ℕ) × (get z r (previous t) ≡ suc p) × Follows z r e t p)
  followed_same e t m n o =
      ⊎_elim
      (λ is. inl (up_to_last e 1 m (omega arith) ∙ is))
      (λ w. inr (w.0, f.same_treeling t 1 n (omega arith) ∙ w.1, follows e t w.0 n (omega (arith, w.1, h.previous_range t n)) w.2))
      (h.followed e t m n o)

  -- The entries of any owner, where those of d are known.
  module _ (b : Bodied z r d) where
    tag_below : (e t k : ℕ) → t < z.treelings → k < 512 → get z r (owner t) ≡ suc e → Ordinary z r e → tag_of (get z r (entry t k)) < 512 * z.treelings
    tag_below e t k m n o a =
        either (get z s (owner t)) (suc d)
        (λ is. b.tag_range t k m n (f.same_treeling t 0 m (omega arith) ∙ is))
        (λ apart. subst (λ (w : ℕ). tag_of w < 512 * z.treelings) (sym (f.same_entry t k m n apart)) (h.tag_range e t k m n (owner_back t e m o) (live_back e (owner_below t e m o) a)))

    module _ (t k : ℕ) (m : t < z.treelings) (n : k < 512) where
      tags_own_lem : (e : ℕ) → get z r (owner t) ≡ suc e → Ordinary z r e → get z r (owner (tag_of (get z r (entry t k)) / 512)) ≡ suc e
      tags_own_lem e =
          at_or_other (λ c. get z r (owner t) ≡ suc c → Ordinary z r c → get z r (owner (tag_of (get z r (entry t k)) / 512)) ≡ suc c) d e
          (λ o _. b.tag_own t k m n o)
          (λ apart o a.
          let a_s = live_back e (owner_below t e m o) a in
          let o_s = owner_back t e m o in
          let g = tag_of (get z s (entry t k)) / 512 in
          ap (λ (w : ℕ). get z r (owner (tag_of w / 512))) (other_entry t k e m n o_s apart)
          ∙ f.same_treeling g 0 (omega (arith, h.tag_range e t k m n o_s a_s)) (omega arith)
          ∙ h.tag_own e t k m n o_s a_s)

      spent-before : (e : ℕ) → get z r (owner t) ≡ suc e → Ordinary z r e → block_in_order z r t (k / 8) < head_in_order z r e → availability_of (get z r (entry t k)) ≡ 0
      spent-before e =
          at_or_other (λ c. get z r (owner t) ≡ suc c → Ordinary z r c → block_in_order z r t (k / 8) < head_in_order z r c → availability_of (get z r (entry t k)) ≡ 0) d e
          (λ o _. b.before_head_lem t k m n o)
          (λ apart o a before.
          let o_s = owner_back t e m o in
          ap availability_of (other_entry t k e m n o_s apart)
          ∙ h.before_head_lem e t k m n o_s (live_back e (owner_below t e m o) a) (omega (arith, before, other_head e (omega (arith, h.owner_range t m)) apart, f.same_treeling t 3 m (omega arith))))

      some_after : (e : ℕ) → get z r (owner t) ≡ suc e → Ordinary z r e → head_in_order z r e < block_in_order z r t (k / 8) → 0 < availability_of (get z r (entry t k))
      some_after e =
          at_or_other (λ c. get z r (owner t) ≡ suc c → Ordinary z r c → head_in_order z r c < block_in_order z r t (k / 8) → 0 < availability_of (get z r (entry t k))) d e
          (λ o _. b.after_head_lem t k m n o)
          (λ apart o a after.
          let o_s = owner_back t e m o in
          subst (λ (w : ℕ). 0 < availability_of w) (sym (other_entry t k e m n o_s apart))
          (h.after_head_lem e t k m n o_s (live_back e (owner_below t e m o) a) (omega (arith, after, other_head e (omega (arith, h.owner_range t m)) apart, f.same_treeling t 3 m (omega arith)))))

-- A live domain with TreeLings.
pub framed_sound : (z : Sizes) (s r : List ℕ) (d u : ℕ) → Sound z s → d < z.domains → get z s (first d) ≡ suc u → Framed z s r d → Bodied z r d → Sound z r
framed_sound z s r d u h l some f b =
    record {
      laid_out =
          laid_kept z s r f.long (λ i m _. f.same_content i m) (omega (arith, f.same_content 3 (omega arith), h.laid_out.hand_range)) h.laid_out;
      live_range = λ e m. omega (arith, kept e 0 m (omega arith), h.live_range e m);
      first_range = λ e m. omega (arith, kept e 1 m (omega arith), h.first_range e m);
      last_range = λ e m. omega (arith, kept e 2 m (omega arith), h.last_range e m);
      head_range = λ e m.
          at_or_other (λ c. get z r (head_treeling c) ≤ z.treelings) d e
          (omega (arith, b.head_is, b.head_below))
          (λ apart. omega (arith, other e 3 m (omega arith) apart, h.head_range e m));
      block_range = λ e m.
          at_or_other (λ c. get z r (head_block c) ≤ 63) d e b.block_range (λ apart. omega (arith, other e 4 m (omega arith) apart, h.block_range e m));
      owner_range = λ t m. omega (arith, tree t 0 m (omega arith), h.owner_range t m);
      previous_range = λ t m. omega (arith, tree t 1 m (omega arith), h.previous_range t m);
      next_range = λ t m. omega (arith, tree t 2 m (omega arith), h.next_range t m);
      former_range = λ t m. omega (arith, tree t 4 m (omega arith), h.former_range t m);
      tag_range = tag_below z s r d h f b;
      leaf_range = b.leaf_range;
      dead_zero = λ e j m n dead.
          at_or_other (λ c. get z s (live c) ≡ 0 → get z r (domain c j) ≡ 0) d e
          (λ not. absurd (omega (arith, some, h.dead_zero d 1 l (omega arith) not)))
          (λ apart not. other e j m n apart ∙ h.dead_zero e j m n not)
          (sym (kept e 0 m (omega arith)) ∙ dead);
      unowned_zero = λ t j m n o. tree t j m (omega arith) ∙ h.unowned_zero t j m n (sym (tree t 0 m (omega arith)) ∙ o);
      unowned_entry = λ t k m n o.
          let o_s : get z s (owner t) ≡ 0 = sym (tree t 0 m (omega arith)) ∙ o in
          f.same_entry t k m n (λ is. omega arith) ∙ h.unowned_entry t k m n o_s;
      former-owner = λ e t m o.
          tree t 4 m (omega arith) ∙ h.former-owner e t m (owner_back z s r d h f t e m o);
      at_first = λ e v m is.
          let is_s : get z s (first e) ≡ suc v = sym (kept e 1 m (omega arith)) ∙ is in
          linked z s r d h f e v 0 0 (omega (arith, is_s, h.first_range e m)) (h.at_first e v m is_s);
      at_next = λ e t v m n o is.
          let is_s : get z s (next t) ≡ suc v = sym (tree t 2 n (omega arith)) ∙ is in
          linked z s r d h f e v (suc t) (suc (get z r (rank t))) (omega (arith, is_s, h.next_range t n))
          (subst (λ (x : ℕ). Linked z s e v (suc t) (suc x)) (sym (tree t 3 n (omega arith))) (h.at_next e t v m n (owner_back z s r d h f t e n o) is_s));
      at_last = λ e t m n o is.
          kept e 2 m (omega arith) ∙ h.at_last e t m n (owner_back z s r d h f t e n o) (sym (tree t 2 n (omega arith)) ∙ is);
      followed = λ e t m n o. followed_same z s r d h f e t m n (owner_back z s r d h f t e n o);
      empty_zero = λ e j m n is.
          at_or_other (λ c. get z s (first c) ≡ 0 → get z r (domain c (suc j)) ≡ 0) d e
          (λ none. absurd (omega (arith, some, none)))
          (λ apart none. other e (suc j) m (omega arith) apart ∙ h.empty_zero e j m n none)
          (sym (kept e 1 m (omega arith)) ∙ is);
      head_own = λ e v m a is.
          at_or_other (λ c. (k : ℕ) × (get z r (head_treeling c) ≡ suc k) × (get z r (owner k) ≡ suc c)) d e
          (b.head, b.head_is, b.head_own)
          (λ apart.
          let w = h.head_own e v m (sym (kept e 0 m (omega arith)) ∙ a) (sym (kept e 1 m (omega arith)) ∙ is) in
          (w.0, other e 3 m (omega arith) apart ∙ w.1, tree w.0 0 (omega (arith, w.1, h.head_range e m)) (omega arith) ∙ w.2));
      tag_own = λ e t k m n. tags_own_lem z s r d h f b t k m n e;
      before_head_lem = λ e t k m n. spent-before z s r d h f b t k m n e;
      after_head_lem = λ e t k m n. some_after z s r d h f b t k m n e;
      slot_once = b.slot_once;
      hole_zero = b.hole_zero;
      pages_true_lem = b.pages_true_lem;
    }
  where
    kept : (e j : ℕ) → e < z.domains → j < 3 → get z r (domain e j) ≡ get z s (domain e j)
    kept = up_to_last z s r d h f

    other : (e j : ℕ) → e < z.domains → j < 6 → (e ≡ d → ⊥) → get z r (domain e j) ≡ get z s (domain e j)
    other = of_other z s r d h f

    tree : (t j : ℕ) → t < z.treelings → j < 5 → get z r (treeling t j) ≡ get z s (treeling t j)
    tree = f.same_treeling
