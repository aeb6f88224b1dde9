-- After a trim: who owns what, the chains, the records of domains without TreeLings, and the pages.
-- Assumes nothing.
use Prim.Native.Nat.{ℕ, zero, suc, ◌<◌, ◌≤◌}
use mathlib.Core.Path.{◌≡◌, refl, sym, ap, subst, ◌∙◌}
use mathlib.Core.List.{List}
use mathlib.Core.Bool.{Bool, true, false, cond, ◌&&◌, false≢true}
use mathlib.Core.Logic.{◌⊎◌, ⊎_elim, inl, inr}
use native.Mathlib.Omega.{arith}
use borrow.Author.Tests.{eq-eqb, ne_eqb, lt-ltb, le-ltb}
use lib.Dec.{eqb, ltb}
use Rattle.std.proofs.lemmas.Bool.{cases_lt}
use Rattle.layout.specs.declared.Sizes.{Sizes}
use Rattle.leaf_map.specs.LeafIds.{treeling_of}
use Rattle.layout.specs.Places.{get, domain, treeling, entry, leaf, live, first, last, owner, previous, next, rank}
use Rattle.layout.specs.Bounded.{count}
use Rattle.leaf_map.proofs.LeafIdLaws.{treeling_below}
use Rattle.layout.proofs.BoundedLaws.{and_of, is_false, count_no, count_some}
use Rattle.sound.specs.Sentences.{is_mapped_by, true_number}
use Rattle.sound.specs.Sound.{Sound, Linked, Follows}
use Rattle.sound.proofs.MappedLaws.{mapped_by, unmapped_by}
use Rattle.world.proofs.FrameLaws.{either, at_or_other}
use Rattle.world.proofs.WorldLaws.{first_none}
use Rattle.returning.specs.Returning.{lies_in, is_empty, number_kept, kept_of, kept_link, kept_before}
use Rattle.returning.proofs.OthersLaws.{OthersStay, dead_other, empty_other, first_other, next_other, last_other, followed_other}
use Rattle.returning.proofs.TrimFacts.{Kept, Trimmed}

-- The TreeLing of a mapped page is not empty.
pub page_lies : (z : Sizes) (s : List ℕ) (f : ℕ) → f < z.frames → 0 < get z s (leaf f) → is_empty z s (treeling_of (get z s (leaf f))) ≡ false
unfolding is_empty
page_lies z s f m some =
    let t = treeling_of (get z s (leaf f)) in
    let lies : lies_in z s t f ≡ true = and_of (lt-ltb 0 (get z s (leaf f)) some) (eq-eqb t t refl) in
    ne_eqb (count z.frames (lies_in z s t)) 0 (λ none. omega (arith, count_some z.frames (lies_in z s t) f m lies))

-- ---- Links
module _ (z : Sizes) (s : List ℕ) (d : ℕ) where
  -- A link below the number of those that stay, and past them.
  link_some : (q : ℕ) → q < number_kept z s d → kept_link z s d q ≡ suc (kept_of z s d q)
  unfolding kept_link
  link_some q m = ap (λ (b : Bool). cond b (suc (kept_of z s d q)) 0) (lt-ltb q (number_kept z s d) m)

  link_none : (q : ℕ) → number_kept z s d ≤ q → kept_link z s d q ≡ 0
  unfolding kept_link
  link_none q m = ap (λ (b : Bool). cond b (suc (kept_of z s d q)) 0) (le-ltb q (number_kept z s d) m)

  -- What a link says.
  link_names : (q u : ℕ) → kept_link z s d q ≡ suc u → (q < number_kept z s d) × (kept_of z s d q ≡ u)
  link_names q u is =
      ⊎_elim
      (λ m. (m, omega (arith, link_some q m)))
      (λ m. absurd (omega (arith, link_none q m)))
      (cases_lt q (number_kept z s d))

  link_ends : (q : ℕ) → kept_link z s d q ≡ 0 → number_kept z s d ≤ q
  link_ends q is =
      ⊎_elim (λ m. absurd (omega (arith, link_some q m))) (λ m. m) (cases_lt q (number_kept z s d))

  -- The links before.
  before-first : kept_before z s d 0 ≡ 0
  unfolding kept_before
  before-first = refl

  before-next : (q : ℕ) → q < number_kept z s d → kept_before z s d (suc q) ≡ suc (kept_of z s d q)
  unfolding kept_before
  before-next q m = link_some q m

  -- All are in range.
  module _ (k : Kept z s d) where
    link_most : (q : ℕ) → kept_link z s d q ≤ z.treelings
    link_most q =
        ⊎_elim
        (λ m. omega (arith, link_some q m, k.below q m))
        (λ m. omega (arith, link_none q m))
        (cases_lt q (number_kept z s d))

    before_most : (q : ℕ) → kept_before z s d q ≤ z.treelings
    unfolding kept_before
    before_most zero = omega arith
    before_most (suc q) = link_most q

module _ (z : Sizes) (s r : List ℕ) (d : ℕ) (h : Sound z s) (l : d < z.domains) (k : Kept z s d) (c : Trimmed z s r d) where
  abbrev number : ℕ
  number = number_kept z s d

  abbrev kept : ℕ → ℕ
  kept q = kept_of z s d q

  -- ---- Who owns what
  -- TreeLing t is not the domain's, or it goes, or it stays.
  pub sorts : {P : Type 0} (t : ℕ) → t < z.treelings → ((get z s (owner t) ≡ suc d → ⊥) → P) → (get z s (owner t) ≡ suc d → is_empty z s t ≡ true → P) → ((q : ℕ) → q < number → kept q ≡ t → P) → P
  sorts {P} t m other gone stay = either (get z s (owner t)) (suc d) (λ o. go o (is_empty z s t) refl) other
    where
      go : get z s (owner t) ≡ suc d → (b : Bool) → is_empty z s t ≡ b → P
      go o true e = gone o e
      go o false e =
          let a = k.found t m o e in
          stay a.0 a.1 a.2

  -- A TreeLing that is e's now was e's.
  pub was_owned : (t e : ℕ) → t < z.treelings → get z r (owner t) ≡ suc e → get z s (owner t) ≡ suc e
  was_owned t e m o =
      sorts t m
      (λ apart. sym (c.same_treeling t 0 m (omega arith) apart) ∙ o)
      (λ own empty. absurd (omega (arith, c.gone_zero t 0 m (omega arith) own empty)))
      (λ q lq is. omega (arith, c.kept_owner q lq, ap (λ (x : ℕ). get z r (owner x)) is, k.own q lq, ap (λ (x : ℕ). get z s (owner x)) is))

  -- The domain's own are those that stay: what holds of each of these holds of each of its own.
  own_now : (t : ℕ) → t < z.treelings → get z r (owner t) ≡ suc d → (q : ℕ) × (q < number) × (kept q ≡ t)
  own_now t m o =
      sorts t m
      (λ apart. absurd (apart (was_owned t d m o)))
      (λ own empty. absurd (omega (arith, c.gone_zero t 0 m (omega arith) own empty)))
      (λ q lq is. (q, lq, is))

  pub own_each : (P : ℕ → Type 0) → ((q : ℕ) → q < number → P (kept q)) → (t : ℕ) → t < z.treelings → get z r (owner t) ≡ suc d → P t
  own_each P stay t m o =
      let a = own_now t m o in
      subst P a.2 (stay a.0 a.1)

  -- The other domains' words stay.
  pub others : OthersStay z s r d
  others =
      record { same_domain = c.same_domain; same_treeling = c.same_treeling; same_entry = c.same_entry; was_owned = was_owned }

  -- ---- Ranges
  -- A bound of a domain's word, and of a TreeLing's.
  pub domain_most : (j n : ℕ) → j < 6 → ((e : ℕ) → e < z.domains → get z s (domain e j) ≤ n) → get z r (domain d j) ≤ n → (e : ℕ) → e < z.domains → get z r (domain e j) ≤ n
  domain_most j n lj most own e m =
      at_or_other (λ x. get z r (domain x j) ≤ n) d e own (λ apart. omega (arith, c.same_domain e j m lj apart, most e m))

  treeling_most : (j n : ℕ) → j < 4 → ((t : ℕ) → t < z.treelings → get z s (treeling t j) ≤ n) → ((q : ℕ) → q < number → get z r (treeling (kept q) j) ≤ n) → (t : ℕ) → t < z.treelings → get z r (treeling t j) ≤ n
  treeling_most j n lj most stay t m =
      sorts t m
      (λ apart. omega (arith, c.same_treeling t j m (omega arith) apart, most t m))
      (λ own empty. omega (arith, c.gone_zero t j m lj own empty))
      (λ q lq is. subst (λ (x : ℕ). get z r (treeling x j) ≤ n) is (stay q lq))

  pub owner_most : (t : ℕ) → t < z.treelings → get z r (owner t) ≤ z.domains
  owner_most = treeling_most 0 z.domains (omega arith) h.owner_range (λ q lq. omega (arith, c.kept_owner q lq))

  pub previous_most : (t : ℕ) → t < z.treelings → get z r (previous t) ≤ z.treelings
  previous_most =
      treeling_most 1 z.treelings (omega arith) h.previous_range (λ q lq. omega (arith, c.kept_previous q lq, before_most z s d k q))

  pub next_most : (t : ℕ) → t < z.treelings → get z r (next t) ≤ z.treelings
  next_most =
      treeling_most 2 z.treelings (omega arith) h.next_range (λ q lq. omega (arith, c.kept_next q lq, link_most z s d k (suc q)))

  pub first_most : (e : ℕ) → e < z.domains → get z r (first e) ≤ z.treelings
  first_most = domain_most 1 z.treelings (omega arith) h.first_range (omega (arith, c.first_is, link_most z s d k 0))

  pub last_most : (e : ℕ) → e < z.domains → get z r (last e) ≤ z.treelings
  last_most = domain_most 2 z.treelings (omega arith) h.last_range (omega (arith, c.last_is, before_most z s d k number))

  -- A TreeLing without an owner is zero.
  pub unowned_record : (t j : ℕ) → t < z.treelings → j < 4 → get z r (owner t) ≡ 0 → get z r (treeling t j) ≡ 0
  unowned_record t j m n none =
      sorts t m
      (λ apart. c.same_treeling t j m (omega arith) apart ∙ h.unowned_zero t j m n (sym (c.same_treeling t 0 m (omega arith) apart) ∙ none))
      (c.gone_zero t j m n)
      (λ q lq is. absurd (omega (arith, c.kept_owner q lq, ap (λ (x : ℕ). get z r (owner x)) is)))

  pub unowned-words : (t i : ℕ) → t < z.treelings → i < 512 → get z r (owner t) ≡ 0 → get z r (entry t i) ≡ 0
  unowned-words t i m n none =
      sorts t m
      (λ apart. c.same_entry t i m n apart ∙ h.unowned_entry t i m n (sym (c.same_treeling t 0 m (omega arith) apart) ∙ none))
      (c.gone_entry t i m n)
      (λ q lq is. absurd (omega (arith, c.kept_owner q lq, ap (λ (x : ℕ). get z r (owner x)) is)))

  -- ---- The chains
  -- Where the domain has a first, some stay.
  pub some_stay : (u : ℕ) → get z r (first d) ≡ suc u → 0 < number
  some_stay u some = (link_names z s d 0 u (sym c.first_is ∙ some)).0

  -- The first of a domain, the next of a TreeLing, and the last.
  pub first_linked : (e u : ℕ) → e < z.domains → get z r (first e) ≡ suc u → Linked z r e u 0 0
  first_linked e u m =
      at_or_other (λ x. get z r (first x) ≡ suc u → Linked z r x u 0 0) d e
      (λ some.
      let a = link_names z s d 0 u (sym c.first_is ∙ some) in
      subst (λ (x : ℕ). Linked z r d x 0 0) a.1
      (record { owner_is = c.kept_owner 0 a.0; previous_is = c.kept_previous 0 a.0 ∙ before-first z s d; rank_is = c.kept_rank 0 a.0 }))
      (λ apart. first_other z s r d h others e m apart u)

  pub next_linked : (e t u : ℕ) → e < z.domains → t < z.treelings → get z r (owner t) ≡ suc e → get z r (next t) ≡ suc u → Linked z r e u (suc t) (suc (get z r (rank t)))
  next_linked e t u m n =
      at_or_other (λ x. get z r (owner t) ≡ suc x → get z r (next t) ≡ suc u → Linked z r x u (suc t) (suc (get z r (rank t)))) d e
      (own_each (λ x. get z r (next x) ≡ suc u → Linked z r d u (suc x) (suc (get z r (rank x))))
      (λ q lq is.
      let a = link_names z s d (suc q) u (sym (c.kept_next q lq) ∙ is) in
      subst (λ (x : ℕ). Linked z r d x (suc (kept q)) (suc (get z r (rank (kept q))))) a.1
      (record {
        owner_is = c.kept_owner (suc q) a.0;
        previous_is = c.kept_previous (suc q) a.0 ∙ before-next z s d q lq;
        rank_is = c.kept_rank (suc q) a.0 ∙ ap suc (sym (c.kept_rank q lq));
      }))
      t n)
      (λ apart o. next_other z s r d h others e m apart t n o u)

  pub last_linked : (e t : ℕ) → e < z.domains → t < z.treelings → get z r (owner t) ≡ suc e → get z r (next t) ≡ 0 → get z r (last e) ≡ suc t
  last_linked e t m n =
      at_or_other (λ x. get z r (owner t) ≡ suc x → get z r (next t) ≡ 0 → get z r (last x) ≡ suc t) d e
      (own_each (λ x. get z r (next x) ≡ 0 → get z r (last d) ≡ suc x)
      (λ q lq none.
      let all : number ≡ suc q = omega (arith, link_ends z s d (suc q) (sym (c.kept_next q lq) ∙ none)) in
      c.last_is ∙ ap (kept_before z s d) all ∙ before-next z s d q lq)
      t n)
      (λ apart. last_other z s r d h others e m apart t n)

  -- Each TreeLing is its owner's first or follows another.
  abbrev Followed : ℕ → ℕ → Type 0
  Followed e t = (get z r (first e) ≡ suc t) ⊎ ((p : ℕ) × (get z r (previous t) ≡ suc p) × Follows z r e t p)

  kept_followed : (q : ℕ) → q < number → Followed d (kept q)
  kept_followed zero lq = inl (c.first_is ∙ link_some z s d 0 lq)
  kept_followed (suc p) lq =
      let lp : p < number = omega arith in
      inr (
        kept p,
        c.kept_previous (suc p) lq ∙ before-next z s d p lp,
        record {
          owner_is = c.kept_owner p lp;
          next_is = c.kept_next p lp ∙ link_some z s d (suc p) lq;
          rank_is = ap suc (c.kept_rank p lp) ∙ sym (c.kept_rank (suc p) lq);
        },
      )

  pub each_followed : (e t : ℕ) → e < z.domains → t < z.treelings → get z r (owner t) ≡ suc e → Followed e t
  each_followed e t m n =
      at_or_other (λ x. get z r (owner t) ≡ suc x → Followed x t) d e
      (own_each (Followed d) kept_followed t n)
      (λ apart. followed_other z s r d h others e m apart t n)

  -- ---- Pages
  page_treeling : (f : ℕ) → f < z.frames → treeling_of (get z s (leaf f)) < z.treelings
  page_treeling f m = treeling_below z.treelings (get z s (leaf f)) h.laid_out.laid.sizes.some_treelings (h.leaf_range f m)

  -- The TreeLing of a mapped page has its owner still,
  page_owner : (f : ℕ) → f < z.frames → 0 < get z s (leaf f) → get z r (owner (treeling_of (get z s (leaf f)))) ≡ get z s (owner (treeling_of (get z s (leaf f))))
  page_owner f m some =
      let t = treeling_of (get z s (leaf f)) in
      sorts t (page_treeling f m)
      (c.same_treeling t 0 (page_treeling f m) (omega arith))
      (λ own empty. absurd (false≢true (sym (page_lies z s f m some) ∙ empty)))
      (λ q lq is. subst (λ (x : ℕ). get z r (owner x) ≡ get z s (owner x)) is (c.kept_owner q lq ∙ sym (k.own q lq)))

  -- so each domain has the same pages mapped.
  pub same_mapped : (e f : ℕ) → f < z.frames → is_mapped_by z r e f ≡ is_mapped_by z s e f
  same_mapped e f m =
      either (get z s (leaf f)) 0
      (λ none. unmapped_by z r e f (c.same_leaf f m ∙ none) ∙ sym (unmapped_by z s e f none))
      (λ some.
      ap (λ (x : ℕ). ltb 0 x && eqb (get z r (owner (treeling_of x))) (suc e)) (c.same_leaf f m)
      ∙ ap (λ (o : ℕ). ltb 0 (get z s (leaf f)) && eqb o (suc e)) (page_owner f m (omega arith)))

  -- ---- Domains without TreeLings
  -- A domain that keeps no TreeLing has no page mapped,
  no_pages : number ≡ 0 → true_number z s d ≡ 0
  unfolding true_number
  no_pages none =
      count_no z.frames (is_mapped_by z s d) λ f m.
      is_false (is_mapped_by z s d f) λ mapped.
      let a = mapped_by z s d f mapped in
      let b = k.found (treeling_of (get z s (leaf f))) (page_treeling f m) a.own (page_lies z s f m a.some) in
      omega (arith, b.1)

  -- and zeros after live.
  zeros-after : number ≡ 0 → (j : ℕ) → j < 5 → get z r (domain d (suc j)) ≡ 0
  zeros-after none zero m = c.first_is ∙ link_none z s d 0 (omega arith)
  zeros-after none (suc zero) m = c.last_is ∙ ap (kept_before z s d) none ∙ before-first z s d
  zeros-after none (suc (suc zero)) m = (c.head_none none).0
  zeros-after none (suc (suc (suc zero))) m = (c.head_none none).1
  zeros-after none (suc (suc (suc (suc zero)))) m = c.same_pages ∙ h.pages_true_lem d l ∙ no_pages none
  zeros-after none (suc (suc (suc (suc (suc j))))) m = absurd (omega arith)

  pub empty_record : (e j : ℕ) → e < z.domains → j < 5 → get z r (first e) ≡ 0 → get z r (domain e (suc j)) ≡ 0
  empty_record e j m n =
      at_or_other (λ x. get z r (first x) ≡ 0 → get z r (domain x (suc j)) ≡ 0) d e
      (λ none. zeros-after (omega (arith, link_ends z s d 0 (sym c.first_is ∙ none))) j n)
      (λ apart. empty_other z s r d h others e m apart j n)

  -- A dead domain has none.
  own_dead : get z r (live d) ≡ 0 → (j : ℕ) → j < 6 → get z r (domain d j) ≡ 0
  own_dead dead zero n = dead
  own_dead dead (suc j) n =
      let was : get z s (live d) ≡ 0 = sym c.same_live ∙ dead in
      zeros-after (omega (arith, k.all, first_none z s h d l (h.dead_zero d 1 l (omega arith) was))) j (omega arith)

  pub dead_record : (e j : ℕ) → e < z.domains → j < 6 → get z r (live e) ≡ 0 → get z r (domain e j) ≡ 0
  dead_record e j m n =
      at_or_other (λ x. get z r (live x) ≡ 0 → get z r (domain x j) ≡ 0) d e
      (λ dead. own_dead dead j n)
      (λ apart. dead_other z s r d h others e m apart j n)
