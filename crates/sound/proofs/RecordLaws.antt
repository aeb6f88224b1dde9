-- What the passes over entries and leaves go by: the records of a sound state, and the head of a domain.
-- Assumes nothing.
use Prim.Native.Nat.{ℕ, suc, ◌<◌, ◌≤◌}
use mathlib.Core.Path.{◌≡◌}
use mathlib.Core.List.{List}
use mathlib.Core.Bool.{true}
use native.Mathlib.Omega.{arith}
use lib.Dec.{eqb}
use Rattle.layout.specs.declared.Sizes.{Sizes}
use Rattle.layout.specs.Places.{get, treeling, owner, head_treeling, head_block}
use Rattle.layout.specs.Bounded.{all}
use Rattle.sound.specs.Sentences.{domain_in_range, treeling_in_range, is_owned, is_ordinary}
use Rattle.sound.specs.Sound.{Sound, Live, Ordinary}
use Rattle.sound.specs.CodeChained.{is_followed, Records, domain_chained, treeling_chained}
use Rattle.layout.proofs.BoundedLaws.{all_at, all_of, and_of}
use Rattle.sound.proofs.TestLaws.{and_left, and_right, or_of, same_test, owned, an_owner, live_ordinary, ordinary_test, an_ordinary}
use Rattle.sound.proofs.RangeLaws.{DomainRanges, domain_ranges, TreelingRanges, treeling_ranges, sound_domain_range, sound_treeling_range}
use Rattle.sound.proofs.ZeroLaws.{first_live, sound_dead, sound_record, sound_empty}
use Rattle.sound.proofs.ChainLaws.{has_first, sound_follows, sound_followed}
use Rattle.sound.proofs.OwnLaws.{head_owner, sound_former, sound_head}

-- ---- from a sound state to the passes
module _ (z : Sizes) (s : List ℕ) (h : Sound z s) where
  -- The records, each by one test, and all together.
  pub sound_domain_chained : (d : ℕ) → d < z.domains → domain_chained z s d ≡ true
  sound_domain_chained d l =
      and_of (and_of (and_of (sound_dead z s h d l) (sound_follows z s h d l)) (sound_empty z s h d l)) (sound_head z s h d l)

  pub sound_treeling_chained : (t : ℕ) → t < z.treelings → treeling_chained z s t ≡ true
  sound_treeling_chained t l =
      and_of
      (and_of
      (or_of (is_owned z s t) (all 4 (λ j. eqb (get z s (treeling t j)) 0)) (sound_record z s h t l))
      (sound_former z s h t l))
      (sound_followed z s h t l)

  pub sound_records : Records z s
  sound_records =
      record {
        domains_range = all_of z.domains (domain_in_range z s) (sound_domain_range z s h);
        treelings_range = all_of z.treelings (treeling_in_range z s) (sound_treeling_range z s h);
        domains-chained = all_of z.domains (domain_chained z s) sound_domain_chained;
        treelings_chained = all_of z.treelings (treeling_chained z s) sound_treeling_chained;
      }

-- ---- what the passes over entries read of the records
-- The head of domain d: block head_block of TreeLing h, which is its own.
pub record Head (z : Sizes) (s : List ℕ) (d h : ℕ) : Type 0 where
  pub domain_below : d < z.domains
  pub head_is : get z s (head_treeling d) ≡ suc h
  pub head_below : h < z.treelings
  pub head_owner : get z s (owner h) ≡ suc d
  pub block_range : get z s (head_block d) ≤ 63

module _ (z : Sizes) (s : List ℕ) (r : Records z s) where
  -- The ranges, and following, of each record.
  pub records_domain : (d : ℕ) → d < z.domains → DomainRanges z s d
  records_domain d l = domain_ranges z s d (all_at z.domains (domain_in_range z s) r.domains_range d l)

  pub records_treeling : (t : ℕ) → t < z.treelings → TreelingRanges z s t
  records_treeling t l = treeling_ranges z s t (all_at z.treelings (treeling_in_range z s) r.treelings_range t l)

  pub records_followed : (t : ℕ) → t < z.treelings → is_followed z s t ≡ true
  records_followed t l =
      let h = all_at z.treelings (treeling_chained z s) r.treelings_chained t l in
      search (and_left, and_right)

  -- The owner of a TreeLing is live, and so ordinary;
  pub records_live : (d t : ℕ) → t < z.treelings → get z s (owner t) ≡ suc d → Live z s d
  records_live d t l own =
      let below : d < z.domains = omega (arith, (records_treeling t l).owner_range) in
      let u = has_first z s records_followed (λ v m. (records_treeling v m).previous_range) d t l own in
      let chained = all_at z.domains (domain_chained z s) r.domains-chained d below in
      first_live z s d (search (and_left, and_right)) (λ none. omega arith)

  pub records_ordinary : (d t : ℕ) → t < z.treelings → get z s (owner t) ≡ suc d → Ordinary z s d
  records_ordinary d t l own = live_ordinary z s d (records_live d t l own)

  -- so an owned TreeLing is of an ordinary domain.
  pub records_kind : (t : ℕ) → t < z.treelings → is_ordinary z s t ≡ is_owned z s t
  records_kind t l =
      same_test (is_ordinary z s t) (is_owned z s t)
      (λ e. let d = an_ordinary z s t e in owned z s t d.0 d.1)
      (λ e. let d = an_owner z s t e in ordinary_test z s t d.0 d.1 (records_ordinary d.0 t l d.1))

  -- The owner of a TreeLing has a head block in a TreeLing of its own.
  pub records_head : (d t : ℕ) → t < z.treelings → get z s (owner t) ≡ suc d → Ordinary z s d → (h : ℕ) × Head z s d h
  records_head d t l own ordinary =
      let below : d < z.domains = omega (arith, (records_treeling t l).owner_range) in
      let u = has_first z s records_followed (λ v m. (records_treeling v m).previous_range) d t l own in
      let chained = all_at z.domains (domain_chained z s) r.domains-chained d below in
      let w = head_owner z s d u.0 (search (and_left, and_right)) ordinary u.1 in
      let ranges = records_domain d below in (
        w.0,
        record {
          domain_below = below;
          head_is = w.1;
          head_below = omega arith;
          head_owner = w.2;
          block_range = ranges.block_range;
        },
      )

-- The owner of a TreeLing of a sound state is live, and so ordinary; an owned TreeLing is of an ordinary domain.
module _ (z : Sizes) (s : List ℕ) (h : Sound z s) where
  pub sound_live : (d t : ℕ) → t < z.treelings → get z s (owner t) ≡ suc d → Live z s d
  sound_live = records_live z s (sound_records z s h)

  pub sound_ordinary : (d t : ℕ) → t < z.treelings → get z s (owner t) ≡ suc d → Ordinary z s d
  sound_ordinary = records_ordinary z s (sound_records z s h)

  pub sound_kind : (t : ℕ) → t < z.treelings → is_ordinary z s t ≡ is_owned z s t
  sound_kind = records_kind z s (sound_records z s h)
