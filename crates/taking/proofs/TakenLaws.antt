-- What every word is after a domain has taken a TreeLing.
-- Assumes nothing.
use Prim.Native.Nat.{ℕ, zero, suc, ◌+◌, ◌-◌, ◌*◌, ◌%◌, ◌<◌, ◌≤◌}
use mathlib.Core.Path.{◌≡◌, refl, sym, ap, ◌∙◌}
use mathlib.Core.List.{List, [], ◌∷◌, ◌++◌}
use mathlib.Core.Bool.{Bool, cond}
use mathlib.Core.Logic.{⊎_elim}
use native.Mathlib.Nat.{eq-or-lt_of_le, le_of_suc-le-suc, not-suc-le-zero}
use native.Mathlib.Omega.{arith}
use borrow.Author.Tests.{eq-eqb, ne_eqb}
use lib.ListN.{length, get_or, take, drop, length-set}
use lib.Seq.{get_or-set_same, get_or-set_other}
use Rattle.layout.specs.declared.Sizes.{Sizes}
use Rattle.geometry.specs.Entries.{entry_word}
use Rattle.layout.specs.Places.{Laid, address, get, content, hand, domain, treeling, entry, leaf, first, last, owner, previous, next, rank, former}
use Rattle.world.specs.World.{owned}
use Rattle.taking.specs.Taking.{fresh_entries, link_to, taking}
use Rattle.world.proofs.WriteLaws.{Write, write, written, Apart, written_length, read_apart, read_written}

-- Words r after domain d has taken TreeLing t in words s.
pub record Taken (z : Sizes) (s r : List ℕ) (d t : ℕ) : Type 0 where
  pub long : length r ≡ length s
  -- The hand; the record of t; last, and the link to t, at first or at the next of the last one.
  pub hand_is : get z r hand ≡ suc t % z.treelings
  pub owner_is : get z r (owner t) ≡ suc d
  pub previous_is : get z r (previous t) ≡ get z s (last d)
  pub rank_is : get z r (rank t) ≡ owned z s d
  pub former_is : get z r (former t) ≡ suc d
  pub last_is : get z r (last d) ≡ suc t
  pub first_is : get z s (last d) ≡ 0 → get z r (first d) ≡ suc t
  pub link_is : (v : ℕ) → get z s (last d) ≡ suc v → get z r (next v) ≡ suc t
  -- The entries of t.
  pub fresh : (k : ℕ) → k < 512 → get z r (entry t k) ≡ entry_word (512 * t + k) 255
  -- Everything else is as before.
  pub same_content : (i : ℕ) → i < 25 → (i ≡ 3 → ⊥) → get z r (content i) ≡ get z s (content i)
  pub same_domain : (e j : ℕ) → e < z.domains → j < 6 → (e ≡ d → ⊥) → get z r (domain e j) ≡ get z s (domain e j)
  pub same_own : (j : ℕ) → j < 6 → (j ≡ 1 → ⊥) → (j ≡ 2 → ⊥) → get z r (domain d j) ≡ get z s (domain d j)
  pub same_first : (v : ℕ) → get z s (last d) ≡ suc v → get z r (first d) ≡ get z s (first d)
  pub same_treeling : (u j : ℕ) → u < z.treelings → j < 5 → (u ≡ t → ⊥) → (j ≡ 2 → ⊥) → get z r (treeling u j) ≡ get z s (treeling u j)
  pub same_next : (u : ℕ) → u < z.treelings → (get z s (last d) ≡ suc u → ⊥) → get z r (next u) ≡ get z s (next u)
  pub same_entry : (u k : ℕ) → u < z.treelings → k < 512 → (u ≡ t → ⊥) → get z r (entry u k) ≡ get z s (entry u k)
  pub same_leaf : (f : ℕ) → get z r (leaf f) ≡ get z s (leaf f)

-- ---- The fresh entries
module _ (z : Sizes) (s : List ℕ) (t : ℕ) where
  pub fresh_length : (n : ℕ) → length (fresh_entries z s t n) ≡ length s
  unfolding fresh_entries
  fresh_length zero = refl
  fresh_length (suc n) =
      length-set (fresh_entries z s t n) (address z (entry t n)) (entry_word (512 * t + n) 255) ∙ fresh_length n

  -- An address outside the first n entries.
  pub fresh_apart : (n b : ℕ) → ((k : ℕ) → k < n → b ≡ address z (entry t k) → ⊥) → get_or (fresh_entries z s t n) b 0 ≡ get_or s b 0
  unfolding fresh_entries
  fresh_apart zero b h = refl
  fresh_apart (suc n) b h =
      get_or-set_other (fresh_entries z s t n) (address z (entry t n)) b (entry_word (512 * t + n) 255) 0 (h n (omega arith))
      ∙ fresh_apart n b (λ k l. h k (omega arith))

  -- One of them.
  pub fresh_in : (n k : ℕ) → address z (entry t n) ≤ length s → k < n → get z (fresh_entries z s t n) (entry t k) ≡ entry_word (512 * t + k) 255
  unfolding fresh_entries
  fresh_in zero k h l = absurd (not-suc-le-zero l)
  fresh_in (suc n) k h l =
      ⊎_elim
      (λ same.
      ap (λ (i : ℕ). get z (fresh_entries z s t (suc n)) (entry t i)) same
      ∙ get_or-set_same (fresh_entries z s t n) (address z (entry t n)) (entry_word (512 * t + n) 255) 0 (omega (arith, fresh_length n))
      ∙ ap (λ (i : ℕ). entry_word (512 * t + i) 255) (sym same))
      (λ below.
      get_or-set_other (fresh_entries z s t n) (address z (entry t n)) (address z (entry t k)) (entry_word (512 * t + n) 255) 0 (λ e. omega arith)
      ∙ fresh_in n k (omega arith) below)
      (eq-or-lt_of_le (le_of_suc-le-suc l))

-- ---- The record of t and the links
-- Where the link to t goes: to a place apart from all the others written.
record Link (z : Sizes) (s : List ℕ) (d a : ℕ) : Type 0 where
  low : address z (domain 0 0) ≤ a
  high : a < address z (entry 0 0)
  not_domain : (e j : ℕ) → e < z.domains → j < 6 → (e ≡ d → ⊥) → address z (domain e j) ≡ a → ⊥
  not_own : (j : ℕ) → j < 6 → (j ≡ 1 → ⊥) → address z (domain d j) ≡ a → ⊥
  not_treeling : (u j : ℕ) → u < z.treelings → j < 5 → (j ≡ 2 → ⊥) → address z (treeling u j) ≡ a → ⊥
  not_next : (u : ℕ) → u < z.treelings → (get z s (last d) ≡ suc u → ⊥) → address z (next u) ≡ a → ⊥

module _ (z : Sizes) (s : List ℕ) (d t : ℕ) (l : Laid z s) (hd : d < z.domains) (ht : t < z.treelings)
    (below : (v : ℕ) → get z s (last d) ≡ suc v → v < z.treelings) where
  -- At first, or at the next of the last one.
  link_first : get z s (last d) ≡ 0 → address z (link_to z s d) ≡ address z (first d)
  link_first e = ap (λ (b : Bool). address z (cond b (first d) (next (get z s (last d) - 1)))) (eq-eqb (get z s (last d)) 0 e)

  link_next : (v : ℕ) → get z s (last d) ≡ suc v → address z (link_to z s d) ≡ address z (next v)
  link_next v e =
      let named : get z s (last d) - 1 ≡ v = omega arith in
      ap (λ (b : Bool). address z (cond b (first d) (next (get z s (last d) - 1)))) (ne_eqb (get z s (last d)) 0 (λ none. omega arith))
      ∙ ap (λ (u : ℕ). address z (next u)) named

  link : Link z s d (address z (link_to z s d))
  link = by_last (get z s (last d)) refl
    where
      by_last : (x : ℕ) → get z s (last d) ≡ x → Link z s d (address z (link_to z s d))
      by_last zero e = omega (arith, link_first e)
      by_last (suc v) e = omega (arith, link_next v e, below v e)

  -- What is written before the entries.
  abbrev to_hand : Write
  to_hand = write (address z hand) (suc t % z.treelings)

  abbrev to_owner : Write
  to_owner = write (address z (owner t)) (suc d)

  abbrev to_previous : Write
  to_previous = write (address z (previous t)) (get z s (last d))

  abbrev to_rank : Write
  to_rank = write (address z (rank t)) (owned z s d)

  abbrev to_former : Write
  to_former = write (address z (former t)) (suc d)

  abbrev to_link : Write
  to_link = write (address z (link_to z s d)) (suc t)

  abbrev to_last : Write
  to_last = write (address z (last d)) (suc t)

  abbrev linking : List Write
  linking = to_last ∷ to_link ∷ to_former ∷ to_rank ∷ to_previous ∷ to_owner ∷ to_hand ∷ []

  after_linking : taking z s d t ≡ fresh_entries z (written s linking) t 512
  unfolding taking
  after_linking = refl

  -- A word before or after the entries of t.
  outside : (b : ℕ) → ((k : ℕ) → k < 512 → b ≡ address z (entry t k) → ⊥) → get_or (taking z s d t) b 0 ≡ get_or (written s linking) b 0
  outside b h =
      ap (λ (r : List ℕ). get_or r b 0) after_linking ∙ fresh_apart z (written s linking) t 512 b h

  -- One of those written, after n that are written later, and one of the others.
  one_written : (n : ℕ) (w : Write) → linking ≡ take n linking ++ w ∷ drop (suc n) linking → Apart w.at (take n linking) → w.at < address z (entry 0 0)
      → get_or (taking z s d t) w.at 0 ≡ w.word
  one_written n w is later low =
      outside w.at (λ k lk same. omega arith)
      ∙ ap (λ (ws : List Write). get_or (written s ws) w.at 0) is
      ∙ read_written s (take n linking) w (drop (suc n) linking) later (omega arith)

  none_written : (b : ℕ) → ((k : ℕ) → k < 512 → b ≡ address z (entry t k) → ⊥) → Apart b linking → get_or (taking z s d t) b 0 ≡ get_or s b 0
  none_written b h apart = outside b h ∙ read_apart s linking b apart

  -- A word before the entries.
  unwritten : (b : ℕ) → b < address z (entry 0 0) → Apart b linking → get_or (taking z s d t) b 0 ≡ get_or s b 0
  unwritten b low apart = none_written b (λ k lk same. omega arith) apart

  pub taken : Taken z s (taking z s d t) d t
  taken =
      record {
        long = ap length after_linking ∙ fresh_length z (written s linking) t 512 ∙ written_length s linking;
        hand_is = one_written 6 to_hand refl (omega (arith, link)) (omega arith);
        owner_is = one_written 5 to_owner refl (omega (arith, link.not_treeling t 0 ht (omega arith) (omega arith))) (omega arith);
        previous_is = one_written 4 to_previous refl (omega (arith, link.not_treeling t 1 ht (omega arith) (omega arith))) (omega arith);
        rank_is = one_written 3 to_rank refl (omega (arith, link.not_treeling t 3 ht (omega arith) (omega arith))) (omega arith);
        former_is = one_written 2 to_former refl (omega (arith, link.not_treeling t 4 ht (omega arith) (omega arith))) (omega arith);
        last_is = one_written 0 to_last refl (omega arith) (omega arith);
        first_is = λ e. ap (λ (b : ℕ). get_or (taking z s d t) b 0) (sym (link_first e)) ∙ linked;
        link_is = λ v e. ap (λ (b : ℕ). get_or (taking z s d t) b 0) (sym (link_next v e)) ∙ linked;
        fresh = λ k lk. ap (λ (r : List ℕ). get z r (entry t k)) after_linking ∙ fresh_in z (written s linking) t 512 k (omega (arith, written_length s linking)) lk;
        same_content = λ i li apart. unwritten (address z (content i)) (omega arith) (omega (arith, link));
        same_domain = λ e j le lj apart. unwritten (address z (domain e j)) (omega arith) (omega (arith, link.not_domain e j le lj apart));
        same_own = λ j lj a b. unwritten (address z (domain d j)) (omega arith) (omega (arith, link.not_own j lj a));
        same_first = λ v e. unwritten (address z (first d)) (omega arith) (omega (arith, link_next v e));
        same_treeling = λ u j lu lj a b. unwritten (address z (treeling u j)) (omega arith) (omega (arith, link.not_treeling u j lu lj b));
        same_next = λ u lu apart. unwritten (address z (next u)) (omega arith) (omega (arith, link.not_next u lu apart));
        same_entry = λ u k lu lk apart. none_written (address z (entry u k)) (λ i li same. omega arith) (omega (arith, link));
        same_leaf = λ f. none_written (address z (leaf f)) (λ k lk same. omega arith) (omega (arith, link));
      }
    where
      linked : get_or (taking z s d t) (address z (link_to z s d)) 0 ≡ suc t
      linked =
          one_written 1 to_link refl (omega (arith, link.not_own 2 (omega arith) (omega arith))) (omega (arith, link))
