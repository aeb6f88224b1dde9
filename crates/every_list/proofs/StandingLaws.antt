-- What stands where: in lists joined, mapped, and joined of parts.
-- Assumes nothing.
use Prim.Native.Nat.{ℕ, zero, suc, ◌+◌, ◌*◌, ◌<◌, ◌≤◌, suc-le-suc}
use mathlib.Core.Path.{◌≡◌, refl, sym, ap, subst, ◌∙◌}
use mathlib.Core.Option.{Option, none, some, some-injective, none-ne-some}
use mathlib.Core.List.{List, [], ◌∷◌, ◌++◌, map, flat_map}
use mathlib.Core.Logic.{◌⊎◌, inl, inr}
use native.Mathlib.Nat.{not-suc-le-zero, le_of_suc-le-suc, zero-add, suc-add, zero-mul, suc-mul}
use native.Mathlib.Omega.{arith}
use lib.ListN.{length, get_or, get_elem?, length-append}
use Rattle.every_list.specs.Standing.{At}

module _ {A : Type 0} where
  pub at_none : (i : ℕ) (x : A) → At [] i x → ⊥
  at_none i x h = none-ne-some x h

  pub at_unique : (xs : List A) (i : ℕ) (x y : A) → At xs i x → At xs i y → x ≡ y
  at_unique xs i x y h k = some-injective x y (sym h ∙ k)

  pub at_get_d : (xs : List A) (i : ℕ) (d : A) → i < length xs → At xs i (get_or xs i d)
  at_get_d [] i d h = absurd (not-suc-le-zero h)
  at_get_d (x ∷ xs) zero d h = refl
  at_get_d (x ∷ xs) (suc i) d h = at_get_d xs i d (le_of_suc-le-suc h)

  pub at_within : (xs : List A) (i : ℕ) (x : A) → At xs i x → i < length xs
  at_within [] i x h = absurd (at_none i x h)
  at_within (a ∷ xs) zero x h = omega arith
  at_within (a ∷ xs) (suc i) x h = suc-le-suc (at_within xs i x h)

  pub at_past : (xs : List A) (i : ℕ) → length xs ≤ i → get_elem? xs i ≡ none
  at_past [] i h = refl
  at_past (x ∷ xs) zero h = absurd (not-suc-le-zero h)
  at_past (x ∷ xs) (suc i) h = at_past xs i (le_of_suc-le-suc h)

  -- ---- joined
  pub at_left : (xs ys : List A) (i : ℕ) (x : A) → At xs i x → At (xs ++ ys) i x
  at_left [] ys i x h = absurd (at_none i x h)
  at_left (a ∷ xs) ys zero x h = h
  at_left (a ∷ xs) ys (suc i) x h = at_left xs ys i x h

  pub at_right : (xs ys : List A) (i : ℕ) (x : A) → At ys i x → At (xs ++ ys) (length xs + i) x
  at_right [] ys i x h = ap (λ (k : ℕ). get_elem? ys k) (zero-add i) ∙ h
  at_right (a ∷ xs) ys i x h = ap (λ (k : ℕ). get_elem? (a ∷ xs ++ ys) k) (suc-add (length xs) i) ∙ at_right xs ys i x h

  -- Where an element of two lists joined stands.
  pub record Right (n : ℕ) (ys : List A) (k : ℕ) (x : A) : Type 0 where
    pub rest : ℕ
    pub place : k ≡ n + rest
    pub held : At ys rest x

  pub at_joined : (xs ys : List A) (k : ℕ) (x : A) → At (xs ++ ys) k x → At xs k x ⊎ Right (length xs) ys k x
  at_joined [] ys k x h = inr (record { rest = k; place = sym (zero-add k); held = h })
  at_joined (a ∷ xs) ys zero x h = inl h
  at_joined (a ∷ xs) ys (suc k) x h = step (at_joined xs ys k x h)
    where
      step : At xs k x ⊎ Right (length xs) ys k x → At xs k x ⊎ Right (suc (length xs)) ys (suc k) x
      step (inl l) = inl l
      step (inr r) =
          inr (record { rest = r.rest; place = ap suc r.place ∙ sym (suc-add (length xs) r.rest); held = r.held })

-- One part of m further.
later_place : (m i j : ℕ) → suc i * m + j ≡ m + (i * m + j)
later_place m i j = rw (suc-mul i m) (omega arith)

-- ---- mapped
module _ {A B : Type 0} where
  pub at_map : (f : A → B) (xs : List A) (i : ℕ) (x : A) → At xs i x → At (map f xs) i (f x)
  at_map f [] i x h = absurd (at_none i x h)
  at_map f (a ∷ xs) zero x h = ap {B = Option B} (λ y. some (f y)) (some-injective a x h)
  at_map f (a ∷ xs) (suc i) x h = at_map f xs i x h

  pub record Mapped (f : A → B) (xs : List A) (i : ℕ) (y : B) : Type 0 where
    pub of : A
    pub image : f of ≡ y
    pub held : At xs i of

  pub at_mapped : (f : A → B) (xs : List A) (i : ℕ) (y : B) → At (map f xs) i y → Mapped f xs i y
  at_mapped f [] i y h = absurd (at_none i y h)
  at_mapped f (a ∷ xs) zero y h = record { of = a; image = some-injective (f a) y h; held = refl }
  at_mapped f (a ∷ xs) (suc i) y h =
      let m = at_mapped f xs i y h in
      record { of = m.of; image = m.image; held = m.held }

  -- ---- parts of m elements each, joined
  pub length_parts : (f : A → List B) (m : ℕ) → ((x : A) → length (f x) ≡ m) → (xs : List A) → length (flat_map f xs) ≡ length xs * m
  unfolding flat_map
  length_parts f m e [] = sym (zero-mul m)
  length_parts f m e (a ∷ xs) =
      length-append (f a) (flat_map f xs) ∙ rw (e a, length_parts f m e xs, suc-mul (length xs) m) (omega arith)

  pub at_part : (f : A → List B) (m : ℕ) → ((x : A) → length (f x) ≡ m)
      → (xs : List A) (i j : ℕ) (x : A) (y : B) → At xs i x → At (f x) j y → At (flat_map f xs) (i * m + j) y
  unfolding flat_map
  at_part f m e [] i j x y h k = absurd (at_none i x h)
  at_part f m e (a ∷ xs) zero j x y h k =
      ap (λ (n : ℕ). get_elem? (f a ++ flat_map f xs) n) (omega arith)
      ∙ at_left (f a) (flat_map f xs) j y (subst (λ z. At (f z) j y) (sym (some-injective a x h)) k)
  at_part f m e (a ∷ xs) (suc i) j x y h k =
      ap (λ (n : ℕ). get_elem? (f a ++ flat_map f xs) n) (later_place m i j ∙ ap (λ (n : ℕ). n + (i * m + j)) (sym (e a)))
      ∙ at_right (f a) (flat_map f xs) (i * m + j) y (at_part f m e xs i j x y h k)

  pub record Parted (f : A → List B) (m : ℕ) (xs : List A) (k : ℕ) (y : B) : Type 0 where
    pub part : ℕ
    pub of : A
    pub rest : ℕ
    pub place : k ≡ part * m + rest
    pub held : At xs part of
    pub within : At (f of) rest y

  pub at_parted : (f : A → List B) (m : ℕ) → ((x : A) → length (f x) ≡ m)
      → (xs : List A) (k : ℕ) (y : B) → At (flat_map f xs) k y → Parted f m xs k y
  unfolding flat_map
  at_parted f m e [] k y h = absurd (at_none k y h)
  at_parted f m e (a ∷ xs) k y h = step (at_joined (f a) (flat_map f xs) k y h) (at_parted f m e xs)
    where
      step : At (f a) k y ⊎ Right (length (f a)) (flat_map f xs) k y → ((k : ℕ) (y : B) → At (flat_map f xs) k y → Parted f m xs k y) → Parted f m (a ∷ xs) k y
      step (inl l) later = record { part = 0; of = a; rest = k; place = omega arith; held = refl; within = l }
      step (inr r) later =
          let p = later r.rest y r.held in
          record {
            part = suc p.part;
            of = p.of;
            rest = p.rest;
            place = r.place ∙ ap (λ (n : ℕ). n + r.rest) (e a) ∙ ap (λ (n : ℕ). m + n) p.place ∙ sym (later_place m p.part p.rest);
            held = p.held;
            within = p.within;
          }
