-- Document 01, demand 3: what a domain is told does not depend on what the others ask, as long as they keep from its frames and there is a place.
-- It goes by what is asked and by deeds alone: a new kind of entry (EntriesApart), a new way to ask (AskedApart) and a new call (CallsApart) leave it as it is.
-- Assumes nothing.
use Prim.Native.Nat.{ℕ, ◌<◌, ◌≤◌}
use mathlib.Core.Path.{◌≡◌, refl, sym, ap, ap₂, subst, ◌∙◌}
use mathlib.Core.List.{List, [], ◌∷◌, map}
use mathlib.Core.Bool.{Bool, true, false, cond, false≢true}
use mathlib.Core.Logic.{inl}
use native.Mathlib.Omega.{arith}
use Rattle.layout.specs.declared.Sizes.{Sizes}
use Rattle.board.specs.Holes.{HolesAllowed, hole_count}
use Rattle.board.specs.NewState.{new_state}
use Rattle.layout.specs.Places.{Allowed, get, leaf}
use Rattle.board.proofs.HoleLaws.{HolesKept}
use Rattle.sound.proofs.NewStateSound.{new_leaf, allowed_few}
use Rattle.histories.specs.Histories.{Carried, JustMade, Entry, Asked, Heard, ours, heard_from, is_own, only, own_in, asks, names_frame, is_mapping, is_compared, Every, NeverNoPlace, Fair, Agree, AllAgree}
use Rattle.histories.specs.Demands.{Isolated}
use Rattle.histories.proofs.View.{View, view_of}
use Rattle.histories.proofs.ViewLaws.{Mine}
use Rattle.histories.proofs.AskedApart.{answered, asked_apart}
use Rattle.histories.proofs.Deeds.{Admitted, Deed, Deeds, no_deed, then}
use Rattle.histories.proofs.EntriesKeep.{made_sound}
use Rattle.histories.proofs.EntriesApart.{all_deeds}

-- ---- What a view machine shows
-- What is compared of a sight.
abbrev compared_of : Asked → List ℕ → List ℕ
compared_of a x = cond (is_compared a) x []

-- The sights of what is asked, one after the other, from a view on; o are words with the holes.
unfoldable sights : Sizes → List ℕ → View → List Asked → List (List ℕ)
sights z o v [] = []
sights z o v (a ∷ more) =
    let l = (asked_apart a).looks z o v in
    compared_of a l.sight ∷ sights z o l.view more

-- What is compared of an answer that was heard.
abbrev sight_of : Heard → List ℕ
sight_of h = compared_of h.asked ((asked_apart h.asked).sees h.answer)

-- ---- One history
-- N are the frames that domain d names. What it asks names no others, and its answers are admitted; the others' mappings name none of them.
record FairAt (d : ℕ) (N : ℕ → Type 0) (h : Heard) : Type 0 where
  own : is_own d h.asked ≡ true → (g : ℕ) → names_frame h.asked g ≡ true → N g
  never : is_own d h.asked ≡ true → Admitted h
  other : is_own d h.asked ≡ false → is_mapping h.asked ≡ true → (g : ℕ) → names_frame h.asked g ≡ true → N g → ⊥

-- A sight is compared or not.
compared_same : (b : Bool) (x y : List ℕ) → (b ≡ true → x ≡ y) → cond b x [] ≡ cond b y []
compared_same true x y same = same refl
compared_same false x y same = refl

module _ (z : Sizes) (o : List ℕ) (most : hole_count o ≤ 8) (d : ℕ) (below : d < z.domains) (N : ℕ → Type 0) where
  -- In words s they are unmapped or the domain's own.
  abbrev Kept : List ℕ → Type 0
  Kept s = (g : ℕ) → g < z.frames → N g → Mine z s d g

  -- What the domain is told from words s on is what the view machine shows it.
  abbrev Told : List ℕ → List Heard → Type 0
  Told s hs = map sight_of (own_in d hs) ≡ sights z o (view_of z s d) (asks d hs)

  -- A fair deed is told as it should be, the domain's own and another's.
  told : (s r : List ℕ) (h : Heard) (hs : List Heard) → Deed z s h r → HolesKept o s → FairAt d N h → Kept s → Told r hs → Told s (h ∷ hs)
  unfolding only sights
  told s r h hs deed holes fair kept later = go (is_own d h.asked) refl
    where
      from : (v : View) → view_of z r d ≡ v → map sight_of (own_in d hs) ≡ sights z o v (asks d hs)
      from v is = later ∙ ap (λ (w : View). sights z o w (asks d hs)) is

      go : (b : Bool) → is_own d h.asked ≡ b
          → map sight_of (cond b (h ∷ own_in d hs) (own_in d hs)) ≡ sights z o (view_of z s d) (map (λ (x : Heard). x.asked) (cond b (h ∷ own_in d hs) (own_in d hs)))
      go true own =
          let shown = deed.own o holes most d below own (λ g l named. kept g l (fair.own own g named)) (fair.never own) in
          let l = (asked_apart h.asked).looks z o (view_of z s d) in
          ap₂ ◌∷◌ (compared_same (is_compared h.asked) ((asked_apart h.asked).sees h.answer) l.sight shown.0) (from l.view shown.1)
      go false other = from (view_of z s d) (deed.others d below other)

  -- A chain of them.
  all_told : {s r : List ℕ} {hs : List Heard} → Deeds z s hs r → HolesKept o s → Every (FairAt d N) hs → Kept s → Told s hs
  unfolding only sights
  all_told no_deed holes fair kept = refl
  all_told (then {s} {r} {q} {h} {hs} deed rest) holes fair kept =
      told s r h hs deed holes fair.0 kept
      (all_told rest (λ j low high. deed.holes j low high ∙ holes j low high) fair.1
      (λ g l named. deed.mine d g below l (λ other maps names. fair.0.other other maps g names named) (kept g l named)))

-- ---- A history that keeps apart
-- The frames that no mapping of the others names.
abbrev Free : ℕ → List Heard → ℕ → Type 0
Free d hs g = Every (λ other. is_own d other.asked ≡ false → is_mapping other.asked ≡ true → names_frame other.asked g ≡ false) hs

-- An own answer of the list is one of the own answers.
never_head : (d : ℕ) (h : Heard) (hs : List Heard) → NeverNoPlace d (h ∷ hs) → (is_own d h.asked ≡ true → Admitted h) × NeverNoPlace d hs
unfolding only
never_head d h hs = go (is_own d h.asked)
  where
    go : (b : Bool) → Every Admitted (cond b (h ∷ own_in d hs) (own_in d hs)) → (b ≡ true → Admitted h) × NeverNoPlace d hs
    go true w = (λ _. w.0, w.1)
    go false w = (λ e. absurd (false≢true e), w)

-- A mapping of another in the list names none of these frames.
free_head : (d : ℕ) (h : Heard) (hs : List Heard) (g : ℕ) → Free d (h ∷ hs) g → is_own d h.asked ≡ false → is_mapping h.asked ≡ true → names_frame h.asked g ≡ true → ⊥
free_head d h hs g free other maps named = false≢true (sym (free.0 other maps) ∙ named)

-- Each deed is fair where each own one names free frames.
fair_from : (d : ℕ) (N : ℕ → Type 0) (hs : List Heard) → NeverNoPlace d hs
    → Every (λ own. is_own d own.asked ≡ true → (g : ℕ) → names_frame own.asked g ≡ true → N g) hs
    → ((g : ℕ) → N g → Free d hs g) → Every (FairAt d N) hs
fair_from d N [] never own free = tt
fair_from d N (h ∷ hs) never own free =
    let p = never_head d h hs never in (
      record {
        own = own.0;
        never = p.0;
        other = λ is m g named o. free_head d h hs g (free g o) is m named;
      },
      fair_from d N hs p.1 own.1 (λ g o. (free g o).1),
    )

-- So what the domain is told from a new state on is what the view machine shows it.
history_told : (z : Sizes) → Allowed z → (holes : List ℕ) → HolesAllowed z holes → (d : ℕ) → d < z.domains → (w : Carried) → JustMade z holes w → (es : List Entry) → Fair d (heard_from ours w es)
    → map sight_of (own_in d (heard_from ours w es)) ≡ sights z (new_state z holes) (view_of z (new_state z holes) d) (asks d (heard_from ours w es))
history_told z a holes k d below w made es fair =
    let hs = heard_from ours w es in
    let h = made_sound z a holes k w made in
    subst (λ (o : List ℕ). map sight_of (own_in d hs) ≡ sights z o (view_of z o d) (asks d hs)) made
    (all_told z w.state h.laid_out.holes_fit_lem.at_most d below (Free d hs) (all_deeds z w h es) (λ j _ _. refl)
    (fair_from d (Free d hs) hs fair.never_no_place fair.apart (λ g free. free))
    (λ g l named. inl (ap (λ (s : List ℕ). get z s (leaf g)) made ∙ new_leaf z holes (allowed_few z holes k) g)))

-- ---- Two histories
-- Answers to the same question, seen the same, agree.
agree_seen : (g h : Heard) → g.asked ≡ h.asked → sight_of g ≡ sight_of h → is_compared g.asked ≡ true → Agree g h
agree_seen g h same seen_same is =
    subst (λ (a : Asked). sight_of g ≡ sight_of (answered a h.answer) → Agree g (answered a h.answer)) same
    (λ e. (asked_apart g.asked).agrees g.answer h.answer (rw is at e)) seen_same

-- The same questions, seen the same: all answers agree.
all_agree : (gs hs : List Heard) → map (λ (x : Heard). x.asked) gs ≡ map (λ (x : Heard). x.asked) hs → map sight_of gs ≡ map sight_of hs → AllAgree gs hs
all_agree [] [] asked same = tt
all_agree [] (h ∷ hs) asked same = let no : ◌≡◌ {A = ℕ} 0 1 = cc in absurd (omega arith)
all_agree (g ∷ gs) [] asked same = let no : ◌≡◌ {A = ℕ} 0 1 = cc in absurd (omega arith)
all_agree (g ∷ gs) (h ∷ hs) asked same = (agree_seen g h (cc) (cc), all_agree gs hs (cc) (cc))

-- ---- Demand 3
pub isolation : Isolated ours
isolation z a holes k d below v w made_v made_w g h same p q =
    all_agree (own_in d (heard_from ours v g)) (own_in d (heard_from ours w h)) same
    (history_told z a holes k d below v made_v g p ∙ ap (sights z (new_state z holes) (view_of z (new_state z holes) d)) same ∙ sym (history_told z a holes k d below w made_w h q))
