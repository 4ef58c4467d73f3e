-- The word of one face when it is visited, and what the words say then. Assumes nothing.
use mathlib.Core.Path.{◌≡◌, refl, sym, ap, subst, ◌∙◌}
use mathlib.Core.Logic.{◌⊎◌, inl, inr, ⊎_elim}
use mathlib.Core.Bool.{Bool, true, false, cond}
use mathlib.Core.List.{List, map}
use Prim.Native.Nat.{ℕ, ◌+◌, ◌*◌, ◌/◌, ◌%◌, ◌≤◌, ◌<◌}
use native.Mathlib.Omega.{arith}
use native.Mathlib.Decide.{ℕ_discrete}
use borrow.Author.Tests.{eq-eqb, ne_eqb}
use lib.Dec.{T, eqb}
use lib.ListN.{length, get_or, set, length-set}
use lib.Seq.{get_or-set_same, get_or-set_other}
use Rattle.rules.specs.Lists.{below, count}
use Rattle.rules.specs.Mesh.{Face, face, faces_of, exchanged}
use Rattle.rule_laws.proofs.Rising.{All, all_imp}
use Rattle.orienting.proofs.Reached.{not_both}
use Rattle.face_words.specs.Words.{stands, straight, view, there, viewed, place}
use Rattle.face_words.proofs.Places.{viewed_face}
use Rattle.searched_walk.specs.Walking.{seen, chain, Visited, Kept}
use Rattle.searched_walk.proofs.Setting.{map_there_set, chain_same}

-- one or none
pub more_most : (b : Bool) {x : ℕ} → x ≡ cond b 0 1 → x ≤ 1
more_most true e = omega arith
more_most false e = omega arith

-- ---- frames

pub kept_none : (w : List ℕ) → Kept w w
kept_none w = record { long = refl; stays = refl }

pub kept_both : {w w₁ w₂ : List ℕ} → Kept w w₁ → Kept w₁ w₂ → Kept w w₂
kept_both k l = record { long = l.long ∙ k.long; stays = l.stays ∙ k.stays }

module _ {w w' : List ℕ} (k : Kept w w') where
  -- the places are the same
  pub place_kept : (f : ℕ) → place w' f ≡ place w f
  place_kept f = ap (λ (p : ℕ → Bool). count p (below f)) k.stays

  -- and how many there are
  pub number_kept : place w' (length w') ≡ place w (length w)
  number_kept = rw k.long (place_kept (length w))

  pub up_kept : (f : ℕ) → T (stands w f) → T (stands w' f)
  up_kept f t = subst T (sym (ap (λ (p : ℕ → Bool). p f) k.stays)) t

-- ---- one face is visited

-- face g is visited now, exchanged unless it agrees, with the link to the face below; all other words are as they were
pub record Noted (xs w : List ℕ) (g : ℕ) (agrees : Bool) (link : ℕ) (w' : List ℕ) : Type 0 where
  pub kept : Kept w w'
  pub same : (f : ℕ) → (f ≡ g → ⊥) → get_or w' f 0 ≡ get_or w f 0
  pub seen_now : seen w' g ≡ true
  pub link_now : get_or w' g 0 / 256 ≡ link
  pub faces : viewed xs w' ≡ cond agrees (viewed xs w) (set (viewed xs w) (place w g) (exchanged (face (viewed xs w) (place w g))))
  pub visited : map (seen w') (there w' (length w')) ≡ set (map (seen w) (there w (length w))) (place w g) true

module _ (xs w : List ℕ) (g : ℕ) (here : g < length w) (up : T (stands w g)) (low : get_or w g 0 < 2) (agrees : Bool) (turn : ℕ) (et : turn ≡ cond agrees 0 2) (link : ℕ) where
  -- its word then
  abbrev word : ℕ
  word = get_or w g 0 + 8 + turn + 256 * link

  abbrev w' : List ℕ
  w' = set w g word

  two : (turn ≡ 0) ⊎ (turn ≡ 2)
  two = go agrees et
    where
      go : (q : Bool) → turn ≡ cond q 0 2 → (turn ≡ 0) ⊎ (turn ≡ 2)
      go true e = inl e
      go false e = inr e

  same_word : (f : ℕ) → (f ≡ g → ⊥) → get_or w' f 0 ≡ get_or w f 0
  same_word f n = get_or-set_other w g f word 0 n

  at : get_or w' g 0 ≡ word
  at = get_or-set_same w g word 0 here

  seen_other : (f : ℕ) → (f ≡ g → ⊥) → seen w' f ≡ seen w f
  unfolding seen
  seen_other f n = ap (λ x. eqb (x / 8 % 2) 1) (same_word f n)

  seen_here : seen w' g ≡ true
  unfolding seen
  seen_here = ap (λ x. eqb (x / 8 % 2) 1) at ∙ eq-eqb (word / 8 % 2) 1 (⊎_elim (λ z. omega arith) (λ z. omega arith) two)

  link_here : get_or w' g 0 / 256 ≡ link
  link_here = ap (λ x. x / 256) at ∙ ⊎_elim (λ z. omega arith) (λ z. omega arith) two

  stands_same : stands w' ≡ stands w
  unfolding stands
  stands_same = λ i f. go f (ℕ_discrete f g) i
    where
      go : (f : ℕ) → Dec (f ≡ g) → eqb (get_or w' f 0 % 2) 0 ≡ eqb (get_or w f 0 % 2) 0
      go f (yes z) =
          let o : word % 2 ≡ get_or w g 0 % 2 = ⊎_elim (λ y. omega arith) (λ y. omega arith) two in
          rw z (ap (λ x. eqb (x % 2) 0) at ∙ ap (λ x. eqb x 0) o)
      go f (no n) = ap (λ x. eqb (x % 2) 0) (same_word f n)

  straight_other : (f : ℕ) → (f ≡ g → ⊥) → straight w' f ≡ straight w f
  unfolding straight
  straight_other f n = ap (λ x. eqb (x / 2 % 2) 0) (same_word f n)

  straight_before : straight w g ≡ true
  unfolding straight
  straight_before = eq-eqb (get_or w g 0 / 2 % 2) 0 (omega arith)

  straight_now : straight w' g ≡ agrees
  unfolding straight
  straight_now = ap (λ x. eqb (x / 2 % 2) 0) at ∙ go agrees et
    where
      go : (q : Bool) → turn ≡ cond q 0 2 → eqb (word / 2 % 2) 0 ≡ q
      go true z = eq-eqb (word / 2 % 2) 0 (omega arith)
      go false z = ne_eqb (word / 2 % 2) 0 (λ y. absurd (omega arith))

  view_other : (f : ℕ) → (f ≡ g → ⊥) → view xs w' f ≡ view xs w f
  unfolding view
  view_other f n = ap (λ q. cond q (face (faces_of xs) f) (exchanged (face (faces_of xs) f))) (straight_other f n)

  view_now : view xs w' g ≡ cond agrees (view xs w g) (exchanged (view xs w g))
  unfolding view
  view_now = rw (straight_now, straight_before)

  -- the list
  faces_now : viewed xs w' ≡ cond agrees (viewed xs w) (set (viewed xs w) (place w g) (exchanged (face (viewed xs w) (place w g))))
  faces_now = rw (stands_same, length-set w g word) (go agrees refl)
    where
      go : (q : Bool) → agrees ≡ q → map (view xs w') (there w (length w)) ≡ cond q (viewed xs w) (set (viewed xs w) (place w g) (exchanged (face (viewed xs w) (place w g))))
      go true z = ap (λ (u : ℕ → Face). map u (there w (length w))) (λ i f. one f (ℕ_discrete f g) i)
        where
          one : (f : ℕ) → Dec (f ≡ g) → view xs w' f ≡ view xs w f
          one f (yes y) = rw y (view_now ∙ ap (λ c. cond c (view xs w g) (exchanged (view xs w g))) z)
          one f (no n) = view_other f n
      go false z =
          map_there_set w (view xs w) (view xs w') g up view_other (length w) here
          ∙ ap (set (viewed xs w) (place w g)) (view_now ∙ ap (λ c. cond c (view xs w g) (exchanged (view xs w g))) z ∙ ap exchanged (sym (viewed_face xs w g here up)))

  -- who is visited
  visited_now : map (seen w') (there w' (length w')) ≡ set (map (seen w) (there w (length w))) (place w g) true
  visited_now =
      rw (stands_same, length-set w g word)
      (map_there_set w (seen w) (seen w') g up seen_other (length w) here ∙ ap (set (map (seen w) (there w (length w))) (place w g)) seen_here)

  pub noted : Noted xs w g agrees link w'
  noted =
      record {
        kept = record { long = length-set w g word; stays = stands_same };
        same = same_word;
        seen_now = seen_here;
        link_now = link_here;
        faces = faces_now;
        visited = visited_now;
      }

-- ---- what stays as it was

module _ {xs w : List ℕ} {g : ℕ} {agrees : Bool} {link : ℕ} {w' : List ℕ} (n : Noted xs w g agrees link w') where
  seen_same : (f : ℕ) → (f ≡ g → ⊥) → seen w' f ≡ seen w f
  unfolding seen
  seen_same f k = ap (λ x. eqb (x / 8 % 2) 1) (n.same f k)

  -- unvisited faces have at most bit 0
  pub noted_fresh : ((f : ℕ) → f < length w → seen w f ≡ false → get_or w f 0 < 2) → (f : ℕ) → f < length w' → seen w' f ≡ false → get_or w' f 0 < 2
  noted_fresh fresh f l z = go (ℕ_discrete f g)
    where
      go : Dec (f ≡ g) → get_or w' f 0 < 2
      go (yes y) = absurd (not_both n.seen_now (rw y at z))
      go (no k) = rw (n.same f k) (fresh f (let q = n.kept.long in omega arith) (sym (seen_same f k) ∙ z))

  -- links are faces
  pub noted_links : link ≤ length w → ((f : ℕ) → f < length w → get_or w f 0 / 256 ≤ length w) → (f : ℕ) → f < length w' → get_or w' f 0 / 256 ≤ length w'
  noted_links h links f l = go (ℕ_discrete f g)
    where
      go : Dec (f ≡ g) → get_or w' f 0 / 256 ≤ length w'
      go (yes y) = rw (y, n.link_now, n.kept.long) h
      go (no k) = rw (n.same f k, n.kept.long) (links f (let q = n.kept.long in omega arith))

  -- the face that is visited
  pub noted_here : g < length w → T (stands w g) → Visited w' g
  noted_here h t = (rw n.kept.long h, up_kept n.kept g t, n.seen_now)

  module _ (new : seen w g ≡ false) where
    apart : (f : ℕ) → Visited w f → f ≡ g → ⊥
    apart f v z = not_both (rw z at v.2) new

    -- those that are visited still are
    pub noted_still : (fs : List ℕ) → All (Visited w) fs → All (Visited w') fs
    noted_still fs a = all_imp (Visited w) (Visited w') (λ f v. (rw n.kept.long v.0, up_kept n.kept f v.1, seen_same f (apart f v) ∙ v.2)) fs a

    -- and are on the stack in their order
    pub noted_chain : (k h : ℕ) → All (Visited w) (chain w k h) → chain w' k h ≡ chain w k h
    noted_chain k h a = chain_same w w' g n.same k h (all_imp (Visited w) (λ f. f ≡ g → ⊥) apart (chain w k h) a)
